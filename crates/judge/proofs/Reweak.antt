-- Commands on weak slots and watched cells: the judge stands for the world after them.
use Rattle.std.proofs.Common.{◌≡◌, ◌↔◌, ◌∙◌, inl, inr, ℕ, Bool, true, false, List, [], Option, Some, None}
use Rattle.std.proofs.Common.{refl, sym, ap, subst, not, ◌&&◌, cond}
use Rattle.std.specs.Prelude.{slice_set}
use Rattle.std.specs.FinSet as set
use Rattle.std.specs.Ordering.{eq_by_cmp}
use Rattle.gz_names.specs.Order.{name_cmp, names_total}
use Rattle.gz_names.specs.declared.names.Name.{Name}
use Rattle.gz_names.specs.declared.commands.WeakCmd.TheVariants as cmd
use Rattle.gz_names.specs.declared.replies.Reply.{Reply}
use Rattle.gz_names.specs.declared.replies.Reply.TheVariants as reply
use Rattle.colour_defs.specs.Graph.{GraphState, register_cell}
use Rattle.colour_defs.specs.WeakRefs.{WeakInWorld, unwatch_cell, watch_cell, without_watched}
use Rattle.colour_defs.specs.World.{Has, Names, WeakNames, World}
use Rattle.colour_defs.proofs.Names.{eq_name-is, eq_name-refl}
use Rattle.colour_defs.proofs.ValidCommands.{in_insert, insert_has}
use Rattle.trace_lang.specs.Texts.{reply_text}
use Rattle.judge.specs.Replies.{AsksUnwatch, AsksWatch, AsksWeak, Due, reply as reply_due}
use Rattle.judge.specs.Represents.{IsAtStage, Represents}
use Rattle.judge.specs.Stages.{Shown, Stage, collecting, idle, preparing}
use Rattle.judge.specs.Weak.{IsWatched, Unwatches, Watches, is_watched}
use Rattle.judge.specs.declared.weak.WeakNames.{WeakNames as Weak}
use Rattle.judge.proofs.Waking.{inserted}
use Rattle.judge.proofs.Watching.{same_or_not}

stage_beside : (t : Stage) (s : Shown) (w : World) (mine : Weak) (told : List Name) (theirs : WeakNames)
    → IsAtStage t s w → IsAtStage t (record s { weak = mine; told = told }) (record w { weak = theirs })
stage_beside idle s w mine told theirs at = record {
  idle = record { none_running = at.idle.none_running; none_preparing = at.idle.none_preparing };
  none_out = at.none_out;
}
stage_beside (preparing zones) s w mine told theirs at = record {
  preparation = at.preparation;
  preparing_is = at.preparing_is;
  alone = at.alone;
  small = at.small;
  zones_are = at.zones_are;
  arenas_are = at.arenas_are;
  spent_is = at.spent_is;
  none_out = at.none_out;
  black_are = at.black_are;
}
stage_beside (collecting zones marking groups) s w mine told theirs at = record {
  collection = at.collection;
  collection_is = at.collection_is;
  alone = at.alone;
  small = at.small;
  zones_are = at.zones_are;
  marking_are = at.marking_are;
  groups_are = at.groups_are;
  tally_is = at.tally_is;
  none_out = at.none_out;
  found = λ has. let f = at.found has in (
    f.0,
    record {
      walks_are = f.1.walks_are;
      former_is = f.1.former_is;
      black_are = f.1.black_are;
      live_are = f.1.live_are;
    },
  );
  first = at.first;
}

-- weak names, and the watched cells that wait for a line, change alone
represents_reweak : (g : GraphState) (old new : Shown) (w v : World) (mine : Weak) (told : List Name)
    (theirs : WeakNames) → Represents g old w → new ≡ record old { weak = mine; told = told }
    → v ≡ record w { weak = theirs } → theirs.slots ≡ mine.slots
    → ((x : Name) → Has theirs.watched x ↔ IsWatched mine x) → Represents g new v
represents_reweak g old new w v mine told theirs stands e f slots watched =
    subst (λ s. Represents g s v) (sym e)
    (subst (λ z. Represents g (record old { weak = mine; told = told }) z) (sym f) (record {
      graph_is = stands.graph_is;
      places_are = stands.places_are;
      owners_are = stands.owners_are;
      out_are = stands.out_are;
      white_are = stands.white_are;
      slots_are = slots;
      watched_are = watched;
      black_are = λ still. let b = stands.black_are still in record { within = b.within; names_are = b.names_are };
      stage_is = stage_beside old.stage old w mine told theirs stands.stage_is;
    }))

-- the line that tells watched cells
pub represents_told : (g : GraphState) (old new : Shown) (w : World) → Represents g old w
    → new ≡ record old { told = [] } → Represents g new w
represents_told g old new w stands e =
    represents_reweak g old new w w old.weak [] w.weak stands e refl stands.slots_are stands.watched_are

pub represents_weaken : (q r : ℕ) (a : Reply) (due : Due) (old new : Shown) (w v : World) → Represents w.graph old w
    → AsksWeak w.graph old (cmd.Weaken q r) due new → WeakInWorld w (cmd.Weaken q r) a v → Represents w.graph new v
represents_weaken q r a due old new w v stands asks lawful =
    represents_reweak w.graph old new w v _ old.told _ stands asks.1 lawful.1
    (ap (λ slots. slice_set slots q (register_cell w.graph r)) stands.slots_are) stands.watched_are

-- a cell is watched, or is watched no longer
watched_now : (w : World) (old new : Weak) (x : Name) → ((y : Name) → Has w.weak.watched y ↔ IsWatched old y)
    → Watches old x new → (y : Name) → Has (set.insert w.weak.watched x) y ↔ IsWatched new y
watched_now w old new x same watches y = elim (same_or_not x y) [
  | inl e ↦ (
    λ h. subst (λ z. IsWatched new z) e watches.here,
    λ h. subst (λ z. Has (set.insert w.weak.watched x) z) e (insert_has w.weak.watched x),
  )
  | inr other ↦ (
    λ h. elim (inserted w.weak.watched x y h) [
      | inl e ↦ absurd (other (sym e))
      | inr b ↦ watches.others y other ∙ (same y).0 b
    ],
    λ h. in_insert w.weak.watched x y ((same y).1 (sym (watches.others y other) ∙ h)),
  )
]

watched_less : (w : World) (old new : Weak) (x : Name) → ((y : Name) → Has w.weak.watched y ↔ IsWatched old y)
    → Unwatches old x new → (y : Name) → Has (set.remove w.weak.watched x) y ↔ IsWatched new y
watched_less w old new x same less y = elim (same_or_not x y) [
  | inl e ↦ (
    λ h. absurd (let gone = removed_here w.weak.watched y in
        let there = subst (λ z. Has (set.remove w.weak.watched z) y) e h in cc (gone, there)),
    λ h. absurd (let gone = subst (λ z. is_watched new z ≡ false) e less.here in cc (gone, h)),
  )
  | inr other ↦ (
    λ h. less.others y other ∙ (same y).0 (sym (removed_beside w.weak.watched x y other) ∙ h),
    λ h. removed_beside w.weak.watched x y other ∙ (same y).1 (sym (less.others y other) ∙ h),
  )
]
  where
    removed_here : (s : Names) (z : Name) → set.contains (set.remove s z) z ≡ false
    removed_here s z = set.contains-remove names_total s z z
        ∙ ap (λ b. not b && set.contains s z) (eq_name-refl z)

    removed_beside : (s : Names) (a b : Name) → (a ≡ b → ⊥) → set.contains (set.remove s a) b ≡ set.contains s b
    removed_beside s a b other = set.contains-remove names_total s a b ∙ go (eq_by_cmp name_cmp b a) refl
      where
        go : (t : Bool) → eq_by_cmp name_cmp b a ≡ t → (not t && set.contains s b) ≡ set.contains s b
        go true e = absurd (other (sym (eq_name-is b a e)))
        go false e = refl

pub represents_watch : (x : Option Name) (due : Due) (old new : Shown) (w v : World) → Represents w.graph old w
    → AsksWatch x old due new → v ≡ (watch_cell w x).0
    → Represents w.graph new v × (due ≡ reply_due (reply_text (watch_cell w x).1))
represents_watch None due old new w v stands asks e =
    (subst (λ s. Represents w.graph s v) (sym asks.1) (subst (λ z. Represents w.graph old z) (sym e) stands), asks.0)
represents_watch (Some x) due old new w v stands asks e = (
  represents_reweak w.graph old new w v new.weak old.told _ stands asks.1 e (stands.slots_are ∙ sym asks.2.slots_are)
      (watched_now w old.weak new.weak x stands.watched_are asks.2),
  asks.0,
)

pub represents_unwatch : (x : Option Name) (due : Due) (old new : Shown) (w v : World) → Represents w.graph old w
    → AsksUnwatch x old due new → v ≡ (unwatch_cell w x).0
    → Represents w.graph new v × (due ≡ reply_due (reply_text (unwatch_cell w x).1))
represents_unwatch None due old new w v stands asks e =
    (subst (λ s. Represents w.graph s v) (sym asks.1) (subst (λ z. Represents w.graph old z) (sym e) stands), asks.0)
represents_unwatch (Some x) due old new w v stands asks e = go (set.contains w.weak.watched x) refl asks e
  where
    go : (b : Bool) → set.contains w.weak.watched x ≡ b → AsksUnwatch (Some x) old due new
        → v ≡ (cond {A = World × Reply} b (without_watched w x, reply.Accepted) (w, reply.Absent)).0
        → Represents w.graph new v × (due ≡ reply_due (reply_text
        (cond {A = World × Reply} b (without_watched w x, reply.Accepted) (w, reply.Absent)).1))
    go true b (inl (was, d, same)) f = absurd (let seen = (stands.watched_are x).0 b in cc (seen, was))
    go true b (inr (was, d, same, less)) f = (
      represents_reweak w.graph old new w v new.weak old.told _ stands same f (stands.slots_are ∙ sym less.slots_are)
          (watched_less w old.weak new.weak x stands.watched_are less),
      d,
    )
    go false b (inl (was, d, same)) f =
        (subst (λ s. Represents w.graph s v) (sym same) (subst (λ z. Represents w.graph old z) (sym f) stands), d)
    go false b (inr (was, d, same, less)) f = absurd (let seen = (stands.watched_are x).1 was in cc (seen, b))
