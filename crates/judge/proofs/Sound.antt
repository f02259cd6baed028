-- What is shown stays sound, line by line.
use Rattle.std.proofs.Common.{◌≡◌, ◌⊎◌, ◌∙◌, inl, inr, ℕ, Bool, true, false, List, [], ◌∷◌, ◌++◌, Option, Some, None}
use Rattle.std.proofs.Common.{refl, sym, ap, subst}
use Rattle.gz_names.specs.declared.names.Name.{Name}
use Rattle.gz_names.specs.declared.zone_sets.ZoneSet.{ZoneSet}
use Rattle.gz_names.specs.declared.commands.Cmd.{Cmd}
use Rattle.gz_names.specs.declared.commands.Cmd.TheVariants as command
use Rattle.gz_names.specs.declared.commands.WeakCmd.{WeakCmd}
use Rattle.gz_names.specs.declared.commands.WeakCmd.TheVariants as weak_command
use Rattle.gz_names.specs.declared.replies.Report.{Report}
use Rattle.gz_names.specs.declared.replies.Report.TheVariants as report
use Rattle.colour_defs.specs.Graph.{GraphState, empty_graph, register_cell}
use Rattle.plain_graph.specs.Reach.{WalkState}
use Rattle.judge.specs.Cells.{wakes, wakes_also}
use Rattle.judge.specs.Former.{IsFormer, Releases, changed}
use Rattle.judge.specs.Replies.{Asks, AsksCompact, AsksUnwatch, AsksWatch, AsksWeak, graph_after_weak}
use Rattle.judge.specs.Replies.{Begins, Due, IsAnswered, IsLast, Steps, graph_after, dump, nothing, reply}
use Rattle.judge.specs.Replies.{resets, units}
use Rattle.judge.specs.Sound.{IsSound, IsWalked}
use Rattle.judge.specs.Stages.{EndsGroup, Forms, HasGroups, IsFirst, IsReported, IsReportedLine, IsResetReport}
use Rattle.judge.specs.Stages.{Changes, Shown, Stage, Starts, Sweeps, WakesAny, collecting, idle, preparing}
use Rattle.judge.specs.Walks.{CatchUp, CatchesUp, Walks}
use Rattle.judge.specs.Weak.{weak_slot}
use Rattle.judge.specs.declared.former.Change.{Change}
use Rattle.judge.specs.declared.former.Change.TheVariants as change
use Rattle.judge.specs.declared.weak.WeakNames.{WeakNames}
use Rattle.judge.proofs.Formers.{former_is}

pub sound_first : (s : Shown) → IsFirst s → IsSound empty_graph s
sound_first s first = record {
  former = first.former;
  none_kept = λ e. first.taken;
  none_yet = λ zones e. first.taken;
  walks = λ w e left. absurd (cc (e, first.none_found));
}

sound_same : (g : GraphState) (old new : Shown) → new ≡ old → IsSound g old → IsSound g new
sound_same g old new e is = subst (IsSound g) (sym e) is

-- a command on the graph
pub walks_before : (s : Stage) (x : Option Name) (old new : Option Walks) (w : Walks) → WakesAny s x old new
    → new ≡ Some w
    → (v : Walks) × (old ≡ Some v) × (w.black ≡ v.black) × (w.live ≡ v.live)
walks_before s None old new w same e = (w, sym same ∙ e, refl, refl)
walks_before s (Some x) None new w gone e = absurd (cc (e, gone))
walks_before s (Some x) (Some v) new w (after, is, woken) e =
    let same : w ≡ after = cc (e, is) in (
      v,
      refl,
      ap (λ (z : Walks). z.black) (same ∙ woken.rest),
      ap (λ (z : Walks). z.live) (same ∙ woken.rest),
    )

walked_as : (g h : GraphState) (v w : WalkState) → h ≡ g → w ≡ v → IsWalked g v → IsWalked h w
walked_as g h v w e f is = subst (λ k. IsWalked k w) (sym e) (subst (IsWalked g) (sym f) is)

sound_changes : (k : Change) (g : GraphState) (x also : Option Name) (old new : Shown)
    → Changes k (changed g k) x also old new → IsSound g old → IsSound (changed g k) new
sound_changes k g x also old new o is =
    let stage = o.stage_is in record {
      former = o.takes.former g is.former;
      none_kept = λ e. o.takes.kept_is ∙ is.none_kept (sym stage ∙ e);
      none_yet = λ zones e. o.takes.kept_is ∙ is.none_yet zones (sym stage ∙ e);
      walks = λ w e left.
          let b = walks_before old.stage _ old.walks new.walks w o.walks e in
          let f = is.walks b.0 b.1 (subst HasGroups stage left) in
          let graph : new.former.graph ≡ old.former.graph = o.takes.graph_is f.kept in record {
            kept = o.takes.kept_is ∙ f.kept;
            black = walked_as old.former.graph new.former.graph b.0.black w.black graph b.2 f.black;
            live = walked_as old.former.graph new.former.graph b.0.live w.live graph b.3 f.live;
          };
    }

-- weak names, and the watched cells that wait for a line, change alone
sound_beside : (g : GraphState) (old new : Shown) (weak : WeakNames) (told : List Name)
    → new ≡ record old { weak = weak; told = told } → IsSound g old → IsSound g new
sound_beside g old new weak told same is = subst (IsSound g) (sym same)
    (record {
      former = is.former;
      none_kept = is.none_kept;
      none_yet = is.none_yet;
      walks = λ w e left.
          let f = is.walks w e left in record { kept = f.kept; black = f.black; live = f.live };
    })

sound_watch : (g : GraphState) (x : Option Name) (due : Due) (old new : Shown) → AsksWatch x old due new → IsSound g old
    → IsSound g new
sound_watch g None due old new (d, same) is = sound_same g old new same is
sound_watch g (Some x) due old new (d, same, w) is = sound_beside g old new new.weak old.told same is

sound_unwatch : (g : GraphState) (x : Option Name) (due : Due) (old new : Shown) → AsksUnwatch x old due new
    → IsSound g old → IsSound g new
sound_unwatch g None due old new (d, same) is = sound_same g old new same is
sound_unwatch g (Some x) due old new (inl (was, d, same)) is = sound_same g old new same is
sound_unwatch g (Some x) due old new (inr (was, d, same, w)) is = sound_beside g old new new.weak old.told same is

sound_weak : (g : GraphState) (c : WeakCmd) (due : Due) (old new : Shown) → AsksWeak g old c due new → IsSound g old
    → IsSound (graph_after_weak g old c) new
sound_weak g (weak_command.Weaken q r) due old new (d, same) is = sound_beside g old new _ old.told same is
sound_weak g (weak_command.Deref r q) due old new (d, taken) is =
    sound_changes (change.Take r (weak_slot old.weak q)) g _ _ old new taken.changes is
sound_weak g (weak_command.Watch r) due old new asked is = sound_watch g (register_cell g r) due old new asked is
sound_weak g (weak_command.Unwatch r) due old new asked is = sound_unwatch g (register_cell g r) due old new asked is

-- a collection begins, or is refused
sound_begins : (g : GraphState) (zones : ZoneSet) (begun due : Due) (old new : Shown) → Begins g zones begun old due new
    → IsSound g old → IsSound g new
sound_begins g zones begun due old new (inl (why, refused, d, same)) is = sound_same g old new same is
sound_begins g zones begun due old new (inr (idle_is, made, d, left, same)) is =
    subst (IsSound g) (sym same) (record {
      former = is.former;
      none_kept = λ e. is.none_kept idle_is;
      none_yet = λ z e. is.none_kept idle_is;
      walks = λ w e left. absurd (cc e);
    })

-- cells move, and arenas are given up
sound_compact : (g : GraphState) (zone : ℕ) (due : Due) (old new : Shown) → AsksCompact g zone old due new
    → IsSound g old → IsSound g new
sound_compact g zone due old new (inl (why, refused, d, same)) is = sound_same g old new same is
sound_compact g zone due old new (inr (idle_is, made, moved, given_up, d, packs)) is =
    subst (IsSound g) (sym packs.new_is) (record {
      former = is.former;
      none_kept = is.none_kept;
      none_yet = is.none_yet;
      walks = λ w e left.
          let f = is.walks w e left in record { kept = f.kept; black = f.black; live = f.live };
    })

sound_asks : (g : GraphState) (c : Cmd) (due : Due) (old new : Shown) → Asks g old c due new → IsSound g old
    → IsSound (graph_after g old c) new
sound_asks g (command.Graph c) due old new (d, o) is =
    sound_changes (change.Command c) g (wakes g c) (wakes_also g c) old new o.changes is
sound_asks g (command.Gc zones) due old new b is = sound_begins g zones _ due old new b is
sound_asks g (command.Slice n) due old new (d, same) is = sound_same g old new same is
sound_asks g command.Finish due old new (d, same) is = sound_same g old new same is
sound_asks g (command.Collect zones) due old new b is = sound_begins g zones _ due old new b is
sound_asks g command.Colours due old new (d, same) is = sound_same g old new same is
sound_asks g command.Dump due old new (d, same) is = sound_same g old new same is
sound_asks g command.Reset due old new (d, same) is = sound_same g old new same is
sound_asks g (command.Weak c) due old new asked is = sound_weak g c due old new asked is
sound_asks g (command.Compact zone) due old new asked is = sound_compact g zone due old new asked is

-- reports
sound_starts : (g : GraphState) (old new : Shown) → Starts g old new → IsSound g old → IsSound g new
sound_starts g old new s is =
    let st = s.started in
    let stage : new.stage ≡ collecting s.zones s.zones None = ap (λ (t : Shown). t.stage) st.new_is in
    let found : new.walks ≡ Some st.walks = ap (λ (t : Shown). t.walks) st.new_is in
    let graph : new.former.graph ≡ g =
    st.keeps.graph_is ∙ former_is old.former g is.former (is.none_yet s.zones s.was) in record {
      former = st.keeps.former g is.former;
      none_kept = λ e. absurd (cc (e, stage));
      none_yet = λ zones e. absurd (cc (e, stage));
      walks = λ w e left.
          let same : w ≡ st.walks = cc (e, found) in record {
            kept = st.keeps.kept_is;
            black = walked_as g new.former.graph st.walks.black w.black graph (ap (λ (z : Walks). z.black) same)
                (record { starts = st.begun.black; follows = st.begun.black_done.follows });
            live = walked_as g new.former.graph st.walks.live w.live graph (ap (λ (z : Walks). z.live) same)
                (record { starts = st.begun.live; follows = st.begun.live_done.follows });
          };
    }

-- walks that go on are walks
goes_walked : (g : GraphState) (v w : Walks) → CatchesUp g v w → IsWalked g v.black → IsWalked g v.live
    → IsWalked g w.black × IsWalked g w.live
goes_walked g v w c b l = (
  record { starts = b.starts ++ v.woken; follows = (c.black b.starts b.follows).follows },
  record { starts = l.starts ++ v.woken; follows = (c.live l.starts l.follows).follows },
)

caught_before : (g : GraphState) (old new : Option Walks) (w : Walks) → CatchUp g old new → new ≡ Some w
    → (v : Walks) × (old ≡ Some v) × CatchesUp g v w
caught_before g None new w gone e = absurd (cc (e, gone))
caught_before g (Some v) new w (after, is, caught) e =
    let same : after ≡ w = cc (e, is) in (v, refl, subst (λ z. CatchesUp g v z) same caught)

sound_forms : (g : GraphState) (old new : Shown) (groups : List ZoneSet) → Forms g old groups new
    → CatchUp old.former.graph old.walks new.walks → IsSound g old → IsSound g new
sound_forms g old new groups f up is =
    let stage : new.stage ≡ collecting f.zones f.marking (Some groups) = ap (λ (t : Shown). t.stage) f.new_is in
    let former : new.former ≡ old.former = ap (λ (t : Shown). t.former) f.new_is in record {
      former = subst (λ h. IsFormer h g) (sym former) is.former;
      none_kept = λ e. absurd (cc (e, stage));
      none_yet = λ zones e. absurd (cc (e, stage));
      walks = λ w e left.
          let b = caught_before old.former.graph old.walks new.walks w up e in
          let was = is.walks b.0 b.1 (subst HasGroups (sym f.was) tt) in
          let graph = ap (λ h. h.graph) former in
          let both = goes_walked old.former.graph b.0 w b.2 was.black was.live in record {
            kept = ap (λ h. h.is_kept) former ∙ was.kept;
            black = walked_as old.former.graph new.former.graph w.black w.black graph refl both.0;
            live = walked_as old.former.graph new.former.graph w.live w.live graph refl both.1;
          };
    }

-- whether groups are left
left_or_over : (s : Stage) → HasGroups s ⊎ (HasGroups s → ⊥)
left_or_over idle = inr (λ h. h)
left_or_over (preparing zones) = inr (λ h. h)
left_or_over (collecting zones marking None) = inl tt
left_or_over (collecting zones marking (Some [])) = inr (λ h. h)
left_or_over (collecting zones marking (Some (group ∷ rest))) = inl tt

sound_ends : (g : GraphState) (old new : Shown) (group : ZoneSet) (grays : List Name) → EndsGroup g old group grays new
    → IsSound g old → IsSound g new
sound_ends g old new group grays e is =
    let stage = e.ends.new_is in record {
      former = elim (left_or_over new.stage) [
        | inl left ↦ subst (λ h. IsFormer h g) (sym (e.goes_on.left left).1) is.former
        | inr over ↦ (e.goes_on.over over).0.former g is.former
      ];
      none_kept = λ i. absurd (cc (i, stage));
      none_yet = λ zones i. absurd (cc (i, stage));
      walks = λ w i left.
          let goes = e.goes_on.left left in
          let same : e.goes_on.after ≡ w = cc (goes.0, i) in
          let was = is.walks e.walks e.found (subst HasGroups (sym e.ends.was) tt) in
          let graph = ap (λ h. h.graph) goes.1 in
          let caught = subst (λ z. CatchesUp old.former.graph e.walks z) same e.goes_on.caught in
          let both = goes_walked old.former.graph e.walks w caught was.black was.live in record {
            kept = ap (λ h. h.is_kept) goes.1 ∙ was.kept;
            black = walked_as old.former.graph new.former.graph w.black w.black graph refl both.0;
            live = walked_as old.former.graph new.former.graph w.live w.live graph refl both.1;
          };
    }

-- arenas are taken in
sound_sweeps : (g : GraphState) (old new : Shown) (arena : ℕ) (freed : List Name) → Sweeps old arena freed new
    → IsSound g old → IsSound g new
sound_sweeps g old new arena freed s is = subst (IsSound g) (sym s.new_is)
    (record {
      former = is.former;
      none_kept = is.none_kept;
      none_yet = is.none_yet;
      walks = λ w e left.
          let f = is.walks w e left in record { kept = f.kept; black = f.black; live = f.live };
    })

-- a collection is over, or is given up
sound_idle : (g : GraphState) (old new : Shown) → Releases old.former new.former → new.walks ≡ None → IsSound g old
    → IsSound g new
sound_idle g old new r gone is = record {
  former = r.former g is.former;
  none_kept = λ e. r.kept_is;
  none_yet = λ zones e. r.kept_is;
  walks = λ w e left. absurd (cc (e, gone));
}

sound_reported : (g : GraphState) (r : Report) (old new : Shown) → IsReported g old r new → IsSound g old
    → IsSound g new
sound_reported g report.Started old new s is = sound_starts g old new s is
sound_reported g (report.Groups groups) old new (f, up) is = sound_forms g old new groups f up is
sound_reported g (report.Ended group grays told) old new e is = sound_ends g old new group grays e.1 is
sound_reported g (report.Swept arena freed) old new s is = sound_sweeps g old new arena freed s is
sound_reported g report.Done old new f is = sound_idle g old new f.releases (ap (λ (t : Shown). t.walks) f.new_is) is
sound_reported g (report.Stopped zones) old new s is = absurd s

sound_reset : (g : GraphState) (r : Report) (old new : Shown) → IsResetReport g old r new → IsSound g old
    → IsSound g new
sound_reset g report.Started old new s is = absurd s
sound_reset g (report.Groups groups) old new s is = absurd s
sound_reset g (report.Ended group grays told) old new s is = absurd s
sound_reset g (report.Swept arena freed) old new s is = sound_sweeps g old new arena freed s is
sound_reset g report.Done old new f is = sound_idle g old new f.releases (ap (λ (t : Shown). t.walks) f.new_is) is
sound_reset g (report.Stopped zones) old new s is =
    sound_idle g old new s.releases (ap (λ (t : Shown). t.walks) s.new_is) is

-- units are counted
sound_last : (g : GraphState) (most : Option ℕ) (collects : Bool) (reports : ℕ) (old new : Shown) (line : List ℕ)
    → IsLast most collects reports old line new → IsSound g old → IsSound g new
sound_last g most true reports old new line (text, stage, same, none) is = sound_same g old new same is
sound_last g most false reports old new line sliced is = subst (IsSound g) (sym sliced.spends.new_is)
    (record {
      former = is.former;
      none_kept = is.none_kept;
      none_yet = is.none_yet;
      walks = λ w e left.
          let f = is.walks w e left in record { kept = f.kept; black = f.black; live = f.live };
    })

-- a report of a unit, or the line that tells watched cells
sound_line : (g : GraphState) (old new : Shown) (line : List ℕ) → IsReportedLine g old line new → IsSound g old
    → IsSound g new
sound_line g old new line (inl (r, text, reported, none)) is = sound_reported g r old new reported is
sound_line g old new line (inr (text, same)) is = sound_beside g old new old.weak [] same is

sound_answered : (g : GraphState) (old new : Shown) (due next : Due) (line : List ℕ)
    → IsAnswered g old due line new next → IsSound g old → IsSound g new
sound_answered g old new nothing next line a is = absurd a
sound_answered g old new (reply text) next line (e, n, same) is = sound_same g old new same is
sound_answered g old new (dump lines) next line (d, same) is = sound_same g old new same is
sound_answered g old new (units most collects reports) next line (inl (reported, more, counts, fits, n)) is =
    sound_line g old new line reported is
sound_answered g old new (units most collects reports) next line (inr (l, n)) is =
    sound_last g most collects reports old new line l is
sound_answered g old new resets next line ((r, text, reported), n) is = sound_reset g r old new reported is

pub sound_steps : (g h : GraphState) (old new : Shown) (due next : Due) (line : List ℕ)
    → Steps g old due line h new next → IsSound g old → IsSound h new
sound_steps g h old new due next line (inl (text, c, whole, mark, spells, after, asks)) is =
    subst (λ k. IsSound k new) (sym after) (sound_asks g c next old new asks is)
sound_steps g h old new due next line (inr (unmarked, same, ans)) is =
    subst (λ k. IsSound k new) (sym same) (sound_answered g old new due next line ans is)
