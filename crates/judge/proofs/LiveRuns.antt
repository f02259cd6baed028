-- While a collection marks, what it has found live is present: in each world that a lawful run leads to.
use Rattle.std.proofs.Common.{◌≡◌, ◌⊎◌, ◌∙◌, ◌||◌, ℕ, inl, inr, Bool, true, false, List, [], ◌∷◌, Option, Some, None}
use Rattle.std.proofs.Common.{ap, cond, refl, subst, sym}
use Rattle.std.specs.FinSet as set
use Rattle.std.specs.Ordering.{eq_by_cmp}
use Rattle.gz_names.specs.Order.{name_cmp, names_total}
use Rattle.gz_names.specs.Zones.{zones_in}
use Rattle.gz_names.specs.declared.names.Name.{Name}
use Rattle.gz_names.specs.declared.commands.Cmd.{Cmd}
use Rattle.gz_names.specs.declared.commands.Cmd.TheVariants.{Graph, Weak, Gc, Slice, Finish, Collect, Reset, Colours}
use Rattle.gz_names.specs.declared.commands.Cmd.TheVariants.{Dump, Compact}
use Rattle.gz_names.specs.declared.commands.GraphCmd.{GraphCmd}
use Rattle.gz_names.specs.declared.commands.WeakCmd.{WeakCmd}
use Rattle.gz_names.specs.declared.commands.WeakCmd.TheVariants as weak_cmd
use Rattle.gz_names.specs.declared.replies.Refusal.{Refusal}
use Rattle.gz_names.specs.declared.replies.Reply.{Reply}
use Rattle.gz_names.specs.declared.replies.Reply.TheVariants as reply
use Rattle.gz_names.specs.declared.replies.Report.{Report}
use Rattle.colour_defs.specs.Graph.{GraphState, register_cell}
use Rattle.colour_defs.specs.Laws.{IsMarking, IsValid}
use Rattle.colour_defs.specs.Lawful.{Answers, RefusesIdle, RefusesToBegin, Run, Slices}
use Rattle.colour_defs.specs.Step.{refusal_in, step_of, with_register}
use Rattle.colour_defs.specs.Units.{Tally, with_put, with_woken}
use Rattle.colour_defs.specs.WeakRefs.{WeakInWorld, unwatch_cell, watch_cell, weak_cell, without_watched}
use Rattle.colour_defs.specs.World.{Accepts, AcceptsIn, AcceptsUnless, Collection, CommandInWorld, Has, HasPlace}
use Rattle.colour_defs.specs.World.{IsPresent, Names, Preparation, Wakes, World, also_woken_by, first_world, marking_of}
use Rattle.colour_defs.specs.World.{with_counts, with_waking, woken_by}
use Rattle.colour_defs.proofs.Carried.{Changes}
use Rattle.colour_defs.proofs.Effects.{Effect, Waking, takes, waking_of, woken}
use Rattle.colour_defs.proofs.Follows.{Follows, follows}
use Rattle.colour_defs.proofs.Names.{eq_name-is}
use Rattle.colour_defs.proofs.ValidCommands.{Step, changed, place_fresh, place_kept, place_there, quiet_changes, read}
use Rattle.colour_defs.proofs.ValidCommands.{read_is, waking_changes}
use Rattle.colour_defs.proofs.ValidReports.{prepare_valid, spent_retallied}
use Rattle.colour_defs.proofs.ValidRuns.{answer_valid}
use Rattle.judge.specs.Live.{IsLive, IsValidLive}
use Rattle.judge.proofs.LiveCommands.{live_carries}
use Rattle.judge.proofs.LiveReports.{live_retallied, live_without, prepare_live, reset_live, units_live}

abbrev counted : GraphState → GraphCmd → Collection → Tally
counted g c k = with_woken g k.zones (woken_by g c) (with_put g k.zones c k.tally)

counted_is : (g : GraphState) (c : GraphCmd) (o : Option Collection)
    → with_counts g c o ≡ changed (counted g c) (λ k. k.woken) o
counted_is g c None = refl
counted_is g c (Some k) = refl

waked_is : (x : Name) (f : Collection → Tally) (o : Option Collection)
    → with_waking x (changed f (λ k. k.woken) o)
    ≡ changed f (λ k. set.insert k.woken x) o
waked_is x f None = refl
waked_is x f (Some k) = refl

insert_cases : (s : Names) (x y : Name) → Has (set.insert s x) y → Has s y ⊎ (x ≡ y)
insert_cases s x y h = go (eq_by_cmp name_cmp y x) refl (sym (set.contains-insert names_total s x y) ∙ h)
  where
    go : (b : Bool) → eq_by_cmp name_cmp y x ≡ b → (b || set.contains s y) ≡ true → Has s y ⊎ (x ≡ y)
    go true e h = inr (sym (eq_name-is y x e))
    go false e h = inl h

-- a command after which the collection has another tally and other woken names
live_changed : (w : World) (o : Waking) (v : World) → IsValid w → Changes w o v → (f : Collection → Tally)
    (a : Collection → Names) → ((k : Collection) (x : Name) → Has (a k) x → Has k.woken x ⊎ (o.first ≡ Some x))
    → v.collection ≡ changed f a w.collection → IsValidLive w → IsValidLive v
live_changed w o v ok ch f a are is l = record { marking = λ k e. go w.collection refl k (sym is ∙ e) }
  where
    go : (p : Option Collection) → w.collection ≡ p → (k : Collection) → changed f a p ≡ Some k → IsMarking k
        → IsLive v k
    go None at k e marks = absurd (cc e)
    go (Some m) at k e marks =
        let q : record m { woken = a m; tally = f m } ≡ k = cc e in
        subst (λ z. IsLive v z) q
        (live_carries w o v ok ch m (l.marking m at (λ h. marks (subst (λ (z : Collection). z.marking ≡ []) q h)))
        (a m) (f m) (are m))

accepts_live : (w v : World) (f : Collection → Tally) (graph : GraphState) (first also : Option Name) → IsValid w
    → IsValidLive w → Step w (record { first = first; also = also }) graph
    → Accepts w (changed f (λ k. k.woken) w.collection) graph first v → IsValidLive v
accepts_live w v f graph None also ok l step a =
    let ch : Changes w (record { first = None; also = also })
    (record w { graph = graph; collection = changed f (λ k. k.woken) w.collection }) =
    step.quiet w.black (changed f (λ k. k.woken) w.collection) refl in
    subst (λ z. IsValidLive z) (sym a)
    (live_changed w (record { first = None; also = also })
    (record w { graph = graph; collection = changed f (λ k. k.woken) w.collection }) ok ch f (λ k. k.woken)
    (λ k x h. inl h) refl l)
accepts_live w v f graph (Some x) also ok l step a =
    live_changed w (record { first = Some x; also = also }) v ok (step.waking v x refl a.0) f
    (λ k. set.insert k.woken x)
    (λ k y h. elim (insert_cases k.woken x y h) [ inl old ↦ inl old | inr new ↦ inr (ap (λ z. Some z) new) ])
    (woken_in (marking_of w.collection) a.1 ∙ waked_is x f w.collection) l
  where
    woken_in : (zs : List ℕ) → Wakes w (changed f (λ k. k.woken) w.collection) zs graph x v
        → v.collection ≡ with_waking x (changed f (λ k. k.woken) w.collection)
    woken_in [] k = k.0
    woken_in (z ∷ zs) k = k.0

-- while a collection is prepared, none runs
preparing_live : (w v : World) (p : Preparation) (c : Option Collection) (graph : GraphState)
    (first also : Option Name) → IsValid w → w.preparing ≡ Some p → AcceptsIn (Some p) w c graph first also v
    → IsValidLive v
preparing_live w v p c graph None None ok at a =
    live_without v (ap (λ (z : World). z.collection) a ∙ (ok.preparing p at).alone)
preparing_live w v p c graph None (Some y) ok at a =
    live_without v (ap (λ (z : World). z.collection) a.0 ∙ (ok.preparing p at).alone)
preparing_live w v p c graph (Some x) also ok at a = live_without v (a.1 ∙ (ok.preparing p at).alone)

accepted_live : (w v : World) (f : Collection → Tally) (graph : GraphState) (first also : Option Name) → IsValid w
    → IsValidLive w → Step w (record { first = first; also = also }) graph → (p : Option Preparation)
    → w.preparing ≡ p → AcceptsIn p w (changed f (λ k. k.woken) w.collection) graph first also v → IsValidLive v
accepted_live w v f graph first also ok l step None at a = accepts_live w v f graph first also ok l step a
accepted_live w v f graph first also ok l step (Some p) at a =
    preparing_live w v p (changed f (λ k. k.woken) w.collection) graph first also ok at a

pub command_step : (w : World) (c : GraphCmd) → refusal_in (step_of w.graph c).1 ≡ None
    → Step w (waking_of w.graph c) (step_of w.graph c).0
command_step w c acc = record {
  quiet = λ black collection none. quiet_changes w c black collection none;
  waking = λ v x is p. waking_changes w v c x acc is p;
}

pub command_live : (w v : World) (c : GraphCmd) (r : Reply) → IsValid w → IsValidLive w → CommandInWorld w c r v
    → IsValidLive v
command_live w v c r ok l a = go (refusal_in (step_of w.graph c).1) refl a.1
  where
    go : (o : Option Refusal) → refusal_in (step_of w.graph c).1 ≡ o
        → AcceptsUnless o w (with_counts w.graph c w.collection) (step_of w.graph c).0 (woken_by w.graph c)
        (also_woken_by w.graph c) v → IsValidLive v
    go (Some why) e same = subst (λ z. IsValidLive z) (sym same) l
    go None e a = accepted_live w v (counted w.graph c) (step_of w.graph c).0 (woken_by w.graph c)
        (also_woken_by w.graph c) ok l (command_step w c e) w.preparing refl
        (subst (λ k. AcceptsIn w.preparing w k (step_of w.graph c).0 (woken_by w.graph c) (also_woken_by w.graph c) v)
        (counted_is w.graph c w.collection) a)

-- a weak slot that is read: what it names is present
pub read_step : (w : World) (r q : ℕ) → IsValid w
    → Step w (record { first = weak_cell w q; also = None }) (with_register w.graph r (weak_cell w q))
read_step w r q ok = record { quiet = calm; waking = waking }
  where
    effect : Effect w.graph (record { first = weak_cell w q; also = None }) (with_register w.graph r (weak_cell w q))
    effect = takes r (weak_cell w q) (λ y e. woken e)

    calm : (black : Names) (collection : Option Collection) → weak_cell w q ≡ None
        → Changes w (record { first = weak_cell w q; also = None })
        (record w { graph = with_register w.graph r (weak_cell w q); black = black; collection = collection })
    calm black collection none = record {
      follow = follows w.graph (record { first = weak_cell w q; also = None }) effect;
      kept = λ x p. p;
      fresh = λ x p. inl p;
      there = λ x e. absurd (cc (none, e));
      awake = λ x e. absurd (cc (none, e));
      zone = λ x e. absurd (cc (none, e));
      weak_is = refl;
    }

    waking : (v : World) (x : Name) → weak_cell w q ≡ Some x → HasPlace w (with_register w.graph r (weak_cell w q)) x v
        → Changes w (record { first = weak_cell w q; also = None }) v
    waking v x is p = record {
      follow = subst (λ g. Follows w.graph (record { first = weak_cell w q; also = None }) g) (sym p.graph_is)
          (follows w.graph (record { first = weak_cell w q; also = None }) effect);
      kept = place_kept w (with_register w.graph r (weak_cell w q)) x v p;
      fresh = λ y h. elim (place_fresh w (with_register w.graph r (weak_cell w q)) x v p y h)
          [ inl old ↦ inl old | inr e ↦ inr (is ∙ ap (λ z. Some z) e) ];
      there = λ y e. let same : x ≡ y = cc (is, e) in
          subst (λ z. IsPresent v z) same (place_there w (with_register w.graph r (weak_cell w q)) x v p);
      awake = λ y e. inl (ok.presence.weak q y e);
      zone = λ y e. inl (ok.presence.weak q y e);
      weak_is = p.weak_is;
    }

-- other weak names
live_reweak : (w v : World) → v ≡ record w { weak = v.weak } → IsValidLive w → IsValidLive v
live_reweak w v e l = subst (λ z. IsValidLive z) (sym e) (record {
  marking = λ k at marks. let m = l.marking k at marks in
      record {
        formed = m.formed;
        made = m.made;
        followed = record { edges = m.followed.edges; values = m.followed.values; keys = m.followed.keys };
        live = m.live;
      };
})

watch_is : (w : World) (x : Option Name) → (watch_cell w x).0 ≡ record w { weak = (watch_cell w x).0.weak }
watch_is w None = refl
watch_is w (Some x) = refl

unwatch_is : (w : World) (x : Option Name) → (unwatch_cell w x).0 ≡ record w { weak = (unwatch_cell w x).0.weak }
unwatch_is w None = refl
unwatch_is w (Some x) = go (set.contains w.weak.watched x)
  where
    go : (b : Bool) → (cond {A = World × Reply} b (without_watched w x, reply.Accepted) (w, reply.Absent)).0
        ≡ record w {
          weak = (cond {A = World × Reply} b (without_watched w x, reply.Accepted) (w, reply.Absent)).0.weak;
        }
    go true = refl
    go false = refl

pub weak_live : (w v : World) (c : WeakCmd) (r : Reply) → IsValid w → IsValidLive w → WeakInWorld w c r v
    → IsValidLive v
weak_live w v (weak_cmd.Weaken q r) a ok l h =
    live_reweak w v (h.1 ∙ ap (λ (z : World). record w { weak = z.weak }) (sym h.1)) l
weak_live w v (weak_cmd.Deref r q) a ok l h =
    accepted_live w v (read w.graph (weak_cell w q)) (with_register w.graph r (weak_cell w q)) (weak_cell w q) None ok l
    (read_step w r q ok) w.preparing refl
    (subst (λ k. AcceptsIn w.preparing w k (with_register w.graph r (weak_cell w q)) (weak_cell w q) None v)
    (read_is w.graph (weak_cell w q) w.collection) h.1)
weak_live w v (weak_cmd.Watch r) a ok l h =
    live_reweak w v
    (h.1 ∙ watch_is w (register_cell w.graph r) ∙ ap (λ (z : World). record w { weak = z.weak }) (sym h.1)) l
weak_live w v (weak_cmd.Unwatch r) a ok l h =
    live_reweak w v
    (h.1 ∙ unwatch_is w (register_cell w.graph r) ∙ ap (λ (z : World). record w { weak = z.weak }) (sym h.1)) l

slice_live : (w : World) (reports : List Report) (n : ℕ) (v : World) → IsValid w → IsValidLive w
    → Slices w reports n v → IsValidLive v
slice_live w reports n v ok l s =
    subst (λ z. IsValidLive z) (sym s.world_is)
    (live_retallied s.after s.after.out s.after.white _ (spent_retallied n s.after.collection) refl
    (units_live w s.units s.after ok l s.done))

refused_live : (w : World) (zones : List ℕ) (reports : List Report) (answer : Reply) (v : World) → IsValidLive w
    → RefusesToBegin w zones reports answer v → IsValidLive v
refused_live w zones reports answer v l (inl h) = subst (λ z. IsValidLive z) (sym h.2.same) l
refused_live w zones reports answer v l (inr h) = subst (λ z. IsValidLive z) (sym h.3.same) l

idle_live : (w : World) (reports : List Report) (answer : Reply) (v : World) → IsValidLive w
    → RefusesIdle w reports answer v → IsValidLive v
idle_live w reports answer v l h = subst (λ z. IsValidLive z) (sym h.2.same) l

pub answer_live : (w : World) (c : Cmd) (reports : List Report) (answer : Reply) (v : World)
    → IsValid w → IsValidLive w → Answers w c reports answer v → IsValidLive v
answer_live w (Graph c) reports answer v ok l h = command_live w v c answer ok l h.1
answer_live w (Weak c) reports answer v ok l h = weak_live w v c answer ok l h.1
answer_live w (Gc zones) reports answer v ok l (inl h) = prepare_live w (zones_in zones) v h.2
answer_live w (Gc zones) reports answer v ok l (inr h) = refused_live w (zones_in zones) reports answer v l h
answer_live w (Slice n) reports answer v ok l (inl h) = slice_live w reports h.0 v ok l h.2
answer_live w (Slice n) reports answer v ok l (inr h) = idle_live w reports answer v l h
answer_live w Finish reports answer v ok l (inl h) = slice_live w reports h.0 v ok l h.2
answer_live w Finish reports answer v ok l (inr h) = idle_live w reports answer v l h
answer_live w (Collect zones) reports answer v ok l (inl h) =
    units_live h.1.begun h.1.units v (prepare_valid w (zones_in zones) h.1.begun ok h.1.begins)
    (prepare_live w (zones_in zones) h.1.begun h.1.begins) h.1.done
answer_live w (Collect zones) reports answer v ok l (inr h) = refused_live w (zones_in zones) reports answer v l h
answer_live w Reset reports answer v ok l (inl h) = reset_live w reports v h.1
answer_live w Reset reports answer v ok l (inr h) = idle_live w reports answer v l h
answer_live w Colours reports answer v ok l (inl h) = subst (λ z. IsValidLive z) (sym h.4.same) l
answer_live w Colours reports answer v ok l (inr h) = subst (λ z. IsValidLive z) (sym h.2.same) l
answer_live w Dump reports answer v ok l (inl h) = subst (λ z. IsValidLive z) (sym h.4.same) l
answer_live w Dump reports answer v ok l (inr h) = subst (λ z. IsValidLive z) (sym h.2.same) l
answer_live w (Compact zone) reports answer v ok l (inl h) =
    live_without v (ap (λ (z : World). z.collection) h.4.world_is ∙ h.4.idle.none_running)
answer_live w (Compact zone) reports answer v ok l (inr h) = refused_live w (zone ∷ []) reports answer v l h

pub run_live : (w : World) (cs : List Cmd) (answers : List (List Report × Reply)) (v : World) → IsValid w
    → IsValidLive w → Run w cs answers v → IsValidLive v
run_live w [] [] v ok l h = subst (λ z. IsValidLive z) (sym h) l
run_live w (c ∷ cs) (a ∷ answers) v ok l (u, first, rest) =
    run_live u cs answers v (answer_valid w c a.0 a.1 u ok first) (answer_live w c a.0 a.1 u ok l first) rest
run_live w [] (a ∷ answers) v ok l h = absurd h
run_live w (c ∷ cs) [] v ok l h = absurd h

pub first_live : IsValidLive first_world
first_live = record { marking = λ k e marks. absurd (cc e) }
