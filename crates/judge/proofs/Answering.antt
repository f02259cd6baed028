-- A command on the graph, and a weak slot that is read: there is a world after each, for which the judge stands.
use Rattle.std.proofs.Common.{◌≡◌, ◌∙◌, ◌⊎◌, ◌<◌, inl, inr, ℕ, Bool, true, false, cond, Option, Some, None, length}
use Rattle.std.proofs.Common.{ap, arith, get_or, nat_lt, refl, slice_get, subst, sym}
use Rattle.std.specs.Option.{option_flatten}
use Rattle.std.proofs.lemmas.Option.{slice_get-get_or}
use Rattle.gz_names.specs.declared.names.Name.{Name}
use Rattle.gz_names.specs.declared.names.Name.TheVariants.{Cell, Wrap}
use Rattle.gz_names.specs.declared.numbers.CompNo.{CompNo}
use Rattle.gz_names.specs.declared.commands.GraphCmd.{GraphCmd}
use Rattle.gz_names.specs.declared.commands.GraphCmd.TheVariants as cmd
use Rattle.gz_names.specs.declared.commands.WeakCmd.TheVariants as weak_command
use Rattle.gz_names.specs.declared.replies.Refusal.{Refusal}
use Rattle.gz_names.specs.declared.replies.Reply.{Reply}
use Rattle.gz_names.specs.declared.replies.Reply.TheVariants as reply
use Rattle.colour_defs.specs.declared.graph.Object.{Object}
use Rattle.colour_defs.specs.Graph.{GraphState, comp_of_object, has_wrapper, register_cell, zone_of_comp}
use Rattle.colour_defs.specs.Laws.{HasSomeZone, IsValid}
use Rattle.colour_defs.specs.Step.{is_in_comp, make_object, named_or_null, new_map, new_object, refusal_in, step_of}
use Rattle.colour_defs.specs.Step.{take_wrapper, target_of, with_register, wrap_from}
use Rattle.colour_defs.specs.WeakRefs.{WeakInWorld, weak_cell, with_read}
use Rattle.colour_defs.specs.World.{AcceptsIn, AcceptsUnless, CommandInWorld, IsPresent, World, also_woken_by}
use Rattle.colour_defs.specs.World.{with_counts, woken_by, woken_by_wrap}
use Rattle.colour_defs.proofs.Effects.{Effect, effect_of, takes, waking_of, woken}
use Rattle.colour_defs.proofs.Follows.{follows}
use Rattle.colour_defs.proofs.Lists.{choose, get_push_here}
use Rattle.colour_defs.proofs.ValidCommands.{read, read_is}
use Rattle.judge.specs.Cells.{unless_refused, wakes}
use Rattle.judge.specs.Positions.{StandsIn}
use Rattle.judge.specs.Represents.{LiesInPlace, Represents}
use Rattle.judge.specs.Stages.{Changes, Obeys, Shown, TakesNamed}
use Rattle.judge.specs.declared.former.Change.TheVariants as change
use Rattle.judge.proofs.Accepting.{accepting}
use Rattle.judge.proofs.Commanded.{also_there, counted, counted_is, represents_command}
use Rattle.judge.proofs.Derefs.{represents_deref}
use Rattle.judge.proofs.LeadsOn.{command_on, takes_on}
use Rattle.judge.proofs.LiveRuns.{command_step, read_step}

-- a compartment that was made has a zone
below_of : (a b : ℕ) → nat_lt a b ≡ true → a < b
below_of a b e = grind (arith, e)

has_zone : (g : GraphState) (c : CompNo) → nat_lt c.0 (length g.comps) ≡ true
    → (z : ℕ) × (slice_get g.comps c.0 ≡ Some z)
has_zone g c e = (get_or g.comps c.0 0, slice_get-get_or g.comps c.0 0 (below_of c.0 (length g.comps) e))

made_zoned : (g : GraphState) (r : ℕ) (o : Object) → refusal_in (make_object g r o).1 ≡ None
    → HasSomeZone (make_object g r o).0 (Cell (length g.objects))
made_zoned g r o =
    choose (λ (p : GraphState × Reply). refusal_in p.1 ≡ None → HasSomeZone p.0 (Cell (length g.objects)))
    (nat_lt o.comp.0 (length g.comps)) _ _
    (λ e _. let z = has_zone g o.comp e in (
      z.0,
      ap (λ x. zone_of_comp g (comp_of_object (option_flatten x))) (get_push_here g.objects (Some o)) ∙ z.1,
    ))
    (λ _ e. absurd (cc e))

take_wrapper_zoned : (g : GraphState) (r : ℕ) (c : CompNo) (t : ℕ) → nat_lt c.0 (length g.comps) ≡ true
    → HasSomeZone (take_wrapper g r c t).0 (Wrap c t)
take_wrapper_zoned g r c t e = choose (λ (p : GraphState × Reply). HasSomeZone p.0 (Wrap c t)) (has_wrapper g c t) _ _
    (λ _. has_zone g c e) (λ _. has_zone g c e)

wrap_target_zoned : (g : GraphState) (r : ℕ) (c : CompNo) (x y : Name) → nat_lt c.0 (length g.comps) ≡ true → (b : Bool)
    → cond b None (Some (Wrap c (target_of x))) ≡ Some y
    → HasSomeZone (cond b (with_register g r (Some (Cell (target_of x))), reply.Named (Cell (target_of x)))
    (take_wrapper g r c (target_of x))).0 y
wrap_target_zoned g r c x y e true q = absurd (cc q)
wrap_target_zoned g r c x y e false q = let same : Wrap c (target_of x) ≡ y = cc q in
    subst (λ z. HasSomeZone (take_wrapper g r c (target_of x)).0 z) same (take_wrapper_zoned g r c (target_of x) e)

wrap_zoned : (g : GraphState) (r : ℕ) (c : CompNo) (x : Option Name) (y : Name) → woken_by_wrap g x c ≡ Some y
    → refusal_in (wrap_from g r x c).1 ≡ None → HasSomeZone (wrap_from g r x c).0 y
wrap_zoned g r c None y q = absurd (cc q)
wrap_zoned g r c (Some x) y q = choose (λ (p : GraphState × Reply). refusal_in p.1 ≡ None → HasSomeZone p.0 y)
    (nat_lt c.0 (length g.comps)) _ _
    (λ e _. wrap_target_zoned g r c x y e (is_in_comp g c (Cell (target_of x))) q) (λ _ no. absurd (cc no))

-- a name that a command wakes is present, or has a zone then
zoned : (w : World) → IsValid w → (c : GraphCmd) → refusal_in (step_of w.graph c).1 ≡ None → (y : Name)
    → woken_by w.graph c ≡ Some y → IsPresent w y ⊎ HasSomeZone (step_of w.graph c).0 y
zoned w ok cmd.Zone acc y e = absurd (cc e)
zoned w ok (cmd.Comp z) acc y e = absurd (cc e)
zoned w ok (cmd.New r c n) acc y e = let same : Cell (length w.graph.objects) ≡ y = cc e in
    inr (subst (λ z. HasSomeZone (step_of w.graph (cmd.New r c n)).0 z) same
    (made_zoned w.graph r (new_object c n) acc))
zoned w ok (cmd.Map r c) acc y e = let same : Cell (length w.graph.objects) ≡ y = cc e in
    inr (subst (λ z. HasSomeZone (step_of w.graph (cmd.Map r c)).0 z) same (made_zoned w.graph r (new_map c) acc))
zoned w ok (cmd.Get r a f) acc y e = absurd (cc e)
zoned w ok (cmd.Set a f t) acc y e = absurd (cc e)
zoned w ok (cmd.Wrap r a c) acc y e = inr (wrap_zoned w.graph r c (register_cell w.graph a) y e acc)
zoned w ok (cmd.Unwrap r a) acc y e = absurd (cc e)
zoned w ok (cmd.Copy r a) acc y e = absurd (cc e)
zoned w ok (cmd.Drop r) acc y e = absurd (cc e)
zoned w ok (cmd.Hold k r) acc y e = absurd (cc e)
zoned w ok (cmd.Release k) acc y e = absurd (cc e)
zoned w ok (cmd.Expose r k) acc y e = inl (ok.presence.slots k y e)
zoned w ok (cmd.Put m k v) acc y e = absurd (cc e)
zoned w ok (cmd.Del m k) acc y e = absurd (cc e)
zoned w ok (cmd.Find r m k) acc y e = absurd (cc e)

module _ (c : GraphCmd) (old new : Shown) (w : World) (stands : StandsIn w.graph old w)
    (obeys : Obeys w.graph c old new) (lies : LiesInPlace (step_of w.graph c).0 (wakes w.graph c) old new) where
  abbrev after : GraphState
  after = (step_of w.graph c).0

  made : (o : Option Refusal) → refusal_in (step_of w.graph c).1 ≡ o
      → (v : World) × AcceptsUnless o w (with_counts w.graph c w.collection) after (woken_by w.graph c)
      (also_woken_by w.graph c) v
  made (Some why) e = (w, refl)
  made None e =
      let changes = subst (λ o. Changes (change.Command c) after (unless_refused o (woken_by w.graph c))
      (unless_refused o (also_woken_by w.graph c)) old new) e obeys.changes in
      let lying = subst (λ o. LiesInPlace after (unless_refused o (woken_by w.graph c)) old new) e lies in
      let ok = stands.laws.valid in
      let a = accepting (change.Command c) after (woken_by w.graph c) (also_woken_by w.graph c) (counted w.graph c)
      old new w (record {
        stands = stands;
        changes = changes;
        lies = lying;
        on = command_on w.graph c;
        follow = follows w.graph (waking_of w.graph c) (effect_of w.graph c);
        also_there = also_there w ok c;
        step = command_step w c e;
        zoned = zoned w ok c e;
      }) in (
        a.0,
        subst (λ o. AcceptsIn w.preparing w o after (woken_by w.graph c) (also_woken_by w.graph c) a.0)
            (sym (counted_is w.graph c w.collection)) a.1,
      )

  -- there is a world after the command, for which the judge stands
  pub commanded : (v : World) × CommandInWorld w c (step_of w.graph c).1 v × Represents after new v
  commanded = let m = made (refusal_in (step_of w.graph c).1) refl in
      (m.0, (refl, m.1), represents_command c (step_of w.graph c).1 old new w m.0 stands obeys lies (refl, m.1))

module _ (r q : ℕ) (old new : Shown) (w : World) (stands : StandsIn w.graph old w)
    (taken : TakesNamed w.graph r (weak_cell w q) old new)
    (lies : LiesInPlace (with_register w.graph r (weak_cell w q)) (weak_cell w q) old new) where
  taking : (v : World) × AcceptsIn w.preparing w (with_read w.graph (weak_cell w q) w.collection)
      (with_register w.graph r (weak_cell w q)) (weak_cell w q) None v
  taking =
      let effect : Effect w.graph (record { first = weak_cell w q; also = None })
      (with_register w.graph r (weak_cell w q)) = takes r (weak_cell w q) (λ y e. woken e) in
      let ok = stands.laws.valid in
      let a = accepting (change.Take r (weak_cell w q)) (with_register w.graph r (weak_cell w q)) (weak_cell w q) None
      (read w.graph (weak_cell w q)) old new w (record {
        stands = stands;
        changes = taken.changes;
        lies = lies;
        on = takes_on w.graph r (weak_cell w q);
        follow = follows w.graph (record { first = weak_cell w q; also = None }) effect;
        also_there = λ s n. absurd (cc n);
        step = read_step w r q ok;
        zoned = λ y e. inl (ok.presence.weak q y e);
      }) in (
        a.0,
        subst (λ o. AcceptsIn w.preparing w o (with_register w.graph r (weak_cell w q)) (weak_cell w q) None a.0)
            (sym (read_is w.graph (weak_cell w q) w.collection)) a.1,
      )

  pub derefed : (v : World) × WeakInWorld w (weak_command.Deref r q) (named_or_null (weak_cell w q)) v
      × Represents (with_register w.graph r (weak_cell w q)) new v
  derefed = let m = taking in
      let stands_then = represents_deref r q (named_or_null (weak_cell w q)) old new w m.0 stands taken lies (refl, m.1)
      in
      (m.0, (refl, m.1), stands_then)
