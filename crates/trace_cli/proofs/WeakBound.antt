-- The bound on units, over commands on weak slots and watched cells: what is woken alone adds to it.
use Rattle.std.proofs.Common.{◌≡◌, ◌+◌, ◌≤◌, ℕ, Bool, true, false, cond, List, Option, Some, None, refl, sym, ap, subst}
use Rattle.std.proofs.Common.{◌∙◌}
use Rattle.std.proofs.Common.{arith}
use Rattle.std.specs.FinSet as set
use Rattle.gz_names.specs.declared.commands.WeakCmd.{WeakCmd}
use Rattle.gz_names.specs.declared.commands.WeakCmd.TheVariants as cmd
use Rattle.gz_names.specs.declared.names.Name.{Name}
use Rattle.gz_names.specs.declared.names.Name.TheVariants.{Cell, Wrap}
use Rattle.gz_names.specs.declared.replies.Reply.{Reply}
use Rattle.gz_names.specs.declared.replies.Reply.TheVariants as reply
use Rattle.cell_bits.specs.declared.bits.Bits.{Bits}
use Rattle.colour_defs.specs.Graph.{GraphState, is_in_zones, register_cell}
use Rattle.colour_defs.specs.Step.{with_register}
use Rattle.colour_defs.specs.Units.{Tally, unit_limit, with_woken, with_wrappers}
use Rattle.colour_defs.specs.WeakRefs.{WeakInWorld, unwatch_cell, watch_cell, weak_cell, with_read, without_watched}
use Rattle.colour_defs.specs.World.{AcceptsIn, Collection, Preparation, World}
use Rattle.slice_driver.specs.Collector.{CollectorState}
use Rattle.slice_driver.specs.UnitsToCome.{IsWithin, IsWithinBound, units_to_come}
use Rattle.trace_cli.proofs.Preparing.{some_is}
use Rattle.trace_cli.proofs.UnitBound.{accepts_tally, lowered, woken_spent}

-- a cell that is woken lowers no bound
more_wrappers : (t : Tally) (b : Bool) → unit_limit t ≤ unit_limit (with_wrappers t b)
more_wrappers t true = omega arith
more_wrappers t false = omega arith

woken_limit : (g : GraphState) (zones : List ℕ) (x : Option Name) (t : Tally)
    → unit_limit t ≤ unit_limit (with_woken g zones x t)
woken_limit g zones None t = omega arith
woken_limit g zones (Some (Cell n)) t = omega arith
woken_limit g zones (Some (Wrap c n)) t = more_wrappers t (is_in_zones g zones (Wrap c n))

read_tally : (g : GraphState) (x : Option Name) (o : Option Collection) (k : Collection) → with_read g x o ≡ Some k
    → (j : Collection) × (o ≡ Some j) × (k.tally ≡ with_woken g j.zones x j.tally)
read_tally g x None k e = absurd (cc e)
read_tally g x (Some j) k e = (j, refl, ap (λ (i : Collection). i.tally) (sym (some_is _ _ e)))

more_bound : (spent left limit more : ℕ) → spent + left ≤ limit → limit ≤ more → spent + left ≤ more
more_bound spent left limit more bound less = omega (arith, bound, less)

-- names alone are others
watch_collection : (w : World) (o : Option Name) → (watch_cell w o).0.collection ≡ w.collection
watch_collection w None = refl
watch_collection w (Some x) = refl

watch_preparing : (w : World) (o : Option Name) → (watch_cell w o).0.preparing ≡ w.preparing
watch_preparing w None = refl
watch_preparing w (Some x) = refl

unwatch_collection : (w : World) (o : Option Name) → (unwatch_cell w o).0.collection ≡ w.collection
unwatch_collection w None = refl
unwatch_collection w (Some x) = by (set.contains w.weak.watched x)
  where
    by : (b : Bool)
        → (cond {A = World × Reply} b (without_watched w x, reply.Accepted) (w, reply.Absent)).0.collection
        ≡ w.collection
    by true = refl
    by false = refl

unwatch_preparing : (w : World) (o : Option Name) → (unwatch_cell w o).0.preparing ≡ w.preparing
unwatch_preparing w None = refl
unwatch_preparing w (Some x) = by (set.contains w.weak.watched x)
  where
    by : (b : Bool)
        → (cond {A = World × Reply} b (without_watched w x, reply.Accepted) (w, reply.Absent)).0.preparing
        ≡ w.preparing
    by true = refl
    by false = refl

-- fewer are to come
pub fewer_within : (c d : CollectorState) (f g : ℕ → Option Bits) → units_to_come d g ≤ units_to_come c f
    → (w : World) → IsWithin c f w → IsWithin d g w
fewer_within c d f g less w within = record {
  marking = λ k running. lowered k.tally.spent (units_to_come c f) (units_to_come d g) (unit_limit k.tally)
      (within.marking k running) less;
  preparing = λ p is. lowered p.spent (units_to_come c f) (units_to_come d g) p.arenas (within.preparing p is) less;
}

module _ (d : CollectorState) (g : ℕ → Option Bits) (w : World) (within : IsWithin d g w) where
  named_within : (v : World) → v.collection ≡ w.collection → v.preparing ≡ w.preparing → IsWithin d g v
  named_within v same still = record {
    marking = λ k running. within.marking k (sym same ∙ running);
    preparing = λ p is. within.preparing p (sym still ∙ is);
  }

  -- what a weak slot names was handed out
  read_marking : (x : Option Name) (k : Collection) → (j : Collection) × (with_read w.graph x w.collection ≡ Some j)
      × (k.tally ≡ j.tally)
      → IsWithinBound k.tally (units_to_come d g)
  read_marking x k made =
      let was = read_tally w.graph x w.collection made.0 made.1 in
      let i = was.0 in
      let same : k.tally ≡ with_woken w.graph i.zones x i.tally = made.2 ∙ was.2 in
      let spent = woken_spent w.graph i.zones x i.tally in
      let after = with_woken w.graph i.zones x i.tally in
      let bound = more_bound i.tally.spent (units_to_come d g) (unit_limit i.tally) (unit_limit after)
      (within.marking i was.1) (woken_limit w.graph i.zones x i.tally) in
      subst (λ (t : Tally). IsWithinBound t (units_to_come d g)) (sym same)
      (subst (λ (n : ℕ). n + units_to_come d g ≤ unit_limit after) (sym spent) bound)

  read_within : (r : ℕ) (x : Option Name) (v : World) (o : Option Preparation) → w.preparing ≡ o
      → AcceptsIn o w (with_read w.graph x w.collection) (with_register w.graph r x) x None v → IsWithin d g v
  read_within r x v None calm accepts = record {
    marking = λ k running. read_marking x k
        (accepts_tally w (with_read w.graph x w.collection) (with_register w.graph r x) x v accepts k running);
    preparing = λ p is. absurd (let still = preparing_kept x accepts in cc (still, calm, is));
  }
    where
      preparing_kept : (y : Option Name)
          → AcceptsIn None w (with_read w.graph y w.collection) (with_register w.graph r y) y None v
          → v.preparing ≡ w.preparing
      preparing_kept None is = ap (λ (u : World). u.preparing) is
      preparing_kept (Some y) is = is.0.preparing_is
  read_within r None v (Some p) is same =
      named_within v (ap (λ (u : World). u.collection) same) (ap (λ (u : World). u.preparing) same)
  read_within r (Some x) v (Some p) is accepts = named_within v accepts.1 accepts.0.preparing_is

  pub weak_within : (v : World) (command : WeakCmd) (answer : Reply) → WeakInWorld w command answer v → IsWithin d g v
  weak_within v (cmd.Weaken q r) answer h =
      named_within v (ap (λ (u : World). u.collection) h.1) (ap (λ (u : World). u.preparing) h.1)
  weak_within v (cmd.Deref r q) answer h = read_within r (weak_cell w q) v w.preparing refl h.1
  weak_within v (cmd.Watch r) answer h =
      let o = register_cell w.graph r in
      named_within v (ap (λ (u : World). u.collection) h.1 ∙ watch_collection w o)
      (ap (λ (u : World). u.preparing) h.1 ∙ watch_preparing w o)
  weak_within v (cmd.Unwatch r) answer h =
      let o = register_cell w.graph r in
      named_within v (ap (λ (u : World). u.collection) h.1 ∙ unwatch_collection w o)
      (ap (λ (u : World). u.preparing) h.1 ∙ unwatch_preparing w o)
