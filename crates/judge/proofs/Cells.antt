-- The names that are present, and those that a command wakes.
use Rattle.std.proofs.Common.{◌≡◌, ◌↔◌, ◌∙◌, Bool, true, false, cond, ℕ, [], ◌∷◌, ◌++◌, length, Option, Some, None}
use Rattle.std.proofs.Common.{Contains, refl, sym, ap}
use Rattle.std.specs.Prelude.{is_some, nat_lt, slice_set}
use Rattle.std.specs.BTreeMap as tree
use Rattle.std.specs.Cmp.{IsTotalOrder}
use Rattle.std.specs.Ordering.{is_eq, ordering_reverse}
use Rattle.std.proofs.lemmas.Map.Lookups.{CmpEqualImpliesEq}
use Rattle.std.proofs.lemmas.Map.Views.{btree_map_contains_key_iff}
use Rattle.gz_names.specs.declared.names.Name.{Name}
use Rattle.gz_names.specs.declared.names.Name.TheVariants.{Cell, Wrap}
use Rattle.gz_names.specs.declared.numbers.CompNo.{CompNo}
use Rattle.gz_names.specs.declared.numbers.Place.{Place}
use Rattle.gz_names.specs.declared.commands.GraphCmd.{GraphCmd}
use Rattle.gz_names.specs.declared.commands.GraphCmd.TheVariants as cmd
use Rattle.gz_names.specs.declared.replies.Reply.{Reply}
use Rattle.gz_names.specs.declared.replies.Reply.TheVariants as reply
use Rattle.gz_names.specs.declared.replies.Refusal.{Refusal}
use Rattle.gz_names.specs.declared.replies.Refusal.TheVariants as refusal
use Rattle.gz_names.specs.Order.{name_cmp, names_total}
use Rattle.colour_defs.specs.declared.graph.Object.{Object}
use Rattle.colour_defs.specs.Graph.{GraphState, has_wrapper, register_cell, slot_cell, zone_of}
use Rattle.colour_defs.specs.Step.{is_in_comp, named_or_null, new_map, new_object, refusal_in, refuse, step_of}
use Rattle.colour_defs.specs.Step.{target_of, unwrap_from, with_register, wrap_from}
use Rattle.colour_defs.specs.World.{target_cell, woken_by_wrap}
use Rattle.plain_graph.specs.Indexed.{order_of}
use Rattle.plain_graph.proofs.Indexes.{order_ties}
use Rattle.judge.specs.Cells.{Cells, GivesPlace, HasCell, also_woken_in, made_in, named_in, unless_refused, wakes}
use Rattle.judge.specs.Cells.{wakes_also, woken_in, wrapper_in}

pub order_is : (a b : Name) → order_of a b ≡ name_cmp a b
order_is (Cell a) (Cell b) = refl
order_is (Cell a) (Wrap d b) = refl
order_is (Wrap c a) (Cell b) = refl
order_is (Wrap c a) (Wrap d b) = refl

pub names_ordered : IsTotalOrder order_of
names_ordered = record {
  antisymm = λ x y. order_is x y ∙ names_total.antisymm x y ∙ ap ordering_reverse (sym (order_is y x));
  trans = λ x y z p q.
      order_is x z ∙ names_total.trans x y z (sym (order_is x y) ∙ p) (sym (order_is y z) ∙ q);
  congr = λ x y z p. order_is x z ∙ names_total.congr x y z (sym (order_is x y) ∙ p) ∙ sym (order_is y z);
}

pub names_exact : CmpEqualImpliesEq order_of
names_exact x y e = order_ties x y (ap is_eq e)

pub cell_among : (cells : Cells) (x : Name) → HasCell cells x ↔ Contains (tree.keys cells) x
cell_among cells x = btree_map_contains_key_iff names_ordered names_exact cells x

-- names that differ are told apart
pub apart : (x y : Name) → (x ≡ y → ⊥) → is_eq (order_of x y) ≡ false
apart x y n = go (is_eq (order_of x y)) refl
  where
    go : (b : Bool) → is_eq (order_of x y) ≡ b → b ≡ false
    go true e = absurd (n (order_ties x y e))
    go false e = refl

-- a name that is present, one that has no zone, and one that gets a place
pub gives_found : (g : GraphState) (cells : Cells) (x : Name) → HasCell cells x → GivesPlace g cells x cells
gives_found g cells x here = record { found = λ h. refl; made = λ z e. here; others = λ y n. refl }

pub gives_nothing : (g : GraphState) (cells : Cells) (x : Name) → ((z : ℕ) → zone_of g x ≡ Some z → ⊥)
    → GivesPlace g cells x cells
gives_nothing g cells x none =
    record { found = λ h. refl; made = λ z e. absurd (none z e); others = λ y n. refl }

pub gives_made : (g : GraphState) (old new : Cells) (x : Name) (p : Place) → (HasCell old x → ⊥)
    → tree.Updates order_of old new x (Some p) → GivesPlace g old x new
gives_made g old new x p absent up = record {
  found = λ h. absurd (absent h);
  made = λ z e. ap is_some up.1;
  others = λ y n. up.2 y (apart x y n);
}

-- what a reply says of the name that a command wakes is what the definitions say
none_either : (why : Option Refusal) → None ≡ unless_refused why None
none_either None = refl
none_either (Some why) = refl

abbrev made_by : Bool → GraphState → ℕ → Object → GraphState × Reply
made_by b g r o =
    cond b (
      record g {
        objects = g.objects ++ Some o ∷ [];
        registers = slice_set g.registers r (Some (Cell (length g.objects)));
      },
      reply.Made (length g.objects),
    ) (refuse g refusal.NoComp)

made_is : (b : Bool) (g : GraphState) (r : ℕ) (o : Object)
    → made_in (made_by b g r o).1 ≡ unless_refused (refusal_in (made_by b g r o).1) (Some (Cell (length g.objects)))
made_is true g r o = refl
made_is false g r o = refl

exposed_is : (x : Option Name)
    → named_in (named_or_null x) ≡ unless_refused (refusal_in (named_or_null x)) x
exposed_is None = refl
exposed_is (Some x) = refl

abbrev pub wrapped_by : Bool → Bool → Bool → GraphState → ℕ → CompNo → ℕ → GraphState × Reply
wrapped_by made here known g r c t =
    cond made (cond here (with_register g r (Some (Cell t)), reply.Named (Cell t)) (
    cond known (with_register g r (Some (Wrap c t)), reply.Named (Wrap c t)) (
      record (with_register g r (Some (Wrap c t))) { wrappers = g.wrappers ++ (c, t) ∷ [] },
      reply.Named (Wrap c t),
    )
    )) (refuse g refusal.NoComp)

wrapped_by_is : (made here known : Bool) (g : GraphState) (r : ℕ) (c : CompNo) (t : ℕ)
    → wrapper_in (named_in (wrapped_by made here known g r c t).1)
    ≡ unless_refused (refusal_in (wrapped_by made here known g r c t).1) (cond here None (Some (Wrap c t)))
wrapped_by_is true true known g r c t = refl
wrapped_by_is true false true g r c t = refl
wrapped_by_is true false false g r c t = refl
wrapped_by_is false true known g r c t = refl
wrapped_by_is false false known g r c t = refl

wrapped_is : (g : GraphState) (r : ℕ) (x : Option Name) (c : CompNo)
    → wrapper_in (named_in (wrap_from g r x c).1)
    ≡ unless_refused (refusal_in (wrap_from g r x c).1) (woken_by_wrap g x c)
wrapped_is g r None c = refl
wrapped_is g r (Some x) c =
    wrapped_by_is (nat_lt c.0 (length g.comps)) (is_in_comp g c (Cell (target_of x)))
    (has_wrapper g c (target_of x)) g r
    c (target_of x)

pub woken_is : (g : GraphState) (c : GraphCmd) → woken_in c (step_of g c).1 ≡ wakes g c
woken_is g cmd.Zone = none_either (refusal_in (step_of g cmd.Zone).1)
woken_is g (cmd.Comp z) = none_either (refusal_in (step_of g (cmd.Comp z)).1)
woken_is g (cmd.New r c n) = made_is (nat_lt c.0 (length g.comps)) g r (new_object c n)
woken_is g (cmd.Map r c) = made_is (nat_lt c.0 (length g.comps)) g r (new_map c)
woken_is g (cmd.Get r s f) = none_either (refusal_in (step_of g (cmd.Get r s f)).1)
woken_is g (cmd.Set s f t) = none_either (refusal_in (step_of g (cmd.Set s f t)).1)
woken_is g (cmd.Wrap r s c) = wrapped_is g r (register_cell g s) c
woken_is g (cmd.Unwrap r s) = none_either (refusal_in (step_of g (cmd.Unwrap r s)).1)
woken_is g (cmd.Copy r s) = none_either (refusal_in (step_of g (cmd.Copy r s)).1)
woken_is g (cmd.Drop r) = none_either (refusal_in (step_of g (cmd.Drop r)).1)
woken_is g (cmd.Hold s r) = none_either (refusal_in (step_of g (cmd.Hold s r)).1)
woken_is g (cmd.Release s) = none_either (refusal_in (step_of g (cmd.Release s)).1)
woken_is g (cmd.Expose r s) = exposed_is (slot_cell g s)
woken_is g (cmd.Put m k v) = none_either (refusal_in (step_of g (cmd.Put m k v)).1)
woken_is g (cmd.Del m k) = none_either (refusal_in (step_of g (cmd.Del m k)).1)
woken_is g (cmd.Find r m k) = none_either (refusal_in (step_of g (cmd.Find r m k)).1)

-- a reply that says nothing of a cell
pub none_made : (r : Reply) → ((n : ℕ) → r ≡ reply.Made n → ⊥) → None ≡ made_in r
none_made (reply.Made n) other = absurd (other n refl)
none_made r other = refl

pub none_named : (r : Reply) → ((x : Name) → r ≡ reply.Named x → ⊥) → None ≡ named_in r
none_named (reply.Named x) other = absurd (other x refl)
none_named r other = refl

-- a command that wakes nothing
pub none_woken : (c : GraphCmd) (r : Reply) → ((a : ℕ) (b : CompNo) (n : ℕ) → c ≡ cmd.New a b n → ⊥)
    → ((a : ℕ) (b : CompNo) → c ≡ cmd.Map a b → ⊥) → ((a s : ℕ) (b : CompNo) → c ≡ cmd.Wrap a s b → ⊥)
    → ((a s : ℕ) → c ≡ cmd.Expose a s → ⊥) → None ≡ woken_in c r
none_woken (cmd.New a b n) r new map wrap expose = absurd (new a b n refl)
none_woken (cmd.Map a b) r new map wrap expose = absurd (map a b refl)
none_woken (cmd.Wrap a s b) r new map wrap expose = absurd (wrap a s b refl)
none_woken (cmd.Expose a s) r new map wrap expose = absurd (expose a s refl)
none_woken c r new map wrap expose = refl

-- what a reply says of a second name that a command wakes is what the definitions say
also_by_is : (made here known : Bool) (g : GraphState) (r : ℕ) (c : CompNo) (t : ℕ)
    → target_cell (named_in (wrapped_by made here known g r c t).1)
    ≡ unless_refused (refusal_in (wrapped_by made here known g r c t).1) (Some (Cell t))
also_by_is true true known g r c t = refl
also_by_is true false true g r c t = refl
also_by_is true false false g r c t = refl
also_by_is false true known g r c t = refl
also_by_is false false known g r c t = refl

also_wrapped_is : (g : GraphState) (r : ℕ) (x : Option Name) (c : CompNo)
    → target_cell (named_in (wrap_from g r x c).1) ≡ unless_refused (refusal_in (wrap_from g r x c).1) (target_cell x)
also_wrapped_is g r None c = refl
also_wrapped_is g r (Some x) c =
    also_by_is (nat_lt c.0 (length g.comps)) (is_in_comp g c (Cell (target_of x))) (has_wrapper g c (target_of x)) g r
    c (target_of x)

also_unwrapped_is : (g : GraphState) (r : ℕ) (x : Option Name)
    → target_cell (named_in (unwrap_from g r x).1) ≡ unless_refused (refusal_in (unwrap_from g r x).1) (target_cell x)
also_unwrapped_is g r None = refl
also_unwrapped_is g r (Some (Cell n)) = refl
also_unwrapped_is g r (Some (Wrap c t)) = refl

pub also_woken_is : (g : GraphState) (c : GraphCmd) → also_woken_in c (step_of g c).1 ≡ wakes_also g c
also_woken_is g (cmd.Wrap r s c) = also_wrapped_is g r (register_cell g s) c
also_woken_is g (cmd.Unwrap r s) = also_unwrapped_is g r (register_cell g s)
also_woken_is g cmd.Zone = none_either (refusal_in (step_of g cmd.Zone).1)
also_woken_is g (cmd.Comp z) = none_either (refusal_in (step_of g (cmd.Comp z)).1)
also_woken_is g (cmd.New r c n) = none_either (refusal_in (step_of g (cmd.New r c n)).1)
also_woken_is g (cmd.Map r c) = none_either (refusal_in (step_of g (cmd.Map r c)).1)
also_woken_is g (cmd.Get r s f) = none_either (refusal_in (step_of g (cmd.Get r s f)).1)
also_woken_is g (cmd.Set s f t) = none_either (refusal_in (step_of g (cmd.Set s f t)).1)
also_woken_is g (cmd.Copy r s) = none_either (refusal_in (step_of g (cmd.Copy r s)).1)
also_woken_is g (cmd.Drop r) = none_either (refusal_in (step_of g (cmd.Drop r)).1)
also_woken_is g (cmd.Hold s r) = none_either (refusal_in (step_of g (cmd.Hold s r)).1)
also_woken_is g (cmd.Release s) = none_either (refusal_in (step_of g (cmd.Release s)).1)
also_woken_is g (cmd.Expose r s) = none_either (refusal_in (step_of g (cmd.Expose r s)).1)
also_woken_is g (cmd.Put m k v) = none_either (refusal_in (step_of g (cmd.Put m k v)).1)
also_woken_is g (cmd.Del m k) = none_either (refusal_in (step_of g (cmd.Del m k)).1)
also_woken_is g (cmd.Find r m k) = none_either (refusal_in (step_of g (cmd.Find r m k)).1)

-- a command that wakes no second name
pub none_also : (c : GraphCmd) (r : Reply) → ((a s : ℕ) (b : CompNo) → c ≡ cmd.Wrap a s b → ⊥)
    → ((a s : ℕ) → c ≡ cmd.Unwrap a s → ⊥) → None ≡ also_woken_in c r
none_also (cmd.Wrap a s b) r wrap unwrap = absurd (wrap a s b refl)
none_also (cmd.Unwrap a s) r wrap unwrap = absurd (unwrap a s refl)
none_also c r wrap unwrap = refl
