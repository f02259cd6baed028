-- The place of a new cell is one, so that the judge and the world put it into the same.
use Rattle.std.proofs.Common.{◌≡◌, ◌∙◌, ◌⊎◌, inl, inr, ℕ, ◌<◌, ◌≤◌, Bool, true, false, cond, List}
use Rattle.std.proofs.Common.{Option, Some, refl, sym, ap, subst, arith}
use Rattle.std.specs.BTreeMap as tree
use Rattle.std.specs.FinMap as finite
use Rattle.std.specs.Ordering.{eq_by_cmp}
use Rattle.gz_names.specs.Order.{name_cmp, names_total}
use Rattle.gz_names.specs.declared.names.Name.{Name}
use Rattle.colour_defs.specs.Graph.{GraphState}
use Rattle.colour_defs.specs.World.{HasPlace, IsPlaceFor, IsPresent, World}
use Rattle.colour_defs.proofs.Carried.{present_or}
use Rattle.colour_defs.proofs.Names.{eq_name-is, eq_name-refl}
use Rattle.plain_graph.specs.Indexed.{order_of}
use Rattle.judge.specs.Cells.{GivesPlace}
use Rattle.judge.specs.Represents.{IsInPlace, Represents}
use Rattle.judge.specs.Stages.{Shown}
use Rattle.judge.proofs.Standing.{present_is}
use Rattle.judge.proofs.Watching.{same_or_not}

same_pair : (p q : ℕ × ℕ) → p.0 ≡ q.0 → p.1 ≡ q.1 → p ≡ q
same_pair (a, b) (c, d) e f = ap (λ x. (x, b)) e ∙ ap (λ y. (c, y)) f

lowest_one : (p q : ℕ × ℕ) → (p.0 < q.0) ⊎ ((p.0 ≡ q.0) × (p.1 ≤ q.1)) → (q.0 < p.0) ⊎ ((q.0 ≡ p.0) × (q.1 ≤ p.1))
    → p ≡ q
lowest_one p q (inl a) (inl b) = absurd (omega arith)
lowest_one p q (inl a) (inr b) = absurd (omega arith)
lowest_one p q (inr a) (inl b) = absurd (omega arith)
lowest_one p q (inr a) (inr b) = same_pair p q a.0 (omega (arith, a.1, b.1))

pub one_place_for : (w : World) (z : ℕ) (p q : ℕ × ℕ) (o r : List (Option ℕ)) → IsPlaceFor w z p o → IsPlaceFor w z q r
    → (p ≡ q) × (o ≡ r)
one_place_for w z p q o r (inl a) (inl b) = (lowest_one p q (a.2 q b.0) (b.2 p a.0), a.1 ∙ sym b.1)
one_place_for w z p q o r (inl a) (inr b) = absurd (b.0 p a.0)
one_place_for w z p q o r (inr a) (inl b) = absurd (a.0 q b.0)
one_place_for w z p q o r (inr a) (inr b) = (a.1 ∙ sym b.1, a.2 ∙ sym b.2)

get_inserted : (m : finite.FinMap name_cmp (ℕ × ℕ)) (x : Name) (p : ℕ × ℕ) → finite.get (finite.insert m x p) x ≡ Some p
get_inserted m x p =
    finite.get-insert names_total m x p x ∙ ap (λ b. cond b (Some p) (finite.get m x)) (eq_name-refl x)

get_beside : (m : finite.FinMap name_cmp (ℕ × ℕ)) (x : Name) (p : ℕ × ℕ) (y : Name) → (x ≡ y → ⊥)
    → finite.get (finite.insert m x p) y ≡ finite.get m y
get_beside m x p y other = finite.get-insert names_total m x p y ∙ go (eq_by_cmp name_cmp y x) refl
  where
    go : (b : Bool) → eq_by_cmp name_cmp y x ≡ b → cond b (Some p) (finite.get m y) ≡ finite.get m y
    go true e = absurd (other (sym (eq_name-is y x e)))
    go false e = refl

-- a name that a change wakes, in the judge's world and in that of the definitions
module _ {g : GraphState} {old new : Shown} {w v : World} (stands : Represents g old w) (h : GraphState) (x : Name)
    (has : HasPlace w h x v) (gives : GivesPlace h old.cells x new.cells) (lies : IsInPlace h x old new) where
  abbrev SamePlaces : Type 0
  SamePlaces = ((y : Name) → finite.get v.places y ≡ tree.get order_of new.cells y) × (v.owner ≡ new.owners)

  found_place : IsPresent w x → SamePlaces
  found_place here =
      let cell = (present_is stands x).0 here in
      let was = has.found here in (
        λ y. ap (λ (m : finite.FinMap name_cmp (ℕ × ℕ)). finite.get m y) was.0 ∙ stands.places_are y
            ∙ ap (λ cells. tree.get order_of cells y) (sym (gives.found cell)),
        was.1 ∙ stands.owners_are ∙ sym (lies.found cell),
      )

  made_place : (IsPresent w x → ⊥) → SamePlaces
  made_place absent =
      let m = has.made absent in
      let (z, p, zone, place, into) = m in
      let l = lies.made (λ c. absent ((present_is stands x).1 c)) z zone in
      let (q, judged, at) = l in
      let same = one_place_for w z p q v.owner new.owners place
      (judged w stands.owners_are stands.out_are stands.places_are) in (
        λ y. ap (λ (n : finite.FinMap name_cmp (ℕ × ℕ)). finite.get n y) into ∙ elim (same_or_not x y) [
          | inl e ↦ subst (λ u. finite.get (finite.insert w.places x p) u ≡ tree.get order_of new.cells u) e
              (get_inserted w.places x p ∙ ap Some same.0 ∙ sym at)
          | inr other ↦ get_beside w.places x p y other ∙ stands.places_are y ∙ sym (gives.others y other)
        ],
        same.1,
      )

  pub same_places : ((y : Name) → finite.get v.places y ≡ tree.get order_of new.cells y) × (v.owner ≡ new.owners)
  same_places = elim (present_or w x) [ inl here ↦ found_place here | inr absent ↦ made_place absent ]
