-- In no list entries are to be looked at where none were.
use Rattle.std.proofs.Common.{◌≡◌, ◌≤◌, inl, inr, ℕ, List, Some, set, slice_get, refl, sym, ◌∙◌, ap, arith, length-set}
use Rattle.weak_maps.specs.Listings.{ListingState}
use Rattle.weak_maps.specs.Seats.{NoMoreLeft}
use Rattle.weak_maps.proofs.Reading.{slice_get-set_cases}

pub NoMoreLeft-same : (lists : List ListingState) → NoMoreLeft lists lists
NoMoreLeft-same lists = record { sized = refl; only = λ j n c at left. (n, at, left) }

pub NoMoreLeft-trans : (a b c : List ListingState) → NoMoreLeft a b → NoMoreLeft b c → NoMoreLeft a c
NoMoreLeft-trans a b c first second = record {
  sized = second.sized ∙ first.sized;
  only = λ j n k at left. (let mid = second.only j n k at left in first.only j mid.0 k mid.1 mid.2);
}

pub NoMoreLeft-set : (lists : List ListingState) (j : ℕ) (l n : ListingState) → slice_get lists j ≡ Some l
    → n.left ≤ l.left → n.colour ≡ l.colour → NoMoreLeft lists (set lists j n)
NoMoreLeft-set lists j l n here fewer colour = record {
  sized = length-set lists j n;
  only = λ k m c at left. elim (slice_get-set_cases lists j k n m at) [
    | inl (same, is, _) ↦ (
        let size = ap (λ (s : ListingState). s.left) is in
        let some = left.0 in (
          l,
          ap (slice_get lists) same ∙ here,
          (omega (arith, size, some, fewer), sym colour ∙ (ap (λ (s : ListingState). s.colour) (sym is) ∙ left.1)),
        ))
    | inr (_, old) ↦ (m, old, left)
  ];
}
