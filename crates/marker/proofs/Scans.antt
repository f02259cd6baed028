-- What gray marking does to the scans to come.
use Rattle.std.proofs.Common.{◌≡◌, ◌≤◌, ◌∷◌, List, inl, inr, sym, ap, subst, arith}
use Rattle.std.specs.List.Sorted.{IsPermutation}
use Rattle.gz_names.specs.declared.numbers.Place.{Place}
use Rattle.mark_stack.specs.Stack.{Piles}
use Rattle.heap_core.specs.Heap.{HeapState, colour_of}
use Rattle.barriers.specs.Scans.{ScansNoMore, black_scans, black_turns, gray_scans, gray_turns}
use Rattle.barriers.proofs.Places.{same_or_other}
use Rattle.barriers.proofs.Scans.{on_as_before, on_once_more}
use Rattle.marker.specs.Shading.{Grayed}

-- a cell that turned gray is on the gray pile: no cell may be scanned more often
pub grayed_no_more : (h : HeapState) (p : Piles) (x : Place) (more : List Place) (k : HeapState)
    → IsPermutation (x ∷ p.gray) more → Grayed h x k → ScansNoMore h p k (record p { gray = more })
grayed_no_more h p x more k is_more g = record { black = black; gray = gray }
  where
    black : (y : Place) → black_scans k (record p { gray = more }) y ≤ black_scans h p y
    black y = elim (same_or_other y x) [
      | inl same ↦ subst (λ z. black_scans k (record p { gray = more }) z ≤ black_scans h p z) (sym same)
          (let now : black_turns (colour_of k x) ≡ 1 = ap black_turns g.gray in
          let was : black_turns (colour_of h x) ≡ 1 = ap black_turns g.white in
          omega (arith, now, was))
      | inr other ↦ (let alike = ap black_turns (g.others y other) in omega (arith, alike))
    ]

    gray : (y : Place) → gray_scans k (record p { gray = more }) y ≤ gray_scans h p y
    gray y = elim (same_or_other y x) [
      | inl same ↦ subst (λ z. gray_scans k (record p { gray = more }) z ≤ gray_scans h p z) (sym same)
          (let now : gray_turns (colour_of k x) ≡ 0 = ap gray_turns g.gray in
          let was : gray_turns (colour_of h x) ≡ 1 = ap gray_turns g.white in
          omega (arith, now, was, on_once_more p.gray more x is_more))
      | inr other ↦ (let alike = ap gray_turns (g.others y other) in
          omega (arith, alike, on_as_before p.gray more x y is_more other))
    ]
