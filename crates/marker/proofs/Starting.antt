-- A cell was taken from the black pile, and its entries are to be looked at.
use Rattle.std.proofs.Common.{◌≡◌, ◌⊎◌, [], true, Some, inl, inr, refl, sym, ap, ◌∙◌, subst}
use Rattle.gz_names.specs.declared.numbers.Place.{Place}
use Rattle.mark_stack.specs.Stack.{IsPushed, Piles}
use Rattle.mark_stack.specs.declared.stack.Pile.TheVariants as pile
use Rattle.weak_maps.specs.WeakMaps.{IsSound, LooksState}
use Rattle.weak_maps.specs.declared.colours.MarkColour.TheVariants as mark
use Rattle.heap_core.specs.Shape.{IsDelegate}
use Rattle.heap_core.specs.Heap.{HeapState, weak_of}
use Rattle.barriers.specs.Reached.{HasEntry}
use Rattle.barriers.specs.Invariant.{InvariantWhile}
use Rattle.barriers.specs.Scans.{AreScannedOnce, ScansNoMore}
use Rattle.barriers.specs.WeakPoint.{WeakPoint, left_of}
use Rattle.barriers.proofs.Following.{Taken, taken_black}
use Rattle.barriers.proofs.Scans.{once_kept, pops_black}
use Rattle.barriers.proofs.StayingLeft.{left_weaker, starts_entries}
use Rattle.barriers.proofs.WeakPoint.{StartsEntries, black_starts}
use Rattle.marker.specs.Looks.{StartsLooks, with_looks}
use Rattle.marker.proofs.Looking.{holds_on, point_on}

-- what holds before each of them is taken, woken cells or not
pub record Stands (h : HeapState) (p : Piles) : Type 0 where
  pub holds : InvariantWhile [] h p
  pub weak : WeakPoint h p (left_of h)
  pub once : AreScannedOnce h p

-- the entries of which a cell is the map or the delegate are left in black
abbrev pub AreLeft : Place → HeapState → Type 0
AreLeft x k = (m n v d : Place) → HasEntry k.shape m n v → IsDelegate k.shape n d → (x ≡ m) ⊎ (x ≡ d)
    → left_of k mark.Black m n

module _ (h : HeapState) (p q : Piles) (x : Place) (looks : LooksState) (was : Stands h p)
    (popped : IsPushed q pile.Black x p) (sound : IsSound h.shape.weak)
    (starts : StartsLooks mark.Black x h (with_looks h looks)) where
  abbrev m : HeapState
  m = with_looks h looks

  pub started_entries : StartsEntries h.shape mark.Black x (left_of h) (left_of m)
  started_entries = starts_entries h mark.Black x m refl sound starts.map starts.key starts.delegate

  pub started_holds : InvariantWhile [] m p
  started_holds =
      holds_on h looks p [] (λ a n d is bm bd left. inl (started_entries.kept mark.Black a n left)) was.holds

  pub started_taken : Taken [] m q x true
  started_taken = taken_black [] m p q x started_holds popped

  pub started_point : WeakPoint m q (left_of m)
  started_point = point_on h looks q (left_of m) (black_starts h q p x (left_of h) (left_of m) popped was.weak
      was.holds.colours.shape started_entries (left_weaker (weak_of m)))

  pub started_scans : ScansNoMore h p m q
  started_scans = let none = pops_black m q p x popped in record { black = none.black; gray = none.gray }

  pub started_once : AreScannedOnce m q
  started_once = once_kept h p m q started_scans was.once

  pub started_left : AreLeft x m
  started_left a n v d e is at = elim at [
    | inl map ↦ subst (λ z. left_of m mark.Black z n) map (started_entries.as_map n)
    | inr here ↦ started_entries.as_delegate a n
        ((was.holds.colours.shape.delegates a n v d e).0 is ∙ ap (λ z. Some z) (sym here))
  ]
