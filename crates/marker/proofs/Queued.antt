-- A cell that turned gray becomes pending on the gray pile.
use Rattle.std.proofs.Common.{◌≡◌, ◌<◌, ℕ, Option, Contains, inl, inr, length, ap, sym, subst}
use Rattle.gz_names.specs.declared.numbers.Place.{Place}
use Rattle.cell_bits.specs.declared.bits.Bits.{Bits}
use Rattle.mark_stack.specs.Stack.{IsPushed, Piles}
use Rattle.mark_stack.specs.declared.stack.Pile.TheVariants as pile
use Rattle.heap_core.specs.Shape.{IsPresent, Shape}
use Rattle.heap_core.specs.Heap.{HeapState, joined}
use Rattle.heap_core.proofs.Places.{present_within}
use Rattle.barriers.specs.Pending.{pending}
use Rattle.barriers.specs.Invariant.{PileInvariant}
use Rattle.barriers.proofs.Queueing.{pending_same}
use Rattle.marker.specs.Shading.{Grayed, Shades}

module _ (h m : HeapState) (f : ℕ → Option Bits) (s : Piles) (x : Place) (grayed : Grayed (joined h f) x (joined m f))
    (delayed : m.delayed ≡ h.delayed) where
  pub grayed_within : IsPresent h.shape x → x.0 < length m.shape.arenas
  grayed_within present = subst (λ (z : Shape). x.0 < length z.arenas)
      (sym (ap (λ (z : HeapState). z.shape) grayed.rest)) (present_within h.shape x present)

  -- it was not pending
  pub grayed_fresh : PileInvariant (joined h f) (pending h s) → Contains (pending m s).gray x → ⊥
  grayed_fresh inv c =
      let white = grayed.white in
      elim (inv.gray x (subst (λ (q : Piles). Contains q.gray x) (pending_same h m s delayed) c)) [
        | inl gray ↦ cc (gray, white)
        | inr black ↦ cc (black, white)
      ]

  -- and now it is
  pub grayed_pending : (k : HeapState) (t : Piles) → IsPushed (pending m s) pile.Gray x (pending k t)
      → k ≡ record m { delayed = k.delayed } → Shades (joined h f) (pending h s) x (joined k f) (pending k t)
  grayed_pending k t more rest = inr (
    subst (λ (z : HeapState). Grayed (joined h f) x z) (sym (ap (λ (z : HeapState). joined z f) rest)) grayed,
    subst (λ (q : Piles). IsPushed q pile.Gray x (pending k t)) (pending_same h m s delayed) more,
  )
