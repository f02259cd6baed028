-- In a heap without weak entries nothing is to be looked at, whichever cells are started.
use Rattle.std.proofs.Common.{◌≡◌, ◌≢◌, ◌∙◌, List, [], ◌∷◌, length, refl, sym, subst}
use Rattle.std.proofs.lemmas.List.{nil_from_length}
use Rattle.gz_names.specs.declared.numbers.Place.{Place}
use Rattle.mark_stack.specs.Stack.{Piles}
use Rattle.weak_maps.specs.Delegates.{DelegateRow}
use Rattle.weak_maps.specs.WeakMaps.{AreParallel, IsSound, LooksState}
use Rattle.weak_maps.specs.declared.entries.WeakEntry.{WeakEntry}
use Rattle.weak_maps.specs.declared.colours.MarkColour.TheVariants as mark
use Rattle.weak_maps.proofs.Kept.{no_rows_without}
use Rattle.weak_maps.proofs.Tying.{Starts-none}
use Rattle.heap_core.specs.Heap.{HeapState, weak_of}
use Rattle.mark_ahead.specs.Ahead.{PopsAll, StartsAll}
use Rattle.marker.specs.Looks.{StartsLooks, with_looks}

-- each entry, and each row, had its looks before a cell was started
parallel_before : (h : HeapState) (x : Place) (a b : LooksState)
    → StartsLooks mark.Black x (with_looks h a) (with_looks h b) → AreParallel (weak_of (with_looks h a))
parallel_before h x a b starts = (
  sym starts.map.sized ∙ starts.parallel.0,
  sym starts.key.sized ∙ starts.parallel.1,
  sym starts.delegate.sized ∙ starts.parallel.2,
)

-- and before several were
parallel_first : (h : HeapState) (xs : List Place) (a d : LooksState) → StartsAll h xs a d
    → AreParallel (weak_of (with_looks h d)) → AreParallel (weak_of (with_looks h a))
parallel_first h [] a d same parallel =
    subst (λ (l : LooksState). AreParallel (weak_of (with_looks h l))) same parallel
parallel_first h (x ∷ xs) a d (b, sound, starts, rest) parallel = parallel_before h x a b starts

-- where some cell was taken off the pile and started, the entries are sound, and each had its looks
pub popped_sound : (h : HeapState) (xs : List Place) (a d : LooksState) (p q : Piles) → PopsAll h xs a p d q → xs ≢ []
    → IsSound h.shape.weak × AreParallel (weak_of (with_looks h a))
popped_sound h [] a d p q pops some = absurd (some refl)
popped_sound h (x ∷ xs) a d p q (b, r, popped, sound, starts, rest) some = (sound, parallel_before h x a b starts)

module _ (h : HeapState) (sound : IsSound h.shape.weak) (none : length h.shape.weak.entries ≡ 0) where
  no_rows : length h.shape.weak.delegates.rows ≡ 0
  no_rows = no_rows_without h.shape.weak sound none

  no_looks : (a : LooksState) → AreParallel (weak_of (with_looks h a))
      → a ≡ record { by_map = []; by_key = []; by_delegate = [] }
  no_looks a parallel = λ i. record {
    by_map = nil_from_length a.by_map (parallel.0 ∙ none) i;
    by_key = nil_from_length a.by_key (parallel.1 ∙ none) i;
    by_delegate = nil_from_length a.by_delegate (parallel.2 ∙ no_rows) i;
  }

  start_one : (x : Place) (a : LooksState) → AreParallel (weak_of (with_looks h a))
      → StartsLooks mark.Black x (with_looks h a) (with_looks h a)
  start_one x a parallel = record {
    map = Starts-none (λ (entry : WeakEntry). entry.map) mark.Black x h.shape.weak.entries a.by_map none;
    key = Starts-none (λ (entry : WeakEntry). entry.key) mark.Black x h.shape.weak.entries a.by_key none;
    delegate = Starts-none (λ (row : DelegateRow). row.target) mark.Black x h.shape.weak.delegates.rows a.by_delegate
        no_rows;
    parallel = parallel;
  }

  start_each : (xs : List Place) (a : LooksState) → AreParallel (weak_of (with_looks h a)) → StartsAll h xs a a
  start_each [] a parallel = refl
  start_each (x ∷ xs) a parallel = (a, sound, start_one x a parallel, start_each xs a parallel)

  -- where some cells were started, it is as if others were
  pub others_started : (xs ys : List Place) (a d : LooksState) → StartsAll h xs a d
      → AreParallel (weak_of (with_looks h d)) → StartsAll h ys a d
  others_started xs ys a d starts parallel =
      let first = parallel_first h xs a d starts parallel in
      subst (λ (l : LooksState). StartsAll h ys a l) (no_looks a first ∙ sym (no_looks d parallel))
      (start_each ys a first)
