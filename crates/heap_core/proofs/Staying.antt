-- A heap of which no cell goes.
use Rattle.std.proofs.Common.{◌≡◌, ℕ, zero, suc, List, [], ◌∷◌, map, Option, Some, None, option_map, slice_set, refl}
use Rattle.std.proofs.Common.{sym}
use Rattle.std.proofs.Common.{ap}
use Rattle.gz_names.specs.Moves.{moved}
use Rattle.gz_names.specs.declared.numbers.Place.{Place}
use Rattle.arena_table.specs.Cells.{CellState}
use Rattle.arena_table.specs.Moving.{forwarded}
use Rattle.wrappers.specs.WrapperMaps.{WrappersState, all_forwarded, list_at}
use Rattle.wrappers.specs.declared.wrapper_maps.WrapperKey.{WrapperKey}
use Rattle.weak_maps.specs.Delegates.{DelegateRow}
use Rattle.weak_maps.specs.Moving.{entry_forwarded, row_forwarded, table_forwarded}
use Rattle.weak_maps.specs.WeakMaps.{WeakTableState}
use Rattle.weak_maps.specs.declared.entries.WeakEntry.{WeakEntry}
use Rattle.weak_refs.specs.WeakNames.{WeakNamesState, names_forwarded}
use Rattle.heap_core.specs.Heap.{HeapState}
use Rattle.heap_core.specs.Moving.{Carries, MayRelocate, wrappers_forwarded, zones_now}
use Rattle.heap_core.specs.Shape.{cell_of}

pub held-same : (os : List (Option Place)) → map (option_map (moved [])) os ≡ os
held-same [] = refl
held-same (None ∷ os) = ap (λ ys. None ∷ ys) (held-same os)
held-same (Some p ∷ os) = ap (λ ys. Some p ∷ ys) (held-same os)

places-same : (ps : List Place) → map (moved []) ps ≡ ps
places-same [] = refl
places-same (p ∷ ps) = ap (λ ys. p ∷ ys) (places-same ps)

pub cell-same : (o : Option CellState) → option_map (forwarded []) o ≡ o
cell-same None = refl
cell-same (Some cell) = ap (λ (fields : List (Option Place)). Some (record cell { fields = fields }))
    (held-same cell.fields)

list-same : (es : List (WrapperKey × Place)) → all_forwarded [] es ≡ es
list-same [] = refl
list-same (e ∷ es) = ap (λ ys. e ∷ ys) (list-same es)

lists-same : (lists : List (List (WrapperKey × Place))) (zone : ℕ)
    → slice_set lists zone (all_forwarded [] (list_at lists zone)) ≡ lists
lists-same [] zone = refl
lists-same (es ∷ lists) zero = ap (λ ds. ds ∷ lists) (list-same es)
lists-same (es ∷ lists) (suc zone) = ap (λ ds. es ∷ ds) (lists-same lists zone)

pub wrappers-same : (w : WrappersState) (zone : ℕ) → wrappers_forwarded [] zone w ≡ w
wrappers-same w zone = ap (λ (lists : List (List (WrapperKey × Place))). record { lists = lists })
    (lists-same w.lists zone)

entries-same : (es : List WeakEntry) → map (entry_forwarded []) es ≡ es
entries-same [] = refl
entries-same (e ∷ es) = ap (λ ys. e ∷ ys) (entries-same es)

rows-same : (rows : List DelegateRow) → map (row_forwarded []) rows ≡ rows
rows-same [] = refl
rows-same (row ∷ rows) = ap (λ ys. row ∷ ys) (rows-same rows)

pub weak-same : (w : WeakTableState) → table_forwarded [] w ≡ w
weak-same w = λ j. record w {
  entries = entries-same w.entries j;
  delegates = record w.delegates { rows = rows-same w.delegates.rows j };
}

names-same : (names : WeakNamesState) → names_forwarded [] names ≡ names
names-same names = λ j. record { slots = held-same names.slots j; watched = places-same names.watched j }

pub carries-none : (h : HeapState) (zone : ℕ) → MayRelocate h → Carries (zones_now h) h zone [] h
carries-none h zone may = record {
  rest = λ j. record h {
    shape = record h.shape {
      wrappers = sym (wrappers-same h.shape.wrappers zone) j;
      weak = sym (weak-same h.shape.weak) j;
      regs = sym (held-same h.shape.regs) j;
      slots = sym (held-same h.shape.slots) j;
    };
    weak_names = sym (names-same h.weak_names) j;
  };
  cells = λ p held. sym (cell-same (cell_of h.shape p));
  back = λ q held. (q, held, refl);
  zones = λ p held. refl;
  colours = λ p held. refl;
  clear = λ seen. seen;
  owners = refl;
  outs = may.kept;
  whole = λ whole. whole;
  sized = λ sized. sized;
  shows = λ g shows. shows;
}
