-- Heaps with the same cells and the same arenas have the same cells of a world.
use Rattle.std.proofs.Common.{◌≡◌, ℕ, List, Option, Some, refl, sym, ap, subst, ◌∙◌}
use Rattle.gz_names.specs.declared.names.Name.{Name}
use Rattle.gz_names.specs.declared.numbers.Place.{Place}
use Rattle.colour_defs.specs.World.{Collection, Preparation, World}
use Rattle.heap_core.specs.Shape.{ArenaShape, AreWhole, Shape, out_in, stored_in}
use Rattle.std.proofs.Common.{slice_get}
use Rattle.cell_bits.specs.declared.bits.Bits.{Bits}
use Rattle.heap_core.specs.Heap.{HeapState}
use Rattle.slice_driver.specs.Represents.{IsBeingSwept, IsPlaced}
use Rattle.slice_driver.specs.Worlds.{IsInFlight, IsUnswept, LiesIn, outs_from, owners_of}
use Rattle.slice_driver.proofs.basics.Cells.{HasSameCells, name_same, shows_same}
use Rattle.slice_driver.proofs.basics.NamesWeakly.{names_weakly_on}
use Rattle.slice_driver.proofs.basics.Rows.{rows_same}

-- what lies in a world does not tell what runs in it
pub lies_running : (h : HeapState) (w : World) (o : Option Collection) (p : Option Preparation) → LiesIn h w
    → LiesIn h (record w { collection = o; preparing = p })
lies_running h w o p l = record {
  whole = l.whole;
  graph = l.graph;
  shown = l.shown;
  part = record { well_formed = l.part.well_formed; part = l.part.part; here = l.part.here };
  places_are = l.places_are;
  owner_is = l.owner_is;
  weak_are = l.weak_are;
  out_is = l.out_is;
  white_are = l.white_are;
}

pub placed_running : (h : HeapState) (w : World) (o : Option Collection) (p : Option Preparation) → IsPlaced h w
    → IsPlaced h (record w { collection = o; preparing = p })
placed_running h w o p i = record { delayed = i.delayed; lies = lies_running h w o p i.lies; homes = i.homes }

-- what stands in arenas and is not present, by the arenas alone
pub unswept_same : (s t : Shape) (p : Place) (x : Name) → t.arenas ≡ s.arenas → IsUnswept s p x → IsUnswept t p x
unswept_same s t p x e u = record {
  bits = u.bits;
  cell = u.cell;
  out_is = subst (λ (xs : List ArenaShape). out_in (slice_get xs p.0) ≡ Some u.bits) (sym e) u.out_is;
  white = u.white;
  cell_is = subst (λ (xs : List ArenaShape). stored_in (slice_get xs p.0) p.1 ≡ Some u.cell) (sym e) u.cell_is;
  name_is = u.name_is;
}

pub lies_same : (h k : HeapState) (w : World) → HasSameCells h k → k.shape.arenas ≡ h.shape.arenas
    → k.weak_names ≡ h.weak_names → LiesIn h w → LiesIn k w
lies_same h k w same e weak l = record {
  whole = subst (λ (xs : List ArenaShape). AreWhole xs) (sym e) l.whole;
  graph = l.graph;
  shown = shows_same h k same l.graph l.shown;
  part = l.part;
  places_are = λ x p. (
    (λ at. name_same h k same p ∙ (l.places_are x p).0 at),
    λ named. (l.places_are x p).1 (sym (name_same h k same p) ∙ named),
  );
  owner_is = l.owner_is ∙ ap owners_of (sym e);
  weak_are = names_weakly_on h.shape k.shape (λ p x at. name_same h k same p ∙ at) h.weak_names k.weak_names w.weak
      w.weak weak refl l.weak_are;
  out_is = l.out_is ∙ ap (outs_from 0) (sym e);
  white_are = λ x p. (
    (λ c. unswept_same h.shape k.shape p x e ((l.white_are x p).0 c)),
    λ u. (l.white_are x p).1 (unswept_same k.shape h.shape p x (sym e) u),
  );
}

pub flies_same : (s t : Shape) (flown : ℕ → Option Bits) → t.arenas ≡ s.arenas → IsInFlight s flown → IsInFlight t flown
flies_same s t flown e f = record {
  covers = λ a. f.covers a ∙ ap (λ (xs : List ArenaShape). Rattle.std.proofs.Common.is_some (out_in (slice_get xs a)))
      (sym e);
  woken = λ a old new out.
      f.woken a old new (subst (λ (xs : List ArenaShape). out_in (slice_get xs a) ≡ Some old) e out);
}

pub placed_same : (h k : HeapState) (w : World) → HasSameCells h k → k.shape.arenas ≡ h.shape.arenas
    → k.delayed ≡ h.delayed → k.weak_names ≡ h.weak_names → IsPlaced h w → IsPlaced k w
placed_same h k w same e delayed weak i = record {
  delayed = delayed ∙ i.delayed;
  lies = lies_same h k w same e weak i.lies;
  homes = rows_same h.shape k.shape same.weak e i.homes;
}

-- the arenas tell what is being swept, but for the bits in flight
pub swept_in : (s t : Shape) (flown flying : ℕ → Option Bits) → t.arenas ≡ s.arenas → IsInFlight t flying
    → IsBeingSwept s flown → IsBeingSwept t flying
swept_in s t flown flying e flies b = record {
  apart = λ x p q up uq. b.apart x p q (unswept_same t s p x (sym e) up) (unswept_same t s q x (sym e) uq);
  flies = flies;
}

pub swept_same : (s t : Shape) (flown : ℕ → Option Bits) → t.arenas ≡ s.arenas → IsBeingSwept s flown
    → IsBeingSwept t flown
swept_same s t flown e b = swept_in s t flown flown e (flies_same s t flown e b.flies) b
