-- What a heap shows of what is looked up in it.
use Rattle.std.proofs.Common.{◌≡◌, ℕ, true, false, List, Option, Some, None, slice_index_or, refl, ap, ◌∙◌}
use Rattle.std.specs.Option.{option_map}
use Rattle.std.proofs.Math.ListN.{get_or-map}
use Rattle.gz_names.specs.declared.names.Name.{Name}
use Rattle.gz_names.specs.declared.names.Name.TheVariants.{Cell, Wrap}
use Rattle.gz_names.specs.declared.numbers.CompNo.{CompNo}
use Rattle.gz_names.specs.declared.numbers.Place.{Place}
use Rattle.arena_table.specs.Cells.{CellState}
use Rattle.colour_defs.specs.Graph.{GraphState, object_of, register_cell, slot_cell}
use Rattle.colour_defs.proofs.Lists.{get_contains}
use Rattle.heap_core.specs.Shape.{Shape, IsPresent, cell_of, held_name}
use Rattle.heap_core.specs.Heap.{HeapState, reg_of, slot_of}
use Rattle.heap_core.specs.Shows.{Shows, StandsFor, IsWrapperOf, object_at, is_wrapper}

-- a register and a gray slot name what they hold
pub reg_shown : (h : HeapState) (g : GraphState) (r : ℕ) → Shows h g
    → register_cell g r ≡ held_name h.shape (reg_of h r)
reg_shown h g r s = ap (λ (xs : List (Option Name)). slice_index_or xs r None) s.registers_are
    ∙ get_or-map (held_name h.shape) h.shape.regs r None

pub slot_shown : (h : HeapState) (g : GraphState) (r : ℕ) → Shows h g → slot_cell g r ≡ held_name h.shape (slot_of h r)
slot_shown h g r s = ap (λ (xs : List (Option Name)). slice_index_or xs r None) s.slots_are
    ∙ get_or-map (held_name h.shape) h.shape.slots r None

-- what they hold is present
pub reg_present : (h : HeapState) (g : GraphState) (r : ℕ) (p : Place) → Shows h g → reg_of h r ≡ Some p
    → IsPresent h.shape p
reg_present h g r p s e = s.registers_held p (get_contains h.shape.regs r p e)

pub slot_present : (h : HeapState) (g : GraphState) (r : ℕ) (p : Place) → Shows h g → slot_of h r ≡ Some p
    → IsPresent h.shape p
slot_present h g r p s e = s.slots_held p (get_contains h.shape.slots r p e)

-- a cell stands for its name in another graph too
pub stands_as : (s k : Shape) (g j : GraphState) (p : Place) (cell : CellState) (x : Name)
    → ((n : ℕ) → object_of g n ≡ Some (object_at s cell) → object_of j n ≡ Some (object_at k cell))
    → ((c : CompNo) (t : ℕ) → IsWrapperOf s g p cell c t → IsWrapperOf k j p cell c t) → StandsFor s g p cell x
    → StandsFor k j p cell x
stands_as s k g j p cell (Cell n) object wrapper h = (h.0, object n h.1)
stands_as s k g j p cell (Wrap c t) object wrapper h = wrapper c t h

-- what is there, where something that it has is known
pub of_map : {A B : Type 0} (f : A → B) (o : Option A) (y : B) → option_map f o ≡ Some y → (x : A) × (o ≡ Some x)
    × (f x ≡ y)
of_map f None y e = absurd (cc e)
of_map f (Some x) y e = (x, refl, cc e)

-- a register names the cell that it holds
pub reg_named : (h : HeapState) (g : GraphState) (r : ℕ) (p : Place) (cell : CellState) → Shows h g
    → reg_of h r ≡ Some p → cell_of h.shape p ≡ Some cell → register_cell g r ≡ Some cell.name
reg_named h g r p cell s e there = reg_shown h g r s ∙ ap (held_name h.shape) e
    ∙ ap (λ (o : Option CellState). option_map (λ (c : CellState). c.name) o) there

pub reg_empty : (h : HeapState) (g : GraphState) (r : ℕ) → Shows h g → reg_of h r ≡ None → register_cell g r ≡ None
reg_empty h g r s e = reg_shown h g r s ∙ ap (held_name h.shape) e

-- an object or a map
pub record IsObject (h : HeapState) (g : GraphState) (cell : CellState) : Type 0 where
  pub number : ℕ
  pub name_is : cell.name ≡ Cell number
  pub object_is : object_of g number ≡ Some (object_at h.shape cell)

object_as : (h : HeapState) (g : GraphState) (p : Place) (cell : CellState) (x : Name) → cell.name ≡ x
    → is_wrapper cell.kind ≡ false → StandsFor h.shape g p cell x → IsObject h g cell
object_as h g p cell (Cell n) e plain k = record { number = n; name_is = e; object_is = k.1 }
object_as h g p cell (Wrap c t) e plain k = let w : is_wrapper cell.kind ≡ true = ap is_wrapper k.kind_is in
    absurd (cc (w, plain))

pub object_there : (h : HeapState) (g : GraphState) (p : Place) (cell : CellState) → Shows h g
    → cell_of h.shape p ≡ Some cell → is_wrapper cell.kind ≡ false → IsObject h g cell
object_there h g p cell s e plain = object_as h g p cell cell.name refl plain (s.cells p cell e).stands

-- a wrapper
pub record IsWrapper (h : HeapState) (g : GraphState) (p : Place) (cell : CellState) : Type 0 where
  pub comp : CompNo
  pub number : ℕ
  pub name_is : cell.name ≡ Wrap comp number
  pub wraps : IsWrapperOf h.shape g p cell comp number

wrapper_as : (h : HeapState) (g : GraphState) (p : Place) (cell : CellState) (x : Name) → cell.name ≡ x
    → is_wrapper cell.kind ≡ true → StandsFor h.shape g p cell x → IsWrapper h g p cell
wrapper_as h g p cell (Cell n) e w k = let plain : is_wrapper cell.kind ≡ false = k.0 in absurd (cc (w, plain))
wrapper_as h g p cell (Wrap c t) e w k = record { comp = c; number = t; name_is = e; wraps = k }

pub wrapper_there : (h : HeapState) (g : GraphState) (p : Place) (cell : CellState) → Shows h g
    → cell_of h.shape p ≡ Some cell → is_wrapper cell.kind ≡ true → IsWrapper h g p cell
wrapper_there h g p cell s e w = wrapper_as h g p cell cell.name refl w (s.cells p cell e).stands
