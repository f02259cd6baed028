-- The graph that a heap shows: its present cells under their names.
use Rattle.std.specs.Prelude.{◌≡◌, ◌≤◌, ℕ, Bool, true, false, [], ◌∷◌, length, map, Some, IsTrue, slice_get, Contains}
use Rattle.gz_names.specs.declared.names.Name.{Name}
use Rattle.gz_names.specs.declared.names.Name.TheVariants.{Cell, Wrap}
use Rattle.gz_names.specs.declared.numbers.CompNo.{CompNo}
use Rattle.gz_names.specs.declared.numbers.Place.{Place}
use Rattle.gz_names.specs.declared.commands.Kind.{Kind}
use Rattle.gz_names.specs.declared.commands.Kind.TheVariants as kind
use Rattle.colour_defs.specs.declared.graph.Object.{Object}
use Rattle.colour_defs.specs.Graph as graph
use Rattle.colour_defs.specs.Graph.{GraphState, object_of, has_wrapper}
use Rattle.arena_table.specs.Cells.{CellState, field_count}
use Rattle.wrappers.specs.WrapperMaps.{list_of, place_of}
use Rattle.wrappers.specs.declared.wrapper_maps.WrapperKey.{WrapperKey}
use Rattle.weak_maps.specs.WeakMaps.{value_of}
use Rattle.heap_core.specs.Shape.{Shape, cell_of, field_at, name_at, held_name, zone_of, IsPresent}
use Rattle.heap_core.specs.Heap.{HeapState}

abbrev pub is_map : Kind → Bool
is_map (kind.Object n) = false
is_map kind.Map = true
is_map kind.Wrapper = false

abbrev pub is_wrapper : Kind → Bool
is_wrapper (kind.Object n) = false
is_wrapper kind.Map = false
is_wrapper kind.Wrapper = true

-- an object or a map as the graph has it, with names in place of places
abbrev pub object_at : Shape → CellState → Object
object_at s cell = record { comp = cell.comp; is_map = is_map cell.kind; fields = map (held_name s) cell.fields }

-- a wrapper at a place, and its target
pub record IsWrapperOf (s : Shape) (g : GraphState) (p : Place) (cell : CellState) (c : CompNo) (t : ℕ) : Type 0 where
  pub target : Place
  pub kind_is : cell.kind ≡ kind.Wrapper
  pub comp_is : cell.comp ≡ c
  pub fields_is : cell.fields ≡ Some target ∷ []
  pub target_is : name_at s target ≡ Some (Cell t)
  pub known : IsTrue (has_wrapper g c t)
  pub mapped : place_of s.wrappers c.0 t ≡ Some p

-- a cell is what the graph has under its name
abbrev pub StandsFor : Shape → GraphState → Place → CellState → Name → Type 0
StandsFor s g p cell (Cell n) = (is_wrapper cell.kind ≡ false) × (object_of g n ≡ Some (object_at s cell))
StandsFor s g p cell (Wrap c t) = IsWrapperOf s g p cell c t

-- a present cell: it stands for its name, has as many fields as its kind says, and lies in its compartment's zone
pub record IsShown (s : Shape) (g : GraphState) (p : Place) (cell : CellState) : Type 0 where
  pub stands : StandsFor s g p cell cell.name
  pub sized : length cell.fields ≡ field_count cell.kind
  pub few : length cell.fields ≤ 8
  pub at_home : slice_get s.comps cell.comp.0 ≡ Some (zone_of s p)

-- the graph of the present cells, under their names
pub record Shows (h : HeapState) (g : GraphState) : Type 0 where
  pub zones_are : g.zones ≡ length h.shape.states
  pub comps_are : g.comps ≡ h.shape.comps
  pub objects_made : length g.objects ≡ h.shape.objects
  pub registers_are : g.registers ≡ map (held_name h.shape) h.shape.regs
  pub slots_are : g.slots ≡ map (held_name h.shape) h.shape.slots
  pub registers_held : (p : Place) → Contains h.shape.regs (Some p) → IsPresent h.shape p
  pub slots_held : (p : Place) → Contains h.shape.slots (Some p) → IsPresent h.shape p
  pub fields_held : (p q : Place) (f : ℕ) → field_at h.shape p f ≡ Some q → IsPresent h.shape q
  pub cells : (p : Place) (cell : CellState) → cell_of h.shape p ≡ Some cell → IsShown h.shape g p cell
  pub apart : (p q : Place) (x : Name) → name_at h.shape p ≡ Some x → name_at h.shape q ≡ Some x → p ≡ q
  pub objects_are : (n : ℕ) (o : Object) → object_of g n ≡ Some o → (p : Place) × (name_at h.shape p ≡ Some (Cell n))
  pub wrappers_are : (c : CompNo) (t : ℕ) → IsTrue (has_wrapper g c t)
      → (p : Place) × (name_at h.shape p ≡ Some (Wrap c t))
  pub mapped : (c : CompNo) (t : ℕ) (p : Place) → place_of h.shape.wrappers c.0 t ≡ Some p
      → name_at h.shape p ≡ Some (Wrap c t)
  pub maps_at_home : (z : ℕ) (e : WrapperKey × Place) → Contains (list_of h.shape.wrappers z) e
      → slice_get h.shape.comps e.0.comp ≡ Some z
  pub entries_held : (m k v : Place) → value_of h.shape.weak m k ≡ Some v → IsPresent h.shape m × IsPresent h.shape k
      × IsPresent h.shape v
  pub entries_are : (m k v : Place) (x y z : Name) → value_of h.shape.weak m k ≡ Some v → name_at h.shape m ≡ Some x
      → name_at h.shape k ≡ Some y → name_at h.shape v ≡ Some z → graph.value_of g x y ≡ Some z
  pub entries_known : (x y z : Name) → graph.value_of g x y ≡ Some z → (m : Place) × (k : Place) × (v : Place)
      × (value_of h.shape.weak m k ≡ Some v) × (name_at h.shape m ≡ Some x) × (name_at h.shape k ≡ Some y)
      × (name_at h.shape v ≡ Some z)
  pub few_objects : h.shape.objects ≤ h.made
