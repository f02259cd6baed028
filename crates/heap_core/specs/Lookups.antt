-- What commands on the graph look up, by places, and why they are refused.
use Rattle.std.specs.Prelude.{◌≡◌, ℕ, ◌<◌, Bool, true, Result, Ok, Err, Option, Some, None, is_some, nat_lt, ◌&&◌}
use Rattle.std.specs.Prelude.{length, unwrap_or, if◌then◌else◌, option_and_then}
use Rattle.std.specs.Option.{option_map}
use Rattle.gz_names.specs.declared.names.Name.{Name}
use Rattle.gz_names.specs.declared.commands.Kind.{Kind}
use Rattle.gz_names.specs.declared.commands.Kind.TheVariants as kind
use Rattle.gz_names.specs.declared.commands.GraphCmd.{GraphCmd}
use Rattle.gz_names.specs.declared.numbers.CompNo.{CompNo}
use Rattle.gz_names.specs.declared.numbers.Place.{Place}
use Rattle.gz_names.specs.declared.replies.Refusal.{Refusal}
use Rattle.gz_names.specs.declared.replies.Refusal.TheVariants as refusal
use Rattle.arena_table.specs.Cells.{CellState, field_of}
use Rattle.wrappers.specs.WrapperMaps.{place_of}
use Rattle.weak_maps.specs.WeakMaps.{value_of}
use Rattle.colour_defs.specs.Graph.{GraphState, register_cell}
use Rattle.colour_defs.specs.Step as step
use Rattle.colour_defs.specs.Step.{step_of, refuse, take_in_register, is_same_comp, target_of}
use Rattle.heap_core.specs.Shape.{Shape, cell_of, comp_at, field_at, held_name, name_at}
use Rattle.heap_core.specs.Heap.{HeapState, reg_of}
use Rattle.heap_core.specs.Shows.{Shows, is_map, is_wrapper}

-- what a field of a register's cell holds
abbrev pub held_field : HeapState → ℕ → ℕ → Option Place
held_field h s f = option_and_then (λ p. field_at h.shape p f) (reg_of h s)

-- what a `set` writes: null, or what a register holds
abbrev pub value_to_set : HeapState → Option ℕ → Option Place
value_to_set h t = option_and_then (reg_of h) t

-- the value of a register's map at another one's cell
abbrev pub held_value : HeapState → ℕ → ℕ → Option Place
held_value h m k = option_and_then (λ map. option_and_then (λ key. value_of h.shape.weak map key) (reg_of h k))
    (reg_of h m)

-- what a cell stands for: a wrapper's target, or the cell itself
abbrev pub target_in : Option CellState → Place → Place
target_in None p = p
target_in (Some cell) p = if is_wrapper cell.kind then unwrap_or (field_of cell 0) p else p

abbrev pub target_at : Shape → Place → Place
target_at s p = target_in (cell_of s p) p

-- the number in a name: that of an object or a map, or of what a wrapper stands for
abbrev pub number_in : Option Name → ℕ
number_in None = 0
number_in (Some x) = target_of x

abbrev pub number_at : Shape → Place → ℕ
number_at s p = number_in (name_at s p)

-- what a compartment sees of a target: the target itself, or its wrapper, if it is there
abbrev pub seen_from : Shape → CompNo → Place → Option Place
seen_from s c t = if is_same_comp (comp_at s t) c then Some t else place_of s.wrappers c.0 (number_at s t)

-- why a field of a cell of this kind is neither read nor written, if so
abbrev pub field_refusal : Kind → ℕ → Option Refusal
field_refusal (kind.Object n) f = if nat_lt f n then None else Some refusal.NoField
field_refusal kind.Map f = Some refusal.Kind
field_refusal kind.Wrapper f = Some refusal.Kind

-- whether what is held is nothing, or a cell of a compartment
abbrev pub fits_in : Shape → CompNo → Option Place → Bool
fits_in s c None = true
fits_in s c (Some p) = is_same_comp (comp_at s p) c

-- whether the register that a `set` is to write holds something, if it names one
abbrev pub is_filled : HeapState → Option ℕ → Bool
is_filled h None = true
is_filled h (Some t) = is_some (reg_of h t)

-- why an entry of this map with this key and value is refused, if it is
abbrev pub entry_refusal_in : Shape → Option CellState → Place → Place → Option Refusal
entry_refusal_in s None k v = Some refusal.Kind
entry_refusal_in s (Some map) k v =
    if is_map map.kind
    then (if is_same_comp (comp_at s k) map.comp && is_same_comp (comp_at s v) map.comp then None
    else Some refusal.Cross)
    else Some refusal.Kind

abbrev pub entry_refusal : Shape → Place → Place → Place → Option Refusal
entry_refusal s m k v = entry_refusal_in s (cell_of s m) k v

-- why a command on an entry is refused, if it is, by what its registers hold
abbrev pub refusal_by : GraphState → Option Name → Option Name → Option Name → Option Refusal
refusal_by g None k v = Some refusal.Empty
refusal_by g (Some m) None v = Some refusal.Empty
refusal_by g (Some m) (Some k) None = Some refusal.Empty
refusal_by g (Some m) (Some k) (Some v) = step.entry_refusal g m k v

-- a look-up says what a command hands to its register, or why the command is refused
abbrev pub Hands : HeapState → (ℕ → GraphCmd) → Result (Option Place) Refusal → Type 0
Hands h c (Ok v) = (r : ℕ) (g : GraphState) → Shows h g → step_of g (c r) ≡ take_in_register g r (held_name h.shape v)
Hands h c (Err why) = (r : ℕ) (g : GraphState) → Shows h g → step_of g (c r) ≡ refuse g why

-- on each graph that the heap shows, the command is refused so
abbrev pub IsRefused : HeapState → GraphCmd → Refusal → Type 0
IsRefused h c why = (g : GraphState) → Shows h g → step_of g c ≡ refuse g why

-- the object that a `set` writes; it is not refused
pub record IsWritable (h : HeapState) (s f : ℕ) (t : Option ℕ) (p : Place) : Type 0 where
  pub held : reg_of h s ≡ Some p
  pub filled : is_filled h t ≡ true
  pub field : option_map (λ cell. field_refusal cell.kind f) (cell_of h.shape p) ≡ Some None
  pub fits : option_map (λ cell. fits_in h.shape cell.comp (value_to_set h t)) (cell_of h.shape p) ≡ Some true

-- the object or map that a `wrap` into a compartment is about; the command is not refused
pub record IsWrappable (h : HeapState) (s : ℕ) (c : CompNo) (t : Place) : Type 0 where
  pub place : Place
  pub held : reg_of h s ≡ Some place
  pub target_is : t ≡ target_at h.shape place
  pub there : c.0 < length h.shape.comps

-- the map, the key and the value that registers hold; an entry of them is not refused
pub record IsEntry (h : HeapState) (m k v : ℕ) (map key value : Place) : Type 0 where
  pub map_held : reg_of h m ≡ Some map
  pub key_held : reg_of h k ≡ Some key
  pub value_held : reg_of h v ≡ Some value
  pub allowed : entry_refusal h.shape map key value ≡ None

abbrev pub IsNoEntry : HeapState → ℕ → ℕ → ℕ → Refusal → Type 0
IsNoEntry h m k v why = (g : GraphState) → Shows h g
    → refusal_by g (register_cell g m) (register_cell g k) (register_cell g v) ≡ Some why
