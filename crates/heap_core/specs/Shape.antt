-- What is in the heap, by places: its cells and what they name, and what holds them.
use Rattle.std.specs.Prelude.{◌≡◌, ◌<◌, ℕ, Bool, true, false, ◌==◌, ◌&&◌, not, List, length, map, Option, Some, None}
use Rattle.std.specs.Prelude.{IsSome, nat_lt, slice_get, if◌then◌else◌, option_and_then}
use Rattle.std.specs.Option.{option_map}
use Rattle.std.specs.Int.{bit_at}
use Rattle.gz_names.specs.declared.names.Name.{Name}
use Rattle.gz_names.specs.declared.commands.Kind.{Kind}
use Rattle.gz_names.specs.declared.commands.Kind.TheVariants as kind
use Rattle.gz_names.specs.declared.numbers.CompNo.{CompNo}
use Rattle.gz_names.specs.declared.numbers.Place.{Place}
use Rattle.cell_bits.specs.declared.bits.Bits.{Bits}
use Rattle.zones.specs.declared.states.State.{State}
use Rattle.zones.specs.declared.states.State.TheVariants as state
use Rattle.arena_table.specs.Cells.{CellState, field_of}
use Rattle.arena_table.specs.Slots.{Arena, cell_in, no_zone}
use Rattle.arena_table.specs.Indexed.{in_zones}
use Rattle.wrappers.specs.WrapperMaps.{WrappersState}
use Rattle.weak_maps.specs.WeakMaps.{WeakTableState}
use Rattle.weak_maps.specs.declared.delegates.Delegate.{Delegate}

-- an arena: its zone, its bits at hand-out where it is handed to sweeping, and its slots
pub record ArenaShape : Type 0 where
  pub zone : ℕ
  pub out : Option Bits
  pub slots : List (Option CellState)

-- arenas by number; the state of each zone; the zone of each compartment; the wrapper maps and the entries of weak
-- maps; what each register and each gray slot holds; and how many objects and maps were ever made
pub record Shape : Type 0 where
  pub arenas : List ArenaShape
  pub states : List State
  pub comps : List ℕ
  pub wrappers : WrappersState
  pub weak : WeakTableState
  pub regs : List (Option Place)
  pub slots : List (Option Place)
  pub objects : ℕ

-- whether a slot's cell is white
abbrev pub is_white : Bits → ℕ → Bool
is_white bits slot = not (bit_at bits.black slot == 1) && not (bit_at bits.gob slot == 1)

-- the cell of a slot that is present: a cell that was white as its arena was handed to sweeping is not
abbrev pub present_in : Option Bits → List (Option CellState) → ℕ → Option CellState
present_in None slots slot = cell_in slots slot
present_in (Some bits) slots slot = if is_white bits slot then None else cell_in slots slot

abbrev pub cell_in_arena : Option ArenaShape → ℕ → Option CellState
cell_in_arena None slot = None
cell_in_arena (Some arena) slot = present_in arena.out arena.slots slot

-- the present cell at a place, if there is one
abbrev pub cell_of : Shape → Place → Option CellState
cell_of s p = cell_in_arena (slice_get s.arenas p.0) p.1

abbrev pub IsPresent : Shape → Place → Type 0
IsPresent s p = IsSome (cell_of s p)

abbrev pub stored_in : Option ArenaShape → ℕ → Option CellState
stored_in None slot = None
stored_in (Some arena) slot = cell_in arena.slots slot

-- the cell that stands at a place, present or not
abbrev pub stored_at : Shape → Place → Option CellState
stored_at s p = stored_in (slice_get s.arenas p.0) p.1

-- each arena has 64 slots
abbrev pub AreWhole : List ArenaShape → Type 0
AreWhole arenas = (a : ℕ) (arena : ArenaShape) → slice_get arenas a ≡ Some arena → length arena.slots ≡ 64

abbrev pub field_in : Option CellState → ℕ → Option Place
field_in None f = None
field_in (Some cell) f = field_of cell f

-- what a field of the present cell at a place holds
abbrev pub field_at : Shape → Place → ℕ → Option Place
field_at s p f = field_in (cell_of s p) f

-- the second place is named by a field of the cell at the first
abbrev pub HasEdge : Shape → Place → Place → Type 0
HasEdge s p q = (f : ℕ) × (f < 8) × (field_at s p f ≡ Some q)

abbrev pub zone_in : Option ArenaShape → ℕ
zone_in None = 0
zone_in (Some arena) = arena.zone

-- the zone of a place: that of its arena
abbrev pub zone_of : Shape → Place → ℕ
zone_of s p = zone_in (slice_get s.arenas p.0)

-- the zone that owns an arena: none owns one that was not made, or was given up
abbrev pub owner_in : Option ArenaShape → Option ℕ
owner_in None = None
owner_in (Some arena) = if nat_lt arena.zone no_zone then Some arena.zone else None

abbrev pub owner_of : Shape → ℕ → Option ℕ
owner_of s a = owner_in (slice_get s.arenas a)

-- whether an arena is one of these zones
abbrev pub is_owned_in : ℕ → Option ArenaShape → Bool
is_owned_in word None = false
is_owned_in word (Some arena) = in_zones word arena.zone

abbrev pub is_owned : Shape → ℕ → ℕ → Bool
is_owned s word a = is_owned_in word (slice_get s.arenas a)

abbrev pub state_or : Option State → State
state_or None = state.NoGC
state_or (Some found) = found

-- the state of a zone, and of the zone of a place
abbrev pub state_in : Shape → ℕ → State
state_in s z = state_or (slice_get s.states z)

abbrev pub state_of : Shape → Place → State
state_of s p = state_in s (zone_of s p)

abbrev pub is_marking_state : State → Bool
is_marking_state state.NoGC = false
is_marking_state state.Prepare = false
is_marking_state state.MarkBlackOnly = true
is_marking_state state.MarkBlackAndGray = true
is_marking_state state.Sweep = false
is_marking_state state.Finished = false

-- whether the zone of a place is marking
abbrev pub is_marking : Shape → Place → Bool
is_marking s p = is_marking_state (state_of s p)

abbrev pub is_prepare_state : State → Bool
is_prepare_state state.NoGC = false
is_prepare_state state.Prepare = true
is_prepare_state state.MarkBlackOnly = false
is_prepare_state state.MarkBlackAndGray = false
is_prepare_state state.Sweep = false
is_prepare_state state.Finished = false

-- whether a zone is being prepared
abbrev pub is_prepared : Shape → ℕ → Bool
is_prepared s z = is_prepare_state (state_in s z)

abbrev pub out_in : Option ArenaShape → Option Bits
out_in None = None
out_in (Some arena) = arena.out

-- the bits at hand-out of an arena that is handed to sweeping
abbrev pub out_of : Shape → ℕ → Option Bits
out_of s a = out_in (slice_get s.arenas a)

-- what a cell of a kind leads to, if it is a wrapper, with its zone
abbrev pub wrapped_by : Kind → Option Place → ℕ → Option Delegate
wrapped_by (kind.Object n) t z = None
wrapped_by kind.Map t z = None
wrapped_by kind.Wrapper t z = option_map (λ target. record { target = target; zone = z }) t

abbrev pub delegate_in : Option CellState → ℕ → Option Delegate
delegate_in None z = None
delegate_in (Some cell) z = wrapped_by cell.kind (field_of cell 0) z

-- the delegate of a key, if that is a wrapper
abbrev pub delegate_of_key : Shape → Place → Option Delegate
delegate_of_key s key = delegate_in (cell_of s key) (zone_of s key)

-- a key is a wrapper, and this is what it leads to
abbrev pub IsDelegate : Shape → Place → Place → Type 0
IsDelegate s key target =
    (option_map (λ cell. cell.kind) (cell_of s key) ≡ Some kind.Wrapper) × (field_at s key 0 ≡ Some target)

-- the name of the present cell at a place, and of what is held
abbrev pub name_at : Shape → Place → Option Name
name_at s p = option_map (λ cell. cell.name) (cell_of s p)

abbrev pub held_name : Shape → Option Place → Option Name
held_name s held = option_and_then (name_at s) held

abbrev pub comp_at : Shape → Place → Option CompNo
comp_at s p = option_map (λ cell. cell.comp) (cell_of s p)

-- an arena as it is kept, seen so; and all of them
abbrev pub arena_shape : Arena → ArenaShape
arena_shape arena = record {
  zone = arena.zone;
  out = if arena.is_out then Some arena.bits else None;
  slots = arena.slots;
}

abbrev pub arena_shapes : List Arena → List ArenaShape
arena_shapes arenas = map arena_shape arenas
