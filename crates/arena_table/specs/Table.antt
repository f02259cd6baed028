-- The arenas of all zones, as callers see them.
use Rattle.std.specs.Prelude.{◌≡◌, ◌+◌, ◌<◌, ◌≤◌, ◌*◌, ◌==◌, ℕ, suc, true, false, List, [], ◌∷◌, ◌++◌, Option}
use Rattle.std.specs.Prelude.{None, length, map, replicate, All, if◌then◌else◌}
use Rattle.std.specs.Option.{ForSome}
use Rattle.gz_names.specs.declared.commands.Kind.{Kind}
use Rattle.gz_names.specs.declared.names.Name.{Name}
use Rattle.gz_names.specs.declared.numbers.CompNo.{CompNo}
use Rattle.gz_names.specs.declared.numbers.Place.{Place}
use Rattle.cell_bits.specs.declared.bits.Bits.{Bits}
use Rattle.cell_bits.specs.declared.jobs.Job.{Job}
use Rattle.arena_table.specs.Cells.{CellState, field_count}
use Rattle.arena_table.specs.Slots.{Arena, change_at, empty_arena, with_cell, alloc_word_of, held_by, held_in, bit_of}
use Rattle.arena_table.specs.Slots.{is_out_at, no_zone}
use Rattle.arena_table.specs.Sets.{arena_bit}
use Rattle.mark_stack.specs.Stack.{Piles, no_places}
use Rattle.arena_table.specs.Delayed.{AreCovered, DelayedSets}
use Rattle.arena_table.specs.Stored.{StoreState}
use Rattle.arena_table.specs.Indexed.{IndexState, IsIndexed, words_at, in_zones}
use Rattle.arena_table.specs.Placement.{place_for}
use Rattle.arena_table.specs.declared.arenas.Reserved.{Reserved}
pub use Rattle.arena_table.specs.Slots.{is_place}

-- all arenas by number, how many cells were ever put, the place that is kept for a cell, and the places that are
-- delayed for each pile
pub record ArenasState : Type 0 where
  pub arenas : List Arena
  pub made : ℕ
  pub reserved : Option Reserved
  pub delayed : Piles

-- no arenas
abbrev pub no_arenas : ArenasState
no_arenas = record { arenas = []; made = 0; reserved = None; delayed = no_places }

-- a cell whose fields are null
abbrev pub new_cell : Kind → CompNo → Name → CellState
new_cell kind comp name = record { kind = kind; comp = comp; name = name; fields = replicate (field_count kind) None }

-- an arena of the zone is made, where the number is that of the next
abbrev pub grown_to : List Arena → ℕ → ℕ → List Arena
grown_to arenas zone arena = if arena == length arenas then arenas ++ empty_arena zone ∷ [] else arenas

-- a cell is put at a place of a zone
abbrev pub put_at : List Arena → ℕ → Place → CellState → List Arena
put_at arenas zone place cell = change_at (with_cell place.1 cell) (grown_to arenas zone place.0) place.0

-- no arena of these zones is handed to sweeping
abbrev pub AreIn : ℕ → List Arena → Type 0
AreIn word arenas = All (λ (arena : Arena). in_zones word arena.zone ≡ true → arena.is_out ≡ false) arenas

-- the arenas of these zones are changed
abbrev pub in_these : (Arena → Arena) → ℕ → List Arena → List Arena
in_these f word arenas = map (λ (arena : Arena). if in_zones word arena.zone then f arena else arena) arenas

-- what is handed to sweeping, where the first arena has the number n
abbrev pub jobs_from : ℕ → ℕ → List Arena → List Job
jobs_from word n [] = []
jobs_from word n (arena ∷ arenas) = if in_zones word arena.zone
    then record { arena = n; alloc_word = alloc_word_of arena.slots; bits = arena.bits } ∷ jobs_from word (suc n) arenas
    else jobs_from word (suc n) arenas

-- bits that are all clear
abbrev pub no_bits : Bits
no_bits = record { black = 0; gob = 0 }

-- there is room for one more arena of a zone
pub record HasRoom (store : StoreState) (index : IndexState) (zone : ℕ) : Type 0 where
  pub room : 0 < store.room
  pub below : length store.arenas < 67108863
  pub owned : length store.arenas < 64 * length (words_at index.owned zone)
  pub open_ : length store.arenas < 64 * length (words_at index.open_ zone)

-- a set has exactly the arenas that are handed to sweeping, and a bit for each arena
pub record AreOut (arenas : List Arena) (words : List ℕ) : Type 0 where
  pub bits : (a : ℕ) → arena_bit words a ≡ bit_of (is_out_at arenas a)
  pub room : length arenas ≤ 64 * length words

-- a place is kept for a cell of a zone: where it is the first of a new arena, there is room for that
pub record IsReserved (store : StoreState) (index : IndexState) (out : List ℕ) (delayed : DelayedSets) (made : ℕ)
    (r : Reserved) : Type 0 where
  pub zone : r.zone < 64
  pub place : r.place ≡ place_for store.arenas r.zone
  pub few : made < 4294967295
  pub room : r.place.0 ≡ length store.arenas → HasRoom store index r.zone
  pub out_room : r.place.0 ≡ length store.arenas → length store.arenas < 64 * length out
  pub covered : r.place.0 ≡ length store.arenas → AreCovered delayed (length store.arenas + 1)

-- an arena that was given up is handed to nobody, and no cell stands in it
abbrev pub IsEmptyIfGivenUp : Arena → Type 0
IsEmptyIfGivenUp arena = arena.zone ≡ no_zone → (held_in arena.slots ≡ 0) × (arena.is_out ≡ false)

-- what always holds
pub record AreArenas (store : StoreState) (index : IndexState) (out : List ℕ) (delayed : DelayedSets) (made held : ℕ)
    (reserved : Option Reserved) : Type 0 where
  pub indexed : IsIndexed store.arenas index
  pub out_of : AreOut store.arenas out
  pub covered : AreCovered delayed (length store.arenas)
  pub empty : All IsEmptyIfGivenUp store.arenas
  pub few : made ≤ 4294967295
  pub counted : held ≡ held_by store.arenas
  pub fewer : held ≤ made
  pub kept : ForSome reserved (IsReserved store index out delayed made)
