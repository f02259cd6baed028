-- What sweeping and a group's beginning and end change in a heap.
use Rattle.std.specs.Prelude.{◌≡◌, ◌↔◌, ℕ, suc, true, List, [], ◌∷◌, Option, Some, None, Bool, false, ◌&&◌, is_none}
use Rattle.std.specs.Prelude.{slice_get, ◌+◌, ◌⊎◌, slice_set, All, Contains, if◌then◌else◌}
use Rattle.std.specs.Int.{bit_at}
use Rattle.gz_names.specs.declared.numbers.Place.{Place}
use Rattle.cell_bits.specs.Colours.{colour_of}
use Rattle.cell_bits.specs.declared.bits.Bits.{Bits}
use Rattle.cell_bits.specs.declared.bits.Colour.TheVariants as colour
use Rattle.cell_bits.specs.declared.jobs.Job.{Job}
use Rattle.arena_table.specs.Indexed.{in_zones}
use Rattle.arena_table.specs.Slots.{Arena, alloc_word_of, change_at, held_in, without_freed}
use Rattle.weak_maps.specs.WeakMaps.{WeakTableState, is_dead_entry, value_of}
use Rattle.weak_maps.specs.declared.entries.WeakEntry.{WeakEntry}
use Rattle.heap_core.specs.Shape.{ArenaShape, Shape, arena_shapes, cell_in_arena, cell_of, is_white}
use Rattle.heap_core.specs.Heap.{HeapState}

-- no arena of these zones is handed to sweeping
abbrev pub AreKept : ℕ → Shape → Type 0
AreKept word s = All (λ (arena : ArenaShape). in_zones word arena.zone ≡ true → arena.out ≡ None) s.arenas

-- the arenas, those of these zones handed to sweeping with their bits
abbrev pub handed : ℕ → List ArenaShape → List Bits → List ArenaShape
handed word [] colours = []
handed word (arena ∷ arenas) [] = []
handed word (arena ∷ arenas) (bits ∷ colours) =
    (if in_zones word arena.zone then record arena { out = Some bits } else arena) ∷ handed word arenas colours

abbrev pub with_handed : HeapState → ℕ → HeapState
with_handed h word = record h { shape = record h.shape { arenas = handed word h.shape.arenas h.colours } }

-- what is handed to sweeping, where the first arena of the list has the number n
abbrev pub jobs_of : ℕ → ℕ → List ArenaShape → List Bits → List Job
jobs_of word n [] colours = []
jobs_of word n (arena ∷ arenas) [] = []
jobs_of word n (arena ∷ arenas) (bits ∷ colours) =
    if in_zones word arena.zone
    then record { arena = n; alloc_word = alloc_word_of arena.slots; bits = bits } ∷ jobs_of word (suc n) arenas colours
    else jobs_of word (suc n) arenas colours

-- an arena comes back from sweeping without the cells of a word
abbrev pub come_in : ℕ → ArenaShape → ArenaShape
come_in freed arena = record arena { out = None; slots = without_freed freed arena.slots }

abbrev pub with_taken : HeapState → ℕ → ℕ → Bits → HeapState
with_taken h a freed bits = record h {
  shape = record h.shape { arenas = change_at (come_in freed) h.shape.arenas a };
  colours = slice_set h.colours a bits;
}

-- whether no present cell is at a place
abbrev pub is_absent : Shape → Place → Bool
is_absent s p = is_none (cell_of s p)

-- whether no present cell is at a place of the arenas as they are kept
abbrev pub is_absent_in : List Arena → Place → Bool
is_absent_in arenas p = is_none (cell_in_arena (slice_get (arena_shapes arenas) p.0) p.1)

-- whether a slot was white as its arena was handed to sweeping
abbrev pub is_lost_in : Option Arena → ℕ → Bool
is_lost_in None slot = false
is_lost_in (Some arena) slot = arena.is_out && is_white arena.bits slot

-- a job has a cell at a place, and it is white
pub record IsWhiteAt (job : Job) (p : Place) : Type 0 where
  pub arena : p.0 ≡ job.arena
  pub held : bit_at job.alloc_word p.1 ≡ 1
  pub white : colour_of job.bits p.1 ≡ colour.White

-- one of these jobs has
abbrev pub IsWhiteIn : List Job → Place → Type 0
IsWhiteIn jobs p = (job : Job) × Contains jobs job × IsWhiteAt job p

-- what is white in these jobs is not present
abbrev pub AreAbsent : List Job → Shape → Type 0
AreAbsent jobs s = (p : Place) → IsWhiteIn jobs p → is_absent s p ≡ true

-- each entry that names a cell which is not present has a map or a key that is white in these jobs
abbrev pub HaveWhiteOwners : List Job → Shape → Type 0
HaveWhiteOwners jobs s = (m k v : Place) → value_of s.weak m k ≡ Some v
    → is_dead_entry (is_absent s) (record { map = m; key = k; value = v }) ≡ true
    → IsWhiteIn jobs m ⊎ IsWhiteIn jobs k

-- exactly the entries are gone whose map or key is such a place
abbrev pub AreWithout : (Place → Type 0) → WeakTableState → WeakTableState → Type 0
AreWithout P old new = (entry : WeakEntry) → Contains new.entries entry
    ↔ (Contains old.entries entry × (P entry.map → ⊥) × (P entry.key → ⊥))

-- how many cells there are in all arenas
abbrev pub held_in_all : List ArenaShape → ℕ
held_in_all [] = 0
held_in_all (arena ∷ arenas) = held_in arena.slots + held_in_all arenas
