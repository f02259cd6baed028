-- What the roots hold.
use Rattle.std.specs.Prelude.{ℕ, List, Option, length, sum_by}
use Rattle.gz_names.specs.declared.numbers.Place.{Place}
use Rattle.gz_names.specs.declared.numbers.ZoneNo.{ZoneNo}
use Rattle.roots.specs.Buffers.{buffer_at, put_at, put_all}

-- registers and gray slots by number, and for each of the 64 zones the places that wait for its gray marking
pub record RootsState : Type 0 where
  pub regs : List (Option Place)
  pub slots : List (Option Place)
  pub buffers : List (List Place)

-- what waits for a zone
abbrev pub buffer_of : RootsState → ℕ → List Place
buffer_of roots zone = buffer_at roots.buffers zone

-- one more place waits for a zone
abbrev pub buffered : RootsState → ℕ → Place → RootsState
buffered roots zone place = record roots { buffers = put_at roots.buffers zone place }

-- each of the places waits for its zone
abbrev pub buffered_all : RootsState → List (ZoneNo × Place) → RootsState
buffered_all roots items = record roots { buffers = put_all roots.buffers items }

-- how many places wait, for all zones together
abbrev pub waiting_count : RootsState → ℕ
waiting_count roots = sum_by length roots.buffers
