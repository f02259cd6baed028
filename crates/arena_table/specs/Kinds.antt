-- How many fields a cell has by its kind, and what stands past them.
use Rattle.std.specs.Prelude.{◌≡◌, ◌≤◌, ℕ, List, slice_get}
use Rattle.std.specs.Option.{ForSome}
use Rattle.gz_names.specs.declared.commands.Kind.{Kind}
use Rattle.gz_names.specs.declared.commands.Kind.TheVariants.{Object, Map, Wrapper}
use Rattle.arena_table.specs.declared.cells.Link.{Link}

-- how many fields a cell of a kind has: a weak map has none, a wrapper has its target
abbrev pub field_count : Kind → ℕ
field_count (Object n) = n
field_count Map = 0
field_count Wrapper = 1

-- the links from a number on are null
abbrev pub AreNullFrom : ℕ → List Link → Type 0
AreNullFrom n links = (f : ℕ) → n ≤ f → ForSome (slice_get links f) (λ (link : Link). link.position ≡ 0)
