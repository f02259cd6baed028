-- How the lines of a dump are written.
use Rattle.std.specs.Prelude.{◌≡◌, ℕ, ◌<◌, ◌^◌, List, ◌∷◌, ◌++◌, codes, ⊤}
use Rattle.std.specs.Fmt.{decimal}
use Rattle.gz_names.specs.declared.names.Name.{Name}
use Rattle.gz_names.specs.declared.names.Name.TheVariants.{Cell, Wrap}
use Rattle.gz_names.specs.declared.dumps.DumpLine.{DumpLine}
use Rattle.gz_names.specs.declared.dumps.DumpLine.TheVariants as line
use Rattle.gz_names.specs.declared.dumps.DumpColour.{DumpColour}
use Rattle.gz_names.specs.declared.dumps.DumpColour.TheVariants.{Black, Gray}

-- an object or a map by its number, a wrapper by its compartment, a colon and its target
abbrev pub name_text : Name → List ℕ
name_text (Cell n) = decimal n
name_text (Wrap c n) = decimal c.0 ++ 58 ∷ decimal n

abbrev pub colour_text : DumpColour → List ℕ
colour_text Black = codes "b"
colour_text Gray = codes "g"

abbrev pub dump_text : DumpLine → List ℕ
dump_text (line.Cell x c) = codes "cell " ++ name_text x ++ 32 ∷ colour_text c
dump_text (line.Edge n y) = codes "edge " ++ decimal n ++ 32 ∷ name_text y
dump_text (line.Weak m k v) = codes "weak " ++ decimal m ++ 32 ∷ name_text k ++ 32 ∷ name_text v
dump_text line.End = codes "end"

-- the numbers of cells are below 2^32, those of compartments below 256
abbrev pub FitsName : Name → Type 0
FitsName (Cell n) = n < 2 ^ 32
FitsName (Wrap c n) = (c.0 < 2 ^ 8) × (n < 2 ^ 32)

abbrev pub FitsLine : DumpLine → Type 0
FitsLine (line.Cell x c) = FitsName x
FitsLine (line.Edge n y) = (n < 2 ^ 32) × FitsName y
FitsLine (line.Weak m k v) = (m < 2 ^ 32) × FitsName k × FitsName v
FitsLine line.End = ⊤

-- a text is that of a line
abbrev pub SpellsLine : List ℕ → DumpLine → Type 0
SpellsLine text l = (text ≡ dump_text l) × FitsLine l
