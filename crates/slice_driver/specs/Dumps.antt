-- The lines of a dump, by what the heap lists.
use Rattle.gz_names.specs.declared.dumps.DumpLine.{DumpLine}
use Rattle.gz_names.specs.declared.dumps.DumpLine.TheVariants as line
use Rattle.gz_names.specs.declared.dumps.DumpColour.{DumpColour}
use Rattle.gz_names.specs.declared.dumps.DumpColour.TheVariants.{Black, Gray}
use Rattle.cell_bits.specs.declared.bits.Colour.{Colour}
use Rattle.cell_bits.specs.declared.bits.Colour.TheVariants as colour
use Rattle.heap_core.specs.Heap.{HeapState, colour_of}
use Rattle.slice_driver.specs.declared.listings.NamedCell.{NamedCell}
use Rattle.slice_driver.specs.declared.listings.NamedEntry.{NamedEntry}

-- the colour that a dump tells of a cell
abbrev pub told_colour : Colour → DumpColour
told_colour colour.White = Gray
told_colour colour.Gray = Gray
told_colour colour.Black = Black

abbrev pub coloured_line : HeapState → NamedCell → DumpLine
coloured_line h cell = line.Cell cell.name (told_colour (colour_of h cell.place))

abbrev pub entry_line : NamedEntry → DumpLine
entry_line e = line.Weak e.map e.key e.value
