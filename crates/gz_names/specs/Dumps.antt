-- Which dumps of colours are sound: cells ascend, whatever is named has its line, and nothing black leads to gray.
use Rattle.std.specs.Prelude.{
  ◌≡◌,
  ℕ,
  ◌+◌,
  Bool,
  true,
  false,
  not,
  ◌&&◌,
  ◌||◌,
  nat_lt,
  if◌then◌else◌,
  List,
  [],
  ◌∷◌,
  ◌++◌,
  Option,
  Some,
  None,
  is_some,
  IsTrue,
}
use Rattle.std.specs.Ordering.{is_lt}
use Rattle.gz_names.specs.declared.names.Name.{Name}
use Rattle.gz_names.specs.declared.names.Name.TheVariants.{Cell, Wrap}
use Rattle.gz_names.specs.declared.dumps.DumpLine.{DumpLine}
use Rattle.gz_names.specs.declared.dumps.DumpLine.TheVariants as line
use Rattle.gz_names.specs.declared.dumps.DumpColour.{DumpColour}
use Rattle.gz_names.specs.declared.dumps.DumpColour.TheVariants.{Black, Gray}
use Rattle.gz_names.specs.declared.dumps.DumpFault.{DumpFault}
use Rattle.gz_names.specs.declared.dumps.DumpFault.TheVariants as fault
use Rattle.gz_names.specs.Order.{name_cmp, same_name}

-- the cells of the lines and their colours, in order
abbrev pub cells_of : List DumpLine → List (Name × DumpColour)
cells_of [] = []
cells_of (line.Cell x c ∷ ls) = (x, c) ∷ cells_of ls
cells_of (line.Edge n y ∷ ls) = cells_of ls
cells_of (line.Weak m k v ∷ ls) = cells_of ls
cells_of (line.End ∷ ls) = cells_of ls

-- how many edges, and how many weak entries, the lines have
abbrev pub edge_count : List DumpLine → ℕ
edge_count [] = 0
edge_count (line.Cell x c ∷ ls) = edge_count ls
edge_count (line.Edge n y ∷ ls) = 1 + edge_count ls
edge_count (line.Weak m k v ∷ ls) = edge_count ls
edge_count (line.End ∷ ls) = edge_count ls

abbrev pub weak_count : List DumpLine → ℕ
weak_count [] = 0
weak_count (line.Cell x c ∷ ls) = weak_count ls
weak_count (line.Edge n y ∷ ls) = weak_count ls
weak_count (line.Weak m k v ∷ ls) = 1 + weak_count ls
weak_count (line.End ∷ ls) = weak_count ls

-- the colour of a name among cells, if it is one of them
abbrev pub colour_among : List (Name × DumpColour) → Name → Option DumpColour
colour_among [] x = None
colour_among (cell ∷ cells) x = if same_name cell.0 x then Some cell.1 else colour_among cells x

abbrev pub is_black : Option DumpColour → Bool
is_black None = false
is_black (Some Black) = true
is_black (Some Gray) = false

abbrev pub is_gray : Option DumpColour → Bool
is_gray None = false
is_gray (Some Black) = false
is_gray (Some Gray) = true

abbrev pub is_among : List (Name × DumpColour) → Name → Bool
is_among cells x = is_some (colour_among cells x)

-- the colour of a wrapper's target, if it is among the cells
abbrev pub target_colour : List (Name × DumpColour) → Name → Option DumpColour
target_colour cells (Cell n) = None
target_colour cells (Wrap d t) = colour_among cells (Cell t)

-- the target, where the name is a wrapper's, is among the cells
abbrev pub has_target : List (Name × DumpColour) → Name → Bool
has_target cells (Cell n) = true
has_target cells (Wrap d t) = is_among cells (Cell t)

-- a name is greater than that of the last cell
abbrev pub is_after : List (Name × DumpColour) → Name → Bool
is_after [] x = true
is_after (cell ∷ []) x = is_lt (name_cmp cell.0 x)
is_after (cell ∷ next ∷ cells) x = is_after (next ∷ cells) x

abbrev pub fault_if : Bool → DumpFault → Option DumpFault → Option DumpFault
fault_if b why other = if b then Some why else other

-- why a line is at fault after these cells, if it is: the names of cells ascend; a wrapper is an edge to its
-- target; an edge leads from an object to what a field holds; an entry leads from the map, by its key, to its
-- value, and to a wrapper that is its key from that wrapper's target
abbrev pub fault_among : List (Name × DumpColour) → DumpLine → Option DumpFault
fault_among cells (line.Cell x c) =
    fault_if (not (is_after cells x)) fault.Order
    (fault_if (not (has_target cells x)) fault.Absent
    (fault_if (is_black (Some c) && is_gray (target_colour cells x)) fault.Gray None))
fault_among cells (line.Edge n y) = fault_if (not (is_among cells (Cell n) && is_among cells y)) fault.Absent
    (fault_if (is_black (colour_among cells (Cell n)) && is_gray (colour_among cells y)) fault.Gray None)
fault_among cells (line.Weak m k v) = fault_if (not (is_among cells (Cell m) && (is_among cells k && is_among cells v)))
    fault.Absent (fault_if
    (is_black (colour_among cells (Cell m))
    && ((is_black (colour_among cells k) && is_gray (colour_among cells v))
    || (is_gray (colour_among cells k) && is_black (target_colour cells k)))) fault.Gray None)
fault_among cells line.End = None

-- why a line is at fault after the lines before it, if it is
abbrev pub fault_of : List DumpLine → DumpLine → Option DumpFault
fault_of before l = fault_among (cells_of before) l

-- the parts of a dump, in this order: cells, edges, weak entries, the end
abbrev pub part_of : DumpLine → ℕ
part_of (line.Cell x c) = 0
part_of (line.Edge n y) = 1
part_of (line.Weak m k v) = 2
part_of line.End = 3

-- the part of the last line
abbrev pub last_part : List DumpLine → ℕ
last_part [] = 0
last_part (l ∷ []) = part_of l
last_part (l ∷ m ∷ ls) = last_part (m ∷ ls)

-- a line may follow the others: the one before is of no later part, and is not the end
abbrev pub is_in_form : List DumpLine → DumpLine → Bool
is_in_form before l = not (nat_lt (part_of l) (last_part before)) && nat_lt (last_part before) 3

-- each of the lines is in form and faultless, after those before it
abbrev pub AreSoundLines : List DumpLine → List DumpLine → Type 0
AreSoundLines before [] = Unit {0}
AreSoundLines before (l ∷ ls) = IsTrue (is_in_form before l) × (fault_of before l ≡ None)
    × AreSoundLines (before ++ l ∷ []) ls

-- a sound dump: all its lines are sound, and the last one is the end
pub record IsSoundDump (lines : List DumpLine) : Type 0 where
  pub body : List DumpLine
  pub ends : lines ≡ body ++ line.End ∷ []
  pub sound : AreSoundLines [] lines
