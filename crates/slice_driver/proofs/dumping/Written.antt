-- What is written is a dump of each settled world, and the cells that are listed have colours.
use Rattle.std.proofs.Common.{◌≡◌, ◌<◌, ◌++◌, ◌∷◌, [], ℕ, List, All, Option, length, map, slice_index_or, append_assoc}
use Rattle.std.proofs.Common.{sym, ap, subst, ◌∙◌}
use Rattle.std.specs.List.{flat_map}
use Rattle.std.proofs.lemmas.List.Elements.{Contains-get_or}
use Rattle.gz_names.specs.declared.dumps.DumpLine.{DumpLine}
use Rattle.gz_names.specs.declared.dumps.DumpLine.TheVariants as line
use Rattle.cell_bits.specs.declared.bits.Bits.{Bits}
use Rattle.barriers.specs.Spreading.{Covers}
use Rattle.colour_defs.specs.Dumps.{IsDump}
use Rattle.colour_defs.specs.World.{World, IsSettled}
use Rattle.heap_core.specs.Heap.{HeapState, joined}
use Rattle.heap_core.specs.Shape.{IsPresent, Shape}
use Rattle.slice_driver.specs.Collector.{CollectorState}
use Rattle.slice_driver.specs.Dumps.{coloured_line, entry_line}
use Rattle.slice_driver.specs.Listings.{ListsCells, ListsEntries, edge_lines_at}
use Rattle.slice_driver.specs.Represents.{Represents}
use Rattle.slice_driver.specs.Units.{IsSound}
use Rattle.slice_driver.specs.declared.listings.NamedCell.{NamedCell}
use Rattle.slice_driver.specs.declared.listings.NamedEntry.{NamedEntry}
use Rattle.slice_driver.proofs.abstraction.Named.{named_present}
use Rattle.slice_driver.proofs.dumping.Worlds.{dumped}
use Rattle.slice_driver.proofs.abstraction.Phases.{calm_marking, placed_in}
use Rattle.slice_driver.proofs.dumping.Reading.{arena_coloured, reads_same}
use Rattle.slice_driver.proofs.group_end.GrayNames.{present_within}

-- the cells that are listed are present, and their arenas have colours
pub listed_present : (s : Shape) (cells : List NamedCell) → ListsCells s cells
    → All (λ (cell : NamedCell). IsPresent s cell.place) cells
listed_present s cells lists = λ k d lt. (
    let cell = slice_index_or cells k d in
    named_present s cell.place cell.name ((lists.exact cell).0 (Contains-get_or cells k d lt)))

pub listed_coloured : (c : CollectorState) (flown : ℕ → Option Bits) (cells : List NamedCell) → IsSound c flown
    → ListsCells c.heap.shape cells → All (λ (cell : NamedCell). cell.place.0 < length c.heap.colours) cells
listed_coloured c flown cells sound lists = λ k d lt. (
    let cell = slice_index_or cells k d in
    arena_coloured c flown sound.world cell.place.0 sound.represents
    (present_within c.heap.shape cell.place (placed_in c flown sound.world sound.represents).lies.whole
    (listed_present c.heap.shape cells lists k d lt)).0)

-- bits were read that stand for the same heap
pub represents_seen : (c : CollectorState) (flown flying : ℕ → Option Bits) (h : HeapState) → h ≡ c.heap
    → Covers h.shape flying → joined h flying ≡ joined h flown → (w : World) → Represents c flown w
    → Represents c flying w
represents_seen c flown flying h here covers same w rep = reads_same c flown flying w
    (subst (λ (k : HeapState). Covers k.shape flying) here covers)
    (subst (λ (k : HeapState). joined k flying ≡ joined k flown) here same) rep

pub heap_seen : (flown flying : ℕ → Option Bits) (h k : HeapState) → h ≡ k → joined h flying ≡ joined h flown
    → joined k flying ≡ joined k flown
heap_seen flown flying h k here same = subst (λ (x : HeapState). joined x flying ≡ joined x flown) here same

-- four parts, one after another
four_parts : {X : Type 0} (a b c d start one two three all : List X) → start ≡ [] → one ≡ start ++ a → two ≡ one ++ b
    → three ≡ two ++ c → all ≡ three ++ d → all ≡ a ++ (b ++ (c ++ d))
four_parts a b c d start one two three all e0 e1 e2 e3 e4 =
    e4 ∙ ap (λ ls. ls ++ d) (e3 ∙ ap (λ ls. ls ++ c) (e2 ∙ ap (λ ls. ls ++ b) (e1 ∙ ap (λ ls. ls ++ a) e0)))
    ∙ append_assoc (a ++ b) c d ∙ append_assoc a b (c ++ d)

-- the heap of a collector, listed and written line by line
module _ (c : CollectorState) (flown : ℕ → Option Bits) (cells : List NamedCell) (entries : List NamedEntry)
    (start coloured edged all : List DumpLine) where
  abbrev WrittenOf : HeapState → List DumpLine → Type 0
  WrittenOf h lines = ListsCells h.shape cells → ListsEntries h.shape entries
      → coloured ≡ start ++ map (coloured_line (joined h flown)) cells
      → edged ≡ coloured ++ flat_map (λ (cell : NamedCell). edge_lines_at h.shape cell.place) cells
      → (w : World) → Represents c flown w → IsSettled w → IsDump w lines

  pub written : (h : HeapState) → h ≡ c.heap → start ≡ [] → all ≡ edged ++ map entry_line entries
      → (lines : List DumpLine) → lines ≡ all ++ line.End ∷ [] → WrittenOf h lines
  written h here none ended lines last = subst (λ (k : HeapState). WrittenOf k lines) (sym here) (λ lc le one two w rep
      settled. subst (λ ls. IsDump w ls)
      (sym (four_parts (map (coloured_line (joined c.heap flown)) cells)
      (flat_map (λ (cell : NamedCell). edge_lines_at c.heap.shape cell.place) cells) (map entry_line entries)
      (line.End ∷ []) start coloured edged all lines none one two ended last))
      (dumped c flown w (calm_marking c flown w settled.none_preparing rep) settled cells entries lc le))
