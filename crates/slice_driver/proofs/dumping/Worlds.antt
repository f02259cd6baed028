-- What is listed of the heap is the dump of each settled world that the collector stands for.
use Rattle.std.proofs.Common.{◌≡◌, ◌++◌, ◌∷◌, [], ℕ, Bool, true, false, List, Option, Some, map, Contains}
use Rattle.std.proofs.Common.{refl, sym, ap, subst, ◌∙◌, inl, inr, cond}
use Rattle.std.specs.List.{flat_map}
use Rattle.std.specs.FinSet as set
use Rattle.gz_names.specs.declared.names.Name.{Name}
use Rattle.gz_names.specs.declared.names.Name.TheVariants.{Cell, Wrap}
use Rattle.gz_names.specs.declared.numbers.Place.{Place}
use Rattle.gz_names.specs.declared.dumps.DumpLine.TheVariants as line
use Rattle.gz_names.specs.declared.dumps.DumpColour.TheVariants.{Black, Gray}
use Rattle.cell_bits.specs.declared.bits.Bits.{Bits}
use Rattle.cell_bits.specs.declared.bits.Colour.{Colour}
use Rattle.cell_bits.specs.declared.bits.Colour.TheVariants as colour
use Rattle.arena_table.specs.Cells.{CellState}
use Rattle.colour_defs.specs.Present as present
use Rattle.colour_defs.specs.World.{World, IsPresent as IsPresentName, IsSettled}
use Rattle.colour_defs.specs.Dumps.{IsDump, IsWeakOf, WeakLine, cell_line, edge_lines, object_lines}
use Rattle.colour_defs.specs.Dumps.{weak_line}
use Rattle.colour_defs.proofs.Lists.{contains_cases, contains_head, contains_tail, nothing_in_none}
use Rattle.heap_core.specs.Shape.{cell_of, name_at}
use Rattle.heap_core.specs.Heap.{HeapState, colour_of, joined}
use Rattle.heap_core.specs.Shows.{StandsFor}
use Rattle.slice_driver.specs.Collector.{CollectorState}
use Rattle.slice_driver.specs.Dumps.{coloured_line, entry_line, told_colour}
use Rattle.slice_driver.specs.Listings.{IsEntryOf, ListsCells, ListsEntries, edge_lines_at, lines_of_cell, names_of}
use Rattle.slice_driver.specs.Listings.{weak_of}
use Rattle.slice_driver.specs.Represents.{RepresentsMarking}
use Rattle.slice_driver.specs.declared.listings.NamedCell.{NamedCell}
use Rattle.slice_driver.specs.declared.listings.NamedEntry.{NamedEntry}
use Rattle.slice_driver.proofs.abstraction.Named.{key_here, named_cell, place_of, present_named}
use Rattle.slice_driver.proofs.dumping.Listed.{name_from}

told : (b : Bool) (k : Colour) → (b ≡ true → k ≡ colour.Black) → (k ≡ colour.Black → b ≡ true)
    → told_colour k ≡ cond b Black Gray
told true colour.White is back = absurd (let e = is refl in cc e)
told true colour.Gray is back = absurd (let e = is refl in cc e)
told true colour.Black is back = refl
told false colour.White is back = refl
told false colour.Gray is back = refl
told false colour.Black is back = absurd (let e = back refl in cc e)

name_in : (cells : List NamedCell) (c : NamedCell) → Contains cells c → Contains (names_of cells) c.name
name_in [] c h = absurd (nothing_in_none c h)
name_in (d ∷ cells) c h = elim (contains_cases d cells c h) [
  | inl is ↦ subst (λ (e : NamedCell). Contains (names_of (d ∷ cells)) e.name) is
      (contains_head d.name (names_of cells))
  | inr tail ↦ contains_tail d.name (names_of cells) c.name (name_in cells c tail)
]

weak_in : (entries : List NamedEntry) (e : NamedEntry) → Contains entries e
    → Contains (map weak_of entries) (weak_of e)
weak_in [] e h = absurd (nothing_in_none e h)
weak_in (d ∷ entries) e h = elim (contains_cases d entries e h) [
  | inl is ↦ subst (λ (f : NamedEntry). Contains (map weak_of (d ∷ entries)) (weak_of f)) is
      (contains_head (weak_of d) (map weak_of entries))
  | inr tail ↦ contains_tail (weak_of d) (map weak_of entries) (weak_of e) (weak_in entries e tail)
]

pub weak_from : (entries : List NamedEntry) (e : WeakLine) → Contains (map weak_of entries) e → (d : NamedEntry)
    × Contains entries d × (weak_of d ≡ e)
weak_from [] e h = absurd (nothing_in_none e h)
weak_from (d ∷ entries) e h = elim (contains_cases (weak_of d) (map weak_of entries) e h) [
  | inl is ↦ (d, contains_head d entries, is)
  | inr tail ↦ (let r = weak_from entries e tail in (r.0, contains_tail d entries r.0 r.1, r.2))
]

entries_as : (entries : List NamedEntry) → map entry_line entries ≡ map weak_line (map weak_of entries)
entries_as [] = refl
entries_as (e ∷ entries) = ap (λ ls. entry_line e ∷ ls) (entries_as entries)

module _ (c : CollectorState) (flown : ℕ → Option Bits) (w : World) (rep : RepresentsMarking c flown w)
    (settled : IsSettled w) where
  abbrev h : HeapState
  h = joined c.heap flown

  colour_as : (x : NamedCell) → name_at c.heap.shape x.place ≡ Some x.name → coloured_line h x ≡ cell_line w x.name
  colour_as x e =
      let black = rep.phase.black settled x.name x.place e in
      ap (λ k. line.Cell x.name k) (told (set.contains w.black x.name) (colour_of h x.place) black.0 black.1)

  colours_as : (xs : List NamedCell)
      → ((x : NamedCell) → Contains xs x → name_at c.heap.shape x.place ≡ Some x.name)
      → map (coloured_line h) xs ≡ map (cell_line w) (names_of xs)
  colours_as [] all = refl
  colours_as (x ∷ xs) all =
      ap (λ l. l ∷ map (coloured_line h) xs) (colour_as x (all x (contains_head x xs)))
      ∙ ap (λ ls. cell_line w x.name ∷ ls) (colours_as xs (λ y b. all y (contains_tail x xs y b)))

  cell_as : (p : Place) (x : Name) (cell : CellState) → cell_of c.heap.shape p ≡ Some cell → cell.name ≡ x
      → lines_of_cell c.heap.shape (Some cell) (Some x) ≡ edge_lines w.graph x
  cell_as p (Cell n) cell at is =
      let stands = subst (λ z. StandsFor c.heap.shape rep.placed.lies.graph p cell z) is
      (rep.placed.lies.shown.cells p cell at).stands
      in
      sym (ap (λ o. object_lines n o) (rep.placed.lies.part.part.objects n _ stands.1))
  cell_as p (Wrap d t) cell at is = refl

  edge_as : (x : NamedCell) → name_at c.heap.shape x.place ≡ Some x.name
      → edge_lines_at c.heap.shape x.place ≡ edge_lines w.graph x.name
  edge_as x e =
      let cell = named_cell c.heap.shape x.place x.name e in
      ap (λ o. lines_of_cell c.heap.shape o (name_at c.heap.shape x.place)) cell.1
      ∙ (ap (λ o. lines_of_cell c.heap.shape (Some cell.0) o) e ∙ cell_as x.place x.name cell.0 cell.1 cell.2)

  edges_as : (xs : List NamedCell)
      → ((x : NamedCell) → Contains xs x → name_at c.heap.shape x.place ≡ Some x.name)
      → flat_map (λ (x : NamedCell). edge_lines_at c.heap.shape x.place) xs
      ≡ flat_map (edge_lines w.graph) (names_of xs)
  edges_as [] all = refl
  edges_as (x ∷ xs) all =
      ap (λ ls. ls ++ flat_map (λ (y : NamedCell). edge_lines_at c.heap.shape y.place) xs)
      (edge_as x (all x (contains_head x xs)))
      ∙ ap (λ ls. edge_lines w.graph x.name ++ ls) (edges_as xs (λ y b. all y (contains_tail x xs y b)))

  is_here : (p : Place) (x : Name) → name_at c.heap.shape p ≡ Some x → present.IsHere rep.placed.lies.graph x
  is_here p x e = (rep.placed.lies.part.here x).1 (present_named c.heap w rep.placed.lies p x e)

  entry_out : (e : NamedEntry) → IsEntryOf c.heap.shape e → IsWeakOf w (weak_of e)
  entry_out e i = record {
    found = sym (rep.placed.lies.part.part.entries (Cell e.map) e.key
        (is_here i.map (Cell e.map) i.map_is) (key_here c.heap w rep.placed.lies i.key e.key i.key_is))
        ∙ rep.placed.lies.shown.entries_are i.map i.key i.value (Cell e.map) e.key e.value i.found i.map_is i.key_is
        i.value_is;
    map_present = present_named c.heap w rep.placed.lies i.map (Cell e.map) i.map_is;
    key_present = present_named c.heap w rep.placed.lies i.key e.key i.key_is;
  }

  entry_back : (e : NamedEntry) → IsWeakOf w (weak_of e) → IsEntryOf c.heap.shape e
  entry_back e i =
      let map = place_of c.heap w rep.placed.lies (Cell e.map) i.map_present in
      let key = place_of c.heap w rep.placed.lies e.key i.key_present in
      let known = rep.placed.lies.shown.entries_known (Cell e.map) e.key e.value
      (rep.placed.lies.part.part.entries (Cell e.map) e.key (is_here map.0 (Cell e.map) map.1)
      (key_here c.heap w rep.placed.lies key.0 e.key key.1) ∙ i.found) in
      record {
        map = known.0;
        key = known.1;
        value = known.2;
        found = known.3;
        map_is = known.4;
        key_is = known.5;
        value_is = known.6;
      }

  pub dumped : (cells : List NamedCell) (entries : List NamedEntry) → ListsCells c.heap.shape cells
      → ListsEntries c.heap.shape entries → IsDump w (map (coloured_line h) cells
      ++ (flat_map (λ (x : NamedCell). edge_lines_at c.heap.shape x.place) cells
      ++ (map entry_line entries ++ line.End ∷ [])))
  dumped cells entries lc le = record {
    cells = names_of cells;
    cells_are = record {
      ascending = lc.ascending;
      has = λ x. (
        (λ b. (let r = name_from cells x b in
            subst (λ y. IsPresentName w y) r.2
            (present_named c.heap w rep.placed.lies r.0.place r.0.name ((lc.exact r.0).0 r.1)))),
        (λ b. (let p = place_of c.heap w rep.placed.lies x b in
            name_in cells (record { name = x; place = p.0 }) ((lc.exact (record { name = x; place = p.0 })).1 p.1))),
      );
    };
    weaks = map weak_of entries;
    weaks_ascend = le.ascending;
    weaks_are = λ e. (
      (λ b. (let r = weak_from entries e b in
          subst (λ d. IsWeakOf w d) r.2 (entry_out r.0 ((le.exact r.0).0 r.1)))),
      (λ i. (let d : NamedEntry = record { map = e.map; key = e.key; value = e.value } in
          weak_in entries d ((le.exact d).1 (entry_back d i)))),
    );
    lines_are = ap (λ ls. ls
        ++ (flat_map (λ (x : NamedCell). edge_lines_at c.heap.shape x.place) cells
        ++ (map entry_line entries ++ line.End ∷ []))) (colours_as cells named)
        ∙ (ap (λ ls. map (cell_line w) (names_of cells) ++ (ls ++ (map entry_line entries ++ line.End ∷ [])))
        (edges_as cells named)
        ∙ ap (λ ls. map (cell_line w) (names_of cells)
        ++ (flat_map (edge_lines w.graph) (names_of cells) ++ (ls ++ line.End ∷ []))) (entries_as entries));
  }
    where
      named : (x : NamedCell) → Contains cells x → name_at c.heap.shape x.place ≡ Some x.name
      named x b = (lc.exact x).0 b
