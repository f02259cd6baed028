use Rattle.std.proofs.Common.{◌≡◌, ◌<◌, ◌++◌, All, map, length, ap, subst, sym}
use Rattle.std.specs.List.{flat_map}
use Rattle.heap_core.specs.Heap.{HeapState, joined, without_delayed}
use Rattle.heap_core.specs.Shape.{IsPresent}
use Rattle.slice_driver.specs.Collector.{CollectorState}
use Rattle.slice_driver.specs.Dumps.{coloured_line, entry_line}
use Rattle.slice_driver.specs.Listings.{AreEntriesHeld, ListsCells, edge_lines_at}
use Rattle.slice_driver.specs.declared.listings.NamedCell.{NamedCell}
use Rattle.slice_driver.proofs.abstraction.Phases.{placed_in}
use Rattle.slice_driver.proofs.dumping.Written.{heap_seen, listed_coloured, listed_present, represents_seen, written}
use Rattle.slice_driver.proofs.collector.Collector.dump.Goals as goal

pub push_cell_lines-requires-clause-made : goal.push_cell_lines-requires-clause-made
push_cell_lines-requires-clause-made g c =
    let here = ap (λ (z : CollectorState). z.heap) c.self.view_is in
    let lists = subst (λ (h : HeapState). ListsCells h.shape c.in_ok-cells.cells.items) here c.in_ok-cells.ensures in
    subst (λ cells. All (λ (cell : NamedCell). cell.place.0 < length c.self.inside.heap.colours) cells)
    (sym c.deref.ensures.value)
    (subst (λ (h : HeapState). All (λ (cell : NamedCell). cell.place.0 < length h.colours) c.in_ok-cells.cells.items)
    (sym here)
    (listed_coloured c.args.self.now (g.F.Flight.bits c.args.flight.now) c.in_ok-cells.cells.items c.requires.sound
    lists))

pub push_edge_lines-requires-clause-cells : goal.push_edge_lines-requires-clause-cells
push_edge_lines-requires-clause-cells g c =
    subst (λ cells. All (λ (cell : NamedCell). IsPresent c.self.inside.heap.shape cell.place) cells)
    (sym c.deref-2.ensures.value)
    (listed_present c.self.inside.heap.shape c.in_ok-cells.cells.items c.in_ok-cells.ensures)

pub entries_by_name-requires-clause-held : goal.entries_by_name-requires-clause-held
entries_by_name-requires-clause-held g c =
    let here = ap (λ (z : CollectorState). z.heap) c.self.view_is in
    subst (λ (h : HeapState). AreEntriesHeld h.shape) (sym here)
    (placed_in c.args.self.now (g.F.Flight.bits c.args.flight.now) c.requires.sound.world
    c.requires.sound.represents).lies.shown.entries_held

pub returns-in_err-push_cell_lines-clause-same : goal.returns-in_err-push_cell_lines-clause-same
returns-in_err-push_cell_lines-clause-same g c w rep =
    represents_seen c.args.self.now (g.F.Flight.bits c.args.flight.now) (g.F.Flight.bits c.push_cell_lines.new.flight)
    (without_delayed c.self.inside.heap) (ap (λ (z : CollectorState). z.heap) c.self.view_is)
    c.push_cell_lines.ensures.kept.covers c.push_cell_lines.ensures.kept.same w rep

pub returns-in_err-push_edge_lines-clause-same : goal.returns-in_err-push_edge_lines-clause-same
returns-in_err-push_edge_lines-clause-same g c w rep =
    represents_seen c.args.self.now (g.F.Flight.bits c.args.flight.now) (g.F.Flight.bits c.push_cell_lines.new.flight)
    (without_delayed c.self.inside.heap) (ap (λ (z : CollectorState). z.heap) c.self.view_is)
    c.push_cell_lines.ensures.kept.covers c.push_cell_lines.ensures.kept.same w rep

pub returns-in_err-entries_by_name-clause-same : goal.returns-in_err-entries_by_name-clause-same
returns-in_err-entries_by_name-clause-same g c w rep =
    represents_seen c.args.self.now (g.F.Flight.bits c.args.flight.now) (g.F.Flight.bits c.push_cell_lines.new.flight)
    (without_delayed c.self.inside.heap) (ap (λ (z : CollectorState). z.heap) c.self.view_is)
    c.push_cell_lines.ensures.kept.covers c.push_cell_lines.ensures.kept.same w rep

pub returns-in_err-push_entry_lines-clause-same : goal.returns-in_err-push_entry_lines-clause-same
returns-in_err-push_entry_lines-clause-same g c w rep =
    represents_seen c.args.self.now (g.F.Flight.bits c.args.flight.now) (g.F.Flight.bits c.push_cell_lines.new.flight)
    (without_delayed c.self.inside.heap) (ap (λ (z : CollectorState). z.heap) c.self.view_is)
    c.push_cell_lines.ensures.kept.covers c.push_cell_lines.ensures.kept.same w rep

pub returns-in_err-push-clause-same : goal.returns-in_err-push-clause-same
returns-in_err-push-clause-same g c w rep =
    represents_seen c.args.self.now (g.F.Flight.bits c.args.flight.now) (g.F.Flight.bits c.push_cell_lines.new.flight)
    (without_delayed c.self.inside.heap) (ap (λ (z : CollectorState). z.heap) c.self.view_is)
    c.push_cell_lines.ensures.kept.covers c.push_cell_lines.ensures.kept.same w rep

pub returns-clause-same : goal.returns-clause-same
returns-clause-same g c w rep =
    represents_seen c.args.self.now (g.F.Flight.bits c.args.flight.now) (g.F.Flight.bits c.push_cell_lines.new.flight)
    (without_delayed c.self.inside.heap) (ap (λ (z : CollectorState). z.heap) c.self.view_is)
    c.push_cell_lines.ensures.kept.covers c.push_cell_lines.ensures.kept.same w rep

pub returns-clause-lines : goal.returns-clause-lines
returns-clause-lines g c =
    let here = ap (λ (z : CollectorState). z.heap) c.self.view_is in
    written c.args.self.now (g.F.Flight.bits c.args.flight.now) c.in_ok-cells.cells.items
    c.in_ok-entries_by_name.field-0.items c.new-lines.result.items c.push_cell_lines.new.lines.items
    c.push_edge_lines.new.lines.items c.push_entry_lines.new.lines.items
    (without_delayed c.self.inside.heap) here
    c.new-lines.ensures.items
    (subst (λ es. c.push_entry_lines.new.lines.items ≡ c.push_edge_lines.new.lines.items ++ map entry_line es)
    c.deref-3.ensures.value c.in_ok-push_entry_lines.ensures)
    c.push.new.self.items c.in_ok-push.ensures.items c.in_ok-cells.ensures c.in_ok-entries_by_name.ensures
    (subst (λ cells. c.push_cell_lines.new.lines.items ≡ c.new-lines.result.items
    ++ map (coloured_line (joined c.self.inside.heap (g.F.Flight.bits c.args.flight.now))) cells)
    c.deref.ensures.value c.in_ok-push_cell_lines.ensures.lines)
    (subst (λ cells. c.push_edge_lines.new.lines.items ≡ c.push_cell_lines.new.lines.items
    ++ flat_map (λ (cell : NamedCell). edge_lines_at c.self.inside.heap.shape cell.place) cells)
    c.deref-2.ensures.value c.in_ok-push_edge_lines.ensures)

pub returns-in_err-push_cell_lines-clause-heap : goal.returns-in_err-push_cell_lines-clause-heap
returns-in_err-push_cell_lines-clause-heap g c =
    heap_seen (g.F.Flight.bits c.args.flight.now) (g.F.Flight.bits c.push_cell_lines.new.flight)
    (without_delayed c.self.inside.heap) c.args.self.now.heap
    (ap (λ (z : CollectorState). z.heap) c.self.view_is) c.push_cell_lines.ensures.kept.same

pub returns-in_err-push_edge_lines-clause-heap : goal.returns-in_err-push_edge_lines-clause-heap
returns-in_err-push_edge_lines-clause-heap g c =
    heap_seen (g.F.Flight.bits c.args.flight.now) (g.F.Flight.bits c.push_cell_lines.new.flight)
    (without_delayed c.self.inside.heap) c.args.self.now.heap
    (ap (λ (z : CollectorState). z.heap) c.self.view_is) c.push_cell_lines.ensures.kept.same

pub returns-in_err-entries_by_name-clause-heap : goal.returns-in_err-entries_by_name-clause-heap
returns-in_err-entries_by_name-clause-heap g c =
    heap_seen (g.F.Flight.bits c.args.flight.now) (g.F.Flight.bits c.push_cell_lines.new.flight)
    (without_delayed c.self.inside.heap) c.args.self.now.heap
    (ap (λ (z : CollectorState). z.heap) c.self.view_is) c.push_cell_lines.ensures.kept.same

pub returns-in_err-push_entry_lines-clause-heap : goal.returns-in_err-push_entry_lines-clause-heap
returns-in_err-push_entry_lines-clause-heap g c =
    heap_seen (g.F.Flight.bits c.args.flight.now) (g.F.Flight.bits c.push_cell_lines.new.flight)
    (without_delayed c.self.inside.heap) c.args.self.now.heap
    (ap (λ (z : CollectorState). z.heap) c.self.view_is) c.push_cell_lines.ensures.kept.same

pub returns-in_err-push-clause-heap : goal.returns-in_err-push-clause-heap
returns-in_err-push-clause-heap g c =
    heap_seen (g.F.Flight.bits c.args.flight.now) (g.F.Flight.bits c.push_cell_lines.new.flight)
    (without_delayed c.self.inside.heap) c.args.self.now.heap
    (ap (λ (z : CollectorState). z.heap) c.self.view_is) c.push_cell_lines.ensures.kept.same

pub returns-clause-heap : goal.returns-clause-heap
returns-clause-heap g c =
    heap_seen (g.F.Flight.bits c.args.flight.now) (g.F.Flight.bits c.push_cell_lines.new.flight)
    (without_delayed c.self.inside.heap) c.args.self.now.heap
    (ap (λ (z : CollectorState). z.heap) c.self.view_is) c.push_cell_lines.ensures.kept.same
