use Rattle.std.proofs.Common.{◌+◌, ◌≤◌, List, arith, length, subst, sym, take}
use Rattle.colour_defs.specs.declared.graph.Entry.{Entry}
use Rattle.judge.proofs.DumpLines.{HasEntriesOf, entries_all, entries_more, entries_none}
use Rattle.judge.proofs.dumps.present_entries.Goals as goal

pub loop-entry-init : goal.loop-entry-init
loop-entry-init c =
    entries_none c.args.graph.now c.args.world.now.places c.new-found.result c.new-found.ensures.empty

pub loop-entry-preserved : goal.loop-entry-preserved
loop-entry-preserved c =
    let g = c.args.graph.now in
    let cells = c.args.world.now.places in
    let i = c.loop-entry.entry-index in
    let found = c.loop-entry.found in
    let before = subst (λ (es : List Entry). HasEntriesOf g cells (take i es) found)
    (sym c.entries-entry-items.ensures) c.loop-entry.invariant in
    subst (λ (es : List Entry). HasEntriesOf g cells (take (i + 1) es) c.add_entry.new.found)
    c.entries-entry-items.ensures
    (entries_more g cells c.entries-entry-items.result.now i _ found c.add_entry.new.found c.loop-entry-test.true
    c.in_ok-add_entry.ensures before)

pub returns : goal.returns
returns c =
    let i = c.loop-entry.entry-index in
    let le : length c.entries-entry-items.result.now ≤ i = omega arith in
    entries_all c.args.graph.now c.args.world.now.places i c.loop-entry.found
    (subst (λ (es : List Entry). length es ≤ i) c.entries-entry-items.ensures le) c.loop-entry.invariant
