use Rattle.std.proofs.Common.{◌≡◌, subst, arith, ◌↔◌, ◌⊎◌, Contains, Some}
use Rattle.gz_names.specs.declared.names.Name.{Name}
use Rattle.colour_defs.specs.Graph.{slot_cell}
use Rattle.spec_replay.specs.Reached.{IsInSlotsBelow}
use Rattle.spec_replay.proofs.Starts.{cells_more}
use Rattle.spec_replay.proofs.reached.push_slots.Goals as goal

pub loop-index-preserved : goal.loop-index-preserved
loop-index-preserved c =
    cells_more (slot_cell c.args.graph.now) c.args.starts.now.items c.loop-index.starts.items
    c.push_some.new.names.items
    c.loop-index.index c.loop-index.invariant (subst (λ o. (x : Name) → Contains c.push_some.new.names.items x
    ↔ (Contains c.loop-index.starts.items x ⊎ (o ≡ Some x))) c.in_slot.ensures c.in_ok-push_some.ensures)

pub returns : goal.returns
returns c =
    let all : c.loop-index.index ≡ 64 = omega (arith, c.loop-index-test.false, c.loop-index.auto.index-end) in
    subst (λ n. (x : Name) → Contains c.loop-index.starts.items x
    ↔ (Contains c.args.starts.now.items x ⊎ IsInSlotsBelow n c.args.graph.now x)) all c.loop-index.invariant
