use Rattle.std.proofs.Common.{◌∙◌, ap, length}
use Rattle.std.proofs.lemmas.List.{length-append}
use Rattle.std.proofs.lemmas.Result.{on_ok_weaker}
use Rattle.compact.proofs.Packed.{behind, moved-one, no-room}
use Rattle.compact.proofs.packing.Packing.move_cell.Goals as goal

pub unreachable-requires : goal.unreachable-requires
unreachable-requires c = no-room c.args.heap.now.shape c.args.zone c.args.cell c.args.self.now c.requires.packed
    c.requires.room c.in_default.ensures.none

pub push-requires : goal.push-requires
push-requires c = behind c.args.heap.now.shape c.args.zone c.args.cell c.args.self.now c.requires.packed

pub returns-clause-packed : goal.returns-clause-packed
returns-clause-packed c = on_ok_weaker c.push.result (λ is. moved-one c.args.heap.now.shape c.args.zone c.args.cell
    c.in-Some.to c.args.self.now c.next.new.self (record {
      packed = c.requires.packed;
      mover = c.requires.mover;
      room = c.requires.room;
      finds = c.in-Some.ensures.some;
    }) c.push.new.self is) c.push.ensures.ok

pub returns-clause-count : goal.returns-clause-count
returns-clause-count c = on_ok_weaker c.push.result (λ is. ap (λ (ms : _). length ms) is
    ∙ length-append c.args.self.now.moves _) c.push.ensures.ok
