-- A replay with what it is lent may go to any thread.
use denote.RattleType.{RattleType}
use denote.Ref.{NamedLft}
use denote.Param.Send.{IsSend, sendable}
use denote.Param.SendFields.{declared_send}
use Rattle.std.specs.declared.sync.ledger.Ledger.{Ghosts}
use Rattle.std.proofs.Crossing as std
use Rattle.heap_core.proofs.steps.Steps.TheSendSync as steps
use Rattle.slice_driver.proofs.Sent.{collector_send}
use Rattle.trace_cli.specs.contracts.machine.Machine as machine
use Rattle.trace_cli.specs.contracts.replaying.Replaying as replaying
use Rattle.trace_cli.proofs.machine.Pause.TheSendSync as pause
use Rattle.trace_cli.proofs.pending.Pending.TheSendSync as pending

machine_send : IsSend machine.the_row
machine_send = search (declared_send, collector_send, pending.the_send, std.crosses, sendable) depth 20

pub replaying_send : (m s k t p : NamedLft) (S K L B : RattleType) (g : Ghosts L.Denot) → IsSend S → IsSend K
    → IsSend (replaying.the_row m s k t p S K L B g)
replaying_send m s k t p S K L B g source sink = declared_send (replaying.the_type m s k t p S K L B g) (
  search (std.send, sendable),
  (
    search (machine_send, sendable),
    (search sendable, (search sendable, (search (steps.the_send, sendable), (search (pause.the_send, sendable), tt)))),
  ),
)
