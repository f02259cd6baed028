-- What a handle leads to may go to any thread.
use denote.Param.Send.{IsSend, sendable, view_send}
use denote.Param.SendFields.{declared_send}
use Rattle.std.proofs.Crossing as std
use Rattle.gz_names.proofs.dumps.DumpLine.TheSendSync as line
use Rattle.gz_names.proofs.lists.NameList.TheSendSync as names
use Rattle.gz_names.proofs.replies.Report.TheSendSync as report
use Rattle.sweeping.proofs.main_sweeper.MainSweeper.TheSendSync as sweeper
use Rattle.slice_driver.proofs.Sent.{collector_send}
use Rattle.gczone_c.specs.contracts.held.Held as held

pub held_send : IsSend held.the_row
held_send = search (
  view_send,
  declared_send,
  collector_send,
  names.the_send,
  line.the_send,
  report.the_send,
  sweeper.the_send,
  std.send,
  std.crosses,
  sendable,
) depth 20
