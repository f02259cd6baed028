use Rattle.std.proofs.Common.{arith}
use Rattle.slice_driver.proofs.group_end.GraySlots.{gray_bit}
use Rattle.slice_driver.proofs.colours.gray_slots.Goals as goal

pub returns : goal.returns
returns c = λ slot lt. gray_bit c.args.bits.now slot (omega arith) lt
