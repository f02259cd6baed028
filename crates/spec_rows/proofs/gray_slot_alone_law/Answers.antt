use Rattle.spec_rows.proofs.GraySlotAlone.{gray_slot_alone_lawful}
use Rattle.spec_rows.proofs.gray_slot_alone_law.Goals as goal

pub returns : goal.returns
returns c = gray_slot_alone_lawful
