use Rattle.spec_rows.proofs.OneWayGray.{one_way_gray_lawful}
use Rattle.spec_rows.proofs.one_way_gray_law.Goals as goal

pub returns : goal.returns
returns c = one_way_gray_lawful
