use Rattle.spec_rows.proofs.GrayKey.{gray_key_lawful}
use Rattle.spec_rows.proofs.gray_key_law.Goals as goal

pub returns : goal.returns
returns c = gray_key_lawful
