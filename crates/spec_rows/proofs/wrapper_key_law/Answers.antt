use Rattle.spec_rows.proofs.WrapperKey.{key_by_both, value_by_both, map_reaches_itself}
use Rattle.spec_rows.proofs.wrapper_key_law.Goals as goal

pub returns-clause-key : goal.returns-clause-key
returns-clause-key c = key_by_both

pub returns-clause-value : goal.returns-clause-value
returns-clause-value c = value_by_both

pub returns-clause-map_alone : goal.returns-clause-map_alone
returns-clause-map_alone c = map_reaches_itself
