use Rattle.collection_laws.proofs.Accounts.{command_accounts, first_accounts, prepares_accounts, units_accounts}
use Rattle.collection_laws.proofs.numbers_law.Goals as goal

pub returns : goal.returns
returns c = record {
  first = first_accounts;
  command = λ w v cmd answer given freed ok a h. command_accounts w cmd answer v given freed ok a h;
  begins = λ w v zones given freed a h. prepares_accounts w zones v given freed h a;
  units = λ w v units given freed a h. units_accounts w units v given freed h a;
}
