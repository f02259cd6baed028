use Rattle.slice_driver.proofs.marking.Accounts.{new_accounts}
use Rattle.slice_driver.proofs.marking.Sessions.{new_first, new_sound}
use Rattle.slice_driver.proofs.session.Session+MainSweeper.new.Goals as goal

pub invariant_of-result : goal.invariant_of-result
invariant_of-result c = new_sound c.in_ok-new.field-0 c.new-2.result c.new-2.ensures c.in_ok-new.ensures.first

pub returns-clause-first : goal.returns-clause-first
returns-clause-first c = new_first c.in_ok-new.field-0 c.new-2.result c.new-2.ensures c.in_ok-new.ensures.first

pub returns-clause-accounts : goal.returns-clause-accounts
returns-clause-accounts c = new_accounts c.in_ok-new.field-0 c.new-2.result c.new-2.ensures c.in_ok-new.ensures.first
