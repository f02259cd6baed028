use Rattle.slice_driver.proofs.group_end.NameKeys.{cell_pushed}
use Rattle.slice_driver.proofs.name_keys.NameKeys.push.Goals as goal

pub returns-in_ok-push-in-Cell : goal.returns-in_ok-push-in-Cell
returns-in_ok-push-in-Cell c = cell_pushed c.self.inside.cells.items c.push.new.self.items
    c.self.inside.wrappers.items c.args.self.now c.args.name c.in-Cell.number c.self.view_is c.in-Cell.is
    c.in_ok-push-in-Cell.ensures.items
