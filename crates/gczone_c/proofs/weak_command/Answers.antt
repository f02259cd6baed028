use Rattle.gczone_c.proofs.Going.{goes_by}
use Rattle.gczone_c.proofs.weak_command.Goals as goal

pub returns : goal.returns
returns c = record {
  done = goes_by _ _ c.in-Some.ensures.some c.deref_mut.ensures.value c.put.ensures
      c.weak_command-status.ensures.done;
}
