use Rattle.std.proofs.Common.{rules}
use Rattle.weak_refs.proofs.Dropping.{filter_dead}
use Rattle.weak_refs.proofs.weak_names.unwatch_dead.Goals as goal

pub returns : goal.returns
returns g c = λ is_dead says.
    filter_dead _ _ is_dead says _ (λ x b f call. search rules) _ _ c.retain.ensures.filtered
