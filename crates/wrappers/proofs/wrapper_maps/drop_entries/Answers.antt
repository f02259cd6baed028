use Rattle.std.proofs.Common.{rules}
use Rattle.wrappers.proofs.Dropping.{KeptBy-RetainsPairs}
use Rattle.wrappers.proofs.wrapper_maps.drop_entries.Goals as goal

pub returns : goal.returns
returns g c = KeptBy-RetainsPairs _ _ _ (λ k p b q f call. search rules) _ _ c.retain.ensures.filtered
