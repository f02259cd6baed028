use Rattle.std.proofs.Common.{◌↔◌, IsSome, IsTrue, not, rules}
use Rattle.slice_driver.proofs.abstraction.WorldRuns.{world_runs}
use Rattle.slice_driver.proofs.collector.Collector.running.Goals as goal

pub returns-clause-worlds : goal.returns-clause-worlds
returns-clause-worlds c =
    let runs : IsTrue (not c.match-matches.matches) ↔ IsSome c.args.self.now.run = search rules in
    λ flown w rep. (
      λ t. (world_runs c.args.self.now flown w rep).0 (runs.0 t),
      λ r. runs.1 ((world_runs c.args.self.now flown w rep).1 r),
    )
