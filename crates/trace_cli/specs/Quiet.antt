-- A collection that goes on and writes nothing.
use Rattle.std.specs.Prelude.{◌≡◌, ℕ, List, [], Option, IsSome}
use Rattle.slice_driver.specs.Collector.{CollectorState}
use Rattle.slice_driver.specs.Units.{none_flown}
use Rattle.trace_cli.specs.Standing.{MakesNone, StandsWith}
use Rattle.trace_cli.specs.Writing.{Goes}
use Rattle.trace_cli.specs.declared.pending.Pending.TheVariants as pending

-- units of a `collect` were done where no arena is out; they wrote nothing, and the collection goes on
pub record GoesQuietly (c d : CollectorState) : Type 0 where
  pub goes : (p : Option (List ℕ)) → Goes c none_flown pending.Collect d none_flown pending.Collect p p
  pub size : MakesNone c d
  pub stands : StandsWith d [] none_flown
  pub running : IsSome d.run
