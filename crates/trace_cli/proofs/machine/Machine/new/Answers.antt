use Rattle.std.proofs.Common.{refl, arith, []}
use Rattle.colour_defs.specs.World.{first_world}
use Rattle.colour_defs.proofs.LawsOfRuns.{lawful_valid}
use Rattle.trace_cli.specs.Standing.{first}
use Rattle.trace_cli.proofs.machine.Machine.new.Goals as goal

pub returns : goal.returns
returns c =
    let made = c.in_ok-collector.ensures.made in
    let entries = c.in_ok-collector.ensures.entries in
    record {
      collector = first (lawful_valid [] [] first_world refl) c.in_ok-collector.ensures.first
          (record { made = omega (arith, made); entries = omega (arith, entries) });
      answered = refl;
      pending = refl;
    }
