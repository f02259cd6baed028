use Rattle.std.proofs.Common.{◌∙◌, ap, sym}
use Rattle.gz_names.specs.Zones.{zones_in}
use Rattle.colour_defs.specs.Graph.{is_among}
use Rattle.judge.proofs.Owners.{zone_test}
use Rattle.judge.proofs.arenas.Arena.is_of.Goals as goal

pub returns-in-Some : goal.returns-in-Some
returns-in-Some c =
    sym (zone_test c.args.zones c.in-Some.zone c.contains.result c.contains.ensures)
    ∙ ap (is_among (zones_in c.args.zones)) (sym c.in-Some.is)
