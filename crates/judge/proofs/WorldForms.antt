-- As groups are formed, and as a collection is over, there is a world after it for which the judge stands.
use Rattle.std.proofs.Common.{◌≡◌, ◌∙◌, List, Some, None, ap, map, refl, sym}
use Rattle.gz_names.specs.Zones.{zones_in}
use Rattle.gz_names.specs.declared.zone_sets.ZoneSet.{ZoneSet}
use Rattle.colour_defs.specs.Lawful.{Finishes, FormsGroups}
use Rattle.colour_defs.specs.World.{Collection, World}
use Rattle.judge.specs.Groups.{Stands}
use Rattle.judge.specs.Positions.{StandsIn}
use Rattle.judge.specs.Represents.{Represents}
use Rattle.judge.specs.Stages as judged
use Rattle.judge.specs.Stages.{Forms, Shown, forming_in}
use Rattle.judge.specs.Walks.{CatchUp}
use Rattle.judge.proofs.Finishing.{represents_finish}
use Rattle.judge.proofs.Grouping.{represents_forms}
use Rattle.judge.proofs.Idling.{over_world}
use Rattle.judge.proofs.Standing.{collected_at, forming_stands}

module _ (s t : Shown) (w : World) (f : StandsIn w.graph s w) (groups : List ZoneSet) (fs : Forms w.graph s groups t)
    (up : CatchUp s.former.graph s.walks t.walks) where
  stands : (k : Collection) × (w.collection ≡ Some k) × Stands (forming_in w.graph s fs.zones fs.walks) w k
  stands = forming_stands f.represents fs.zones fs.marking fs.walks fs.was fs.found

  none_yet : stands.0.groups ≡ None
  none_yet =
      let c = collected_at f.represents fs.zones fs.marking None fs.was in
      let same : c.collection ≡ stands.0 = cc (c.collection_is, stands.1) in
      ap (λ (k : Collection). k.groups) (sym same) ∙ c.groups_are

  abbrev formed_world : World
  formed_world = record w { collection = Some (record stands.0 { groups = Some (map zones_in groups) }) }

  -- there is a world after the groups are formed, for which the judge stands
  pub forming : (v : World) × FormsGroups w (map zones_in groups) v × (v.graph ≡ w.graph) × Represents w.graph t v
  forming =
      let lawful : FormsGroups w (map zones_in groups) formed_world = record {
        collection = stands.0;
        running = stands.1;
        none_yet = none_yet;
        lawful = fs.lawful w stands.0 stands.2;
        world_is = refl;
      } in (
        formed_world,
        lawful,
        refl,
        represents_forms w.graph groups (map zones_in groups) s t w formed_world f fs up lawful refl,
      )

module _ (s t : Shown) (w : World) (f : StandsIn w.graph s w) (fs : judged.Finishes s t) where
  abbrev pub finished_world : World
  finished_world = record w { collection = None }

  pub finished_lawful : Finishes w finished_world
  finished_lawful = record { over = over_world f.represents fs.over; world_is = refl }

  pub finished_represents : Represents w.graph t finished_world
  finished_represents =
      represents_finish w.graph s t w finished_world f.represents f.laws.valid fs finished_lawful
