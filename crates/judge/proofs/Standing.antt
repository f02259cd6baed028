-- What a world for which the judge stands gives: the records of one clause alone.
use Rattle.std.proofs.Common.{is_some, ◌≡◌, ◌↔◌, ◌∙◌, List, Option, Some, None, refl, sym, ap, subst}
use Rattle.gz_names.specs.declared.zone_sets.ZoneSet.{ZoneSet}
use Rattle.gz_names.specs.declared.names.Name.{Name}
use Rattle.colour_defs.specs.Graph.{GraphState}
use Rattle.colour_defs.specs.World.{BlackClosure, Collection, IsPresent, Preparation, World}
use Rattle.judge.specs.Bounds.{StandsPrepared}
use Rattle.judge.specs.Cells.{HasCell}
use Rattle.judge.specs.Compaction.{Lies}
use Rattle.judge.specs.Dumps.{Rests}
use Rattle.judge.specs.Groups.{Stands}
use Rattle.judge.specs.Represents.{IsAtRest, IsAtStage, IsCollected, IsPrepared, Represents}
use Rattle.judge.specs.Stages.{HasGroups, IsSettled, Shown, Stage, collecting, idle, preparing, forming_in}
use Rattle.judge.specs.Walks.{IsFoundBlack, Walks}

module _ {g : GraphState} {s : Shown} {w : World} (stands : Represents g s w) where
  -- presence is the same
  pub present_is : (x : Name) → IsPresent w x ↔ HasCell s.cells x
  present_is x = (
    λ p. ap is_some (sym (stands.places_are x)) ∙ p,
    λ p. ap is_some (stands.places_are x) ∙ p,
  )

  at_stage : (t : Stage) → s.stage ≡ t → IsAtStage t s w
  at_stage t e = subst (λ u. IsAtStage u s w) e stands.stage_is

  pub prepared_at : (zones : ZoneSet) → s.stage ≡ preparing zones → IsPrepared s zones w
  prepared_at zones e = at_stage (preparing zones) e

  pub collected_at : (zones marking : ZoneSet) (groups : Option (List ZoneSet))
      → s.stage ≡ collecting zones marking groups
      → IsCollected s zones marking groups w
  collected_at zones marking groups e = at_stage (collecting zones marking groups) e

  -- a collection is being prepared
  pub prepared_stands : (zones : ZoneSet) → s.stage ≡ preparing zones → (p : Preparation) × (w.preparing ≡ Some p)
      × StandsPrepared g zones s.cells s.tally w p
  prepared_stands zones e = let is = prepared_at zones e in (
    is.preparation,
    is.preparing_is,
    record {
      graph_is = stands.graph_is;
      present = present_is;
      zones_are = is.zones_are;
      arenas_are = is.arenas_are;
      spent_is = is.spent_is;
    },
  )

  pub at_rest : s.stage ≡ idle → IsAtRest s w
  at_rest e = at_stage idle e

  -- no collection runs
  pub idle_lies : s.stage ≡ idle → Lies g s w
  idle_lies e = record {
    idle = (at_rest e).idle;
    graph_is = stands.graph_is;
    owners_are = stands.owners_are;
    places_are = stands.places_are;
  }

  -- nothing is prepared or marked
  pub settled_rests : IsSettled s.stage → Rests g s w
  settled_rests still = record {
    graph_is = stands.graph_is;
    present = present_is;
    black = λ x here. (stands.black_are still).names_are x;
  }

  -- the groups are not formed yet
  pub forming_stands : (zones marking : ZoneSet) (walks : Walks) → s.stage ≡ collecting zones marking None
      → s.walks ≡ Some walks → (k : Collection) × (w.collection ≡ Some k) × Stands (forming_in g s zones walks) w k
  forming_stands zones marking walks e f =
      let is = collected_at zones marking None e in
      let has = is.found (subst HasGroups (sym e) tt) in
      let same : has.0 ≡ walks = cc (has.1.walks_are, f) in (
        is.collection,
        is.collection_is,
        record {
          graph_is = stands.graph_is;
          present = present_is;
          zones_are = is.zones_are;
          former_is = has.1.former_is;
          first_black = is.first refl walks f;
          black = λ x. subst (λ (v : Walks). BlackClosure is.collection x ↔ IsFoundBlack s.former.graph v x) same
              (has.1.black_are x);
        },
      )
