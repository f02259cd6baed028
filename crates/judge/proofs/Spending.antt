-- Units are counted as done: the judge stands for the world after it.
use Rattle.std.proofs.Common.{◌≡◌, ℕ, ◌+◌, sym, ap, subst}
use Rattle.colour_defs.specs.Graph.{GraphState}
use Rattle.colour_defs.specs.Lawful.{with_spent, with_spent_preparing}
use Rattle.colour_defs.specs.World.{World}
use Rattle.judge.specs.Bounds.{with_units}
use Rattle.judge.specs.Represents.{IsAtStage, Represents}
use Rattle.judge.specs.Stages.{Shown, Stage, collecting, idle, preparing}

-- the world in which k more units are counted
abbrev pub spent_in : ℕ → World → World
spent_in k w =
    record w { preparing = with_spent_preparing k w.preparing; collection = with_spent k w.collection }

spent_stage : (k : ℕ) (t : Stage) (s : Shown) (w : World) → IsAtStage t s w
    → IsAtStage t (record s { tally = with_units k s.tally }) (spent_in k w)
spent_stage k idle s w at = record {
  idle = record {
    none_running = ap (with_spent k) at.idle.none_running;
    none_preparing = ap (with_spent_preparing k) at.idle.none_preparing;
  };
  none_out = at.none_out;
}
spent_stage k (preparing zones) s w at = let p = at.preparation in record {
  preparation = record p { spent = p.spent + k };
  preparing_is = ap (with_spent_preparing k) at.preparing_is;
  alone = ap (with_spent k) at.alone;
  small = at.small;
  zones_are = at.zones_are;
  arenas_are = at.arenas_are;
  spent_is = ap (λ n. n + k) at.spent_is;
  none_out = at.none_out;
  black_are = at.black_are;
}
spent_stage k (collecting zones marking groups) s w at = let m = at.collection in record {
  collection = record m { tally = record m.tally { spent = m.tally.spent + k } };
  collection_is = ap (with_spent k) at.collection_is;
  alone = ap (with_spent_preparing k) at.alone;
  small = at.small;
  zones_are = at.zones_are;
  marking_are = at.marking_are;
  groups_are = at.groups_are;
  tally_is = ap (with_units k) at.tally_is;
  none_out = at.none_out;
  found = λ has. let f = at.found has in (
    f.0,
    record {
      walks_are = f.1.walks_are;
      former_is = f.1.former_is;
      black_are = f.1.black_are;
      live_are = f.1.live_are;
    },
  );
  first = at.first;
}

pub represents_spent : (g : GraphState) (k : ℕ) (old new : Shown) (w : World) → Represents g old w
    → new ≡ record old { tally = with_units k old.tally } → Represents g new (spent_in k w)
represents_spent g k old new w stands is = subst (λ s. Represents g s (spent_in k w)) (sym is) (record {
  graph_is = stands.graph_is;
  places_are = stands.places_are;
  owners_are = stands.owners_are;
  out_are = stands.out_are;
  white_are = stands.white_are;
  slots_are = stands.slots_are;
  watched_are = stands.watched_are;
  black_are = λ still. let b = stands.black_are still in record { within = b.within; names_are = b.names_are };
  stage_is = spent_stage k old.stage old w stands.stage_is;
})
