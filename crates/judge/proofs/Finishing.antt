-- A collection is over: the judge stands for the world after it.
use Rattle.std.proofs.Common.{◌∙◌, [], Some, None, refl, sym, ap, subst}
use Rattle.colour_defs.specs.Graph.{GraphState}
use Rattle.colour_defs.specs.Laws.{IsValid}
use Rattle.colour_defs.specs.Lawful.{Finishes as FinishesIn}
use Rattle.colour_defs.specs.World.{World, marking_of}
use Rattle.judge.specs.Represents.{IsAtRest, IsCollected, Represents}
use Rattle.judge.specs.Stages.{Finishes, HasGroups, IsSettled, Shown, idle}
use Rattle.judge.proofs.Settling.{none_mark, settled_stage}
use Rattle.judge.proofs.Standing.{collected_at}

module _ (g : GraphState) (old new : Shown) (w v : World) (stands : Represents g old w) (valid : IsValid w)
    (ends : Finishes old new) (lawful : FinishesIn w v) where
  running : IsCollected old ends.over.zones ends.over.marking (Some []) w
  running = collected_at stands ends.over.zones ends.over.marking (Some []) ends.over.ended

  still : IsSettled old.stage
  still = settled_stage stands valid (record {
    none_marking = ap marking_of running.collection_is
        ∙ none_mark stands valid (λ has. subst HasGroups ends.over.ended has) running.collection running.collection_is;
    none_preparing = running.alone;
  })

  at_rest : IsAtRest (record old { stage = idle; left_out = None; former = new.former; walks = None })
      (record w { collection = None })
  at_rest = record {
    idle = record { none_running = refl; none_preparing = running.alone };
    none_out = ends.over.none_out;
  }

  left : Represents g (record old { stage = idle; left_out = None; former = new.former; walks = None })
      (record w { collection = None })
  left = record {
    graph_is = stands.graph_is;
    places_are = stands.places_are;
    owners_are = stands.owners_are;
    out_are = stands.out_are;
    white_are = stands.white_are;
    slots_are = stands.slots_are;
    watched_are = stands.watched_are;
    black_are = λ e. let b = stands.black_are still in record { within = b.within; names_are = b.names_are };
    stage_is = at_rest;
  }

  pub represents_finish : Represents g new v
  represents_finish = subst (λ s. Represents g s v) (sym ends.new_is)
      (subst (λ z. Represents g (record old { stage = idle; left_out = None; former = new.former; walks = None }) z)
      (sym lawful.world_is) left)
