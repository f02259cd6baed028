use Rattle.std.proofs.Common.{◌∙◌, ◌++◌, ℕ, List, ap, length, reverse, subst, sym}
use Rattle.std.proofs.lemmas.List.{take-append-drop}
use Rattle.gz_names.specs.Zones.{zones_in}
use Rattle.gz_names.specs.declared.numbers.Place.{Place}
use Rattle.colour_defs.specs.Compaction.{FillArenas, given_up_from}
use Rattle.judge.specs.Arenas.{owners_in}
use Rattle.judge.specs.Compaction.{GoTo, MayGo, Packs}
use Rattle.judge.specs.Stages.{Shown, shown}
use Rattle.judge.proofs.NewCells.{spread_of}
use Rattle.judge.proofs.Packing.{may_go, packs_of}
use Rattle.judge.proofs.world.World.compact.Goals as goal

pub returns : goal.returns
returns c =
    let old : Shown = shown c.args.self.now in
    let mid : Shown = shown c.move_cells.new.self in
    let owners : List _ = owners_in c.give_up.new.self in
    let new : Shown = record mid { owners = owners; out = reverse c.give_up.new.self.out.items } in
    let kept : List ℕ = c.split_at.result.0.now in
    let given : List ℕ = c.split_at.result.1.now in
    let movers = c.in_ok-movers.movers in
    let same = c.in_ok-move_cells.ensures.same in
    subst (λ n. Packs c.args.graph.now c.args.zone old n (length given) new) (sym c.len-2.ensures.len)
    (packs_of c.args.graph.now c.args.zone old new kept given movers
    (record {
      zones = c.only-zones.result;
      one = c.only-zones.ensures;
      made = c.requires.made;
      split = (λ i. c.split_at.ensures.front i ++ c.split_at.ensures.back i)
          ∙ take-append-drop c.in_ok-filled.filled c.as_slice.result.now
          ∙ c.as_slice.ensures.value ∙ c.in_ok-arenas.ensures.numbers;
      few = subst (FillArenas _) (sym c.split_at.ensures.front_len) c.in_ok-filled.ensures.filled;
      cells_up = c.in_ok-filled.ensures.ordered;
      movers_up = c.in_ok-movers.ensures.ordered;
      movers_are = c.in_ok-movers.ensures.lying;
      stayers = c.in_ok-stayers.stayers;
      stayers_are = c.in_ok-stayers.ensures.lying;
      go = subst (λ (ps : List Place). GoTo movers.entries ps old.cells new.cells)
          (c.as_slice-2.ensures.value ∙ c.in_ok-free.ensures) c.in_ok-move_cells.ensures.moved;
      owners_are = c.give_up.ensures.owners
          ∙ ap (λ (s : Shown). given_up_from 0 s.owners given) same;
      new_is = ap (λ (ns : List ℕ). record mid { owners = owners; out = ns }) (ap reverse c.give_up.ensures.out)
          ∙ ap (λ (s : Shown). record s { owners = owners }) same;
    }))

pub lying_in-requires : goal.lying_in-requires
lying_in-requires c = spread_of c.args.self.now.places c.args.self.now.arenas c.args.self.now.laid

pub lying_in-requires-2 : goal.lying_in-requires-2
lying_in-requires-2 c = spread_of c.args.self.now.places c.args.self.now.arenas c.args.self.now.laid

pub move_cells-requires : goal.move_cells-requires
move_cells-requires c =
    let kept : List ℕ = c.split_at.result.0.now in
    let given : List ℕ = c.split_at.result.1.now in
    subst (λ (ps : List Place). MayGo c.args.self.now.places c.args.self.now.arenas c.in_ok-movers.movers.entries ps)
    (sym (c.as_slice-2.ensures.value ∙ c.in_ok-free.ensures))
    (may_go c.args.self.now.arenas c.args.self.now.places kept given c.in_ok-movers.movers c.in_ok-stayers.stayers
    (record {
      zones = zones_in c.only-zones.result;
      split = (λ i. c.split_at.ensures.front i ++ c.split_at.ensures.back i)
          ∙ take-append-drop c.in_ok-filled.filled c.as_slice.result.now
          ∙ c.as_slice.ensures.value ∙ c.in_ok-arenas.ensures.numbers;
      laid = c.args.self.now.laid;
      movers_up = c.in_ok-movers.ensures.ordered;
      movers_are = c.in_ok-movers.ensures.lying;
      stayers_are = c.in_ok-stayers.ensures.lying;
    }))
