use Rattle.std.proofs.Common.{◌≡◌, ◌∙◌, ap, subst, sym}
use Rattle.std.proofs.lemmas.Result.{on_ok_weaker}
use Rattle.judge.specs.Cells.{Cells, GivesPlace}
use Rattle.plain_graph.specs.Reach.{WalkState}
use Rattle.judge.specs.Stages.{BlackensLeft, BlackensOne, Shown, Wakes, shown, stage_of}
use Rattle.judge.specs.Walks.{left_out_of, walks_of}
use Rattle.judge.specs.declared.world.Phase.{Phase}
use Rattle.judge.proofs.Owners.{lies_before}
use Rattle.judge.proofs.world.World.wake.Goals as goal

pub returns-clause-places : goal.returns-clause-places
returns-clause-places c =
    on_ok_weaker c.turn_black.result (λ same. subst (λ (cells : Cells). GivesPlace c.args.graph.now
    c.args.self.now.places c.args.name cells) (sym (ap (λ (s : Shown). s.cells) same))
    c.in_ok-give_place.ensures.places)
    c.turn_black.ensures.same

pub returns-clause-walks : goal.returns-clause-walks
returns-clause-walks c =
    on_ok_weaker c.turn_black.result (λ w. subst (λ (p : Phase). Wakes (stage_of p) c.args.name (walks_of p)
    (walks_of c.turn_black.new.self.phase)) c.give_place.ensures.phase w) c.turn_black.ensures.walks

pub returns-clause-black : goal.returns-clause-black
returns-clause-black c =
    let after = c.turn_black.new.self.black in
    let black = ap (λ (s : Shown). s.black) c.in_ok-give_place.ensures.same in
    on_ok_weaker c.turn_black.result (λ b. subst (λ (w : WalkState). BlackensOne c.args.graph.now
    (stage_of c.args.self.now.phase) c.args.name w after) black (subst (λ (p : Phase). BlackensOne c.args.graph.now
    (stage_of p) c.args.name c.give_place.new.self.black after) c.give_place.ensures.phase b))
    c.turn_black.ensures.black

pub returns-clause-lies : goal.returns-clause-lies
returns-clause-lies c =
    let mid = shown c.give_place.new.self in
    let after = shown c.turn_black.new.self in
    on_ok_weaker c.turn_black.result (λ same. lies_before c.args.graph.now (shown c.args.self.now) mid after
    (ap (λ (s : Shown). s.owners) same) (ap (λ (s : Shown). s.cells) same) c.in_ok-give_place.ensures.lies)
    c.turn_black.ensures.same

pub returns-clause-whites : goal.returns-clause-whites
returns-clause-whites c =
    on_ok_weaker c.turn_black.result (λ same. ap (λ (s : Shown). s.whites) same
    ∙ ap (λ (s : Shown). s.whites) c.in_ok-give_place.ensures.same) c.turn_black.ensures.same

pub returns-clause-tally : goal.returns-clause-tally
returns-clause-tally c =
    on_ok_weaker c.turn_black.result (λ same. ap (λ (s : Shown). s.tally) same
    ∙ ap (λ (s : Shown). s.tally) c.in_ok-give_place.ensures.same) c.turn_black.ensures.same

pub returns-clause-left_out : goal.returns-clause-left_out
returns-clause-left_out c =
    on_ok_weaker c.turn_black.result (λ l. subst (λ (p : Phase). BlackensLeft c.args.graph.now (stage_of p)
    (λ s. c.args.name ≡ s) (left_out_of p) (left_out_of c.turn_black.new.self.phase)) c.give_place.ensures.phase l)
    c.turn_black.ensures.left_out
