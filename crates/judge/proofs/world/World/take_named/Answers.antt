use Rattle.judge.specs.Walks.{left_out_of}
use Rattle.judge.proofs.LeftStages.{left_alone, left_moved}
use Rattle.std.proofs.Common.{◌≡◌, Some, ap}
use Rattle.std.proofs.lemmas.Result.{on_ok_weaker}
use Rattle.judge.specs.Stages.{Shown, shown, stage_of}
use Rattle.judge.proofs.Owners.{lies_after}
use Rattle.judge.proofs.world.World.take_named.Goals as goal

pub returns-clause-lies : goal.returns-clause-lies
returns-clause-lies c =
    let same = c.in_ok-count_woken.ensures.same in
    on_ok_weaker c.wake_any.result (λ l. lies_after c.args.graph.now (shown c.args.self.now)
    (shown c.count_woken.new.self) (shown c.wake_any.new.self) (ap (λ (s : Shown). s.owners) same)
    (ap (λ (s : Shown). s.cells) same) (ap (λ (s : Shown). s.out) same) l) c.wake_any.ensures.lies

pub returns-clause-left_out : goal.returns-clause-left_out
returns-clause-left_out c =
    let g = c.args.graph.now in
    let mid = c.count_woken.new.self.phase in
    let before = c.args.self.now.phase in
    let after = left_out_of c.wake_any.new.self.phase in
    let same = c.in_ok-count_woken.ensures.same in
    on_ok_weaker c.wake_any.result (λ l. left_alone g (stage_of before) c.args.named (left_out_of before) after
    (left_moved g (stage_of before) (stage_of mid) (λ n. c.args.named ≡ Some n) (left_out_of before) (left_out_of mid)
    after (ap (λ (s : Shown). s.stage) same) (ap (λ (s : Shown). s.left_out) same) l)) c.wake_any.ensures.left_out
