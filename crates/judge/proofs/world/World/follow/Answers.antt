use Rattle.judge.specs.Cells.{also_woken_in, woken_in}
use Rattle.judge.specs.Walks.{left_out_of}
use Rattle.judge.proofs.LeftStages.{left_either, left_moved, left_of}
use Rattle.std.proofs.Common.{◌≡◌, Some, ap, refl}
use Rattle.std.proofs.lemmas.Result.{on_ok_weaker}
use Rattle.judge.specs.Stages.{Shown, shown, stage_of}
use Rattle.judge.proofs.Owners.{lies_after}
use Rattle.judge.proofs.world.World.follow.Goals as goal

pub returns-clause-lies : goal.returns-clause-lies
returns-clause-lies c =
    let same = c.in_ok-take.ensures.same in
    on_ok_weaker c.wake_any.result (λ l. lies_after c.args.graph.now (shown c.args.self.now) (shown c.take.new.self)
    (shown c.wake_any.new.self) (ap (λ (s : Shown). s.owners) same) (ap (λ (s : Shown). s.cells) same)
    (ap (λ (s : Shown). s.out) same) l)
    c.wake_any.ensures.lies

pub returns-clause-left_out : goal.returns-clause-left_out
returns-clause-left_out c =
    let g = c.args.graph.now in
    let stage = stage_of c.args.self.now.phase in
    let mid = left_out_of c.take.new.self.phase in
    let after = left_out_of c.wake_any.new.self.phase in
    let between = stage_of c.take.new.self.phase in
    let same = ap (λ (s : Shown). s.stage) c.in_ok-take.ensures.same in
    let woken = woken_in c.args.command.now c.args.reply.now in
    on_ok_weaker c.wake_any.result (λ l. left_either g stage woken
    (also_woken_in c.args.command.now c.args.reply.now) (left_out_of c.args.self.now.phase) mid after
    c.in_ok-take.ensures.left_out (left_moved g stage between (λ n. woken ≡ Some n) mid mid after same refl
    (left_of g between c.woken_in.result woken mid after c.woken_in.ensures l)))
    c.wake_any.ensures.left_out
