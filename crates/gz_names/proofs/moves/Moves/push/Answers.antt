use Rattle.std.proofs.Common.{◌≡◌, ◌∷◌, ◌++◌, [], List, length, ap, sym, ◌∙◌, subst, arith}
use Rattle.gz_names.specs.declared.moves.Leaving.{Leaving}
use Rattle.gz_names.specs.declared.moves.Move.{Move}
use Rattle.gz_names.specs.Moves.{AreKept, with_left}
use Rattle.gz_names.proofs.Moving.{AreKept-push}
use Rattle.gz_names.proofs.moves.Moves.push.Goals as goal

pub invariant_of-self-2 : goal.invariant_of-self-2
invariant_of-self-2 c =
    let ms = c.args.self.now in
    let all : AreKept ms c.self.inside.arenas.items =
    subst (λ l. AreKept l c.self.inside.arenas.items) c.self.view_is c.self.invariant in
    let more = AreKept-push ms c.args.step c.requires c.leave.ensures.slot c.self.inside.arenas.items all in
    let before : c.reserve.new.self.items ≡ ms = c.in_ok-reserve.ensures.items ∙ c.self.view_is in
    let moves : c.push_reserved.new.self.items ≡ ms ++ c.args.step ∷ [] =
    c.push_reserved.ensures.items ∙ ap (λ l. l ++ c.args.step ∷ []) before in
    let long = ap (length {A = Move}) before in
    let number : c.len.result ≡ length ms = omega (arith, c.len.ensures, c.reserve.new.self.ok, long) in
    let arenas : c.leave.new.arenas.items ≡ with_left c.self.inside.arenas.items c.args.step.from (length ms) =
    c.in_ok-leave.ensures.ok ∙ ap (with_left c.self.inside.arenas.items c.args.step.from) number in
    subst (λ l. AreKept l c.leave.new.arenas.items) (sym moves)
    (subst (λ (l : List Leaving). AreKept (ms ++ c.args.step ∷ []) l) (sym arenas) more)
