use Rattle.std.proofs.Common.{◌≡◌, ℕ, List, Option, sym, subst}
use Rattle.cell_bits.specs.declared.bits.Bits.{Bits}
use Rattle.sweeping.specs.ArenasOut.{flown_by, outs_of}
use Rattle.sweep_beside.proofs.beside.sweep_by_main.Goals as goal

pub run-requires : goal.run-requires
run-requires g c =
    let left : outs_of c.take_over.new.self ≡ outs_of c.args.jobs = c.take_over.ensures.left in
    let bits : flown_by c.take_over.new.self ≡ flown_by c.args.jobs = c.take_over.ensures.bits in
    subst (λ (outs : List (ℕ × ℕ)). g.W.Works.ready c.args.work.now outs (flown_by c.take_over.new.self)) (sym left)
    (subst (λ (flown : ℕ → Option Bits). g.W.Works.ready c.args.work.now (outs_of c.args.jobs) flown) (sym bits)
    c.requires.ready)

pub returns : goal.returns
returns g c =
    let left : outs_of c.take_over.new.self ≡ outs_of c.args.jobs = c.take_over.ensures.left in
    let bits : flown_by c.take_over.new.self ≡ flown_by c.args.jobs = c.take_over.ensures.bits in
    subst (λ (outs : List (ℕ × ℕ)). g.W.Works.ran c.args.work.now outs (flown_by c.args.jobs) c.run.new.self) left
    (subst (λ (flown : ℕ → Option Bits). g.W.Works.ran c.args.work.now (outs_of c.take_over.new.self) flown
    c.run.new.self) bits c.run.ensures.ran)
