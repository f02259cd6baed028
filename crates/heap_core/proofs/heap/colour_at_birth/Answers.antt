use Rattle.std.proofs.Common.{arith, false, subst, sym, ◌≡◌}
use Rattle.heap_core.specs.Births.{ColoursAtBirth}
use Rattle.heap_core.proofs.MakingCells.{bits-same, kept-within}
use Rattle.heap_core.proofs.heap.colour_at_birth.Goals as goal

pub returns-then-is_prepared : goal.returns-then-is_prepared
returns-then-is_prepared c =
    subst (λ b. ColoursAtBirth b c.args.arenas.now c.args.place c.args.arenas.now) (sym c.if-is_prepared.true)
    (bits-same c.args.arenas.now c.args.place c.requires.kept)

pub bits-bits-requires : goal.bits-bits-requires
bits-bits-requires c =
    (let within = kept-within c.args.arenas.now.arenas c.args.place.0 (λ a. a.is_out ≡ false) c.requires.kept in
    omega (arith, c.arena.ensures, within))
