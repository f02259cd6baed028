use Rattle.std.proofs.Common.{◌≤◌, List, length, subst, sym}
use Rattle.gz_names.specs.declared.names.Name.{Name}
use Rattle.judge.proofs.whites.Whites.of.Goals as goal

pub returns-in-Some-clause-few : goal.returns-in-Some-clause-few
returns-in-Some-clause-few c =
    subst (λ (ns : List Name). length ns ≤ 64) (sym c.as_slice.ensures)
    (c.args.self.now.short c.args.arena c.in-Some.names.now (sym c.in-Some.ensures.value))
