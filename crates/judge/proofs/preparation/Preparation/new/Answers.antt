use Rattle.std.proofs.Common.{Contains, List, subst, sym}
use Rattle.gz_names.specs.declared.names.Name.{Name}
use Rattle.judge.proofs.preparation.Preparation.new.Goals as goal

pub returns-clause-left_out : goal.returns-clause-left_out
returns-clause-left_out c = λ x.
    let set = c.in_ok-set_of.ensures x in
    let names = c.in_ok-names.ensures x in (
      λ h. names.0 (subst (λ (xs : List Name). Contains xs x) c.as_slice.ensures.value (set.0 h)),
      λ h. set.1 (subst (λ (xs : List Name). Contains xs x) (sym c.as_slice.ensures.value) (names.1 h)),
    )
