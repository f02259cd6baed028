use Rattle.std.proofs.Common.{◌≡◌, arith, subst}
use Rattle.gz_names.specs.Zones.{HasZone}
use Rattle.gz_names.proofs.Words.{HasZone-first, HasZone-lowest, HasZone-none}
use Rattle.gray_lists.proofs.comp_sets.lowest_from.Goals as goal

pub returns-then-rest-eq0-clause-none : goal.returns-then-rest-eq0-clause-none
returns-then-rest-eq0-clause-none c = λ b le h. (
    let gone : c.bits_from-rest.result ≡ 0 = omega arith in
    HasZone-none b (subst (λ w. HasZone w b) gone ((c.bits_from-rest.ensures b).1 (h, le))))

pub returns-else-rest-eq0-clause-some : goal.returns-else-rest-eq0-clause-some
returns-else-rest-eq0-clause-some c =
    let first = HasZone-first c.bits_from-rest.result (omega arith) (omega arith) in
    let found = (c.bits_from-rest.ensures _).0 first.1 in
    (found.1, first.0, found.0)

pub returns-else-rest-eq0-clause-between : goal.returns-else-rest-eq0-clause-between
returns-else-rest-eq0-clause-between c =
    λ b le lt h. HasZone-lowest c.bits_from-rest.result (omega arith) (omega arith) b lt
    ((c.bits_from-rest.ensures b).1 (h, le))
