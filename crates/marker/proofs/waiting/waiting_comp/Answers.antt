use Rattle.std.proofs.Common.{inl, inr, arith, subst}
use Rattle.std.proofs.lemmas.Bool.{cases_lt}
use Rattle.std.proofs.lemmas.Bool.Decides.{eqb_tells}
use Rattle.marker.specs.Waiting.{IsCompOf}
use Rattle.marker.proofs.waiting.waiting_comp.Goals as goal

pub loop-comp-preserved : goal.loop-comp-preserved
loop-comp-preserved c = λ n lt of. elim (cases_lt n c.loop-comp.from) [
  | inl old ↦ c.loop-comp.invariant n old of
  | inr le ↦ elim (eqb_tells n c.in-Some.comp.0) [
    | inl same ↦ absurd (cc (
      c.if-is_comp_of.false,
      c.is_comp_of.ensures.1 (subst (λ m. IsCompOf c.args.heap.now.shape c.args.group.bits m) same.1 of),
    ))
    | inr other ↦ (
        let ne = other.1 in
        c.in-Some.ensures.between n le (omega (arith, c.from-from.ensures, ne)))
  ]
]

pub returns-clause-none : goal.returns-clause-none
returns-clause-none c = λ n of. elim (cases_lt n c.loop-comp.from) [
  | inl old ↦ c.loop-comp.invariant n old of
  | inr le ↦ c.in_default.ensures.none n le
]
