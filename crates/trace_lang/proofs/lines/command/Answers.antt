use Rattle.std.proofs.Common.{subst}
use Rattle.trace_lang.specs.Grammar.{SpellsRest}
use Rattle.trace_lang.proofs.lines.command.Goals as goal

pub returns-in-New-clause-exact : goal.returns-in-New-clause-exact
returns-in-New-clause-exact c = λ d s.
    c.read.ensures.exact d (subst (λ w. SpellsRest w c.args.rest.now d) c.in-New.is s)

pub returns-in-Get-clause-exact : goal.returns-in-Get-clause-exact
returns-in-Get-clause-exact c = λ d s.
    c.read-in-Get.ensures.exact d (subst (λ w. SpellsRest w c.args.rest.now d) c.in-Get.is s)

pub returns-in-Set-clause-exact : goal.returns-in-Set-clause-exact
returns-in-Set-clause-exact c = λ d s.
    c.read-in-Set.ensures.exact d (subst (λ w. SpellsRest w c.args.rest.now d) c.in-Set.is s)

pub returns-in-Copy-clause-exact : goal.returns-in-Copy-clause-exact
returns-in-Copy-clause-exact c = λ d s.
    c.read-in-Copy.ensures.exact d (subst (λ w. SpellsRest w c.args.rest.now d) c.in-Copy.is s)

pub returns-in-Drop-clause-exact : goal.returns-in-Drop-clause-exact
returns-in-Drop-clause-exact c = λ d s.
    c.read-in-Drop.ensures.exact d (subst (λ w. SpellsRest w c.args.rest.now d) c.in-Drop.is s)

pub returns-in-Map-clause-exact : goal.returns-in-Map-clause-exact
returns-in-Map-clause-exact c = λ d s.
    c.read-in-Map.ensures.exact d (subst (λ w. SpellsRest w c.args.rest.now d) c.in-Map.is s)

pub returns-in-Wrap-clause-exact : goal.returns-in-Wrap-clause-exact
returns-in-Wrap-clause-exact c = λ d s.
    c.read-in-Wrap.ensures.exact d (subst (λ w. SpellsRest w c.args.rest.now d) c.in-Wrap.is s)

pub returns-in-Unwrap-clause-exact : goal.returns-in-Unwrap-clause-exact
returns-in-Unwrap-clause-exact c = λ d s.
    c.read-in-Unwrap.ensures.exact d (subst (λ w. SpellsRest w c.args.rest.now d) c.in-Unwrap.is s)

pub returns-in-Hold-clause-exact : goal.returns-in-Hold-clause-exact
returns-in-Hold-clause-exact c = λ d s.
    c.read-in-Hold.ensures.exact d (subst (λ w. SpellsRest w c.args.rest.now d) c.in-Hold.is s)

pub returns-in-Expose-clause-exact : goal.returns-in-Expose-clause-exact
returns-in-Expose-clause-exact c = λ d s.
    c.read-in-Expose.ensures.exact d (subst (λ w. SpellsRest w c.args.rest.now d) c.in-Expose.is s)

pub returns-in-Put-clause-exact : goal.returns-in-Put-clause-exact
returns-in-Put-clause-exact c = λ d s.
    c.read-in-Put.ensures.exact d (subst (λ w. SpellsRest w c.args.rest.now d) c.in-Put.is s)

pub returns-in-Find-clause-exact : goal.returns-in-Find-clause-exact
returns-in-Find-clause-exact c = λ d s.
    c.read-in-Find.ensures.exact d (subst (λ w. SpellsRest w c.args.rest.now d) c.in-Find.is s)

pub returns-in-Slice-clause-exact : goal.returns-in-Slice-clause-exact
returns-in-Slice-clause-exact c = λ d s.
    c.read-in-Slice.ensures.exact d (subst (λ w. SpellsRest w c.args.rest.now d) c.in-Slice.is s)
