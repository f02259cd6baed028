use Rattle.std.proofs.Common.{◌∙◌, ap, not}
use Rattle.judge.proofs.Parts.{fits_of}
use Rattle.judge.proofs.Results.{none_there, not_there, some_there}
use Rattle.judge.proofs.checks.fits.Goals as goal

pub returns : goal.returns
returns c = (
  λ t. fits_of c.args.zones c.args.seen c.args.group c.intersection.result c.without.result
      (some_there c.first.result (c.is_none.ensures ∙ ap not c.if-is_none.false) c.first.ensures.some)
      (none_there c.first-2.result (cc (c.is_some.ensures, c.if-is_some.false)) c.first-2.ensures.none)
      (none_there c.first-3.result (c.is_none-2.ensures ∙ ap not t) c.first-3.ensures.none) c.intersection.ensures
      c.without.ensures,
  λ f. not_there c.first-3.result c.is_none-2.result c.is_none-2.ensures c.first-3.ensures.some
      (λ z h. let left = (c.without.ensures z).0 h in left.1 (f.within z left.0)),
)
