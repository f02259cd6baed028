use Rattle.std.proofs.Common.{arith, inl, inr, refl, sym}
use Rattle.marker.proofs.weak_units.raise_key.Goals as goal

pub raise-requires-clause-one : goal.raise-requires-clause-one
raise-requires-clause-one g c = (c.requires.marks.colours.shape.entries _ _ _ c.requires.entry).0

pub raise-requires-clause-other : goal.raise-requires-clause-other
raise-requires-clause-other g c =
    let shape = c.requires.marks.colours.shape in
    let is = (shape.delegates _ _ _ c.in-Some.delegate c.requires.entry).1 (sym c.in-Some.ensures.delegate) in
    shape.targets _ _ (0, omega arith, is.1)

pub raise-requires-clause-present : goal.raise-requires-clause-present
raise-requires-clause-present g c = (c.requires.marks.colours.shape.entries _ _ _ c.requires.entry).1

pub returns-in-Some-clause-raises : goal.returns-in-Some-clause-raises
returns-in-Some-clause-raises g c = inl (
  c.in-Some.delegate,
  (c.requires.marks.colours.shape.delegates _ _ _ c.in-Some.delegate c.requires.entry).1
      (sym c.in-Some.ensures.delegate),
  c.raise.ensures.raises,
)

pub returns-in_default-clause-raises : goal.returns-in_default-clause-raises
returns-in_default-clause-raises g c = inr (
  λ d is. (let there = (c.requires.marks.colours.shape.delegates _ _ _ d c.requires.entry).0 is in
      cc (c.in_default.ensures.delegate, there)),
  refl,
  refl,
)
