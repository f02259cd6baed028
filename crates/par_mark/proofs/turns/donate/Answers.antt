use Rattle.std.proofs.Common.{rules, sym, subst}
use Rattle.std.proofs.lemmas.List.Elements.{All-get_or}
use Rattle.par_mark.specs.Tries.{given}
use Rattle.par_mark.proofs.Balancing.{puts, learns}
use Rattle.par_mark.proofs.turns.donate.Goals as goal

pub push_as-requires-clause-rule : goal.push_as-requires-clause-rule
push_as-requires-clause-rule g c = (
  puts g.L.PlaceList.places _ _ _ _ c.requires.parts
      (subst g.L.PlaceList.places (sym c.in-Some.ensures.lookup)
      (All-get_or g.L.PlaceList.places c.args.tries.now.items 0 c.in-Some.oldest.now (search rules) c.requires.listed)),
  learns g.L.PlaceList.places _ _,
)

pub returns-in-Ok-clause-donated : goal.returns-in-Ok-clause-donated
returns-in-Ok-clause-donated g c = given c.in-Some.oldest.now (search rules) c.in-Ok.ensures.rule
