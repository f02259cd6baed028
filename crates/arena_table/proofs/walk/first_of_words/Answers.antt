use Rattle.std.proofs.Common.{◌∙◌, refl, sym}
use Rattle.std.proofs.lemmas.Option.{IfSome_then}
use Rattle.arena_table.specs.Walks.{walk_rest}
use Rattle.arena_table.proofs.Walking.{walk-no_left}
use Rattle.arena_table.proofs.walk.first_of_words.Goals as goal

pub returns-clause-some : goal.returns-clause-some
returns-clause-some c = IfSome_then c.next.result c.next.ensures.some (λ arena found arenas owned. (
  walk_rest arenas c.next.new.self,
  sym (walk-no_left arenas (record { zones = c.args.zones; left = 0; base = 0; at = c.args.at }) refl)
      ∙ found arenas owned,
))
