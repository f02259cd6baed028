use Rattle.std.proofs.Common.{◌<◌, None, inr, length, refl, sym, arith}
use Rattle.std.proofs.lemmas.List.{length-map}
use Rattle.judge.specs.Arenas.{owners_in}
use Rattle.judge.specs.Slots.{owner_of}
use Rattle.judge.proofs.Slots.{kept_given, table_of}
use Rattle.judge.proofs.GivenUp.{given_elsewhere, given_set}
use Rattle.judge.proofs.arenas.Arenas.give_one_up.Goals as goal

pub returns-in-Some-clause-owners : goal.returns-in-Some-clause-owners
returns-in-Some-clause-owners c =
    given_set 0 c.args.number c.args.number c.args.self.now.arenas.items _ (omega arith) refl

pub returns-in_default-clause-owners : goal.returns-in_default-clause-owners
returns-in_default-clause-owners c =
    let off : c.args.number < length c.args.self.now.arenas.items → ⊥ =
    λ less. let t = c.in_default.ensures.variant.1 (omega (arith, less, c.args.self.now.arenas.ok)) in cc t in
    sym (given_elsewhere 0 (owners_in c.args.self.now) c.args.number
    (inr (omega (arith, off, length-map c.args.self.now.arenas.items owner_of))))

pub invariant_of-self : goal.invariant_of-self
invariant_of-self c = record {
  kept = kept_given (table_of c.args.self.now) (record {
    number = c.args.number;
    was = c.in-Some.arena.now;
    now = record c.in-Some.arena.now { owner = None };
    at = c.in-Some.ensures.value;
  }) refl refl refl c.args.self.now.kept;
}
