use Rattle.std.proofs.Common.{◌∙◌, true, ap, refl, sym}
use Rattle.std.proofs.Math.Seq.{map-set_same}
use Rattle.judge.specs.Slots.{owner_of}
use Rattle.judge.proofs.Owners.{goes_out, stays_in}
use Rattle.judge.proofs.Slots.{kept_out, table_of}
use Rattle.judge.proofs.arenas.Arenas.hand_one_out.Goals as goal

pub returns-then-not-is_of-clause-out : goal.returns-then-not-is_of-clause-out
returns-then-not-is_of-clause-out c = λ rest e.
    stays_in c.args.self.now.arenas.items c.args.number c.args.zones c.args.self.now.out.items rest
    (record {
      below = c.requires;
      one = c.index.result.now;
      one_is = sym c.index.ensures;
      test = sym c.if-not-is_of.true ∙ c.is_of.ensures;
    }) e

pub returns-clause-out : goal.returns-clause-out
returns-clause-out c = λ rest e.
    goes_out c.args.self.now.arenas.items c.args.number c.args.zones c.args.self.now.out.items c.push.new.self.items
    rest
    (record {
      below = c.requires;
      one = c.index.result.now;
      one_is = sym c.index.ensures;
      test = sym c.if-not-is_of.false ∙ c.is_of.ensures;
    }) c.in_ok-push.ensures.items e

pub returns-clause-owners : goal.returns-clause-owners
returns-clause-owners c =
    map-set_same owner_of c.args.self.now.arenas.items c.args.number _ c.index_mut.result.now
    (ap owner_of c.index_mut.ensures.value)

pub invariant_of-self-2 : goal.invariant_of-self-2
invariant_of-self-2 c = record {
  kept = kept_out (table_of c.args.self.now) (record {
    number = c.args.number;
    was = c.index_mut.result.now;
    now = record c.index_mut.result.now { is_out = true };
    at = c.index_mut.ensures.value;
  }) c.push.new.self.items c.requires refl refl refl c.in_ok-push.ensures.items c.args.self.now.kept;
}
