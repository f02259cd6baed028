use Rattle.std.proofs.Common.{◌∙◌, ◌+◌, ◌++◌, ◌∷◌, [], List, ℕ, ap, append_assoc, arith, drop, length}
use Rattle.std.proofs.Common.{length-append, sym}
use Rattle.gz_names.specs.Zones.{zones_in}
use Rattle.colour_defs.specs.Ends.{arenas_from}
use Rattle.judge.specs.Arenas.{owners_in}
use Rattle.judge.proofs.Owners.{looked_at}
use Rattle.judge.proofs.arenas.Arenas.numbers.Goals as goal

pub loop-number-preserved-then-not-is_of : goal.loop-number-preserved-then-not-is_of
loop-number-preserved-then-not-is_of c = record {
  numbers = ap (λ (ns : List ℕ). c.loop-number.numbers.items ++ ns)
      (sym (looked_at c.args.self.now.arenas.items c.loop-number.number c.args.zones _ (record {
        below = omega (arith, c.loop-number-test.true, c.len-number-end.ensures);
        one = c.index.result.now;
        one_is = sym c.index.ensures;
        test = sym c.if-not-is_of.true ∙ c.is_of.ensures;
      })))
      ∙ c.loop-number.invariant.numbers;
  few = omega (arith, c.loop-number.invariant.few);
}

pub loop-number-preserved : goal.loop-number-preserved
loop-number-preserved c =
    let n = c.loop-number.number in
    let items = c.loop-number.numbers.items in
    let rest = arenas_from (n + 1) (drop (n + 1) (owners_in c.args.self.now)) (zones_in c.args.zones) in
    let more = ap length c.in_ok-push.ensures.items in
    let sum = length-append items (n ∷ []) in record {
      numbers = ap (λ (ns : List ℕ). ns ++ rest) c.in_ok-push.ensures.items
          ∙ append_assoc items (n ∷ []) rest
          ∙ ap (λ (ns : List ℕ). items ++ ns)
          (sym (looked_at c.args.self.now.arenas.items n c.args.zones _ (record {
            below = omega (arith, c.loop-number-test.true, c.len-number-end.ensures);
            one = c.index.result.now;
            one_is = sym c.index.ensures;
            test = sym c.if-not-is_of.false ∙ c.is_of.ensures;
          })))
          ∙ c.loop-number.invariant.numbers;
      few = omega (arith, more, sum, c.loop-number.invariant.few);
    }
