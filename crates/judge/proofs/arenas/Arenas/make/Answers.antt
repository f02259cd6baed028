use Rattle.std.proofs.Common.{arith, set, subst, sym}
use Rattle.judge.proofs.Slots.{IsKept, kept_more, table_of}
use Rattle.judge.proofs.arenas.Arenas.make.Goals as goal

pub invariant_of-self-2 : goal.invariant_of-self-2
invariant_of-self-2 c =
    let old = c.args.self.now in
    let many = c.len-arena.ensures in record {
      kept = subst (λ z. IsKept (record (table_of old) {
        arenas = c.push.new.self.items;
        lowest = set old.lowest z c.len-arena.result;
      })) (sym c.index.ensures.value) (kept_more (table_of old) c.push.new.self.items c.args.zone c.len-arena.result
          c.in_ok-push.ensures.items (omega arith) (omega arith) c.requires old.kept);
    }
