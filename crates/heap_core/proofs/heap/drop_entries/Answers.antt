use Rattle.std.proofs.Common.{◌≡◌, ◌<◌, ◌-◌, ◌+◌, ℕ, length, sym, ◌∙◌, subst, arith}
use Rattle.std.proofs.lemmas.Option.{slice_get-get_or}
use Rattle.weak_maps.proofs.Kept.{KeepsRows-same}
use Rattle.heap_core.proofs.Dropping.{Visited, Visited-all, Visited-more, Visited-none, none_white}
use Rattle.heap_core.proofs.heap.drop_entries.Goals as goal

pub returns-then-count-eq0-clause-dropped : goal.returns-then-count-eq0-clause-dropped
returns-then-count-eq0-clause-dropped c =
    none_white c.args.jobs.now c.args.weak.now.table (sym c.count.ensures.count ∙ c.if-count-eq0.true)

pub returns-then-count-eq0-clause-rows : goal.returns-then-count-eq0-clause-rows
returns-then-count-eq0-clause-rows c = KeepsRows-same c.args.weak.now.table c.count.ensures.sound

pub loop-index-init : goal.loop-index-init
loop-index-init c = record {
  visited = Visited-none c.args.jobs.now _ c.args.weak.now (omega arith) c.count.ensures.parallel
      c.count.ensures.sound;
  within = omega arith;
}

pub loop-index-preserved : goal.loop-index-preserved
loop-index-preserved c =
    let n = c.loop-index.index - 1 in
    let next : c.loop-index.index ≡ n + 1 = omega (arith, c.loop-index-test.true) in
    let less : n < length c.args.jobs.now =
    omega (arith, c.loop-index-test.true, c.loop-index.invariant.within) in
    record {
      visited = Visited-more c.args.jobs.now c.args.weak.now c.loop-index.weak c.drop_white.new.weak n _
          (slice_get-get_or c.args.jobs.now n _ less)
          (subst (λ (i : ℕ). Visited c.args.jobs.now i c.args.weak.now c.loop-index.weak) next
          c.loop-index.invariant.visited) (record {
            without = c.drop_white.ensures.dropped;
            fewer = c.drop_white.ensures.fewer;
            rows = c.drop_white.ensures.rows;
            carries = c.drop_white.ensures.carries;
            parallel = c.drop_white.ensures.parallel;
            sound = c.drop_white.ensures.sound;
          });
      within = omega (arith, less);
    }

pub returns-clause-dropped : goal.returns-clause-dropped
returns-clause-dropped c =
    Visited-all c.args.jobs.now c.loop-index.index c.args.weak.now c.loop-index.weak
    (omega (arith, c.loop-index-test.false)) c.loop-index.invariant.visited
