use Rattle.std.proofs.Common.{◌≡◌, ◌+◌, ◌∙◌, suc, ap, sym, subst, arith}
use Rattle.heap_core.specs.Heap.{HeapState, joined}
use Rattle.gz_names.specs.declared.numbers.Place.{Place}
use Rattle.barriers.specs.Spreading.{Covers}
use Rattle.slice_driver.specs.Grays.{gray_name, grays_below}
use Rattle.slice_driver.specs.NextGray.{Picks}
use Rattle.slice_driver.proofs.dumping.NextGray.{picks_more}
use Rattle.slice_driver.proofs.next_gray.first_flown.Goals.{in-Some, in_default}
use Rattle.slice_driver.proofs.next_gray.first_flown.Goals as goal

pub loop-slot-preserved : goal.loop-slot-preserved
loop-slot-preserved g c =
    let now : HeapState = joined c.args.heap.now (g.F.Flight.bits c.args.flight.now) in
    let a = c.args.arena in
    let slot = c.loop-slot.slot in
    let l = c.loop-slot.invariant in
    let next : suc c.loop-slot.slot ≡ c.loop-slot.slot + 1 = omega arith in
    elim c.match-new.branch [
      | in-Some w ↦ (
          let told = subst (λ (h : HeapState). Picks c.args.after c.loop-slot.found (gray_name h w.in-Some.place)
          w.first_at-found.result) l.same w.first_at-found.ensures.picks in
          let here = subst (λ (p : Place). Picks c.args.after c.loop-slot.found (gray_name now p)
          w.first_at-found.result) w.in-Some.ensures.1 told in
          let more = subst (λ n. Picks c.args.after c.args.first (grays_below now a n) w.first_at-found.result) next
          (picks_more c.args.after c.args.first c.loop-slot.found w.first_at-found.result (grays_below now a slot)
          (gray_name now (a, slot)) l.picks here) in
          record {
            picks = subst (λ o. Picks c.args.after c.args.first (grays_below now a (slot + 1)) o) (sym w.found-is) more;
            same = ap (λ f. joined c.args.heap.now (g.F.Flight.bits f)) w.flight-is
                ∙ w.first_at-found.ensures.kept.same ∙ l.same;
            covers = subst (λ f. Covers c.args.heap.now.shape (g.F.Flight.bits f)) (sym w.flight-is)
                w.first_at-found.ensures.kept.covers;
            origin = ap g.F.Flight.origin w.flight-is ∙ w.first_at-found.ensures.kept.origin ∙ l.origin;
          })
      | in_default w ↦ absurd (w.in_default.ensures (omega (arith, c.loop-slot-test.true)))
    ]
