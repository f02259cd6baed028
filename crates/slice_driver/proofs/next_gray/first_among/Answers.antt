use Rattle.std.proofs.Common.{◌<◌, ◌+◌, ◌++◌, ◌∙◌, [], ◌∷◌, refl, ap, sym, subst, arith, w64}
use Rattle.std.specs.Int.{trailing_zeros}
use Rattle.gz_names.specs.declared.numbers.Place.{Place}
use Rattle.heap_core.specs.Shape.{IsPresent, name_at}
use Rattle.slice_driver.specs.Grays.{grays_below}
use Rattle.slice_driver.specs.NextGray.{Picks}
use Rattle.slice_driver.proofs.dumping.NextGray.{picks_more}
use Rattle.slice_driver.proofs.group_end.GraySlots.{gray_more, grays_done, next_slot}
use Rattle.slice_driver.proofs.next_gray.first_among.Goals.{in-Some, in_default}
use Rattle.slice_driver.proofs.next_gray.first_among.Goals as goal

pub name-requires : goal.name-requires
name-requires c =
    let l = c.loop-left.invariant in
    let s = next_slot c.args.slots c.loop-left.left l.0 l.1 (omega (arith, c.loop-left-test.true))
    c.loop-left.auto.left-fits.fits in
    subst (λ (p : Place). IsPresent c.args.heap.now.shape p) (sym c.in-Some.ensures.1)
    (c.requires.present _ ((c.requires.gray _ s.below).0 s.set))

pub loop-left-preserved : goal.loop-left-preserved
loop-left-preserved c =
    let l = c.loop-left.invariant in
    let some : 0 < c.loop-left.left = omega (arith, c.loop-left-test.true) in
    let fits = c.loop-left.auto.left-fits.fits in
    let s = next_slot c.args.slots c.loop-left.left l.0 l.1 some fits in (
      trailing_zeros w64 c.loop-left.left + 1,
      s.rest,
      elim c.match-new.branch [
        | in-Some w ↦ (
            let before = grays_below c.args.heap.now c.args.arena l.0 in
            let named = ap (name_at c.args.heap.now.shape) (sym w.in-Some.ensures.1) ∙ w.name.ensures.value in
            let more = gray_more c.args.heap.now c.args.arena c.args.slots c.requires.gray before
            (before ++ w.name.result ∷ []) [] c.loop-left.left l.0 w.name.result l.1 some fits refl named refl in
            subst (λ o. Picks c.args.after c.args.first
            (grays_below c.args.heap.now c.args.arena (trailing_zeros w64 c.loop-left.left + 1)) o) (sym w.found-is)
            (subst (λ xs. Picks c.args.after c.args.first xs w.first_of-found.result) more
            (picks_more c.args.after c.args.first c.loop-left.found w.first_of-found.result before
            (w.name.result ∷ []) l.2 w.first_of-found.ensures)))
        | in_default w ↦ absurd (w.in_default.ensures s.below)
      ],
    )

pub returns : goal.returns
returns c = subst (λ xs. Picks c.args.after c.args.first xs c.loop-left.found)
    (grays_done c.args.heap.now c.args.arena c.args.slots c.requires.gray
    (grays_below c.args.heap.now c.args.arena c.loop-left.invariant.0) [] c.loop-left.left c.loop-left.invariant.0
    c.loop-left.invariant.1 c.loop-left-test.false refl) c.loop-left.invariant.2
