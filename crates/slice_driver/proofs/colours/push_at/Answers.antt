use Rattle.std.proofs.Common.{◌<◌, ◌+◌, ◌∙◌, ap, sym, subst, arith, w64}
use Rattle.std.specs.Int.{trailing_zeros}
use Rattle.gz_names.specs.declared.numbers.Place.{Place}
use Rattle.heap_core.specs.Shape.{IsPresent, name_at}
use Rattle.slice_driver.proofs.group_end.GraySlots.{gray_more, grays_done, next_slot}
use Rattle.slice_driver.proofs.colours.push_at.Goals.{in-Some+in_ok-push, in_default}
use Rattle.slice_driver.proofs.colours.push_at.Goals as goal

pub name-requires : goal.name-requires
name-requires c =
    let l = c.loop-left.invariant in
    let s = next_slot c.args.slots c.loop-left.left l.0 l.1 (omega (arith, c.loop-left-test.true))
    c.loop-left.auto.left-fits.fits in
    subst (λ (p : Place). IsPresent c.args.heap.now.shape p) (sym c.in-Some.ensures.1)
    (c.requires.present _ ((c.requires.gray _ s.below).0 s.set))

pub loop-left-preserved : goal.loop-left-preserved
loop-left-preserved c =
    let l = c.loop-left.invariant in
    let some : 0 < c.loop-left.left = omega (arith, c.loop-left-test.true) in
    let s = next_slot c.args.slots c.loop-left.left l.0 l.1 some c.loop-left.auto.left-fits.fits in (
      trailing_zeros w64 c.loop-left.left + 1,
      s.rest,
      elim c.match-new.branch [
        | in-Some+in_ok-push w ↦ ap (λ z. z.items) w.names-is
            ∙ gray_more c.args.heap.now c.args.arena c.args.slots c.requires.gray c.loop-left.names.items _
            c.args.names.now.items c.loop-left.left l.0 w.name.result l.1 some c.loop-left.auto.left-fits.fits l.2
            (ap (name_at c.args.heap.now.shape) (sym w.in-Some.ensures.1) ∙ w.name.ensures.value)
            w.in_ok-push.ensures.items
        | in_default w ↦ absurd (w.in_default.ensures s.below)
      ],
    )

pub returns : goal.returns
returns c = grays_done c.args.heap.now c.args.arena c.args.slots c.requires.gray c.loop-left.names.items
    c.args.names.now.items c.loop-left.left c.loop-left.invariant.0 c.loop-left.invariant.1 c.loop-left-test.false
    c.loop-left.invariant.2
