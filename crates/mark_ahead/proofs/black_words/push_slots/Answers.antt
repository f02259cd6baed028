use Rattle.std.proofs.Common.{◌<◌, ◌-◌, List, arith, bit_and, subst, sym}
use Rattle.gz_names.specs.declared.numbers.Place.{Place}
use Rattle.mark_ahead.proofs.MarkingArenas.{Pushed, all_pushed, one_pushed}
use Rattle.mark_ahead.proofs.black_words.push_slots.Goals as goal

pub loop-left-preserved : goal.loop-left-preserved
loop-left-preserved c =
    let some : 0 < c.loop-left.left = omega (arith, c.loop-left-test.true) in
    subst (λ (xs : List Place). Pushed c.args.arena c.args.word c.args.places.now.items
    (bit_and c.loop-left.left (c.loop-left.left - 1)) xs) (sym c.in_ok-push.ensures.items)
    (one_pushed c.args.arena c.args.word c.args.places.now.items c.loop-left.left c.loop-left.places.items
    c.loop-left.invariant some c.loop-left.auto.left-fits.fits c.in-Some.place c.in-Some.ensures.1)

pub returns : goal.returns
returns c = all_pushed c.args.arena c.args.word c.args.places.now.items c.loop-left.left c.loop-left.places.items
    c.loop-left.invariant c.loop-left-test.false
