use Rattle.std.proofs.Common.{◌<◌, ◌∙◌, ◌++◌, length, ap, sym, arith, append_assoc}
use Rattle.std.proofs.lemmas.List.{append-nil, length-append}
use Rattle.std.proofs.lemmas.Fmt.{length-decimal-le}
use Rattle.gz_names.specs.Zones.{zones_from, zones_in}
use Rattle.gz_names.proofs.Words.{HasZone-below}
use Rattle.trace_lang.specs.Words.{number_word, number_words}
use Rattle.trace_lang.proofs.ZoneLists.{zones_below-all, zones_below-next, zones_from-nil}
use Rattle.trace_lang.proofs.piece.Piece.push_zones.Goals as goal

pub loop-zone-init : goal.loop-zone-init
loop-zone-init c = (
  sym (ap (λ t. c.args.self.now ++ number_words t) (zones_from-nil c.args.zones.bits 0)
      ∙ append-nil c.args.self.now),
  omega arith,
  omega arith,
)

pub overflow_add-from : goal.overflow_add-from
overflow_add-from c =
    let below = HasZone-below c.args.zones.bits c.in-Some.zone c.in-Some.ensures.some.1 in omega (arith, below)

pub loop-zone-smaller : goal.loop-zone-smaller
loop-zone-smaller c =
    let below = HasZone-below c.args.zones.bits c.in-Some.zone c.in-Some.ensures.some.1 in
    omega (arith, below, c.in-Some.ensures.some.0)

pub loop-zone-preserved : goal.loop-zone-preserved
loop-zone-preserved c =
    let w = c.args.zones.bits in
    let z = c.in-Some.zone in
    let old = c.args.self.now in
    let below : z < 64 = HasZone-below w z c.in-Some.ensures.some.1 in
    let two = length-decimal-le 2 z (omega arith) (omega arith) (omega arith) in
    let from = c.loop-zone.from in (
      c.push_number.ensures.text
          ∙ ap (λ t. t ++ number_word z) c.loop-zone.invariant.0
          ∙ append_assoc old (number_words (zones_from w 0 from)) (number_word z)
          ∙ ap (λ t. old ++ t) (sym (zones_below-next w from z c.in-Some.ensures.some.0 c.in-Some.ensures.some.1
          c.in-Some.ensures.lowest)),
      omega (
        arith,
        ap length c.push_number.ensures.text,
        length-append c.loop-zone.self (number_word z),
        two,
        c.loop-zone.invariant.1,
        c.in-Some.ensures.some.0,
      ),
      omega (arith, below),
    )

pub returns-clause-text : goal.returns-clause-text
unfolding zones_in
returns-clause-text c =
    c.loop-zone.invariant.0 ∙ ap (λ t. c.args.self.now ++ number_words t)
    (zones_below-all c.args.zones.bits c.loop-zone.from c.loop-zone.invariant.2 c.in_default.ensures.none)
