use Rattle.std.proofs.Common.{◌≡◌, ◌<◌, ◌∙◌, None, length, map, sym, arith}
use Rattle.std.proofs.lemmas.List.{ext_get_or, get_or-map, length-map}
use Rattle.judge.specs.Weak.{if_present}
use Rattle.judge.proofs.weak.lose_absent.Goals as goal

pub returns : goal.returns
returns c =
    let places = c.args.places.now in
    let mapped : length (map (if_present places) c.args.slots.now) ≡ length c.args.slots.now =
    length-map c.args.slots.now (if_present places) in
    ext_get_or None c.loop-named.slots (map (if_present places) c.args.slots.now)
    (omega (arith, c.loop-named.auto.slots, mapped))
    (λ i less.
    (let within : i < length c.args.slots.now = omega (arith, less, c.loop-named.auto.slots) in
    c.loop-named.invariant.done i (omega (arith, within, c.loop-named-test.false))
    ∙ sym (get_or-map (if_present places) c.args.slots.now i None None within)))
