use Rattle.std.proofs.Common.{◌≡◌, ◌<◌, ◌∙◌, None, length, map, sym, arith}
use Rattle.std.proofs.lemmas.List.{ext_get_or, get_or-map, length-map}
use Rattle.weak_refs.specs.WeakNames.{unless_dead}
use Rattle.weak_refs.proofs.weak_names.empty_dead.Goals as goal

pub returns : goal.returns
returns g c = λ is_dead says.
    let mapped : length (map (unless_dead is_dead) c.args.slots.now) ≡ length c.args.slots.now =
    length-map c.args.slots.now (unless_dead is_dead) in
    ext_get_or None c.loop-named.slots (map (unless_dead is_dead) c.args.slots.now)
    (omega (arith, c.loop-named.auto.slots, mapped))
    (λ i less.
    (let within : i < length c.args.slots.now = omega (arith, less, c.loop-named.auto.slots) in
    c.loop-named.invariant.done is_dead says i (omega (arith, within, c.loop-named-test.false))
    ∙ sym (get_or-map (unless_dead is_dead) c.args.slots.now i None None within)))
