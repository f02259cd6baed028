use Rattle.std.proofs.Common.{◌≡◌, ◌<◌, ◌∙◌, None, length, map, sym, arith}
use Rattle.std.proofs.lemmas.List.{ext_get_or, get_or-map, length-map}
use Rattle.std.specs.Option.{option_map}
use Rattle.gz_names.specs.Moves.{moved}
use Rattle.roots.proofs.roots_held.forward_pinned.Goals as goal

pub returns : goal.returns
returns c =
    let gone = option_map (moved c.args.moves.now) in
    let old = c.args.pinned.now.slots in
    let mapped : length (map gone old) ≡ length old = length-map old gone in
    ext_get_or None c.loop-root.pinned.slots (map gone old) (omega (arith, c.loop-root.invariant.sized, mapped))
    (λ i less.
    (let within : i < length old = omega (arith, less, c.loop-root.invariant.sized) in
    c.loop-root.invariant.done i (omega (arith, within, c.loop-root-test.false, c.capacity-root-end.ensures.slots))
    ∙ sym (get_or-map gone old i None None within)))
