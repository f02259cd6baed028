use Rattle.std.proofs.Common.{◌≡◌, ◌<◌, ◌∙◌, None, length, map, sym, arith}
use Rattle.std.proofs.lemmas.List.{ext_get_or, get_or-map, length-map}
use Rattle.std.specs.Option.{option_map}
use Rattle.gz_names.specs.Moves.{moved}
use Rattle.roots.proofs.roots_held.forward_all.Goals as goal

pub returns : goal.returns
returns c =
    let gone = option_map (moved c.args.moves.now) in
    let mapped : length (map gone c.args.held.now) ≡ length c.args.held.now = length-map c.args.held.now gone in
    ext_get_or None c.loop-place.held (map gone c.args.held.now) (omega (arith, c.loop-place.auto.held, mapped))
    (λ i less.
    (let within : i < length c.args.held.now = omega (arith, less, c.loop-place.auto.held) in
    c.loop-place.invariant.done i (omega (arith, within, c.loop-place-test.false))
    ∙ sym (get_or-map gone c.args.held.now i None None within)))
