use Rattle.std.proofs.Common.{◌≡◌, ◌<◌, ◌∙◌, None, length, map, sym, arith}
use Rattle.std.proofs.lemmas.List.{ext_get_or, get_or-map, length-map}
use Rattle.std.specs.Option.{option_map}
use Rattle.gz_names.specs.Moves.{moved}
use Rattle.weak_refs.proofs.weak_names.forwarded_slots.Goals as goal

pub returns : goal.returns
returns c =
    let mapped : length (map (option_map (moved c.args.moves.now)) c.args.slots.now) ≡ length c.args.slots.now =
    length-map c.args.slots.now (option_map (moved c.args.moves.now)) in
    ext_get_or None c.loop-index.gone (map (option_map (moved c.args.moves.now)) c.args.slots.now)
    (omega (arith, c.loop-index.invariant.sized, c.requires, mapped))
    (λ i less.
    (let within : i < length c.args.slots.now = omega (arith, less, c.loop-index.invariant.sized, c.requires) in
    c.loop-index.invariant.done i (omega (arith, less, c.loop-index.invariant.sized, c.loop-index-test.false))
    ∙ sym (get_or-map (option_map (moved c.args.moves.now)) c.args.slots.now i None None within)))
