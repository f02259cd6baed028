use Rattle.std.proofs.Common.{◌≡◌, ◌∙◌, ap, false, is_some, rules, sym}
use denote.Enum.Bare.{sameb}
use Rattle.cell_bits.specs.declared.bits.Colour.{Colour}
use Rattle.cell_bits.specs.declared.bits.Colour.TheVariants as colour
use Rattle.cell_bits.specs.contracts.bits.Colour.{the_type}
use Rattle.heap_core.specs.Shape.{out_of}
use Rattle.barriers.proofs.Flying.{none_flown}
use Rattle.barriers.proofs.colours.is_black_in_heap.Goals as goal

pub returns-then-is_place_out : goal.returns-then-is_place_out
returns-then-is_place_out c =
    (λ t. cc t, λ here. sym (ap is_some here.0) ∙ (sym c.is_place_out.ensures ∙ c.if-is_place_out.true))

pub returns : goal.returns
returns c =
    let kept : is_some (out_of c.args.heap.now.shape c.args.place.0) ≡ false = cc in (
      λ black. (
        none_flown (out_of c.args.heap.now.shape c.args.place.0) kept,
        (let is : c.colour.result ≡ colour.Black = search (rules, c.eq.ensures, black) in sym c.colour.ensures ∙ is),
      ),
      λ here. c.eq.ensures
          ∙ ap (λ (v : Colour). sameb the_type v colour.Black) (c.colour.ensures ∙ here.1),
    )
