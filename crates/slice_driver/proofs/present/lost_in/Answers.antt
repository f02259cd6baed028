use Rattle.std.proofs.Common.{◌≡◌, ◌↔◌, ◌<◌, ℕ, sym, subst, ap, ◌∙◌, arith}
use Rattle.std.specs.Int.{bit_at}
use Rattle.std.specs.Option.{option_map}
use Rattle.cell_bits.specs.declared.bits.Colour.TheVariants as colour
use Rattle.cell_bits.specs.Colours.{colour_of}
use Rattle.arena_table.specs.Slots.{alloc_word_of}
use Rattle.heap_core.specs.Shape.{ArenaShape, out_in}
use Rattle.slice_driver.proofs.taking_in.FirstOut.{is_none}
use Rattle.slice_driver.proofs.abstraction.Named.{some_one}
use Rattle.slice_driver.proofs.taking_in.PresentCells.{all_present, some_present}
use Rattle.slice_driver.proofs.taking_in.SetBits.{ones_are_bits}
use Rattle.slice_driver.proofs.present.lost_in.Goals as goal

pub returns-then-not-is_out-clause-lost : goal.returns-then-not-is_out-clause-lost
returns-then-not-is_out-clause-lost c = λ a at.
    (let kept = sym (ap out_in at) ∙ is_none _ (sym c.is_out.ensures ∙ c.if-not-is_out.true) in
    let all = all_present a (c.requires.whole c.args.arena a at) kept in
    omega (arith, all))

pub returns-clause-lost : goal.returns-clause-lost
returns-clause-lost c = λ a at.
    (let bits = c.bits_at_hand_out.result in
    let white = c.white_mask-white.result in
    let out = sym (ap out_in at) ∙ c.bits_at_hand_out.ensures in
    let word = some_one _ _ (sym c.alloc_word-alloc_word.ensures ∙ ap
    (option_map (λ (x : ArenaShape). alloc_word_of x.slots)) at) in
    let slots = subst (λ (w : ℕ). (i : ℕ) → i < 64 → (bit_at white i ≡ 1) ↔
    ((bit_at w i ≡ 1) × (colour_of bits i ≡ colour.White))) word c.white_mask-white.ensures.slots in
    let parts = some_present a bits white (c.requires.whole c.args.arena a at) out slots in
    let ones = c.from.ensures ∙ ones_are_bits white c.white_mask-white.type_inv in
    omega (arith, parts, ones))
