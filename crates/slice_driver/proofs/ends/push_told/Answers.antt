use Rattle.std.proofs.Common.{◌≡◌, ◌∙◌, refl, true, arith, rules, ap, sym}
use denote.Enum.Bare.{sameb}
use Rattle.cell_bits.specs.declared.bits.Colour.{Colour}
use Rattle.cell_bits.specs.declared.bits.Colour.TheVariants as colour
use Rattle.cell_bits.specs.contracts.bits.Colour.{the_type}
use Rattle.heap_core.proofs.Added.{arena_made}
use Rattle.barriers.specs.Colours.{IsWhite}
use Rattle.slice_driver.specs.Told.{kept, told}
use Rattle.slice_driver.proofs.ends.push_told.Goals.{else-lies_in-via-then-lies_in+else-eq}
use Rattle.slice_driver.proofs.ends.push_told.Goals.{else-lies_in-via-else-lies_in}
use Rattle.slice_driver.proofs.ends.push_told.Goals as goal

pub colour-requires : goal.colour-requires
colour-requires c =
    let made = arena_made c.args.heap.now.shape c.args.place c.requires.present in
    omega (arith, made, c.requires.sized)

pub returns-in_ok-push : goal.returns-in_ok-push
returns-in_ok-push c =
    let is : c.colour.result ≡ colour.White = search (rules, c.eq.ensures, c.if-eq.true) in
    let white : IsWhite c.args.heap.now c.args.place = sym c.colour.ensures ∙ is in
    told c.name.result (c.lies_in.ensures.0 c.if-lies_in.true, white) c.name.ensures.value c.in_ok-push.ensures.items

pub returns-else-lies_in : goal.returns-else-lies_in
returns-else-lies_in c = kept (λ lost. elim c.else-lies_in.branch [
  | else-lies_in-via-then-lies_in+else-eq w ↦ (
      let is : w.eq.result ≡ true = w.eq.ensures
      ∙ ap (λ (v : Colour). sameb the_type v colour.White) (w.colour.ensures ∙ lost.1) in
      cc (is, w.if-eq.false))
  | else-lies_in-via-else-lies_in w ↦ (
      let is : c.lies_in.result ≡ true = c.lies_in.ensures.1 lost.0 in cc (is, w.if-lies_in.false))
]) refl
