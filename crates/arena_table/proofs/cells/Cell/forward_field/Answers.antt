use Rattle.std.proofs.Common.{◌≡◌, ◌<◌, ◌∙◌, Bool, true, false, not, Option, Some, None, get_or, inl, inr, refl, sym}
use Rattle.std.proofs.Common.{ap, subst, option_map}
use Rattle.std.proofs.lemmas.Bool.{false≢true}
use Rattle.std.proofs.lemmas.Option.{same_Some}
use Rattle.gz_names.specs.Moves.{is_same, moved}
use Rattle.gz_names.specs.declared.moves.Move.{Move}
use Rattle.gz_names.specs.declared.numbers.Place.{Place}
use Rattle.gz_names.proofs.Moving.{contained, moved-cases, same-places, same-true}
use Rattle.arena_table.specs.Cells.{CellState, field_of, state_of, with_value}
use Rattle.arena_table.specs.declared.cells.TheConstants.{ARENA_LIMIT}
use Rattle.arena_table.proofs.Forwarding.{set-same, un-not}
use Rattle.arena_table.proofs.cells.Cell.forward_field.Goals as goal

pub returns-in_default : goal.returns-in_default
returns-in_default c =
    let st = state_of c.args.self.now in
    let f = c.args.f in
    let goes = option_map (moved c.args.moves.now) in
    let none : field_of st f ≡ None = sym c.in_default.ensures in
    ap (λ fs. record st { fields = fs }) (sym (set-same st.fields f))
    ∙ ap (λ v. with_value f v st) (none ∙ sym (ap goes none))

pub set_field-requires-clause-value : goal.set_field-requires-clause-value
set_field-requires-clause-value c =
    let moves = c.args.moves.now in
    let place = c.in-Some.place in
    let gone = c.moved_to-gone.result in
    let is : gone ≡ moved moves place = c.moved_to-gone.ensures.moved in
    let bound : gone.0 < ARENA_LIMIT = elim (moved-cases moves place) [
      | inl w ↦
          (let has = contained moves w.0 w.1 w.2 in
          subst (λ (p : Place). p.0 < ARENA_LIMIT) (sym (is ∙ w.4))
          (subst (λ (m : Move). m.to.0 < ARENA_LIMIT) has.2 (c.requires.goals has.0 w.1 has.1)))
      | inr s ↦
          (let same : gone ≡ place = is ∙ s.0 in
          let yes : is_same gone place ≡ true = ap (λ (p : Place). is_same p place) same ∙ same-true place in
          absurd (false≢true (sym (ap not yes) ∙ sym c.ne.ensures ∙ c.if-ne.true)))
    ] in
    λ x e. subst (λ (p : Place). p.0 < ARENA_LIMIT) (same_Some gone x e) bound

pub returns-else-ne : goal.returns-else-ne
returns-else-ne c =
    let st = state_of c.args.self.now in
    let f = c.args.f in
    let place = c.in-Some.place in
    let gone = c.moved_to-gone.result in
    let goes = option_map (moved c.args.moves.now) in
    let held : field_of st f ≡ Some place = sym c.in-Some.ensures in
    let same : gone ≡ place = same-places gone place (un-not (is_same gone place) (sym c.ne.ensures ∙ c.if-ne.false)) in
    let stays : goes (field_of st f) ≡ field_of st f =
    ap goes held ∙ ap Some (sym c.moved_to-gone.ensures.moved ∙ same) ∙ sym held in
    ap (λ fs. record st { fields = fs }) (sym (set-same st.fields f)) ∙ ap (λ v. with_value f v st) (sym stays)
