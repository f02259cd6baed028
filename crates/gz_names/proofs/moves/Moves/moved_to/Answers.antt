use Rattle.std.proofs.Common.{◌≡◌, Some, ap, sym, ◌∙◌, subst}
use Rattle.std.proofs.lemmas.Option.{get_or_from_slice_get}
use Rattle.std.specs.List.{slice_get}
use Rattle.gz_names.specs.Moves.{moved}
use Rattle.gz_names.proofs.Moving.{found, moved-at, moved-stays}
use Rattle.gz_names.specs.declared.moves.Move.{Move}
use Rattle.gz_names.proofs.moves.Moves.moved_to.Goals as goal

pub returns-in-Some-clause-moved : goal.returns-in-Some-clause-moved
returns-in-Some-clause-moved c =
    let ms = c.args.self.now in
    let there = found (slice_get ms c.in-Some.number) (λ m. m.from ≡ c.args.place) c.in-Some.ensures.number in
    let read : c.index.result.now ≡ there.0 =
    c.index.ensures ∙ get_or_from_slice_get c.self.inside.moves.items c.in-Some.number there.0 c.index.result.now
    (subst (λ l. slice_get l c.in-Some.number ≡ Some there.0) (sym c.self.view_is) there.1) in
    ap (λ (m : Move). m.to) read ∙ sym (moved-at ms c.in-Some.number there.0 c.number_of.ensures.order there.1)
    ∙ ap (moved ms) there.2

pub returns-in-None-clause-moved : goal.returns-in-None-clause-moved
returns-in-None-clause-moved c = sym (moved-stays c.args.self.now c.args.place c.in-None.ensures.number)
