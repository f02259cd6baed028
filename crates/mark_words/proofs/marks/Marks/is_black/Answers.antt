use Rattle.std.proofs.Common.{rules, ℕ, ◌<◌, ◌*◌, ◌%◌, ◌^◌, ◌∷◌, ◌≡◌, [], List, All, ap, sym, subst, ◌∙◌}
use Rattle.std.proofs.lemmas.List.Elements.{All-cons, All-nil}
use Rattle.mark_words.specs.Places.{places_of}
use Rattle.mark_words.specs.Seats.{view_of}
use Rattle.mark_words.specs.Steps.{HasTried}
use Rattle.mark_words.proofs.Places.{one_place}
use Rattle.mark_words.proofs.marks.Marks.is_black.Goals as goal

pub are_black-requires-clause-listed : goal.are_black-requires-clause-listed
are_black-requires-clause-listed g c =
    let P = g.L.PlaceList.places in
    let p = c.args.place in
    let low : p.1 < 64 = subst (λ (k : ℕ). k < 64) c.slot.ensures.value c.slot.ensures.below in
    subst (λ (k : ℕ). All P (places_of c.arena.result (1 * 2 ^ k % 2 ^ 64))) (sym c.slot.ensures.value)
    (subst (λ (a : ℕ). All P (places_of a (1 * 2 ^ p.1 % 2 ^ 64))) (sym c.arena.ensures)
    (subst (All P) (sym (one_place p low)) (All-cons P p [] c.requires.listed (All-nil P))))

pub returns-clause-tried : goal.returns-clause-tried
returns-clause-tried g c = λ is.
    let p = c.args.place in
    let low : p.1 < 64 = subst (λ (k : ℕ). k < 64) c.slot.ensures.value c.slot.ensures.below in
    let named : places_of c.arena.result (1 * 2 ^ c.slot.result % 2 ^ 64) ≡ p ∷ [] =
    (λ i. places_of (c.arena.ensures i) (1 * 2 ^ c.slot.ensures.value i % 2 ^ 64)) ∙ one_place p low in
    subst (λ (tried : List (ℕ × ℕ)). HasTried (view_of c.args.seat.now) tried [] (view_of c.are_black.new.seat)) named
    (c.are_black.ensures.tried is)
