use Rattle.std.proofs.Common.{rules, ◌≡◌, ◌<◌, ℕ, List, sym, subst, bit_and, arith}
use Rattle.std.specs.Int.{bit_not, w64}
use Rattle.std.proofs.lemmas.Nat.Bits.{bit_at_and}
use Rattle.mark_words.specs.declared.view.MarkView.{MarkView}
use Rattle.mark_words.specs.Places.{places_of}
use Rattle.mark_words.specs.Seats.{view_of}
use Rattle.mark_words.specs.Steps.{HasTried}
use Rattle.mark_words.proofs.Places.{below-zero}
use Rattle.mark_words.proofs.TableSteps.{trying}
use Rattle.mark_words.proofs.marks.Marks.try_slots.Goals as goal

pub returns-then-are_black-clause-tried : goal.returns-then-are_black-clause-tried
returns-then-are_black-clause-tried g c =
    subst (λ (won : List (ℕ × ℕ)). HasTried (view_of c.args.seat.now) (places_of c.args.arena c.args.slots) won
    (view_of c.are_black.new.seat)) (sym (below-zero c.args.arena 64)) (c.are_black.ensures.tried c.if-are_black.true)

pub fetch_or-found-requires : goal.fetch_or-found-requires
fetch_or-found-requires g c =
    let same : view_of c.are_black.new.seat ≡ view_of c.args.seat.now = c.are_black.ensures.same c.if-are_black.false in
    let part : 0 < (view_of c.are_black.new.seat).parts =
    subst (λ (v : MarkView). 0 < v.parts) (sym same) c.requires.parts in (
      search rules,
      search rules,
      trying g.L.PlaceList.places _ _ _ c.are_black.new.seat.seat.me c.args.arena c.args.slots record {
        inside = c.requires.arena;
        fits = c.ranges.slots.fits;
        listed = c.requires.listed;
        some_part = part;
        first_is = c.are_black.ensures.seat.1;
      },
    )

pub returns-clause-within : goal.returns-clause-within
returns-clause-within g c = λ slot.
    let b = bit_at_and c.args.slots (bit_not w64 c.fetch_or-found.result) slot in omega arith

pub returns-clause-tried : goal.returns-clause-tried
returns-clause-tried g c =
    subst (λ (v : MarkView). HasTried v (places_of c.args.arena c.args.slots) (places_of c.args.arena
    (bit_and c.args.slots (bit_not w64 c.fetch_or-found.result)))
    c.fetch_or-found.new.seat.me.0) (c.are_black.ensures.same c.if-are_black.false) c.fetch_or-found.ensures.2.2
