use Rattle.std.proofs.Common.{rules, ◌<◌, ◌^◌, ℕ, [], inl, inr, All, ap, sym, ◌∙◌, subst, bit_and, w64}
use Rattle.std.specs.Int.{bit_not}
use Rattle.std.proofs.lemmas.Bool.Decides.{eqb_tells}
use Rattle.mark_words.specs.Places.{places_of}
use Rattle.mark_words.specs.Seats.{view_of}
use Rattle.mark_words.specs.Steps.{HasTried}
use Rattle.mark_words.proofs.TableSteps.{looking}
use Rattle.mark_words.proofs.marks.Marks.are_black.Goals as goal

pub load-found-requires : goal.load-found-requires
load-found-requires g c =
    let slots = g.K.SlotMask.slots in
    let P = g.L.PlaceList.places in
    let fits : slots < 2 ^ 64 = subst (λ (m : ℕ). m < 2 ^ 64) c.requires.slots c.ranges.slots.fits in
    let listed : All P (places_of c.args.arena slots) =
    subst (λ (m : ℕ). All P (places_of c.args.arena m)) c.requires.slots c.requires.listed in (
      search rules,
      search rules,
      looking P _ _ _ c.args.seat.now.seat.me c.args.arena slots record {
        inside = c.requires.arena;
        fits = fits;
        listed = listed;
        some_part = c.requires.parts;
        first_is = c.requires.seat.1;
      },
    )

pub returns-clause-tried : goal.returns-clause-tried
returns-clause-tried g c = λ is.
    elim (eqb_tells (bit_and c.args.slots (bit_not w64 c.load-found.result)) 0) [
      | inl none ↦ subst (λ (m : ℕ). HasTried (view_of c.args.seat.now) (places_of c.args.arena m) []
          c.load-found.new.seat.me.0) (sym c.requires.slots) (c.load-found.ensures.2.2
          (ap (λ (m : ℕ). bit_and m (bit_not w64 c.load-found.result)) (sym c.requires.slots) ∙ none.1))
      | inr some' ↦ absurd (let no = some'.0 in cc (no, is))
    ]

pub returns-clause-same : goal.returns-clause-same
returns-clause-same g c = λ is.
    elim (eqb_tells (bit_and c.args.slots (bit_not w64 c.load-found.result)) 0) [
      | inl none ↦ absurd (let yes = none.0 in cc (yes, is))
      | inr some' ↦ c.load-found.ensures.2.3
          (λ e. some'.1 (ap (λ (m : ℕ). bit_and m (bit_not w64 c.load-found.result)) c.requires.slots ∙ e))
    ]
