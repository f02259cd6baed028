use Rattle.std.proofs.Common.{◌≡◌, ◌<◌, ℕ, List, [], ◌∷◌, ◌++◌, length, vec_len, vec_capacity, sym, ap, ◌∙◌, arith, w64}
use Rattle.std.proofs.Common.{append_assoc, append-nil, length-append, bit_and, ◌-◌}
use Rattle.std.specs.Int.{trailing_zeros}
use Rattle.mark_words.specs.Places.{places_of}
use Rattle.mark_words.proofs.Places.{below-zero}
use Rattle.par_mark.proofs.Gathering.{lowest_place}
use Rattle.par_mark.proofs.slots.push_slots.Goals as goal

pub push_reserved-requires : goal.push_reserved-requires
push_reserved-requires c =
    let left = c.loop-left.left in
    let some' : 0 < left = omega (arith, c.loop-left-test.true) in
    let first = ap length (lowest_place c.args.arena left some' c.loop-left.auto.left-fits.fits) in
    let whole = ap length c.loop-left.invariant.0 in
    let a = length-append c.loop-left.list.items (places_of c.args.arena left) in
    let b = length-append c.args.list.now.items (places_of c.args.arena c.args.slots) in
    let r = c.requires in
    let k = c.loop-left.invariant.1 in
    let o = c.loop-left.list.ok.0 in
    let goal_is : vec_len c.loop-left.list < vec_capacity c.loop-left.list = omega arith in goal_is

pub loop-left-preserved : goal.loop-left-preserved
loop-left-preserved c =
    let a = c.args.arena in
    let left = c.loop-left.left in
    let some' : 0 < left = omega (arith, c.loop-left-test.true) in
    let first = lowest_place a left some' c.loop-left.auto.left-fits.fits in
    let rest : List (ℕ × ℕ) = places_of a (bit_and left (left - 1)) in
    let place : c.in-Some.place ≡ (a, trailing_zeros w64 left) = c.in-Some.ensures.1 in (
      ap (λ (l : List (ℕ × ℕ)). l ++ rest) c.push_reserved.ensures.items
          ∙ append_assoc c.loop-left.list.items (c.in-Some.place ∷ []) rest
          ∙ ap (λ (p : ℕ × ℕ). c.loop-left.list.items ++ p ∷ rest) place
          ∙ ap (λ (l : List (ℕ × ℕ)). c.loop-left.list.items ++ l) (sym first)
          ∙ c.loop-left.invariant.0,
      c.push_reserved.ensures.capacity ∙ c.loop-left.invariant.1,
    )

pub returns-clause-items : goal.returns-clause-items
returns-clause-items c =
    let l : List (ℕ × ℕ) = c.loop-left.list.items in
    let a = c.args.arena in
    let none : c.loop-left.left ≡ 0 = c.loop-left-test.false in
    sym (append-nil l) ∙ ap (λ (r : List (ℕ × ℕ)). l ++ r) (sym (below-zero a 64)
    ∙ ap (places_of a) (sym none)) ∙ c.loop-left.invariant.0
