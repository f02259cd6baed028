-- Tries of one arena that are made in one step.
use Rattle.std.proofs.Common.{◌≡◌, ℕ, ◌+◌, ◌-◌, ◌≤◌, Bool, true, List, ◌∷◌, ◌++◌, length, sym, subst, arith, All}
use Rattle.std.specs.Int.{bit_at}
use Rattle.std.proofs.lemmas.List.Elements.{All-cons}
use Rattle.std.proofs.lemmas.Nat.Bits.{bit_at-lt}
use mathlib.Core.Logic.{dite}
use native.Mathlib.Decide.{ℕ_discrete}
use Rattle.mark_words.specs.Sums.{times}
use Rattle.mark_words.specs.Places.{places_of}
use Rattle.mark_words.specs.Steps.{HasTried}
use Rattle.mark_words.proofs.Places.{all_below, times-away, times-inside, times-past, weigh-within}
use Rattle.par_mark.specs.Slots.{AreGathered}
use Rattle.par_mark.specs.States.{CallerState}
use Rattle.par_mark.specs.Tries.{AreMade}
use Rattle.par_mark.proofs.Listed.{listed_by_weight}
use Rattle.par_mark.proofs.Scanning.{weigh-one}

-- a mask names a place once at most
once_named : (a m : ℕ) (q : ℕ × ℕ) → times q (places_of a m) ≤ 1
once_named a m q = dite (ℕ_discrete q.0 a)
    (λ e. subst (λ (z : ℕ). times q (places_of z m) ≤ 1) e (dite (ℕ_discrete (64 - q.1) 0)
    (λ high. let t = times-past q.0 m 64 q.1 (omega arith) in omega arith)
    (λ low. let t = times-inside q.0 m 64 q.1 (omega arith) in let b = bit_at-lt m q.1 in omega arith)))
    (λ ne. let t = times-away a m 64 q ne in omega arith)

-- tries were gathered, as slots of this arena
pub record IsGathering (place : ℕ × ℕ) (most a slots : ℕ) (tries tries' : List (ℕ × ℕ)) : Type 0 where
  pub gathered : AreGathered place most tries tries' slots
  pub arena_is : a ≡ place.0

-- they are listed
pub gathered_listed : (P : ℕ × ℕ → Type 0) (place : ℕ × ℕ) (most a slots : ℕ) (tries tries' : List (ℕ × ℕ))
    → IsGathering place most a slots tries tries' → P place → All P tries → All P (places_of a slots)
gathered_listed P place most a slots tries tries' g here all =
    subst (λ (z : ℕ). All P (places_of z slots)) (sym g.arena_is) (listed_by_weight P (places_of place.0 slots)
    (place ∷ tries) (λ h. let s = g.gathered.same h in omega arith) (All-cons P place tries here all))

-- no more are won
pub few_won : (place : ℕ × ℕ) (most a slots won : ℕ) (tries tries' : List (ℕ × ℕ))
    → IsGathering place most a slots tries tries' → ((i : ℕ) → bit_at won i ≤ bit_at slots i)
    → length (places_of a won) ≤ most
few_won place most a slots won tries tries' g less =
    subst (λ (z : ℕ). length (places_of z won) ≤ most) (sym g.arena_is)
    (let w = weigh-within (λ _. 1) place.0 won slots 64 (λ i _. less i) in let l = weigh-one (places_of place.0 won) in
    let k = weigh-one (places_of place.0 slots) in let f = g.gathered.few in omega arith)

-- the list is shorter by what was gathered beside the first
pub shorter : (place : ℕ × ℕ) (most slots : ℕ) (tries tries' : List (ℕ × ℕ))
    → AreGathered place most tries tries' slots
    → (length tries' ≤ length tries) × (length tries + 1 ≤ length tries' + most)
    × (length (places_of place.0 slots) + length tries' ≡ length tries + 1)
shorter place most slots tries tries' g =
    let s = g.same (λ _. 1) in
    let f = g.first_in (λ _. 1) in
    let x = weigh-one tries in
    let y = weigh-one tries' in
    let z = weigh-one (places_of place.0 slots) in
    let w = g.few in ((omega arith), (omega arith), (omega arith))

-- the slots that were gathered were tried in one step, and some of these cells were won
pub record IsStep (marking : ℕ × ℕ → Bool) (place : ℕ × ℕ) (most a slots won made : ℕ) (s s' : CallerState)
    : Type 0 where
  pub gathering : IsGathering place most a slots s.tries s'.tries
  pub won_slots : (i : ℕ) → bit_at won i ≤ bit_at slots i
  pub wins : HasTried s.seat (places_of a slots) (places_of a won) s'.seat
  pub inside : (i : ℕ) → marking (place.0, i) ≡ true
  pub won_is : s'.won ≡ s.won ++ places_of a won
  pub outside_is : s'.outside ≡ s.outside
  pub pass_is : s'.pass ≡ s.pass
  pub count : made + length s'.tries ≡ length s.tries + 1

pub made_step : (marking : ℕ × ℕ → Bool) (place : ℕ × ℕ) (most a slots won made : ℕ) (s s' : CallerState)
    → IsStep marking place most a slots won made s s' → AreMade marking made place s s'
made_step marking place most a slots won made s s' t =
    let g = t.gathering.gathered in
    let arena_is = t.gathering.arena_is in record {
      tried = places_of place.0 slots;
      tries_are = g.same;
      first_tried = g.first_in;
      inside = all_below (λ (q : ℕ × ℕ). marking q ≡ true) place.0 slots 64 (λ i _ _. t.inside i);
      count = (let r = (shorter place most slots s.tries s'.tries g).2 in let c = t.count in omega arith);
      won = places_of place.0 won;
      wins = subst (λ (z : ℕ). HasTried s.seat (places_of z slots) (places_of z won) s'.seat) arena_is t.wins;
      won_tried = λ h. weigh-within h place.0 won slots 64 (λ i _. t.won_slots i);
      once = once_named place.0 won;
      won_is = subst (λ (z : ℕ). s'.won ≡ s.won ++ places_of z won) arena_is t.won_is;
      outside_is = t.outside_is;
      pass_is = t.pass_is;
    }
