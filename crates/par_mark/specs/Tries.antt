-- What a turn does: a try is taken and made, and one may be given away.
use Rattle.std.specs.Prelude.{◌≡◌, ℕ, ◌+◌, ◌<◌, ◌≤◌, Bool, true, false, List, [], ◌∷◌, ◌++◌, length, Option, All}
use Rattle.mark_words.specs.declared.view.MarkView.{MarkView}
use Rattle.mark_words.specs.Sums.{weigh, times, whole}
use Rattle.mark_words.specs.Rule.{bit_of}
use Rattle.mark_words.specs.Views.{logs_with}
use Rattle.mark_words.specs.Steps.{HasTried}
use Rattle.par_mark.specs.declared.donations.QueueView.{QueueView}
use Rattle.par_mark.specs.Donations.{HasPut, HasTaken, moves_with, Total}
use Rattle.mark_ahead.specs.Edges.{Leads}
use Rattle.par_mark.specs.States.{AccountsAt, CallerState}

-- a try is taken from the list, or from the queue if the list is empty
pub data IsTaken (P : ℕ × ℕ → Type 0) (p : ℕ × ℕ) (tries : List (ℕ × ℕ)) (d : QueueView) (tries' : List (ℕ × ℕ))
    (d' : QueueView) : Type 0 where
  own : tries ≡ tries' ++ p ∷ [] → d' ≡ d → IsTaken P p tries d tries' d'
  queued : tries ≡ [] → tries' ≡ [] → HasTaken P d p d' → IsTaken P p tries d tries' d'

-- the oldest try of the list is given away, or none
pub data IsDonated (tries : List (ℕ × ℕ)) (d : QueueView) (tries' : List (ℕ × ℕ)) (d' : QueueView) : Type 0 where
  kept : tries' ≡ tries → d' ≡ d → IsDonated tries d tries' d'
  given : (p : ℕ × ℕ) → tries ≡ p ∷ tries' → HasPut d p d' → IsDonated tries d tries' d'

module _ (marking : ℕ × ℕ → Bool) where
  -- tries were made in one step
  pub record AreMade (made : ℕ) (p : ℕ × ℕ) (s s' : CallerState) : Type 0 where
    -- this one and others of the list, all in marking zones
    pub tried : List (ℕ × ℕ)
    pub tries_are : (h : ℕ × ℕ → ℕ) → weigh h tried + weigh h s'.tries ≡ h p + weigh h s.tries
    pub first_tried : (h : ℕ × ℕ → ℕ) → h p ≤ weigh h tried
    pub inside : All (λ q. marking q ≡ true) tried
    pub count : length tried ≡ made
    -- the cells that were won stand behind those that were not scanned yet
    pub won : List (ℕ × ℕ)
    pub wins : HasTried s.seat tried won s'.seat
    pub won_tried : (h : ℕ × ℕ → ℕ) → weigh h won ≤ weigh h tried
    pub once : (q : ℕ × ℕ) → times q won ≤ 1
    pub won_is : s'.won ≡ s.won ++ won
    pub outside_is : s'.outside ≡ s.outside
    pub pass_is : s'.pass ≡ s.pass

  -- a try was made
  pub data IsTried (made : ℕ) (p : ℕ × ℕ) (s s' : CallerState) : Type 0 where
    -- its zone isn't marking
    beyond : marking p ≡ false → made ≡ 1 → s' ≡ record s { outside = s.outside ++ p ∷ [] } → IsTried made p s s'
    -- its zone is marking
    within : AreMade made p s s' → IsTried made p s s'

-- what callers need of the listed places: cells are there, their arenas have words, and edges of the cells that marking
-- may win lead to listed places
pub record Serves (has : ℕ × ℕ → Type 0) (edge : ℕ × ℕ → ℕ → Option (ℕ × ℕ)) (marking : ℕ × ℕ → Bool) (first : List ℕ)
    (P : ℕ × ℕ → Type 0) : Type 0 where
  pub here : (p : ℕ × ℕ) → P p → has p
  pub word : (p : ℕ × ℕ) → P p → p.0 < length first
  pub closed : (p q : ℕ × ℕ) → P p → marking p ≡ true → bit_of first p ≡ 0 → Leads edge p q → P q

-- no more was taken than was put
abbrev pub TakenWasPut : QueueView → Type 0
TakenWasPut d = (h : ℕ × ℕ → ℕ) → weigh h d.taken ≤ weigh h d.put

-- what was tried or lies outside
abbrev pub done : MarkView → List (ℕ × ℕ) → ℕ
done v outside = weigh (λ _. 1) v.known + weigh (λ _. 1) outside

-- what turns have won, tried, taken from the queue and found outside stands behind what was there before them, also in
-- the logs of the seat and the pass by which they were made; nothing was given away
pub record HasGrown (outside : List (ℕ × ℕ)) (v : MarkView) (d : QueueView) (outside' : List (ℕ × ℕ)) (v' : MarkView)
    (d' : QueueView) : Type 0 where
  pub won : List (ℕ × ℕ)
  pub tried : List (ℕ × ℕ)
  pub taken : List (ℕ × ℕ)
  pub beyond : List (ℕ × ℕ)
  pub won_is : v'.won ≡ v.won ++ won
  pub tried_is : v'.known ≡ v.known ++ tried
  pub taken_is : d'.taken ≡ d.taken ++ taken
  pub beyond_is : outside' ≡ outside ++ beyond
  pub put_is : d'.put ≡ d.put
  pub logs_are : v'.logs ≡ logs_with won tried v.logs
  pub moves_are : d'.moves ≡ moves_with [] taken d.moves
  pub won_tried : (h : ℕ × ℕ → ℕ) → weigh h won ≤ weigh h tried

-- this number of tries was taken and made, and these cells were won; looks at cells that were black may have tried more
pub record HasMoved (n : ℕ) (won : List (ℕ × ℕ)) (s s' : CallerState) : Type 0 where
  pub grown : HasGrown s.outside s.seat s.pass s'.outside s'.seat s'.pass
  pub grown_won : grown.won ≡ won
  pub made : n ≤ weigh (λ _. 1) grown.tried + weigh (λ _. 1) grown.beyond
  pub few : weigh (λ _. 1) grown.won + weigh (λ _. 1) grown.beyond ≤ n
  pub first_is : s'.seat.first ≡ s.seat.first
  pub parts_is : s'.seat.parts ≡ s.seat.parts
  pub queue_parts : s'.pass.parts ≡ s.pass.parts
  pub whole_taken : s.pass.parts ≡ whole → TakenWasPut s.pass → TakenWasPut s'.pass

module _ (edge : ℕ × ℕ → ℕ → Option (ℕ × ℕ)) (marking : ℕ × ℕ → Bool) (P : ℕ × ℕ → Type 0) where
  -- and are not scanned yet
  pub record HasTriedSome (n : ℕ) (won : List (ℕ × ℕ)) (s s' : CallerState) : Type 0 where
    pub moved : HasMoved n won s s'
    pub won_is : s'.won ≡ s.won ++ won
    pub accounts : (firsts unscanned : List (ℕ × ℕ)) → AccountsAt edge marking P firsts [] unscanned s
        → AccountsAt edge marking P firsts [] (unscanned ++ won) s'
    pub tries_listed : All P s.tries → All P s'.tries

  -- and were scanned, so that none is left
  pub record HasTurned (n : ℕ) (s s' : CallerState) : Type 0 where
    pub won : List (ℕ × ℕ)
    pub moved : HasMoved n won s s'
    pub none_left : s'.won ≡ []
    pub accounts : (firsts : List (ℕ × ℕ)) → AccountsAt edge marking P firsts [] [] s
        → AccountsAt edge marking P firsts [] [] s'

-- there was nothing to try, in the list and, for the holder of all parts, in the queue, and nothing was done
pub record IsDone (s s' : CallerState) : Type 0 where
  pub no_tries : s.tries ≡ []
  pub same : s' ≡ s
  pub empty : Total s.pass []
