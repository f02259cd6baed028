-- What is known of an answer that may be none.
use Rattle.std.proofs.Common.{◌≡◌, ◌∙◌, ap, Option, Some, None}
use Rattle.std.specs.Option.{option_map}
use Rattle.std.specs.Prelude.{IfSome, IfNone, MatchOption}

-- some answer is owed where that it is none can't be, and what follows of the value
pub match_by : {A N : Type 0} {P Q : A → Type 0} (r : Option A) → IfSome r P → IfNone r N → (N → ⊥)
    → ((x : A) → P x → Q x) → MatchOption r ⊥ Q
match_by None h n f g = f n
match_by (Some x) h n f g = g x h

-- a value before two others
abbrev before_two : {A B C : Type 0} → A → B × C → A × B × C
before_two a p = (a, p.0, p.1)

pub three_same : {A B C : Type 0} (a x : A) (p q : B × C) → a ≡ x → Some p ≡ Some q
    → Some (before_two a p) ≡ Some (before_two x q)
three_same a x p q e f = ap (λ t. Some (before_two t p)) e ∙ ap (λ o. option_map (before_two x) o) f
