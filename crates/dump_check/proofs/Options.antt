-- What is known of an answer that may be none.
use Rattle.std.proofs.Common.{Option, Some, None}
use Rattle.std.specs.Prelude.{IfSome, IfNone, MatchOption}

-- some answer is owed where that it is none can't be, and what follows of the value
pub match_by : {A N : Type 0} {P Q : A → Type 0} (r : Option A) → IfSome r P → IfNone r N → (N → ⊥)
    → ((x : A) → P x → Q x) → MatchOption r ⊥ Q
match_by None h n f g = f n
match_by (Some x) h n f g = g x h
