-- What a parse gives to an argument, as the number that is read of it.
use Rattle.std.proofs.Common.{◌≡◌, ℕ, List, Option, Some, None, Result, Ok, refl, sym, ◌∙◌}
use Rattle.std.specs.Str.Parse.{digits_value, without_leading_plus}
use Rattle.clap.specs.Words.{Text, one_text, rows_of}
use Rattle.clap.specs.declared.parser.matches.Found.{Found}
use Rattle.clap.proofs.WalkLemmas.{one_text-rows}
use Rattle.command_words.specs.Numbers.{GivesNumber}

-- a number that was read is that of the text that was given
pub gives : {E : Type 0} (G : List ℕ → Result ℕ E → Type 0) (f : Found) (id : Text) (v : ℕ)
    → (one_text f id ≡ None → Some v ≡ None) → ((t : List ℕ) → one_text f id ≡ Some t → G t (Ok v))
    → ((t : List ℕ) → G t (Ok v) → v ≡ digits_value 10 (without_leading_plus t)) → GivesNumber (rows_of f) id v
gives G f id v none read means = by (one_text f id) refl where
  by : (o : Option (List ℕ)) → one_text f id ≡ o → GivesNumber (rows_of f) id v
  by None e = absurd (let gone = none e in cc gone)
  by (Some t) e = (t, sym (one_text-rows f id) ∙ e, means t (read t e))
