-- Clap takes the plain words, and finds what they say.
use Rattle.std.proofs.Common.{◌≡◌, ◌<◌, ◌≤◌, ◌+◌, ◌-◌, ◌^◌, ◌++◌, ℕ, zero, suc, List, [], ◌∷◌, Option, Some, None}
use Rattle.std.proofs.Common.{true, ap₂}
use Rattle.std.proofs.Common.{false, refl, sym, subst, ◌∙◌, ap, arith, inl, inr, codes, option_map}
use Rattle.std.proofs.Common.{get_or}
use Rattle.std.specs.Option.{option_and_then}
use Rattle.std.specs.Fmt.{decimal}
use Rattle.std.specs.Str.Parse.{digits_value, without_leading_plus}
use Rattle.std.proofs.lemmas.Fmt.{decimal_digit}
use Rattle.std.specs.Prelude.{find, unwrap_or}
use Rattle.clap.specs.Faults.{check_fault, defaults_fault, level_fault, settle_fault, turn_fault, walk_fault}
use Rattle.clap.specs.Kinds.{Kinds, or_else}
use Rattle.clap.specs.Simple.{Shape, built, label_of}
use Rattle.clap.specs.ValueTests.{accepts}
use Rattle.clap.specs.Walk.{Waiting, Walk, answers_to, finished, idle, nothing_held, option, settled, walk}
use Rattle.clap.specs.Walk.{walk_from, walked}
use Rattle.clap.specs.declared.builder.value_parser.Reading.TheVariants.{AsWritten}
use Rattle.clap.specs.declared.parser.matches.ValueSource.TheVariants.{CommandLine}
use Rattle.clap.specs.Words.{Row, Text, fault_of, one_of, subcommand_of}
use Rattle.clap.specs.declared.builder.value_parser.ValueParser.TheVariants.{Unsigned}
use Rattle.clap.proofs.OnLiterals.{clap_on_literals}
use Rattle.command_words.specs.Numbers.{FoundSays, GivesNumber, Says}
use Rattle.command_words.specs.Plain.{AreHelpersWords, AreMarkersWords, ArePlainFor}
use Rattle.command_words.specs.Program.{gczone}
use Rattle.command_words.specs.declared.line.CommandLine.{CommandLine as ALine}
use Rattle.command_words.specs.declared.line.CommandLine.TheVariants as line
use Rattle.command_words.proofs.Digits.{HasFirstDigit, decimal_accepted, decimal_first, decimal_reads}

-- the name of the subcommand that clap finds, and the text that it gives to an argument
abbrev pub name_in : List Text → Option Text
name_in words = option_map (λ p. p.0) (subcommand_of gczone words)

abbrev pub text_in : Text → List Text → Option Text
text_in id words = option_and_then (λ p. one_of id p.1) (subcommand_of gczone words)

abbrev number_of : Text → ℕ
number_of text = digits_value 10 (without_leading_plus text)

-- the words of `run`
abbrev run_words : Text → List Text → List Text
run_words name rest = name ∷ codes "run" ∷ rest

-- `run` is taken with these words behind it, and these texts are given
abbrev IsFound : Text → List Text → Text → Text → Type 0
IsFound name rest helpers markers = (fault_of gczone (run_words name rest) ≡ [])
    × (name_in (run_words name rest) ≡ Some (codes "run"))
    × (text_in (codes "helpers") (run_words name rest) ≡ Some helpers)
    × (text_in (codes "markers") (run_words name rest) ≡ Some markers)

abbrev digit : ℕ → Text
digit n = (48 + n) ∷ []

none_said : (name : Text) → IsFound name [] (codes "2") (codes "1")
unfolding clap_on_literals
none_said name = (refl, refl, refl, refl)

helpers_said : (name : Text) (n : ℕ) → n ≤ 4
    → IsFound name (codes "--helpers" ∷ digit n ∷ []) (digit n) (codes "1")
unfolding clap_on_literals
helpers_said name zero most = (refl, refl, refl, refl)
helpers_said name (suc zero) most = (refl, refl, refl, refl)
helpers_said name (suc (suc zero)) most = (refl, refl, refl, refl)
helpers_said name (suc (suc (suc zero))) most = (refl, refl, refl, refl)
helpers_said name (suc (suc (suc (suc zero)))) most = (refl, refl, refl, refl)
helpers_said name (suc (suc (suc (suc (suc n))))) most = absurd (omega arith)

markers_said : (name : Text) (m : ℕ) → 1 ≤ m → m ≤ 2
    → IsFound name (codes "--markers" ∷ digit m ∷ []) (codes "2") (digit m)
unfolding clap_on_literals
markers_said name zero some most = absurd (omega (arith, some))
markers_said name (suc zero) some most = (refl, refl, refl, refl)
markers_said name (suc (suc zero)) some most = (refl, refl, refl, refl)
markers_said name (suc (suc (suc m))) some most = absurd (omega (arith, most))

both_said : (name : Text) (n m : ℕ) → n ≤ 4 → 1 ≤ m → m ≤ 2
    → IsFound name (codes "--helpers" ∷ digit n ∷ codes "--markers" ∷ digit m ∷ []) (digit n) (digit m)
unfolding clap_on_literals
both_said name n zero most some few = absurd (omega (arith, some))
both_said name n (suc (suc (suc m))) most some few = absurd (omega (arith, few))
both_said name zero (suc zero) most some few = (refl, refl, refl, refl)
both_said name (suc zero) (suc zero) most some few = (refl, refl, refl, refl)
both_said name (suc (suc zero)) (suc zero) most some few = (refl, refl, refl, refl)
both_said name (suc (suc (suc zero))) (suc zero) most some few = (refl, refl, refl, refl)
both_said name (suc (suc (suc (suc zero)))) (suc zero) most some few = (refl, refl, refl, refl)
both_said name (suc (suc (suc (suc (suc n))))) (suc zero) most some few = absurd (omega (arith, most))
both_said name zero (suc (suc zero)) most some few = (refl, refl, refl, refl)
both_said name (suc zero) (suc (suc zero)) most some few = (refl, refl, refl, refl)
both_said name (suc (suc zero)) (suc (suc zero)) most some few = (refl, refl, refl, refl)
both_said name (suc (suc (suc zero))) (suc (suc zero)) most some few = (refl, refl, refl, refl)
both_said name (suc (suc (suc (suc zero)))) (suc (suc zero)) most some few = (refl, refl, refl, refl)
both_said name (suc (suc (suc (suc (suc n))))) (suc (suc zero)) most some few = absurd (omega (arith, most))

plain_check : (name : Text) → (fault_of gczone (name ∷ codes "check" ∷ []) ≡ [])
    × (name_in (name ∷ codes "check" ∷ []) ≡ Some (codes "check"))
unfolding clap_on_literals
plain_check name = (refl, refl)

-- the built subcommand `storm`, and where its walk stands after each word
abbrev leaf : Shape
leaf = unwrap_or (find (λ s. answers_to (codes "storm") (label_of s)) (built gczone).subs) gczone.top

abbrev given : Text → Text → Row
given id text = record {
  id = id;
  values = text ∷ [];
  count = None;
  source = Some CommandLine;
  reading = AsWritten;
}

abbrev standing : List Row → Text → List Text → Waiting → ℕ → Walk
standing rows id values waiting position = record {
  held = record { rows = rows; pending = Some (id, values); skip = 0 };
  waiting = waiting;
  position = position;
  is_trailing = false;
  stopped = None;
}

abbrev after_seed : Text → Walk
after_seed s = standing [] (codes "seed") (s ∷ []) idle 2

abbrev after_lines : Text → Text → Walk
after_lines s t = standing (given (codes "seed") s ∷ []) (codes "lines") (t ∷ []) idle 3

abbrev rows_given : Text → Text → List Row
rows_given s t = given (codes "seed") s ∷ given (codes "lines") t ∷ []

abbrev after_option : Text → Text → Walk
after_option s t = standing (rows_given s t) (codes "helpers") [] (option (codes "helpers")) 3

abbrev after_helpers : Text → Text → Text → Walk
after_helpers s t h = standing (rows_given s t) (codes "helpers") (h ∷ []) idle 3

-- what holds of each digit holds of a digit
digit_at : (P : ℕ → Type 0) → P 48 → P 49 → P 50 → P 51 → P 52 → P 53 → P 54 → P 55 → P 56 → P 57 → (k : ℕ) → k ≤ 9
    → P (48 + k)
digit_at P a b c d e f g h i j zero most = a
digit_at P a b c d e f g h i j (suc zero) most = b
digit_at P a b c d e f g h i j (suc (suc zero)) most = c
digit_at P a b c d e f g h i j (suc (suc (suc zero))) most = d
digit_at P a b c d e f g h i j (suc (suc (suc (suc zero)))) most = e
digit_at P a b c d e f g h i j (suc (suc (suc (suc (suc zero))))) most = f
digit_at P a b c d e f g h i j (suc (suc (suc (suc (suc (suc zero)))))) most = g
digit_at P a b c d e f g h i j (suc (suc (suc (suc (suc (suc (suc zero))))))) most = h
digit_at P a b c d e f g h i j (suc (suc (suc (suc (suc (suc (suc (suc zero)))))))) most = i
digit_at P a b c d e f g h i j (suc (suc (suc (suc (suc (suc (suc (suc (suc zero))))))))) most = j
digit_at P a b c d e f g h i j (suc (suc (suc (suc (suc (suc (suc (suc (suc (suc k)))))))))) most = absurd (omega arith)

by_digit : (P : ℕ → Type 0) → P 48 → P 49 → P 50 → P 51 → P 52 → P 53 → P 54 → P 55 → P 56 → P 57
    → (text : Text) → (h : HasFirstDigit text) → P h.first
by_digit P a b c d e f g h i j text digit =
    let same : 48 + (digit.first - 48) ≡ digit.first = omega (arith, digit.low) in
    subst P same (digit_at P a b c d e f g h i j (digit.first - 48) (omega (arith, digit.high)))

seed_walked : (s : Text) → HasFirstDigit s → walked leaf.rules [] (walk_from nothing_held) s ≡ after_seed s
unfolding clap_on_literals
seed_walked s h =
    subst (λ (t : Text). walked leaf.rules [] (walk_from nothing_held) t ≡ after_seed t) (sym h.parts)
    (by_digit (λ c. walked leaf.rules [] (walk_from nothing_held) (c ∷ h.rest) ≡ after_seed (c ∷ h.rest))
    refl refl refl refl refl refl refl refl refl refl s h)

seed_passes : (s : Text) → HasFirstDigit s → turn_fault leaf [] (walk_from nothing_held) s ≡ []
unfolding clap_on_literals
seed_passes s h =
    subst (λ (t : Text). turn_fault leaf [] (walk_from nothing_held) t ≡ []) (sym h.parts)
    (by_digit (λ c. turn_fault leaf [] (walk_from nothing_held) (c ∷ h.rest) ≡ [])
    refl refl refl refl refl refl refl refl refl refl s h)

lines_walked : (s t : Text) → HasFirstDigit t → walked leaf.rules [] (after_seed s) t ≡ after_lines s t
unfolding clap_on_literals
lines_walked s t h =
    subst (λ (u : Text). walked leaf.rules [] (after_seed s) u ≡ after_lines s u) (sym h.parts)
    (by_digit (λ c. walked leaf.rules [] (after_seed s) (c ∷ h.rest) ≡ after_lines s (c ∷ h.rest))
    refl refl refl refl refl refl refl refl refl refl t h)

lines_pass : (s t : Text) → HasFirstDigit t → accepts false (Unsigned 0 2147483647) s ≡ true
    → turn_fault leaf [] (after_seed s) t ≡ []
unfolding clap_on_literals
lines_pass s t h a =
    subst (λ (u : Text). turn_fault leaf [] (after_seed s) u ≡ []) (sym h.parts)
    (by_digit (λ c. turn_fault leaf [] (after_seed s) (c ∷ h.rest) ≡ [])
    (rw a refl) (rw a refl) (rw a refl) (rw a refl) (rw a refl) (rw a refl) (rw a refl) (rw a refl) (rw a refl)
    (rw a refl) t h)

end_passes : (s t : Text) → accepts false (Unsigned 1 1000000) t ≡ true
    → settle_fault leaf.rules leaf.args_override_self (after_lines s t).held ≡ []
unfolding clap_on_literals
end_passes s t a = rw a refl

end_defaults : (s t : Text)
    → (defaults_fault (settled leaf.rules (after_lines s t).held).rows leaf.rules ≡ [])
    × (check_fault leaf (finished leaf.rules (after_lines s t).held) false ≡ [])
unfolding clap_on_literals
end_defaults s t = (refl, refl)

option_walked : (s t : Text) → walked leaf.rules [] (after_lines s t) (codes "--helpers") ≡ after_option s t
unfolding clap_on_literals
option_walked s t = refl

option_passes : (s t : Text) → accepts false (Unsigned 1 1000000) t ≡ true
    → turn_fault leaf [] (after_lines s t) (codes "--helpers") ≡ []
unfolding clap_on_literals
option_passes s t a = rw a refl

abbrev HelpersPass : Text → Type 0
HelpersPass h = (s t : Text) → (turn_fault leaf [] (after_option s t) h ≡ [])
    × (walked leaf.rules [] (after_option s t) h ≡ after_helpers s t h)
    × (settle_fault leaf.rules leaf.args_override_self (after_helpers s t h).held ≡ [])
    × (defaults_fault (settled leaf.rules (after_helpers s t h).held).rows leaf.rules ≡ [])
    × (check_fault leaf (finished leaf.rules (after_helpers s t h).held) false ≡ [])

helpers_pass : (n : ℕ) → n ≤ 4 → HelpersPass ((48 + n) ∷ [])
unfolding clap_on_literals
helpers_pass zero most s t = (refl, refl, refl, refl, refl)
helpers_pass (suc zero) most s t = (refl, refl, refl, refl, refl)
helpers_pass (suc (suc zero)) most s t = (refl, refl, refl, refl, refl)
helpers_pass (suc (suc (suc zero))) most s t = (refl, refl, refl, refl, refl)
helpers_pass (suc (suc (suc (suc zero)))) most s t = (refl, refl, refl, refl, refl)
helpers_pass (suc (suc (suc (suc (suc n))))) most s t = absurd (omega arith)

-- the program's own level leaves all to the subcommand
storm_entered_two : (name s t : Text) → (fault_of gczone (name ∷ codes "storm" ∷ s ∷ t ∷ [])
    ≡ or_else (level_fault leaf [] nothing_held (s ∷ t ∷ []) false []) [])
    × (subcommand_of gczone (name ∷ codes "storm" ∷ s ∷ t ∷ [])
    ≡ Some (codes "storm", finished leaf.rules (walk leaf.rules [] nothing_held (s ∷ t ∷ [])).held))
unfolding clap_on_literals
storm_entered_two name s t = (refl, refl)

storm_entered_four : (name s t h : Text) → let words = s ∷ t ∷ codes "--helpers" ∷ h ∷ [] in
    (fault_of gczone (name ∷ codes "storm" ∷ words)
    ≡ or_else (level_fault leaf [] nothing_held words false []) [])
    × (subcommand_of gczone (name ∷ codes "storm" ∷ words)
    ≡ Some (codes "storm", finished leaf.rules (walk leaf.rules [] nothing_held words).held))
unfolding clap_on_literals
storm_entered_four name s t h = (refl, refl)

-- faults, none of which comes
none_comes : (a b c d : Kinds) → a ≡ [] → b ≡ [] → c ≡ [] → d ≡ [] → or_else a (or_else [] (or_else b (or_else c d)))
    ≡ []
none_comes a b c d first second third fourth = rw (first, second, third, fourth) refl

storm_walked : (s t : Text) → HasFirstDigit s → HasFirstDigit t
    → walk leaf.rules [] nothing_held (s ∷ t ∷ []) ≡ after_lines s t
storm_walked s t h k =
    ap (λ (w : Walk). walked leaf.rules [] w t) (seed_walked s h) ∙ lines_walked s t k

helpers_walked : (s t h : Text) → HasFirstDigit s → HasFirstDigit t → HelpersPass h
    → walk leaf.rules [] nothing_held (s ∷ t ∷ codes "--helpers" ∷ h ∷ []) ≡ after_helpers s t h
helpers_walked s t h first second pass =
    ap (λ (w : Walk). walked leaf.rules [] (walked leaf.rules [] w (codes "--helpers")) h)
    (storm_walked s t first second)
    ∙ ap (λ (w : Walk). walked leaf.rules [] w h) (option_walked s t) ∙ (pass s t).1

-- a level of the parse at which nothing fails
level_from : (words : List Text) (w : Walk) → walk leaf.rules [] nothing_held words ≡ w
    → walk_fault leaf [] (walk_from nothing_held) words ≡ []
    → settle_fault leaf.rules leaf.args_override_self w.held ≡ []
    → defaults_fault (settled leaf.rules w.held).rows leaf.rules ≡ []
    → check_fault leaf (finished leaf.rules w.held) false ≡ [] → level_fault leaf [] nothing_held words false [] ≡ []
level_from words w at walks settles fills checks =
    none_comes _ _ _ _ walks
    (subst (λ (x : Walk). settle_fault leaf.rules leaf.args_override_self x.held ≡ []) (sym at) settles)
    (subst (λ (x : Walk). defaults_fault (settled leaf.rules x.held).rows leaf.rules ≡ []) (sym at) fills)
    (subst (λ (x : Walk). check_fault leaf (finished leaf.rules x.held) false ≡ []) (sym at) checks)

both : (a b : Kinds) → a ≡ [] → b ≡ [] → or_else a b ≡ []
both a b first second = rw (first, second) refl

-- the words of `storm`, of which each passes
module _ (s t : Text) (h : HasFirstDigit s) (k : HasFirstDigit t)
    (seed_is : accepts false (Unsigned 0 2147483647) s ≡ true)
    (lines_are : accepts false (Unsigned 1 1000000) t ≡ true) where
  from_seed : turn_fault leaf [] (walked leaf.rules [] (walk_from nothing_held) s) t ≡ []
  from_seed = subst (λ (w : Walk). turn_fault leaf [] w t ≡ []) (sym (seed_walked s h)) (lines_pass s t k seed_is)

  at_lines : walked leaf.rules [] (walked leaf.rules [] (walk_from nothing_held) s) t ≡ after_lines s t
  at_lines = storm_walked s t h k

  two_walk : walk_fault leaf [] (walk_from nothing_held) (s ∷ t ∷ []) ≡ []
  unfolding walk_fault
  two_walk = both _ _ (seed_passes s h) (both _ _ from_seed refl)

  two_level : level_fault leaf [] nothing_held (s ∷ t ∷ []) false [] ≡ []
  two_level =
      level_from (s ∷ t ∷ []) (after_lines s t) at_lines two_walk (end_passes s t lines_are) (end_defaults s t).0
      (end_defaults s t).1

  four_walk : (u : Text) → HelpersPass u
      → walk_fault leaf [] (walk_from nothing_held) (s ∷ t ∷ codes "--helpers" ∷ u ∷ []) ≡ []
  unfolding walk_fault
  four_walk u pass =
      both _ _ (seed_passes s h) (both _ _ from_seed (both _ _
      (subst (λ (w : Walk). turn_fault leaf [] w (codes "--helpers") ≡ []) (sym at_lines) (option_passes s t lines_are))
      (both _ _
      (subst (λ (w : Walk). turn_fault leaf [] (walked leaf.rules [] w (codes "--helpers")) u ≡ []) (sym at_lines)
      (subst (λ (w : Walk). turn_fault leaf [] w u ≡ []) (sym (option_walked s t)) (pass s t).0)) refl)))

  four_level : (u : Text) → HelpersPass u
      → level_fault leaf [] nothing_held (s ∷ t ∷ codes "--helpers" ∷ u ∷ []) false [] ≡ []
  four_level u pass =
      level_from (s ∷ t ∷ codes "--helpers" ∷ u ∷ []) (after_helpers s t u) (helpers_walked s t u h k pass)
      (four_walk u pass) (pass s t).2 (pass s t).3 (pass s t).4

  pub two_taken : (name : Text) → fault_of gczone (name ∷ codes "storm" ∷ s ∷ t ∷ []) ≡ []
  two_taken name = (storm_entered_two name s t).0 ∙ ap (λ (x : Kinds). or_else x []) two_level

  pub four_taken : (name u : Text) → HelpersPass u
      → fault_of gczone (name ∷ codes "storm" ∷ s ∷ t ∷ codes "--helpers" ∷ u ∷ []) ≡ []
  four_taken name u pass =
      (storm_entered_four name s t u).0 ∙ ap (λ (x : Kinds). or_else x []) (four_level u pass)

-- what was given to `storm`
abbrev GivesTexts : List Row → Text → Text → Text → Type 0
GivesTexts rows s t u = (one_of (codes "seed") rows ≡ Some s) × (one_of (codes "lines") rows ≡ Some t)
    × (one_of (codes "helpers") rows ≡ Some u)

two_given : (s t : Text) → GivesTexts (finished leaf.rules (after_lines s t).held) s t (codes "2")
unfolding clap_on_literals
two_given s t = (refl, refl, refl)

four_given : (s t u : Text) → GivesTexts (finished leaf.rules (after_helpers s t u).held) s t u
unfolding clap_on_literals
four_given s t u = (refl, refl, refl)

-- numbers that are read of texts
same_text : (o : Option Text) (t u : Text) → o ≡ Some t → o ≡ Some u → t ≡ u
same_text o t u e f = cc (e, f)

reads : (rows : List Row) (id t : Text) (n m : ℕ) → one_of id rows ≡ Some t → number_of t ≡ n → GivesNumber rows id m
    → m ≡ n
reads rows id t n m at value given = given.2 ∙ ap number_of (same_text (one_of id rows) given.0 t given.1 at) ∙ value

-- names that begin with other letters
other_name : (t u v : Text) → t ≡ u → t ≡ v → (get_or u 0 0 ≡ get_or v 0 0 → ⊥) → ⊥
other_name t u v e f ne = ne (ap (λ (x : Text). get_or x 0 0) (sym e ∙ f))

run_said : (o : Option (Text × List Row)) (t u : Text) (n m : ℕ) → option_map (λ p. p.0) o ≡ Some (codes "run")
    → option_and_then (λ p. one_of (codes "helpers") p.1) o ≡ Some t
    → option_and_then (λ p. one_of (codes "markers") p.1) o ≡ Some u → number_of t ≡ n → number_of u ≡ m
    → (other : ALine) → FoundSays o other → other ≡ line.Run n m
run_said None t u n m name text other_text value second other says = absurd says
run_said (Some p) t u n m name text other_text value second (line.Run a b) says =
    ap (λ (x : ℕ). line.Run x b) (reads p.1 (codes "helpers") t n a text value says.1)
    ∙ ap (λ (x : ℕ). line.Run n x) (reads p.1 (codes "markers") u m b other_text second says.2)
run_said (Some p) t u n m name text other_text value second (line.Storm a b c) says =
    absurd (other_name p.0 (codes "run") (codes "storm") (cc name) says.0 (λ e. omega (arith, e)))
run_said (Some p) t u n m name text other_text value second line.Check says =
    absurd (other_name p.0 (codes "run") (codes "check") (cc name) says (λ e. omega (arith, e)))

check_said : (o : Option (Text × List Row)) → option_map (λ p. p.0) o ≡ Some (codes "check") → (other : ALine)
    → FoundSays o other → other ≡ line.Check
check_said None name other says = absurd says
check_said (Some p) name (line.Run n m) says =
    absurd (other_name p.0 (codes "check") (codes "run") (cc name) says.0 (λ e. omega (arith, e)))
check_said (Some p) name (line.Storm a b c) says =
    absurd (other_name p.0 (codes "check") (codes "storm") (cc name) says.0 (λ e. omega (arith, e)))
check_said (Some p) name line.Check says = refl

storm_said : (rows : List Row) (s t u : Text) (a b c : ℕ) → GivesTexts rows s t u → number_of s ≡ a → number_of t ≡ b
    → number_of u ≡ c → (other : ALine) → Says (codes "storm") rows other → other ≡ line.Storm a b c
storm_said rows s t u a b c given first second third (line.Run n m) says =
    absurd (other_name (codes "storm") (codes "storm") (codes "run") refl says.0 (λ e. omega (arith, e)))
storm_said rows s t u a b c given first second third (line.Storm x y z) says =
    ap (λ (n : ℕ). line.Storm n y z) (reads rows (codes "seed") s a x given.0 first says.1)
    ∙ ap (λ (n : ℕ). line.Storm a n z) (reads rows (codes "lines") t b y given.1 second says.2)
    ∙ ap (λ (n : ℕ). line.Storm a b n) (reads rows (codes "helpers") u c z given.2 third says.3)
storm_said rows s t u a b c given first second third line.Check says =
    absurd (other_name (codes "storm") (codes "storm") (codes "check") refl says (λ e. omega (arith, e)))

-- the words are taken, and say this line alone
abbrev pub AreRead : List Text → ALine → Type 0
AreRead words line = (fault_of gczone words ≡ [])
    × ((other : ALine) → FoundSays (subcommand_of gczone words) other → other ≡ line)

digit_text : (n : ℕ) → n ≤ 4 → decimal n ≡ (48 + n) ∷ []
digit_text n most = decimal_digit n (omega (arith, most))

digit_reads : (n : ℕ) → n ≤ 4 → number_of ((48 + n) ∷ []) ≡ n
digit_reads n most = ap number_of (sym (digit_text n most)) ∙ decimal_reads n (omega (arith, most))

said_so : (name : Text) (rest : List Text) (n m : ℕ) (t u : Text) → IsFound name rest t u → number_of t ≡ n
    → number_of u ≡ m → AreRead (run_words name rest) (line.Run n m)
said_so name rest n m t u found first second = (
  found.0,
  run_said (subcommand_of gczone (run_words name rest)) t u n m found.1 found.2 found.3 first second,
)

run_read : (name : Text) (first rest : List Text) (n m : ℕ) → AreHelpersWords first n → AreMarkersWords rest m
    → AreRead (run_words name (first ++ rest)) (line.Run n m)
run_read name first rest n m (inl h) (inl k) =
    subst (λ (r : List Text). AreRead (run_words name r) (line.Run n m)) (sym (ap₂ (λ x y. x ++ y) h.0 k.0))
    (said_so name [] n m (codes "2") (codes "1") (none_said name) (sym h.1) (sym k.1))
run_read name first rest n m (inr h) (inl k) =
    let words = h.0 ∙ ap (λ (t : Text). codes "--helpers" ∷ t ∷ []) (digit_text n h.1) in
    subst (λ (r : List Text). AreRead (run_words name r) (line.Run n m)) (sym (ap₂ (λ x y. x ++ y) words k.0))
    (said_so name (codes "--helpers" ∷ digit n ∷ []) n m (digit n) (codes "1") (helpers_said name n h.1)
    (digit_reads n h.1) (sym k.1))
run_read name first rest n m (inl h) (inr k) =
    let most : m ≤ 4 = omega (arith, k.2) in
    let words = k.0 ∙ ap (λ (t : Text). codes "--markers" ∷ t ∷ []) (digit_text m most) in
    subst (λ (r : List Text). AreRead (run_words name r) (line.Run n m)) (sym (ap₂ (λ x y. x ++ y) h.0 words))
    (said_so name (codes "--markers" ∷ digit m ∷ []) n m (codes "2") (digit m) (markers_said name m k.1 k.2)
    (sym h.1) (digit_reads m most))
run_read name first rest n m (inr h) (inr k) =
    let most : m ≤ 4 = omega (arith, k.2) in
    let words = h.0 ∙ ap (λ (t : Text). codes "--helpers" ∷ t ∷ []) (digit_text n h.1) in
    let others = k.0 ∙ ap (λ (t : Text). codes "--markers" ∷ t ∷ []) (digit_text m most) in
    subst (λ (r : List Text). AreRead (run_words name r) (line.Run n m)) (sym (ap₂ (λ x y. x ++ y) words others))
    (said_so name (codes "--helpers" ∷ digit n ∷ codes "--markers" ∷ digit m ∷ []) n m (digit n) (digit m)
    (both_said name n m h.1 k.1 k.2) (digit_reads n h.1) (digit_reads m most))

storm_read : (name : Text) (rest : List Text) (a b n : ℕ) → a < 2147483648 → 0 < b → b ≤ 1000000
    → AreHelpersWords rest n → AreRead (name ∷ codes "storm" ∷ decimal a ∷ decimal b ∷ rest) (line.Storm a b n)
storm_read name rest a b n small some few (inl h) =
    let s = decimal a in let t = decimal b in
    let first : a < 2 ^ 64 = omega (arith, small) in let second : b < 2 ^ 64 = omega (arith, few) in
    let s_first = decimal_first a first in let t_first = decimal_first b second in
    let found = (storm_entered_two name s t).1 ∙ ap (λ (w : Walk). Some (codes "storm", finished leaf.rules w.held))
    (storm_walked s t s_first t_first) in
    subst (λ (r : List Text). AreRead (name ∷ codes "storm" ∷ s ∷ t ∷ r) (line.Storm a b n)) (sym h.0) (
      two_taken s t s_first t_first (decimal_accepted 0 2147483647 a first (omega arith) (omega (arith, small)))
          (decimal_accepted 1 1000000 b second (omega (arith, some)) few) name,
      λ other says. storm_said (finished leaf.rules (after_lines s t).held) s t (codes "2") a b n (two_given s t)
          (decimal_reads a first) (decimal_reads b second) (sym h.1) other
          (subst (λ (o : Option (Text × List Row)). FoundSays o other) found says),
    )
storm_read name rest a b n small some few (inr h) =
    let s = decimal a in let t = decimal b in let u : Text = (48 + n) ∷ [] in
    let first : a < 2 ^ 64 = omega (arith, small) in let second : b < 2 ^ 64 = omega (arith, few) in
    let s_first = decimal_first a first in let t_first = decimal_first b second in
    let pass = helpers_pass n h.1 in
    let found = (storm_entered_four name s t u).1 ∙ ap (λ (w : Walk). Some (codes "storm", finished leaf.rules w.held))
    (helpers_walked s t u s_first t_first pass) in
    subst (λ (r : List Text). AreRead (name ∷ codes "storm" ∷ s ∷ t ∷ r) (line.Storm a b n))
    (sym (h.0 ∙ ap (λ (x : Text). codes "--helpers" ∷ x ∷ []) (digit_text n h.1))) (
      four_taken s t s_first t_first (decimal_accepted 0 2147483647 a first (omega arith) (omega (arith, small)))
          (decimal_accepted 1 1000000 b second (omega (arith, some)) few) name u pass,
      λ other says. storm_said (finished leaf.rules (after_helpers s t u).held) s t u a b n (four_given s t u)
          (decimal_reads a first) (decimal_reads b second) (digit_reads n h.1) other
          (subst (λ (o : Option (Text × List Row)). FoundSays o other) found says),
    )

pub plain_read : (words : List Text) (line : ALine) → ArePlainFor words line → AreRead words line
plain_read words (line.Run n m) (name, first, rest, e, h, k) =
    subst (λ (w : List Text). AreRead w (line.Run n m)) (sym e) (run_read name first rest n m h k)
plain_read words (line.Storm a b n) (name, rest, e, small, some, few, h) =
    subst (λ (w : List Text). AreRead w (line.Storm a b n)) (sym e) (storm_read name rest a b n small some few h)
plain_read words line.Check (name, e) =
    let check = plain_check name in
    subst (λ (w : List Text). AreRead w line.Check) (sym e)
    (check.0, check_said (subcommand_of gczone (name ∷ codes "check" ∷ [])) check.1)
