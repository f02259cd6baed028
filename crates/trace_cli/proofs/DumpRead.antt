-- The text of a dump is read as its lines.
use Rattle.std.proofs.Common.{
  ◌≡◌,
  ◌∙◌,
  ℕ,
  ◌+◌,
  inl,
  List,
  [],
  ◌∷◌,
  ◌++◌,
  length,
  refl,
  ap,
  sym,
  subst,
  arith,
  Bool,
  true,
  false,
  eqb,
  if◌then◌else◌,
}
use Rattle.std.proofs.lemmas.Bool.{eqb-true}
use Rattle.std.specs.List.{AllByRecursion}
use Rattle.std.proofs.lemmas.List.{append_assoc}
use Rattle.gz_names.specs.declared.dumps.DumpLine.{DumpLine}
use Rattle.gz_names.specs.declared.dumps.DumpLine.TheVariants.{End}
use Rattle.gz_names.specs.DumpTexts.{FitsLine, dump_text}
use Rattle.gz_names.specs.Dumps.{IsSoundDump, cells_of, edge_count, weak_count}
use Rattle.dump_check.specs.declared.checker.Verdict.TheVariants.{Sound}
use Rattle.dump_cli.specs.Verdicts.{HasRead, IsVerdictOn}
use Rattle.trace_lang.specs.Texts.{break_text, dump_lines_text, line_of}

-- the bytes of the n-th line and of those after it
abbrev bytes_from : ℕ → List DumpLine → List ℕ
bytes_from n [] = []
bytes_from n (l ∷ ls) = dump_text l ++ (dump_lines_text (n + 1) ls ++ 10 ∷ [])

abbrev break_if : Bool → List ℕ
break_if b = if b then [] else 10 ∷ []

break_by : (n : ℕ) (b : Bool) → eqb (n + 1) 0 ≡ b → break_if b ≡ 10 ∷ []
break_by n true is = absurd (let none : n + 1 ≡ 0 = eqb-true (n + 1) 0 is in omega (arith, none))
break_by n false is = refl

break_later : (n : ℕ) → break_text (n + 1) ≡ 10 ∷ []
break_later n = break_by n (eqb (n + 1) 0) refl

-- behind a line stand its line feed and the others
later_bytes : (n : ℕ) (ls : List DumpLine) → dump_lines_text (n + 1) ls ++ 10 ∷ [] ≡ 10 ∷ bytes_from (n + 1) ls
later_bytes n [] = refl
later_bytes n (l ∷ ls) =
    ap (λ t. ((t ++ dump_text l) ++ dump_lines_text (n + 1 + 1) ls) ++ 10 ∷ []) (break_later n)
    ∙ append_assoc (10 ∷ dump_text l) (dump_lines_text (n + 1 + 1) ls) (10 ∷ [])

reads_from : (n : ℕ) (ls : List DumpLine) → AllByRecursion FitsLine ls
    → HasRead (bytes_from n ls) ls []
reads_from n [] fit = refl
reads_from n (l ∷ ls) fit = (
  dump_text l,
  bytes_from (n + 1) ls,
  inl (ap (λ t. dump_text l ++ t) (later_bytes n ls)),
  (refl, fit.0),
  reads_from (n + 1) ls fit.1,
)

-- the whole text: the first line has no line feed before it
reads_all : (ls : List DumpLine) → (ls ≡ [] → ⊥) → AllByRecursion FitsLine ls
    → HasRead (line_of (dump_lines_text 0 ls)) ls []
reads_all [] some fit = absurd (some refl)
reads_all (l ∷ ls) some fit = subst (λ t. HasRead t (l ∷ ls) []) (sym (append_assoc (dump_text l) (dump_lines_text 1 ls)
    (10 ∷ []))) (reads_from 0 (l ∷ ls) fit)

ends_some : (body ls : List DumpLine) → ls ≡ body ++ End ∷ [] → ls ≡ [] → ⊥
ends_some [] ls e none = cc (e, none)
ends_some (l ∷ body) ls e none = cc (e, none)

pub judged_sound : (ls : List DumpLine) → IsSoundDump ls → AllByRecursion FitsLine ls
    → IsVerdictOn (line_of (dump_lines_text 0 ls)) (Sound (length (cells_of ls)) (edge_count ls) (weak_count ls))
judged_sound ls sound fit = (
  ls,
  record { read = reads_all ls (ends_some sound.body ls sound.ends) fit; sound = sound.sound },
  (sound, refl, refl, refl),
)
