-- Lines that were read, one more behind the others.
use Rattle.std.proofs.Common.{◌≡◌, ◌≢◌, ℕ, ◌+◌, ◌⊎◌, inl, inr, Bool, true, false, List, [], ◌∷◌, ◌++◌, length, Option}
use Rattle.std.proofs.Common.{Some, None, Result, Ok, Err, IfOk, sym, refl, subst, ◌∙◌, arith, if◌then◌else◌, eqb}
use Rattle.std.proofs.lemmas.Bool.{eqb-true}
use Rattle.gz_io.specs.Lines.{EndsLine, Gives, GivesKnown, IsNotAscii, IsTooLong}
use Rattle.gz_io.specs.declared.reader.Next.{Next}
use Rattle.gz_io.specs.declared.reader.Next.TheVariants as next
use Rattle.gz_names.specs.declared.dumps.DumpLine.{DumpLine}
use Rattle.gz_names.specs.DumpTexts.{SpellsLine}
use Rattle.dump_check.specs.declared.checker.Verdict.{Verdict}
use Rattle.dump_check.specs.declared.checker.Verdict.TheVariants.{Sound, Fault, Bad}
use Rattle.dump_check.specs.Checking.{Progress, Says, SaysAtEnd}
use Rattle.dump_cli.specs.declared.reading.NoVerdict.{NoVerdict}
use Rattle.dump_cli.specs.declared.reading.NoVerdict.TheVariants as none
use Rattle.dump_cli.specs.Verdicts.{AreReadSo, HasRead, HasTooMany, IsVerdictOn, refusal_after}

pub read_push : (input : List ℕ) (ls : List DumpLine) (rest text more : List ℕ) (l : DumpLine) → HasRead input ls rest
    → EndsLine rest more text → SpellsLine text l → HasRead input (ls ++ l ∷ []) more
read_push input [] rest text more l h e s = (text, more, subst (λ t. EndsLine t more text) (sym h) e, s, refl)
read_push input (m ∷ ls) rest text more l h e s = (h.0, h.1, h.2, h.3, read_push h.1 ls rest text more l h.4 e s)

pub length_push : (ls : List DumpLine) (l : DumpLine) → length (ls ++ l ∷ []) ≡ length ls + 1
length_push [] l = omega arith
length_push (a ∷ ls) l = omega (arith, length_push ls l)

-- what the reader gave of known bytes
pub gives_of : (o n : Option (List ℕ)) (r : Next) (line rest : List ℕ) → GivesKnown o n r line → o ≡ Some rest
    → (more : List ℕ) × (n ≡ Some more) × Gives rest more r line
gives_of None n r line rest h e = absurd (cc e)
gives_of (Some xs) None r line rest h e = absurd h
gives_of (Some xs) (Some ys) r line rest h e = let p : xs ≡ rest = cc e in
    (ys, refl, subst (λ t. Gives t ys r line) p h)

pub end_verdict : (input : List ℕ) (ls : List DumpLine) (rest : List ℕ) (v : Verdict) → AreReadSo input ls rest
    → rest ≡ [] → SaysAtEnd ls v → IsVerdictOn input v
end_verdict input ls rest (Sound cells edges entries) so e s = (ls, subst (λ t. AreReadSo input ls t) e so, s)
end_verdict input ls rest (Fault n why) so e s = (ls, rest, so, s.0, inr (e, s))
end_verdict input ls rest (Bad n) so e s = absurd s

pub bad_of : (rest more line : List ℕ) (r : Next) → Gives rest more r line → (r ≡ next.TooLong) ⊎ (r ≡ next.NotAscii)
    → IsTooLong rest ⊎ IsNotAscii rest
bad_of rest more line r g (inl p) = let h : Gives rest more next.TooLong line =
    subst (λ t. Gives rest more t line) p g in inl h.1
bad_of rest more line r g (inr p) = let h : Gives rest more next.NotAscii line =
    subst (λ t. Gives rest more t line) p g in inr h.1

abbrev pub refusal_if : Bool → ℕ → Result Verdict NoVerdict
refusal_if b k = if b then Err none.TooManyLines else Ok (Bad (k + 1))

refusal_by : (input : List ℕ) (ls : List DumpLine) (rest : List ℕ) (k : ℕ) (b : Bool) → AreReadSo input ls rest
    → length ls ≡ k → IsTooLong rest ⊎ IsNotAscii rest → IfOk (refusal_if b k) (IsVerdictOn input)
refusal_by input ls rest k true so e h = tt
refusal_by input ls rest k false so e h = (ls, rest, so, omega (arith, e), inr h)

pub refusal_verdict : (input : List ℕ) (ls : List DumpLine) (rest : List ℕ) (k : ℕ) (r : Result Verdict NoVerdict)
    → AreReadSo input ls rest → length ls ≡ k → IsTooLong rest ⊎ IsNotAscii rest → r ≡ refusal_after k
    → IfOk r (IsVerdictOn input)
refusal_verdict input ls rest k r so e h is =
    subst (λ t. IfOk t (IsVerdictOn input)) (sym is) (refusal_by input ls rest k (eqb k 4294967295) so e h)

-- bytes of a line, or of one that is refused, are some
pub line_there : (rest more line : List ℕ) → EndsLine rest more line → rest ≢ []
line_there rest more [] (inl e) = λ n. absurd (cc (sym e ∙ n))
line_there rest more (b ∷ line) (inl e) = λ n. absurd (cc (sym e ∙ n))
line_there rest more [] (inr e) = λ n. absurd (omega (arith, e.1))
line_there rest more (b ∷ line) (inr e) = λ n. absurd (cc (sym e.0 ∙ n))

bytes_there : (line rest xs : List ℕ) (byte : ℕ) → xs ≡ line ++ byte ∷ rest → xs ≢ []
bytes_there [] rest xs byte e = λ n. absurd (cc (sym e ∙ n))
bytes_there (b ∷ line) rest xs byte e = λ n. absurd (cc (sym e ∙ n))

pub refused_there : (xs : List ℕ) → IsTooLong xs ⊎ IsNotAscii xs → xs ≢ []
refused_there xs (inl h) = bytes_there h.line h.rest xs h.byte h.bytes
refused_there xs (inr h) = bytes_there h.line h.rest xs h.byte h.bytes

many_by : (b : Bool) (k : ℕ) → b ≡ eqb k 4294967295 → refusal_if b k ≡ Err none.TooManyLines → k ≡ 4294967295
many_by true k e is = eqb-true k 4294967295 (sym e)
many_by false k e is = absurd (cc is)

pub many_refused : (input : List ℕ) (ls : List DumpLine) (rest : List ℕ) (k : ℕ) (r : Result Verdict NoVerdict)
    → AreReadSo input ls rest → length ls ≡ k → IsTooLong rest ⊎ IsNotAscii rest → r ≡ refusal_after k
    → r ≡ Err none.TooManyLines → HasTooMany input
many_refused input ls rest k r so e h is too = record {
  lines = ls;
  rest = rest;
  so = so;
  count = e ∙ many_by (eqb k 4294967295) k refl (sym is ∙ too);
  more = refused_there rest h;
}

says_by : (E : Type 0) (input : List ℕ) (ls : List DumpLine) (rest more text : List ℕ) (v : Verdict) (new : Progress)
    → AreReadSo input ls rest → EndsLine rest more text → Says {E = E} ls text (Ok (Some v)) new → IsVerdictOn input v
says_by E input ls rest more text (Sound cells edges entries) new so e s = absurd s
says_by E input ls rest more text (Fault n why) new so e s = (ls, rest, so, s.0, inl (text, more, e, s.1))
says_by E input ls rest more text (Bad n) new so e s = (ls, rest, so, s.0, inl (text, more, e, s.1))

-- what was said of a line, as it was given
pub said_of : (E : Type 0) (ls : List DumpLine) (text given : List ℕ) (o p : Option Verdict) (new : Progress)
    → given ≡ text → o ≡ p → Says {E = E} ls given (Ok o) new → Says {E = E} ls text (Ok p) new
said_of E ls text given o p new same is s =
    subst (λ t. Says {E = E} ls t (Ok p) new) same (subst (λ t. Says {E = E} ls given (Ok t) new) is s)

pub says_verdict : (E : Type 0) (input : List ℕ) (ls : List DumpLine) (rest more text given : List ℕ)
    (o : Option Verdict) (v : Verdict) (new : Progress) → AreReadSo input ls rest → EndsLine rest more text
    → given ≡ text → o ≡ Some v → Says {E = E} ls given (Ok o) new → IsVerdictOn input v
says_verdict E input ls rest more text given o v new so e same is s =
    says_by E input ls rest more text v new so e (said_of E ls text given o (Some v) new same is s)
