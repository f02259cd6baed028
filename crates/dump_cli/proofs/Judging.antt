-- What is said of well-formed dumps, and of those with too many lines.
use Rattle.std.proofs.Common.{◌≡◌, ◌≢◌, ℕ, ◌<◌, ◌≤◌, ◌⊎◌, Bool, true, false, List, [], ◌∷◌, ◌++◌, length}
use Rattle.std.proofs.Common.{Option, Some, None, Result, Ok, Err, IsTrue, append_assoc, sym, refl, ap, subst}
use Rattle.std.proofs.Common.{arith, eqb}
use Rattle.std.proofs.lemmas.Bool.{eqb-false}
use Rattle.std.proofs.lemmas.List.{append-nil, length-append}
use Rattle.gz_io.specs.Lines.{EndsLine, IsNotAscii, IsPlain, IsTooLong}
use Rattle.gz_names.specs.declared.dumps.DumpLine.{DumpLine}
use Rattle.gz_names.specs.DumpTexts.{SpellsLine}
use Rattle.gz_names.specs.Dumps.{AreSoundLines, fault_of, is_in_form}
use Rattle.dump_check.specs.declared.checker.Verdict.{Verdict}
use Rattle.dump_check.specs.declared.checker.Verdict.TheVariants.{Sound, Fault, Bad}
use Rattle.dump_check.specs.Checking.{Progress, Says, SaysAtEnd}
use Rattle.dump_cli.specs.declared.reading.NoVerdict.{NoVerdict}
use Rattle.dump_cli.specs.declared.reading.NoVerdict.TheVariants as none
use Rattle.dump_cli.specs.Verdicts.{AreInForm, HasTooMany, IsJudged, IsUnjudged, IsWellFormed, refusal_after}
use Rattle.dump_cli.proofs.Fine.{line_fine}
use Rattle.dump_cli.proofs.Only.{IsOneLine, IsOnlyReading, NextLine, next_of_more, next_of_rest, none_left}
use Rattle.dump_cli.proofs.Only.{refused_none}
use Rattle.dump_cli.proofs.Only.{same_line}
use Rattle.dump_cli.proofs.Read.{refusal_if, refused_there, said_of}

-- a line among lines in form may follow those before it
form_at : (before ls more : List DumpLine) (l : DumpLine) → AreInForm before (ls ++ l ∷ more)
    → IsTrue (is_in_form (before ++ ls) l)
form_at before [] more l h = subst (λ t. IsTrue (is_in_form t l)) (sym (append-nil before)) h.0
form_at before (a ∷ ls) more l h =
    subst (λ t. IsTrue (is_in_form t l)) (append_assoc before (a ∷ []) ls) (form_at (before ++ a ∷ []) ls more l h.1)

-- and among sound lines it is sound
sound_form : (before ls more : List DumpLine) (l : DumpLine) → AreSoundLines before (ls ++ l ∷ more)
    → IsTrue (is_in_form (before ++ ls) l)
sound_form before [] more l h = subst (λ t. IsTrue (is_in_form t l)) (sym (append-nil before)) h.0
sound_form before (a ∷ ls) more l h =
    subst (λ t. IsTrue (is_in_form t l)) (append_assoc before (a ∷ []) ls)
    (sound_form (before ++ a ∷ []) ls more l h.2)

sound_none : (before ls more : List DumpLine) (l : DumpLine) → AreSoundLines before (ls ++ l ∷ more)
    → fault_of (before ++ ls) l ≡ None
sound_none before [] more l h = subst (λ t. fault_of t l ≡ None) (sym (append-nil before)) h.1
sound_none before (a ∷ ls) more l h =
    subst (λ t. fault_of t l ≡ None) (append_assoc before (a ∷ []) ls) (sound_none (before ++ a ∷ []) ls more l h.2)

-- the line that comes next is the one that was given
record IsNext (ls : List DumpLine) (all : List DumpLine) (text : List ℕ) : Type 0 where
  line : DumpLine
  more : List DumpLine
  is : all ≡ ls ++ line ∷ more
  spelled : SpellsLine text line

is_next : (ls : List DumpLine) (rest next text : List ℕ) (all : List DumpLine) → EndsLine rest next text
    → IsPlain text → NextLine ls rest all → IsNext ls all text
is_next ls rest next text all e p n =
    let fine = line_fine n.text n.line n.spelled in
    let same = same_line rest next n.next text n.text p fine.plain e n.ends in
    record {
      line = n.line;
      more = n.more;
      is = n.is;
      spelled = subst (λ t. SpellsLine t n.line) (sym same.0) n.spelled;
    }

next_in_form : (ls : List DumpLine) (all : List DumpLine) (text : List ℕ) → AreInForm [] all → (n : IsNext ls all text)
    → IsTrue (is_in_form ls n.line)
next_in_form ls all text h n = form_at [] ls n.more n.line (subst (AreInForm []) n.is h)

more_than : (ls : List DumpLine) (all : List DumpLine) (l : DumpLine) (more : List DumpLine) → all ≡ ls ++ l ∷ more
    → length ls < length all
more_than ls all l more e =
    let same = ap length e in let sum = length-append ls (l ∷ more) in omega (arith, same, sum)

-- where a well-formed dump goes on, its next line is not refused by the reader
pub well_refused : (input : List ℕ) (ls : List DumpLine) (rest : List ℕ) → IsWellFormed input
    → IsOnlyReading input ls rest → IsTooLong rest ⊎ IsNotAscii rest → ⊥
well_refused input ls rest w only bad =
    let n = next_of_rest ls rest w.lines (refused_there rest bad) (only w.lines [] w.read) in
    refused_none rest n.next n.text n.line bad n.ends n.spelled

-- nor does it go on past the lines that are counted
pub well_counted : (input : List ℕ) (ls : List DumpLine) (rest : List ℕ) → IsWellFormed input
    → IsOnlyReading input ls rest → length ls ≡ 4294967295 → rest ≢ [] → ⊥
well_counted input ls rest w only count some =
    let n = next_of_rest ls rest w.lines some (only w.lines [] w.read) in
    omega (arith, more_than ls w.lines n.line n.more n.is, count, w.few)

judged_by : (E : Type 0) (input : List ℕ) (ls : List DumpLine) (rest next text : List ℕ) (v : Verdict)
    (new : Progress) → IsWellFormed input → IsOnlyReading input ls rest → EndsLine rest next text → IsPlain text
    → rest ≢ [] → Says {E = E} ls text (Ok (Some v)) new → IsJudged (Ok v)
judged_by E input ls rest next text (Sound cells edges entries) new w only e p some s = tt
judged_by E input ls rest next text (Fault n why) new w only e p some s = tt
judged_by E input ls rest next text (Bad m) new w only e p some s =
    let n = is_next ls rest next text w.lines e p (next_of_rest ls rest w.lines some (only w.lines [] w.read)) in
    s.1 n.line n.spelled (next_in_form ls w.lines text w.in_form n)

pub line_judged : (E : Type 0) (input : List ℕ) (ls : List DumpLine) (rest next text given : List ℕ)
    (o : Option Verdict) (v : Verdict) (new : Progress) → IsWellFormed input → IsOnlyReading input ls rest
    → EndsLine rest next text → IsPlain text → rest ≢ [] → given ≡ text → o ≡ Some v → Says {E = E} ls given (Ok o) new
    → IsJudged (Ok v)
line_judged E input ls rest next text given o v new w only e p some same is s =
    judged_by E input ls rest next text v new w only e p some (said_of E ls text given o (Some v) new same is s)

pub end_judged : (ls : List DumpLine) (v : Verdict) → SaysAtEnd ls v → IsJudged (Ok v)
end_judged ls (Sound cells edges entries) s = tt
end_judged ls (Fault n why) s = tt
end_judged ls (Bad n) s = absurd s

-- where there are too many lines, the next one of those that are counted
counted_next : (input : List ℕ) (ls : List DumpLine) (rest : List ℕ) (t : HasTooMany input)
    → IsOnlyReading input ls rest → length ls < 4294967295 → NextLine ls rest t.lines
counted_next input ls rest t only few =
    let count = t.count in
    next_of_more ls rest t.lines t.rest (omega (arith, few, count)) (only t.lines t.rest t.so.read)

-- is not refused by the reader
unjudged_if : (input : List ℕ) (ls : List DumpLine) (rest : List ℕ) (k : ℕ) (b : Bool) → b ≡ eqb k 4294967295
    → HasTooMany input → IsOnlyReading input ls rest → length ls ≡ k → k ≤ 4294967295
    → IsTooLong rest ⊎ IsNotAscii rest → IsUnjudged (refusal_if b k)
unjudged_if input ls rest k true is t only e most bad = tt
unjudged_if input ls rest k false is t only e most bad =
    let other : k ≢ 4294967295 = eqb-false k 4294967295 (sym is) in
    let n = counted_next input ls rest t only (omega (arith, e, most, other)) in
    refused_none rest n.next n.text n.line bad n.ends n.spelled

pub refusal_unjudged : (input : List ℕ) (ls : List DumpLine) (rest : List ℕ) (k : ℕ) (r : Result Verdict NoVerdict)
    → HasTooMany input → IsOnlyReading input ls rest → length ls ≡ k → k ≤ 4294967295
    → IsTooLong rest ⊎ IsNotAscii rest → r ≡ refusal_after k → IsUnjudged r
refusal_unjudged input ls rest k r t only e most bad is =
    subst IsUnjudged (sym is) (unjudged_if input ls rest k (eqb k 4294967295) refl t only e most bad)

-- nor by the checker
unjudged_by : (E : Type 0) (input : List ℕ) (ls : List DumpLine) (rest next text : List ℕ) (v : Verdict)
    (new : Progress) → HasTooMany input → IsOnlyReading input ls rest → EndsLine rest next text → IsPlain text
    → IsOneLine text → length ls < 4294967295 → Says {E = E} ls text (Ok (Some v)) new → ⊥
unjudged_by E input ls rest next text (Sound cells edges entries) new t only e p one few s = s
unjudged_by E input ls rest next text (Fault m why) new t only e p one few s =
    let n = is_next ls rest next text t.lines e p (counted_next input ls rest t only few) in
    let sound : AreSoundLines [] (ls ++ n.line ∷ n.more) = subst (AreSoundLines []) n.is t.so.sound in
    let same : n.line ≡ s.1.line = one n.line s.1.line n.spelled s.1.spelled in
    let none : fault_of ls s.1.line ≡ None =
    subst (λ l. fault_of ls l ≡ None) same (sound_none [] ls n.more n.line sound) in
    let some = s.1.fault in cc (none, some)
unjudged_by E input ls rest next text (Bad m) new t only e p one few s =
    let n = is_next ls rest next text t.lines e p (counted_next input ls rest t only few) in
    let sound : AreSoundLines [] (ls ++ n.line ∷ n.more) = subst (AreSoundLines []) n.is t.so.sound in
    s.1 n.line n.spelled (sound_form [] ls n.more n.line sound)

pub line_unjudged : (E : Type 0) (input : List ℕ) (ls : List DumpLine) (rest next text given : List ℕ)
    (o : Option Verdict) (v : Verdict) (new : Progress) → HasTooMany input → IsOnlyReading input ls rest
    → EndsLine rest next text → IsPlain text → IsOneLine given → length ls < 4294967295 → given ≡ text → o ≡ Some v
    → Says {E = E} ls given (Ok o) new → IsUnjudged (Ok v)
line_unjudged E input ls rest next text given o v new t only e p one few same is s =
    absurd (unjudged_by E input ls rest next text v new t only e p (subst IsOneLine same one) few
    (said_of E ls text given o (Some v) new same is s))

-- and the dump does not end before
pub end_unjudged : (input : List ℕ) (ls : List DumpLine) (rest : List ℕ) (v : Verdict) → HasTooMany input
    → IsOnlyReading input ls rest → length ls ≤ 4294967295 → rest ≡ [] → IsUnjudged (Ok v)
end_unjudged input ls rest v t only most none =
    let count = t.count in
    absurd (none_left ls rest t.lines t.rest none t.more (omega (arith, most, count)) (only t.lines t.rest t.so.read))

-- a well-formed dump is not refused
pub not_counted : (x : NoVerdict) → x ≡ none.TooManyLines → IsJudged (Err x) → ⊥
not_counted x e h = subst (λ t. IsJudged (Err t)) e h

pub not_bad : (v : Verdict) (n : ℕ) → v ≡ Bad n → IsJudged (Ok v) → ⊥
not_bad v n e h = subst (λ t. IsJudged (Ok t)) e h
