-- A transcript with one answer more, and lines with one line more.
use Rattle.std.proofs.Common.{◌≡◌, ◌∙◌, ℕ, zero, suc, length, ◌+◌, List, [], ◌∷◌, ◌++◌, append_assoc, ap, arith, refl}
use Rattle.std.proofs.Common.{subst, sym}
use Rattle.std.proofs.lemmas.List.{append-nil}
use Rattle.std.specs.List.{flat_map}
use Rattle.gz_io.specs.Lines.{EndsLine}
use Rattle.gz_names.specs.declared.names.Name.{Name}
use Rattle.gz_names.specs.declared.commands.Cmd.{Cmd}
use Rattle.gz_names.specs.declared.replies.Report.{Report}
use Rattle.gz_names.specs.declared.replies.Report.TheVariants as report
use Rattle.colour_defs.specs.Lawful.{Answers, AreLawfulSweeps, AreLawfulUnits, IsLawfulSweep, IsLawfulUnit, IsRunning}
use Rattle.colour_defs.specs.Lawful.{Run, quiet}
use Rattle.colour_defs.specs.Units.{sweeps_in}
use Rattle.colour_defs.specs.World.{World, first_world}
use Rattle.trace_lang.specs.Grammar.{Spells}
use Rattle.judge.specs.Lines.{IsOneLine}
use Rattle.judge.specs.Replies.{marked}
use Rattle.judge.specs.Transcripts.{Answer, HasLines, HasSmallNumber, HaveSmallNumbers, IsLawfulRun, StandForAll}
use Rattle.judge.specs.Transcripts.{lines_of_answer, lines_of_report, lines_of_reports, transcript}

pub run_more : (w : World) (cs : List Cmd) (answers : List Answer) (u : World) (c : Cmd) (a : Answer) (v : World)
    → Run w cs answers u → Answers u c a.0 a.1 v → Run w (cs ++ c ∷ []) (answers ++ a ∷ []) v
run_more w [] [] u c a v r h = (v, subst (λ z. Answers z c a.0 a.1 v) r h, refl)
run_more w (d ∷ cs) (b ∷ answers) u c a v (m, first, rest) h = (m, first, run_more m cs answers u c a v rest h)
run_more w [] (b ∷ answers) u c a v r h = absurd r
run_more w (d ∷ cs) [] u c a v r h = absurd r

stand_more : (lines : List (List ℕ)) (cs : List Cmd) (line : List ℕ) (c : Cmd) → StandForAll lines cs → Spells line c
    → StandForAll (lines ++ line ∷ []) (cs ++ c ∷ [])
stand_more [] [] line c s h = (h, tt)
stand_more (l ∷ lines) (d ∷ cs) line c s h = (s.0, stand_more lines cs line c s.1 h)
stand_more [] (d ∷ cs) line c s h = absurd s
stand_more (l ∷ lines) [] line c s h = absurd s

small_more : (answers : List Answer) (a : Answer) → HaveSmallNumbers answers → HasSmallNumber a.1
    → HaveSmallNumbers (answers ++ a ∷ [])
small_more [] a s h = (h, tt)
small_more (b ∷ answers) a s h = (s.0, small_more answers a s.1 h)

transcript_more : (lines : List (List ℕ)) (cs : List Cmd) (answers : List Answer) (w v : World) (line : List ℕ)
    (a : Answer) → StandForAll lines cs → Run w cs answers v
    → transcript (lines ++ line ∷ []) (answers ++ a ∷ []) ≡ transcript lines answers ++ marked line ∷ lines_of_answer a
transcript_more [] [] [] w v line a s r = ap (λ ls. marked line ∷ ls) (append-nil (lines_of_answer a))
transcript_more [] [] (b ∷ answers) w v line a s r = absurd r
transcript_more [] (d ∷ cs) answers w v line a s r = absurd s
transcript_more (l ∷ lines) [] answers w v line a s r = absurd s
transcript_more (l ∷ lines) (d ∷ cs) [] w v line a s r = absurd r
transcript_more (l ∷ lines) (d ∷ cs) (b ∷ answers) w v line a s (m, first, rest) =
    ap (λ ls. marked l ∷ (lines_of_answer b ++ ls)) (transcript_more lines cs answers m v line a s.1 rest)
    ∙ ap (λ ls. marked l ∷ ls)
    (sym (append_assoc (lines_of_answer b) (transcript lines answers) (marked line ∷ lines_of_answer a)))

-- one answer more
pub lawful_more : (trace : List (List ℕ)) (answers : List Answer) (w v : World) (line : List ℕ) (c : Cmd) (a : Answer)
    → IsLawfulRun first_world trace answers w → Spells line c → Answers w c a.0 a.1 v → HasSmallNumber a.1
    → IsLawfulRun first_world (trace ++ line ∷ []) (answers ++ a ∷ []) v
lawful_more trace answers w v line c a l spells h small = record {
  commands = l.commands ++ c ∷ [];
  stand = stand_more trace l.commands line c l.stand spells;
  run = run_more first_world l.commands answers w c a v l.run h;
  small = small_more answers a l.small small;
}

pub lines_more : (trace : List (List ℕ)) (answers : List Answer) (w : World) (line : List ℕ) (a : Answer)
    → IsLawfulRun first_world trace answers w
    → transcript (trace ++ line ∷ []) (answers ++ a ∷ []) ≡ transcript trace answers ++ marked line ∷ lines_of_answer a
lines_more trace answers w line a l = transcript_more trace l.commands answers first_world w line a l.stand l.run

-- lines of bytes
pub has_more : (input : List ℕ) (lines : List (List ℕ)) (rest more line : List ℕ) → HasLines input lines rest
    → IsOneLine line → EndsLine rest more line → HasLines input (lines ++ line ∷ []) more
has_more input [] rest more line h one e = (more, one, subst (λ r. EndsLine r more line) h e, refl)
has_more input (l ∷ lines) rest more line (m, first, ends, tail) one e =
    (m, first, ends, has_more m lines rest more line tail one e)

-- units, one more
pub units_more : (w : World) (units : List (List Report)) (u : World) (unit : List Report) (v : World)
    → AreLawfulUnits w units u → IsLawfulUnit u unit v → AreLawfulUnits w (units ++ unit ∷ []) v
units_more w [] u unit v h one = (v, subst (λ z. IsLawfulUnit z unit v) h one, refl)
units_more w (first ∷ units) u unit v (m, f, rest) one = (m, f, units_more m units u unit v rest one)

pub sweeps_more : (w : World) (rs : List Report) (u : World) (arena : ℕ)
    (freed : List Name) (v : World)
    → AreLawfulSweeps w rs u → IsLawfulSweep u arena freed v
    → AreLawfulSweeps w (rs ++ report.Swept arena freed ∷ []) v
sweeps_more w [] u arena freed v h one = (v, subst (λ z. IsLawfulSweep z arena freed v) h one, refl)
sweeps_more w (report.Swept b gone ∷ rs) u arena freed v (m, first, rest) one =
    (m, first, sweeps_more m rs u arena freed v rest one)
sweeps_more w (report.Started ∷ rs) u arena freed v h one = absurd h
sweeps_more w (report.Groups groups ∷ rs) u arena freed v h one = absurd h
sweeps_more w (report.Ended zones grays told ∷ rs) u arena freed v h one = absurd h
sweeps_more w (report.Done ∷ rs) u arena freed v h one = absurd h
sweeps_more w (report.Stopped zones ∷ rs) u arena freed v h one = absurd h

-- quiet units before others
pub quiet_units : ℕ → List (List Report)
quiet_units zero = []
quiet_units (suc n) = [] ∷ quiet_units n

pub quiet_first : (n : ℕ) (w : World) (units : List (List Report)) (v : World) → IsRunning w → AreLawfulUnits w units v
    → AreLawfulUnits w (quiet_units n ++ units) v
unfolding quiet_units
quiet_first zero w units v run h = h
quiet_first (suc n) w units v run h = (w, quiet run, quiet_first n w units v run h)

pub quiet_reports : (n : ℕ) (units : List (List Report))
    → flat_map (λ (u : List Report). u) (quiet_units n ++ units) ≡ flat_map (λ u. u) units
unfolding quiet_units
quiet_reports zero units = refl
quiet_reports (suc n) units = quiet_reports n units

pub quiet_length : (n : ℕ) (units : List (List Report)) → length (quiet_units n ++ units) ≡ n + length units
unfolding quiet_units
quiet_length zero units = omega arith
quiet_length (suc n) units = let rest = quiet_length n units in omega (arith, rest)

-- the lines and the sweeps of reports
pub flat_more : {X Y : Type 0} (f : X → List Y) (xs : List X) (x : X) → flat_map f (xs ++ x ∷ []) ≡ flat_map f xs ++ f x
flat_more f [] x = append-nil (f x)
flat_more f (y ∷ xs) x = ap (λ ys. f y ++ ys) (flat_more f xs x) ∙ sym (append_assoc (f y) (flat_map f xs) (f x))

pub lines_both : (xs ys : List Report) → lines_of_reports (xs ++ ys) ≡ lines_of_reports xs ++ lines_of_reports ys
lines_both [] ys = refl
lines_both (x ∷ xs) ys = ap (λ ls. lines_of_report x ++ ls) (lines_both xs ys)
    ∙ sym (append_assoc (lines_of_report x) (lines_of_reports xs) (lines_of_reports ys))

sweeps_one : (r : Report) (rs : List Report) → sweeps_in (r ∷ rs) ≡ sweeps_in (r ∷ []) + sweeps_in rs
sweeps_one report.Started rs = omega arith
sweeps_one (report.Groups groups) rs = omega arith
sweeps_one (report.Ended zones grays told) rs = omega arith
sweeps_one (report.Swept arena freed) rs = omega arith
sweeps_one report.Done rs = omega arith
sweeps_one (report.Stopped zones) rs = omega arith

pub sweeps_both : (xs ys : List Report) → sweeps_in (xs ++ ys) ≡ sweeps_in xs + sweeps_in ys
sweeps_both [] ys = omega arith
sweeps_both (x ∷ xs) ys =
    let rest = sweeps_both xs ys in
    let a = sweeps_one x (xs ++ ys) in
    let b = sweeps_one x xs in
    omega (arith, a, b, rest)
