-- What a verdict says of the transcript, by the definitions.
use Rattle.std.proofs.Common.{◌≡◌, ◌∙◌, ℕ, ◌+◌, List, [], ◌∷◌, ◌++◌, Option, refl, sym, ap}
use Rattle.std.proofs.Common.{subst}
use Rattle.std.proofs.lemmas.List.{append-nil}
use Rattle.judge.specs.Endings.{EndsBy, EndsWithin, IsFirstUnread, MayEndLawful}
use Rattle.judge.specs.Positions.{AreLeft}
use Rattle.judge.specs.Replies.{Due}
use Rattle.judge.specs.Transcripts.{HasLawfulLines, HasLines, IsFirstUnlawful, IsLawful, IsLawfulInput, IsNoStart}
use Rattle.judge.specs.Verdicts.{HasJudged, IsCut, IsFirstBad, IsFirstWrong}
use Rattle.judge.specs.declared.judging.JudgeEnd.{JudgeEnd}
use Rattle.judge.specs.declared.judging.JudgeEnd.TheVariants as end
use Rattle.judge.proofs.Completeness.{bad_none, judged_left, some_left, wrong_none}
use Rattle.judge.proofs.LawfulBytes.{lawful_lines}
use Rattle.judge.proofs.OneReading.{lines_begin, lines_same, never_ends}
use Rattle.judge.proofs.SoFar.{AreLawfulLines, judged_so_far}
use Rattle.judge.proofs.Transcribing.{has_more}

-- the lines that were judged, by which a lawful transcript may begin
module _ (input : List ℕ) (n : ℕ) (rest : List ℕ) (due : Due) (j : HasJudged input n rest due) where
  so_far : AreLawfulLines input n rest
  so_far = judged_so_far input n rest due j

  left_of : (more : List (List ℕ)) → IsLawful (so_far.lines ++ more) → AreLeft j.graph j.shows due more
  left_of more lawful =
      let l = judged_left input j.judged in
      let same = (lines_same input so_far.lines l.lines rest rest so_far.has l.has
      (sym so_far.number ∙ l.number)).0 in
      l.left more (subst (λ ls. IsLawful (ls ++ more)) same lawful)

pub wrong_first : (input : List ℕ) (n : ℕ) → IsFirstWrong input n → IsFirstUnlawful input n
wrong_first input n (before, due, line, is, next, wrong) =
    let l = so_far input before next.rest due next.before in record {
      before = l.lines;
      line = line;
      rest = next.more;
      has = has_more input l.lines next.rest next.more line l.has next.one next.ends;
      number = is ∙ ap (λ k. k + 1) l.number;
      so_far = l.so_far;
      none = wrong_none next.before.graph next.before.shows due line l.lines
          (left_of input before next.rest due next.before) wrong;
    }

pub bad_unread : (input : List ℕ) (n : ℕ) → IsFirstBad input n → IsFirstUnread input n
bad_unread input n (before, due, line, is, next, bad) =
    let l = so_far input before next.rest due next.before in record {
      before = l.lines;
      line = line;
      rest = next.more;
      has = has_more input l.lines next.rest next.more line l.has next.one next.ends;
      number = is ∙ ap (λ k. k + 1) l.number;
      so_far = l.so_far;
      bad = bad;
      none = bad_none next.before.graph next.before.shows due line l.lines
          (left_of input before next.rest due next.before) bad;
    }

pub cut_within : (input : List ℕ) → IsCut input → EndsWithin input
cut_within input (n, due, j, some) =
    let l = so_far input n [] due j in record {
      lines = l.lines;
      has = l.has;
      so_far = l.so_far;
      unfinished = λ lawful. some (some_left j.graph j.shows due
          (left_of input n [] due j [] (subst IsLawful (sym (append-nil l.lines)) lawful)));
    }

-- a lawful transcript is found to be one
not_begun : (input : List ℕ) (lines : List (List ℕ)) (rest : List ℕ) → HasLines input lines rest → IsNoStart lines
    → HasLawfulLines input → ⊥
not_begun input lines rest has none (all, whole, lawful) =
    let r = lines_begin input lines all rest has whole in
    none r.0 (subst IsLawful r.1 lawful)

pub lawful_ends : (input : List ℕ) (old new : Option (List ℕ)) (r : JudgeEnd) → EndsBy input old new r
    → IsLawfulInput input → MayEndLawful r
lawful_ends input old new end.Lawful e lawful = tt
lawful_ends input old new (end.Unlawful n) e lawful =
    not_begun input (e.0.before ++ e.0.line ∷ []) e.0.rest e.0.has e.0.none (lawful_lines input lawful)
lawful_ends input old new end.Cut e lawful =
    let all = lawful_lines input lawful in
    let r = lines_begin input e.0.lines all.0 [] e.0.has all.1 in
    e.0.unfinished (subst IsLawful (r.1 ∙ ap (λ zs. e.0.lines ++ zs) (nothing_more r.0 r.2) ∙ append-nil e.0.lines)
    all.2)
  where
    nothing_more : (zs : List (List ℕ)) → HasLines [] zs [] → zs ≡ []
    nothing_more [] has = refl
    nothing_more (z ∷ zs) (more, one, ends, tail) = absurd (never_ends more z ends)
lawful_ends input old new (end.BadLine n) e lawful =
    not_begun input (e.0.before ++ e.0.line ∷ []) e.0.rest e.0.has e.0.none (lawful_lines input lawful)
lawful_ends input old new end.ReadFault e lawful = tt
lawful_ends input old new end.WriteFault e lawful = tt
lawful_ends input old new end.NoMemory e lawful = tt
lawful_ends input old new end.TooManyLines e lawful = tt
