-- A line that the judge finds wrong is one with which no lawful transcript begins that goes on as the lines before it
-- do.
use Rattle.std.proofs.Common.{◌≡◌, ◌∙◌, inl, inr, ℕ, ◌+◌, List, [], ◌∷◌, ◌++◌, length, refl, sym, ap, subst}
use Rattle.std.proofs.Common.{append_assoc}
use Rattle.gz_io.specs.Lines.{EndsLine}
use Rattle.gz_names.specs.declared.replies.Reply.TheVariants as reply
use Rattle.colour_defs.specs.Graph.{GraphState, empty_graph}
use Rattle.colour_defs.specs.World.{first_world}
use Rattle.colour_defs.proofs.ValidRuns.{first_valid}
use Rattle.colour_defs.proofs.Lists.{nothing_in_none}
use Rattle.trace_lang.specs.Grammar.{Spells}
use Rattle.trace_lang.specs.Texts.{reply_text}
use Rattle.judge.specs.Lines.{IsOneLine}
use Rattle.judge.specs.Positions.{AreLeft, IsBefore}
use Rattle.judge.specs.Replies.{Due, Judged, Steps, answered, asked, dump, graph_after, none, nothing}
use Rattle.judge.specs.Replies.{reply as reply_due, resets, units as units_due}
use Rattle.judge.specs.Sound.{IsSound}
use Rattle.judge.specs.Stages.{IsFirst, Shown}
use Rattle.judge.specs.Transcripts.{HasLines, IsLawful, IsLawfulFrom, IsNoStart, lines_of_reports, told_lines}
use Rattle.judge.specs.Verdicts.{IsBadLine, IsWrongLine}
use Rattle.judge.proofs.FirstWorld.{represents_first}
use Rattle.judge.proofs.Leading.{lawful_next, left_right, left_steps}
use Rattle.judge.proofs.LiveRuns.{first_live}
use Rattle.judge.proofs.Sound.{sound_first, sound_steps}
use Rattle.judge.proofs.Soundness.{one_more}
use Rattle.judge.proofs.Transcribing.{has_more}
use Rattle.judge.proofs.Unmarked.{left_unmarked}

-- these lines were judged, and where a lawful transcript begins with them, this is left of it
pub record IsFollowedBy (input : List ℕ) (n : ℕ) (rest : List ℕ) (g : GraphState) (s : Shown) (due : Due) : Type 0 where
  pub lines : List (List ℕ)
  pub number : n ≡ length lines
  pub has : HasLines input lines rest
  pub sound : IsSound g s
  pub left : (more : List (List ℕ)) → IsLawful (lines ++ more) → AreLeft g s due more

first_left : (s : Shown) → IsFirst s → (more : List (List ℕ)) → IsLawful more → IsBefore empty_graph s [] more
first_left s f more lawful = record {
  world = first_world;
  stands = record {
    stands = record {
      represents = represents_first s f;
      laws = record { valid = first_valid; live = first_live; registers = refl; slots = refl };
      sound = sound_first s f;
    };
    not_over = λ over. cc over.running;
    none_told = f.none_told;
  };
  unmarked = λ l c. absurd (nothing_in_none l c);
  more = more;
  goes_on = lawful;
  lines_are = refl;
}

-- one line more
more_left : (input : List ℕ) (n : ℕ) (rest more line : List ℕ) (g h : GraphState) (old new : Shown) (due next : Due)
    → IsFollowedBy input n rest g old due → IsOneLine line → EndsLine rest more line
    → Steps g old due line h new next → IsFollowedBy input (n + 1) more h new next
more_left input n rest more line g h old new due next is one ends steps =
    let sound = sound_steps g h old new due next line steps is.sound in record {
      lines = is.lines ++ line ∷ [];
      number = one_more n is.lines line is.number;
      has = has_more input is.lines rest more line is.has one ends;
      sound = sound;
      left = λ others lawful. left_steps g h old new due next line others
          (is.left (line ∷ others) (subst IsLawful (append_assoc is.lines (line ∷ []) others) lawful)) steps sound;
    }

pub judged_left : (input : List ℕ) {n : ℕ} {rest : List ℕ} {g : GraphState} {s : Shown} {due : Due}
    → Judged input n rest g s due → IsFollowedBy input n rest g s due
judged_left input (none {s} first) = record {
  lines = [];
  number = refl;
  has = refl;
  sound = sound_first s first;
  left = λ more lawful. first_left s first more lawful;
}
judged_left input (asked {n} {rest} {more} {line} {text} {g} {c} {old} {new} {due} j one ends mark reads asks) =
    more_left input n rest more line g (graph_after g old c) old new nothing due (judged_left input j) one ends
    (inl (text, c, refl, mark, reads, refl, asks))
judged_left input (answered {n} {rest} {more} {line} {g} {due} {next} {old} {new} j one ends unmarked a) =
    more_left input n rest more line g g old new due next (judged_left input j) one ends (inr (unmarked, refl, a))

-- a wrong line, and one that stands for no command
pub wrong_none : (g : GraphState) (s : Shown) (due : Due) (line : List ℕ) (lines : List (List ℕ))
    → ((more : List (List ℕ)) → IsLawful (lines ++ more) → AreLeft g s due more) → IsWrongLine g s due line
    → IsNoStart (lines ++ line ∷ [])
wrong_none g s due line lines left wrong more lawful =
    left_right g s due line more (left (line ∷ more)
    (subst IsLawful (append_assoc lines (line ∷ []) more) lawful)) wrong

bad_left : (g : GraphState) (s : Shown) (due : Due) (line : List ℕ) (more : List (List ℕ))
    → AreLeft g s due (line ∷ more) → IsBadLine line → ⊥
bad_left g s nothing line more left (text, is, never) =
    let goes = lawful_next left.world line more
    (subst (λ ls. IsLawfulFrom left.world ls) (sym left.lines_are) left.goes_on) in
    let same : goes.text ≡ text = ap (λ t. Rattle.std.specs.Prelude.drop 2 t) (sym goes.line_is ∙ is) in
    never goes.command (subst (λ t. Spells t goes.command) same goes.stands)
bad_left g s (reply_due t) line more left (text, is, never) =
    left_unmarked g s (reply_due t) line more left (λ e. cc e) text is
bad_left g s (dump ls) line more left (text, is, never) =
    left_unmarked g s (dump ls) line more left (λ e. cc e) text is
bad_left g s (units_due most collects reports) line more left (text, is, never) =
    left_unmarked g s (units_due most collects reports) line more left (λ e. cc e) text is
bad_left g s resets line more left (text, is, never) = left_unmarked g s resets line more left (λ e. cc e) text is

pub bad_none : (g : GraphState) (s : Shown) (due : Due) (line : List ℕ) (lines : List (List ℕ))
    → ((more : List (List ℕ)) → IsLawful (lines ++ more) → AreLeft g s due more) → IsBadLine line
    → IsNoStart (lines ++ line ∷ [])
bad_none g s due line lines left bad more lawful =
    bad_left g s due line more (left (line ∷ more) (subst IsLawful (append_assoc lines (line ∷ []) more) lawful)) bad

-- within an answer some line is left
pub some_left : (g : GraphState) (s : Shown) (due : Due) → AreLeft g s due [] → due ≡ nothing
some_left g s nothing left = refl
some_left g s (reply_due text) left = let e = left.lines_are in absurd (cc e)
some_left g s (dump []) left = absurd left
some_left g s (dump (l ∷ ls)) left = let e = left.lines_are in absurd (cc e)
some_left g s (units_due most collects reports) left =
    absurd (never_nothing (told_lines s.told) left.left (λ e. never_nothing
    (lines_of_reports (Rattle.judge.specs.Positions.left_reports left.rest.is_last left.rest.units))
    (left.rest.last ∷ left.rest.more) (λ f. cc f) (sym (sym e ∙ left.rest.lines_are))) (sym left.lines_are))
  where
    never_nothing : (xs ys : List (List ℕ)) → (ys ≡ [] → ⊥) → xs ++ ys ≡ [] → ⊥
    never_nothing [] ys some e = some e
    never_nothing (x ∷ xs) ys some e = cc e
some_left g s resets left =
    absurd (never_nothing (lines_of_reports (left.sweeps ++ left.final ∷ [])) (reply_text reply.ResetDone ∷ left.more)
    (λ f. cc f) (sym left.lines_are))
  where
    never_nothing : (xs ys : List (List ℕ)) → (ys ≡ [] → ⊥) → xs ++ ys ≡ [] → ⊥
    never_nothing [] ys some e = some e
    never_nothing (x ∷ xs) ys some e = cc e
