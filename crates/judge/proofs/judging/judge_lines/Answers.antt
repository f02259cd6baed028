use Rattle.std.proofs.Common.{◌≡◌, ◌∙◌, ℕ, ◌+◌, inl, inr, List, refl, subst, sym}
use Rattle.gz_io.specs.Lines.{EndsLine}
use Rattle.colour_defs.specs.Graph.{GraphState}
use Rattle.judge.specs.Lines.{GivesLine, IsOneLine}
use Rattle.judge.specs.Sound.{IsSound}
use Rattle.judge.specs.Stages.{Shown, shown}
use Rattle.judge.specs.Replies.{Due, Judged, asked, answered, Steps, due_as}
use Rattle.judge.specs.Verdicts.{HasJudged, IsBadLine, IsSaid, IsWrongLine}
use Rattle.judge.specs.declared.judging.Said.{Said}
use Rattle.judge.specs.declared.lines.NextLine.{NextLine}
use Rattle.judge.specs.declared.lines.NextLine.TheVariants as next_line
use Rattle.judge.proofs.Runs.{bad_judged, cut_judged, gives_of, none_held, start_judged, whole_judged, wrong_judged}
use Rattle.judge.proofs.Sound.{sound_first, sound_steps}
use Rattle.judge.proofs.judging.judge_lines.Goals as goal

-- a line more
one_more_judged : (input rest more line : List ℕ) (n : ℕ) (g h : GraphState) (old new : Shown) (due next : Due)
    → Judged input n rest g old due → IsOneLine line → EndsLine rest more line → Steps g old due line h new next
    → Judged input (n + 1) more h new next
one_more_judged input rest more line n g h old new due next j one e (inl (text, c, is, m, s, after, asks)) =
    subst (λ k. Judged input (n + 1) more k new next) (sym after)
    (asked (subst (λ d. Judged input n rest g old d) is j) one e m s asks)
one_more_judged input rest more line n g h old new due next j one e (inr (u, same, ans)) =
    subst (λ k. Judged input (n + 1) more k new next) (sym same) (answered j one e u ans)

abbrev judged_of : (input rest : List ℕ) (n : ℕ) (g : GraphState) (s : Shown) (due : Due) → Judged input n rest g s due
    → HasJudged input n rest due
judged_of input rest n g s due j = record { graph = g; shows = s; judged = j }

pub loop-read-init : goal.loop-read-init
loop-read-init g c = record {
  calm = refl;
  sound = subst (λ (h : GraphState). IsSound h (shown c.args.known.now.world)) (sym c.requires.graph)
      (sound_first (shown c.args.known.now.world) c.requires.shows);
  so = λ input e. (
    input,
    none_held _ _ input c.new-lines.ensures e,
    start_judged input _ _ _ c.requires.graph c.requires.shows c.requires.due,
  );
}

pub loop-read-preserved : goal.loop-read-preserved
loop-read-preserved g c = record {
  calm = c.in_ok-next.ensures.same (λ p. let q : next_line.Line ≡ next_line.ReadFault = sym c.in-Line.is ∙ p in cc q)
      ∙ c.loop-read.invariant.calm;
  sound = sound_steps c.loop-read.known.graph c.next-in-loop-read.new.self.graph _ _ _ _ _
      (c.next-in-loop-read.ensures.fine (cc (c.in_ok-next-2.was, c.in-Fine.is))) c.loop-read.invariant.sound;
  so = λ input e.
      let i = c.loop-read.invariant.so input e in
      let given = gives_of _ _ _ _ i.0 c.in_ok-next.ensures.bytes i.1 in
      let line : List ℕ = c.next.new.line.items in
      let one = subst (λ (r : NextLine). GivesLine i.0 given.0 r line) c.in-Line.is given.2 in
      let steps = c.next-in-loop-read.ensures.fine (cc (c.in_ok-next-2.was, c.in-Fine.is)) in
      let before : GraphState = c.loop-read.known.graph in
      let after : GraphState = c.next-in-loop-read.new.self.graph in
      let old : Shown = shown c.loop-read.known.world in
      let new : Shown = shown c.next-in-loop-read.new.self.world in
      let due : Due = due_as c.loop-read.known.awaited in
      let then : Due = due_as c.next-in-loop-read.new.self.awaited in
      let stepped = subst (λ (l : List ℕ). Steps before old due l after new then) c.as_slice.ensures.value steps in (
        given.0,
        given.1,
        one_more_judged input i.0 given.0 line c.loop-read.read before after old new due then i.2 one.0 one.1 stepped,
      );
}

pub returns-then-is_whole-clause-verdict : goal.returns-then-is_whole-clause-verdict
returns-then-is_whole-clause-verdict g c = λ input e.
    let i = c.loop-read.invariant.so input e in
    let given = gives_of _ _ _ _ i.0 c.in_ok-next.ensures.bytes i.1 in
    let over = subst (λ (r : NextLine). GivesLine i.0 given.0 r c.next.new.line.items) c.in-End.is given.2 in
    let judged = judged_of input i.0 c.loop-read.read c.loop-read.known.graph _ _ i.2 in
    whole_judged input i.0 c.loop-read.read c.loop-read.known.awaited judged over.0
    (c.is_whole.ensures.0 c.if-is_whole.true)

pub returns-in-End-clause-verdict : goal.returns-in-End-clause-verdict
returns-in-End-clause-verdict g c = λ input e.
    let i = c.loop-read.invariant.so input e in
    let given = gives_of _ _ _ _ i.0 c.in_ok-next.ensures.bytes i.1 in
    let over = subst (λ (r : NextLine). GivesLine i.0 given.0 r c.next.new.line.items) c.in-End.is given.2 in
    let judged = judged_of input i.0 c.loop-read.read c.loop-read.known.graph _ _ i.2 in
    cut_judged input i.0 c.loop-read.read c.loop-read.known.awaited judged over.0
    (λ is. let whole = c.is_whole.ensures.1 is in cc (whole, c.if-is_whole.false))

pub returns-in-Bad-clause-verdict : goal.returns-in-Bad-clause-verdict
returns-in-Bad-clause-verdict g c = λ input e.
    let i = c.loop-read.invariant.so input e in
    let given = gives_of _ _ _ _ i.0 c.in_ok-next.ensures.bytes i.1 in
    let line : List ℕ = c.next.new.line.items in
    let one = subst (λ (r : NextLine). GivesLine i.0 given.0 r line) c.in-Line.is given.2 in
    let due : Due = due_as c.loop-read.known.awaited in
    let shows : Shown = shown c.loop-read.known.world in
    let said = c.in_ok-next-2.ensures.said in
    let bad =
    subst (λ (s : Said). IsSaid c.loop-read.known.graph shows due c.as_slice.result.now s) c.in-Bad.is said in
    let judged = judged_of input i.0 c.loop-read.read c.loop-read.known.graph shows due i.2 in
    bad_judged input i.0 given.0 line c.loop-read.read due judged one
    (subst (λ (l : List ℕ). IsBadLine l) c.as_slice.ensures.value bad)

pub returns-in-Wrong-clause-verdict : goal.returns-in-Wrong-clause-verdict
returns-in-Wrong-clause-verdict g c = λ input e.
    let i = c.loop-read.invariant.so input e in
    let given = gives_of _ _ _ _ i.0 c.in_ok-next.ensures.bytes i.1 in
    let line : List ℕ = c.next.new.line.items in
    let one = subst (λ (r : NextLine). GivesLine i.0 given.0 r line) c.in-Line.is given.2 in
    let due : Due = due_as c.loop-read.known.awaited in
    let shows : Shown = shown c.loop-read.known.world in
    let said = c.in_ok-next-2.ensures.said in
    let wrong =
    subst (λ (s : Said). IsSaid c.loop-read.known.graph shows due c.as_slice.result.now s) c.in-Wrong.is said in
    let judged = judged_of input i.0 c.loop-read.read c.loop-read.known.graph shows due i.2 in
    wrong_judged input i.0 given.0 line c.loop-read.read due judged one
    (subst (λ (l : List ℕ). IsWrongLine c.loop-read.known.graph shows due l) c.as_slice.ensures.value wrong)
