-- A command of a lawful transcript: what is due for it is what comes, and the judge stands for the world after it. Here
-- those that have one line as their answer.
use Rattle.std.proofs.Common.{◌≡◌, ◌∙◌, inl, inr, ℕ, List, [], ◌∷◌, ◌++◌, Option, Some, None, Contains, refl, sym}
use Rattle.std.proofs.Common.{ap, cond, subst, Bool, true, false}
use Rattle.std.specs.FinSet as set
use Rattle.gz_names.specs.declared.names.Name.{Name}
use Rattle.gz_names.specs.declared.commands.Cmd.{Cmd}
use Rattle.gz_names.specs.declared.commands.Cmd.TheVariants as command
use Rattle.gz_names.specs.declared.commands.GraphCmd.{GraphCmd}
use Rattle.gz_names.specs.declared.commands.WeakCmd.{WeakCmd}
use Rattle.gz_names.specs.declared.commands.WeakCmd.TheVariants as weak_cmd
use Rattle.gz_names.specs.declared.replies.Reply.{Reply}
use Rattle.gz_names.specs.declared.replies.Reply.TheVariants as reply
use Rattle.colour_defs.specs.Graph.{GraphState, register_cell}
use Rattle.colour_defs.specs.Lawful.{Answers, IsOver as IsOverIn}
use Rattle.colour_defs.specs.Step.{named_or_null, step_of, with_register}
use Rattle.colour_defs.specs.WeakRefs.{unwatch_cell, watch_cell, weak_cell, without_watched}
use Rattle.colour_defs.specs.World.{World}
use Rattle.colour_defs.proofs.Lists.{contains_cases, nothing_in_none}
use Rattle.colour_defs.proofs.ValidRuns.{answer_valid}
use Rattle.trace_lang.specs.Texts.{reply_text}
use Rattle.judge.specs.Cells.{wakes, wakes_also}
use Rattle.judge.specs.declared.former.Change.TheVariants as change
use Rattle.judge.proofs.NewPlaces.{places_new}
use Rattle.judge.specs.Positions.{AreLeft, IsBefore, KeepsLaws, StandsBetween}
use Rattle.judge.specs.Replies.{Asks, AsksUnwatch, AsksWatch, AsksWeak, Due, IsUnmarked, graph_after_weak}
use Rattle.judge.specs.Replies.{reply as reply_due}
use Rattle.judge.specs.Represents.{Represents}
use Rattle.judge.specs.Sound.{IsSound}
use Rattle.judge.specs.Stages.{Shown, TakesNamed}
use Rattle.judge.specs.Transcripts.{Answer, HasSmallNumber, IsLawfulFrom, lines_of_answer, lines_of_reply}
use Rattle.judge.specs.Transcripts.{lines_of_reports}
use Rattle.judge.specs.Weak.{weak_slot}
use Rattle.judge.proofs.Commanded.{represents_command}
use Rattle.judge.proofs.Derefs.{represents_deref}
use Rattle.judge.proofs.Idling.{over_shown, over_world}
use Rattle.judge.proofs.Lawfulness.{laws_of}
use Rattle.judge.proofs.LiveRuns.{answer_live}
use Rattle.judge.proofs.OneReply.{named_one, one_line_of, step_one}
use Rattle.judge.proofs.PlainTexts.{IsNoDump, reply_plain, unmarked}
use Rattle.judge.proofs.Reweak.{represents_unwatch, represents_watch, represents_weaken}
use Rattle.judge.proofs.Sizes.{HasSizes, command_sizes, take_sizes}

-- a command that comes next, with its answer
pub record ComesNext (w : World) (c : Cmd) (answer : Answer) (v : World) (more : List (List ℕ)) : Type 0 where
  pub lawful : Answers w c answer.0 answer.1 v
  pub small : HasSmallNumber answer.1
  pub goes_on : IsLawfulFrom v more

only_unmarked : (text : List ℕ) → IsUnmarked text → (line : List ℕ) → Contains (text ∷ []) line → IsUnmarked line
only_unmarked text plain line c = elim (contains_cases text [] line c) [
  | inl e ↦ subst IsUnmarked e plain
  | inr n ↦ absurd (nothing_in_none line n)
]

-- one line is due
pub before_one : (h : GraphState) (new : Shown) (v : World) (more : List (List ℕ)) (r : Reply) (answer : Answer)
    → StandsBetween h new v → IsNoDump r → answer.0 ≡ [] → answer.1 ≡ r → IsLawfulFrom v more
    → IsBefore h new (reply_text r ∷ []) (lines_of_answer answer ++ more)
before_one h new v more r answer stands one none is goes = record {
  world = v;
  stands = stands;
  unmarked = only_unmarked (reply_text r) (unmarked (reply_text r) (reply_plain r one));
  more = more;
  goes_on = goes;
  lines_are = ap (λ rs. (lines_of_reports rs ++ lines_of_reply answer.1) ++ more) none
      ∙ ap (λ a. lines_of_reply a ++ more) is ∙ ap (λ ls. ls ++ more) (one_line_of r one);
}

-- the judge's stage and arenas stay, so the collection is over no more than it was
pub still_not_over : (g h : GraphState) (old new : Shown) (w v : World) → Represents g old w → Represents h new v
    → new.stage ≡ old.stage → new.out ≡ old.out → (IsOverIn w → ⊥) → IsOverIn v → ⊥
still_not_over g h old new w v stands then stage out not over =
    let is = over_shown then over in
    not (over_world stands (record {
      zones = is.zones;
      marking = is.marking;
      ended = sym stage ∙ is.ended;
      none_out = sym out ∙ is.none_out;
    }))

module _ (old new : Shown) (w v : World) (answer : Answer) (more : List (List ℕ)) (due : Due)
    (between : StandsBetween w.graph old w) where
  laws_then : (c : Cmd) (h : GraphState) → ComesNext w c answer v more → v.graph ≡ h → HasSizes w.graph h
      → KeepsLaws v
  laws_then c h next graph sizes =
      let laws = between.stands.laws in
      laws_of w v h laws (answer_valid w c answer.0 answer.1 v laws.valid next.lawful)
      (answer_live w c answer.0 answer.1 v laws.valid laws.live next.lawful) graph sizes

  between_then : (h : GraphState) → Represents h new v → KeepsLaws v → IsSound h new → new.stage ≡ old.stage
      → new.out ≡ old.out → new.told ≡ old.told → StandsBetween h new v
  between_then h then laws sound stage out told = record {
    stands = record { represents = then; laws = laws; sound = sound };
    not_over = still_not_over w.graph h old new w v between.stands.represents then stage out between.not_over;
    none_told = told ∙ between.none_told;
  }

  -- a command on the graph
  pub asked_graph : (c : GraphCmd) → ComesNext w (command.Graph c) answer v more
      → Asks w.graph old (command.Graph c) due new → IsSound (step_of w.graph c).0 new
      → AreLeft (step_of w.graph c).0 new due (lines_of_answer answer ++ more)
  asked_graph c next asks sound =
      let obeys = asks.1 in
      let then = represents_command c answer.1 old new w v between.stands obeys
      (places_new (change.Command c) (step_of w.graph c).0 (wakes w.graph c)
      (wakes_also w.graph c) old new obeys.changes)
      next.lawful.1 in
      let laws = laws_then (command.Graph c) (step_of w.graph c).0 next then.graph_is (command_sizes w.graph c) in
      subst (λ d. AreLeft (step_of w.graph c).0 new d (lines_of_answer answer ++ more)) (sym asks.0)
      (before_one (step_of w.graph c).0 new v more (step_of w.graph c).1 answer
      (between_then (step_of w.graph c).0 then laws sound obeys.changes.stage_is obeys.changes.out_is
      obeys.changes.told_is) (step_one w.graph c) next.lawful.0 next.lawful.1.0 next.goes_on)

  -- a command on weak slots and watched cells
  asked_weaken : (q r : ℕ) → ComesNext w (command.Weak (weak_cmd.Weaken q r)) answer v more
      → AsksWeak w.graph old (weak_cmd.Weaken q r) due new → IsSound w.graph new
      → AreLeft w.graph new due (lines_of_answer answer ++ more)
  asked_weaken q r next asks sound =
      let then = represents_weaken q r answer.1 due old new w v between.stands.represents asks next.lawful.1 in
      let laws = laws_then (command.Weak (weak_cmd.Weaken q r)) w.graph next then.graph_is
      (record { registers = refl; slots = refl }) in
      subst (λ d. AreLeft w.graph new d (lines_of_answer answer ++ more)) (sym asks.0)
      (before_one w.graph new v more reply.Accepted answer
      (between_then w.graph then laws sound (ap (λ (s : Shown). s.stage) asks.1) (ap (λ (s : Shown). s.out) asks.1)
      (ap (λ (s : Shown). s.told) asks.1)) (λ ls e. cc e) next.lawful.0 next.lawful.1.0 next.goes_on)

  asked_deref : (r q : ℕ) → ComesNext w (command.Weak (weak_cmd.Deref r q)) answer v more
      → AsksWeak w.graph old (weak_cmd.Deref r q) due new
      → IsSound (with_register w.graph r (weak_slot old.weak q)) new
      → AreLeft (with_register w.graph r (weak_slot old.weak q)) new due (lines_of_answer answer ++ more)
  asked_deref r q next asks sound =
      let same : weak_slot old.weak q ≡ weak_cell w q =
      ap (λ slots. Rattle.std.specs.Prelude.slice_index_or slots q None) (sym between.stands.represents.slots_are) in
      let taken = subst (λ x. TakesNamed w.graph r x old new) same asks.1 in
      let h : GraphState = with_register w.graph r (weak_cell w q) in
      let then = represents_deref r q answer.1 old new w v between.stands taken
      (places_new (change.Take r (weak_cell w q)) (with_register w.graph r (weak_cell w q)) (weak_cell w q) None old new
      taken.changes) next.lawful.1 in
      let laws = laws_then (command.Weak (weak_cmd.Deref r q)) (with_register w.graph r (weak_cell w q)) next
      then.graph_is (take_sizes w.graph r (weak_cell w q)) in
      let heard = subst (λ x. IsSound (with_register w.graph r x) new) same sound in
      subst (λ x. AreLeft (with_register w.graph r x) new due (lines_of_answer answer ++ more)) (sym same)
      (subst (λ d. AreLeft (with_register w.graph r (weak_cell w q)) new d (lines_of_answer answer ++ more))
      (sym (asks.0 ∙ ap (λ x. reply_due (reply_text (named_or_null x))) same))
      (before_one (with_register w.graph r (weak_cell w q)) new v more (named_or_null (weak_cell w q)) answer
      (between_then (with_register w.graph r (weak_cell w q)) then laws heard taken.changes.stage_is
      taken.changes.out_is taken.changes.told_is) (named_one (weak_cell w q)) next.lawful.0 next.lawful.1.0
      next.goes_on))

  asked_watch : (r : ℕ) → ComesNext w (command.Weak (weak_cmd.Watch r)) answer v more
      → AsksWeak w.graph old (weak_cmd.Watch r) due new → IsSound w.graph new
      → AreLeft w.graph new due (lines_of_answer answer ++ more)
  asked_watch r next asks sound =
      let x : Option Name = register_cell w.graph r in
      let both = represents_watch (register_cell w.graph r) due old new w v between.stands.represents asks
      next.lawful.1.1 in
      let laws = laws_then (command.Weak (weak_cmd.Watch r)) w.graph next both.0.graph_is
      (record { registers = refl; slots = refl }) in
      let same = watch_same (register_cell w.graph r) asks in
      subst (λ d. AreLeft w.graph new d (lines_of_answer answer ++ more)) (sym both.1)
      (before_one w.graph new v more (watch_cell w (register_cell w.graph r)).1 answer
      (between_then w.graph both.0 laws sound same.0 same.1 same.2) (watch_one (register_cell w.graph r)) next.lawful.0
      next.lawful.1.0 next.goes_on)
    where
      watch_same : (y : Option Name) → AsksWatch y old due new
          → (new.stage ≡ old.stage) × (new.out ≡ old.out) × (new.told ≡ old.told)
      watch_same None a = (
        ap (λ (s : Shown). s.stage) a.1,
        ap (λ (s : Shown). s.out) a.1,
        ap (λ (s : Shown). s.told) a.1,
      )
      watch_same (Some y) a = (
        ap (λ (s : Shown). s.stage) a.1,
        ap (λ (s : Shown). s.out) a.1,
        ap (λ (s : Shown). s.told) a.1,
      )

      watch_one : (y : Option Name) → IsNoDump (watch_cell w y).1
      watch_one None ls e = cc e
      watch_one (Some y) ls e = cc e

  asked_unwatch : (r : ℕ) → ComesNext w (command.Weak (weak_cmd.Unwatch r)) answer v more
      → AsksWeak w.graph old (weak_cmd.Unwatch r) due new → IsSound w.graph new
      → AreLeft w.graph new due (lines_of_answer answer ++ more)
  asked_unwatch r next asks sound =
      let both = represents_unwatch (register_cell w.graph r) due old new w v between.stands.represents asks
      next.lawful.1.1 in
      let laws = laws_then (command.Weak (weak_cmd.Unwatch r)) w.graph next both.0.graph_is
      (record { registers = refl; slots = refl }) in
      let same = unwatch_same (register_cell w.graph r) asks in
      subst (λ d. AreLeft w.graph new d (lines_of_answer answer ++ more)) (sym both.1)
      (before_one w.graph new v more (unwatch_cell w (register_cell w.graph r)).1 answer
      (between_then w.graph both.0 laws sound same.0 same.1 same.2) (unwatch_one (register_cell w.graph r))
      next.lawful.0 next.lawful.1.0 next.goes_on)
    where
      fields : new ≡ old → (new.stage ≡ old.stage) × (new.out ≡ old.out) × (new.told ≡ old.told)
      fields e = (ap (λ (s : Shown). s.stage) e, ap (λ (s : Shown). s.out) e, ap (λ (s : Shown). s.told) e)

      unwatch_same : (y : Option Name) → AsksUnwatch y old due new
          → (new.stage ≡ old.stage) × (new.out ≡ old.out) × (new.told ≡ old.told)
      unwatch_same None a = fields a.1
      unwatch_same (Some y) (inl a) = fields a.2
      unwatch_same (Some y) (inr a) = (
        ap (λ (s : Shown). s.stage) a.2,
        ap (λ (s : Shown). s.out) a.2,
        ap (λ (s : Shown). s.told) a.2,
      )

      unwatch_one : (y : Option Name) → IsNoDump (unwatch_cell w y).1
      unwatch_one None ls e = cc e
      unwatch_one (Some y) ls e = go (set.contains w.weak.watched y) e
        where
          go : (b : Bool) → (cond {A = World × Reply} b (without_watched w y, reply.Accepted) (w, reply.Absent)).1
              ≡ reply.Dump ls → ⊥
          go true e = cc e
          go false e = cc e

  pub asked_weak : (c : WeakCmd) → ComesNext w (command.Weak c) answer v more → AsksWeak w.graph old c due new
      → IsSound (graph_after_weak w.graph old c) new
      → AreLeft (graph_after_weak w.graph old c) new due (lines_of_answer answer ++ more)
  asked_weak (weak_cmd.Weaken q r) next asks sound = asked_weaken q r next asks sound
  asked_weak (weak_cmd.Deref r q) next asks sound = asked_deref r q next asks sound
  asked_weak (weak_cmd.Watch r) next asks sound = asked_watch r next asks sound
  asked_weak (weak_cmd.Unwatch r) next asks sound = asked_unwatch r next asks sound
