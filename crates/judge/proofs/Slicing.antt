-- A slice or a reset begins, or is refused, in a lawful transcript.
use Rattle.std.proofs.Common.{◌≡◌, ◌∙◌, inl, inr, ℕ, ◌+◌, ◌<◌, ◌^◌, false, List, [], ◌∷◌, ◌++◌}
use Rattle.std.proofs.Common.{Option, Some, None, append_assoc, is_some, length, refl, sym, ap, subst, arith}
use Rattle.std.specs.List.{flat_map}
use Rattle.gz_names.specs.declared.commands.Cmd.TheVariants as command
use Rattle.gz_names.specs.declared.replies.Refusal.TheVariants as refusal
use Rattle.gz_names.specs.declared.replies.Reply.TheVariants as reply
use Rattle.colour_defs.specs.Graph.{GraphState}
use Rattle.colour_defs.specs.Lawful.{HasTally, Slices}
use Rattle.colour_defs.specs.Units.{MeetsUnitBound, Tally}
use Rattle.colour_defs.specs.World.{Collection, World}
use Rattle.trace_lang.specs.Texts.{reply_text}
use Rattle.judge.specs.Positions.{AreLeft, EndsSlice, IsInReset, IsInUnits, IsNumberOf, StandsBetween}
use Rattle.judge.specs.Replies.{Due, GoesOn, resets, units as units_due}
use Rattle.judge.specs.Represents.{IsAtStage}
use Rattle.judge.specs.Stages.{Shown, Stage, collecting, idle, is_prepared, preparing}
use Rattle.judge.specs.Transcripts.{Answer, HasSmallNumber, IsLawfulFrom, lines_of_answer, lines_of_reply}
use Rattle.judge.specs.Transcripts.{lines_of_reports, told_lines}
use Rattle.judge.proofs.Asked.{ComesNext}
use Rattle.judge.proofs.Begun.{same_answer}
use Rattle.judge.proofs.Idling.{idle_shown, running_shown}

-- what is counted as a slice begins
counted_at : (s : Shown) (w : World) (tally : Tally) (t : Stage) → IsAtStage t s w → HasTally w tally
    → is_prepared t ≡ false → s.tally ≡ record tally { sweeps = tally.sweeps + 0 }
counted_at s w tally idle at has e = absurd (elim has [
  | inl k ↦ (let none = at.idle.none_running in cc (k.1, none))
  | inr p ↦ (let none = at.idle.none_preparing in cc (p.1, none))
])
counted_at s w tally (preparing zones) at has e = absurd (cc e)
counted_at s w tally (collecting zones marking groups) at (inl k) e =
    let same : k.0 ≡ at.collection = cc (k.1, at.collection_is) in
    let is : tally ≡ s.tally = k.2 ∙ ap (λ (c : Collection). c.tally) same ∙ at.tally_is in
    sym is ∙ ap (λ n. record tally { sweeps = n }) (omega arith)
counted_at s w tally (collecting zones marking groups) at (inr p) e = absurd (cc (p.1, at.alone))

module _ (g : GraphState) (old new : Shown) (w v : World) (answer : Answer) (more : List (List ℕ)) (due : Due)
    (between : StandsBetween g old w) where
  -- a slice of units
  sliced : (most : Option ℕ) (k : ℕ) → answer.1 ≡ reply.Sliced k → Slices w answer.0 k v → IsNumberOf most k v
      → k < 2 ^ 64 → IsLawfulFrom v more → IsInUnits g old most false 0 (lines_of_answer answer ++ more)
  sliced most k is s number small goes =
      let count : 0 + length s.units ≡ k = omega (arith, s.number) in record {
        now = w;
        stands = between.stands;
        tally = s.tally;
        so_far = [];
        counted = λ not. record {
          prepared = λ e. (refl, s.tally_is);
          begun = λ e. counted_at old w s.tally old.stage between.stands.represents.stage_is s.tally_is e;
        };
        done = 0;
        enough = omega arith;
        left = lines_of_reports (flat_map (λ u. u) s.units) ++ reply_text (reply.Sliced k) ∷ more;
        rest = record {
          is_last = false;
          units = s.units;
          after = s.after;
          left = (between.not_over, s.done);
          last = reply_text (reply.Sliced k);
          next = v;
          ends = subst (λ n. EndsSlice most s.tally (flat_map (λ u. u) s.units) n s.after
              (reply_text (reply.Sliced k)) v)
              (sym count) (record {
                small = small;
                number = number;
                within = subst (λ rs. MeetsUnitBound (is_some s.after.preparing) s.tally rs k) s.reports_are s.within;
                last_is = refl;
                next_is = s.world_is;
              });
          more = more;
          goes_on = goes;
          lines_are = refl;
        };
        lines_are = ap (λ rs. (lines_of_reports rs ++ lines_of_reply answer.1) ++ more) s.reports_are
            ∙ ap (λ a. (lines_of_reports (flat_map (λ u. u) s.units) ++ lines_of_reply a) ++ more) is
            ∙ append_assoc (lines_of_reports (flat_map (λ u. u) s.units)) (reply_text (reply.Sliced k) ∷ []) more
            ∙ ap (λ t. told_lines t ++ (lines_of_reports (flat_map (λ u. u) s.units)
            ++ reply_text (reply.Sliced k) ∷ more)) (sym between.none_told);
      }

  pub asked_slice : (n : ℕ) → ComesNext w (command.Slice n) answer v more
      → GoesOn (units_due (Some n) false 0) old.stage due
      → new ≡ old → AreLeft g new due (lines_of_answer answer ++ more)
  asked_slice n next (inl (runs, is)) same = elim next.lawful [
    | inl h ↦ subst (λ d. AreLeft g new d (lines_of_answer answer ++ more)) (sym is)
        (subst (λ s. IsInUnits g s (Some n) false 0 (lines_of_answer answer ++ more)) (sym same)
        (sliced (Some n) h.0 h.1 h.2 (h.3, h.4) (subst HasSmallNumber h.1 next.small) next.goes_on))
    | inr h ↦ absurd (runs (idle_shown between.stands.represents h.1))
  ]
  asked_slice n next (inr (rest, is)) same = elim next.lawful [
    | inl h ↦ absurd (running_shown between.stands.represents h.2.running rest)
    | inr h ↦ same_answer g old new w v more due (reply.Refused refusal.Idle) answer between same is (λ ls e. cc e)
        h.2.silent h.0 h.2.same next.goes_on
  ]

  pub asked_finish : ComesNext w command.Finish answer v more → GoesOn (units_due None false 0) old.stage due
      → new ≡ old
      → AreLeft g new due (lines_of_answer answer ++ more)
  asked_finish next (inl (runs, is)) same = elim next.lawful [
    | inl h ↦ subst (λ d. AreLeft g new d (lines_of_answer answer ++ more)) (sym is)
        (subst (λ s. IsInUnits g s None false 0 (lines_of_answer answer ++ more)) (sym same)
        (sliced None h.0 h.1 h.2 h.3 (subst HasSmallNumber h.1 next.small) next.goes_on))
    | inr h ↦ absurd (runs (idle_shown between.stands.represents h.1))
  ]
  asked_finish next (inr (rest, is)) same = elim next.lawful [
    | inl h ↦ absurd (running_shown between.stands.represents h.2.running rest)
    | inr h ↦ same_answer g old new w v more due (reply.Refused refusal.Idle) answer between same is (λ ls e. cc e)
        h.2.silent h.0 h.2.same next.goes_on
  ]

  pub asked_reset : ComesNext w command.Reset answer v more → GoesOn resets old.stage due → new ≡ old
      → AreLeft g new due (lines_of_answer answer ++ more)
  asked_reset next (inl (runs, is)) same = elim next.lawful [
    | inl h ↦ subst (λ d. AreLeft g new d (lines_of_answer answer ++ more)) (sym is)
        (subst (λ s. IsInReset g s (lines_of_answer answer ++ more)) (sym same) (record {
          now = w;
          stands = between.stands;
          none_told = between.none_told;
          sweeps = h.1.sweeps;
          swept = h.1.after;
          are_swept = h.1.swept;
          final = h.1.final;
          after = v;
          ends = h.1.ends;
          more = more;
          goes_on = next.goes_on;
          lines_are = ap (λ rs. (lines_of_reports rs ++ lines_of_reply answer.1) ++ more) h.1.reports_are
              ∙ ap (λ a. (lines_of_reports (h.1.sweeps ++ h.1.final ∷ []) ++ lines_of_reply a) ++ more) h.0
              ∙ append_assoc (lines_of_reports (h.1.sweeps ++ h.1.final ∷ [])) (reply_text reply.ResetDone ∷ []) more;
        }))
    | inr h ↦ absurd (runs (idle_shown between.stands.represents h.1))
  ]
  asked_reset next (inr (rest, is)) same = elim next.lawful [
    | inl h ↦ absurd (running_shown between.stands.represents h.1.running rest)
    | inr h ↦ same_answer g old new w v more due (reply.Refused refusal.Idle) answer between same is (λ ls e. cc e)
        h.2.silent h.0 h.2.same next.goes_on
  ]
