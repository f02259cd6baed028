-- The last line of an answer with units: the units are those of a lawful slice, or of a whole collection.
use Rattle.std.proofs.Common.{◌≡◌, ◌∙◌, ◌≤◌, ◌+◌, ◌-◌, ℕ, inl, inr, Bool, true, false, List, [], ◌∷◌, ◌++◌, Option}
use Rattle.std.proofs.Common.{ap, arith, is_some, length, refl, subst, sym}
use Rattle.std.proofs.lemmas.List.{append-nil}
use Rattle.std.specs.List.{flat_map}
use Rattle.gz_names.specs.declared.commands.Cmd.{Cmd}
use Rattle.gz_names.specs.declared.replies.Reply.{Reply}
use Rattle.gz_names.specs.declared.replies.Report.{Report}
use Rattle.colour_defs.specs.Graph.{GraphState}
use Rattle.colour_defs.specs.Lawful.{Answers, AreLawfulUnits, HasTally, IsRunning, Slices, with_spent}
use Rattle.colour_defs.specs.Lawful.{with_spent_preparing}
use Rattle.colour_defs.specs.Units.{MeetsUnitBound, Tally}
use Rattle.colour_defs.specs.World.{IsIdle, World, first_tally}
use Rattle.colour_defs.proofs.ValidRuns.{answer_valid}
use Rattle.judge.specs.Positions.{HasCounted, KeepsLaws, StandsBetween, StandsIn}
use Rattle.judge.specs.Represents.{IsAtStage, Represents}
use Rattle.judge.specs.Replies.{IsSliced}
use Rattle.judge.specs.Sound.{IsSound}
use Rattle.judge.specs.Stages as judged
use Rattle.judge.specs.Stages.{CountsAs, Shown, Stage, collecting, idle, is_prepared, preparing}
use Rattle.judge.specs.Transcripts.{lines_of_reports, told_lines}
use Rattle.judge.proofs.LiveRuns.{answer_live}
use Rattle.judge.proofs.Idling.{idle_world, over_shown}
use Rattle.judge.proofs.Spending.{represents_spent, spent_in}
use Rattle.judge.proofs.Transcribing.{quiet_first, quiet_length, quiet_reports, quiet_units}
use Rattle.judge.proofs.UnitLines.{HasUnitsSoFar, IsInUnit, between, ending}

-- a world after an answer, for which the judge stands between two answers
pub closing : (g : GraphState) (t : Shown) (w v : World) (c : Cmd) (reports : List Report) (answer : Reply)
    → KeepsLaws w → Answers w c reports answer v → Represents g t v → IsSound g t → t.told ≡ []
    → (judged.IsOver t → ⊥) → length g.registers ≡ 16 → length g.slots ≡ 64 → StandsBetween g t v
closing g t w v c reports answer laws h rep sound told over registers slots = record {
  stands = record {
    represents = rep;
    laws = record {
      valid = answer_valid w c reports answer v laws.valid h;
      live = answer_live w c reports answer v laws.valid laws.live h;
      registers = ap (λ a. length a.registers) rep.graph_is ∙ registers;
      slots = ap (λ a. length a.slots) rep.graph_is ∙ slots;
    };
    sound = sound;
  };
  not_over = λ o. over (over_shown rep o);
  none_told = told;
}

-- whether zones are being prepared, by both
prepared_both : (s : Shown) (w : World) (u : Stage) → IsAtStage u s w → is_prepared u ≡ is_some w.preparing
prepared_both s w idle at = ap is_some (sym at.idle.none_preparing)
prepared_both s w (preparing zones) at = ap is_some (sym at.preparing_is)
prepared_both s w (collecting zones marking groups) at = ap is_some (sym at.alone)

-- what is counted, by both
counts_prepared : (s : Shown) (w : World) (u : Stage) (tally : Tally) → IsAtStage u s w → is_prepared u ≡ true
    → HasTally w tally → (s.tally.arenas ≡ tally.arenas) × (s.tally.spent ≡ tally.spent)
counts_prepared s w idle tally at e h = absurd (cc e)
counts_prepared s w (collecting zones marking groups) tally at e h = absurd (cc e)
counts_prepared s w (preparing zones) tally at e (inl k) = absurd (cc (k.1, at.alone))
counts_prepared s w (preparing zones) tally at e (inr p) =
    let same : p.0 ≡ at.preparation = cc (p.1, at.preparing_is) in
    let first : tally ≡ first_tally w at.preparation = p.2 ∙ ap (λ q. first_tally w q) same in (
      sym at.arenas_are ∙ sym (ap (λ (t : Tally). t.arenas) first),
      sym at.spent_is
          ∙ sym (ap (λ (t : Tally). t.spent) first),
    )

counts_same : (s : Shown) (w : World) (tally : Tally) (rs : List Report) → IsAtStage s.stage s w
    → HasCounted s w tally rs → (b : Bool) → is_prepared s.stage ≡ b → CountsAs b s.tally tally rs
counts_same s w tally rs at h true e = counts_prepared s w s.stage tally at e (h.prepared e).1
counts_same s w tally rs at h false e = h.begun e

-- the units of a slice, and the world after it
module _ (before : World) (g : GraphState) (s t : Shown) (most : Option ℕ) (reports : ℕ) (part : List (List ℕ))
    (line : List ℕ) where
  abbrev Ends : ℕ → Type 0
  Ends k = (rs : List Report) × (after : World) × Slices before rs k after × (part ≡ lines_of_reports rs)
      × Represents g t after × (length g.registers ≡ 16) × (length g.slots ≡ 64)
      × (s.stage ≡ idle → IsIdle after)

  slice_at : IsRunning before → (l : IsSliced most reports s line t) → (units : List (List Report)) (tail : List Report)
      (now : World) → IsInUnit before units tail now → StandsIn g s now
      → part ++ told_lines s.told ≡ lines_of_reports (flat_map (λ u. u) units ++ tail)
      → reports ≡ length units + length tail → (tally : Tally) → HasTally before tally
      → HasCounted s now tally (flat_map (λ u. u) units ++ tail) → Ends l.number
  slice_at run l units (x ∷ (y ∷ ys)) now state st lines count tally has counted = elim state [ ]
  slice_at run l units (r ∷ []) now (ending u lu ran nd lawful over) st lines count tally has counted =
      absurd (l.not_over (over_shown st.represents over))
  slice_at run l units [] now (between lu goes) st lines count tally has counted =
      let rs = flat_map (λ (u : List Report). u) units in
      let n = l.number - length units in
      let rep = st.represents in (
        flat_map (λ u. u) units,
        spent_in l.number now,
        record {
          running = run;
          units = quiet_units (l.number - length units) ++ units;
          after = now;
          done = quiet_first (l.number - length units) before units now run lu;
          number = number_is l.enough count;
          reports_are = sym (quiet_reports (l.number - length units) units);
          world_is = refl;
          tally = tally;
          tally_is = has;
          within = subst (λ b. MeetsUnitBound b tally (flat_map (λ u. u) units) l.number)
              (prepared_both s now s.stage st.represents.stage_is)
              (l.spends.within tally (flat_map (λ u. u) units)
              (counts_same s now tally (flat_map (λ u. u) units) st.represents.stage_is
              (subst (λ xs. HasCounted s now tally xs) (append-nil (flat_map (λ u. u) units)) counted)
              (is_prepared s.stage) refl));
        },
        sym (append-nil part) ∙ ap (λ ns. part ++ told_lines ns) (sym l.none_told) ∙ lines
            ∙ ap lines_of_reports (append-nil (flat_map (λ u. u) units)),
        represents_spent g l.number s t now st.represents l.spends.new_is,
        ap (λ a. length a.registers) (sym st.represents.graph_is) ∙ st.laws.registers,
        ap (λ a. length a.slots) (sym st.represents.graph_is) ∙ st.laws.slots,
        (λ e. let i = idle_world st.represents e in record {
          none_running = ap (λ o. with_spent l.number o) i.none_running;
          none_preparing = ap (λ o. with_spent_preparing l.number o) i.none_preparing;
        }),
      )
    where
      number_is : reports ≤ l.number → reports ≡ length units + 0
          → length (quiet_units (l.number - length units) ++ units) ≡ l.number
      number_is le e = let q = quiet_length (l.number - length units) units in omega (arith, le, e, q)

  pub slice_ends : IsRunning before → (l : IsSliced most reports s line t) → HasUnitsSoFar before g s reports part
      → Ends l.number
  slice_ends run l h =
      slice_at run l h.units h.tail h.now h.state h.stands h.lines h.count h.tally h.has_tally h.counted

-- the units of a whole collection
module _ (begun : World) (g : GraphState) (s : Shown) (reports : ℕ) (part : List (List ℕ)) where
  abbrev Whole : Type 0
  Whole = (units : List (List Report)) × (after : World) × AreLawfulUnits begun units after
      × (part ≡ lines_of_reports (flat_map (λ u. u) units)) × StandsIn g s after

  whole_at : s.stage ≡ idle → s.told ≡ [] → (units : List (List Report)) (tail : List Report) (now : World)
      → IsInUnit begun units tail now → StandsIn g s now
      → part ++ told_lines s.told ≡ lines_of_reports (flat_map (λ u. u) units ++ tail) → Whole
  whole_at e none units (x ∷ (y ∷ ys)) now state st lines = elim state [ ]
  whole_at e none units (r ∷ []) now (ending u lu ran nd lawful over) st lines =
      let i = idle_world st.represents e in absurd (cc (i.none_running, over.running))
  whole_at e none units [] now (between lu goes) st lines = (
    units,
    now,
    lu,
    sym (append-nil part) ∙ ap (λ ns. part ++ told_lines ns) (sym none) ∙ lines
        ∙ ap lines_of_reports (append-nil (flat_map (λ u. u) units)),
    st,
  )

  pub whole_ends : s.stage ≡ idle → s.told ≡ [] → HasUnitsSoFar begun g s reports part → Whole
  whole_ends e none h = whole_at e none h.units h.tail h.now h.state h.stands h.lines
