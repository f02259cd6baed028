-- What units do while a collection is being prepared: nothing, or its marking begins.
use Rattle.std.proofs.Common.{◌≡◌, ◌+◌, ◌⊎◌, ℕ, List, [], ◌∷◌, ◌++◌, Option, None, Some, inl, inr, refl, sym, ap, subst}
use Rattle.std.proofs.Common.{◌∙◌}
use Rattle.gz_names.specs.declared.replies.Report.{Report}
use Rattle.gz_names.specs.declared.replies.Report.TheVariants as report
use Rattle.cell_bits.specs.declared.bits.Bits.{Bits}
use Rattle.colour_defs.specs.Lawful.{AreLawfulUnits, Begins, IsLawfulReport, IsLawfulUnit, last, quiet, says}
use Rattle.colour_defs.specs.Units.{Tally, sweeps_in}
use Rattle.colour_defs.specs.World.{Collection, Preparation, World, first_tally}
use Rattle.colour_defs.proofs.Tallies.{units_sweep}
use Rattle.slice_driver.specs.Collector.{CollectorState}
use Rattle.slice_driver.specs.Represents.{Represents, going, prepared}
use Rattle.slice_driver.proofs.group_end.Cells.{none_out_listed}
use Rattle.trace_cli.specs.Writing.{IsBeingPrepared, reports_in}

pub some_is : {X : Type 0} (x y : X) → Some x ≡ Some y → x ≡ y
some_is x y e = cc e

-- so it is in each world that a collector stands for
pub prepared_alone : (c : CollectorState) (flown : ℕ → Option Bits) (w : World) → Represents c flown w
    → (p : Preparation) → w.preparing ≡ Some p → IsBeingPrepared w p
prepared_alone c flown w (going m) p is = absurd (let calm = m.phase.calm in cc (calm, is))
prepared_alone c flown w (prepared r) p is = record {
  preparing = is;
  alone = r.phase.none_running;
  none_out = r.placed.lies.out_is ∙ none_out_listed c.heap.shape r.none_out;
}

-- a report of such a world is that marking begins
abbrev Starts : World → Report → World → Type 0
Starts w r v = (r ≡ report.Started) × (zones : List ℕ) × Begins w zones v

only_starts : (w : World) (p : Preparation) → IsBeingPrepared w p → (r : Report) (v : World) → IsLawfulReport w r v
    → Starts w r v
only_starts w p so report.Started v law = (refl, law.0, law.1)
only_starts w p so (report.Groups groups) v law = absurd (let none = so.alone in let is = law.running in cc (none, is))
only_starts w p so (report.Ended zones grays told) v law =
    absurd (let none = so.alone in let is = law.running in cc (none, is))
only_starts w p so (report.Swept arena freed) v law =
    absurd (let none = so.none_out in let is = law.first in cc (none, is))
only_starts w p so report.Done v law = absurd (let none = so.alone in let is = law.over.running in cc (none, is))
only_starts w p so (report.Stopped zones) v law = absurd law

-- one unit of it: quiet, or marking begins with it
unit_from : (w : World) (p : Preparation) → IsBeingPrepared w p → {unit : List Report} {v : World}
    → IsLawfulUnit w unit v
    → ((v ≡ w) × (unit ≡ [])) ⊎ ((unit ≡ report.Started ∷ []) × (zones : List ℕ) × Begins w zones v)
unit_from w p so (quiet running) = inl (refl, refl)
unit_from w p so (says {r} {v} running no_done law not_over) =
    let starts = only_starts w p so r v law in
    inr (ap (λ (x : Report). x ∷ []) starts.0, starts.1, starts.2)
unit_from w p so (last {r} {u} {v} running no_done law over) =
    let b = (only_starts w p so r u law).2 in
    let is = ap (λ (x : World). x.collection) b.world_is in
    let same : b.collection ≡ over.over.collection = some_is _ _ (sym is ∙ over.over.running) in
    let groups = ap (λ (k : Collection). k.groups) same in
    let none = b.groups_are in
    let ended = over.over.ended in
    absurd (cc (groups, none, ended))

-- units of it: the world is as it was, or marking began, and from then on only sweeps are counted
pub data FromPreparing (w : World) (p : Preparation) (reports : List Report) (v : World) : Type 0 where
  waits : v ≡ w → reports ≡ [] → FromPreparing w p reports v
  started : (rest : List Report) → reports ≡ report.Started ∷ rest → v.preparing ≡ None
      → ((k : Collection) → v.collection ≡ Some k
      → k.tally ≡ record (first_tally w p) { sweeps = (first_tally w p).sweeps + sweeps_in reports })
      → FromPreparing w p reports v

-- marking began, and other units follow
after_start : (w : World) (p : Preparation) → w.preparing ≡ Some p → (zones : List ℕ) (u : World) → Begins w zones u
    → (units : List (List Report)) (v : World) → AreLawfulUnits u units v
    → FromPreparing w p (report.Started ∷ reports_in units) v
after_start w p was zones u b units v done =
    let none = ap (λ (x : World). x.preparing) b.world_is in
    let more = units_sweep u units v none done in
    started (reports_in units) refl more.none_prepared (λ k at. (
    let before = more.tally k at in
    let same : before.0 ≡ b.collection = some_is _ _
    (sym before.1 ∙ ap (λ (x : World). x.collection) b.world_is) in
    let of : b.preparation ≡ p = some_is _ _ (sym b.was ∙ was) in
    let first : before.0.tally ≡ first_tally w p =
    ap (λ (i : Collection). i.tally) same ∙ b.tally_is ∙ ap (first_tally w) of in
    before.2 ∙ ap (λ (t : Tally). record t { sweeps = t.sweeps + sweeps_in (reports_in units) }) first))

pub units_from : (w : World) (p : Preparation) → IsBeingPrepared w p → (units : List (List Report)) (v : World)
    → AreLawfulUnits w units v → FromPreparing w p (reports_in units) v
units_from w p so [] v same = waits same refl
units_from w p so (unit ∷ units) v done = elim (unit_from w p so done.1) [
  | inl still ↦ subst (λ (x : List Report). FromPreparing w p (x ++ reports_in units) v) (sym still.1)
      (units_from w p so units v (subst (λ (u : World). AreLawfulUnits u units v) still.0 done.2))
  | inr starts ↦ subst (λ (x : List Report). FromPreparing w p (x ++ reports_in units) v) (sym starts.0)
      (after_start w p so.preparing starts.1 done.0 starts.2 units v done.2)
]
