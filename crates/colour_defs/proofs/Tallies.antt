-- Units change of the tally of a collection that runs, and is not prepared, nothing but what they sweep.
use Rattle.std.proofs.Common.{◌≡◌, ◌+◌, ℕ, List, [], ◌∷◌, ◌++◌, Option, None, Some, refl, sym, ap}
use Rattle.std.proofs.Common.{subst}
use Rattle.std.proofs.Common.{◌∙◌, arith}
use Rattle.std.specs.List.{flat_map}
use Rattle.gz_names.specs.declared.replies.Report.{Report}
use Rattle.gz_names.specs.declared.replies.Report.TheVariants as report
use Rattle.colour_defs.specs.Units.{Tally, sweeps_in}
use Rattle.colour_defs.specs.World.{Collection, World}
use Rattle.colour_defs.specs.Lawful.{AreLawfulUnits, IsLawfulReport, IsLawfulUnit, last, quiet, says}
use Rattle.colour_defs.specs.Lawful.{with_sweep}

-- this number of arenas more were swept, and nothing is prepared; a collection that runs is the one that ran
pub record SweepsMore (w v : World) (n : ℕ) : Type 0 where
  pub none_prepared : v.preparing ≡ None
  pub tally : (after : Collection) → v.collection ≡ Some after → (before : Collection)
      × (w.collection ≡ Some before)
      × (after.tally ≡ record before.tally { sweeps = before.tally.sweeps + n })

some_is : {X : Type 0} (x y : X) → Some x ≡ Some y → x ≡ y
some_is x y e = cc e

same_tally : (w v : World) → w.preparing ≡ None → v.preparing ≡ w.preparing
    → ((after : Collection) → v.collection ≡ Some after → (before : Collection) × (w.collection ≡ Some before)
    × (after.tally ≡ before.tally)) → SweepsMore w v 0
same_tally w v none prep same = record {
  none_prepared = prep ∙ none;
  tally = λ after at. (
      let was = same after at in
      (was.0, was.1, was.2 ∙ ap (λ n. record was.0.tally { sweeps = n }) (omega arith)));
}

nothing_done : (w : World) → w.preparing ≡ None → SweepsMore w w 0
nothing_done w none = same_tally w w none refl (λ k at. (k, at, refl))

one_after_another : (w u v : World) (m n : ℕ) → SweepsMore w u m → SweepsMore u v n → SweepsMore w v (m + n)
one_after_another w u v m n first second = record {
  none_prepared = second.none_prepared;
  tally = λ after at. (
      let two = second.tally after at in
      let one = first.tally two.0 two.1 in
      let sum : (one.0.tally.sweeps + m) + n ≡ one.0.tally.sweeps + (m + n) = omega arith in (
        one.0,
        one.1,
        two.2 ∙ (ap (λ (t : Tally). record t { sweeps = t.sweeps + n }) one.2
            ∙ ap (λ s. record one.0.tally { sweeps = s }) sum),
      ));
}

report_sweeps : (w : World) (r : Report) (v : World) → w.preparing ≡ None → IsLawfulReport w r v
    → SweepsMore w v (sweeps_in (r ∷ []))
report_sweeps w report.Started v none law = absurd (let was = law.1.was in cc (none, was))
report_sweeps w (report.Groups groups) v none law = same_tally w v none
    (ap (λ (x : World). x.preparing) law.world_is)
    (λ after at. (
      law.collection,
      law.running,
      ap (λ (k : Collection). k.tally) (some_is after _ (sym at ∙ ap (λ (x : World). x.collection) law.world_is)),
    ))
report_sweeps w (report.Ended zones grays told) v none law = same_tally w v none law.ends.preparing_is
    (λ after at. (
      law.collection,
      law.running,
      ap (λ (k : Collection). k.tally) (some_is after _ (sym at ∙ law.ends.collection_is)),
    ))
report_sweeps w (report.Swept arena freed) v none law = record {
  none_prepared = ap (λ (x : World). x.preparing) law.world_is ∙ none;
  tally = λ after at. swept w.collection refl after (sym (ap (λ (x : World). x.collection) law.world_is) ∙ at);
}
  where
    swept : (o : Option Collection) → w.collection ≡ o → (after : Collection) → with_sweep o ≡ Some after
        → (before : Collection) × (w.collection ≡ Some before)
        × (after.tally ≡ record before.tally { sweeps = before.tally.sweeps + 1 })
    swept None was after e = absurd (cc e)
    swept (Some k) was after e = (k, was, ap (λ (x : Collection). x.tally) (sym (some_is _ _ e)))
report_sweeps w report.Done v none law = same_tally w v none (ap (λ (x : World). x.preparing) law.world_is)
    (λ after at. absurd (let is = ap (λ (x : World). x.collection) law.world_is in cc (at, is)))
report_sweeps w (report.Stopped zones) v none law = absurd law

unit_sweeps : (w : World) {unit : List Report} {v : World} → w.preparing ≡ None → IsLawfulUnit w unit v
    → SweepsMore w v (sweeps_in unit)
unit_sweeps w none (quiet running) = nothing_done w none
unit_sweeps w none (says {r} {v} running no_done law not_over) = report_sweeps w r v none law
unit_sweeps w none (last {r} {u} {v} running no_done law over) =
    let one = report_sweeps w r u none law in
    let two = report_sweeps u report.Done v one.none_prepared over in
    let both = one_after_another w u v (sweeps_in (r ∷ [])) 0 one two in
    subst (SweepsMore w v) (last_says r) both
  where
    last_says : (x : Report) → sweeps_in (x ∷ []) + 0 ≡ sweeps_in (x ∷ report.Done ∷ [])
    last_says report.Started = refl
    last_says (report.Groups groups) = refl
    last_says (report.Ended zones grays told) = refl
    last_says (report.Swept arena freed) = refl
    last_says report.Done = refl
    last_says (report.Stopped zones) = refl

pub sweeps_both : (a b : List Report) → sweeps_in (a ++ b) ≡ sweeps_in a + sweeps_in b
sweeps_both [] b = omega arith
sweeps_both (report.Started ∷ a) b = sweeps_both a b
sweeps_both (report.Groups groups ∷ a) b = sweeps_both a b
sweeps_both (report.Ended zones grays told ∷ a) b = sweeps_both a b
sweeps_both (report.Swept arena freed ∷ a) b = let rest = sweeps_both a b in omega (arith, rest)
sweeps_both (report.Done ∷ a) b = sweeps_both a b
sweeps_both (report.Stopped zones ∷ a) b = sweeps_both a b

pub units_sweep : (w : World) (units : List (List Report)) (v : World) → w.preparing ≡ None → AreLawfulUnits w units v
    → SweepsMore w v (sweeps_in (flat_map (λ u. u) units))
units_sweep w [] v none same = subst (λ (x : World). SweepsMore w x 0) (sym same) (nothing_done w none)
units_sweep w (unit ∷ units) v none done =
    let one = unit_sweeps w none done.1 in
    let rest = units_sweep done.0 units v one.none_prepared done.2 in
    subst (SweepsMore w v) (sym (sweeps_both unit (flat_map (λ u. u) units)))
    (one_after_another w done.0 v (sweeps_in unit) (sweeps_in (flat_map (λ u. u) units)) one rest)
