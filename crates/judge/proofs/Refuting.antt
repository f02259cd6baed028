-- A line of a lawful transcript is no wrong one: in an answer with units.
use Rattle.std.proofs.Common.{◌≡◌, ◌∙◌, ◌↔◌, inl, inr, ℕ, ◌+◌, ◌≤◌, Bool, true, false, List, [], ◌∷◌}
use Rattle.std.proofs.Common.{◌++◌, map, Option, Some, None, Contains, codes, drop, length, refl, sym, ap, subst, arith}
use Rattle.gz_names.specs.Zones.{zones_in}
use Rattle.gz_names.specs.declared.names.Name.{Name}
use Rattle.gz_names.specs.declared.zone_sets.ZoneSet.{ZoneSet}
use Rattle.gz_names.specs.declared.replies.Report.{Report}
use Rattle.gz_names.specs.declared.replies.Report.TheVariants as report
use Rattle.colour_defs.specs.Ends.{IsGrayOf, IsLawfulEnd}
use Rattle.colour_defs.specs.Graph.{GraphState, IsInZones}
use Rattle.colour_defs.specs.Groups.{AreLawfulGroups}
use Rattle.colour_defs.specs.Lawful.{EndsGroup as EndsIn, IsLawfulReport, IsLawfulSweep}
use Rattle.colour_defs.specs.Units.{Tally}
use Rattle.colour_defs.specs.World.{Collection, Preparation, World}
use Rattle.colour_defs.proofs.Lists.{contains_head}
use Rattle.colour_defs.proofs.Membership.{gray_of}
use Rattle.trace_lang.specs.Texts.{name_words, report_text, told_text}
use Rattle.trace_lang.specs.Words.{number_words}
use Rattle.judge.specs.Cells.{HasCell, IsGray}
use Rattle.judge.specs.Positions.{EndsUnits, IsInUnits, StandsIn}
use Rattle.judge.specs.Replies.{IsLast, IsUncounted, IsWrongAnswer, units as units_due}
use Rattle.judge.specs.Represents.{HasFound, IsAtStage, Represents}
use Rattle.judge.specs.Running.{HasUnits}
use Rattle.judge.specs.Stages.{IsWrongReport, IsWrongReportLine, MayEnd, MaySweep, Shown, Stage}
use Rattle.judge.specs.Stages.{collecting, idle, preparing}
use Rattle.judge.specs.Walks.{Walks}
use Rattle.judge.specs.Whites.{whites_in}
use Rattle.judge.proofs.Answered.{base_of, base_text, head_is, left_next, report_lines, told_next}
use Rattle.judge.proofs.Found.{lists_as}
use Rattle.judge.proofs.Idling.{over_shown}
use Rattle.judge.proofs.LastLine.{right_last}
use Rattle.judge.proofs.LineKinds.{is_done, not_telling}
use Rattle.judge.proofs.OneList.{one_list}
use Rattle.judge.proofs.Reported.{first_of}
use Rattle.judge.proofs.Standing.{forming_stands, present_is}
use Rattle.judge.proofs.UnitsLeft.{DoneNext, LastNext, NextLeft, ReportNext, done_next, last_next, next_left}
use Rattle.judge.proofs.UnitsLeft.{report_next}

-- a slice has its units
has_units : (most : Option ℕ) (collects : Bool) (tally : Tally) (reports : List Report) (k : ℕ) (after : World)
    (last : List ℕ) (next : World) (n : ℕ) → EndsUnits collects most tally reports k after last next → n ≤ k
    → HasUnits most n
has_units most true tally reports k after last next n ends few m e = absurd (let none = ends.unlimited in cc (none, e))
has_units None false tally reports k after last next n ends few m e = absurd (cc e)
has_units (Some o) false tally reports k after last next n ends few m e =
    let same : o ≡ m = cc e in omega (arith, same, few, ends.number.0)

module _ (g : GraphState) (s : Shown) (w : World) (stands : StandsIn g s w) (none_told : s.told ≡ []) where
  abbrev here : Represents g s w
  here = stands.represents

  -- marking may begin
  may_start : (t : Stage) → s.stage ≡ t → IsAtStage t s w → (p : Preparation) → w.preparing ≡ Some p
      → (zones : ZoneSet) × (s.stage ≡ preparing zones) × (s.out ≡ [])
  may_start idle e at p is = absurd (let none = at.idle.none_preparing in cc (none, is))
  may_start (preparing zones) e at p is = (zones, e, at.none_out)
  may_start (collecting zones marking groups) e at p is = absurd (let none = at.alone in cc (none, is))

  -- the groups may be formed
  ungrouped : (t : Stage) → s.stage ≡ t → IsAtStage t s w → (k : Collection) → w.collection ≡ Some k → k.groups ≡ None
      → (zones : ZoneSet) × (marking : ZoneSet) × (s.stage ≡ collecting zones marking None) × (s.out ≡ [])
      × ((walks : Walks) × (s.walks ≡ Some walks))
  ungrouped idle e at k is none = absurd (let gone = at.idle.none_running in cc (gone, is))
  ungrouped (preparing zones) e at k is none = absurd (let gone = at.alone in cc (gone, is))
  ungrouped (collecting zones marking None) e at k is none =
      let found = at.found (subst Rattle.judge.specs.Stages.HasGroups (sym e) tt) in
      (zones, marking, e, at.none_out refl, (found.0, found.1.walks_are))
  ungrouped (collecting zones marking (Some groups)) e at k is none =
      absurd (let same : at.collection ≡ k = cc (at.collection_is, is) in
      let has = ap (λ (c : Collection). c.groups) (sym same) ∙ at.groups_are in cc (has, none))

  allowed : (groups : List ZoneSet) → (k : Collection) → w.collection ≡ Some k → k.groups ≡ None
      → AreLawfulGroups w k (map zones_in groups) → IsWrongReport g s (report.Groups groups) → ⊥
  allowed groups k is none lawful wrong =
      let at = ungrouped s.stage refl here.stage_is k is none in
      let (zones, marking, stage, out, (walks, found)) = at in
      let f = forming_stands here zones marking walks stage found in
      let same : k ≡ f.0 = cc (is, f.1) in
      wrong out zones marking walks stage found w f.0 f.2
      (subst (λ c. AreLawfulGroups w c (map zones_in groups)) same lawful)

  -- the first group may end
  gray_in : (k : Collection) (group zones : ZoneSet) (walks : Walks) → HasFound s k walks
      → zones_in zones ≡ zones_in group → (x : Name) → IsGrayOf w k (zones_in zones) x
      ↔ (HasCell s.cells x × IsGray g (zones_in group) s.former.graph walks x)
  gray_in k group zones walks found same x = (
    λ h. (
      (present_is here x).0 h.present,
      (
        subst (λ a. IsInZones a (zones_in group) x) here.graph_is (subst (λ zs. IsInZones w.graph zs x) same h.here),
        (found.live_are x).0 h.gray.live,
        λ b. h.gray.not_black ((found.black_are x).1 b),
      ),
    ),
    λ h. gray_of w k (zones_in zones) x ((present_is here x).1 h.0)
        (subst (λ zs. IsInZones w.graph zs x) (sym same)
        (subst (λ a. IsInZones a (zones_in group) x) (sym here.graph_is) h.1.0)) ((found.live_are x).1 h.1.1)
        (λ b. h.1.2 ((found.black_are x).0 b)),
  )

  may_end : (zones : ZoneSet) (grays told : List Name) (u : World) → EndsIn w (zones_in zones) grays told u
      → (t : Stage) → s.stage ≡ t → IsAtStage t s w
      → (group : ZoneSet) × (zones_in zones ≡ zones_in group) × MayEnd g s group grays
  may_end zones grays told u ends idle e at = absurd (let gone = at.idle.none_running in cc (gone, ends.running))
  may_end zones grays told u ends (preparing zs) e at = absurd (let gone = at.alone in cc (gone, ends.running))
  may_end zones grays told u ends (collecting zs marking None) e at =
      absurd (let same : at.collection ≡ ends.collection = cc (at.collection_is, ends.running) in
      let has = ap (λ (c : Collection). c.groups) same in cc (has, at.groups_are, ends.first))
  may_end zones grays told u ends (collecting zs marking (Some [])) e at =
      absurd (let same : at.collection ≡ ends.collection = cc (at.collection_is, ends.running) in
      let has = ap (λ (c : Collection). c.groups) same in cc (has, at.groups_are, ends.first))
  may_end zones grays told u ends (collecting zs marking (Some (group ∷ rest))) e at =
      let same : ends.collection ≡ at.collection = cc (at.collection_is, ends.running) in
      let groups = sym ends.first ∙ ap (λ (c : Collection). c.groups) same ∙ at.groups_are in
      let first : zones_in zones ≡ zones_in group = cc groups in
      let found = at.found (subst Rattle.judge.specs.Stages.HasGroups (sym e) tt) in
      let lawful = subst (λ c. IsLawfulEnd w c (zones_in zones) ends.rest grays u) same ends.ends in
      let gray = gray_in at.collection group zones found.0 found.1 first in (
        group,
        first,
        record {
          none_out = sym here.out_are ∙ lawful.ready;
          first = (zs, marking, rest, e);
          walks = found.0;
          found = found.1.walks_are;
          grays_are = lists_as (IsGrayOf w at.collection (zones_in zones))
              (λ x. HasCell s.cells x × IsGray g (zones_in group) s.former.graph found.0 x) grays (λ x h. (gray x).0 h)
              (λ x h. (gray x).1 h) lawful.grays_are;
        },
      )

  -- the lowest arena may be taken in
  pub may_sweep : (arena : ℕ) (freed : List Name) (u : World) → IsLawfulSweep w arena freed u → MaySweep s arena freed
  may_sweep arena freed u sweep =
      let out : s.out ≡ arena ∷ sweep.rest = sym here.out_are ∙ sweep.first in (
        sweep.rest,
        out,
        one_list (λ x. (slot : ℕ) × Contains w.white (x, (arena, slot))) freed (whites_in s.whites arena)
            sweep.freed_are (here.white_are arena (subst (λ os. Contains os arena) (sym out)
            (contains_head arena sweep.rest))),
      )

  -- a report that comes is no wrong one
  pub right_report : (r : Report) (u : World) (line : List ℕ) → IsLawfulReport w r u → line ≡ first_of r
      → IsWrongReportLine g s line → ⊥
  right_report report.Started u line lawful e wrong =
      wrong.report report.Started e none_told
      (may_start s.stage refl here.stage_is lawful.1.preparation lawful.1.was)
  right_report (report.Groups groups) u line lawful e wrong =
      allowed groups lawful.collection lawful.running lawful.none_yet lawful.lawful
      (wrong.report (report.Groups groups) e none_told)
  right_report (report.Ended zones grays told) u line lawful e wrong =
      let may = may_end zones grays told u lawful s.stage refl here.stage_is in
      let text : line ≡ report_text (report.Ended may.0 grays []) =
      e ∙ ap (λ zs. codes "ended" ++ number_words zs ++ codes " gray" ++ Rattle.trace_lang.specs.Texts.names_text grays
      ++ []) may.1 in
      wrong.report (report.Ended may.0 grays []) text none_told refl may.2
  right_report (report.Swept arena freed) u line lawful e wrong =
      wrong.report (report.Swept arena freed) e none_told (may_sweep arena freed u lawful)
  right_report report.Done u line lawful e wrong = wrong.report report.Done e none_told (over_shown here lawful.over)
  right_report (report.Stopped zones) u line lawful e wrong = lawful

-- an answer with units
module _ (g : GraphState) (s : Shown) (most : Option ℕ) (collects : Bool) (reports : ℕ) (line : List ℕ)
    (lines : List (List ℕ)) (is : IsInUnits g s most collects reports (line ∷ lines))
    (wrong : IsWrongAnswer g s (units_due most collects reports) line) where
  -- a slice has room for each number of units up to those that were done
  few : (n : ℕ) → n ≤ is.done → HasUnits most n
  few n less = has_units most collects is.tally _ (is.done + length is.rest.units) is.rest.after is.rest.last
      is.rest.next n is.rest.ends (omega (arith, less))

  told_right : (x : Name) (xs : List Name) → s.told ≡ x ∷ xs → ⊥
  told_right x xs e =
      let at = told_next g s s most collects reports line lines is is.stands.sound x xs e in
      let text : told_text s.told ≡ 10 ∷ line = ap told_text e ∙ ap (λ l. 10 ∷ l) (sym at.0) in
      (wrong.1 reports (inl (inr (drop 1 (name_words (x ∷ xs)), at.0), refl)) (few reports is.enough)).told
      (record s { told = [] }) (text, refl)

  done_right : s.told ≡ [] → DoneNext is.now most collects is.tally is.so_far is.done is.left → ⊥
  done_right none d =
      let text : line ≡ report_text report.Done = head_is line _ lines d.rest
      (left_next g s s most collects reports line lines is is.stands.sound none ∙ d.lines_are) in
      right_report g s is.now is.stands none report.Done d.after line d.finishes text
      (wrong.1 reports (inl (inl text, refl)) (few reports is.enough))

  report_right : s.told ≡ [] → ReportNext is.now most collects is.tally is.so_far is.done is.left → ⊥
  report_right none r =
      let text : line ≡ first_of r.said = head_is line _ lines _
      (report_lines g s s most collects reports line lines is is.stands.sound none r) in
      let room : HasUnits most (reports + 1) = has_units most collects is.tally _ (r.before + 1 + length r.left.units)
      r.left.after r.left.last r.left.next (reports + 1) r.left.ends (omega (arith, is.enough, r.enough)) in
      right_report g s is.now is.stands none r.said r.after line r.lawful text
      (wrong.1 (reports + 1) (inr (counted text, refl)) room)
    where
      same_done : (q : Report) → base_of q ≡ report.Done → q ≡ report.Done
      same_done report.Started e = absurd (cc e)
      same_done (report.Groups groups) e = absurd (cc e)
      same_done (report.Ended zones grays told) e = absurd (cc e)
      same_done (report.Swept arena freed) e = absurd (cc e)
      same_done report.Done e = refl
      same_done (report.Stopped zones) e = absurd (cc e)

      counted : line ≡ first_of r.said → IsUncounted line → ⊥
      counted text (inl done) = r.other (same_done r.said (is_done (base_of r.said)
          (sym (base_text r.said) ∙ sym text ∙ done)))
      counted text (inr (rest, told)) = not_telling (base_of r.said) rest (sym (base_text r.said) ∙ sym text ∙ told)

  last_right : s.told ≡ [] → LastNext is.now most collects is.tally is.so_far is.done is.left → ⊥
  last_right none l =
      let text : line ≡ l.last = head_is line l.last lines l.more
      (left_next g s s most collects reports line lines is is.stands.sound none ∙ l.lines_are) in
      right_last g s is.now most collects reports l.count is.tally is.so_far l.last l.next is.stands none is.counted
      (omega (arith, is.enough, l.enough)) l.not_over l.ends
      (λ new last. wrong.0 new (subst (λ t. IsLast most collects reports s t new) (sym text) last))

  pub right_in_units : ⊥
  right_in_units = by_told s.told refl
    where
      by_next : s.told ≡ [] → NextLeft is.now most collects is.tally is.so_far is.done is.left → ⊥
      by_next none (done_next d) = done_right none d
      by_next none (report_next r) = report_right none r
      by_next none (last_next l) = last_right none l

      by_told : (t : List Name) → s.told ≡ t → ⊥
      by_told [] none = by_next none (next_left is.now most collects is.tally is.so_far is.done is.left is.rest)
      by_told (x ∷ xs) e = told_right x xs e
