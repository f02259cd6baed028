-- Steps of a collection: units that report nothing, and one that reports something.
use Rattle.std.proofs.Common.{◌≡◌, ◌≢◌, ◌↔◌, ◌<◌, ◌≤◌, ◌+◌, ℕ, zero, suc, Bool, true, false, List, [], ◌∷◌, length}
use Rattle.std.proofs.Common.{Option, Some, None, Result, Ok, Err, IfOk, OnErr, IsSome, is_some, refl, ap, sym, ◌∙◌}
use Rattle.std.proofs.Common.{◌⊎◌, inl, inr, subst, arith}
use Rattle.std.proofs.Common.{if◌then◌else◌, append-nil}
use Rattle.std.specs.List.{flat_map}
use Rattle.gz_names.specs.Zones.{zones_in}
use Rattle.gz_names.specs.declared.replies.Report.{Report}
use Rattle.gz_names.specs.declared.replies.Report.TheVariants as report
use Rattle.gz_names.specs.declared.zone_sets.ZoneSet.{ZoneSet}
use Rattle.cell_bits.specs.declared.bits.Bits.{Bits}
use Rattle.cell_bits.specs.declared.jobs.Job.{Job}
use Rattle.sweeping.specs.ArenasOut.{AscendHanded, flying_after, outs_after, outs_of}
use Rattle.heap_core.specs.Shape.{Shape, out_in, out_of}
use Rattle.heap_core.specs.Heap.{HeapState}
use Rattle.colour_defs.specs.Units.{sweeps_in}
use Rattle.colour_defs.specs.World.{Collection, World}
use Rattle.colour_defs.specs.Lawful.{AreLawfulUnits, IsLawfulUnit, IsRunning, quiet, says, last}
use Rattle.colour_defs.proofs.ValidReports.{unit_valid}
use Rattle.slice_driver.specs.Advances.{Advances, AreOut, DoesUnits, jobs_told, tells_start, told}
use Rattle.slice_driver.specs.Collector.{CollectorState, RunState}
use Rattle.slice_driver.specs.Left.{units_left}
use Rattle.slice_driver.specs.Preparing.{StartsMarking}
use Rattle.slice_driver.specs.Quiet.{IsFormed, IsStarted}
use Rattle.slice_driver.specs.Represents.{Represents}
use Rattle.slice_driver.specs.Units.{AreJobs, DoesUnit, EndsColoured, IsLowestOut, IsSound, StartsWithin, TellsSweep}
use Rattle.slice_driver.specs.Units.{is_group_end, is_start, jobs_at, reports_of}
use Rattle.slice_driver.specs.UnitsToCome.{units_to_come}
use Rattle.slice_driver.specs.Working.{DoesQuietUnits, EndsGroup, IsAtGroupEnd, IsAtStart, IsQuietDone, IsResting}
use Rattle.slice_driver.specs.Working.{IsStill, MayWantMemory, TellsGrouping, place_of}
use Rattle.slice_driver.specs.declared.advance.Step.{Step}
use Rattle.slice_driver.proofs.marking.AtGroupEnd.{coloured_before, end_before, formed_rests, no_colours, no_jobs}
use Rattle.slice_driver.proofs.marking.AtGroupEnd.{one_lowest, quiet_done_before, still_at_end, still_resting}
use Rattle.slice_driver.proofs.marking.MarkingUnits.{still_left, still_to_come}
use Rattle.slice_driver.proofs.abstraction.Named.{some_one}
use Rattle.slice_driver.proofs.abstraction.Phases.{none_formed, none_started, not_at_start, sound_marking, started_of}
use Rattle.slice_driver.proofs.abstraction.Phases.{swept_of}
use Rattle.slice_driver.proofs.abstraction.SoundAfter.{unit_sound}
use Rattle.slice_driver.proofs.clearing.ClearingUnits.{preparing_of, start_to_come}
use Rattle.slice_driver.proofs.taking_in.TakingDue.{ascend_handed, out_handed, out_kept}

-- a unit that reports nothing leaves the world as it is
quiet_world : (w v : World) (reports : List Report) → reports ≡ [] → IsLawfulUnit w reports v → IsRunning w × (v ≡ w)
quiet_world w v _ e (quiet running) = (running, refl)
quiet_world w v _ e (says running other lawful more) = absurd (cc e)
quiet_world w v _ e (last running other lawful done) = absurd (cc e)

-- this number of them
abbrev silent : ℕ → List (List Report)
silent zero = []
silent (suc n) = [] ∷ silent n

silent_long : (n : ℕ) → length (silent n) ≡ n
silent_long zero = refl
silent_long (suc n) = ap suc (silent_long n)

silent_flat : (n : ℕ) → flat_map (λ (u : List Report). u) (silent n) ≡ []
silent_flat zero = refl
silent_flat (suc n) = silent_flat n

silent_lawful : (n : ℕ) (w : World) → IsRunning w → AreLawfulUnits w (silent n) w
silent_lawful zero w running = refl
silent_lawful (suc n) w running = (w, quiet running, silent_lawful n w running)

quiet_done : (c d : CollectorState) (f g : ℕ → Option Bits) (n : ℕ) → DoesUnit c f [] d g → DoesUnits c f n [] d g
quiet_done c d f g n does w ok r =
    let done = does w ok r in
    let same = quiet_world w done.0 [] refl done.1 in record {
      units = silent n;
      number = silent_long n;
      reports_are = silent_flat n;
      after = w;
      done = silent_lawful n w same.0;
      valid = ok;
      represents = subst (λ (v : World). Represents d g v) same.1 done.2;
    }

-- one unit
one_done : (c d : CollectorState) (f g : ℕ → Option Bits) (reports : List Report) → DoesUnit c f reports d g
    → DoesUnits c f 1 reports d g
one_done c d f g reports does w ok r =
    let done = does w ok r in record {
      units = reports ∷ [];
      number = refl;
      reports_are = append-nil reports;
      after = done.0;
      done = (done.0, done.1, refl);
      valid = unit_valid w ok done.1;
      represents = done.2;
    }

runs_on : (b : Bool) (o : Option RunState) → b ≡ false → IsSome o → (b ≡ true) ↔ (o ≡ None)
runs_on b o e some = (
  λ t. absurd (cc (t, e)),
  λ n. absurd (let none = ap is_some n in cc (some, none)),
)

-- some units that report nothing, which are none where marking rests
pub quiet_advances : (limit n : ℕ) (c d : CollectorState) (f g : ℕ → Option Bits) (outs rest : List (ℕ × ℕ))
    (place : Option Report) → DoesQuietUnits n c f d g → 0 < n → n ≤ limit → (IsResting c f → n ≡ 0) → IsSound c f
    → IsSound d g → rest ≡ outs → AreOut c.heap.shape outs
    → Advances limit c f place (record { units = n; reported = false; finished = false; handed = None }) d g rest place
quiet_advances limit n c d f g outs rest place does some most resting before s same are =
    let goes = does.some some in
    let busy : IsResting c f → ⊥ = λ rests. (let none = resting rests in omega (arith, none, some)) in
    record {
      done = quiet_done c d f g n goes.done;
      some = some;
      most = most;
      less = does.less;
      to_come = λ e. (let falls = does.to_come in omega (arith, falls));
      starts = λ e. absurd (cc e);
      told_some = λ e. absurd (cc e);
      told_none = λ e. refl;
      finished = runs_on false d.run refl goes.running;
      one = λ e. absurd (cc e);
      rests = λ e. absurd (cc e);
      started_where = (
        λ e. absurd (cc e),
        λ at. absurd (let none = start_to_come c f before at in let falls = does.to_come in
            omega (arith, none, falls, some)),
      );
      ended_where = (λ e. absurd (cc e), λ at. absurd (busy at.0));
      due_where = λ rests a low. absurd (busy rests);
      coloured = λ e. absurd (cc e);
      queued = λ some. absurd (some refl);
      sound = s;
      out = out_kept c.heap.shape d.heap.shape outs rest same goes.words are;
      ascending = tt;
      made = goes.made_is;
      ledger = goes.ledger_is;
      entries = let e = ap (λ ws. length ws.entries) goes.weak_is in omega (arith, e);
    }

-- what one unit said, in its place
abbrev step_of : Option Report → Option (List Job) → Bool → Step
step_of said handed finished = record {
  units = 1;
  reported = is_some said;
  finished = finished;
  handed = handed;
}

told_said : (said before : Option Report) (finished : Bool)
    → (if is_some said then reports_of (place_of said before) finished else []) ≡ reports_of said finished
told_said None before finished = refl
told_said (Some r) before finished = refl

said_some : (said before : Option Report) → is_some said ≡ true → IsSome (place_of said before)
said_some None before e = absurd (cc e)
said_some (Some r) before e = refl

said_none : (said before : Option Report) → is_some said ≡ false → place_of said before ≡ before
said_none None before e = refl
said_none (Some r) before e = absurd (cc e)

said_end : (said before : Option Report)
    → (if is_some said then is_group_end (place_of said before) else false) ≡ is_group_end said
said_end None before = refl
said_end (Some r) before = refl

said_start : (said before : Option Report)
    → (if is_some said then is_start (place_of said before) else false) ≡ is_start said
said_start None before = refl
said_start (Some r) before = refl

said_jobs : (said before : Option Report) (h : HeapState)
    → (if is_some said then jobs_at (place_of said before) h else []) ≡ jobs_at said h
said_jobs None before h = refl
said_jobs (Some r) before h = refl

said_sweep : (said before : Option Report) (a : ℕ) → TellsSweep a said
    → (is_some said ≡ true) × TellsSweep a (place_of said before)
said_sweep None before a told = absurd (let e = told.1 in cc e)
said_sweep (Some r) before a told = (refl, told)

said_coloured : (said before : Option Report) (c : CollectorState) (f : ℕ → Option Bits) (colours : List Bits)
    → EndsColoured said c f colours → is_some said ≡ true → EndsColoured (place_of said before) c f colours
said_coloured None before c f colours h e = absurd (cc e)
said_coloured (Some r) before c f colours h e = h

queued_jobs : (handed : Option (List Job)) (jobs : List Job) (outs : List (ℕ × ℕ)) → AreJobs handed jobs → jobs ≢ []
    → outs_after handed outs ≡ outs_of jobs
queued_jobs None jobs outs none some = absurd (some none)
queued_jobs (Some given) jobs outs are some = ap outs_of are.0

-- one unit was done: what it said, the arenas that it handed to sweeping, and whether the collection is over with it
record UnitSays (c : CollectorState) (f : ℕ → Option Bits) (said : Option Report) (handed : Option (List Job))
    (over : Bool) (d : CollectorState) (g : ℕ → Option Bits) (outs : List (ℕ × ℕ)) : Type 0 where
  done : DoesUnit c f (reports_of said over) d g
  less : units_left d g < units_left c f
  falls : is_start said ≡ false → units_to_come d g + 1 ≤ units_to_come c f + sweeps_in (reports_of said over)
  starts : is_start said ≡ true → StartsWithin c f d g
  finished : (over ≡ true) ↔ (d.run ≡ None)
  rests : is_some said ≡ true → IsQuietDone c f
  started_where : (is_start said ≡ true) ↔ IsAtStart c
  ended_where : (is_group_end said ≡ true) ↔ IsAtGroupEnd c f
  due_where : IsResting c f → (a : ℕ) → IsLowestOut c.heap.shape a → TellsSweep a said
  coloured : EndsColoured said c f d.heap.colours
  jobs : AreJobs handed (jobs_at said c.heap)
  sound : IsSound d g
  out : AreOut d.heap.shape outs
  ascending : AscendHanded handed
  made : d.heap.made ≡ c.heap.made
  ledger : d.heap.ledger ≡ c.heap.ledger
  entries : length d.heap.shape.weak.entries ≤ length c.heap.shape.weak.entries

module _ (c d : CollectorState) (f g : ℕ → Option Bits) (outs : List (ℕ × ℕ)) (said : Option Report)
    (handed : Option (List Job)) (over : Bool) (before place : Option Report) (step : Step)
    (step_is : step ≡ step_of said handed over) (place_is : place ≡ place_of said before) where
  one_advances : UnitSays c f said handed over d (flying_after handed g) (outs_after handed outs)
      → Advances 1 c f before step d (flying_after step.handed g) (outs_after step.handed outs) place
  one_advances unit =
      subst (λ (s : Step). Advances 1 c f before s d (flying_after s.handed g) (outs_after s.handed outs) place)
      (sym step_is)
      (subst (λ (p : Option Report). Advances 1 c f before (step_of said handed over) d (flying_after handed g)
      (outs_after handed outs) p) (sym place_is) (record {
        done = subst (λ (rs : List Report). DoesUnits c f 1 rs d (flying_after handed g))
            (sym (told_said said before over))
            (one_done c d f (flying_after handed g) (reports_of said over) unit.done);
        some = omega arith;
        most = omega arith;
        less = let less = unit.less in omega (arith, less);
        to_come = λ other. subst (λ (rs : List Report). units_to_come d (flying_after handed g) + 1
            ≤ units_to_come c f + sweeps_in rs) (sym (told_said said before over))
            (unit.falls (sym (said_start said before) ∙ other));
        starts = λ is. unit.starts (sym (said_start said before) ∙ is);
        told_some = said_some said before;
        told_none = said_none said before;
        finished = unit.finished;
        one = λ e. refl;
        rests = unit.rests;
        started_where = subst (λ (b : Bool). (b ≡ true) ↔ IsAtStart c) (sym (said_start said before))
            unit.started_where;
        ended_where = subst (λ (b : Bool). (b ≡ true) ↔ IsAtGroupEnd c f) (sym (said_end said before))
            unit.ended_where;
        due_where = λ rests a low. said_sweep said before a (unit.due_where rests a low);
        coloured = said_coloured said before c f d.heap.colours unit.coloured;
        queued = subst (λ (js : List Job). js ≢ [] → outs_after handed outs ≡ outs_of js)
            (sym (said_jobs said before c.heap))
            (queued_jobs handed (jobs_at said c.heap) outs unit.jobs);
        sound = unit.sound;
        out = unit.out;
        ascending = unit.ascending;
        made = unit.made;
        ledger = unit.ledger;
        entries = unit.entries;
      }))

-- a unit that begins marking does so after nothing was done
starts_before : (c : CollectorState) (f : ℕ → Option Bits) (d : CollectorState) (g : ℕ → Option Bits)
    → IsStill c f d g → (e : CollectorState) (h : ℕ → Option Bits) → StartsWithin d g e h → StartsWithin c f e h
starts_before c f d g still e h starts = record {
  cleared = sym (still_to_come c f d g still) ∙ starts.cleared;
  within = λ w p ok r is. starts.within w p ok
      (subst (λ (x : CollectorState). Represents x g w) (sym still.same) (still.worlds w r)) is;
}

-- a step that did nothing may stand before it
pub still_advances : (limit : ℕ) (c d e : CollectorState) (f g h : ℕ → Option Bits) (outs : List (ℕ × ℕ))
    (before place : Option Report) (step : Step) → 0 < limit → IsStill c f d g
    → Advances 1 d g before step e h outs place
    → Advances limit c f before step e h outs place
still_advances limit c d e f g h outs before place step some still a = record {
  done = λ w ok r. (let u = a.done w ok (subst (λ (x : CollectorState). Represents x g w) (sym still.same)
      (still.worlds w r)) in record {
        units = u.units;
        number = u.number;
        reports_are = u.reports_are;
        after = u.after;
        done = u.done;
        valid = u.valid;
        represents = u.represents;
      });
  some = a.some;
  most = omega (arith, a.most, some);
  less = let same = still_left c f d g still in omega (arith, a.less, same);
  to_come = λ other. (let same = still_to_come c f d g still in let falls = a.to_come other in
      omega (arith, falls, same));
  starts = λ is. starts_before c f d g still e h (a.starts is);
  told_some = a.told_some;
  told_none = a.told_none;
  finished = a.finished;
  one = a.one;
  rests = λ e. quiet_done_before c f d g still (a.rests e);
  started_where = subst (λ (x : CollectorState). (tells_start step place ≡ true) ↔ IsAtStart x) still.same
      a.started_where;
  ended_where = (
    λ e. end_before c f d g still (a.ended_where.0 e),
    λ at. a.ended_where.1 (still_at_end c f d g still at),
  );
  due_where = λ rests n low. a.due_where (still_resting c f d g still rests) n
      (subst (λ (x : CollectorState). IsLowestOut x.heap.shape n) (sym still.same) low);
  coloured = λ e. coloured_before c f d g still place _ (a.coloured e);
  queued = subst (λ (x : CollectorState). jobs_told step place x.heap ≢ []
      → outs ≡ outs_of (jobs_told step place x.heap)) still.same a.queued;
  sound = a.sound;
  out = a.out;
  ascending = a.ascending;
  made = a.made ∙ ap (λ (x : CollectorState). x.heap.made) still.same;
  ledger = a.ledger ∙ ap (λ (x : CollectorState). x.heap.ledger) still.same;
  entries = let e = ap (λ (x : CollectorState). length x.heap.shape.weak.entries) still.same in
      omega (arith, e, a.entries);
}

-- the arenas that are out are out still
pub still_out : (c d : CollectorState) (f g : ℕ → Option Bits) (outs rest : List (ℕ × ℕ)) → IsStill c f d g
    → rest ≡ outs → AreOut c.heap.shape outs → AreOut d.heap.shape rest
still_out c d f g outs rest still same are = subst (λ (x : CollectorState). AreOut x.heap.shape rest) (sym still.same)
    (subst (λ (xs : List (ℕ × ℕ)). AreOut c.heap.shape xs) (sym same) are)

-- a report tells the end of a group
end_some : (r : Option Report) → is_group_end r ≡ true → is_some r ≡ true
end_some None e = e
end_some (Some r) e = refl

end_placed : (r before : Option Report) → is_group_end r ≡ true → r ≡ place_of r before
end_placed None before e = absurd (cc e)
end_placed (Some r) before e = refl

-- what is not so, where nothing asks it
never : (b : Bool) (P : Type 0) → b ≡ false → (P → ⊥) → (b ≡ true) ↔ P
never b P other none = (λ e. absurd (cc (e, other)), λ p. absurd (none p))

-- the end of a group begins no marking
end_no_start : (r : Option Report) → is_group_end r ≡ true → is_start r ≡ true → ⊥
end_no_start None e is = cc e
end_no_start (Some (report.Groups groups)) e is = cc e
end_no_start (Some (report.Ended zones grays told)) e is = cc is
end_no_start (Some (report.Swept arena names)) e is = cc e
end_no_start (Some report.Started) e is = cc e
end_no_start (Some report.Done) e is = cc e
end_no_start (Some (report.Stopped zones)) e is = cc e

-- where no arena is out, none is the lowest
none_lowest : (s : Shape) (a : ℕ) → ((b : ℕ) → out_of s b ≡ None) → IsLowestOut s a → ⊥
none_lowest s a none low = let some = low.out in let is = ap is_some (none a) in cc (some, is)

-- where no unit that reports nothing is left and no arena is out
module _ (c d : CollectorState) (f : ℕ → Option Bits) (s : IsSound c f) (rested : IsQuietDone c f)
    (none_out : (a : ℕ) → out_of c.heap.shape a ≡ None) (outs : List (ℕ × ℕ)) (are : AreOut c.heap.shape outs)
    (before now : Option Report) where
  -- a grouping step was done
  pub grouping_advances : IsStarted c → (reported : Bool) → TellsGrouping c before reported d now
      → Advances 1 c f before (record { units = 1; reported = reported; finished = false; handed = None }) d f outs now
  grouping_advances started reported tells =
      let goes = tells.done.goes f (sound_marking c f (λ w. none_started c f w started) s) rested.black in
      one_advances c d f f outs tells.said None false before now
      (record { units = 1; reported = reported; finished = false; handed = None })
      (ap (λ (b : Bool). record { units = 1; reported = b; finished = false; handed = None }) tells.reported_is)
      tells.now_is (record {
        done = goes.done;
        less = goes.less;
        falls = λ e. (let falls = goes.to_come in omega (arith, falls));
        starts = λ is. absurd (let other = tells.done.no_start in cc (is, other));
        finished = runs_on false d.run refl goes.running;
        rests = λ e. rested;
        started_where = never (is_start tells.said) (IsAtStart c) tells.done.no_start (not_at_start c started);
        ended_where = never (is_group_end tells.said) (IsAtGroupEnd c f) tells.done.goes_on
            (λ at. tells.done.unformed at.0.formed);
        due_where = λ rests a low. absurd (tells.done.unformed rests.formed);
        coloured = no_colours tells.said c f d.heap.colours tells.done.goes_on;
        jobs = no_jobs tells.said c.heap tells.done.goes_on;
        sound = unit_sound c d f f (reports_of tells.said false) goes.done s;
        out = out_kept c.heap.shape d.heap.shape outs outs refl goes.words are;
        ascending = tt;
        made = goes.made_is;
        ledger = goes.ledger_is;
        entries = let e = ap (λ ws. length ws.entries) goes.weak_is in omega (arith, e);
      })

  -- the current group ended
  pub ending_advances : IsFormed c → (handed : Option (List Job)) (over : Bool) → EndsGroup handed over now c d
      → d.heap.made ≡ c.heap.made → d.heap.ledger ≡ c.heap.ledger
      → length d.heap.shape.weak.entries ≤ length c.heap.shape.weak.entries
      → Advances 1 c f before (record { units = 1; reported = true; finished = over; handed = handed }) d
      (flying_after handed f) (outs_after handed outs) now
  ending_advances formed handed over ends made ledger entries =
      let marking = sound_marking c f (λ w. none_formed c f w formed) s in
      let started = started_of c f marking.world marking.represents (ap is_some formed.1) in
      let at : IsAtGroupEnd c f = (formed_rests c f rested formed, none_out) in
      one_advances c d f f outs now handed over before now
      (record { units = 1; reported = true; finished = over; handed = handed })
      (ap (λ (b : Bool). record { units = 1; reported = b; finished = over; handed = handed })
      (sym (end_some now ends.ended)))
      (end_placed now before ends.ended) (record {
        done = ends.done f;
        less = ends.left f marking;
        falls = λ e. (let falls = ends.to_come f marking in omega (arith, falls));
        starts = λ is. absurd (end_no_start now ends.ended is);
        finished = ends.finished;
        rests = λ e. rested;
        started_where = (
          λ is. absurd (end_no_start now ends.ended is),
          λ start. absurd (not_at_start c started start),
        );
        ended_where = (λ e. at, λ a. ends.ended);
        due_where = λ rests a low. absurd (none_lowest c.heap.shape a none_out low);
        coloured = ends.coloured f;
        jobs = ends.handed_are;
        sound = unit_sound c d f (flying_after handed f) (reports_of now over) (ends.done f) s;
        out = out_handed c.heap.shape d.heap.shape handed outs outs refl ends.jobs are;
        ascending = ascend_handed c.heap.shape d.heap.shape handed ends.jobs;
        made = made;
        ledger = ledger;
        entries = entries;
      })

  -- marking began
  module _ (at : IsAtStart c) (zones : ZoneSet) (starts : StartsMarking c f zones d) where
    begins_unit : DoesUnit c f (report.Started ∷ []) d f
    begins_unit w ok r =
        let b = starts.begins w ok r in
        let begun = b.1 in (
          b.0,
          says (inr (begun.preparation, begun.was)) (λ e. cc e) (zones_in zones, begun)
              (λ over. (let same = some_one _ _ (sym over.running ∙ ap (λ (u : World). u.collection) begun.world_is) in
              let groups = ap (λ (k : Collection). k.groups) same in
              let none = begun.groups_are in
              let ended = over.ended in
              cc (groups, none, ended))),
          b.3,
        )

    none_after : (a : ℕ) → out_of d.heap.shape a ≡ None
    none_after a =
        let r = starts.begins s.world s.valid s.represents in
        no_bits (out_of d.heap.shape a) (sym ((swept_of d f r.0 r.3).flies.covers a)
        ∙ (swept_of c f s.world s.represents).flies.covers a ∙ ap is_some (none_out a))
      where
        no_bits : (o : Option Bits) → is_some o ≡ false → o ≡ None
        no_bits None e = refl
        no_bits (Some b) e = absurd (cc e)

    not_ending : IsAtGroupEnd c f → ⊥
    not_ending ends =
        none_formed c f s.world ends.0.formed
        (preparing_of c f s.world at.uncleared (at.run, at.run_is, at.clearing) s.represents)

    pub starting_advances : now ≡ Some report.Started
        → Advances 1 c f before (record { units = 1; reported = true; finished = false; handed = None }) d f outs now
    starting_advances told =
        let r = starts.begins s.world s.valid s.represents in
        one_advances c d f f outs (Some report.Started) None false before now
        (record { units = 1; reported = true; finished = false; handed = None }) refl told (record {
          done = begins_unit;
          less = starts.left;
          falls = λ e. absurd (cc e);
          starts = λ e. starts.within;
          finished = runs_on false d.run refl (ap is_some starts.run_is);
          rests = λ e. rested;
          started_where = (λ e. at, λ a. refl);
          ended_where = (λ e. absurd (cc e), λ ends. absurd (not_ending ends));
          due_where = λ rests a low. absurd (none_lowest c.heap.shape a none_out low);
          coloured = tt;
          jobs = refl;
          sound = record { world = r.0; valid = r.2; represents = r.3 };
          out = out_kept c.heap.shape d.heap.shape outs outs refl
              (λ a freed is arena bits there out.
              absurd (let none = none_after a in let some = ap out_in there ∙ out in cc (none, some))) are;
          ascending = tt;
          made = starts.made;
          ledger = starts.ledger;
          entries = let e = ap (λ ws. length ws.entries) starts.weak in omega (arith, e);
        })

-- what a step handed to sweeping was taken over by who sweeps
pub taken_over : (limit : ℕ) (c : CollectorState) (f : ℕ → Option Bits) (before : Option Report) (step : Step)
    (d : CollectorState) (g : ℕ → Option Bits) (outs : List (ℕ × ℕ)) (now : Option Report)
    → Advances limit c f before step d g outs now
    → Advances limit c f before (record step { handed = None }) d g outs now
taken_over limit c f before step d g outs now a = record {
  done = a.done;
  some = a.some;
  most = a.most;
  less = a.less;
  to_come = a.to_come;
  starts = a.starts;
  told_some = a.told_some;
  told_none = a.told_none;
  finished = a.finished;
  one = a.one;
  rests = a.rests;
  started_where = a.started_where;
  ended_where = a.ended_where;
  due_where = a.due_where;
  coloured = a.coloured;
  queued = a.queued;
  sound = a.sound;
  out = a.out;
  ascending = tt;
  made = a.made;
  ledger = a.ledger;
  entries = a.entries;
}

-- the call that ends a group says so of its step
pub ending_done : {E : Type 0} (r : Result Step E) (c d : CollectorState) (before now : Option Report)
    → ((a : ℕ) → out_of c.heap.shape a ≡ None) → IsFormed c → d.heap.made ≡ c.heap.made
    → d.heap.ledger ≡ c.heap.ledger → length d.heap.shape.weak.entries ≤ length c.heap.shape.weak.entries
    → IfOk r (λ step. EndsGroup step.handed step.finished now c d)
    → IfOk r (λ step. (step.units ≡ 1) × (step.reported ≡ true))
    → IfOk r (λ step. (f : ℕ → Option Bits) (outs : List (ℕ × ℕ)) → IsSound c f → IsQuietDone c f
    → AreOut c.heap.shape outs
    → Advances 1 c f before step d (flying_after step.handed f) (outs_after step.handed outs) now)
ending_done (Ok step) c d before now none formed made ledger entries ends told = λ f outs s rested are.
    let same : step ≡ record { units = 1; reported = true; finished = step.finished; handed = step.handed } =
    ap (λ (n : ℕ). record step { units = n }) told.0
    ∙ ap (λ (b : Bool). record { units = 1; reported = b; finished = step.finished; handed = step.handed }) told.1 in
    subst (λ (x : Step). Advances 1 c f before x d (flying_after x.handed f) (outs_after x.handed outs) now) (sym same)
    (ending_advances c d f s rested none outs are before now formed step.handed step.finished ends made ledger entries)
ending_done (Err why) c d before now none formed made ledger entries ends told = tt

-- nothing was done before the step that hands them over
pub ok_hands : {E : Type 0} (r : Result Step E) (c d : CollectorState) (f g : ℕ → Option Bits) (place : Option Report)
    → IsStill c f d g → IfOk r (λ step. AreJobs step.handed (jobs_told step place d.heap))
    → IfOk r (λ step. AreJobs step.handed (jobs_told step place c.heap))
ok_hands (Ok step) c d f g place still are = subst
    (λ (x : CollectorState). AreJobs step.handed (jobs_told step place x.heap)) still.same are
ok_hands (Err why) c d f g place still are = tt

-- memory is taken only where marking is to begin or a group is to end
pub err_ends : {E : Type 0} (r : Result Step E) (c d : CollectorState) (f g : ℕ → Option Bits) → IsStill c f d g
    → IsQuietDone d g → ((a : ℕ) → out_of d.heap.shape a ≡ None) → OnErr r (IsFormed d ⊎ IsAtStart d)
    → OnErr r (MayWantMemory c f)
err_ends (Ok step) c d f g still rested none may = tt
err_ends (Err why) c d f g still rested none may = elim may [
  | inl formed ↦ inr (end_before c f d g still (formed_rests d g rested formed, none))
  | inr start ↦ inl (subst IsAtStart still.same start)
]

-- one arena was swept
swept_one : (a : ℕ) (place : Option Report) (finished : Bool) → TellsSweep a place
    → sweeps_in (reports_of place finished) ≡ 1
swept_one a place finished told = ap (λ (o : Option Report). sweeps_in (reports_of o finished)) told.1 ∙ go finished
  where
    go : (b : Bool) → sweeps_in (reports_of (Some (report.Swept a told.0)) b) ≡ 1
    go true = refl
    go false = refl

-- the arena that was due was taken in, and its report was put into its place
pub due_into : (c d : CollectorState) (f g : ℕ → Option Bits) (outs : List (ℕ × ℕ)) (before place : Option Report)
    (finished : Bool) (step : Step) → step ≡ record { units = 1; reported = true; finished = finished; handed = None }
    → (a : ℕ) → IsLowestOut c.heap.shape a → IsQuietDone c f → TellsSweep a place
    → DoesUnit c f (reports_of place finished) d g → units_left d g < units_left c f
    → units_to_come d g ≤ units_to_come c f → (finished ≡ true) ↔ (d.run ≡ None) → IsSound d g
    → AreOut d.heap.shape outs → d.heap.made ≡ c.heap.made → d.heap.ledger ≡ c.heap.ledger
    → d.heap.shape.weak ≡ c.heap.shape.weak → IsStarted c
    → Advances 1 c f before step d (flying_after step.handed g) (outs_after step.handed outs) place
due_into c d f g outs before place finished step step_is a low rested swept does less keeps over sound out made ledger
    weak started =
    let some : is_some place ≡ true = ap (λ (o : Option Report). is_some o) swept.1 in
    let other : is_group_end place ≡ false = ap (λ (o : Option Report). is_group_end o) swept.1 in
    let no_start : is_start place ≡ false = ap (λ (o : Option Report). is_start o) swept.1 in
    let one = swept_one a place finished swept in
    one_advances c d f g outs place None finished before place step
    (step_is ∙ ap (λ (b : Bool). record { units = 1; reported = b; finished = finished; handed = None }) (sym some))
    (sym (ap (λ (b : Bool). if b then place else before) some)) (record {
      done = does;
      less = less;
      falls = λ e. omega (arith, keeps, one);
      starts = λ is. absurd (cc (is, no_start));
      finished = over;
      rests = λ e. rested;
      started_where = never (is_start place) (IsAtStart c) no_start (not_at_start c started);
      ended_where = never (is_group_end place) (IsAtGroupEnd c f) other (λ at. none_lowest c.heap.shape a at.1 low);
      due_where = λ rests b lowest. subst (λ (n : ℕ). TellsSweep n place) (one_lowest c.heap.shape a b low lowest)
          swept;
      coloured = no_colours place c f d.heap.colours other;
      jobs = no_jobs place c.heap other;
      sound = sound;
      out = out;
      ascending = tt;
      made = made;
      ledger = ledger;
      entries = let e = ap (λ ws. length ws.entries) weak in omega (arith, e);
    })

-- and nothing was handed to sweeping
pub due_hands : (c : CollectorState) (place : Option Report) (finished : Bool) (step : Step)
    → step ≡ record { units = 1; reported = true; finished = finished; handed = None } → (a : ℕ) → TellsSweep a place
    → AreJobs step.handed (jobs_told step place c.heap)
due_hands c place finished step step_is a swept = subst (λ (s : Step). AreJobs s.handed (jobs_told s place c.heap))
    (sym step_is)
    (no_jobs place c.heap (ap (λ (o : Option Report). is_group_end o) swept.1))

pub ok_still : {E : Type 0} (r : Result Step E) (limit : ℕ) (c d e : CollectorState) (f g : ℕ → Option Bits)
    (outs : List (ℕ × ℕ)) (before place : Option Report) → 0 < limit → IsStill c f d g → IsSound d g → IsQuietDone d g
    → AreOut d.heap.shape outs
    → IfOk r (λ step. (h : ℕ → Option Bits) (rest : List (ℕ × ℕ)) → IsSound d h → IsQuietDone d h
    → AreOut d.heap.shape rest
    → Advances 1 d h before step e (flying_after step.handed h) (outs_after step.handed rest) place)
    → IfOk r
    (λ step. Advances limit c f before step e (flying_after step.handed g) (outs_after step.handed outs) place)
ok_still (Ok step) limit c d e f g outs before place some still s rests are advances =
    still_advances limit c d e f g (flying_after step.handed g) (outs_after step.handed outs) before place step some
    still (advances g outs s rests are)
ok_still (Err why) limit c d e f g outs before place some still s rests are advances = tt
