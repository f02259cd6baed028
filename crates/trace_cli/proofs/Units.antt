-- Units one after another, with what is written of them.
use Rattle.std.proofs.Common.{◌≡◌, ◌≢◌, ◌↔◌, ◌⊎◌, ◌+◌, ◌-◌, ◌≤◌, ◌<◌, ◌^◌, arith, ℕ, Bool, true, false, List, [], ◌∷◌}
use Rattle.std.proofs.Common.{◌++◌, Option, Some, None, IsSome, is_some, inl, inr, refl, ap, sym, ◌∙◌, subst}
use Rattle.std.proofs.Common.{if◌then◌else◌}
use Rattle.std.specs.Prelude.{IsTrue}
use Rattle.std.specs.Io.KnownBytes.{Appends}
use Rattle.std.proofs.KnownBytes.{Appends-trans, Appends-nil}
use Rattle.std.proofs.lemmas.Grind.{flat_map-append}
use Rattle.std.proofs.lemmas.List.{append-nil, length-append}
use Rattle.gz_io.specs.Causes.{AppendsFront}
use Rattle.gz_names.specs.declared.replies.Report.{Report}
use Rattle.gz_names.specs.declared.replies.Report.TheVariants as report
use Rattle.cell_bits.specs.declared.bits.Bits.{Bits}
use Rattle.colour_defs.specs.World.{Preparation, World, first_tally}
use Rattle.colour_defs.specs.Laws.{IsValid}
use Rattle.colour_defs.specs.Lawful.{AreLawfulUnits}
use Rattle.colour_defs.specs.Units.{sweeps_in, unit_limit}
use Rattle.colour_defs.proofs.Tallies.{units_sweep}
use Rattle.slice_driver.specs.Collector.{CollectorState, RunState}
use Rattle.slice_driver.specs.Advances.{Advances, UnitsDone, tells_start, told}
use Rattle.slice_driver.specs.Left.{units_left}
use Rattle.slice_driver.specs.Represents.{Represents, going, prepared}
use Rattle.slice_driver.specs.Units.{is_start, reports_of, with_done}
use Rattle.slice_driver.specs.UnitsToCome.{units_to_come}
use Rattle.slice_driver.specs.Working.{IsAtStart}
use Rattle.slice_driver.specs.declared.advance.Step.{Step}
use Rattle.slice_driver.proofs.abstraction.Phases.{not_at_start, started_of}
use Rattle.trace_cli.specs.Headline.{report_lines}
use Rattle.trace_cli.specs.Pending.{Allows, after, done_of, limit_of}
use Rattle.trace_cli.specs.Standing.{MakesNone}
use Rattle.trace_cli.specs.Worlds.{EachWorld}
use Rattle.trace_cli.specs.Writing.{reports_in, BreaksInUnits, Goes, Lowers, StopsInUnits, WritesUnits}
use Rattle.trace_cli.specs.declared.pending.Pending.{Pending}
use Rattle.trace_cli.specs.declared.pending.Pending.TheVariants as pending
use Rattle.trace_cli.proofs.Preparing.{FromPreparing, prepared_alone, started, units_from, waits}
use Rattle.trace_cli.proofs.UnitBound.{sweeps_append}
use Rattle.trace_cli.proofs.Written.{report_lines-append, both_written, then_front_written}

units_append : (w u v : World) (xs ys : List (List Report)) → AreLawfulUnits w xs u → AreLawfulUnits u ys v
    → AreLawfulUnits w (xs ++ ys) v
units_append w u v [] ys e h = subst (λ (t : World). AreLawfulUnits t ys v) e h
units_append w u v (x ∷ xs) ys k h = (k.0, k.1, units_append k.0 u v xs ys k.2 h)

lines_append : (xs ys : List (List Report))
    → report_lines (reports_in (xs ++ ys)) ≡ report_lines (reports_in xs) ++ report_lines (reports_in ys)
lines_append xs ys =
    ap report_lines (flat_map-append (λ (u : List Report). u) xs ys)
    ∙ report_lines-append (reports_in xs) (reports_in ys)

-- a step tells that marking begins exactly where its reports say so first
start_said : (b : Bool) (place : Option Report) (finished : Bool) (rest : List Report)
    → (if b then reports_of place finished else []) ≡ report.Started ∷ rest
    → (if b then is_start place else false) ≡ true
start_said false place finished rest e = absurd (cc e)
start_said true None finished rest e = absurd (cc e)
start_said true (Some report.Started) finished rest e = refl
start_said true (Some (report.Groups groups)) finished rest e = absurd (cc e)
start_said true (Some (report.Ended zones grays names)) finished rest e = absurd (cc e)
start_said true (Some (report.Swept arena freed)) finished rest e = absurd (cc e)
start_said true (Some report.Done) finished rest e = absurd (cc e)
start_said true (Some (report.Stopped zones)) finished rest e = absurd (cc e)

said_start : (b : Bool) (place : Option Report) (finished : Bool) → (if b then is_start place else false) ≡ true
    → (b ≡ true) × ((if b then reports_of place finished else []) ≡ report.Started ∷ with_done finished)
said_start false place finished e = absurd (cc e)
said_start true None finished e = absurd (cc e)
said_start true (Some report.Started) finished e = (refl, refl)
said_start true (Some (report.Groups groups)) finished e = absurd (cc e)
said_start true (Some (report.Ended zones grays names)) finished e = absurd (cc e)
said_start true (Some (report.Swept arena freed)) finished e = absurd (cc e)
said_start true (Some report.Done) finished e = absurd (cc e)
said_start true (Some (report.Stopped zones)) finished e = absurd (cc e)

-- marking is to begin only where a collection is being prepared
start_prepared : (c : CollectorState) (f : ℕ → Option Bits) (w : World) → Represents c f w → IsAtStart c
    → w.preparing ≡ None → ⊥
start_prepared c f w (prepared r) at none = let is = r.phase.preparing_is in cc (none, is)
start_prepared c f w (going m) at none = not_at_start c (started_of c f w m (ap is_some at.run_is)) at

none_some : {X : Type 0} (o : Option X) → o ≡ None → IsSome o → ⊥
none_some None none some = cc some
none_some (Some x) none some = cc none

-- once marking began no collection is being prepared
no_start_in : (w v : World) (p : Preparation) (reports rest : List Report) → FromPreparing w p reports v
    → reports ≡ report.Started ∷ rest → IsSome v.preparing → ⊥
no_start_in w v p reports rest (waits same silent) says some = cc (silent, says)
no_start_in w v p reports rest (started more is none tally) says some = none_some v.preparing none some

-- and nothing told of it where one still is
start_in : (w v : World) (p : Preparation) (reports : List Report) → w.preparing ≡ Some p → FromPreparing w p reports v
    → v.preparing ≡ None → (rest : List Report) × (reports ≡ report.Started ∷ rest)
start_in w v p reports is (waits same silent) none =
    absurd (let was = ap (λ (x : World). x.preparing) same in cc (none, was, is))
start_in w v p reports is (started rest says gone tally) none = (rest, says)

begun_bound : (arenas last limit most units swept : ℕ) → units ≡ 1 → arenas + 1 + last ≤ limit
    → last + units + arenas ≤ most + (limit + swept)
begun_bound arenas last limit most units swept one bound = omega (arith, one, bound)

-- the units of a step, with what is written of them
module _ (limit : ℕ) (c d : CollectorState) (f g : ℕ → Option Bits) (outs : List (ℕ × ℕ)) (before place : Option Report)
    (step : Step) (a : Advances limit c f before step d g outs place) (w : World) (ok : IsValid w)
    (stands : Represents c f w) (p q : Option (List ℕ)) where
  abbrev did : UnitsDone w step.units (told step place) d g
  did = a.done w ok stands

  -- what they do, where a collection is being prepared
  from : (r : Preparation) → w.preparing ≡ Some r → FromPreparing w r (told step place) did.after
  from r is = subst (λ (rs : List Report). FromPreparing w r rs did.after) did.reports_are
      (units_from w r (prepared_alone c f w stands r is) did.units did.after did.done)

  abbrev Lowered : Type 0
  Lowered = Lowers w did.after (units_to_come c f) step.units (units_to_come d g) (told step place)

  -- a step that does not tell that marking began
  no_start : tells_start step place ≡ false → Lowered
  no_start none = record {
    goes = λ either. a.to_come none;
    starts = λ r is gone.
        absurd (let said = start_in w did.after r (told step place) is (from r is) gone in
        let begins : tells_start step place ≡ true =
        start_said step.reported place step.finished said.0 said.1 in
        cc (none, begins));
  }

  -- one that does
  at_start : tells_start step place ≡ true → Lowered
  at_start begins = record {
    goes = λ either. absurd (elim either [
      | inl none ↦ start_prepared c f w stands (a.started_where.0 begins) none
      | inr some ↦ still w.preparing refl some
    ]);
    starts = λ r is gone.
        begun_bound r.arenas (units_to_come d g) (unit_limit (first_tally w r)) (units_to_come c f) step.units
        (sweeps_in (told step place)) (a.one (said_start step.reported place step.finished begins).0)
        ((a.starts begins).within w r ok stands is);
  }
    where
      still : (o : Option Preparation) → w.preparing ≡ o → IsSome did.after.preparing → ⊥
      still None is some = start_prepared c f w stands (a.started_where.0 begins) is
      still (Some r) is some = no_start_in w did.after r (told step place) (with_done step.finished) (from r is)
          (said_start step.reported place step.finished begins).1 some

  lowered : Lowered
  lowered = by (tells_start step place) refl
    where
      by : (b : Bool) → tells_start step place ≡ b → Lowered
      by true is = at_start is
      by false is = no_start is

  pub step_writes : Appends p q (report_lines (told step place))
      → WritesUnits w d g (units_to_come c f) step.units p q
  step_writes written = record {
    units = did.units;
    number = did.number;
    after = did.after;
    done = did.done;
    valid = did.valid;
    represents = did.represents;
    prepared = λ r is. prepared_alone c f w stands r is;
    to_come = subst
        (λ (rs : List Report). Lowers w did.after (units_to_come c f) step.units (units_to_come d g) rs)
        (sym did.reports_are) lowered;
    written = subst (λ (rs : List Report). Appends p q (report_lines rs)) (sym did.reports_are) written;
  }

  pub step_breaks : AppendsFront p q (report_lines (told step place)) → BreaksInUnits w limit p q
  step_breaks written = record {
    units = did.units;
    most = omega (arith, did.number, a.most);
    after = did.after;
    done = did.done;
    written = subst (λ (rs : List Report). AppendsFront p q (report_lines rs)) (sym did.reports_are) written;
  }

-- what a step tells, by the test whether it tells nothing
told_by : (b : Bool) (reports : List Report) → b ≡ false → (if b then reports else []) ≡ []
told_by true reports e = absurd (cc e)
told_by false reports e = refl

all_by : (b : Bool) (reports : List Report) → b ≡ true → (if b then reports else []) ≡ reports
all_by true reports e = refl
all_by false reports e = absurd (cc e)

pub told_some : (step : Step) (place : Option Report) → step.reported ≡ true
    → told step place ≡ reports_of place step.finished
told_some step place e = all_by step.reported (reports_of place step.finished) e

-- a step that tells nothing writes nothing
pub silent_written : (step : Step) (place : Option Report) (p : Option (List ℕ)) → step.reported ≡ false
    → Appends p p (report_lines (told step place))
silent_written step place p e = subst (λ (rs : List Report). Appends p p (report_lines rs))
    (sym (told_by step.reported (reports_of place step.finished) e)) (Appends-nil p)

-- none yet
pub no_units : (w : World) (c : CollectorState) (flown : ℕ → Option Bits) (p : Option (List ℕ)) → IsValid w
    → Represents c flown w → WritesUnits w c flown (units_to_come c flown) 0 p p
no_units w c flown p ok stands = record {
  units = [];
  number = refl;
  after = w;
  done = refl;
  valid = ok;
  represents = stands;
  prepared = λ r is. prepared_alone c flown w stands r is;
  to_come = record { goes = λ either. omega arith; starts = λ r is none. absurd (cc (is, none)) };
  written = Appends-nil p;
}

-- what is lowered by units and then by more, where a collection was being prepared and where none was
goes_sum : (most n rest m last one two all : ℕ) → all ≡ one + two → rest + n ≤ most + one → last + m ≤ rest + two
    → last + (n + m) ≤ most + all
goes_sum most n rest m last one two all sum first second = omega (arith, sum, first, second)

starts_later : (most n rest m last one two all arenas limit same : ℕ) → all ≡ one + two → rest + n ≤ most + one
    → last + m + arenas ≤ rest + (limit + two) → limit ≡ same → last + (n + m) + arenas ≤ most + (same + all)
starts_later most n rest m last one two all arenas limit same sum first second alike =
    omega (arith, sum, first, second, alike)

starts_before : (most n rest m last one two all arenas limit : ℕ) → all ≡ one + two
    → rest + n + arenas ≤ most + (limit + one) → last + m ≤ rest + two
    → last + (n + m) + arenas ≤ most + (limit + all)
starts_before most n rest m last one two all arenas limit sum first second = omega (arith, sum, first, second)

module _ (w mid v : World) (most n rest m last : ℕ) (xs ys all : List Report)
    (sum : sweeps_in all ≡ sweeps_in xs + sweeps_in ys) (one : Lowers w mid most n rest xs)
    (two : Lowers mid v rest m last ys) where
  none_before : w.preparing ≡ None → mid.preparing ≡ None → Lowers w v most (n + m) last all
  none_before none now = record {
    goes = λ either. goes_sum most n rest m last (sweeps_in xs) (sweeps_in ys) (sweeps_in all) sum (one.goes (inl none))
        (two.goes (inl now));
    starts = λ p is gone. absurd (cc (none, is));
  }

  some_after : (p : Preparation) → w.preparing ≡ Some p → (w.preparing ≡ None) ⊎ IsSome v.preparing
      → (mid.preparing ≡ None) ⊎ IsSome v.preparing
  some_after p is (inl none) = absurd (cc (none, is))
  some_after p is (inr some) = inr some

  some_before : (p : Preparation) → w.preparing ≡ Some p → (mid.preparing ≡ None → v.preparing ≡ None)
      → FromPreparing w p xs mid → Lowers w v most (n + m) last all
  some_before p is none_more (waits same silent) =
      let here : mid.preparing ≡ w.preparing = ap (λ (x : World). x.preparing) same in
      let first = one.goes (inr (ap is_some (here ∙ is))) in
      record {
        goes = λ either. goes_sum most n rest m last (sweeps_in xs) (sweeps_in ys) (sweeps_in all) sum first
            (two.goes (some_after p is either));
        starts = λ q at gone. starts_later most n rest m last (sweeps_in xs) (sweeps_in ys) (sweeps_in all) q.arenas
            (unit_limit (first_tally mid q)) (unit_limit (first_tally w q)) sum first
            (two.starts q (here ∙ at) gone) (ap (λ (x : World). unit_limit (first_tally x q)) same);
      }
  some_before p is none_more (started more says gone tally) = record {
    goes = λ either. absurd (elim either [
      | inl none ↦ cc (none, is)
      | inr some ↦ none_some v.preparing (none_more gone) some
    ]);
    starts = λ q at over. starts_before most n rest m last (sweeps_in xs) (sweeps_in ys) (sweeps_in all) q.arenas
        (unit_limit (first_tally w q)) sum (one.starts q at gone) (two.goes (inl gone));
  }

-- more units
pub more_units : (w : World) (c d : CollectorState) (f g : ℕ → Option Bits) (most n m : ℕ) (p q r : Option (List ℕ)) →
    (h : WritesUnits w c f most n p q) → WritesUnits h.after d g (units_to_come c f) m q r
    → WritesUnits w d g most (n + m) p r
more_units w c d f g most n m p q r h k = record {
  units = h.units ++ k.units;
  number = omega (arith, length-append h.units k.units, h.number, k.number);
  after = k.after;
  done = units_append w h.after k.after h.units k.units h.done k.done;
  valid = k.valid;
  represents = k.represents;
  prepared = h.prepared;
  to_come = both w.preparing refl;
  written =
      both_written p q r (report_lines (reports_in h.units)) (report_lines (reports_in k.units)) _
      (lines_append h.units k.units) h.written k.written;
}
  where
    none_more : h.after.preparing ≡ None → k.after.preparing ≡ None
    none_more none = (units_sweep h.after k.units k.after none k.done).none_prepared

    both : (o : Option Preparation) → w.preparing ≡ o
        → Lowers w k.after most (n + m) (units_to_come d g) (reports_in (h.units ++ k.units))
    both None is =
        none_before w h.after k.after most n (units_to_come c f) m (units_to_come d g) (reports_in h.units)
        (reports_in k.units) (reports_in (h.units ++ k.units)) (sweeps_append h.units k.units) h.to_come k.to_come
        is (units_sweep w h.units h.after is h.done).none_prepared
    both (Some o) is =
        some_before w h.after k.after most n (units_to_come c f) m (units_to_come d g) (reports_in h.units)
        (reports_in k.units) (reports_in (h.units ++ k.units)) (sweeps_append h.units k.units) h.to_come k.to_come
        o is none_more (units_from w o (h.prepared o is) h.units h.after h.done)

pub more_breaks : (w : World) (c : CollectorState) (f : ℕ → Option Bits) (most n m : ℕ) (p q r : Option (List ℕ)) →
    (h : WritesUnits w c f most n p q) → BreaksInUnits h.after m q r → BreaksInUnits w (n + m) p r
more_breaks w c f most n m p q r h k = record {
  units = h.units ++ k.units;
  most = omega (arith, length-append h.units k.units, h.number, k.most);
  after = k.after;
  done = units_append w h.after k.after h.units k.units h.done k.done;
  written =
      then_front_written p q r (report_lines (reports_in h.units)) (report_lines (reports_in k.units)) _
      (lines_append h.units k.units) h.written k.written;
}

pub more_stops : (w : World) (c : CollectorState) (f : ℕ → Option Bits) (most n m : ℕ) (p q r : Option (List ℕ)) →
    (h : WritesUnits w c f most n p q) → StopsInUnits h.after m q r → StopsInUnits w (n + m) p r
more_stops w c f most n m p q r h k = record {
  units = h.units ++ k.units;
  most = omega (arith, length-append h.units k.units, h.number, k.most);
  after = k.after;
  done = units_append w h.after k.after h.units k.units h.done k.done;
  written =
      both_written p q r (report_lines (reports_in h.units)) (report_lines (reports_in k.units)) _
      (lines_append h.units k.units) h.written k.written;
}

pub stops_after : (w : World) (c : CollectorState) (f : ℕ → Option Bits) (most n : ℕ) (p q r : Option (List ℕ)) →
    (h : WritesUnits w c f most n p q) → Appends q r [] → StopsInUnits w n p r
stops_after w c f most n p q r h k = record {
  units = h.units;
  most = omega (arith, h.number);
  after = h.after;
  done = h.done;
  written = rw append-nil at (Appends-trans p q r (report_lines (reports_in h.units)) [] h.written k);
}

-- none, where memory was wanted at once
pub none_stopped : (w : World) (p q : Option (List ℕ)) → Appends p q [] → StopsInUnits w 0 p q
none_stopped w p q kept = record { units = []; most = omega arith; after = w; done = refl; written = kept }

-- a collection that does not run
pub not_running : (b : Bool) (r : Option RunState) → IsTrue b ↔ IsSome r → b ≡ false → r ≡ None
not_running b None h e = refl
not_running b (Some x) h e = absurd (let t : b ≡ true = h.1 refl in cc (t, e))

-- counts of units, one after another
after_none : (left : Pending) → after 0 left ≡ left
after_none pending.Collect = refl
after_none (pending.Slice more done) =
    let fewer : more - 0 ≡ more = omega arith in
    let longer : done + 0 ≡ done = omega arith in
    ap (λ (k : ℕ). pending.Slice k (done + 0)) fewer ∙ ap (λ (k : ℕ). pending.Slice more k) longer
after_none pending.Reset = refl
after_none (pending.Finish done) =
    let longer : done + 0 ≡ done = omega arith in ap (λ (k : ℕ). pending.Finish k) longer

after_both : (left : Pending) (n m : ℕ) → after m (after n left) ≡ after (n + m) left
after_both pending.Collect n m = refl
after_both (pending.Slice more done) n m =
    let fewer : more - n - m ≡ more - (n + m) = omega arith in
    let longer : done + n + m ≡ done + (n + m) = omega arith in
    ap (λ (k : ℕ). pending.Slice k (done + n + m)) fewer
    ∙ ap (λ (k : ℕ). pending.Slice (more - (n + m)) k) longer
after_both pending.Reset n m = refl
after_both (pending.Finish done) n m =
    let longer : done + n + m ≡ done + (n + m) = omega arith in ap (λ (k : ℕ). pending.Finish k) longer

-- and a line that asks for units asks for units on
pub after_units : (left : Pending) (n : ℕ) → left ≢ pending.Reset → after n left ≢ pending.Reset
after_units pending.Collect n other e = cc e
after_units (pending.Slice more done) n other e = cc e
after_units (pending.Finish done) n other e = cc e
after_units pending.Reset n other e = other refl

pub allows_none : (left : Pending) → Allows left 0
allows_none pending.Collect = tt
allows_none (pending.Slice more done) = omega arith
allows_none (pending.Finish done) = tt
allows_none pending.Reset = tt

allows_limit : (left : Pending) (n : ℕ) → n ≤ limit_of left → Allows left n
allows_limit pending.Collect n le = tt
allows_limit (pending.Slice more done) n le = le
allows_limit (pending.Finish done) n le = tt
allows_limit pending.Reset n le = tt

allows_both : (left : Pending) (n m : ℕ) → Allows left n → Allows (after n left) m → Allows left (n + m)
allows_both pending.Collect n m a b = tt
allows_both (pending.Slice more done) n m a b = omega (arith, a, b)
allows_both (pending.Finish done) n m a b = tt
allows_both pending.Reset n m a b = tt

-- the units of a step, counted
pub step_goes : (limit : ℕ) (left : Pending) (c d : CollectorState) (f g : ℕ → Option Bits) (outs : List (ℕ × ℕ))
    (before place : Option Report) (step : Step) (p q : Option (List ℕ)) → limit ≡ limit_of left
    → Advances limit c f before step d g outs place → Appends p q (report_lines (told step place))
    → Goes c f left d g (after step.units left) p q
step_goes limit left c d f g outs before place step p q e a written = record {
  count = step.units;
  left_is = refl;
  most = allows_limit left step.units (omega (arith, e, a.most));
  writes = λ w ok stands. step_writes limit c d f g outs before place step a w ok stands p q written;
  less = a.less;
}

pub step_fronts : (limit : ℕ) (left : Pending) (c d : CollectorState) (f g : ℕ → Option Bits) (outs : List (ℕ × ℕ))
    (before place : Option Report) (step : Step) (p q : Option (List ℕ)) → limit ≡ limit_of left
    → Advances limit c f before step d g outs place → AppendsFront p q (report_lines (told step place))
    → EachWorld c f (λ w. (n : ℕ) × Allows left n × BreaksInUnits w n p q)
step_fronts limit left c d f g outs before place step p q e a written w ok stands = (
  limit,
  allows_limit left limit (omega (arith, e)),
  step_breaks limit c d f g outs before place step a w ok stands p q written,
)

-- the same bits and the same that is left
pub goes_as : (left now l : Pending) (c d : CollectorState) (f g h : ℕ → Option Bits) (p q : Option (List ℕ)) → h ≡ g
    → l ≡ now → Goes c f left d g now p q → Goes c f left d h l p q
goes_as left now l c d f g h p q e k a =
    subst (λ (x : ℕ → Option Bits). Goes c f left d x l p q) (sym e)
    (subst (λ (x : Pending). Goes c f left d g x p q) (sym k) a)

-- no unit yet
pub none_gone : (left : Pending) (c : CollectorState) (f : ℕ → Option Bits) (p : Option (List ℕ))
    → Goes c f left c f left p p
none_gone left c f p = record {
  count = 0;
  left_is = sym (after_none left);
  most = allows_none left;
  writes = λ w ok stands. no_units w c f p ok stands;
  less = omega arith;
}

-- more of them
pub goes_on : (left mid now : Pending) (c d e : CollectorState) (f g h : ℕ → Option Bits) (p q r : Option (List ℕ))
    → Goes c f left d g mid p q → Goes d g mid e h now q r → Goes c f left e h now p r
goes_on left mid now c d e f g h p q r a b = record {
  count = a.count + b.count;
  left_is = b.left_is ∙ ap (after b.count) a.left_is ∙ after_both left a.count b.count;
  most = allows_both left a.count b.count a.most (subst (λ (m : Pending). Allows m b.count) a.left_is b.most);
  writes = λ w ok stands. (let u = a.writes w ok stands in
      more_units w d e g h (units_to_come c f) a.count b.count p q r u (b.writes u.after u.valid u.represents));
  less = omega (arith, a.less, b.less);
}

-- where a prefix of the next units' reports was written, or memory was wanted for them
pub goes_breaks : (left mid : Pending) (c d : CollectorState) (f g : ℕ → Option Bits) (p q r : Option (List ℕ))
    → Goes c f left d g mid p q → EachWorld d g (λ w. (n : ℕ) × Allows mid n × BreaksInUnits w n q r)
    → EachWorld c f (λ w. (n : ℕ) × Allows left n × BreaksInUnits w n p r)
goes_breaks left mid c d f g p q r a breaks w ok stands =
    let u = a.writes w ok stands in
    let b = breaks u.after u.valid u.represents in (
      a.count + b.0,
      allows_both left a.count b.0 a.most (subst (λ (m : Pending). Allows m b.0) a.left_is b.1),
      more_breaks w d g (units_to_come c f) a.count b.0 p q r u b.2,
    )

pub goes_stops : (left mid : Pending) (c d : CollectorState) (f g : ℕ → Option Bits) (p q r : Option (List ℕ))
    → Goes c f left d g mid p q → Appends q r []
    → EachWorld c f (λ w. (n : ℕ) × Allows left n × StopsInUnits w n p r)
goes_stops left mid c d f g p q r a kept w ok stands =
    (a.count, a.most, stops_after w d g (units_to_come c f) a.count p q r (a.writes w ok stands) kept)

-- what is counted and what is left stay together below 2^64
goes_done : (left : Pending) (n : ℕ) → done_of (after n left) ≤ done_of left + n
goes_done pending.Collect n = omega arith
goes_done (pending.Slice more done) n = omega arith
goes_done (pending.Finish done) n = omega arith
goes_done pending.Reset n = omega arith

pub goes_few : (left now : Pending) (c d : CollectorState) (f g : ℕ → Option Bits) (p q : Option (List ℕ))
    → Goes c f left d g now p q → done_of left + units_left c f < 2 ^ 64 → done_of now + units_left d g < 2 ^ 64
goes_few left now c d f g p q a small =
    let most = goes_done left a.count in
    subst (λ (x : Pending). done_of x + units_left d g < 2 ^ 64) (sym a.left_is) (omega (arith, most, a.less, small))

pub makes_none : (c d e : CollectorState) → MakesNone c d → MakesNone d e → MakesNone c e
makes_none c d e a b = record {
  made = b.made ∙ a.made;
  entries = omega (arith, a.entries, b.entries);
  ledger = b.ledger ∙ a.ledger;
}

-- nor where nothing was done
pub makes_same : (c d : CollectorState) → d ≡ c → MakesNone c d
makes_same c d same = subst (λ (x : CollectorState). MakesNone c x) (sym same)
    (record { made = refl; entries = omega arith; ledger = refl })
