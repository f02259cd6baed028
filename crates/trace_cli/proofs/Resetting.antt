-- Giving a collection up, step by step, with what is written of it.
use Rattle.std.proofs.Common.{◌≡◌, ◌↔◌, ◌⊎◌, ℕ, List, [], ◌∷◌, ◌++◌, Bool, true, false, Option, Some, None, IsSome}
use Rattle.std.proofs.Common.{arith, inl, inr, refl, ap, sym, ◌∙◌, subst, append_assoc}
use Rattle.std.specs.Io.KnownBytes.{Appends}
use Rattle.std.proofs.KnownBytes.{Appends-nil, Appends-trans}
use Rattle.std.proofs.lemmas.List.{append-nil}
use Rattle.gz_io.specs.Causes.{AppendsFront}
use Rattle.gz_names.specs.Zones.{zones_in}
use Rattle.gz_names.specs.declared.commands.Cmd.TheVariants as command
use Rattle.gz_names.specs.declared.names.Name.{Name}
use Rattle.gz_names.specs.declared.replies.Reply.TheVariants as reply
use Rattle.gz_names.specs.declared.replies.Report.{Report}
use Rattle.gz_names.specs.declared.replies.Report.TheVariants as report
use Rattle.gz_names.specs.declared.zone_sets.ZoneSet.{ZoneSet}
use Rattle.cell_bits.specs.declared.bits.Bits.{Bits}
use Rattle.trace_lang.specs.Texts.{reply_text, line_of}
use Rattle.colour_defs.specs.Laws.{IsValid}
use Rattle.colour_defs.specs.Lawful.{AreLawfulSweeps, IsLawfulUnit, IsRunning, Resets, Stops, last, says}
use Rattle.colour_defs.specs.World.{World}
use Rattle.colour_defs.proofs.ValidReports.{unit_valid}
use Rattle.heap_core.specs.Shape.{Shape, out_in, out_of}
use Rattle.slice_driver.specs.Advances.{AreOut}
use Rattle.slice_driver.specs.Collector.{CollectorState, RunState}
use Rattle.slice_driver.specs.Represents.{Represents}
use Rattle.slice_driver.specs.Resets.{GivesUp}
use Rattle.slice_driver.specs.Units.{DoesUnit, TellsSweep, reports_of}
use Rattle.trace_cli.specs.Headline.{answer_lines, report_lines, IsAccepted, WritesAnswer, WritesFront, WritesStart}
use Rattle.trace_cli.specs.Standing.{MakesNone}
use Rattle.trace_cli.specs.Worlds.{EachWorld}
use Rattle.trace_cli.specs.Writing.{BreaksInReset, GoesOnReset, WritesSweeps}
use Rattle.trace_cli.proofs.Flights.{idle_world, not_both, running_world}
use Rattle.trace_cli.proofs.UnitBound.{idle_within}
use Rattle.trace_cli.proofs.Written.{both_written, report_lines-append, then_front_written}

-- sweeps one after another, and a reset after some
sweeps_append : (w u v : World) (xs ys : List Report) → AreLawfulSweeps w xs u → AreLawfulSweeps u ys v
    → AreLawfulSweeps w (xs ++ ys) v
sweeps_append w u v [] ys same more = subst (λ (t : World). AreLawfulSweeps t ys v) same more
sweeps_append w u v (report.Swept arena freed ∷ xs) ys (t, one, rest) more =
    (t, one, sweeps_append t u v xs ys rest more)
sweeps_append w u v (report.Started ∷ xs) ys none more = absurd none
sweeps_append w u v (report.Groups groups ∷ xs) ys none more = absurd none
sweeps_append w u v (report.Ended zones grays told ∷ xs) ys none more = absurd none
sweeps_append w u v (report.Done ∷ xs) ys none more = absurd none
sweeps_append w u v (report.Stopped zones ∷ xs) ys none more = absurd none

resets_after : (w u v : World) (xs ys : List Report) → IsRunning w → AreLawfulSweeps w xs u → Resets u ys v
    → Resets w (xs ++ ys) v
resets_after w u v xs ys running swept r = record {
  running = running;
  sweeps = xs ++ r.sweeps;
  after = r.after;
  swept = sweeps_append w u r.after xs r.sweeps swept r.swept;
  final = r.final;
  ends = r.ends;
  reports_are = ap (λ (t : List Report). xs ++ t) r.reports_are ∙ sym (append_assoc xs r.sweeps (r.final ∷ []));
}

-- what a step of a reset reports
abbrev Steps : World → List Report → World → Type 0
Steps w reports v = AreLawfulSweeps w reports v ⊎ Resets w reports v

steps_after : (w u v : World) (xs ys : List Report) → IsRunning w → AreLawfulSweeps w xs u → Steps u ys v
    → Steps w (xs ++ ys) v
steps_after w u v xs ys running swept (inl more) = inl (sweeps_append w u v xs ys swept more)
steps_after w u v xs ys running swept (inr r) = inr (resets_after w u v xs ys running swept r)

is_idle : (o : Option RunState) → o ≡ None → IsSome o → ⊥
is_idle None none some = cc some
is_idle (Some r) none some = cc none

some_or_none : (o : Option RunState) → IsSome o ⊎ (o ≡ None)
some_or_none None = inr refl
some_or_none (Some r) = inl refl

-- what was written of it so far, and more
pub sweeps_more : (w : World) (c d : CollectorState) (f g : ℕ → Option Bits) (p q r : Option (List ℕ)) → IsRunning w
    → WritesSweeps w c f p q → GoesOnReset c f d g q r → WritesSweeps w d g p r
sweeps_more w c d f g p q r running h more = by h.done
  where
    going_on : AreLawfulSweeps w h.reports h.after → IsSome c.run → WritesSweeps w d g p r
    going_on swept some =
        let k = more.writes some h.after h.valid h.represents in record {
          reports = h.reports ++ k.reports;
          after = k.after;
          done = elim k.done [
            | inl s ↦ inl (sweeps_append w h.after k.after h.reports k.reports swept s.0, s.1)
            | inr s ↦ inr (resets_after w h.after k.after h.reports k.reports running swept s.0, s.1)
          ];
          valid = k.valid;
          represents = k.represents;
          written = both_written p q r (report_lines h.reports) (report_lines k.reports) _
              (report_lines-append h.reports k.reports) h.written k.written;
        }

    by : (AreLawfulSweeps w h.reports h.after × IsSome c.run) ⊎ (Resets w h.reports h.after × (c.run ≡ None))
        → WritesSweeps w d g p r
    by (inl s) = going_on s.0 s.1
    by (inr s) =
        let still = more.none s.1 in record {
          reports = h.reports;
          after = h.after;
          done = inr (s.0, ap (λ (x : CollectorState). x.run) still.0 ∙ s.1);
          valid = h.valid;
          represents = subst (λ (x : CollectorState). Represents x g h.after) (sym still.0)
              (subst (λ (x : ℕ → Option Bits). Represents c x h.after) (sym still.1) h.represents);
          written = rw append-nil at (Appends-trans p q r (report_lines h.reports) [] h.written still.2);
        }

-- and a prefix of more
pub sweeps_break : (w : World) (c : CollectorState) (f : ℕ → Option Bits) (p q r : Option (List ℕ)) → IsRunning w
    → (h : WritesSweeps w c f p q) → BreaksInReset h.after q r → BreaksInReset w p r
sweeps_break w c f p q r running h more = by h.done
  where
    by : (AreLawfulSweeps w h.reports h.after × IsSome c.run) ⊎ (Resets w h.reports h.after × (c.run ≡ None))
        → BreaksInReset w p r
    by (inl s) = record {
      running = running;
      reports = h.reports ++ more.reports;
      after = more.after;
      done = steps_after w h.after more.after h.reports more.reports running s.0 more.done;
      written = then_front_written p q r (report_lines h.reports) (report_lines more.reports) _
          (report_lines-append h.reports more.reports) h.written more.written;
    }
    by (inr s) = absurd (not_both h.after (idle_world c f h.after h.represents s.1) more.running)

-- nothing of it yet
pub no_sweeps : (w : World) (c : CollectorState) (f : ℕ → Option Bits) (p : Option (List ℕ)) → IsSome c.run → IsValid w
    → Represents c f w → WritesSweeps w c f p p
no_sweeps w c f p some ok stands = record {
  reports = [];
  after = w;
  done = inl (refl, some);
  valid = ok;
  represents = stands;
  written = Appends-nil p;
}

pub none_reset : (c : CollectorState) (f : ℕ → Option Bits) (p : Option (List ℕ)) → GoesOnReset c f c f p p
none_reset c f p = record {
  writes = λ some w ok stands. no_sweeps w c f p some ok stands;
  none = λ none. (refl, refl, Appends-nil p);
}

-- steps one after another, in each world
pub resets_on : (c d e : CollectorState) (f g h : ℕ → Option Bits) (p q r : Option (List ℕ)) → GoesOnReset c f d g p q
    → GoesOnReset d g e h q r → GoesOnReset c f e h p r
resets_on c d e f g h p q r one two = record {
  writes = λ some w ok stands.
      sweeps_more w d e g h p q r (running_world c f w stands some) (one.writes some w ok stands) two;
  none = λ idle.
      (let first = one.none idle in
      let second = two.none (ap (λ (x : CollectorState). x.run) first.0 ∙ idle) in (
        second.0 ∙ first.0,
        second.1 ∙ first.1,
        rw append-nil at (Appends-trans p q r [] [] first.2 second.2),
      ));
}

pub breaks_on : (c d : CollectorState) (f g : ℕ → Option Bits) (p q r : Option (List ℕ)) → GoesOnReset c f d g p q
    → EachWorld d g (λ w. BreaksInReset w q r) → EachWorld c f (λ w. BreaksInReset w p r)
breaks_on c d f g p q r one breaks w ok stands = by (some_or_none c.run)
  where
    by : IsSome c.run ⊎ (c.run ≡ None) → BreaksInReset w p r
    by (inl some) =
        let a = one.writes some w ok stands in
        sweeps_break w d g p q r (running_world c f w stands some) a (breaks a.after a.valid a.represents)
    by (inr idle) =
        let still = one.none idle in
        let here = breaks w ok (subst (λ (x : CollectorState). Represents x g w) (sym still.0)
        (subst (λ (x : ℕ → Option Bits). Represents c x w) (sym still.1) stands)) in
        absurd (not_both w (idle_world c f w stands idle) here.running)

-- an arena came in, and the collection goes on, or is over with it
swept_on : {w v : World} {a : ℕ} {freed : List Name} → IsLawfulUnit w (report.Swept a freed ∷ []) v
    → AreLawfulSweeps w (report.Swept a freed ∷ []) v
swept_on {w} {v} {a} {freed} (says running no_done law not_over) = (v, law, refl)

swept_over : {w v : World} {a : ℕ} {freed : List Name} → IsLawfulUnit w (report.Swept a freed ∷ report.Done ∷ []) v
    → Resets w (report.Swept a freed ∷ report.Done ∷ []) v
swept_over {w} {v} {a} {freed} (last {r} {u} running no_done law over) = record {
  running = running;
  sweeps = report.Swept a freed ∷ [];
  after = u;
  swept = (u, law, refl);
  final = report.Done;
  ends = over;
  reports_are = refl;
}

still_some : (o : Option RunState) → (o ≡ None → ⊥) → IsSome o
still_some None h = absurd (h refl)
still_some (Some r) h = refl

took : (w v : World) (d : CollectorState) (a : ℕ) (place : Option Report) (over : Bool) → TellsSweep a place
    → (over ≡ true) ↔ (d.run ≡ None) → IsLawfulUnit w (reports_of place over) v
    → (AreLawfulSweeps w (reports_of place over) v × IsSome d.run)
    ⊎ (Resets w (reports_of place over) v × (d.run ≡ None))
took w v d a place false tells ends unit = inl (
  subst (λ (o : Option Report). AreLawfulSweeps w (reports_of o false) v) (sym tells.1)
      (swept_on (subst (λ (o : Option Report). IsLawfulUnit w (reports_of o false) v) tells.1 unit)),
  still_some d.run (λ none. cc (ends.1 none)),
)
took w v d a place true tells ends unit = inr (
  subst (λ (o : Option Report). Resets w (reports_of o true) v) (sym tells.1)
      (swept_over (subst (λ (o : Option Report). IsLawfulUnit w (reports_of o true) v) tells.1 unit)),
  ends.0 refl,
)

module _ (c d : CollectorState) (f g : ℕ → Option Bits) (a : ℕ) (place : Option Report) (over : Bool)
    (p q : Option (List ℕ)) (runs : IsSome c.run) (tells : TellsSweep a place) (ends : (over ≡ true) ↔ (d.run ≡ None))
    (does : DoesUnit c f (reports_of place over) d g) where
  pub taken_on : Appends p q (report_lines (reports_of place over)) → GoesOnReset c f d g p q
  taken_on written = record {
    writes = λ some w ok stands.
        (let did = does w ok stands in
        record {
          reports = reports_of place over;
          after = did.0;
          done = took w did.0 d a place over tells ends did.1;
          valid = unit_valid w ok did.1;
          represents = did.2;
          written = written;
        });
    none = λ idle. absurd (is_idle c.run idle runs);
  }

  pub taken_breaks : AppendsFront p q (report_lines (reports_of place over)) → EachWorld c f (λ w. BreaksInReset w p q)
  taken_breaks written w ok stands =
      let did = does w ok stands in record {
        running = running_world c f w stands runs;
        reports = reports_of place over;
        after = did.0;
        done = elim (took w did.0 d a place over tells ends did.1) [ inl s ↦ inl s.0 | inr s ↦ inr s.0 ];
        written = written;
      }

-- the table of weak entries is as it was
pub weak_kept : (c d : CollectorState) → d.heap.made ≡ c.heap.made → d.heap.ledger ≡ c.heap.ledger
    → d.heap.shape.weak ≡ c.heap.shape.weak → MakesNone c d
weak_kept c d made ledger weak = record {
  made = made;
  entries = rw weak (omega arith);
  ledger = ledger;
}

-- a collection was given up, where no arena is out
stopped : (w v : World) (zones : ZoneSet) → Stops w (zones_in zones) v → Resets w (report.Stopped zones ∷ []) v
stopped w v zones stops = record {
  running = stops.running;
  sweeps = [];
  after = w;
  swept = refl;
  final = report.Stopped zones;
  ends = stops;
  reports_are = refl;
}

module _ (c d : CollectorState) (f g : ℕ → Option Bits) (zones : ZoneSet) (p q : Option (List ℕ))
    (runs : IsSome c.run) (gives : GivesUp c f zones d g) where
  pub given_up : Appends p q (report_lines (report.Stopped zones ∷ [])) → GoesOnReset c f d g p q
  given_up written = record {
    writes = λ some w ok stands.
        (let did = gives.stops w ok stands in
        record {
          reports = report.Stopped zones ∷ [];
          after = did.0;
          done = inr (stopped w did.0 zones did.1, gives.idle);
          valid = did.2;
          represents = did.3;
          written = written;
        });
    none = λ idle. absurd (is_idle c.run idle runs);
  }

  pub given_breaks : AppendsFront p q (report_lines (report.Stopped zones ∷ []))
      → EachWorld c f (λ w. BreaksInReset w p q)
  given_breaks written w ok stands =
      let did = gives.stops w ok stands in record {
        running = running_world c f w stands runs;
        reports = report.Stopped zones ∷ [];
        after = did.0;
        done = inr (stopped w did.0 zones did.1);
        written = written;
      }

pub out_freed : (s : Shape) (outs : List (ℕ × ℕ)) → ((a : ℕ) → out_of s a ≡ None) → AreOut s outs
out_freed s outs none_out = record {
  freed = λ a word has arena bits at out.
      absurd (let none = none_out a in
      let here : out_of s a ≡ arena.out = ap out_in at in
      cc (none, here, out));
}

all_done : (w : World) (d : CollectorState) (g : ℕ → Option Bits) (p q : Option (List ℕ)) (h : WritesSweeps w d g p q)
    → d.run ≡ None → Resets w h.reports h.after
all_done w d g p q h idle = elim h.done [
  | inl s ↦ absurd (is_idle d.run idle s.1)
  | inr s ↦ s.0
]

-- the line that asked for it: its last line was written, or a prefix of that
pub reset_written : (w : World) (d : CollectorState) (g : ℕ → Option Bits) (p q r : Option (List ℕ))
    → WritesSweeps w d g p q → d.run ≡ None → Appends q r (line_of (reply_text reply.ResetDone))
    → WritesAnswer w command.Reset d g p r
reset_written w d g p q r h idle written = record {
  reports = h.reports;
  answer = reply.ResetDone;
  after = h.after;
  represents = h.represents;
  within = idle_within d g h.after (idle_world d g h.after h.represents idle);
  answers = inl (refl, all_done w d g p q h idle);
  written = both_written p q r (report_lines h.reports) (line_of (reply_text reply.ResetDone)) _ refl h.written
      written;
}

pub reset_fronted : (w : World) (d : CollectorState) (g : ℕ → Option Bits) (p q r : Option (List ℕ))
    → WritesSweeps w d g p q → d.run ≡ None → AppendsFront q r (line_of (reply_text reply.ResetDone))
    → WritesFront w command.Reset p r
reset_fronted w d g p q r h idle written = record {
  text = answer_lines (h.reports, reply.ResetDone);
  answers = inl (h.reports, reply.ResetDone, h.after, inl (refl, all_done w d g p q h idle), refl);
  written = then_front_written p q r (report_lines h.reports) (line_of (reply_text reply.ResetDone)) _ refl h.written
      written;
}

-- it broke off, or stopped
reset_accepted : (w : World) → IsRunning w → IsAccepted w command.Reset
reset_accepted w running reports why v (inl h) = cc h.0
reset_accepted w running reports why v (inr h) = not_both w h.1 running

pub reset_waits : (w : World) (c : CollectorState) (f : ℕ → Option Bits) (p q r : Option (List ℕ)) → IsRunning w
    → WritesSweeps w c f p q → Appends q r [] → WritesStart w command.Reset p r
reset_waits w c f p q r running h kept = record {
  accepted = reset_accepted w running;
  reports = h.reports;
  starts = inr (
    running,
    elim h.done [ inl s ↦ inl (h.after, s.0) | inr s ↦ inr (h.after, s.0) ],
  );
  written = rw append-nil at (Appends-trans p q r (report_lines h.reports) [] h.written kept);
}

pub reset_broken : (w : World) (p q : Option (List ℕ)) → BreaksInReset w p q → WritesFront w command.Reset p q
reset_broken w p q b = record {
  text = report_lines b.reports;
  answers = inr (
    b.reports,
    inr (b.running, elim b.done [ inl s ↦ inl (b.after, s) | inr s ↦ inr (b.after, s) ]),
    refl,
  );
  written = b.written;
}
