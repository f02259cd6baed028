-- Slices of a collection: what was written of them, and the world after them.
use Rattle.std.proofs.Common.{◌≡◌, ◌+◌, ◌≤◌, ◌<◌, ℕ, List, [], Option, Some, None, refl, ap, sym, ◌∙◌}
use Rattle.std.proofs.Common.{inl, inr}
use Rattle.std.specs.Io.KnownBytes.{Appends}
use Rattle.gz_io.specs.Causes.{AppendsFront}
use Rattle.gz_names.specs.declared.commands.Cmd.{Cmd}
use Rattle.gz_names.specs.declared.commands.Cmd.TheVariants as command
use Rattle.gz_names.specs.declared.replies.Reply.TheVariants as reply
use Rattle.gz_names.specs.declared.replies.Refusal.TheVariants as refusal
use Rattle.cell_bits.specs.declared.bits.Bits.{Bits}
use Rattle.trace_lang.specs.Texts.{reply_text, line_of}
use Rattle.colour_defs.specs.World.{Collection, World, IsIdle, marking_of}
use Rattle.colour_defs.specs.Laws.{IsValid}
use Rattle.colour_defs.specs.Lawful.{Answers, IsRunning, RefusesIdle, Slices, with_spent, with_spent_preparing}
use Rattle.heap_core.specs.Heap.{HeapState}
use Rattle.slice_driver.specs.Collector.{CollectorState, RunState, heap_with}
use Rattle.slice_driver.specs.Represents.{Represents, RunsAs, going, prepared}
use Rattle.slice_driver.specs.UnitsToCome.{IsWithin}
use Rattle.slice_driver.proofs.basics.Worlds.{placed_running}
use Rattle.trace_cli.specs.Headline.{report_lines, answer_lines, IsAccepted, WritesAnswer, WritesFront, WritesStart}
use Rattle.trace_cli.specs.Starting.{RunsWithin}
use Rattle.trace_cli.specs.Writing.{reports_in, BreaksInUnits, StopsInUnits, WritesUnits}
use Rattle.trace_cli.proofs.Flights.{idle_world, not_both}
use Rattle.trace_cli.proofs.UnitBound.{spent, spent_within, units_slice}
use Rattle.trace_cli.proofs.Written.{both_written, then_front_written}

idle_spent : (n : ℕ) (w : World) → IsIdle w → IsIdle (spent n w)
idle_spent n w idle = record {
  none_running = ap (with_spent n) idle.none_running;
  none_preparing = ap (with_spent_preparing n) idle.none_preparing;
}

marking_spent : (n : ℕ) (o : Option Collection) → marking_of (with_spent n o) ≡ marking_of o
marking_spent n None = refl
marking_spent n (Some k) = refl

runs_spent : (h : HeapState) (c : CollectorState) (w : World) (n : ℕ) (o : Option RunState) (u : Option Collection)
    → RunsAs h c w o u → RunsAs h c (spent n w) o (with_spent n u)
runs_spent h c w n None None i = i
runs_spent h c w n None (Some k) i = i
runs_spent h c w n (Some r) None i = i
runs_spent h c w n (Some r) (Some k) i = record {
  started = i.started;
  zones_are = i.zones_are;
  marking_are = i.marking_are;
  groups_are = i.groups_are;
  states = i.states;
  tied = λ z has. (let t = i.tied z has in record {
    black = t.black;
    live = t.live;
    present = t.present;
    edges_then = t.edges_then;
    entries_then = t.entries_then;
    grown = t.grown;
    formed = t.formed;
  });
  early = λ unformed. (let l = i.early unformed in record {
    zones_are = l.zones_are;
    first = λ a b e.
        (let f = l.first a b e in (
          f.0,
          f.1,
          f.2,
          elim f.3 [
            | inl s ↦ inl (
              s.0,
              s.1,
              record { present = s.2.present; of = s.2.of; into = s.2.into; outside = s.2.outside },
            )
            | inr s ↦ inr (
              s.0,
              s.1,
              record { present = s.2.present; of = s.2.of; into = s.2.into; outside = s.2.outside },
              s.3,
            )
          ],
        ));
    looked = l.looked;
    left_black = l.left_black;
  });
}

represents_spent : (c : CollectorState) (f : ℕ → Option Bits) (w : World) (n : ℕ) → Represents c f w → Represents c f
    (spent n w)
represents_spent c f w n (going m) = going (record {
  placed = placed_running c.heap w (with_spent n w.collection) (with_spent_preparing n w.preparing) m.placed;
  swept = m.swept;
  coloured = m.coloured;
  phase = record {
    calm = ap (with_spent_preparing n) m.phase.calm;
    black = λ settled. m.phase.black (record {
      none_marking = sym (marking_spent n w.collection) ∙ settled.none_marking;
      none_preparing = m.phase.calm;
    });
    runs = runs_spent (heap_with c f) c w n c.run w.collection m.phase.runs;
  };
})
represents_spent c f w n (prepared r) = prepared (record {
  run = r.run;
  run_is = r.run_is;
  uncleared = r.uncleared;
  clearing = r.clearing;
  unformed = r.unformed;
  placed = placed_running c.heap w (with_spent n w.collection) (with_spent_preparing n w.preparing) r.placed;
  swept = r.swept;
  none_out = r.none_out;
  cleared = r.cleared;
  phase = record {
    preparation = record r.phase.preparation { spent = r.phase.preparation.spent + n };
    preparing_is = ap (with_spent_preparing n) r.phase.preparing_is;
    none_running = ap (with_spent n) r.phase.none_running;
    zones_are = r.phase.zones_are;
    some = r.phase.some;
    made = r.phase.made;
    inside = r.phase.inside;
    outside = r.phase.outside;
    black = r.phase.black;
  };
})

-- units of a collection that ran, in a slice
module _ (d : CollectorState) (flying : ℕ → Option Bits) (most n : ℕ) (w : World) (runs : RunsWithin w most)
    (p q r : Option (List ℕ)) (h : WritesUnits w d flying most n p q) where
  abbrev after : World
  after = spent n h.after

  slices : Slices w (reports_in h.units) n after
  slices = units_slice w d flying most n p q runs h

  within : IsWithin d flying after
  within = spent_within w d flying most n p q runs h

  none_left : d.run ≡ None → IsIdle after
  none_left over = idle_spent n h.after (idle_world d flying h.after h.represents over)

  pub slice_written : (budget : ℕ) → n ≤ budget → (n < budget → d.run ≡ None)
      → Appends q r (line_of (reply_text (reply.Sliced n))) → WritesAnswer w (command.Slice budget) d flying p r
  slice_written budget most over written = record {
    reports = reports_in h.units;
    answer = reply.Sliced n;
    after = after;
    represents = represents_spent d flying h.after n h.represents;
    within = within;
    answers = inl (n, refl, slices, most, λ less. none_left (over less));
    written = both_written p q r (report_lines (reports_in h.units))
        (line_of (reply_text (reply.Sliced n))) _ refl h.written written;
  }

  pub slice_broken : (budget : ℕ) → n ≤ budget → (n < budget → d.run ≡ None)
      → AppendsFront q r (line_of (reply_text (reply.Sliced n))) → WritesFront w (command.Slice budget) p r
  slice_broken budget most over written = record {
    text = answer_lines (reports_in h.units, reply.Sliced n);
    answers = inl (
      reports_in h.units,
      reply.Sliced n,
      after,
      inl (n, refl, slices, most, λ less. none_left (over less)),
      refl,
    );
    written = then_front_written p q r (report_lines (reports_in h.units))
        (line_of (reply_text (reply.Sliced n))) _ refl h.written written;
  }

  -- the same where all that was left was done
  pub finish_written : d.run ≡ None → Appends q r (line_of (reply_text (reply.Sliced n)))
      → WritesAnswer w command.Finish d flying p r
  finish_written idle written = record {
    reports = reports_in h.units;
    answer = reply.Sliced n;
    after = after;
    represents = represents_spent d flying h.after n h.represents;
    within = within;
    answers = inl (n, refl, slices, none_left idle);
    written = both_written p q r (report_lines (reports_in h.units))
        (line_of (reply_text (reply.Sliced n))) _ refl h.written written;
  }

  pub finish_broken : d.run ≡ None → AppendsFront q r (line_of (reply_text (reply.Sliced n)))
      → WritesFront w command.Finish p r
  finish_broken idle written = record {
    text = answer_lines (reports_in h.units, reply.Sliced n);
    answers = inl (reports_in h.units, reply.Sliced n, after, inl (n, refl, slices, none_left idle), refl);
    written = then_front_written p q r (report_lines (reports_in h.units))
        (line_of (reply_text (reply.Sliced n))) _ refl h.written written;
  }

-- one that stopped or broke off among its units
slice_accepted : (w : World) (n : ℕ) → IsRunning w → IsAccepted w (command.Slice n)
slice_accepted w n running reports why v (inl h) = cc h.1
slice_accepted w n running reports why v (inr h) = not_both w h.1 running

finish_accepted : (w : World) → IsRunning w → IsAccepted w command.Finish
finish_accepted w running reports why v (inl h) = cc h.1
finish_accepted w running reports why v (inr h) = not_both w h.1 running

pub units_stop : (w : World) (budget : ℕ) (p q : Option (List ℕ)) → IsRunning w → StopsInUnits w budget p q
    → WritesStart w (command.Slice budget) p q
units_stop w budget p q running h = record {
  accepted = slice_accepted w budget running;
  reports = reports_in h.units;
  starts = (h.units, h.most, record { after = h.after; done = h.done; reports_are = refl });
  written = h.written;
}

pub units_break : (w : World) (budget : ℕ) (p q : Option (List ℕ)) → BreaksInUnits w budget p q → WritesFront w
    (command.Slice budget) p q
units_break w budget p q h = record {
  text = report_lines (reports_in h.units);
  answers = inr
      (reports_in h.units, (h.units, h.most, record { after = h.after; done = h.done; reports_are = refl }), refl);
  written = h.written;
}

pub rest_stops : (w : World) (p q : Option (List ℕ)) → IsRunning w → (n : ℕ) × StopsInUnits w n p q
    → WritesStart w command.Finish p q
rest_stops w p q running (n, h) = record {
  accepted = finish_accepted w running;
  reports = reports_in h.units;
  starts =
      (h.units, record { after = h.after; done = h.done; reports_are = refl });
  written = h.written;
}

pub rest_breaks : (w : World) (p q : Option (List ℕ)) → (n : ℕ) × BreaksInUnits w n p q
    → WritesFront w command.Finish p q
rest_breaks w p q (n, h) = record {
  text = report_lines (reports_in h.units);
  answers = inr
      (reports_in h.units, (h.units, record { after = h.after; done = h.done; reports_are = refl }), refl);
  written = h.written;
}

-- no collection runs
refuses_idle : (c : CollectorState) (f : ℕ → Option Bits) (w : World) → Represents c f w → c.run ≡ None
    → RefusesIdle w [] (reply.Refused refusal.Idle) w
refuses_idle c f w stands idle = (refl, idle_world c f w stands idle, record { silent = refl; same = refl })

-- `slice` and `finish` are refused alike
abbrev pub Goings : Cmd → Type 0
Goings cmd = (w : World) → RefusesIdle w [] (reply.Refused refusal.Idle) w → Answers w cmd []
    (reply.Refused refusal.Idle) w

pub idle_writes : (c : CollectorState) (flown : ℕ → Option Bits) (cmd : Cmd) (p q : Option (List ℕ)) → Goings cmd
    → c.run ≡ None → Appends p q (line_of (reply_text (reply.Refused refusal.Idle))) → (w : World) → IsValid w
    → Represents c flown w → IsWithin c flown w → WritesAnswer w cmd c flown p q
idle_writes c flown cmd p q goes idle written w ok stands within = record {
  reports = [];
  answer = reply.Refused refusal.Idle;
  after = w;
  represents = stands;
  within = within;
  answers = goes w (refuses_idle c flown w stands idle);
  written = written;
}

pub idle_breaks : (c : CollectorState) (flown : ℕ → Option Bits) (cmd : Cmd) (p q : Option (List ℕ)) → Goings cmd
    → c.run ≡ None → AppendsFront p q (line_of (reply_text (reply.Refused refusal.Idle))) → (w : World) → IsValid w
    → Represents c flown w → WritesFront w cmd p q
idle_breaks c flown cmd p q goes idle written w ok stands = record {
  text = answer_lines
      ([], reply.Refused refusal.Idle);
  answers = inl
      ([], reply.Refused refusal.Idle, w, goes w (refuses_idle c flown w stands idle), refl);
  written = written;
}
