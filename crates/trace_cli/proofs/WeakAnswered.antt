-- Answers to commands on weak slots and watched cells, by what the collector's call did and what was written.
use Rattle.std.proofs.Common.{◌≡◌, ◌≤◌, ℕ, List, [], Option, Some, Result, Ok, Err, inl, refl, ap, subst}
use Rattle.std.specs.Io.KnownBytes.{Appends}
use Rattle.gz_io.specs.Causes.{AppendsFront}
use Rattle.gz_names.specs.declared.commands.Cmd.TheVariants as command
use Rattle.gz_names.specs.declared.commands.WeakCmd.{WeakCmd}
use Rattle.gz_names.specs.declared.commands.WeakCmd.TheVariants as cmd
use Rattle.gz_names.specs.declared.names.Name.{Name}
use Rattle.gz_names.specs.declared.replies.CmdFault.{CmdFault}
use Rattle.gz_names.specs.declared.replies.CmdFault.TheVariants as fault
use Rattle.gz_names.specs.declared.replies.Refusal.{Refusal}
use Rattle.gz_names.specs.declared.replies.Reply.{Reply}
use Rattle.gz_names.specs.declared.replies.Reply.TheVariants as reply
use Rattle.cell_bits.specs.declared.bits.Bits.{Bits}
use Rattle.colour_defs.specs.Graph.{register_cell}
use Rattle.colour_defs.specs.Laws.{IsValid}
use Rattle.colour_defs.specs.WeakRefs.{WeakInWorld, watch_cell}
use Rattle.colour_defs.specs.World.{World}
use Rattle.slice_driver.specs.Collector.{CollectorState}
use Rattle.slice_driver.specs.Represents.{Represents}
use Rattle.slice_driver.specs.UnitsToCome.{IsWithin, units_to_come}
use Rattle.slice_driver.specs.WeakCommands.{DoesWeak, WatchesNew}
use Rattle.trace_lang.specs.Texts.{line_of, reply_text}
use Rattle.trace_cli.specs.Headline.{IsAccepted, WritesAnswer, WritesFront, WritesStart, answer_lines}
use Rattle.trace_cli.specs.Served.{IsNoWatch}
use Rattle.trace_cli.specs.Worlds.{EachWorld, EachWorldWithin}
use Rattle.trace_cli.proofs.WeakBound.{fewer_within, weak_within}

-- a command had this reply in each world that the collector stood for, and it stands for the world after it, in which a
-- collection that runs is within its bound on units if it was before
abbrev pub WeakDone : CollectorState → (ℕ → Option Bits) → WeakCmd → Reply → CollectorState → (ℕ → Option Bits)
    → Type 0
WeakDone c flown cmd answer d flying = (w : World) → IsValid w → Represents c flown w → (v : World)
    × WeakInWorld w cmd answer v × Represents d flying v × (IsWithin c flown w → IsWithin d flying v)

module _ (c d : CollectorState) (f g : ℕ → Option Bits) (k : WeakCmd) (r : Result Reply CmdFault)
    (does : DoesWeak c f k r d g) (less : units_to_come d g ≤ units_to_come c f) where
  pub weak_ok : (answer : Reply) → r ≡ Ok answer → WeakDone c f k answer d g
  weak_ok answer e w ok stands =
      let done = subst (λ (x : Result Reply CmdFault). DoesWeak c f k x d g) e does w ok stands in (
        done.0,
        done.1,
        done.2,
        λ within. weak_within d g w (fewer_within c d f g less w within) done.0 k answer done.1,
      )

  pub weak_refused : (why : Refusal) → r ≡ Err (fault.Refused why) → WeakDone c f k (reply.Refused why) d g
  weak_refused why e w ok stands =
      let done = subst (λ (x : Result Reply CmdFault). DoesWeak c f k x d g) e does w ok stands in (
        w,
        done.0,
        done.1,
        λ within. weak_within d g w (fewer_within c d f g less w within) w k (reply.Refused why) done.0,
      )

module _ (c d : CollectorState) (f g : ℕ → Option Bits) (k : WeakCmd) (answer : Reply)
    (does : WeakDone c f k answer d g) where
  pub weak_writes : (p q : Option (List ℕ)) → Appends p q (line_of (reply_text answer))
      → EachWorldWithin c f (λ w. WritesAnswer w (command.Weak k) d g p q)
  weak_writes p q written w ok stands within =
      let done = does w ok stands in
      record {
        reports = [];
        answer = answer;
        after = done.0;
        represents = done.2;
        within = done.3 within;
        answers = (refl, done.1);
        written = written;
      }

  pub weak_breaks : (p q : Option (List ℕ)) → AppendsFront p q (line_of (reply_text answer))
      → EachWorld c f (λ w. WritesFront w (command.Weak k) p q)
  weak_breaks p q written w ok stands =
      let done = does w ok stands in
      record {
        text = answer_lines ([], answer);
        answers = inl ([], answer, done.0, (refl, done.1), refl);
        written = written;
      }

-- only a command that is not refused takes memory: it watches a cell
watch_accepted : (w : World) (o : Option Name) (x : Name) (why : Refusal) → o ≡ Some x
    → reply.Refused why ≡ (watch_cell w o).1 → ⊥
watch_accepted w o x why is said =
    let accepted : (watch_cell w o).1 ≡ reply.Accepted = ap (λ (y : Option Name). (watch_cell w y).1) is in
    cc (said, accepted)

weak_accepted : (w : World) (k : WeakCmd) → WatchesNew w k → IsAccepted w (command.Weak k)
weak_accepted w (cmd.Weaken q r) new reports why v h = absurd new
weak_accepted w (cmd.Deref r q) new reports why v h = absurd new
weak_accepted w (cmd.Watch r) new reports why v h =
    watch_accepted w (register_cell w.graph r) new.0 why new.1 h.1.0
weak_accepted w (cmd.Unwatch r) new reports why v h = absurd new

pub weak_stops : (c : CollectorState) (f : ℕ → Option Bits) (k : WeakCmd) (p q : Option (List ℕ))
    → EachWorld c f (λ w. WatchesNew w k) → Appends p q [] → EachWorld c f (λ w. WritesStart w (command.Weak k) p q)
weak_stops c f k p q watches written w ok stands = record {
  accepted = weak_accepted w k (watches w ok stands);
  reports = [];
  starts = refl;
  written = written;
}

pub wants_no_memory : (w : World) (k : WeakCmd) → WatchesNew w k → IsNoWatch k → ⊥
wants_no_memory w (cmd.Weaken q r) new none = new
wants_no_memory w (cmd.Deref r q) new none = new
wants_no_memory w (cmd.Watch r) new none = none r refl
wants_no_memory w (cmd.Unwatch r) new none = new
