-- What a session promises of commands on weak slots and watched cells, from what its collector does.
use Rattle.std.proofs.Common.{◌≡◌, ℕ, Bool, true, false, cond, refl, sym, subst, arith, Option, Some}
use Rattle.std.proofs.Common.{None, Result, Ok, Err, IfOk}
use Rattle.std.specs.FinSet as set
use Rattle.gz_names.specs.declared.names.Name.{Name}
use Rattle.gz_names.specs.declared.commands.WeakCmd.{WeakCmd}
use Rattle.gz_names.specs.declared.commands.WeakCmd.TheVariants as cmd
use Rattle.gz_names.specs.declared.replies.CmdFault.{CmdFault}
use Rattle.gz_names.specs.declared.replies.Reply.{Reply}
use Rattle.gz_names.specs.declared.replies.Reply.TheVariants as reply
use Rattle.cell_bits.specs.declared.bits.Bits.{Bits}
use Rattle.colour_defs.specs.Graph.{register_cell}
use Rattle.colour_defs.specs.Laws.{IsValid}
use Rattle.colour_defs.specs.Step.{named_or_null}
use Rattle.colour_defs.specs.WeakRefs.{WeakInWorld, unwatch_cell, watch_cell, weak_cell, without_watched}
use Rattle.colour_defs.specs.World.{World}
use Rattle.collection_laws.specs.Numbers.{IsGraphReply}
use Rattle.marker.specs.UnitsToCome.{units_at}
use Rattle.slice_driver.specs.Collector.{CollectorState}
use Rattle.slice_driver.specs.Represents.{Represents}
use Rattle.slice_driver.specs.Sessions.{SessionState, counted_in}
use Rattle.slice_driver.specs.Units.{IsSound}
use Rattle.slice_driver.specs.UnitsToCome.{units_to_come}
use Rattle.slice_driver.specs.WeakCalls.{WeakCalled}
use Rattle.slice_driver.specs.WeakCommands.{DoesWeak, WantsWeakMemory, WatchesNew, WeakCommandDone}
use Rattle.slice_driver.proofs.abstraction.Counting.{counts_alike}
use Rattle.slice_driver.proofs.marking.Sessions.{in_ledger}
use Rattle.slice_driver.proofs.marking.WeakAccounts.{weak_frees_on}
use Rattle.slice_driver.proofs.marking.WeakOutcomes.{weak_outcome}

-- where edges are counted, as much is to come
to_come_counted : (c : CollectorState) (ledger : Option ℕ) (flown : ℕ → Option Bits)
    → units_to_come (counted_in c ledger) flown ≡ units_to_come c flown
unfolding units_to_come units_at
to_come_counted c ledger flown = refl

-- the reply to a weak command is one that a command on the graph may have
named_reply : (o : Option Name) → IsGraphReply (named_or_null o)
named_reply None = tt
named_reply (Some x) = tt

watch_reply : (w : World) (o : Option Name) → IsGraphReply (watch_cell w o).1
watch_reply w None = tt
watch_reply w (Some x) = tt

unwatch_reply : (w : World) (o : Option Name) → IsGraphReply (unwatch_cell w o).1
unwatch_reply w None = tt
unwatch_reply w (Some x) = by (set.contains w.weak.watched x)
  where
    by : (b : Bool)
        → IsGraphReply (cond {A = World × Reply} b (without_watched w x, reply.Accepted) (w, reply.Absent)).1
    by true = tt
    by false = tt

world_reply : (w : World) (c : WeakCmd) (answer : Reply) (v : World) → WeakInWorld w c answer v → IsGraphReply answer
world_reply w (cmd.Weaken q r) answer v h = subst IsGraphReply (sym h.0) tt
world_reply w (cmd.Deref r q) answer v h = subst IsGraphReply (sym h.0) (named_reply (weak_cell w q))
world_reply w (cmd.Watch r) answer v h = subst IsGraphReply (sym h.0) (watch_reply w (register_cell w.graph r))
world_reply w (cmd.Unwatch r) answer v h = subst IsGraphReply (sym h.0) (unwatch_reply w (register_cell w.graph r))

pub weak_reply : (c : CollectorState) (f : ℕ → Option Bits) (k : WeakCmd) (r : Result Reply CmdFault)
    (d : CollectorState) (g : ℕ → Option Bits) → IsSound c f → DoesWeak c f k r d g → IfOk r IsGraphReply
weak_reply c f k (Ok answer) d g s does =
    let did = does s.world s.valid s.represents in
    world_reply s.world k answer did.0 did.1
weak_reply c f k (Err why) d g s does = tt

-- what is done over a collector whose edges are counted is done in the worlds for which it stands otherwise
pub weak_counted : (b : CollectorState) (ledger : Option ℕ) (f : ℕ → Option Bits) (k : WeakCmd)
    (r : Result Reply CmdFault) (d : CollectorState) (g : ℕ → Option Bits)
    → DoesWeak (counted_in b ledger) f k r d g → DoesWeak b f k r d g
weak_counted b ledger f k r d g does w ok rep = does w ok ((counts_alike b ledger f w).0 rep)

-- memory that is wanted over a collector whose edges are counted is wanted in the worlds of the other: what a command
-- wants there tells of worlds only
watches_before : (b : CollectorState) (ledger : Option ℕ) (f : ℕ → Option Bits) (k : WeakCmd)
    → ((w : World) → IsValid w → Represents (counted_in b ledger) f w → WatchesNew w k)
    → (w : World) → IsValid w → Represents b f w → WatchesNew w k
watches_before b ledger f k watches w ok rep = watches w ok ((counts_alike b ledger f w).0 rep)

pub weak_called : {S O : Type 0} (bits_of : S → ℕ → Option Bits) (origin_of : S → O) (old : SessionState S)
    (ledger : Option ℕ) (k : WeakCmd) (outcome : Result Reply CmdFault) (d : CollectorState) (s : S)
    → IsSound old.collector (bits_of old.sweeper)
    → WeakCommandDone bits_of origin_of (counted_in old.collector ledger) old.sweeper k outcome d s
    → WeakCalled bits_of old k outcome (record old { collector = d; sweeper = s })
weak_called bits_of origin_of old ledger k outcome d s sound done =
    let f = bits_of old.sweeper in
    let does = weak_counted old.collector ledger f k outcome d (bits_of s) done.done in
    record {
      outcome_is = weak_outcome old.collector f k outcome d (bits_of s) sound does done.answered
          (λ e. watches_before old.collector ledger f k (done.wanted e).watches);
      done = does;
      to_come = (let less = done.to_come in let same = to_come_counted old.collector ledger f in
          omega (arith, less, same));
      accounts = weak_frees_on old.collector f d (bits_of s) k outcome does;
      refused = λ why e. in_ledger (λ z. (d ≡ z) × (bits_of s ≡ f)) old.collector ledger d.heap.ledger done.ledger
          (done.refused why e);
      wanted = λ e. in_ledger (λ z. WantsWeakMemory z f k d (bits_of s)) old.collector ledger d.heap.ledger
          done.ledger (done.wanted e);
      run = done.run;
      report = refl;
    }
