-- A command on weak slots and watched cells gives no number, and lists nothing as freed.
use Rattle.std.proofs.Common.{◌≡◌, ℕ, Bool, true, false, append-nil, cond, refl, sym, ap, subst, List, [], ◌++◌, length}
use Rattle.std.proofs.Common.{Option, Some, None, Result, Ok, Err}
use Rattle.std.specs.FinSet as set
use Rattle.gz_names.specs.declared.names.Name.{Name}
use Rattle.gz_names.specs.declared.commands.WeakCmd.{WeakCmd}
use Rattle.gz_names.specs.declared.commands.WeakCmd.TheVariants as cmd
use Rattle.gz_names.specs.declared.replies.CmdFault.{CmdFault}
use Rattle.gz_names.specs.declared.replies.CmdFault.TheVariants as fault
use Rattle.gz_names.specs.declared.replies.Reply.{Reply}
use Rattle.gz_names.specs.declared.replies.Reply.TheVariants as reply
use Rattle.cell_bits.specs.declared.bits.Bits.{Bits}
use Rattle.colour_defs.specs.Graph.{GraphState, register_cell, zone_of}
use Rattle.colour_defs.specs.Laws.{IsValid}
use Rattle.colour_defs.specs.Step.{with_register}
use Rattle.colour_defs.specs.WeakRefs.{WeakInWorld, unwatch_cell, watch_cell, weak_cell, with_read, without_watched}
use Rattle.colour_defs.specs.World.{AcceptsIn, Collection, IsPresent, Preparation, World}
use Rattle.colour_defs.proofs.ValidWeak.{weak_valid}
use Rattle.collection_laws.specs.Numbers.{IsAccounted}
use Rattle.collection_laws.proofs.Accounts.{same_accounts, still_accounts}
use Rattle.collection_laws.proofs.Lying.{StaysInPlace}
use Rattle.slice_driver.specs.Accounts.{Accounts, FreesOn}
use Rattle.slice_driver.specs.Collector.{CollectorState}
use Rattle.slice_driver.specs.WeakCommands.{DoesWeak, WeakAnswersIn}

-- where a register takes a present cell, or becomes empty, all cells stay
taken_stays : (o : Option Preparation) (w : World) (k : Option Collection) (r : ℕ) (x : Option Name) (v : World)
    → ((y : Name) → x ≡ Some y → IsPresent w y) → AcceptsIn o w k (with_register w.graph r x) x None v
    → StaysInPlace w v
taken_stays None w k r None v there h = subst (StaysInPlace w) (sym h) (record {
  zones = λ y z at. at;
  places_is = refl;
  owner_is = refl;
  out_is = refl;
  white_is = refl;
})
taken_stays None w k r (Some x) v there h = record {
  zones = λ y z at. subst (λ (g : GraphState). zone_of g y ≡ Some z) (sym h.0.graph_is) at;
  places_is = (h.0.found (there x refl)).0;
  owner_is = (h.0.found (there x refl)).1;
  out_is = h.0.out_is;
  white_is = h.0.white_is;
}
taken_stays (Some p) w k r None v there h = subst (StaysInPlace w) (sym h) (record {
  zones = λ y z at. at;
  places_is = refl;
  owner_is = refl;
  out_is = refl;
  white_is = refl;
})
taken_stays (Some p) w k r (Some x) v there h = record {
  zones = λ y z at. subst (λ (g : GraphState). zone_of g y ≡ Some z) (sym h.0.graph_is) at;
  places_is = (h.0.found (there x refl)).0;
  owner_is = (h.0.found (there x refl)).1;
  out_is = h.0.out_is;
  white_is = h.0.white_is;
}

-- as many objects were made
taken_objects : (o : Option Preparation) (w : World) (k : Option Collection) (r : ℕ) (x : Option Name) (v : World)
    → AcceptsIn o w k (with_register w.graph r x) x None v → length v.graph.objects ≡ length w.graph.objects
taken_objects None w k r None v h = ap (λ (u : World). length u.graph.objects) h
taken_objects None w k r (Some x) v h = ap (λ (g : GraphState). length g.objects) h.0.graph_is
taken_objects (Some p) w k r None v h = ap (λ (u : World). length u.graph.objects) h
taken_objects (Some p) w k r (Some x) v h = ap (λ (g : GraphState). length g.objects) h.0.graph_is

-- names alone are others
named_accounts : (w v : World) (given : ℕ) (freed : List Name) → v ≡ record w { weak = v.weak }
    → IsAccounted w given freed → IsAccounted v given freed
named_accounts w v given freed same a = still_accounts w v given freed (ap (λ (u : World). u.graph) same)
    (ap (λ (u : World). u.places) same) (ap (λ (u : World). u.owner) same) (ap (λ (u : World). u.out) same)
    (ap (λ (u : World). u.white) same) a

-- by the world that equals it
named_as : (w v : World) → v ≡ record w { weak = v.weak } → (u : World) → u ≡ v → u ≡ record w { weak = u.weak }
named_as w v is u same = subst (λ (z : World). z ≡ record w { weak = z.weak }) (sym same) is

watch_names : (w : World) (o : Option Name) → (watch_cell w o).0 ≡ record w { weak = (watch_cell w o).0.weak }
watch_names w None = refl
watch_names w (Some x) = refl

unwatch_names : (w : World) (o : Option Name) → (unwatch_cell w o).0 ≡ record w { weak = (unwatch_cell w o).0.weak }
unwatch_names w None = refl
unwatch_names w (Some x) = by (set.contains w.weak.watched x)
  where
    by : (b : Bool) → (cond {A = World × Reply} b (without_watched w x, reply.Accepted) (w, reply.Absent)).0
        ≡ record w {
          weak = (cond {A = World × Reply} b (without_watched w x, reply.Accepted) (w, reply.Absent)).0.weak;
        }
    by true = refl
    by false = refl

weak_accounts : (w : World) (c : WeakCmd) (answer : Reply) (v : World) (given : ℕ) (freed : List Name) → IsValid w
    → WeakInWorld w c answer v → IsAccounted w given freed → IsAccounted v given freed
weak_accounts w (cmd.Weaken q r) answer v given freed ok h a =
    named_accounts w v given freed (named_as w _ refl v h.1) a
weak_accounts w (cmd.Deref r q) answer v given freed ok h a =
    same_accounts w v given freed
    (taken_stays w.preparing w (with_read w.graph (weak_cell w q) w.collection) r (weak_cell w q) v
    (λ y e. ok.presence.weak q y e) h.1)
    (taken_objects w.preparing w (with_read w.graph (weak_cell w q) w.collection) r (weak_cell w q) v h.1) a
weak_accounts w (cmd.Watch r) answer v given freed ok h a =
    named_accounts w v given freed (named_as w _ (watch_names w (register_cell w.graph r)) v h.1) a
weak_accounts w (cmd.Unwatch r) answer v given freed ok h a =
    named_accounts w v given freed (named_as w _ (unwatch_names w (register_cell w.graph r)) v h.1) a

-- so it is with each outcome
pub weak_frees_on : (c : CollectorState) (f : ℕ → Option Bits) (d : CollectorState) (g : ℕ → Option Bits) (k : WeakCmd)
    (o : Result Reply CmdFault) → DoesWeak c f k o d g → FreesOn c f [] d g
weak_frees_on c f d g k o does given freed a = by o (does a.world a.valid a.represents)
  where
    listed : (v : World) → IsAccounted v given freed → IsAccounted v given (freed ++ [])
    listed v is = subst (λ (l : List Name). IsAccounted v given l) (sym (append-nil freed)) is

    by : (r : Result Reply CmdFault) → WeakAnswersIn a.world k r d g
        → Accounts d g given (freed ++ [])
    by (Ok answer) did = record {
      world = did.0;
      valid = weak_valid a.world did.0 k answer a.valid did.1;
      represents = did.2;
      accounted = listed did.0 (weak_accounts a.world k answer did.0 given freed a.valid did.1 a.accounted);
    }
    by (Err (fault.Refused why)) did =
        record { world = a.world; valid = a.valid; represents = did.1; accounted = listed a.world a.accounted }
    by (Err fault.NoMemory) did =
        record { world = a.world; valid = a.valid; represents = did; accounted = listed a.world a.accounted }
