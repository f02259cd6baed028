-- What a session promises of pinned roots, from what its collector does.
use Rattle.std.proofs.Common.{◌≡◌, ◌+◌, ℕ, Some, List, [], append-nil, length, Option, Result, Ok, Err}
use Rattle.std.proofs.Common.{refl, sym, ap, subst, ◌∙◌, inl, inr}
use Rattle.gz_names.specs.declared.names.Name.{Name}
use Rattle.gz_names.specs.declared.replies.CmdFault.{CmdFault}
use Rattle.gz_names.specs.declared.replies.CmdFault.TheVariants as fault
use Rattle.gz_names.specs.declared.replies.Refusal.TheVariants as refusal
use Rattle.cell_bits.specs.declared.bits.Bits.{Bits}
use Rattle.colour_defs.specs.Graph.{register_cell, zone_of}
use Rattle.colour_defs.specs.Step.{with_register}
use Rattle.colour_defs.specs.World.{World}
use Rattle.collection_laws.specs.Numbers.{IsAccounted}
use Rattle.collection_laws.proofs.Accounts.{same_accounts}
use Rattle.slice_driver.specs.Accounts.{FreesOn}
use Rattle.slice_driver.specs.Collector.{CollectorState}
use Rattle.slice_driver.specs.Pins.{Holds, HoldsIn, IsWhereEmpty, LoadsIn, PinCalled, PinDone, PinsIn, RootCalled}
use Rattle.slice_driver.specs.Pins.{RootDone}
use Rattle.slice_driver.specs.Pins.{SessionHolds, UnpinsIn, as_fault, with_registers}
use Rattle.slice_driver.specs.Sessions.{SessionState}
use Rattle.slice_driver.specs.Units.{IsFreedWord, IsSound, KeepsFreedWords}
use Rattle.slice_driver.specs.declared.session.SessionFault.{SessionFault}
use Rattle.slice_driver.specs.declared.session.SessionFault.TheVariants as session

-- registers and pinned roots alone are others
abbrev KeepsRest : (World → World → Type 0) → Type 0
KeepsRest Does = (w v : World) → Does w v → v ≡ with_registers w v.graph.registers

registers_in : (w v : World) (rs : List (Option Name)) → v ≡ with_registers w rs
    → v ≡ with_registers w v.graph.registers
registers_in w v rs same = same ∙ ap (with_registers w) (sym (ap (λ (u : World). u.graph.registers) same))

pub pins_rest : (r root : ℕ) → KeepsRest (PinsIn r root)
pins_rest r root w v does = does.rest

pub loads_rest : (r root : ℕ) → KeepsRest (LoadsIn r root)
loads_rest r root w v does =
    registers_in w v (with_register w.graph r (register_cell w.graph (16 + root))).registers does.world_is

pub unpins_rest : (root : ℕ) → KeepsRest (UnpinsIn root)
unpins_rest root w v does = registers_in w v (with_register w.graph (16 + root) _).registers does.world_is

-- so all cells stay, and as many were made
registers_accounts : (w v : World) (given : ℕ) (freed : List Name) → v ≡ with_registers w v.graph.registers
    → IsAccounted w given freed → IsAccounted v given freed
registers_accounts w v given freed same a = same_accounts w v given freed (record {
  zones = λ x z at. subst (λ (u : World). zone_of u.graph x ≡ Some z) (sym same) at;
  places_is = ap (λ (u : World). u.places) same;
  owner_is = ap (λ (u : World). u.owner) same;
  out_is = ap (λ (u : World). u.out) same;
  white_is = ap (λ (u : World). u.white) same;
}) (ap (λ (u : World). length u.graph.objects) same) a

frees_none : (Does : World → World → Type 0) → KeepsRest Does → (c d : CollectorState) (f : ℕ → Option Bits)
    → HoldsIn Does c f d → FreesOn c f [] d f
frees_none Does rest c d f does given freed a =
    let did = does a.world a.valid a.represents in
    record {
      world = did.0;
      valid = did.2;
      represents = did.3;
      accounted = subst (λ (l : List Name). IsAccounted did.0 given l) (sym (append-nil freed))
          (registers_accounts a.world did.0 given freed (rest a.world did.0 did.1) a.accounted);
    }

-- how a collector stands after it: for valid worlds, and with the words of the arenas that are out
pub record StandsOn (old new : CollectorState) : Type 0 where
  pub sound : (flown : ℕ → Option Bits) → IsSound old flown → IsSound new flown
  pub words : KeepsFreedWords old.heap.shape new.heap.shape

stands_held : (Does : World → World → Type 0) (old new : CollectorState) → Holds Does old new → StandsOn old new
stands_held Does old new held = record {
  sound = λ flown was.
      let did = held.done flown was.world was.valid was.represents in
      record { world = did.0; valid = did.2; represents = did.3 };
  words = λ a freed is. subst (λ (c : CollectorState). IsFreedWord c.heap.shape a freed) (sym held.rest) is;
}

stands_same : (old new : CollectorState) → new ≡ old → StandsOn old new
stands_same old new same = subst (λ (c : CollectorState). StandsOn old c) (sym same)
    (record { sound = λ flown is. is; words = λ a freed is. is })

pub pin_stands : (old new : CollectorState) (r : ℕ) (result : Result ℕ CmdFault) → PinDone old r result new
    → StandsOn old new
pin_stands old new r (Ok root) done = stands_held (PinsIn r root) old new done.done
pin_stands old new r (Err why) done = stands_same old new done.err

pub root_stands : {T E : Type 0} (Does : World → World → Type 0) (old new : CollectorState) (root : ℕ)
    (result : Result T E) → RootDone Does old root result new → StandsOn old new
root_stands Does old new root (Ok x) done = stands_held Does old new done.done
root_stands Does old new root (Err why) done = stands_same old new done.err

-- what a session tells of a pin
abbrev pub told_pin : Result ℕ CmdFault → Result ℕ SessionFault
told_pin (Ok root) = Ok root
told_pin (Err why) = Err (as_fault why)

module _ {S : Type 0} (bits_of : S → ℕ → Option Bits) (old : SessionState S) (new : CollectorState) where
  abbrev after : SessionState S
  after = record old { collector = new }

  session_holds : (Does : World → World → Type 0) → KeepsRest Does → Holds Does old.collector new
      → SessionHolds bits_of Does old after
  session_holds Does rest held = record {
    done = held.done (bits_of old.sweeper);
    to_come = held.to_come (bits_of old.sweeper);
    accounts = frees_none Does rest old.collector new (bits_of old.sweeper) (held.done (bits_of old.sweeper));
    rest = ap (λ (c : CollectorState). record old { collector = c }) held.rest;
  }

  same_session : new ≡ old.collector → after ≡ old
  same_session same = ap (λ (c : CollectorState). record old { collector = c }) same

  -- where one statement holds exactly at an empty register, so does another that holds with it
  empty_as : (r : ℕ) (Is Told : Type 0) → (Is → Told) → (Told → Is)
      → IsWhereEmpty old.collector (bits_of old.sweeper) r Is → IsWhereEmpty old.collector (bits_of old.sweeper) r Told
  empty_as r Is Told on back empty w rep = (λ told. (empty w rep).0 (back told), λ none. on ((empty w rep).1 none))

  pub pin_called : (r : ℕ) (result : Result ℕ CmdFault) → PinDone old.collector r result new
      → PinCalled bits_of old r (told_pin result) after
  pin_called r (Ok root) done = record {
    done = session_holds (PinsIn r root) (pins_rest r root) done.done;
    empty = empty_as r (Ok root ≡ Err (fault.Refused refusal.Empty)) (Ok root ≡ Err (session.Refused refusal.Empty))
        (λ e. absurd (cc e)) (λ e. absurd (cc e)) (done.empty (bits_of old.sweeper));
    fails = λ why e. absurd (cc e);
    err = tt;
  }
  pin_called r (Err (fault.Refused why)) done = record {
    done = tt;
    empty = empty_as r (Err (fault.Refused why) ≡ Err (fault.Refused refusal.Empty))
        (Err (session.Refused why) ≡ Err (session.Refused refusal.Empty)) (λ e. cc e) (λ e. cc e)
        (done.empty (bits_of old.sweeper));
    fails = λ other e. elim (done.fails (fault.Refused why) refl) [
      | inl is ↦ inl (cc (is, e))
      | inr wanted ↦ absurd (cc wanted)
    ];
    err = same_session done.err;
  }
  pin_called r (Err fault.NoMemory) done = record {
    done = tt;
    empty = empty_as r (Err fault.NoMemory ≡ Err (fault.Refused refusal.Empty))
        (Err session.NoMemory ≡ Err (session.Refused refusal.Empty)) (λ e. absurd (cc e)) (λ e. absurd (cc e))
        (done.empty (bits_of old.sweeper));
    fails = λ other e. inr (cc e);
    err = same_session done.err;
  }

  pub root_called : {T E : Type 0} (Does : World → World → Type 0) → KeepsRest Does → (root : ℕ) (result : Result T E)
      → RootDone Does old.collector root result new → RootCalled bits_of Does old root result after
  root_called Does rest root (Ok x) done = record {
    done = session_holds Does rest done.done;
    empty = done.empty (bits_of old.sweeper);
    err = tt;
  }
  root_called Does rest root (Err why) done = record {
    done = tt;
    empty = done.empty (bits_of old.sweeper);
    err = same_session done.err;
  }
