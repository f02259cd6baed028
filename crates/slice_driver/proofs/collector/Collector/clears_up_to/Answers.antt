use Rattle.std.proofs.Common.{◌≡◌, ◌≤◌, ◌<◌, ◌+◌, ◌∙◌, [], ℕ, Option, Some, false, refl, sym, ap, subst, arith, rules}
use Rattle.std.proofs.Common.{length}
use Rattle.cell_bits.specs.declared.bits.Bits.{Bits}
use Rattle.heap_core.specs.Heap.{HeapState, without_delayed}
use Rattle.barriers.specs.Colours.{grays_outside}
use Rattle.barriers.specs.Pending.{pending}
use Rattle.slice_driver.specs.Collector.{CollectorState, heap_with, run_of}
use Rattle.slice_driver.specs.Preparing.{IsNextUncleared}
use Rattle.slice_driver.specs.Units.{IsSound}
use Rattle.slice_driver.specs.Working.{DoesQuietUnits, GoesOn}
use Rattle.slice_driver.specs.contracts.collector.Collector.{the_view}
use Rattle.slice_driver.proofs.clearing.ClearedArenas.{all_cleared, arena_goes, arena_grays, next_kept, next_made}
use Rattle.slice_driver.proofs.clearing.ClearedArenas.{next_seen, preparing_phase}
use Rattle.slice_driver.proofs.clearing.ClearingUnits.{start_to_come}
use Rattle.slice_driver.proofs.marking.Units.{more_quiet, no_quiet, quiet_sound}
use Rattle.slice_driver.proofs.collector.Collector.clears_up_to.Goals as goal
use Rattle.slice_driver.proofs.collector.Collector.clears_up_to.Goals.{In-Some, In_default}

-- the collector at the head of the loop
abbrev here : In-Some → CollectorState
here c = the_view c.loop-count.self-inside

run_is : (c : In-Some) → (here c).run
    ≡ Some (record { zones = c.args.zones; formed = false; clearing = Some c.loop-count.left })
run_is c = ap run_of c.loop-count.invariant.phase_is

sound : (c : In-Some) (flown : ℕ → Option Bits) → IsSound c.args.self.now flown → IsSound (here c) flown
sound c flown s = quiet_sound c.loop-count.count c.args.self.now flown (here c) flown
    (c.loop-count.invariant.did flown s) s

next : (c : In-Some) → IsNextUncleared (here c).heap c.args.zones c.loop-count.left c.in-Some.arena
next c = next_seen c.loop-count.self-inside.heap c.args.zones c.loop-count.left c.in-Some.arena c.in-Some.ensures.some

pub loop-count-init : goal.loop-count-init
loop-count-init c = record {
  did = λ flown s. subst (λ (x : CollectorState). DoesQuietUnits 0 c.args.self.now flown x flown) (sym c.self.view_is)
      (no_quiet c.args.self.now flown);
  phase_is = preparing_phase c.self.inside.phase c.args.zones c.args.uncleared
      (ap (λ (x : CollectorState). x.run) c.self.view_is ∙ c.requires.preparing);
  grays = λ flown. (let same = ap (λ (x : CollectorState). grays_outside (heap_with x flown)) c.self.view_is in
      omega (arith, same));
  arenas = ap (λ (x : CollectorState). length x.heap.shape.arenas) c.self.view_is;
}

pub set_bits-requires-clause-made : goal.set_bits-requires-clause-made
set_bits-requires-clause-made c =
    let at = (goal.at.set_bits-requires-clause-made c).In-Some in
    next_made (here at) c.args.zones c.loop-count.left (run_is at) c.requires.sound.0
    (sound at c.requires.sound.0 c.requires.sound.1) c.in-Some.arena (next at)

pub set_bits-requires-clause-kept : goal.set_bits-requires-clause-kept
set_bits-requires-clause-kept c =
    let at = (goal.at.set_bits-requires-clause-kept c).In-Some in
    next_kept (here at) c.args.zones c.loop-count.left (run_is at) c.requires.sound.0
    (sound at c.requires.sound.0 c.requires.sound.1) c.in-Some.arena (next at)

pub loop-count-preserved : goal.loop-count-preserved
loop-count-preserved c =
    let at = (goal.at.loop-count-preserved c).In-Some in
    let k : CollectorState = here at in
    let fits : c.args.zones.bits < 18446744073709551616 = search rules in
    let now : HeapState → CollectorState = λ z. record k {
      heap = without_delayed z;
      stack = pending z c.loop-count.self-inside.stack;
      run = Some (record {
        zones = c.args.zones;
        formed = false;
        clearing = Some (record c.loop-count.left { from = c.in-Some.arena + 1 });
      });
    } in
    let is = sym c.set_bits.ensures in
    record {
      did = λ flown s. more_quiet c.loop-count.count c.args.self.now flown k flown (now c.set_bits.new.self) flown
          (c.loop-count.invariant.did flown s)
          (subst (λ (z : HeapState). GoesOn k flown [] (now z) flown) is
          (arena_goes k c.args.zones c.loop-count.left (run_is at) c.in-Some.arena (next at) fits flown
          (sound at flown s)));
      phase_is = refl;
      grays = λ flown. (let before = c.loop-count.invariant.grays flown in
          let less : grays_outside (heap_with (now c.set_bits.new.self) flown) ≤ grays_outside (heap_with k flown) =
          subst (λ (z : HeapState). grays_outside (heap_with (now z) flown) ≤ grays_outside (heap_with k flown)) is
          (arena_grays k c.args.zones c.loop-count.left (run_is at) c.in-Some.arena flown) in
          omega (arith, before, less));
      arenas = ap (λ (z : HeapState). length z.shape.arenas) c.set_bits.ensures ∙ c.loop-count.invariant.arenas;
    }

pub returns-in_default-clause-rests : goal.returns-in_default-clause-rests
returns-in_default-clause-rests c = λ less.
    all_cleared (the_view c.loop-count.self-inside) c.args.zones c.loop-count.left
    (ap run_of c.loop-count.invariant.phase_is) c.in_default.ensures.none

pub returns-in_default-clause-starting : goal.returns-in_default-clause-starting
returns-in_default-clause-starting c = λ start.
    let none = start_to_come c.args.self.now c.requires.sound.0 c.requires.sound.1 start in
    let falls = (c.loop-count.invariant.did c.requires.sound.0 c.requires.sound.1).to_come in
    omega (arith, none, falls)

pub overflow_add-left : goal.overflow_add-left
overflow_add-left c =
    let at = (goal.at.overflow_add-left c).In-Some in
    let made = next_made (here at) c.args.zones c.loop-count.left (run_is at) c.requires.sound.0
    (sound at c.requires.sound.0 c.requires.sound.1) c.in-Some.arena (next at) in
    let same = c.loop-count.invariant.arenas in
    let few = c.sizes_law.ensures.arenas in
    omega (arith, made, same, few)

pub returns-clause-done : goal.returns-clause-done
returns-clause-done c = λ flown s.
    let all : c.loop-count.count ≡ c.args.limit = omega arith in
    subst (λ (n : ℕ). DoesQuietUnits n c.args.self.now flown (the_view c.loop-count.self-inside) flown) all
    (c.loop-count.invariant.did flown s)

pub returns-clause-starting : goal.returns-clause-starting
returns-clause-starting c = λ start.
    let none = start_to_come c.args.self.now c.requires.sound.0 c.requires.sound.1 start in
    let falls = (c.loop-count.invariant.did c.requires.sound.0 c.requires.sound.1).to_come in
    let all : c.loop-count.count ≡ c.args.limit = omega arith in
    omega (arith, none, falls, all)
