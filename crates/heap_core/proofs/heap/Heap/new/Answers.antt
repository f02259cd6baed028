use Rattle.std.proofs.Common.{ap, refl, subst, sym}
use Rattle.arena_table.specs.Table.{ArenasState}
use Rattle.roots.specs.RootsHeld.{RootsState}
use Rattle.weak_maps.specs.WeakMaps.{WeakTableState, value_of}
use Rattle.zones.specs.ZonesMade.{ZonesState}
use Rattle.heap_core.specs.Shape.{arena_shapes}
use Rattle.heap_core.specs.Heap.{bits_of}
use Rattle.heap_core.proofs.Empty.{sound-empty}
use Rattle.heap_core.specs.TargetZones.{AreTargetsNoted}
use Rattle.heap_core.proofs.NotedTargets.{noted-none}
use Rattle.heap_core.proofs.heap.Heap.new.Goals as goal

pub returns-clause-empty : goal.returns-clause-empty
returns-clause-empty c = record {
  arenas = ap (λ (s : ArenasState). arena_shapes s.arenas) c.in_ok-new.ensures;
  states = ap (λ (s : ZonesState). s.states) c.new-2.ensures;
  comps = ap (λ (s : ZonesState). s.comps) c.new-2.ensures;
  wrappers = c.in_ok-new-2.ensures;
  entries = λ m k. ap (λ (s : WeakTableState). value_of s m k) c.new-6.ensures.empty;
  regs = ap (λ (s : RootsState). s.regs) c.in_ok-new-3.ensures;
  slots = ap (λ (s : RootsState). s.slots) c.in_ok-new-3.ensures;
  objects = refl;
  colours = ap (λ (s : ArenasState). bits_of s.arenas) c.in_ok-new.ensures;
  buffers = ap (λ (s : RootsState). s.buffers) c.in_ok-new-3.ensures;
  made = ap (λ (s : ArenasState). s.made) c.in_ok-new.ensures;
  looks = c.new-6.ensures.none;
  delayed = ap (λ (s : ArenasState). s.delayed) c.in_ok-new.ensures;
  weak_names = c.new-7.ensures;
  ledger = refl;
}

pub returns-clause-sound : goal.returns-clause-sound
returns-clause-sound c = sound-empty _ (returns-clause-empty c)

pub invariant_of-result : goal.invariant_of-result
invariant_of-result c = subst (λ (s : ArenasState). AreTargetsNoted s.arenas c.new-4.result) (sym c.in_ok-new.ensures)
    (noted-none c.new-4.result)
