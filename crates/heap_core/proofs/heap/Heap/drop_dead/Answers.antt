use Rattle.std.proofs.Common.{◌≡◌, sym, subst}
use Rattle.weak_maps.specs.WeakMaps.{IsWithoutDead}
use Rattle.heap_core.specs.Heap.{HeapState}
use Rattle.heap_core.specs.Sweeping.{AreAbsent, HaveWhiteOwners, is_absent}
use Rattle.heap_core.specs.contracts.heap.Heap.{the_view}
use Rattle.heap_core.proofs.Dropping.{without_dead_from}
use Rattle.heap_core.proofs.heap.Heap.drop_dead.Goals as goal

pub returns-clause-entries : goal.returns-clause-entries
returns-clause-entries c =
    let h : HeapState = the_view c.self.inside in
    let is : h ≡ c.args.self.now = c.self.view_is in
    subst (λ (x : HeapState). IsWithoutDead (is_absent x.shape) x.shape.weak c.drop_entries.new.weak.table) is
    (without_dead_from (is_absent h.shape) c.args.jobs.now h.shape.weak c.drop_entries.new.weak.table (record {
      was = c.drop_entries.ensures.was;
      sound = c.drop_entries.ensures.sound;
      goes = c.drop_entries.ensures.dropped;
      absent = subst (λ (x : HeapState). AreAbsent c.args.jobs.now x.shape) (sym is) c.requires.absent;
      owners = subst (λ (x : HeapState). HaveWhiteOwners c.args.jobs.now x.shape) (sym is) c.requires.owners;
    }))
