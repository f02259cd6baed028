-- Units that end a group, take an arena in, or finish a collection.
use Rattle.std.proofs.Common.{◌≡◌, ℕ, zero, suc, Bool, true, false, cond, inl, refl, sym, ◌∙◌, subst, Option, None}
use Rattle.std.proofs.Common.{Some, IsSome, is_some, List, [], ◌∷◌, map, slice_get}
use Rattle.gz_names.specs.Zones.{zones_in}
use Rattle.gz_names.specs.declared.names.Name.{Name}
use Rattle.gz_names.specs.declared.replies.Report.TheVariants as report
use Rattle.gz_names.specs.declared.zone_sets.ZoneSet.{ZoneSet}
use Rattle.cell_bits.specs.declared.bits.Bits.{Bits}
use Rattle.colour_defs.specs.Lawful.{Finishes, IsLawfulSweep, IsOver, IsRunning, says, last}
use Rattle.colour_defs.specs.World.{World, Collection}
use Rattle.heap_core.specs.Shape.{ArenaShape, out_in}
use Rattle.slice_driver.specs.Collector.{CollectorState, RunState, heap_with}
use Rattle.slice_driver.proofs.abstraction.Phases.{marking_of, none_formed, none_out}
use Rattle.slice_driver.specs.Represents.{going, RepresentsMarking, Runs, RunsAs}
use Rattle.slice_driver.specs.Sweeping.{AreFreed, FinishesIn, IsAllDone, TakesIn}
use Rattle.slice_driver.specs.Units.{DoesUnit, without_arena}
use Rattle.slice_driver.specs.Worlds.{outs_from}
use Rattle.slice_driver.proofs.group_end.Laws.{group_ends}
use Rattle.slice_driver.proofs.group_end.Ready.{collection_of}
use Rattle.slice_driver.proofs.abstraction.Named.{some_one}
use Rattle.slice_driver.proofs.taking_in.Done.{finishes, represents_done}
use Rattle.slice_driver.proofs.taking_in.Runs.{represents_after, swept_world, sweeps}
use Rattle.slice_driver.proofs.group_end.Ending.{EndsOn}

-- an arena came in
pub takes_in : (c d : CollectorState) (flown : ℕ → Option Bits) (w : World) (a freed : ℕ) (bits : Bits)
    (names : List Name) → RepresentsMarking c flown w → TakesIn c flown a freed bits d
    → AreFreed c.heap.shape a freed names
    → (v : World) × IsLawfulSweep w a names v × RepresentsMarking d (without_arena flown a) v
takes_in c d flown w a freed bits names s t f = go c.run refl t.running
  where
    go : (o : Option RunState) → c.run ≡ o → is_some o ≡ true → (v : World) × IsLawfulSweep w a names v
        × RepresentsMarking d (without_arena flown a) v
    go None e some = absurd (cc some)
    go (Some r) e some =
        let k = collection_of c (heap_with c flown) w r e s.phase.runs in (
          swept_world w a (outs_from 0 d.heap.shape.arenas) k.0,
          sweeps c flown w k.0 a freed bits d s t r e k.1 names f,
          represents_after c flown w k.0 a freed bits d s t r e k.1,
        )

-- the collection is over
pub finishes_here : (c d : CollectorState) (flown : ℕ → Option Bits) (w : World) → RepresentsMarking c flown w
    → IsAllDone c
    → FinishesIn c d → (v : World) × Finishes w v × RepresentsMarking d flown v
finishes_here c d flown w s o f =
    let k = collection_of c (heap_with c flown) w o.run o.running s.phase.runs in
    (record w { collection = None }, finishes c d flown w k.0 s o f k.1, represents_done c d flown w k.0 s o f k.1)

-- where nothing is listed as out, no arena is
none_listed : (arenas : List ArenaShape) (n : ℕ) → outs_from n arenas ≡ [] → (a : ℕ)
    → out_in (slice_get arenas a) ≡ None
none_listed [] n e a = refl
none_listed (x ∷ arenas) n e zero = go x.out e
  where
    go : (o : Option Bits) → cond (is_some o) (n ∷ outs_from (suc n) arenas) (outs_from (suc n) arenas) ≡ [] → o ≡ None
    go None f = refl
    go (Some b) f = absurd (cc f)
none_listed (x ∷ arenas) n e (suc a) = none_listed arenas (suc n) (go x.out e) a
  where
    go : (o : Option Bits) → cond (is_some o) (n ∷ outs_from (suc n) arenas) (outs_from (suc n) arenas) ≡ []
        → outs_from (suc n) arenas ≡ []
    go None f = f
    go (Some b) f = absurd (cc f)

-- where the collection is over in the world, nothing is left to do for it
pub over_done : (c : CollectorState) (flown : ℕ → Option Bits) (w : World) → RepresentsMarking c flown w → IsOver w
    → IsAllDone c
over_done c flown w s o =
    go c.run refl (subst (λ (z : Option Collection). RunsAs (heap_with c flown) c w c.run z) o.running s.phase.runs)
  where
    empty : (groups : List ZoneSet) → map zones_in groups ≡ [] → groups ≡ []
    empty [] e = refl
    empty (g ∷ gs) e = absurd (cc e)

    formed : (b : Bool) → cond b (Some (map zones_in c.groups)) None ≡ Some [] → (b ≡ true) × (c.groups ≡ [])
    formed true e = (refl, empty c.groups (some_one _ _ e))
    formed false e = absurd (cc e)

    go : (r : Option RunState) → c.run ≡ r → RunsAs (heap_with c flown) c w c.run (Some o.collection) → IsAllDone c
    go None e i = absurd (subst (λ (z : Option RunState). RunsAs (heap_with c flown) c w z (Some o.collection)) e i)
    go (Some r) e i =
        let runs : Runs (heap_with c flown) c w r o.collection =
        subst (λ (z : Option RunState). RunsAs (heap_with c flown) c w z (Some o.collection)) e i in
        let f = formed r.formed (sym runs.groups_are ∙ o.ended) in
        record {
          run = r;
          running = e;
          formed = f.0;
          none_left = f.1;
          kept = none_listed c.heap.shape.arenas 0 (sym s.placed.lies.out_is ∙ o.none_out);
        }

pub running_of : (c : CollectorState) (flown : ℕ → Option Bits) (w : World) (r : RunState) → c.run ≡ Some r
    → RepresentsMarking c flown w → IsRunning w
running_of c flown w r e s = let k = collection_of c (heap_with c flown) w r e s.phase.runs in inl (k.0, k.1)

pub some_running : (c : CollectorState) (flown : ℕ → Option Bits) (w : World) → IsSome c.run
    → RepresentsMarking c flown w
    → IsRunning w
some_running c flown w some s = go c.run refl some
  where
    go : (o : Option RunState) → c.run ≡ o → is_some o ≡ true → IsRunning w
    go None e f = absurd (cc f)
    go (Some r) e f = running_of c flown w r e s

-- the unit that ends a group
pub end_unit : (c d : CollectorState) (flown flying : ℕ → Option Bits) (on : EndsOn c d flying) → (IsAllDone d → ⊥)
    → DoesUnit c flown (report.Ended on.group on.lists.grays on.lists.told ∷ []) d flying
end_unit c d flown flying on more w ok rep =
    let s = marking_of c flown w (none_formed c flown w (on.ready.run, on.ready.running, on.ready.formed)) rep in
    let e = group_ends c d flown flying w on ok s in (
      e.0,
      says (running_of c flown w on.ready.run on.ready.running s) (λ q. cc q) e.1
          (λ over. more (over_done d flying e.0 e.3 over)),
      going e.3,
    )

pub end_last_unit : (c d f : CollectorState) (flown flying : ℕ → Option Bits) (on : EndsOn c d flying) → IsAllDone d
    → FinishesIn d f
    → DoesUnit c flown (report.Ended on.group on.lists.grays on.lists.told ∷ report.Done ∷ []) f flying
end_last_unit c d f flown flying on done finish w ok rep =
    let s = marking_of c flown w (none_formed c flown w (on.ready.run, on.ready.running, on.ready.formed)) rep in
    let e = group_ends c d flown flying w on ok s in
    let o = finishes_here d f flying e.0 e.3 done finish in
    (o.0, last (running_of c flown w on.ready.run on.ready.running s) (λ q. cc q) e.1 o.1, going o.2)

-- the unit that takes an arena in
pub sweep_unit : (c d : CollectorState) (flown : ℕ → Option Bits) (a freed : ℕ) (bits : Bits) (names : List Name)
    → TakesIn c flown a freed bits d → AreFreed c.heap.shape a freed names → (IsAllDone d → ⊥)
    → DoesUnit c flown (report.Swept a names ∷ []) d (without_arena flown a)
sweep_unit c d flown a freed bits names t f more w ok rep =
    let s = marking_of c flown w (none_out c flown w a t.lowest.out) rep in
    let e = takes_in c d flown w a freed bits names s t f in (
      e.0,
      says (some_running c flown w t.running s) (λ q. cc q) e.1
          (λ over. more (over_done d (without_arena flown a) e.0 e.2 over)),
      going e.2,
    )

pub sweep_last_unit : (c d f : CollectorState) (flown : ℕ → Option Bits) (a freed : ℕ) (bits : Bits) (names : List Name)
    → TakesIn c flown a freed bits d → AreFreed c.heap.shape a freed names → IsAllDone d → FinishesIn d f
    → DoesUnit c flown (report.Swept a names ∷ report.Done ∷ []) f (without_arena flown a)
sweep_last_unit c d f flown a freed bits names t g done finish w ok rep =
    let s = marking_of c flown w (none_out c flown w a t.lowest.out) rep in
    let e = takes_in c d flown w a freed bits names s t g in
    let o = finishes_here d f (without_arena flown a) e.0 e.2 done finish in
    (o.0, last (some_running c flown w t.running s) (λ q. cc q) e.1 o.1, going o.2)
