-- A collection that is over: the collector stands for the world in which none runs.
use Rattle.slice_driver.proofs.abstraction.Waits.{none_piled}
use Rattle.std.proofs.Common.{◌≡◌, ◌≢◌, ◌⊎◌, ℕ, false, cond, inl, inr, refl, sym, ap, ◌∙◌, subst}
use Rattle.std.proofs.Common.{Option, None, Some, List, [], ◌∷◌, map, Contains}
use Rattle.gz_names.specs.Zones.{zones_in}
use Rattle.gz_names.specs.declared.numbers.Place.{Place}
use Rattle.cell_bits.specs.declared.bits.Bits.{Bits}
use Rattle.zones.specs.declared.states.State.TheVariants as state
use Rattle.mark_stack.specs.Stack.{Piles}
use Rattle.colour_defs.specs.World.{World, Collection, IsSettled}
use Rattle.colour_defs.specs.Lawful.{Finishes}
use Rattle.colour_defs.proofs.Lists.{contains_head, nothing_in_none}
use Rattle.heap_core.specs.Shape.{ArenaShape, is_marking_state, out_of, state_in, zone_of}
use Rattle.heap_core.specs.Heap.{HeapState, with_flown}
use Rattle.slice_driver.specs.Collector.{CollectorState, RunState, heap_with}
use Rattle.slice_driver.specs.Represents.{IsIdle, IsInGroups, RepresentsMarking, Runs, RunsAs}
use Rattle.slice_driver.specs.Represents.{IsColoured}
use Rattle.slice_driver.specs.Sweeping.{FinishesIn, IsAllDone}
use Rattle.slice_driver.proofs.group_end.Cells.{none_out_listed}
use Rattle.slice_driver.proofs.group_end.Ready.{runs_of}
use Rattle.slice_driver.proofs.basics.Cells.{HasSameCells, name_same}
use Rattle.slice_driver.proofs.basics.Marks.{HasSameMarks, black_back, black_on, coloured_as, coloured_kept}
use Rattle.slice_driver.proofs.basics.Worlds.{placed_running, placed_same, swept_same}
use Rattle.slice_driver.proofs.taking_in.Runs.{has_zone_or_not}

module _ (c d : CollectorState) (flown : ℕ → Option Bits) (w : World) (k : Collection) (s : RepresentsMarking c flown w)
    (o : IsAllDone c) (f : FinishesIn c d) (at : w.collection ≡ Some k) where
  runs : Runs (heap_with c flown) c w o.run k
  runs = runs_of c (heap_with c flown) w o.run k o.running at s.phase.runs

  in_none : (z : ℕ) → IsInGroups c.groups z → ⊥
  in_none z i = (let j = subst (λ gs. IsInGroups gs z) o.none_left i in nothing_in_none j.0 j.1)

  -- no zone is marking
  state_was : (z : ℕ) → (state_in c.heap.shape z ≡ state.NoGC)
      ⊎ ((state_in c.heap.shape z ≡ state.Sweep) ⊎ (state_in c.heap.shape z ≡ state.Finished))
  state_was z = elim (has_zone_or_not o.run.zones.bits z) [
    | inl here ↦ inr (runs.states.ended o.formed z here (in_none z))
    | inr out ↦ inl (runs.states.outside z out)
  ]

  not_marking : (z : ℕ) → is_marking_state (state_in c.heap.shape z) ≡ false
  not_marking z = elim (state_was z) [
    | inl e ↦ ap is_marking_state e
    | inr (inl e) ↦ ap is_marking_state e
    | inr (inr e)
        ↦ ap is_marking_state e
  ]

  not_taking_gray : (z : ℕ) → state_in c.heap.shape z ≢ state.MarkBlackAndGray
  not_taking_gray z both = cc (ap is_marking_state both, not_marking z)

  arenas_same : d.heap.shape.arenas ≡ c.heap.shape.arenas
  arenas_same = ap (λ (z : HeapState). z.shape.arenas) f.heap_is

  same_cells : HasSameCells c.heap d.heap
  same_cells = record {
    cells = λ p. ap (λ (z : HeapState). Rattle.heap_core.specs.Shape.cell_of z.shape p) f.heap_is;
    zones = λ p. ap (λ (z : HeapState). zone_of z.shape p) f.heap_is;
    states = f.sized;
    comps = ap (λ (z : HeapState). z.shape.comps) f.heap_is;
    wrappers = ap (λ (z : HeapState). z.shape.wrappers) f.heap_is;
    weak = ap (λ (z : HeapState). z.shape.weak) f.heap_is;
    regs = ap (λ (z : HeapState). z.shape.regs) f.heap_is;
    slots = ap (λ (z : HeapState). z.shape.slots) f.heap_is;
    objects = ap (λ (z : HeapState). z.shape.objects) f.heap_is;
    made = ap (λ (z : HeapState). z.made) f.heap_is;
  }

  out_same : (a : ℕ) → out_of d.heap.shape a ≡ out_of c.heap.shape a
  out_same a = ap (λ (z : HeapState). out_of z.shape a) f.heap_is

  same_marks : HasSameMarks (heap_with c flown) (heap_with d flown)
  same_marks = record {
    cells = record {
      cells = same_cells.cells;
      zones = same_cells.zones;
      states = f.sized;
      comps = same_cells.comps;
      wrappers = same_cells.wrappers;
      weak = same_cells.weak;
      regs = same_cells.regs;
      slots = same_cells.slots;
      objects = same_cells.objects;
      made = same_cells.made;
    };
    arenas = ap (λ (xs : List ArenaShape). Rattle.std.proofs.Common.length xs) arenas_same;
    colours = ap (λ (z : HeapState). with_flown flown 0 z.colours) f.heap_is;
    buffers = ap (λ (z : HeapState). z.buffers) f.heap_is;
    looks = ap (λ (z : HeapState). z.looks) f.heap_is;
    marking = λ z. ap is_marking_state (f.states z) ∙ sym (not_marking z);
    black_only = λ z only. absurd (cc (only, f.states z));
    begun = λ m q v e has is black_map was takes. absurd (cc (takes, f.states (zone_of d.heap.shape q)));
    kept = λ p m. absurd (cc (m, ap is_marking_state (f.states (zone_of d.heap.shape p))));
  }

  coloured_after : IsColoured (heap_with d flown) d.stack d.lists
  coloured_after = coloured_as (heap_with d flown) (heap_with d flown) c.stack d.stack c.lists d.lists refl f.stack_is
      f.lists_is (coloured_kept (heap_with c flown) (heap_with d flown) same_marks c.stack c.lists
      (λ z both. absurd (not_taking_gray z both)) s.coloured)

  empty : (xs : List Place) → ((x : Place) → Contains xs x → ⊥) → xs ≡ []
  empty [] none = refl
  empty (x ∷ xs) none = absurd (none x (contains_head x xs))

  idle : IsIdle d
  idle = record {
    states = f.states;
    kept = λ a. out_same a ∙ o.kept a;
    black = empty d.stack.black
        (λ x held. cc (
          (coloured_after.marks.holds.piles.black x held).1,
          ap is_marking_state (f.states (zone_of d.heap.shape x)),
        ));
    gray = ap (λ (p : Piles). p.gray) f.stack_is ∙ none_piled (heap_with c flown) c.stack c.lists s.coloured.waits
        not_taking_gray;
  }

  settled : IsSettled w
  settled = record {
    none_marking = ap Rattle.colour_defs.specs.World.marking_of at
        ∙ none k.marking (λ z m. cc ((runs.marking_are z).0 m, not_marking z));
    none_preparing = s.phase.calm;
  }
    where
      none : (zs : List ℕ) → ((z : ℕ) → Contains zs z → ⊥) → zs ≡ []
      none [] h = refl
      none (z ∷ zs) h = absurd (h z (contains_head z zs))

  pub finishes : Finishes w (record w { collection = None })
  finishes = record {
    over = record {
      collection = k;
      running = at;
      ended = runs.groups_are ∙ ap (λ b. cond b (Some (map zones_in c.groups)) None) o.formed
          ∙ ap (λ gs. Some (map zones_in gs)) o.none_left;
      none_out = s.placed.lies.out_is ∙ none_out_listed c.heap.shape o.kept;
    };
    world_is = refl;
  }

  pub represents_done : RepresentsMarking d flown (record w { collection = None })
  represents_done = record {
    placed = placed_running d.heap w None w.preparing (placed_same c.heap d.heap w same_cells arenas_same
        (ap (λ (h : HeapState). h.delayed) f.heap_is) (ap (λ (h : HeapState). h.weak_names) f.heap_is) s.placed);
    swept = swept_same c.heap.shape d.heap.shape flown arenas_same s.swept;
    coloured = coloured_after;
    phase = record {
      calm = s.phase.calm;
      black = λ now x p named.
          (let b = s.phase.black settled x p (sym (name_same c.heap d.heap same_cells p) ∙ named) in (
            λ h. black_on (heap_with c flown) (heap_with d flown) same_marks p (b.0 h),
            λ h. b.1 (black_back (heap_with c flown) (heap_with d flown) same_marks p h),
          ));
      runs = subst (λ (r : Option RunState). RunsAs (heap_with d flown) d (record w { collection = None }) r None)
          (sym f.run_is) idle;
    };
  }
