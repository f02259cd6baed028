-- A collector in which marking of the zones that were prepared has begun stands for the world in which it begins.
use Rattle.std.proofs.Common.{◌≡◌, ℕ, false, List, [], ◌∷◌, Option, Some, None, is_some, refl, sym}
use Rattle.std.proofs.Common.{ap, subst, ◌∙◌, inl, arith, Contains}
use Rattle.gz_names.specs.Zones.{zones_in}
use Rattle.gz_names.specs.declared.zone_sets.ZoneSet.{ZoneSet}
use Rattle.cell_bits.specs.declared.bits.Bits.{Bits}
use Rattle.colour_defs.specs.World.{World, Collection, IsSettled, marking_of}
use Rattle.colour_defs.specs.Laws.{IsValid}
use Rattle.colour_defs.specs.Lawful.{Begins}
use Rattle.colour_defs.proofs.Lists.{contains_head, nothing_in_none}
use Rattle.colour_defs.proofs.ValidReports.{begin_valid}
use Rattle.colour_defs.proofs.ZoneSets.{zones_in-has}
use Rattle.heap_core.specs.Shape.{Shape, is_marking_state, out_of, zone_of}
use Rattle.heap_core.specs.Heap.{HeapState, joined}
use Rattle.zone_edges.specs.Groups.{Edge}
use Rattle.zone_edges.specs.Looks.{cursor_of}
use Rattle.zone_edges.specs.Noted.{Noted}
use Rattle.barriers.specs.PendingLive.{GrayInvariant, buffer_of}
use Rattle.barriers.specs.Invariant.{MarkingInvariant}
use Rattle.weak_maps.specs.WeakMaps.{LooksState}
use Rattle.slice_driver.specs.Collector.{CollectorState, RunState, heap_with}
use Rattle.slice_driver.specs.Worlds.{IsInFlight, LiesIn}
use Rattle.slice_driver.specs.Closures.{AreTied}
use Rattle.slice_driver.specs.Represents.{AreLookedAt, IsCleared, IsColoured, IsInPhase, IsInPreparation, NothingLeft}
use Rattle.slice_driver.specs.Represents.{RepresentsMarking, RepresentsPreparing, RunsAs, WaitsWhileMarking}
use Rattle.slice_driver.specs.Begins.{BeginsMarking}
use Rattle.slice_driver.proofs.basics.LeftLooks.{none_of}
use Rattle.slice_driver.proofs.basics.Rows.{rows_same}
use Rattle.slice_driver.proofs.beginning.BeginsIn.{begins_in}
use Rattle.slice_driver.proofs.beginning.Beginning.{IsPrepared, begins_marking, begins_tied, none_flown, runs_begun}

pub none_member : {X : Type 0} (xs : List X) → ((x : X) → Contains xs x → ⊥) → xs ≡ []
none_member [] none = refl
none_member (x ∷ xs) none = absurd (none x (contains_head x xs))

-- the collection as it runs once its marking has begun
abbrev pub run_begun : ZoneSet → RunState
run_begun zones = record { zones = zones; formed = false; clearing = None }

-- a collector in which exactly these zones are being prepared, in a world
pub record IsPreparingIn (c : CollectorState) (flown : ℕ → Option Bits) (w : World) (zones : ZoneSet) : Type 0 where
  pub represents : RepresentsPreparing c flown w
  pub zones_are : represents.run.zones ≡ zones

module _ (c : CollectorState) (flown : ℕ → Option Bits) (w : World) (zones : ZoneSet)
    (at : IsPreparingIn c flown w zones) where
  pub phase_of : IsInPreparation c.heap w zones
  phase_of = subst (λ (z : ZoneSet). IsInPreparation c.heap w z) at.zones_are at.represents.phase

  pub cleared_of : IsCleared c.heap c.stack c.lists zones at.represents.uncleared
  cleared_of = subst (λ (z : ZoneSet). IsCleared c.heap c.stack c.lists z at.represents.uncleared) at.zones_are
      at.represents.cleared

  pub prepared_of : IsPrepared c.heap c.stack zones
  prepared_of = record {
    invariant = cleared_of.invariant;
    inside = phase_of.inside;
    outside = phase_of.outside;
  }

module _ (c d : CollectorState) (flown : ℕ → Option Bits) (w : World) (zones : ZoneSet)
    (at : IsPreparingIn c flown w zones) (b : BeginsMarking c.heap zones d.heap d.stack d.lists) where
  kept_out : (a : ℕ) → out_of d.heap.shape a ≡ None
  kept_out a = ap (λ (s : Shape). out_of s a) b.shape_is ∙ at.represents.none_out a

  flies : IsInFlight d.heap.shape flown
  flies = record {
    covers = λ a. at.represents.swept.flies.covers a ∙ ap is_some (at.represents.none_out a ∙ sym (kept_out a));
    woken = λ a old new out is. absurd (cc (kept_out a, out));
  }

  pub own_begun : joined d.heap flown ≡ d.heap
  own_begun = none_flown d.heap flown (b.delayed_is ∙ at.represents.placed.delayed) flies.covers kept_out

  nothing_left : NothingLeft d.heap.looks
  nothing_left = subst (λ (l : LooksState). NothingLeft l) (sym b.looks_is) at.represents.cleared.waits.looks

  waits : WaitsWhileMarking d.heap d.stack d.lists
  waits = record {
    piled = λ x has. absurd (nothing_in_none x (subst (λ xs. Contains xs x) b.gray_pile has));
    buffered = λ z m. none_member (buffer_of d.heap z)
        (λ x has. (let root = (b.buffered z x).0 has in cc (ap is_marking_state (b.states z root.0), m)));
    incoming = λ n p has. absurd (nothing_in_none p (subst (λ xs. Contains xs p) (b.none_incoming n) has));
    looks = λ quiet. nothing_left;
    of_marking = none_of d.heap.shape d.heap.looks nothing_left;
  }

module _ (c d : CollectorState) (flown : ℕ → Option Bits) (w v : World) (zones : ZoneSet)
    (at : IsPreparingIn c flown w zones) (ok : IsValid w) (b : BeginsMarking c.heap zones d.heap d.stack d.lists)
    (bg : Begins w (zones_in zones) v) where
  phase : IsInPreparation c.heap w zones
  phase = phase_of c flown w zones at

  prepared : IsPrepared c.heap c.stack zones
  prepared = prepared_of c flown w zones at

  begun : MarkingInvariant d.heap d.stack × GrayInvariant d.heap d.stack d.lists
  begun = begins_marking c.heap d.heap c.stack d.stack d.lists zones w prepared b at.represents.placed.lies

  tied : LiesIn d.heap v × AreTied d.heap d.stack d.lists v bg.collection
  tied = begins_tied c.heap d.heap c.stack d.stack d.lists zones w v prepared b at.represents.placed.lies ok phase.black
      bg

  -- some zone is marking
  not_settled : IsSettled v → ⊥
  not_settled settled =
      let empty : zones_in zones ≡ [] = sym bg.marking_are
      ∙ (sym (ap (λ (u : World). marking_of u.collection) bg.world_is) ∙ settled.none_marking) in
      nothing_in_none phase.some.0
      (subst (λ zs. Contains zs phase.some.0) empty ((zones_in-has zones phase.some.0).1 phase.some.1))

  pub represents_begun : d.run ≡ Some (run_begun zones) → AreLookedAt d.heap d (run_begun zones) v bg.collection
      → RepresentsMarking d flown v
  represents_begun run looked = record {
    placed = record {
      delayed = b.delayed_is ∙ at.represents.placed.delayed;
      lies = tied.0;
      homes = rows_same c.heap.shape d.heap.shape (ap (λ (s : Shape). s.weak) b.shape_is)
          (ap (λ (s : Shape). s.arenas) b.shape_is) at.represents.placed.homes;
    };
    swept = record {
      apart = λ x p q up uq. absurd (cc (kept_out c d flown w zones at b p.0, up.out_is));
      flies = flies c d flown w zones at b;
    };
    coloured = subst (λ h. IsColoured h d.stack d.lists) (sym (own_begun c d flown w zones at b))
        (record { marks = begun.0; gray = begun.1; waits = waits c d flown w zones at b });
    phase = subst (λ h. IsInPhase h d v) (sym (own_begun c d flown w zones at b)) (record {
      calm = ap (λ (u : World). u.preparing) bg.world_is;
      black = λ settled. absurd (not_settled settled);
      runs = subst (λ r. RunsAs d.heap d v r v.collection) (sym run)
          (subst (λ k. RunsAs d.heap d v (Some (run_begun zones)) k)
          (sym (ap (λ (u : World). u.collection) bg.world_is))
          (runs_begun c.heap c.stack zones d prepared b w v bg phase.made tied.1 looked));
    });
  }

-- the search for groups began anew
pub record AreEdgesNone (zones : ZoneSet) (edges : Noted) : Type 0 where
  pub are : edges.zones ≡ zones
  pub none : (x y : ℕ) → Edge edges.sources x y → ⊥
  pub start : (z : ℕ) → cursor_of edges z ≡ 0
  pub fresh : edges.stepped.bits ≡ 0

-- before the first look nothing was looked at
pub looked_begun : (h : HeapState) (d : CollectorState) (zones : ZoneSet) (v : World) (k : Collection)
    → AreEdgesNone zones d.edges → AreLookedAt h d (run_begun zones) v k
looked_begun h d zones v k fresh = record {
  zones_are = fresh.are;
  first = λ a b e. absurd (fresh.none a b e);
  looked = λ p q across at. absurd (omega (arith, at.before, fresh.start (zone_of h.shape p)));
  left_black = inl fresh.fresh;
}

-- where none runs in the collector, none runs in the world
pub none_runs : (c : CollectorState) (flown : ℕ → Option Bits) (w : World) → c.run ≡ None → RepresentsMarking c flown w
    → w.collection ≡ None
none_runs c flown w idle rep =
    go w.collection (subst (λ r. RunsAs (heap_with c flown) c w r w.collection) idle rep.phase.runs)
  where
    go : (o : Option Collection) → RunsAs (heap_with c flown) c w None o → o ≡ None
    go None runs = refl
    go (Some k) runs = absurd runs

-- a world in which marking began, which is valid, and for which a collector stands
pub record StartsIn (w : World) (zones : ZoneSet) (d : CollectorState) (flown : ℕ → Option Bits) : Type 0 where
  pub after : World
  pub begins : Begins w (zones_in zones) after
  pub valid : IsValid after
  pub represents : RepresentsMarking d flown after

pub starts_world : (c d : CollectorState) (flown : ℕ → Option Bits) (w : World) (zones : ZoneSet)
    → IsPreparingIn c flown w zones → IsValid w → BeginsMarking c.heap zones d.heap d.stack d.lists
    → d.run ≡ Some (run_begun zones) → AreEdgesNone zones d.edges → StartsIn w zones d flown
starts_world c d flown w zones at ok b run fresh =
    let phase = phase_of c flown w zones at in
    let begun = begins_in w phase.preparation phase.preparing_is in
    let begins : Begins w (zones_in zones) begun.0 =
    subst (λ (zs : List ℕ). Begins w zs begun.0) phase.zones_are begun.1 in
    record {
      after = begun.0;
      begins = begins;
      valid = begin_valid w (zones_in zones) begun.0 ok begins;
      represents = represents_begun c d flown w begun.0 zones at ok b begins run
          (looked_begun d.heap d zones begun.0 begins.collection fresh);
    }
