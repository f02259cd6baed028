-- Units that report nothing, and the unit that forms the groups.
use Rattle.std.proofs.Common.{◌≡◌, ℕ, false, inl, inr, refl, sym, ap, ◌∙◌, Option, None, Some, is_some, List}
use Rattle.std.proofs.Common.{[], ◌∷◌, map}
use Rattle.gz_names.specs.Zones.{zones_in}
use Rattle.gz_names.specs.declared.replies.Report.TheVariants as report
use Rattle.gz_names.specs.declared.zone_sets.ZoneSet.{ZoneSet}
use Rattle.gz_names.specs.declared.numbers.Place.{Place}
use Rattle.cell_bits.specs.declared.bits.Bits.{Bits}
use Rattle.zones.specs.declared.states.State.TheVariants as state
use Rattle.heap_core.specs.Shape.{out_of, state_in, zone_of}
use Rattle.colour_defs.specs.Laws.{IsValid}
use Rattle.colour_defs.specs.Lawful.{FormsGroups, quiet, says}
use Rattle.colour_defs.specs.World.{World}
use Rattle.slice_driver.specs.Collector.{CollectorState, RunState, heap_with}
use Rattle.slice_driver.specs.Grouping.{FormsIn, LooksIn}
use Rattle.slice_driver.specs.Quiet.{BeginsZone, HasSameLooks, IsQuiet, IsStarted}
use Rattle.slice_driver.specs.Represents.{RepresentsMarking, going}
use Rattle.slice_driver.specs.Units.{DoesUnit}
use Rattle.slice_driver.proofs.group_end.Ready.{collection_of, runs_of}
use Rattle.slice_driver.proofs.grouping.Forms.{after, forms, represents_formed, some_group}
use Rattle.slice_driver.proofs.grouping.Looks.{keeps_look, quiet_look}
use Rattle.slice_driver.proofs.abstraction.Steps.{keeps_looks, looks_same, quiet as stands_quiet}
use Rattle.slice_driver.proofs.basics.Zones.{begins_quiet}
use Rattle.slice_driver.proofs.taking_in.Runs.{has_zone_or_not}
use Rattle.slice_driver.proofs.abstraction.Phases.{marking_of, none_formed, none_started}
use Rattle.slice_driver.proofs.taking_in.Laws.{over_done, running_of}

-- a quiet step is a unit without a report
pub quiet_unit : (c d : CollectorState) (flown flying : ℕ → Option Bits) → IsStarted c → IsQuiet c flown d flying
    → HasSameLooks c d → DoesUnit c flown [] d flying
quiet_unit c d flown flying started q e w ok rep =
    let s = marking_of c flown w (none_started c flown w started) rep in (
      w,
      quiet (running_of c flown w started.0 started.1 s),
      going (stands_quiet c flown d flying q w (keeps_looks c flown d flying q e w) s),
    )

-- so is a look
pub look_unit : (c d : CollectorState) (flown : ℕ → Option Bits) → IsStarted c → LooksIn c d
    → DoesUnit c flown [] d flown
look_unit c d flown started l w ok rep =
    let s = marking_of c flown w (none_started c flown w started) rep in (
      w,
      quiet (running_of c flown w started.0 started.1 s),
      going (stands_quiet c flown d flown (quiet_look c d l flown w s) w (keeps_look c d l flown w ok) s),
    )

pub groups_form : (c d : CollectorState) (flown : ℕ → Option Bits) (w : World) (groups : List ZoneSet) → IsValid w
    → RepresentsMarking c flown w → FormsIn c groups d → (v : World) × FormsGroups w (map zones_in groups) v
    × RepresentsMarking d flown v
groups_form c d flown w groups ok s f =
    let k = collection_of c (heap_with c flown) w f.run f.running s.phase.runs in (
      after c d flown w k.0 groups ok s f k.1,
      forms c d flown w k.0 groups ok s f k.1,
      represents_formed c d flown w k.0 groups ok s f k.1,
    )

pub form_unit : (c d : CollectorState) (flown : ℕ → Option Bits) (groups : List ZoneSet) → FormsIn c groups d
    → DoesUnit c flown (report.Groups groups ∷ []) d flown
form_unit c d flown groups f w ok rep =
    let s = marking_of c flown w (none_started c flown w (f.run, f.running, f.started)) rep in
    let k = collection_of c (heap_with c flown) w f.run f.running s.phase.runs in
    let v = groups_form c d flown w groups ok s f in (
      v.0,
      says (running_of c flown w f.run f.running s) (λ q. cc q) v.1
          (λ over. some_group c d flown w k.0 groups ok s f k.1
          (sym f.groups_is ∙ (over_done d flown v.0 v.2 over).none_left)),
      going v.2,
    )

-- the beginning step of a zone
pub zone_unit : (c d : CollectorState) (flown : ℕ → Option Bits) (zone : ℕ) → BeginsZone c zone d
    → DoesUnit c flown [] d flown
zone_unit c d flown zone b w ok rep =
    let s = marking_of c flown w (none_formed c flown w b.formed) rep in
    let q = begins_quiet c d zone flown w s b in (
      w,
      quiet (running_of c flown w b.formed.0 b.formed.1 s),
      going (stands_quiet c flown d flown q w
          (keeps_looks c flown d flown q (looks_same c flown d flown q b.edges_is) w)
          s),
    )

-- before the groups are formed no arena is out
pub unformed_kept : (c : CollectorState) (flown : ℕ → Option Bits) (w : World) (r : RunState)
    → RepresentsMarking c flown w
    → c.run ≡ Some r → r.formed ≡ false → (a : ℕ) → out_of c.heap.shape a ≡ None
unformed_kept c flown w r s running unformed a = go (out_of c.heap.shape a) refl
  where
    go : (o : Option Bits) → out_of c.heap.shape a ≡ o → out_of c.heap.shape a ≡ None
    go None e = e
    go (Some b) e =
        let k = collection_of c (heap_with c flown) w r running s.phase.runs in
        let runs = runs_of c (heap_with c flown) w r k.0 running k.1 s.phase.runs in
        let p : Place = (a, 0) in
        let sweep : state_in c.heap.shape (zone_of c.heap.shape p) ≡ state.Sweep =
        runs.states.sweeping (zone_of c.heap.shape p) a p refl refl (ap is_some e) in
        elim (has_zone_or_not r.zones.bits (zone_of c.heap.shape p)) [
          | inl here ↦ absurd (cc (sweep, runs.states.early unformed _ here))
          | inr out ↦ absurd (cc (sweep, runs.states.outside _ out))
        ]
