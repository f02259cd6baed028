use Rattle.std.proofs.Common.{◌≡◌, ◌≢◌, ◌↔◌, ◌<◌, ℕ, None, Option, Some, true, false, List, ◌∷◌, [], refl, sym, ap}
use Rattle.std.proofs.Common.{subst, ◌∙◌}
use Rattle.std.proofs.Common.{arith, rules}
use Rattle.gz_names.proofs.Words.{HasZone-first, HasZone-none}
use Rattle.gz_names.specs.Zones.{HasZone}
use Rattle.gz_names.specs.declared.replies.Report.TheVariants as report
use Rattle.gz_names.specs.declared.zone_sets.ZoneSet.{ZoneSet}
use Rattle.cell_bits.specs.declared.bits.Bits.{Bits}
use Rattle.zone_edges.specs.Looks.{AreAllLookedAt}
use Rattle.slice_driver.specs.Collector.{CollectorState, WaitsToGroup}
use Rattle.slice_driver.specs.Quiet.{IsFormed}
use Rattle.slice_driver.specs.Units.{IsSoundMarking}
use Rattle.slice_driver.specs.Working.{GoesOn, IsGrouping}
use Rattle.slice_driver.specs.contracts.collector.Collector.{the_view}
use Rattle.slice_driver.proofs.marking.GroupingSteps.{StepsIn, all_stepped, forms_goes, not_formed, some_formed}
use Rattle.slice_driver.proofs.marking.GroupingSteps.{step_goes, steps_in, waits_on, zones_noted}
use Rattle.slice_driver.proofs.collector.Collector.group_step.Goals as goal
use Rattle.slice_driver.proofs.collector.Collector.group_step.Goals.{After-without-left}

abbrev view : After-without-left → CollectorState
view c = the_view c.self.inside

abbrev grouping : (c : After-without-left) → IsGrouping (view c)
grouping c = (
  record { zones = c.args.zones; formed = false; clearing = None },
  ap (λ (x : CollectorState). x.run) c.self.view_is ∙ c.requires.grouping,
  refl,
  refl,
)

sound : (c : After-without-left) → IsSoundMarking (view c) c.requires.sound.0
sound c = subst (λ (x : CollectorState). IsSoundMarking x c.requires.sound.0) (sym c.self.view_is) c.requires.sound.1

waits : (c : After-without-left) → WaitsToGroup (view c).edges c.args.zones c.args.ungrouped
waits c = subst (λ (x : CollectorState). WaitsToGroup x.edges c.args.zones c.args.ungrouped) (sym c.self.view_is)
    c.requires.left

looked : (c : After-without-left) → AreAllLookedAt (view c).heap.shape (view c).edges
looked c = subst (λ (x : CollectorState). AreAllLookedAt x.heap.shape x.edges) (sym c.self.view_is) c.requires.looked

-- the first zone that waited had its step
steps : (c : After-without-left) → StepsIn (view c).edges c.in-Some.zone c.group_step.new.self
steps c = steps_in (view c) c.requires.sound.0 (sound c) (grouping c) c.args.ungrouped c.in-Some.zone
    c.group_step.new.self (waits c) c.in-Some.ensures.some c.group_step.ensures.stepped c.group_step.ensures.zones
    c.group_step.ensures.edges c.group_step.ensures.cursors

-- the others are left
less : (c : After-without-left) → (z : ℕ) → HasZone c.without-left.result.bits z
    ↔ (HasZone c.args.ungrouped.bits z × (z ≢ c.in-Some.zone))
less c z = (
  λ has. (let both = (c.without-left.ensures z).0 has in (both.0, λ is. both.1 ((c.only.ensures z).1 is))),
  λ both. (c.without-left.ensures z).1 (both.0, λ has. both.1 ((c.only.ensures z).0 has)),
)

unformed : (c : After-without-left) → IsFormed c.args.self.now → ⊥
unformed c = subst (λ (x : CollectorState). IsFormed x → ⊥) c.self.view_is (not_formed (view c) (grouping c))

pub group_step-requires-clause-inside : goal.group_step-requires-clause-inside
group_step-requires-clause-inside c =
    let v : CollectorState = the_view c.self.inside in
    let g : IsGrouping v = (
      record { zones = c.args.zones; formed = false; clearing = None },
      ap (λ (x : CollectorState). x.run) c.self.view_is ∙ c.requires.grouping,
      refl,
      refl,
    ) in
    let s : IsSoundMarking v c.requires.sound.0 = subst (λ (x : CollectorState). IsSoundMarking x c.requires.sound.0)
    (sym c.self.view_is) c.requires.sound.1 in
    let w : WaitsToGroup v.edges c.args.zones c.args.ungrouped =
    subst (λ (x : CollectorState). WaitsToGroup x.edges c.args.zones c.args.ungrouped) (sym c.self.view_is)
    c.requires.left in
    subst (λ (y : ZoneSet). HasZone y.bits c.in-Some.zone) (sym (zones_noted v c.requires.sound.0 s g))
    ((w.waiting c.in-Some.zone).0 c.in-Some.ensures.some).0

pub group_step-requires-clause-once : goal.group_step-requires-clause-once
group_step-requires-clause-once c =
    let v : CollectorState = the_view c.self.inside in
    let w : WaitsToGroup v.edges c.args.zones c.args.ungrouped =
    subst (λ (x : CollectorState). WaitsToGroup x.edges c.args.zones c.args.ungrouped) (sym c.self.view_is)
    c.requires.left in
    ((w.waiting c.in-Some.zone).0 c.in-Some.ensures.some).1

pub returns-in_default : goal.returns-in_default
returns-in_default c = absurd (c.in_default.ensures.none c.requires.left.some.0 c.requires.left.some.1)

pub invariant_of-self : goal.invariant_of-self
invariant_of-self c =
    let at = (goal.at.invariant_of-self c).After-without-left in
    let left = c.without-left.result in
    let fits : left.bits < 18446744073709551616 = search rules in
    let full = c.if-not-is_empty.true in
    let none : left.bits ≡ 0 → ⊥ = λ e. (let empty = c.is_empty.ensures.1 e in cc (empty, full)) in
    let some = HasZone-first left.bits (omega (arith, none)) fits in
    waits_on (view at).edges c.in-Some.zone c.group_step.new.self c.args.zones c.args.ungrouped left (steps at)
    (waits at) (less at) _ some.1

pub components-groups-requires : goal.components-groups-requires
components-groups-requires c =
    let at = (goal.at.components-groups-requires c).After-without-left in
    all_stepped (view at).edges c.in-Some.zone c.group_step.new.self c.args.zones c.args.ungrouped c.without-left.result
    (steps at) (zones_noted (view at) c.requires.sound.0 (sound at) (grouping at)) (waits at).waiting (less at)
    (λ z has. HasZone-none z (subst (λ n. HasZone n z) (c.is_empty.ensures.0 c.if-not-is_empty.false) has))

pub invariant_of-self-2 : goal.invariant_of-self-2
invariant_of-self-2 c =
    let at = (goal.at.invariant_of-self-2 c).After-without-left in
    let inside = subst (λ (y : ZoneSet). HasZone y.bits c.in-Some.zone) (sym c.group_step.ensures.zones)
    (steps at).inside in
    λ empty out. some_formed c.group_step.new.self.sources c.group_step.new.self.zones c.components-groups.result
    c.in-Some.zone inside c.components-groups.ensures (sym (c.set.ensures ∙ c.copy_of.ensures) ∙ empty)

pub returns-then-not-is_empty : goal.returns-then-not-is_empty
returns-then-not-is_empty c =
    let at = (goal.at.returns-then-not-is_empty c).After-without-left in
    let v : CollectorState = view at in
    let d : CollectorState = record v { edges = c.group_step.new.self } in
    let goes : (f : ℕ → Option Bits) → IsSoundMarking v f → GoesOn v f [] d f =
    λ f s. step_goes v c.in-Some.zone c.group_step.new.self (grouping at) (looked at) (steps at) f s in
    let now : CollectorState = record d { run = Some (grouping at).0 } in
    let same : d ≡ now = ap (λ o. record d { run = o }) (grouping at).1 in
    record {
      said = None;
      reported_is = refl;
      now_is = refl;
      done = record {
        unformed = unformed at;
        goes_on = refl;
        no_start = refl;
        goes = λ f s black. subst (λ (e : CollectorState). GoesOn c.args.self.now f [] e f) same
            (subst (λ (x : CollectorState). IsSoundMarking x f → GoesOn x f [] d f) c.self.view_is (goes f) s);
      };
    }

pub returns : goal.returns
returns c =
    let at = (goal.at.returns c).After-without-left in
    let v : CollectorState = view at in
    let groups : List ZoneSet = c.components-groups.result in
    let d : List ZoneSet → CollectorState = λ gs. record v {
      edges = c.group_step.new.self;
      groups = gs;
      run = Some (record { zones = c.args.zones; formed = true; clearing = None });
    } in
    let goes : (f : ℕ → Option Bits) → IsSoundMarking v f → GoesOn v f (report.Groups groups ∷ []) (d groups) f =
    λ f s. forms_goes v c.in-Some.zone c.group_step.new.self (grouping at) (looked at) (steps at) f s groups
    c.components-groups.ensures in
    let set : c.set.new.self ≡ groups = c.set.ensures ∙ c.copy_of.ensures in
    record {
      said = Some (report.Groups groups);
      reported_is = refl;
      now_is = refl;
      done = record {
        unformed = unformed at;
        goes_on = refl;
        no_start = refl;
        goes = λ f s black.
            subst (λ (gs : List ZoneSet). GoesOn c.args.self.now f (report.Groups groups ∷ []) (d gs) f) (sym set)
            (subst (λ (x : CollectorState). IsSoundMarking x f → GoesOn x f (report.Groups groups ∷ []) (d groups) f)
            c.self.view_is (goes f) s);
      };
    }
