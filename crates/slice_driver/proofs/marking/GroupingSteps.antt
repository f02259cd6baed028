-- Looks and grouping steps of a unit.
use Rattle.std.proofs.Common.{◌≡◌, ◌≢◌, ◌⊎◌, ◌↔◌, ◌<◌, ◌≤◌, ◌+◌, ◌-◌, ◌*◌, ◌||◌, ℕ, zero, suc, true, false, List, []}
use Rattle.std.proofs.Common.{◌∷◌}
use Rattle.std.proofs.Common.{Bool}
use Rattle.std.proofs.Common.{length, Option, Some, None, is_some, slice_index_or, cond, inl, inr, refl, sym}
use Rattle.std.proofs.Common.{ap, subst, ◌∙◌, arith}
use Rattle.std.specs.Int.{bit_at}
use Rattle.std.proofs.lemmas.Nat.Bits.{bit_at-lt}
use Rattle.std.proofs.lemmas.Bool.{cases_eq}
use Rattle.gz_names.specs.Zones.{HasZone}
use Rattle.gz_names.proofs.Words.{HasZone-below}
use Rattle.gz_names.specs.declared.replies.Report.TheVariants as report
use Rattle.gz_names.specs.declared.zone_sets.ZoneSet.{ZoneSet}
use Rattle.cell_bits.specs.declared.bits.Bits.{Bits}
use Rattle.zone_edges.specs.Groups.{AreComponents}
use Rattle.zone_edges.specs.Looks.{AreAllLookedAt, AreDelegated, AreLeftBlack, AreWrappers, LooksAtNext, cursor_of}
use Rattle.zone_edges.specs.Looks.{Looks, left_below, left_to_look}
use Rattle.wrappers.specs.WrapperMaps.{list_of}
use Rattle.zone_edges.specs.Noted.{Noted}
use Rattle.zone_edges.proofs.SoundWrappers.{sound_has_wrappers}
use Rattle.colour_defs.specs.World.{Collection, World}
use Rattle.barriers.specs.Colours.{IsBlack}
use Rattle.heap_core.specs.Shape.{Shape, out_of}
use Rattle.slice_driver.proofs.marking.MarkingUnits.{black_fixed}
use Rattle.slice_driver.specs.declared.collector.Phase.{Phase}
use Rattle.slice_driver.specs.declared.collector.Phase.TheVariants as phase
use Rattle.slice_driver.specs.Collector.{CollectorState, IsKept, RunState, WaitsToGroup, heap_with}
use Rattle.slice_driver.specs.declared.collector.Uncleared.{Uncleared}
use Rattle.slice_driver.proofs.abstraction.Named.{some_one}
use Rattle.slice_driver.specs.Grouping.{FormsIn, LooksIn}
use Rattle.slice_driver.specs.Left.{marking_left, starting_left}
use Rattle.slice_driver.specs.Remaining.{clearing_left, grouping_left, left_of, ungrouped_below}
use Rattle.slice_driver.specs.Quiet.{HasSameLooks, IsFormed, IsQuiet}
use Rattle.slice_driver.specs.Represents.{AreLookedAt}
use Rattle.slice_driver.specs.Units.{IsSoundMarking}
use Rattle.slice_driver.specs.UnitsToCome.{units_to_come}
use Rattle.slice_driver.specs.Working.{GoesOn, IsBlackDone, IsGrouping, LooksOrAll}
use Rattle.slice_driver.proofs.group_end.Ready.{collection_of, runs_of}
use Rattle.slice_driver.proofs.taking_in.GroupingLaws.{form_unit, look_unit, quiet_unit, unformed_kept}
use Rattle.slice_driver.proofs.grouping.Looks.{own_heap}
use Rattle.slice_driver.proofs.marking.MarkingSteps.{own_sized}
use Rattle.slice_driver.proofs.taking_in.Runs.{has_zone_or_not}

-- what a collector that groups offers to a look
module _ (c : CollectorState) (flown : ℕ → Option Bits) (s : IsSoundMarking c flown) (g : IsGrouping c) where
  abbrev w : World
  w = s.world

  pub none_out : (a : ℕ) → out_of c.heap.shape a ≡ None
  none_out = unformed_kept c flown s.world g.0 s.represents g.1 g.2

  own : heap_with c flown ≡ c.heap
  own = own_heap c flown s.world s.represents none_out

  pub sized : length c.heap.colours ≡ length c.heap.shape.arenas
  sized = own_sized c.heap flown c.stack s.represents.coloured.marks

  pub wrappers : AreWrappers c.heap.shape
  wrappers = sound_has_wrappers c.heap (s.represents.placed.lies.graph, s.represents.placed.lies.shown)

  pub delegated : AreDelegated c.heap.shape
  delegated m k v d has is = (s.represents.coloured.marks.holds.colours.shape.delegates m k v d has).0 is

  looked_at : (k : Collection) × AreLookedAt (heap_with c flown) c g.0 s.world k
  looked_at = (let k = collection_of c (heap_with c flown) s.world g.0 g.1 s.represents.phase.runs in
      (k.0, (runs_of c (heap_with c flown) s.world g.0 k.0 g.1 k.1 s.represents.phase.runs).early g.2))

  pub early : (c.edges.stepped.bits ≡ 0) ⊎ AreLeftBlack c.heap c.edges
  early = subst (λ h. (c.edges.stepped.bits ≡ 0) ⊎ AreLeftBlack h c.edges) own looked_at.1.left_black

  pub zones_noted : c.edges.zones ≡ g.0.zones
  zones_noted = looked_at.1.zones_are

-- the zones without a step, by what is noted of zones and steps alone
ungrouped_same : (n m : Noted) → m.zones ≡ n.zones → m.stepped ≡ n.stepped → (z : ℕ)
    → ungrouped_below m z ≡ ungrouped_below n z
unfolding ungrouped_below
ungrouped_same n m e f zero = refl
ungrouped_same n m e f (suc z) =
    let rest = ungrouped_same n m e f z in
    let own : bit_at m.zones.bits z * (1 - bit_at m.stepped.bits z)
    ≡ bit_at n.zones.bits z * (1 - bit_at n.stepped.bits z) =
    ap (λ (y : ZoneSet). bit_at y.bits z * (1 - bit_at m.stepped.bits z)) e
    ∙ ap (λ (y : ZoneSet). bit_at n.zones.bits z * (1 - bit_at y.bits z)) f in
    omega (arith, rest, own)

grouping_at : (s : Shape) (n : Noted) (o : Option RunState) (r : RunState) → o ≡ Some r → r.formed ≡ false
    → r.clearing ≡ None → grouping_left s n o ≡ left_to_look s n + ungrouped_below n 64
grouping_at s n o r e f k = ap (grouping_left s n) e
    ∙ ap (λ b. cond (b || is_some r.clearing) 0 (left_to_look s n + ungrouped_below n 64)) f
    ∙ ap (λ (u : Option Uncleared). cond (is_some u) 0 (left_to_look s n + ungrouped_below n 64)) k

-- a look goes on
look_goes : (c : CollectorState) (edges : Noted) → IsGrouping c → LooksAtNext c.heap c.edges edges
    → edges.zones ≡ c.edges.zones → edges.stepped ≡ c.edges.stepped → (flown : ℕ → Option Bits) → IsSoundMarking c flown
    → IsBlackDone c flown → GoesOn c flown [] (record c { edges = edges }) flown
unfolding units_to_come
look_goes c edges g looks zones stepped flown s black =
    let d : CollectorState = record c { edges = edges } in
    let none = none_out c flown s g in
    let own = own_heap c flown s.world s.represents none in
    let l : LooksIn c d = record {
      kept = none;
      black_empty = black.pile;
      black_fixed = λ m k v has bm bk mv.
          subst (λ h. IsBlack h v) own
          ((black_fixed c flown s black).values m k v has (subst (λ h. IsBlack h m) (sym own) bm)
          (subst (λ h. IsBlack h k) (sym own) bk) mv);
      keys_fixed = λ m k v d has is bm bd.
          subst (λ h. IsBlack h k) own
          ((black_fixed c flown s black).keys m k v d has is (subst (λ h. IsBlack h m) (sym own) bm)
          (subst (λ h. IsBlack h d) (sym own) bd));
      looks = looks;
      zones_are = zones;
      stepped_is = stepped;
      rest = refl;
    } in
    let fewer_left : grouping_left c.heap.shape edges c.run < grouping_left c.heap.shape c.edges c.run =
    (let fewer = looks.left in
    let same = ungrouped_same c.edges edges zones stepped 64 in
    let old = grouping_at c.heap.shape c.edges c.run g.0 g.1 g.2 g.3 in
    let new = grouping_at c.heap.shape edges c.run g.0 g.1 g.2 g.3 in
    omega (arith, fewer, same, old, new)) in
    record {
      done = look_unit c d flown (g.0, g.1, g.3) l;
      words = λ a freed is. is;
      running = ap is_some g.1;
      made_is = refl;
      ledger_is = refl;
      weak_is = refl;
      less = omega (arith, fewer_left);
      to_come = omega (arith, fewer_left);
    }

-- a look was tried: it goes on, or each wrapper was looked at
pub look_tried : (c : CollectorState) (edges : Noted) (did : Bool) → IsGrouping c
    → Looks c.heap c.edges did edges → edges.zones ≡ c.edges.zones → edges.stepped ≡ c.edges.stepped
    → LooksOrAll did c (record c { edges = edges })
look_tried c edges true g looks zones stepped = look_goes c edges g looks zones stepped
look_tried c edges false g looks zones stepped = (looks.0, ap (λ (e : Noted). record c { edges = e }) looks.1)

-- one zone more had its grouping step
pub record StepsIn (old : Noted) (zone : ℕ) (new : Noted) : Type 0 where
  pub inside : HasZone old.zones.bits zone
  pub once : HasZone old.stepped.bits zone → ⊥
  pub stepped : (z : ℕ) → HasZone new.stepped.bits z ↔ (HasZone old.stepped.bits z ⊎ (z ≡ zone))
  pub zones_are : new.zones ≡ old.zones
  pub edges_are : new.sources ≡ old.sources
  pub cursors_are : new.cursors ≡ old.cursors

bit_of_zone : (word z : ℕ) → z < 64 → (HasZone word z → ⊥) → bit_at word z ≡ 0
unfolding HasZone
bit_of_zone word z lt none = let lt2 = bit_at-lt word z in let ne : bit_at word z ≡ 1 → ⊥ = λ e. none (lt, e) in
    omega (arith, lt2, ne)

zone_bit : (word z : ℕ) → HasZone word z → bit_at word z ≡ 1
unfolding HasZone
zone_bit word z h = h.1

same_bit : (a b z : ℕ) → z < 64 → HasZone a z ↔ HasZone b z → bit_at a z ≡ bit_at b z
same_bit a b z lt both = elim (has_zone_or_not a z) [
  | inl here ↦ zone_bit a z here ∙ sym (zone_bit b z (both.0 here))
  | inr none ↦ bit_of_zone a z lt none ∙ sym (bit_of_zone b z lt (λ h. none (both.1 h)))
]

module _ (old : Noted) (zone : ℕ) (new : Noted) (s : StepsIn old zone new) where
  others_bit : (z : ℕ) → z < 64 → z ≢ zone → bit_at new.stepped.bits z ≡ bit_at old.stepped.bits z
  others_bit z lt ne = same_bit _ _ z lt (
    λ h. elim ((s.stepped z).0 h) [ inl was ↦ was | inr is ↦ absurd (ne is) ],
    λ h. (s.stepped z).1 (inl h),
  )

  zones_bit : (z : ℕ) → bit_at new.zones.bits z ≡ bit_at old.zones.bits z
  zones_bit z = ap (λ (y : ZoneSet). bit_at y.bits z) s.zones_are

  -- below the zone the number is the same, and past it one less
  before : (n : ℕ) → n ≤ zone → ungrouped_below new n ≡ ungrouped_below old n
  unfolding ungrouped_below
  before zero le = refl
  before (suc n) le =
      let small = HasZone-below _ _ s.inside in
      let rest = before n (omega (arith, le)) in
      let own : bit_at new.zones.bits n * (1 - bit_at new.stepped.bits n)
      ≡ bit_at old.zones.bits n * (1 - bit_at old.stepped.bits n) =
      ap (λ b. b * (1 - bit_at new.stepped.bits n)) (zones_bit n)
      ∙ ap (λ b. bit_at old.zones.bits n * (1 - b))
      (others_bit n (omega (arith, le, small)) (λ e. omega (arith, le, e))) in
      omega (arith, rest, own)

  after : (n : ℕ) → zone < n → n ≤ 64 → ungrouped_below new n + 1 ≡ ungrouped_below old n
  unfolding ungrouped_below
  after zero lt le = absurd (omega (arith, lt))
  after (suc n) lt le = elim (cases_eq n zone) [
    | inl is ↦ (
        let rest = before n (omega (arith, is)) in
        let in_old : bit_at old.zones.bits n ≡ 1 = ap (bit_at old.zones.bits) is ∙ zone_bit _ _ s.inside in
        let not_then : bit_at old.stepped.bits n ≡ 0 = ap (bit_at old.stepped.bits) is
        ∙ bit_of_zone _ _ (HasZone-below _ _ s.inside) s.once in
        let now : bit_at new.stepped.bits n ≡ 1 = ap (bit_at new.stepped.bits) is
        ∙ zone_bit _ _ ((s.stepped zone).1 (inr refl)) in
        let in_new : bit_at new.zones.bits n ≡ 1 = zones_bit n ∙ in_old in
        let mine : bit_at new.zones.bits n * (1 - bit_at new.stepped.bits n) ≡ 0 =
        ap (λ b. b * (1 - bit_at new.stepped.bits n)) in_new ∙ ap (λ b. 1 * (1 - b)) now in
        let his : bit_at old.zones.bits n * (1 - bit_at old.stepped.bits n) ≡ 1 =
        ap (λ b. b * (1 - bit_at old.stepped.bits n)) in_old ∙ ap (λ b. 1 * (1 - b)) not_then in
        omega (arith, rest, mine, his)
        )
    | inr ne ↦ (
        let rest = after n (omega (arith, lt, ne)) (omega (arith, le)) in
        let own : bit_at new.zones.bits n * (1 - bit_at new.stepped.bits n)
        ≡ bit_at old.zones.bits n * (1 - bit_at old.stepped.bits n) =
        ap (λ b. b * (1 - bit_at new.stepped.bits n)) (zones_bit n)
        ∙ ap (λ b. bit_at old.zones.bits n * (1 - b)) (others_bit n (omega (arith, le)) ne) in
        omega (arith, rest, own)
        )
  ]

  pub one_fewer : ungrouped_below new 64 + 1 ≡ ungrouped_below old 64
  one_fewer = after 64 (HasZone-below _ _ s.inside) (omega arith)

-- what was looked at does not depend on the steps
left_same : (sh : Shape) (n m : Noted) → m.zones ≡ n.zones → m.cursors ≡ n.cursors → (z : ℕ)
    → left_below sh m z ≡ left_below sh n z
unfolding left_below
left_same sh n m e f zero = refl
left_same sh n m e f (suc z) =
    let rest = left_same sh n m e f z in
    let own : bit_at m.zones.bits z * (length (list_of sh.wrappers z) - cursor_of m z)
    ≡ bit_at n.zones.bits z * (length (list_of sh.wrappers z) - cursor_of n z) =
    ap (λ (y : ZoneSet). bit_at y.bits z * (length (list_of sh.wrappers z) - cursor_of m z)) e
    ∙ ap (λ (xs : List ℕ). bit_at n.zones.bits z * (length (list_of sh.wrappers z) - slice_index_or xs z 0)) f in
    omega (arith, rest, own)

module _ (c : CollectorState) (zone : ℕ) (edges : Noted) (g : IsGrouping c)
    (looked : AreAllLookedAt c.heap.shape c.edges) (steps : StepsIn c.edges zone edges) (flown : ℕ → Option Bits)
    (s : IsSoundMarking c flown) where
  -- a grouping step that is not the last goes on
  pub step_goes : GoesOn c flown [] (record c { edges = edges }) flown
  unfolding units_to_come
  step_goes =
      let d : CollectorState = record c { edges = edges } in
      let rep = s.represents in
      let q : IsQuiet c flown d flown = record {
        shape_is = refl;
        made_is = refl;
        weak_names_is = refl;
        delayed_is = refl;
        run_is = refl;
        groups_is = refl;
        sized = refl;
        states = λ z. inl refl;
        flies = rep.swept.flies;
        coloured = rep.coloured;
        darker = λ p b. b;
        black = λ p. ((λ x. x), λ x. x);
        live = λ p. ((λ x. x), λ x. x);
      } in
      let same : HasSameLooks c d =
      record {
        zones_are = steps.zones_are;
        sources_are = steps.edges_are;
        cursors_are = steps.cursors_are;
        stepped = inr looked;
      } in
      let fewer_left : grouping_left c.heap.shape edges c.run < grouping_left c.heap.shape c.edges c.run =
      (let fewer = one_fewer c.edges zone edges steps in
      let left = left_same c.heap.shape c.edges edges steps.zones_are steps.cursors_are 64 in
      let old = grouping_at c.heap.shape c.edges c.run g.0 g.1 g.2 g.3 in
      let new = grouping_at c.heap.shape edges c.run g.0 g.1 g.2 g.3 in
      omega (arith, fewer, left, old, new)) in
      record {
        done = quiet_unit c d flown flown (g.0, g.1, g.3) q same;
        words = λ a freed is. is;
        running = ap is_some g.1;
        made_is = refl;
        ledger_is = refl;
        weak_is = refl;
        less = omega (arith, fewer_left);
        to_come = omega (arith, fewer_left);
      }

  -- the last one forms the groups
  pub forms_goes : (groups : List ZoneSet) → AreComponents edges.sources edges.zones groups
      → GoesOn c flown (report.Groups groups ∷ [])
      (record c { edges = edges; groups = groups; run = Some (record g.0 { formed = true }) }) flown
  unfolding units_to_come
  forms_goes groups components =
      let d : CollectorState = record c { edges = edges; groups = groups; run = Some (record g.0 { formed = true }) } in
      let f : FormsIn c groups d = record {
        run = g.0;
        running = g.1;
        unformed = g.2;
        started = g.3;
        some_zone = (zone, subst (λ (y : ZoneSet). HasZone y.bits zone) (zones_noted c flown s g) steps.inside);
        looked = looked;
        components = subst (λ (xs : List ZoneSet). AreComponents xs c.edges.zones groups) steps.edges_are
            (subst (λ (y : ZoneSet). AreComponents edges.sources y groups) steps.zones_are components);
        heap_is = refl;
        stack_is = refl;
        lists_is = refl;
        groups_is = refl;
        run_is = refl;
      } in
      let fewer_left : 0 < grouping_left c.heap.shape c.edges c.run =
      (let fewer = one_fewer c.edges zone edges steps in
      let old = grouping_at c.heap.shape c.edges c.run g.0 g.1 g.2 g.3 in
      omega (arith, fewer, old)) in
      let cleared : clearing_left c.heap.shape d.run ≡ 0 = ap (left_of c.heap.shape g.0.zones) g.3 in
      let begun : marking_left c.heap.shape d.run ≡ 0 = ap (starting_left c.heap.shape) g.3 in
      record {
        done = form_unit c d flown groups f;
        words = λ a freed is. is;
        running = refl;
        made_is = refl;
        ledger_is = refl;
        weak_is = refl;
        less = omega (arith, fewer_left, cleared, begun);
        to_come = omega (arith, fewer_left, cleared);
      }

-- once none waits, each zone had its step
pub all_stepped : (old : Noted) (zone : ℕ) (new : Noted) (zones ungrouped left : ZoneSet) → StepsIn old zone new
    → old.zones ≡ zones → ((z : ℕ) → HasZone ungrouped.bits z
    ↔ (HasZone zones.bits z × (HasZone old.stepped.bits z → ⊥)))
    → ((z : ℕ) → HasZone left.bits z ↔ (HasZone ungrouped.bits z × (z ≢ zone))) → ((z : ℕ) → HasZone left.bits z → ⊥)
    → (z : ℕ) → HasZone new.zones.bits z → HasZone new.stepped.bits z
all_stepped old zone new zones ungrouped left s same waiting less empty z here =
    elim (has_zone_or_not new.stepped.bits z) [
      | inl had ↦ had
      | inr not ↦ absurd (empty z ((less z).1 (
        (waiting z).1 (
          subst (λ (y : ZoneSet). HasZone y.bits z) (s.zones_are ∙ same) here,
          λ was. not ((s.stepped z).1 (inl was)),
        ),
        λ is. not ((s.stepped z).1 (inr is)),
      )))
    ]

-- the others wait on
pub still_waiting : (old : Noted) (zone : ℕ) (new : Noted) (zones ungrouped left : ZoneSet) → StepsIn old zone new
    → ((z : ℕ) → HasZone ungrouped.bits z ↔ (HasZone zones.bits z × (HasZone old.stepped.bits z → ⊥)))
    → ((z : ℕ) → HasZone left.bits z ↔ (HasZone ungrouped.bits z × (z ≢ zone))) → (z : ℕ) → HasZone left.bits z
    ↔ (HasZone zones.bits z × (HasZone new.stepped.bits z → ⊥))
still_waiting old zone new zones ungrouped left s waiting less z = (
  λ h. (let a = (less z).0 h in let b = (waiting z).0 a.0 in
      (b.0, λ st. elim ((s.stepped z).0 st) [ inl was ↦ b.1 was | inr is ↦ a.1 is ])),
  λ h. (less z).1 ((waiting z).1 (h.0, λ was. h.1 ((s.stepped z).1 (inl was))), λ is. h.1 ((s.stepped z).1 (inr is))),
)

-- a look leaves which zones wait, and all else that is kept
pub kept_same : (s : Shape) (old new : Noted) (groups : List ZoneSet) (p : Phase) → new.stepped ≡ old.stepped
    → IsKept s old groups p → IsKept s new groups p
kept_same s old new groups phase.Idle same kept = tt
kept_same s old new groups (phase.Preparing zones uncleared) same kept = tt
kept_same s old new groups (phase.Grouping zones ungrouped) same kept = record {
  waiting = subst (λ (y : ZoneSet). (z : ℕ) → HasZone ungrouped.bits z
      ↔ (HasZone zones.bits z × (HasZone y.bits z → ⊥))) (sym same) kept.waiting;
  some = kept.some;
}
kept_same s old new groups (phase.Grouped zones) same kept = kept

-- the components of some zones are some groups
pub some_formed : (sources : List ZoneSet) (zones : ZoneSet) (groups : List ZoneSet) (z : ℕ) → HasZone zones.bits z
    → AreComponents sources zones groups → groups ≡ [] → ⊥
some_formed sources zones groups z has components empty =
    let at = components.covered z has in
    let none = ap (λ (gs : List ZoneSet). length gs) empty in
    let lt = at.1 in
    omega (arith, none, lt)

-- as a collection groups, its groups are not formed
pub not_formed : (c : CollectorState) → IsGrouping c → IsFormed c → ⊥
not_formed c g f = (let formed = ap (λ (r : RunState). r.formed) (some_one g.0 f.0 (sym g.1 ∙ f.1)) in let no = g.2 in
    let yes = f.2 in cc (formed, no, yes))

-- which zones wait, after the step of one of them that is not the last
pub waits_on : (old : Noted) (zone : ℕ) (new : Noted) (zones ungrouped left : ZoneSet) → StepsIn old zone new
    → WaitsToGroup old zones ungrouped
    → ((z : ℕ) → HasZone left.bits z ↔ (HasZone ungrouped.bits z × (z ≢ zone))) → (next : ℕ) → HasZone left.bits next
    → WaitsToGroup new zones left
waits_on old zone new zones ungrouped left s waits less next has = record {
  waiting = still_waiting old zone new zones ungrouped left s waits.waiting less;
  some = (next, has);
}

-- the step of a zone that waits
pub steps_in : (c : CollectorState) (flown : ℕ → Option Bits) → IsSoundMarking c flown
    → (g : IsGrouping c) (ungrouped : ZoneSet) (zone : ℕ) (new : Noted) → WaitsToGroup c.edges g.0.zones ungrouped
    → HasZone ungrouped.bits zone
    → ((z : ℕ) → HasZone new.stepped.bits z ↔ (HasZone c.edges.stepped.bits z ⊎ (z ≡ zone))) → new.zones ≡ c.edges.zones
    → new.sources ≡ c.edges.sources → new.cursors ≡ c.edges.cursors → StepsIn c.edges zone new
steps_in c flown s g ungrouped zone new waits has stepped zones sources cursors =
    let w = (waits.waiting zone).0 has in
    record {
      inside = subst (λ (y : ZoneSet). HasZone y.bits zone) (sym (zones_noted c flown s g)) w.0;
      once = w.1;
      stepped = stepped;
      zones_are = zones;
      edges_are = sources;
      cursors_are = cursors;
    }
