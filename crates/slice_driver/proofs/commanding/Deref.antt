-- A register takes what a weak slot names, while nothing is being prepared: the cell went through a barrier, and wakes.
use Rattle.std.proofs.Common.{◌≡◌, ◌⊎◌, ◌↔◌, ◌≤◌, ◌*◌, ℕ, List, [], ◌∷◌, length, Option, Some, None, Contains}
use Rattle.std.proofs.Common.{slice_set}
use Rattle.std.proofs.Common.{true, arith, refl, sym, ap, subst, ◌∙◌, inl, inr}
use Rattle.std.specs.FinMap as places
use Rattle.std.specs.FinSet as set
use Rattle.std.specs.Option.{ForSome}
use Rattle.gz_names.specs.declared.names.Name.{Name}
use Rattle.gz_names.specs.declared.names.Name.TheVariants.{Cell, Wrap}
use Rattle.gz_names.specs.declared.numbers.CompNo.{CompNo}
use Rattle.gz_names.specs.declared.numbers.Place.{Place}
use Rattle.gz_names.specs.declared.replies.Reply.{Reply}
use Rattle.gz_names.specs.declared.replies.Reply.TheVariants as reply
use Rattle.cell_bits.specs.declared.bits.Bits.{Bits}
use Rattle.mark_stack.specs.Stack.{Piles}
use Rattle.colour_defs.specs.Graph.{GraphState, zone_of as zone_of_name}
use Rattle.colour_defs.specs.Groups.{IsFirstEdge, LeadsOutside}
use Rattle.colour_defs.specs.Laws.{IsValid, IsWellFormed}
use Rattle.colour_defs.specs.Present.{IsPartOf}
use Rattle.colour_defs.specs.Step.{named_or_null, with_register}
use Rattle.colour_defs.specs.Units.{with_woken}
use Rattle.colour_defs.specs.WeakRefs.{with_read}
use Rattle.colour_defs.specs.World as world
use Rattle.colour_defs.specs.World.{Accepts, Collection, Has, HasPlace, IsSettled, Names, World, marking_of}
use Rattle.colour_defs.specs.World.{with_waking}
use Rattle.colour_defs.proofs.Lists.{nothing_in_none}
use Rattle.heap_core.specs.declared.plans.Change.{Change}
use Rattle.heap_core.specs.declared.plans.Change.TheVariants as change
use Rattle.heap_core.specs.Shape.{IsPresent, held_name, is_marking_state, name_at, zone_of}
use Rattle.heap_core.specs.Heap.{HeapState, joined, with_flown, with_marks, with_reg}
use Rattle.heap_core.specs.Plans.{ChangesBy, IsAble}
use Rattle.heap_core.specs.Shows.{Shows}
use Rattle.heap_core.proofs.Held.{shows-with_reg}
use Rattle.barriers.specs.Colours.{IsBlack}
use Rattle.barriers.specs.Exposing.{BlackOr, Exposes}
use Rattle.barriers.specs.Invariant.{IsSettled as IsSettledHeap, MarkingInvariant}
use Rattle.barriers.specs.PendingLive.{GrayInvariant}
use Rattle.barriers.specs.Reached.{Reached}
use Rattle.barriers.specs.Spreading.{Covers}
use Rattle.barriers.proofs.Flying.{flown_length}
use Rattle.zone_edges.specs.Looks.{WrapsBlack}
use Rattle.slice_driver.specs.Closures.{AreBlack, AreTied}
use Rattle.slice_driver.specs.Collector.{CollectorState, RunState, heap_with}
use Rattle.slice_driver.specs.Commands.{SpreadsBlack, StayInPlace, with_colours}
use Rattle.slice_driver.specs.Represents.{AreInStates, AreLookedAt, IsIdle, RepresentsMarking, Runs, RunsAs}
use Rattle.slice_driver.specs.Represents.{WaitsWhileMarking}
use Rattle.slice_driver.specs.Serves.{Serves}
use Rattle.slice_driver.specs.Worlds.{IsInFlight, LiesIn}
use Rattle.slice_driver.proofs.abstraction.BlackNames.{black_named, black_names, named_black}
use Rattle.slice_driver.proofs.abstraction.Keeping.{stay_same}
use Rattle.slice_driver.proofs.abstraction.Lying.{lies_coloured, lies_from, lies_marked}
use Rattle.slice_driver.proofs.abstraction.Named.{AreSameStarts, named_present, place_of, present_named, same_reached}
use Rattle.slice_driver.proofs.abstraction.Named.{some_one}
use Rattle.slice_driver.proofs.abstraction.Serving.{serves}
use Rattle.slice_driver.proofs.abstraction.Steps.{settled_heap, settled_states}
use Rattle.slice_driver.proofs.abstraction.Tying.{tied_exposed, tied_served}
use Rattle.slice_driver.proofs.abstraction.Waits.{nothing_changed}
use Rattle.slice_driver.proofs.basics.LeftLooks.{changed_left, same_left}
use Rattle.slice_driver.proofs.basics.NamesWeakly.{names_weakly_on}
use Rattle.slice_driver.proofs.basics.Rows.{rows_changed}
use Rattle.slice_driver.proofs.basics.Woken.{reached_kept}
use Rattle.slice_driver.proofs.basics.Worlds.{unswept_same}
use Rattle.slice_driver.proofs.beginning.Begun.{none_member}
use Rattle.slice_driver.proofs.commanding.Answering.{exposed_is}
use Rattle.slice_driver.proofs.commanding.CommandRuns.{waits_served}
use Rattle.slice_driver.proofs.commanding.Commanding.{exposed_marks, markable}
use Rattle.slice_driver.proofs.commanding.Waking.{IsThere, starts_same, woken_marking}
use Rattle.slice_driver.proofs.marking.Flights.{still_flies}
use Rattle.slice_driver.proofs.marking.MarkingSteps.{own_sized}
use Rattle.slice_driver.proofs.marking.MarkingUnits.{piled_still, waits_on}

-- a register is no edge, and names nothing that was not there
pub register_formed : (g : GraphState) (r : ℕ) (x : Option Name) → IsWellFormed g → IsWellFormed (with_register g r x)
register_formed g r x f = record {
  fields = f.fields;
  keys = f.keys;
  values = f.values;
  no_wrappers = f.no_wrappers;
  delegates = f.delegates;
}

pub register_part : (g h : GraphState) (r : ℕ) (x : Option Name) → IsPartOf g h
    → IsPartOf (with_register g r x) (with_register h r x)
register_part g h r x p = record {
  zones = p.zones;
  comps = p.comps;
  registers = ap (λ (xs : List (Option Name)). slice_set xs r x) p.registers;
  slots = p.slots;
  made = p.made;
  objects = p.objects;
  wrappers = p.wrappers;
  entries = p.entries;
}

-- a world is as another but for what a register holds, and for what is black and collected
pub record IsReadOf (w v : World) (r : ℕ) (x : Option Name) : Type 0 where
  pub graph : v.graph ≡ with_register w.graph r x
  pub places : v.places ≡ w.places
  pub owner : v.owner ≡ w.owner
  pub weak : v.weak ≡ w.weak
  pub out : v.out ≡ w.out
  pub white : v.white ≡ w.white

-- the heap lies in each such world
pub lies_read : (w v : World) (old : HeapState) (r : ℕ) (o : Option Place) (x : Option Name) → LiesIn old w
    → ForSome o (IsPresent old.shape) → held_name old.shape o ≡ x → IsReadOf w v r x → LiesIn (with_reg old r o) v
lies_read w v old r o x l there named is =
    let new : HeapState = with_reg old r o in
    let stay : StayInPlace old.shape new.shape = stay_same old.shape new.shape refl l.whole in
    let shown : Shows new (with_register l.graph r x) =
    subst (λ (y : Option Name). Shows new (with_register l.graph r y)) named
    (shows-with_reg old l.graph r o l.shown there) in
    lies_from new (with_register l.graph r x) v shown (register_formed l.graph r x l.part.well_formed)
    (subst (λ (g : GraphState). IsPartOf g (with_register l.graph r x)) (sym is.graph)
    (register_part w.graph l.graph r x l.part.part)) stay.whole
    (λ y p. (
      λ e. stay.names p ∙ (l.places_are y p).0 (ap (λ m. places.get m y) (sym is.places) ∙ e),
      λ e. ap (λ m. places.get m y) is.places ∙ (l.places_are y p).1 (sym (stay.names p) ∙ e),
    ))
    (is.owner ∙ (l.owner_is ∙ sym stay.owners))
    (names_weakly_on old.shape new.shape (λ p y e. stay.names p ∙ e) old.weak_names new.weak_names w.weak v.weak refl
    is.weak l.weak_are)
    (is.out ∙ (l.out_is ∙ sym stay.outs))
    (λ y p. (
      λ has. (stay.unswept p y).1
          ((l.white_are y p).0 (subst (λ (ws : List (Name × (ℕ × ℕ))). Contains ws (y, p)) is.white has)),
      λ un. subst (λ (ws : List (Name × (ℕ × ℕ))). Contains ws (y, p)) (sym is.white)
          ((l.white_are y p).1 ((stay.unswept p y).0 un)),
    ))

-- the world after a read, in which the cell that it handed out has woken
record ReadInWorld (w : World) (r : ℕ) (x : Name) (new : HeapState) (colours : List Bits) : Type 0 where
  after : World
  accepts : Accepts w (with_read w.graph (Some x) w.collection) (with_register w.graph r (Some x)) (Some x) after
  lies : LiesIn new after
  black : IsSettled after → AreBlack (with_colours new colours) after
  out_is : after.out ≡ w.out
  preparing_is : after.preparing ≡ w.preparing
  graph_is : after.graph ≡ with_register w.graph r (Some x)
  stays : (y : Name) → world.IsPresent after y ↔ world.IsPresent w y
  collection_is : after.collection ≡ with_waking x (with_read w.graph (Some x) w.collection)

read_marking : (g : GraphState) (x : Name) (o : Option Collection) → marking_of (with_read g (Some x) o) ≡ marking_of o
read_marking g x None = refl
read_marking g x (Some k) = refl

-- a register takes a cell under its name, in a world in which nothing is being prepared
record TakesCell (w : World) (old : HeapState) (p : Place) (x : Name) : Type 0 where
  lies : LiesIn old w
  named : name_at old.shape p ≡ Some x
  calm : w.preparing ≡ None

-- where nothing is marked, black spreads; else the name is noted as woken
module _ (w : World) (old : HeapState) (r : ℕ) (p : Place) (x : Name) (es : List Bits) (takes : TakesCell w old p x)
  where
    abbrev new : HeapState
    new = with_reg old r (Some p)

    abbrev read : Option Collection
    read = with_read w.graph (Some x) w.collection

    abbrev graph : GraphState
    graph = with_register w.graph r (Some x)

    abbrev after_read : Names → World
    after_read black = record w { graph = graph; black = black; collection = with_waking x read }

    lies_after : (black : Names) → LiesIn new (after_read black)
    lies_after black = lies_read w (after_read black) old r (Some p) (Some x) takes.lies
        (λ q e. subst (IsPresent old.shape) (some_one p q e) (named_present old.shape p x takes.named)) takes.named
        (record { graph = refl; places = refl; owner = refl; weak = refl; out = refl; white = refl })

    has_place : (black : Names) → HasPlace w graph x (after_read black)
    has_place black = record {
      graph_is = refl;
      found = λ there. (refl, refl);
      made = λ absent. absurd (absent (present_named old w takes.lies p x takes.named));
      out_is = refl;
      white_is = refl;
      weak_is = refl;
      preparing_is = refl;
    }

    there : IsThere old.shape new.shape p x
    there = record { named = takes.named; kept = λ q y was. was; fresh = λ q y now. inl now }

    read_with : (black : Names) → world.Wakes w read (marking_of w.collection) graph x (after_read black)
        → (IsSettled w → AreBlack (with_colours new es) (after_read black)) → ReadInWorld w r x new es
    read_with black wakes blacks = record {
      after = after_read black;
      accepts = (has_place black, wakes);
      lies = lies_after black;
      black = λ settled. blacks (record {
        none_marking = sym (woken_marking x read ∙ read_marking w.graph x w.collection) ∙ settled.none_marking;
        none_preparing = takes.calm;
      });
      out_is = refl;
      preparing_is = refl;
      graph_is = refl;
      stays = λ y. ((λ here. here), λ here. here);
      collection_is = refl;
    }

    module _ (P : Place → Type 0) (starts : (v : World) → LiesIn new v → IsSettled w
        → AreSameStarts new v P (λ s. Has w.black s ⊎ (x ≡ s)))
        (spread : IsSettled w → (q : Place) → IsBlack (with_colours new es) q ↔ Reached new.shape P q) where
      read_settled : IsSettled w → ReadInWorld w r x new es
      read_settled settled =
          let k : HeapState = with_colours new es in
          let v : World = after_read (black_names k w.places) in
          let lv : LiesIn new v = lies_after (black_names k w.places) in
          let Q : Name → Type 0 = λ s. Has w.black s ⊎ (x ≡ s) in
          let st : AreSameStarts new v P Q = starts v lv settled in
          read_with (black_names k w.places)
          (subst (λ zs. world.Wakes w read zs graph x v) (sym settled.none_marking) (
            refl,
            λ y. (
              λ h. (let b = black_named k w.places y h in
                  let e : name_at new.shape b.0 ≡ Some y = (lv.places_are y b.0).0 b.1 in (
                    (same_reached new v lv P Q st b.0 y e).0 ((spread settled b.0).0 b.2),
                    present_named new v lv b.0 y e,
                  )),
              λ c. (let q = place_of new v lv y c.1 in
                  named_black k w.places y q.0 ((lv.places_are y q.0).1 q.1)
                  ((spread settled q.0).1 ((same_reached new v lv P Q st q.0 y q.1).1 c.0))),
            ),
          ))
          (λ s y q e. (
            λ h. (let b = black_named k w.places y h in
                subst (IsBlack k) (lv.shown.apart b.0 q y ((lv.places_are y b.0).0 b.1) e) b.2),
            λ b. named_black k w.places y q ((lv.places_are y q).1 e) b,
          ))

      read_waking : ReadInWorld w r x new es
      read_waking = go (marking_of w.collection) refl
        where
          go : (zs : List ℕ) → marking_of w.collection ≡ zs → ReadInWorld w r x new es
          go [] e = read_settled (record { none_marking = e; none_preparing = takes.calm })
          go (z ∷ zs) e = read_with w.black
              (subst (λ ys. world.Wakes w read ys graph x (after_read w.black)) (sym e) (refl, refl))
              (λ settled. absurd (cc (settled.none_marking, e)))

abbrev with_name : Name → Collection → Collection
with_name x k = record k { woken = set.insert k.woken x }

-- a register takes a cell that went through a barrier, in a world in which nothing is being prepared
pub record ReadsCell : Type 0 where
  pub c : CollectorState
  pub flown : ℕ → Option Bits
  pub world : World
  pub valid : IsValid world
  pub rep : RepresentsMarking c flown world
  pub r : ℕ
  pub p : Place
  pub x : Name
  pub named : name_at c.heap.shape p ≡ Some x
  pub colours : List Bits
  pub stack : Piles
  pub flying : ℕ → Option Bits
  pub exposes : Exposes (heap_with c flown) c.stack p (joined (with_marks c.heap colours c.heap.delayed) flying) stack
  pub covers : Covers c.heap.shape flying

module _ (by : ReadsCell) where
  abbrev m : HeapState
  m = with_marks by.c.heap by.colours by.c.heap.delayed

  abbrev t : CollectorState
  t = record by.c { heap = m; stack = by.stack }

  abbrev taken : HeapState
  taken = with_reg m by.r (Some by.p)

  abbrev d : CollectorState
  d = record t { heap = taken }

  abbrev ch : Change
  ch = change.Register by.r (Some by.p) true

  abbrev answer : Reply
  answer = named_or_null (held_name m.shape (Some by.p))

  abbrev bits : List Bits
  bits = with_flown by.flying 0 by.colours

  changed : ChangesBy m ch answer taken
  changed = (refl, refl)

  lies_here : LiesIn m by.world
  lies_here = lies_marked by.c.heap by.colours by.c.heap.delayed by.world by.rep.placed.lies

  lies_joined : LiesIn (joined m by.flying) by.world
  lies_joined = lies_coloured by.c.heap bits by.world by.rep.placed.lies

  inv : MarkingInvariant (joined m by.flying) by.stack
  inv = exposed_marks (Some by.p) (heap_with by.c by.flown) by.c.stack (joined m by.flying) by.stack by.exposes
      by.rep.coloured.marks

  gray : GrayInvariant (joined m by.flying) by.stack by.c.lists
  gray = (by.exposes.pending_live by.c.lists by.rep.coloured.gray).0

  able : IsAble by.c.heap.shape by.c.heap.made ch
  able q e = subst (IsPresent by.c.heap.shape) (some_one by.p q e) (named_present by.c.heap.shape by.p by.x by.named)

  no_wrap : WrapsBlack (joined m by.flying) ch
  no_wrap s z c q e = absurd (cc e)

  room : 64 * length taken.colours ≤ by.c.lists.room
  room = subst (λ n. 64 * n ≤ by.c.lists.room) (flown_length by.flying 0 by.colours) gray.room

  served : Serves (joined m by.flying) (joined taken by.flying) by.stack by.c.lists
  served = serves m taken by.flying by.stack by.c.lists inv gray by.covers room
      (markable by.c by.flown by.world by.rep).none_prepared by.c.heap.made
      ch answer able (λ q e. absurd (cc e))
      (λ q e. exposed_is (Some by.p) (heap_with by.c by.flown) by.c.stack (joined m by.flying) by.stack by.exposes q e)
      no_wrap changed

  none_marked : IsSettled by.world → IsSettledHeap (heap_with by.c by.flown)
  none_marked settled = settled_heap (heap_with by.c by.flown) by.c.stack by.c.lists by.rep.coloured.waits
      (settled_states (heap_with by.c by.flown) by.c by.world by.c.run by.world.collection by.rep.phase.runs
      settled.none_marking)

  spreads : IsSettled by.world → SpreadsBlack (heap_with by.c by.flown) by.p (with_colours taken bits)
  spreads settled q = (
    λ black. reached_kept m.shape taken.shape (BlackOr (heap_with by.c by.flown) by.p) refl refl
        ((by.exposes.settled (none_marked settled) q).0 black),
    λ way. (by.exposes.settled (none_marked settled) q).1
        (reached_kept taken.shape m.shape (BlackOr (heap_with by.c by.flown) by.p) refl refl way),
  )

  done : ReadInWorld by.world by.r by.x taken bits
  done = read_waking by.world m by.r by.p by.x bits (record {
    lies = lies_here;
    named = by.named;
    calm = by.rep.phase.calm;
  }) (BlackOr (heap_with by.c by.flown) by.p)
      (λ v lv settled. starts_same by.world m taken (with_flown by.flown 0 by.c.heap.colours) by.p by.x v (record {
        valid = by.valid;
        lies = lies_here;
        colours = by.rep.coloured.marks.holds.colours;
        settled = settled;
        black = by.rep.phase.black settled;
      }) lv (record { named = by.named; kept = λ q y was. was; fresh = λ q y now. inl now }))
      spreads

  flies : IsInFlight m.shape by.flying
  flies = still_flies by.c.heap m by.flown by.flying by.rep.swept.flies refl by.rep.coloured.marks.holds.colours
      inv.holds.colours by.covers
      (own_sized by.c.heap by.flown by.c.stack by.rep.coloured.marks) (own_sized m by.flying by.stack inv)
      by.exposes.spreads.blackens.kept
      (λ y. elim (by.exposes.spreads.blackens.others y) [ inl black ↦ inl black | inr e ↦ inr (inl e) ])

  waits : WaitsWhileMarking (joined m by.flying) by.stack by.c.lists
  waits = waits_on (heap_with by.c by.flown) (joined m by.flying) by.c.stack by.stack by.c.lists refl refl
      by.rep.coloured.waits
      (piled_still (heap_with by.c by.flown) (joined m by.flying) by.c.stack by.stack by.c.lists refl refl
      by.rep.coloured.waits
      by.exposes.spreads.gray_is) by.rep.coloured.waits.looks
      (same_left by.c.heap.shape by.c.heap.looks m.shape m.looks refl refl)

  keeps : (q : Place) → IsBlack (heap_with by.c by.flown) q → IsBlack (joined taken by.flying) q
  keeps q black = by.exposes.spreads.blackens.kept q black

module _ (by : ReadsCell) where
  -- the collection that runs
  idle_read : IsIdle by.c → IsIdle (d by)
  idle_read i = record {
    states = i.states;
    kept = i.kept;
    black = none_member by.stack.black
        (λ q has. (let marking = ((inv by).holds.piles.black q has).1 in
        cc (marking, ap is_marking_state (i.states (zone_of (m by).shape q)))));
    gray = by.exposes.spreads.gray_is ∙ i.gray;
  }

  states_read : (o : RunState) → AreInStates by.c o → AreInStates (d by) o
  states_read o s = record {
    outside = s.outside;
    made = s.made;
    early = s.early;
    later = s.later;
    ended = s.ended;
    sweeping = s.sweeping;
    swept = s.swept;
  }

  leads_read : (set : Name → Type 0) (from to : ℕ) (c : CompNo) (n : ℕ) → LeadsOutside by.world set from to c n
      → LeadsOutside (done by).after set from to c n
  leads_read set from to c n l =
      let same = sym (done by).graph_is in
      record {
        present = ((done by).stays (Wrap c n)).1 l.present;
        of = subst (λ (g : GraphState). zone_of_name g (Wrap c n) ≡ Some from) same l.of;
        into = subst (λ (g : GraphState). zone_of_name g (Cell n) ≡ Some to) same l.into;
        outside = l.outside;
      }

  looked_read : (o : RunState) (k kk : Collection) → kk ≡ record k { tally = kk.tally; woken = kk.woken }
      → AreLookedAt (heap_with by.c by.flown) by.c o by.world k
      → AreLookedAt (joined (taken by) by.flying) (d by) o (done by).after kk
  looked_read o k kk same l = record {
    zones_are = l.zones_are;
    first = λ from to e. subst (λ (c : Collection). IsFirstEdge (done by).after c from to) (sym same) (
      (l.first from to e).0,
      (l.first from to e).1,
      (l.first from to e).2,
      elim (l.first from to e).3 [
        | inl way ↦ inl (way.0, way.1, leads_read _ from to way.0 way.1 way.2)
        | inr way ↦ inr (
          way.0,
          way.1,
          leads_read _ to from way.0 way.1 way.2,
          (way.3.0, way.3.1, way.3.2, ((done by).stays way.3.0).1 way.3.3),
        )
      ],
    );
    looked = λ y z across at. elim (l.looked y z (record {
      edge = across.edge;
      from = across.from;
      to = across.to;
      apart = across.apart;
    }) (record { index = at.index; before = at.before; stands = at.stands })) [
      | inl black ↦ inl (keeps by z black)
      | inr e ↦ inr (e.0, λ key. elim (e.1 key) [ inl dark ↦ inl (keeps by y dark) | inr back ↦ inr back ])
    ];
    left_black = elim l.left_black [
      | inl fresh ↦ inl fresh
      | inr black ↦ inr (λ z i y q here past at held. keeps by q (black z i y q here past at held))
    ];
  }

  tied_read : (o : RunState) (k : Collection) → by.world.collection ≡ Some k
      → Runs (heap_with by.c by.flown) by.c by.world o k → (z : ℕ)
      → Contains k.marking z
      → AreTied (joined (taken by) by.flying) by.stack by.c.lists (done by).after
      (record (with_name by.x k) { tally = with_woken by.world.graph k.zones (Some by.x) k.tally })
  tied_read o k at i z has =
      let exposed : AreTied (joined (m by) by.flying) by.stack by.c.lists by.world (with_name by.x k) =
      tied_exposed (heap_with by.c by.flown) (joined (m by) by.flying) by.c.stack by.stack by.c.lists by.world k by.p
      by.x by.valid
      (lies_coloured by.c.heap (with_flown by.flown 0 by.c.heap.colours) by.world by.rep.placed.lies) at
      (λ none. nothing_in_none z (subst (λ zs. Contains zs z) none has)) by.rep.coloured.marks by.rep.coloured.gray
      by.exposes by.named
      (i.tied z has) in
      tied_served (joined (m by) by.flying) (joined (taken by) by.flying) by.stack by.c.lists by.world (done by).after
      (with_name by.x k)
      (with_woken by.world.graph k.zones (Some by.x) k.tally) (lies_joined by)
      (lies_coloured (taken by) (bits by) (done by).after (done by).lies) (served by)
      (λ q. refl)
      (let same = ap (λ (g : GraphState). length g.objects) (done by).graph_is in omega (arith, same)) exposed

  runs_read : (o : Option RunState) (u : Option Collection) → by.world.collection ≡ u
      → RunsAs (heap_with by.c by.flown) by.c by.world o u
      → RunsAs (joined (taken by) by.flying) (d by) (done by).after o (done by).after.collection
  runs_read None None e i = subst (λ c. RunsAs (joined (taken by) by.flying) (d by) (done by).after None c)
      (sym ((done by).collection_is ∙ ap (λ c. with_waking by.x (with_read by.world.graph (Some by.x) c)) e))
      (idle_read i)
  runs_read None (Some k) e i = absurd i
  runs_read (Some o) None e i = absurd i
  runs_read (Some o) (Some k) e i =
      let kk : Collection = record (with_name by.x k) { tally = with_woken by.world.graph k.zones (Some by.x) k.tally }
      in
      subst (λ c. RunsAs (joined (taken by) by.flying) (d by) (done by).after (Some o) c)
      (sym ((done by).collection_is ∙ ap (λ c. with_waking by.x (with_read by.world.graph (Some by.x) c)) e)) (record {
        started = i.started;
        zones_are = i.zones_are;
        marking_are = i.marking_are;
        groups_are = i.groups_are;
        states = states_read o i.states;
        tied = λ z has. tied_read o k e i z has;
        early = λ unformed. looked_read o k kk refl (i.early unformed);
      })

  -- so the collector stands for the world after the read
  pub represents_read : (v : World) × Accepts by.world (with_read by.world.graph (Some by.x) by.world.collection)
      (with_register by.world.graph by.r (Some by.x)) (Some by.x) v × RepresentsMarking (d by) by.flying v
  represents_read = (
    (done by).after,
    (done by).accepts,
    record {
      placed = record {
        delayed = by.rep.placed.delayed;
        lies = (done by).lies;
        homes = rows_changed (m by) (taken by) (ch by) (answer by) (changed by) by.rep.placed.homes;
      };
      swept = record {
        apart = λ y q s un us. by.rep.swept.apart y q s
            (unswept_same (taken by).shape by.c.heap.shape q y refl un)
            (unswept_same (taken by).shape by.c.heap.shape s y refl us);
        flies = record { covers = (flies by).covers; woken = (flies by).woken };
      };
      coloured = record {
        marks = (served by).marks;
        gray = (served by).gray;
        waits = waits_served (t by) (d by) by.flying refl (served by) (inv by)
            (nothing_changed (m by) (taken by) (ch by) (answer by) (changed by))
            (changed_left (m by) (taken by) (ch by) (answer by) (changed by)) (waits by);
      };
      phase = record {
        calm = (done by).preparing_is ∙ by.rep.phase.calm;
        black = (done by).black;
        runs = runs_read by.c.run by.world.collection refl by.rep.phase.runs;
      };
    },
  )

-- the slot is empty, so the register is
module _ (b : CollectorState) (flown : ℕ → Option Bits) (w : World) (ok : IsValid w) (rep : RepresentsMarking b flown w)
    (r : ℕ) (covers : Covers b.heap.shape flown) where
  abbrev empty : HeapState
  empty = with_reg b.heap r None

  abbrev e : CollectorState
  e = record b { heap = empty }

  abbrev v : World
  v = record w { graph = with_register w.graph r None; collection = with_read w.graph None w.collection }

  abbrev emptied : Change
  emptied = change.Register r None true

  changed_so : ChangesBy b.heap emptied reply.Null empty
  changed_so = (refl, refl)

  read_same : (g : GraphState) (o : Option Collection) → with_read g None o ≡ o
  read_same g None = refl
  read_same g (Some k) = refl

  collection_is : v.collection ≡ w.collection
  collection_is = read_same w.graph w.collection

  lies_empty : LiesIn empty v
  lies_empty = lies_read w v b.heap r None None rep.placed.lies (λ p none. absurd (cc none)) refl
      (record { graph = refl; places = refl; owner = refl; weak = refl; out = refl; white = refl })

  room_here : 64 * length empty.colours ≤ b.lists.room
  room_here = subst (λ n. 64 * n ≤ b.lists.room) (flown_length flown 0 b.heap.colours) rep.coloured.gray.room

  serves_so : Serves (heap_with b flown) (heap_with e flown) b.stack b.lists
  serves_so = serves b.heap empty flown b.stack b.lists rep.coloured.marks rep.coloured.gray covers room_here
      (markable b flown w rep).none_prepared b.heap.made emptied reply.Null (λ p none. absurd (cc none))
      (λ p none. absurd (cc none)) (λ p none. absurd (cc none)) (λ s z c q none. absurd (cc none)) changed_so

  settled_was : IsSettled v → IsSettled w
  settled_was s = record {
    none_marking = ap marking_of (sym collection_is) ∙ s.none_marking;
    none_preparing = s.none_preparing;
  }

  states_still : (o : RunState) → AreInStates b o → AreInStates e o
  states_still o s = record {
    outside = s.outside;
    made = s.made;
    early = s.early;
    later = s.later;
    ended = s.ended;
    sweeping = s.sweeping;
    swept = s.swept;
  }

  leads_still : (set : Name → Type 0) (from to : ℕ) (c : CompNo) (n : ℕ) → LeadsOutside w set from to c n
      → LeadsOutside v set from to c n
  leads_still set from to c n l = record { present = l.present; of = l.of; into = l.into; outside = l.outside }

  looked_still : (o : RunState) (k : Collection) → AreLookedAt (heap_with b flown) b o w k
      → AreLookedAt (heap_with e flown) e o v k
  looked_still o k l = record {
    zones_are = l.zones_are;
    first = λ from to n. (
      (l.first from to n).0,
      (l.first from to n).1,
      (l.first from to n).2,
      elim (l.first from to n).3 [
        | inl way ↦ inl (way.0, way.1, leads_still _ from to way.0 way.1 way.2)
        | inr way ↦ inr (way.0, way.1, leads_still _ to from way.0 way.1 way.2, way.3)
      ],
    );
    looked = λ y z across at. elim (l.looked y z (record {
      edge = across.edge;
      from = across.from;
      to = across.to;
      apart = across.apart;
    }) (record { index = at.index; before = at.before; stands = at.stands })) [
      | inl black ↦ inl black
      | inr n ↦ inr (n.0, λ key. elim (n.1 key) [ inl dark ↦ inl dark | inr back ↦ inr back ])
    ];
    left_black = elim l.left_black [ inl fresh ↦ inl fresh | inr black ↦ inr black ];
  }

  runs_still : (o : Option RunState) (u : Option Collection) → RunsAs (heap_with b flown) b w o u
      → RunsAs (heap_with e flown) e v o u
  runs_still None None i = record { states = i.states; kept = i.kept; black = i.black; gray = i.gray }
  runs_still None (Some k) i = absurd i
  runs_still (Some o) None i = absurd i
  runs_still (Some o) (Some k) i = record {
    started = i.started;
    zones_are = i.zones_are;
    marking_are = i.marking_are;
    groups_are = i.groups_are;
    states = states_still o i.states;
    tied = λ z has. tied_served (heap_with b flown) (heap_with e flown) b.stack b.lists w v k k.tally
        (lies_coloured b.heap (with_flown flown 0 b.heap.colours) w rep.placed.lies)
        (lies_coloured empty (with_flown flown 0 b.heap.colours) v lies_empty) serves_so (λ q. refl) (omega arith)
        (i.tied z has);
    early = λ unformed. looked_still o k (i.early unformed);
  }

  pub represents_empty : RepresentsMarking e flown v
  represents_empty = record {
    placed = record {
      delayed = rep.placed.delayed;
      lies = lies_empty;
      homes = rows_changed b.heap empty emptied reply.Null changed_so rep.placed.homes;
    };
    swept = record {
      apart = λ y q s un us. rep.swept.apart y q s (unswept_same empty.shape b.heap.shape q y refl un)
          (unswept_same empty.shape b.heap.shape s y refl us);
      flies = record { covers = rep.swept.flies.covers; woken = rep.swept.flies.woken };
    };
    coloured = record {
      marks = serves_so.marks;
      gray = serves_so.gray;
      waits = waits_served b e flown refl serves_so rep.coloured.marks
          (nothing_changed b.heap empty emptied reply.Null changed_so)
          (changed_left b.heap empty emptied reply.Null changed_so) rep.coloured.waits;
    };
    phase = record {
      calm = rep.phase.calm;
      black = λ settled. rep.phase.black (settled_was settled);
      runs = subst (λ (u : Option Collection). RunsAs (heap_with e flown) e v b.run u) (sym collection_is)
          (runs_still b.run w.collection rep.phase.runs);
    };
  }
