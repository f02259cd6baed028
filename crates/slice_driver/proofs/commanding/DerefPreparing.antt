-- A register takes what a weak slot names, while a collection is being prepared: the cell went through a barrier that
-- leaves the prepared zones out.
use Rattle.std.proofs.Common.{◌≡◌, ◌⊎◌, ◌↔◌, ◌<◌, ◌≤◌, ℕ, length, Option, Some, None, refl, sym}
use Rattle.std.proofs.Common.{false, true, ap, subst, ◌∙◌, inl, inr, arith}
use Rattle.std.specs.Option.{ForSome}
use Rattle.gz_names.specs.Zones.{HasZone}
use Rattle.gz_names.specs.declared.names.Name.{Name}
use Rattle.gz_names.specs.declared.numbers.Place.{Place}
use Rattle.gz_names.specs.declared.replies.Reply.{Reply}
use Rattle.cell_bits.specs.declared.bits.Bits.{Bits}
use Rattle.cell_bits.specs.declared.bits.Colour.TheVariants as colour
use Rattle.gray_lists.specs.Incoming.{list_of as waiting_for}
use Rattle.roots.specs.Buffers.{buffer_at}
use Rattle.colour_defs.specs.Laws.{IsValid}
use Rattle.colour_defs.specs.Step.{named_or_null, with_register}
use Rattle.colour_defs.specs.World.{AcceptsPreparing, Has, Preparation, World}
use Rattle.heap_core.specs.declared.plans.Change.{Change}
use Rattle.heap_core.specs.declared.plans.Change.TheVariants as change
use Rattle.heap_core.specs.Heap.{HeapState, colour_of, with_reg}
use Rattle.heap_core.specs.Plans.{ChangesBy, IsAble}
use Rattle.heap_core.specs.Shape.{IsPresent, Shape, held_name, is_marking_state, is_prepare_state, name_at}
use Rattle.heap_core.specs.Shape.{out_of, state_in, zone_of}
use Rattle.barriers.specs.Colours.{IsBlack}
use Rattle.barriers.specs.LeftOut.{Counts, IsDark, ReachedLeftOut}
use Rattle.barriers.specs.LeftOut as reached
use Rattle.barriers.proofs.LeftOut.{left_out_closed, left_out_from}
use Rattle.slice_driver.specs.Collector.{CollectorState}
use Rattle.slice_driver.specs.Represents.{NothingLeft, RepresentsPreparing}
use Rattle.slice_driver.specs.Steps.{GoesThrough, IsPrepared}
use Rattle.slice_driver.specs.Worlds.{AreRowsAtHome, LiesIn}
use Rattle.slice_driver.proofs.abstraction.Altering.{Alters}
use Rattle.slice_driver.proofs.abstraction.BlackNames.{left_out_names}
use Rattle.slice_driver.proofs.abstraction.Lying.{lies_marked}
use Rattle.slice_driver.proofs.abstraction.Named.{present_named, some_one}
use Rattle.slice_driver.proofs.abstraction.Waits.{nothing_changed}
use Rattle.slice_driver.proofs.basics.Rows.{rows_changed}
use Rattle.slice_driver.proofs.commanding.Commanding.{is_prepared_in, through_prepared}
use Rattle.slice_driver.proofs.commanding.Deref.{lies_read}
use Rattle.slice_driver.proofs.commanding.LeftOutNames.{AreLeftOut, IsWokenAt, IsWokenIn, SpreadsFrom, exposed_others}
use Rattle.slice_driver.proofs.commanding.LeftOutNames.{exposed_spreads, left_out_in, tied_after, wakes_after}
use Rattle.slice_driver.proofs.commanding.PreparingChanges.{GraphStays, KeepsCounts, MayChange, altered, graph_same}
use Rattle.slice_driver.proofs.commanding.PreparingChanges.{keeps_counts, reached_stays}
use Rattle.slice_driver.proofs.commanding.PreparingCommands.{wakes_as}
use Rattle.slice_driver.proofs.taking_in.Runs.{has_zone_or_not}

-- a register takes what a weak slot names, in a world in which a collection is being prepared
pub record ReadsPreparing : Type 0 where
  pub c : CollectorState
  pub flown : ℕ → Option Bits
  pub world : World
  pub valid : IsValid world
  pub rep : RepresentsPreparing c flown world
  pub r : ℕ
  pub o : Option Place
  pub there : ForSome o (IsPresent c.heap.shape)
  pub between : CollectorState
  pub flying : ℕ → Option Bits
  pub through : GoesThrough o c flown between flying

module _ (by : ReadsPreparing) where
  abbrev p : Preparation
  p = by.rep.phase.preparation

  abbrev m : HeapState
  m = by.between.heap

  abbrev k : HeapState
  k = with_reg m by.r by.o

  abbrev d : CollectorState
  d = record by.between { heap = k }

  abbrev ch : Change
  ch = change.Register by.r by.o true

  abbrev answer : Reply
  answer = named_or_null (held_name m.shape by.o)

  changed : ChangesBy m ch answer k
  changed = (refl, refl)

  at : IsPrepared by.c
  at = record {
    invariant = by.rep.cleared.invariant;
    prepared = (is_prepared_in by.c by.flown by.world by.rep).prepared;
  }

  at_last : IsPrepared by.between
  at_last = through_prepared by.o by.c by.flown by.between by.flying by.through at

  m_is : m ≡ record by.c.heap { colours = m.colours }
  m_is = by.through.heap_is

  same_shape : m.shape ≡ by.c.heap.shape
  same_shape = ap (λ (h : HeapState). h.shape) m_is

  lies : LiesIn m by.world
  lies = subst (λ (h : HeapState). LiesIn h by.world) (sym m_is)
      (lies_marked by.c.heap m.colours by.c.heap.delayed by.world
      by.rep.placed.lies)

  there_here : (q : Place) → IsPresent by.c.heap.shape q → IsPresent m.shape q
  there_here q is = subst (λ (s : Shape). IsPresent s q) (sym same_shape) is

  able : IsAble m.shape m.made ch
  able q e = there_here q (by.there q e)

  spread : SpreadsFrom by.c.heap.shape by.c.heap m (λ z. by.o ≡ Some z)
  spread = exposed_spreads by.o by.c.heap by.c.stack m by.between.stack by.rep.cleared.invariant
      (by.through.preparing at).0

  others : (y : Place) → (Counts by.c.heap.shape y → ⊥) → colour_of m y ≡ colour_of by.c.heap y
  others y not = exposed_others by.o by.c.heap by.c.stack m by.between.stack (by.through.preparing at).0 y not

  calm : (z : ℕ) → is_marking_state (state_in m.shape z) ≡ false
  calm z = ap (λ (s : Shape). is_marking_state (state_in s z)) same_shape
      ∙ elim (has_zone_or_not by.rep.run.zones.bits z) [
        | inl has ↦ ap is_marking_state (by.rep.phase.inside z has)
        | inr out ↦ ap is_marking_state (by.rep.phase.outside z out)
      ]

  may : MayChange m by.between.stack by.flying
  may = record {
    invariant = at_last.invariant;
    calm = calm;
    delayed = ap (λ (h : HeapState). h.delayed) m_is ∙ by.rep.placed.delayed;
    covers = by.through.covers;
    regs = λ x has. lies.shown.registers_held x has;
  }

  dark : (q : Place) → by.o ≡ Some q → IsDark m q
  dark q e = record {
    there = there_here q (by.there q e);
    black = λ counts. (let here = subst (λ (s : Shape). Counts s q) same_shape counts in
        (spread q here).1 (reached.from here (inr e)));
  }

  alters : Alters (IsDark m) m k by.flying
  alters = altered m k by.between.stack by.flying may ch answer changed m.made able (λ q e. absurd (cc e)) dark
      (λ s z n t same. absurd (cc same))

  keeps : KeepsCounts m k by.between.stack
  keeps = keeps_counts m k by.between.stack by.flying may ch answer changed alters

  -- which cells count before and after
  counts_before : (q : Place) → IsPresent by.c.heap.shape q → Counts k.shape q → Counts by.c.heap.shape q
  counts_before q is counts = subst (λ (s : Shape). Counts s q) same_shape counts

  counts_after : (q : Place) → IsPresent by.c.heap.shape q → Counts by.c.heap.shape q → Counts k.shape q
  counts_after q is counts = subst (λ (s : Shape). Counts s q) (sym same_shape) counts

  out_after : (v : World) → LiesIn k v → AreLeftOut k v p
  out_after v lies_v = left_out_in k v by.rep.run.zones lies_v p by.rep.phase.zones_are
      (λ z has. ap (λ (s : Shape). state_in s z) same_shape ∙ by.rep.phase.inside z has)
      (λ z out. ap (λ (s : Shape). state_in s z) same_shape ∙ by.rep.phase.outside z out)

module _ (by : ReadsPreparing) where
  -- the collector stands for a world in which its heap lies and the same zones are being prepared
  represents_with : (v : World) → LiesIn (k by) v → v.preparing ≡ by.world.preparing
      → v.collection ≡ by.world.collection
      → ((x : Name) (q : Place) → name_at (k by).shape q ≡ Some x → Counts (k by).shape q → Has v.black x
      ↔ IsBlack (k by) q)
      → RepresentsPreparing (d by) by.flying v
  represents_with v lies_v preparing idle black = record {
    run = by.rep.run;
    run_is = ap (λ (e : CollectorState). e.run) by.through.rest ∙ by.rep.run_is;
    uncleared = by.rep.uncleared;
    clearing = by.rep.clearing;
    unformed = by.rep.unformed;
    placed = record {
      delayed = (may by).delayed;
      lies = lies_v;
      homes = rows_changed (m by) (k by) (ch by) (answer by) (changed by)
          (subst (λ (s : Shape). AreRowsAtHome s) (sym (same_shape by)) by.rep.placed.homes);
    };
    swept = record {
      apart = λ x q s uq us. absurd (let none = outs q.0 in let out = uq.out_is in cc (none, out));
      flies = record {
        covers = (may by).covers;
        woken = λ a old new out now. absurd (let none = outs a in cc (none, out));
      };
    };
    none_out = outs;
    cleared = record {
      invariant = (keeps by).invariant;
      cleared = cleared;
      within = (let le = by.rep.cleared.within in let same = ap (λ (s : Shape). length s.arenas) (same_shape by) in
          omega (arith, le, same));
      waits = record {
        pending = (at_last by).invariant.empty;
        buffered = λ z. ap (λ (h : HeapState). buffer_at h.buffers z) (m_is by) ∙ by.rep.cleared.waits.buffered z;
        incoming = λ n. ap (λ (e : CollectorState). waiting_for e.lists n) by.through.rest
            ∙ by.rep.cleared.waits.incoming n;
        looks = nothing_changed (m by) (k by) (ch by) (answer by) (changed by)
            (subst (λ (h : HeapState). NothingLeft h.looks) (sym (m_is by)) by.rep.cleared.waits.looks);
      };
      room = (let was = by.rep.cleared.room in let long = by.through.sized in
          let lists = ap (λ (e : CollectorState). e.lists.room) by.through.rest in omega (arith, was, long, lists));
    };
    phase = record {
      preparation = by.rep.phase.preparation;
      preparing_is = preparing ∙ by.rep.phase.preparing_is;
      none_running = idle ∙ by.rep.phase.none_running;
      zones_are = by.rep.phase.zones_are;
      some = by.rep.phase.some;
      made = λ z has. (let was = by.rep.phase.made z has in
          let same = ap (λ (s : Shape). length s.states) (same_shape by) in omega (arith, was, same));
      inside = λ z has. ap (λ (s : Shape). state_in s z) (same_shape by) ∙ by.rep.phase.inside z has;
      outside = λ z out. ap (λ (s : Shape). state_in s z) (same_shape by) ∙ by.rep.phase.outside z out;
      black = black;
    };
  }
    where
      outs : (a : ℕ) → out_of (k by).shape a ≡ None
      outs a = (at_last by).invariant.holds.colours.none_out a

      cleared : (x : Place) → HasZone by.rep.run.zones.bits (zone_of (k by).shape x)
          → (x.0 < by.rep.uncleared.from) ⊎ (by.rep.uncleared.end ≤ x.0) → colour_of (k by) x ≡ colour.White
      cleared x has bound =
          let here = subst (λ (s : Shape). HasZone by.rep.run.zones.bits (zone_of s x)) (same_shape by) has in
          let state = ap is_prepare_state (by.rep.phase.inside (zone_of by.c.heap.shape x) here) in
          others by x (λ counts. cc (counts, state)) ∙ by.rep.cleared.cleared x here bound

  -- the slot is empty, so the register is
  abbrev emptied : World
  emptied = record by.world { graph = with_register by.world.graph by.r None }

  pub read_nothing : by.o ≡ None → RepresentsPreparing (d by) by.flying emptied
  read_nothing none =
      let same : by.between ≡ by.c = (by.through.still none).0 in
      represents_with emptied
      (lies_read by.world emptied (m by) by.r by.o None (lies by) (able by) (ap (held_name (m by).shape) none)
      (record { graph = refl; places = refl; owner = refl; weak = refl; out = refl; white = refl })) refl refl
      (λ x q e counts.
      let named = subst (λ (s : Shape). name_at s q ≡ Some x) (same_shape by) e in
      let both = by.rep.phase.black x q named (subst (λ (s : Shape). Counts s q) (same_shape by) counts) in
      let colour = ap (λ (z : CollectorState). colour_of z.heap q) same in (
        λ has. colour ∙ both.0 has,
        λ b. both.1 (sym colour ∙ b),
      ))

-- the slot names a cell
module _ (by : ReadsPreparing) (q : Place) (is : by.o ≡ Some q) (x : Name)
    (named : name_at by.c.heap.shape q ≡ Some x) where
  named_here : name_at (m by).shape q ≡ Some x
  named_here = subst (λ (s : Shape). name_at s q ≡ Some x) (sym (same_shape by)) named

  abbrev v : World
  v = record by.world {
    graph = with_register by.world.graph by.r (Some x);
    black = left_out_names (k by) by.world.places;
  }

  lies_v : LiesIn (k by) v
  lies_v = lies_read by.world v (m by) by.r by.o (Some x) (lies by) (able by)
      (ap (held_name (m by).shape) is ∙ named_here)
      (record { graph = refl; places = refl; owner = refl; weak = refl; out = refl; white = refl })

  stays_here : GraphStays by.c.heap.shape (k by).shape
  stays_here = subst (λ (s : Shape). GraphStays s (k by).shape) (same_shape by)
      (graph_same (m by).shape (k by).shape refl refl)

  exact : (y : Place) → Counts (k by).shape y
      → IsBlack (k by) y ↔ ReachedLeftOut (k by).shape (λ z. IsBlack by.c.heap z ⊎ IsWokenAt (k by) (Some x) None z) y
  exact y counts = (
    λ black. (
        let here = subst (λ (s : Shape). Counts s y) (same_shape by) counts in
        reached_stays by.c.heap.shape (k by).shape stays_here by.rep.cleared.invariant.holds.colours.shape
        (counts_after by)
        (λ z. IsBlack by.c.heap z ⊎ (by.o ≡ Some z)) (λ z. IsBlack by.c.heap z ⊎ IsWokenAt (k by) (Some x) None z)
        (λ z cz s. elim s [
          | inl b ↦ (by.rep.cleared.invariant.holds.colours.seen_present z (inr b), inl b)
          | inr e ↦ (
            by.there z e,
            inr (
              x,
              ap (name_at (m by).shape) (some_one z q (sym e ∙ is)) ∙ named_here,
              inl refl,
            ),
          )
        ]) ((spread by y here).0 black)),
    λ way. left_out_closed (k by) by.between.stack (keeps by).invariant
        (left_out_from (k by).shape (λ z. IsBlack by.c.heap z ⊎ IsWokenAt (k by) (Some x) None z) (IsBlack (k by))
        (λ z cz s. reached.from cz (elim s [
          | inl b ↦ (spread by z (subst (λ (s : Shape). Counts s z) (same_shape by) cz)).1
              (reached.from (subst (λ (s : Shape). Counts s z) (same_shape by) cz) (inl b))
          | inr woken ↦ (
              let name : woken.0 ≡ x = elim woken.2 [
                | inl first ↦ sym (some_one x woken.0 first)
                | inr none ↦ absurd (cc none)
              ] in
              let place : z ≡ q = (lies by).shown.apart z q x (woken.1 ∙ ap (λ (y : Name). Some y) name) named_here in
              (dark by z (is ∙ ap (λ (y : Place). Some y) (sym place))).black cz)
        ])) way),
  )

  woken : IsWokenIn by.c.heap (k by) by.world (p by) (Some x) None
  woken = record {
    lies = by.rep.placed.lies;
    out = left_out_in by.c.heap by.world by.rep.run.zones by.rep.placed.lies (p by) by.rep.phase.zones_are
        by.rep.phase.inside by.rep.phase.outside;
    left_out = (by.valid.preparing (p by) by.rep.phase.preparing_is).left_out;
    black = by.rep.phase.black;
    present = λ z b. by.rep.cleared.invariant.holds.colours.seen_present z (inr b);
    names = λ z y e. subst (λ (s : Shape). name_at s z ≡ Some y) (sym (same_shape by)) e;
    counts = counts_before by;
    exact = exact;
  }

  pub read_cell : AcceptsPreparing by.world (p by) (with_register by.world.graph by.r (Some x)) (Some x) None v
      × RepresentsPreparing (d by) by.flying v
  read_cell = (
    (
      record {
        graph_is = refl;
        found = λ is. (refl, refl);
        made = λ absent. absurd (absent (present_named by.c.heap by.world by.rep.placed.lies q x named));
        out_is = refl;
        white_is = refl;
        weak_is = refl;
        preparing_is = refl;
      },
      refl,
      wakes_as by.world v (p by) (λ s. (Some x ≡ Some s) ⊎ (None ≡ Some s)) (λ s. (x ≡ s) ⊎ (None ≡ Some s))
          (λ s. (
            λ e. elim e [ inl first ↦ inl (some_one x s first) | inr none ↦ inr none ],
            λ e. elim e [ inl first ↦ inl (ap (λ (y : Name). Some y) first) | inr none ↦ inr none ],
          ))
          (wakes_after by.c.heap (k by) by.world v (p by) (Some x) None woken lies_v (out_after by v lies_v) refl),
    ),
    represents_with by v lies_v refl refl
        (tied_after by.c.heap (k by) by.world v (p by) (Some x) None woken lies_v (out_after by v lies_v) refl),
  )
