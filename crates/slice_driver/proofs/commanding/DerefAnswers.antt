-- The command that hands out what a weak slot names.
use Rattle.std.proofs.Common.{◌≡◌, ◌+◌, ◌≤◌, ◌-◌, ◌||◌, is_some, if◌then◌else◌, ℕ, List, Option, Some, None, Ok}
use Rattle.std.proofs.Common.{refl, sym, ap, subst, ◌∙◌, slice_index_or, arith}
use Rattle.std.proofs.Math.ListN.{get_or-map}
use Rattle.std.specs.Option.{ForSome}
use Rattle.gz_names.specs.declared.names.Name.{Name}
use Rattle.gz_names.specs.declared.numbers.Place.{Place}
use Rattle.gz_names.specs.declared.commands.WeakCmd.TheVariants as cmd
use Rattle.gz_names.specs.declared.replies.Reply.{Reply}
use Rattle.cell_bits.specs.declared.bits.Bits.{Bits}
use Rattle.mark_stack.specs.Stack.{Piles}
use Rattle.gray_lists.specs.Incoming.{Incoming}
use Rattle.colour_defs.specs.Laws.{IsValid}
use Rattle.colour_defs.specs.Step.{named_or_null, refusal_in, with_register}
use Rattle.colour_defs.specs.WeakRefs.{weak_cell, with_read}
use Rattle.colour_defs.specs.World.{AcceptsIn, Preparation, World}
use Rattle.colour_defs.proofs.Lists.{get_contains}
use Rattle.colour_defs.proofs.ValidWeak.{weak_valid}
use Rattle.heap_core.specs.Shape.{IsPresent, Shape, held_name}
use Rattle.heap_core.specs.Heap.{HeapState, joined, with_reg}
use Rattle.heap_core.specs.WeakNames.{weak_slot_of}
use Rattle.barriers.specs.Exposing.{Exposes}
use Rattle.barriers.specs.Spreading.{Covers}
use Rattle.marker.specs.UnitsToCome.{units_at}
use Rattle.zone_edges.specs.Looks.{left_to_look}
use Rattle.slice_driver.specs.Collector.{CollectorState, RunState, heap_with}
use Rattle.slice_driver.specs.Commands.{Exposed}
use Rattle.slice_driver.specs.Remaining.{clearing_left, grouping_left, left_of, ungrouped_below}
use Rattle.slice_driver.specs.Represents.{Represents, RepresentsMarking, RepresentsPreparing, going, prepared}
use Rattle.slice_driver.specs.Units.{IsFreedWord, IsSound}
use Rattle.slice_driver.specs.UnitsToCome.{marking_to_come, units_to_come}
use Rattle.slice_driver.specs.WeakCommands.{Derefs, DoesWeak, WeakCommandDone}
use Rattle.slice_driver.specs.Worlds.{LiesIn}
use Rattle.slice_driver.specs.declared.collector.Uncleared.{Uncleared}
use Rattle.slice_driver.proofs.abstraction.BlackNames.{left_out_names}
use Rattle.slice_driver.proofs.abstraction.Named.{name_of}
use Rattle.slice_driver.proofs.abstraction.Renaming.{lies_of}
use Rattle.slice_driver.proofs.clearing.ToCome.{to_come_is}
use Rattle.slice_driver.proofs.commanding.Commanding.{markable}
use Rattle.slice_driver.proofs.commanding.Deref.{represents_empty, represents_read}
use Rattle.slice_driver.proofs.commanding.DerefPreparing.{ReadsPreparing, read_cell, read_nothing}
use Rattle.slice_driver.proofs.commanding.PreparingCommands.{owned_same}
use Rattle.slice_driver.proofs.commanding.RaisesToCome.{through_to_come}
use Rattle.slice_driver.proofs.measure.CommandsToCome.{left_same}

-- what registers hold does not tell how much is to come
marking_reg : (h : HeapState) (r : ℕ) (o : Option Place) (flown : ℕ → Option Bits) (p : Piles) (lists : Incoming)
    → marking_to_come (joined (with_reg h r o) flown) p lists ≡ marking_to_come (joined h flown) p lists
unfolding units_at
marking_reg h r o flown p lists = refl

clearing_reg : (h : HeapState) (r : ℕ) (o : Option Place) (run : Option RunState)
    → clearing_left (with_reg h r o).shape run ≡ clearing_left h.shape run
clearing_reg h r o None = refl
clearing_reg h r o (Some run) = go run.clearing
  where
    go : (u : Option Uncleared) → left_of (with_reg h r o).shape run.zones u ≡ left_of h.shape run.zones u
    go None = refl
    go (Some u) = owned_same h.shape (with_reg h r o).shape run.zones.bits u.from (u.end - u.from) (λ a ge lt. refl)

reg_to_come : (c : CollectorState) (r : ℕ) (o : Option Place) (flown : ℕ → Option Bits)
    → units_to_come (record c { heap = with_reg c.heap r o }) flown ≡ units_to_come c flown
unfolding units_to_come
reg_to_come c r o flown =
    let marks = marking_reg c.heap r o flown c.stack c.lists in
    let looks = left_same c.heap.shape (with_reg c.heap r o).shape c.edges 64 (λ z lt. refl) in
    let grouping : grouping_left (with_reg c.heap r o).shape c.edges c.run ≡ grouping_left c.heap.shape c.edges c.run =
    grouping_as c.run looks in
    let clearing = clearing_reg c.heap r o c.run in
    omega (arith, marks, grouping, clearing)
  where
    grouping_as : (run : Option RunState)
        → left_to_look (with_reg c.heap r o).shape c.edges ≡ left_to_look c.heap.shape c.edges
        → grouping_left (with_reg c.heap r o).shape c.edges run ≡ grouping_left c.heap.shape c.edges run
    grouping_as None same = refl
    grouping_as (Some run) same =
        ap {B = ℕ} (λ n. if run.formed || is_some run.clearing then 0 else n + ungrouped_below c.edges 64) same

-- what a weak slot names, in a world for which the collector stands
module _ (c : CollectorState) (flown : ℕ → Option Bits) (w : World) (rep : Represents c flown w) (q : ℕ) where
  lies : LiesIn c.heap w
  lies = lies_of c flown w rep

  cell_is : weak_cell w q ≡ held_name c.heap.shape (weak_slot_of c.heap q)
  cell_is = ap (λ (xs : List (Option Name)). slice_index_or xs q None) lies.weak_are.slots_are
      ∙ get_or-map (held_name c.heap.shape) c.heap.weak_names.slots q None

  there : ForSome (weak_slot_of c.heap q) (IsPresent c.heap.shape)
  there p e = lies.weak_are.slots_held p (get_contains c.heap.weak_names.slots q p e)

module _ (c : CollectorState) (flown : ℕ → Option Bits) (r q : ℕ) (answer : Reply) (d : CollectorState)
    (flying : ℕ → Option Bits) (derefs : Derefs c flown r q answer d flying) where
  abbrev o : Option Place
  o = weak_slot_of c.heap q

  abbrev between : CollectorState
  between = derefs.between

  said : (w : World) (rep : Represents c flown w) → answer ≡ named_or_null (weak_cell w q)
  said w rep = derefs.answer_is ∙ ap named_or_null (sym (cell_is c flown w rep q))

  -- the world after it
  abbrev Reads : World → Option Preparation → Option Name → World → Type 0
  Reads w p x v = AcceptsIn p w (with_read w.graph x w.collection) (with_register w.graph r x) x None v

  abbrev emptied : World → World
  emptied w = record w { graph = with_register w.graph r None; collection = with_read w.graph None w.collection }

  after_going : (w : World) → IsValid w → RepresentsMarking c flown w → (p : Option Place) → o ≡ p
      → (v : World) × Reads w None (held_name c.heap.shape p) v × Represents (record between {
        heap = with_reg between.heap r p;
      }) flying v
  after_going w ok m None e =
      let still = derefs.through.still e in (
        emptied w,
        refl,
        subst (λ (x : CollectorState). Represents (record x { heap = with_reg x.heap r None }) flying (emptied w))
            (sym still.0)
            (subst (λ (f : ℕ → Option Bits). Represents (record c { heap = with_reg c.heap r None }) f (emptied w))
            (sym still.1) (going (represents_empty c flown w ok m r m.swept.flies.covers))),
      )
  after_going w ok m (Some p) e =
      let x = name_of c.heap.shape p (there c flown w (going m) q p e) in
      let exposed : Exposes (heap_with c flown) c.stack p (joined between.heap flying) between.stack =
      subst (λ (y : Option Place). Exposed y (heap_with c flown) c.stack (joined between.heap flying) between.stack) e
      (derefs.through.marking (markable c flown w m)) in
      let heap_is = derefs.through.heap_is in
      let read = represents_read (record {
        c = c;
        flown = flown;
        world = w;
        valid = ok;
        rep = m;
        r = r;
        p = p;
        x = x.0;
        named = x.1;
        colours = between.heap.colours;
        stack = between.stack;
        flying = flying;
        exposes = subst (λ (h : HeapState). Exposes (heap_with c flown) c.stack p (joined h flying) between.stack)
            heap_is exposed;
        covers = subst (λ (s : Shape). Covers s flying) (ap (λ (h : HeapState). h.shape) heap_is)
            derefs.through.covers;
      }) in
      let same : record c { heap = record c.heap { colours = between.heap.colours }; stack = between.stack } ≡ between =
      sym (derefs.through.rest
      ∙ ap (λ (h : HeapState). record c { heap = h; stack = between.stack }) heap_is) in (
        read.0,
        subst (λ (y : Option Name). Reads w None y read.0) (sym x.1) read.1,
        going (subst (λ (z : CollectorState). RepresentsMarking (record z { heap = with_reg z.heap r (Some p) }) flying
            read.0) same read.2),
      )

  abbrev preparing_at : (w : World) → IsValid w → RepresentsPreparing c flown w → ReadsPreparing
  preparing_at w ok rep = record {
    c = c;
    flown = flown;
    world = w;
    valid = ok;
    rep = rep;
    r = r;
    o = o;
    there = there c flown w (prepared rep) q;
    between = between;
    flying = flying;
    through = derefs.through;
  }

  after_preparing : (w : World) → IsValid w → (rep : RepresentsPreparing c flown w) → (p : Option Place) → o ≡ p
      → (v : World) × Reads w (Some rep.phase.preparation) (held_name c.heap.shape p) v
      × RepresentsPreparing (record between { heap = with_reg between.heap r o }) flying v
  after_preparing w ok rep None e = (
    record w { graph = with_register w.graph r None },
    refl,
    read_nothing (preparing_at w ok rep) e,
  )
  after_preparing w ok rep (Some p) e =
      let x = name_of c.heap.shape p (there c flown w (prepared rep) q p e) in
      let read = read_cell (preparing_at w ok rep) p e x.0 x.1 in
      let v : World = record w {
        graph = with_register w.graph r (Some x.0);
        black = left_out_names (with_reg between.heap r o) w.places;
      } in (
        v,
        subst (λ (y : Option Name). Reads w (Some rep.phase.preparation) y v) (sym x.1) read.0,
        read.1,
      )

  -- so it is one in each world that the collector stood for
  pub does_deref : DoesWeak c flown (cmd.Deref r q) (Ok answer) d flying
  does_deref w ok (going m) =
      let done = after_going w ok m o refl in (
        done.0,
        (
          said w (going m),
          subst (λ (y : Option Name). Reads w w.preparing y done.0) (sym (cell_is c flown w (going m) q))
              (subst (λ (p : Option Preparation). Reads w p (held_name c.heap.shape o) done.0) (sym m.phase.calm)
              done.1),
        ),
        subst (λ (z : CollectorState). Represents z flying done.0) (sym derefs.rest) done.2,
      )
  does_deref w ok (prepared rep) =
      let done = after_preparing w ok rep o refl in (
        done.0,
        (
          said w (prepared rep),
          subst (λ (y : Option Name). Reads w w.preparing y done.0) (sym (cell_is c flown w (prepared rep) q))
              (subst (λ (p : Option Preparation). Reads w p (held_name c.heap.shape o) done.0)
              (sym rep.phase.preparing_is) done.1),
        ),
        subst (λ (z : CollectorState). Represents z flying done.0) (sym derefs.rest) (prepared done.2),
      )

  -- no more is to come
  shape_between : between.heap.shape ≡ c.heap.shape
  shape_between = ap (λ (h : HeapState). h.shape) derefs.through.heap_is

  to_come : (w : World) → IsValid w → Represents c flown w → units_to_come d flying ≤ units_to_come c flown
  to_come w ok (going m) =
      let is = ap (λ (z : CollectorState). units_to_come z flying) derefs.rest in
      let same = reg_to_come between r o flying in
      let less = through_to_come o c flown between flying w derefs.through m in
      omega (arith, is, same, less)
  to_come w ok (prepared rep) =
      let done = after_preparing w ok rep o refl in
      let is = ap (λ (z : CollectorState). units_to_come z flying) derefs.rest in
      let now = to_come_is (record between { heap = with_reg between.heap r o }) flying done.0 done.2 in
      let was = to_come_is c flown w rep in
      let shape = clearing_reg between.heap r o between.run in
      let same = ap (λ (s : Shape). clearing_left s between.run) shape_between in
      let run = ap (λ (z : CollectorState). clearing_left c.heap.shape z.run) derefs.through.rest in
      omega (arith, is, now, was, shape, same, run)

  -- words that were free stay so
  words_deref : (a freed : ℕ) → IsFreedWord c.heap.shape a freed → IsFreedWord d.heap.shape a freed
  words_deref a freed is = subst (λ (z : CollectorState). IsFreedWord z.heap.shape a freed) (sym derefs.rest)
      (subst (λ (s : Shape). IsFreedWord (record s { regs = (with_reg between.heap r o).shape.regs }) a freed)
      (sym shape_between) is)

-- a deref was done, with what is in flight before and after it
pub record DerefDone {S O : Type 0} (bits_of : S → ℕ → Option Bits) (origin_of : S → O) (old : CollectorState)
    (f g : S) : Type 0 where
  pub r : ℕ
  pub q : ℕ
  pub answer : Reply
  pub new : CollectorState
  pub sound : IsSound old (bits_of f)
  pub derefs : Derefs old (bits_of f) r q answer new (bits_of g)
  pub origin : origin_of g ≡ origin_of f

pub deref_done : {S O : Type 0} (bits_of : S → ℕ → Option Bits) (origin_of : S → O) (old : CollectorState) (f g : S)
    (by : DerefDone bits_of origin_of old f g)
    → WeakCommandDone bits_of origin_of old f (cmd.Deref by.r by.q) (Ok by.answer) by.new g
deref_done bits_of origin_of old f g by =
    let flown = bits_of f in
    let flying = bits_of g in
    let does = does_deref old flown by.r by.q by.answer by.new flying by.derefs in
    let sound = by.sound in
    let after = does sound.world sound.valid sound.represents in
    let derefs = by.derefs in
    let slot = weak_slot_of old.heap by.q in
    let heap_is : by.new.heap ≡ with_reg derefs.between.heap by.r slot =
    ap (λ (z : CollectorState). z.heap) derefs.rest in
    record {
      done = does;
      to_come = to_come old flown by.r by.q by.answer by.new flying derefs sound.world sound.valid sound.represents;
      answered = subst (λ (a : Reply). refusal_in a ≡ None) (sym derefs.answer_is)
          (never (held_name old.heap.shape slot));
      refused = λ why e. absurd (cc e);
      wanted = λ e. absurd (cc e);
      sound = record {
        world = after.0;
        valid = weak_valid sound.world after.0 (cmd.Deref by.r by.q) by.answer sound.valid after.1;
        represents = after.2;
      };
      words = words_deref old flown by.r by.q by.answer by.new flying derefs;
      run = ap (λ (z : CollectorState). z.run) derefs.rest ∙ ap (λ (z : CollectorState). z.run) derefs.through.rest;
      origin = by.origin;
      made = ap (λ (h : HeapState). h.made) heap_is ∙ ap (λ (h : HeapState). h.made) derefs.through.heap_is;
      ledger = ap (λ (h : HeapState). h.ledger) heap_is ∙ ap (λ (h : HeapState). h.ledger) derefs.through.heap_is;
      weak = ap (λ (h : HeapState). h.shape.weak) heap_is
          ∙ ap (λ (h : HeapState). h.shape.weak) derefs.through.heap_is;
    }
  where
    never : (x : Option Name) → refusal_in (named_or_null x) ≡ None
    never None = refl
    never (Some x) = refl
