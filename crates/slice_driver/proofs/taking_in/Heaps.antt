-- The heap after an arena came in: the same cells in the same colours, and fewer arenas out.
use Rattle.std.proofs.Common.{◌≡◌, ◌≢◌, ◌⊎◌, ◌+◌, ◌<◌, ℕ, zero, suc, Bool, true, false, cond, inl, inr, refl, sym, ap}
use Rattle.std.proofs.Common.{◌∙◌, arith, eqb, eqb-true, eq-eqb, Option, None, Some, IsSome, is_some, List, [], ◌∷◌}
use Rattle.std.proofs.Common.{length, slice_get, slice_set, option_map}
use Rattle.std.proofs.lemmas.Bool.{cases_eq}
use Rattle.gz_names.specs.declared.names.Name.{Name}
use Rattle.gz_names.specs.declared.numbers.Place.{Place}
use Rattle.cell_bits.specs.declared.bits.Bits.{Bits}
use Rattle.zones.specs.declared.states.State.{State}
use Rattle.zones.specs.declared.states.State.TheVariants as state
use Rattle.arena_table.specs.Slots.{change_at, cell_in, without_freed}
use Rattle.arena_table.proofs.Changing.{length-change_at, slice_get-change_other, slice_get-change_same}
use Rattle.colour_defs.specs.World.{World}
use Rattle.heap_core.specs.Shape.{ArenaShape, AreWhole, cell_in_arena, cell_of, is_marking_state, out_in, out_of}
use Rattle.heap_core.specs.Shape.{present_in, state_in, stored_in, zone_in, zone_of}
use Rattle.heap_core.specs.Heap.{HeapState, flown_or, with_flown}
use Rattle.heap_core.specs.Sweeping.{come_in}
use Rattle.slice_driver.specs.Collector.{CollectorState, heap_with}
use Rattle.slice_driver.specs.Represents.{RepresentsMarking}
use Rattle.slice_driver.specs.Sweeping.{TakesIn, after_sweep}
use Rattle.slice_driver.specs.Units.{without_arena}
use Rattle.slice_driver.specs.Worlds.{IsInFlight, IsUnswept, outs_from, owners_of}
use Rattle.slice_driver.proofs.abstraction.Named.{some_one}
use Rattle.slice_driver.proofs.group_end.Cells.{some_out}
use Rattle.slice_driver.proofs.basics.Cells.{HasSameCells}
use Rattle.slice_driver.proofs.basics.Owners.{owner_by}
use Rattle.slice_driver.proofs.basics.Marks.{HasSameMarks}
use Rattle.slice_driver.proofs.taking_in.Slots.{left_in, length_freed}

-- bits from other arenas on
same_flown : (f g : ℕ → Option Bits) (n : ℕ) (colours : List Bits) → ((i : ℕ) → g (n + i) ≡ f (n + i))
    → with_flown g n colours ≡ with_flown f n colours
same_flown f g n [] same = refl
same_flown f g n (own ∷ rest) same =
    λ i. ap (λ o. flown_or o own) (let zero_more : n + 0 ≡ n = omega arith in ap g (sym zero_more) ∙ same 0
    ∙ ap f zero_more) i ∷ same_flown f g (suc n) rest
    (λ j. (let next : n + suc j ≡ suc n + j = omega arith in ap g (sym next) ∙ same (suc j) ∙ ap f next)) i

-- an arena takes the bits that were in flight for it
pub taken_colours : (f g : ℕ → Option Bits) (bits : Bits) (n a : ℕ) (colours : List Bits) → f (n + a) ≡ Some bits
    → g (n + a) ≡ None → ((i : ℕ) → i ≢ a → g (n + i) ≡ f (n + i)) → with_flown g n (slice_set colours a bits)
    ≡ with_flown f n colours
taken_colours f g bits n a [] was none others = refl
taken_colours f g bits n zero (own ∷ rest) was none others =
    let zero_more : n + 0 ≡ n = omega arith in
    λ i. (ap (λ o. flown_or o bits) (ap g (sym zero_more) ∙ none)
    ∙ sym (ap (λ o. flown_or o own) (ap f (sym zero_more) ∙ was))) i
    ∷ same_flown f g (suc n) rest
    (λ j. (let next : n + suc j ≡ suc n + j = omega arith in ap g (sym next) ∙ others (suc j) (λ e. omega arith)
    ∙ ap f next)) i
taken_colours f g bits n (suc a) (own ∷ rest) was none others =
    let zero_more : n + 0 ≡ n = omega arith in
    let next : n + suc a ≡ suc n + a = omega arith in
    λ i. ap (λ o. flown_or o own) (ap g (sym zero_more) ∙ others 0 (λ e. omega arith) ∙ ap f zero_more) i
    ∷ taken_colours f g bits (suc n) a rest (ap f (sym next) ∙ was) (ap g (sym next) ∙ none)
    (λ j ne. (let more : n + suc j ≡ suc n + j = omega arith in
    ap g (sym more) ∙ others (suc j) (λ e. ne (let same : j ≡ a = omega arith in same)) ∙ ap f more)) i

-- a list of arenas without the lowest that is out
outs_after : (f : ArenaShape → ArenaShape) → ((x : ArenaShape) → (f x).out ≡ None)
    → (n a : ℕ) (arenas : List ArenaShape) → IsSome (out_in (slice_get arenas a))
    → ((b : ℕ) → b < a → out_in (slice_get arenas b) ≡ None)
    → outs_from n arenas ≡ (n + a) ∷ outs_from n (change_at f arenas a)
outs_after f out n a [] some low = absurd (cc some)
outs_after f out n zero (x ∷ arenas) some low =
    let zero_more : n ≡ n + 0 = omega arith in
    ap (λ b. cond b (n ∷ outs_from (suc n) arenas) (outs_from (suc n) arenas)) some
    ∙ (λ i. zero_more i ∷ sym
    (ap (λ o. cond (is_some o) (n ∷ outs_from (suc n) arenas) (outs_from (suc n) arenas)) (out x)) i)
outs_after f out n (suc a) (x ∷ arenas) some low =
    let next : suc n + a ≡ n + suc a = omega arith in
    let here : x.out ≡ None = low 0 (omega arith) in
    ap (λ o. cond (is_some o) (n ∷ outs_from (suc n) arenas) (outs_from (suc n) arenas)) here
    ∙ outs_after f out (suc n) a arenas some (λ b lt. low (suc b) (omega arith))
    ∙ (λ i. next i ∷ sym
    (ap (λ o. cond (is_some o) (n ∷ outs_from (suc n) (change_at f arenas a))
    (outs_from (suc n) (change_at f arenas a))) here) i)

owners_after : (f : ArenaShape → ArenaShape) → ((x : ArenaShape) → (f x).zone ≡ x.zone)
    → (a : ℕ) (arenas : List ArenaShape) → owners_of (change_at f arenas a) ≡ owners_of arenas
owners_after f zone a [] = refl
owners_after f zone zero (x ∷ arenas) = λ i. owner_by (zone x i) ∷ owners_of arenas
owners_after f zone (suc a) (x ∷ arenas) = ap (λ l. owner_by x.zone ∷ l) (owners_after f zone a arenas)

pub marking_after_sweep : (t : State) → is_marking_state (after_sweep t) ≡ is_marking_state t
marking_after_sweep state.NoGC = refl
marking_after_sweep state.Prepare = refl
marking_after_sweep state.MarkBlackOnly = refl
marking_after_sweep state.MarkBlackAndGray = refl
marking_after_sweep state.Sweep = refl
marking_after_sweep state.Finished = refl

pub sweep_is : (s t : State) → after_sweep s ≡ t → t ≢ state.Finished → s ≡ t
sweep_is state.NoGC t e n = e
sweep_is state.Prepare t e n = e
sweep_is state.MarkBlackOnly t e n = e
sweep_is state.MarkBlackAndGray t e n = e
sweep_is state.Sweep t e n = absurd (n (sym e))
sweep_is state.Finished t e n = e

pub no_sweep_after : (s : State) → after_sweep s ≡ state.Sweep → ⊥
no_sweep_after state.NoGC e = cc e
no_sweep_after state.Prepare e = cc e
no_sweep_after state.MarkBlackOnly e = cc e
no_sweep_after state.MarkBlackAndGray e = cc e
no_sweep_after state.Sweep e = cc e
no_sweep_after state.Finished e = cc e

module _ (c : CollectorState) (flown : ℕ → Option Bits) (w : World) (a freed : ℕ) (bits : Bits) (d : CollectorState)
    (s : RepresentsMarking c flown w) (t : TakesIn c flown a freed bits d) where
  pub arenas_are : d.heap.shape.arenas ≡ change_at (come_in freed) c.heap.shape.arenas a
  arenas_are = ap (λ (z : HeapState). z.shape.arenas) t.heap_is

  arena_same : (b : ℕ) → b ≢ a → slice_get d.heap.shape.arenas b ≡ slice_get c.heap.shape.arenas b
  arena_same b ne = ap (λ (xs : List ArenaShape). slice_get xs b) arenas_are
      ∙ slice_get-change_other (come_in freed) c.heap.shape.arenas a b ne

  arena_taken : slice_get d.heap.shape.arenas a ≡ option_map (come_in freed) (slice_get c.heap.shape.arenas a)
  arena_taken = ap (λ (xs : List ArenaShape). slice_get xs a) arenas_are
      ∙ slice_get-change_same (come_in freed) c.heap.shape.arenas a

  -- the arena as it was out
  pub was_out : (arena : ArenaShape) × (old : Bits) × (slice_get c.heap.shape.arenas a ≡ Some arena)
      × (arena.out ≡ Some old)
  was_out = go (slice_get c.heap.shape.arenas a) refl t.lowest.out
    where
      by : (arena : ArenaShape) (o : Option Bits) → slice_get c.heap.shape.arenas a ≡ Some arena → arena.out ≡ o
          → is_some o ≡ true → (arena : ArenaShape) × (old : Bits) × (slice_get c.heap.shape.arenas a ≡ Some arena)
          × (arena.out ≡ Some old)
      by arena None e f out = absurd (cc out)
      by arena (Some old) e f out = (arena, old, e, f)

      go : (o : Option ArenaShape) → slice_get c.heap.shape.arenas a ≡ o → is_some (out_in o) ≡ true
          → (arena : ArenaShape) × (old : Bits) × (slice_get c.heap.shape.arenas a ≡ Some arena)
          × (arena.out ≡ Some old)
      go None e out = absurd (cc out)
      go (Some arena) e out = by arena arena.out e refl out

  left_slots : (i : ℕ) → cell_in (without_freed freed was_out.0.slots) i ≡ present_in (Some was_out.1) was_out.0.slots i
  left_slots i = left_in was_out.1 was_out.0.slots freed i (t.fits was_out.1 (ap out_in was_out.2 ∙ was_out.3))
      (s.placed.lies.whole a was_out.0 was_out.2) (t.freed_is was_out.0 was_out.1 was_out.2 was_out.3)

  cells_same : (p : Place) → cell_of d.heap.shape p ≡ cell_of c.heap.shape p
  cells_same p = elim (cases_eq p.0 a) [
    | inr ne ↦ ap (λ o. cell_in_arena o p.1) (arena_same p.0 ne)
    | inl is ↦
        ap (λ b. cell_in_arena (slice_get d.heap.shape.arenas b) p.1) is
        ∙ ap (λ o. cell_in_arena o p.1) (arena_taken ∙ ap (λ o. option_map (come_in freed) o) was_out.2)
        ∙ left_slots p.1
        ∙ ap (λ o. present_in o was_out.0.slots p.1) (sym was_out.3)
        ∙ ap (λ o. cell_in_arena o p.1) (sym was_out.2)
        ∙ ap (λ b. cell_in_arena (slice_get c.heap.shape.arenas b) p.1) (sym is)
  ]

  pub zones_same : (p : Place) → zone_of d.heap.shape p ≡ zone_of c.heap.shape p
  zones_same p = elim (cases_eq p.0 a) [
    | inr ne ↦ ap zone_in (arena_same p.0 ne)
    | inl is ↦ ap (λ b. zone_in (slice_get d.heap.shape.arenas b)) is
        ∙ ap zone_in (arena_taken ∙ ap (λ o. option_map (come_in freed) o) was_out.2) ∙ ap zone_in (sym was_out.2)
        ∙ ap (λ b. zone_in (slice_get c.heap.shape.arenas b)) (sym is)
  ]

  pub out_same : (b : ℕ) → b ≢ a → out_of d.heap.shape b ≡ out_of c.heap.shape b
  out_same b ne = ap out_in (arena_same b ne)

  pub out_none : out_of d.heap.shape a ≡ None
  out_none = ap out_in (arena_taken ∙ ap (λ o. option_map (come_in freed) o) was_out.2)

  -- what was not out isn't
  pub kept_on : (b : ℕ) → out_of c.heap.shape b ≡ None → out_of d.heap.shape b ≡ None
  kept_on b none = elim (cases_eq b a) [
    | inr ne ↦ out_same b ne ∙ none
    | inl is ↦ ap (λ i. out_of d.heap.shape i) is
        ∙ out_none
  ]

  pub whole_after : AreWhole d.heap.shape.arenas
  whole_after b arena at = elim (cases_eq b a) [
    | inr ne ↦ s.placed.lies.whole b arena (sym (arena_same b ne) ∙ at)
    | inl is ↦
        let taken : Some (come_in freed was_out.0) ≡ Some arena =
        sym (arena_taken ∙ ap (λ o. option_map (come_in freed) o) was_out.2)
        ∙ ap (λ i. slice_get d.heap.shape.arenas i) (sym is) ∙ at in
        ap (λ (x : ArenaShape). length x.slots) (sym (some_one _ _ taken)) ∙ length_freed freed was_out.0.slots
        ∙ s.placed.lies.whole a was_out.0 was_out.2
  ]

  -- what is not swept yet lies in other arenas
  pub unswept_on : (p : Place) (x : Name) → IsUnswept c.heap.shape p x → p.0 ≢ a → IsUnswept d.heap.shape p x
  unswept_on p x u ne = record {
    bits = u.bits;
    cell = u.cell;
    out_is = out_same p.0 ne ∙ u.out_is;
    white = u.white;
    cell_is = ap (λ o. stored_in o p.1) (arena_same p.0 ne) ∙ u.cell_is;
    name_is = u.name_is;
  }

  pub unswept_back : (p : Place) (x : Name) → IsUnswept d.heap.shape p x → IsUnswept c.heap.shape p x × (p.0 ≢ a)
  unswept_back p x u = elim (cases_eq p.0 a) [
    | inr ne ↦ (
      record {
        bits = u.bits;
        cell = u.cell;
        out_is = sym (out_same p.0 ne) ∙ u.out_is;
        white = u.white;
        cell_is = ap (λ o. stored_in o p.1) (sym (arena_same p.0 ne)) ∙ u.cell_is;
        name_is = u.name_is;
      },
      ne,
    )
    | inl is ↦ absurd (cc (sym (ap (λ i. out_of d.heap.shape i) is ∙ out_none) ∙ u.out_is))
  ]

  pub owners_same : owners_of d.heap.shape.arenas ≡ owners_of c.heap.shape.arenas
  owners_same = ap owners_of arenas_are ∙ owners_after (come_in freed) (λ x. refl) a c.heap.shape.arenas

  pub outs_are : outs_from 0 c.heap.shape.arenas ≡ a ∷ outs_from 0 d.heap.shape.arenas
  outs_are = outs_after (come_in freed) (λ x. refl) 0 a c.heap.shape.arenas t.lowest.out t.lowest.lowest
      ∙ (let zero_and : 0 + a ≡ a = omega arith in λ i. zero_and i ∷ outs_from 0 (sym arenas_are i))

  -- the states of zones
  pub states_are : (z : ℕ) → (state_in d.heap.shape z ≡ state_in c.heap.shape z)
      ⊎ (((b : ℕ) → out_of d.heap.shape b ≡ None) × (state_in d.heap.shape z ≡ after_sweep (state_in c.heap.shape z)))
  states_are z = elim (some_out d.heap.shape) [
    | inl some ↦ inl (t.still some.0 some.1 z)
    | inr none
        ↦ inr (none, t.all_in none z)
  ]

  pub marking_same : (z : ℕ) → is_marking_state (state_in d.heap.shape z) ≡ is_marking_state (state_in c.heap.shape z)
  marking_same z = elim (states_are z) [
    | inl same ↦ ap is_marking_state same
    | inr next ↦ ap is_marking_state next.1
        ∙ marking_after_sweep _
  ]

  -- a state that is not the one of swept zones is what it was, and goes on to be
  pub state_back : (z : ℕ) (x : State) → state_in d.heap.shape z ≡ x → x ≢ state.Finished → state_in c.heap.shape z ≡ x
  state_back z x e n = elim (states_are z) [ inl same ↦ sym same ∙ e | inr next ↦ sweep_is _ x (sym next.1 ∙ e) n ]

  pub state_on : (z : ℕ) (x : State) → state_in c.heap.shape z ≡ x → after_sweep x ≡ x → state_in d.heap.shape z ≡ x
  state_on z x e n = elim (states_are z) [ inl same ↦ same ∙ e | inr next ↦ next.1 ∙ ap after_sweep e ∙ n ]

  flying_none : without_arena flown a a ≡ None
  flying_none = ap (λ b. cond b None (flown a)) (eq-eqb a a refl)

  flying_same : (b : ℕ) → b ≢ a → without_arena flown a b ≡ flown b
  flying_same b ne = go (eqb b a) refl
    where
      go : (x : Bool) → eqb b a ≡ x → cond (eqb b a) None (flown b) ≡ flown b
      go true e = absurd (ne (eqb-true b a e))
      go false e = ap (λ y. cond y None (flown b)) e

  pub colours_same : with_flown (without_arena flown a) 0 d.heap.colours ≡ with_flown flown 0 c.heap.colours
  colours_same =
      let zero_and : 0 + a ≡ a = omega arith in
      ap (with_flown (without_arena flown a) 0) (ap (λ (z : HeapState). z.colours) t.heap_is)
      ∙ taken_colours flown (without_arena flown a) bits 0 a c.heap.colours (ap flown zero_and ∙ t.bits_are)
      (ap (without_arena flown a) zero_and ∙ flying_none)
      (λ i ne. (let zero_more : 0 + i ≡ i = omega arith in ap (without_arena flown a) zero_more ∙ flying_same i ne
      ∙ ap flown (sym zero_more)))

  pub same_cells : HasSameCells c.heap d.heap
  same_cells = record {
    cells = cells_same;
    zones = zones_same;
    states = t.sized;
    comps = ap (λ (z : HeapState). z.shape.comps) t.heap_is;
    wrappers = ap (λ (z : HeapState). z.shape.wrappers) t.heap_is;
    weak = ap (λ (z : HeapState). z.shape.weak) t.heap_is;
    regs = ap (λ (z : HeapState). z.shape.regs) t.heap_is;
    slots = ap (λ (z : HeapState). z.shape.slots) t.heap_is;
    objects = ap (λ (z : HeapState). z.shape.objects) t.heap_is;
    made = ap (λ (z : HeapState). z.made) t.heap_is;
  }

  pub same_marks : HasSameMarks (heap_with c flown) (heap_with d (without_arena flown a))
  same_marks = record {
    cells = record {
      cells = cells_same;
      zones = zones_same;
      states = t.sized;
      comps = same_cells.comps;
      wrappers = same_cells.wrappers;
      weak = same_cells.weak;
      regs = same_cells.regs;
      slots = same_cells.slots;
      objects = same_cells.objects;
      made = same_cells.made;
    };
    arenas = ap (λ (xs : List ArenaShape). length xs) arenas_are ∙ length-change_at (come_in freed) c.heap.shape.arenas
        a;
    colours = colours_same;
    buffers = ap (λ (z : HeapState). z.buffers) t.heap_is;
    looks = ap (λ (z : HeapState). z.looks) t.heap_is;
    marking = marking_same;
    black_only = λ z only. state_back z state.MarkBlackOnly only (λ e. cc e);
    begun = λ m q v e has is black_map was takes.
        absurd (let then = state_back (zone_of d.heap.shape q) state.MarkBlackAndGray
        takes (λ e. cc e) in let zone = zones_same q in cc (was, then, zone));
    kept = λ p m. kept_on p.0
        (s.coloured.marks.holds.colours.shape.kept p
        (ap (λ z. is_marking_state (state_in c.heap.shape z)) (sym (zones_same p))
        ∙ sym (marking_same (zone_of d.heap.shape p)) ∙ m));
  }

  pub flies_after : IsInFlight d.heap.shape (without_arena flown a)
  flies_after = record {
    covers = λ b. elim (cases_eq b a) [
      | inr ne ↦ ap is_some (flying_same b ne) ∙ s.swept.flies.covers b ∙ ap is_some (sym (out_same b ne))
      | inl is ↦ ap (λ i. is_some (without_arena flown a i)) is ∙ ap is_some flying_none ∙ ap is_some (sym out_none)
          ∙ ap (λ i. is_some (out_of d.heap.shape i)) (sym is)
    ];
    woken = λ b old new out fly. elim (cases_eq b a) [
      | inr ne ↦ s.swept.flies.woken b old new (sym (out_same b ne) ∙ out) (sym (flying_same b ne) ∙ fly)
      | inl is ↦ absurd (cc (sym (ap (λ i. out_of d.heap.shape i) is ∙ out_none) ∙ out))
    ];
  }
