-- What is left of a collection becomes less: zones go on, and arenas come in.
use Rattle.std.proofs.Common.{◌≡◌, ◌<◌, ◌≤◌, ◌+◌, ◌||◌, ℕ, zero, suc, Bool, true, false, if◌then◌else◌, cond, Option}
use Rattle.std.proofs.Common.{None, Some, IsSome, is_some, List, [], ◌∷◌, length, slice_get, refl, sym, ap, ◌∙◌, inl}
use Rattle.std.proofs.Common.{inr, arith}
use Rattle.gz_names.specs.declared.zone_sets.ZoneSet.{ZoneSet}
use Rattle.cell_bits.specs.declared.bits.Bits.{Bits}
use Rattle.zones.specs.declared.states.State.{State}
use Rattle.zones.specs.declared.states.State.TheVariants as state
use Rattle.arena_table.specs.Indexed.{in_zones}
use Rattle.arena_table.specs.Slots.{change_at}
use Rattle.heap_core.specs.Shape.{ArenaShape, Shape, is_marking_state, out_of, state_in, state_or}
use Rattle.heap_core.specs.Heap.{HeapState, flown_or, with_flown}
use Rattle.heap_core.specs.Sweeping.{come_in, handed}
use Rattle.marker.specs.UnitsToCome.{is_black_only}
use Rattle.zone_edges.specs.Noted.{Noted}
use Rattle.slice_driver.specs.Advancing.{EndsSweeping, after_end}
use Rattle.slice_driver.specs.Collector.{RunState}
use Rattle.slice_driver.specs.Remaining.{arenas_left, grouping_left, steps_left, steps_of}
use Rattle.slice_driver.specs.Sweeping.{after_sweep}
use Rattle.slice_driver.proofs.group_end.Cells.{some_out}

-- nothing is left of the grouping
pub grouped : (s : Shape) (n : Noted) (r : RunState) → r.formed ≡ true → grouping_left s n (Some r) ≡ 0
grouped s n r formed =
    ap (λ (b : Bool). if b || is_some r.clearing then 0 else Rattle.zone_edges.specs.Looks.left_to_look s n
    + Rattle.slice_driver.specs.Remaining.ungrouped_below n 64) formed

-- no zone has more steps to go
pub no_more_steps : (xs ys : List State) → length ys ≡ length xs
    → ((z : ℕ) → steps_of (state_or (slice_get ys z)) ≤ steps_of (state_or (slice_get xs z)))
    → steps_left ys ≤ steps_left xs
no_more_steps [] [] sized less = omega arith
no_more_steps [] (y ∷ ys) sized less = absurd (omega arith)
no_more_steps (x ∷ xs) [] sized less = absurd (omega arith)
no_more_steps (x ∷ xs) (y ∷ ys) sized less =
    let rest = no_more_steps xs ys (omega arith) (λ z. less (suc z)) in
    let first = less 0 in
    omega (arith, rest, first)

-- and one has fewer
pub fewer_steps : (xs ys : List State) (i : ℕ) → length ys ≡ length xs
    → ((z : ℕ) → steps_of (state_or (slice_get ys z)) ≤ steps_of (state_or (slice_get xs z)))
    → steps_of (state_or (slice_get ys i)) < steps_of (state_or (slice_get xs i)) → steps_left ys < steps_left xs
fewer_steps [] [] i sized less fewer = absurd (omega (arith, fewer))
fewer_steps [] (y ∷ ys) i sized less fewer = absurd (omega arith)
fewer_steps (x ∷ xs) [] i sized less fewer = absurd (omega arith)
fewer_steps (x ∷ xs) (y ∷ ys) zero sized less fewer =
    let rest = no_more_steps xs ys (omega arith) (λ z. less (suc z)) in
    omega (arith, rest, fewer)
fewer_steps (x ∷ xs) (y ∷ ys) (suc i) sized less fewer =
    let rest = fewer_steps xs ys i (omega arith) (λ z. less (suc z)) fewer in
    let first = less 0 in
    omega (arith, rest, first)

-- whether an arena is still to come in
abbrev pub is_left : Shape → ArenaShape → Bool
is_left s arena = is_some arena.out || is_marking_state (state_in s arena.zone)

abbrev pub one_if : Bool → ℕ
one_if b = if b then 1 else 0

-- by what is marking alone
pub arenas_same : (s t : Shape) (arenas : List ArenaShape)
    → ((z : ℕ) → is_marking_state (state_in t z) ≡ is_marking_state (state_in s z))
    → arenas_left t arenas ≡ arenas_left s arenas
arenas_same s t [] same = refl
arenas_same s t (arena ∷ arenas) same =
    ap (λ (b : Bool). one_if (is_some arena.out || b) + arenas_left t arenas) (same arena.zone)
    ∙ ap (λ (n : ℕ). one_if (is_left s arena) + n) (arenas_same s t arenas same)

-- an arena of a zone that is not marking came in
pub arenas_taken : (s : Shape) (freed a : ℕ) (arenas : List ArenaShape) (arena : ArenaShape)
    → slice_get arenas a ≡ Some arena → IsSome arena.out → is_marking_state (state_in s arena.zone) ≡ false
    → arenas_left s (change_at (come_in freed) arenas a) + 1 ≡ arenas_left s arenas
arenas_taken s freed a [] arena at out idle = absurd (cc at)
arenas_taken s freed zero (x ∷ arenas) arena at out idle =
    let is : x ≡ arena = Rattle.slice_driver.proofs.abstraction.Named.some_one _ _ at in
    let now : one_if (is_left s (come_in freed x)) ≡ 0 =
    ap (λ (y : ArenaShape). one_if (is_marking_state (state_in s y.zone))) is ∙ ap one_if idle in
    let was : one_if (is_left s x) ≡ 1 = ap (λ (y : ArenaShape). one_if (is_left s y)) is
    ∙ ap (λ (b : Bool). one_if (b || is_marking_state (state_in s arena.zone))) out in
    omega (arith, now, was)
arenas_taken s freed (suc a) (x ∷ arenas) arena at out idle =
    let rest = arenas_taken s freed a arenas arena at out idle in
    omega (arith, rest)

-- the arenas of marking zones went out, and the zones are not marking any more
pub arenas_handed : (s t : Shape) (word : ℕ) (arenas : List ArenaShape) (colours : List Bits)
    → length colours ≡ length arenas
    → ((z : ℕ) → in_zones word z ≡ true → is_marking_state (state_in s z) ≡ true)
    → ((z : ℕ) → in_zones word z ≡ false → is_marking_state (state_in t z) ≡ is_marking_state (state_in s z))
    → arenas_left t (handed word arenas colours) ≤ arenas_left s arenas
arenas_handed s t word [] colours sized here others = omega arith
arenas_handed s t word (arena ∷ arenas) [] sized here others = absurd (omega arith)
arenas_handed s t word (arena ∷ arenas) (bits ∷ colours) sized here others =
    go (in_zones word arena.zone) refl (arenas_handed s t word arenas colours (omega arith) here others)
  where
    most : (b : Bool) → one_if b ≤ 1
    most true = omega arith
    most false = omega arith

    full : (b c : Bool) → c ≡ true → one_if (b || c) ≡ 1
    full true c e = refl
    full false c e = ap one_if e

    go : (b : Bool) → in_zones word arena.zone ≡ b → arenas_left t (handed word arenas colours) ≤ arenas_left s arenas
        → arenas_left t (cond b (record arena { out = Some bits }) arena ∷ handed word arenas colours)
        ≤ arenas_left s (arena ∷ arenas)
    go true e rest =
        let was = full (is_some arena.out) (is_marking_state (state_in s arena.zone)) (here arena.zone e) in
        omega (arith, was, rest)
    go false e rest =
        let same : one_if (is_left t arena) ≡ one_if (is_left s arena) =
        ap (λ (b : Bool). one_if (is_some arena.out || b)) (others arena.zone e) in
        omega (arith, same, rest)

swept_steps : (t : State) → steps_of (after_sweep t) ≡ steps_of t
swept_steps state.NoGC = refl
swept_steps state.Prepare = refl
swept_steps state.MarkBlackOnly = refl
swept_steps state.MarkBlackAndGray = refl
swept_steps state.Sweep = refl
swept_steps state.Finished = refl

ended_steps : (t : State) → steps_of (after_end t) ≡ steps_of t
ended_steps state.NoGC = refl
ended_steps state.Prepare = refl
ended_steps state.MarkBlackOnly = refl
ended_steps state.MarkBlackAndGray = refl
ended_steps state.Sweep = refl
ended_steps state.Finished = refl

swept_marking : (t : State) → is_marking_state (after_sweep t) ≡ is_marking_state t
swept_marking state.NoGC = refl
swept_marking state.Prepare = refl
swept_marking state.MarkBlackOnly = refl
swept_marking state.MarkBlackAndGray = refl
swept_marking state.Sweep = refl
swept_marking state.Finished = refl

ended_marking : (t : State) → is_marking_state (after_end t) ≡ is_marking_state t
ended_marking state.NoGC = refl
ended_marking state.Prepare = refl
ended_marking state.MarkBlackOnly = refl
ended_marking state.MarkBlackAndGray = refl
ended_marking state.Sweep = refl
ended_marking state.Finished = refl

swept_black_only : (t : State) → is_black_only (after_sweep t) ≡ is_black_only t
swept_black_only state.NoGC = refl
swept_black_only state.Prepare = refl
swept_black_only state.MarkBlackOnly = refl
swept_black_only state.MarkBlackAndGray = refl
swept_black_only state.Sweep = refl
swept_black_only state.Finished = refl

ended_black_only : (t : State) → is_black_only (after_end t) ≡ is_black_only t
ended_black_only state.NoGC = refl
ended_black_only state.Prepare = refl
ended_black_only state.MarkBlackOnly = refl
ended_black_only state.MarkBlackAndGray = refl
ended_black_only state.Sweep = refl
ended_black_only state.Finished = refl

-- as sweeping ends, zones have as many steps to go, and the same are marking, in the same way
module _ (h k : HeapState) (groups : List ZoneSet) (over : Bool) (e : EndsSweeping h groups over k) where
  pub steps_kept : (z : ℕ) → steps_of (state_in k.shape z) ≡ steps_of (state_in h.shape z)
  steps_kept z = elim (some_out h.shape) [
    | inl some ↦ ap steps_of ((e.still some.0 some.1).1 z)
    | inr none ↦ go over refl none
  ]
    where
      go : (b : Bool) → over ≡ b → ((a : ℕ) → out_of h.shape a ≡ None)
          → steps_of (state_in k.shape z) ≡ steps_of (state_in h.shape z)
      go true is none = ap steps_of ((e.ended is).2 z) ∙ ended_steps (state_in h.shape z)
      go false is none = ap steps_of ((e.swept none is).1 z) ∙ swept_steps (state_in h.shape z)

  pub marking_kept : (z : ℕ) → is_marking_state (state_in k.shape z) ≡ is_marking_state (state_in h.shape z)
  marking_kept z = elim (some_out h.shape) [
    | inl some ↦ ap is_marking_state ((e.still some.0 some.1).1 z)
    | inr none ↦ go over refl none
  ]
    where
      go : (b : Bool) → over ≡ b → ((a : ℕ) → out_of h.shape a ≡ None) → is_marking_state (state_in k.shape z)
          ≡ is_marking_state (state_in h.shape z)
      go true is none = ap is_marking_state ((e.ended is).2 z) ∙ ended_marking (state_in h.shape z)
      go false is none = ap is_marking_state ((e.swept none is).1 z) ∙ swept_marking (state_in h.shape z)

  pub black_only_kept : (z : ℕ) → is_black_only (state_in k.shape z) ≡ is_black_only (state_in h.shape z)
  black_only_kept z = elim (some_out h.shape) [
    | inl some ↦ ap is_black_only ((e.still some.0 some.1).1 z)
    | inr none ↦ go over refl none
  ]
    where
      go : (b : Bool) → over ≡ b → ((a : ℕ) → out_of h.shape a ≡ None) → is_black_only (state_in k.shape z)
          ≡ is_black_only (state_in h.shape z)
      go true is none = ap is_black_only ((e.ended is).2 z) ∙ ended_black_only (state_in h.shape z)
      go false is none = ap is_black_only ((e.swept none is).1 z) ∙ swept_black_only (state_in h.shape z)

-- bits in flight that are the heap's own
pub own_flown : (g : ℕ → Option Bits) (n : ℕ) (colours : List Bits)
    → ((i : ℕ) (b : Bits) → g (n + i) ≡ Some b → slice_get colours i ≡ Some b) → with_flown g n colours ≡ colours
own_flown g n [] same = refl
own_flown g n (own ∷ rest) same =
    let zero_more : n + 0 ≡ n = omega arith in
    let first : flown_or (g n) own ≡ own = go (g n) refl (λ b e. same 0 b (ap g zero_more ∙ e)) in
    let more = own_flown g (suc n) rest
    (λ i b e. (let next : n + suc i ≡ suc n + i = omega arith in same (suc i) b (ap g next ∙ e))) in
    ap (λ (b : Bits). b ∷ with_flown g (suc n) rest) first ∙ ap (λ (bs : List Bits). own ∷ bs) more
  where
    go : (o : Option Bits) → g n ≡ o → ((b : Bits) → g n ≡ Some b → Some own ≡ Some b) → flown_or o own ≡ own
    go None e same = refl
    go (Some b) e same = sym (Rattle.slice_driver.proofs.abstraction.Named.some_one _ _ (same b e))
