-- What a walk keeps that follows black cells one after another, whichever cells it leaves out.
use Rattle.std.proofs.Common.{◌≡◌, ◌≢◌, ◌⊎◌, ◌+◌, ◌*◌, ◌<◌, ◌≤◌, ◌-◌, ℕ, inl, inr, sym, ap, ◌∙◌, subst, arith, Contains}
use Rattle.std.proofs.Common.{List, length, Option, Some, None, slice_get, true}
use Rattle.std.specs.Option.{option_map}
use Rattle.std.proofs.lemmas.Bool.{cases_eq, cases_lt}
use Rattle.std.proofs.lemmas.Bool.Decides.{eqb_tells}
use Rattle.std.proofs.lemmas.Option.{slice_get_within}
use Rattle.gz_names.specs.declared.commands.Kind.TheVariants as kind
use Rattle.gz_names.specs.declared.numbers.Place.{Place}
use Rattle.arena_table.specs.Cells.{CellState}
use Rattle.mark_stack.specs.Stack.{Piles, IsPushed}
use Rattle.mark_stack.specs.declared.stack.Pile.TheVariants as pile
use Rattle.mark_stack.proofs.Pushed.{black_wake, more_length}
use Rattle.weak_maps.specs.declared.entries.WeakEntry.{WeakEntry}
use Rattle.weak_maps.specs.WeakMaps.{IsSound}
use Rattle.heap_core.specs.Shape.{HasEdge, IsPresent, Shape, cell_of, field_at, is_marking, is_marking_state, state_in}
use Rattle.heap_core.specs.Shape.{zone_of}
use Rattle.heap_core.specs.Heap.{HeapState}
use Rattle.barriers.specs.declared.parts.Part.{Part}
use Rattle.barriers.specs.declared.parts.Part.TheVariants as part
use Rattle.barriers.specs.Reached.{HasEntry}
use Rattle.barriers.specs.Colours.{IsBlack, grays_outside, left}
use Rattle.barriers.specs.Invariant.{ShapeInvariant}
use Rattle.barriers.specs.Parts.{IsPart, listed_of}
use Rattle.barriers.specs.Spreading.{Blackens, Grows, Spreads}
use Rattle.barriers.proofs.Listed.{entry, in_part, of_part, past_the_last, stands_at, stood_at}
use Rattle.barriers.proofs.Spreading.{grows_more, shape_is, spreads_more, spreads_pop}

-- what a cell leads to that is no wrapper lies in its zone, so it is marking if that is
pub marking_target : (s : Shape) (x y : Place) (i : ℕ) → ShapeInvariant s
    → option_map (λ (c : CellState). c.kind) (cell_of s x) ≢ Some kind.Wrapper → is_marking s x ≡ true → i < 8
    → field_at s x i ≡ Some y → is_marking s y ≡ true
marking_target s x y i inv inside on below at = elim (cases_eq (zone_of s x) (zone_of s y)) [
  | inl same ↦ ap (λ z. is_marking_state (state_in s z)) (sym same) ∙ on
  | inr apart ↦ absurd (inside (inv.across x y i below at apart).0)
]

-- a walk: what holds while it goes on, what it may turn black, and when an entry was followed. What it may turn black
-- later it may turn black now, and an entry that was followed stays so
pub record Walk : Type 1 where
  pub Holds : HeapState → Piles → Type 0
  pub MayTurn : HeapState → Place → Type 0
  pub Follows : HeapState → Piles → WeakEntry → Type 0
  pub on : (h k : HeapState) → Blackens (MayTurn h) h k → (y : Place) → MayTurn k y → MayTurn h y
  pub keep : (h : HeapState) (p : Piles) (l : HeapState) (q : Piles) (e : WeakEntry) → Grows (MayTurn h) h p l q
      → Follows h p e → Follows l q e

pub same_shape : (P : Place → Type 0) (h0 : HeapState) (p0 : Piles) (h : HeapState) (p : Piles) → Grows P h0 p0 h p
    → h.shape ≡ h0.shape
same_shape P h0 p0 h p grows = shape_is h0 h grows.spreads.blackens.rest

pub below_cases : (j i : ℕ) → j < i + 1 → (j < i) ⊎ (j ≡ i)
below_cases j i below =
    elim (eqb_tells j i) [ inl same ↦ inr same.1 | inr other ↦ (let ne : j ≡ i → ⊥ = other.1 in inl (omega arith)) ]

-- the fields below i were followed, as far as their cells count
pub record Scanned (Holds : HeapState → Piles → Type 0) (Counts : Place → Type 0) (place : Place) (i : ℕ)
    (h0 : HeapState) (p0 : Piles) (h : HeapState) (p : Piles) : Type 0 where
  pub holds : Holds h p
  pub grows : Grows (λ y. HasEdge h0.shape place y × Counts y) h0 p0 h p
  pub done : (j : ℕ) (y : Place) → j < i → field_at h0.shape place j ≡ Some y → Counts y → IsBlack h y

module _ (Holds : HeapState → Piles → Type 0) (Counts : Place → Type 0) (place : Place) (i : ℕ) (h0 : HeapState)
    (p0 : Piles) (h : HeapState) (p : Piles) (sc : Scanned Holds Counts place i h0 p0 h p) where
  abbrev P : Place → Type 0
  P = λ y. HasEdge h0.shape place y × Counts y

  pub scan_step : (t : Place) (k : HeapState) (q : Piles) → i < 8 → field_at h.shape place i ≡ Some t
      → Grows (λ y. (y ≡ t) × Counts y) h p k q → (Counts t → IsBlack k t) → Holds k q
      → Scanned Holds Counts place (i + 1) h0 p0 k q
  scan_step t k q below at grows black holds =
      let at0 : field_at h0.shape place i ≡ Some t =
      ap (λ (s : Shape). field_at s place i) (sym (same_shape P h0 p0 h p sc.grows)) ∙ at in
      record {
        holds = holds;
        grows = grows_more P (λ y. (y ≡ t) × Counts y) P h0 p0 h p k q sc.grows grows (λ y e. e)
            (λ y e. ((i, below, at0 ∙ ap (λ z. Some z) (sym e.0)), e.1));
        done = λ j y lt fa counts. elim (below_cases j i lt) [
          | inl old ↦ grows.spreads.blackens.kept y (sc.done j y old fa counts)
          | inr is ↦ (let same : t ≡ y = cc (at0, fa, is) in
              subst (λ z. IsBlack k z) same (black (subst Counts (sym same) counts)))
        ];
      }

  pub scan_skip : ((t : Place) → field_at h.shape place i ≡ Some t → ⊥) → Scanned Holds Counts place (i + 1) h0 p0 h p
  scan_skip none = record {
    holds = sc.holds;
    grows = sc.grows;
    done = λ j y lt fa counts. elim (below_cases j i lt) [
      | inl old ↦ sc.done j y old fa counts
      | inr is ↦ absurd (none y (ap (λ (s : Shape). field_at s place i) (same_shape P h0 p0 h p sc.grows)
          ∙ ap (λ n. field_at h0.shape place n) (sym is) ∙ fa))
    ];
  }

  -- all fields that the cell has were followed
  pub all_scanned : (count : ℕ) → count ≤ i → ((f : ℕ) → count ≤ f → field_at h0.shape place f ≡ None) → (y : Place)
      → HasEdge h0.shape place y → Counts y → IsBlack h y
  all_scanned count all past y (f, below, at) counts = elim (cases_lt f count) [
    | inl lt ↦ sc.done f y (omega arith) at counts
    | inr le ↦ absurd (let none : field_at h0.shape place f ≡ None = past f le in cc (none, at))
  ]

  pub target_present : (t : Place) → ShapeInvariant h.shape → i < 8 → field_at h.shape place i ≡ Some t
      → IsPresent h.shape t
  target_present t inv below at = inv.targets place t (i, below, at)

module _ (w : Walk) where
  -- black spread, and then spread on
  pub spreads_on : (h : HeapState) (p : Piles) (k : HeapState) (q : Piles) (l : HeapState) (r : Piles)
      → Spreads (w.MayTurn h) h p k q → Spreads (w.MayTurn k) k q l r → Spreads (w.MayTurn h) h p l r
  spreads_on h p k q l r a b = spreads_more (w.MayTurn h) (w.MayTurn k) (w.MayTurn h) h p k q l r a b (λ y z. z)
      (w.on h k a.blackens)

  pub grows_on : (h : HeapState) (p : Piles) (k : HeapState) (q : Piles) (l : HeapState) (r : Piles)
      → Grows (w.MayTurn h) h p k q → Grows (w.MayTurn k) k q l r → Grows (w.MayTurn h) h p l r
  grows_on h p k q l r a b = grows_more (w.MayTurn h) (w.MayTurn k) (w.MayTurn h) h p k q l r a b (λ y z. z)
      (w.on h k a.spreads.blackens)

-- a list has entries alone; those below i were followed
pub record EntriesSeen (w : Walk) (listed : List WeakEntry) (i : ℕ) (h0 : HeapState) (p0 : Piles) (h : HeapState)
    (p : Piles) : Type 0 where
  pub holds : w.Holds h p
  pub grows : Grows (w.MayTurn h0) h0 p0 h p
  pub done : (j : ℕ) (e : WeakEntry) → j < i → slice_get listed j ≡ Some e → w.Follows h p e

module _ (w : Walk) (on : Part) (x : Place) (i : ℕ) (h0 : HeapState) (p0 : Piles) (h : HeapState) (p : Piles)
    (es : EntriesSeen w (listed_of h0.shape.weak on x) i h0 p0 h p) where
  abbrev listed : List WeakEntry
  listed = listed_of h.shape.weak on x

  abbrev listed0 : List WeakEntry
  listed0 = listed_of h0.shape.weak on x

  same : h.shape ≡ h0.shape
  same = same_shape (w.MayTurn h0) h0 p0 h p es.grows

  same_list : listed ≡ listed0
  same_list = ap (λ (s : Shape). listed_of s.weak on x) same

  -- an entry that the heap lists now
  pub listed_held : (e : WeakEntry) → IsSound h.shape.weak → slice_get listed i ≡ Some e
      → HasEntry h.shape e.map e.key e.value
  listed_held e sound at = of_part h.shape on x e sound (stood_at listed e i at)

  pub listed_step : (e : WeakEntry) (l : HeapState) (q : Piles) → slice_get listed i ≡ Some e
      → Grows (w.MayTurn h) h p l q → w.Holds l q → w.Follows l q e → EntriesSeen w listed0 (i + 1) h0 p0 l q
  listed_step e l q at grows holds this =
      let at0 : slice_get listed0 i ≡ Some e = ap (λ es. slice_get es i) (sym same_list) ∙ at in
      record {
        holds = holds;
        grows = grows_on w h0 p0 h p l q es.grows grows;
        done = λ j f lt fa. elim (below_cases j i lt) [
          | inl old ↦ w.keep h p l q f grows (es.done j f old fa)
          | inr is ↦ (let is_this : e ≡ f = cc (at0, fa, is) in
              subst (λ (z : WeakEntry). w.Follows l q z) is_this this)
        ];
      }

  pub listed_smaller : (P : Place → Type 0) (e : WeakEntry) (l : HeapState) (q : Piles) → slice_get listed i ≡ Some e
      → Grows P h p l q → length (listed_of l.shape.weak on x) - (i + 1) < length listed - i
  listed_smaller P e l q at grows =
      let within : i < length listed = slice_get_within listed i e at in
      let size : length (listed_of l.shape.weak on x) ≡ length listed =
      ap (λ (s : Shape). length (listed_of s.weak on x)) (same_shape P h p l q grows) in
      omega (arith, within, size)

  -- all were followed
  pub listed_end : (o : Option WeakEntry) → o ≡ slice_get listed i → o ≡ None → IsSound h.shape.weak
      → ShapeInvariant h0.shape → (m k v : Place) → HasEntry h0.shape m k v → IsPart h0.shape on x m k
      → w.Follows h p (entry m k v)
  listed_end o is none sound inv m k v e at =
      let all : length listed ≤ i = past_the_last listed i (sym is ∙ none) in
      let size : length listed ≡ length listed0 = ap (λ (es : List WeakEntry). length es) same_list in
      let has : Contains listed0 (entry m k v) =
      in_part h0.shape on x m k v (subst (λ (s : Shape). IsSound s.weak) same sound) inv e at in
      es.done has.0 (entry m k v) (omega (arith, all, size, has.1)) (stands_at listed0 (entry m k v) has.0 has.1 has.2)

-- the entries of which a cell is this part were followed
abbrev pub EntriesFollowed : Walk → Part → Place → HeapState → HeapState → Piles → Type 0
EntriesFollowed w on x k l r = (m n v : Place) → HasEntry k.shape m n v → IsPart k.shape on x m n
    → w.Follows l r (entry m n v)

-- a cell is followed: its edges, and its entries as a map, as a key and as a delegate, one after another
pub record FollowSteps (w : Walk) (h : HeapState) (p : Piles) (k : HeapState) (q : Piles) (l : HeapState) (r : Piles)
    (m : HeapState) (t : Piles) (n : HeapState) (u : Piles) : Type 0 where
  pub scan : Grows (w.MayTurn h) h p k q
  pub as_map : Grows (w.MayTurn k) k q l r
  pub as_key : Grows (w.MayTurn l) l r m t
  pub as_delegate : Grows (w.MayTurn m) m t n u

module _ (w : Walk) (x : Place) (h : HeapState) (p : Piles) (k : HeapState) (q : Piles) (l : HeapState) (r : Piles)
    (m : HeapState) (t : Piles) (n : HeapState) (u : Piles) (steps : FollowSteps w h p k q l r m t n u) where
  pub follow_grows : Grows (w.MayTurn h) h p n u
  follow_grows = grows_on w h p m t n u (grows_on w h p l r m t
      (grows_on w h p k q l r steps.scan steps.as_map) steps.as_key) steps.as_delegate

  last_two : Grows (w.MayTurn l) l r n u
  last_two = grows_on w l r m t n u steps.as_key steps.as_delegate

  last_three : Grows (w.MayTurn k) k q n u
  last_three = grows_on w k q l r n u steps.as_map last_two

  -- what was black after the scan stays so
  pub still_black : (y : Place) → IsBlack k y → IsBlack n y
  still_black y b = last_three.spreads.blackens.kept y b

  pub all_followed : EntriesFollowed w part.Map x k l r → EntriesFollowed w part.Key x l m t
      → EntriesFollowed w part.Delegate x m n u → (on : Part) → EntriesFollowed w on x n n u
  all_followed maps keys delegates part.Map o y v e at =
      w.keep l r n u (entry o y v) last_two (maps o y v
      (subst (λ (s : Shape). HasEntry s o y v) (same_shape (w.MayTurn k) k q n u last_three) e) at)
  all_followed maps keys delegates part.Key o y v e at =
      w.keep m t n u (entry o y v) steps.as_delegate (keys o y v
      (subst (λ (s : Shape). HasEntry s o y v) (same_shape (w.MayTurn l) l r n u last_two) e) at)
  all_followed maps keys delegates part.Delegate o y v e at =
      let is = same_shape (w.MayTurn m) m t n u steps.as_delegate in
      delegates o y v (subst (λ (s : Shape). HasEntry s o y v) is e)
      (subst (λ (s : Shape). IsPart s part.Delegate x o y) is at)

-- woken cells are being followed; for each of them and for each gray cell that turns black outside marking zones at
-- most eight edges are read
pub record Drains (w : Walk) (h0 : HeapState) (p0 : Piles) (read0 : ℕ) (h : HeapState) (p : Piles) (read : ℕ) : Type 0
  where
    pub holds : w.Holds h p
    pub spreads : Spreads (w.MayTurn h0) h0 p0 h p
    pub steps : read + 8 * (grays_outside h + length p.wake) ≤ read0 + 8 * (grays_outside h0 + length p0.wake)

pub drain_step : (w : Walk) (h0 : HeapState) (p0 : Piles) (read0 : ℕ) (h : HeapState) (p : Piles) (read : ℕ) (q : Piles)
    (x : Place) (k : HeapState) (r : Piles) (now : ℕ) → Drains w h0 p0 read0 h p read → IsPushed q pile.Wake x p
    → Grows (w.MayTurn h) h q k r → w.Holds k r → now ≤ read + 8 → Drains w h0 p0 read0 k r now
drain_step w h0 p0 read0 h p read q x k r now d e grows holds few =
    let wake_is : length p.wake ≡ length q.wake + 1 = more_length q.wake p.wake x e.more in
    record {
      holds = holds;
      spreads = spreads_on w h0 p0 h q k r (spreads_more (w.MayTurn h0) (w.MayTurn h0) (w.MayTurn h0) h0 p0 h p h q
          d.spreads (spreads_pop (w.MayTurn h0) h p q x e) (λ y z. z) (λ y z. z)) grows.spreads;
      steps = omega (arith, d.steps, grows.spreads.grays, wake_is);
    }

pub drain_smaller : (h : HeapState) (p q : Piles) (x : Place) (k : HeapState) (r : Piles) (P : Place → Type 0)
    → IsPushed q pile.Wake x p → Grows P h q k r
    → left k + (length r.black + length r.wake) < left h + (length p.black + length p.wake)
drain_smaller h p q x k r P e grows =
    let black_is : length p.black ≡ length q.black = ap (λ (ps : List Place). length ps)
    (e.others pile.Black black_wake) in
    let wake_is : length p.wake ≡ length q.wake + 1 = more_length q.wake p.wake x e.more in
    omega (arith, black_is, wake_is, grows.spreads.work)

-- the heap that is seen, and what waits, are as they were
pub drains_same : (w : Walk) (h0 : HeapState) (p0 : Piles) (read0 : ℕ) (h k : HeapState) (p q : Piles) (read : ℕ)
    → Drains w h0 p0 read0 h p read → k ≡ h → q ≡ p → Drains w h0 p0 read0 k q read
drains_same w h0 p0 read0 h k p q read d heap stack =
    subst (λ (z : HeapState). Drains w h0 p0 read0 z q read) (sym heap)
    (subst (λ (z : Piles). Drains w h0 p0 read0 h z read) (sym stack) d)
