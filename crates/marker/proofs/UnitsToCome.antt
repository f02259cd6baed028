-- Units of marking lower what is still to come at cells and at entries.
use Rattle.std.proofs.Common.{◌≡◌, ◌⊎◌, ◌+◌, ◌-◌, ◌*◌, ◌<◌, ◌≤◌, ◌∙◌, ℕ, Bool, true, false, inl, inr, refl, sym, ap}
use Rattle.std.proofs.Common.{subst, arith, List, Option, Some, length, ◌∷◌, [], Contains, cond, count_by, get_or, suc}
use Rattle.std.proofs.Common.{is_some, slice_get, sum_by, take, drop, if◌then◌else◌}
use Rattle.std.proofs.lemmas.Bool.{false≢true}
use Rattle.std.proofs.lemmas.List.Sums.{sum_by-cons, sum_by-drop_more, sum_by-le-sum_by, sum_by-take-drop}
use Rattle.gz_names.specs.declared.numbers.Place.{Place}
use Rattle.cell_bits.specs.declared.bits.Colour.{Colour}
use Rattle.cell_bits.specs.declared.bits.Colour.TheVariants as colour
use Rattle.zones.specs.declared.states.State.{State}
use Rattle.zones.specs.declared.states.State.TheVariants as state
use Rattle.arena_table.specs.Table.{is_place}
use Rattle.mark_stack.specs.Stack.{Piles}
use Rattle.heap_core.specs.Shape.{Shape, is_marking, is_marking_state, state_of}
use Rattle.heap_core.proofs.MakingCells.{same-place}
use Rattle.weak_maps.specs.Delegates.{DelegateRow}
use Rattle.weak_maps.specs.WeakMaps.{AreParallel, WeakTableState}
use Rattle.weak_maps.specs.declared.entries.WeakEntry.{WeakEntry}
use Rattle.weak_maps.specs.declared.colours.MarkColour.{MarkColour}
use Rattle.heap_core.specs.Heap.{HeapState, colour_of, weak_of}
use Rattle.barriers.specs.Colours.{IsBlack, IsGray, IsWhite}
use Rattle.barriers.specs.Scans.{AreScannedOnce, ScansNoMore, black_scans, black_turns, gray_scans, gray_turns}
use Rattle.barriers.proofs.Scans.{on_counted}
use Rattle.marker.specs.Looks.{StartsLooks, looks_now}
use Rattle.marker.specs.UnitsToCome.{is_black_only, map_starts, row_starts, scans, starts_of, units_at}
use Rattle.marker.proofs.Looking.{less_at, rows_paid, scans_paid, some_few, starts_few}

-- a number that counts only where a test passes
pub where_both : (a b : Bool) (m n : ℕ) → a ≡ b → m ≤ n → (if a then m else 0) ≤ (if b then n else 0)
where_both true true m n e less = less
where_both false false m n e less = omega arith
where_both true false m n e less = absurd (false≢true (sym e))
where_both false true m n e less = absurd (false≢true e)

pub where_off : (b : Bool) (m n : ℕ) → b ≡ false → (if b then m else 0) ≤ n
where_off true m n off = absurd (false≢true (sym off))
where_off false m n off = omega arith

pub where_on : (a b : Bool) (m n : ℕ) → a ≡ b → b ≡ true → m < n → (if a then m else 0) < (if b then n else 0)
where_on true true m n e on less = less
where_on false false m n e on less = absurd (false≢true on)
where_on true false m n e on less = absurd (false≢true on)
where_on false true m n e on less = absurd (false≢true e)

-- a step that changes no zone's state
module _ (h : HeapState) (p : Piles) (k : HeapState) (q : Piles) (same : k.shape ≡ h.shape) (none : ScansNoMore h p k q)
  where
    marking_same : (x : Place) → is_marking k.shape x ≡ is_marking h.shape x
    marking_same x = ap (λ (s : Shape). is_marking s x) same

    pub scans_no_more : (x : Place) → scans k q x ≤ scans h p x
    scans_no_more x =
        where_both (is_marking k.shape x) (is_marking h.shape x) (black_scans k q x + gray_scans k q x)
        (black_scans h p x + gray_scans h p x) (marking_same x) (omega (arith, none.black x, none.gray x))

    pub scans_fewer : (x : Place) → is_marking h.shape x ≡ true
        → black_scans k q x + gray_scans k q x < black_scans h p x + gray_scans h p x → scans k q x < scans h p x
    scans_fewer x on fewer =
        where_on (is_marking k.shape x) (is_marking h.shape x) (black_scans k q x + gray_scans k q x)
        (black_scans h p x + gray_scans h p x) (marking_same x) on fewer

    pub black_fewer : (x : Place) → is_marking h.shape x ≡ true → black_scans k q x < black_scans h p x
        → scans k q x < scans h p x
    black_fewer x on fewer = scans_fewer x on (omega (arith, fewer, none.gray x))

    pub gray_fewer : (x : Place) → is_marking h.shape x ≡ true → gray_scans k q x < gray_scans h p x
        → scans k q x < scans h p x
    gray_fewer x on fewer = scans_fewer x on (omega (arith, fewer, none.black x))

-- a sum of terms that are no greater, and of which one is less
pub sum_fewer : {X : Type 0} (f g : X → ℕ) (xs : List X) (i : ℕ) (d : X) → i < length xs → ((x : X) → f x ≤ g x)
    → f (get_or xs i d) < g (get_or xs i d) → sum_by f xs < sum_by g xs
sum_fewer f g xs i d within less fewer =
    let a = sum_by-take-drop f xs i in
    let b = sum_by-drop_more f xs i d within in
    let c = sum_by-take-drop g xs i in
    let e = sum_by-drop_more g xs i d within in
    let before = sum_by-le-sum_by f g (take i xs) less in
    let after = sum_by-le-sum_by f g (drop (i + 1) xs) less in
    omega (arith, a, b, c, e, before, after, fewer)

-- what is on no pile is counted on none
none_counted : (ps : List Place) (x : Place) → (Contains ps x → ⊥) → count_by (is_place x) ps ≡ 0
none_counted [] x not = refl
none_counted (y ∷ ys) x not = elim (same-place x y) [
  | inl (is, tells) ↦ absurd (not (0, omega arith, sym is))
  | inr (other, tells) ↦ (let rest = none_counted ys x (λ c. not (suc c.0, omega (arith, c.1), c.2)) in
      let all = sum_by-cons (λ (z : Place). cond (is_place x z) 1 0) y ys in
      let zero = ap {B = ℕ} (λ (t : Bool). cond t 1 0) tells in
      omega (arith, rest, all, zero))
]

-- a cell that is black now was so, or was white and might be scanned in gray once more: so its map's entries are
-- started
-- no more often
module _ (h : HeapState) (p : Piles) (k : HeapState) (q : Piles) (same : k.shape ≡ h.shape) (none : ScansNoMore h p k q)
    (no_gray : (x : Place) → state_of h.shape x ≡ state.MarkBlackOnly → IsGray h x → ⊥) (once : AreScannedOnce h p)
    (piled : (x : Place) → Contains q.gray x → Contains p.gray x ⊎ (state_of h.shape x ≡ state.MarkBlackAndGray)) where
  abbrev extra : HeapState → Place → ℕ
  extra z x = 1 - black_turns (colour_of z x)

  -- outside zones that are marked black only
  off : (x : Place) (b : Bool) → scans k q x ≤ scans h p x → b ≡ false
      → scans k q x + (if b then extra k x else 0) ≤ scans h p x + (if b then extra h x else 0)
  off x false less e = omega (arith, less)
  off x true less e = absurd (false≢true (sym e))

  fresh : (x : Place) → state_of h.shape x ≡ state.MarkBlackOnly → IsWhite h x → IsBlack k x
      → gray_scans k q x + 1 ≤ gray_scans h p x
  fresh x only white black =
      let turns : gray_turns (colour_of h x) ≡ 1 = ap gray_turns white in
      let done : gray_turns (colour_of k x) ≡ 0 = ap gray_turns black in
      let few = once.gray x in
      let not : Contains p.gray x → ⊥ = λ c. (let some = on_counted p.gray x c in absurd (omega (
        arith,
        few,
        turns,
        some,
      ))) in
      let nothing = none_counted q.gray x (λ c. elim (piled x c) [ inl was ↦ not was | inr takes ↦ cc (only, takes) ])
      in
      omega (arith, turns, done, nothing)

  on : (x : Place) → state_of h.shape x ≡ state.MarkBlackOnly → (c d : Colour) → colour_of h x ≡ c → colour_of k x ≡ d
      → scans k q x + (1 - black_turns d) ≤ scans h p x + (1 - black_turns c)
  on x only colour.Gray d was is = absurd (no_gray x only was)
  on x only colour.Black d was is = omega (arith, scans_no_more h p k q same none x)
  on x only colour.White colour.White was is = omega (arith, scans_no_more h p k q same none x)
  on x only colour.White colour.Gray was is = omega (arith, scans_no_more h p k q same none x)
  on x only colour.White colour.Black was is =
      let marks : is_marking h.shape x ≡ true = ap is_marking_state only in
      let now : is_marking k.shape x ≡ true = ap (λ (s : Shape). is_marking s x) same ∙ marks in
      let before : scans h p x ≡ black_scans h p x + gray_scans h p x =
      ap (λ (b : Bool). if b then black_scans h p x + gray_scans h p x else 0) marks in
      let after : scans k q x ≡ black_scans k q x + gray_scans k q x =
      ap (λ (b : Bool). if b then black_scans k q x + gray_scans k q x else 0) now in
      omega (arith, before, after, none.black x, fresh x only was is)

  pub maps_no_more : (x : Place) → map_starts k q x ≤ map_starts h p x
  maps_no_more x =
      subst (λ (b : Bool). scans k q x + (if b then extra k x else 0) ≤ map_starts h p x)
      (ap (λ (s : Shape). is_black_only (state_of s x)) (sym same)) (go (state_of h.shape x) refl)
    where
      go : (t : State) → state_of h.shape x ≡ t
          → scans k q x + (if is_black_only (state_of h.shape x) then extra k x else 0) ≤ map_starts h p x
      go state.MarkBlackOnly e =
          subst (λ (b : Bool). scans k q x + (if b then extra k x else 0) ≤ scans h p x + (if b then extra h x else 0))
          (sym (ap is_black_only e)) (on x e (colour_of h x) (colour_of k x) refl refl)
      go state.NoGC e = off x (is_black_only (state_of h.shape x)) (scans_no_more h p k q same none x) (ap
          is_black_only e)
      go state.Prepare e =
          off x (is_black_only (state_of h.shape x)) (scans_no_more h p k q same none x) (ap is_black_only e)
      go state.MarkBlackAndGray e =
          off x (is_black_only (state_of h.shape x)) (scans_no_more h p k q same none x) (ap is_black_only e)
      go state.Sweep e =
          off x (is_black_only (state_of h.shape x)) (scans_no_more h p k q same none x) (ap is_black_only e)
      go state.Finished e =
          off x (is_black_only (state_of h.shape x)) (scans_no_more h p k q same none x) (ap is_black_only e)

-- a cell that is scanned less often, and is black only if it was
pub maps_fewer : (h : HeapState) (p : Piles) (k : HeapState) (q : Piles) → k.shape ≡ h.shape → (x : Place)
    → scans k q x < scans h p x → (IsBlack k x → IsBlack h x) → map_starts k q x < map_starts h p x
maps_fewer h p k q same x fewer still =
    subst (λ (b : Bool). scans k q x + (if b then 1 - black_turns (colour_of k x) else 0) < map_starts h p x)
    (ap (λ (s : Shape). is_black_only (state_of s x)) (sym same)) (by (is_black_only (state_of h.shape x)))
  where
    less : (c d : Colour) → colour_of h x ≡ c → colour_of k x ≡ d → 1 - black_turns d ≤ 1 - black_turns c
    less c colour.White was is = omega arith
    less c colour.Gray was is = omega arith
    less colour.Black colour.Black was is = omega arith
    less colour.White colour.Black was is = absurd (let b = still is in cc (was, b))
    less colour.Gray colour.Black was is = absurd (let b = still is in cc (was, b))

    by : (b : Bool) → scans k q x + (if b then 1 - black_turns (colour_of k x) else 0)
        < scans h p x + (if b then 1 - black_turns (colour_of h x) else 0)
    by true = omega (arith, fewer, less (colour_of h x) (colour_of k x) refl refl)
    by false = omega (arith, fewer)

-- what is to come at cells and entries, before and after a step
module _ (h : HeapState) (p : Piles) (k : HeapState) (q : Piles) (cells : List Place)
    (weak : k.shape.weak ≡ h.shape.weak) (none : (x : Place) → scans k q x ≤ scans h p x)
    (maps : (x : Place) → map_starts k q x ≤ map_starts h p x) where
  cells_less : sum_by (scans k q) cells ≤ sum_by (scans h p) cells
  cells_less = sum_by-le-sum_by (scans k q) (scans h p) cells none

  entries_same : sum_by (starts_of k q) k.shape.weak.entries ≡ sum_by (starts_of k q) h.shape.weak.entries
  entries_same = ap (λ (w : WeakTableState). sum_by (starts_of k q) w.entries) weak

  rows_same : sum_by (row_starts k q) k.shape.weak.delegates.rows ≡ sum_by (row_starts k q) h.shape.weak.delegates.rows
  rows_same = ap (λ (w : WeakTableState). sum_by (row_starts k q) w.delegates.rows) weak

  starts_less : sum_by (starts_of k q) h.shape.weak.entries ≤ sum_by (starts_of h p) h.shape.weak.entries
  starts_less = sum_by-le-sum_by (starts_of k q) (starts_of h p) h.shape.weak.entries
      (λ e. omega (arith, maps e.map, none e.key))

  rows_less : sum_by (row_starts k q) h.shape.weak.delegates.rows
      ≤ sum_by (row_starts h p) h.shape.weak.delegates.rows
  rows_less = sum_by-le-sum_by (row_starts k q) (row_starts h p) h.shape.weak.delegates.rows (λ r. none r.target)

  -- the scan of a cell whose entries were started lowers it
  pub scan_lowers : (c : MarkColour) (x : Place) → Contains cells x → scans k q x < scans h p x
      → map_starts k q x < map_starts h p x → StartsLooks c x h k → units_at k q cells < units_at h p cells
  unfolding units_at
  scan_lowers c x (i, within, at) fewer fewer_maps starts =
      let fewer_cells = sum_fewer (scans k q) (scans h p) cells i x within none
      (subst (λ y. scans k q y < scans h p y) (sym at) fewer) in
      let few = starts_few c x h k starts weak in
      let paid = scans_paid (map_starts k q) (map_starts h p) (scans k q) (scans h p) x
      (less_at (map_starts k q) (map_starts h p) x maps fewer_maps) (less_at (scans k q) (scans h p) x none fewer)
      h.shape.weak.entries in
      let rows = rows_paid (scans k q) (scans h p) x (less_at (scans k q) (scans h p) x none fewer)
      h.shape.weak.delegates.rows in
      omega (arith, fewer_cells, few, paid, rows, entries_same, rows_same)

  -- a look lowers it, whatever it finds
  pub look_lowers : looks_now k.looks < looks_now h.looks → units_at k q cells < units_at h p cells
  unfolding units_at
  look_lowers fewer = omega (arith, cells_less, entries_same, rows_same, starts_less, rows_less, fewer)

  -- what lets no cell be scanned and no entry be looked at more often does not raise it
  pub others_keep : looks_now k.looks ≤ looks_now h.looks → units_at k q cells ≤ units_at h p cells
  unfolding units_at
  others_keep less = omega (arith, cells_less, entries_same, rows_same, starts_less, rows_less, less)

-- looks that came at some entries are paid for by a start less of each of these
looks_paid : (f g : WeakEntry → ℕ) (es : List WeakEntry) (old new : List (Option MarkColour)) → length old ≡ length es
    → length new ≡ length es → ((n : ℕ) (e : WeakEntry) → slice_get es n ≡ Some e
    → ((slice_get new n ≡ slice_get old n) × (f e ≤ g e)) ⊎ (f e < g e))
    → count_by is_some new + sum_by f es ≤ count_by is_some old + sum_by g es
looks_paid f g [] [] [] a b each = omega arith
looks_paid f g [] (o ∷ old) new a b each = absurd (omega (arith, a))
looks_paid f g [] [] (n ∷ new) a b each = absurd (omega (arith, b))
looks_paid f g (e ∷ es) [] new a b each = absurd (omega (arith, a))
looks_paid f g (e ∷ es) (o ∷ old) [] a b each = absurd (omega (arith, b))
looks_paid f g (e ∷ es) (o ∷ old) (n ∷ new) a b each =
    let rest = looks_paid f g es old new (omega (arith, a)) (omega (arith, b)) (λ m d at. each (suc m) d at) in
    let was = sum_by-cons (λ (y : Option MarkColour). cond (is_some y) 1 0) o old in
    let now = sum_by-cons (λ (y : Option MarkColour). cond (is_some y) 1 0) n new in
    let before = sum_by-cons g e es in
    let after = sum_by-cons f e es in
    elim (each 0 e refl) [
      | inl (same, less) ↦ (let is : n ≡ o = cc same in
          let alike = ap {B = ℕ} (λ (y : Option MarkColour). cond (is_some y) 1 0) is in
          omega (arith, rest, was, now, before, after, alike, less))
      | inr fewer ↦ omega (arith, rest, was, now, before, after, fewer, some_few n)
    ]

-- zones begin to take gray: the entries of some maps are to be looked at for them, each of which counted one start more
pub begins_keep : (h : HeapState) (p : Piles) (k : HeapState) (cells : List Place) → k.shape.weak ≡ h.shape.weak
    → ((x : Place) → scans k p x ≡ scans h p x) → ((x : Place) → map_starts k p x ≤ map_starts h p x)
    → AreParallel (weak_of h) → AreParallel (weak_of k) → k.looks.by_key ≡ h.looks.by_key
    → k.looks.by_delegate ≡ h.looks.by_delegate
    → ((n : ℕ) (e : WeakEntry) → slice_get h.shape.weak.entries n ≡ Some e
    → (slice_get k.looks.by_map n ≡ slice_get h.looks.by_map n) ⊎ (map_starts k p e.map < map_starts h p e.map))
    → units_at k p cells ≤ units_at h p cells
unfolding units_at
begins_keep h p k cells weak same maps old new by_key by_delegate started =
    let sizes = ap (λ (w : WeakTableState). length w.entries) weak in
    let of_cells = sum_by-le-sum_by (scans k p) (scans h p) cells (λ x. omega (arith, same x)) in
    let of_entries = looks_paid (starts_of k p) (starts_of h p) h.shape.weak.entries h.looks.by_map k.looks.by_map old.0
    (omega (arith, new.0, sizes)) (λ n e at. elim (started n e at) [
      | inl is ↦ inl (is, omega (arith, maps e.map, same e.key))
      | inr fewer ↦ inr (omega (arith, fewer, same e.key))
    ]) in
    let of_rows = sum_by-le-sum_by (row_starts k p) (row_starts h p) h.shape.weak.delegates.rows
    (λ r. omega (arith, same r.target)) in
    let entries = ap (λ (w : WeakTableState). sum_by (starts_of k p) w.entries) weak in
    let rows = ap (λ (w : WeakTableState). sum_by (row_starts k p) w.delegates.rows) weak in
    let keys = ap (λ (ls : List (Option MarkColour)). count_by is_some ls) by_key in
    let delegates = ap (λ (ls : List (Option MarkColour)). count_by is_some ls) by_delegate in
    omega (arith, of_cells, of_entries, of_rows, entries, rows, keys, delegates)

-- a sum of numbers that are at most some number, and count only where a test passes
pub sum_where_few : {X : Type 0} (most : ℕ) (f : X → ℕ) (test : X → Bool) (xs : List X)
    → ((x : X) → Contains xs x → f x ≤ (if test x then most else 0)) → sum_by f xs ≤ count_by test xs * most
sum_where_few most f test [] few = omega arith
sum_where_few most f test (x ∷ xs) few =
    subst (λ n. n ≤ count_by test (x ∷ xs) * most) (sym (sum_by-cons f x xs))
    (subst (λ c. f x + sum_by f xs ≤ c * most) (sym (sum_by-cons (λ y. cond (test y) 1 0) x xs))
    (go (sum_where_few most f test xs (λ y c. few y (suc c.0, omega (arith, c.1), c.2))) (test x)
    (few x (0, omega arith, refl))))
  where
    go : sum_by f xs ≤ count_by test xs * most → (b : Bool) → f x ≤ (if b then most else 0)
        → f x + sum_by f xs ≤ (cond b 1 0 + count_by test xs) * most
    go rest true here = omega (arith, rest, here)
    go rest false here = omega (arith, rest, here)

-- where each cell may be scanned once at most in either colour and none is on the gray pile, a black cell is scanned in
-- gray no more
module _ (h : HeapState) (p : Piles) (once : AreScannedOnce h p) (idle : p.gray ≡ []) where
  few_scans : (x : Place) → scans h p x ≤ (if is_marking h.shape x then 2 else 0)
  few_scans x = where_both (is_marking h.shape x) (is_marking h.shape x) (black_scans h p x + gray_scans h p x) 2 refl
      (omega (arith, once.black x, once.gray x))

  two_at : (x : Place) (c : Colour) → colour_of h x ≡ c
      → black_scans h p x + gray_scans h p x + (1 - black_turns (colour_of h x)) ≤ 2
  two_at x colour.White e =
      let turns : black_turns (colour_of h x) ≡ 1 = ap black_turns e in omega (arith, once.black x, once.gray x, turns)
  two_at x colour.Gray e =
      let turns : black_turns (colour_of h x) ≡ 1 = ap black_turns e in omega (arith, once.black x, once.gray x, turns)
  two_at x colour.Black e =
      let turns : gray_turns (colour_of h x) ≡ 0 = ap gray_turns e in
      let nothing : count_by (is_place x) p.gray ≡ 0 = ap (λ (ps : List Place). count_by (is_place x) ps) idle in
      omega (arith, once.black x, turns, nothing)

  map_bound : (x : Place) (t : State) → (if is_marking_state t then black_scans h p x + gray_scans h p x else 0)
      + (if is_black_only t then 1 - black_turns (colour_of h x) else 0) ≤ (if is_marking_state t then 2 else 0)
  map_bound x state.NoGC = omega arith
  map_bound x state.Prepare = omega arith
  map_bound x state.MarkBlackOnly = omega (arith, two_at x (colour_of h x) refl)
  map_bound x state.MarkBlackAndGray = omega (arith, once.black x, once.gray x)
  map_bound x state.Sweep = omega arith
  map_bound x state.Finished = omega arith

  few_maps : (x : Place) → map_starts h p x ≤ (if is_marking h.shape x then 2 else 0)
  few_maps x = map_bound x (state_of h.shape x)

both_few : (on : Bool) (m n : ℕ) → m ≤ (if on then 2 else 0) → n ≤ (if on then 2 else 0) → m + n ≤ (if on then 4 else 0)
both_few true m n first second = omega (arith, first, second)
both_few false m n first second = omega (arith, first, second)

-- so where no look is to come, there are two units for each cell of a marking zone, four for each entry there, and two
-- for each whose delegate lies there
pub at_most : (h : HeapState) (p : Piles) (cells : List Place) → AreScannedOnce h p → p.gray ≡ []
    → ((e : WeakEntry) → Contains h.shape.weak.entries e
    → is_marking h.shape e.key ≡ is_marking h.shape e.map)
    → looks_now h.looks ≡ 0
    → units_at h p cells ≤ count_by (is_marking h.shape) cells * 2
    + (count_by (λ (e : WeakEntry). is_marking h.shape e.map) h.shape.weak.entries * 4
    + count_by (λ (r : DelegateRow). is_marking h.shape r.target) h.shape.weak.delegates.rows * 2)
unfolding units_at
at_most h p cells once idle one_zone none =
    let of_cells = sum_where_few 2 (scans h p) (is_marking h.shape) cells (λ x c. few_scans h p once idle x) in
    let of_entries = sum_where_few 4 (starts_of h p) (λ (e : WeakEntry). is_marking h.shape e.map) h.shape.weak.entries
    (λ e c. both_few (is_marking h.shape e.map) (map_starts h p e.map) (scans h p e.key) (few_maps h p once idle e.map)
    (subst (λ b. scans h p e.key ≤ (if b then 2 else 0)) (one_zone e c) (few_scans h p once idle e.key))) in
    let of_rows = sum_where_few 2 (row_starts h p) (λ (r : DelegateRow). is_marking h.shape r.target)
    h.shape.weak.delegates.rows (λ r c. few_scans h p once idle r.target) in
    omega (arith, of_cells, of_entries, of_rows, none)
