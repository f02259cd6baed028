-- How many units are left of a collection at most.
use Rattle.std.proofs.Common.{◌≡◌, ◌<◌, ◌≤◌, ◌+◌, ◌-◌, ◌*◌, ◌^◌, ◌||◌, ℕ, zero, suc, Bool, true, false, is_some}
use Rattle.std.proofs.Common.{if◌then◌else◌, List, [], ◌∷◌, Option, Some, None, filter, length, sum_by, refl, ap}
use Rattle.std.proofs.Common.{arith}
use Rattle.std.specs.Int.{bit_at}
use Rattle.std.proofs.lemmas.List.{length-append}
use Rattle.std.proofs.lemmas.List.Sums.{count_by-le-length, sum_by-cons}
use Rattle.std.proofs.lemmas.Nat.Bits.{bit_at-lt}
use Rattle.gz_names.specs.declared.numbers.Place.{Place}
use Rattle.cell_bits.specs.declared.bits.Bits.{Bits}
use Rattle.zones.specs.declared.states.State.{State}
use Rattle.zones.specs.declared.states.State.TheVariants as state
use Rattle.roots.specs.Buffers.{buffer_at}
use Rattle.wrappers.specs.WrapperMaps.{AreApart, list_of}
use Rattle.weak_maps.specs.Delegates.{DelegateRow}
use Rattle.weak_maps.specs.WeakMaps.{AreParallel, IsSound as AreEntries, WeakTableState, entry_of_row}
use Rattle.mark_stack.specs.Stack.{Piles}
use Rattle.gray_lists.specs.Incoming.{Incoming, waiting_count}
use Rattle.heap_core.specs.Shape.{ArenaShape, Shape, cell_of, is_marking, is_marking_state, state_in, state_of}
use Rattle.heap_core.specs.Heap.{HeapState, colour_of, weak_of}
use Rattle.barriers.specs.Scans.{AreScannedOnce, black_scans, black_turns, gray_scans}
use Rattle.marker.specs.Looks.{looks_now}
use Rattle.marker.specs.UnitsToCome.{is_black_only, row_starts, scans, starts_of, units_at}
use Rattle.zone_edges.specs.Looks.{cursor_of, left_below}
use Rattle.zone_edges.specs.Noted.{Noted}
use Rattle.weak_maps.specs.declared.entries.WeakEntry.{WeakEntry}
use Rattle.slice_driver.proofs.abstraction.Phases.{nothing_to_clear, placed_in, sound_of}
use Rattle.slice_driver.specs.Collector.{CollectorState, RunState, heap_with}
use Rattle.slice_driver.specs.GrayRoots.{HasFewWrappers}
use Rattle.slice_driver.specs.Left.{units_left}
use Rattle.slice_driver.specs.Remaining.{arenas_left, grouping_left, steps_left, steps_of, ungrouped_below}
use Rattle.slice_driver.specs.Units.{IsSound, IsSoundMarking}
use Rattle.slice_driver.specs.UnitsToCome.{marking_to_come, may_be_noted, notes, places_below, present_places}
use Rattle.slice_driver.specs.UnitsToCome.{slots_of, units_to_come}
use Rattle.slice_driver.proofs.group_end.FewWrappers.{few_wrappers}
use Rattle.slice_driver.proofs.measure.CountedCells.{sum_injected}
use Rattle.slice_driver.proofs.measure.CountedEntries.{row_found}
use Rattle.slice_driver.proofs.measure.CountedWrappers.{apart_pairs, each_one}

-- a bit takes a number or nothing
bit_times : (b n : ℕ) → b < 2 → b * n ≤ n
bit_times zero n lt = omega arith
bit_times (suc zero) n lt = omega arith
bit_times (suc (suc b)) n lt = absurd (omega (arith, lt))

few_looks : (s : Shape) (n : Noted) (most : ℕ) → ((z : ℕ) → length (list_of s.wrappers z) ≤ most) → (k : ℕ)
    → left_below s n k ≤ k * most
unfolding left_below
few_looks s n most each zero = omega arith
few_looks s n most each (suc z) =
    let rest = few_looks s n most each z in
    let here = bit_times (bit_at n.zones.bits z) (length (list_of s.wrappers z) - cursor_of n z)
    (bit_at-lt n.zones.bits z) in
    let few = each z in
    omega (arith, rest, here, few)

pub few_ungrouped : (n : Noted) (k : ℕ) → ungrouped_below n k ≤ k
unfolding ungrouped_below
few_ungrouped n zero = omega arith
few_ungrouped n (suc z) =
    let rest = few_ungrouped n z in
    let here = bit_times (bit_at n.zones.bits z) (1 - bit_at n.stepped.bits z) (bit_at-lt n.zones.bits z) in
    omega (arith, rest, here)

few_groupings : (s : Shape) (n : Noted) (run : Option RunState) (most : ℕ) →
    ((z : ℕ) → length (list_of s.wrappers z) ≤ most) → grouping_left s n run ≤ 64 * most + 64
few_groupings s n None most each = omega arith
few_groupings s n (Some run) most each = go (run.formed || is_some run.clearing)
  where
    go : (b : Bool) → (if b then 0 else left_below s n 64 + ungrouped_below n 64) ≤ 64 * most + 64
    go true = omega arith
    go false = let looks = few_looks s n most each 64 in let zones = few_ungrouped n 64 in omega (arith, looks, zones)

two_steps : (s : State) → steps_of s ≤ 2
two_steps state.NoGC = omega arith
two_steps state.Prepare = omega arith
two_steps state.MarkBlackOnly = omega arith
two_steps state.MarkBlackAndGray = omega arith
two_steps state.Sweep = omega arith
two_steps state.Finished = omega arith

pub few_steps : (states : List State) → steps_left states ≤ 2 * length states
few_steps [] = omega arith
few_steps (s ∷ states) = let here = two_steps s in let rest = few_steps states in omega (arith, here, rest)

pub few_arenas : (s : Shape) (arenas : List ArenaShape) → arenas_left s arenas ≤ length arenas
few_arenas s [] = omega arith
few_arenas s (arena ∷ arenas) = go (is_some arena.out || is_marking_state (state_in s arena.zone)) (few_arenas s arenas)
  where
    go : (b : Bool) → arenas_left s arenas ≤ length arenas → (if b then 1 else 0) + arenas_left s arenas ≤ suc
        (length arenas)
    go true rest = omega (arith, rest)
    go false rest = omega (arith, rest)

-- fewer wrappers of each zone than slots of fewer than 2^32 arenas
pub few_in_zone : (c : CollectorState) (flown : ℕ → Option Bits) → IsSound c flown
    → length c.heap.shape.arenas < 2 ^ 32 → AreApart c.heap.shape.wrappers.lists → HasFewWrappers c.heap.shape
few_in_zone c flown sound arenas apart z =
    let lies = (placed_in c flown sound.world sound.represents).lies in
    let few = few_wrappers c.heap lies.graph lies.whole lies.shown apart z in
    omega (arith, few, arenas)

-- nothing is buffered for any zone
pub none_buffered : (buffers : List (List Place)) → ((z : ℕ) → buffer_at buffers z ≡ []) → sum_by length buffers ≡ 0
none_buffered [] none = refl
none_buffered (b ∷ bs) none =
    let first = ap (λ (xs : List Place). length xs) (none 0) in
    let rest = none_buffered bs (λ z. none (suc z)) in
    let both = sum_by-cons length b bs in
    omega (arith, first, rest, both)

-- each cell may be scanned twice at most, and noted once
two_scans : (h : HeapState) (p : Piles) → AreScannedOnce h p → (x : Place) → scans h p x ≤ 2
two_scans h p once x = go (is_marking h.shape x)
  where
    go : (b : Bool) → (if b then black_scans h p x + gray_scans h p x else 0) ≤ 2
    go true = omega (arith, once.black x, once.gray x)
    go false = omega arith

one_note : (h : HeapState) (p : Piles) → AreScannedOnce h p → (x : Place) → notes h p x ≤ 1
one_note h p once x = go (may_be_noted h.shape x)
  where
    go : (b : Bool) → (if b then gray_scans h p x else 0) ≤ 1
    go true = once.gray x
    go false = omega arith

few_ones : {X : Type 0} (f : X → ℕ) → ((x : X) → f x ≤ 1) → (xs : List X) → sum_by f xs ≤ length xs
few_ones f few [] = omega arith
few_ones f few (x ∷ xs) =
    let rest = few_ones f few xs in
    let both = sum_by-cons f x xs in
    let here = few x in
    omega (arith, rest, both, here)

few_twos : {X : Type 0} (f : X → ℕ) → ((x : X) → f x ≤ 2) → (xs : List X) → sum_by f xs ≤ 2 * length xs
few_twos f few [] = omega arith
few_twos f few (x ∷ xs) =
    let rest = few_twos f few xs in
    let both = sum_by-cons f x xs in
    let here = few x in
    omega (arith, rest, both, here)

few_fives : {X : Type 0} (f : X → ℕ) → ((x : X) → f x ≤ 5) → (xs : List X) → sum_by f xs ≤ 5 * length xs
few_fives f few [] = omega arith
few_fives f few (x ∷ xs) =
    let rest = few_fives f few xs in
    let both = sum_by-cons f x xs in
    let here = few x in
    omega (arith, rest, both, here)

-- each entry may be started twice for each of its two places, once more for its map, and looked at once for each
five_starts : (h : HeapState) (p : Piles) → AreScannedOnce h p → (e : WeakEntry) → starts_of h p e ≤ 5
five_starts h p once e = omega (arith, two_scans h p once e.map, two_scans h p once e.key, once_more)
  where
    at : (b : Bool) (n : ℕ) → n ≤ 1 → (if b then n else 0) ≤ 1
    at true n low = low
    at false n low = omega arith

    once_more : (if is_black_only (state_of h.shape e.map) then 1 - black_turns (colour_of h e.map) else 0) ≤ 1
    once_more = at (is_black_only (state_of h.shape e.map)) (1 - black_turns (colour_of h e.map)) (omega arith)

-- no more rows than entries
pub few_rows : (weak : WeakTableState) → AreEntries weak → length weak.delegates.rows ≤ length weak.entries
few_rows weak sound =
    let matched = sum_injected (λ (e : WeakEntry). 1) (λ (r : DelegateRow). 1) (entry_of_row weak) weak.entries
    weak.delegates.rows
    (apart_pairs (entry_of_row weak) weak.delegates.rows (λ i j d lt within same.
    sound.delegates.distinct i j d lt within (ap (λ (e : WeakEntry). e.map) same) (ap (λ (e : WeakEntry). e.key) same)))
    (λ r c. (sound.found r.map r.key (entry_of_row weak r).value).1 (row_found weak sound r c)) (λ r c. omega arith) in
    let rows = each_one weak.delegates.rows in
    let entries = each_one weak.entries in
    omega (arith, matched, rows, entries)

few_looks_now : (h : HeapState) → AreParallel (weak_of h)
    → looks_now h.looks ≤ 2 * length h.shape.weak.entries + length h.shape.weak.delegates.rows
few_looks_now h parallel =
    let maps = count_by-le-length is_some h.looks.by_map in
    let keys = count_by-le-length is_some h.looks.by_key in
    let rows = count_by-le-length is_some h.looks.by_delegate in
    omega (arith, maps, keys, rows, parallel.0, parallel.1, parallel.2)

-- no more cells are present than there are slots
slots_length : (arena n : ℕ) → length (slots_of arena n) ≡ n
unfolding slots_of
slots_length arena zero = refl
slots_length arena (suc n) = let rest = slots_length arena n in omega (arith, rest)

places_length : (n : ℕ) → length (places_below n) ≡ 64 * n
unfolding places_below
places_length zero = refl
places_length (suc n) =
    let both = length-append (slots_of n 64) (places_below n) in
    let first = slots_length n 64 in
    let rest = places_length n in
    omega (arith, both, first, rest)

filter_length : {X : Type 0} (test : X → Bool) (xs : List X) → length (filter test xs) ≤ length xs
filter_length test [] = omega arith
filter_length test (x ∷ xs) = go (test x) (filter_length test xs)
  where
    go : (b : Bool) → length (filter test xs) ≤ length xs
        → length (if b then x ∷ filter test xs else filter test xs) ≤ suc (length xs)
    go true rest = omega (arith, rest)
    go false rest = omega (arith, rest)

pub few_present : (s : Shape) → length (present_places s) ≤ 64 * length s.arenas
few_present s =
    let some = filter_length (λ p. is_some (cell_of s p)) (places_below (length s.arenas)) in
    let all = places_length (length s.arenas) in
    omega (arith, some, all)

-- what is to come of marking
pub few_marks : (h : HeapState) (p : Piles) (lists : Incoming) → AreScannedOnce h p → AreParallel (weak_of h)
    → AreEntries h.shape.weak
    → marking_to_come h p lists
    ≤ 192 * length h.shape.arenas + (10 * length h.shape.weak.entries + (waiting_count lists + sum_by length h.buffers))
unfolding units_at
few_marks h p lists once parallel sound =
    let cells = few_twos (scans h p) (two_scans h p once) (present_places h.shape) in
    let noted = few_ones (notes h p) (one_note h p once) (present_places h.shape) in
    let starts = few_fives (starts_of h p) (five_starts h p once) h.shape.weak.entries in
    let row_sums = few_twos (row_starts h p) (λ r. two_scans h p once r.target) h.shape.weak.delegates.rows in
    let rows = few_rows h.shape.weak sound in
    let looks = few_looks_now h parallel in
    let present = few_present h.shape in
    omega (arith, cells, noted, starts, row_sums, rows, looks, present)

-- the number of units that are left is one of 64 bits, once marking has begun
pub few_marking : (c : CollectorState) → length c.heap.shape.arenas < 2 ^ 32 → sum_by length c.heap.buffers < 2 ^ 63
    → length c.heap.shape.states ≤ 64 → length c.heap.shape.weak.entries < 2 ^ 32 → AreParallel (weak_of c.heap)
    → AreEntries c.heap.shape.weak → AreApart c.heap.shape.wrappers.lists → (flown : ℕ → Option Bits)
    → IsSoundMarking c flown → units_left c flown < 2 ^ 64
unfolding units_to_come
few_marking c arenas buffered zones entries parallel weak apart flown sound =
    let r = sound.represents in
    let cleared = nothing_to_clear c flown sound.world r in
    let sized = r.coloured.marks.holds.colours.sized in
    let gray = r.coloured.gray.few in
    let most = few_in_zone c flown (sound_of c flown sound) arenas apart in
    let marks = few_marks (heap_with c flown) c.stack c.lists r.coloured.marks.once parallel weak in
    let grouping = few_groupings c.heap.shape c.edges c.run 274877906944 most in
    let steps = few_steps c.heap.shape.states in
    let handed = few_arenas c.heap.shape c.heap.shape.arenas in
    omega (arith, sized, gray, marks, grouping, steps, handed, arenas, buffered, zones, entries, cleared.0, cleared.1)
