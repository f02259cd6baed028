-- What changes the states of zones, or the cells that are present, and marks nothing: what is to come of marking is no
-- more than before.
use Rattle.std.proofs.Common.{◌≡◌, ◌+◌, ◌-◌, ◌≤◌, ◌&&◌, ℕ, Bool, true, false, refl, sym, ap, ◌∙◌, arith}
use Rattle.std.proofs.Common.{List}
use Rattle.std.proofs.Common.{Option, None, Some, count_by, length, sum_by, is_some, if◌then◌else◌}
use Rattle.std.specs.Option.{option_map}
use Rattle.std.proofs.lemmas.List.Sums.{sum_by-le-sum_by}
use Rattle.gz_names.specs.declared.names.Name.{Name}
use Rattle.gz_names.specs.declared.numbers.Place.{Place}
use Rattle.arena_table.specs.Cells.{CellState}
use Rattle.arena_table.specs.Table.{is_place}
use Rattle.cell_bits.specs.declared.bits.Colour.{Colour}
use Rattle.mark_stack.specs.Stack.{Piles}
use Rattle.weak_maps.specs.Delegates.{DelegateRow}
use Rattle.zones.specs.declared.states.State.{State}
use Rattle.zones.specs.declared.states.State.TheVariants as state
use Rattle.gray_lists.specs.Incoming.{Incoming, waiting_count}
use Rattle.heap_core.specs.Shape.{Shape, cell_of, is_marking, is_marking_state, name_at, state_of}
use Rattle.heap_core.specs.Heap.{HeapState, colour_of}
use Rattle.barriers.specs.Scans.{black_scans, black_turns, gray_scans, gray_turns}
use Rattle.marker.specs.Looks.{looks_now}
use Rattle.marker.specs.UnitsToCome.{is_black_only, map_starts, row_starts, scans, starts_of, units_at}
use Rattle.marker.proofs.UnitsToCome.{where_both, where_off}
use Rattle.weak_maps.specs.declared.entries.WeakEntry.{WeakEntry}
use Rattle.slice_driver.specs.UnitsToCome.{is_wrapper_named, marking_to_come, may_be_noted, notes, present_places}
use Rattle.slice_driver.proofs.measure.PresentPlaces.{present_no_more, where_present}

-- the looks that are to come, and those that may still be started
abbrev pub looks_to_come : HeapState → Piles → ℕ
looks_to_come h p = looks_now h.looks
    + (sum_by (starts_of h p) h.shape.weak.entries + sum_by (row_starts h p) h.shape.weak.delegates.rows)

-- by what counts at cells, by looks and entries, and what waits
pub to_come_grows : (h : HeapState) (p : Piles) (a : Incoming) (k : HeapState) (q : Piles) (b : Incoming) (more : ℕ)
    → sum_by (scans k q) (present_places k.shape) ≤ sum_by (scans h p) (present_places h.shape)
    → sum_by (notes k q) (present_places k.shape) ≤ sum_by (notes h p) (present_places h.shape)
    → looks_to_come k q ≤ looks_to_come h p + more
    → waiting_count b + sum_by length k.buffers ≤ waiting_count a + sum_by length h.buffers
    → marking_to_come k q b ≤ marking_to_come h p a + more
unfolding units_at
to_come_grows h p a k q b more scanned noted looked waits = omega (arith, scanned, noted, looked, waits)

-- a cell of a zone that is still marking has the name and the colour that it had, and its zone takes gray if it did
pub record IsStillMarking (h k : HeapState) (x : Place) : Type 0 where
  pub name_is : name_at k.shape x ≡ name_at h.shape x
  pub was : is_marking h.shape x ≡ true
  pub colour_is : colour_of k x ≡ colour_of h x
  pub black_only : is_black_only (state_of k.shape x) ≡ true → is_black_only (state_of h.shape x) ≡ true

-- a cell is present where a name is
pub present_by_name : (s t : Shape) (x : Place) → name_at t x ≡ name_at s x
    → is_some (cell_of t x) ≡ is_some (cell_of s x)
present_by_name s t x same = sym (named (cell_of t x))
    ∙ (ap (λ (o : Option Name). is_some o) same ∙ named (cell_of s x))
  where
    named : (o : Option CellState) → is_some (option_map (λ (c : CellState). c.name) o) ≡ is_some o
    named None = refl
    named (Some c) = refl

pub marks_black : (t : State) → is_black_only t ≡ true → is_marking_state t ≡ true
marks_black state.NoGC e = e
marks_black state.Prepare e = e
marks_black state.MarkBlackOnly e = refl
marks_black state.MarkBlackAndGray e = refl
marks_black state.Sweep e = e
marks_black state.Finished e = e

where_none : (b : Bool) (m n : ℕ) → m ≤ 0 → (if b then m else 0) ≤ n
where_none true m n none = omega (arith, none)
where_none false m n none = omega arith

-- zones at most stop marking, and cells of the others are what they were
module _ (h k : HeapState) (p : Piles) (lists : Incoming) (sized : length k.shape.arenas ≡ length h.shape.arenas)
    (buffers : k.buffers ≡ h.buffers) (still : (x : Place) → is_marking k.shape x ≡ true → IsStillMarking h k x) where
  black_same : (x : Place) → is_marking k.shape x ≡ true → black_scans k p x ≡ black_scans h p x
  black_same x on = ap (λ (c : Colour). black_turns c + count_by (is_place x) p.black) (still x on).colour_is

  gray_same : (x : Place) → is_marking k.shape x ≡ true → gray_scans k p x ≡ gray_scans h p x
  gray_same x on = ap (λ (c : Colour). gray_turns c + count_by (is_place x) p.gray) (still x on).colour_is

  scans_less : (x : Place) → scans k p x ≤ scans h p x
  scans_less x = go (is_marking k.shape x) refl
    where
      go : (b : Bool) → is_marking k.shape x ≡ b → scans k p x ≤ scans h p x
      go true on = where_both (is_marking k.shape x) (is_marking h.shape x) (black_scans k p x + gray_scans k p x)
          (black_scans h p x + gray_scans h p x) (on ∙ sym (still x on).was)
          (omega (arith, black_same x on, gray_same x on))
      go false off = where_off (is_marking k.shape x) (black_scans k p x + gray_scans k p x) (scans h p x) off

  -- the entries of a map are started for it no more often
  maps_less : (x : Place) → map_starts k p x ≤ map_starts h p x
  maps_less x = by (is_black_only (state_of k.shape x)) refl
    where
      by : (b : Bool) → is_black_only (state_of k.shape x) ≡ b → map_starts k p x ≤ map_starts h p x
      by true only =
          let same = still x (marks_black (state_of k.shape x) only) in
          let colour = ap (λ (c : Colour). 1 - black_turns c) same.colour_is in
          let more = where_both (is_black_only (state_of k.shape x)) (is_black_only (state_of h.shape x))
          (1 - black_turns (colour_of k x)) (1 - black_turns (colour_of h x)) (only ∙ sym (same.black_only only))
          (omega (arith, colour)) in
          omega (arith, more, scans_less x)
      by false off =
          let none = where_off (is_black_only (state_of k.shape x)) (1 - black_turns (colour_of k x)) 0 off in
          omega (arith, none, scans_less x)

  may_same : (x : Place) → is_marking k.shape x ≡ true → may_be_noted k.shape x ≡ may_be_noted h.shape x
  may_same x on =
      let same = still x on in
      ap (λ (b : Bool). b && is_wrapper_named (name_at k.shape x)) (on ∙ sym same.was)
      ∙ ap (λ (o : Option Name). is_marking h.shape x && is_wrapper_named o) same.name_is

  notes_less : (x : Place) → notes k p x ≤ notes h p x
  notes_less x = go (is_marking k.shape x) refl
    where
      go : (b : Bool) → is_marking k.shape x ≡ b → notes k p x ≤ notes h p x
      go true on = where_both (may_be_noted k.shape x) (may_be_noted h.shape x) (gray_scans k p x) (gray_scans h p x)
          (may_same x on) (omega (arith, gray_same x on))
      go false off = where_off (may_be_noted k.shape x) (gray_scans k p x) (notes h p x)
          (ap (λ (b : Bool). b && is_wrapper_named (name_at k.shape x)) off)

  -- what counts in marking zones alone counts there for a cell that is still present
  present_less : (f g : Place → ℕ) → ((x : Place) → g x ≤ f x) → ((x : Place) → is_marking k.shape x ≡ false → g x ≤ 0)
      → (x : Place) → where_present k.shape g x ≤ where_present h.shape f x
  present_less f g less none x = go (is_marking k.shape x) refl
    where
      go : (b : Bool) → is_marking k.shape x ≡ b → where_present k.shape g x ≤ where_present h.shape f x
      go true on = where_both (is_some (cell_of k.shape x)) (is_some (cell_of h.shape x)) (g x) (f x)
          (present_by_name h.shape k.shape x (still x on).name_is) (less x)
      go false off = where_none (is_some (cell_of k.shape x)) (g x) (where_present h.shape f x) (none x off)

  -- with entries and rows that were there, each once
  pub states_no_more : looks_now k.looks ≤ looks_now h.looks
      → ((f : WeakEntry → ℕ) → sum_by f k.shape.weak.entries ≤ sum_by f h.shape.weak.entries)
      → ((f : DelegateRow → ℕ) → sum_by f k.shape.weak.delegates.rows ≤ sum_by f h.shape.weak.delegates.rows)
      → marking_to_come k p lists ≤ marking_to_come h p lists
  states_no_more looks entries rows =
      let all = to_come_grows h p lists k p lists 0
      (present_no_more h.shape k.shape (scans h p) (scans k p) sized
      (present_less (scans h p) (scans k p) scans_less
      (λ x off. where_off (is_marking k.shape x) (black_scans k p x + gray_scans k p x) 0 off)))
      (present_no_more h.shape k.shape (notes h p) (notes k p) sized
      (present_less (notes h p) (notes k p) notes_less
      (λ x off. where_off (may_be_noted k.shape x) (gray_scans k p x) 0
      (ap (λ (b : Bool). b && is_wrapper_named (name_at k.shape x)) off))))
      (omega (arith, looks, starts, row_sums))
      (omega (arith, ap (λ (bs : List (List Place)). sum_by length bs) buffers)) in
      omega (arith, all)
    where
      starts : sum_by (starts_of k p) k.shape.weak.entries ≤ sum_by (starts_of h p) h.shape.weak.entries
      starts =
          let now = sum_by-le-sum_by (starts_of k p) (starts_of h p) k.shape.weak.entries
          (λ e. omega (arith, maps_less e.map, scans_less e.key)) in
          let was = entries (starts_of h p) in
          omega (arith, now, was)

      row_sums : sum_by (row_starts k p) k.shape.weak.delegates.rows
          ≤ sum_by (row_starts h p) h.shape.weak.delegates.rows
      row_sums =
          let now = sum_by-le-sum_by (row_starts k p) (row_starts h p) k.shape.weak.delegates.rows
          (λ r. scans_less r.target) in
          let was = rows (row_starts h p) in
          omega (arith, now, was)
