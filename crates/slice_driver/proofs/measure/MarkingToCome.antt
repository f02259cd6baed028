-- Units of marking lower what is to come of it.
use Rattle.std.proofs.Common.{◌≡◌, ◌⊎◌, ◌+◌, ◌<◌, ◌≤◌, ◌&&◌, ℕ, Bool, true, false, inl, inr, refl, sym, ap, ◌∙◌, subst}
use Rattle.std.proofs.Common.{arith, List, length, sum_by, Contains, Option, None, Some, get_or}
use Rattle.std.proofs.lemmas.List.Sums.{sum_by-le-sum_by}
use Rattle.gz_names.specs.declared.numbers.Place.{Place}
use Rattle.zones.specs.declared.states.State.TheVariants as state
use Rattle.mark_stack.specs.Stack.{Piles}
use Rattle.gray_lists.specs.Incoming.{Incoming, waiting_count}
use Rattle.weak_maps.specs.declared.colours.MarkColour.{MarkColour}
use Rattle.weak_maps.specs.declared.colours.MarkColour.TheVariants as mark
use Rattle.heap_core.specs.Shape.{AreWhole, IsPresent, Shape, field_at, is_marking, name_at, state_of}
use Rattle.heap_core.specs.Heap.{HeapState}
use Rattle.barriers.specs.Colours.{IsBlack, IsSeen}
use Rattle.barriers.specs.Invariant.{MarkingInvariant}
use Rattle.barriers.specs.Scans.{ScansNoMore, gray_scans}
use Rattle.marker.specs.Looks.{StartsLooks, looks_now}
use Rattle.marker.specs.Units.{DoesGray, DoesLook, ScansBlack, ScansGray, TakesOne}
use Rattle.marker.specs.UnitsToCome.{map_starts, scans, units_at}
use Rattle.marker.proofs.Looking.{looked_less}
use Rattle.marker.proofs.UnitsToCome.{black_fewer, gray_fewer, look_lowers, others_keep, scan_lowers, scans_no_more}
use Rattle.marker.proofs.UnitsToCome.{maps_fewer, maps_no_more, sum_fewer, where_both, where_on}
use Rattle.slice_driver.specs.Commands.{Exposed}
use Rattle.slice_driver.specs.UnitsToCome.{is_wrapper_named, marking_to_come, may_be_noted, notes, present_places}
use Rattle.slice_driver.proofs.measure.PresentPlaces.{present_listed}

-- what holds of the gray pile: its cells are seen and lie in marking zones, and one that is no wrapper leads to no zone
-- that takes no gray yet
pub record IsGrayPile (h : HeapState) (p : Piles) : Type 0 where
  pub seen : (x : Place) → Contains p.gray x → IsSeen h x
  pub marking : (x : Place) → Contains p.gray x → is_marking h.shape x ≡ true
  pub inside : (x y : Place) → Contains p.gray x → is_wrapper_named (name_at h.shape x) ≡ false
      → field_at h.shape x 0 ≡ Some y → state_of h.shape y ≡ state.MarkBlackOnly → ⊥

-- a present cell was scanned and its entries started: fewer units are to come at cells and entries
scanned_fewer : (h : HeapState) (p : Piles) (k : HeapState) (q : Piles) → k.shape ≡ h.shape → ScansNoMore h p k q
    → ((x : Place) → map_starts k q x ≤ map_starts h p x) → AreWhole h.shape.arenas → (c : MarkColour) (x : Place)
    → IsPresent h.shape x → scans k q x < scans h p x → map_starts k q x < map_starts h p x → StartsLooks c x h k
    → units_at k q (present_places h.shape) < units_at h p (present_places h.shape)
scanned_fewer h p k q same none maps whole c x present fewer fewer_maps starts =
    scan_lowers h p k q (present_places h.shape) (ap (λ (s : Shape). s.weak) same) (scans_no_more h p k q same none)
    maps c x (present_listed h.shape whole x present) fewer fewer_maps starts

-- a step that changes no shape and lets no cell be scanned more often
module _ (h : HeapState) (p : Piles) (a : Incoming) (k : HeapState) (q : Piles) (b : Incoming)
    (same : k.shape ≡ h.shape) (none : ScansNoMore h p k q)
    (maps : (x : Place) → map_starts k q x ≤ map_starts h p x) where
  abbrev cells : List Place
  cells = present_places h.shape

  weak_same : k.shape.weak ≡ h.shape.weak
  weak_same = ap (λ (s : Shape). s.weak) same

  no_more : (x : Place) → scans k q x ≤ scans h p x
  no_more = scans_no_more h p k q same none

  may_as_before : (x : Place) → may_be_noted k.shape x ≡ may_be_noted h.shape x
  may_as_before x = ap (λ (s : Shape). may_be_noted s x) same

  notes_no_more : (x : Place) → notes k q x ≤ notes h p x
  notes_no_more x = where_both (may_be_noted k.shape x) (may_be_noted h.shape x) (gray_scans k q x) (gray_scans h p x)
      (may_as_before x) (none.gray x)

  notes_sum : sum_by (notes k q) cells ≤ sum_by (notes h p) cells
  notes_sum = sum_by-le-sum_by (notes k q) (notes h p) cells notes_no_more

  -- the places of the present cells are as they were
  units_here : units_at k q (present_places k.shape) ≡ units_at k q cells
  units_here = ap (λ (s : Shape). units_at k q (present_places s)) same

  notes_here : sum_by (notes k q) (present_places k.shape) ≡ sum_by (notes k q) cells
  notes_here = ap (λ (s : Shape). sum_by (notes k q) (present_places s)) same

  abbrev waits_before : ℕ
  waits_before = waiting_count a + sum_by length h.buffers

  abbrev waits_after : ℕ
  waits_after = waiting_count b + sum_by length k.buffers

  -- nothing was scanned or looked at, and no more waits than before
  pub kept_no_more : k.looks ≡ h.looks → waits_after ≤ waits_before
      → marking_to_come k q b ≤ marking_to_come h p a
  kept_no_more looks waits =
      let same_looks = ap looks_now looks in
      let units = others_keep h p k q cells weak_same no_more maps (omega (arith, same_looks)) in
      omega (arith, units, units_here, notes_here, notes_sum, waits)

  -- something that waited was taken
  pub taken_falls : k.looks ≡ h.looks → waits_after < waits_before
      → marking_to_come k q b < marking_to_come h p a
  taken_falls looks fewer =
      let same_looks = ap looks_now looks in
      let units = others_keep h p k q cells weak_same no_more maps (omega (arith, same_looks)) in
      omega (arith, units, units_here, notes_here, notes_sum, fewer)

  -- an entry was looked at
  pub look_falls : looks_now k.looks < looks_now h.looks → waits_after ≤ waits_before
      → marking_to_come k q b < marking_to_come h p a
  look_falls fewer waits =
      let units = look_lowers h p k q cells weak_same no_more maps fewer in
      omega (arith, units, units_here, notes_here, notes_sum, waits)

  -- fewer units are to come at cells and entries, and what is noted and waits is no more than before
  units_fall : units_at k q cells < units_at h p cells
      → sum_by (notes k q) cells + waits_after ≤ sum_by (notes h p) cells + waits_before
      → marking_to_come k q b < marking_to_come h p a
  units_fall units waits = omega (arith, units, units_here, notes_here, waits)

  notes_fewer : AreWhole h.shape.arenas → (x : Place) → IsPresent h.shape x → may_be_noted h.shape x ≡ true
      → gray_scans k q x < gray_scans h p x → sum_by (notes k q) cells < sum_by (notes h p) cells
  notes_fewer whole x present may fewer =
      let listed = present_listed h.shape whole x present in
      let is : x ≡ get_or cells listed.0 x = sym listed.2 in
      let here : notes k q x < notes h p x =
      where_on (may_be_noted k.shape x) (may_be_noted h.shape x) (gray_scans k q x) (gray_scans h p x)
      (may_as_before x) may fewer in
      sum_fewer (notes k q) (notes h p) cells listed.0 x listed.1 notes_no_more
      (subst (λ y. notes k q y < notes h p y) is here)

  -- a cell of the gray pile was scanned
  pub gray_falls : AreWhole h.shape.arenas → ((x : Place) → IsSeen h x → IsPresent h.shape x) → IsGrayPile h p
      → ((y : Place) → IsBlack k y → IsBlack h y) → ScansGray h p a k q b
      → marking_to_come k q b < marking_to_come h p a
  gray_falls whole seen gray still taken =
      let x = taken.cell in
      let present = seen x (gray.seen x taken.piled) in
      let on = gray.marking x taken.piled in
      let fewer = gray_fewer h p k q same none x on taken.fewer in
      units_fall (scanned_fewer h p k q same none maps whole mark.Gray x present fewer
      (maps_fewer h p k q same x fewer (still x)) taken.starts)
      (waits (is_wrapper_named (name_at h.shape x)) refl present on)
    where
      buffers_sum : sum_by length k.buffers ≡ sum_by length h.buffers
      buffers_sum = ap (sum_by length) taken.buffers_are

      waits : (wrapper : Bool) → is_wrapper_named (name_at h.shape taken.cell) ≡ wrapper
          → IsPresent h.shape taken.cell → is_marking h.shape taken.cell ≡ true
          → sum_by (notes k q) cells + waits_after ≤ sum_by (notes h p) cells + waits_before
      waits true is present on =
          let may : may_be_noted h.shape taken.cell ≡ true =
          ap (λ (b : Bool). b && is_wrapper_named (name_at h.shape taken.cell)) on ∙ is in
          let fewer = notes_fewer whole taken.cell present may taken.fewer in
          omega (arith, fewer, taken.noted.count, buffers_sum)
      waits false is present on =
          let still = taken.noted.still (λ y at. gray.inside taken.cell y taken.piled is at) in
          let count : waiting_count b ≡ waiting_count a = ap waiting_count still in
          omega (arith, count, notes_sum, buffers_sum)

-- a piece of gray marking was done
pub does_gray_falls : (h : HeapState) (p : Piles) (a : Incoming) (k : HeapState) (q : Piles) (b : Incoming)
    → AreWhole h.shape.arenas → ((x : Place) → IsSeen h x → IsPresent h.shape x) → IsGrayPile h p
    → MarkingInvariant h p → DoesGray h p a k q b → marking_to_come k q b < marking_to_come h p a
does_gray_falls h p a k q b whole seen gray inv does = go does.takes
  where
    same : k.shape ≡ h.shape
    same = ap (λ (z : HeapState). z.shape) does.marks.rest

    maps : (x : Place) → map_starts k q x ≤ map_starts h p x
    maps = maps_no_more h p k q same does.scans inv.holds.colours.no_gray inv.once does.gray_pile

    go : TakesOne h p a k q b → marking_to_come k q b < marking_to_come h p a
    go (inl buffered) = taken_falls h p a k q b same does.scans maps buffered.2
        (omega (arith, buffered.0, ap waiting_count buffered.1))
    go (inr (inl incoming)) = taken_falls h p a k q b same does.scans maps incoming.2
        (omega (arith, incoming.0, ap (λ (bs : List (List Place)). sum_by length bs) incoming.1))
    go (inr (inr taken)) = gray_falls h p a k q b same does.scans maps whole seen gray (λ y. (does.black_is y).0)
        taken

-- the gray pile has the cells that it had
pile_same : (h : HeapState) (p q : Piles) → q.gray ≡ p.gray → (x : Place) → Contains q.gray x
    → Contains p.gray x ⊎ (state_of h.shape x ≡ state.MarkBlackAndGray)
pile_same h p q same x has = inl (subst (λ (xs : List Place). Contains xs x) same has)

-- a step of black marking, which lets no cell be scanned more often
module _ (h : HeapState) (p : Piles) (k : HeapState) (q : Piles) (same : k.shape ≡ h.shape) (inv : MarkingInvariant h p)
    (gray : q.gray ≡ p.gray) where
  maps_kept : ScansNoMore h p k q → (x : Place) → map_starts k q x ≤ map_starts h p x
  maps_kept none = maps_no_more h p k q same none inv.holds.colours.no_gray inv.once (pile_same h p q gray)

  -- a cell of the black pile was scanned
  pub black_fewer_units : AreWhole h.shape.arenas → ScansBlack h p k q
      → units_at k q (present_places h.shape) < units_at h p (present_places h.shape)
  black_fewer_units whole scanned =
      let x = scanned.cell in
      let none = scanned.no_more in
      let fewer = black_fewer h p k q same none x scanned.zone scanned.fewer in
      scanned_fewer h p k q same none (maps_kept none) whole mark.Black x
      (inv.holds.colours.seen_present x (inr scanned.black)) fewer
      (maps_fewer h p k q same x fewer (λ b. scanned.black)) scanned.starts

  -- fewer units are to come at cells and entries
  pub black_falls : (lists : Incoming) → k.buffers ≡ h.buffers → ScansNoMore h p k q
      → units_at k q (present_places h.shape) < units_at h p (present_places h.shape)
      → marking_to_come k q lists < marking_to_come h p lists
  black_falls lists buffers none units =
      let sums : sum_by length k.buffers ≡ sum_by length h.buffers =
      ap (λ (bs : List (List Place)). sum_by length bs) buffers in
      let notes_less = notes_sum h p lists k q lists same none (maps_kept none) in
      units_fall h p lists k q lists same none (maps_kept none) units (omega (arith, sums, notes_less))

-- an entry was looked at
pub looks_fall : (c : MarkColour) (h : HeapState) (p : Piles) (lists : Incoming) (k : HeapState) (q : Piles)
    → MarkingInvariant h p → DoesLook c h p k q → marking_to_come k q lists < marking_to_come h p lists
looks_fall c h p lists k q inv does =
    let same : k.shape ≡ h.shape = ap (λ (z : HeapState). z.shape) does.rest in
    let maps = maps_no_more h p k q same does.scans inv.holds.colours.no_gray inv.once does.gray_pile in
    let one = looked_less c does.entry h.shape.weak h.looks k.looks does.looked in
    let sums = ap (λ (z : HeapState). sum_by length z.buffers) does.rest in
    look_falls h p lists k q lists same does.scans maps (omega (arith, one))
    (omega (arith, sums))

-- a barrier exposed a cell, if there was one to expose: nothing came on the gray pile
pub exposed_gray : (o : Option Place) (h : HeapState) (p : Piles) (k : HeapState) (q : Piles) → Exposed o h p k q
    → q.gray ≡ p.gray
exposed_gray None h p k q still = ap (λ (x : Piles). x.gray) still.1
exposed_gray (Some x) h p k q exposes = exposes.spreads.gray_is

-- and no more is to come
pub exposed_no_more : (o : Option Place) (h : HeapState) (p : Piles) (lists : Incoming) (k : HeapState) (q : Piles)
    → MarkingInvariant h p → Exposed o h p k q → marking_to_come k q lists ≤ marking_to_come h p lists
exposed_no_more None h p lists k q inv still =
    subst (λ (z : HeapState). marking_to_come z q lists ≤ marking_to_come h p lists) (sym still.0)
    (subst (λ (z : Piles). marking_to_come h z lists ≤ marking_to_come h p lists) (sym still.1) (omega arith))
exposed_no_more (Some x) h p lists k q inv exposes =
    let rest = exposes.spreads.blackens.rest in
    let sums : sum_by length k.buffers ≡ sum_by length h.buffers =
    ap (λ (z : HeapState). sum_by length z.buffers) rest in
    let same : k.shape ≡ h.shape = ap (λ (z : HeapState). z.shape) rest in
    let maps = maps_no_more h p k q same exposes.spreads.scans inv.holds.colours.no_gray inv.once
    (pile_same h p q exposes.spreads.gray_is) in
    kept_no_more h p lists k q lists same exposes.spreads.scans maps
    (ap (λ (z : HeapState). z.looks) rest) (omega (arith, sums))
