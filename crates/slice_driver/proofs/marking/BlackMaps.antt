-- The entries of black maps of a zone are queued, map by map.
use Rattle.std.proofs.Common.{◌≡◌, ◌⊎◌, ◌<◌, ◌≤◌, ◌+◌, ◌-◌, ℕ, zero, suc, List, [], ◌∷◌, length, map, Option, Some}
use Rattle.std.proofs.Common.{None}
use Rattle.std.proofs.Common.{Contains, slice_get, inl, inr, refl, sym, ap, subst, ◌∙◌, arith}
use Rattle.std.proofs.lemmas.Bool.{cases_eq}
use Rattle.std.proofs.lemmas.Option.{slice_get_cases, slice_get_within}
use Rattle.gz_names.specs.declared.numbers.Place.{Place}
use Rattle.weak_maps.specs.Delegates.{DelegateRow, rows_of_zone}
use Rattle.weak_maps.specs.Entries.{Starts}
use Rattle.weak_maps.specs.WeakMaps.{IsSound, maps_delegated_in}
use Rattle.weak_maps.specs.declared.colours.MarkColour.{MarkColour}
use Rattle.weak_maps.specs.declared.colours.MarkColour.TheVariants as mark
use Rattle.weak_maps.specs.declared.entries.WeakEntry.{WeakEntry}
use Rattle.heap_core.specs.Shape.{zone_of}
use Rattle.heap_core.specs.Heap.{HeapState, colour_of}
use Rattle.heap_core.proofs.Places.{present_within}
use Rattle.barriers.specs.Colours.{IsBlack}
use Rattle.barriers.specs.Invariant.{ShapeInvariant}
use Rattle.barriers.specs.WeakPoint.{IsToCome}
use Rattle.barriers.proofs.Places.{same_or_other}
use Rattle.barriers.proofs.StayingLeft.{started, starts_kept}
use Rattle.colour_defs.proofs.Lists.{contains_tail, contains_head, contains_cases, nothing_in_none}
use Rattle.slice_driver.specs.Quiet.{QueuesBlackMaps, QueuesIfBlack}
use Rattle.slice_driver.specs.Worlds.{AreRowsAtHome}
use Rattle.slice_driver.proofs.abstraction.Named.{some_one}

-- the maps of rows, one for each
map_at : (rows : List DelegateRow) (row : DelegateRow) → Contains rows row → (i : ℕ)
    × (slice_get (map (λ (r : DelegateRow). r.map) rows) i ≡ Some row.map)
map_at [] row has = absurd (nothing_in_none row has)
map_at (r ∷ rows) row has = elim (contains_cases r rows row has) [
  | inl is ↦ (zero, ap (λ (x : DelegateRow). Some x.map) is)
  | inr more ↦ (let at = map_at rows row more in (suc at.0, at.1))
]

row_at : (rows : List DelegateRow) (i : ℕ) (m : Place)
    → slice_get (map (λ (r : DelegateRow). r.map) rows) i ≡ Some m → (row : DelegateRow) × Contains rows row
    × (row.map ≡ m)
row_at [] i m at = absurd (cc at)
row_at (r ∷ rows) zero m at = (r, contains_head r rows, some_one _ _ at)
row_at (r ∷ rows) (suc i) m at =
    let found = row_at rows i m at in (found.0, contains_tail r rows found.0 found.1, found.2)

-- a map of the list is a present cell of the zone
pub record IsMapOf (h : HeapState) (zone : ℕ) (m : Place) : Type 0 where
  pub within : m.0 < length h.shape.arenas
  pub zone_is : zone_of h.shape m ≡ zone

pub is_map_of : (h : HeapState) (zone i : ℕ) (m : Place) → ShapeInvariant h.shape → AreRowsAtHome h.shape
    → IsSound h.shape.weak → slice_get (maps_delegated_in h.shape.weak zone) i ≡ Some m → IsMapOf h zone m
is_map_of h zone i m shape homes sound at =
    let found = row_at (rows_of_zone h.shape.weak.delegates zone) i m at in
    let row = found.0 in
    let there = (sound.delegates.of_zone zone row).0 found.1 in
    let value = sound.entered row there.0 in
    let zones = shape.one_zone row.map row.key value.0 value.1 in
    let home = homes row there.0 in
    record {
      within = subst (λ (p : Place). p.0 < length h.shape.arenas) found.2
          (present_within h.shape row.map (shape.entries row.map row.key value.0 value.1).0);
      zone_is = ap (zone_of h.shape) (sym found.2) ∙ zones.0 ∙ sym zones.1 ∙ sym home.zone_is ∙ there.1;
    }

-- looks after some maps of the list
pub record QueuedSoFar (h : HeapState) (zone i : ℕ) (looks : List (Option MarkColour)) : Type 0 where
  pub queued : (j : ℕ) (m : Place) → j < i → slice_get (maps_delegated_in h.shape.weak zone) j ≡ Some m → IsBlack h m
      → (n : ℕ) (entry : WeakEntry) → slice_get h.shape.weak.entries n ≡ Some entry → entry.map ≡ m
      → IsToCome mark.Gray looks n
  pub kept : (c : MarkColour) (n : ℕ) (entry : WeakEntry) → slice_get h.shape.weak.entries n ≡ Some entry
      → IsToCome c h.looks.by_map n → IsToCome c looks n
  pub sized : length looks ≡ length h.looks.by_map
  pub others : (n : ℕ) (entry : WeakEntry) → slice_get h.shape.weak.entries n ≡ Some entry
      → (slice_get looks n ≡ slice_get h.looks.by_map n)
      ⊎ ((zone_of h.shape entry.map ≡ zone) × IsBlack h entry.map)

pub none_queued : (h : HeapState) (zone : ℕ) → QueuedSoFar h zone 0 h.looks.by_map
none_queued h zone = record {
  queued = λ j m lt at black n entry there is. absurd (omega (arith, lt));
  kept = λ c n entry there come. come;
  sized = refl;
  others = λ n entry there. inl refl;
}

module _ (h : HeapState) (zone i : ℕ) (looks : List (Option MarkColour)) (before : QueuedSoFar h zone i looks)
    (m : Place) (at : slice_get (maps_delegated_in h.shape.weak zone) i ≡ Some m) where
  one_map : (j : ℕ) (q : Place) → j ≡ i → slice_get (maps_delegated_in h.shape.weak zone) j ≡ Some q → q ≡ m
  one_map j q is found = some_one _ _ (sym found ∙ ap (slice_get (maps_delegated_in h.shape.weak zone)) is ∙ at)

  -- one map more, which is black
  queued_one : zone_of h.shape m ≡ zone → IsBlack h m → (now : List (Option MarkColour))
      → Starts (λ (entry : WeakEntry). entry.map) mark.Gray m h.shape.weak.entries looks now
      → QueuedSoFar h zone (i + 1) now
  queued_one here black now starts = record {
    queued = λ j q lt found dark n entry there is. elim (cases_eq j i) [
      | inl same ↦ started (λ (e : WeakEntry). e.map) mark.Gray m h.shape.weak.entries looks now starts n entry there
          (is ∙ one_map j q same found)
      | inr other ↦ starts_kept (λ (e : WeakEntry). e.map) mark.Gray m h.shape.weak.entries looks now starts mark.Gray n
          entry there (before.queued j q (omega (arith, lt, other)) found dark n entry there is)
    ];
    kept = λ c n entry there come. starts_kept (λ (e : WeakEntry). e.map) mark.Gray m h.shape.weak.entries looks now
        starts c n entry there (before.kept c n entry there come);
    sized = starts.sized ∙ before.sized;
    others = λ n entry there. elim (same_or_other entry.map m) [
      | inl is ↦ inr (ap (zone_of h.shape) is ∙ here, ap (colour_of h) is ∙ black)
      | inr other ↦ elim (before.others n entry there) [
        | inl same ↦ inl (starts.others n entry there other ∙ same)
        | inr dark ↦ inr dark
      ]
    ];
  }

  -- or which is not
  queued_none : (IsBlack h m → ⊥) → QueuedSoFar h zone (i + 1) looks
  queued_none pale = record {
    queued = λ j q lt found dark n entry there is. elim (cases_eq j i) [
      | inl same ↦ absurd (pale (subst (IsBlack h) (one_map j q same found) dark))
      | inr other ↦ before.queued j q (omega (arith, lt, other)) found dark n entry there is
    ];
    kept = before.kept;
    sized = before.sized;
    others = before.others;
  }

-- the heap after some maps of the list
pub record QueuesSoFar (h : HeapState) (zone i : ℕ) (k : HeapState) : Type 0 where
  pub rest : k ≡ record h { looks = record h.looks { by_map = k.looks.by_map } }
  pub so_far : QueuedSoFar h zone i k.looks.by_map

pub queues_none : (h : HeapState) (zone : ℕ) → QueuesSoFar h zone 0 h
queues_none h zone = record { rest = refl; so_far = none_queued h zone }

pub queues_next : (h : HeapState) (zone i : ℕ) (k : HeapState) → QueuesSoFar h zone i k → (m : Place)
    → slice_get (maps_delegated_in h.shape.weak zone) i ≡ Some m → zone_of h.shape m ≡ zone → (l : HeapState)
    → QueuesIfBlack k m l → QueuesSoFar h zone (i + 1) l
queues_next h zone i k q m at here l (inl (black, is, starts)) = record {
  rest = is ∙ ap (λ (z : HeapState). record z { looks = record z.looks { by_map = l.looks.by_map } }) q.rest;
  so_far = queued_one h zone i k.looks.by_map q.so_far m at here (ap (λ (z : HeapState). colour_of z m) (sym q.rest)
      ∙ black)
      l.looks.by_map
      (subst (λ (es : List WeakEntry). Starts (λ (e : WeakEntry). e.map) mark.Gray m es k.looks.by_map l.looks.by_map)
      (ap (λ (z : HeapState). z.shape.weak.entries) q.rest) starts);
}
queues_next h zone i k q m at here l (inr (pale, same)) = subst (λ (z : HeapState). QueuesSoFar h zone (i + 1) z)
    (sym same) (record {
      rest = q.rest;
      so_far = queued_none h zone i k.looks.by_map q.so_far m at
          (λ black. pale (ap (λ (z : HeapState). colour_of z m) q.rest ∙ black));
    })

-- the entries are as they were
pub queued_weak : (k : HeapState) (m : Place) (l : HeapState) → QueuesIfBlack k m l → l.shape.weak ≡ k.shape.weak
queued_weak k m l (inl (black, is, starts)) = ap (λ (z : HeapState). z.shape.weak) is
queued_weak k m l (inr (pale, same)) = ap (λ (z : HeapState). z.shape.weak) same

-- fewer maps are left
pub fewer_maps : (xs : List Place) (i : ℕ) (m : Place) → slice_get xs i ≡ Some m
    → length xs - (i + 1) < length xs - i
fewer_maps xs i m at = let lt = slice_get_within xs i m at in omega (arith, lt)

module _ (h : HeapState) (zone i : ℕ) (looks : List (Option MarkColour)) (all : QueuedSoFar h zone i looks)
    (ended : slice_get (maps_delegated_in h.shape.weak zone) i ≡ None) (shape : ShapeInvariant h.shape)
    (homes : AreRowsAtHome h.shape) (sound : IsSound h.shape.weak) where
  abbrev queued_heap : HeapState
  queued_heap = record h { looks = record h.looks { by_map = looks } }

  past : length (maps_delegated_in h.shape.weak zone) ≤ i
  past = elim (slice_get_cases (maps_delegated_in h.shape.weak zone) i).1 [
    | inl some ↦ absurd (let at = some.2 in cc (at, ended))
    | inr none ↦ none.0
  ]

  queues_in : QueuesBlackMaps h zone queued_heap
  queues_in = record {
    left = λ m q v d has is here black n entry there em ek.
        (let with = (shape.delegates m q v d has).0 is in
        let row = sound.delegates.there m q d with in
        let zones = shape.one_zone m q v has in
        let home = homes (record { map = m; key = q; target = d; zone = row.0 }) row.1 in
        let row_zone : row.0 ≡ zone = home.zone_is ∙ zones.1 ∙ sym zones.0 ∙ here in
        let listed = (sound.delegates.of_zone zone (record { map = m; key = q; target = d; zone = row.0 })).1
        (row.1, row_zone) in
        let at = map_at (rows_of_zone h.shape.weak.delegates zone) _ listed in
        let within = slice_get_within (maps_delegated_in h.shape.weak zone) at.0 m at.1 in
        inl (all.queued at.0 m (let most = past in omega (arith, within, most)) at.1 black n entry there em));
    kept = λ c m q left n entry there em ek. elim (left n entry there em ek) [
      | inl come ↦ inl (all.kept c n entry there come)
      | inr (inl come) ↦ inr (inl come)
      | inr (inr row) ↦ inr (inr (record {
        number = row.number;
        row = row.row;
        there = row.there;
        map = row.map;
        key = row.key;
        to_come = row.to_come;
      }))
    ];
    sized = all.sized;
    by_map = all.others;
    by_key = refl;
    by_delegate = refl;
  }

-- where no map is left
pub queues_all : (h : HeapState) (zone i : ℕ) (k : HeapState) → QueuesSoFar h zone i k
    → slice_get (maps_delegated_in h.shape.weak zone) i ≡ None → ShapeInvariant h.shape → AreRowsAtHome h.shape
    → IsSound h.shape.weak → QueuesBlackMaps h zone k
queues_all h zone i k q ended shape homes sound = subst (λ (z : HeapState). QueuesBlackMaps h zone z) (sym q.rest)
    (queues_in h zone i k.looks.by_map q.so_far ended shape homes sound)
