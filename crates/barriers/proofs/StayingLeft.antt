-- Which entries are left after entries came and went, after some were started, and after a look.
use Rattle.std.proofs.Common.{◌≡◌, ◌≢◌, ◌⊎◌, ◌++◌, ◌∷◌, ℕ, zero, suc, Bool, true, false, List, [], Option, Some, None}
use Rattle.std.proofs.Common.{inl, inr, refl, sym, ap, ◌∙◌, subst, slice_get, slice_set, if◌then◌else◌, is_some}
use Rattle.std.proofs.lemmas.Option.{same_Some}
use Rattle.gz_names.specs.declared.numbers.Place.{Place}
use Rattle.gray_lists.proofs.Reading.{slice_get-set_other}
use Rattle.weak_maps.specs.declared.delegates.Delegate.{Delegate}
use Rattle.weak_maps.specs.declared.entries.EntryKey.{EntryKey}
use Rattle.weak_maps.specs.declared.entries.WeakEntry.{WeakEntry}
use Rattle.weak_maps.specs.Delegates.{DelegateRow, delegate_at, row_of}
use Rattle.weak_maps.specs.Entries.{Starts, is_entry, put_at, value_at}
use Rattle.weak_maps.specs.WeakMaps.{Carries, HasLooked, IsSound, KeepsRows, LooksState, NoneLeft, PutsLeft}
use Rattle.weak_maps.specs.WeakMaps.{WeakMapsState, delegate_of, looks_with, rows_with, value_of}
use Rattle.weak_maps.specs.declared.colours.MarkColour.{MarkColour}
use Rattle.weak_maps.specs.declared.colours.MarkColour.TheVariants as mark
use Rattle.weak_maps.proofs.Reading.{slice_get-set_cases}
use Rattle.weak_maps.proofs.Sound.{Contains-found, stands_at as found_at}
use Rattle.heap_core.specs.Heap.{HeapState, weak_of}
use Rattle.barriers.specs.Reached.{HasEntry}
use Rattle.barriers.specs.WeakPoint.{IsLeft, IsToCome, RowIsToCome, StayLeft, left_of}
use Rattle.barriers.proofs.Listed.{row_of_entry, stands_at, stood_at}
use Rattle.barriers.proofs.Places.{same_or_other}
use Rattle.barriers.proofs.WeakPoint.{IsWeaker, LeavesOthers, StartsEntries}

-- what is to come in black is to come in gray
come_weaker : (xs : List (Option MarkColour)) (n : ℕ) → IsToCome mark.Black xs n → IsToCome mark.Gray xs n
come_weaker xs n (inl e) = inr e
come_weaker xs n (inr e) = inr e

pub left_weaker : (weak : WeakMapsState) → IsWeaker (IsLeft weak)
left_weaker weak m k l n entry at em ek = elim (l n entry at em ek) [
  | inl is ↦ inl (come_weaker weak.looks.by_map n is)
  | inr (inl is) ↦ inr (inl (come_weaker weak.looks.by_key n is))
  | inr (inr r) ↦ inr (inr (record {
    number = r.number;
    row = r.row;
    there = r.there;
    map = r.map;
    key = r.key;
    to_come = λ i other is sm sk. come_weaker weak.looks.by_delegate i (r.to_come i other is sm sk);
  }))
]

come_same : (c : MarkColour) (old new : List (Option MarkColour)) (i j : ℕ) → slice_get new i ≡ slice_get old j
    → IsToCome c old j → IsToCome c new i
come_same c old new i j e (inl is) = inl (e ∙ is)
come_same c old new i j e (inr is) = inr (e ∙ is)

-- entries went, and maybe others took their numbers
row_carried : (h k : HeapState) → Carries (weak_of h) (weak_of k) → KeepsRows h.shape.weak k.shape.weak
    → (c : MarkColour) (m n v : Place) → HasEntry k.shape m n v → RowIsToCome (weak_of h) c m n
    → RowIsToCome (weak_of k) c m n
row_carried h k carries keeps c m n v has r =
    let value : value_of k.shape.weak r.row.map r.row.key ≡ Some v =
    ap (λ z. value_of k.shape.weak z r.row.key) r.map ∙ (ap (value_of k.shape.weak m) r.key ∙ has) in
    let old = stood_at h.shape.weak.delegates.rows r.row r.number r.there in
    let at = found_at k.shape.weak.delegates.rows r.row ((keeps.rows r.row).1 (old, v, value)) in
    record {
      number = at.0;
      row = r.row;
      there = at.1;
      map = r.map;
      key = r.key;
      to_come = λ i other is sm sk. (
          let from = carries.from_row i other is in
          come_same c h.looks.by_delegate k.looks.by_delegate i from.0 from.2
          (r.to_come from.0 other from.1 sm sk));
    }

pub carried_stay : (h k : HeapState) → Carries (weak_of h) (weak_of k) → KeepsRows h.shape.weak k.shape.weak
    → (c : MarkColour) (m n v : Place) → HasEntry k.shape m n v → left_of h c m n → left_of k c m n
carried_stay h k carries keeps c m n v has l i entry at em ek =
    let from = carries.from i entry at in
    elim (l from.0 entry from.1 em ek) [
      | inl is ↦ inl (come_same c h.looks.by_map k.looks.by_map i from.0 from.2 is)
      | inr (inl is) ↦ inr (inl (come_same c h.looks.by_key k.looks.by_key i from.0 from.3 is))
      | inr (inr r) ↦ inr (inr (row_carried h k carries keeps c m n v has r))
    ]

pub carries_stay : (h k : HeapState) → Carries (weak_of h) (weak_of k) → KeepsRows h.shape.weak k.shape.weak
    → StayLeft h k
carries_stay h k carries keeps m n v e f c l = carried_stay h k carries keeps c m n v f l

-- an entry was put: the others keep their numbers
pub record StoodBefore (es : List WeakEntry) (i : ℕ) (entry : WeakEntry) : Type 0 where
  pub before : WeakEntry
  pub at : slice_get es i ≡ Some before
  pub map_is : before.map ≡ entry.map
  pub key_is : before.key ≡ entry.key

-- an entry of a number stood there before, or is the new one
abbrev StoodOrNew : List WeakEntry → Place → Place → ℕ → WeakEntry → Type 0
StoodOrNew es a b i entry = StoodBefore es i entry ⊎ ((value_at es a b ≡ None) × (a ≡ entry.map) × (b ≡ entry.key))

put_number : (es : List WeakEntry) (a b w : Place) (i : ℕ) (entry : WeakEntry)
    → slice_get (put_at es a b w) i ≡ Some entry → StoodOrNew es a b i entry
put_number [] a b w zero entry at =
    let is : record { map = a; key = b; value = w } ≡ entry = cc at in
    inr (refl, ap (λ (e : WeakEntry). e.map) is, ap (λ (e : WeakEntry). e.key) is)
put_number [] a b w (suc i) entry at = cc at
put_number (e ∷ es) a b w i entry at = go (is_entry a b e) refl i (λ j f. put_number es a b w j entry f) at
  where
    go : (t : Bool) → is_entry a b e ≡ t → (j : ℕ)
        → ((n : ℕ) → slice_get (put_at es a b w) n ≡ Some entry → StoodOrNew es a b n entry)
        → slice_get (if t then record { map = e.map; key = e.key; value = w } ∷ es else e ∷ put_at es a b w) j
        ≡ Some entry
        → StoodOrNew (e ∷ es) a b j entry
    go true is zero rest f =
        let same : record { map = e.map; key = e.key; value = w } ≡ entry = cc f in
        inl (record {
          before = e;
          at = refl;
          map_is = ap (λ (z : WeakEntry). z.map) same;
          key_is = ap (λ (z : WeakEntry). z.key) same;
        })
    go true is (suc j) rest f = inl (record { before = entry; at = f; map_is = refl; key_is = refl })
    go false is zero rest f =
        let same : e ≡ entry = cc f in
        inl (record {
          before = e;
          at = refl;
          map_is = ap (λ (z : WeakEntry). z.map) same;
          key_is = ap (λ (z : WeakEntry). z.key) same;
        })
    go false is (suc j) rest f = elim (rest j f) [
      | inl s ↦ inl (record { before = s.before; at = s.at; map_is = s.map_is; key_is = s.key_is })
      | inr (none, em, ek) ↦ inr (ap (λ (t : Bool). if t then Some e.value else value_at es a b) is ∙ none, em, ek)
    ]

one_more : {X : Type 0} (xs : List X) (y : X) (i : ℕ) (x : X) → slice_get xs i ≡ Some x
    → slice_get (xs ++ y ∷ []) i ≡ Some x
one_more [] y i x e = cc e
one_more (z ∷ xs) y zero x e = e
one_more (z ∷ xs) y (suc i) x e = one_more xs y i x e

come_more : (c : MarkColour) (xs : List (Option MarkColour)) (i : ℕ) → IsToCome c xs i
    → IsToCome c (xs ++ None ∷ []) i
come_more c xs i (inl e) = inl (one_more xs None i (Some c) e)
come_more c xs i (inr e) = inr (one_more xs None i (Some mark.Black) e)

looks_more : (c : MarkColour) (xs : List (Option MarkColour)) (d : Option Delegate) (i : ℕ) → IsToCome c xs i
    → IsToCome c (looks_with xs d) i
looks_more c xs None i is = is
looks_more c xs (Some d) i is = come_more c xs i is

-- what is to come still is
record ComesMore (c : MarkColour) (old new : LooksState) : Type 0 where
  pub by_map : (i : ℕ) → IsToCome c old.by_map i → IsToCome c new.by_map i
  pub by_key : (i : ℕ) → IsToCome c old.by_key i → IsToCome c new.by_key i
  pub by_delegate : (i : ℕ) → IsToCome c old.by_delegate i → IsToCome c new.by_delegate i

puts_come : (c : MarkColour) (was : Option Place) (d : Option Delegate) (old new : LooksState) → PutsLeft was d old new
    → ComesMore c old new
puts_come c (Some v) d old new e = subst (λ (z : LooksState). ComesMore c old z) (sym e)
    (record { by_map = λ i is. is; by_key = λ i is. is; by_delegate = λ i is. is })
puts_come c None d old new e = subst (λ (z : LooksState). ComesMore c old z) (sym e) (record {
  by_map = come_more c old.by_map;
  by_key = come_more c old.by_key;
  by_delegate = looks_more c old.by_delegate d;
})

-- the rows after a value was put where one was, or not
abbrev pub rows_put : List DelegateRow → EntryKey → Option Place → Option Delegate → List DelegateRow
rows_put rows key was d = if is_some was then rows else rows_with rows key d

-- a row of a number stood there before, or is the new one
row_number : (rows : List DelegateRow) (key : EntryKey) (was : Option Place) (d : Option Delegate) (i : ℕ)
    (row : DelegateRow) → slice_get (rows_put rows key was d) i ≡ Some row
    → (slice_get rows i ≡ Some row) ⊎ ((was ≡ None) × (key.map ≡ row.map) × (key.key ≡ row.key))
row_number rows key (Some v) d i row at = inl at
row_number rows key None None i row at = inl at
row_number rows key None (Some d) i row at =
    elim (last rows i at) [ inl old ↦ inl old | inr same ↦ inr (refl, same.0, same.1) ]
  where
    last : (xs : List DelegateRow) (j : ℕ) → slice_get (xs ++ row_of key d ∷ []) j ≡ Some row
        → (slice_get xs j ≡ Some row) ⊎ ((key.map ≡ row.map) × (key.key ≡ row.key))
    last [] zero e =
        let same : row_of key d ≡ row = cc e in
        inr (ap (λ (r : DelegateRow). r.map) same, ap (λ (r : DelegateRow). r.key) same)
    last [] (suc j) e = cc e
    last (x ∷ xs) zero e = inl e
    last (x ∷ xs) (suc j) e = last xs j e

row_kept : (rows : List DelegateRow) (key : EntryKey) (was : Option Place) (d : Option Delegate) (i : ℕ)
    (row : DelegateRow) → slice_get rows i ≡ Some row → slice_get (rows_put rows key was d) i ≡ Some row
row_kept rows key (Some v) d i row at = at
row_kept rows key None None i row at = at
row_kept rows key None (Some d) i row at = one_more rows (row_of key d) i row at

module _ (h k : HeapState) (a b : Place) (d : Option Delegate)
    (rows : k.shape.weak.delegates.rows
    ≡ rows_put h.shape.weak.delegates.rows (record { map = a; key = b }) (value_at h.shape.weak.entries a b) d) where
  abbrev was : Option Place
  was = value_at h.shape.weak.entries a b

  -- an entry that was there is not the new one
  was_there : (m n v : Place) → HasEntry h.shape m n v → a ≡ m → b ≡ n → was ≡ None → ⊥
  was_there m n v e am bn none =
      let here : value_at h.shape.weak.entries a b ≡ Some v =
      ap (λ z. value_at h.shape.weak.entries z b) am ∙ (ap (value_at h.shape.weak.entries m) bn ∙ e) in
      cc (none, here)

  row_put : (c : MarkColour) (m n v : Place) → HasEntry h.shape m n v → ComesMore c h.looks k.looks
      → RowIsToCome (weak_of h) c m n → RowIsToCome (weak_of k) c m n
  row_put c m n v e more r = record {
    number = r.number;
    row = r.row;
    there = ap (λ (rs : List DelegateRow). slice_get rs r.number) rows
        ∙ row_kept h.shape.weak.delegates.rows (record { map = a; key = b }) was d r.number r.row r.there;
    map = r.map;
    key = r.key;
    to_come = λ i other at sm sk. elim (row_number h.shape.weak.delegates.rows (record { map = a; key = b }) was d i
        other (sym (ap (λ (rs : List DelegateRow). slice_get rs i) rows) ∙ at)) [
          | inl old ↦ more.by_delegate i (r.to_come i other old sm sk)
          | inr (none, am, bn) ↦ absurd (was_there m n v e (am ∙ sm) (bn ∙ sk) none)
        ];
  }

  pub puts_stay : (w : Place) → k.shape.weak.entries ≡ put_at h.shape.weak.entries a b w
      → PutsLeft was d h.looks k.looks → StayLeft h k
  puts_stay w put left m n v e f c l i entry at em ek =
      let there : slice_get (put_at h.shape.weak.entries a b w) i ≡ Some entry =
      sym (ap (λ (es : List WeakEntry). slice_get es i) put) ∙ at in
      let more = puts_come c was d h.looks k.looks left in
      elim (put_number h.shape.weak.entries a b w i entry there) [
        | inl s ↦ elim (l i s.before s.at (s.map_is ∙ em) (s.key_is ∙ ek)) [
          | inl is ↦ inl (more.by_map i is)
          | inr (inl is) ↦ inr (inl (more.by_key i is))
          | inr (inr r) ↦ inr (inr (row_put c m n v e more r))
        ]
        | inr (none, am, bk) ↦ absurd (was_there m n v e (am ∙ em) (bk ∙ ek) none)
      ]

-- a cell's entries were started
module _ {X : Type 0} (f : X → Place) (c : MarkColour) (x : Place) (es : List X) (old new : List (Option MarkColour))
    (s : Starts f c x es old new) where
  now_is : (i : ℕ) → slice_get new i ≡ Some (Some s.colour_now) → (s.colour_now ≡ c) ⊎ (s.colour_now ≡ mark.Black)
      → IsToCome c new i
  now_is i at (inl is) = inl (at ∙ ap (λ (z : MarkColour). Some (Some z)) is)
  now_is i at (inr is) = inr (at ∙ ap (λ (z : MarkColour). Some (Some z)) is)

  colour_is : (s.colour_now ≡ c) ⊎ (s.colour_now ≡ mark.Black)
  colour_is = elim s.is [ inl e ↦ inl e | inr e ↦ inr e.0 ]

  pub started : (i : ℕ) (entry : X) → slice_get es i ≡ Some entry → f entry ≡ x → IsToCome c new i
  started i entry at is = now_is i (s.those i entry at is) colour_is

  in_gray : (i : ℕ) → IsToCome c new i → IsToCome mark.Gray new i
  in_gray i = go c
    where
      go : (d : MarkColour) → IsToCome d new i → IsToCome mark.Gray new i
      go mark.Gray l = l
      go mark.Black (inl e) = inr e
      go mark.Black (inr e) = inr e

  pub starts_kept : (d : MarkColour) (i : ℕ) (entry : X) → slice_get es i ≡ Some entry → IsToCome d old i
      → IsToCome d new i
  starts_kept d i entry at (inr e) = inr (s.black i e)
  starts_kept mark.Black i entry at (inl e) = inr (s.black i e)
  starts_kept mark.Gray i entry at (inl e) = elim (same_or_other (f entry) x) [
    | inl is ↦ in_gray i (started i entry at is)
    | inr other ↦ inl (s.others i entry at other ∙ e)
  ]

module _ (h : HeapState) (c : MarkColour) (x : Place) (k : HeapState) (rest : k ≡ record h { looks = k.looks })
    (sound : IsSound h.shape.weak)
    (map : Starts (λ (entry : WeakEntry). entry.map) c x h.shape.weak.entries h.looks.by_map k.looks.by_map)
    (key : Starts (λ (entry : WeakEntry). entry.key) c x h.shape.weak.entries h.looks.by_key k.looks.by_key)
    (delegate : Starts (λ (row : DelegateRow). row.target) c x h.shape.weak.delegates.rows h.looks.by_delegate
    k.looks.by_delegate) where
  abbrev rows : List DelegateRow
  rows = h.shape.weak.delegates.rows

  entry_there : (i : ℕ) (entry : WeakEntry) → slice_get k.shape.weak.entries i ≡ Some entry
      → slice_get h.shape.weak.entries i ≡ Some entry
  entry_there i entry at = sym (ap (λ (z : HeapState). slice_get z.shape.weak.entries i) rest) ∙ at

  row_then : (i : ℕ) → slice_get k.shape.weak.delegates.rows i ≡ slice_get rows i
  row_then i = ap (λ (z : HeapState). slice_get z.shape.weak.delegates.rows i) rest

  -- a row of an entry has the delegate of its key
  target_is : (i : ℕ) (m n : Place) (row : DelegateRow) → delegate_of h.shape.weak m n ≡ Some x
      → slice_get rows i ≡ Some row → row.map ≡ m → row.key ≡ n → row.target ≡ x
  target_is i m n row is at em ek =
      let found = sound.delegates.found row (stood_at rows row i at) in
      same_Some row.target x
      (sym found ∙ (ap (λ z. delegate_at rows z row.key) em ∙ (ap (delegate_at rows m) ek ∙ is)))

  pub starts_entries : StartsEntries h.shape c x (left_of h) (left_of k)
  starts_entries = record {
    kept = λ d m n l i entry at em ek. elim (l i entry (entry_there i entry at) em ek) [
      | inl is ↦ inl (starts_kept (λ (entry : WeakEntry). entry.map) c x h.shape.weak.entries h.looks.by_map
          k.looks.by_map map d i entry (entry_there i entry at) is)
      | inr (inl is) ↦ inr (inl (starts_kept (λ (entry : WeakEntry). entry.key) c x h.shape.weak.entries
          h.looks.by_key k.looks.by_key key d i entry (entry_there i entry at) is))
      | inr (inr r) ↦ inr (inr (record {
        number = r.number;
        row = r.row;
        there = row_then r.number ∙ r.there;
        map = r.map;
        key = r.key;
        to_come = λ j other is sm sk. starts_kept (λ (row : DelegateRow). row.target) c x rows h.looks.by_delegate
            k.looks.by_delegate delegate d j other (sym (row_then j) ∙ is)
            (r.to_come j other (sym (row_then j) ∙ is) sm sk);
      }))
    ];
    as_map = λ n i entry at em ek. inl (started (λ (entry : WeakEntry). entry.map) c x h.shape.weak.entries
        h.looks.by_map k.looks.by_map map i entry (entry_there i entry at) em);
    as_key = λ m i entry at em ek. inr (inl (started (λ (entry : WeakEntry). entry.key) c x h.shape.weak.entries
        h.looks.by_key k.looks.by_key key i entry (entry_there i entry at) ek));
    as_delegate = λ m n is i entry at em ek. (
        let row = row_of_entry h.shape.weak m n x sound is in
        inr (inr (record {
          number = row.1;
          row = row.0;
          there = row_then row.1 ∙ row.2;
          map = row.3;
          key = row.4;
          to_come = λ j other at sm sk. started (λ (row : DelegateRow). row.target) c x rows h.looks.by_delegate
              k.looks.by_delegate delegate j other (sym (row_then j) ∙ at)
              (target_is j m n other is (sym (row_then j) ∙ at) sm sk);
        })));
  }

-- an entry was looked at
come_other : (c : MarkColour) (xs : List (Option MarkColour)) (n i : ℕ) → i ≢ n → IsToCome c xs i
    → IsToCome c (slice_set xs n None) i
come_other c xs n i ne (inl e) = inl (slice_get-set_other xs n i None ne ∙ e)
come_other c xs n i ne (inr e) = inr (slice_get-set_other xs n i None ne ∙ e)

-- what is to come after one is not, was
come_before : (d : MarkColour) (xs : List (Option MarkColour)) (n i : ℕ) → IsToCome d (slice_set xs n None) i
    → IsToCome d xs i
come_before d xs n i (inl e) =
    elim (slice_get-set_cases xs n i None (Some d) e) [ inl (same, is, within) ↦ cc is | inr (other, old) ↦ inl old ]
come_before d xs n i (inr e) = elim (slice_get-set_cases xs n i None (Some mark.Black) e)
    [ inl (same, is, within) ↦ cc is | inr (other, old) ↦ inr old ]

module _ (h : HeapState) (c : MarkColour) (e : WeakEntry) (k : HeapState) (rest : k ≡ record h { looks = k.looks })
    (looked : HasLooked c e h.shape.weak h.looks k.looks) where
  number_other : (i : ℕ) (entry : WeakEntry) → slice_get h.shape.weak.entries i ≡ Some entry
      → ((entry.map ≡ e.map) → (entry.key ≡ e.key) → ⊥) → i ≢ looked.number
  number_other i entry at apart is =
      let same = same_Some entry e (sym at ∙ (ap (slice_get h.shape.weak.entries) is ∙ looked.there)) in
      apart (ap (λ (z : WeakEntry). z.map) same) (ap (λ (z : WeakEntry). z.key) same)

  map_still : (d : MarkColour) (i : ℕ) → i ≢ looked.number → IsToCome d h.looks.by_map i → IsToCome d k.looks.by_map i
  map_still d i ne is = elim looked.looked [
    | inl (was, now) ↦ subst (λ (z : LooksState). IsToCome d z.by_map i) (sym now)
        (come_other d h.looks.by_map looked.number i ne is)
    | inr (inl (was, now)) ↦ subst (λ (z : LooksState). IsToCome d z.by_map i) (sym now) is
    | inr (inr (n, row, was, now)) ↦ subst (λ (z : LooksState). IsToCome d z.by_map i) (sym now) is
  ]

  key_still : (d : MarkColour) (i : ℕ) → i ≢ looked.number → IsToCome d h.looks.by_key i → IsToCome d k.looks.by_key i
  key_still d i ne is = elim looked.looked [
    | inl (was, now) ↦ subst (λ (z : LooksState). IsToCome d z.by_key i) (sym now) is
    | inr (inl (was, now)) ↦ subst (λ (z : LooksState). IsToCome d z.by_key i) (sym now)
        (come_other d h.looks.by_key looked.number i ne is)
    | inr (inr (n, row, was, now)) ↦ subst (λ (z : LooksState). IsToCome d z.by_key i) (sym now) is
  ]

  -- a row of another entry
  delegate_still : (d : MarkColour) (i : ℕ) (row : DelegateRow) → slice_get h.shape.weak.delegates.rows i ≡ Some row
      → ((row.map ≡ e.map) → (row.key ≡ e.key) → ⊥) → IsToCome d h.looks.by_delegate i
      → IsToCome d k.looks.by_delegate i
  delegate_still d i row at apart is = elim looked.looked [
    | inl (was, now) ↦ subst (λ (z : LooksState). IsToCome d z.by_delegate i) (sym now) is
    | inr (inl (was, now)) ↦ subst (λ (z : LooksState). IsToCome d z.by_delegate i) (sym now) is
    | inr (inr (n, here, was, now)) ↦ subst (λ (z : LooksState). IsToCome d z.by_delegate i) (sym now)
        (come_other d h.looks.by_delegate n i (λ same. (
        let one = same_Some row here.row
        (sym at ∙ (ap (slice_get h.shape.weak.delegates.rows) same ∙ here.there)) in
        apart (ap (λ (z : DelegateRow). z.map) one ∙ here.map) (ap (λ (z : DelegateRow). z.key) one ∙ here.key))) is)
  ]

  row_same : (i : ℕ) → slice_get k.shape.weak.delegates.rows i ≡ slice_get h.shape.weak.delegates.rows i
  row_same i = ap (λ (z : HeapState). slice_get z.shape.weak.delegates.rows i) rest

  still_left : (d : MarkColour) (m n : Place) → ((m ≡ e.map) → (n ≡ e.key) → ⊥) → left_of h d m n → left_of k d m n
  still_left d m n apart l i entry at em ek =
      let there : slice_get h.shape.weak.entries i ≡ Some entry =
      sym (ap (λ (z : HeapState). slice_get z.shape.weak.entries i) rest) ∙ at in
      let ne = number_other i entry there (λ is_a is_b. apart (sym em ∙ is_a) (sym ek ∙ is_b)) in
      elim (l i entry there em ek) [
        | inl is ↦ inl (map_still d i ne is)
        | inr (inl is) ↦ inr (inl (key_still d i ne is))
        | inr (inr r) ↦ inr (inr (record {
          number = r.number;
          row = r.row;
          there = row_same r.number ∙ r.there;
          map = r.map;
          key = r.key;
          to_come = λ j other is sm sk. delegate_still d j other (sym (row_same j) ∙ is)
              (λ is_a is_b. apart (sym sm ∙ is_a) (sym sk ∙ is_b)) (r.to_come j other (sym (row_same j) ∙ is) sm sk);
        }))
      ]

  pub looked_others : LeavesOthers e.map e.key (left_of h) (left_of k)
  looked_others d m n l = elim (same_or_other m e.map) [
    | inl is_a ↦ elim (same_or_other n e.key) [
      | inl is_b ↦ inr (is_a, is_b)
      | inr other ↦ inl (still_left d m n (λ e f. other f) l)
    ]
    | inr other ↦ inl (still_left d m n (λ e f. other e) l)
  ]

  -- what is left was left
  map_before : (d : MarkColour) (i : ℕ) → IsToCome d k.looks.by_map i → IsToCome d h.looks.by_map i
  map_before d i is = elim looked.looked [
    | inl (was, now) ↦ come_before d h.looks.by_map looked.number i
        (subst (λ (z : LooksState). IsToCome d z.by_map i) now is)
    | inr (inl (was, now)) ↦ subst (λ (z : LooksState). IsToCome d z.by_map i) now is
    | inr (inr (n, row, was, now)) ↦ subst (λ (z : LooksState). IsToCome d z.by_map i) now is
  ]

  key_before : (d : MarkColour) (i : ℕ) → IsToCome d k.looks.by_key i → IsToCome d h.looks.by_key i
  key_before d i is = elim looked.looked [
    | inl (was, now) ↦ subst (λ (z : LooksState). IsToCome d z.by_key i) now is
    | inr (inl (was, now)) ↦ come_before d h.looks.by_key looked.number i
        (subst (λ (z : LooksState). IsToCome d z.by_key i) now is)
    | inr (inr (n, row, was, now)) ↦ subst (λ (z : LooksState). IsToCome d z.by_key i) now is
  ]

  delegate_before : (d : MarkColour) (i : ℕ) → IsToCome d k.looks.by_delegate i → IsToCome d h.looks.by_delegate i
  delegate_before d i is = elim looked.looked [
    | inl (was, now) ↦ subst (λ (z : LooksState). IsToCome d z.by_delegate i) now is
    | inr (inl (was, now)) ↦ subst (λ (z : LooksState). IsToCome d z.by_delegate i) now is
    | inr (inr (n, row, was, now)) ↦ come_before d h.looks.by_delegate n i
        (subst (λ (z : LooksState). IsToCome d z.by_delegate i) now is)
  ]

  pub looked_before : (d : MarkColour) (m n : Place) → left_of k d m n → left_of h d m n
  looked_before d m n l i entry at em ek =
      elim (l i entry (ap (λ (z : HeapState). slice_get z.shape.weak.entries i) rest ∙ at) em ek) [
        | inl is ↦ inl (map_before d i is)
        | inr (inl is) ↦ inr (inl (key_before d i is))
        | inr (inr r) ↦ inr (inr (record {
          number = r.number;
          row = r.row;
          there = sym (row_same r.number) ∙ r.there;
          map = r.map;
          key = r.key;
          to_come = λ j other is sm sk. delegate_before d j (r.to_come j other (row_same j ∙ is) sm sk);
        }))
      ]

-- the number of an entry
entry_number : (es : List WeakEntry) (m n v : Place) → value_at es m n ≡ Some v
    → (i : ℕ) × (slice_get es i ≡ Some (record { map = m; key = n; value = v }))
entry_number es m n v e =
    let has = Contains-found es m n v e in
    (has.0, stands_at es (record { map = m; key = n; value = v }) has.0 has.1 has.2)

-- where nothing is to be looked at in a colour, and for gray in black neither, no entry is left in it
pub none_left : (h : HeapState) (c : MarkColour) → NoneLeft c h.looks → NoneLeft mark.Black h.looks
    → (m n v : Place) → HasEntry h.shape m n v → left_of h c m n → ⊥
none_left h c none black m n v e l =
    let at = entry_number h.shape.weak.entries m n v e in
    elim (l at.0 (record { map = m; key = n; value = v }) at.1 refl refl) [
      | inl (inl is) ↦ (none.0 at.0).0 is
      | inl (inr is) ↦ (black.0 at.0).0 is
      | inr (inl (inl is)) ↦ (none.0 at.0).1 is
      | inr (inl (inr is)) ↦ (black.0 at.0).1 is
      | inr (inr r) ↦ elim (r.to_come r.number r.row r.there r.map r.key)
          [ inl is ↦ none.1 r.number is | inr is ↦ black.1 r.number is ]
    ]
