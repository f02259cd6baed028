-- The entries and the rows of those whose key is a wrapper, together.
use Rattle.std.proofs.Common.{◌≡◌, ◌≢◌, ◌<◌, ◌+◌, get_or, is_some, set, sum_by, ◌&&◌, ◌++◌, ◌∷◌}
use Rattle.std.proofs.Common.{[], inl, inr, ℕ, Bool, true, false, cond, List, Option, Some}
use Rattle.std.proofs.Common.{None, Result, Ok, Err, OnOk, OnErr, Contains, IfNone, IfSome, arith, length, refl, sym}
use Rattle.std.proofs.Common.{slice_get, unwrap_or, ◌∙◌, ap, subst}
use Rattle.std.specs.Option.{option_map}
use Rattle.std.proofs.lemmas.List.Elements.{Contains-append_cases}
use Rattle.std.proofs.lemmas.Bool.{false≢true}
use Rattle.std.proofs.lemmas.List.Sums.{sum_by-set}
use Rattle.std.proofs.lemmas.Option.{get_or_from_slice_get, slice_get-map, slice_get_within, same_Some}
use Rattle.gz_names.specs.declared.numbers.Place.{Place}
use Rattle.weak_maps.specs.Places.{is_same}
use Rattle.weak_maps.specs.Entries.{AreEntries, EntriesState, HaveLooks, value_at}
use Rattle.weak_maps.specs.Delegates.{AreSoundRows, DelegateRow, DelegatesState, LooksAtRow, TakesRow, key_of_row}
use Rattle.weak_maps.specs.Delegates.{delegate_at, is_row, row_of, rows_of_target, rows_of_zone, rows_shown}
use Rattle.weak_maps.specs.WeakMaps.{Carries, IsLeftFewer, NoneLeft}
use Rattle.weak_maps.specs.WeakMaps.{WeakMapsState}
use Rattle.weak_maps.specs.WeakMaps.{AreParallel, HasLooked, HaveEntries, IsKept, IsSound, KeepsRows, LooksState}
use Rattle.weak_maps.specs.WeakMaps.{WeakTableState, entry_of_row, listed_of_delegate, maps_delegated_in, state_with}
use Rattle.weak_maps.specs.WeakMaps.{rows_with, target_of, value_of}
use Rattle.weak_maps.specs.declared.colours.MarkColour.{MarkColour}
use Rattle.weak_maps.specs.declared.delegates.Delegate.{Delegate}
use Rattle.weak_maps.specs.declared.entries.EntryKey.{EntryKey}
use Rattle.weak_maps.specs.declared.entries.WeakEntry.{WeakEntry}
use Rattle.weak_maps.proofs.Places.{is_same-flip, is_same-self, is_same-true}
use Rattle.weak_maps.proofs.Reading.{slice_get-set_cases}
use Rattle.weak_maps.proofs.Rows.{AreDelegates-sound, found_row}
use Rattle.weak_maps.proofs.Siding.{Contains-at}
use Rattle.weak_maps.proofs.Sound.{Contains-cases, stands_at}
use Rattle.weak_maps.proofs.Table.{and-true}
use Rattle.weak_maps.proofs.Tying.{same_length}

pub IsSound-kept : (e : EntriesState) (d : DelegatesState) → IsKept e d → IsSound (state_with e d).table
IsSound-kept e d kept = record {
  distinct = kept.entries.distinct;
  found = kept.entries.found;
  of_map = kept.entries.of_map;
  of_key = kept.entries.of_key;
  delegates = AreDelegates-sound d kept.rows;
  entered = kept.entered;
}

pub AreParallel-kept : (e : EntriesState) (d : DelegatesState) → IsKept e d → AreParallel (state_with e d)
AreParallel-kept e d kept =
    (kept.looks.0, kept.looks.1, same_length (λ (row : DelegateRow). row.target) d.rows d.by_target kept.rows.targets)

-- an entry, by what it is found by
abbrev pub entry_with : EntryKey → Place → WeakEntry
entry_with key v = record { map = key.map; key = key.key; value = v }

-- entries and rows are as they were, but for what is still to be looked at
pub kept_looks : (e e' : EntriesState) (d d' : DelegatesState) → IsKept e d → e'.table ≡ e.table → AreEntries e'.table
    → HaveLooks e' → rows_shown d' ≡ rows_shown d → AreSoundRows d' → IsKept e' d'
kept_looks e e' d d' kept table entries looks shows rows = record {
  entries = entries;
  looks = looks;
  rows = rows;
  entered = subst (λ rs. HaveEntries rs e'.table.entries) (sym (ap (λ t. t.rows) shows))
      (subst (λ t. HaveEntries d.rows t.entries) (sym table) kept.entered);
}

-- no row without its entry
pub no_row_without : (rows : List DelegateRow) (entries : List WeakEntry) (m k : Place) → HaveEntries rows entries
    → value_at entries m k ≡ None → delegate_at rows m k ≡ None
no_row_without rows entries m k entered none = by (delegate_at rows m k) refl
  where
    by : (o : Option Place) → delegate_at rows m k ≡ o → o ≡ None
    by None is = refl
    by (Some t) is =
        let row = found_row rows m k t is in
        let value = entered (record { map = m; key = k; target = t; zone = row.0 }) row.1 in
        absurd (cc (sym none ∙ value.1))

-- what the keys lead to after the row of one came, which had none
pub delegate-added : (rows : List DelegateRow) (key : EntryKey) (d : Option Delegate)
    → delegate_at rows key.map key.key ≡ None → (m k : Place)
    → delegate_at (rows_with rows key d) m k
    ≡ cond (is_same key.map m && is_same key.key k) (target_of d) (delegate_at rows m k)
delegate-added rows key None none m k = by (is_same key.map m && is_same key.key k) refl
  where
    by : (b : Bool) → (is_same key.map m && is_same key.key k) ≡ b
        → delegate_at rows m k ≡ cond b None (delegate_at rows m k)
    by false e = refl
    by true e =
        (let both = and-true (is_same key.map m) (is_same key.key k) e in
        (λ j. delegate_at rows (sym (is_same-true key.map m both.0) j) (sym (is_same-true key.key k both.1) j)) ∙ none)
delegate-added rows key (Some d) none m k = at_end rows none
  where
    other : (x : DelegateRow) → is_row m k x ≡ true → is_row key.map key.key x ≡ false → (b : Bool)
        → (is_same key.map m && is_same key.key k) ≡ b → Some x.target ≡ cond b (Some d.target) (Some x.target)
    other x e f false is = refl
    other x e f true is =
        let both = and-true (is_same key.map m) (is_same key.key k) is in
        let maps = is_same-true key.map m both.0 in
        let keys = is_same-true key.key k both.1 in
        absurd (false≢true (sym f ∙ ((λ j. is_row (maps j) (keys j) x) ∙ e)))

    step : (x : DelegateRow) (xs : List DelegateRow) (b : Bool) → is_row m k x ≡ b → (a : Bool)
        → is_row key.map key.key x ≡ a → cond a (Some x.target) (delegate_at xs key.map key.key) ≡ None
        → (delegate_at xs key.map key.key ≡ None → delegate_at (xs ++ row_of key d ∷ []) m k
        ≡ cond (is_same key.map m && is_same key.key k) (Some d.target) (delegate_at xs m k))
        → cond b (Some x.target) (delegate_at (xs ++ row_of key d ∷ []) m k)
        ≡ cond (is_same key.map m && is_same key.key k) (Some d.target) (cond b (Some x.target) (delegate_at xs m k))
    step x xs b e true f n rest = absurd (cc n)
    step x xs false e false f n rest = rest n
    step x xs true e false f n rest = other x e f (is_same key.map m && is_same key.key k) refl

    at_end : (xs : List DelegateRow) → delegate_at xs key.map key.key ≡ None
        → delegate_at (xs ++ row_of key d ∷ []) m k
        ≡ cond (is_same key.map m && is_same key.key k) (Some d.target) (delegate_at xs m k)
    at_end [] n = (λ j. cond (is_same-flip m key.map j && is_same-flip k key.key j) (Some d.target) None)
    at_end (x ∷ xs) n =
        step x xs (is_row m k x) refl (is_row key.map key.key x) refl n (at_end xs)

-- a value is written, or an entry is added
pub entered-put : (rows : List DelegateRow) (old new : List WeakEntry) (m k v : Place)
    → ((n l : Place) → value_at new n l ≡ cond (is_same m n && is_same k l) (Some v) (value_at old n l))
    → HaveEntries rows old → HaveEntries rows new
entered-put rows old new m k v found entered row has = by (is_same m row.map && is_same k row.key) refl
  where
    by : (b : Bool) → (is_same m row.map && is_same k row.key) ≡ b
        → (w : Place) × (value_at new row.map row.key ≡ Some w)
    by true is = (v, found row.map row.key ∙ ap (λ b. cond b (Some v) (value_at old row.map row.key)) is)
    by false is = (
      (entered row has).0,
      found row.map row.key ∙ (ap (λ b. cond b (Some v) (value_at old row.map row.key)) is ∙ (entered row has).1),
    )

-- where it was tried
pub entered-tried : {T E : Type 0} (rows : List DelegateRow) (old new : EntriesState) (m k v : Place) (r : Result T E)
    → OnOk r ((n l : Place) → value_at new.table.entries n l
    ≡ cond (is_same m n && is_same k l) (Some v) (value_at old.table.entries n l)) → OnErr r (new ≡ old)
    → HaveEntries rows old.table.entries → HaveEntries rows new.table.entries
entered-tried rows old new m k v (Ok x) found same entered =
    entered-put rows old.table.entries new.table.entries m k v found entered
entered-tried rows old new m k v (Err e) found same entered =
    subst (λ (s : EntriesState). HaveEntries rows s.table.entries) (sym same) entered

-- the row of the entry that has come comes too
pub entered-added : (rows : List DelegateRow) (row : DelegateRow) (entries : List WeakEntry) (v : Place)
    → value_at entries row.map row.key ≡ Some v → HaveEntries rows entries → HaveEntries (rows ++ row ∷ []) entries
entered-added rows row entries v there entered r has = elim (Contains-append_cases rows (row ∷ []) r has) [
  | inl old ↦ entered r old
  | inr new ↦ elim (Contains-cases row [] r new) [
    | inl same ↦ (v, (λ j. value_at entries (sym same j).map (sym same j).key) ∙ there)
    | inr none ↦ absurd (omega (arith, none.1))
  ]
]

-- an entry goes, with its row
pub entered-taken : (rows rest : List DelegateRow) (old new : List WeakEntry) (key : EntryKey) → TakesRow key rows rest
    → ((n l : Place) → value_at new n l ≡ cond (is_same key.map n && is_same key.key l) None (value_at old n l))
    → HaveEntries rows old → HaveEntries rest new
entered-taken rows rest old new key takes found entered row has =
    by (is_same key.map row.map && is_same key.key row.key) refl
  where
    by : (b : Bool) → (is_same key.map row.map && is_same key.key row.key) ≡ b
        → (w : Place) × (value_at new row.map row.key ≡ Some w)
    by true is =
        let both = and-true (is_same key.map row.map) (is_same key.key row.key) is in
        let maps = is_same-true key.map row.map both.0 in
        let keys = is_same-true key.key row.key both.1 in
        absurd (((takes.rows row).0 has).1 (λ j. record { map = sym maps j; key = sym keys j }))
    by false is =
        let old_value = entered row ((takes.rows row).0 has).0 in (
          old_value.0,
          found row.map row.key
              ∙ (ap (λ b. cond b None (value_at old row.map row.key)) is ∙ old_value.1),
        )

-- the rows of the entries that stay are those that stay
pub KeepsRows-taken : (old new : WeakTableState) (key : EntryKey) → IsSound old
    → TakesRow key old.delegates.rows new.delegates.rows
    → ((n l : Place) → value_of new n l ≡ cond (is_same key.map n && is_same key.key l) None (value_of old n l))
    → KeepsRows old new
KeepsRows-taken old new key sound takes found = record {
  rows = λ row. (kept row, stays row);
  delegates = λ m k v there. same m k v there (is_same key.map m && is_same key.key k) refl;
}
  where
    same : (m k v : Place) → value_of new m k ≡ Some v → (b : Bool)
        → (is_same key.map m && is_same key.key k) ≡ b
        → delegate_at new.delegates.rows m k ≡ delegate_at old.delegates.rows m k
    same m k v there true is =
        absurd (cc (sym there ∙ (found m k ∙ ap (λ b. cond b None (value_of old m k)) is)))
    same m k v there false is =
        takes.found m k ∙ ap (λ b. cond b None (delegate_at old.delegates.rows m k)) is

    gone : value_of new key.map key.key ≡ None
    gone = found key.map key.key
        ∙ (λ j. cond (is_same-self key.map j && is_same-self key.key j) None (value_of old key.map key.key))

    kept : (row : DelegateRow) → Contains new.delegates.rows row
        → Contains old.delegates.rows row × (v : Place) × (value_of new row.map row.key ≡ Some v)
    kept row has =
        let value = entered-taken old.delegates.rows new.delegates.rows old.entries new.entries key takes found
        sound.entered row has in
        (((takes.rows row).0 has).0, value.0, value.1)

    stays : (row : DelegateRow)
        → Contains old.delegates.rows row × (v : Place) × (value_of new row.map row.key ≡ Some v)
        → Contains new.delegates.rows row
    stays row (has, v, there) =
        (takes.rows row).1 (has, λ same. cc (sym there ∙ ((λ j. value_of new (same j).map (same j).key) ∙ gone)))

-- nothing is taken out
pub KeepsRows-same : (weak : WeakTableState) → IsSound weak → KeepsRows weak weak
KeepsRows-same weak sound = record {
  rows = λ row. (λ has. (has, (sound.entered row has).0, (sound.entered row has).1), λ both. both.0);
  delegates = λ m k v there. refl;
}

-- one walk after another, where no value comes
pub KeepsRows-trans : (old mid new : WeakTableState)
    → ((m k v : Place) → value_of new m k ≡ Some v → value_of mid m k ≡ Some v) → KeepsRows old mid → KeepsRows mid new
    → KeepsRows old new
KeepsRows-trans old mid new before first second = record {
  rows = λ row. (
    λ has. (let last = (second.rows row).0 has in (((first.rows row).0 last.0).0, last.1, last.2)),
    λ both. (second.rows row).1
        ((first.rows row).1 (both.0, both.1, before row.map row.key both.1 both.2), both.1, both.2),
  );
  delegates = λ m k v there. second.delegates m k v there ∙ first.delegates m k v (before m k v there);
}

pub Carries-same : (weak : WeakMapsState) → Carries weak weak
Carries-same weak = record { from = λ i e at. (i, at, refl, refl); from_row = λ i row at. (i, at, refl) }

pub Carries-trans : (a b c : WeakMapsState) → Carries a b → Carries b c → Carries a c
Carries-trans a b c first second = record {
  from = λ i e at. (let mid = second.from i e at in let old = first.from mid.0 e mid.1 in
      (old.0, old.1, mid.2 ∙ old.2, mid.3 ∙ old.3));
  from_row = λ i row at. (let mid = second.from_row i row at in let old = first.from_row mid.0 row mid.1 in
      (old.0, old.1, mid.2 ∙ old.2));
}

-- how much is left to be looked at
abbrev one_left : Option MarkColour → ℕ
one_left None = 0
one_left (Some c) = 1

abbrev pub looks_left : LooksState → ℕ
looks_left looks = sum_by one_left looks.by_map + sum_by one_left looks.by_key + sum_by one_left looks.by_delegate

less_left : (left : List (Option MarkColour)) (n : ℕ) (c : MarkColour) → slice_get left n ≡ Some (Some c)
    → sum_by one_left (set left n None) + 1 ≡ sum_by one_left left
less_left left n c at =
    let sums = sum_by-set one_left left n None (Some c) (slice_get_within left n (Some c) at) in
    let one : one_left (get_or left n (Some c)) ≡ 1 =
    ap one_left (get_or_from_slice_get left n (Some c) (Some c) at) in
    omega (arith, sums, one)

pub HasLooked-less : (weak : WeakTableState) (old new : LooksState) (c : MarkColour) (e : WeakEntry)
    → HasLooked c e weak old new → looks_left new < looks_left old
HasLooked-less weak old new c e looks = elim looks.looked [
  | inl (at, is) ↦ (let less = less_left old.by_map looks.number c at in
      subst (λ (l : LooksState). looks_left l < looks_left old) (sym is) (omega (arith, less)))
  | inr (inl (at, is)) ↦ (let less = less_left old.by_key looks.number c at in
      subst (λ (l : LooksState). looks_left l < looks_left old) (sym is) (omega (arith, less)))
  | inr (inr (n, row, at, is)) ↦ (let less = less_left old.by_delegate n c at in
      subst (λ (l : LooksState). looks_left l < looks_left old) (sym is) (omega (arith, less)))
]

-- where an entry was looked for
pub tried-less : (weak : WeakTableState) (old new : LooksState) (c : MarkColour) (o : Option WeakEntry)
    → IfSome o (λ e. HasLooked c e weak old new) → true ≡ is_some o → looks_left new < looks_left old
tried-less weak old new c None looked some = absurd (false≢true (sym some))
tried-less weak old new c (Some e) looked some = HasLooked-less weak old new c e looked

none_set : (c d : MarkColour) (left : List (Option MarkColour)) (n x : ℕ) → slice_get left x ≢ Some (Some d)
    → slice_get (set left n None) x ≢ Some (Some d)
none_set c d left n x none h = elim (slice_get-set_cases left n x None (Some d) h) [
  | inl (same, is, within) ↦ cc is
  | inr (other, old) ↦ none old
]

pub HasLooked-fewer : (weak : WeakTableState) (old new : LooksState) (c : MarkColour) (e : WeakEntry)
    → HasLooked c e weak old new → IsLeftFewer old new
HasLooked-fewer weak old new c e looks d none = elim looks.looked [
  | inl (at, is) ↦ subst (NoneLeft d) (sym is)
      ((λ x. (none_set c d old.by_map looks.number x (none.0 x).0, (none.0 x).1)), none.1)
  | inr (inl (at, is)) ↦ subst (NoneLeft d) (sym is)
      ((λ x. ((none.0 x).0, none_set c d old.by_key looks.number x (none.0 x).1)), none.1)
  | inr (inr (n, row, at, is)) ↦ subst (NoneLeft d) (sym is)
      (none.0, λ x. none_set c d old.by_delegate n x (none.1 x))
]

pub tried-fewer : (weak : WeakTableState) (old new : LooksState) (c : MarkColour) (o : Option WeakEntry)
    → IfSome o (λ e. HasLooked c e weak old new) → IfNone o ((new ≡ old) × NoneLeft c old) → IsLeftFewer old new
tried-fewer weak old new c None looked none d left = subst (NoneLeft d) (sym none.0) left
tried-fewer weak old new c (Some e) looked none d left = HasLooked-fewer weak old new c e looked d left

-- an entry of a row that is listed
module _ (weak : WeakTableState) (sound : IsSound weak) (p : Place) (i : ℕ) where
  pub entry_listed : (key : EntryKey)
      → Some key ≡ option_map key_of_row (slice_get (rows_of_target weak.delegates p) i)
      → option_map (entry_with key) (value_of weak key.map key.key)
      ≡ slice_get (listed_of_delegate weak p) i
  entry_listed key h = by (slice_get (rows_of_target weak.delegates p) i) refl h
    where
      by : (o : Option DelegateRow) → slice_get (rows_of_target weak.delegates p) i ≡ o
          → Some key ≡ option_map key_of_row o
          → option_map (entry_with key) (value_of weak key.map key.key)
          ≡ slice_get (listed_of_delegate weak p) i
      by None at is = cc is
      by (Some row) at is =
          let same : key ≡ key_of_row row = same_Some _ _ is in
          let there = (sound.delegates.of_target p row).0 (Contains-at (rows_of_target weak.delegates p) i row at) in
          let value = sound.entered row there.0 in
          (λ j. option_map (entry_with (same j)) (value_of weak (same j).map (same j).key))
          ∙ (ap (option_map (entry_with (key_of_row row))) value.1
          ∙ (ap (λ o. Some (entry_with (key_of_row row) (unwrap_or o row.target))) (sym value.1)
          ∙ sym (slice_get-map (entry_of_row weak) (rows_of_target weak.delegates p) i
          ∙ ap (option_map (entry_of_row weak)) at)))

  pub no_entry_listed : None ≡ option_map key_of_row (slice_get (rows_of_target weak.delegates p) i)
      → None ≡ slice_get (listed_of_delegate weak p) i
  no_entry_listed h =
      by (slice_get (rows_of_target weak.delegates p) i) h
      ∙ sym (slice_get-map (entry_of_row weak) (rows_of_target weak.delegates p) i)
    where
      by : (o : Option DelegateRow) → None ≡ option_map key_of_row o → None ≡ option_map (entry_of_row weak) o
      by None is = refl
      by (Some row) is = cc is

-- the map of a row that is listed
pub map_listed : (weak : WeakTableState) (z i : ℕ) (o : Option EntryKey)
    → o ≡ option_map key_of_row (slice_get (rows_of_zone weak.delegates z) i)
    → option_map (λ (key : EntryKey). key.map) o ≡ slice_get (maps_delegated_in weak z) i
map_listed weak z i o h =
    ap (option_map (λ (key : EntryKey). key.map)) h
    ∙ (by (slice_get (rows_of_zone weak.delegates z) i)
    ∙ sym (slice_get-map (λ (row : DelegateRow). row.map) (rows_of_zone weak.delegates z) i))
  where
    by : (r : Option DelegateRow)
        → option_map (λ (key : EntryKey). key.map) (option_map key_of_row r)
        ≡ option_map (λ (row : DelegateRow). row.map) r
    by None = refl
    by (Some row) = refl

-- where there is no entry, there is no row
pub no_rows_without : (weak : WeakTableState) → IsSound weak → length weak.entries ≡ 0
    → length weak.delegates.rows ≡ 0
no_rows_without weak sound none = by weak.delegates.rows sound.entered
  where
    empty : (es : List WeakEntry) (m k v : Place) → length es ≡ 0 → value_at es m k ≡ Some v → ⊥
    empty [] m k v is found = cc found
    empty (e ∷ es) m k v is found = omega (arith, is)

    by : (rows : List DelegateRow) → HaveEntries rows weak.entries → length rows ≡ 0
    by [] entered = refl
    by (row ∷ rows) entered =
        let value = entered row (Contains-at (row ∷ rows) 0 row refl) in
        absurd (empty weak.entries row.map row.key value.0 none value.1)

-- the entry of a row that was looked at
pub HasLooked-row : (weak : WeakTableState) (old new : LooksState) (c : MarkColour) (key : EntryKey)
    (o : Option WeakEntry) → IsSound weak → LooksAtRow c key weak.delegates.rows old.by_delegate new.by_delegate
    → new ≡ record old { by_delegate = new.by_delegate }
    → o ≡ option_map (entry_with key) (value_of weak key.map key.key)
    → (e : WeakEntry) × (o ≡ Some e) × HasLooked c e weak old new
HasLooked-row weak old new c key o sound looks rest is =
    let there = Contains-at weak.delegates.rows looks.number looks.row looks.there in
    let value = sound.entered looks.row there in
    let found : value_of weak key.map key.key ≡ Some value.0 =
    (λ j. value_of weak (sym looks.is j).map (sym looks.is j).key) ∙ value.1 in
    let entry : WeakEntry = record { map = key.map; key = key.key; value = value.0 } in
    let at = stands_at weak.entries entry ((sound.found key.map key.key value.0).1 found) in (
      entry,
      is ∙ ap (option_map (entry_with key)) found,
      record {
        number = at.0;
        there = at.1;
        looked = inr (inr (
          looks.number,
          record {
            row = looks.row;
            there = looks.there;
            map = ap (λ (k : EntryKey). k.map) looks.is;
            key = ap (λ (k : EntryKey). k.key) looks.is;
          },
          looks.was_left,
          rest ∙ ap (λ left. record old { by_delegate = left }) looks.new_is,
        ));
      },
    )
