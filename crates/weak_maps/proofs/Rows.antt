-- The rows of keys that are wrappers, as their table holds them.
use Rattle.std.proofs.Common.{◌≡◌, ◌≢◌, ◌↔◌, ◌<◌, ◌-◌, ◌&&◌, inl, inr, ℕ, Bool, true, false, cond, List, [], ◌∷◌}
use Rattle.std.proofs.Common.{◌++◌, Contains, IfSome, length, map, slice_get, Option, Some, None, refl, sym}
use Rattle.std.proofs.Common.{◌∙◌, ap, subst, arith, unwrap_or, suc}
use Rattle.std.specs.Option.{option_map}
use Rattle.std.specs.List.{IsDistinct, swap_remove}
use Rattle.std.specs.Map.{keys_of, lookup}
use Rattle.std.specs.declared.hash.FoldHasher.{FoldHasher}
use Rattle.std.specs.declared.hash.BuildHasherDefault.{BuildHasherDefault}
use Rattle.std.proofs.lemmas.List.{length-map, map-append}
use Rattle.std.proofs.lemmas.List.Elements.{Contains-get_or}
use Rattle.std.proofs.lemmas.Option.{get_or_from_slice_get, slice_get-map, slice_get-get_or, slice_get_within}
use Rattle.indexmap.specs.IndexMap.{IndexMap, insert_entry}
use Rattle.indexmap.proofs.CallerLemmas.{insert_entry-new}
use Rattle.gz_names.specs.declared.numbers.Place.{Place}
use Rattle.weak_maps.specs.Places.{is_same}
use Rattle.weak_maps.specs.Sides.{SideState, listed, shown}
use Rattle.weak_maps.specs.Entries.{IsFor, list_of}
use Rattle.weak_maps.specs.Tables.{is_key}
use Rattle.weak_maps.specs.Delegates.{AreDelegates, AreDistinctRows, AreSoundRows, DelegateRow, DelegatesState}
use Rattle.weak_maps.specs.Delegates.{TakesRow, delegate_at, is_row, key_of_row, place_of_zone, row_numbered, row_of}
use Rattle.weak_maps.specs.Delegates.{rows_of, rows_shown}
use Rattle.weak_maps.specs.declared.delegates.Delegate.{Delegate}
use Rattle.weak_maps.specs.declared.entries.EntryKey.{EntryKey}
use Rattle.weak_maps.proofs.Places.{is_same-true, is_same-self}
use Rattle.weak_maps.proofs.Reading.{swap_remove_cases}
use Rattle.weak_maps.proofs.Siding.{Contains-at}
use Rattle.weak_maps.proofs.Listed.{listed_at, listed_none}
use Rattle.weak_maps.proofs.Sound.{Contains-cases, Contains-tail, list_of-side, listed_entry, listed_exact, stands_at}
use Rattle.weak_maps.proofs.SwapRemove.{at_other, swap_remove-map}
use Rattle.weak_maps.proofs.Table.{and-true, distinct-from_unique}

abbrev pub RowTable : Type 0
RowTable = IndexMap EntryKey Delegate (BuildHasherDefault FoldHasher)

abbrev pub seen_row : EntryKey × Delegate → DelegateRow
seen_row e = row_of e.0 e.1

-- what is found
abbrev pub target_in : Option Delegate → Option Place
target_in o = option_map (λ (d : Delegate). d.target) o

delegate_at-seen : (es : List (EntryKey × Delegate)) (m k : Place)
    → delegate_at (map seen_row es) m k ≡ target_in (lookup (is_key (record { map = m; key = k })) es)
delegate_at-seen [] m k = refl
delegate_at-seen (e ∷ es) m k = by (is_row m k (seen_row e)) (delegate_at-seen es m k)
  where
    by : (b : Bool)
        → delegate_at (map seen_row es) m k ≡ target_in (lookup (is_key (record { map = m; key = k })) es)
        → cond b (Some e.1.target) (delegate_at (map seen_row es) m k)
        ≡ target_in (cond b (Some e.1) (lookup (is_key (record { map = m; key = k })) es))
    by true rest = refl
    by false rest = rest

pub target_at : (table : RowTable) (m k : Place)
    → delegate_at (rows_of table) m k ≡ target_in (lookup (is_key (record { map = m; key = k })) table.entries)
target_at table m k = delegate_at-seen table.entries m k

none_within : (o : Option Delegate) → target_in o ≡ None → o ≡ None
none_within None h = refl
none_within (Some d) h = cc h

-- no key of a map has two rows
pub rows_apart : (table : RowTable) → IsDistinct is_key (keys_of table.entries) → AreDistinctRows (rows_of table)
rows_apart table unique = distinct-from_unique seen_row key_of_row (λ e. refl) table.entries unique

-- a new row goes last
pub rows_inserted : (old mid new : RowTable) (key : EntryKey) (d : Delegate) → mid.entries ≡ old.entries
    → delegate_at (rows_of old) key.map key.key ≡ None → new.entries ≡ insert_entry is_key mid.entries key d
    → rows_of new ≡ rows_of old ++ row_of key d ∷ []
rows_inserted old mid new key d same none h =
    ap (map seen_row) (h
    ∙ (ap (λ es. insert_entry is_key es key d) same
    ∙ insert_entry-new is_key old key d (none_within _ (sym (target_at old key.map key.key) ∙ none))))
    ∙ map-append seen_row old.entries ((key, d) ∷ [])

-- what was taken
pub record TakenRow (old new : RowTable) (i : ℕ) : Type 0 where
  pub row : DelegateRow
  pub there : slice_get (rows_of old) i ≡ Some row
  pub rows : rows_of new ≡ swap_remove (rows_of old) i row
  pub found : (m k : Place) → delegate_at (rows_of new) m k ≡ cond (is_same row.map m && is_same row.key k) None
      (delegate_at (rows_of old) m k)

pub taken_row : (old new : RowTable) (i : ℕ) (r : Option (EntryKey × Delegate)) → r ≡ slice_get old.entries i
    → IfSome r (λ p. new.entries ≡ swap_remove old.entries i p)
    → IfSome r (λ p. (key : EntryKey)
    → lookup (is_key key) new.entries ≡ cond (is_key p.0 key) None (lookup (is_key key) old.entries))
    → i < length (rows_of old) → TakenRow old new i
taken_row old new i None is gone updates less =
    absurd (by old.entries (omega (arith, length-map old.entries seen_row, less)) (sym is))
  where
    by : (es : List (EntryKey × Delegate)) → i < length es → slice_get es i ≡ None → ⊥
    by [] low none = omega (arith, low)
    by (e ∷ es) low none = cc (slice_get-get_or (e ∷ es) i e low, none)
taken_row old new i (Some p) is gone updates less = record {
  row = seen_row p;
  there = slice_get-map seen_row old.entries i ∙ ap (option_map seen_row) (sym is);
  rows = ap (map seen_row) gone ∙ sym (swap_remove-map seen_row old.entries i p);
  found = λ m k. target_at new m k
      ∙ (ap target_in (updates (record { map = m; key = k }))
      ∙ through (is_same p.0.map m && is_same p.0.key k) (lookup (is_key (record { map = m; key = k })) old.entries)
      ∙ ap (cond (is_same p.0.map m && is_same p.0.key k) None) (sym (target_at old m k)));
}
  where
    through : (b : Bool) (o : Option Delegate) → target_in (cond b None o) ≡ cond b None (target_in o)
    through true o = refl
    through false o = refl

rows_tail : (r : DelegateRow) (rows : List DelegateRow) → AreDistinctRows (r ∷ rows) → AreDistinctRows rows
rows_tail r rows h i j d less within = h (suc i) (suc j) d (omega arith) (omega arith)

rows_head : (r row : DelegateRow) (rows : List DelegateRow) → AreDistinctRows (r ∷ rows) → Contains rows row
    → r.map ≡ row.map → r.key ≡ row.key → ⊥
rows_head r row rows h (k, less, is) maps keys =
    h 0 (suc k) row (omega arith) (omega arith) (maps ∙ ap (λ (x : DelegateRow). x.map) (sym is))
    (keys ∙ ap (λ (x : DelegateRow). x.key) (sym is))

is_row-self : (row : DelegateRow) → is_row row.map row.key row ≡ true
is_row-self row = λ j. is_same-self row.map j && is_same-self row.key j

-- a row that is there is found
pub row_found : (rows : List DelegateRow) → AreDistinctRows rows → (row : DelegateRow) → Contains rows row
    → delegate_at rows row.map row.key ≡ Some row.target
row_found [] h row there = absurd (omega (arith, there.1))
row_found (r ∷ rows) h row there = elim (Contains-cases r rows row there) [
  | inl same ↦ (λ j. cond (is_row row.map row.key (same j)) (Some (same j).target) (delegate_at rows row.map row.key))
      ∙ ap (λ b. cond b (Some row.target) (delegate_at rows row.map row.key)) (is_row-self row)
  | inr later ↦ by (is_row row.map row.key r) refl later (row_found rows (rows_tail r rows h) row later)
]
  where
    by : (b : Bool) → is_row row.map row.key r ≡ b → Contains rows row
        → delegate_at rows row.map row.key ≡ Some row.target
        → cond b (Some r.target) (delegate_at rows row.map row.key) ≡ Some row.target
    by true is later rest =
        let both = and-true (is_same row.map r.map) (is_same row.key r.key) is in
        absurd (rows_head r row rows h later (sym (is_same-true row.map r.map both.0))
        (sym (is_same-true row.key r.key both.1)))
    by false is later rest = rest

-- what is found is a row
pub found_row : (rows : List DelegateRow) (m k t : Place) → delegate_at rows m k ≡ Some t
    → (z : ℕ) × Contains rows (record { map = m; key = k; target = t; zone = z })
found_row [] m k t found = cc
found_row (r ∷ rows) m k t found = by (is_row m k r) refl found (found_row rows m k t)
  where
    by : (b : Bool) → is_row m k r ≡ b → cond b (Some r.target) (delegate_at rows m k) ≡ Some t
        → (delegate_at rows m k ≡ Some t
        → (z : ℕ) × Contains rows (record { map = m; key = k; target = t; zone = z }))
        → (z : ℕ) × Contains (r ∷ rows) (record { map = m; key = k; target = t; zone = z })
    by true is here rest =
        let both = and-true (is_same m r.map) (is_same k r.key) is in
        let maps = is_same-true m r.map both.0 in
        let keys = is_same-true k r.key both.1 in
        let targets : r.target ≡ t = ap (λ o. unwrap_or o t) here in
        let same : r ≡ record { map = m; key = k; target = t; zone = r.zone } =
        λ j. record { map = sym maps j; key = sym keys j; target = targets j; zone = r.zone } in
        (r.zone, subst (λ (x : DelegateRow). Contains (r ∷ rows) x) same (Contains-get_or (r ∷ rows) 0 r (omega arith)))
    by false is later rest = (let it = rest later in (it.0, Contains-tail r rows _ it.1))

-- where nothing is found, no row is that of the key
pub no_row : (rows : List DelegateRow) (key : EntryKey) → AreDistinctRows rows → delegate_at rows key.map key.key ≡ None
    → (row : DelegateRow) → Contains rows row → key_of_row row ≢ key
no_row rows key distinct none row there same =
    cc (sym (row_found rows distinct row there)
    ∙ ((λ j. delegate_at rows (same j).map (same j).key) ∙ none))

-- the row of a key is taken out
pub TakesRow-taken : (rows new : List DelegateRow) (i : ℕ) (row : DelegateRow) (key : EntryKey) → AreDistinctRows rows
    → AreDistinctRows new → slice_get rows i ≡ Some row → key_of_row row ≡ key → new ≡ swap_remove rows i row
    → ((m k : Place) → delegate_at new m k ≡ cond (is_same row.map m && is_same row.key k) None (delegate_at rows m k))
    → TakesRow key rows new
TakesRow-taken rows new i row key distinct apart there is taken found = record {
  found = λ m k. found m k
      ∙ (λ j. cond (is_same (is j).map m && is_same (is j).key k) None (delegate_at rows m k));
  rows = λ r. (was_there r, stays r);
}
  where
    gone : delegate_at new key.map key.key ≡ None
    gone = found key.map key.key
        ∙ ((λ j. cond (is_same (is j).map key.map && is_same (is j).key key.key) None
        (delegate_at rows key.map key.key))
        ∙ (λ j. cond (is_same-self key.map j && is_same-self key.key j) None (delegate_at rows key.map key.key)))

    was_there : (r : DelegateRow) → Contains new r → Contains rows r × (key_of_row r ≢ key)
    was_there r has =
        let at = stands_at new r has in
        let cases = swap_remove_cases rows i at.0 row r (ap (λ es. slice_get es at.0) (sym taken) ∙ at.1) in (
          elim cases.1 [
            | inl last ↦ Contains-at rows (length rows - 1) r last.1
            | inr other ↦ Contains-at rows at.0 r other.1
          ],
          no_row new key apart gone r has,
        )

    stays : (r : DelegateRow) → Contains rows r × (key_of_row r ≢ key) → Contains new r
    stays r (has, other) = elim (at_other rows i row r (slice_get_within rows i row there) has) [
      | inl same ↦ absurd (other ((λ j. key_of_row (sym same j))
          ∙ ((λ j. key_of_row (get_or_from_slice_get rows i row r there j)) ∙ is)))
      | inr still ↦ subst (λ (es : List DelegateRow). Contains es r) (sym taken) still
    ]

-- there is no row to be taken out
pub TakesRow-none : (rows : List DelegateRow) (key : EntryKey) → AreDistinctRows rows
    → delegate_at rows key.map key.key ≡ None → TakesRow key rows rows
TakesRow-none rows key distinct none = record {
  found = λ m k. by m k (is_same key.map m && is_same key.key k) refl;
  rows = λ r. (λ has. (has, no_row rows key distinct none r has), λ both. both.0);
}
  where
    by : (m k : Place) (b : Bool) → (is_same key.map m && is_same key.key k) ≡ b
        → delegate_at rows m k ≡ cond b None (delegate_at rows m k)
    by m k false e = refl
    by m k true e =
        (let both = and-true (is_same key.map m) (is_same key.key k) e in
        (λ j. delegate_at rows (sym (is_same-true key.map m both.0) j) (sym (is_same-true key.key k both.1) j)) ∙ none)

-- the row of a number
pub row_numbered-is : (rows : List DelegateRow) (p : Place) (x : ℕ) (row : DelegateRow) → slice_get rows x ≡ Some row
    → row_numbered rows p x ≡ row
row_numbered-is rows p x row at =
    get_or_from_slice_get rows x row (record { map = p; key = p; target = p; zone = 0 }) at

module _ (place_of : DelegateRow → Place) (rows : List DelegateRow) (side : SideState)
    (is : IsFor place_of rows side) (p : Place) where
  rows_listed : (row : DelegateRow)
      → Contains (map (row_numbered rows p) (list_of place_of rows p (shown side.lists))) row
      ↔ (Contains rows row × (place_of row ≡ p))
  rows_listed row = subst
      (λ ns. Contains (map (row_numbered rows p) ns) row ↔ (Contains rows row × (place_of row ≡ p)))
      (sym (list_of-side place_of rows side is p))
      (listed_exact place_of rows side is p (row_numbered rows p) (row_numbered-is rows p) row)

list_of-none : {E : Type 0} (place_of : E → Place) (p : Place) (lists : List (List ℕ)) → list_of place_of [] p lists
    ≡ []
list_of-none place_of p [] = refl
list_of-none place_of p ([] ∷ lists) = list_of-none place_of p lists
list_of-none place_of p ((n ∷ ns) ∷ lists) = list_of-none place_of p lists

-- where there are no rows, none is listed
pub none_listed : (table : RowTable) (place_of : DelegateRow → Place) (p : Place) (lists : List (List ℕ)) (i : ℕ)
    → length table.entries ≡ 0
    → None ≡ option_map key_of_row
    (slice_get (map (row_numbered (rows_of table) p) (list_of place_of (rows_of table) p lists)) i)
none_listed table place_of p lists i none =
    by (rows_of table) (length-map table.entries seen_row ∙ none)
  where
    by : (rows : List DelegateRow) → length rows ≡ 0
        → None ≡ option_map key_of_row (slice_get (map (row_numbered rows p) (list_of place_of rows p lists)) i)
    by [] is = ap (λ ns. option_map key_of_row (slice_get (map (row_numbered [] p) ns) i))
        (sym (list_of-none place_of p lists))
    by (row ∷ rows) is = absurd (omega (arith, is))

pub no_rows : (table : RowTable) → length table.entries ≡ 0 → length (rows_of table) ≡ 0
no_rows table none = length-map table.entries seen_row ∙ none

-- the row at an index of the list of a place
module _ (place_of : DelegateRow → Place) (rows : List DelegateRow) (side : SideState)
    (is : IsFor place_of rows side) (p : Place) (i : ℕ) where
  pub key_listed : (x : ℕ) → Some x ≡ slice_get (listed side p) i
      → option_map key_of_row (slice_get rows x)
      ≡ option_map key_of_row (slice_get (map (row_numbered rows p) (list_of place_of rows p (shown side.lists))) i)
  key_listed x h =
      let found = listed_entry place_of rows side is p i x (sym h) in
      ap (option_map key_of_row) (found.1
      ∙ subst (λ ns. Some found.0 ≡ slice_get (map (row_numbered rows p) ns) i)
      (sym (list_of-side place_of rows side is p))
      (listed_at (row_numbered rows p) (listed side p) i x found.0 (sym h) (row_numbered-is rows p x found.0 found.1)))

  pub no_key_listed : None ≡ slice_get (listed side p) i
      → None ≡ option_map key_of_row (slice_get
      (map (row_numbered rows p) (list_of place_of rows p (shown side.lists))) i)
  no_key_listed h = ap (option_map key_of_row)
      (subst (λ ns. None ≡ slice_get (map (row_numbered rows p) ns) i) (sym (list_of-side place_of rows side is p))
      (listed_none (row_numbered rows p) (listed side p) i (sym h)))

-- what callers may rely on
pub AreDelegates-sound : (d : DelegatesState) → AreSoundRows d → AreDelegates (rows_shown d)
AreDelegates-sound d sound = record {
  distinct = sound.distinct;
  found = row_found d.rows sound.distinct;
  there = found_row d.rows;
  of_target = λ p. rows_listed (λ row. row.target) d.rows d.by_target sound.targets p;
  of_zone = λ z row.
      (let listed = rows_listed (λ row. place_of_zone row.zone) d.rows d.by_zone sound.zones (place_of_zone z) row in (
        λ has. (let both = listed.0 has in (both.0, ap (λ (p : Place). p.0) both.1)),
        λ both. listed.1 (both.0, ap place_of_zone both.1),
      ));
}
