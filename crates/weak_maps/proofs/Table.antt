-- The entries as the table holds them.
use Rattle.std.proofs.Common.{◌≡◌, ◌≢◌, ◌+◌, ◌&&◌, AllPairs, ℕ, zero, suc, slice_get, unwrap_or, IfSome, Bool, true}
use Rattle.std.proofs.Common.{false, cond, List}
use Rattle.std.proofs.Common.{[], ◌∷◌, ◌++◌, length, map, get_or, Option, Some, None, is_some, if◌then◌else◌, refl, sym}
use Rattle.std.proofs.Common.{◌∙◌, ap, arith}
use Rattle.std.specs.Bool.{Decides}
use Rattle.std.specs.List.{IsDistinct, swap_remove}
use Rattle.std.specs.Map.{keys_of, lookup, set_value}
use Rattle.std.specs.declared.hash.FoldHasher.{FoldHasher}
use Rattle.std.specs.declared.hash.BuildHasherDefault.{BuildHasherDefault}
use Rattle.std.proofs.Math.ListN.{get_or-map}
use Rattle.std.proofs.lemmas.Bool.{false≢true}
use Rattle.std.proofs.lemmas.List.{length-map, map-append}
use Rattle.std.proofs.lemmas.Option.{slice_get-map}
use Rattle.std.proofs.lemmas.Map.Made.{AllPairs-from_IsDistinct}
use Rattle.indexmap.specs.IndexMap.{IndexMap, swap_remove_by, swap_remove_entry, insert_entry}
use Rattle.indexmap.proofs.CallerLemmas.{insert_entry-new}
use Rattle.gz_names.specs.declared.numbers.Place.{Place}
use Rattle.weak_maps.specs.Places.{is_same}
use Rattle.weak_maps.specs.Tables.{entries_of, is_key}
use Rattle.weak_maps.specs.declared.entries.WeakEntry.{WeakEntry}
use Rattle.weak_maps.specs.Entries.{AreDistinct, is_entry, value_at, put_at}
use Rattle.weak_maps.specs.declared.entries.EntryKey.{EntryKey}
use Rattle.weak_maps.proofs.Places.{is_same-true, is_same-self, is_same-flip}
use Rattle.weak_maps.proofs.SwapRemove.{swap_remove-map, swap_remove_by-map, swap_remove_entry-by}

abbrev pub Table : Type 0
Table = IndexMap EntryKey Place (BuildHasherDefault FoldHasher)

-- an entry as the table holds it
abbrev pub seen_entry : EntryKey × Place → WeakEntry
seen_entry e = record { map = e.0.map; key = e.0.key; value = e.1 }

-- what an entry is found by
abbrev pub key_of : WeakEntry → EntryKey
key_of e = record { map = e.map; key = e.key }

pub and-true : (a b : Bool) → (a && b) ≡ true → (a ≡ true) × (b ≡ true)
and-true true b h = (refl, h)
and-true false b h = cc

pub is_key-true : (k l : EntryKey) → is_key k l ≡ true → k ≡ l
is_key-true k l h =
    let both = and-true (is_same k.map l.map) (is_same k.key l.key) h in
    let maps = is_same-true k.map l.map both.0 in
    let keys = is_same-true k.key l.key both.1 in λ j. record { map = maps j; key = keys j }

pub is_key-self : (k : EntryKey) → is_key k k ≡ true
is_key-self k = (λ j. is_same-self k.map j && is_same-self k.key j)

is_key-decides : (k l : EntryKey) → Decides (is_key k l) (k ≡ l)
is_key-decides k l = (is_key-true k l, λ same. ap (is_key k) (sym same) ∙ is_key-self k)

-- a look-up
pub value_at-seen : (es : List (EntryKey × Place)) (m k : Place)
    → value_at (map seen_entry es) m k ≡ lookup (is_key (record { map = m; key = k })) es
value_at-seen [] m k = refl
value_at-seen (e ∷ es) m k = ap (cond (is_entry m k (seen_entry e)) (Some e.1)) (value_at-seen es m k)

-- no key of a map has two entries
keys_of-seen : {E V : Type 0} (seen : EntryKey × V → E) (key_at : E → EntryKey)
    → ((e : EntryKey × V) → key_at (seen e) ≡ e.0) → (es : List (EntryKey × V)) → map key_at (map seen es) ≡ keys_of es
keys_of-seen seen key_at is [] = refl
keys_of-seen seen key_at is (e ∷ es) = λ i. is e i ∷ keys_of-seen seen key_at is es i

pub distinct-from_unique : {E V : Type 0} (seen : EntryKey × V → E) (key_at : E → EntryKey)
    → ((e : EntryKey × V) → key_at (seen e) ≡ e.0) → (es : List (EntryKey × V)) → IsDistinct is_key (keys_of es)
    → AllPairs (λ (d e : E). (key_at d).map ≡ (key_at e).map → (key_at d).key ≢ (key_at e).key) (map seen es)
distinct-from_unique seen key_at is es unique i j d less within maps keys =
    let entries = map seen es in
    let apart = AllPairs-from_IsDistinct is_key-decides (keys_of es) unique in
    let shown = keys_of-seen seen key_at is es in
    let len : length (keys_of es) ≡ length entries = sym (ap length shown) ∙ length-map entries key_at in
    let first : get_or (keys_of es) i (key_at d) ≡ key_at (get_or entries i d) =
    ap (λ (ks : List EntryKey). get_or ks i (key_at d)) (sym shown) ∙ get_or-map key_at entries i d in
    let second : get_or (keys_of es) j (key_at d) ≡ key_at (get_or entries j d) =
    ap (λ (ks : List EntryKey). get_or ks j (key_at d)) (sym shown) ∙ get_or-map key_at entries j d in
    let same : key_at (get_or entries i d) ≡ key_at (get_or entries j d) = λ n. record { map = maps n; key = keys n } in
    apart i j (key_at d) less (omega arith) (first ∙ (same ∙ sym second))

pub AreDistinct-from_unique : (es : List (EntryKey × Place)) → IsDistinct is_key (keys_of es)
    → AreDistinct (map seen_entry es)
AreDistinct-from_unique es unique = distinct-from_unique seen_entry key_of (λ e. refl) es unique

-- a value is written in place
pub put_at-there : (es : List (EntryKey × Place)) (m k v w : Place) → lookup (is_key (record { map = m; key = k })) es
    ≡ Some w → map seen_entry (set_value (is_key (record { map = m; key = k })) es v) ≡ put_at (map seen_entry es) m k v
put_at-there [] m k v w h = cc
put_at-there (e ∷ es) m k v w h = by (is_entry m k (seen_entry e)) h (put_at-there es m k v w)
  where
    by : (b : Bool) → cond b (Some e.1) (lookup (is_key (record { map = m; key = k })) es) ≡ Some w
        → (lookup (is_key (record { map = m; key = k })) es ≡ Some w
        → map seen_entry (set_value (is_key (record { map = m; key = k })) es v) ≡ put_at (map seen_entry es) m k v)
        → map seen_entry (cond b ((e.0, v) ∷ es) (e ∷ set_value (is_key (record { map = m; key = k })) es v))
        ≡ cond b (record { map = e.0.map; key = e.0.key; value = v } ∷ map seen_entry es)
        (seen_entry e ∷ put_at (map seen_entry es) m k v)
    by true there rest = refl
    by false there rest = ap (λ entries. seen_entry e ∷ entries) (rest there)

-- a first value goes last
pub put_at-new : (entries : List WeakEntry) (m k v : Place) → value_at entries m k ≡ None
    → put_at entries m k v ≡ entries ++ record { map = m; key = k; value = v } ∷ []
put_at-new [] m k v h = refl
put_at-new (e ∷ entries) m k v h = by (is_entry m k e) h (put_at-new entries m k v)
  where
    by : (b : Bool) → cond b (Some e.value) (value_at entries m k) ≡ None
        → (value_at entries m k ≡ None → put_at entries m k v ≡ entries ++ record { map = m; key = k; value = v } ∷ [])
        → cond b (record { map = e.map; key = e.key; value = v } ∷ entries) (e ∷ put_at entries m k v)
        ≡ e ∷ (entries ++ record { map = m; key = k; value = v } ∷ [])
    by true none rest = cc
    by false none rest = ap (λ es. e ∷ es) (rest none)

-- an entry is taken out
pub swap_remove_by-seen : (es : List (EntryKey × Place)) (m k : Place)
    → map seen_entry (swap_remove_entry (is_key (record { map = m; key = k })) es)
    ≡ swap_remove_by (is_entry m k) (map seen_entry es)
swap_remove_by-seen es m k = ap (map seen_entry) (swap_remove_entry-by (is_key (record { map = m; key = k })) es)
    ∙ sym (swap_remove_by-map seen_entry (is_entry m k) es)

-- the entries after the table is written, told of a table before that had the same entries
pub entries_of-same : (old new : Table) → new.entries ≡ old.entries → entries_of new ≡ entries_of old
entries_of-same old new h = ap (map seen_entry) h

pub value_at-entries : (table : Table) (m k : Place)
    → value_at (entries_of table) m k ≡ lookup (is_key (record { map = m; key = k })) table.entries
value_at-entries table m k = value_at-seen table.entries m k

pub AreDistinct-entries : (table : Table) → IsDistinct is_key (keys_of table.entries) → AreDistinct (entries_of table)
AreDistinct-entries table unique = AreDistinct-from_unique table.entries unique

-- look-ups after one key has another value, or none
pub value_at-updated : (old new : Table) (m k : Place) (w : Option Place)
    → ((key : EntryKey) → lookup (is_key key) new.entries ≡ cond (is_key (record { map = m; key = k }) key) w
    (lookup (is_key key) old.entries)) → (n l : Place)
    → value_at (entries_of new) n l ≡ cond (is_same m n && is_same k l) w (value_at (entries_of old) n l)
value_at-updated old new m k w updates n l =
    value_at-entries new n l
    ∙ (updates (record { map = n; key = l })
    ∙ ap (cond (is_same m n && is_same k l) w) (sym (value_at-entries old n l)))

pub put_at-written : (old new : Table) (m k v w : Place) → lookup (is_key (record { map = m; key = k })) old.entries
    ≡ Some w → new.entries ≡ set_value (is_key (record { map = m; key = k })) old.entries v
    → entries_of new ≡ put_at (entries_of old) m k v
put_at-written old new m k v w there h = ap (map seen_entry) h ∙ put_at-there old.entries m k v w there

pub put_at-inserted : (old mid new : Table) (m k v : Place) → mid.entries ≡ old.entries
    → value_at (entries_of old) m k ≡ None
    → new.entries ≡ insert_entry is_key mid.entries (record { map = m; key = k }) v
    → entries_of new ≡ put_at (entries_of old) m k v
put_at-inserted old mid new m k v same none h =
    ap (map seen_entry) (h
    ∙ (ap (λ es. insert_entry is_key es (record { map = m; key = k }) v) same
    ∙ insert_entry-new is_key old (record { map = m; key = k }) v (sym (value_at-entries old m k) ∙ none)))
    ∙ (map-append seen_entry old.entries ((record { map = m; key = k }, v) ∷ [])
    ∙ sym (put_at-new (entries_of old) m k v none))

flip : (m k n l : Place) → (is_same n m && is_same l k) ≡ (is_same m n && is_same k l)
flip m k n l = λ j. is_same-flip n m j && is_same-flip l k j

-- look-ups after a value is put
pub value_at-put_at : (es : List WeakEntry) (m k v n l : Place)
    → value_at (put_at es m k v) n l ≡ cond (is_same m n && is_same k l) (Some v) (value_at es n l)
value_at-put_at [] m k v n l = ap (λ b. cond b (Some v) None) (flip m k n l)
value_at-put_at (e ∷ es) m k v n l = by (is_entry m k e) refl (value_at-put_at es m k v n l)
  where
    merge : (a b : Bool) → a ≡ b
        → cond a (Some v) (value_at es n l) ≡ cond b (Some v) (cond a (Some e.value) (value_at es n l))
    merge true true h = refl
    merge false false h = refl
    merge true false h = absurd (false≢true (sym h))
    merge false true h = absurd (false≢true h)

    pass : (a b : Bool) (found : Option Place) → (a ≡ true → b ≡ true → ⊥) → found ≡ cond b (Some v) (value_at es n l)
        → cond a (Some e.value) found ≡ cond b (Some v) (cond a (Some e.value) (value_at es n l))
    pass true true found apart h = absurd (apart refl refl)
    pass true false found apart h = refl
    pass false true found apart h = h
    pass false false found apart h = h

    by : (b : Bool) → is_entry m k e ≡ b
        → value_at (put_at es m k v) n l ≡ cond (is_same m n && is_same k l) (Some v) (value_at es n l)
        → value_at (cond b (record { map = e.map; key = e.key; value = v } ∷ es) (e ∷ put_at es m k v)) n l
        ≡ cond (is_same m n && is_same k l) (Some v) (cond (is_entry n l e) (Some e.value) (value_at es n l))
    by true is rest =
        let both = and-true (is_same m e.map) (is_same k e.key) is in
        let maps = is_same-true m e.map both.0 in
        let keys = is_same-true k e.key both.1 in
        merge (is_entry n l e) (is_same m n && is_same k l) ((λ j. is_same n (sym maps j) && is_same l (sym keys j))
        ∙ flip m k n l)
    by false is rest =
        pass (is_entry n l e) (is_same m n && is_same k l) (value_at (put_at es m k v) n l)
        (λ here same. (let both = and-true (is_same m n) (is_same k l) same in
        let maps = is_same-true m n both.0 in
        let keys = is_same-true k l both.1 in
        false≢true (sym is ∙ ((λ j. is_entry (maps j) (keys j) e) ∙ here)))) rest

pub length-put_at : (es : List WeakEntry) (m k v : Place)
    → length (put_at es m k v) ≡ length es + (if is_some (value_at es m k) then 0 else 1)
length-put_at [] m k v = refl
length-put_at (e ∷ es) m k v = by (is_entry m k e) (length-put_at es m k v)
  where
    by : (b : Bool) → length (put_at es m k v) ≡ length es + (if is_some (value_at es m k) then 0 else 1)
        → length (cond b (record { map = e.map; key = e.key; value = v } ∷ es) (e ∷ put_at es m k v))
        ≡ length (e ∷ es) + (if is_some (cond b (Some e.value) (value_at es m k)) then 0 else 1)
    by true rest = omega arith
    by false rest = omega (arith, rest)

-- a key at an index is found
pub lookup-at : (es : List (EntryKey × Place)) (i : ℕ) (k : EntryKey) (v : Place) → slice_get es i ≡ Some (k, v)
    → is_some (lookup (is_key k) es) ≡ true
lookup-at [] i k v h = cc
lookup-at (e ∷ es) zero k v h =
    let same : e.0 ≡ k = ap (λ (o : Option (EntryKey × Place)). (unwrap_or o (k, v)).0) h in
    ap (λ b. is_some (cond b (Some e.1) (lookup (is_key k) es))) (ap (is_key k) same ∙ is_key-self k)
lookup-at (e ∷ es) (suc i) k v h = by (is_key k e.0) (lookup-at es i k v h)
  where
    by : (b : Bool) → is_some (lookup (is_key k) es) ≡ true → is_some (cond b (Some e.1) (lookup (is_key k) es)) ≡ true
    by true rest = refl
    by false rest = rest

-- the last stands in the place of the entry at an index
pub taken-at : (old new : Table) (i : ℕ) (p : EntryKey × Place) → slice_get old.entries i ≡ Some p
    → new.entries ≡ swap_remove old.entries i p
    → IfSome (slice_get (entries_of old) i) (λ entry. entries_of new ≡ swap_remove (entries_of old) i entry)
taken-at old new i p there taken =
    rw (slice_get-map seen_entry old.entries i, there)
    (ap (map seen_entry) taken ∙ sym (swap_remove-map seen_entry old.entries i p))
