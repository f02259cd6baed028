-- An entry is taken out of the table.
use Rattle.std.specs.Option.{option_map}
use Rattle.std.proofs.Common.{[], ◌∷◌, ◌≡◌, ◌<◌, ◌&&◌, ◌∙◌, ℕ, Bool, true, false, List, Option, Some, None, IfSome}
use Rattle.std.proofs.Common.{is_some, position, get_or, length, map, slice_get, cond, refl, sym, ap, arith}
use Rattle.std.specs.List.{swap_remove}
use Rattle.std.specs.Map.{lookup, keys_of}
use Rattle.std.proofs.lemmas.Bool.{false≢true}
use Rattle.std.proofs.lemmas.List.Quantifiers.{position-Some}
use Rattle.std.proofs.lemmas.List.{length-map, get_or-map}
use Rattle.std.proofs.lemmas.Option.{slice_get-map, slice_get-get_or}
use Rattle.gz_names.specs.declared.numbers.Place.{Place}
use Rattle.weak_maps.specs.Places.{is_same}
use Rattle.weak_maps.specs.Tables.{entries_of, is_key}
use Rattle.weak_maps.specs.declared.entries.WeakEntry.{WeakEntry}
use Rattle.weak_maps.specs.Entries.{value_at}
use Rattle.weak_maps.specs.declared.entries.EntryKey.{EntryKey}
use Rattle.weak_maps.proofs.SwapRemove.{swap_remove-map}
use Rattle.weak_maps.proofs.Table.{Table, seen_entry, value_at-updated, and-true, is_key-true}
use Rattle.weak_maps.proofs.Places.{is_same-true}

-- what was taken
pub record Taken (old new : Table) (i : ℕ) : Type 0 where
  pub entry : WeakEntry
  pub there : slice_get (entries_of old) i ≡ Some entry
  pub entries : entries_of new ≡ swap_remove (entries_of old) i entry
  pub found : (m k : Place) → value_at (entries_of new) m k ≡ cond (is_same entry.map m && is_same entry.key k) None
      (value_at (entries_of old) m k)

pub taken : (old new : Table) (i : ℕ) (r : Option (EntryKey × Place)) → r ≡ slice_get old.entries i
    → IfSome r (λ p. new.entries ≡ swap_remove old.entries i p)
    → IfSome r (λ p. (key : EntryKey)
    → lookup (is_key key) new.entries ≡ cond (is_key p.0 key) None (lookup (is_key key) old.entries))
    → i < length (entries_of old) → Taken old new i
taken old new i None is gone updates less =
    absurd (by old.entries (omega (arith, length-map old.entries seen_entry, less)) (sym is))
  where
    by : (es : List (EntryKey × Place)) → i < length es → slice_get es i ≡ None → ⊥
    by [] low none = omega (arith, low)
    by (e ∷ es) low none = cc (slice_get-get_or (e ∷ es) i e low, none)
taken old new i (Some p) is gone updates less = record {
  entry = seen_entry p;
  there = slice_get-map seen_entry old.entries i ∙ ap (option_map seen_entry) (sym is);
  entries = ap (map seen_entry) gone ∙ sym (swap_remove-map seen_entry old.entries i p);
  found = λ m k. value_at-updated old new p.0.map p.0.key None updates m k;
}

pub none_from : {X : Type 0} (o : Option X) → false ≡ is_some o → o ≡ None
none_from None h = refl
none_from (Some x) h = absurd (false≢true h)

-- a look-up of what is not there
pub found-none : (es : List WeakEntry) (m k : Place) → value_at es m k ≡ None → (n l : Place)
    → value_at es n l ≡ cond (is_same m n && is_same k l) None (value_at es n l)
found-none es m k none n l = by (is_same m n && is_same k l) refl
  where
    by : (b : Bool) → (is_same m n && is_same k l) ≡ b → value_at es n l ≡ cond b None (value_at es n l)
    by false e = refl
    by true e = (let both = and-true (is_same m n) (is_same k l) e in
        (λ j. value_at es (sym (is_same-true m n both.0) j) (sym (is_same-true k l both.1) j)) ∙ none)

-- the entry at the index of a key
pub at_position : (table : Table) (key : EntryKey) (n : ℕ) → Some n ≡ position (is_key key) (keys_of table.entries)
    → (e : WeakEntry) × (slice_get (entries_of table) n ≡ Some e) × (key.map ≡ e.map) × (key.key ≡ e.key)
at_position table key n h =
    let here = position-Some (is_key key) (keys_of table.entries) n key (sym h) in
    let len = length-map table.entries (λ (p : EntryKey × Place). p.0) in
    let less : n < length table.entries = (let low = here.0 in omega (arith, low, len)) in
    let p = get_or table.entries n (key, key.map) in
    let at : slice_get table.entries n ≡ Some p = slice_get-get_or table.entries n (key, key.map) less in
    let same : key ≡ p.0 =
    is_key-true key p.0 (sym
    (ap (is_key key) (get_or-map (λ (q : EntryKey × Place). q.0) table.entries n (key, key.map) key less)) ∙ here.1)
    in (
      seen_entry p,
      slice_get-map seen_entry table.entries n ∙ ap (option_map seen_entry) at,
      ap (λ (q : EntryKey). q.map) same,
      ap (λ (q : EntryKey). q.key) same,
    )
