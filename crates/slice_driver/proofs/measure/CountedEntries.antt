-- The weak entries that pass a test are as many as the entries of the graph that are counted, at most: each has names
-- of its own for its map and its key. So are the rows of entries.
use Rattle.std.proofs.Common.{◌≡◌, ◌≢◌, ◌<◌, ◌≤◌, ◌&&◌, ℕ, Bool, true, false, refl, sym, ap, ◌∙◌, arith, cond, List, []}
use Rattle.std.proofs.Common.{◌∷◌, length, count_by, Contains, Option, Some, slice_index_or, unwrap_or}
use Rattle.std.proofs.lemmas.List.Elements.{Contains-get_or}
use Rattle.gz_names.specs.Order.{same_name}
use Rattle.gz_names.specs.declared.names.Name.{Name}
use Rattle.gz_names.specs.declared.names.Name.TheVariants.{Cell}
use Rattle.gz_names.specs.declared.numbers.Place.{Place}
use Rattle.weak_maps.specs.Delegates.{DelegateRow}
use Rattle.weak_maps.specs.WeakMaps.{IsSound as AreEntries, WeakTableState, entry_of_row, value_of}
use Rattle.colour_defs.specs.declared.graph.Entry.{Entry}
use Rattle.colour_defs.specs.Graph.{value_in}
use Rattle.colour_defs.specs.World.{World, is_present}
use Rattle.colour_defs.proofs.Lists.{contains_tail}
use Rattle.colour_defs.proofs.Names.{same_name-is}
use Rattle.heap_core.specs.Shape.{IsPresent, name_at}
use Rattle.heap_core.specs.Heap.{HeapState}
use Rattle.weak_maps.specs.declared.entries.WeakEntry.{WeakEntry}
use Rattle.slice_driver.specs.Worlds.{LiesIn}
use Rattle.slice_driver.proofs.abstraction.Named.{key_here, name_of, present_named}
use Rattle.slice_driver.proofs.measure.CountedCells.{sum_injected}
use Rattle.slice_driver.proofs.measure.CountedWrappers.{apart_pairs}

-- a value that is found is that of an entry
found_entry : (es : List Entry) (m k v : Name) → value_in es m k ≡ Some v
    → Contains es (record { map = m; key = k; value = v })
found_entry [] m k v e = absurd (cc e)
found_entry (x ∷ es) m k v e =
    go (same_name x.map m) (same_name x.key k) refl refl (λ f. found_entry es m k v f) e
  where
    go : (a b : Bool) → same_name x.map m ≡ a → same_name x.key k ≡ b
        → (value_in es m k ≡ Some v → Contains es (record { map = m; key = k; value = v }))
        → cond (a && b) (Some x.value) (value_in es m k) ≡ Some v
        → Contains (x ∷ es) (record { map = m; key = k; value = v })
    go true true em ek rest f =
        let maps : x.map ≡ m = same_name-is x.map m em in
        let keys : x.key ≡ k = same_name-is x.key k ek in
        let values : x.value ≡ v = cc f in
        (0, omega arith, λ i. record { map = maps i; key = keys i; value = values i })
    go true false em ek rest f = contains_tail x es (record { map = m; key = k; value = v }) (rest f)
    go false b em ek rest f = contains_tail x es (record { map = m; key = k; value = v }) (rest f)

-- the value of a row's entry
pub row_found : (weak : WeakTableState) → AreEntries weak → (row : DelegateRow) → Contains weak.delegates.rows row
    → value_of weak (entry_of_row weak row).map (entry_of_row weak row).key ≡ Some (entry_of_row weak row).value
row_found weak sound row has =
    let value = sound.entered row has in
    value.1 ∙ ap (λ (v : Place). Some v) (sym (ap (λ (o : Option Place). unwrap_or o row.target) value.1))

module _ (h : HeapState) (w : World) (lies : LiesIn h w) (counts : Entry → Bool) where
  abbrev name_or : Place → Name
  name_or p = unwrap_or (name_at h.shape p) (Cell 0)

  abbrev entry_named : WeakEntry → Entry
  entry_named e = record { map = name_or e.map; key = name_or e.key; value = name_or e.value }

  named : (p : Place) → IsPresent h.shape p → name_at h.shape p ≡ Some (name_or p)
  named p there =
      let name = name_of h.shape p there in
      let is : name_or p ≡ name.0 = ap (λ (o : Option Name). unwrap_or o (Cell 0)) name.1 in
      name.1 ∙ ap (λ (x : Name). Some x) (sym is)

  into : (e : WeakEntry) → value_of h.shape.weak e.map e.key ≡ Some e.value
      → Contains w.graph.entries (entry_named e)
  into e found =
      let there = lies.shown.entries_held e.map e.key e.value found in
      let map_is = named e.map there.0 in
      let key_is = named e.key there.1 in
      let value_is = named e.value there.2 in
      found_entry w.graph.entries (name_or e.map) (name_or e.key) (name_or e.value)
      (sym (lies.part.part.entries (name_or e.map) (name_or e.key)
      ((lies.part.here (name_or e.map)).1 (present_named h w lies e.map (name_or e.map) map_is))
      (key_here h w lies e.key (name_or e.key) key_is))
      ∙ lies.shown.entries_are e.map e.key e.value (name_or e.map) (name_or e.key) (name_or e.value) found map_is
      key_is value_is)

  -- things that each stand for an entry, with a map and a key of its own
  module _ {Y : Type 0} (to : Y → WeakEntry) (test : Y → Bool) (ys : List Y) (distinct : (i j : ℕ) (d : Y) → i < j
      → j < length ys → (to (slice_index_or ys i d)).map ≡ (to (slice_index_or ys j d)).map
      → (to (slice_index_or ys i d)).key ≢ (to (slice_index_or ys j d)).key) (found : (y : Y) → Contains ys y
      → value_of h.shape.weak (to y).map (to y).key ≡ Some (to y).value) (holds : (y : Y) → Contains ys y
      → (m k v : Name) → name_at h.shape (to y).map ≡ Some m → name_at h.shape (to y).key ≡ Some k → test y ≡ true
      → is_present w m ≡ true → is_present w k ≡ true
      → counts (record { map = m; key = k; value = v }) ≡ true) where
    held : (y : Y) → Contains ys y → IsPresent h.shape (to y).map × IsPresent h.shape (to y).key
        × IsPresent h.shape (to y).value
    held y c = lies.shown.entries_held (to y).map (to y).key (to y).value (found y c)

    at_index : (i : ℕ) (d : Y) → i < length ys → Contains ys (slice_index_or ys i d)
    at_index i d lt = Contains-get_or ys i d lt

    one_each : (y : Y) → Contains ys y → cond (test y) 1 0 ≤ cond (counts (entry_named (to y))) 1 0
    one_each y c = go (test y) refl
      where
        go : (b : Bool) → test y ≡ b → cond b 1 0 ≤ cond (counts (entry_named (to y))) 1 0
        go true passes =
            let there = held y c in
            let one : ◌≡◌ {A = ℕ} (cond (counts (entry_named (to y))) 1 0) 1 =
            ap (λ b. cond b 1 0)
            (holds y c (name_or (to y).map) (name_or (to y).key) (name_or (to y).value) (named (to y).map there.0)
            (named (to y).key there.1) passes
            (present_named h w lies (to y).map (name_or (to y).map) (named (to y).map there.0))
            (present_named h w lies (to y).key (name_or (to y).key) (named (to y).key there.1))) in
            omega (arith, one)
        go false fails = omega arith

    pub counted_entries : count_by test ys ≤ count_by counts w.graph.entries
    counted_entries =
        sum_injected (λ e. cond (counts e) 1 0) (λ y. cond (test y) 1 0) (λ y. entry_named (to y)) w.graph.entries ys
        (apart_pairs (λ y. entry_named (to y)) ys
        (λ i j d lt within same.
        let first = to (slice_index_or ys i d) in
        let second = to (slice_index_or ys j d) in
        let one = held (slice_index_or ys i d) (at_index i d (omega (arith, lt, within))) in
        let two = held (slice_index_or ys j d) (at_index j d within) in
        let maps : name_or first.map ≡ name_or second.map = ap (λ (e : Entry). e.map) same in
        let keys : name_or first.key ≡ name_or second.key = ap (λ (e : Entry). e.key) same in
        distinct i j d lt within
        (lies.shown.apart first.map second.map (name_or second.map)
        (named first.map one.0 ∙ ap (λ (x : Name). Some x) maps) (named second.map two.0))
        (lies.shown.apart first.key second.key (name_or second.key)
        (named first.key one.1 ∙ ap (λ (x : Name). Some x) keys) (named second.key two.1))))
        (λ y c. into (to y) (found y c)) one_each
