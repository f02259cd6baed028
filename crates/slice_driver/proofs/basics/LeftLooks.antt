-- The weak entries that are to be looked at are those of cells of marking zones.
use Rattle.std.proofs.Common.{◌≡◌, ◌⊎◌, ◌<◌, ◌+◌, ◌++◌, ◌∷◌, ◌&&◌, [], ℕ, zero, suc, Bool, true, false, cond, List}
use Rattle.std.proofs.Common.{Option, None, Some, is_some, length, slice_get, set, inl, inr, refl, sym, ap, ◌∙◌, subst}
use Rattle.std.proofs.Common.{arith}
use Rattle.std.proofs.lemmas.Option.{slice_get_within}
use Rattle.gz_names.specs.declared.numbers.Place.{Place}
use Rattle.gz_names.specs.declared.replies.Reply.{Reply}
use Rattle.weak_maps.specs.Delegates.{DelegateRow, delegate_at, is_row, row_of}
use Rattle.weak_maps.specs.Entries.{Starts, is_entry, put_at, value_at}
use Rattle.weak_maps.specs.Places.{is_same}
use Rattle.weak_maps.specs.WeakMaps.{Carries, HasLooked, LooksState, NoneLeft, PutsLeft, WeakTableState, delegate_of}
use Rattle.weak_maps.specs.WeakMaps.{looks_with, rows_with, value_of}
use Rattle.weak_maps.specs.declared.delegates.Delegate.{Delegate}
use Rattle.weak_maps.specs.declared.entries.WeakEntry.{WeakEntry}
use Rattle.weak_maps.specs.declared.colours.MarkColour.{MarkColour}
use Rattle.weak_maps.specs.declared.colours.MarkColour.TheVariants as mark
use Rattle.heap_core.specs.declared.plans.Change.{Change}
use Rattle.heap_core.specs.declared.plans.Change.TheVariants as change
use Rattle.heap_core.specs.Changes.{IsWith}
use Rattle.heap_core.specs.Heap.{HeapState, weak_of}
use Rattle.heap_core.specs.Plans.{ChangesBy}
use Rattle.heap_core.specs.Shape.{Shape, delegate_of_key, is_marking, zone_of}
use Rattle.barriers.specs.Colours.{IsBlack}
use Rattle.barriers.specs.Reached.{HasEntry}
use Rattle.barriers.specs.WeakPoint.{left_of}
use Rattle.barriers.proofs.Places.{same_or_other}
use Rattle.gray_lists.proofs.Reading.{slice_get-push_before}
use Rattle.mark_ahead.specs.Ahead.{StartsEach}
use Rattle.mark_ahead.specs.Ahead as ahead
use Rattle.marker.specs.Looks.{StartsLooks, with_looks}
use Rattle.weak_maps.proofs.Places.{is_same-self, is_same-true}
use Rattle.slice_driver.specs.Quiet.{QueuesBlackMaps}
use Rattle.slice_driver.specs.Represents.{AreOfMarking, IsOfMarking, LooksOfMarking, NothingLeft}

-- a new entry is not to be looked at
pub none_more : (c : MarkColour) (xs : List (Option MarkColour)) (n : ℕ) → slice_get (xs ++ None ∷ []) n ≡ Some (Some c)
    → slice_get xs n ≡ Some (Some c)
none_more c [] zero at = cc at
none_more c [] (suc n) at = cc at
none_more c (x ∷ xs) zero at = at
none_more c (x ∷ xs) (suc n) at = none_more c xs n at

-- each that is to be looked at now was to be looked at for the same place, or this is of a marking zone
pub record AreLeftFrom {E : Type 0} (place_of : E → Place) (t : Shape) (es : List E) (ls : List (Option MarkColour))
    (fs : List E) (ms : List (Option MarkColour)) : Type 0 where
  pub from : (n : ℕ) (f : E) (c : MarkColour) → slice_get fs n ≡ Some f → slice_get ms n ≡ Some (Some c)
      → ((j : ℕ) × (e : E) × (slice_get es j ≡ Some e) × (place_of e ≡ place_of f)
      × (slice_get ls j ≡ Some (Some c)))
      ⊎ IsOfMarking t (place_of f)

pub record LooksLeftFrom (s : Shape) (old : LooksState) (t : Shape) (new : LooksState) : Type 0 where
  pub maps : AreLeftFrom (λ (entry : WeakEntry). entry.map) t s.weak.entries old.by_map t.weak.entries new.by_map
  pub keys : AreLeftFrom (λ (entry : WeakEntry). entry.key) t s.weak.entries old.by_key t.weak.entries new.by_key
  pub rows : AreLeftFrom (λ (row : DelegateRow). row.target) t s.weak.delegates.rows old.by_delegate
      t.weak.delegates.rows new.by_delegate

-- so those that are to be looked at are of marking zones as before
module _ {E : Type 0} (place_of : E → Place) (s t : Shape) (es : List E) (ls : List (Option MarkColour)) (fs : List E)
    (ms : List (Option MarkColour)) where
  of_marking : ((p : Place) → IsOfMarking s p → IsOfMarking t p) → AreLeftFrom place_of t es ls fs ms
      → AreOfMarking place_of s es ls → AreOfMarking place_of t fs ms
  of_marking keeps from was = record {
    each = λ n f c there at. elim (from.from n f c there at) [
      | inl old ↦ keeps (place_of f) (subst (λ (p : Place). IsOfMarking s p) old.3
          (was.each old.0 old.1 c old.2 old.4))
      | inr new ↦ new
    ];
  }

pub looks_of_marking : (s : Shape) (old : LooksState) (t : Shape) (new : LooksState)
    → ((p : Place) → IsOfMarking s p → IsOfMarking t p) → LooksLeftFrom s old t new → LooksOfMarking s old
    → LooksOfMarking t new
looks_of_marking s old t new keeps from was = record {
  maps = of_marking (λ (entry : WeakEntry). entry.map) s t s.weak.entries old.by_map t.weak.entries new.by_map keeps
      from.maps was.maps;
  keys = of_marking (λ (entry : WeakEntry). entry.key) s t s.weak.entries old.by_key t.weak.entries new.by_key keeps
      from.keys was.keys;
  rows = of_marking (λ (row : DelegateRow). row.target) s t s.weak.delegates.rows old.by_delegate
      t.weak.delegates.rows new.by_delegate keeps from.rows was.rows;
}

-- nothing is left
none_at : (c : MarkColour) (l : LooksState) → NothingLeft l → NoneLeft c l
none_at mark.Gray l nothing = nothing.0
none_at mark.Black l nothing = nothing.1

pub none_of : (s : Shape) (l : LooksState) → NothingLeft l → LooksOfMarking s l
none_of s l nothing = record {
  maps = record { each = λ n entry c there at. absurd (((none_at c l nothing).0 n).0 at) };
  keys = record { each = λ n entry c there at. absurd (((none_at c l nothing).0 n).1 at) };
  rows = record { each = λ n row c there at. absurd ((none_at c l nothing).1 n at) };
}

-- neither the entries nor their looks changed
pub same_left : (s : Shape) (old : LooksState) (t : Shape) (new : LooksState) → t.weak ≡ s.weak → new ≡ old
    → LooksLeftFrom s old t new
same_left s old t new weak looks = record {
  maps = record {
    from = λ n f c there at. inl (
      n,
      f,
      ap (λ (w : WeakTableState). slice_get w.entries n) (sym weak) ∙ there,
      refl,
      ap (λ (l : LooksState). slice_get l.by_map n) (sym looks) ∙ at,
    );
  };
  keys = record {
    from = λ n f c there at. inl (
      n,
      f,
      ap (λ (w : WeakTableState). slice_get w.entries n) (sym weak) ∙ there,
      refl,
      ap (λ (l : LooksState). slice_get l.by_key n) (sym looks) ∙ at,
    );
  };
  rows = record {
    from = λ n f c there at. inl (
      n,
      f,
      ap (λ (w : WeakTableState). slice_get w.delegates.rows n) (sym weak) ∙ there,
      refl,
      ap (λ (l : LooksState). slice_get l.by_delegate n) (sym looks) ∙ at,
    );
  };
}

-- those of a cell of a marking zone were started
module _ {E : Type 0} (place_of : E → Place) (c : MarkColour) (x : Place) (t : Shape) (es : List E)
    (ls ms : List (Option MarkColour)) where
  started_one : Starts place_of c x es ls ms → IsOfMarking t x → AreLeftFrom place_of t es ls es ms
  started_one starts here = record {
    from = λ n f d there at. elim (same_or_other (place_of f) x) [
      | inl same ↦ inr (subst (λ (p : Place). IsOfMarking t p) (sym same) here)
      | inr other ↦ inl (n, f, there, refl, sym (starts.others n f there other) ∙ at)
    ];
  }

pub started_left : (c : MarkColour) (x : Place) (h k : HeapState) → StartsLooks c x h k → k.shape ≡ h.shape
    → IsOfMarking h.shape x → LooksLeftFrom h.shape h.looks k.shape k.looks
started_left c x h k starts shape here = subst (λ (t : Shape). LooksLeftFrom h.shape h.looks t k.looks) (sym shape)
    (record {
      maps = started_one (λ (entry : WeakEntry). entry.map) c x h.shape h.shape.weak.entries h.looks.by_map
          k.looks.by_map starts.map here;
      keys = started_one (λ (entry : WeakEntry). entry.key) c x h.shape h.shape.weak.entries h.looks.by_key
          k.looks.by_key starts.key here;
      rows = started_one (λ (row : DelegateRow). row.target) c x h.shape h.shape.weak.delegates.rows
          h.looks.by_delegate k.looks.by_delegate starts.delegate here;
    })

-- one step after another
module _ {E : Type 0} (place_of : E → Place) (t : Shape) (es : List E) (ls ms ns : List (Option MarkColour)) where
  left_through : AreLeftFrom place_of t es ls es ms → AreLeftFrom place_of t es ms es ns
      → AreLeftFrom place_of t es ls es ns
  left_through first second = record {
    from = λ n f c there at. elim (second.from n f c there at) [
      | inr here ↦ inr here
      | inl mid ↦ elim (first.from mid.0 mid.1 c mid.2 mid.4) [
        | inl old ↦ inl (old.0, old.1, old.2, old.3 ∙ mid.3, old.4)
        | inr here ↦ inr (subst (λ (p : Place). IsOfMarking t p) mid.3 here)
      ]
    ];
  }

-- those of one cell of a marking zone after another were started
pub each_started_left : (c : MarkColour) (P : Place → Type 0) (h : HeapState)
    → ((x : Place) → P x → IsOfMarking h.shape x) → (a : LooksState) {d : LooksState} → StartsEach c P h a d
    → LooksLeftFrom h.shape a h.shape d
each_started_left c P h here a ahead.none = same_left h.shape a h.shape a refl refl
each_started_left c P h here a (ahead.more {b} {d} before x has begun) =
    let first = each_started_left c P h here a before in
    let second = started_left c x (with_looks h b) (with_looks h d) begun refl (here x has) in
    record {
      maps = left_through (λ (entry : WeakEntry). entry.map) h.shape h.shape.weak.entries a.by_map b.by_map d.by_map
          first.maps second.maps;
      keys = left_through (λ (entry : WeakEntry). entry.key) h.shape h.shape.weak.entries a.by_key b.by_key d.by_key
          first.keys second.keys;
      rows = left_through (λ (row : DelegateRow). row.target) h.shape h.shape.weak.delegates.rows a.by_delegate
          b.by_delegate d.by_delegate first.rows second.rows;
    }

-- one was looked at
cleared : (ls : List (Option MarkColour)) (i n : ℕ) (c : MarkColour) → slice_get (set ls i None) n ≡ Some (Some c)
    → slice_get ls n ≡ Some (Some c)
cleared [] i n c at = at
cleared (x ∷ xs) zero zero c at = cc at
cleared (x ∷ xs) zero (suc n) c at = at
cleared (x ∷ xs) (suc i) zero c at = at
cleared (x ∷ xs) (suc i) (suc n) c at = cleared xs i n c at

module _ (c : MarkColour) (handed : WeakEntry) (weak : WeakTableState) (old new : LooksState)
    (looked : HasLooked c handed weak old new) (n : ℕ) (d : MarkColour) where
  map_before : slice_get new.by_map n ≡ Some (Some d) → slice_get old.by_map n ≡ Some (Some d)
  map_before at = elim looked.looked [
    | inl (was, is) ↦ cleared old.by_map looked.number n d
        (sym (ap (λ (l : LooksState). slice_get l.by_map n) is) ∙ at)
    | inr (inl (was, is)) ↦ sym (ap (λ (l : LooksState). slice_get l.by_map n) is) ∙ at
    | inr (inr (m, row, was, is)) ↦ sym (ap (λ (l : LooksState). slice_get l.by_map n) is) ∙ at
  ]

  key_before : slice_get new.by_key n ≡ Some (Some d) → slice_get old.by_key n ≡ Some (Some d)
  key_before at = elim looked.looked [
    | inl (was, is) ↦ sym (ap (λ (l : LooksState). slice_get l.by_key n) is) ∙ at
    | inr (inl (was, is)) ↦ cleared old.by_key looked.number n d
        (sym (ap (λ (l : LooksState). slice_get l.by_key n) is) ∙ at)
    | inr (inr (m, row, was, is)) ↦ sym (ap (λ (l : LooksState). slice_get l.by_key n) is) ∙ at
  ]

  row_before : slice_get new.by_delegate n ≡ Some (Some d) → slice_get old.by_delegate n ≡ Some (Some d)
  row_before at = elim looked.looked [
    | inl (was, is) ↦ sym (ap (λ (l : LooksState). slice_get l.by_delegate n) is) ∙ at
    | inr (inl (was, is)) ↦ sym (ap (λ (l : LooksState). slice_get l.by_delegate n) is) ∙ at
    | inr (inr (m, row, was, is)) ↦ cleared old.by_delegate m n d
        (sym (ap (λ (l : LooksState). slice_get l.by_delegate n) is) ∙ at)
  ]

pub looked_left : (c : MarkColour) (handed : WeakEntry) (s : Shape) (old : LooksState) (t : Shape) (new : LooksState)
    → HasLooked c handed s.weak old new → t.weak ≡ s.weak → LooksLeftFrom s old t new
looked_left c handed s old t new looked weak = record {
  maps = record {
    from = λ n f d there at. inl (
      n,
      f,
      ap (λ (w : WeakTableState). slice_get w.entries n) (sym weak) ∙ there,
      refl,
      map_before c handed s.weak old new looked n d at,
    );
  };
  keys = record {
    from = λ n f d there at. inl (
      n,
      f,
      ap (λ (w : WeakTableState). slice_get w.entries n) (sym weak) ∙ there,
      refl,
      key_before c handed s.weak old new looked n d at,
    );
  };
  rows = record {
    from = λ n f d there at. inl (
      n,
      f,
      ap (λ (w : WeakTableState). slice_get w.delegates.rows n) (sym weak) ∙ there,
      refl,
      row_before c handed s.weak old new looked n d at,
    );
  };
}

-- the black maps of a zone were queued, which is marking
pub queued_left : (h : HeapState) (zone : ℕ) (k : HeapState) → QueuesBlackMaps h zone k
    → ((x : Place) → IsBlack h x → zone_of h.shape x ≡ zone → IsOfMarking h.shape x)
    → LooksLeftFrom h.shape h.looks h.shape k.looks
queued_left h zone k queues here = record {
  maps = record {
    from = λ n f c there at. elim (queues.by_map n f there) [
      | inl same ↦ inl (n, f, there, refl, sym same ∙ at)
      | inr new ↦ inr (here f.map new.1 new.0)
    ];
  };
  keys = record {
    from = λ n f c there at. inl (
      n,
      f,
      there,
      refl,
      ap (λ (ls : List (Option MarkColour)). slice_get ls n) (sym queues.by_key) ∙ at,
    );
  };
  rows = record {
    from = λ n f c there at. inl (
      n,
      f,
      there,
      refl,
      ap (λ (ls : List (Option MarkColour)). slice_get ls n) (sym queues.by_delegate) ∙ at,
    );
  };
}

-- entries and rows went
pub carried_left : (h k : HeapState) → Carries (weak_of h) (weak_of k) → LooksLeftFrom h.shape h.looks k.shape k.looks
carried_left h k carries = record {
  maps = record {
    from = λ n f c there at. (let from = carries.from n f there in
        inl (from.0, f, from.1, refl, sym from.2 ∙ at));
  };
  keys = record {
    from = λ n f c there at. (let from = carries.from n f there in
        inl (from.0, f, from.1, refl, sym from.3 ∙ at));
  };
  rows = record {
    from = λ n f c there at. (let from = carries.from_row n f there in
        inl (from.0, f, from.1, refl, sym from.2 ∙ at));
  };
}

-- an entry was put: what it is to be looked at in is as it was, and a new one is not to be looked at
put_back : (es : List WeakEntry) (m k v : Place) (n : ℕ) (f : WeakEntry) → slice_get (put_at es m k v) n ≡ Some f
    → n < length es → (e : WeakEntry) × (slice_get es n ≡ Some e) × (e.map ≡ f.map) × (e.key ≡ f.key)
put_back [] m k v n f there lt = absurd (omega (arith, lt))
put_back (e ∷ es) m k v n f there lt = by (λ i at l. put_back es m k v i f at l) (is_entry m k e) n there lt
  where
    by : ((i : ℕ) → slice_get (put_at es m k v) i ≡ Some f → i < length es
        → (a : WeakEntry) × (slice_get es i ≡ Some a) × (a.map ≡ f.map) × (a.key ≡ f.key))
        → (b : Bool) (n : ℕ) → slice_get (cond b (record { map = e.map; key = e.key; value = v } ∷ es)
        (e ∷ put_at es m k v)) n ≡ Some f
        → n < length (e ∷ es)
        → (a : WeakEntry) × (slice_get (e ∷ es) n ≡ Some a) × (a.map ≡ f.map) × (a.key ≡ f.key)
    by rest true zero there lt =
        let same : record { map = e.map; key = e.key; value = v } ≡ f = cc there in
        (e, refl, ap (λ (x : WeakEntry). x.map) same, ap (λ (x : WeakEntry). x.key) same)
    by rest true (suc n) there lt = (f, there, refl, refl)
    by rest false zero there lt =
        let same : e ≡ f = cc there in
        (e, refl, ap (λ (x : WeakEntry). x.map) same, ap (λ (x : WeakEntry). x.key) same)
    by rest false (suc n) there lt = rest n there (omega (arith, lt))

longer : {X : Type 0} (xs : List X) (x : X) → length (xs ++ x ∷ []) ≡ suc (length xs)
longer [] x = refl
longer (y ∷ xs) x = ap suc (longer xs x)

module _ (h : HeapState) (m q v : Place) (k : HeapState) (by : IsWith h m q v k) where
  abbrev places : (WeakEntry → Place) → Type 0
  places place_of = (e f : WeakEntry) → e.map ≡ f.map → e.key ≡ f.key → place_of e ≡ place_of f

  put_entry : (place_of : WeakEntry → Place) → places place_of → (ls ms : List (Option MarkColour))
      → ((n : ℕ) (c : MarkColour) → slice_get ms n ≡ Some (Some c)
      → (slice_get ls n ≡ Some (Some c)) × (n < length h.shape.weak.entries))
      → AreLeftFrom place_of k.shape h.shape.weak.entries ls k.shape.weak.entries ms
  put_entry place_of same ls ms was = record {
    from = λ n f c there at. (
        let old = was n c at in
        let e = put_back h.shape.weak.entries m q v n f
        (ap (λ (es : List WeakEntry). slice_get es n) (sym by.entries) ∙ there) old.1 in
        inl (n, e.0, e.1, same e.0 f e.2 e.3, old.0));
  }

  -- where it was there already
  module _ (w : Place) (is : value_of h.shape.weak m q ≡ Some w) where
    looks_same : k.looks ≡ h.looks
    looks_same = subst (λ (o : Option Place). PutsLeft o (delegate_of_key h.shape q) h.looks k.looks) is by.left

    rows_same : k.shape.weak.delegates.rows ≡ h.shape.weak.delegates.rows
    rows_same = by.rows ∙ ap (λ (o : Option Place). cond (is_some o) h.shape.weak.delegates.rows
        (rows_with h.shape.weak.delegates.rows (record { map = m; key = q }) (delegate_of_key h.shape q))) is

    count_same : length k.shape.weak.entries ≡ length h.shape.weak.entries + 0
    count_same = by.count ∙ ap (λ (o : Option Place). length h.shape.weak.entries + cond (is_some o) 0 1) is

    again_left : LooksLeftFrom h.shape h.looks k.shape k.looks
    again_left = record {
      maps = put_entry (λ (entry : WeakEntry). entry.map) (λ e f map key. map) h.looks.by_map k.looks.by_map
          (λ n c at. (let lt = slice_get_within k.looks.by_map n (Some c) at in (
            ap (λ (l : LooksState). slice_get l.by_map n) (sym looks_same) ∙ at,
            omega (arith, lt, by.parallel.0, count_same),
          )));
      keys = put_entry (λ (entry : WeakEntry). entry.key) (λ e f map key. key) h.looks.by_key k.looks.by_key
          (λ n c at. (let lt = slice_get_within k.looks.by_key n (Some c) at in (
            ap (λ (l : LooksState). slice_get l.by_key n) (sym looks_same) ∙ at,
            omega (arith, lt, by.parallel.1, count_same),
          )));
      rows = record {
        from = λ n f c there at. inl (
          n,
          f,
          ap (λ (rs : List DelegateRow). slice_get rs n) (sym rows_same) ∙ there,
          refl,
          ap (λ (l : LooksState). slice_get l.by_delegate n) (sym looks_same) ∙ at,
        );
      };
    }

  -- where it was not
  module _ (is : value_of h.shape.weak m q ≡ None) where
    looks_more : k.looks ≡ record {
      by_map = h.looks.by_map ++ None ∷ [];
      by_key = h.looks.by_key ++ None ∷ [];
      by_delegate = looks_with h.looks.by_delegate (delegate_of_key h.shape q);
    }
    looks_more = subst (λ (o : Option Place). PutsLeft o (delegate_of_key h.shape q) h.looks k.looks) is by.left

    rows_more : k.shape.weak.delegates.rows
        ≡ rows_with h.shape.weak.delegates.rows (record { map = m; key = q }) (delegate_of_key h.shape q)
    rows_more = by.rows ∙ ap (λ (o : Option Place). cond (is_some o) h.shape.weak.delegates.rows
        (rows_with h.shape.weak.delegates.rows (record { map = m; key = q }) (delegate_of_key h.shape q))) is

    count_more : length k.shape.weak.entries ≡ length h.shape.weak.entries + 1
    count_more = by.count ∙ ap (λ (o : Option Place). length h.shape.weak.entries + cond (is_some o) 0 1) is

    old_row : (o : Option Delegate) → k.shape.weak.delegates.rows
        ≡ rows_with h.shape.weak.delegates.rows (record { map = m; key = q }) o
        → k.looks.by_delegate ≡ looks_with h.looks.by_delegate o
        → (n : ℕ) (f : DelegateRow) (c : MarkColour) → slice_get k.shape.weak.delegates.rows n ≡ Some f
        → slice_get k.looks.by_delegate n ≡ Some (Some c)
        → (slice_get h.shape.weak.delegates.rows n ≡ Some f) × (slice_get h.looks.by_delegate n ≡ Some (Some c))
    old_row None rows looks n f c there at = (
      ap (λ (rs : List DelegateRow). slice_get rs n) (sym rows) ∙ there,
      ap (λ (ls : List (Option MarkColour)). slice_get ls n) (sym looks) ∙ at,
    )
    old_row (Some d) rows looks n f c there at =
        let old = none_more c h.looks.by_delegate n
        (ap (λ (ls : List (Option MarkColour)). slice_get ls n) (sym looks) ∙ at) in
        let lt = slice_get_within h.looks.by_delegate n (Some c) old in
        let more = longer h.shape.weak.delegates.rows (row_of (record { map = m; key = q }) d) in
        let left = longer h.looks.by_delegate None in
        let long : length k.shape.weak.delegates.rows ≡ suc (length h.shape.weak.delegates.rows) =
        ap (λ (rs : List DelegateRow). length rs) rows ∙ more in
        let looked : length k.looks.by_delegate ≡ suc (length h.looks.by_delegate) =
        ap (λ (ls : List (Option MarkColour)). length ls) looks ∙ left in (
          sym (slice_get-push_before h.shape.weak.delegates.rows n (row_of (record { map = m; key = q }) d)
              (omega (arith, lt, by.parallel.2, long, looked)))
              ∙ (ap (λ (rs : List DelegateRow). slice_get rs n) (sym rows) ∙ there),
          old,
        )

    new_left : LooksLeftFrom h.shape h.looks k.shape k.looks
    new_left = record {
      maps = put_entry (λ (entry : WeakEntry). entry.map) (λ e f map key. map) h.looks.by_map k.looks.by_map
          (λ n c at. (
          let is_more = ap (λ (l : LooksState). l.by_map) looks_more in
          let old = none_more c h.looks.by_map n
          (ap (λ (ls : List (Option MarkColour)). slice_get ls n) (sym is_more) ∙ at) in
          let lt = slice_get_within h.looks.by_map n (Some c) old in
          let left = ap (λ (ls : List (Option MarkColour)). length ls) is_more ∙ longer h.looks.by_map None in
          (old, omega (arith, lt, by.parallel.0, count_more, left))));
      keys = put_entry (λ (entry : WeakEntry). entry.key) (λ e f map key. key) h.looks.by_key k.looks.by_key
          (λ n c at. (
          let is_more = ap (λ (l : LooksState). l.by_key) looks_more in
          let old = none_more c h.looks.by_key n
          (ap (λ (ls : List (Option MarkColour)). slice_get ls n) (sym is_more) ∙ at) in
          let lt = slice_get_within h.looks.by_key n (Some c) old in
          let left = ap (λ (ls : List (Option MarkColour)). length ls) is_more ∙ longer h.looks.by_key None in
          (old, omega (arith, lt, by.parallel.1, count_more, left))));
      rows = record {
        from = λ n f c there at. (let old = old_row (delegate_of_key h.shape q) rows_more
            (ap (λ (l : LooksState). l.by_delegate) looks_more) n f c there at in
            inl (n, f, old.0, refl, old.1));
      };
    }

  put_left : (o : Option Place) → value_of h.shape.weak m q ≡ o → LooksLeftFrom h.shape h.looks k.shape k.looks
  put_left (Some w) is = again_left w is
  put_left None is = new_left is

-- so no command leaves anything but of marking zones
pub changed_left : (h k : HeapState) (ch : Change) (answer : Reply) → ChangesBy h ch answer k
    → LooksLeftFrom h.shape h.looks k.shape k.looks
changed_left h k change.Zone answer by = same_left h.shape h.looks k.shape k.looks
    (ap (λ (z : HeapState). z.shape.weak) by.0) (ap (λ (z : HeapState). z.looks) by.0)
changed_left h k (change.Comp n) answer by = same_left h.shape h.looks k.shape k.looks
    (ap (λ (z : HeapState). z.shape.weak) by.0) (ap (λ (z : HeapState). z.looks) by.0)
changed_left h k (change.Cell r n d e) answer by = same_left h.shape h.looks k.shape k.looks
    (ap (λ (z : HeapState). z.shape.weak) by.0.rest ∙ ap (λ (z : HeapState). z.shape.weak) by.0.makes.rest)
    (ap (λ (z : HeapState). z.looks) by.0.rest ∙ ap (λ (z : HeapState). z.looks) by.0.makes.rest)
changed_left h k (change.Wrapper r n d t) answer by = same_left h.shape h.looks k.shape k.looks
    (ap (λ (z : HeapState). z.shape.weak) by.0.rest ∙ ap (λ (z : HeapState). z.shape.weak) by.0.makes.rest
    ∙ ap (λ (z : HeapState). z.shape.weak) by.0.makes.makes.rest)
    (ap (λ (z : HeapState). z.looks) by.0.rest ∙ ap (λ (z : HeapState). z.looks) by.0.makes.rest
    ∙ ap (λ (z : HeapState). z.looks) by.0.makes.makes.rest)
changed_left h k (change.Register r v named) answer by = same_left h.shape h.looks k.shape k.looks
    (ap (λ (z : HeapState). z.shape.weak) by.0) (ap (λ (z : HeapState). z.looks) by.0)
changed_left h k (change.Slot g v) answer by = same_left h.shape h.looks k.shape k.looks
    (ap (λ (z : HeapState). z.shape.weak) by.0) (ap (λ (z : HeapState). z.looks) by.0)
changed_left h k (change.Field p f v) answer by = same_left h.shape h.looks k.shape k.looks
    (ap (λ (z : HeapState). z.shape.weak) by.0.rest) (ap (λ (z : HeapState). z.looks) by.0.rest)
changed_left h k (change.Put m n v) answer by = put_left h m n v k by.0 (value_of h.shape.weak m n) refl
changed_left h k (change.Del m n) answer by = carried_left h k by.0.carries

-- an entry and a row have their numbers
both_true : (a b : Bool) → a && b ≡ true → (a ≡ true) × (b ≡ true)
both_true true b e = (refl, e)
both_true false b e = absurd (cc e)

entry_number : (es : List WeakEntry) (m k v : Place) → value_at es m k ≡ Some v
    → (n : ℕ) × (e : WeakEntry) × (slice_get es n ≡ Some e) × (e.map ≡ m) × (e.key ≡ k)
entry_number [] m k v at = cc at
entry_number (e ∷ es) m k v at = by (λ found. entry_number es m k v found) (is_entry m k e) refl at
  where
    by : (value_at es m k ≡ Some v
        → (n : ℕ) × (a : WeakEntry) × (slice_get es n ≡ Some a) × (a.map ≡ m) × (a.key ≡ k))
        → (b : Bool) → is_entry m k e ≡ b → cond b (Some e.value) (value_at es m k) ≡ Some v
        → (n : ℕ) × (a : WeakEntry) × (slice_get (e ∷ es) n ≡ Some a) × (a.map ≡ m) × (a.key ≡ k)
    by more true is found =
        let both = both_true (is_same m e.map) (is_same k e.key) is in
        (0, e, refl, sym (is_same-true m e.map both.0), sym (is_same-true k e.key both.1))
    by more false is found = (let rest = more found in (suc rest.0, rest.1, rest.2, rest.3, rest.4))

first_row : (rs : List DelegateRow) (m k : Place) (n : ℕ) (r : DelegateRow) → slice_get rs n ≡ Some r → r.map ≡ m
    → r.key ≡ k → (j : ℕ) × (a : DelegateRow) × (slice_get rs j ≡ Some a) × (a.map ≡ m) × (a.key ≡ k)
    × (delegate_at rs m k ≡ Some a.target)
first_row [] m k n r there map key = cc there
first_row (x ∷ rs) m k n r there map key =
    by (λ i at. first_row rs m k i r at map key) (is_row m k x) refl n there
  where
    by : ((i : ℕ) → slice_get rs i ≡ Some r
        → (j : ℕ) × (a : DelegateRow) × (slice_get rs j ≡ Some a) × (a.map ≡ m) × (a.key ≡ k)
        × (delegate_at rs m k ≡ Some a.target))
        → (b : Bool) → is_row m k x ≡ b → (n : ℕ) → slice_get (x ∷ rs) n ≡ Some r
        → (j : ℕ) × (a : DelegateRow) × (slice_get (x ∷ rs) j ≡ Some a) × (a.map ≡ m) × (a.key ≡ k)
        × (delegate_at (x ∷ rs) m k ≡ Some a.target)
    by more true is n there =
        let both = both_true (is_same m x.map) (is_same k x.key) is in (
          0,
          x,
          refl,
          sym (is_same-true m x.map both.0),
          sym (is_same-true k x.key both.1),
          ap (λ b. cond b (Some x.target) (delegate_at rs m k)) is,
        )
    by more false is zero there =
        let same : x ≡ r = cc there in
        let here : is_row m k x ≡ true =
        ap (λ (z : DelegateRow). is_row m k z) same
        ∙ (ap (λ (z : Place). is_same m z && is_same k r.key) map
        ∙ (ap (λ (z : Place). is_same m m && is_same k z) key
        ∙ (ap (λ b. b && is_same k k) (is_same-self m) ∙ is_same-self k))) in
        absurd (cc (is, here))
    by more false is (suc n) there =
        let rest = more n there in (
          suc rest.0,
          rest.1,
          rest.2,
          rest.3,
          rest.4,
          ap (λ b. cond b (Some x.target) (delegate_at rs m k)) is ∙ rest.5,
        )

-- what is left has its map, its key or its delegate in a marking zone
pub left_marking : (h : HeapState) (c : MarkColour) (m k v : Place) → LooksOfMarking h.shape h.looks
    → HasEntry h.shape m k v → left_of h c m k
    → (is_marking h.shape m ≡ true) ⊎ ((is_marking h.shape k ≡ true)
    ⊎ ((d : Place) × (delegate_of h.shape.weak m k ≡ Some d) × (is_marking h.shape d ≡ true)))
left_marking h c m k v looks entry left =
    let found = entry_number h.shape.weak.entries m k v entry in
    elim (left found.0 found.1 found.2 found.3 found.4) [
      | inl map ↦ inl (ap (is_marking h.shape) (sym found.3) ∙ elim map [
        | inl here ↦ (looks.maps.each found.0 found.1 c found.2 here).1
        | inr black ↦ (looks.maps.each found.0 found.1 mark.Black found.2 black).1
      ])
      | inr (inl key) ↦ inr (inl (ap (is_marking h.shape) (sym found.4) ∙ elim key [
        | inl here ↦ (looks.keys.each found.0 found.1 c found.2 here).1
        | inr black ↦ (looks.keys.each found.0 found.1 mark.Black found.2 black).1
      ]))
      | inr (inr row) ↦
          let first = first_row h.shape.weak.delegates.rows m k row.number row.row row.there row.map row.key in
          inr (inr (
            first.1.target,
            first.5,
            elim (row.to_come first.0 first.1 first.2 first.3 first.4) [
              | inl here ↦ (looks.rows.each first.0 first.1 c first.2 here).1
              | inr black ↦ (looks.rows.each first.0 first.1 mark.Black first.2 black).1
            ],
          ))
    ]
