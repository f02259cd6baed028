-- Entries and rows at the places to which their cells have gone.
use Rattle.std.proofs.Common.{◌≡◌, ◌≢◌, ◌<◌, ℕ, suc, Bool, true, false, if◌then◌else◌, List, [], ◌∷◌}
use Rattle.std.proofs.Common.{length}
use Rattle.std.proofs.Common.{get_or, map, Contains, AllPairs, Some, inl, inr, refl, sym, ◌∙◌, ap, subst, arith}
use Rattle.std.proofs.Common.{◌&&◌, Decides, None, take}
use Rattle.std.specs.List.{IsDistinct}
use Rattle.std.specs.Map.{keys_of, lookup}
use Rattle.std.proofs.lemmas.Bool.{false≢true}
use Rattle.std.proofs.lemmas.List.{get_or-map, get_or-take, get_or_default, length-map, length-take-le}
use Rattle.std.proofs.lemmas.Map.Made.{AllPairs-from_IsDistinct}
use Rattle.std.proofs.lemmas.List.Elements.{Contains-get_or}
use Rattle.gz_names.specs.Moves.{GoApart, IsGoal, IsLeft, moved}
use Rattle.gz_names.specs.declared.moves.Move.{Move}
use Rattle.gz_names.specs.declared.numbers.Place.{Place}
use Rattle.gz_names.proofs.Moving.{moved-apart, same-places}
use Rattle.weak_maps.specs.Delegates.{AreRows, DelegateRow, place_of_zone, row_of}
use Rattle.weak_maps.specs.Tables.{is_key}
use Rattle.weak_maps.specs.declared.delegates.Delegate.{Delegate}
use Rattle.weak_maps.specs.declared.entries.EntryKey.{EntryKey}
use Rattle.weak_maps.specs.Entries.{AreTied, IsFor, value_at}
use Rattle.weak_maps.specs.Moving.{AreNamed, AreNamedByRows, entry_forwarded, exchanged, other_of, row_forwarded}
use Rattle.weak_maps.specs.Places.{is_same}
use Rattle.weak_maps.specs.WeakMaps.{HaveEntries}
use Rattle.weak_maps.specs.Sides.{IsSide, SideState, number_of}
use Rattle.weak_maps.specs.declared.entries.WeakEntry.{WeakEntry}
use Rattle.weak_maps.proofs.Places.{is_same-self, is_same-true}
use Rattle.weak_maps.proofs.Exchanging.{other-goal, other-stays}

-- a move after the first
later-left : (m : Move) (moves : List Move) (p : Place) → IsLeft moves p → IsLeft (m ∷ moves) p
later-left m moves p (n, (k, lt, at), is) = (n, (suc k, omega (arith, lt), at), is)

later-goal : (m : Move) (moves : List Move) (p : Place) → IsGoal moves p → IsGoal (m ∷ moves) p
later-goal m moves p (n, (k, lt, at), is) = (n, (suc k, omega (arith, lt), at), is)

first : (m : Move) (moves : List Move) → Contains (m ∷ moves) m
first m moves = (0, omega arith, refl)

GoApart-tail : (holds : Place → Type 0) (m : Move) (moves : List Move) → GoApart holds (m ∷ moves)
    → GoApart holds moves
GoApart-tail holds m moves goes = record {
  apart = λ i j d less within. goes.apart (suc i) (suc j) d (omega (arith, less)) (omega (arith, within));
  free = λ p held goal. goes.free p held (later-goal m moves p goal);
  clear = λ p left goal. goes.clear p (later-left m moves p left) (later-goal m moves p goal);
}

-- a place that no move leaves or reaches keeps its list
untouched : (moves : List Move) (p : Place) → (IsLeft moves p → ⊥) → (IsGoal moves p → ⊥) → exchanged moves p ≡ p
untouched [] p left goal = refl
untouched (m ∷ moves) p left goal =
    ap (other_of m)
    (untouched moves p (λ l. left (later-left m moves p l)) (λ g. goal (later-goal m moves p g)))
    ∙ other-stays m p (λ e. left (m, first m moves, e)) (λ e. goal (m, first m moves, e))

-- a cell has the list at its new place that it had at its old one
pub exchanged-moved : (holds : Place → Type 0) (moves : List Move) → GoApart holds moves → (p : Place) → holds p
    → exchanged moves (moved moves p) ≡ p
exchanged-moved holds [] goes p held = refl
exchanged-moved holds (m ∷ moves) goes p held =
    by (is_same m.from p) refl (exchanged-moved holds moves (GoApart-tail holds m moves goes) p held)
  where
    another : (ms : List Move) → ((i : ℕ) → i < length ms → m.to ≢ (get_or ms i m).to) → IsGoal ms m.to → ⊥
    another ms other (n, (k, lt, at), is) =
        other k lt (sym is ∙ ap (λ (x : Move). x.to) (sym at ∙ get_or_default ms k n m lt))

    by : (b : Bool) → is_same m.from p ≡ b → exchanged moves (moved moves p) ≡ p
        → other_of m (exchanged moves (if b then m.to else moved moves p)) ≡ p
    by true e later =
        ap (other_of m) (untouched moves m.to
        (λ l. goes.clear m.to (later-left m moves m.to l) (m, first m moves, refl))
        (another moves (λ i lt. goes.apart 0 (suc i) m (omega arith) (omega (arith, lt)))))
        ∙ other-goal m ∙ same-places m.from p e
    by false e later =
        ap (other_of m) later
        ∙ other-stays m p (λ same. false≢true (sym e ∙ subst (λ q. is_same m.from q ≡ true) same (is_same-self m.from)))
        (λ same. goes.free p held (m, first m moves, same))

-- a side in which the places have exchanged their lists
module _ {E : Type 0} (place_of : E → Place) (gone : E → E) (moves : List Move) (old new : SideState) where
  numbers-gone : (entries : List E) → ((e : E) → Contains entries e → number_of new (place_of (gone e)) ≡ number_of old
      (place_of e))
      → map (λ e. number_of new (place_of e)) (map gone entries) ≡ map (λ e. number_of old (place_of e)) entries
  numbers-gone [] same = refl
  numbers-gone (e ∷ entries) same =
      ap (λ n. n ∷ map (λ e. number_of new (place_of e)) (map gone entries)) (same e (0, omega arith, refl))
      ∙ ap (λ ns. number_of old (place_of e) ∷ ns)
      (numbers-gone entries (λ d has. same d (suc has.0, (let lt = has.1 in omega (arith, lt)), has.2)))

  pub IsFor-gone : (entries : List E) → IsFor place_of entries old → IsSide new → new.owners ≡ old.owners
      → ((e : E) → Contains entries e → number_of new (place_of (gone e)) ≡ number_of old (place_of e))
      → IsFor place_of (map gone entries) new
  IsFor-gone entries h side owners same = record {
    sound = side;
    numbers = numbers-gone entries same ∙ h.numbers ∙ ap (map (λ j. Some j)) (sym owners);
  }

-- where no two of what is held come to one place, a pair of them stays apart
apart-gone : {E : Type 0} (one two : E → Place) (gone : E → E) (entries : List E)
    → ((d e : E) → Contains entries d → Contains entries e → one (gone d) ≡ one (gone e) → one d ≡ one e)
    → ((d e : E) → Contains entries d → Contains entries e → two (gone d) ≡ two (gone e) → two d ≡ two e)
    → AllPairs (λ d e. one d ≡ one e → two d ≢ two e) entries
    → AllPairs (λ d e. one d ≡ one e → two d ≢ two e) (map gone entries)
apart-gone one two gone entries first second h i j d less within = λ same both.
    (let long = length-map entries gone in
    let later : j < length entries = omega (arith, within, long) in
    let before : i < length entries = omega (arith, later, less) in
    let a = get_or-map gone entries i d d before in
    let b = get_or-map gone entries j d d later in
    let has = Contains-get_or entries i d before in
    let there = Contains-get_or entries j d later in
    h i j d less later
    (first (get_or entries i d) (get_or entries j d) has there (sym (ap one a) ∙ same ∙ ap one b))
    (second (get_or entries i d) (get_or entries j d) has there (sym (ap two a) ∙ both ∙ ap two b)))

-- a side in which the lists went where moves take the cells that they are of
pub record HasExchanged (moves : List Move) (old new : SideState) : Type 0 where
  pub side : IsSide new
  pub owners : new.owners ≡ old.owners
  pub numbers : (q : Place) → number_of new q ≡ number_of old (exchanged moves q)

-- what always holds of the entries, after it
module _ (moves : List Move) (entries : List WeakEntry) (by_map by_key : SideState)
    (goes : GoApart (AreNamed entries) moves) (tied : AreTied entries by_map by_key) where
  pub AreTied-gone : (map_now key_now : SideState) → HasExchanged moves by_map map_now
      → HasExchanged moves by_key key_now → AreTied (map (entry_forwarded moves) entries) map_now key_now
  AreTied-gone map_now key_now maps keys = record {
    distinct = apart-gone (λ e. e.map) (λ e. e.key) (entry_forwarded moves) entries
        (λ d e has there same. moved-apart (AreNamed entries) moves goes d.map e.map (d, has, inl refl)
        (e, there, inl refl) same)
        (λ d e has there same. moved-apart (AreNamed entries) moves goes d.key e.key (d, has, inr (inl refl))
        (e, there, inr (inl refl)) same)
        tied.distinct;
    few = (let long = length-map entries (entry_forwarded moves) in omega (arith, long, tied.few));
    maps = IsFor-gone (λ e. e.map) (entry_forwarded moves) moves by_map map_now entries tied.maps maps.side maps.owners
        (λ e has. maps.numbers (moved moves e.map)
        ∙ ap (number_of by_map) (exchanged-moved (AreNamed entries) moves goes e.map (e, has, inl refl)));
    keys = IsFor-gone (λ e. e.key) (entry_forwarded moves) moves by_key key_now entries tied.keys keys.side keys.owners
        (λ e has. keys.numbers (moved moves e.key)
        ∙ ap (number_of by_key) (exchanged-moved (AreNamed entries) moves goes e.key (e, has, inr (inl refl))));
  }

-- and of the rows
module _ (moves : List Move) (rows : List DelegateRow) (by_target by_zone now : SideState)
    (goes : GoApart (AreNamedByRows rows) moves) (sound : AreRows rows by_target by_zone)
    (went : HasExchanged moves by_target now) where
  pub AreRows-gone : AreRows (map (row_forwarded moves) rows) now by_zone
  AreRows-gone = record {
    distinct = apart-gone (λ e. e.map) (λ e. e.key) (row_forwarded moves) rows
        (λ d e has there same. moved-apart (AreNamedByRows rows) moves goes d.map e.map (d, has, inl refl)
        (e, there, inl refl) same)
        (λ d e has there same. moved-apart (AreNamedByRows rows) moves goes d.key e.key (d, has, inr (inl refl))
        (e, there, inr (inl refl)) same)
        sound.distinct;
    few = (let long = length-map rows (row_forwarded moves) in omega (arith, long, sound.few));
    targets = IsFor-gone (λ e. e.target) (row_forwarded moves) moves by_target now rows sound.targets went.side
        went.owners
        (λ e has. went.numbers (moved moves e.target)
        ∙ ap (number_of by_target) (exchanged-moved (AreNamedByRows rows) moves goes e.target
        (e, has, inr (inr refl))));
    zones = IsFor-gone (λ e. place_of_zone e.zone) (row_forwarded moves) moves by_zone by_zone rows sound.zones
        sound.zones.sound refl (λ e has. refl);
  }

-- a table whose keys go
abbrev pub key_gone : List Move → EntryKey → EntryKey
key_gone moves k = record { map = moved moves k.map; key = moved moves k.key }

abbrev pub pair_gone : {X : Type 0} → List Move → (X → X) → EntryKey × X → EntryKey × X
pair_gone moves gone e = (key_gone moves e.0, gone e.1)

key-decided : (k l : EntryKey) → Decides (is_key k l) (k ≡ l)
key-decided k l = (
  λ is. to (is_same k.map l.map) (is_same k.key l.key) refl refl is,
  λ e. subst
      (λ x. is_key k x ≡ true) e (self k),
)
  where
    to : (a b : Bool) → is_same k.map l.map ≡ a → is_same k.key l.key ≡ b → is_key k l ≡ true → k ≡ l
    to true true e f is =
        let maps = is_same-true k.map l.map e in
        let keys = is_same-true k.key l.key f in λ i. record { map = maps i; key = keys i }
    to true false e f is = absurd (false≢true (sym (ap (λ c. c && is_same k.key l.key) e ∙ f) ∙ is))
    to false b e f is = absurd (false≢true (sym (ap (λ c. c && is_same k.key l.key) e) ∙ is))

    self : (x : EntryKey) → is_key x x ≡ true
    self x = ap (λ c. c && is_same x.key x.key) (is_same-self x.map) ∙ is_same-self x.key

lookup-none : {X : Type 0} (k : EntryKey) (es : List (EntryKey × X))
    → ((i : ℕ) (d : EntryKey × X) → i < length es → (get_or es i d).0 ≢ k) → lookup (is_key k) es ≡ None
lookup-none k [] other = refl
lookup-none k (e ∷ es) other =
    by (is_key k e.0) refl (lookup-none k es (λ i d lt. other (suc i) d (omega (arith, lt))))
  where
    by : (b : Bool) → is_key k e.0 ≡ b → lookup (is_key k) es ≡ None
        → (if b then Some e.1 else lookup (is_key k) es) ≡ None
    by true is later = absurd (other 0 e (omega arith) (sym ((key-decided k e.0).0 is)))
    by false is later = later

-- the keys of a table, and moves that keep them apart
pub record KeysGo {X : Type 0} (holds : Place → Type 0) (moves : List Move) (es : List (EntryKey × X)) : Type 0 where
  pub apart : GoApart holds moves
  pub named : (e : EntryKey × X) → Contains es e → holds e.0.map × holds e.0.key
  pub distinct : IsDistinct is_key (keys_of es)

module _ {X : Type 0} (holds : Place → Type 0) (moves : List Move) (gone : X → X) (es : List (EntryKey × X))
    (go : KeysGo holds moves es) where
  -- a key goes where none of those before it went
  pub key_goes_anew : (i : ℕ) (e : EntryKey × X) → i < length es → e ≡ get_or es i e
      → lookup (is_key (key_gone moves e.0)) (map (pair_gone moves gone) (take i es)) ≡ None
  key_goes_anew i e within at = lookup-none (key_gone moves e.0) (map (pair_gone moves gone) (take i es))
      (λ k d lt same.
      (let few : length (take i es) ≡ i = length-take-le i es (omega (arith, within)) in
      let mapped = length-map (take i es) (pair_gone moves gone) in
      let before : k < i = omega (arith, lt, few, mapped) in
      let inside : k < length es = omega (arith, before, within) in
      let one = get_or es k e in
      let read : get_or (map (pair_gone moves gone) (take i es)) k d ≡ pair_gone moves gone one =
      get_or-map (pair_gone moves gone) (take i es) k e d (omega (arith, lt, mapped))
      ∙ ap (pair_gone moves gone) (get_or-take i es k e before) in
      let key : key_gone moves one.0 ≡ key_gone moves e.0 = sym (ap (λ (p : EntryKey × X). p.0) read) ∙ same in
      let here = go.named one (Contains-get_or es k e inside) in
      let there = go.named e (subst (Contains es) (sym at) (Contains-get_or es i e within)) in
      let maps = moved-apart holds moves go.apart one.0.map e.0.map here.0 there.0
      (ap (λ (l : EntryKey). l.map) key) in
      let keys = moved-apart holds moves go.apart one.0.key e.0.key here.1 there.1
      (ap (λ (l : EntryKey). l.key) key) in
      let whole : one.0 ≡ e.0 = λ j. record { map = maps j; key = keys j } in
      let key_at = λ (n : ℕ) (lt : n < length es). get_or-map (λ (p : EntryKey × X). p.0) es n e e.0 lt in
      AllPairs-from_IsDistinct key-decided (keys_of es) go.distinct k i e.0 before
      (let long = length-map es (λ (p : EntryKey × X). p.0) in omega (arith, within, long))
      (key_at k inside ∙ whole ∙ ap (λ (p : EntryKey × X). p.0) at ∙ sym (key_at i within))))

Contains-map : {A B : Type 0} (f : A → B) (xs : List A) (x : A) → Contains xs x → Contains (map f xs) (f x)
Contains-map f xs x (k, lt, at) =
    (k, (let long = length-map xs f in omega (arith, lt, long)), get_or-map f xs k x (f x) lt ∙ ap f at)

abbrev pub entry_at : EntryKey × Place → WeakEntry
entry_at e = record { map = e.0.map; key = e.0.key; value = e.1 }

abbrev pub row_at : EntryKey × Delegate → DelegateRow
row_at e = row_of e.0 e.1

abbrev pub delegate_gone : List Move → Delegate → Delegate
delegate_gone moves d = record { target = moved moves d.target; zone = d.zone }

-- the keys of the tables are named by their entries, and by their rows
pub entries_name : (table : List (EntryKey × Place)) (e : EntryKey × Place) → Contains table e
    → AreNamed (map entry_at table) e.0.map × AreNamed (map entry_at table) e.0.key
entries_name table e has =
    let entry = Contains-map entry_at table e has in
    ((entry_at e, entry, inl refl), (entry_at e, entry, inr (inl refl)))

pub rows_name : (table : List (EntryKey × Delegate)) (e : EntryKey × Delegate) → Contains table e
    → AreNamedByRows (map row_at table) e.0.map × AreNamedByRows (map row_at table) e.0.key
rows_name table e has =
    let row = Contains-map row_at table e has in ((row_at e, row, inl refl), (row_at e, row, inr (inl refl)))

pub entries_gone : (moves : List Move) (table : List (EntryKey × Place))
    → map entry_at (map (pair_gone moves (moved moves)) table) ≡ map (entry_forwarded moves) (map entry_at table)
entries_gone moves [] = refl
entries_gone moves (e ∷ table) = ap (λ es. entry_forwarded moves (entry_at e) ∷ es) (entries_gone moves table)

pub rows_gone : (moves : List Move) (table : List (EntryKey × Delegate))
    → map row_at (map (pair_gone moves (delegate_gone moves)) table) ≡ map (row_forwarded moves) (map row_at table)
rows_gone moves [] = refl
rows_gone moves (e ∷ table) = ap (λ es. row_forwarded moves (row_at e) ∷ es) (rows_gone moves table)

-- entries went, and what is found among them before and after
pub record EntriesWent (moves : List Move) (entries new : List WeakEntry) : Type 0 where
  pub gone : new ≡ map (entry_forwarded moves) entries
  pub found : (m k v : Place) → value_at entries m k ≡ Some v
      → Contains entries (record { map = m; key = k; value = v })
  pub finds : (m k v : Place) → Contains new (record { map = m; key = k; value = v }) → value_at new m k ≡ Some v

-- each row is that of an entry, after it
pub entered-gone : (moves : List Move) (rows : List DelegateRow) (entries new : List WeakEntry)
    → EntriesWent moves entries new → HaveEntries rows entries → HaveEntries (map (row_forwarded moves) rows) new
entered-gone moves rows entries new went have row (k, lt, at) =
    let long = length-map rows (row_forwarded moves) in
    let inside : k < length rows = omega (arith, lt, long) in
    let was = get_or rows k row in
    let is : row_forwarded moves was ≡ row = sym (get_or-map (row_forwarded moves) rows k row row inside) ∙ at in
    let value = have was (Contains-get_or rows k row inside) in
    let there = Contains-map (entry_forwarded moves) entries (record { map = was.map; key = was.key; value = value.0 })
    (went.found was.map was.key value.0 value.1) in
    let now = went.finds (moved moves was.map) (moved moves was.key) (moved moves value.0)
    (subst (λ es. Contains es (record {
      map = moved moves was.map;
      key = moved moves was.key;
      value = moved moves
          value.0;
    }))
    (sym went.gone) there) in
    (moved moves value.0, subst (λ (r : DelegateRow). value_at new r.map r.key ≡ Some (moved moves value.0)) is now)

-- moves that keep apart what is held keep apart a part of it
pub GoApart-less : (holds some : Place → Type 0) (moves : List Move) → ((p : Place) → some p → holds p)
    → GoApart holds moves → GoApart some moves
GoApart-less holds some moves part goes = record {
  apart = goes.apart;
  free = λ p held. goes.free p (part p held);
  clear = goes.clear;
}
