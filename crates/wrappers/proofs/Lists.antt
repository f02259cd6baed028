-- The lists that maps hold, where one map is changed.
use Rattle.std.proofs.Common.{MatchBool, ◌≡◌, ◌≢◌, ◌<◌, ◌==◌, ◌↔◌, ℕ, zero, suc, Bool, true, false, inl, inr, List}
use Rattle.std.proofs.Common.{[], ◌∷◌, ◌++◌, length, length-set, get_or-set_same, get_or-set_other, get_or, set, map}
use Rattle.std.proofs.Common.{refl, sym, ◌∙◌, ap, eq-eqb, ne_eqb}
use Rattle.std.proofs.lemmas.List.{get_or-map, get_or_past, get_or_read, map-set, length-map}
use Rattle.std.proofs.lemmas.Bool.{cases_eq, cases_lt}
use Rattle.std.specs.Int.{bit_at}
use Rattle.std.specs.declared.hash.FoldHasher.{FoldHasher}
use Rattle.std.specs.declared.hash.BuildHasherDefault.{BuildHasherDefault}
use Rattle.indexmap.specs.IndexMap.{IndexMap}
use Rattle.gz_names.specs.Zones.{HasZone}
use Rattle.gz_names.specs.declared.numbers.Place.{Place}
use Rattle.wrappers.specs.WrapperMaps.{list_at, lists_of, add_at, KeptBy, DropsDead}
use Rattle.wrappers.specs.declared.wrapper_maps.WrapperKey.{WrapperKey}

abbrev pub Entries : Type 0
Entries = IndexMap WrapperKey Place (BuildHasherDefault FoldHasher)

-- a write that leaves what is looked at leaves the list of it
map-set_same : {X Y : Type 0} (f : X → Y) (xs : List X) (i : ℕ) (y : X) → f y ≡ f (get_or xs i y)
    → map f (set xs i y) ≡ map f xs
map-set_same f [] i y h = refl
map-set_same f (x ∷ xs) zero y h = ap (λ z. z ∷ map f xs) h
map-set_same f (x ∷ xs) (suc i) y h = ap (λ zs. f x ∷ zs) (map-set_same f xs i y h)

pub lists_of-read : (ms : List Entries) (i : ℕ) (m : Entries) → i < length ms → m ≡ get_or ms i m
    → list_at (lists_of ms) i ≡ m.entries
lists_of-read ms i m h e = get_or-map (λ (x : Entries). x.entries) ms i m [] h ∙ ap (λ (x : Entries). x.entries) (sym e)

pub lists_of-set : (ms : List Entries) (i : ℕ) (m : Entries) → lists_of (set ms i m) ≡ set (lists_of ms) i m.entries
lists_of-set ms i m = map-set (λ (x : Entries). x.entries) ms i m

pub lists_of-same : (ms : List Entries) (i : ℕ) (m n : Entries) → i < length ms → m ≡ get_or ms i m
    → n.entries ≡ m.entries → lists_of (set ms i n) ≡ lists_of ms
lists_of-same ms i m n h e f =
    map-set_same (λ (x : Entries). x.entries) ms i n (f ∙ ap (λ (x : Entries). x.entries) (get_or_read ms i m h e n))

-- one more entry in one map
pub lists_of-push : (ms : List Entries) (i : ℕ) (m n : Entries) (k : WrapperKey) (p : Place) → i < length ms
    → m ≡ get_or ms i m → n.entries ≡ m.entries ++ (k, p) ∷ [] → lists_of (set ms i n) ≡ add_at (lists_of ms) i k p
lists_of-push ms i m n k p h e f =
    lists_of-set ms i n ∙ ap (set (lists_of ms) i) (f ∙ ap (λ es. es ++ (k, p) ∷ []) (sym (lists_of-read ms i m h e)))

-- the maps of some zones of the word lost their dead, and those of these zones are left
pub record AreDropped (before now : List Entries) (word : ℕ) (ask : Place → Bool → Type 0) (rest : ℕ) : Type 0 where
  pub zones : length now ≡ 64
  pub within : (z : ℕ) → HasZone rest z → HasZone word z
  pub done : (z : ℕ) → (HasZone rest z → ⊥)
      → DropsDead (bit_at word z) ask (list_at (lists_of before) z) (list_at (lists_of now) z)
  pub left : (z : ℕ) → HasZone rest z → list_at (lists_of now) z ≡ list_at (lists_of before) z

DropsDead-yes : (bit : ℕ) (ask : Place → Bool → Type 0) (old new : List (WrapperKey × Place)) → (bit == 1) ≡ true
    → KeptBy ask old new → DropsDead bit ask old new
DropsDead-yes bit ask old new e h = rw e h

DropsDead-no : (bit : ℕ) (ask : Place → Bool → Type 0) (old new : List (WrapperKey × Place)) → (bit == 1) ≡ false
    → new ≡ old → DropsDead bit ask old new
DropsDead-no bit ask old new e h = rw e h

bit-yes : (word z : ℕ) → HasZone word z → (bit_at word z == 1) ≡ true
unfolding HasZone
bit-yes word z h = eq-eqb _ _ h.1

bit-no : (word z : ℕ) → z < 64 → (HasZone word z → ⊥) → (bit_at word z == 1) ≡ false
unfolding HasZone
bit-no word z lt off = ne_eqb _ _ (λ one. off (lt, one))

-- an empty list has no dead
DropsDead-empty : (bit : ℕ) (ask : Place → Bool → Type 0) → DropsDead bit ask [] []
DropsDead-empty bit ask = by (bit == 1)
  where
    by : (b : Bool) → MatchBool b (KeptBy ask [] []) (◌≡◌ {A = List (WrapperKey × Place)} [] [])
    by true = refl
    by false = refl

pub AreDropped-none : (before : List Entries) (word : ℕ) (ask : Place → Bool → Type 0) → length before ≡ 64
    → AreDropped before before word ask word
AreDropped-none before word ask zones = record {
  zones = zones;
  within = λ z h. h;
  done = λ z off. elim (cases_lt z 64) [
    | inl lt ↦ DropsDead-no (bit_at word z) ask _ _ (bit-no word z lt off) refl
    | inr past ↦ (let none : list_at (lists_of before) z ≡ [] =
        get_or_past (lists_of before) z [] (rw (length-map, zones) past) in
        rw none (DropsDead-empty (bit_at word z) ask))
  ];
  left = λ z h. refl;
}

-- the map of a zone loses its dead
pub AreDropped-more : (before now : List Entries) (word : ℕ) (ask : Place → Bool → Type 0) (rest fewer i : ℕ)
    (m n : Entries) → AreDropped before now word ask rest → i < 64 → HasZone rest i
    → ((z : ℕ) → HasZone fewer z ↔ (HasZone rest z × (z ≢ i))) → m ≡ get_or now i m → KeptBy ask m.entries n.entries
    → AreDropped before (set now i n) word ask fewer
AreDropped-more before now word ask rest fewer i m n h lt here removed e f =
    let within : i < length now = rw h.zones lt in
    let inside : i < length (lists_of now) = rw length-map within in
    let lists = lists_of-set now i n in
    let new : list_at (set (lists_of now) i n.entries) i ≡ n.entries =
    get_or-set_same (lists_of now) i n.entries [] inside in
    let was : list_at (lists_of before) i ≡ m.entries = sym (h.left i here) ∙ lists_of-read now i m within e in
    record {
      zones = length-set now i n ∙ h.zones;
      within = λ z k. h.within z ((removed z).0 k).0;
      done = λ z off. rw lists (elim (cases_eq z i) [
        | inl g ↦ rw (g, new, was)
            (DropsDead-yes (bit_at word i) ask m.entries n.entries (bit-yes word i (h.within i here)) f)
        | inr g ↦ rw (get_or-set_other (lists_of now) i z n.entries [] g)
            (h.done z (λ k. off ((removed z).1 (k, g))))
      ]);
      left = λ z k. rw lists (get_or-set_other (lists_of now) i z n.entries [] ((removed z).0 k).1
          ∙ h.left z ((removed z).0 k).0);
    }
