-- What a change of one arena, or of some, does to all.
use Rattle.std.proofs.Common.{◌≡◌, ◌≢◌, ◌<◌, ◌≤◌, ◌==◌, ◌&&◌, ℕ, zero, suc, Bool, true, false, not, if◌then◌else◌, List}
use Rattle.std.proofs.Common.{[]}
use Rattle.std.proofs.Common.{◌∷◌, length, Option, Some, None, slice_get, All, option_map, refl, sym, ◌∙◌, ap, subst}
use Rattle.std.proofs.Common.{◌+◌, arith}
use Rattle.std.proofs.lemmas.List.Elements.{All-nil, All-cons, All-head, All-tail}
use Rattle.gz_names.specs.declared.numbers.Place.{Place}
use Rattle.cell_bits.specs.declared.bits.Bits.{Bits}
use Rattle.arena_table.specs.Cells.{CellState, with_value}
use Rattle.arena_table.specs.Slots.{Arena, change_at, change_cell, with_bits, with_field, has_free, first_free, held_in}
use Rattle.arena_table.specs.Slots.{held_by, bit_of, is_out_at}
use Rattle.arena_table.specs.Stored.{StoreState}
use Rattle.arena_table.specs.Indexed.{IndexState, IsIndexed, IsOwnedBy, is_open, is_owned, in_zones}
use Rattle.arena_table.specs.Placement.{place_from}
use Rattle.arena_table.specs.Delayed.{AreCovered, DelayedSets}
use Rattle.arena_table.specs.Table.{AreArenas, IsEmptyIfGivenUp, in_these}
use Rattle.arena_table.specs.declared.arenas.Reserved.{Reserved}

pub length-change_at : {X : Type 0} (f : X → X) (xs : List X) (i : ℕ) → length (change_at f xs i) ≡ length xs
length-change_at f [] i = refl
length-change_at f (x ∷ xs) zero = refl
length-change_at f (x ∷ xs) (suc i) = ap suc (length-change_at f xs i)

pub slice_get-change_same : {X : Type 0} (f : X → X) (xs : List X) (i : ℕ)
    → slice_get (change_at f xs i) i ≡ option_map f (slice_get xs i)
slice_get-change_same f [] i = refl
slice_get-change_same f (x ∷ xs) zero = refl
slice_get-change_same f (x ∷ xs) (suc i) = slice_get-change_same f xs i

pub slice_get-change_other : {X : Type 0} (f : X → X) (xs : List X) (i j : ℕ) → j ≢ i
    → slice_get (change_at f xs i) j ≡ slice_get xs j
slice_get-change_other f [] i j n = refl
slice_get-change_other f (x ∷ xs) zero zero n = absurd (n refl)
slice_get-change_other f (x ∷ xs) zero (suc j) n = refl
slice_get-change_other f (x ∷ xs) (suc i) zero n = refl
slice_get-change_other f (x ∷ xs) (suc i) (suc j) n = slice_get-change_other f xs i j (λ e. n (ap suc e))

-- two arenas that are told apart neither by the index nor by placement
pub record IsLike (x y : Arena) : Type 0 where
  pub zone : y.zone ≡ x.zone
  pub is_out : y.is_out ≡ x.is_out
  pub free : has_free y.slots ≡ has_free x.slots
  pub first : first_free y.slots ≡ first_free x.slots
  pub held : held_in y.slots ≡ held_in x.slots

abbrev pub AreLike : List Arena → List Arena → Type 0
AreLike [] [] = Unit {0}
AreLike [] (y ∷ ys) = ⊥
AreLike (x ∷ xs) [] = ⊥
AreLike (x ∷ xs) (y ∷ ys) = IsLike x y × AreLike xs ys

pub IsLike-same : (x : Arena) → IsLike x x
IsLike-same x = record { zone = refl; is_out = refl; free = refl; first = refl; held = refl }

pub AreLike-same : (xs : List Arena) → AreLike xs xs
AreLike-same [] = tt
AreLike-same (x ∷ xs) = (IsLike-same x, AreLike-same xs)

pub AreLike-change_at : (f : Arena → Arena) → ((x : Arena) → IsLike x (f x)) → (xs : List Arena) (i : ℕ)
    → AreLike xs (change_at f xs i)
AreLike-change_at f h [] i = tt
AreLike-change_at f h (x ∷ xs) zero = (h x, AreLike-same xs)
AreLike-change_at f h (x ∷ xs) (suc i) = (IsLike-same x, AreLike-change_at f h xs i)

pub AreLike-changed : (f : Arena → Arena) → ((x : Arena) → IsLike x (f x)) → (xs ys : List Arena) (i : ℕ)
    → ys ≡ change_at f xs i → AreLike xs ys
AreLike-changed f h xs ys i e = rw e (AreLike-change_at f h xs i)

pub AreLike-in_these : (f : Arena → Arena) → ((x : Arena) → IsLike x (f x)) → (word : ℕ) (xs : List Arena)
    → AreLike xs (in_these f word xs)
AreLike-in_these f h word [] = tt
AreLike-in_these f h word (x ∷ xs) = (by (in_zones word x.zone), AreLike-in_these f h word xs)
  where
    by : (b : Bool) → IsLike x (if b then f x else x)
    by true = h x
    by false = IsLike-same x

pub AreLike-in : (f : Arena → Arena) → ((x : Arena) → IsLike x (f x)) → (word : ℕ) (xs ys : List Arena)
    → ys ≡ in_these f word xs → AreLike xs ys
AreLike-in f h word xs ys e = rw e (AreLike-in_these f h word xs)

like-length : (xs ys : List Arena) → AreLike xs ys → length ys ≡ length xs
like-length [] [] h = refl
like-length [] (y ∷ ys) h = absurd h
like-length (x ∷ xs) [] h = absurd h
like-length (x ∷ xs) (y ∷ ys) h = ap suc (like-length xs ys h.1)

like-owned : (zone : ℕ) (xs ys : List Arena) (a : ℕ) → AreLike xs ys
    → is_owned zone (slice_get ys a) ≡ is_owned zone (slice_get xs a)
like-owned zone [] [] a h = refl
like-owned zone [] (y ∷ ys) a h = absurd h
like-owned zone (x ∷ xs) [] a h = absurd h
like-owned zone (x ∷ xs) (y ∷ ys) zero h = ap (λ z. z == zone) h.0.zone
like-owned zone (x ∷ xs) (y ∷ ys) (suc a) h = like-owned zone xs ys a h.1

like-one : (zone : ℕ) (x y : Arena) → IsLike x y → is_open zone (Some y) ≡ is_open zone (Some x)
like-one zone x y h = ap (λ z. (z == zone) && (not y.is_out && has_free y.slots)) h.zone
    ∙ (ap (λ o. (x.zone == zone) && (not o && has_free y.slots)) h.is_out
    ∙ ap (λ f. (x.zone == zone) && (not x.is_out && f)) h.free)

like-open : (zone : ℕ) (xs ys : List Arena) (a : ℕ) → AreLike xs ys
    → is_open zone (slice_get ys a) ≡ is_open zone (slice_get xs a)
like-open zone [] [] a h = refl
like-open zone [] (y ∷ ys) a h = absurd h
like-open zone (x ∷ xs) [] a h = absurd h
like-open zone (x ∷ xs) (y ∷ ys) zero h = like-one zone x y h.0
like-open zone (x ∷ xs) (y ∷ ys) (suc a) h = like-open zone xs ys a h.1

like-zones : (xs ys : List Arena) → AreLike xs ys → All (λ (x : Arena). x.zone ≤ 64) xs
    → All (λ (x : Arena). x.zone ≤ 64) ys
like-zones xs [] h all = All-nil (λ (x : Arena). x.zone ≤ 64)
like-zones [] (y ∷ ys) h all = absurd h
like-zones (x ∷ xs) (y ∷ ys) h all =
    All-cons (λ (x : Arena). x.zone ≤ 64) y ys
    (subst (λ z. z ≤ 64) (sym h.0.zone) (All-head (λ (x : Arena). x.zone ≤ 64) x xs all))
    (like-zones xs ys h.1 (All-tail (λ (x : Arena). x.zone ≤ 64) x xs all))

like-held : (xs ys : List Arena) → AreLike xs ys → held_by ys ≡ held_by xs
like-held [] [] h = refl
like-held [] (y ∷ ys) h = absurd h
like-held (x ∷ xs) [] h = absurd h
like-held (x ∷ xs) (y ∷ ys) h = (let one = h.0.held in let rest = like-held xs ys h.1 in omega arith)

like-place : (n zone : ℕ) (xs ys : List Arena) → AreLike xs ys → place_from n ys zone ≡ place_from n xs zone
like-place n zone [] [] h = refl
like-place n zone [] (y ∷ ys) h = absurd h
like-place n zone (x ∷ xs) [] h = absurd h
like-place n zone (x ∷ xs) (y ∷ ys) h = ap (λ b. if b then (n, first_free y.slots) else place_from (suc n) ys zone)
    (like-one zone x y h.0)
    ∙ (ap (λ s. if is_open zone (Some x) then (n, s) else place_from (suc n) ys zone) h.0.first
    ∙ ap (λ p. if is_open zone (Some x) then (n, first_free x.slots) else p) (like-place (suc n) zone xs ys h.1))

pub IsOwnedBy-like : (xs ys : List Arena) (owned : List (List ℕ)) → AreLike xs ys → IsOwnedBy xs owned
    → IsOwnedBy ys owned
IsOwnedBy-like xs ys owned h o = record {
  zones = like-zones xs ys h o.zones;
  bits = λ z a lt. o.bits z a lt ∙ ap bit_of (sym (like-owned z xs ys a h));
}

pub IsIndexed-like : (xs ys : List Arena) (index : IndexState) → AreLike xs ys → IsIndexed xs index → IsIndexed ys index
IsIndexed-like xs ys index h i = record {
  owned = IsOwnedBy-like xs ys index.owned h i.owned;
  open_ = λ z a lt. i.open_ z a lt ∙ ap bit_of (sym (like-open z xs ys a h));
  covered = λ z a lt own. i.covered z a lt (sym (like-owned z xs ys a h) ∙ own);
}

like-out : (xs ys : List Arena) (a : ℕ) → AreLike xs ys → is_out_at xs a ≡ is_out_at ys a
like-out [] [] a h = refl
like-out [] (y ∷ ys) a h = absurd h
like-out (x ∷ xs) [] a h = absurd h
like-out (x ∷ xs) (y ∷ ys) zero h = sym h.0.is_out
like-out (x ∷ xs) (y ∷ ys) (suc a) h = like-out xs ys a h.1

-- what was given up stays empty
empty-like : (xs ys : List Arena) → AreLike xs ys → All IsEmptyIfGivenUp xs → All IsEmptyIfGivenUp ys
empty-like [] [] h all = all
empty-like [] (y ∷ ys) h all = absurd h
empty-like (x ∷ xs) [] h all = absurd h
empty-like (x ∷ xs) (y ∷ ys) h all =
    All-cons IsEmptyIfGivenUp y ys (λ none.
    (let was = All-head IsEmptyIfGivenUp x xs all (sym h.0.zone ∙ none) in (h.0.held ∙ was.0, h.0.is_out ∙ was.1)))
    (empty-like xs ys h.1 (All-tail IsEmptyIfGivenUp x xs all))

-- all that always holds, where only such arenas are changed
pub AreArenas-like : (store changed : StoreState) (index : IndexState) (out : List ℕ) (delayed : DelayedSets)
    (made held : ℕ) (reserved : Option Reserved) → AreArenas store index out delayed made held reserved
    → AreLike store.arenas changed.arenas → changed.room ≡ store.room
    → AreArenas changed index out delayed made held reserved
AreArenas-like store changed index out delayed made held reserved h like room = record {
  indexed = IsIndexed-like store.arenas changed.arenas index like h.indexed;
  out_of = record {
    bits = λ a. h.out_of.bits a ∙ ap bit_of (like-out store.arenas changed.arenas a like);
    room = (let was = h.out_of.room in let long = like-length store.arenas changed.arenas like in omega arith);
  };
  covered = subst (AreCovered delayed) (sym (like-length store.arenas changed.arenas like)) h.covered;
  empty = empty-like store.arenas changed.arenas like h.empty;
  few = h.few;
  counted = h.counted ∙ sym (like-held store.arenas changed.arenas like);
  fewer = h.fewer;
  kept = λ r e. (let k = h.kept r e in record {
    zone = k.zone;
    place = k.place ∙ sym (like-place 0 r.zone store.arenas changed.arenas like);
    few = k.few;
    room = λ end. (let old = k.room (end ∙ like-length store.arenas changed.arenas like) in
        let long = like-length store.arenas changed.arenas like in record {
          room = subst (λ n. 0 < n) (sym room) old.room;
          below = (let was = old.below in omega arith);
          owned = (let was = old.owned in omega arith);
          open_ = (let was = old.open_ in omega arith);
        });
    out_room = λ end. (let old = k.out_room (end ∙ like-length store.arenas changed.arenas like) in
        let long = like-length store.arenas changed.arenas like in omega arith);
    covered = λ end. subst (λ n. AreCovered delayed (n + 1)) (sym (like-length store.arenas changed.arenas like))
        (k.covered (end ∙ like-length store.arenas changed.arenas like));
  });
}

-- bits and fields are such changes
pub IsLike-bits : (bits : Bits) (x : Arena) → IsLike x (with_bits bits x)
IsLike-bits bits x = record { zone = refl; is_out = refl; free = refl; first = refl; held = refl }

has_free-cell : (f : CellState → CellState) (slots : List (Option CellState)) (s : ℕ)
    → has_free (change_at (change_cell f) slots s) ≡ has_free slots
has_free-cell f [] s = refl
has_free-cell f (None ∷ slots) zero = refl
has_free-cell f (Some cell ∷ slots) zero = refl
has_free-cell f (None ∷ slots) (suc s) = refl
has_free-cell f (Some cell ∷ slots) (suc s) = has_free-cell f slots s

first_free-cell : (f : CellState → CellState) (slots : List (Option CellState)) (s : ℕ)
    → first_free (change_at (change_cell f) slots s) ≡ first_free slots
first_free-cell f [] s = refl
first_free-cell f (None ∷ slots) zero = refl
first_free-cell f (Some cell ∷ slots) zero = refl
first_free-cell f (None ∷ slots) (suc s) = refl
first_free-cell f (Some cell ∷ slots) (suc s) = ap suc (first_free-cell f slots s)

held_in-cell : (f : CellState → CellState) (slots : List (Option CellState)) (s : ℕ)
    → held_in (change_at (change_cell f) slots s) ≡ held_in slots
held_in-cell f [] s = refl
held_in-cell f (None ∷ slots) zero = refl
held_in-cell f (Some cell ∷ slots) zero = refl
held_in-cell f (None ∷ slots) (suc s) = held_in-cell f slots s
held_in-cell f (Some cell ∷ slots) (suc s) = ap suc (held_in-cell f slots s)

pub IsLike-cell : (f : CellState → CellState) (slot : ℕ) (x : Arena)
    → IsLike x (record x { slots = change_at (change_cell f) x.slots slot })
IsLike-cell f slot x = record {
  zone = refl;
  is_out = refl;
  free = has_free-cell f x.slots slot;
  first = first_free-cell f x.slots slot;
  held = held_in-cell f x.slots slot;
}

pub IsLike-field : (slot f : ℕ) (value : Option Place) (x : Arena) → IsLike x (with_field slot f value x)
IsLike-field slot f value x = IsLike-cell (with_value f value) slot x
