-- Arenas that were given up.
use Rattle.std.proofs.Common.{◌≡◌, ◌≢◌, ◌<◌, ◌^◌, ◌==◌, ◌+◌, ℕ, zero, suc, Bool, true, false, not}
use Rattle.std.proofs.Common.{◌≤◌, option_map, nat_le, nat_lt, leb-true, take, ◌↔◌, ◌*◌, ◌/◌, ◌%◌}
use Rattle.arena_table.specs.Slots.{given_up, held_by, is_out_at}
use Rattle.std.proofs.Common.{◌&&◌, if◌then◌else◌, List, []}
use Rattle.std.proofs.Common.{◌∷◌, ◌++◌, length, All, Option, Some, None, IsSome, IsSomeAnd, slice_get, inl, inr, refl}
use Rattle.std.proofs.Common.{sym, ◌∙◌}
use Rattle.std.proofs.Common.{ap, subst, eqb-true, arith}
use Rattle.std.specs.Int.{bit_at}
use Rattle.std.proofs.lemmas.Bool.{false≢true, cases_lt, and_right, le-leb, lt-leb, lt-ltb}
use Rattle.std.proofs.lemmas.List.Elements.{All-nil, All-cons, All-head, All-tail, All-push}
use Rattle.std.proofs.lemmas.Option.{none-some, same_Some}
use Rattle.std.proofs.lemmas.List.{get_or_past}
use Rattle.std.proofs.lemmas.Nat.Bits.{bit_at_above, bit_at-zero}
use Rattle.cell_bits.specs.declared.bits.Bits.{Bits}
use Rattle.gz_names.specs.declared.numbers.Place.{Place}
use Rattle.arena_table.specs.Cells.{CellState}
use Rattle.arena_table.specs.Slots.{Arena, change_at, empty_arena, handed_out, taken_in, with_cell, has_free, cell_at}
use Rattle.arena_table.specs.Slots.{cell_in}
use Rattle.arena_table.specs.Slots.{held_in}
use Rattle.std.specs.Option.{option_and_then}
use Rattle.gz_names.specs.Zones.{HasZone}
use Rattle.arena_table.specs.Sets.{arena_bit}
use Rattle.arena_table.specs.Indexed.{in_zones, is_among, is_open, is_owned}
use Rattle.arena_table.proofs.Forwarding.{in_zones-one}
use Rattle.arena_table.specs.Placement.{place_for}
use Rattle.arena_table.specs.Moving.{count_from, given_up_from, owner_of}
use Rattle.arena_table.specs.Stored.{IsHeadOf}
use Rattle.arena_table.specs.declared.store.Head.{Head}
use Rattle.arena_table.specs.Table.{IsEmptyIfGivenUp, grown_to, in_these, put_at}
use Rattle.arena_table.proofs.Putting.{grown-open}

-- an arena of a zone is none of them
owned-empty : (x : Arena) → x.zone < 64 → IsEmptyIfGivenUp x
owned-empty x below none = absurd (omega (arith, below, none))

-- one arena is changed, which a zone owns
pub empty-change : (f : Arena → Arena) (xs : List Arena) (a : ℕ) →
    ((x : Arena) → slice_get xs a ≡ Some x → IsEmptyIfGivenUp (f x))
    → All IsEmptyIfGivenUp xs → All IsEmptyIfGivenUp (change_at f xs a)
empty-change f [] a owned all = all
empty-change f (x ∷ xs) zero owned all =
    All-cons IsEmptyIfGivenUp (f x) xs (owned x refl) (All-tail IsEmptyIfGivenUp x xs all)
empty-change f (x ∷ xs) (suc a) owned all =
    All-cons IsEmptyIfGivenUp x (change_at f xs a) (All-head IsEmptyIfGivenUp x xs all)
    (empty-change f xs a owned (All-tail IsEmptyIfGivenUp x xs all))

empty-grown : (xs : List Arena) (zone a : ℕ) → zone < 64 → All IsEmptyIfGivenUp xs
    → All IsEmptyIfGivenUp (grown_to xs zone a)
empty-grown xs zone a below all = by (a == length xs)
  where
    by : (b : Bool) → All IsEmptyIfGivenUp (if b then xs ++ empty_arena zone ∷ [] else xs)
    by true = All-push IsEmptyIfGivenUp xs (empty_arena zone) all (owned-empty (empty_arena zone) below)
    by false = all

-- a cell is put
pub empty-put : (xs ys : List Arena) (zone : ℕ) (p : Place) (cell : CellState) → zone < 64 → p ≡ place_for xs zone
    → ys ≡ put_at xs zone p cell → All IsEmptyIfGivenUp xs → All IsEmptyIfGivenUp ys
empty-put xs ys zone p cell below place put all =
    subst (All IsEmptyIfGivenUp) (sym put)
    (empty-change (with_cell p.1 cell) (grown_to xs zone p.0) p.0 (λ x at none.
    (let takes : is_open zone (Some x) ≡ true = sym (ap (is_open zone) at) ∙ grown-open xs zone p place in
    let own : x.zone ≡ zone = open-zone zone x takes in
    absurd (omega (arith, below, own, none))))
    (empty-grown xs zone p.0 below all))
  where
    open-zone : (zone : ℕ) (x : Arena) → is_open zone (Some x) ≡ true → x.zone ≡ zone
    open-zone zone x takes = by (x.zone == zone) refl takes
      where
        by : (b : Bool) → (x.zone == zone) ≡ b → b && (not x.is_out && has_free x.slots) ≡ true → x.zone ≡ zone
        by true is t = eqb-true x.zone zone is
        by false is t = absurd (false≢true t)

-- arenas of zones are handed to sweeping
pub no_zone-out : (word : ℕ) → word < 2 ^ 64 → in_zones word 64 ≡ false
no_zone-out word fits = ap (λ b. b == 1) (bit_at_above word 64 64 fits (omega arith))

pub empty-handed : (word : ℕ) (xs ys : List Arena) → word < 2 ^ 64 → ys ≡ in_these handed_out word xs
    → All IsEmptyIfGivenUp xs → All IsEmptyIfGivenUp ys
empty-handed word xs ys fits is all = subst (All IsEmptyIfGivenUp) (sym is) (each xs all)
  where
    one : (x : Arena) → IsEmptyIfGivenUp x → IsEmptyIfGivenUp (if in_zones word x.zone then handed_out x else x)
    one x h = by (in_zones word x.zone) refl
      where
        by : (b : Bool) → in_zones word x.zone ≡ b → IsEmptyIfGivenUp (if b then handed_out x else x)
        by true e = λ none. absurd (false≢true (sym (ap (in_zones word) none ∙ no_zone-out word fits) ∙ e))
        by false e = h

    each : (xs : List Arena) → All IsEmptyIfGivenUp xs → All IsEmptyIfGivenUp (in_these handed_out word xs)
    each [] all = all
    each (x ∷ xs) all =
        All-cons IsEmptyIfGivenUp (if in_zones word x.zone then handed_out x else x) (in_these handed_out word xs)
        (one x (All-head IsEmptyIfGivenUp x xs all)) (each xs (All-tail IsEmptyIfGivenUp x xs all))

-- an arena that is out was not given up
pub out-owned : (xs : List Arena) (a : ℕ) (x : Arena) → All IsEmptyIfGivenUp xs → slice_get xs a ≡ Some x
    → x.is_out ≡ true → x.zone ≢ 64
out-owned [] a x all at out none = absurd (none-some x at)
out-owned (y ∷ xs) zero x all at out none =
    let e = same_Some y x at in
    let was = subst IsEmptyIfGivenUp e (All-head IsEmptyIfGivenUp y xs all) none in
    false≢true (sym was.1 ∙ out)
out-owned (y ∷ xs) (suc a) x all at out none =
    out-owned xs a x (All-tail IsEmptyIfGivenUp y xs all) at out none

-- and one comes back
pub empty-taken : (freed : ℕ) (bits : Bits) (xs ys : List Arena) (a : ℕ) → ys ≡ change_at (taken_in freed bits) xs a
    → IsSomeAnd (slice_get xs a) (λ x. x.is_out ≡ true) → All IsEmptyIfGivenUp xs → All IsEmptyIfGivenUp ys
empty-taken freed bits xs ys a is out all =
    subst (All IsEmptyIfGivenUp) (sym is) (empty-change (taken_in freed bits) xs a (λ x at none.
    absurd (out-owned xs a x all at (subst (λ o. IsSomeAnd o (λ y. y.is_out ≡ true)) at out) none)) all)

pub owned-out : (xs : List Arena) (a : ℕ) → All IsEmptyIfGivenUp xs
    → IsSomeAnd (slice_get xs a) (λ x. x.is_out ≡ true) → IsSomeAnd (slice_get xs a) (λ x. x.zone ≢ 64)
owned-out xs a all out = by (slice_get xs a) refl out
  where
    by : (o : Option Arena) → slice_get xs a ≡ o → IsSomeAnd o (λ x. x.is_out ≡ true) → IsSomeAnd o (λ x. x.zone ≢ 64)
    by None at is = absurd is
    by (Some x) at is = out-owned xs a x all at is

-- an arena in which a cell stands was not given up
held-some : (slots : List (Option CellState)) (s : ℕ) → IsSome (cell_in slots s) → held_in slots ≢ 0
held-some [] s some = cc
held-some (None ∷ slots) zero some = cc
held-some (Some x ∷ slots) zero some = λ none. (let more : suc (held_in slots) ≡ 0 = none in omega (arith, more))
held-some (None ∷ slots) (suc s) some = held-some slots s some
held-some (Some x ∷ slots) (suc s) some = λ none. (let more : suc (held_in slots) ≡ 0 = none in omega (arith, more))

pub owned-cell : (xs : List Arena) (p : Place) → All IsEmptyIfGivenUp xs → IsSome (cell_at xs p)
    → IsSomeAnd (slice_get xs p.0) (λ x. x.zone ≢ 64)
owned-cell xs (a, s) all some = by xs a all some
  where
    by : (xs : List Arena) (a : ℕ) → All IsEmptyIfGivenUp xs
        → IsSome (option_and_then (λ (x : Arena). cell_in x.slots s) (slice_get xs a))
        → IsSomeAnd (slice_get xs a) (λ x. x.zone ≢ 64)
    by [] a all some = cc
    by (x ∷ xs) zero all some = λ none. held-some x.slots s some (All-head IsEmptyIfGivenUp x xs all none).0
    by (x ∷ xs) (suc a) all some = by xs a (All-tail IsEmptyIfGivenUp x xs all) some

-- the arenas of a zone from a number on are given up, by the number of each
abbrev pub given_up_at : ℕ → ℕ → ℕ → Arena → Arena
given_up_at zone first n x = if nat_le first n && (x.zone == zone) then given_up x else x

pub get-given_up : (zone first n : ℕ) (xs : List Arena) (b : ℕ)
    → slice_get (given_up_from zone first n xs) b ≡ option_map (given_up_at zone first (n + b)) (slice_get xs b)
get-given_up zone first n [] b = refl
get-given_up zone first n (x ∷ xs) zero =
    (let same : n ≡ n + 0 = omega arith in ap (λ m. Some (given_up_at zone first m x)) same)
get-given_up zone first n (x ∷ xs) (suc b) =
    get-given_up zone first (suc n) xs b
    ∙ (let same : suc n + b ≡ n + suc b = omega arith in
    ap (λ m. option_map (given_up_at zone first m) (slice_get xs b)) same)

pub get-given_up_from : (zone first : ℕ) (xs : List Arena) (b : ℕ)
    → slice_get (given_up_from zone first 0 xs) b ≡ option_map (given_up_at zone first b) (slice_get xs b)
get-given_up_from zone first xs b =
    get-given_up zone first 0 xs b
    ∙ (let same : 0 + b ≡ b = omega arith in ap (λ m. option_map (given_up_at zone first m) (slice_get xs b)) same)

-- one where something holds
abbrev pub one_if : Bool → ℕ
one_if b = if b then 1 else 0

-- how many there are among the first
count-more : (zone first n : ℕ) (xs : List Arena) (b : ℕ) (x : Arena) → slice_get xs b ≡ Some x
    → count_from zone first n (take (suc b) xs)
    ≡ count_from zone first n (take b xs) + (if nat_le first (n + b) && (x.zone == zone) then 1 else 0)
count-more zone first n [] b x at = absurd (none-some x at)
count-more zone first n (y ∷ xs) zero x at =
    let e = same_Some y x at in
    let same : n ≡ n + 0 = omega arith in
    let here = ap (λ (z : Arena). one_if (nat_le first n && (z.zone == zone))) e in
    let there = ap (λ m. one_if (nat_le first m && (x.zone == zone))) same in
    omega (arith, here, there)
count-more zone first n (y ∷ xs) (suc b) x at =
    let rest = count-more zone first (suc n) xs b x at in
    let same : suc n + b ≡ n + suc b = omega arith in
    let moved = ap (λ m. one_if (nat_le first m && (x.zone == zone))) same in
    omega (arith, rest, moved)

-- all but the zone of an arena stays
either : {Y : Type 0} (part : Arena → Y) → ((x : Arena) → part (given_up x) ≡ part x) → (b : Bool) (x : Arena)
    → part (if b then given_up x else x) ≡ part x
either part same true x = same x
either part same false x = refl

pub length-given_up : (zone first n : ℕ) (xs : List Arena) → length (given_up_from zone first n xs) ≡ length xs
length-given_up zone first n [] = refl
length-given_up zone first n (x ∷ xs) = ap suc (length-given_up zone first (suc n) xs)

pub out-given_up : (zone first n : ℕ) (xs : List Arena) (a : ℕ) → is_out_at (given_up_from zone first n xs) a ≡
    is_out_at xs a
out-given_up zone first n [] a = refl
out-given_up zone first n (x ∷ xs) zero = either (λ y. y.is_out) (λ y. refl) (nat_le first n && (x.zone == zone)) x
out-given_up zone first n (x ∷ xs) (suc a) = out-given_up zone first (suc n) xs a

pub held-given_up : (zone first n : ℕ) (xs : List Arena) → held_by (given_up_from zone first n xs) ≡ held_by xs
held-given_up zone first n [] = refl
held-given_up zone first n (x ∷ xs) =
    let one = either (λ y. held_in y.slots) (λ y. refl) (nat_le first n && (x.zone == zone)) x in
    let rest = held-given_up zone first (suc n) xs in
    omega (arith, one, rest)

pub cell-given_up : (zone first n : ℕ) (xs : List Arena) (p : Place)
    → cell_at (given_up_from zone first n xs) p ≡ cell_at xs p
cell-given_up zone first n [] p = refl
cell-given_up zone first n (x ∷ xs) (zero, s) =
    either (λ y. cell_in y.slots s) (λ y. refl) (nat_le first n && (x.zone == zone)) x
cell-given_up zone first n (x ∷ xs) (suc a, s) = cell-given_up zone first (suc n) xs (a, s)

-- what is given up has no cell
pub empty-given_up : (zone first n : ℕ) (xs : List Arena)
    → ((b : ℕ) (x : Arena) → first ≤ n + b → slice_get xs b ≡ Some x → x.zone ≡ zone
    → (held_in x.slots ≡ 0) × (x.is_out ≡ false))
    → All IsEmptyIfGivenUp xs → All IsEmptyIfGivenUp (given_up_from zone first n xs)
empty-given_up zone first n [] empty all = all
empty-given_up zone first n (x ∷ xs) empty all =
    All-cons IsEmptyIfGivenUp (if nat_le first n && (x.zone == zone) then given_up x else x)
    (given_up_from zone first (suc n) xs) (by (nat_le first n) (x.zone == zone) refl refl)
    (empty-given_up zone first (suc n) xs (λ b y le at. empty (suc b) y (omega (arith, le)) at)
    (All-tail IsEmptyIfGivenUp x xs all))
  where
    by : (t u : Bool) → nat_le first n ≡ t → (x.zone == zone) ≡ u
        → IsEmptyIfGivenUp (if t && u then given_up x else x)
    by true true e f = λ none. empty 0 x (let le = leb-true first n e in omega (arith, le)) refl
        (eqb-true x.zone zone f)
    by true false e f = All-head IsEmptyIfGivenUp x xs all
    by false u e f = All-head IsEmptyIfGivenUp x xs all

-- none is counted before the first, and none where no arena is one of the zone
pub count-below : (zone first n : ℕ) (xs : List Arena) (m : ℕ) → n + m ≤ first → count_from zone first n (take m xs) ≡ 0
count-below zone first n xs zero le = refl
count-below zone first n [] (suc m) le = refl
count-below zone first n (x ∷ xs) (suc m) le =
    let before : nat_le first n ≡ false = lt-leb first n (omega (arith, le)) in
    let rest = count-below zone first (suc n) xs m (omega (arith, le)) in
    let here = ap (λ b. one_if (b && (x.zone == zone))) before in
    omega (arith, here, rest)

count-past : (zone first n : ℕ) (xs : List Arena) (b : ℕ) → slice_get xs b ≡ None
    → count_from zone first n (take (suc b) xs) ≡ count_from zone first n (take b xs)
count-past zone first n [] zero none = refl
count-past zone first n [] (suc b) none = refl
count-past zone first n (x ∷ xs) zero none = absurd (none-some x (sym none))
count-past zone first n (x ∷ xs) (suc b) none =
    ap (λ k. (if nat_le first n && (x.zone == zone) then 1 else 0) + k) (count-past zone first (suc n) xs b none)

pub count-none : (zone first : ℕ) (xs : List Arena) (from d : ℕ)
    → ((b : ℕ) → from ≤ b → b < from + d → is_owned zone (slice_get xs b) ≡ false)
    → count_from zone first 0 (take (from + d) xs) ≡ count_from zone first 0 (take from xs)
count-none zone first xs from zero none =
    (let same : from + 0 ≡ from = omega arith in ap (λ n. count_from zone first 0 (take n xs)) same)
count-none zone first xs from (suc d) none =
    let last : from + suc d ≡ suc (from + d) = omega arith in
    ap (λ n. count_from zone first 0 (take n xs)) last
    ∙ by (slice_get xs (from + d)) refl (none (from + d) (omega arith) (omega arith))
    ∙ count-none zone first xs from d (λ b le lt. none b le (omega (arith, lt)))
  where
    by : (o : Option Arena) → slice_get xs (from + d) ≡ o → is_owned zone (slice_get xs (from + d)) ≡ false
        → count_from zone first 0 (take (suc (from + d)) xs) ≡ count_from zone first 0 (take (from + d) xs)
    by None at out = count-past zone first 0 xs (from + d) at
    by (Some x) at out =
        let other : (x.zone == zone) ≡ false = sym (ap (is_owned zone) at) ∙ out in
        let more = count-more zone first 0 xs (from + d) x at in
        let none = ap (λ t. one_if (nat_le first (0 + (from + d)) && t)) other
        ∙ ap one_if (and_right (nat_le first (0 + (from + d))) false refl) in
        omega (arith, more, none)

pub count-one : (zone first : ℕ) (xs : List Arena) (b : ℕ) → first ≤ b → is_owned zone (slice_get xs b) ≡ true
    → count_from zone first 0 (take (suc b) xs) ≡ count_from zone first 0 (take b xs) + 1
count-one zone first xs b le mine = by (slice_get xs b) refl mine
  where
    by : (o : Option Arena) → slice_get xs b ≡ o → is_owned zone o ≡ true
        → count_from zone first 0 (take (suc b) xs) ≡ count_from zone first 0 (take b xs) + 1
    by None at is = absurd (false≢true is)
    by (Some x) at is =
        let more = count-more zone first 0 xs b x at in
        let one = ap (λ t. one_if (t && (x.zone == zone))) (le-leb first (0 + b) (omega (arith, le))) ∙ ap one_if is in
        omega (arith, more, one)

-- whether an arena is one of the set that has only one zone
pub among-owned : (word zone : ℕ) (xs : List Arena) (a : ℕ) → word < 2 ^ 64 → zone < 64
    → ((z : ℕ) → HasZone word z ↔ (z ≡ zone)) → All (λ (x : Arena). x.zone ≤ 64) xs
    → is_among word (slice_get xs a) ≡ is_owned zone (slice_get xs a)
among-owned word zone [] a fits below only all = refl
among-owned word zone (x ∷ xs) zero fits below only all =
    in_zones-one word zone x.zone fits below only (All-head (λ (y : Arena). y.zone ≤ 64) x xs all)
among-owned word zone (x ∷ xs) (suc a) fits below only all =
    among-owned word zone xs a fits below only (All-tail (λ (y : Arena). y.zone ≤ 64) x xs all)

-- an arena at which nothing is given up
pub keeps-other : (zone first b : ℕ) (o : Option Arena) → is_owned zone o ≡ false
    → option_map (given_up_at zone first b) o ≡ o
keeps-other zone first b None out = refl
keeps-other zone first b (Some x) out =
    ap (λ t. Some (if nat_le first b && t then given_up x else x)) out
    ∙ ap (λ t. Some (if t then given_up x else x)) (and_right (nat_le first b) false refl)

pub keeps-before : (zone first b : ℕ) (o : Option Arena) → b < first → option_map (given_up_at zone first b) o ≡ o
keeps-before zone first b None lt = refl
keeps-before zone first b (Some x) lt =
    ap (λ t. Some (if t && (x.zone == zone) then given_up x else x)) (lt-leb first b lt)

pub gives-own : (zone first b : ℕ) (o : Option Arena) → first ≤ b → is_owned zone o ≡ true
    → option_map (given_up_at zone first b) o ≡ option_map given_up o
gives-own zone first b None le mine = refl
gives-own zone first b (Some x) le mine =
    ap (λ t. Some (if t && (x.zone == zone) then given_up x else x)) (le-leb first b le)
    ∙ ap (λ t. Some (if t then given_up x else x)) mine

-- lists with the same elements
pub same-at_all : {X : Type 0} (xs ys : List X) → ((b : ℕ) → slice_get xs b ≡ slice_get ys b) → xs ≡ ys
same-at_all [] [] same = refl
same-at_all [] (y ∷ ys) same = absurd (none-some y (same 0))
same-at_all (x ∷ xs) [] same = absurd (none-some x (sym (same 0)))
same-at_all (x ∷ xs) (y ∷ ys) same =
    ap (λ z. z ∷ xs) (same_Some x y (same 0)) ∙ ap (λ zs. y ∷ zs) (same-at_all xs ys (λ b. same (suc b)))

-- nobody owns an arena whose head says that it was given up
pub owner-none : (xs : List Arena) (a : ℕ) (h : Head) → IsSomeAnd (slice_get xs a) (λ x. IsHeadOf x h)
    → h.is_given_up ≡ true → owner_of (slice_get xs a) ≡ None
owner-none xs a h head gone = by (slice_get xs a) head
  where
    by : (o : Option Arena) → IsSomeAnd o (λ x. IsHeadOf x h) → owner_of o ≡ None
    by None is = absurd is
    by (Some x) is =
        ap (λ z. if nat_lt z 64 then Some z else None) (is.zone ∙ ap {B = ℕ} (λ t. if t then 64 else h.zone) gone)

-- the owner of an arena, by its head
pub owner-of_head : (xs : List Arena) (a : ℕ) (h : Head) → IsSomeAnd (slice_get xs a) (λ x. IsHeadOf x h) → h.zone < 64
    → owner_of (slice_get xs a) ≡ (if h.is_given_up then None else Some h.zone)
owner-of_head xs a h head below = by (slice_get xs a) head
  where
    by : (o : Option Arena) → IsSomeAnd o (λ x. IsHeadOf x h) → owner_of o ≡
        (if h.is_given_up then None else Some h.zone)
    by None is = absurd is
    by (Some x) is = of h.is_given_up is.zone
      where
        of : (b : Bool) → x.zone ≡ (if b then 64 else h.zone)
            → (if nat_lt x.zone 64 then Some x.zone else None) ≡ (if b then None else Some h.zone)
        of true e = ap (λ z. if nat_lt z 64 then Some z else None) e
        of false e =
            ap (λ z. if nat_lt z 64 then Some z else None) e
            ∙ ap (λ t. if t then Some h.zone else None) (lt-ltb h.zone 64 below)

-- the zone of a cell, by the head of its arena
pub zone-of_head : (xs : List Arena) (p : Place) (h : Head) → All IsEmptyIfGivenUp xs → IsSome (cell_at xs p)
    → IsSomeAnd (slice_get xs p.0) (λ x. IsHeadOf x h) → option_map (λ (x : Arena). x.zone) (slice_get xs p.0) ≡ Some
    h.zone
zone-of_head xs p h all some head = by (slice_get xs p.0) head (owned-cell xs p all some)
  where
    by : (o : Option Arena) → IsSomeAnd o (λ x. IsHeadOf x h) → IsSomeAnd o (λ x. x.zone ≢ 64)
        → option_map (λ (x : Arena). x.zone) o ≡ Some h.zone
    by None is owned = absurd is
    by (Some x) is owned = ap (λ z. Some z) (of h.is_given_up is.zone)
      where
        of : (b : Bool) → x.zone ≡ (if b then 64 else h.zone) → x.zone ≡ h.zone
        of true e = absurd (owned e)
        of false e = e

-- an arena with a bit in a set is one for which the set has room
pub bit-within : (words : List ℕ) (a : ℕ) → arena_bit words a ≡ 1 → a < 64 * length words
bit-within words a one = elim (cases_lt (a / 64) (length words)) [
  | inl inside ↦ omega (arith, inside)
  | inr past ↦ (let none = ap (λ w. bit_at w (a % 64)) (get_or_past words (a / 64) 0 past) ∙ bit_at-zero (a % 64) in
      absurd (omega (arith, none, one)))
]
