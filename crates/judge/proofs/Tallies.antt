-- What is counted as the marking of a collection begins.
use Rattle.std.proofs.Common.{◌≡◌, ◌↔◌, ◌∙◌, ℕ, zero, suc, ◌+◌, ◌<◌, ◌≤◌, Bool, true, false, cond, not, ◌&&◌, List, []}
use Rattle.std.proofs.Common.{◌∷◌, length, get_or, take, None, IsTrue, count_by, refl, sym, ap, subst}
use Rattle.std.proofs.Common.{arith, add-one}
use Rattle.std.specs.Prelude.{◌==◌}
use Rattle.std.specs.Int.{bit_at}
use Rattle.std.specs.Map.{keys_of}
use Rattle.std.proofs.lemmas.List.{get_or-map, length-map, take-map}
use Rattle.std.proofs.lemmas.List.Sums.{count_by_more_no, count_by_more_yes, sum_by-cons}
use mir.Val.{bool_byte}
use Rattle.gz_names.specs.Zones.{zones_from, zones_in}
use Rattle.gz_names.specs.declared.zone_sets.ZoneSet.{ZoneSet}
use Rattle.gz_names.specs.declared.names.Name.{Name}
use Rattle.gz_names.specs.declared.numbers.Place.{Place}
use Rattle.colour_defs.specs.Graph.{GraphState, is_among, is_in_zones}
use Rattle.colour_defs.specs.World.{is_wrapper}
use Rattle.colour_defs.specs.Units.{Tally}
use Rattle.judge.specs.Slots.{owner_of, owners_of}
use Rattle.judge.specs.declared.arenas.Arena.{Arena}
use Rattle.judge.specs.Bounds.{arena_count, with_cells}

-- one more is counted, or not
count_more : {X : Type 0} (p : X → Bool) (xs : List X) (i : ℕ) (d : X) → i < length xs
    → count_by p (take (i + 1) xs) ≡ count_by p (take i xs) + cond (p (get_or xs i d)) 1 0
count_more p xs i d below = go (p (get_or xs i d)) refl
  where
    go : (b : Bool) → p (get_or xs i d) ≡ b
        → count_by p (take (i + 1) xs) ≡ count_by p (take i xs) + cond b 1 0
    go true e = count_by_more_yes p xs i d below e
    go false e = omega (arith, count_by_more_no p xs i d below e)

-- a test as a number
pub byte_is : (b : Bool) → bool_byte b ≡ cond b 1 0
byte_is true = refl
byte_is false = refl

pub byte_most : (b : Bool) → bool_byte b ≤ 1
byte_most true = omega arith
byte_most false = omega arith

pub same_test : (a b : Bool) → (IsTrue a ↔ IsTrue b) → a ≡ b
same_test true true e = refl
same_test true false e = cc (e.0 refl)
same_test false true e = cc (e.1 refl)
same_test false false e = refl

-- the arenas of these zones, one after another
pub arenas_more : (zones : ZoneSet) (items : List Arena) (i : ℕ) (d : Arena) (b : Bool) → i < length items
    → b ≡ is_among (zones_in zones) (get_or items i d).owner
    → arena_count (zones_in zones) (owners_of (take (i + 1) items))
    ≡ arena_count (zones_in zones) (owners_of (take i items)) + cond b 1 0
arenas_more zones items i d b below is =
    ap (arena_count (zones_in zones)) (sym (take-map owner_of (i + 1) items))
    ∙ count_more (is_among (zones_in zones)) (owners_of items) i None (omega (arith, length-map items owner_of))
    ∙ ap (λ (n : ℕ). n + cond (is_among (zones_in zones) (get_or (owners_of items) i None)) 1 0)
    (ap (arena_count (zones_in zones)) (take-map owner_of i items))
    ∙ ap (λ (c : Bool). arena_count (zones_in zones) (owners_of (take i items)) + cond c 1 0)
    (ap (is_among (zones_in zones)) (get_or-map owner_of items i d None below) ∙ sym is)

-- how many zones there are below a number
zones_more : (w n c m : ℕ) → m ≡ n + c
    → length (zones_from w n (suc c)) ≡ length (zones_from w n c) + cond (bit_at w m == 1) 1 0
unfolding zones_from
zones_more w n zero m e =
    subst (λ k. length (cond (bit_at w n == 1) (n ∷ []) []) ≡ 0 + cond (bit_at w k == 1) 1 0) same
    (go (bit_at w n == 1))
  where
    same : n ≡ m
    same = omega (arith, e)

    go : (b : Bool) → length (cond b (n ∷ []) []) ≡ 0 + cond b 1 0
    go true = omega arith
    go false = omega arith
zones_more w n (suc c) m e = go (bit_at w n == 1) (zones_more w (n + 1) c m (omega (arith, e)))
  where
    go : (b : Bool)
        → length (zones_from w (n + 1) (suc c)) ≡ length (zones_from w (n + 1) c) + cond (bit_at w m == 1) 1 0
        → length (cond b (n ∷ zones_from w (n + 1) (suc c)) (zones_from w (n + 1) (suc c)))
        ≡ length (cond b (n ∷ zones_from w (n + 1) c) (zones_from w (n + 1) c)) + cond (bit_at w m == 1) 1 0
    go true h = omega (arith, h)
    go false h = h

pub zones_next : (w i : ℕ)
    → length (zones_from w 0 (i + 1)) ≡ length (zones_from w 0 i) + cond (bit_at w i == 1) 1 0
zones_next w i = ap (λ (k : ℕ). length (zones_from w 0 k)) (add-one i) ∙ zones_more w 0 i i (omega arith)

pub zones_counted : (zones : ZoneSet) (i n : ℕ) → i ≡ 64 → n ≡ length (zones_from zones.bits 0 i)
    → n ≡ length (zones_in zones)
unfolding zones_in
zones_counted zones i n e is = is ∙ ap (λ (k : ℕ). length (zones_from zones.bits 0 k)) e

-- the tally with these counts
same_counts : (t : Tally) (a b c d e f : ℕ) → a ≡ d → b ≡ e → c ≡ f
    → record t { cells = a; outside = b; wrappers = c } ≡ record t { cells = d; outside = e; wrappers = f }
same_counts t a b c d e f p q r =
    ap (λ (n : ℕ). record t { cells = n; outside = b; wrappers = c }) p
    ∙ ap (λ (n : ℕ). record t { cells = d; outside = n; wrappers = c }) q
    ∙ ap (λ (n : ℕ). record t { cells = d; outside = e; wrappers = n }) r

counts : {X : Type 0} (p : X → Bool) (x : X) (xs : List X) → count_by p (x ∷ xs) ≡ cond (p x) 1 0 + count_by p xs
counts p x xs = sum_by-cons (λ y. cond (p y) 1 0) x xs

-- cells are counted one after another
cells_one : (g : GraphState) (zones : List ℕ) (x : Name) (xs : List Name) (t : Tally)
    → with_cells g zones xs (with_cells g zones (x ∷ []) t) ≡ with_cells g zones (x ∷ xs) t
cells_one g zones x xs t = same_counts t _ _ _ _ _ _
    (omega (arith, counts inside x xs, counts inside x []))
    (omega (arith, counts outside x xs, counts outside x []))
    (omega (arith, counts wrapper x xs, counts wrapper x []))
  where
    inside : Name → Bool
    inside y = is_in_zones g zones y

    outside : Name → Bool
    outside y = is_wrapper y && not (is_in_zones g zones y)

    wrapper : Name → Bool
    wrapper y = is_wrapper y && is_in_zones g zones y

pub cells_more : (g : GraphState) (zones : List ℕ) (left more : List (Name × Place)) {e : Name × Place}
    (old new all : Tally) → left ≡ e ∷ more → new ≡ with_cells g zones (e.0 ∷ []) old
    → with_cells g zones (keys_of left) old ≡ all → with_cells g zones (keys_of more) new ≡ all
cells_more g zones left more {e = e} old new all is one so =
    ap (with_cells g zones (keys_of more)) one
    ∙ cells_one g zones e.0 (keys_of more) old
    ∙ sym (ap (λ (es : List (Name × Place)). with_cells g zones (keys_of es) old) is)
    ∙ so

cells_none : (g : GraphState) (zones : List ℕ) (t : Tally) → with_cells g zones [] t ≡ t
cells_none g zones t = same_counts t _ _ _ _ _ _ (omega arith) (omega arith) (omega arith)

pub cells_all : (g : GraphState) (zones : List ℕ) (left : List (Name × Place)) (t all : Tally) → left ≡ []
    → with_cells g zones (keys_of left) t ≡ all → t ≡ all
cells_all g zones left t all none so =
    sym (cells_none g zones t)
    ∙ sym (ap (λ (es : List (Name × Place)). with_cells g zones (keys_of es) t) none)
    ∙ so
