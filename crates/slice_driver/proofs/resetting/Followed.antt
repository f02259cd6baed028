-- Cells that are black are followed, one after another.
use Rattle.std.proofs.Common.{◌≡◌, ◌<◌, ◌≤◌, ◌+◌, ◌-◌, ◌^◌, ◌++◌, ◌∷◌, ℕ, zero, suc, Bool, true, false, List, []}
use Rattle.std.proofs.Common.{length}
use Rattle.std.proofs.Common.{Contains, Option, Some, None, bit_and, if◌then◌else◌, slice_get, w64, inl, inr, refl}
use Rattle.std.proofs.Common.{sym, ap, subst, ◌∙◌, arith}
use Rattle.std.specs.Int.{trailing_zeros}
use Rattle.std.specs.Option.{option_map}
use Rattle.std.proofs.lemmas.List.Elements.{Contains-append_left, Contains-append_right}
use Rattle.std.proofs.lemmas.List.FromFn.{get_or-map-range_with_len, length-map-range_with_len}
use Rattle.std.proofs.lemmas.Nat.Bits.{bit_at-trailing_zeros}
use Rattle.std.proofs.lemmas.Option.{slice_get_within}
use Rattle.gz_names.specs.declared.numbers.Place.{Place}
use Rattle.cell_bits.specs.declared.bits.Bits.{Bits}
use Rattle.arena_table.specs.Delayed.{places_of}
use Rattle.arena_table.specs.Slots.{alloc_word_of, at_bits}
use Rattle.arena_table.proofs.AtBits.{at_bits-lowest}
use Rattle.mark_stack.specs.Stack.{Piles}
use Rattle.heap_core.specs.Shape.{ArenaShape, Shape, is_marking, is_owned_in}
use Rattle.heap_core.specs.Heap.{HeapState, joined}
use Rattle.barriers.specs.Colours.{IsBlack}
use Rattle.barriers.specs.Following.{FollowDone, MayFollow}
use Rattle.barriers.specs.Invariant.{InvariantWhile}
use Rattle.barriers.specs.Pending.{pending}
use Rattle.barriers.specs.Reached.{Reached}
use Rattle.barriers.specs.Reached as reached
use Rattle.barriers.proofs.BlackClosure.{reached_from}
use Rattle.barriers.proofs.Spreading.{grows_more, grows_none}
use Rattle.slice_driver.specs.Resets.{MayFollowAll, cells_of, places_in}
use Rattle.slice_driver.proofs.abstraction.Named.{some_one}

-- of the cells that are to be followed these are left, which are black
pub record FollowsOn {S O : Type 0} (bits_of : S → ℕ → Option Bits) (origin_of : S → O) (cells todo : List Place)
    (h : HeapState) (f : S) (p : Piles) (k : HeapState) (g : S) (q : Piles) : Type 0 where
  pub done : FollowDone bits_of origin_of (Reached h.shape (IsBlack (joined h (bits_of f)))) todo h f p k g q
  pub black : (x : Place) → Contains cells x → IsBlack (joined k (bits_of g)) x

module _ {S O : Type 0} (bits_of : S → ℕ → Option Bits) (origin_of : S → O) (ledger : ℕ) (h : HeapState) (f : S)
    (p : Piles) where
  abbrev From : Place → Type 0
  From = Reached h.shape (IsBlack (joined h (bits_of f)))

  pub follows_none : (cells rest : List Place) → MayFollowAll ledger cells rest h (bits_of f) p
      → FollowsOn bits_of origin_of cells (cells ++ rest) h f p h f p
  follows_none cells rest may = record {
    done = record {
      holds = may.holds;
      grows = grows_none From (joined h (bits_of f)) (pending h p);
      covers = may.covers;
      origin = refl;
    };
    black = may.black;
  }

  module _ (cells todo : List Place) (k : HeapState) (g : S) (q : Piles)
      (on : FollowsOn bits_of origin_of cells todo h f p k g q) where
    pub shape_same : k.shape ≡ h.shape
    shape_same = ap (λ (z : HeapState). z.shape) on.done.grows.spreads.blackens.rest

    ledger_same : k.ledger ≡ h.ledger
    ledger_same = ap (λ (z : HeapState). z.ledger) on.done.grows.spreads.blackens.rest

    -- the next one may be followed
    pub may_follow : (x : Place) (rest : List Place) → todo ≡ x ∷ rest → h.ledger ≡ Some ledger
        → ((y : Place) → is_marking h.shape y ≡ false) → MayFollow ledger k (bits_of g) q x rest
    may_follow x rest is counted outside = record {
      counted = ledger_same ∙ counted;
      covers = on.done.covers;
      outside = ap (λ (s : Shape). is_marking s x) shape_same ∙ outside x;
      holds = subst (λ ys. InvariantWhile ys (joined k (bits_of g)) (pending k q)) is on.done.holds;
    }

    -- so may some
    pub may_follow_all : (xs rest : List Place) → todo ≡ xs ++ rest → ((x : Place) → Contains xs x → Contains cells x)
        → h.ledger ≡ Some ledger → ((y : Place) → is_marking h.shape y ≡ false)
        → MayFollowAll ledger xs rest k (bits_of g) q
    may_follow_all xs rest is among counted outside = record {
      counted = ledger_same ∙ counted;
      covers = on.done.covers;
      outside = λ x. ap (λ (s : Shape). is_marking s x) shape_same ∙ outside x;
      black = λ x has. on.black x (among x has);
      holds = subst (λ ys. InvariantWhile ys (joined k (bits_of g)) (pending k q)) is on.done.holds;
    }

    -- and then some were
    pub follows_next : (l : HeapState) (i : S) (r : Piles) (left after : List Place)
        → FollowDone bits_of origin_of (Reached k.shape (IsBlack (joined k (bits_of g)))) after k g q l i r
        → ((x : Place) → Contains left x → Contains cells x) → FollowsOn bits_of origin_of left after h f p l i r
    follows_next l i r left after next among = record {
      done = record {
        holds = next.holds;
        grows = grows_more From (Reached k.shape (IsBlack (joined k (bits_of g)))) From (joined h (bits_of f))
            (pending h p) (joined k (bits_of g)) (pending k q) (joined l (bits_of i)) (pending l r) on.done.grows
            next.grows (λ y was. was) (λ y was. reached_from h.shape (IsBlack (joined k (bits_of g)))
            (IsBlack (joined h (bits_of f))) (λ z b. elim (on.done.grows.spreads.blackens.only z b) [
              | inl old ↦ reached.from old
              | inr new ↦ new
            ]) (subst (λ (s : Shape). Reached s (IsBlack (joined k (bits_of g))) y) shape_same was));
        covers = next.covers;
        origin = next.origin ∙ on.done.origin;
      };
      black = λ x has. next.grows.spreads.blackens.kept x (on.black x (among x has));
    }

-- the lowest cell of a word of slots
pub next_place : (arena left : ℕ) (place : Place) → 0 < left → left < 2 ^ 64
    → place ≡ (arena, trailing_zeros w64 left)
    → at_bits left (places_of arena) ≡ place ∷ at_bits (bit_and left (left - 1)) (places_of arena)
next_place arena left place some fits is =
    let below : trailing_zeros w64 left < 64 = (bit_at-trailing_zeros w64 left some fits).0 in
    let long = length-map-range_with_len {X = Place} (λ (slot : ℕ). (arena, slot)) 0 64 in
    let at = get_or-map-range_with_len {X = Place} (λ (slot : ℕ). (arena, slot)) 0 64 (trailing_zeros w64 left)
    (trailing_zeros w64 left) (arena, 0) below (omega arith) in
    at_bits-lowest left (places_of arena) (arena, 0) some fits (omega (arith, below, long))
    ∙ ap (λ (x : Place). x ∷ at_bits (bit_and left (left - 1)) (places_of arena)) (at ∙ sym is)

pub word_cells : (n w : ℕ) (o : Option ArenaShape) → option_map (λ a. alloc_word_of a.slots) o ≡ Some w
    → cells_of n o ≡ at_bits w (places_of n)
word_cells n w None e = absurd (cc e)
word_cells n w (Some a) e = ap (λ v. at_bits v (places_of n)) (some_one _ _ e)

pub slot_below : (left : ℕ) → 0 < left → left < 2 ^ 64 → trailing_zeros w64 left < 64
slot_below left some fits = (bit_at-trailing_zeros w64 left some fits).0

pub later : (x : Place) (xs : List Place) (y : Place) → Contains xs y → Contains (x ∷ xs) y
later x xs y (i, lt, is) = (suc i, omega (arith, lt), is)

-- where the cells of these zones stand, but for the first arenas
abbrev pub rest_in : ℕ → ℕ → ℕ → List ArenaShape → List Place
rest_in zones n zero arenas = places_in zones n arenas
rest_in zones n (suc from) [] = []
rest_in zones n (suc from) (arena ∷ arenas) = rest_in zones (suc n) from arenas

abbrev pub AreNot : ℕ → List ArenaShape → ℕ → ℕ → Type 0
AreNot zones arenas from arena =
    (other : ℕ) → from ≤ other → other < arena → is_owned_in zones (slice_get arenas other) ≡ false

-- the next arena of these zones
pub next_cells : (zones n from arena : ℕ) (arenas : List ArenaShape) → from ≤ arena
    → is_owned_in zones (slice_get arenas arena) ≡ true → AreNot zones arenas from arena
    → rest_in zones n from arenas ≡ cells_of (n + arena) (slice_get arenas arena)
    ++ rest_in zones n (suc arena) arenas
next_cells zones n from arena [] le owned none = absurd (cc owned)
next_cells zones n (suc from) zero (x ∷ xs) le owned none = absurd (omega (arith, le))
next_cells zones n (suc from) (suc arena) (x ∷ xs) le owned none =
    let number : suc n + arena ≡ n + suc arena = omega arith in
    next_cells zones (suc n) from arena xs (omega (arith, le)) owned
    (λ o ge lt. none (suc o) (omega (arith, ge)) (omega (arith, lt)))
    ∙ ap (λ m. cells_of m (slice_get xs arena) ++ rest_in zones (suc n) (suc arena) xs) number
next_cells zones n zero zero (x ∷ xs) le owned none =
    let number : n ≡ n + 0 = omega arith in
    ap (λ (b : Bool). (if b then cells_of n (Some x) else []) ++ places_in zones (suc n) xs) owned
    ∙ ap (λ m. cells_of m (Some x) ++ places_in zones (suc n) xs) number
next_cells zones n zero (suc arena) (x ∷ xs) le owned none =
    let number : suc n + arena ≡ n + suc arena = omega arith in
    ap (λ (b : Bool). (if b then cells_of n (Some x) else []) ++ places_in zones (suc n) xs)
    (none 0 (omega arith) (omega arith))
    ∙ (next_cells zones (suc n) zero arena xs (omega arith) owned
    (λ o ge lt. none (suc o) (omega arith) (omega (arith, lt)))
    ∙ ap (λ m. cells_of m (slice_get xs arena) ++ rest_in zones (suc n) (suc arena) xs) number)

-- where none is left, no cell is
pub no_cells : (zones n from : ℕ) (arenas : List ArenaShape)
    → ((other : ℕ) → from ≤ other → is_owned_in zones (slice_get arenas other) ≡ false)
    → rest_in zones n from arenas ≡ []
no_cells zones n zero [] none = refl
no_cells zones n (suc from) [] none = refl
no_cells zones n (suc from) (x ∷ xs) none =
    no_cells zones (suc n) from xs (λ o ge. none (suc o) (omega (arith, ge)))
no_cells zones n zero (x ∷ xs) none =
    ap (λ (b : Bool). (if b then cells_of n (Some x) else []) ++ places_in zones (suc n) xs) (none 0 (omega arith))
    ∙ no_cells zones (suc n) zero xs (λ o ge. none (suc o) (omega arith))

-- an arena of these zones was made
pub owned_made : (zones a : ℕ) (arenas : List ArenaShape) → is_owned_in zones (slice_get arenas a) ≡ true
    → a < length arenas
owned_made zones a arenas owned = go (slice_get arenas a) refl owned
  where
    go : (o : Option ArenaShape) → slice_get arenas a ≡ o → is_owned_in zones o ≡ true → a < length arenas
    go None at e = absurd (cc e)
    go (Some x) at e = slice_get_within arenas a x at

-- so are all of them, from the first arena on
pub next_here : (zones from arena : ℕ) (arenas : List ArenaShape) → from ≤ arena
    → is_owned_in zones (slice_get arenas arena) ≡ true → AreNot zones arenas from arena
    → rest_in zones 0 from arenas ≡ cells_of arena (slice_get arenas arena) ++ rest_in zones 0 (arena + 1) arenas
next_here zones from arena arenas le owned none =
    let number : 0 + arena ≡ arena = omega arith in
    let next : suc arena ≡ arena + 1 = omega arith in
    next_cells zones 0 from arena arenas le owned none
    ∙ (ap (λ m. cells_of m (slice_get arenas arena) ++ rest_in zones 0 (suc arena) arenas) number
    ∙ ap (λ m. cells_of arena (slice_get arenas arena) ++ rest_in zones 0 m arenas) next)

pub first_in : (x : Place) (xs ys : List Place) → ys ≡ x ∷ xs → Contains ys x
first_in x xs ys is = subst (λ zs. Contains zs x) (sym is) (0, omega arith, refl)

pub later_in : (x : Place) (xs ys : List Place) → ys ≡ x ∷ xs → (y : Place) → Contains xs y → Contains ys y
later_in x xs ys is y has = subst (λ zs. Contains zs y) (sym is) (later x xs y has)

pub part_in : (xs ys zs : List Place) → zs ≡ xs ++ ys → (y : Place) → Contains xs y → Contains zs y
part_in xs ys zs is y has = subst (λ ws. Contains ws y) (sym is) (Contains-append_left xs ys y has)

pub rest_among : (xs ys zs : List Place) → zs ≡ xs ++ ys → (y : Place) → Contains ys y → Contains zs y
rest_among xs ys zs is y has = subst (λ ws. Contains ws y) (sym is) (Contains-append_right xs ys y has)
