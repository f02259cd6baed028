-- How a change of the arenas shows in the heap.
use Rattle.std.proofs.Common.{◌≡◌, ◌+◌, ◌<◌, ◌&&◌, ℕ, zero, suc, Bool, true, false, List, [], ◌∷◌, length, Option, Some}
use Rattle.std.proofs.Common.{None, slice_get, slice_set, option_map, unwrap_or, IfNone, IsSome, is_some, if◌then◌else◌}
use Rattle.std.proofs.Common.{All, Contains, IfSome, IsSomeAnd, refl, sym, ◌∙◌, ap, subst, arith}
use Rattle.std.proofs.lemmas.List.{length-map}
use Rattle.std.proofs.lemmas.Option.{same_Some}
use Rattle.std.proofs.lemmas.List.Elements.{All-nil, All-cons, All-head, All-tail}
use Rattle.cell_bits.specs.declared.bits.Bits.{Bits}
use Rattle.cell_bits.specs.declared.jobs.Job.{Job}
use Rattle.gz_names.specs.declared.numbers.Place.{Place}
use Rattle.mark_stack.specs.Stack.{IsPushed, Piles, pile_of}
use Rattle.mark_stack.specs.declared.stack.Pile.{Pile}
use Rattle.arena_table.specs.Slots.{Arena, alloc_word_of, change_at, handed_out, held_by, held_in, is_out_at, taken_in}
use Rattle.arena_table.specs.Slots.{with_bits}
use Rattle.arena_table.specs.Indexed.{in_zones, is_among}
use Rattle.arena_table.specs.Moving as table
use Rattle.arena_table.specs.Table.{ArenasState, AreIn, in_these, jobs_from}
use Rattle.heap_core.specs.Shape.{ArenaShape, arena_shape, arena_shapes, is_owned_in, is_white, out_in, out_of}
use Rattle.heap_core.specs.Shape.{owner_in}
use Rattle.heap_core.specs.Heap.{HeapState, bits_of}
use Rattle.heap_core.specs.Sweeping.{AreKept, come_in, handed, held_in_all, is_lost_in, jobs_of}
use Rattle.heap_core.specs.Sweeping.{with_handed, with_taken}

-- the heap with these arenas
abbrev pub with_arenas : HeapState → List Arena → ℕ → HeapState
with_arenas h xs made = record h {
  shape = record h.shape { arenas = arena_shapes xs };
  colours = bits_of xs;
  made = made;
}

abbrev pub with_parts : HeapState → List ArenaShape → List Bits → HeapState
with_parts h xs bs = record h { shape = record h.shape { arenas = xs }; colours = bs }

pub with_arenas-is : (h : HeapState) (xs : List Arena) (ss : List ArenaShape) (bs : List Bits) → arena_shapes xs ≡ ss
    → bits_of xs ≡ bs → with_arenas h xs h.made ≡ with_parts h ss bs
with_arenas-is h xs ss bs e f = ap (λ (s : List ArenaShape). with_parts h s (bits_of xs)) e
    ∙ ap (λ (b : List Bits). with_parts h ss b) f

-- what follows from what is said where there is none
pub none_then : {P Q : Type 0} (o : Option ℕ) → IfNone o P → (P → Q) → IfNone o Q
none_then None p f = f p
none_then (Some a) p f = p

-- whether an arena is out
pub is_out-seen : (xs : List Arena) (a : ℕ) → is_out_at xs a ≡ is_some (out_in (slice_get (arena_shapes xs) a))
is_out-seen [] a = refl
is_out-seen (x ∷ xs) zero = by x.is_out
  where
    by : (b : Bool) → b ≡ is_some (if b then Some x.bits else None)
    by true = refl
    by false = refl
is_out-seen (x ∷ xs) (suc a) = is_out-seen xs a

pub not_out-seen : (xs : List Arena) (a : ℕ) → is_out_at xs a ≡ false → out_in (slice_get (arena_shapes xs) a) ≡ None
not_out-seen xs a e = by (out_in (slice_get (arena_shapes xs) a)) (sym (is_out-seen xs a) ∙ e)
  where
    by : (o : Option Bits) → is_some o ≡ false → o ≡ None
    by None none = refl
    by (Some bits) none = absurd (cc none)

pub out-seen : (xs : List Arena) (a : ℕ) → is_out_at xs a ≡ true → IsSome (out_in (slice_get (arena_shapes xs) a))
out-seen xs a e = by (out_in (slice_get (arena_shapes xs) a)) (sym (is_out-seen xs a) ∙ e)
  where
    by : (o : Option Bits) → is_some o ≡ true → IsSome o
    by None some = absurd (cc some)
    by (Some bits) some = some

-- the zone that owns an arena
pub owner-shown : (xs : List Arena) (a : ℕ) → table.owner_of (slice_get xs a) ≡ owner_in (slice_get (arena_shapes xs) a)
owner-shown [] a = refl
owner-shown (x ∷ xs) zero = refl
owner-shown (x ∷ xs) (suc a) = owner-shown xs a

-- whether an arena is one of a set of zones
pub among-seen : (xs : List Arena) (word a : ℕ) → is_owned_in word (slice_get (arena_shapes xs) a)
    ≡ is_among word (slice_get xs a)
among-seen [] word a = refl
among-seen (x ∷ xs) word zero = refl
among-seen (x ∷ xs) word (suc a) = among-seen xs word a

out-none : (b : Bool) (bits : Bits) → (if b then Some bits else None) ≡ None → b ≡ false
out-none true bits e = absurd (cc e)
out-none false bits e = refl

-- an arena takes bits
pub shapes-with_bits : (xs : List Arena) (a : ℕ) (bits : Bits) → out_in (slice_get (arena_shapes xs) a) ≡ None
    → arena_shapes (change_at (with_bits bits) xs a) ≡ arena_shapes xs
shapes-with_bits [] a bits e = refl
shapes-with_bits (x ∷ xs) zero bits e =
    ap (λ (o : Option Bits). record { zone = x.zone; out = o; slots = x.slots } ∷ arena_shapes xs)
    (same x.is_out (out-none x.is_out x.bits e))
  where
    same : (b : Bool) → b ≡ false → (if b then Some bits else None) ≡ (if b then Some x.bits else None)
    same b f = rw f refl
shapes-with_bits (x ∷ xs) (suc a) bits e =
    ap (λ (s : List ArenaShape). arena_shape x ∷ s) (shapes-with_bits xs a bits e)

pub bits-with_bits : (xs : List Arena) (a : ℕ) (bits : Bits) → bits_of (change_at (with_bits bits) xs a)
    ≡ slice_set (bits_of xs) a bits
bits-with_bits [] a bits = refl
bits-with_bits (x ∷ xs) zero bits = refl
bits-with_bits (x ∷ xs) (suc a) bits = ap (λ (b : List Bits). x.bits ∷ b) (bits-with_bits xs a bits)

-- arenas of some zones are changed
pub out-kept : (x : Arena) → (arena_shape x).out ≡ None → x.is_out ≡ false
out-kept x e = out-none x.is_out x.bits e

pub are-in : (word : ℕ) (xs : List Arena)
    → All (λ (s : ArenaShape). in_zones word s.zone ≡ true → s.out ≡ None) (arena_shapes xs) → AreIn word xs
are-in word [] all = All-nil (λ (x : Arena). in_zones word x.zone ≡ true → x.is_out ≡ false)
are-in word (x ∷ xs) all = All-cons (λ (x : Arena). in_zones word x.zone ≡ true → x.is_out ≡ false) x xs
    (λ e. out-kept x (All-head (λ (s : ArenaShape). in_zones word s.zone ≡ true → s.out ≡ None) (arena_shape x)
    (arena_shapes xs) all e))
    (are-in word xs (All-tail (λ (s : ArenaShape). in_zones word s.zone ≡ true → s.out ≡ None) (arena_shape x)
    (arena_shapes xs) all))

shape-handed : (x : Arena) (b : Bool) → arena_shape (if b then handed_out x else x)
    ≡ (if b then record (arena_shape x) { out = Some x.bits } else arena_shape x)
shape-handed x true = refl
shape-handed x false = refl

pub shapes-handed : (word : ℕ) (xs : List Arena) → arena_shapes (in_these handed_out word xs)
    ≡ handed word (arena_shapes xs) (bits_of xs)
shapes-handed word [] = refl
shapes-handed word (x ∷ xs) =
    ap (λ (s : ArenaShape). s ∷ arena_shapes (in_these handed_out word xs)) (shape-handed x (in_zones word x.zone))
    ∙ ap (λ (ss : List ArenaShape).
    (if in_zones word x.zone then record (arena_shape x) { out = Some x.bits } else arena_shape x) ∷ ss)
    (shapes-handed word xs)

pub bits-handed : (word : ℕ) (xs : List Arena) → bits_of (in_these handed_out word xs) ≡ bits_of xs
bits-handed word [] = refl
bits-handed word (x ∷ xs) =
    ap (λ (b : Bits). b ∷ bits_of (in_these handed_out word xs)) (one (in_zones word x.zone))
    ∙ ap (λ (bs : List Bits). x.bits ∷ bs) (bits-handed word xs)
  where
    one : (b : Bool) → (if b then handed_out x else x).bits ≡ x.bits
    one true = refl
    one false = refl

pub jobs-seen : (word n : ℕ) (xs : List Arena) → jobs_from word n xs ≡ jobs_of word n (arena_shapes xs) (bits_of xs)
jobs-seen word n [] = refl
jobs-seen word n (x ∷ xs) =
    ap (λ (js : List Job). if in_zones word x.zone
    then record { arena = n; alloc_word = alloc_word_of x.slots; bits = x.bits } ∷ js else js)
    (jobs-seen word (suc n) xs)

-- an arena is taken in
pub shapes-taken : (xs : List Arena) (a freed : ℕ) (bits : Bits) → arena_shapes (change_at (taken_in freed bits) xs a)
    ≡ change_at (come_in freed) (arena_shapes xs) a
shapes-taken [] a freed bits = refl
shapes-taken (x ∷ xs) zero freed bits = refl
shapes-taken (x ∷ xs) (suc a) freed bits =
    ap (λ (s : List ArenaShape). arena_shape x ∷ s) (shapes-taken xs a freed bits)

pub bits-taken : (xs : List Arena) (a freed : ℕ) (bits : Bits) → bits_of (change_at (taken_in freed bits) xs a)
    ≡ slice_set (bits_of xs) a bits
bits-taken [] a freed bits = refl
bits-taken (x ∷ xs) zero freed bits = refl
bits-taken (x ∷ xs) (suc a) freed bits = ap (λ (b : List Bits). x.bits ∷ b) (bits-taken xs a freed bits)

-- the heap with its arenas in this state, and how each call of the arenas shows
abbrev pub with_state : HeapState → ArenasState → HeapState
with_state h s = record (with_arenas h s.arenas s.made) { delayed = s.delayed }

-- there are mark bits for each arena
pub sized : (h k : HeapState) (s : ArenasState) → with_state h s ≡ k → length k.colours ≡ length k.shape.arenas
sized h k s v = subst (λ (k : HeapState). length k.colours ≡ length k.shape.arenas) v
    (length-map s.arenas (λ (arena : Arena). arena.bits) ∙ sym (length-map s.arenas arena_shape))

state-is : (h : HeapState) (s t : ArenasState) (ss : List ArenaShape) (bs : List Bits) → t.made ≡ s.made
    → t.delayed ≡ s.delayed → arena_shapes t.arenas ≡ ss → bits_of t.arenas ≡ bs
    → with_state h t ≡ with_parts (with_state h s) ss bs
state-is h s t ss bs m d e f = ap (λ (n : ℕ). record (with_state h t) { made = n }) m
    ∙ (ap (λ (p : Piles). record (with_state h t) { made = s.made; delayed = p }) d
    ∙ (ap (λ (x : List ArenaShape). with_parts (with_state h s) x (bits_of t.arenas)) e
    ∙ ap (λ (b : List Bits). with_parts (with_state h s) ss b) f))

-- a cell is delayed, or is not any more
pub delayed-seen : (h k : HeapState) (s t : ArenasState) → with_state h s ≡ k → t ≡ record s { delayed = t.delayed }
    → with_state h t ≡ record k { delayed = t.delayed }
delayed-seen h k s t v e =
    subst (λ (k : HeapState). with_state h t ≡ record k { delayed = t.delayed }) v (ap (with_state h) e)

pub made-seen : (h k : HeapState) (s : ArenasState) (n : ℕ) → with_state h s ≡ k → n < length k.shape.arenas
    → n < length s.arenas
made-seen h k s n v = subst (λ (k : HeapState). n < length k.shape.arenas → n < length s.arenas) v
    (λ lt. (let same = length-map s.arenas arena_shape in omega arith))

pub fresh-seen : (h k : HeapState) (s : ArenasState) (pile : Pile) (p : Place) → with_state h s ≡ k
    → (Contains (pile_of k.delayed pile) p → ⊥) → Contains (pile_of s.delayed pile) p → ⊥
fresh-seen h k s pile p v =
    subst (λ (k : HeapState). (Contains (pile_of k.delayed pile) p → ⊥) → Contains (pile_of s.delayed pile) p → ⊥) v
    (λ fresh. fresh)

pub more-seen : (h k : HeapState) (s t : ArenasState) (pile : Pile) (p : Place) → with_state h s ≡ k
    → IsPushed s.delayed pile p t.delayed → IsPushed k.delayed pile p t.delayed
more-seen h k s t pile p v more =
    subst (λ (k : HeapState). IsPushed k.delayed pile p t.delayed) v more

pub some-seen : (h k : HeapState) (s t : ArenasState) (pile : Pile) (o : Option Place) → with_state h s ≡ k
    → IfSome o (λ p. IsPushed t.delayed pile p s.delayed) → IfSome o (λ p. IsPushed t.delayed pile p k.delayed)
some-seen h k s t pile o v some =
    subst (λ (k : HeapState). IfSome o (λ p. IsPushed t.delayed pile p k.delayed)) v some

pub none-seen : (h k : HeapState) (s t : ArenasState) (pile : Pile) (o : Option Place) → with_state h s ≡ k
    → IfNone o ((pile_of s.delayed pile ≡ []) × (t ≡ s))
    → IfNone o ((pile_of k.delayed pile ≡ []) × (with_state h t ≡ k))
none-seen h k s t pile None v none = (
  subst (λ (k : HeapState). pile_of k.delayed pile ≡ []) v none.0,
  ap (with_state h) none.1 ∙ v,
)
none-seen h k s t pile (Some p) v none = tt

pub set_bits-seen : (h k : HeapState) (s t : ArenasState) (a : ℕ) (bits : Bits) → with_state h s ≡ k
    → out_of k.shape a ≡ None → t ≡ record s { arenas = change_at (with_bits bits) s.arenas a }
    → with_state h t ≡ record k { colours = slice_set k.colours a bits }
set_bits-seen h k s t a bits v out e =
    subst (λ (k : HeapState). out_of k.shape a ≡ None
    → with_state h t ≡ record k { colours = slice_set k.colours a bits }) v
    (λ o. ap (with_state h) e ∙ state-is h s (record s { arenas = change_at (with_bits bits) s.arenas a })
    (arena_shapes s.arenas) (slice_set (bits_of s.arenas) a bits) refl refl (shapes-with_bits s.arenas a bits o)
    (bits-with_bits s.arenas a bits)) out

-- all cells of an arena turn black
pub blackened-seen : (h k : HeapState) (s t : ArenasState) (a black : ℕ) (was : Bits) → with_state h s ≡ k
    → out_of k.shape a ≡ None → option_map (λ (x : Arena). alloc_word_of x.slots) (slice_get s.arenas a) ≡ Some black
    → option_map (λ (x : Arena). x.bits) (slice_get s.arenas a) ≡ Some was
    → t ≡ record s { arenas = change_at (with_bits (record { black = black; gob = was.gob })) s.arenas a }
    → IsSomeAnd (slice_get k.shape.arenas a) (λ x. IsSomeAnd (slice_get k.colours a) (λ bits.
    with_state h t ≡ record k {
      colours = slice_set k.colours a (record { black = alloc_word_of x.slots; gob = bits.gob });
    }))
blackened-seen h k s t a black was v out word bits e =
    subst (λ (g : HeapState). IsSomeAnd (slice_get g.shape.arenas a) (λ x. IsSomeAnd (slice_get g.colours a) (λ bits.
    with_state h t ≡ record k {
      colours = slice_set k.colours a (record { black = alloc_word_of x.slots; gob = bits.gob });
    }))) v (by s.arenas a word bits)
  where
    now : with_state h t ≡ record k { colours = slice_set k.colours a (record { black = black; gob = was.gob }) }
    now = set_bits-seen h k s t a (record { black = black; gob = was.gob }) v out e

    by : (xs : List Arena) (i : ℕ) → option_map (λ (x : Arena). alloc_word_of x.slots) (slice_get xs i) ≡ Some black
        → option_map (λ (x : Arena). x.bits) (slice_get xs i) ≡ Some was
        → IsSomeAnd (slice_get (arena_shapes xs) i) (λ x. IsSomeAnd (slice_get (bits_of xs) i) (λ bits.
        with_state h t ≡ record k {
          colours = slice_set k.colours a (record { black = alloc_word_of x.slots; gob = bits.gob });
        }))
    by [] i w b = cc w
    by (x ∷ xs) zero w b =
        let is_word : alloc_word_of x.slots ≡ black = same_Some (alloc_word_of x.slots) black w in
        let is_bits : x.bits ≡ was = same_Some x.bits was b in
        now ∙ (λ j. record k {
          colours = slice_set k.colours a (record { black = sym is_word j; gob = (sym is_bits j).gob });
        })
    by (x ∷ xs) (suc i) w b = by xs i w b

pub hand_out-seen : (h k : HeapState) (s t : ArenasState) (word : ℕ) → with_state h s ≡ k
    → t ≡ record s { arenas = in_these handed_out word s.arenas; reserved = None } → with_state h t ≡ with_handed k word
hand_out-seen h k s t word v e = subst (λ (k : HeapState). with_state h t ≡ with_handed k word) v
    (ap (with_state h) e ∙ state-is h s (record s { arenas = in_these handed_out word s.arenas; reserved = None })
    (handed word (arena_shapes s.arenas) (bits_of s.arenas)) (bits_of s.arenas) refl refl (shapes-handed word s.arenas)
    (bits-handed word s.arenas))

pub take_in-seen : (h k : HeapState) (s t : ArenasState) (a freed : ℕ) (bits : Bits) → with_state h s ≡ k
    → t ≡ record s { arenas = change_at (taken_in freed bits) s.arenas a; reserved = None }
    → with_state h t ≡ with_taken k a freed bits
take_in-seen h k s t a freed bits v e = subst (λ (k : HeapState). with_state h t ≡ with_taken k a freed bits) v
    (ap (with_state h) e
    ∙ state-is h s (record s { arenas = change_at (taken_in freed bits) s.arenas a; reserved = None })
    (change_at (come_in freed) (arena_shapes s.arenas) a) (slice_set (bits_of s.arenas) a bits) refl refl
    (shapes-taken s.arenas a freed bits) (bits-taken s.arenas a freed bits))

pub kept-in : (h k : HeapState) (s : ArenasState) (word : ℕ) → with_state h s ≡ k → AreKept word k.shape
    → AreIn word s.arenas
kept-in h k s word v kept = are-in word s.arenas (subst (λ (k : HeapState). AreKept word k.shape) (sym v) kept)

-- whether a slot was lost
pub lost-seen : (xs : List Arena) (a k : ℕ) (b : Bits) (o w : Bool) → o ≡ is_out_at xs a
    → option_map (λ (x : Arena). x.bits) (slice_get xs a) ≡ Some b → w ≡ is_white b k
    → (o && w) ≡ is_lost_in (slice_get xs a) k
lost-seen [] a k b o w e f g = absurd (cc f)
lost-seen (x ∷ xs) zero k b o w e f g = ap (λ t. t && w) e
    ∙ ap (λ t. x.is_out && t) (g ∙ ap (λ c. is_white c k) (sym (some_is f)))
  where
    some_is : {c d : Bits} → Some c ≡ Some d → c ≡ d
    some_is {c} {d} h = ap (λ (q : Option Bits). unwrap_or q c) h
lost-seen (x ∷ xs) (suc a) k b o w e f g = lost-seen xs a k b o w e f g

-- how many cells there are
pub held-seen : (xs : List Arena) → held_by xs ≡ held_in_all (arena_shapes xs)
held-seen [] = refl
held-seen (x ∷ xs) = ap (λ n. held_in x.slots + n) (held-seen xs)
