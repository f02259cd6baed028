-- The index after a change of one arena.
use Rattle.std.proofs.Common.{◌≡◌, ◌≢◌, ◌<◌, ◌≤◌, ◌*◌, ◌==◌, ◌&&◌, inl, inr, ℕ, zero, suc, Bool, true, false, not}
use Rattle.std.proofs.Common.{if◌then◌else◌, IsSomeAnd, List, [], ◌∷◌, ◌++◌, length, Option, Some, None, slice_get, All}
use Rattle.std.proofs.Common.{option_map, refl, sym, ◌∙◌, ap, subst, arith, eqb-true, eq-eqb, ne_eqb}
use Rattle.std.proofs.lemmas.Bool.{false≢true, cases_eq, and_left, and_from}
use Rattle.std.proofs.lemmas.List.Elements.{All-cons, All-head, All-tail, All-push}
use Rattle.cell_bits.specs.declared.bits.Bits.{Bits}
use Rattle.arena_table.specs.Cells.{CellState}
use Rattle.arena_table.specs.Sets.{arena_bit}
use Rattle.arena_table.specs.Slots.{Arena, change_at, empty_arena, with_cell, taken_in, has_free, bit_of}
use Rattle.arena_table.specs.Stored.{IsHeadOf}
use Rattle.arena_table.specs.Indexed.{IndexState, IsIndexed, words_at, is_open, is_owned}
use Rattle.arena_table.specs.declared.store.Head.{Head}
use Rattle.arena_table.specs.Slots.{given_up}
use Rattle.arena_table.proofs.Changing.{slice_get-change_same, slice_get-change_other}
use Rattle.arena_table.proofs.Placing.{open-parts, has_free-word, has_free-full}
use Rattle.arena_table.proofs.WordBits.{if_same, if_other}

abbrev OfSome : (Arena → Arena) → (Arena → Type 0) → Option Arena → Type 0
OfSome f P None = ⊥
OfSome f P (Some z) = P (f z)

pub All-change_at : (f : Arena → Arena) (P : Arena → Type 0) (xs : List Arena) (a : ℕ) (x : Arena) → All P xs
    → slice_get xs a ≡ Some x → P (f x) → All P (change_at f xs a)
All-change_at f P [] a x all e p = absurd (cc)
All-change_at f P (y ∷ xs) zero x all e p = All-cons P (f y) xs (subst (OfSome f P) (sym e) p) (All-tail P y xs all)
All-change_at f P (y ∷ xs) (suc a) x all e p =
    All-cons P y (change_at f xs a) (All-head P y xs all) (All-change_at f P xs a x (All-tail P y xs all) e p)

pub All-at : (P : Arena → Type 0) (xs : List Arena) (a : ℕ) (x : Arena) → All P xs → slice_get xs a ≡ Some x → P x
All-at P [] a x all e = absurd (cc)
All-at P (y ∷ xs) zero x all e = subst (OfSome (λ z. z) P) e (All-head P y xs all)
All-at P (y ∷ xs) (suc a) x all e = All-at P xs a x (All-tail P y xs all) e

-- one arena is changed, and what the index says of others stays
pub IsIndexed-change : (f : Arena → Arena) (xs : List Arena) (index next : IndexState) (a : ℕ) (x : Arena)
    → IsIndexed xs index → slice_get xs a ≡ Some x → (f x).zone ≡ x.zone → next.owned ≡ index.owned
    → ((z : ℕ) → z < 64 → length (words_at next.open_ z) ≡ length (words_at index.open_ z))
    → ((z b : ℕ) → z < 64 → b ≢ a → arena_bit (words_at next.open_ z) b ≡ arena_bit (words_at index.open_ z) b)
    → ((z : ℕ) → z < 64 → arena_bit (words_at next.open_ z) a ≡ bit_of (is_open z (Some (f x))))
    → IsIndexed (change_at f xs a) next
IsIndexed-change f xs index next a x h e zone own room others here = record {
  owned = record {
    zones = All-change_at f (λ (y : Arena). y.zone ≤ 64) xs a x h.owned.zones e
        (subst (λ z. z ≤ 64) (sym zone) (All-at (λ (y : Arena). y.zone ≤ 64) xs a x h.owned.zones e));
    bits = λ z b lt. ap (λ ws. arena_bit (words_at ws z) b) own
        ∙ (h.owned.bits z b lt ∙ ap bit_of (sym (owned-same z b)));
  };
  open_ = λ z b lt. (elim (cases_eq b a) [
    | inl d ↦ (ap (arena_bit (words_at next.open_ z)) d
        ∙ (here z lt ∙ ap (λ o. bit_of (is_open z o)) (sym (ap (slice_get (change_at f xs a)) d ∙ changed))))
    | inr n ↦ (others z b lt n
        ∙ (h.open_ z b lt ∙ ap (λ o. bit_of (is_open z o)) (sym (slice_get-change_other f xs a b n))))
  ]);
  covered = λ z b lt is. subst (λ n. b < 64 * n) (sym (room z lt)) (h.covered z b lt (sym (owned-same z b) ∙ is));
}
  where
    changed : slice_get (change_at f xs a) a ≡ Some (f x)
    changed = slice_get-change_same f xs a ∙ ap (option_map f) e

    owned-same : (z b : ℕ) → is_owned z (slice_get (change_at f xs a) b) ≡ is_owned z (slice_get xs b)
    owned-same z b = elim (cases_eq b a) [
      | inl d ↦ (ap (λ i. is_owned z (slice_get (change_at f xs a) i)) d
          ∙ (ap (is_owned z) changed
          ∙ (ap (λ y. y == z) zone ∙ sym (ap (λ i. is_owned z (slice_get xs i)) d ∙ ap (is_owned z) e))))
      | inr n ↦ ap (is_owned z) (slice_get-change_other f xs a b n)
    ]

-- one bit of the sets of one zone is written
written-long : (index next : IndexState) (zone : ℕ)
    → length (words_at next.open_ zone) ≡ length (words_at index.open_ zone)
    → ((z : ℕ) → z ≢ zone → words_at next.open_ z ≡ words_at index.open_ z) → (z : ℕ) → z < 64
    → length (words_at next.open_ z) ≡ length (words_at index.open_ z)
written-long index next zone long others z lt = elim (cases_eq z zone) [
  | inl e ↦ (ap (λ y. length (words_at next.open_ y)) e ∙ (long ∙ ap (λ y. length (words_at index.open_ y)) (sym e)))
  | inr n ↦ ap length (others z n)
]

written-others : (index next : IndexState) (zone a v : ℕ)
    → ((b : ℕ) → arena_bit (words_at next.open_ zone) b
    ≡ (if b == a then v else arena_bit (words_at index.open_ zone) b))
    → ((z : ℕ) → z ≢ zone → words_at next.open_ z ≡ words_at index.open_ z) → (z b : ℕ) → z < 64 → b ≢ a
    → arena_bit (words_at next.open_ z) b ≡ arena_bit (words_at index.open_ z) b
written-others index next zone a v bits others z b lt n = elim (cases_eq z zone) [
  | inl e ↦ (ap (λ y. arena_bit (words_at next.open_ y) b) e
      ∙ (bits b ∙ (if_other b a v (arena_bit (words_at index.open_ zone) b) n
      ∙ ap (λ y. arena_bit (words_at index.open_ y) b) (sym e))))
  | inr m ↦ ap (λ ws. arena_bit ws b) (others z m)
]

-- an arena is made
pub IsIndexed-grown : (xs : List Arena) (index added next : IndexState) (zone a : ℕ) → IsIndexed xs index → zone < 64
    → a ≡ length xs → length xs < 64 * length (words_at index.open_ zone)
    → ((b : ℕ) → arena_bit (words_at added.owned zone) b
    ≡ (if b == a then 1 else arena_bit (words_at index.owned zone) b))
    → ((z : ℕ) → z ≢ zone → words_at added.owned z ≡ words_at index.owned z) → added.open_ ≡ index.open_
    → ((b : ℕ) → arena_bit (words_at next.open_ zone) b
    ≡ (if b == a then 1 else arena_bit (words_at added.open_ zone) b))
    → length (words_at next.open_ zone) ≡ length (words_at added.open_ zone)
    → ((z : ℕ) → z ≢ zone → words_at next.open_ z ≡ words_at added.open_ z) → next.owned ≡ added.owned
    → IsIndexed (xs ++ empty_arena zone ∷ []) next
IsIndexed-grown xs index added next zone a h below end room own own-others same takes long takes-others own-same =
    record {
      owned = record {
        zones = All-push (λ (y : Arena). y.zone ≤ 64) xs (empty_arena zone) h.owned.zones (omega (arith, below));
        bits = λ z b lt. ap (λ ws. arena_bit (words_at ws z) b) own-same ∙ owned-bit z b lt;
      };
      open_ = λ z b lt. open-bit z b lt;
      covered = λ z b lt is. covers z b lt is;
    }
  where
    last : slice_get (xs ++ empty_arena zone ∷ []) a ≡ Some (empty_arena zone)
    last = ap (slice_get (xs ++ empty_arena zone ∷ [])) end ∙ by xs
      where
        by : (ys : List Arena) → slice_get (ys ++ empty_arena zone ∷ []) (length ys) ≡ Some (empty_arena zone)
        by [] = refl
        by (y ∷ ys) = by ys

    before : (b : ℕ) → b ≢ a → slice_get (xs ++ empty_arena zone ∷ []) b ≡ slice_get xs b
    before b n = by xs b (λ e. n (e ∙ sym end))
      where
        by : (ys : List Arena) (i : ℕ) → i ≢ length ys → slice_get (ys ++ empty_arena zone ∷ []) i ≡ slice_get ys i
        by [] zero k = absurd (k refl)
        by [] (suc i) k = refl
        by (y ∷ ys) zero k = refl
        by (y ∷ ys) (suc i) k = by ys i (λ e. k (ap suc e))

    after : slice_get xs a ≡ None
    after = ap (slice_get xs) end ∙ by xs
      where
        by : (ys : List Arena) → slice_get ys (length ys) ≡ None
        by [] = refl
        by (y ∷ ys) = by ys

    grown-bit : (test : ℕ → Option Arena → Bool) (now was : List (List ℕ)) → ((z : ℕ) → test z None ≡ false)
        → ((z : ℕ) → test z (Some (empty_arena zone)) ≡ (zone == z))
        → ((b : ℕ) → arena_bit (words_at now zone) b ≡ (if b == a then 1 else arena_bit (words_at was zone) b))
        → ((z : ℕ) → z ≢ zone → words_at now z ≡ words_at was z)
        → ((z b : ℕ) → z < 64 → arena_bit (words_at was z) b ≡ bit_of (test z (slice_get xs b))) → (z b : ℕ) → z < 64
        → arena_bit (words_at now z) b ≡ bit_of (test z (slice_get (xs ++ empty_arena zone ∷ []) b))
    grown-bit test now was none new bits others old z b lt = elim (cases_eq b a) [
      | inl d ↦ (elim (cases_eq z zone) [
        | inl e ↦ (ap (λ y. arena_bit (words_at now y) b) e
            ∙ (bits b ∙ (if_same b a 1 (arena_bit (words_at was zone) b) d
            ∙ sym (at-end d ∙ ap bit_of (eq-eqb _ _ (sym e))))))
        | inr m ↦ (ap (λ ws. arena_bit ws b) (others z m)
            ∙ (old z b lt ∙ (ap (λ o. bit_of (test z o)) (ap (slice_get xs) d ∙ after)
            ∙ (ap bit_of (none z) ∙ sym (at-end d ∙ ap bit_of (ne_eqb _ _ (λ e. m (sym e))))))))
      ])
      | inr n ↦ (elim (cases_eq z zone) [
        | inl e ↦ (ap (λ y. arena_bit (words_at now y) b) e
            ∙ (bits b ∙ (if_other b a 1 (arena_bit (words_at was zone) b) n
            ∙ (ap (λ y. arena_bit (words_at was y) b) (sym e) ∙ (old z b lt ∙ elsewhere n)))))
        | inr m ↦ (ap (λ ws. arena_bit ws b) (others z m) ∙ (old z b lt ∙ elsewhere n))
      ])
    ]
      where
        at-end : b ≡ a → bit_of (test z (slice_get (xs ++ empty_arena zone ∷ []) b)) ≡ bit_of (zone == z)
        at-end d = ap (λ o. bit_of (test z o)) (ap (slice_get (xs ++ empty_arena zone ∷ [])) d ∙ last)
            ∙ ap bit_of (new z)

        elsewhere : b ≢ a → bit_of (test z (slice_get xs b))
            ≡ bit_of (test z (slice_get (xs ++ empty_arena zone ∷ []) b))
        elsewhere n = ap (λ o. bit_of (test z o)) (sym (before b n))

    and-true : (b : Bool) → (b && true) ≡ b
    and-true true = refl
    and-true false = refl

    owned-bit : (z b : ℕ) → z < 64
        → arena_bit (words_at added.owned z) b ≡ bit_of (is_owned z (slice_get (xs ++ empty_arena zone ∷ []) b))
    owned-bit = grown-bit is_owned added.owned index.owned (λ z. refl) (λ z. refl) own own-others h.owned.bits

    open-bit : (z b : ℕ) → z < 64
        → arena_bit (words_at next.open_ z) b ≡ bit_of (is_open z (slice_get (xs ++ empty_arena zone ∷ []) b))
    open-bit = grown-bit is_open next.open_ index.open_ (λ z. refl) (λ z. and-true (zone == z))
        (λ b. takes b ∙ ap (λ ws. if b == a then 1 else arena_bit (words_at ws zone) b) same)
        (λ z n. takes-others z n ∙ ap (λ ws. words_at ws z) same) h.open_

    long-same : (z : ℕ) → length (words_at next.open_ z) ≡ length (words_at index.open_ z)
    long-same z = elim (cases_eq z zone) [
      | inl e ↦ (ap (λ y. length (words_at next.open_ y)) e
          ∙ (long ∙ (ap (λ ws. length (words_at ws zone)) same ∙ ap (λ y. length (words_at index.open_ y)) (sym e))))
      | inr n ↦ (ap length (takes-others z n) ∙ ap (λ ws. length (words_at ws z)) same)
    ]

    covers : (z b : ℕ) → z < 64 → is_owned z (slice_get (xs ++ empty_arena zone ∷ []) b) ≡ true
        → b < 64 * length (words_at next.open_ z)
    covers z b lt is = subst (λ n. b < 64 * n) (sym (long-same z)) (elim (cases_eq b a) [
      | inl d ↦ (let mine : zone ≡ z =
          eqb-true _ _ (sym (ap (is_owned z) (ap (slice_get (xs ++ empty_arena zone ∷ [])) d ∙ last)) ∙ is) in
          subst (λ y. b < 64 * length (words_at index.open_ y)) mine (omega (arith, d, end)))
      | inr n ↦ h.covered z b lt (sym (ap (is_owned z) (before b n)) ∙ is)
    ])

-- a cell is put into an arena that takes cells, and that takes more, or no more
same-open : (zone : ℕ) (x y : Arena) → y.zone ≡ x.zone → y.is_out ≡ x.is_out → has_free y.slots ≡ has_free x.slots
    → is_open zone (Some y) ≡ is_open zone (Some x)
same-open zone x y e f g = ap (λ z. (z == zone) && (not y.is_out && has_free y.slots)) e
    ∙ (ap (λ o. (x.zone == zone) && (not o && has_free y.slots)) f ∙ ap (λ t. (x.zone == zone) && (not x.is_out && t))
    g)

not-open : (zone : ℕ) (y : Arena) → has_free y.slots ≡ false → is_open zone (Some y) ≡ false
not-open zone y e = ap (λ t. (y.zone == zone) && (not y.is_out && t)) e ∙ by (y.zone == zone) (not y.is_out)
  where
    by : (b c : Bool) → (b && (c && false)) ≡ false
    by true true = refl
    by true false = refl
    by false c = refl

there : (xs : List Arena) (a : ℕ) (zone : ℕ) → is_open zone (slice_get xs a) ≡ true
    → (x : Arena) × (slice_get xs a ≡ Some x) × (is_open zone (Some x) ≡ true)
there [] a zone is = absurd (false≢true is)
there (x ∷ xs) zero zone is = (x, refl, is)
there (x ∷ xs) (suc a) zone is = there xs a zone is

head-changed : (f : Arena → Arena) (xs : List Arena) (a : ℕ) (x : Arena) (h : Head) → slice_get xs a ≡ Some x
    → IsSomeAnd (slice_get (change_at f xs a) a) (λ y. IsHeadOf y h) → IsHeadOf (f x) h
head-changed f xs a x h e is = subst (λ (o : Option Arena). IsSomeAnd o (λ y. IsHeadOf y h))
    (slice_get-change_same f xs a ∙ ap (option_map f) e) is

-- the zone of an arena that was not given up
pub head-zone : (x : Arena) (h : Head) → IsHeadOf x h → x.zone ≢ 64 → x.zone ≡ h.zone
head-zone x h is owned = by h.is_given_up is.zone
  where
    by : (b : Bool) → x.zone ≡ (if b then 64 else h.zone) → x.zone ≡ h.zone
    by true e = absurd (owned e)
    by false e = e

abbrev pub IsOwned : Option Arena → Type 0
IsOwned o = IsSomeAnd o (λ (x : Arena). x.zone ≢ 64)

pub IsIndexed-put_more : (xs : List Arena) (index : IndexState) (a s zone : ℕ) (cell : CellState) (h : Head)
    → IsIndexed xs index → is_open zone (slice_get xs a) ≡ true
    → IsSomeAnd (slice_get (change_at (with_cell s cell) xs a) a) (λ y. IsHeadOf y h)
    → h.alloc_word ≢ 18446744073709551615 → IsIndexed (change_at (with_cell s cell) xs a) index
IsIndexed-put_more xs index a s zone cell h i is head n =
    let x = there xs a zone is in
    let parts = open-parts zone x.0 x.2 in
    let of-head = head-changed (with_cell s cell) xs a x.0 h x.1 head in
    let free = has_free-word (with_cell s cell x.0).slots h.alloc_word of-head.whole of-head.alloc_word n in
    IsIndexed-change (with_cell s cell) xs index index a x.0 i x.1 refl refl (λ z lt. refl) (λ z b lt m. refl)
    (λ z lt. i.open_ z a lt
    ∙ (ap (λ o. bit_of (is_open z o)) x.1
    ∙ ap bit_of (sym (same-open z x.0 (with_cell s cell x.0) refl refl (free ∙ sym parts.2)))))

pub IsIndexed-put_last : (xs : List Arena) (index next : IndexState) (a s zone : ℕ) (cell : CellState) (h : Head)
    → IsIndexed xs index → is_open zone (slice_get xs a) ≡ true
    → IsSomeAnd (slice_get (change_at (with_cell s cell) xs a) a) (λ y. IsHeadOf y h)
    → h.alloc_word ≡ 18446744073709551615 → next.owned ≡ index.owned
    → ((b : ℕ) → arena_bit (words_at next.open_ zone) b
    ≡ (if b == a then 0 else arena_bit (words_at index.open_ zone) b))
    → length (words_at next.open_ zone) ≡ length (words_at index.open_ zone)
    → ((z : ℕ) → z ≢ zone → words_at next.open_ z ≡ words_at index.open_ z)
    → IsIndexed (change_at (with_cell s cell) xs a) next
IsIndexed-put_last xs index next a s zone cell h i is head full own bits long others =
    let x = there xs a zone is in
    let parts = open-parts zone x.0 x.2 in
    let of-head = head-changed (with_cell s cell) xs a x.0 h x.1 head in
    let none = has_free-full (with_cell s cell x.0).slots h.alloc_word of-head.whole of-head.alloc_word full in
    IsIndexed-change (with_cell s cell) xs index next a x.0 i x.1 refl own (written-long index next zone long others)
    (written-others index next zone a 0 bits others) (λ z lt. (elim (cases_eq z zone) [
      | inl e ↦ (ap (λ y. arena_bit (words_at next.open_ y) a) e
          ∙ (bits a ∙ (if_same a a 0 (arena_bit (words_at index.open_ zone) a) refl
          ∙ ap bit_of (sym (not-open z (with_cell s cell x.0) none)))))
      | inr n ↦ (ap (λ ws. arena_bit ws a) (others z n)
          ∙ (i.open_ z a lt ∙ (ap (λ o. bit_of (is_open z o)) x.1
          ∙ ap bit_of (and_left (x.0.zone == z) _ (ne_eqb _ _ (λ e. n (sym e ∙ parts.0)))
          ∙ sym (not-open z (with_cell s cell x.0) none)))))
    ]))

-- an arena comes back from sweeping, and takes cells or not
out-closed : (zone : ℕ) (x : Arena) → x.is_out ≡ true → is_open zone (Some x) ≡ false
out-closed zone x e = ap (λ o. (x.zone == zone) && (not o && has_free x.slots)) e ∙ by (x.zone == zone)
  where
    by : (b : Bool) → (b && false) ≡ false
    by true = refl
    by false = refl

there-out : (xs : List Arena) (a : ℕ) → IsSomeAnd (slice_get xs a) (λ (x : Arena). x.is_out ≡ true)
    → (x : Arena) × (slice_get xs a ≡ Some x) × (x.is_out ≡ true)
there-out [] a is = absurd is
there-out (x ∷ xs) zero is = (x, refl, is)
there-out (x ∷ xs) (suc a) is = there-out xs a is

pub out-within : (xs : List Arena) (a : ℕ) → IsSomeAnd (slice_get xs a) (λ (x : Arena). x.is_out ≡ true) → a < length xs
out-within [] a is = absurd is
out-within (x ∷ xs) zero is = omega arith
out-within (x ∷ xs) (suc a) is = (let rest = out-within xs a is in omega arith)

pub IsIndexed-taken_full : (xs : List Arena) (index : IndexState) (a freed : ℕ) (bits : Bits) (h : Head)
    → IsIndexed xs index → IsSomeAnd (slice_get xs a) (λ (x : Arena). x.is_out ≡ true)
    → IsSomeAnd (slice_get (change_at (taken_in freed bits) xs a) a) (λ y. IsHeadOf y h)
    → h.alloc_word ≡ 18446744073709551615 → IsIndexed (change_at (taken_in freed bits) xs a) index
IsIndexed-taken_full xs index a freed bits h i out head full =
    let x = there-out xs a out in
    let of-head = head-changed (taken_in freed bits) xs a x.0 h x.1 head in
    let none = has_free-full (taken_in freed bits x.0).slots h.alloc_word of-head.whole of-head.alloc_word full in
    IsIndexed-change (taken_in freed bits) xs index index a x.0 i x.1 refl refl (λ z lt. refl) (λ z b lt m. refl)
    (λ z lt. i.open_ z a lt
    ∙ (ap (λ o. bit_of (is_open z o)) x.1
    ∙ ap bit_of (out-closed z x.0 x.2 ∙ sym (not-open z (taken_in freed bits x.0) none))))

-- the sets of its zone have room for it
pub room-for : (xs : List Arena) (index : IndexState) (a zone : ℕ) (h : Head) (f : Arena → Arena) → IsIndexed xs index
    → a < length xs → IsOwned (slice_get xs a) → ((x : Arena) → (f x).zone ≡ x.zone)
    → IsSomeAnd (slice_get (change_at f xs a) a) (λ y. IsHeadOf y h) → zone ≡ h.zone
    → a < 64 * length (words_at index.open_ zone)
room-for xs index a zone h f i within owned keeps head e = by xs a within refl
  where
    got : (x : Arena) → slice_get xs a ≡ Some x → a < 64 * length (words_at index.open_ zone)
    got x g =
        let of-head = head-changed f xs a x h g head in
        let below = All-at (λ (y : Arena). y.zone ≤ 64) xs a x i.owned.zones g in
        let own : x.zone ≢ 64 = subst IsOwned g owned in
        let mine : x.zone ≡ zone =
        sym (keeps x) ∙ (head-zone (f x) h of-head (λ none. own (sym (keeps x) ∙ none)) ∙ sym e) in
        let under : x.zone < 64 = omega (arith, below, own) in
        i.covered zone a (subst (λ z. z < 64) mine under) (ap (is_owned zone) g ∙ eq-eqb _ _ mine)

    by : (ys : List Arena) (b : ℕ) → b < length ys → slice_get xs a ≡ slice_get ys b
        → a < 64 * length (words_at index.open_ zone)
    by [] b lt g = absurd (omega arith)
    by (y ∷ ys) zero lt g = got y g
    by (y ∷ ys) (suc b) lt g = by ys b (omega arith) g

-- what there is at the number of an arena
pub at-number : (xs : List Arena) (a : ℕ) → a < length xs → (x : Arena) × (slice_get xs a ≡ Some x)
at-number [] a lt = absurd (omega arith)
at-number (x ∷ xs) zero lt = (x, refl)
at-number (x ∷ xs) (suc a) lt = at-number xs a (omega arith)

-- slots are freed, and the arena takes cells then
pub IsIndexed-freed : (xs : List Arena) (index next : IndexState) (a freed zone : ℕ) (bits : Bits) (h : Head)
    → IsIndexed xs index → a < length xs → IsOwned (slice_get xs a)
    → IsSomeAnd (slice_get (change_at (taken_in freed bits) xs a) a) (λ y. IsHeadOf y h)
    → h.alloc_word ≢ 18446744073709551615 → zone ≡ h.zone → next.owned ≡ index.owned
    → ((b : ℕ) → arena_bit (words_at next.open_ zone) b
    ≡ (if b == a then 1 else arena_bit (words_at index.open_ zone) b))
    → length (words_at next.open_ zone) ≡ length (words_at index.open_ zone)
    → ((z : ℕ) → z ≢ zone → words_at next.open_ z ≡ words_at index.open_ z)
    → IsIndexed (change_at (taken_in freed bits) xs a) next
IsIndexed-freed xs index next a freed zone bits h i within owned head n own-zone own bit long others =
    let x = at-number xs a within in
    let of-head = head-changed (taken_in freed bits) xs a x.0 h x.1 head in
    let free = has_free-word (taken_in freed bits x.0).slots h.alloc_word of-head.whole of-head.alloc_word n in
    let mine : x.0.zone ≡ zone =
    head-zone (taken_in freed bits x.0) h of-head (subst IsOwned x.1 owned) ∙ sym own-zone in
    IsIndexed-change (taken_in freed bits) xs index next a x.0 i x.1 refl own (written-long index next zone long others)
    (written-others index next zone a 1 bit others) (λ z lt. (elim (cases_eq z zone) [
      | inl e ↦ (ap (λ y. arena_bit (words_at next.open_ y) a) e
          ∙ (bit a ∙ (if_same a a 1 (arena_bit (words_at index.open_ zone) a) refl
          ∙ ap bit_of (sym (and_from (x.0.zone == z) (true && has_free (taken_in freed bits x.0).slots)
          (eq-eqb _ _ (mine ∙ sym e)) free)))))
      | inr m ↦ (ap (λ ws. arena_bit ws a) (others z m)
          ∙ (i.open_ z a lt ∙ (ap (λ o. bit_of (is_open z o)) x.1
          ∙ ap bit_of (and_left (x.0.zone == z) (not x.0.is_out && has_free x.0.slots)
          (ne_eqb _ _ (λ e. m (sym e ∙ mine)))
          ∙ sym (and_left (x.0.zone == z) (true && has_free (taken_in freed bits x.0).slots)
          (ne_eqb _ _ (λ e. m (sym e ∙ mine))))))))
    ]))

-- an arena is given up: its bits in the sets of its zone are cleared
pub record IsTakenOut (xs : List Arena) (index next : IndexState) (a zone : ℕ) : Type 0 where
  pub indexed : IsIndexed xs index
  pub below : zone < 64
  pub mine : is_owned zone (slice_get xs a) ≡ true
  pub owned : (b : ℕ) → arena_bit (words_at next.owned zone) b
      ≡ (if b == a then 0 else arena_bit (words_at index.owned zone) b)
  pub takes : (b : ℕ) → arena_bit (words_at next.open_ zone) b
      ≡ (if b == a then 0 else arena_bit (words_at index.open_ zone) b)
  pub room : length (words_at next.open_ zone) ≡ length (words_at index.open_ zone)
  pub others : (z : ℕ) → z ≢ zone
      → (words_at next.owned z ≡ words_at index.owned z) × (words_at next.open_ z ≡ words_at index.open_ z)

module _ (xs : List Arena) (index next : IndexState) (a zone : ℕ) (c : IsTakenOut xs index next a zone) where
  abbrev given : List Arena
  given = change_at given_up xs a

  its : (x : Arena) × (slice_get xs a ≡ Some x) × (x.zone ≡ zone)
  its = by (slice_get xs a) refl c.mine
    where
      by : (o : Option Arena) → slice_get xs a ≡ o → is_owned zone o ≡ true
          → (x : Arena) × (slice_get xs a ≡ Some x) × (x.zone ≡ zone)
      by None at is = absurd (false≢true is)
      by (Some x) at is = (x, at, eqb-true x.zone zone is)

  now : slice_get given a ≡ Some (given_up its.0)
  now = slice_get-change_same given_up xs a ∙ ap (option_map given_up) its.1

  -- no zone has it now, and only its own had it
  none-owned : (z : ℕ) → z < 64 → is_owned z (slice_get given a) ≡ false
  none-owned z lt = ap (is_owned z) now ∙ ne_eqb 64 z (λ e. omega (arith, lt, e))

  none-open : (z : ℕ) → z < 64 → is_open z (slice_get given a) ≡ false
  none-open z lt =
      ap (is_open z) now
      ∙ and_left (64 == z) (not its.0.is_out && has_free its.0.slots) (ne_eqb 64 z (λ e. omega (arith, lt, e)))

  not-owned : (z : ℕ) → z ≢ zone → is_owned z (slice_get xs a) ≡ false
  not-owned z ne = ap (is_owned z) its.1 ∙ ne_eqb its.0.zone z (λ e. ne (sym e ∙ its.2))

  not-its : (z : ℕ) → z ≢ zone → is_open z (slice_get xs a) ≡ false
  not-its z ne =
      ap (is_open z) its.1
      ∙ and_left (its.0.zone == z) (not its.0.is_out && has_free its.0.slots)
      (ne_eqb its.0.zone z (λ e. ne (sym e ∙ its.2)))

  owned-bit : (z b : ℕ) → z < 64 → arena_bit (words_at next.owned z) b ≡ bit_of (is_owned z (slice_get given b))
  owned-bit z b lt = elim (cases_eq b a) [
    | inl e ↦ elim (cases_eq z zone) [
      | inl d ↦ ap (λ y. arena_bit (words_at next.owned y) b) d ∙ c.owned b
          ∙ if_same b a 0 (arena_bit (words_at index.owned zone) b) e
          ∙ sym (ap bit_of (ap (λ n. is_owned z (slice_get given n)) e ∙ none-owned z lt))
      | inr n ↦ ap (λ ws. arena_bit ws b) (c.others z n).0 ∙ c.indexed.owned.bits z b lt
          ∙ ap bit_of (ap (λ n. is_owned z (slice_get xs n)) e ∙ not-owned z n ∙ sym (none-owned z lt)
          ∙ ap (λ n. is_owned z (slice_get given n)) (sym e))
    ]
    | inr ne ↦ elim (cases_eq z zone) [
      | inl d ↦ ap (λ y. arena_bit (words_at next.owned y) b) d ∙ c.owned b
          ∙ if_other b a 0 (arena_bit (words_at index.owned zone) b) ne
          ∙ ap (λ y. arena_bit (words_at index.owned y) b) (sym d) ∙ c.indexed.owned.bits z b lt
          ∙ ap (λ o. bit_of (is_owned z o)) (sym (slice_get-change_other given_up xs a b ne))
      | inr n ↦ ap (λ ws. arena_bit ws b) (c.others z n).0 ∙ c.indexed.owned.bits z b lt
          ∙ ap (λ o. bit_of (is_owned z o)) (sym (slice_get-change_other given_up xs a b ne))
    ]
  ]

  open-bit : (z b : ℕ) → z < 64 → arena_bit (words_at next.open_ z) b ≡ bit_of (is_open z (slice_get given b))
  open-bit z b lt = elim (cases_eq b a) [
    | inl e ↦ elim (cases_eq z zone) [
      | inl d ↦ ap (λ y. arena_bit (words_at next.open_ y) b) d ∙ c.takes b
          ∙ if_same b a 0 (arena_bit (words_at index.open_ zone) b) e
          ∙ sym (ap bit_of (ap (λ n. is_open z (slice_get given n)) e ∙ none-open z lt))
      | inr n ↦ ap (λ ws. arena_bit ws b) (c.others z n).1 ∙ c.indexed.open_ z b lt
          ∙ ap bit_of (ap (λ n. is_open z (slice_get xs n)) e ∙ not-its z n ∙ sym (none-open z lt)
          ∙ ap (λ n. is_open z (slice_get given n)) (sym e))
    ]
    | inr ne ↦ elim (cases_eq z zone) [
      | inl d ↦ ap (λ y. arena_bit (words_at next.open_ y) b) d ∙ c.takes b
          ∙ if_other b a 0 (arena_bit (words_at index.open_ zone) b) ne
          ∙ ap (λ y. arena_bit (words_at index.open_ y) b) (sym d) ∙ c.indexed.open_ z b lt
          ∙ ap (λ o. bit_of (is_open z o)) (sym (slice_get-change_other given_up xs a b ne))
      | inr n ↦ ap (λ ws. arena_bit ws b) (c.others z n).1 ∙ c.indexed.open_ z b lt
          ∙ ap (λ o. bit_of (is_open z o)) (sym (slice_get-change_other given_up xs a b ne))
    ]
  ]

  covers : (z b : ℕ) → z < 64 → is_owned z (slice_get given b) ≡ true → b < 64 * length (words_at next.open_ z)
  covers z b lt is = elim (cases_eq b a) [
    | inl e ↦ absurd (false≢true (sym (ap (λ n. is_owned z (slice_get given n)) e ∙ none-owned z lt) ∙ is))
    | inr ne ↦ (let old = c.indexed.covered z b lt
        (ap (is_owned z) (sym (slice_get-change_other given_up xs a b ne)) ∙ is) in
        subst (λ n. b < 64 * n) (elim (cases_eq z zone) [
          | inl d ↦ ap (λ y. length (words_at index.open_ y)) d ∙ sym c.room
              ∙ ap (λ y. length (words_at next.open_ y)) (sym d)
          | inr n ↦ ap length (sym (c.others z n).1)
        ]) old)
  ]

  pub IsIndexed-given_up : IsIndexed given next
  IsIndexed-given_up = record {
    owned = record {
      zones = All-change_at given_up (λ (y : Arena). y.zone ≤ 64) xs a its.0 c.indexed.owned.zones its.1
          (omega arith);
      bits = owned-bit;
    };
    open_ = open-bit;
    covered = covers;
  }
