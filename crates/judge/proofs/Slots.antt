-- Which arenas are out, which are full, and which slots are taken.
use Rattle.std.proofs.Common.{◌≡◌, ◌∙◌, ◌⊎◌, inl, inr, ℕ, zero, suc, ◌+◌, ◌-◌, ◌^◌, ◌<◌, ◌≤◌, Bool, true, false}
use Rattle.std.proofs.Common.{List, [], ◌∷◌, ◌++◌}
use Rattle.std.proofs.Common.{length, get_or, reverse, set, take, Contains, Option, Some, None, refl, sym, ap, arith}
use Rattle.std.proofs.Common.{subst}
use Rattle.std.specs.Prelude.{slice_get}
use Rattle.std.specs.BTreeMap as tree
use Rattle.std.specs.Option.{option_map}
use Rattle.std.proofs.lemmas.List.{length-map, length-set, map-append, map-set, reverse-append}
use Rattle.std.proofs.lemmas.List.{reverse-reverse}
use Rattle.std.proofs.Math.Seq.{map-set_same, take-append_seam}
use Rattle.std.proofs.lemmas.List.Elements.{Contains-append_cases, Contains-append_left}
use Rattle.std.proofs.lemmas.List.Elements.{Contains-append_right}
use Rattle.std.proofs.lemmas.Option.{slice_get-get_or, slice_get-map, slice_get_within}
use Rattle.gz_names.specs.declared.names.Name.{Name}
use Rattle.gz_names.specs.declared.numbers.Place.{Place}
use Rattle.colour_defs.proofs.Lists.{contains_cases, contains_head, get_append, get_push_cases, get_set_cases}
use Rattle.colour_defs.proofs.Lists.{length_push, nothing_in_none}
use Rattle.judge.specs.Places.{IsEmpty, Lying, place_order}
use Rattle.judge.specs.Slots.{AreFlagged, AreFull, AreKept, AreMade, AreTaken, IsFull, IsOpen, IsTakenTo}
use Rattle.judge.specs.Slots.{flag_of, flags_of}
use Rattle.judge.specs.Slots.{owner_of, owners_of, taken_of, takens_of}
use Rattle.judge.specs.declared.arenas.Arena.{Arena}
use Rattle.judge.specs.declared.arenas.Arenas.{Arenas}
use Rattle.judge.proofs.Laid.{cell_in}
use Rattle.judge.proofs.Owners.{same_owner}

-- one number is below another, or not
pub at_least : (m n : ℕ) → (n ≤ m) ⊎ (m < n)
at_least m zero = inl (omega arith)
at_least zero (suc n) = inr (omega arith)
at_least (suc m) (suc n) = elim (at_least m n) [ inl h ↦ inl (omega (arith, h)) | inr h ↦ inr (omega (arith, h)) ]

-- what is written over is what was written, if there was something
set_is : {X : Type 0} (xs : List X) (i : ℕ) (x y : X) → slice_get (set xs i x) i ≡ Some y → x ≡ y
set_is [] i x y at = absurd (cc at)
set_is (z ∷ xs) zero x y at = cc at
set_is (z ∷ xs) (suc i) x y at = set_is xs i x y at

set_there : {X : Type 0} (xs : List X) (i : ℕ) (x : X) → i < length xs → slice_get (set xs i x) i ≡ Some x
set_there [] i x below = absurd (omega (arith, below))
set_there (y ∷ xs) zero x below = refl
set_there (y ∷ xs) (suc i) x below = set_there xs i x (omega (arith, below))

one_is : (i n : ℕ) → Contains (i ∷ []) n → i ≡ n
one_is i n c = elim (contains_cases i [] n c) [ inl same ↦ same | inr none ↦ absurd (nothing_in_none n none) ]

-- an arena goes out
pub flagged_out : (flags : List Bool) (i : ℕ) (out more : List ℕ) → i < length flags → more ≡ out ++ i ∷ []
    → AreFlagged flags out → AreFlagged (set flags i true) more
flagged_out flags i out more below pushed f = record {
  said = λ n c un. elim (Contains-append_cases out (i ∷ []) n (subst (λ ns. Contains ns n) pushed c)) [
    | inl o ↦ f.said n o (λ e. un (elim (get_set_cases flags i n true) [ inl same ↦ same ∙ e | inr here ↦ here.1 ]))
    | inr one ↦ un (subst (λ k. slice_get (set flags i true) k ≡ Some true) (one_is i n one)
        (set_there flags i true below))
  ];
  only = λ n at un. elim (get_set_cases flags i n true) [
    | inl same ↦ f.only n (sym same ∙ at)
        (λ c. un (subst (λ ns. Contains ns n) (sym pushed) (Contains-append_left out (i ∷ []) n c)))
    | inr here ↦ un (subst (λ ns. Contains ns n) (sym pushed) (Contains-append_right out (i ∷ []) n
        (subst (Contains (i ∷ [])) here.0 (contains_head i []))))
  ];
}

-- an arena comes in
pub flagged_in : (flags : List Bool) (i : ℕ) (out rest : List ℕ) → out ≡ rest ++ i ∷ [] → (Contains rest i → ⊥)
    → AreFlagged flags out → AreFlagged (set flags i false) rest
flagged_in flags i out rest is absent f = record {
  said = λ n c un. f.said n (subst (λ ns. Contains ns n) (sym is) (Contains-append_left rest (i ∷ []) n c))
      (λ e. un (elim (get_set_cases flags i n false) [
        | inl same ↦ same ∙ e
        | inr here ↦ absurd (absent (subst (Contains rest) (sym here.0) c))
      ]));
  only = λ n at un. elim (get_set_cases flags i n false) [
    | inl same ↦ f.only n (sym same ∙ at) (λ c. elim (Contains-append_cases rest (i ∷ []) n
        (subst (λ ns. Contains ns n) is c)) [
          | inl r ↦ un r
          | inr one ↦ (let no = set_is flags i false true
              (subst (λ k. slice_get (set flags i false) k ≡ Some true) (sym (one_is i n one)) at) in cc no)
        ])
    | inr here ↦ (let e = here.1 in cc (e, at))
  ];
}

-- one that is out twice
pub flagged_still : (flags : List Bool) (i : ℕ) (out rest : List ℕ) → out ≡ rest ++ i ∷ [] → Contains rest i
    → AreFlagged flags out → AreFlagged flags rest
flagged_still flags i out rest is still f = record {
  said = λ n c un. f.said n (subst (λ ns. Contains ns n) (sym is) (Contains-append_left rest (i ∷ []) n c)) un;
  only = λ n at un. f.only n at (λ c. elim (Contains-append_cases rest (i ∷ []) n
      (subst (λ ns. Contains ns n) is c)) [
        | inl r ↦ un r
        | inr one ↦ un (subst (Contains rest) (one_is i n one) still)
      ]);
}

-- an arena is made
pub flagged_more : (flags : List Bool) (out : List ℕ) → AreFlagged flags out → AreFlagged (flags ++ false ∷ []) out
flagged_more flags out f = record {
  said = λ n c un. f.said n c (λ e. un (get_append flags (false ∷ []) n true e));
  only = λ n at un. elim (get_push_cases flags false n) [
    | inl same ↦ f.only n (sym same ∙ at) un
    | inr here ↦ (let e = here.1 in cc (e, at))
  ];
}

-- more is known to be taken of an arena, or less
pub taken_set : (takens : List ℕ) (lying : Lying) (i k : ℕ)
    → IsTakenTo lying i k → AreTaken takens lying → AreTaken (set takens i k) lying
taken_set takens lying i k here t = λ n m at s below less e. elim (get_set_cases takens i n k) [
  | inl same ↦ t n m (sym same ∙ at) s below less e
  | inr h ↦
      let is : m ≡ k = (let a = h.1 in cc (a, at)) in
      here s (subst (λ j. s < j) is below) less (subst (λ j. IsEmpty lying (j, s)) (sym h.0) e)
]

pub taken_more : (takens : List ℕ) (lying : Lying) → AreTaken takens lying → AreTaken (takens ++ 0 ∷ []) lying
taken_more takens lying t = λ n m at s below less e. elim (get_push_cases takens 0 n) [
  | inl same ↦ t n m (sym same ∙ at) s below less e
  | inr h ↦
      let is : m ≡ 0 = (let a = h.1 in cc (a, at)) in
      let none : s < 0 = subst (λ j. s < j) is below in absurd (omega (arith, none))
]

-- fewer places are empty
pub taken_fewer : (takens : List ℕ) (old new : Lying) → ((p : Place) → IsEmpty new p → IsEmpty old p)
    → AreTaken takens old → AreTaken takens new
taken_fewer takens old new fewer t = λ n m at s below less e. t n m at s below less (fewer (n, s) e)

pub full_fewer : (owners : List (Option ℕ)) (flags : List Bool) (lowest : List ℕ) (old new : Lying)
    → ((p : Place) → IsEmpty new p → IsEmpty old p) → AreFull owners flags lowest old
    → AreFull owners flags lowest new
full_fewer owners flags lowest old new fewer f = λ z n below o s less e. f z n below o s less (fewer (n, s) e)

-- an element of a list that is written over at one place
or_set_cases : (xs : List ℕ) (n m v : ℕ) → (get_or (set xs n v) m 0 ≡ get_or xs m 0)
    ⊎ ((n ≡ m) × (get_or (set xs n v) m 0 ≡ v))
or_set_cases [] n m v = inl refl
or_set_cases (y ∷ xs) zero zero v = inr (refl, refl)
or_set_cases (y ∷ xs) zero (suc m) v = inl refl
or_set_cases (y ∷ xs) (suc n) zero v = inl refl
or_set_cases (y ∷ xs) (suc n) (suc m) v =
    elim (or_set_cases xs n m v) [ inl e ↦ inl e | inr h ↦ inr (ap suc h.0, h.1) ]

pub or_set_most : (xs : List ℕ) (n v : ℕ) → get_or (set xs n v) n 0 ≤ v
or_set_most [] n v = omega arith
or_set_most (y ∷ xs) zero v = omega arith
or_set_most (y ∷ xs) (suc n) v = or_set_most xs n v

-- the arena changes below which those of a zone are full
pub full_set : (owners : List (Option ℕ)) (flags : List Bool) (lowest : List ℕ) (lying : Lying) (z i : ℕ)
    → ((n : ℕ) → n < i → IsFull owners flags lying z n) → AreFull owners flags lowest lying
    → AreFull owners flags (set lowest z i) lying
full_set owners flags lowest lying z i here f = λ y n below. elim (or_set_cases lowest z y i) [
  | inl same ↦ f y n (subst (λ k. n < k) same below)
  | inr h ↦ subst (λ x. IsFull owners flags lying x n) h.0 (here n (subst (λ k. n < k) h.1 below))
]

-- an arena is of no zone any more
pub full_given : (owners : List (Option ℕ)) (flags : List Bool) (lowest : List ℕ) (lying : Lying) (i : ℕ)
    → AreFull owners flags lowest lying → AreFull (set owners i None) flags lowest lying
full_given owners flags lowest lying i f = λ z n below o. elim (get_set_cases owners i n None) [
  | inl same ↦ f z n below (sym same ∙ o.0, o.1)
  | inr here ↦ (let a = here.1 in let b = o.0 in cc (a, b))
]

-- an arena goes out
pub full_out : (owners : List (Option ℕ)) (flags : List Bool) (lowest : List ℕ) (lying : Lying) (i : ℕ)
    → AreFull owners flags lowest lying → AreFull owners (set flags i true) lowest lying
full_out owners flags lowest lying i f = λ z n below o. elim (get_set_cases flags i n true) [
  | inl same ↦ f z n below (o.0, sym same ∙ o.1)
  | inr here ↦ (let a = here.1 in let b = o.1 in cc (a, b))
]

-- an arena comes in, which is looked at for the next cells of its zone
pub full_in : (owners : List (Option ℕ)) (flags : List Bool) (lowest : List ℕ) (lying : Lying) (i : ℕ)
    → ((z : ℕ) → slice_get owners i ≡ Some (Some z) → get_or lowest z 0 ≤ i)
    → AreFull owners flags lowest lying → AreFull owners (set flags i false) lowest lying
full_in owners flags lowest lying i low f = λ z n below o. elim (get_set_cases flags i n false) [
  | inl same ↦ f z n below (o.0, sym same ∙ o.1)
  | inr here ↦
      let most = low z (subst (λ k. slice_get owners k ≡ Some (Some z)) (sym here.0) o.0) in
      let same = here.0 in absurd (omega (arith, most, below, same))
]

-- an arena is made, of a zone of which each one is full
open_before : (owners : List (Option ℕ)) (flags : List Bool) (z y n : ℕ) → length owners ≡ length flags
    → n < length owners → IsOpen (owners ++ Some z ∷ []) (flags ++ false ∷ []) y n → IsOpen owners flags y n
open_before owners flags z y n same below o = (
  elim (get_push_cases owners (Some z) n) [
    | inl e ↦ sym e ∙ o.0
    | inr h ↦ (let past = h.0 in absurd (omega (arith, past, below)))
  ],
  elim (get_push_cases flags false n) [
    | inl e ↦ sym e ∙ o.1
    | inr h ↦ (let past = h.0 in absurd (omega (arith, past, below, same)))
  ],
)

pub full_more : (owners : List (Option ℕ)) (flags : List Bool) (lowest : List ℕ) (lying : Lying) (z : ℕ)
    → length owners ≡ length flags
    → ((n : ℕ) → n < length owners → IsFull owners flags lying z n) → AreFull owners flags lowest lying
    → AreFull (owners ++ Some z ∷ []) (flags ++ false ∷ []) (set lowest z (length owners)) lying
full_more owners flags lowest lying z same here f = λ y n below o.
    elim (get_push_cases owners (Some z) n) [
      | inl e ↦ full_set owners flags lowest lying z (length owners) here f y n below
          (open_before owners flags z y n same (slice_get_within owners n (Some y) (sym e ∙ o.0)) o)
      | inr h ↦
          let it : z ≡ y = (let a = h.1 in let b = o.0 in cc (a, b)) in
          let at : n < get_or (set lowest z (length owners)) z 0 =
          subst (λ x. n < get_or (set lowest z (length owners)) x 0) (sym it) below in
          let most = or_set_most lowest z (length owners) in
          let past = h.0 in absurd (omega (arith, at, most, past))
    ]

-- a cell more lies in a place, or what lay there lies there no more
pub empty_before : (old new : Lying) (p : Place) (x : Name) → tree.Updates place_order old new p (Some x) → (q : Place)
    → IsEmpty new q → IsEmpty old q
empty_before old new p x up q e = elim (cell_in old new p q (Some x) up) [
  | inl here ↦ (let is = here.1 in cc (is, e))
  | inr elsewhere ↦ sym elsewhere.1 ∙ e
]

pub empty_elsewhere : (old new : Lying) (p q : Place) (o : Option Name) → tree.Updates place_order old new p o
    → (p ≡ q → ⊥) → IsEmpty new q → IsEmpty old q
empty_elsewhere old new p q o up apart e = elim (cell_in old new p q o up) [
  | inl here ↦ absurd (apart here.0)
  | inr elsewhere ↦ sym elsewhere.1 ∙ e
]

pub empty_after : (old new : Lying) (p q : Place) → tree.Updates place_order old new p None → IsEmpty old q
    → IsEmpty new q
empty_after old new p q up e = elim (cell_in old new p q None up) [
  | inl here ↦ here.1
  | inr elsewhere ↦ elsewhere.1 ∙ e
]

-- an arena that is written over says of itself what it said
pub flags_same : (arenas : List Arena) (i : ℕ) (was now : Arena) → was ≡ get_or arenas i was → now.is_out ≡ was.is_out
    → flags_of (set arenas i now) ≡ flags_of arenas
flags_same arenas i was now at same = map-set_same flag_of arenas i now was (same ∙ ap flag_of at)

takens_same : (arenas : List Arena) (i : ℕ) (was now : Arena) → was ≡ get_or arenas i was → now.taken ≡ was.taken
    → takens_of (set arenas i now) ≡ takens_of arenas
takens_same arenas i was now at same = map-set_same taken_of arenas i now was (same ∙ ap taken_of at)

-- what an arena says of itself that is written over
pub set_owner : (arenas : List Arena) (i : ℕ) (now : Arena) (o : Option ℕ)
    → slice_get (owners_of (set arenas i now)) i ≡ Some o → now.owner ≡ o
set_owner arenas i now o at =
    set_is (owners_of arenas) i now.owner o (ap (λ os. slice_get os i) (sym (map-set owner_of arenas i now)) ∙ at)

pub set_taken : (arenas : List Arena) (i : ℕ) (now : Arena) (k : ℕ)
    → slice_get (takens_of (set arenas i now)) i ≡ Some k → now.taken ≡ k
set_taken arenas i now k at =
    set_is (takens_of arenas) i now.taken k (ap (λ ts. slice_get ts i) (sym (map-set taken_of arenas i now)) ∙ at)

-- the slots are taken of which an arena says so
pub taken_here : (arenas : List Arena) (lying : Lying) (i : ℕ) (was : Arena) → i < length arenas
    → was ≡ get_or arenas i was → AreTaken (takens_of arenas) lying → IsTakenTo lying i was.taken
taken_here arenas lying i was below at t =
    t i was.taken (slice_get-map taken_of arenas i ∙ ap (option_map taken_of) (slice_get-get_or arenas i was below
    ∙ ap Some (sym at)))

-- a new cell of a zone may lie in an arena that says so
pub open_at : (arenas : List Arena) (i z : ℕ) (a : Arena) → i < length arenas → a ≡ get_or arenas i a
    → a.owner ≡ Some z → a.is_out ≡ false → IsOpen (owners_of arenas) (flags_of arenas) z i
open_at arenas i z a below at owner flag =
    let is : slice_get arenas i ≡ Some a = slice_get-get_or arenas i a below ∙ ap Some (sym at) in (
      slice_get-map owner_of arenas i ∙ ap (option_map owner_of) is ∙ ap Some owner,
      slice_get-map flag_of arenas i ∙ ap (option_map flag_of) is ∙ ap Some flag,
    )

as_many : (arenas : List Arena) → length (owners_of arenas) ≡ length (flags_of arenas)
as_many arenas = length-map arenas owner_of ∙ sym (length-map arenas flag_of)

-- arenas, those that are out, the hints of the zones, and the cells by their places
pub record Table : Type 0 where
  pub arenas : List Arena
  pub out : List ℕ
  pub lowest : List ℕ
  pub lying : Lying

abbrev pub table_of : Arenas → Table
table_of a =
    record { arenas = a.arenas.items; out = a.out.items; lowest = a.lowest; lying = a.lying }

abbrev pub IsKept : Table → Type 0
IsKept t = AreKept t.arenas t.out t.lowest t.lying

-- an arena is written over
pub record IsWritten (arenas : List Arena) : Type 0 where
  pub number : ℕ
  pub was : Arena
  pub now : Arena
  pub at : was ≡ get_or arenas number was

abbrev pub written : (arenas : List Arena) → IsWritten arenas → List Arena
written arenas w = set arenas w.number w.now

few_set : (arenas : List Arena) (w : IsWritten arenas) → length arenas < 2 ^ 32
    → length (written arenas w) < 2 ^ 32
few_set arenas w few = subst (λ n. n < 2 ^ 32) (sym (length-set arenas w.number w.now)) few

made_set : (arenas : List Arena) (w : IsWritten arenas) (lying : Lying) → AreMade arenas lying
    → AreMade (written arenas w) lying
made_set arenas w lying made = λ p past. made p (subst (λ n. n ≤ p.0) (length-set arenas w.number w.now) past)

-- it is of the same zone, and as many slots are known to be taken
full_same : (t : Table) (w : IsWritten t.arenas) (flags : List Bool) → w.now.owner ≡ w.was.owner
    → flags_of (written t.arenas w) ≡ flags → AreFull (owners_of t.arenas) flags t.lowest t.lying
    → AreFull (owners_of (written t.arenas w)) (flags_of (written t.arenas w)) t.lowest t.lying
full_same t w flags owner is full =
    subst (λ os. AreFull os (flags_of (written t.arenas w)) t.lowest t.lying)
    (sym (same_owner t.arenas w.number w.was w.now w.at owner))
    (subst (λ fs. AreFull (owners_of t.arenas) fs t.lowest t.lying) (sym is) full)

taken_same : (t : Table) (w : IsWritten t.arenas) → w.now.taken ≡ w.was.taken → AreTaken (takens_of t.arenas) t.lying
    → AreTaken (takens_of (written t.arenas w)) t.lying
taken_same t w same taken =
    subst (λ ts. AreTaken ts t.lying) (sym (takens_same t.arenas w.number w.was w.now w.at same)) taken

-- of an arena more slots are known to be taken, or fewer
pub kept_taken : (t : Table) (w : IsWritten t.arenas) → w.now.owner ≡ w.was.owner → w.now.is_out ≡ w.was.is_out
    → IsTakenTo t.lying w.number w.now.taken → IsKept t → IsKept (record t { arenas = written t.arenas w })
kept_taken t w owner flag here k = record {
  few = few_set t.arenas w k.few;
  made = made_set t.arenas w t.lying k.made;
  below = k.below;
  flagged = subst (λ fs. AreFlagged fs t.out) (sym flags) k.flagged;
  taken = subst (λ ts. AreTaken ts t.lying) (sym (map-set taken_of t.arenas w.number w.now))
      (taken_set (takens_of t.arenas) t.lying w.number w.now.taken here k.taken);
  full = full_same t w (flags_of t.arenas) owner flags k.full;
}
  where
    flags : flags_of (written t.arenas w) ≡ flags_of t.arenas
    flags = flags_same t.arenas w.number w.was w.now w.at flag

-- the arenas of a zone are full below another one
pub kept_lowest : (t : Table) (z i : ℕ)
    → ((n : ℕ) → n < i → IsFull (owners_of t.arenas) (flags_of t.arenas) t.lying z n) → IsKept t
    → IsKept (record t { lowest = set t.lowest z i })
kept_lowest t z i here k = record {
  few = k.few;
  made = k.made;
  below = k.below;
  flagged = k.flagged;
  taken = k.taken;
  full = full_set (owners_of t.arenas) (flags_of t.arenas) t.lowest t.lying z i here k.full;
}

-- an arena is given up
pub kept_given : (t : Table) (w : IsWritten t.arenas) → w.now.owner ≡ None → w.now.is_out ≡ w.was.is_out
    → w.now.taken ≡ w.was.taken → IsKept t → IsKept (record t { arenas = written t.arenas w })
kept_given t w none flag taken k = record {
  few = few_set t.arenas w k.few;
  made = made_set t.arenas w t.lying k.made;
  below = k.below;
  flagged = subst (λ fs. AreFlagged fs t.out) (sym flags) k.flagged;
  taken = taken_same t w taken k.taken;
  full = subst (λ os. AreFull os (flags_of (written t.arenas w)) t.lowest t.lying)
      (sym (map-set owner_of t.arenas w.number w.now ∙ ap (set (owners_of t.arenas) w.number) none))
      (full_given (owners_of t.arenas) (flags_of (written t.arenas w)) t.lowest t.lying w.number
      (subst (λ fs. AreFull (owners_of t.arenas) fs t.lowest t.lying) (sym flags) k.full));
}
  where
    flags : flags_of (written t.arenas w) ≡ flags_of t.arenas
    flags = flags_same t.arenas w.number w.was w.now w.at flag

-- an arena goes out
pub kept_out : (t : Table) (w : IsWritten t.arenas) (more : List ℕ) → w.number < length t.arenas
    → w.now.owner ≡ w.was.owner → w.now.is_out ≡ true → w.now.taken ≡ w.was.taken → more ≡ t.out ++ w.number ∷ []
    → IsKept t → IsKept (record t { arenas = written t.arenas w; out = more })
kept_out t w more below owner flag taken pushed k = record {
  few = few_set t.arenas w k.few;
  made = made_set t.arenas w t.lying k.made;
  below = k.below;
  flagged = subst (λ fs. AreFlagged fs more) (sym flags) (flagged_out (flags_of t.arenas) w.number t.out more
      (subst (λ n. w.number < n) (sym (length-map t.arenas flag_of)) below) pushed k.flagged);
  taken = taken_same t w taken k.taken;
  full = full_same t w (set (flags_of t.arenas) w.number true) owner flags
      (full_out (owners_of t.arenas) (flags_of t.arenas) t.lowest t.lying w.number k.full);
}
  where
    flags : flags_of (written t.arenas w) ≡ set (flags_of t.arenas) w.number true
    flags = map-set flag_of t.arenas w.number w.now ∙ ap (set (flags_of t.arenas) w.number) flag

-- an arena comes in, which is looked at for the next cells of its zone
pub kept_in : (t : Table) (w : IsWritten t.arenas) (rest : List ℕ) → w.now.owner ≡ w.was.owner
    → w.now.is_out ≡ false → w.now.taken ≡ w.was.taken → t.out ≡ rest ++ w.number ∷ []
    → (Contains rest w.number → ⊥)
    → ((z : ℕ) → slice_get (owners_of t.arenas) w.number ≡ Some (Some z) → get_or t.lowest z 0 ≤ w.number)
    → IsKept t → IsKept (record t { arenas = written t.arenas w; out = rest })
kept_in t w rest owner flag taken popped absent low k = record {
  few = few_set t.arenas w k.few;
  made = made_set t.arenas w t.lying k.made;
  below = k.below;
  flagged = subst (λ fs. AreFlagged fs rest) (sym flags)
      (flagged_in (flags_of t.arenas) w.number t.out rest popped absent k.flagged);
  taken = taken_same t w taken k.taken;
  full = full_same t w (set (flags_of t.arenas) w.number false) owner flags
      (full_in (owners_of t.arenas) (flags_of t.arenas) t.lowest t.lying w.number low k.full);
}
  where
    flags : flags_of (written t.arenas w) ≡ set (flags_of t.arenas) w.number false
    flags = map-set flag_of t.arenas w.number w.now ∙ ap (set (flags_of t.arenas) w.number) flag

pub kept_still : (t : Table) (i : ℕ) (rest : List ℕ) → t.out ≡ rest ++ i ∷ [] → Contains rest i → IsKept t
    → IsKept (record t { out = rest })
kept_still t i rest popped still k = record {
  few = k.few;
  made = k.made;
  below = k.below;
  flagged = flagged_still (flags_of t.arenas) i t.out rest popped still k.flagged;
  taken = k.taken;
  full = k.full;
}

-- an arena that is out is there
pub out_there : (t : Table) (i : ℕ) → Contains t.out i → IsKept t → i < length t.arenas
out_there t i c k = elim (at_least i (length t.arenas)) [
  | inl past ↦ absurd (k.flagged.said i c (λ e. let below = slice_get_within (flags_of t.arenas) i true e in
      let many = length-map t.arenas flag_of in omega (arith, below, many, past)))
  | inr below ↦ below
]

-- an arena is made
abbrev pub new_arena : ℕ → Arena
new_arena z = record { owner = Some z; taken = 0; is_out = false }

pub kept_more : (t : Table) (new : List Arena) (z n : ℕ) → new ≡ t.arenas ++ new_arena z ∷ []
    → n ≡ length t.arenas → n + 1 < 2 ^ 32
    → ((m : ℕ) → m < length t.arenas → IsFull (owners_of t.arenas) (flags_of t.arenas) t.lying z m) → IsKept t
    → IsKept (record t { arenas = new; lowest = set t.lowest z n })
kept_more t new z n pushed at few here k = record {
  few = omega (arith, few, at, many);
  made = λ p past. k.made p (omega (arith, past, many));
  below = k.below;
  flagged = subst (λ fs. AreFlagged fs t.out) (sym flags) (flagged_more (flags_of t.arenas) t.out k.flagged);
  taken = subst (λ ts. AreTaken ts t.lying) (sym takens) (taken_more (takens_of t.arenas) t.lying k.taken);
  full = subst (λ m. AreFull (owners_of new) (flags_of new) (set t.lowest z m) t.lying)
      (length-map t.arenas owner_of ∙ sym at)
      (subst (λ os. AreFull os (flags_of new) (set t.lowest z (length (owners_of t.arenas))) t.lying) (sym owners)
      (subst (λ fs. AreFull (owners_of t.arenas ++ Some z ∷ []) fs (set t.lowest z (length (owners_of t.arenas)))
      t.lying) (sym flags)
      (full_more (owners_of t.arenas) (flags_of t.arenas) t.lowest t.lying z (as_many t.arenas)
      (λ m below. here m (subst (λ l. m < l) (length-map t.arenas owner_of) below)) k.full)));
}
  where
    many : length new ≡ suc (length t.arenas)
    many = ap length pushed ∙ length_push t.arenas (new_arena z)

    owners : owners_of new ≡ owners_of t.arenas ++ Some z ∷ []
    owners = ap owners_of pushed ∙ map-append owner_of t.arenas (new_arena z ∷ [])

    flags : flags_of new ≡ flags_of t.arenas ++ false ∷ []
    flags = ap flags_of pushed ∙ map-append flag_of t.arenas (new_arena z ∷ [])

    takens : takens_of new ≡ takens_of t.arenas ++ 0 ∷ []
    takens = ap takens_of pushed ∙ map-append taken_of t.arenas (new_arena z ∷ [])

-- a cell lies in a place
pub kept_lain : (t : Table) (new : Lying) (p : Place) (x : Name) → p.0 < length t.arenas → p.1 < 64
    → tree.Updates place_order t.lying new p (Some x) → IsKept t → IsKept (record t { lying = new })
kept_lain t new p x below slot up k = record {
  few = k.few;
  made = λ q past un. k.made q past (λ e. elim (cell_in t.lying new p q (Some x) up) [
    | inl here ↦ (let same : p.0 ≡ q.0 = ap (λ (r : Place). r.0) here.0 in omega (arith, same, below, past))
    | inr elsewhere ↦ un (elsewhere.1 ∙ e)
  ]);
  below = λ q past un. k.below q past (λ e. elim (cell_in t.lying new p q (Some x) up) [
    | inl here ↦ (let same : p.1 ≡ q.1 = ap (λ (r : Place). r.1) here.0 in omega (arith, same, slot, past))
    | inr elsewhere ↦ un (elsewhere.1 ∙ e)
  ]);
  flagged = k.flagged;
  taken = taken_fewer (takens_of t.arenas) t.lying new (empty_before t.lying new p x up) k.taken;
  full = full_fewer (owners_of t.arenas) (flags_of t.arenas) t.lowest t.lying new (empty_before t.lying new p x up)
      k.full;
}

-- no cell lies in a place any more, which is looked at for the next cells of its zone
pub kept_left : (t : Table) (new : Lying) (p : Place)
    → ((k : ℕ) → slice_get (takens_of t.arenas) p.0 ≡ Some k → k ≤ p.1)
    → ((z : ℕ) → slice_get (owners_of t.arenas) p.0 ≡ Some (Some z) → get_or t.lowest z 0 ≤ p.0)
    → tree.Updates place_order t.lying new p None → IsKept t → IsKept (record t { lying = new })
kept_left t new p most low up k = record {
  few = k.few;
  made = λ q past un. k.made q past (λ e. un (empty_after t.lying new p q up e));
  below = λ q past un. k.below q past (λ e. un (empty_after t.lying new p q up e));
  flagged = k.flagged;
  taken = λ n m at s below less e. k.taken n m at s below less (empty_elsewhere t.lying new p (n, s) None up
      (λ same. let first : p.0 ≡ n = ap (λ (r : Place). r.0) same in
      let second : p.1 ≡ s = ap (λ (r : Place). r.1) same in
      let no = most m (subst (λ j. slice_get (takens_of t.arenas) j ≡ Some m) (sym first) at) in
      omega (arith, no, below, second)) e);
  full = λ z n below o s less e. k.full z n below o s less (empty_elsewhere t.lying new p (n, s) None up
      (λ same. let first : p.0 ≡ n = ap (λ (r : Place). r.0) same in
      let no = low z (subst (λ j. slice_get (owners_of t.arenas) j ≡ Some (Some z)) (sym first) o.0) in
      omega (arith, no, below, first)) e);
}

-- the last of the arenas that are out
pub popped_is : (out left : List ℕ) (n : ℕ) (rest : List ℕ) → reverse out ≡ n ∷ rest
    → left ≡ take (length out - 1) out → out ≡ left ++ n ∷ []
popped_is out left n rest is taken = last ∙ ap (λ xs. xs ++ n ∷ []) (sym (taken ∙ first))
  where
    last : out ≡ reverse rest ++ n ∷ []
    last = sym (reverse-reverse out) ∙ ap reverse is ∙ reverse-append (n ∷ []) rest

    few : length out - 1 ≡ length (reverse rest)
    few = (let many = ap length last ∙ length_push (reverse rest) n in omega (arith, many))

    first : take (length out - 1) out ≡ reverse rest
    first = ap (λ k. take k out) few ∙ ap (take (length (reverse rest))) last ∙ take-append_seam (reverse rest) (n ∷ [])
