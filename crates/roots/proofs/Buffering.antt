-- What putting a place into a zone's buffer, and taking it out, does to the lists of places.
use Rattle.std.proofs.Common.{Bool, true, false, nat_eq, vec_len, eqb-true, eq-eqb, replicate, Option, Some, None}
use Rattle.std.proofs.Common.{IfSome, IfNone, drop, ◌≡◌, ◌≢◌, ◌<◌, ◌≤◌, ◌+◌, ◌==◌, ◌↔◌, ◌⊎◌, inl, inr, ℕ, zero, suc}
use Rattle.std.proofs.Common.{List, [], ◌∷◌, ◌++◌, length, get_or, set, map, filter, sum_by, slice_index, vec_capacity}
use Rattle.std.proofs.Common.{Vec, take, append-nil, append_assoc, refl, sym, subst, ◌∙◌, ap, arith, length-set}
use Rattle.std.proofs.Common.{length-append, get_or-set_same, get_or-set_other, if◌then◌else◌}
use Rattle.std.proofs.lemmas.List.{nil_from_length, get_or-replicate, drop_more, length-map, get_or-map, get_or_read}
use Rattle.std.proofs.lemmas.List.{map-set, set-set, set-get_or, get_or_past}
use Rattle.std.proofs.lemmas.List.Sums.{sum_by-set, sum_by-cons, sum_by_more, length-filter}
use Rattle.std.proofs.lemmas.Bool.{false≢true, cases_eq, cases_lt}
use Rattle.std.proofs.lemmas.Grind.{common_steps}
use Rattle.std.specs.Option.{option_to_list}
use Rattle.std.specs.declared.alloc.Global.{Global}
use Rattle.gz_names.specs.Zones.{HasZone}
use Rattle.gz_names.specs.declared.numbers.Place.{Place}
use Rattle.gz_names.specs.declared.numbers.ZoneNo.{ZoneNo}
use Rattle.gz_names.proofs.Words.{HasZone-none}
use Rattle.roots.specs.Buffers.{buffer_at, put_at, put_all, places_in, count_in, lists_of, capacities_of, HasRoom}
use Rattle.roots.specs.Buffers.{IsWaiting}

-- a write that leaves what is looked at leaves the list of it
pub map-set_same : {X Y : Type 0} (f : X → Y) (xs : List X) (i : ℕ) (y : X) → f y ≡ f (get_or xs i y)
    → map f (set xs i y) ≡ map f xs
map-set_same f [] i y h = refl
map-set_same f (x ∷ xs) zero y h = ap (λ z. z ∷ map f xs) h
map-set_same f (x ∷ xs) (suc i) y h = ap (λ zs. f x ∷ zs) (map-set_same f xs i y h)

-- what a vector in its place holds is what waits for that zone
buffer_at-lists_of : (bs : List (Vec Place Global)) (i : ℕ) (b : Vec Place Global) → i < length bs → b ≡ get_or bs i b
    → buffer_at (lists_of bs) i ≡ b.items
buffer_at-lists_of bs i b h e = get_or-map (λ (v : Vec Place Global). v.items) bs i b [] h
    ∙ ap (λ (v : Vec Place Global). v.items) (sym e)

-- one buffer more is counted
pub waiting-more : (bs : List (Vec Place Global)) (i count : ℕ) (b : Vec Place Global) → i < length bs
    → b ≡ get_or bs i b → count ≡ sum_by length (take i (lists_of bs))
    → count + vec_len b ≡ sum_by length (take (i + 1) (lists_of bs))
waiting-more bs i count b h e counted =
    let inside : i < length (lists_of bs) = rw length-map h in
    let more = sum_by_more length (lists_of bs) i [] inside in
    let here = ap length (buffer_at-lists_of bs i b h e) in
    omega (arith, b.ok.0)

pub lists_of-put : (bs : List (Vec Place Global)) (i : ℕ) (b c : Vec Place Global) (p : Place) → i < length bs
    → b ≡ get_or bs i b → c.items ≡ b.items ++ p ∷ [] → lists_of (set bs i c) ≡ put_at (lists_of bs) i p
lists_of-put bs i b c p h e f =
    map-set (λ (v : Vec Place Global). v.items) bs i c
    ∙ ap (set (lists_of bs) i) (f ∙ ap (λ xs. xs ++ p ∷ []) (sym (buffer_at-lists_of bs i b h e)))

pub lists_of-take : (bs : List (Vec Place Global)) (i : ℕ) (b c : Vec Place Global) (p : Place) → i < length bs
    → b ≡ get_or bs i b → b.items ≡ c.items ++ p ∷ [] → lists_of bs ≡ put_at (lists_of (set bs i c)) i p
lists_of-take bs i b c p h e f =
    let now : lists_of (set bs i c) ≡ set (lists_of bs) i c.items =
    map-set (λ (v : Vec Place Global). v.items) bs i c in
    let fits : i < length (lists_of bs) = rw length-map h in
    let here : buffer_at (set (lists_of bs) i c.items) i ≡ c.items = get_or-set_same (lists_of bs) i c.items [] fits in
    let was : buffer_at (lists_of bs) i ≡ c.items ++ p ∷ [] = buffer_at-lists_of bs i b h e ∙ f in
    rw (now, here, set-set, ← was) (sym (set-get_or (lists_of bs) i []))

-- the places of a zone after one more is put
pub buffer_at-put_same : (ls : List (List Place)) (i : ℕ) (p : Place) → i < length ls
    → buffer_at (put_at ls i p) i ≡ buffer_at ls i ++ p ∷ []
buffer_at-put_same ls i p h = get_or-set_same ls i (buffer_at ls i ++ p ∷ []) [] h

pub buffer_at-put_other : (ls : List (List Place)) (i z : ℕ) (p : Place) → z ≢ i
    → buffer_at (put_at ls i p) z ≡ buffer_at ls z
buffer_at-put_other ls i z p h = get_or-set_other ls i z (buffer_at ls i ++ p ∷ []) [] h

push≢nil : {X : Type 0} (xs : List X) (x : X) → xs ++ x ∷ [] ≢ []
push≢nil [] x e = cc
push≢nil (y ∷ xs) x e = cc

pub IsWaiting-put : (ls : List (List Place)) (v w i : ℕ) (p : Place) → i < length ls → IsWaiting ls v
    → ((z : ℕ) → HasZone w z ↔ (HasZone v z ⊎ (z ≡ i))) → IsWaiting (put_at ls i p) w
IsWaiting-put ls v w i p h old new z = elim (cases_eq z i) [
  | inl e ↦ (λ _. rw (e, buffer_at-put_same ls i p h) (push≢nil (buffer_at ls i) p), λ _. (new z).1 (inr e))
  | inr n ↦ rw (buffer_at-put_other ls i z p n)
      (λ k. (old z).0 (elim ((new z).0 k) [ inl a ↦ a | inr e ↦ absurd (n e) ]), λ k. (new z).1 (inl ((old z).1 k)))
]

count_in-cons : (z i : ℕ) (p : Place) (items : List (ZoneNo × Place))
    → count_in z ((i, p) ∷ items) ≡ (if i == z then 1 else 0) + count_in z items
count_in-cons z i p items = sum_by-cons (λ (item : ZoneNo × Place). if item.0 == z then 1 else 0) (i, p) items

pub HasRoom-put : (ls : List (List Place)) (caps : List ℕ) (i : ℕ) (p : Place) (items : List (ZoneNo × Place))
    → i < length ls → HasRoom ls caps (λ z. count_in z ((i, p) ∷ items))
    → HasRoom (put_at ls i p) caps (λ z. count_in z items)
HasRoom-put ls caps i p items h room z lt =
    let within : z < length ls = rw (length-set {A = List Place}) at lt in
    let had = room z within in
    let counted = count_in-cons z i p items in
    elim (cases_eq z i) [
      | inl e ↦ (let put = buffer_at-put_same ls i p h in let longer = length-append (buffer_at ls i) (p ∷ []) in
          grind (arith, common_steps))
      | inr n ↦ (let put = buffer_at-put_other ls i z p n in grind (arith, common_steps))
    ]

-- one more place waits, over all zones
pub sum_by-put : (ls : List (List Place)) (i : ℕ) (p : Place) → i < length ls
    → sum_by length (put_at ls i p) ≡ sum_by length ls + 1
sum_by-put ls i p h =
    let e = sum_by-set length ls i (buffer_at ls i ++ p ∷ []) [] h in
    omega (arith, length-append (buffer_at ls i) (p ∷ []))

pub length-put_all : (ls : List (List Place)) (items : List (ZoneNo × Place)) → length (put_all ls items) ≡ length ls
length-put_all ls [] = refl
length-put_all ls (item ∷ items) = length-put_all (put_at ls item.0 item.1) items ∙ length-set ls item.0 _

places_in-cons : (z i : ℕ) (p : Place) (items : List (ZoneNo × Place))
    → places_in z ((i, p) ∷ items) ≡ (if i == z then p ∷ places_in z items else places_in z items)
places_in-cons z i p items = elim (cases_eq i z) [
  | inl e ↦ grind (arith, common_steps)
  | inr n ↦ grind (arith, common_steps)
]

pub buffer_at-put_all : (ls : List (List Place)) (items : List (ZoneNo × Place)) (z : ℕ) → z < length ls
    → buffer_at (put_all ls items) z ≡ buffer_at ls z ++ places_in z items
buffer_at-put_all ls [] z h = sym (append-nil (buffer_at ls z))
buffer_at-put_all ls ((i, p) ∷ items) z h =
    let within : z < length (put_at ls i p) = rw length-set h in
    let rest = buffer_at-put_all (put_at ls i p) items z within in
    let cons = places_in-cons z i p items in
    elim (cases_eq i z) [
      | inl e ↦ (let here = buffer_at-put_same ls z p h in grind (arith, common_steps, append_assoc))
      | inr n ↦ (let other = buffer_at-put_other ls i z p (λ e. n (sym e)) in grind (arith, common_steps))
    ]

-- so many of the places are put: what is left leads to what is wanted, and there is room for it
pub record IsPutting (before : List (Vec Place Global)) (items : List (ZoneNo × Place)) (now : List (Vec Place Global))
    (word : ℕ) (rest : List (ZoneNo × Place)) (count : ℕ) : Type 0 where
  pub zones : length now ≡ 64
  pub put : put_all (lists_of now) rest ≡ put_all (lists_of before) items
  pub counted : sum_by length (lists_of now) ≡ sum_by length (lists_of before) + count
  pub capacities : capacities_of now ≡ capacities_of before
  pub room : HasRoom (lists_of now) (capacities_of now) (λ z. count_in z rest)
  pub waiting : IsWaiting (lists_of now) word

pub IsPutting-more : (before : List (Vec Place Global)) (items : List (ZoneNo × Place)) (now : List (Vec Place Global))
    (word : ℕ) (rest : List (ZoneNo × Place)) (count i : ℕ) (p : Place) (b c : Vec Place Global) (w : ℕ)
    → IsPutting before items now word ((i, p) ∷ rest) count
    → i < 64
    → b ≡ get_or now i b
    → c.items ≡ b.items ++ p ∷ []
    → vec_capacity c ≡ vec_capacity b
    → ((z : ℕ) → HasZone w z ↔ (HasZone word z ⊎ (z ≡ i)))
    → IsPutting before items (set now i c) w rest (count + 1)
IsPutting-more before items now word rest count i p b c w h lt e put same new =
    let within : i < length now = rw h.zones lt in
    let inside : i < length (lists_of now) = rw length-map within in
    let lists : lists_of (set now i c) ≡ put_at (lists_of now) i p = lists_of-put now i b c p within e put in
    let read : b ≡ get_or now i c = get_or_read now i b within e c in
    let caps : capacities_of (set now i c) ≡ capacities_of now =
    map-set_same (λ (v : Vec Place Global). vec_capacity v) now i c
    (same ∙ ap (λ (v : Vec Place Global). vec_capacity v) read) in
    record {
      zones = length-set now i c ∙ h.zones;
      put = ap (λ ls. put_all ls rest) lists ∙ h.put;
      counted = ap (λ ls. sum_by length ls) lists
          ∙ (sum_by-put (lists_of now) i p inside ∙ (let old = h.counted in omega arith));
      capacities = caps ∙ h.capacities;
      room = subst (λ ls. HasRoom ls (capacities_of (set now i c)) (λ z. count_in z rest)) (sym lists)
          (subst (λ cs. HasRoom (put_at (lists_of now) i p) cs (λ z. count_in z rest)) (sym caps)
          (HasRoom-put (lists_of now) (capacities_of now) i p rest inside h.room));
      waiting = subst (λ ls. IsWaiting ls w) (sym lists) (IsWaiting-put (lists_of now) word w i p inside h.waiting new);
    }

-- the item at the index is the first of those that are left
pub next_item : (items : List (ZoneNo × Place)) (i : ℕ) (item : ZoneNo × Place) (z : ℕ) → i < length items
    → item ≡ get_or items i item → z ≡ item.0 → drop i items ≡ (z, item.1) ∷ drop (i + 1) items
next_item items i item z h e f =
    drop_more items i item h ∙ ap (λ first. first ∷ drop (i + 1) items) (sym e ∙ ap (λ y. (y, item.1)) (sym f))

-- a place is taken out of a vector
pub lists_of-pop : (bs : List (Vec Place Global)) (i : ℕ) (b c : Vec Place Global) (r : Option Place) → i < length bs
    → b ≡ get_or bs i b → b.items ≡ c.items ++ option_to_list r
    → IfSome r (λ p. lists_of bs ≡ put_at (lists_of (set bs i c)) i p)
lists_of-pop bs i b c None h e f = tt
lists_of-pop bs i b c (Some p) h e f = lists_of-take bs i b c p h e f

-- nothing is taken out of an empty vector
pub lists_of-pop_none : (bs : List (Vec Place Global)) (i : ℕ) (b c : Vec Place Global) (r : Option Place)
    → i < length bs → b ≡ get_or bs i b → b.items ≡ c.items ++ option_to_list r → c.items ≡ []
    → IfNone r ((buffer_at (lists_of bs) i ≡ []) × (lists_of (set bs i c) ≡ lists_of bs))
lists_of-pop_none bs i b c None h e f empty =
    let none : b.items ≡ [] = f ∙ (append-nil c.items ∙ empty) in
    let read : b ≡ get_or bs i c = get_or_read bs i b h e c in (
      buffer_at-lists_of bs i b h e ∙ none,
      map-set_same (λ (v : Vec Place Global). v.items) bs i c
          (empty ∙ (sym none ∙ ap (λ (v : Vec Place Global). v.items) read)),
    )
lists_of-pop_none bs i b c (Some p) h e f empty = tt

pub IsWaiting-cleared : (bs : List (Vec Place Global)) (v w i : ℕ) (c : Vec Place Global) → i < length bs
    → IsWaiting (lists_of bs) v → c.items ≡ [] → ((z : ℕ) → HasZone w z ↔ (HasZone v z × z ≢ i))
    → IsWaiting (lists_of (set bs i c)) w
IsWaiting-cleared bs v w i c h old empty new z =
    let lists : lists_of (set bs i c) ≡ set (lists_of bs) i c.items =
    map-set (λ (v : Vec Place Global). v.items) bs i c in
    let inside : i < length (lists_of bs) = rw length-map h in
    rw lists (elim (cases_eq z i) [
      | inl e ↦ (
        λ k. absurd (((new z).0 k).1 e),
        λ k. absurd (k (ap (λ y. buffer_at (set (lists_of bs) i c.items) y) e
            ∙ (get_or-set_same (lists_of bs) i c.items [] inside ∙ empty))),
      )
      | inr n ↦ rw (get_or-set_other (lists_of bs) i z c.items [] n) (
        λ k. (old z).0 ((new z).0 k).0,
        λ k. (new z).1 ((old z).1 k, n),
      )
    ])

pub IsWaiting-kept : (bs : List (Vec Place Global)) (v i : ℕ) (b c : Vec Place Global) → i < length bs
    → b ≡ get_or bs i b → IsWaiting (lists_of bs) v → c.items ≢ [] → b.items ≢ [] → IsWaiting (lists_of (set bs i c)) v
IsWaiting-kept bs v i b c h e old now was z =
    let lists : lists_of (set bs i c) ≡ set (lists_of bs) i c.items =
    map-set (λ (v : Vec Place Global). v.items) bs i c in
    let inside : i < length (lists_of bs) = rw length-map h in
    let had = buffer_at-lists_of bs i b h e in
    let has = get_or-set_same (lists_of bs) i c.items [] inside in
    rw lists (elim (cases_eq z i) [
      | inl f ↦ (
        λ k l. now (sym has ∙ (ap (λ y. buffer_at (set (lists_of bs) i c.items) y) (sym f) ∙ l)),
        λ k. (old z).1 (λ l. was (sym had ∙ (ap (λ y. buffer_at (lists_of bs) y) (sym f) ∙ l))),
      )
      | inr n ↦ rw (get_or-set_other (lists_of bs) i z c.items [] n) (old z)
    ])

pub lists_of-same : (bs : List (Vec Place Global)) (i : ℕ) (b c : Vec Place Global) → i < length bs → b ≡ get_or bs i b
    → c.items ≡ b.items → lists_of (set bs i c) ≡ lists_of bs
lists_of-same bs i b c h e same =
    map-set_same (λ (v : Vec Place Global). v.items) bs i c
    (same ∙ ap (λ (v : Vec Place Global). v.items) (get_or_read bs i b h e c))

-- a vector is given room
pub HasRoom-more : (bs : List (Vec Place Global)) (left rest i : ℕ) (b c : Vec Place Global) (more : ℕ → ℕ)
    → i < length bs → b ≡ get_or bs i b → c.items ≡ b.items → length c.items + more i ≤ vec_capacity c
    → ((z : ℕ) → HasZone rest z ↔ (HasZone left z × (z ≢ i)))
    → ((z : ℕ) → z < 64 → (HasZone left z → ⊥)
    → length (buffer_at (lists_of bs) z) + more z ≤ slice_index (capacities_of bs) z) → (z : ℕ) → z < 64
    → (HasZone rest z → ⊥)
    → length (buffer_at (lists_of (set bs i c)) z) + more z ≤ slice_index (capacities_of (set bs i c)) z
HasRoom-more bs left rest i b c more h e same room removed before z lt out =
    let lists : lists_of (set bs i c) ≡ lists_of bs = lists_of-same bs i b c h e same in
    let caps : capacities_of (set bs i c) ≡ set (capacities_of bs) i (vec_capacity c) =
    map-set (λ (v : Vec Place Global). vec_capacity v) bs i c in
    let inside : i < length (capacities_of bs) = rw length-map h in
    let read : buffer_at (lists_of bs) i ≡ c.items = buffer_at-lists_of bs i b h e ∙ sym same in
    rw (lists, caps) (elim (cases_eq z i) [
      | inl f ↦ (let here = get_or-set_same (capacities_of bs) i (vec_capacity c) 0 inside in rw (f, here, read) room)
      | inr n ↦ (let old = before z lt (λ k. out ((removed z).1 (k, n))) in
          rw (get_or-set_other (capacities_of bs) i z (vec_capacity c) 0 n) old)
    ])

-- a vector has room for what it holds
pub HasRoom-held : (bs : List (Vec Place Global)) (z : ℕ) → z < length bs
    → length (buffer_at (lists_of bs) z) ≤ slice_index (capacities_of bs) z
HasRoom-held [] z h = absurd (omega arith)
HasRoom-held (b ∷ bs) zero h = omega (arith, b.ok.0, b.ok.1)
HasRoom-held (b ∷ bs) (suc z) h = HasRoom-held bs z (omega arith)

length-places_in : (z : ℕ) (items : List (ZoneNo × Place)) → length (places_in z items) ≡ count_in z items
length-places_in z items =
    length-map (filter (λ (item : ZoneNo × Place). item.0 == z) items) (λ (item : ZoneNo × Place). item.1)
    ∙ length-filter (λ (item : ZoneNo × Place). item.0 == z) items

-- where there is room for both lists, there is room for the second after the first is put
pub HasRoom-rest : (ls : List (List Place)) (caps : List ℕ) (first second : List (ZoneNo × Place))
    → HasRoom ls caps (λ z. count_in z first + count_in z second)
    → HasRoom (put_all ls first) caps (λ z. count_in z second)
HasRoom-rest ls caps first second room z lt =
    let within : z < length ls = rw length-put_all at lt in
    let all = room z within in
    let put = ap length (buffer_at-put_all ls first z within) in
    omega (arith, length-append (buffer_at ls z) (places_in z first), length-places_in z first)

-- nothing waits in empty buffers
pub IsWaiting-none : (ls : List (List Place)) → ls ≡ replicate 64 [] → IsWaiting ls 0
IsWaiting-none ls e z = (
  λ h. absurd (HasZone-none z h),
  λ n. absurd (n (rw e (elim (cases_lt z 64) [
    | inl lt ↦ get_or-replicate 64 z [] [] lt
    | inr le ↦ get_or_past (replicate 64 []) z [] le
  ]))),
)

pub length-empty : (bs : List (Vec Place Global)) → lists_of bs ≡ replicate 64 [] → length bs ≡ 64
length-empty bs e = sym (length-map bs (λ (v : Vec Place Global). v.items)) ∙ ap length e

-- what waits for a zone, after both lists are put
pub buffer_at-put_both : (ls ms : List (List Place)) (first second : List (ZoneNo × Place)) → length ls ≡ 64
    → ms ≡ put_all (put_all ls first) second → (z : ℕ) → z < 64
    → buffer_at ms z ≡ buffer_at ls z ++ (places_in z first ++ places_in z second)
buffer_at-put_both ls ms first second h e z lt =
    let within : z < length ls = omega arith in
    let again : z < length (put_all ls first) = rw length-put_all within in
    ap (λ ns. buffer_at ns z) e
    ∙ (buffer_at-put_all (put_all ls first) second z again
    ∙ (ap (λ xs. xs ++ places_in z second) (buffer_at-put_all ls first z within)
    ∙ append_assoc (buffer_at ls z) (places_in z first) (places_in z second)))

-- whether the vector that was written is empty
pub items-empty : (bs : List (Vec Place Global)) (i : ℕ) (c d : Vec Place Global) (r : Bool) → i < length bs
    → r ≡ nat_eq (vec_len (get_or (set bs i c) i d)) 0 → r ≡ true → c.items ≡ []
items-empty bs i c d r h e f =
    let read : get_or (set bs i c) i d ≡ c = get_or-set_same bs i c d h in
    let none : vec_len c ≡ 0 =
    eqb-true _ _ (sym (ap (λ (v : Vec Place Global). nat_eq (vec_len v) 0) read) ∙ (sym e ∙ f)) in
    nil_from_length c.items (omega (arith, c.ok.0))

pub items-left : (bs : List (Vec Place Global)) (i : ℕ) (c d : Vec Place Global) (r : Bool) → i < length bs
    → r ≡ nat_eq (vec_len (get_or (set bs i c) i d)) 0 → r ≡ false → c.items ≢ []
items-left bs i c d r h e f n =
    let read : get_or (set bs i c) i d ≡ c = get_or-set_same bs i c d h in
    let none : vec_len c ≡ 0 = c.ok.0 ∙ ap length n in
    false≢true (sym f ∙ (e ∙ (ap (λ (v : Vec Place Global). nat_eq (vec_len v) 0) read ∙ eq-eqb _ _ none)))

pub append≢nil : {X : Type 0} (xs ys zs : List X) → zs ≡ xs ++ ys → xs ≢ [] → zs ≢ []
append≢nil [] ys zs e n f = absurd (n refl)
append≢nil (x ∷ xs) ys zs e n f = cc

nil_from_not : {X : Type 0} (xs : List X) → (xs ≢ [] → ⊥) → xs ≡ []
nil_from_not [] n = refl
nil_from_not (x ∷ xs) n = absurd (n (λ e. cc))

-- a zone that is not in the set has nothing that waits
pub buffer_at-idle : (ls : List (List Place)) (w : ℕ) → IsWaiting ls w → (z : ℕ) → (HasZone w z → ⊥)
    → buffer_at ls z ≡ []
buffer_at-idle ls w h z n = nil_from_not (buffer_at ls z) (λ k. n ((h z).1 k))

-- where nothing waits for any zone, all buffers are empty
pub lists_of-empty : (ls : List (List Place)) (n : ℕ) → length ls ≡ n → ((z : ℕ) → buffer_at ls z ≡ [])
    → ls ≡ replicate n []
lists_of-empty [] zero e none = refl
lists_of-empty [] (suc n) e none = absurd (omega (arith, e))
lists_of-empty (x ∷ xs) zero e none = absurd (omega (arith, e))
lists_of-empty (x ∷ xs) (suc n) e none =
    ap (λ y. y ∷ xs) (none 0)
    ∙ ap (λ ys. [] ∷ ys) (lists_of-empty xs n (omega (arith, e)) (λ z. none (suc z)))
