-- What a walk over a graph keeps.
use Rattle.std.proofs.Common.{◌≡◌, ◌≢◌, ◌⊎◌, ◌↔◌, inl, inr, ℕ, zero, suc, ◌+◌, ◌<◌, ◌≤◌, List, [], ◌∷◌, ◌++◌, length}
use Rattle.std.proofs.Common.{Bool, true, false, cond, ◌||◌, get_or, take, Contains, IsTrue, slice_get}
use Rattle.std.proofs.Common.{Option, Some, None, drop, refl, sym, ap, subst, ◌∙◌, append_assoc, arith, length-append}
use Rattle.std.specs.BTreeSet as sorted
use Rattle.std.specs.BTreeSet.{BTreeSet}
use Rattle.std.specs.List.{list_any}
use Rattle.std.specs.Ordering.{is_eq}
use Rattle.std.proofs.lemmas.List.{append-nil, take_all, take_more, length_push, take-append-drop, take-append-le}
use Rattle.std.proofs.lemmas.List.Elements.{Contains-append_left, Contains-push, Contains-push_cases, Contains-get_or}
use Rattle.std.proofs.lemmas.List.Folds.{list_any-append}
use Rattle.std.proofs.lemmas.List.Quantifiers.{all_pairs_push}
use Rattle.std.proofs.lemmas.Option.{slice_get_within, get_or_from_slice_get}
use Rattle.gz_names.specs.declared.names.Name.{Name}
use Rattle.gz_names.specs.declared.names.Name.TheVariants.{Cell, Wrap}
use Rattle.gz_names.specs.declared.numbers.CompNo.{CompNo}
use Rattle.gz_names.specs.Order.{same_name}
use Rattle.colour_defs.specs.Graph.{GraphState, value_of, has_wrapper}
use Rattle.colour_defs.specs.Step.{target_of}
use Rattle.colour_defs.specs.Closure.{Closure, HasEdge, from, along, weak, delegate}
use Rattle.colour_defs.proofs.Lists.{contains_at, contains_cases, contains_head, contains_tail, nothing_in_none}
use Rattle.colour_defs.proofs.Names.{same_name-is, same_name-refl}
use Rattle.plain_graph.specs.Indexed.{order_of}
use Rattle.plain_graph.proofs.Indexes.{one_more, order_itself, order_ties}
use Rattle.plain_graph.specs.Reach.{Adds, Extends, Follows, HasDelegateIn, IsAt, IsDone, IsWalk, Keeps}
use Rattle.plain_graph.specs.Reach.{Visits, WalkState}

-- names in a list, as a test
pub among_to : (x : Name) (xs : List Name) → list_any (same_name x) xs ≡ true → Contains xs x
among_to x [] e = absurd (cc e)
among_to x (y ∷ ys) e = go (same_name x y) refl e (λ h. among_to x ys h)
  where
    go : (b : Bool) → same_name x y ≡ b → (b || list_any (same_name x) ys) ≡ true
        → (list_any (same_name x) ys ≡ true → Contains ys x) → Contains (y ∷ ys) x
    go true is e rest = subst (λ z. Contains (y ∷ ys) z) (sym (same_name-is x y is)) (contains_head y ys)
    go false is e rest = contains_tail y ys x (rest e)

or_true : (b : Bool) → (b || true) ≡ true
or_true true = refl
or_true false = refl

pub among_from : (x : Name) (xs : List Name) → Contains xs x → list_any (same_name x) xs ≡ true
among_from x [] c = absurd (nothing_in_none x c)
among_from x (y ∷ ys) c = elim (contains_cases y ys x c) [
  | inl is ↦ ap (λ b. b || list_any (same_name x) ys) (ap (λ z. same_name x z) is ∙ same_name-refl x)
  | inr t ↦ ap (λ b. same_name x y || b) (among_from x ys t) ∙ or_true (same_name x y)
]

-- a test that tells that names are the same
ties : (x y : Name) → is_eq (order_of x y) ≡ same_name y x
ties x y = by (is_eq (order_of x y)) (same_name y x) refl refl
  where
    by : (a b : Bool) → is_eq (order_of x y) ≡ a → same_name y x ≡ b → is_eq (order_of x y) ≡ same_name y x
    by true true e f = e ∙ sym f
    by false false e f = e ∙ sym f
    by true false e f = absurd (cc (f, ap (λ z. same_name z x) (order_ties x y e), same_name-refl x))
    by false true e f = absurd (cc (e, ap (λ z. is_eq (order_of z y)) (same_name-is y x f), order_itself y))

-- a name that is new to the walk
pub walk_more : (found new : BTreeSet Name) (names : List Name) (next : ℕ) (y : Name) → IsWalk found names next
    → ((q : Name) → sorted.contains order_of new q
    ≡ cond (is_eq (order_of y q)) true (sorted.contains order_of found q))
    → (Contains names y → ⊥) → IsWalk new (names ++ y ∷ []) next
walk_more found new names next y is add fresh = record {
  found_are = λ x. add x
      ∙ ap (λ b. cond b true (sorted.contains order_of found x)) (ties y x)
      ∙ one_more (same_name x y) (sorted.contains order_of found x)
      ∙ ap (λ b. b || (same_name x y || false)) (is.found_are x)
      ∙ sym (list_any-append (same_name x) names (y ∷ []));
  distinct = all_pairs_push (λ a b. a ≢ b) names y is.distinct
      (λ k d below same. fresh (subst (λ w. Contains names w) same (Contains-get_or names k d below)));
  within = omega (arith, is.within, length_push names y);
}

-- lists that grow at their ends
pub extends_same : (old : List Name) → Extends old old
extends_same old = ([], sym (append-nil old))

pub extends_more : (old mid new : List Name) → Extends old mid → Extends mid new → Extends old new
extends_more old mid new (a, e) (b, f) = (a ++ b, f ∙ ap (λ xs. xs ++ b) e ∙ append_assoc old a b)

pub extends_has : (old new : List Name) (x : Name) → Extends old new → Contains old x → Contains new x
extends_has old new x (more, e) c = subst (λ xs. Contains xs x) (sym e) (Contains-append_left old more x c)

extends_take : (old new : List Name) (n : ℕ) → Extends old new → n ≤ length old → take n new ≡ take n old
extends_take old new n (more, e) le = ap (take n) e ∙ take-append-le n old more le

extends_length : (old new : List Name) → Extends old new → length old ≤ length new
extends_length old new (more, e) = omega (arith, simp length-append at (ap length e))

-- names that are added
pub adds_one : (old : List Name) (y : Name) → Adds old (old ++ y ∷ []) (λ x. y ≡ x)
adds_one old y = record {
  extends = (y ∷ [], refl);
  only = λ x c. Contains-push_cases old y x c;
  all = λ x e. subst (λ z. Contains (old ++ y ∷ []) z) e (Contains-push old y);
}

pub adds_same : (old new : List Name) (P Q : Name → Type 0) → Adds old new P → ((x : Name) → P x → Q x)
    → ((x : Name) → Q x → P x) → Adds old new Q
adds_same old new P Q a h k = record {
  extends = a.extends;
  only = λ x c. elim (a.only x c) [ inl o ↦ inl o | inr p ↦ inr (h x p) ];
  all = λ x q. a.all x (k x q);
}

adds_more : (old mid new : List Name) (P Q R : Name → Type 0) → Adds old mid P → Adds mid new Q
    → ((x : Name) → P x → R x) → ((x : Name) → Q x → R x) → ((x : Name) → R x → P x ⊎ Q x) → Adds old new R
adds_more old mid new P Q R a b p q r = record {
  extends = extends_more old mid new a.extends b.extends;
  only = λ x c. elim (b.only x c) [
    | inr h ↦ inr (q x h)
    | inl m ↦ elim (a.only x m) [ inl o ↦ inl o | inr h ↦ inr (p x h) ]
  ];
  all = λ x h. elim (r x h) [ inl s ↦ extends_has mid new x b.extends (a.all x s) | inr s ↦ b.all x s ];
}

-- what fields hold, one field more
pub take_cases : {X : Type 0} (xs : List X) (i : ℕ) (d x : X) → i < length xs → Contains (take (i + 1) xs) x
    → Contains (take i xs) x ⊎ (get_or xs i d ≡ x)
take_cases xs i d x below c =
    Contains-push_cases (take i xs) (get_or xs i d) x (subst (λ zs. Contains zs x) (take_more xs i d below) c)

pub take_old : {X : Type 0} (xs : List X) (i : ℕ) (d x : X) → i < length xs → Contains (take i xs) x
    → Contains (take (i + 1) xs) x
take_old xs i d x below c =
    subst (λ zs. Contains zs x) (sym (take_more xs i d below))
    (Contains-append_left (take i xs) (get_or xs i d ∷ []) x c)

pub take_new : {X : Type 0} (xs : List X) (i : ℕ) (d x : X) → i < length xs → get_or xs i d ≡ x
    → Contains (take (i + 1) xs) x
take_new xs i d x below e =
    subst (λ zs. Contains zs x) (sym (take_more xs i d below))
    (subst (λ z. Contains (take i xs ++ z ∷ []) x) (sym e) (Contains-push (take i xs) x))

pub take_all_of : {X : Type 0} (xs : List X) (i : ℕ) (x : X) → length xs ≤ i → Contains xs x → Contains (take i xs) x
take_all_of xs i x le c = subst (λ zs. Contains zs x) (sym (take_all i xs le)) c

pub of_take_all : {X : Type 0} (xs : List X) (i : ℕ) (x : X) → length xs ≤ i → Contains (take i xs) x → Contains xs x
of_take_all xs i x le c = subst (λ zs. Contains zs x) (take_all i xs le) c

-- a field that holds a name, and one that is null
pub held_more : (fields : List (Option Name)) (i : ℕ) (y : Name) (old mid new : List Name)
    → i < length fields → get_or fields i None ≡ Some y → Adds old mid (λ x. Contains (take i fields) (Some x))
    → Adds mid new (λ x. y ≡ x) → Adds old new (λ x. Contains (take (i + 1) fields) (Some x))
held_more fields i y old mid new below at a b =
    adds_more old mid new (λ x. Contains (take i fields) (Some x)) (λ x. y ≡ x)
    (λ x. Contains (take (i + 1) fields) (Some x)) a b
    (λ x c. take_old fields i None (Some x) below c)
    (λ x e. take_new fields i None (Some x) below (at ∙ ap (λ z. Some z) e))
    (λ x c. elim (take_cases fields i None (Some x) below c)
    [ inl o ↦ inl o | inr e ↦ (let p : y ≡ x = cc (at, e) in inr p) ])

pub held_same : (fields : List (Option Name)) (i : ℕ) (old mid : List Name)
    → i < length fields → ((y : Name) → get_or fields i None ≡ Some y → ⊥)
    → Adds old mid (λ x. Contains (take i fields) (Some x))
    → Adds old mid (λ x. Contains (take (i + 1) fields) (Some x))
held_same fields i old mid below none a =
    adds_same old mid (λ x. Contains (take i fields) (Some x)) (λ x. Contains (take (i + 1) fields) (Some x)) a
    (λ x c. take_old fields i None (Some x) below c)
    (λ x c. elim (take_cases fields i None (Some x) below c) [ inl o ↦ o | inr e ↦ absurd (none x e) ])

-- the edges of a wrapper
pub target_adds : (g : GraphState) (c : CompNo) (t : ℕ) (old new : List Name) → IsTrue (has_wrapper g c t)
    → Adds old new (λ x. Cell t ≡ x) → Adds old new (HasEdge g (Wrap c t))
target_adds g c t old new made a =
    adds_same old new (λ x. Cell t ≡ x) (HasEdge g (Wrap c t)) a (λ x e. (e, made)) (λ x h. h.0)

-- what entries keep
pub has_delegate_more : (old new : List Name) (k : Name) → Extends old new → HasDelegateIn old k → HasDelegateIn new k
has_delegate_more old new (Cell n) e h = h
has_delegate_more old new (Wrap c t) e h = extends_has old new (Cell t) e h

keeps_more : (g : GraphState) (P Q R : Name → Name → Type 0) (old mid new : List Name) → Keeps g P old mid
    → Keeps g Q mid new → ((m k : Name) → R m k → P m k ⊎ Q m k) → Keeps g R old new
keeps_more g P Q R old mid new a b split = record {
  extends = extends_more old mid new a.extends b.extends;
  values = λ m k v r at cm ck. elim (split m k r) [
    | inl p ↦ extends_has mid new v b.extends (a.values m k v p at cm ck)
    | inr q ↦ b.values m k v q at (extends_has old mid m a.extends cm) (extends_has old mid k a.extends ck)
  ];
  keys = λ m k v r at cm d. elim (split m k r) [
    | inl p ↦ extends_has mid new k b.extends (a.keys m k v p at cm d)
    | inr q ↦ b.keys m k v q at (extends_has old mid m a.extends cm) (has_delegate_more old mid k a.extends d)
  ];
  sound = λ starts r. b.sound starts (a.sound starts r);
}

pub keeps_less : (g : GraphState) (P R : Name → Name → Type 0) (old new : List Name) → Keeps g P old new
    → ((m k v : Name) → R m k → value_of g m k ≡ Some v → P m k) → Keeps g R old new
keeps_less g P R old new a h = record {
  extends = a.extends;
  values = λ m k v r at cm ck. a.values m k v (h m k v r at) at cm ck;
  keys = λ m k v r at cm d. a.keys m k v (h m k v r at) at cm d;
  sound = a.sound;
}

-- one entry
pub keeps_value : (g : GraphState) (map key value : Name) (old new : List Name) → value_of g map key ≡ Some value
    → Contains old map → Contains old key → Adds old new (λ x. value ≡ x) → Keeps g (IsAt map key) old new
keeps_value g map key value old new at cm ck a = record {
  extends = a.extends;
  values = λ m k v is e dm dk.
      let same : value ≡ v = cc (at, e, ap (λ z. value_of g z key) is.0, ap (λ z. value_of g m z) is.1) in a.all v same;
  keys = λ m k v is e dm d. extends_has old new k a.extends (subst (λ z. Contains old z) is.1 ck);
  sound = λ starts r x c. elim (a.only x c) [
    | inl o ↦ r x o
    | inr e ↦ subst (λ z. Closure g (Contains starts) z) e (weak at (r map cm) (r key ck))
  ];
}

-- the entries of a list of pairs, one more
pub pairs_more : (g : GraphState) (pairs : List (Name × Name)) (i : ℕ) (d : Name × Name) (old mid new : List Name)
    → i < length pairs → Keeps g (λ m k. Contains (take i pairs) (m, k)) old mid
    → Keeps g (IsAt (get_or pairs i d).0 (get_or pairs i d).1) mid new
    → Keeps g (λ m k. Contains (take (i + 1) pairs) (m, k)) old new
pairs_more g pairs i d old mid new below a b =
    keeps_more g (λ m k. Contains (take i pairs) (m, k)) (IsAt (get_or pairs i d).0 (get_or pairs i d).1)
    (λ m k. Contains (take (i + 1) pairs) (m, k)) old mid new a b
    (λ m k c. elim (take_cases pairs i d (m, k) below c)
    [ inl o ↦ inl o | inr e ↦ inr (ap (λ z. z.0) e, ap (λ z. z.1) e) ])

-- the walk, a name further
next_cases : (xs : List Name) (n : ℕ) (x y : Name) → slice_get xs n ≡ Some x → Contains (take (n + 1) xs) y
    → Contains (take n xs) y ⊎ (x ≡ y)
next_cases xs n x y at c =
    elim (take_cases xs n x y (slice_get_within xs n x at) c)
    [ inl o ↦ inl o | inr e ↦ inr (sym (get_or_from_slice_get xs n x x at) ∙ e) ]

in_take : (xs : List Name) (n : ℕ) (x : Name) → Contains (take n xs) x → Contains xs x
in_take xs n x c =
    subst (λ ys. Contains ys x) (take-append-drop n xs) (Contains-append_left (take n xs) (drop n xs) x c)

delegate_cases : (xs : List Name) (n : ℕ) (x k : Name) → slice_get xs n ≡ Some x → HasDelegateIn (take (n + 1) xs) k
    → HasDelegateIn (take n xs) k ⊎ (target_of k ≡ target_of x)
delegate_cases xs n x (Cell m) at d = absurd d
delegate_cases xs n x (Wrap c t) at d =
    elim (next_cases xs n x (Cell t) at d) [ inl o ↦ inl o | inr e ↦ inr (sym (ap target_of e)) ]

delegate_in : (xs : List Name) (n : ℕ) (k : Name) → HasDelegateIn (take n xs) k → HasDelegateIn xs k
delegate_in xs n (Cell m) d = d
delegate_in xs n (Wrap c t) d = in_take xs n (Cell t) d

pub follows_more : (g : GraphState) (starts names new : List Name) (n : ℕ) (x : Name)
    → slice_get names n ≡ Some x → Visits g x names new → Follows g starts (record { names = names; next = n })
    → Follows g starts (record { names = new; next = n + 1 })
follows_more g starts names new n x at v f =
    let below : n < length names = slice_get_within names n x at in
    let here : Contains names x = contains_at names n x at in
    let ext = v.entries.extends in
    let visited : take (n + 1) new ≡ take (n + 1) names = extends_take names new (n + 1) ext (omega arith) in
    let was : (y : Name) → Contains (take (n + 1) new) y → Contains (take n names) y ⊎ (x ≡ y) =
    λ y c. next_cases names n x y at (subst (λ ys. Contains ys y) visited c) in
    let in_old : (y : Name) → Contains (take (n + 1) new) y → Contains names y =
    λ y c. in_take names (n + 1) y (subst (λ ys. Contains ys y) visited c) in
    record {
      within = omega (arith, extends_length names new ext);
      first = λ y c. extends_has names new y ext (f.first y c);
      sound = v.entries.sound starts f.sound;
      edges = λ y z c e. elim (was y c) [
        | inl o ↦ extends_has names new z ext (f.edges y z o e)
        | inr is ↦ v.edges z (subst (λ w. HasEdge g w z) (sym is) e)
      ];
      values = λ m k u e cm ck. elim (was m cm) [
        | inr is ↦ v.entries.values m k u (inl (sym (ap target_of is))) e (in_old m cm) (in_old k ck)
        | inl om ↦ elim (was k ck) [
          | inr is ↦ v.entries.values m k u (inr (sym (ap target_of is))) e (in_old m cm) (in_old k ck)
          | inl ok ↦ extends_has names new u ext (f.values m k u e om ok)
        ]
      ];
      keys = λ m k u e cm d.
          let dn : HasDelegateIn (take (n + 1) names) k = subst (λ ys. HasDelegateIn ys k) visited d in
          let dd : HasDelegateIn names k = delegate_in names (n + 1) k dn in
          elim (was m cm) [
            | inr is ↦ v.entries.keys m k u (inl (sym (ap target_of is))) e (in_old m cm) dd
            | inl om ↦ elim (delegate_cases names n x k at dn) [
              | inr is ↦ v.entries.keys m k u (inr is) e (in_old m cm) dd
              | inl od ↦ extends_has names new k ext (f.keys m k u e om od)
            ]
          ];
    }

reached_found : (g : GraphState) (starts : List Name) (w : WalkState) → Follows g starts w
    → take w.next w.names ≡ w.names → {x : Name} → Closure g (Contains starts) x → Contains w.names x
reached_found g starts w f all (from {x} s) = f.first x s
reached_found g starts w f all (along {x} {y} h e) =
    f.edges x y (subst (λ xs. Contains xs x) (sym all) (reached_found g starts w f all h)) e
reached_found g starts w f all (weak {m} {k} {v} at p q) =
    f.values m k v at (subst (λ xs. Contains xs m) (sym all) (reached_found g starts w f all p))
    (subst (λ xs. Contains xs k) (sym all) (reached_found g starts w f all q))
reached_found g starts w f all (delegate {m} {v} {c} {t} at p q) =
    f.keys m (Wrap c t) v at (subst (λ xs. Contains xs m) (sym all) (reached_found g starts w f all p))
    (subst (λ xs. Contains xs (Cell t)) (sym all) (reached_found g starts w f all q))

-- nothing is left to visit
pub walk_done : (g : GraphState) (starts : List Name) (w : WalkState) → Follows g starts w
    → slice_get w.names w.next ≡ None → IsDone g starts w
walk_done g starts w f none =
    let all : take w.next w.names ≡ w.names = take_all w.next w.names (past_end w.names w.next none) in
    record { follows = f; all = λ x. (f.sound x, λ h. reached_found g starts w f all h) }
  where
    past_end : (xs : List Name) (n : ℕ) → slice_get xs n ≡ None → length xs ≤ n
    past_end [] n e = omega arith
    past_end (y ∷ ys) zero e = absurd (cc e)
    past_end (y ∷ ys) (suc n) e = let h = past_end ys n e in omega (arith, h)

pub none_of : {X : Type 0} (o : Option X) → ((x : X) → o ≡ Some x → ⊥) → o ≡ None
none_of None h = refl
none_of (Some x) h = absurd (h x refl)

-- the end of the walk: there was no next name
pub walk_end : (g : GraphState) (starts : List Name) (w u : WalkState) → slice_get w.names w.next ≡ None
    → u.names ≡ w.names → u.next ≡ w.next → Follows g starts w → IsDone g starts u
walk_end g starts w u none names next f =
    let same : w ≡ u = λ i. record { names = sym names i; next = sym next i } in
    subst (λ s. IsDone g starts s) same (walk_done g starts w f none)

-- the walk before it has visited anything
pub follows_none : (g : GraphState) (starts names : List Name) → ((x : Name) → Contains names x ↔ Contains starts x)
    → Follows g starts (record { names = names; next = 0 })
follows_none g starts names same = record {
  within = omega arith;
  first = λ x c. (same x).1 c;
  sound = λ x c. from ((same x).0 c);
  edges = λ x y c e. absurd (nothing_in_none x c);
  values = λ m k v e cm ck. absurd (nothing_in_none m cm);
  keys = λ m k v e cm d. absurd (nothing_in_none m cm);
}

pub walk_starts : (g : GraphState) (starts : List Name) (w : WalkState) → w.next ≡ 0
    → ((x : Name) → Contains w.names x ↔ Contains starts x) → Follows g starts w
walk_starts g starts w none same =
    subst (λ n. Follows g starts (record { names = w.names; next = n })) (sym none)
    (follows_none g starts w.names same)

-- the starts, one more
pub starts_more : (starts : List Name) (i : ℕ) (d : Name) (mid new : List Name) → i < length starts
    → Adds [] mid (λ y. Contains (take i starts) y) → Adds mid new (λ y. get_or starts i d ≡ y)
    → Adds [] new (λ y. Contains (take (i + 1) starts) y)
starts_more starts i d mid new below a b =
    adds_more [] mid new (λ y. Contains (take i starts) y) (λ y. get_or starts i d ≡ y)
    (λ y. Contains (take (i + 1) starts) y) a b
    (λ y c. take_old starts i d y below c) (λ y e. take_new starts i d y below e)
    (λ y c. take_cases starts i d y below c)

pub starts_all : (starts names : List Name) (i : ℕ) → length starts ≤ i → Adds [] names (Contains (take i starts))
    → (x : Name) → Contains names x ↔ Contains starts x
starts_all starts names i le a x = (
  (λ c. elim (a.only x c) [ inl none ↦ absurd (nothing_in_none x none) | inr h ↦ of_take_all starts i x le h ]),
  λ c. a.all x (take_all_of starts i x le c),
)
