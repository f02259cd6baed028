-- What turns black of the zones that are left out.
use Rattle.std.proofs.Common.{◌≡◌, ◌⊎◌, ◌↔◌, ◌∙◌, inl, inr, ℕ, ◌+◌, ◌<◌, ◌≤◌, true, false, List, [], ◌∷◌, ◌++◌}
use Rattle.std.proofs.Common.{Contains, length, get_or, take, drop, Option, Some, None, refl, slice_get, subst, sym, ap}
use Rattle.std.proofs.Common.{append_assoc, arith}
use Rattle.std.specs.BTreeSet as sorted
use Rattle.std.proofs.lemmas.List.{append-nil, take-append-drop, take-append-le, take_all}
use Rattle.std.proofs.lemmas.List.Elements.{Contains-append_cases, Contains-append_left, Contains-append_right}
use Rattle.std.proofs.lemmas.Option.{get_or_from_slice_get, slice_get_cases, slice_get_within}
use Rattle.gz_names.specs.Zones.{zones_in}
use Rattle.gz_names.specs.declared.names.Name.{Name}
use Rattle.gz_names.specs.declared.names.Name.TheVariants.{Cell, Wrap}
use Rattle.gz_names.specs.declared.numbers.CompNo.{CompNo}
use Rattle.gz_names.specs.declared.zone_sets.ZoneSet.{ZoneSet}
use Rattle.colour_defs.specs.Closure.{ClosureWithin, HasEdge, HoldsInField}
use Rattle.colour_defs.specs.Closure.{within_edge, within_key, within_start, within_value}
use Rattle.colour_defs.specs.Graph.{GraphState, IsInZones, has_wrapper, object_of, value_of}
use Rattle.colour_defs.specs.Step.{target_of}
use Rattle.colour_defs.specs.declared.graph.Object.{Object}
use Rattle.colour_defs.proofs.Lists.{nothing_in_none, contains_head, contains_cases}
use Rattle.plain_graph.specs.Indexed.{order_of}
use Rattle.colour_defs.proofs.Carried.{within_in}
use Rattle.plain_graph.specs.Reach.{IsAt, Waits}
use Rattle.plain_graph.proofs.Walks.{take_cases, take_new, take_old}
use Rattle.judge.specs.Former.{held_in}
use Rattle.judge.specs.LeftOut.{Adds, AreOut, AreReached, Extends, GrowsLeft, HasDelegateLeft, HasLeft, IsClosedLeft}
use Rattle.judge.specs.LeftOut.{IsOut, Keeps, Visits}
use Rattle.judge.specs.declared.preparation.Preparation.{Preparation}
use Rattle.judge.proofs.Cells.{apart}
use Rattle.judge.proofs.Watching.{same_or_not}

-- nothing was added
pub extends_same : (l : Preparation) → Extends l l
extends_same l = record {
  zones_are = refl;
  more = [];
  found_are = sym (append-nil l.found.items);
  keeps = λ x h. h;
  found = λ x h. inl h;
  there = λ x c. absurd (nothing_in_none x c);
}

pub extends_both : (old mid new : Preparation) → Extends old mid → Extends mid new → Extends old new
extends_both old mid new a b = record {
  zones_are = b.zones_are ∙ a.zones_are;
  more = a.more ++ b.more;
  found_are = b.found_are ∙ ap (λ (xs : List Name). xs ++ b.more) a.found_are
      ∙ append_assoc old.found.items a.more b.more;
  keeps = λ x h. b.keeps x (a.keeps x h);
  found = λ x h. elim (b.found x h) [
    | inl was ↦ elim (a.found x was) [
      | inl o ↦ inl o
      | inr c ↦ inr (Contains-append_left a.more b.more x c)
    ]
    | inr c ↦ inr (Contains-append_right a.more b.more x c)
  ];
  there = λ x c. elim (Contains-append_cases a.more b.more x c) [
    | inl o ↦ b.keeps x (a.there x o)
    | inr n ↦ b.there x n
  ];
}

out_as : (g : GraphState) (old mid : Preparation) (x : Name) → Extends old mid → IsOut g old x → IsOut g mid x
out_as g old mid x e out h = out (subst (λ (z : ZoneSet). IsInZones g (zones_in z) x) e.zones_are h)

out_was : (g : GraphState) (old mid : Preparation) (x : Name) → Extends old mid → IsOut g mid x → IsOut g old x
out_was g old mid x e out h = out (subst (λ (z : ZoneSet). IsInZones g (zones_in z) x) (sym e.zones_are) h)

-- a name is of the zones, or was found
pub adds_inside : (g : GraphState) (l : Preparation) (name : Name) → IsInZones g (zones_in l.zones) name
    → Adds g l l (λ x. name ≡ x)
adds_inside g l name of = record {
  extends = extends_same l;
  only = λ x h. inl h;
  all = λ x same out. absurd (out (subst (λ (y : Name). IsInZones g (zones_in l.zones) y) same of));
}

pub adds_found : (g : GraphState) (l : Preparation) (name : Name) → HasLeft l name → Adds g l l (λ x. name ≡ x)
adds_found g l name has = record {
  extends = extends_same l;
  only = λ x h. inl h;
  all = λ x same out. subst (λ (y : Name). HasLeft l y) same has;
}

-- a name is put into the set and the list
pub record Puts (old new : Preparation) (name : Name) : Type 0 where
  pub zones_are : new.zones ≡ old.zones
  pub found_are : new.found.items ≡ old.found.items ++ name ∷ []
  pub updates : sorted.Updates order_of old.black new.black name true

pub adds_new : (g : GraphState) (old new : Preparation) (name : Name) → IsOut g old name → Puts old new name
    → Adds g old new (λ x. name ≡ x)
adds_new g old new name out puts = record {
  extends = record {
    zones_are = puts.zones_are;
    more = name ∷ [];
    found_are = puts.found_are;
    keeps = λ x h. elim (same_or_not name x) [
      | inl same ↦ here x same
      | inr other ↦ puts.updates.2 x (apart name x other) ∙ h
    ];
    found = λ x h. elim (same_or_not name x) [
      | inl same ↦ inr (subst (λ (y : Name). Contains (name ∷ []) y) same (contains_head name []))
      | inr other ↦ inl (sym (puts.updates.2 x (apart name x other)) ∙ h)
    ];
    there = λ x c. elim (contains_cases name [] x c) [
      | inl same ↦ here x same
      | inr none ↦ absurd (nothing_in_none x none)
    ];
  };
  only = λ x h. elim (same_or_not name x) [
    | inl same ↦ inr (same, subst (λ (y : Name). IsOut g old y) same out)
    | inr other ↦ inl (sym (puts.updates.2 x (apart name x other)) ∙ h)
  ];
  all = λ x same o. here x same;
}
  where
    here : (x : Name) → name ≡ x → HasLeft new x
    here x same = subst (λ (y : Name). HasLeft new y) same puts.updates.1

-- one after another
pub adds_both : (g : GraphState) (old mid new : Preparation) (P Q R : Name → Type 0) → Adds g old mid P
    → Adds g mid new Q → ((x : Name) → R x ↔ (P x ⊎ Q x)) → Adds g old new R
adds_both g old mid new P Q R a b are = record {
  extends = extends_both old mid new a.extends b.extends;
  only = λ x h. elim (b.only x h) [
    | inl was ↦ elim (a.only x was) [ inl o ↦ inl o | inr p ↦ inr ((are x).1 (inl p.0), p.1) ]
    | inr q ↦ inr ((are x).1 (inr q.0), out_was g old mid x a.extends q.1)
  ];
  all = λ x r out. elim ((are x).0 r) [
    | inl p ↦ b.extends.keeps x (a.all x p out)
    | inr q ↦ b.all x q (out_as g old mid x a.extends out)
  ];
}

pub adds_as : (g : GraphState) (old new : Preparation) (P R : Name → Type 0) → Adds g old new P
    → ((x : Name) → R x ↔ P x) → Adds g old new R
adds_as g old new P R a are = record {
  extends = a.extends;
  only = λ x h. elim (a.only x h) [ inl o ↦ inl o | inr p ↦ inr ((are x).1 p.0, p.1) ];
  all = λ x r out. a.all x ((are x).0 r) out;
}

pub adds_nothing : (g : GraphState) (l : Preparation) (P : Name → Type 0) → ((x : Name) → P x → ⊥) → Adds g l l P
adds_nothing g l P none = record {
  extends = extends_same l;
  only = λ x h. inl h;
  all = λ x p out. absurd (none x p);
}

-- what fields hold
pub record IsHeldAt (fields : List (Option Name)) (i : ℕ) (y : Name) : Type 0 where
  pub below : i < length fields
  pub at : get_or fields i None ≡ Some y

pub held_more : (g : GraphState) (old mid new : Preparation) (fields : List (Option Name)) (i : ℕ) (y : Name)
    → IsHeldAt fields i y → Adds g old mid (λ x. Contains (take i fields) (Some x)) → Adds g mid new (λ x. y ≡ x)
    → Adds g old new (λ x. Contains (take (i + 1) fields) (Some x))
held_more g old mid new fields i y held a b =
    adds_both g old mid new (λ x. Contains (take i fields) (Some x)) (λ x. y ≡ x)
    (λ x. Contains (take (i + 1) fields) (Some x)) a b
    (λ x. (
      λ c. elim (take_cases fields i None (Some x) held.below c) [
        | inl o ↦ inl o
        | inr same ↦ inr (let both : Some y ≡ Some x = sym held.at ∙ same in cc both)
      ],
      λ h. elim h [
        | inl o ↦ take_old fields i None (Some x) held.below o
        | inr same ↦ take_new fields i None (Some x) held.below (held.at ∙ ap Some same)
      ],
    ))

pub held_skip : (g : GraphState) (old mid : Preparation) (fields : List (Option Name)) (i : ℕ) → i < length fields
    → ((y : Name) → get_or fields i None ≡ Some y → ⊥) → Adds g old mid (λ x. Contains (take i fields) (Some x))
    → Adds g old mid (λ x. Contains (take (i + 1) fields) (Some x))
held_skip g old mid fields i below none a =
    adds_as g old mid (λ x. Contains (take i fields) (Some x)) (λ x. Contains (take (i + 1) fields) (Some x)) a
    (λ x. (
      λ c. elim (take_cases fields i None (Some x) below c) [ inl o ↦ o | inr same ↦ absurd (none x same) ],
      λ o. take_old fields i None (Some x) below o,
    ))

pub held_all : (g : GraphState) (old new : Preparation) (fields : List (Option Name)) (i : ℕ) → length fields ≤ i
    → Adds g old new (λ x. Contains (take i fields) (Some x)) → Adds g old new (λ x. Contains fields (Some x))
held_all g old new fields i le a =
    subst (λ (fs : List (Option Name)). Adds g old new (λ x. Contains fs (Some x))) (take_all i fields le) a

-- what an object's fields hold is what it leads to
pub holds_is : (o : Option Object) (y : Name) → HoldsInField o y ↔ Contains (held_in o) (Some y)
holds_is None y = (λ h. absurd h, λ c. absurd (nothing_in_none (Some y) c))
holds_is (Some o) y = (λ h. h, λ c. c)

-- what a name leads to, as an object, and as a wrapper
pub object_leads : (g : GraphState) (n : ℕ) (x : Name) (old new : Preparation) (fields : List (Option Name))
    → x ≡ Cell n → fields ≡ held_in (object_of g n) → Adds g old new (λ y. Contains fields (Some y))
    → Adds g old new (HasEdge g x)
object_leads g n x old new fields is held a =
    subst (λ (z : Name). Adds g old new (HasEdge g z)) (sym is)
    (adds_as g old new (λ y. Contains fields (Some y)) (HasEdge g (Cell n)) a (λ y. (
      λ e. subst (λ (fs : List (Option Name)). Contains fs (Some y)) (sym held) ((holds_is (object_of g n) y).0 e),
      λ c. (holds_is (object_of g n) y).1 (subst (λ (fs : List (Option Name)). Contains fs (Some y)) held c),
    )))

pub wrapper_leads : (g : GraphState) (c : CompNo) (t : ℕ) (x : Name) (old new : Preparation) → x ≡ Wrap c t
    → has_wrapper g c t ≡ true → Adds g old new (λ y. Cell t ≡ y) → Adds g old new (HasEdge g x)
wrapper_leads g c t x old new is made a =
    subst (λ (z : Name). Adds g old new (HasEdge g z)) (sym is)
    (adds_as g old new (λ y. Cell t ≡ y) (HasEdge g (Wrap c t)) a (λ y. (λ e. e.0, λ same. (same, made))))

pub wrapper_none : (g : GraphState) (c : CompNo) (t : ℕ) (x : Name) (l : Preparation) → x ≡ Wrap c t
    → has_wrapper g c t ≡ false → Adds g l l (HasEdge g x)
wrapper_none g c t x l is none =
    subst (λ (z : Name). Adds g l l (HasEdge g z)) (sym is)
    (adds_nothing g l (HasEdge g (Wrap c t)) (λ y e. let made = e.1 in cc (made, none)))

-- what is reached from names that are reached
pub within_from : (g : GraphState) (I S T : Name → Type 0) → ((x : Name) → S x → I x → ClosureWithin g I T x)
    → {x : Name} → ClosureWithin g I S x → ClosureWithin g I T x
within_from g I S T f (within_start s i) = f _ s i
within_from g I S T f (within_edge r e i) = within_edge (within_from g I S T f r) e i
within_from g I S T f (within_value is m k i) = within_value is (within_from g I S T f m) (within_from g I S T f k) i
within_from g I S T f (within_key is m t i) = within_key is (within_from g I S T f m) (within_from g I S T f t) i

-- what is black is reached from what was black, by what was added
reached_start : (g : GraphState) (l : Preparation) → AreOut g l → AreReached g l l
reached_start g l out = λ x h. within_start h (out x h)

reached_more : (g : GraphState) (old mid : Preparation) (P : Name → Type 0) → Adds g old mid P
    → ((x : Name) → P x → IsOut g old x → ClosureWithin g (IsOut g old) (HasLeft old) x) → AreOut g old
    → AreReached g old mid
reached_more g old mid P a reached out =
    λ x h. elim (a.only x h) [ inl o ↦ within_start o (out x o) | inr p ↦ reached x p.0 p.1 ]

-- the names that are left out are the same
within_as : (g : GraphState) (old mid : Preparation) (S : Name → Type 0) (x : Name) → mid.zones ≡ old.zones
    → ClosureWithin g (IsOut g mid) S x → ClosureWithin g (IsOut g old) S x
within_as g old mid S x zones r =
    subst (λ (z : ZoneSet). ClosureWithin g (λ u. IsInZones g (zones_in z) u → ⊥) S x) zones r

-- one after another
reached_both : (g : GraphState) (old mid new : Preparation) → Extends old mid → AreReached g old mid
    → (AreOut g mid → AreReached g mid new) → AreReached g old new
reached_both g old mid new e first then = λ x h.
    within_from g (IsOut g old) (HasLeft mid) (HasLeft old) (λ y m out. first y m)
    (within_as g old mid (HasLeft mid) x e.zones_are (then out_mid x h))
  where
    out_mid : AreOut g mid
    out_mid y m = out_as g old mid y e (within_in (first y m))

-- an entry keeps nothing: it is not there, or its map, or its key and the key's target, are not black
pub keeps_none : (g : GraphState) (l : Preparation) (map key : Name)
    → ((v : Name) → value_of g map key ≡ Some v → HasLeft l map → (HasLeft l key → ⊥) × (HasDelegateLeft l key → ⊥))
    → Keeps g (IsAt map key) l l
keeps_none g l map key none = record {
  extends = extends_same l;
  values = λ m k v at e hm hk out.
      let n = none v (entry m k v at e) (subst (λ (y : Name). HasLeft l y) (sym at.0) hm) in
      absurd (n.0 (subst (λ (y : Name). HasLeft l y) (sym at.1) hk));
  keys = λ m v c t at e hm ht out.
      let n = none v (entry m (Wrap c t) v at e) (subst (λ (y : Name). HasLeft l y) (sym at.0) hm) in
      absurd (n.1 (subst (λ (y : Name). HasDelegateLeft l y) (sym at.1) ht));
  sound = reached_start g l;
}
  where
    entry : (m k v : Name) → IsAt map key m k → value_of g m k ≡ Some v → value_of g map key ≡ Some v
    entry m k v at e = ap (λ (y : Name). value_of g y key) at.0 ∙ ap (λ (y : Name). value_of g m y) at.1 ∙ e

-- it keeps its value
pub keeps_value : (g : GraphState) (old new : Preparation) (map key value : Name) → value_of g map key ≡ Some value
    → HasLeft old map → HasLeft old key → Adds g old new (λ x. value ≡ x) → Keeps g (IsAt map key) old new
keeps_value g old new map key value is hm hk a = record {
  extends = a.extends;
  values = λ m k v at e _ _ out.
      let same : Some value ≡ Some v = sym is ∙ ap (λ (y : Name). value_of g y key) at.0
      ∙ ap (λ (y : Name). value_of g m y) at.1 ∙ e in a.all v (cc same) out;
  keys = λ m v c t at e _ _ out. a.extends.keeps (Wrap c t) (subst (λ (y : Name). HasLeft old y) at.1 hk);
  sound = λ inside. reached_more g old new (λ x. value ≡ x) a (λ x same out. within_value (is ∙ ap Some same)
      (within_start hm (inside map hm)) (within_start hk (inside key hk)) out) inside;
}

-- it keeps its key
pub record IsDelegated (l : Preparation) (map key : Name) : Type 0 where
  pub map_black : HasLeft l map
  pub key_not : HasLeft l key → ⊥
  pub target_black : HasDelegateLeft l key

pub keeps_key : (g : GraphState) (old new : Preparation) (map key value : Name) → value_of g map key ≡ Some value
    → IsDelegated old map key → Adds g old new (λ x. key ≡ x) → Keeps g (IsAt map key) old new
keeps_key g old new map key value is d a = record {
  extends = a.extends;
  values = λ m k v at e _ hk out. absurd (d.key_not (subst (λ (y : Name). HasLeft old y) (sym at.1) hk));
  keys = λ m v c t at e _ _ out. a.all (Wrap c t) at.1 out;
  sound = λ inside. reached_more g old new (λ x. key ≡ x) a
      (λ x same out. reached inside x same out key refl) inside;
}
  where
    reached : AreOut g old → (x : Name) → key ≡ x → IsOut g old x → (k : Name) → k ≡ key
        → ClosureWithin g (IsOut g old) (HasLeft old) x
    reached inside x same out (Cell n) at =
        absurd (subst (λ (y : Name). HasDelegateLeft old y) (sym at) d.target_black)
    reached inside x same out (Wrap c t) at =
        let target = subst (λ (y : Name). HasDelegateLeft old y) (sym at) d.target_black in
        subst (λ (y : Name). ClosureWithin g (IsOut g old) (HasLeft old) y) (at ∙ same)
        (within_key (ap (λ (y : Name). value_of g map y) at ∙ is) (within_start d.map_black (inside map d.map_black))
        (within_start target (inside (Cell t) target))
        (subst (λ (y : Name). IsOut g old y) (sym (at ∙ same)) out))

pub kept_none : (g : GraphState) (l : Preparation) (P : Name → Name → Type 0) → ((m k : Name) → P m k → ⊥)
    → Keeps g P l l
kept_none g l P none = record {
  extends = extends_same l;
  values = λ m k v at e hm hk out. absurd (none m k at);
  keys = λ m v c t at e hm ht out. absurd (none m (Wrap c t) at);
  sound = reached_start g l;
}

-- one entry more
pub kept_more : (g : GraphState) (old mid new : Preparation) (pairs : List (Name × Name)) (i : ℕ) (d : Name × Name)
    → i < length pairs → Keeps g (λ m k. Contains (take i pairs) (m, k)) old mid
    → Keeps g (IsAt (get_or pairs i d).0 (get_or pairs i d).1) mid new
    → Keeps g (λ m k. Contains (take (i + 1) pairs) (m, k)) old new
kept_more g old mid new pairs i d below a b = record {
  extends = extends_both old mid new a.extends b.extends;
  values = λ m k v c e hm hk out. elim (take_cases pairs i d (m, k) below c) [
    | inl o ↦ b.extends.keeps v (a.values m k v o e hm hk out)
    | inr same ↦ b.values m k v (ap (λ (p : Name × Name). p.0) same, ap (λ (p : Name × Name). p.1) same) e
        (a.extends.keeps m hm) (a.extends.keeps k hk) (out_as g old mid v a.extends out)
  ];
  keys = λ m v c t at e hm ht out. elim (take_cases pairs i d (m, Wrap c t) below at) [
    | inl o ↦ b.extends.keeps (Wrap c t) (a.keys m v c t o e hm ht out)
    | inr same ↦ b.keys m v c t (ap (λ (p : Name × Name). p.0) same, ap (λ (p : Name × Name). p.1) same) e
        (a.extends.keeps m hm) (a.extends.keeps (Cell t) ht) (out_as g old mid (Wrap c t) a.extends out)
  ];
  sound = λ inside. reached_both g old mid new a.extends (a.sound inside) b.sound;
}

pub kept_all : (g : GraphState) (old new : Preparation) (pairs : List (Name × Name)) (i : ℕ) → length pairs ≤ i
    → Keeps g (λ m k. Contains (take i pairs) (m, k)) old new → Keeps g (λ m k. Contains pairs (m, k)) old new
kept_all g old new pairs i le k =
    subst (λ (ps : List (Name × Name)). Keeps g (λ m k. Contains ps (m, k)) old new) (take_all i pairs le) k

-- a name is visited
abbrev pub AllWait : GraphState → Name → List (Name × Name) → Type 0
AllWait g x pairs = (m k v : Name) → value_of g m k ≡ Some v → Waits x m k → Contains pairs (m, k)

pub visits_of : (g : GraphState) (x : Name) (old mid new : Preparation) (pairs : List (Name × Name)) → HasLeft old x
    → Adds g old mid (HasEdge g x) → Keeps g (λ m k. Contains pairs (m, k)) mid new → AllWait g x pairs
    → Visits g x old new
visits_of g x old mid new pairs has a b waits = record {
  entries = record {
    extends = extends_both old mid new a.extends b.extends;
    values = λ m k v w e hm hk out. b.values m k v (waits m k v e w) e (a.extends.keeps m hm) (a.extends.keeps k hk)
        (out_as g old mid v a.extends out);
    keys = λ m v c t w e hm ht out. b.keys m v c t (waits m (Wrap c t) v e w) e (a.extends.keeps m hm)
        (a.extends.keeps (Cell t) ht) (out_as g old mid (Wrap c t) a.extends out);
    sound = λ inside. reached_both g old mid new a.extends (reached_more g old mid (HasEdge g x) a
        (λ y edge out. within_edge (within_start has (inside x has)) edge out) inside) b.sound;
  };
  edges = λ y edge out. b.extends.keeps y (a.all y edge out);
}

-- what was black, or was visited
abbrev pub IsSeen : Preparation → Preparation → ℕ → Name → Type 0
IsSeen old now i x = HasLeft old x ⊎ Contains (take i now.found.items) x

-- beside what was seen all is found
pub record IsVisited (g : GraphState) (old now : Preparation) (i : ℕ) : Type 0 where
  pub edges : (x y : Name) → IsSeen old now i x → HasEdge g x y → IsOut g old y → HasLeft now y
  pub values : (m k v : Name) → value_of g m k ≡ Some v → IsSeen old now i m → IsSeen old now i k → IsOut g old v
      → HasLeft now v
  pub keys : (m v : Name) (c : CompNo) (t : ℕ) → value_of g m (Wrap c t) ≡ Some v → IsSeen old now i m
      → IsSeen old now i (Cell t) → IsOut g old (Wrap c t) → HasLeft now (Wrap c t)

-- so far these names were visited
pub record GoesOnLeft (g : GraphState) (x : Name) (old now : Preparation) (i : ℕ) : Type 0 where
  pub zones_are : now.zones ≡ old.zones
  pub keeps : (y : Name) → HasLeft old y → HasLeft now y
  pub found : (y : Name) → HasLeft now y → HasLeft old y ⊎ Contains now.found.items y
  pub there : (y : Name) → Contains now.found.items y → HasLeft now y
  pub first : IsOut g old x → HasLeft now x
  pub sound : IsClosedLeft g old.zones (Some old.black) → (y : Name) → HasLeft now y
      → ClosureWithin g (IsOut g old) (λ s. HasLeft old s ⊎ (x ≡ s)) y
  pub visited : IsClosedLeft g old.zones (Some old.black) → IsVisited g old now i

-- the walk begins, with nothing found
pub goes_first : (g : GraphState) (x : Name) (old start now : Preparation) → start.zones ≡ old.zones
    → start.black ≡ old.black → start.found.items ≡ [] → Adds g start now (λ y. x ≡ y) → GoesOnLeft g x old now 0
goes_first g x old start now zones names none a = record {
  zones_are = a.extends.zones_are ∙ zones;
  keeps = λ y h. a.extends.keeps y (to_start y h);
  found = λ y h. elim (a.extends.found y h) [
    | inl o ↦ inl (of_start y o)
    | inr c ↦ inr (subst (λ (ns : List Name). Contains ns y) (sym found) c)
  ];
  there = λ y c. a.extends.there y (subst (λ (ns : List Name). Contains ns y) found c);
  first = λ out. a.all x refl (out_start x out);
  sound = λ closed y h. elim (a.only y h) [
    | inl o ↦ within_start (inl (of_start y o)) (closed.inside y (of_start y o))
    | inr p ↦ within_start (inr p.0) (start_out y p.1)
  ];
  visited = λ closed. record {
    edges = λ u v s e out. now_of v (closed.edges u v (seen u s) e out);
    values = λ m k v e sm sk out. now_of v (closed.values m k v e (seen m sm) (seen k sk) out);
    keys = λ m v c t e sm st out. now_of (Wrap c t) (closed.keys m v c t e (seen m sm) (seen (Cell t) st) out);
  };
}
  where
    to_start : (y : Name) → HasLeft old y → HasLeft start y
    to_start y h = ap (λ s. sorted.contains order_of s y) names ∙ h

    of_start : (y : Name) → HasLeft start y → HasLeft old y
    of_start y h = ap (λ s. sorted.contains order_of s y) (sym names) ∙ h

    found : now.found.items ≡ a.extends.more
    found = a.extends.found_are ∙ ap (λ (ns : List Name). ns ++ a.extends.more) none

    out_start : (y : Name) → IsOut g old y → IsOut g start y
    out_start y out h = out (subst (λ (z : ZoneSet). IsInZones g (zones_in z) y) zones h)

    start_out : (y : Name) → IsOut g start y → IsOut g old y
    start_out y out h = out (subst (λ (z : ZoneSet). IsInZones g (zones_in z) y) (sym zones) h)

    now_of : (y : Name) → HasLeft old y → HasLeft now y
    now_of y h = a.extends.keeps y (to_start y h)

    seen : (y : Name) → IsSeen old now 0 y → HasLeft old y
    seen y (inl o) = o
    seen y (inr c) = absurd (nothing_in_none y c)

-- one name more is visited
pub goes_more : (g : GraphState) (x : Name) (old mid now : Preparation) (i : ℕ) (name : Name)
    → slice_get mid.found.items i ≡ Some name → GoesOnLeft g x old mid i → Visits g name mid now
    → GoesOnLeft g x old now (i + 1)
goes_more g x old mid now i name found so v = record {
  zones_are = v.entries.extends.zones_are ∙ so.zones_are;
  keeps = λ y h. e.keeps y (so.keeps y h);
  found = λ y h. elim (e.found y h) [
    | inl was ↦ elim (so.found y was) [
      | inl o ↦ inl o
      | inr c ↦ inr (in_now y (Contains-append_left mid.found.items e.more y c))
    ]
    | inr c ↦ inr (in_now y (Contains-append_right mid.found.items e.more y c))
  ];
  there = λ y c. elim (Contains-append_cases mid.found.items e.more y
      (subst (λ (ns : List Name). Contains ns y) e.found_are c)) [
        | inl o ↦ e.keeps y (so.there y o)
        | inr n ↦ e.there y n
      ];
  first = λ out. e.keeps x (so.first out);
  sound = λ closed y h. within_from g (IsOut g old) (HasLeft mid) (λ s. HasLeft old s ⊎ (x ≡ s))
      (λ u m out. so.sound closed u m)
      (within_as g old mid (HasLeft mid) y so.zones_are (v.entries.sound (inside closed) y h));
  visited = λ closed.
      let was = so.visited closed in record {
        edges = λ y z s edge out. elim (seen y s) [
          | inl o ↦ e.keeps z (was.edges y z o edge out)
          | inr same ↦ v.edges z (subst (λ (u : Name). HasEdge g u z) (sym same) edge) (mid_out z out)
        ];
        values = λ m k w is sm sk out. elim (seen m sm) [
          | inl om ↦ elim (seen k sk) [
            | inl ok ↦ e.keeps w (was.values m k w is om ok out)
            | inr same ↦ v.entries.values m k w (inr (ap target_of (sym same))) is (mid_has m sm) (mid_has k sk)
                (mid_out w out)
          ]
          | inr same ↦ v.entries.values m k w (inl (ap target_of (sym same))) is (mid_has m sm) (mid_has k sk)
              (mid_out w out)
        ];
        keys = λ m w c t is sm st out. elim (seen m sm) [
          | inl om ↦ elim (seen (Cell t) st) [
            | inl ot ↦ e.keeps (Wrap c t) (was.keys m w c t is om ot out)
            | inr same ↦ v.entries.keys m w c t (inr (ap target_of (sym same))) is (mid_has m sm)
                (mid_has (Cell t) st) (mid_out (Wrap c t) out)
          ]
          | inr same ↦ v.entries.keys m w c t (inl (ap target_of (sym same))) is (mid_has m sm) (mid_has (Cell t) st)
              (mid_out (Wrap c t) out)
        ];
      };
}
  where
    e : Extends mid now
    e = v.entries.extends

    below : i < length mid.found.items
    below = slice_get_within mid.found.items i name found

    at : get_or mid.found.items i name ≡ name
    at = get_or_from_slice_get mid.found.items i name name found

    in_now : (y : Name) → Contains (mid.found.items ++ e.more) y → Contains now.found.items y
    in_now y c = subst (λ (ns : List Name). Contains ns y) (sym e.found_are) c

    front : take (i + 1) now.found.items ≡ take (i + 1) mid.found.items
    front = ap (λ (ns : List Name). take (i + 1) ns) e.found_are
        ∙ take-append-le (i + 1) mid.found.items e.more (omega (arith, below))

    mid_out : (y : Name) → IsOut g old y → IsOut g mid y
    mid_out y out h = out (subst (λ (z : ZoneSet). IsInZones g (zones_in z) y) so.zones_are h)

    inside : IsClosedLeft g old.zones (Some old.black) → AreOut g mid
    inside closed y m = mid_out y (within_in (so.sound closed y m))

    of_take : (xs : List Name) (n : ℕ) (y : Name) → Contains (take n xs) y → Contains xs y
    of_take xs n y c = subst (λ (ns : List Name). Contains ns y) (take-append-drop n xs)
        (Contains-append_left (take n xs) (drop n xs) y c)

    seen : (y : Name) → IsSeen old now (i + 1) y → IsSeen old mid i y ⊎ (name ≡ y)
    seen y (inl o) = inl (inl o)
    seen y (inr c) =
        elim (take_cases mid.found.items i name y below (subst (λ (ns : List Name). Contains ns y) front c)) [
          | inl o ↦ inl (inr o)
          | inr same ↦ inr (sym at ∙ same)
        ]

    mid_has : (y : Name) → IsSeen old now (i + 1) y → HasLeft mid y
    mid_has y (inl o) = so.keeps y o
    mid_has y (inr c) =
        so.there y (of_take mid.found.items (i + 1) y (subst (λ (ns : List Name). Contains ns y) front c))

-- all names were visited
pub goes_last : (g : GraphState) (x : Name) (old now : Preparation) (i : ℕ) → slice_get now.found.items i ≡ None
    → GoesOnLeft g x old now i → GrowsLeft g old.zones (λ s. x ≡ s) (Some old.black) (Some now.black)
goes_last g x old now i none so = λ closed y. (so.sound closed y, λ r. reached closed r)
  where
    le : length now.found.items ≤ i
    le = elim (slice_get_cases now.found.items i).1 [
      | inl w ↦ absurd (let some = w.2 in cc (some, none))
      | inr past ↦ past.0
    ]

    seen : (y : Name) → HasLeft now y → IsSeen old now i y
    seen y h = elim (so.found y h) [
      | inl o ↦ inl o
      | inr c ↦ inr (subst (λ (ns : List Name). Contains ns y) (sym (take_all i now.found.items le)) c)
    ]

    reached : IsClosedLeft g old.zones (Some old.black) → {y : Name}
        → ClosureWithin g (IsOut g old) (λ s. HasLeft old s ⊎ (x ≡ s)) y → HasLeft now y
    reached closed (within_start (inl o) out) = so.keeps _ o
    reached closed (within_start (inr same) out) =
        subst (λ (u : Name). HasLeft now u) same (so.first (subst (λ (u : Name). IsOut g old u) (sym same) out))
    reached closed (within_edge r edge out) = (so.visited closed).edges _ _ (seen _ (reached closed r)) edge out
    reached closed (within_value is m k out) =
        (so.visited closed).values _ _ _ is (seen _ (reached closed m)) (seen _ (reached closed k)) out
    reached closed (within_key is m t out) =
        (so.visited closed).keys _ _ _ _ is (seen _ (reached closed m)) (seen _ (reached closed t)) out
