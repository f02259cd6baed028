-- What becomes of numbers as a compaction moves cells: nothing.
use Rattle.std.proofs.Common.{◌≡◌, ℕ, ◌+◌, zero, suc, ◌⊎◌, inl, inr, List, [], ◌∷◌, Bool, true, false, cond, refl}
use Rattle.std.proofs.Common.{sym, ap, subst, ◌∙◌, arith, append-nil, eqb, length, Option, Some, None, Contains}
use Rattle.std.proofs.Common.{is_some}
use Rattle.std.proofs.Common.{slice_get}
use Rattle.std.specs.FinMap as map
use Rattle.std.specs.List.{list_any}
use Rattle.std.specs.Ordering.{eq_by_cmp}
use Rattle.std.proofs.lemmas.List.Elements.{Contains-append_right}
use Rattle.gz_names.specs.Order.{name_cmp, names_total}
use Rattle.gz_names.specs.declared.names.Name.{Name}
use Rattle.gz_names.specs.declared.names.Name.TheVariants.{Cell}
use Rattle.colour_defs.specs.Compaction.{AreMoved, Compacts, Places, given_up_from}
use Rattle.colour_defs.specs.Ends.{arenas_from}
use Rattle.colour_defs.specs.Graph.{GraphState, zone_of}
use Rattle.colour_defs.specs.World.{World, IsPresent}
use Rattle.colour_defs.proofs.Lists.{contains_cases, contains_head, contains_tail, nothing_in_none}
use Rattle.colour_defs.proofs.Membership.{among_to}
use Rattle.colour_defs.proofs.Names.{eq_name-is, eq_name-refl}
use Rattle.colour_defs.proofs.ValidCompaction.{moved_kept, moved_was}
use Rattle.collection_laws.specs.Numbers.{IsAccounted, IsUnswept, LiesInArenas}
use Rattle.collection_laws.proofs.KeptArenas.{owned_after}

get_insert_apart : (m : Places) (x : Name) (p : ℕ × ℕ) (y : Name) (q : ℕ × ℕ) → map.get (map.insert m x p) y ≡ Some q
    → ((x ≡ y) × (p ≡ q)) ⊎ ((map.get m y ≡ Some q) × (x ≡ y → ⊥))
get_insert_apart m x p y q h = go (eq_by_cmp name_cmp y x) refl (sym (map.get-insert names_total m x p y) ∙ h)
  where
    go : (b : Bool) → eq_by_cmp name_cmp y x ≡ b → cond b (Some p) (map.get m y) ≡ Some q
        → ((x ≡ y) × (p ≡ q)) ⊎ ((map.get m y ≡ Some q) × (x ≡ y → ⊥))
    go true e is = inl (sym (eq_name-is y x e), cc is)
    go false e is = inr (is, λ same. cc (e, ap (λ z. eq_by_cmp name_cmp y z) same, eq_name-refl y))

-- a cell lies in an arena that is kept, or where it lay
moved_cases : (arenas : List ℕ) (xs : List Name) (old new : Places) → AreMoved arenas xs old new → (x : Name)
    (p : ℕ × ℕ) → map.get new x ≡ Some p
    → (Contains xs x × Contains arenas p.0) ⊎ ((map.get old x ≡ Some p) × (Contains xs x → ⊥))
moved_cases arenas [] old new e x p at = inr (subst (λ m. map.get m x ≡ Some p) e at, λ c. nothing_in_none x c)
moved_cases arenas (y ∷ ys) old new (q, free, rest) x p at =
    elim (moved_cases arenas ys (map.insert old y q) new rest x p at) [
      | inl h ↦ inl (contains_tail y ys x h.0, h.1)
      | inr h ↦ elim (get_insert_apart old y q x p h.0) [
        | inl is ↦ inl (
          subst (λ z. Contains (y ∷ ys) z) is.0 (contains_head y ys),
          subst (λ (r : ℕ × ℕ). Contains arenas r.0) is.1 free.free.kept,
        )
        | inr was ↦ inr (
          was.0,
          λ c. elim (contains_cases y ys x c) [ inl e ↦ was.1 e | inr t ↦ h.1 t ],
        )
      ]
    ]

-- the arenas of a zone are its own
owned_by : (n : ℕ) (owner : List (Option ℕ)) (zone b : ℕ) → Contains (arenas_from n owner (zone ∷ [])) b
    → (i : ℕ) × (b ≡ n + i) × (slice_get owner i ≡ Some (Some zone))
owned_by n [] zone b c = absurd (nothing_in_none b c)
owned_by n (None ∷ owner) zone b c =
    let r = owned_by (n + 1) owner zone b c in
    let e = r.1 in
    (suc r.0, omega (arith, e), r.2)
owned_by n (Some y ∷ owner) zone b c =
    go (λ h. owned_by (n + 1) owner zone b h) (list_any (eqb y) (zone ∷ [])) refl c
  where
    past : (i : ℕ) × (b ≡ (n + 1) + i) × (slice_get owner i ≡ Some (Some zone))
        → (i : ℕ) × (b ≡ n + i) × (slice_get (Some y ∷ owner) i ≡ Some (Some zone))
    past r = let e = r.1 in (suc r.0, omega (arith, e), r.2)

    go : (Contains (arenas_from (n + 1) owner (zone ∷ [])) b → (i : ℕ) × (b ≡ (n + 1) + i)
        × (slice_get owner i ≡ Some (Some zone))) → (t : Bool) → list_any (eqb y) (zone ∷ []) ≡ t
        → Contains (cond t (n ∷ arenas_from (n + 1) owner (zone ∷ [])) (arenas_from (n + 1) owner (zone ∷ []))) b
        → (i : ℕ) × (b ≡ n + i) × (slice_get (Some y ∷ owner) i ≡ Some (Some zone))
    go rest true is h = elim (contains_cases n (arenas_from (n + 1) owner (zone ∷ [])) b h) [
      | inl e ↦ (
        0,
        omega (arith, e),
        elim (contains_cases zone [] y (among_to y (zone ∷ []) is)) [
          | inl same ↦ ap (λ (z : ℕ). Some (Some z)) (sym same)
          | inr none ↦ absurd (nothing_in_none y none)
        ],
      )
      | inr t ↦ past (rest t)
    ]
    go rest false is h = past (rest h)

pub owner_of : (owner : List (Option ℕ)) (zone b : ℕ) → Contains (arenas_from 0 owner (zone ∷ [])) b
    → slice_get owner b ≡ Some (Some zone)
owner_of owner zone b c =
    let r = owned_by 0 owner zone b c in
    let e = r.1 in
    let is : r.0 ≡ b = omega (arith, e) in
    subst (λ i. slice_get owner i ≡ Some (Some zone)) is r.2

-- an arena that is not given up keeps its owner
owner_kept : (n : ℕ) (owner : List (Option ℕ)) (given : List ℕ) (i : ℕ) (o : Option ℕ) → slice_get owner i ≡ Some o
    → list_any (eqb (n + i)) given ≡ false → slice_get (given_up_from n owner given) i ≡ Some o
owner_kept n [] given i o e out = absurd (cc e)
owner_kept n (x ∷ owner) given zero o e out =
    let first : n + 0 ≡ n = omega arith in
    go (list_any (eqb n) given) (sym (ap (λ m. list_any (eqb m) given) first) ∙ out)
  where
    go : (b : Bool) → b ≡ false → Some (cond b None x) ≡ Some o
    go true f = absurd (cc f)
    go false f = e
owner_kept n (x ∷ owner) given (suc i) o e out =
    let next : n + suc i ≡ (n + 1) + i = omega arith in
    owner_kept (n + 1) owner given i o e (sym (ap (λ m. list_any (eqb m) given) next) ∙ out)

module _ (w : World) (zone moved given : ℕ) (v : World) (c : Compacts w zone moved given v) where
  same_graph : v.graph ≡ w.graph
  same_graph = ap (λ (u : World). u.graph) c.world_is

  same_white : v.white ≡ w.white
  same_white = ap (λ (u : World). u.white) c.world_is

  same_out : v.out ≡ w.out
  same_out = ap (λ (u : World). u.out) c.world_is

  -- a cell that was moved is of the zone, and lies in an arena of it
  to_kept : (x : Name) (p : ℕ × ℕ) → LiesInArenas w → Contains c.movers x → Contains c.kept p.0 → (z : ℕ)
      × (zone_of v.graph x ≡ Some z) × (slice_get v.owner p.0 ≡ Some (Some z))
  to_kept x p lies moves keeps =
      let from = (c.movers_are x).0 moves in
      let o = lies.owned x from.0 from.1 in
      let was : slice_get w.owner from.0.0 ≡ Some (Some zone) =
      owner_of w.owner zone from.0.0
      (subst (λ l. Contains l from.0.0) (sym c.arenas_are) (Contains-append_right c.kept c.given_up from.0.0 from.2)) in
      let same : o.0 ≡ zone = cc (o.2, was) in
      let now : Contains (arenas_from 0 v.owner (zone ∷ [])) p.0 =
      subst (λ l. Contains l p.0) (sym (owned_after w zone moved given v c ∙ append-nil c.kept)) keeps in (
        zone,
        subst (λ (g : GraphState). zone_of g x ≡ Some zone) (sym same_graph)
            (subst (λ z. zone_of w.graph x ≡ Some z) same o.1),
        owner_of v.owner zone p.0 now,
      )

  -- another cell lies where it lay, in an arena that is not given up
  where_it_was : (x : Name) (p : ℕ × ℕ) → LiesInArenas w → map.get w.places x ≡ Some p → (Contains c.movers x → ⊥)
      → (z : ℕ) × (zone_of v.graph x ≡ Some z) × (slice_get v.owner p.0 ≡ Some (Some z))
  where_it_was x p lies at stays =
      let o = lies.owned x p at in (
        o.0,
        subst (λ (g : GraphState). zone_of g x ≡ Some o.0) (sym same_graph) o.1,
        subst (λ (l : List (Option ℕ)). slice_get l p.0 ≡ Some (Some o.0))
            (sym (ap (λ (u : World). u.owner) c.world_is))
            (owner_kept 0 w.owner c.given_up p.0 (Some o.0) o.2 (
            let first : 0 + p.0 ≡ p.0 = omega arith in
            ap (λ m. list_any (eqb m) c.given_up) first
            ∙ out (list_any (eqb p.0) c.given_up) refl
            )),
      )
    where
      out : (b : Bool) → list_any (eqb p.0) c.given_up ≡ b → list_any (eqb p.0) c.given_up ≡ false
      out true e = absurd (stays ((c.movers_are x).1 (p, at, among_to p.0 c.given_up e)))
      out false e = e

  compacts_lying : LiesInArenas w → LiesInArenas v
  compacts_lying lies = record {
    owned = λ x p at. elim (moved_cases c.kept c.movers w.places v.places c.are_moved x p at) [
      | inl h ↦ to_kept x p lies h.0 h.1
      | inr h ↦ where_it_was x p lies h.0 h.1
    ];
    unswept_out = λ x p there.
        let was = lies.unswept_out x p (subst (λ l. Contains {X = Name × (ℕ × ℕ)} l (x, p)) same_white there) in
        subst (λ l. Contains l p.0) (sym same_out) was;
    unswept_once = λ x p q one other.
        lies.unswept_once x p q (subst (λ l. Contains {X = Name × (ℕ × ℕ)} l (x, p)) same_white one)
        (subst (λ l. Contains {X = Name × (ℕ × ℕ)} l (x, q)) same_white other);
  }

  was_present : (x : Name) → IsPresent v x → IsPresent w x
  was_present x p = moved_was c.kept c.movers w.places v.places c.are_moved
      (λ y m. let h = (c.movers_are y).0 m in ap is_some h.1) x p

  now_present : (x : Name) → IsPresent w x → IsPresent v x
  now_present x p = moved_kept c.kept c.movers w.places v.places c.are_moved x p

  was_unswept : (x : Name) → IsUnswept v x → IsUnswept w x
  was_unswept x u = (u.0, subst (λ l. Contains {X = Name × (ℕ × ℕ)} l (x, u.0)) same_white u.1)

  now_unswept : (x : Name) → IsUnswept w x → IsUnswept v x
  now_unswept x u = (u.0, subst (λ l. Contains {X = Name × (ℕ × ℕ)} l (x, u.0)) (sym same_white) u.1)

  pub compacts_accounts : (numbers : ℕ) (freed : List Name) → IsAccounted w numbers freed → IsAccounted v numbers freed
  compacts_accounts numbers freed a = record {
    lies = compacts_lying a.lies;
    given_is = ap (λ (g : GraphState). length g.objects) same_graph ∙ a.given_is;
    present = λ n p. a.present n (was_present (Cell n) p);
    unswept = λ n u.
        let h = a.unswept n (was_unswept (Cell n) u) in (h.0, h.1, λ p. h.2 (was_present (Cell n) p));
    told = λ n below absent swept.
        a.told n below (λ p. absent (now_present (Cell n) p)) (λ u. swept (now_unswept (Cell n) u));
    others = a.others;
  }
