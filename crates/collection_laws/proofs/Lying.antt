-- Where cells lie, carried over what lawful worlds do.
use Rattle.std.proofs.Common.{◌≡◌, ℕ, ◌+◌, zero, suc, ◌⊎◌, inl, inr, List, [], ◌∷◌, ◌++◌, Bool, true, false, cond, refl}
use Rattle.std.proofs.Common.{sym, ap, subst, ◌∙◌, arith, eqb, Option, Some, None, Contains, slice_get}
use Rattle.std.specs.List.{list_any}
use Rattle.std.specs.FinMap as map
use Rattle.std.specs.Ordering.{eq_by_cmp}
use Rattle.gz_names.specs.Order.{name_cmp, names_total}
use Rattle.gz_names.specs.declared.names.Name.{Name}
use Rattle.gz_names.specs.declared.commands.GraphCmd.{GraphCmd}
use Rattle.gz_names.specs.declared.replies.Reply.{Reply}
use Rattle.gz_names.specs.declared.replies.Refusal.{Refusal}
use Rattle.colour_defs.specs.Graph.{GraphState, zone_of}
use Rattle.colour_defs.specs.Ends.{IsLawfulEnd, arenas_from}
use Rattle.colour_defs.specs.Lawful.{IsLawfulSweep, with_sweep}
use Rattle.colour_defs.specs.Step.{step_of, refusal_in}
use Rattle.colour_defs.specs.World.{World, Collection, Preparation, HasPlace, IsPlaceFor, Accepts}
use Rattle.colour_defs.specs.World.{AcceptsIn, AcceptsPreparing, AcceptsUnless, CommandInWorld, with_counts, woken_by}
use Rattle.colour_defs.specs.World.{also_woken_by}
use Rattle.colour_defs.proofs.Carried.{present_or}
use Rattle.colour_defs.proofs.Effects.{effect_of, waking_of}
use Rattle.colour_defs.proofs.Follows.{follows, zone_stays}
use Rattle.colour_defs.proofs.Lists.{contains_cases, contains_head, contains_tail, get_append, get_push_here}
use Rattle.colour_defs.proofs.Membership.{among_from, zone_in}
use Rattle.colour_defs.proofs.Names.{eq_name-is}
use Rattle.collection_laws.specs.Numbers.{LiesInArenas}

-- cells keep their zones
abbrev pub KeepsZones : GraphState → GraphState → Type 0
KeepsZones g h = (x : Name) (z : ℕ) → zone_of g x ≡ Some z → zone_of h x ≡ Some z

pub same_zones : {g h : GraphState} → h ≡ g → KeepsZones g h
same_zones e x z at = subst (λ (k : GraphState). zone_of k x ≡ Some z) (sym e) at

-- all cells stay where they are, and no arena goes out or comes in
pub record StaysInPlace (w v : World) : Type 0 where
  pub zones : KeepsZones w.graph v.graph
  pub places_is : v.places ≡ w.places
  pub owner_is : v.owner ≡ w.owner
  pub out_is : v.out ≡ w.out
  pub white_is : v.white ≡ w.white

pub stays_lying : (w v : World) → StaysInPlace w v → LiesInArenas w → LiesInArenas v
stays_lying w v s lies = record {
  owned = λ x p at.
      let o = lies.owned x p (subst (λ m. map.get m x ≡ Some p) s.places_is at) in
      (o.0, s.zones x o.0 o.1, subst (λ l. slice_get l p.0 ≡ Some (Some o.0)) (sym s.owner_is) o.2);
  unswept_out = λ x p c.
      let out = lies.unswept_out x p (subst (λ l. Contains {X = Name × (ℕ × ℕ)} l (x, p)) s.white_is c) in
      subst (λ l. Contains l p.0) (sym s.out_is) out;
  unswept_once = λ x p q c d.
      lies.unswept_once x p q (subst (λ l. Contains {X = Name × (ℕ × ℕ)} l (x, p)) s.white_is c)
      (subst (λ l. Contains {X = Name × (ℕ × ℕ)} l (x, q)) s.white_is d);
}

get_insert_cases : (m : map.FinMap name_cmp (ℕ × ℕ)) (x : Name) (p : ℕ × ℕ) (y : Name) (q : ℕ × ℕ)
    → map.get (map.insert m x p) y ≡ Some q → ((x ≡ y) × (p ≡ q)) ⊎ (map.get m y ≡ Some q)
get_insert_cases m x p y q h = go (eq_by_cmp name_cmp y x) refl (sym (map.get-insert names_total m x p y) ∙ h)
  where
    go : (b : Bool) → eq_by_cmp name_cmp y x ≡ b → cond b (Some p) (map.get m y) ≡ Some q
        → ((x ≡ y) × (p ≡ q)) ⊎ (map.get m y ≡ Some q)
    go true e is = inl (sym (eq_name-is y x e), cc is)
    go false e is = inr is

place_owned : (w : World) (z : ℕ) (p : ℕ × ℕ) (owner : List (Option ℕ)) → IsPlaceFor w z p owner
    → slice_get owner p.0 ≡ Some (Some z)
place_owned w z p owner (inl h) = subst (λ l. slice_get l p.0 ≡ Some (Some z)) (sym h.1) h.0.owned
place_owned w z p owner (inr h) =
    subst (λ l. slice_get l p.0 ≡ Some (Some z)) (sym h.2)
    (subst (λ n. slice_get (w.owner ++ Some z ∷ []) n ≡ Some (Some z)) (sym (ap (λ (q : ℕ × ℕ). q.0) h.1))
    (get_push_here w.owner (Some z)))

owner_stays : (w : World) (z : ℕ) (p : ℕ × ℕ) (owner : List (Option ℕ)) → IsPlaceFor w z p owner → (i : ℕ)
    (o : Option ℕ) → slice_get w.owner i ≡ Some o → slice_get owner i ≡ Some o
owner_stays w z p owner (inl h) i o e = subst (λ l. slice_get l i ≡ Some o) (sym h.1) e
owner_stays w z p owner (inr h) i o e =
    subst (λ l. slice_get l i ≡ Some o) (sym h.2) (get_append w.owner (Some z ∷ []) i o e)

-- a cell has its place: the one that it had, or a new one in its zone
pub placed_lying : (w : World) (graph : GraphState) (x : Name) (v : World) → KeepsZones w.graph graph
    → HasPlace w graph x v → LiesInArenas w → LiesInArenas v
placed_lying w graph x v zones h lies = record {
  owned = λ y q at. elim (present_or w x) [
    | inl there ↦
        let found = h.found there in
        let o = lies.owned y q (subst (λ m. map.get m y ≡ Some q) found.0 at) in (
          o.0,
          subst (λ g. zone_of g y ≡ Some o.0) (sym h.graph_is) (zones y o.0 o.1),
          subst (λ l. slice_get l q.0 ≡ Some (Some o.0)) (sym found.1) o.2,
        )
    | inr absent ↦
        let made = h.made absent in
        elim (get_insert_cases w.places x made.1 y q (subst (λ m. map.get m y ≡ Some q) made.4 at)) [
          | inl new ↦ (
            made.0,
            subst (λ g. zone_of g y ≡ Some made.0) (sym h.graph_is)
                (subst (λ n. zone_of graph n ≡ Some made.0) new.0 made.2),
            subst (λ (r : ℕ × ℕ). slice_get v.owner r.0 ≡ Some (Some made.0)) new.1
                (place_owned w made.0 made.1 v.owner made.3),
          )
          | inr old ↦
              let o = lies.owned y q old in (
                o.0,
                subst (λ g. zone_of g y ≡ Some o.0) (sym h.graph_is) (zones y o.0 o.1),
                owner_stays w made.0 made.1 v.owner made.3 q.0 (Some o.0) o.2,
              )
        ]
  ];
  unswept_out = λ y q c.
      let out = lies.unswept_out y q (subst (λ l. Contains {X = Name × (ℕ × ℕ)} l (y, q)) h.white_is c) in
      subst (λ l. Contains l q.0) (sym h.out_is) out;
  unswept_once = λ y p q c d.
      lies.unswept_once y p q (subst (λ l. Contains {X = Name × (ℕ × ℕ)} l (y, p)) h.white_is c)
      (subst (λ l. Contains {X = Name × (ℕ × ℕ)} l (y, q)) h.white_is d);
}

accepted_lying : (w : World) (k : Option Collection) (graph : GraphState) (x : Option Name) (v : World)
    → KeepsZones w.graph graph → Accepts w k graph x v → LiesInArenas w → LiesInArenas v
accepted_lying w k graph None v zones h lies =
    subst (λ (u : World). LiesInArenas u) (sym h)
    (stays_lying w (record w { graph = graph; collection = k })
    (record { zones = zones; places_is = refl; owner_is = refl; out_is = refl; white_is = refl }) lies)
accepted_lying w k graph (Some x) v zones h lies = placed_lying w graph x v zones h.0 lies

prepared_lying : (w : World) (p : Preparation) (graph : GraphState) (x y : Option Name) (v : World)
    → KeepsZones w.graph graph → AcceptsPreparing w p graph x y v → LiesInArenas w → LiesInArenas v
prepared_lying w p graph None None v zones h lies =
    subst (λ (u : World). LiesInArenas u) (sym h)
    (stays_lying w (record w { graph = graph })
    (record { zones = zones; places_is = refl; owner_is = refl; out_is = refl; white_is = refl }) lies)
prepared_lying w p graph None (Some y) v zones h lies =
    subst (λ (u : World). LiesInArenas u) (sym h.0)
    (stays_lying w (record w { graph = graph; black = v.black })
    (record { zones = zones; places_is = refl; owner_is = refl; out_is = refl; white_is = refl }) lies)
prepared_lying w p graph (Some x) y v zones h lies = placed_lying w graph x v zones h.0 lies

pub taken_lying : (o : Option Preparation) (w : World) (k : Option Collection) (graph : GraphState) (x y : Option Name)
    (v : World) → KeepsZones w.graph graph → AcceptsIn o w k graph x y v → LiesInArenas w → LiesInArenas v
taken_lying None w k graph x y v zones h lies = accepted_lying w k graph x v zones h lies
taken_lying (Some p) w k graph x y v zones h lies = prepared_lying w p graph x y v zones h lies

pub command_zones : (g : GraphState) (c : GraphCmd) → KeepsZones g (step_of g c).0
command_zones g c x z e = zone_stays g (waking_of g c) (step_of g c).0 (follows g (waking_of g c) (effect_of g c)) x z e

pub command_lying : (w : World) (c : GraphCmd) (answer : Reply) (v : World) → CommandInWorld w c answer v
    → LiesInArenas w → LiesInArenas v
command_lying w c answer v h lies = go (refusal_in (step_of w.graph c).1) h.1
  where
    go : (o : Option Refusal) → AcceptsUnless o w (with_counts w.graph c w.collection) (step_of w.graph c).0
        (woken_by w.graph c) (also_woken_by w.graph c) v → LiesInArenas v
    go (Some why) e = subst (λ (u : World). LiesInArenas u) (sym e) lies
    go None e = taken_lying w.preparing w (with_counts w.graph c w.collection) (step_of w.graph c).0
        (woken_by w.graph c)
        (also_woken_by w.graph c) v (command_zones w.graph c) e lies

-- an arena of one of the zones is among theirs
arena_listed : (n : ℕ) (owner : List (Option ℕ)) (zones : List ℕ) (i z : ℕ) → slice_get owner i ≡ Some (Some z)
    → Contains zones z → Contains (arenas_from n owner zones) (n + i)
arena_listed n [] zones i z e c = absurd (cc e)
arena_listed n (None ∷ owner) zones zero z e c = absurd (cc e)
arena_listed n (None ∷ owner) zones (suc i) z e c =
    let same : (n + 1) + i ≡ n + suc i = omega arith in
    subst (λ m. Contains (arenas_from (n + 1) owner zones) m) same (arena_listed (n + 1) owner zones i z e c)
arena_listed n (Some y ∷ owner) zones zero z e c =
    go (list_any (eqb y) zones) (ap (λ t. list_any (eqb t) zones) is ∙ among_from z zones c)
  where
    is : y ≡ z
    is = cc e

    go : (b : Bool) → b ≡ true
        → Contains (cond b (n ∷ arenas_from (n + 1) owner zones) (arenas_from (n + 1) owner zones)) (n + 0)
    go true f =
        let same : n ≡ n + 0 = omega arith in
        subst (λ m. Contains (n ∷ arenas_from (n + 1) owner zones) m) same
        (contains_head n (arenas_from (n + 1) owner zones))
    go false f = absurd (cc f)
arena_listed n (Some y ∷ owner) zones (suc i) z e c =
    let same : (n + 1) + i ≡ n + suc i = omega arith in
    go (list_any (eqb y) zones)
    (subst (λ m. Contains (arenas_from (n + 1) owner zones) m) same (arena_listed (n + 1) owner zones i z e c))
  where
    go : (b : Bool) → Contains (arenas_from (n + 1) owner zones) (n + suc i)
        → Contains (cond b (n ∷ arenas_from (n + 1) owner zones) (arenas_from (n + 1) owner zones)) (n + suc i)
    go true rest = contains_tail n (arenas_from (n + 1) owner zones) (n + suc i) rest
    go false rest = rest

pub ends_lying : (w : World) (k : Collection) (group : List ℕ) (rest : List (List ℕ)) (grays : List Name) (v : World)
    → IsLawfulEnd w k group rest grays v → LiesInArenas w → LiesInArenas v
ends_lying w k group rest grays v e lies = record {
  owned = λ x p at.
      let o = lies.owned x p (sym (e.stay x (λ white. cc (at, e.gone x white))) ∙ at) in (
        o.0,
        subst (λ g. zone_of g x ≡ Some o.0) (sym e.graph_is) o.1,
        subst (λ l. slice_get l p.0 ≡ Some (Some o.0)) (sym e.owner_is) o.2,
      );
  unswept_out = λ x p c.
      let h = (e.white_are x p).0 c in
      let o = lies.owned x p h.1 in
      let z = zone_in w.graph group x h.0.here in
      let same : o.0 ≡ z.0 = cc (o.1, z.1) in
      let listed : Contains (arenas_from 0 w.owner group) (0 + p.0) =
      arena_listed 0 w.owner group p.0 z.0 (subst (λ n. slice_get w.owner p.0 ≡ Some (Some n)) same o.2) z.2 in
      let first : 0 + p.0 ≡ p.0 = omega arith in
      subst (λ l. Contains l p.0) (sym e.out_is)
      (subst (λ n. Contains (arenas_from 0 w.owner group) n) first listed);
  unswept_once = λ x p q c d.
      let a = ((e.white_are x p).0 c).1 in
      let b = ((e.white_are x q).0 d).1 in
      cc (a, b);
}

pub sweeps_lying : (w : World) (arena : ℕ) (freed : List Name) (v : World) → IsLawfulSweep w arena freed v
    → LiesInArenas w → LiesInArenas v
sweeps_lying w arena freed v s lies =
    let next : LiesInArenas (record w { out = s.rest; white = v.white; collection = with_sweep w.collection }) =
    record {
      owned = lies.owned;
      unswept_out = λ x p c.
          let h = (s.white_are x p).0 c in
          elim (contains_cases arena s.rest p.0
          (subst (λ l. Contains l p.0) s.first (lies.unswept_out x p h.0))) [
            | inl e ↦ absurd (h.1 (sym e))
            | inr t ↦ t
          ];
      unswept_once = λ x p q c d. lies.unswept_once x p q ((s.white_are x p).0 c).0 ((s.white_are x q).0 d).0;
    } in
    subst (λ (u : World). LiesInArenas u) (sym s.world_is) next
