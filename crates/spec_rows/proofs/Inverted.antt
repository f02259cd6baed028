-- What is known of a world from a lawful step to it.
use Rattle.std.proofs.Common.{◌≡◌, ℕ, zero, suc, ◌+◌, inl, inr, List, [], ◌∷◌, ◌++◌, Bool, true, false, cond, refl, sym}
use Rattle.std.proofs.Common.{ap, subst, ◌∙◌, arith, Option, Some, None, Contains, slice_get}
use Rattle.std.specs.Prelude.{nat_eq}
use Rattle.std.specs.List.{flat_map, list_any}
use Rattle.gz_names.specs.declared.names.Name.{Name}
use Rattle.gz_names.specs.declared.commands.GraphCmd.{GraphCmd}
use Rattle.gz_names.specs.declared.replies.Reply.{Reply}
use Rattle.colour_defs.specs.Graph.{GraphState}
use Rattle.colour_defs.specs.Step.{step_of, refusal_in}
use Rattle.colour_defs.specs.World.{World, Preparation, HasPlace, CommandInWorld, Accepts, AcceptsPreparing, AcceptsIn}
use Rattle.colour_defs.specs.World.{AcceptsUnless, with_counts, woken_by, also_woken_by, IsPlaceFor}
use Rattle.gz_names.specs.declared.replies.Report.{Report}
use Rattle.colour_defs.specs.Ends.{arenas_from}
use Rattle.colour_defs.specs.Lawful.{IsLawfulReport, IsLawfulUnit, quiet, says, last, AreLawfulUnits}
use Rattle.colour_defs.proofs.Lists.{contains_head, contains_tail, get_push_here}

module _ (w v : World) (c : GraphCmd) (r : Reply) (g : GraphState) (at : w.graph ≡ g)
    (fine : refusal_in (step_of g c).1 ≡ None) (calm : w.preparing ≡ None) (h : CommandInWorld w c r v) where
  accepts : Accepts w (with_counts w.graph c w.collection) (step_of w.graph c).0 (woken_by w.graph c) v
  accepts = subst (λ p. AcceptsIn p w (with_counts w.graph c w.collection) (step_of w.graph c).0 (woken_by w.graph c)
      (also_woken_by w.graph c) v) calm
      (subst (λ o. AcceptsUnless o w (with_counts w.graph c w.collection) (step_of w.graph c).0 (woken_by w.graph c)
      (also_woken_by w.graph c) v) (ap (λ z. refusal_in (step_of z c).1) at ∙ fine) h.1)

  pub quiet_after : woken_by g c ≡ None
      → v ≡ record w { graph = (step_of g c).0; collection = with_counts w.graph c w.collection }
  quiet_after none =
      let a : v ≡ record w { graph = (step_of w.graph c).0; collection = with_counts w.graph c w.collection } =
      subst (λ o. Accepts w (with_counts w.graph c w.collection) (step_of w.graph c).0 o v)
      (ap (λ z. woken_by z c) at ∙ none) accepts in
      subst (λ z. v ≡ record w { graph = (step_of z c).0; collection = with_counts w.graph c w.collection }) at a

  pub placed_after : (x : Name) → woken_by g c ≡ Some x → HasPlace w (step_of g c).0 x v
  placed_after x is =
      let a = subst (λ o. Accepts w (with_counts w.graph c w.collection) (step_of w.graph c).0 o v)
      (ap (λ z. woken_by z c) at ∙ is) accepts in
      subst (λ z. HasPlace w (step_of z c).0 x v) at a.0

-- a collection is being prepared
module _ (w v : World) (c : GraphCmd) (r : Reply) (g : GraphState) (at : w.graph ≡ g)
    (fine : refusal_in (step_of g c).1 ≡ None) (p : Preparation) (was : w.preparing ≡ Some p)
    (h : CommandInWorld w c r v) where
  accepts_preparing : AcceptsPreparing w p (step_of w.graph c).0 (woken_by w.graph c) (also_woken_by w.graph c) v
  accepts_preparing = subst
      (λ q. AcceptsIn q w (with_counts w.graph c w.collection) (step_of w.graph c).0 (woken_by w.graph c)
      (also_woken_by w.graph c) v) was
      (subst (λ o. AcceptsUnless o w (with_counts w.graph c w.collection) (step_of w.graph c).0 (woken_by w.graph c)
      (also_woken_by w.graph c) v) (ap (λ z. refusal_in (step_of z c).1) at ∙ fine) h.1)

  pub quiet_preparing : woken_by g c ≡ None → also_woken_by g c ≡ None → v ≡ record w { graph = (step_of g c).0 }
  quiet_preparing none no_other =
      let a : AcceptsPreparing w p (step_of w.graph c).0 None (also_woken_by w.graph c) v =
      subst (λ o. AcceptsPreparing w p (step_of w.graph c).0 o (also_woken_by w.graph c) v)
      (ap (λ z. woken_by z c) at ∙ none) accepts_preparing in
      let b : v ≡ record w { graph = (step_of w.graph c).0 } =
      subst (λ o. AcceptsPreparing w p (step_of w.graph c).0 None o v) (ap (λ z. also_woken_by z c) at ∙ no_other) a
      in
      subst (λ z. v ≡ record w { graph = (step_of z c).0 }) at b

  pub placed_preparing : (x : Name) → woken_by g c ≡ Some x → HasPlace w (step_of g c).0 x v
  placed_preparing x is =
      let a = subst (λ o. AcceptsPreparing w p (step_of w.graph c).0 o (also_woken_by w.graph c) v)
      (ap (λ z. woken_by z c) at ∙ is) accepts_preparing in
      subst (λ z. HasPlace w (step_of z c).0 x v) at a.0

-- reports one after another
abbrev pub ReportsAll : World → List Report → World → Type 0
ReportsAll w [] v = v ≡ w
ReportsAll w (r ∷ rs) v = (u : World) × IsLawfulReport w r u × ReportsAll u rs v

reports_append : (w u v : World) (rs ss : List Report) → ReportsAll w rs u → ReportsAll u ss v
    → ReportsAll w (rs ++ ss) v
reports_append w u v [] ss e h = subst (λ z. ReportsAll z ss v) e h
reports_append w u v (r ∷ rs) ss (m, first, rest) h = (m, first, reports_append m u v rs ss rest h)

unit_reports : (w : World) {rs : List Report} {v : World} → IsLawfulUnit w rs v → ReportsAll w rs v
unit_reports w (quiet run) = refl
unit_reports w (says {r} {v} run kind h over) = (v, h, refl)
unit_reports w (last {r} {u} {v} run kind h done) = (u, h, (v, done, refl))

pub units_reports : (w : World) (units : List (List Report)) (v : World) → AreLawfulUnits w units v
    → ReportsAll w (flat_map (λ u. u) units) v
units_reports w [] v e = e
units_reports w (u ∷ us) v (m, first, rest) = reports_append w m v u (flat_map (λ z. z) us) (unit_reports w first)
    (units_reports m us v rest)

-- a cell that gets a place lies in an arena of its zone
pub place_owned : (w : World) (z : ℕ) (p : ℕ × ℕ) (owner : List (Option ℕ)) → IsPlaceFor w z p owner
    → slice_get owner p.0 ≡ Some (Some z)
place_owned w z p owner (inl h) = subst (λ o. slice_get o p.0 ≡ Some (Some z)) (sym h.1) h.0.owned
place_owned w z p owner (inr h) =
    subst (λ o. slice_get o p.0 ≡ Some (Some z)) (sym h.2)
    (subst (λ q. slice_get (w.owner ++ Some z ∷ []) q ≡ Some (Some z)) (sym (ap (λ q. q.0) h.1))
    (get_push_here w.owner (Some z)))

-- each arena of a zone is among the zones' arenas
pub arena_listed : (n : ℕ) (owner : List (Option ℕ)) (zones : List ℕ) (a z : ℕ) → slice_get owner a ≡ Some (Some z)
    → list_any (nat_eq z) zones ≡ true → Contains (arenas_from n owner zones) (n + a)
arena_listed n [] zones a z e h = absurd (cc e)
arena_listed n (None ∷ owner) zones zero z e h = absurd (cc e)
arena_listed n (Some y ∷ owner) zones zero z e h =
    let same : y ≡ z = cc e in
    let t : list_any (nat_eq y) zones ≡ true = ap (λ q. list_any (nat_eq q) zones) same ∙ h in
    rw t (subst (λ q. Contains (n ∷ arenas_from (n + 1) owner zones) q) (omega arith)
    (contains_head n (arenas_from (n + 1) owner zones)))
arena_listed n (None ∷ owner) zones (suc a) z e h =
    subst (λ q. Contains (arenas_from (n + 1) owner zones) q) (omega arith) (arena_listed (n + 1) owner zones a z e h)
arena_listed n (Some y ∷ owner) zones (suc a) z e h =
    let more : Contains (arenas_from (n + 1) owner zones) (n + suc a) =
    subst (λ q. Contains (arenas_from (n + 1) owner zones) q) (omega arith)
    (arena_listed (n + 1) owner zones a z e h) in
    go (list_any (nat_eq y) zones) more
  where
    go : (b : Bool) → Contains (arenas_from (n + 1) owner zones) (n + suc a)
        → Contains (cond b (n ∷ arenas_from (n + 1) owner zones) (arenas_from (n + 1) owner zones)) (n + suc a)
    go true c = contains_tail n (arenas_from (n + 1) owner zones) (n + suc a) c
    go false c = c
