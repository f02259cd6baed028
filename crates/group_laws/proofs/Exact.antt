-- Where nothing was woken, lawful groups are the components.
use Rattle.std.proofs.Common.{◌≡◌, ℕ, zero, suc, ◌<◌, ◌≤◌, inl, inr, ◌∙◌, ap, subst, arith, List, [], ◌∷◌, length}
use Rattle.std.proofs.Common.{get_or, Contains, Some}
use Rattle.std.proofs.lemmas.Bool.{cases_lt, cases_order}
use Rattle.std.proofs.lemmas.List.Elements.{Contains-get_or}
use Rattle.std.proofs.lemmas.Option.{get_or_from_slice_get, slice_get-get_or}
use Rattle.gz_names.specs.declared.names.Name.{Name}
use Rattle.colour_defs.specs.Groups.{IsFirstEdge, IsLastEdge, EachLater, LeadsWithin, here, next, AreLawfulGroups}
use Rattle.colour_defs.specs.World.{Has, World, Collection}
use Rattle.colour_defs.specs.Laws.{IsMarking, IsValid}
use Rattle.colour_defs.proofs.EdgesAgree.{edges_agree}
use Rattle.group_laws.specs.Laws.{GroupsAreComponents}

-- what holds of each group and each later one, by their places
later_at : (R : List ℕ → List ℕ → Type 0) (gs : List (List ℕ)) → EachLater R gs → (i j : ℕ) → i < j → j < length gs
    → R (get_or gs i []) (get_or gs j [])
later_at R [] e i j lt below = absurd (omega arith)
later_at R (g ∷ gs) e zero zero lt below = absurd (omega arith)
later_at R (g ∷ gs) e (suc i) zero lt below = absurd (omega arith)
later_at R (g ∷ gs) e zero (suc j) lt below = e.0 (get_or gs j []) (Contains-get_or gs j [] (omega arith))
later_at R (g ∷ gs) e (suc i) (suc j) lt below = later_at R gs e.1 i j (omega arith) (omega arith)

-- a way within a list is one within a larger one
widened : (IsEdge : ℕ → ℕ → Type 0) (g h : List ℕ) → ((z : ℕ) → Contains g z → Contains h z) → {a b : ℕ}
    → LeadsWithin IsEdge g a b → LeadsWithin IsEdge h a b
widened IsEdge g h more here = here
widened IsEdge g h more (next p e c) = next (widened IsEdge g h more p) e (more _ c)

module _ (w : World) (k : Collection) (groups : List (List ℕ)) (ok : IsValid w) (running : w.collection ≡ Some k)
    (some : IsMarking k) (is : AreLawfulGroups w k groups) (none : (x : Name) → Has k.woken x → ⊥) where
  -- a first edge is a last one, since nothing was woken
  still : (a b : ℕ) → IsFirstEdge w k a b → IsLastEdge w k a b
  still a b e = (edges_agree w k ok running some none a b).0 e

  -- the place of a zone's group
  place : (z : ℕ) → Contains k.zones z → (i : ℕ) × (i < length groups) × Contains (get_or groups i []) z
  place z h =
      let p = is.all z h in
      let at = p.1 in
      let same : get_or groups at.0 [] ≡ p.0 =
      get_or_from_slice_get groups at.0 p.0 [] (slice_get-get_or groups at.0 p.0 at.1 ∙ ap (λ g. Some g) at.2) in
      (at.0, at.1, rw same p.2)

  -- edges lead from earlier groups to later ones
  not_later : {a b : ℕ} (i j : ℕ) → i < length groups → j < length groups → LeadsWithin (IsFirstEdge w k) k.zones a b
      → Contains (get_or groups i []) a → Contains (get_or groups j []) b → i ≤ j
  not_later {a} i j li lj here ha hb = elim (cases_order i j) [
    | inl e ↦ omega arith
    | inr o ↦ elim o [
      | inl lt ↦ omega arith
      | inr gt
          ↦ absurd (later_at (λ g h. (z : ℕ) → Contains g z → Contains h z → ⊥) groups is.apart j i gt li a hb ha)
    ]
  ]
  not_later {a} {b = c} i j li lj (next {b = m} p e inside) ha hb =
      let at = place m e.1 in
      let le : i ≤ at.0 = not_later i at.0 li at.1 p ha at.2 in
      elim (cases_lt j at.0) [
        | inl lt ↦ absurd (later_at (λ g h. (a b : ℕ) → Contains h a → Contains g b → IsLastEdge w k a b → ⊥) groups
            is.backward j at.0 lt at.1 m c at.2 hb (still m c e))
        | inr ge ↦ omega arith
      ]

pub groups_are_components : GroupsAreComponents
groups_are_components w k groups ok running some is none a b ha hb = (
  λ h. (
    widened (IsFirstEdge w k) h.0 k.zones (λ z c. is.only h.0 z h.1 c) (is.strong h.0 h.1 a b h.2 h.3),
    widened (IsFirstEdge w k) h.0 k.zones (λ z c. is.only h.0 z h.1 c) (is.strong h.0 h.1 b a h.3 h.2),
  ),
  λ h. (let p = place w k groups ok running some is none a ha in
      let q = place w k groups ok running some is none b hb in
      let le : p.0 ≤ q.0 = not_later w k groups ok running some is none p.0 q.0 p.1 q.1 h.0 p.2 q.2 in
      let ge : q.0 ≤ p.0 = not_later w k groups ok running some is none q.0 p.0 q.1 p.1 h.1 q.2 p.2 in
      let same : q.0 ≡ p.0 = omega arith in (
        get_or groups p.0 [],
        Contains-get_or groups p.0 [] p.1,
        p.2,
        subst (λ i. Contains (get_or groups i []) b) same q.2,
      )),
)
