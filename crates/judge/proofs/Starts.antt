-- The cells from which marking begins.
use Rattle.std.proofs.Common.{◌≡◌, ◌⊎◌, ◌↔◌, ◌∙◌, true, inl, inr, ℕ, ◌+◌, ◌<◌, List, [], ◌∷◌, ◌++◌, Contains}
use Rattle.std.proofs.Common.{Option, Some, length, get_or, take, subst, sym, arith}
use Rattle.std.proofs.lemmas.Bool.{cases_eq}
use Rattle.std.proofs.lemmas.List.Elements.{Contains-append_cases, Contains-append_left, Contains-append_right}
use Rattle.std.proofs.lemmas.List.Elements.{Contains-push, Contains-push_cases}
use Rattle.std.specs.BTreeSet as sorted
use Rattle.std.specs.BTreeSet.{BTreeSet}
use Rattle.gz_names.specs.declared.names.Name.{Name}
use Rattle.plain_graph.specs.Indexed.{order_of}
use Rattle.plain_graph.proofs.Walks.{take_cases, take_new, take_old}
use Rattle.colour_defs.proofs.Lists.{nothing_in_none}
use Rattle.judge.specs.Starts.{IsListOf}
use Rattle.judge.specs.Walks.{IsLeftBlack}
use Rattle.judge.proofs.Cells.{apart}
use Rattle.judge.proofs.Watching.{same_or_not}

-- two lists
pub list_joined : (xs ys zs : List Name) (P Q : Name → Type 0) → zs ≡ xs ++ ys → IsListOf xs P → IsListOf ys Q
    → IsListOf zs (λ x. P x ⊎ Q x)
list_joined xs ys zs P Q e p q x = (
  λ c. elim (Contains-append_cases xs ys x (subst (λ ns. Contains ns x) e c)) [
    | inl a ↦ inl ((p x).0 a)
    | inr b ↦ inr ((q x).0 b)
  ],
  λ h. subst (λ ns. Contains ns x) (sym e) (elim h [
    | inl a ↦ Contains-append_left xs ys x ((p x).1 a)
    | inr b ↦ Contains-append_right xs ys x ((q x).1 b)
  ]),
)

pub list_as : (xs ys : List Name) (P : Name → Type 0) → ys ≡ xs → IsListOf xs P → IsListOf ys P
list_as xs ys P e p = subst (λ ns. IsListOf ns P) (sym e) p

-- what some first places hold
abbrev pub IsHeldBelow : (ℕ → Option Name) → ℕ → Name → Type 0
IsHeldBelow held n x = (r : ℕ) × (r < n) × (held r ≡ Some x)

pub held_none : (held : ℕ → Option Name) → IsListOf [] (IsHeldBelow held 0)
held_none held x = (λ c. absurd (nothing_in_none x c), λ h. absurd (omega (arith, h.1)))

below_of : (r n : ℕ) → r < n + 1 → (r ≡ n → ⊥) → r < n
below_of r n below other = omega arith

pub held_push : (held : ℕ → Option Name) (n : ℕ) (y : Name) (xs : List Name) → held n ≡ Some y
    → IsListOf xs (IsHeldBelow held n) → IsListOf (xs ++ y ∷ []) (IsHeldBelow held (n + 1))
held_push held n y xs e are x = (
  λ c. elim (Contains-push_cases xs y x c) [
    | inl o ↦ (let h = (are x).0 o in (h.0, omega (arith, h.1), h.2))
    | inr same ↦ (n, omega arith, subst (λ z. held n ≡ Some z) same e)
  ],
  λ h. elim (cases_eq h.0 n) [
    | inl at ↦ (let q : held n ≡ Some x = subst (λ r. held r ≡ Some x) at h.2 in
        let same : y ≡ x = cc (e, q) in subst (λ z. Contains (xs ++ y ∷ []) z) same (Contains-push xs y))
    | inr other ↦ Contains-append_left xs (y ∷ []) x ((are x).1 (h.0, below_of h.0 n h.1 other, h.2))
  ],
)

pub held_skip : (held : ℕ → Option Name) (n : ℕ) (xs : List Name) → ((y : Name) → held n ≡ Some y → ⊥)
    → IsListOf xs (IsHeldBelow held n) → IsListOf xs (IsHeldBelow held (n + 1))
held_skip held n xs e are x = (
  λ c. let h = (are x).0 c in (h.0, omega (arith, h.1), h.2),
  λ h. elim (cases_eq h.0 n) [
    | inl at ↦ absurd (e x (subst (λ r. held r ≡ Some x) at h.2))
    | inr other ↦ (are x).1 (h.0, below_of h.0 n h.1 other, h.2)
  ],
)

-- a name more is put into a set
pub put_more : (old new : BTreeSet Name) (names : List Name) (i : ℕ) (d : Name) → i < length names
    → ((x : Name) → IsLeftBlack (Some old) x ↔ Contains (take i names) x)
    → sorted.Updates order_of old new (get_or names i d) true → (x : Name)
    → IsLeftBlack (Some new) x ↔ Contains (take (i + 1) names) x
put_more old new names i d below are up x = (
  λ has. elim (same_or_not (get_or names i d) x) [
    | inl same ↦ take_new names i d x below same
    | inr other ↦ take_old names i d x below
        ((are x).0 (sym (up.2 x (apart (get_or names i d) x other)) ∙ has))
  ],
  λ c. elim (same_or_not (get_or names i d) x) [
    | inl same ↦ subst (λ (y : Name). IsLeftBlack (Some new) y) same up.1
    | inr other ↦ elim (take_cases names i d x below c) [
      | inl o ↦ up.2 x (apart (get_or names i d) x other) ∙ (are x).1 o
      | inr same ↦ absurd (other same)
    ]
  ],
)
