-- What is reached once a name more is woken, by what was reached before.
use Rattle.std.proofs.Common.{◌≡◌, ◌↔◌, ◌∙◌, ◌⊎◌, inl, inr, Bool, true, false, ◌||◌, List, [], ◌∷◌, ◌++◌, Contains}
use Rattle.std.proofs.Common.{refl, sym, subst}
use Rattle.std.specs.FinSet as set
use Rattle.std.specs.Ordering.{eq_by_cmp}
use Rattle.std.proofs.lemmas.List.Elements.{Contains-append_cases, Contains-append_left, Contains-append_right}
use Rattle.gz_names.specs.Order.{name_cmp, names_total}
use Rattle.gz_names.specs.declared.names.Name.{Name}
use Rattle.colour_defs.specs.Graph.{GraphState}
use Rattle.colour_defs.specs.Closure.{Closure, from}
use Rattle.colour_defs.specs.World.{Has, Names}
use Rattle.colour_defs.proofs.Carried.{reached_more}
use Rattle.colour_defs.proofs.Lists.{contains_cases, contains_head, nothing_in_none}
use Rattle.colour_defs.proofs.Names.{eq_name-is}
use Rattle.colour_defs.proofs.ValidCommands.{in_insert, insert_has}
use Rattle.judge.proofs.Found.{reached_from}

pub inserted : (s : Names) (x y : Name) → Has (set.insert s x) y → (y ≡ x) ⊎ Has s y
inserted s x y h = go (eq_by_cmp name_cmp y x) refl (sym (set.contains-insert names_total s x y) ∙ h)
  where
    go : (b : Bool) → eq_by_cmp name_cmp y x ≡ b → (b || set.contains s y) ≡ true → (y ≡ x) ⊎ Has s y
    go true e h = inl (eq_name-is y x e)
    go false e h = inr h

-- two ways to name what is reached in a graph: by sets, and by lists
abbrev pub ByNames : Names → Names → Name → Type 0
ByNames starts woken s = Has starts s ⊎ Has woken s

abbrev pub ByLists : List Name → List Name → Name → Type 0
ByLists found woken s = Contains found s ⊎ Contains woken s

module _ (g : GraphState) (starts woken : Names) (found more : List Name)
    (same : (y : Name) → Closure g (ByNames starts woken) y ↔ Closure g (ByLists found more) y) (x : Name) where
  after_names : Name → Type 0
  after_names = ByNames starts (set.insert woken x)

  after_lists : Name → Type 0
  after_lists = ByLists found (more ++ x ∷ [])

  to_lists : (s : Name) → ByNames starts (set.insert woken x) s → Closure g (ByLists found (more ++ x ∷ [])) s
  to_lists s h = elim h [
    | inl a ↦ kept (inl a)
    | inr b ↦ elim (inserted woken x s b) [
      | inl e ↦ from (inr (Contains-append_right more (x ∷ []) s
          (subst (λ z. Contains (z ∷ []) s) e (contains_head s []))))
      | inr c ↦ kept (inr c)
    ]
  ]
    where
      kept : ByNames starts woken s → Closure g (ByLists found (more ++ x ∷ [])) s
      kept b = reached_more g (ByLists found more) (ByLists found (more ++ x ∷ []))
          (λ z p. elim p [ inl c ↦ inl c | inr c ↦ inr (Contains-append_left more (x ∷ []) z c) ]) ((same s).0 (from b))

  to_names : (s : Name) → ByLists found (more ++ x ∷ []) s → Closure g (ByNames starts (set.insert woken x)) s
  to_names s h = elim h [
    | inl a ↦ kept (inl a)
    | inr b ↦ elim (Contains-append_cases more (x ∷ []) s b) [
      | inl c ↦ kept (inr c)
      | inr c ↦ elim (contains_cases x [] s c) [
        | inl e ↦ from (inr (subst (λ z. Has (set.insert woken x) z) e (insert_has woken x)))
        | inr n ↦ absurd (nothing_in_none s n)
      ]
    ]
  ]
    where
      kept : ByLists found more s → Closure g (ByNames starts (set.insert woken x)) s
      kept b = reached_more g (ByNames starts woken) (ByNames starts (set.insert woken x))
          (λ z p. elim p [ inl c ↦ inl c | inr c ↦ inr (in_insert woken x z c) ]) ((same s).1 (from b))

  pub woken_too : (y : Name) → Closure g (ByNames starts (set.insert woken x)) y
      ↔ Closure g (ByLists found (more ++ x ∷ [])) y
  woken_too y = (
    λ c. reached_from g (ByNames starts (set.insert woken x)) (ByLists found (more ++ x ∷ [])) to_lists c,
    λ c. reached_from g (ByLists found (more ++ x ∷ [])) (ByNames starts (set.insert woken x)) to_names c,
  )
