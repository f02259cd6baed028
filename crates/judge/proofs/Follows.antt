-- A walk with more starts.
use Rattle.std.proofs.Common.{◌≡◌, ◌∙◌, ℕ, ◌+◌, ◌<◌, ◌≤◌, inl, inr, List, [], ◌∷◌, ◌++◌, length, get_or, take, Contains}
use Rattle.std.proofs.Common.{sym, ap, subst, append_assoc, arith, length-append}
use Rattle.std.proofs.lemmas.List.{take-append-le, take_all, take_more}
use Rattle.std.proofs.lemmas.List.Elements.{Contains-append_left, Contains-push, Contains-push_cases}
use Rattle.gz_names.specs.declared.names.Name.{Name}
use Rattle.colour_defs.specs.Graph.{GraphState}
use Rattle.colour_defs.specs.Closure.{Closure, from, along, weak, delegate}
use Rattle.colour_defs.proofs.Lists.{nothing_in_none}
use Rattle.plain_graph.proofs.Walks.{extends_has}
use Rattle.plain_graph.specs.Reach.{Adds, Extends, Follows, HasDelegateIn, WalkState}

-- what is reached from some names is reached from more
reached_more : (g : GraphState) (starts more : List Name) {x : Name} → Closure g (Contains starts) x
    → Closure g (Contains (starts ++ more)) x
reached_more g starts more (from c) = from (Contains-append_left starts more _ c)
reached_more g starts more (along r e) = along (reached_more g starts more r) e
reached_more g starts more (weak at m k) = weak at (reached_more g starts more m) (reached_more g starts more k)
reached_more g starts more (delegate at m t) =
    delegate at (reached_more g starts more m) (reached_more g starts more t)

-- the visited names stay
visited_same : (old new : WalkState) → Extends old.names new.names → new.next ≡ old.next → old.next ≤ length old.names
    → take new.next new.names ≡ take old.next old.names
visited_same old new (more, e) n le =
    ap (λ k. take k new.names) n ∙ ap (take old.next) e ∙ take-append-le old.next old.names more le

longer : (old new : List Name) → Extends old new → length old ≤ length new
longer old new (more, e) = omega (arith, simp length-append at (ap length e))

delegate_same : (xs ys : List Name) (k : Name) → xs ≡ ys → HasDelegateIn xs k → HasDelegateIn ys k
delegate_same xs ys k e h = subst (λ zs. HasDelegateIn zs k) e h

-- a start is added to a walk
pub record AddsStart (y : Name) (old new : WalkState) : Type 0 where
  pub next : new.next ≡ old.next
  pub added : Adds old.names new.names (λ x. y ≡ x)

pub follows_one : (g : GraphState) (starts : List Name) (y : Name) (old new : WalkState) → Follows g starts old
    → AddsStart y old new → Follows g (starts ++ y ∷ []) new
follows_one g starts y old new f add =
    let n = add.next in
    let a = add.added in
    let same : take new.next new.names ≡ take old.next old.names = visited_same old new a.extends n f.within in record {
      within = omega (arith, f.within, longer old.names new.names a.extends, n);
      first = λ x c. elim (Contains-push_cases starts y x c) [
        | inl s ↦ extends_has old.names new.names x a.extends (f.first x s)
        | inr e ↦ a.all x e
      ];
      sound = λ x c. elim (a.only x c) [
        | inl o ↦ reached_more g starts (y ∷ []) (f.sound x o)
        | inr e ↦ from (subst (λ z. Contains (starts ++ y ∷ []) z) e (Contains-push starts y))
      ];
      edges = λ x z c e.
          extends_has old.names new.names z a.extends (f.edges x z (subst (λ xs. Contains xs x) same c) e);
      values = λ m k v at cm ck. extends_has old.names new.names v a.extends
          (f.values m k v at (subst (λ xs. Contains xs m) same cm) (subst (λ xs. Contains xs k) same ck));
      keys = λ m k v at cm d. extends_has old.names new.names k a.extends
          (f.keys m k v at (subst (λ xs. Contains xs m) same cm) (delegate_same _ _ k same d));
    }

-- starts one after another
pub follows_more : (g : GraphState) (starts names : List Name) (i : ℕ) (d : Name) (old new : WalkState)
    → i < length names → Follows g (starts ++ take i names) old → AddsStart (get_or names i d) old new
    → Follows g (starts ++ take (i + 1) names) new
follows_more g starts names i d old new below f add =
    subst (λ xs. Follows g xs new) (append_assoc starts (take i names) (get_or names i d ∷ [])
    ∙ ap (λ ys. starts ++ ys) (sym (take_more names i d below)))
    (follows_one g (starts ++ take i names) (get_or names i d) old new f add)

pub follows_all : (g : GraphState) (starts names : List Name) (i : ℕ) (w : WalkState) → length names ≤ i
    → Follows g (starts ++ take i names) w → Follows g (starts ++ names) w
follows_all g starts names i w le f = subst (λ xs. Follows g (starts ++ xs) w) (take_all i names le) f

-- a walk that has found nothing
pub follows_none : (g : GraphState) → Follows g [] (record { names = []; next = 0 })
follows_none g = record {
  within = omega arith;
  first = λ x c. absurd (nothing_in_none x c);
  sound = λ x c. absurd (nothing_in_none x c);
  edges = λ x y c e. absurd (nothing_in_none x c);
  values = λ m k v at cm ck. absurd (nothing_in_none m cm);
  keys = λ m k v at cm d. absurd (nothing_in_none m cm);
}
