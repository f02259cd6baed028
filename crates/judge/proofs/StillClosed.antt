-- What was black before a command is closed in the graph after it, so the clauses on what turns black hold of each
-- valid world for which the judge's stands.
use Rattle.std.proofs.Common.{◌≡◌, ◌⊎◌, ◌↔◌, ◌≤◌, ◌++◌, ℕ, inl, inr, List, [], ◌∷◌, Option, Some, Contains, length}
use Rattle.std.proofs.Common.{drop, subst, take}
use Rattle.std.proofs.lemmas.List.Elements.{Contains-append_cases, Contains-append_left, Contains-append_right}
use Rattle.std.proofs.lemmas.List.{take-append-drop}
use Rattle.std.specs.BTreeSet.{BTreeSet}
use Rattle.gz_names.specs.Zones.{zones_in}
use Rattle.gz_names.specs.declared.names.Name.{Name}
use Rattle.gz_names.specs.declared.names.Name.TheVariants.{Cell, Wrap}
use Rattle.gz_names.specs.declared.zone_sets.ZoneSet.{ZoneSet}
use Rattle.colour_defs.specs.Closure.{Closure, along, delegate, from, weak}
use Rattle.colour_defs.specs.Graph.{GraphState, value_of}
use Rattle.colour_defs.proofs.Lists.{contains_cases, contains_head, nothing_in_none}
use Rattle.plain_graph.specs.Reach.{Follows, HasDelegateIn, IsDone, WalkState}
use Rattle.judge.specs.LeftOut.{IsClosedLeft}
use Rattle.judge.specs.Live.{IsFollowed, IsFollowedOut}
use Rattle.judge.specs.Walks.{GoesOnFrom, IsLeftBlack}

-- names that are the same are closed too
pub followed_as : (g : GraphState) (P Q : Name → Type 0) → ((x : Name) → P x → Q x) → ((x : Name) → Q x → P x)
    → IsFollowed g P → IsFollowed g Q
followed_as g P Q to of f = record {
  edges = λ x y q e. to y (f.edges x y (of x q) e);
  values = λ m k v e qm qk. to v (f.values m k v e (of m qm) (of k qk));
  keys = λ m v c t e qm qt. to (Wrap c t) (f.keys m v c t e (of m qm) (of (Cell t) qt));
}

-- what is black while these zones are being prepared
pub closed_left : (g : GraphState) (zones : ZoneSet) (P : Name → Type 0) (left : Option (BTreeSet Name))
    → ((x : Name) → P x → IsLeftBlack left x) → ((x : Name) → IsLeftBlack left x → P x)
    → IsFollowedOut g (zones_in zones) P → IsClosedLeft g zones left
closed_left g zones P left to of f = record {
  inside = λ x b. f.inside x (of x b);
  edges = λ x y b e out. to y (f.edges x y (of x b) e out);
  values = λ m k v e bm bk out. to v (f.values m k v e (of m bm) (of k bk) out);
  keys = λ m v c t e bm bt out. to (Wrap c t) (f.keys m v c t e (of m bm) (of (Cell t) bt) out);
}

taken : (n : ℕ) (xs : List Name) (x : Name) → Contains (take n xs) x → Contains xs x
taken n xs x c = subst (λ ys. Contains ys x) (take-append-drop n xs)
    (Contains-append_left (take n xs) (drop n xs) x c)

-- names that are closed are a walk that is over, from these names
pub follows_itself : (g : GraphState) (w : WalkState) → w.next ≤ length w.names → IsFollowed g (Contains w.names)
    → Follows g w.names w
follows_itself g w within f = record {
  within = within;
  first = λ x c. c;
  sound = λ x c. from c;
  edges = λ x y c e. f.edges x y (taken w.next w.names x c) e;
  values = λ m k v e cm ck. f.values m k v e (taken w.next w.names m cm) (taken w.next w.names k ck);
  keys = λ m k v e cm ck. key m k v e (taken w.next w.names m cm) ck;
}
  where
    key : (m k v : Name) → value_of g m k ≡ Some v → Contains w.names m → HasDelegateIn (take w.next w.names) k
        → Contains w.names k
    key m (Cell n) v e cm ck = absurd ck
    key m (Wrap c t) v e cm ck = f.keys m v c t e cm (taken w.next w.names (Cell t) ck)

reached_from : (g : GraphState) (P Q : Name → Type 0) → ((x : Name) → P x → Closure g Q x) → {x : Name} → Closure g P x
    → Closure g Q x
reached_from g P Q h (from s) = h _ s
reached_from g P Q h (along r e) = along (reached_from g P Q h r) e
reached_from g P Q h (weak at m k) = weak at (reached_from g P Q h m) (reached_from g P Q h k)
reached_from g P Q h (delegate at m t) = delegate at (reached_from g P Q h m) (reached_from g P Q h t)

-- a name turns black: then what is reached from it and from what was black is black
pub goes_on_black : (g : GraphState) (P : Name → Type 0) (x : Name) (old new : WalkState)
    → ((y : Name) → P y → Contains old.names y) → ((y : Name) → Contains old.names y → P y)
    → old.next ≤ length old.names → IsFollowed g P → GoesOnFrom g (x ∷ []) old new
    → (y : Name) → Contains new.names y ↔ Closure g (λ s. P s ⊎ (x ≡ s)) y
goes_on_black g P x old new to of within f goes y = (
  λ c. reached_from g (Contains (old.names ++ x ∷ [])) (λ s. P s ⊎ (x ≡ s))
      (λ s h. elim (Contains-append_cases old.names (x ∷ []) s h) [
        | inl a ↦ from (inl (of s a))
        | inr b ↦ elim (contains_cases x [] s b) [ inl e ↦ from (inr e) | inr n ↦ absurd (nothing_in_none s n) ]
      ]) ((done.all y).0 c),
  λ r. (done.all y).1 (reached_from g (λ s. P s ⊎ (x ≡ s)) (Contains (old.names ++ x ∷ []))
      (λ s h. elim h [
        | inl p ↦ from (Contains-append_left old.names (x ∷ []) s (to s p))
        | inr e ↦ from (Contains-append_right old.names (x ∷ []) s
            (subst (λ z. Contains (x ∷ []) z) e (contains_head x [])))
      ]) r),
)
  where
    done : IsDone g (old.names ++ x ∷ []) new
    done = goes old.names (follows_itself g old within (followed_as g P (Contains old.names) to of f))
