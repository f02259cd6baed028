-- Cells that are watched, and those that are watched no longer.
use Rattle.std.proofs.Common.{◌≡◌, ◌↔◌, ◌∙◌, ℕ, ◌+◌, ◌<◌, ◌≤◌, inl, inr, ◌⊎◌, Bool, true, false, List, []}
use Rattle.std.proofs.Common.{length, get_or, take, Contains, refl, sym, ap, subst}
use Rattle.std.specs.BTreeSet as sorted
use Rattle.std.specs.BTreeSet.{BTreeSet}
use Rattle.std.specs.Ordering.{is_eq}
use Rattle.std.proofs.lemmas.List.{take_all}
use Rattle.gz_names.specs.declared.names.Name.{Name}
use Rattle.colour_defs.proofs.Lists.{nothing_in_none}
use Rattle.plain_graph.specs.Indexed.{order_of}
use Rattle.plain_graph.proofs.Indexes.{order_itself, order_ties}
use Rattle.plain_graph.proofs.Walks.{take_cases, take_new, take_old}
use Rattle.judge.specs.Weak.{AreUnwatched, IsWatched, Unwatches, Watches, is_watched}
use Rattle.judge.specs.declared.weak.WeakNames.{WeakNames}
use Rattle.judge.proofs.Cells.{apart}

pub watches_of : (old new : WeakNames) (x : Name) → new.slots ≡ old.slots
    → sorted.Updates order_of old.watched new.watched x true → Watches old x new
watches_of old new x slots up =
    record { slots_are = slots; here = up.1; others = λ y n. up.2 y (apart x y n) }

pub unwatches_of : (old new : WeakNames) (x : Name) → new.slots ≡ old.slots
    → sorted.Updates order_of old.watched new.watched x false → Unwatches old x new
unwatches_of old new x slots up =
    record { slots_are = slots; here = up.1; others = λ y n. up.2 y (apart x y n) }

-- names that are the same, or differ
pub same_or_not : (x y : Name) → (x ≡ y) ⊎ (x ≡ y → ⊥)
same_or_not x y = go (is_eq (order_of x y)) refl
  where
    go : (b : Bool) → is_eq (order_of x y) ≡ b → (x ≡ y) ⊎ (x ≡ y → ⊥)
    go true e = inl (order_ties x y e)
    go false e = inr (λ s. let t = ap (λ z. is_eq (order_of x z)) s in let h = order_itself x in cc (t, h, e))

-- names are watched no longer, one after another
pub unwatched_none : (weak : WeakNames) → AreUnwatched weak [] weak
unwatched_none weak x = (λ w. (w, λ c. nothing_in_none x c), λ w. w.0)

pub unwatched_more : (old mid new : WeakNames) (names : List Name) (i : ℕ) (d : Name) → i < length names
    → AreUnwatched old (take i names) mid → Unwatches mid (get_or names i d) new
    → AreUnwatched old (take (i + 1) names) new
unwatched_more old mid new names i d below before one x = (to, from)
  where
    y : Name
    y = get_or names i d

    to : IsWatched new x → IsWatched old x × (Contains (take (i + 1) names) x → ⊥)
    to w = elim (same_or_not y x) [
      | inl same ↦ absurd (let gone = ap (is_watched new) (sym same) ∙ one.here in cc (w, gone))
      | inr other ↦ let was = (before x).0 (sym (one.others x other) ∙ w) in (
        was.0,
        λ c. elim (take_cases names i d x below c) [ inl o ↦ was.1 o | inr e ↦ other e ],
      )
    ]

    from : IsWatched old x × (Contains (take (i + 1) names) x → ⊥) → IsWatched new x
    from w =
        one.others x (λ e. w.1 (take_new names i d x below e))
        ∙ (before x).1 (w.0, λ c. w.1 (take_old names i d x below c))

pub unwatched_all : (old new : WeakNames) (names : List Name) (i : ℕ) → length names ≤ i
    → AreUnwatched old (take i names) new → AreUnwatched old names new
unwatched_all old new names i le un = subst (λ xs. AreUnwatched old xs new) (take_all i names le) un

pub unwatched_as : (old mid new : WeakNames) (names told : List Name) → new.watched ≡ mid.watched → told ≡ names
    → AreUnwatched old names mid → AreUnwatched old told new
unwatched_as old mid new names told same list un x =
    let has = ap (λ (s : BTreeSet Name). sorted.contains order_of s x) same in
    subst (λ (ns : List Name). IsWatched new x ↔ (IsWatched old x × (Contains ns x → ⊥))) (sym list)
    (λ w. (un x).0 (sym has ∙ w), λ h. has ∙ (un x).1 h)
