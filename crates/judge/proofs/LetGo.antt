-- Names that go from a map, one after another.
use Rattle.std.proofs.Common.{◌≡◌, ◌∙◌, ℕ, ◌+◌, ◌<◌, ◌≤◌, inl, inr, Bool, true, false, cond, List, [], length, get_or}
use Rattle.std.proofs.Common.{take, Contains, Option, None, refl, ap, subst}
use Rattle.std.specs.BTreeMap as tree
use Rattle.std.specs.Ordering.{is_eq}
use Rattle.std.proofs.lemmas.List.{take_all}
use Rattle.gz_names.specs.declared.names.Name.{Name}
use Rattle.gz_names.specs.declared.numbers.Place.{Place}
use Rattle.colour_defs.proofs.Lists.{nothing_in_none}
use Rattle.plain_graph.specs.Indexed.{order_of}
use Rattle.plain_graph.proofs.Indexes.{order_itself}
use Rattle.plain_graph.proofs.Walks.{take_cases, take_new, take_old}
use Rattle.judge.specs.Cells.{Cells, LetsGo}
use Rattle.judge.proofs.Cells.{apart}

none_both : (b : Bool) (o : Option Place) → o ≡ None → cond b None o ≡ None
none_both true o e = refl
none_both false o e = e

pub lets_none : (cells : Cells) → LetsGo [] cells cells
lets_none cells = record { gone = λ x c. absurd (nothing_in_none x c); stay = λ x n. refl }

pub lets_more : (old mid new : Cells) (names : List Name) (i : ℕ) (d : Name) → i < length names
    → LetsGo (take i names) old mid → tree.Updates order_of mid new (get_or names i d) None
    → LetsGo (take (i + 1) names) old new
lets_more old mid new names i d below goes up = record { gone = gone; stay = stay }
  where
    gone : (x : Name) → Contains (take (i + 1) names) x → tree.get order_of new x ≡ None
    gone x c = elim (take_cases names i d x below c) [
      | inl o ↦ up.0 x ∙ none_both (is_eq (order_of (get_or names i d) x)) (tree.get order_of mid x) (goes.gone x o)
      | inr e ↦ up.0 x ∙ ap (λ b. cond b None (tree.get order_of mid x))
          (ap (λ z. is_eq (order_of z x)) e ∙ order_itself x)
    ]

    stay : (x : Name) → (Contains (take (i + 1) names) x → ⊥) → tree.get order_of new x ≡ tree.get order_of old x
    stay x n =
        up.0 x ∙ ap (λ b. cond b None (tree.get order_of mid x))
        (apart (get_or names i d) x (λ e. n (take_new names i d x below e)))
        ∙ goes.stay x (λ o. n (take_old names i d x below o))

pub lets_all : (old new : Cells) (names : List Name) (i : ℕ) → length names ≤ i → LetsGo (take i names) old new
    → LetsGo names old new
lets_all old new names i le goes = subst (λ xs. LetsGo xs old new) (take_all i names le) goes
