-- What weak slots name, and which cells are watched.
use Rattle.std.specs.Prelude.{◌≡◌, ℕ, Bool, not, List, [], Option, Some, None, map, filter, nat_eq, replicate}
use Rattle.std.specs.Prelude.{slice_set, if◌then◌else◌}
use Rattle.std.specs.List.{list_any}
use Rattle.indexmap.specs.IndexSet.{insert_key, swap_remove_by}
use Rattle.std.specs.Ordering.{eq_of_both, on}
use Rattle.std.specs.Option.{option_map}
use Rattle.gz_names.specs.Moves.{moved}
use Rattle.gz_names.specs.declared.moves.Move.{Move}
use Rattle.gz_names.specs.declared.numbers.Place.{Place}

-- what each weak slot names, and the cells that are watched, each once
pub record WeakNamesState : Type 0 where
  pub slots : List (Option Place)
  pub watched : List Place

-- no slot names a cell, and none is watched
abbrev pub no_names : WeakNamesState
no_names = record { slots = replicate 64 None; watched = [] }

-- whether two places are the same
abbrev pub is_same : Place → Place → Bool
is_same = eq_of_both (on (λ p. p.0) nat_eq) (on (λ p. p.1) nat_eq)

-- a slot names this; a cell is watched, and is not
abbrev pub with_slot : WeakNamesState → ℕ → Option Place → WeakNamesState
with_slot names q place = record names { slots = slice_set names.slots q place }

abbrev pub with_watched : WeakNamesState → Place → WeakNamesState
with_watched names place = record names { watched = insert_key is_same names.watched place }

abbrev pub without_watched : WeakNamesState → Place → WeakNamesState
without_watched names place = record names { watched = swap_remove_by (is_same place) names.watched }

-- whether a cell is watched
abbrev pub is_watched : WeakNamesState → Place → Bool
is_watched names place = list_any (is_same place) names.watched

-- what a slot named, if that is not dead
abbrev pub unless_dead : (Place → Bool) → Option Place → Option Place
unless_dead is_dead None = None
unless_dead is_dead (Some place) = if is_dead place then None else Some place

-- the names at the places to which moves take the cells
abbrev pub names_forwarded : List Move → WeakNamesState → WeakNamesState
names_forwarded moves names = record {
  slots = map (option_map (moved moves)) names.slots;
  watched = map (moved moves) names.watched;
}

-- all answers are those of a test
abbrev pub AnswersBy : (Place → Bool → Type 0) → (Place → Bool) → Type 0
AnswersBy ask test = (place : Place) (answer : Bool) → ask place answer → answer ≡ test place

-- without the dead
abbrev pub without_dead : (Place → Bool) → WeakNamesState → WeakNamesState
without_dead is_dead names = record {
  slots = map (unless_dead is_dead) names.slots;
  watched = filter (λ place. not (is_dead place)) names.watched;
}
