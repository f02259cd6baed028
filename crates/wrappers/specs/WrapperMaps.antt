-- The wrappers of each zone.
use Rattle.std.specs.Prelude.{MatchBool, ◌≡◌, ◌≢◌, AllPairs, ◌==◌, ◌&&◌, ◌++◌, ◌∷◌, [], ℕ, Bool, not, List, Option}
use Rattle.std.specs.Prelude.{Some, None, length, map, filter, Contains, slice_get, slice_set, slice_index_or}
use Rattle.std.specs.Prelude.{if◌then◌else◌}
use Rattle.std.specs.Map.{lookup}
use Rattle.std.specs.declared.hash.FoldHasher.{FoldHasher}
use Rattle.std.specs.declared.hash.BuildHasherDefault.{BuildHasherDefault}
use Rattle.indexmap.specs.IndexMap.{IndexMap}
use Rattle.gz_names.specs.Moves.{moved}
use Rattle.gz_names.specs.declared.moves.Move.{Move}
use Rattle.gz_names.specs.declared.numbers.Place.{Place}
use Rattle.gz_names.specs.declared.numbers.ZoneNo.{ZoneNo}
use Rattle.wrappers.specs.declared.wrapper_maps.WrapperKey.{WrapperKey}

-- the wrappers of each of the 64 zones with their places, in the order in which they were added
pub record WrappersState : Type 0 where
  pub lists : List (List (WrapperKey × Place))

-- the wrappers of a zone; none for a zone that there can't be
abbrev pub list_at : List (List (WrapperKey × Place)) → ℕ → List (WrapperKey × Place)
list_at lists zone = slice_index_or lists zone []

abbrev pub list_of : WrappersState → ℕ → List (WrapperKey × Place)
list_of wrappers zone = list_at wrappers.lists zone

-- whether a key is that of a compartment and a target
abbrev pub is_key : ℕ → ℕ → WrapperKey → Bool
is_key comp target key = (comp == key.comp) && (target == key.target)

-- the first that is there
abbrev pub first_of : Option Place → Option Place → Option Place
first_of (Some place) rest = Some place
first_of None rest = rest

-- the place of the wrapper of a target in a compartment
abbrev pub place_at : List (List (WrapperKey × Place)) → ℕ → ℕ → Option Place
place_at [] comp target = None
place_at (entries ∷ lists) comp target = first_of (lookup (is_key comp target) entries) (place_at lists comp target)

abbrev pub place_of : WrappersState → ℕ → ℕ → Option Place
place_of wrappers comp target = place_at wrappers.lists comp target

-- one more wrapper of a zone, after those that are there
abbrev pub add_at : List (List (WrapperKey × Place)) → ℕ → WrapperKey → Place → List (List (WrapperKey × Place))
add_at lists zone key place = slice_set lists zone (list_at lists zone ++ (key, place) ∷ [])

-- the wrappers without those whose places were answered to be dead, each asked once
abbrev pub KeptBy : (Place → Bool → Type 0) → List (WrapperKey × Place) → List (WrapperKey × Place) → Type 0
KeptBy ask [] kept = kept ≡ []
KeptBy ask (e ∷ es) kept = (answer : Bool) × (rest : List (WrapperKey × Place)) × ask e.1 answer × KeptBy ask es rest
    × (kept ≡ (if answer then rest else (e ∷ rest)))

-- that, where a bit of a word says so
abbrev pub DropsDead : ℕ → (Place → Bool → Type 0) → List (WrapperKey × Place) → List (WrapperKey × Place) → Type 0
DropsDead bit ask old new = MatchBool (bit == 1) (KeptBy ask old new) (new ≡ old)

-- all answers are those of a test
abbrev pub AnswersBy : (Place → Bool → Type 0) → (Place → Bool) → Type 0
AnswersBy ask test = (place : Place) (answer : Bool) → ask place answer → answer ≡ test place

-- the wrappers without those at places that pass a test, where a bit of a word says so
abbrev pub without_dead : ℕ → (Place → Bool) → List (WrapperKey × Place) → List (WrapperKey × Place)
without_dead bit is_dead entries = if bit == 1 then filter (λ e. not (is_dead e.1)) entries else entries

-- the wrappers at the places to which moves take them
abbrev pub all_forwarded : List Move → List (WrapperKey × Place) → List (WrapperKey × Place)
all_forwarded moves entries = map (λ e. (e.0, moved moves e.1)) entries

-- the lists that maps hold
abbrev pub lists_of : List (IndexMap WrapperKey Place (BuildHasherDefault FoldHasher))
    → List (List (WrapperKey × Place))
lists_of maps = map (λ m. m.entries) maps

-- the wrappers of a zone are all of compartments whose zone it is
abbrev pub AreAtHome : List (List (WrapperKey × Place)) → List (Option ZoneNo) → Type 0
AreAtHome lists homes = (z : ℕ) (entry : WrapperKey × Place) → Contains (list_at lists z) entry
    → slice_get homes entry.0.comp ≡ Some (Some z)

-- no two wrappers of a zone have the same compartment and target
abbrev pub AreDistinct : List (List (WrapperKey × Place)) → Type 0
AreDistinct lists = (z : ℕ) → AllPairs (λ d e. d.0 ≢ e.0) (list_at lists z)

-- each compartment and target has at most one wrapper, and all wrappers of a compartment are in one zone
pub record AreApart (lists : List (List (WrapperKey × Place))) : Type 0 where
  pub distinct : AreDistinct lists
  pub one_zone : (y z : ℕ) (d e : WrapperKey × Place) → Contains (list_at lists y) d → Contains (list_at lists z) e
      → d.0.comp ≡ e.0.comp → y ≡ z

-- what always holds
pub record AreSound (lists : List (List (WrapperKey × Place))) (homes : List (Option ZoneNo)) : Type 0 where
  pub zones : length lists ≡ 64
  pub comps : length homes ≡ 256
  pub at_home : AreAtHome lists homes
  pub distinct : AreDistinct lists
