-- The next name of some behind another one.
use Rattle.std.specs.Prelude.{◌≡◌, ◌++◌, List, Option, Some, None, IsTrue, Contains}
use Rattle.std.specs.Ordering.{is_lt}
use Rattle.gz_names.specs.declared.names.Name.{Name}
use Rattle.gz_names.specs.Order.{name_cmp}

-- a name comes behind another one; each comes behind none
abbrev pub IsBehind : Option Name → Name → Type 0
IsBehind None x = Unit {0}
IsBehind (Some y) x = IsTrue (is_lt (name_cmp y x))

-- a name comes before another one; each comes before none
abbrev pub IsBefore : Name → Option Name → Type 0
IsBefore x None = Unit {0}
IsBefore x (Some y) = IsTrue (is_lt (name_cmp x y))

-- the first name behind another one that meets P; there is none only if none behind it meets P
pub record IsNext (P : Name → Type 0) (after next : Option Name) : Type 0 where
  pub meets : (x : Name) → next ≡ Some x → P x × IsBehind after x
  pub first : (x : Name) → P x → IsBehind after x → IsBefore x next → ⊥

-- the first of some names was known; now it is the first of these names as well
abbrev pub Picks : Option Name → Option Name → List Name → Option Name → Type 0
Picks after old names new = (seen : List Name) → IsNext (Contains seen) after old
    → IsNext (Contains (seen ++ names)) after new
