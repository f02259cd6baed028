-- What turns black of the zones that a collection leaves out, while its own are being prepared.
use Rattle.std.specs.Prelude.{◌≡◌, ◌⊎◌, ◌↔◌, ℕ, List, ◌++◌, Option, Some, Contains}
use Rattle.std.specs.BTreeSet.{BTreeSet}
use Rattle.gz_names.specs.Zones.{zones_in}
use Rattle.gz_names.specs.declared.zone_sets.ZoneSet.{ZoneSet}
use Rattle.gz_names.specs.declared.names.Name.{Name}
use Rattle.gz_names.specs.declared.names.Name.TheVariants.{Cell, Wrap}
use Rattle.gz_names.specs.declared.numbers.CompNo.{CompNo}
use Rattle.colour_defs.specs.Closure.{ClosureWithin, HasEdge}
use Rattle.colour_defs.specs.Graph.{GraphState, IsInZones, value_of}
use Rattle.plain_graph.specs.Reach.{Waits}
use Rattle.judge.specs.Walks.{IsLeftBlack}
use Rattle.judge.specs.declared.preparation.Preparation.{Preparation}

abbrev pub HasLeft : Preparation → Name → Type 0
HasLeft l x = IsLeftBlack (Some l.black) x

-- a name is of none of the zones that are being prepared
abbrev pub IsOutOf : GraphState → ZoneSet → Name → Type 0
IsOutOf g zones x = IsInZones g (zones_in zones) x → ⊥

abbrev pub IsOut : GraphState → Preparation → Name → Type 0
IsOut g l x = IsOutOf g l.zones x

-- names were added; these are listed in the order in which they were found
pub record Extends (old new : Preparation) : Type 0 where
  pub zones_are : new.zones ≡ old.zones
  pub more : List Name
  pub found_are : new.found.items ≡ old.found.items ++ more
  pub keeps : (x : Name) → HasLeft old x → HasLeft new x
  pub found : (x : Name) → HasLeft new x → HasLeft old x ⊎ Contains more x
  pub there : (x : Name) → Contains more x → HasLeft new x

-- the names that meet P and are left out were added, and no others
pub record Adds (g : GraphState) (old new : Preparation) (P : Name → Type 0) : Type 0 where
  pub extends : Extends old new
  pub only : (x : Name) → HasLeft new x → HasLeft old x ⊎ (P x × IsOut g old x)
  pub all : (x : Name) → P x → IsOut g old x → HasLeft new x

-- all that is black is left out
abbrev pub AreOut : GraphState → Preparation → Type 0
AreOut g l = (x : Name) → HasLeft l x → IsOut g l x

-- all that is black is reached from what was black, among the names that are left out
abbrev pub AreReached : GraphState → Preparation → Preparation → Type 0
AreReached g old new = (x : Name) → HasLeft new x → ClosureWithin g (IsOut g old) (HasLeft old) x

-- what entries of these maps and keys keep by the old names was added
pub record Keeps (g : GraphState) (IsPair : Name → Name → Type 0) (old new : Preparation) : Type 0 where
  pub extends : Extends old new
  pub values : (m k v : Name) → IsPair m k → value_of g m k ≡ Some v → HasLeft old m → HasLeft old k → IsOut g old v
      → HasLeft new v
  pub keys : (m v : Name) (c : CompNo) (t : ℕ) → IsPair m (Wrap c t) → value_of g m (Wrap c t) ≡ Some v → HasLeft old m
      → HasLeft old (Cell t) → IsOut g old (Wrap c t) → HasLeft new (Wrap c t)
  pub sound : AreOut g old → AreReached g old new

-- a name was visited: what it leads to was added, and what entries keep that wait for it
pub record Visits (g : GraphState) (x : Name) (old new : Preparation) : Type 0 where
  pub entries : Keeps g (Waits x) old new
  pub edges : (y : Name) → HasEdge g x y → IsOut g old y → HasLeft new y

-- what is black is left out, and with it what it leads to among the names that are left out
pub record IsClosedLeft (g : GraphState) (zones : ZoneSet) (black : Option (BTreeSet Name)) : Type 0 where
  pub inside : (x : Name) → IsLeftBlack black x → IsOutOf g zones x
  pub edges : (x y : Name) → IsLeftBlack black x → HasEdge g x y → IsOutOf g zones y → IsLeftBlack black y
  pub values : (m k v : Name) → value_of g m k ≡ Some v → IsLeftBlack black m → IsLeftBlack black k
      → IsOutOf g zones v → IsLeftBlack black v
  pub keys : (m v : Name) (c : CompNo) (t : ℕ) → value_of g m (Wrap c t) ≡ Some v → IsLeftBlack black m
      → IsLeftBlack black (Cell t) → IsOutOf g zones (Wrap c t) → IsLeftBlack black (Wrap c t)

-- some names turn black while these zones are being prepared, and what is reached from there and from what was black
-- among the names that are left out, if what was black was closed
abbrev pub GrowsLeft : GraphState → ZoneSet → (Name → Type 0) → Option (BTreeSet Name) → Option (BTreeSet Name)
    → Type 0
GrowsLeft g zones P old new =
    IsClosedLeft g zones old → (y : Name)
    → IsLeftBlack new y ↔ ClosureWithin g (IsOutOf g zones) (λ s. IsLeftBlack old s ⊎ P s) y

-- one of two names that there may be
abbrev pub IsEither : Option Name → Option Name → Name → Type 0
IsEither x also s = (x ≡ Some s) ⊎ (also ≡ Some s)

-- the target of this name is black, if it is a wrapper
abbrev pub HasDelegateLeft : Preparation → Name → Type 0
HasDelegateLeft l (Cell n) = ⊥
HasDelegateLeft l (Wrap c t) = HasLeft l (Cell t)
