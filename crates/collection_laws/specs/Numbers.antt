-- What becomes of the numbers of objects and maps: each is given once, and listed once as freed.
use Rattle.std.specs.Prelude.{◌≡◌, ◌<◌, ◌≤◌, ◌+◌, ℕ, List, [], ◌∷◌, ◌++◌, Some, Contains, count_by, length, slice_get}
use Rattle.std.specs.FinMap as map
use Rattle.gz_names.specs.Order.{same_name}
use Rattle.gz_names.specs.declared.names.Name.{Name}
use Rattle.gz_names.specs.declared.names.Name.TheVariants.{Cell}
use Rattle.gz_names.specs.declared.replies.Reply.{Reply}
use Rattle.gz_names.specs.declared.replies.Reply.TheVariants as reply
use Rattle.gz_names.specs.declared.replies.Report.{Report}
use Rattle.gz_names.specs.declared.replies.Report.TheVariants as report
use Rattle.colour_defs.specs.Graph.{zone_of}
use Rattle.colour_defs.specs.World.{World, IsPresent}

-- a reply that a command on the graph may have
abbrev pub IsGraphReply : Reply → Type 0
IsGraphReply (reply.Zone z) = Unit {0}
IsGraphReply (reply.Comp c) = Unit {0}
IsGraphReply (reply.Made n) = Unit {0}
IsGraphReply (reply.Named x) = Unit {0}
IsGraphReply reply.Null = Unit {0}
IsGraphReply reply.Accepted = Unit {0}
IsGraphReply reply.Absent = Unit {0}
IsGraphReply reply.GcBegun = ⊥
IsGraphReply (reply.Sliced n) = ⊥
IsGraphReply reply.Collected = ⊥
IsGraphReply reply.ResetDone = ⊥
IsGraphReply (reply.Gray names) = ⊥
IsGraphReply (reply.Dump lines) = ⊥
IsGraphReply (reply.Compacted moved given) = ⊥
IsGraphReply (reply.Refused why) = Unit {0}

-- where this many numbers were given: a reply that gives one gives the next
abbrev pub GivesNext : ℕ → Reply → Type 0
GivesNext given (reply.Zone z) = Unit {0}
GivesNext given (reply.Comp c) = Unit {0}
GivesNext given (reply.Made n) = n ≡ given
GivesNext given (reply.Named x) = Unit {0}
GivesNext given reply.Null = Unit {0}
GivesNext given reply.Accepted = Unit {0}
GivesNext given reply.Absent = Unit {0}
GivesNext given reply.GcBegun = Unit {0}
GivesNext given (reply.Sliced n) = Unit {0}
GivesNext given reply.Collected = Unit {0}
GivesNext given reply.ResetDone = Unit {0}
GivesNext given (reply.Gray names) = Unit {0}
GivesNext given (reply.Dump lines) = Unit {0}
GivesNext given (reply.Compacted moved up) = Unit {0}
GivesNext given (reply.Refused why) = Unit {0}

-- how many were given after it
abbrev pub given_after : ℕ → Reply → ℕ
given_after given (reply.Zone z) = given
given_after given (reply.Comp c) = given
given_after given (reply.Made n) = given + 1
given_after given (reply.Named x) = given
given_after given reply.Null = given
given_after given reply.Accepted = given
given_after given reply.Absent = given
given_after given reply.GcBegun = given
given_after given (reply.Sliced n) = given
given_after given reply.Collected = given
given_after given reply.ResetDone = given
given_after given (reply.Gray names) = given
given_after given (reply.Dump lines) = given
given_after given (reply.Compacted moved up) = given
given_after given (reply.Refused why) = given

-- the names that reports list as freed
abbrev pub freed_in : List Report → List Name
freed_in [] = []
freed_in (report.Started ∷ rs) = freed_in rs
freed_in (report.Groups groups ∷ rs) = freed_in rs
freed_in (report.Ended zones grays told ∷ rs) = freed_in rs
freed_in (report.Swept arena names ∷ rs) = names ++ freed_in rs
freed_in (report.Done ∷ rs) = freed_in rs
freed_in (report.Stopped zones ∷ rs) = freed_in rs

-- how often a list has the name of the object or map with this number
abbrev pub times_in : List Name → ℕ → ℕ
times_in names n = count_by (λ x. same_name x (Cell n)) names

-- a cell that was white as its group ended, and is not swept yet
abbrev pub IsUnswept : World → Name → Type 0
IsUnswept w x = (p : ℕ × ℕ) × Contains {X = Name × (ℕ × ℕ)} w.white (x, p)

-- each present cell lies in an arena of its zone, and each that is not swept yet lies at one place, in an arena that is
-- out
pub record LiesInArenas (w : World) : Type 0 where
  pub owned : (x : Name) (p : ℕ × ℕ) → map.get w.places x ≡ Some p → (z : ℕ) × (zone_of w.graph x ≡ Some z)
      × (slice_get w.owner p.0 ≡ Some (Some z))
  pub unswept_out : (x : Name) (p : ℕ × ℕ) → Contains {X = Name × (ℕ × ℕ)} w.white (x, p) → Contains w.out p.0
  pub unswept_once : (x : Name) (p q : ℕ × ℕ) → Contains {X = Name × (ℕ × ℕ)} w.white (x, p)
      → Contains {X = Name × (ℕ × ℕ)} w.white (x, q) → p ≡ q

-- the numbers below this one were given, and reports listed these names as freed: the cell of each number that was
-- given
-- is present, or not swept yet, or listed as freed. It is one of the three alone, and listed once
pub record IsAccounted (w : World) (given : ℕ) (freed : List Name) : Type 0 where
  pub lies : LiesInArenas w
  pub given_is : length w.graph.objects ≡ given
  pub present : (n : ℕ) → IsPresent w (Cell n) → (n < given) × (times_in freed n ≡ 0)
  pub unswept : (n : ℕ) → IsUnswept w (Cell n) → (n < given) × (times_in freed n ≡ 0) × (IsPresent w (Cell n) → ⊥)
  pub told : (n : ℕ) → n < given → (IsPresent w (Cell n) → ⊥) → (IsUnswept w (Cell n) → ⊥) → times_in freed n ≡ 1
  pub others : (n : ℕ) → given ≤ n → times_in freed n ≡ 0
