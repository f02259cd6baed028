-- The zone that owns an arena: none owns one that was given up.
use Rattle.std.proofs.Common.{◌≡◌, ◌<◌, ℕ, Bool, true, false, nat_lt, Option, Some, None, if◌then◌else◌, ap}
use Rattle.std.proofs.lemmas.Bool.{lt-ltb}
use Rattle.arena_table.specs.Slots.{no_zone}

-- by the zone that the arena has
abbrev pub owner_by : ℕ → Option ℕ
owner_by zone = if nat_lt zone no_zone then Some zone else None

pub owner_below : (zone : ℕ) → zone < 64 → owner_by zone ≡ Some zone
owner_below zone below = ap (λ b. if b then Some zone else None) (lt-ltb zone no_zone below)

pub owner_is : (zone other : ℕ) → owner_by zone ≡ Some other → zone ≡ other
owner_is zone other e = go (nat_lt zone no_zone) e
  where
    go : (b : Bool) → (if b then Some zone else None) ≡ Some other → zone ≡ other
    go true e = cc e
    go false e = absurd (cc e)
