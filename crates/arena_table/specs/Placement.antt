-- Where a new cell goes.
use Rattle.std.specs.Prelude.{ℕ, suc, List, [], ◌∷◌, Some, if◌then◌else◌}
use Rattle.gz_names.specs.declared.numbers.Place.{Place}
use Rattle.arena_table.specs.Slots.{Arena, first_free}
use Rattle.arena_table.specs.Indexed.{is_open}

-- the lowest arena that takes cells of the zone, at its lowest free slot; else slot 0 of a new arena. The first of the
-- list has the number n
abbrev pub place_from : ℕ → List Arena → ℕ → Place
place_from n [] zone = (n, 0)
place_from n (arena ∷ arenas) zone = if is_open zone (Some arena) then (n, first_free arena.slots)
    else place_from (suc n) arenas zone

abbrev pub place_for : List Arena → ℕ → Place
place_for arenas zone = place_from 0 arenas zone
