-- Cells of a zone go to free slots of its lower arenas, and all that names them names their new places.
use Rattle.std.specs.Prelude.{◌≡◌, ◌≢◌, ◌⊎◌, ◌<◌, ◌≤◌, ◌+◌, ◌==◌, ◌&&◌, ℕ, zero, suc, Bool, List, [], ◌∷◌, length, map}
use Rattle.std.specs.Prelude.{AllPairs, Contains, IsSome, Option, Some, None, nat_le, slice_get, slice_set}
use Rattle.std.specs.Prelude.{if◌then◌else◌}
use Rattle.std.specs.Option.{option_map}
use Rattle.gz_names.specs.Moves.{IsGoal, IsLeft, moved}
use Rattle.gz_names.specs.declared.commands.Kind.TheVariants as kind
use Rattle.gz_names.specs.declared.moves.Move.{Move}
use Rattle.gz_names.specs.declared.numbers.Place.{Place}
use Rattle.cell_bits.specs.declared.bits.Colour.TheVariants as colour
use Rattle.gz_names.specs.declared.zone_sets.ZoneSet.{ZoneSet}
use Rattle.arena_table.specs.Cells.{CellState}
use Rattle.arena_table.specs.Moving.{GoInside, forwarded}
use Rattle.arena_table.specs.Slots.{Arena, cell_at, no_zone}
use Rattle.arena_table.specs.Table.{ArenasState}
use Rattle.wrappers.specs.TargetZones.{IsNoted}
use Rattle.wrappers.specs.WrapperMaps.{WrappersState, all_forwarded, list_of}
use Rattle.wrappers.specs.declared.wrapper_maps.WrapperKey.{WrapperKey}
use Rattle.weak_maps.specs.Moving.{table_forwarded}
use Rattle.weak_maps.specs.WeakMaps.{delegate_of, value_of}
use Rattle.weak_refs.specs.WeakNames.{names_forwarded}
use Rattle.colour_defs.specs.Graph.{GraphState}
use Rattle.heap_core.specs.Answers.{IsSound}
use Rattle.heap_core.specs.Heap.{HeapState, colour_of}
use Rattle.heap_core.specs.Shape.{ArenaShape, AreWhole, IsDelegate, IsPresent, Shape, cell_of, field_at, out_of}
use Rattle.heap_core.specs.Shape.{zone_of}
use Rattle.heap_core.specs.Shows.{Shows}

-- the cells of a zone in its arenas from a number on leave these, each for a slot that is free, of an arena of the zone
-- below the number
pub record AreMoves (s : Shape) (zone first : ℕ) (moves : List Move) : Type 0 where
  pub from : (m : Move) → Contains moves m → IsPresent s m.from × (zone_of s m.from ≡ zone) × (first ≤ m.from.0)
  pub all : (p : Place) → IsPresent s p → zone_of s p ≡ zone → first ≤ p.0 → IsLeft moves p
  pub made : (m : Move) → Contains moves m → (m.to.0 < length s.arenas) × (zone_of s m.to ≡ zone) × (m.to.0 < first)
  pub free : (m : Move) → Contains moves m → cell_of s m.to ≡ None
  pub apart : AllPairs (λ m n. m.to ≢ n.to) moves

-- cells of a zone leave places, each for a slot that is free, of an arena of the zone
pub record AreCarried (s : Shape) (zone : ℕ) (moves : List Move) : Type 0 where
  pub from : (m : Move) → Contains moves m → IsPresent s m.from × (zone_of s m.from ≡ zone)
  pub made : (m : Move) → Contains moves m → (m.to.0 < length s.arenas) × (zone_of s m.to ≡ zone)
  pub free : (m : Move) → Contains moves m → cell_of s m.to ≡ None
  pub apart : AllPairs (λ m n. m.to ≢ n.to) moves

-- what may be moved: each arena has all its slots and none is handed to sweeping, each cell is one of a zone that was
-- made, only wrappers lead out of a zone, and what is named weakly is present
pub record MayRelocate (h : HeapState) : Type 0 where
  pub sound : IsSound h
  pub whole : AreWhole h.shape.arenas
  pub kept : (a : ℕ) → out_of h.shape a ≡ None
  pub made : (p : Place) → IsPresent h.shape p → zone_of h.shape p < length h.shape.states
  pub across : (p q : Place) (f : ℕ) → field_at h.shape p f ≡ Some q → zone_of h.shape q ≢ zone_of h.shape p
      → option_map (λ cell. cell.kind) (cell_of h.shape p) ≡ Some kind.Wrapper
  pub delegates : (m k v d : Place) → value_of h.shape.weak m k ≡ Some v → delegate_of h.shape.weak m k ≡ Some d
      → IsDelegate h.shape k d
  pub slots_held : (p : Place) → Contains h.weak_names.slots (Some p) → IsPresent h.shape p
  pub watched_held : (p : Place) → Contains h.weak_names.watched p → IsPresent h.shape p

-- whether an arena is one of a zone from a number on
abbrev pub is_from : ℕ → ℕ → ℕ → ArenaShape → Bool
is_from zone first n arena = nat_le first n && (arena.zone == zone)

-- how many of these arenas there are, where the first of the list has the number n
abbrev pub count_from : ℕ → ℕ → ℕ → List ArenaShape → ℕ
count_from zone first n [] = zero
count_from zone first n (arena ∷ arenas) =
    (if is_from zone first n arena then 1 else 0) + count_from zone first (suc n) arenas

-- the zones of arenas where these are given up
abbrev pub zones_from : ℕ → ℕ → ℕ → List ArenaShape → List ℕ
zones_from zone first n [] = []
zones_from zone first n (arena ∷ arenas) =
    (if is_from zone first n arena then no_zone else arena.zone) ∷ zones_from zone first (suc n) arenas

abbrev pub wrappers_forwarded : List Move → ℕ → WrappersState → WrappersState
wrappers_forwarded moves zone wrappers =
    record { lists = slice_set wrappers.lists zone (all_forwarded moves (list_of wrappers zone)) }

-- the zones of the arenas
abbrev pub zones_now : HeapState → List ℕ
zones_now h = map (λ (arena : ArenaShape). arena.zone) h.shape.arenas

-- the cells of a zone went where moves take them, with their colours; all that named them names their new places; and
-- the arenas are of these zones then
pub record Carries (zones_then : List ℕ) (old : HeapState) (zone : ℕ) (moves : List Move) (new : HeapState) : Type 0
  where
    pub rest : new ≡ record old {
      shape = record old.shape {
        arenas = new.shape.arenas;
        wrappers = wrappers_forwarded moves zone old.shape.wrappers;
        weak = table_forwarded moves old.shape.weak;
        regs = map (option_map (moved moves)) old.shape.regs;
        slots = map (option_map (moved moves)) old.shape.slots;
      };
      colours = new.colours;
      weak_names = names_forwarded moves old.weak_names;
    }
    pub cells : (p : Place) → IsPresent old.shape p
        → cell_of new.shape (moved moves p) ≡ option_map (forwarded moves) (cell_of old.shape p)
    pub back : (q : Place) → IsPresent new.shape q → (p : Place) × IsPresent old.shape p × (moved moves p ≡ q)
    pub zones : (p : Place) → IsPresent old.shape p → zone_of new.shape (moved moves p) ≡ zone_of old.shape p
    pub colours : (p : Place) → IsPresent old.shape p → colour_of new (moved moves p) ≡ colour_of old p
    pub clear : ((p : Place) → colour_of old p ≢ colour.White → IsPresent old.shape p)
        → (q : Place) → colour_of new q ≢ colour.White → IsPresent new.shape q
    pub owners : zones_now new ≡ zones_then
    pub outs : (a : ℕ) → out_of new.shape a ≡ None
    pub whole : AreWhole old.shape.arenas → AreWhole new.shape.arenas
    pub sized : length old.colours ≡ length old.shape.arenas → length new.colours ≡ length new.shape.arenas
    pub shows : (g : GraphState) → Shows old g → Shows new g

-- so it is, and the arenas of the zone from a number on are given up
abbrev pub Relocates : HeapState → ℕ → ℕ → List Move → HeapState → Type 0
Relocates old zone first moves new = Carries (zones_from zone first 0 old.shape.arenas) old zone moves new

-- the place that is listed as that of a zone's wrapper
abbrev pub listed_at : WrappersState → ℕ → ℕ → Option Place
listed_at w z k = option_map (λ (e : WrapperKey × Place). e.1) (slice_get (list_of w z) k)

pub record IsListedIn (w : WrappersState) (z : ℕ) (p : Place) : Type 0 where
  pub index : ℕ
  pub listed : listed_at w z index ≡ Some p

-- so it is in one of the zones but this one, for which this one is noted
pub record LeadsInto (w : WrappersState) (noted : List ZoneSet) (zone : ℕ) (p : Place) : Type 0 where
  pub from : ℕ
  pub below : from < 64
  pub other : from ≢ zone
  pub is_noted : IsNoted noted from zone
  pub listed : IsListedIn w from p

-- a cell stands where a wrapper is listed, moves go into arenas that were made, and none goes to a place that is left
pub record MayForward (arenas : List Arena) (w : WrappersState) (moves : List Move) : Type 0 where
  pub standing : (z k : ℕ) (p : Place) → listed_at w z k ≡ Some p → IsSome (cell_at arenas p)
  pub inside : GoInside arenas moves
  pub clear : (p : Place) → IsLeft moves p → IsGoal moves p → ⊥

-- an arena without its cells
abbrev pub bare : Arena → Arena
bare arena = record arena { slots = map (λ (o : Option CellState). None) arena.slots }

-- the cells at these places lead to where their cells have gone, and perhaps others do, too
pub record Forwards (Those : Place → Type 0) (moves : List Move) (old new : ArenasState) : Type 0 where
  pub rest : new ≡ record old { arenas = new.arenas }
  pub kept : map bare new.arenas ≡ map bare old.arenas
  pub those : (p : Place) → Those p → cell_at new.arenas p ≡ option_map (forwarded moves) (cell_at old.arenas p)
  pub others : (p : Place) → (cell_at new.arenas p ≡ cell_at old.arenas p)
      ⊎ (cell_at new.arenas p ≡ option_map (forwarded moves) (cell_at old.arenas p))
