-- What commands change in a heap, by places.
use Rattle.std.specs.Prelude.{◌≡◌, ◌≢◌, ◌<◌, ℕ, suc, ◌+◌, ◌==◌, ◌&&◌, Bool, List, [], ◌∷◌, ◌++◌, length, Option, Some}
use Rattle.std.specs.Prelude.{None, is_none, is_some, if◌then◌else◌}
use Rattle.std.specs.Option.{option_map}
use Rattle.gz_names.specs.declared.commands.Kind.TheVariants as kind
use Rattle.gz_names.specs.declared.names.Name.TheVariants.{Wrap}
use Rattle.gz_names.specs.declared.numbers.CompNo.{CompNo}
use Rattle.gz_names.specs.declared.numbers.Place.{Place}
use Rattle.zones.specs.declared.states.State.TheVariants as state
use Rattle.cell_bits.specs.declared.bits.Colour.TheVariants as colour
use Rattle.arena_table.specs.Cells.{CellState, with_value}
use Rattle.arena_table.specs.Slots.{has_free, first_free}
use Rattle.arena_table.specs.Table.{is_place}
use Rattle.wrappers.specs.WrapperMaps.{place_of, list_of}
use Rattle.weak_maps.specs.Places.{is_same}
use Rattle.weak_maps.specs.Entries.{put_at}
use Rattle.weak_maps.specs.WeakMaps.{AreParallel, Carries, IsSound as AreEntries, KeepsRows, PutsLeft, delegate_of}
use Rattle.weak_maps.specs.WeakMaps.{rows_with, target_of, value_of}
use Rattle.heap_core.specs.Shape.{Shape, ArenaShape, AreWhole, cell_of, delegate_of_key, is_prepared, out_of, stored_at}
use Rattle.heap_core.specs.Shape.{zone_of}
use Rattle.heap_core.specs.Heap.{HeapState, colour_of, weak_of}

-- whether an arena takes new cells of a zone: it is one of the zone's, not handed to sweeping, and has a free slot
abbrev pub takes_cells : ℕ → ArenaShape → Bool
takes_cells zone arena = (arena.zone == zone) && (is_none arena.out && has_free arena.slots)

-- the place of the next cell of a zone, where the first arena of the list has the number n
abbrev pub next_place_from : ℕ → List ArenaShape → ℕ → Place
next_place_from n [] zone = (n, 0)
next_place_from n (arena ∷ arenas) zone = if takes_cells zone arena then (n, first_free arena.slots)
    else next_place_from (suc n) arenas zone

-- the place of the next cell of a zone
abbrev pub next_place : Shape → ℕ → Place
next_place s zone = next_place_from 0 s.arenas zone

-- a field of the cell at a place was written
pub record Writes (old : HeapState) (p : Place) (f : ℕ) (v : Option Place) (new : HeapState) : Type 0 where
  pub rest : new ≡ record old { shape = record old.shape { arenas = new.shape.arenas } }
  pub sized : length new.shape.arenas ≡ length old.shape.arenas
  pub zones : (q : Place) → zone_of new.shape q ≡ zone_of old.shape q
  pub outs : (a : ℕ) → out_of new.shape a ≡ out_of old.shape a
  pub cells : (q : Place)
      → cell_of new.shape q
      ≡ (if is_place q p then option_map (with_value f v) (cell_of old.shape q) else cell_of old.shape q)
  pub stored : (q : Place)
      → stored_at new.shape q
      ≡ (if is_place q p then option_map (with_value f v) (stored_at old.shape q) else stored_at old.shape q)
  pub whole : AreWhole old.shape.arenas → AreWhole new.shape.arenas

-- a cell was made at the next place of a zone: black, or if the zone is being prepared with the bits of its slot, which
-- are clear where nothing stands
pub record Makes (old : HeapState) (zone : ℕ) (p : Place) (cell : CellState) (new : HeapState) : Type 0 where
  pub rest : new ≡ record old {
    shape = record old.shape { arenas = new.shape.arenas };
    colours = new.colours;
    made = old.made + 1;
  }
  pub place_is : p ≡ next_place old.shape zone
  pub free : cell_of old.shape p ≡ None
  pub grown : length new.shape.arenas
      ≡ (if p.0 == length old.shape.arenas then length old.shape.arenas + 1 else length old.shape.arenas)
  pub coloured : length new.colours ≡ length new.shape.arenas
  pub below : zone < 64
  pub zone_is : zone_of new.shape p ≡ zone
  pub zones : (q : Place) → q.0 < length old.shape.arenas → zone_of new.shape q ≡ zone_of old.shape q
  pub outs : (a : ℕ) → out_of new.shape a ≡ out_of old.shape a
  pub in_place : out_of old.shape p.0 ≡ None
  pub cells : (q : Place) → cell_of new.shape q ≡ (if is_place q p then Some cell else cell_of old.shape q)
  pub stored : (q : Place) → stored_at new.shape q ≡ (if is_place q p then Some cell else stored_at old.shape q)
  pub whole : AreWhole old.shape.arenas → AreWhole new.shape.arenas
  pub born : colour_of new p ≡ (if is_prepared old.shape zone then colour_of old p else colour.Black)
  pub colours : (q : Place) → q ≢ p → colour_of new q ≡ colour_of old q

-- a wrapper: its one field holds its target
abbrev pub wrapper_cell : CompNo → ℕ → Place → CellState
wrapper_cell comp number target =
    record { kind = kind.Wrapper; comp = comp; name = Wrap comp number; fields = Some target ∷ [] }

-- a wrapper was made and found its way into the wrapper map
pub record MakesWrapper (old : HeapState) (zone : ℕ) (comp : CompNo) (number : ℕ) (target p : Place)
    (new : HeapState) : Type 0 where
  pub made : HeapState
  pub makes : Makes old zone p (wrapper_cell comp number target) made
  pub rest : new ≡ record made { shape = record made.shape { wrappers = new.shape.wrappers } }
  pub found : (c t : ℕ)
      → place_of new.shape.wrappers c t
      ≡ (if (c == comp.0) && (t == number) then Some p else place_of old.shape.wrappers c t)
  pub listed : list_of new.shape.wrappers zone ≡ list_of old.shape.wrappers zone
      ++ (record { comp = comp.0; target = number }, p) ∷ []
  pub others : (z : ℕ) → z ≢ zone → list_of new.shape.wrappers z ≡ list_of old.shape.wrappers z

-- the entry of a map's key has this value, and each other one is found as before; a new one stands after the others,
-- and is not to be looked at
pub record IsWith (old : HeapState) (map key value : Place) (new : HeapState) : Type 0 where
  pub rest : new ≡ record old { shape = record old.shape { weak = new.shape.weak }; looks = new.looks }
  pub values : (m k : Place)
      → value_of new.shape.weak m k
      ≡ (if is_same map m && is_same key k then Some value else value_of old.shape.weak m k)
  pub count : length new.shape.weak.entries ≡ length old.shape.weak.entries
      + (if is_some (value_of old.shape.weak map key) then 0 else 1)
  pub entries : new.shape.weak.entries ≡ put_at old.shape.weak.entries map key value
  pub rows : new.shape.weak.delegates.rows
      ≡ (if is_some (value_of old.shape.weak map key) then old.shape.weak.delegates.rows
      else rows_with old.shape.weak.delegates.rows (record { map = map; key = key }) (delegate_of_key old.shape key))
  pub delegates : (m k : Place) → delegate_of new.shape.weak m k
      ≡ (if is_none (value_of old.shape.weak map key) && (is_same map m && is_same key k)
      then target_of (delegate_of_key old.shape key) else delegate_of old.shape.weak m k)
  pub left : PutsLeft (value_of old.shape.weak map key) (delegate_of_key old.shape key) old.looks new.looks
  pub parallel : AreParallel (weak_of new)

-- an entry is there no more, and each other one is found as before, and is to be looked at as it was; no key of a map
-- has two, nor two rows
pub record IsWithout (old : HeapState) (map key : Place) (new : HeapState) : Type 0 where
  pub rest : new ≡ record old { shape = record old.shape { weak = new.shape.weak }; looks = new.looks }
  pub values : (m k : Place)
      → value_of new.shape.weak m k ≡ (if is_same map m && is_same key k then None else value_of old.shape.weak m k)
  pub count : length new.shape.weak.entries + (if is_some (value_of old.shape.weak map key) then 1 else 0)
      ≡ length old.shape.weak.entries
  pub rows : KeepsRows old.shape.weak new.shape.weak
  pub carries : Carries (weak_of old) (weak_of new)
  pub sound : AreEntries new.shape.weak
  pub parallel : AreParallel (weak_of new)

-- one more zone, in no collection; one more compartment of a zone; one more number for an object or a map
abbrev pub with_zone : HeapState → HeapState
with_zone h = record h { shape = record h.shape { states = h.shape.states ++ state.NoGC ∷ [] } }

abbrev pub with_comp : HeapState → ℕ → HeapState
with_comp h z = record h { shape = record h.shape { comps = h.shape.comps ++ z ∷ [] } }

abbrev pub with_number : HeapState → HeapState
with_number h = record h { shape = record h.shape { objects = h.shape.objects + 1 } }
