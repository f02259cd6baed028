-- Weak entries are started, and looked at.
use Rattle.std.specs.Prelude.{◌≡◌, ◌⊎◌, ◌+◌, ℕ, [], count_by, is_some}
use Rattle.gz_names.specs.declared.numbers.Place.{Place}
use Rattle.cell_bits.specs.declared.bits.Colour.{Colour}
use Rattle.cell_bits.specs.declared.bits.Colour.TheVariants as colour
use Rattle.mark_stack.specs.Stack.{Piles}
use Rattle.weak_maps.specs.Delegates.{DelegateRow}
use Rattle.weak_maps.specs.Entries.{Starts}
use Rattle.weak_maps.specs.WeakMaps.{AreParallel, LooksState, NoneLeft}
use Rattle.weak_maps.specs.declared.colours.MarkColour.{MarkColour}
use Rattle.weak_maps.specs.declared.colours.MarkColour.TheVariants as mark
use Rattle.weak_maps.specs.declared.entries.WeakEntry.{WeakEntry}
use Rattle.heap_core.specs.Shape.{IsDelegate}
use Rattle.heap_core.specs.Heap.{HeapState, colour_of, weak_of}
use Rattle.barriers.specs.Spreading.{Turns}
use Rattle.marker.specs.Shading.{Shades}

-- the entries of a cell are to be looked at, those of which it is the map, the key or the delegate; and each entry, and
-- each row, has its looks
pub record StartsLooks (c : MarkColour) (x : Place) (h k : HeapState) : Type 0 where
  pub map : Starts (λ (entry : WeakEntry). entry.map) c x h.shape.weak.entries h.looks.by_map k.looks.by_map
  pub key : Starts (λ (entry : WeakEntry). entry.key) c x h.shape.weak.entries h.looks.by_key k.looks.by_key
  pub delegate : Starts (λ (row : DelegateRow). row.target) c x h.shape.weak.delegates.rows h.looks.by_delegate
      k.looks.by_delegate
  pub parallel : AreParallel (weak_of k)

-- the heap with other entries to be looked at
abbrev pub with_looks : HeapState → LooksState → HeapState
with_looks h looks = record h { looks = looks }

-- of two colours the weaker one
abbrev pub weaker : Colour → Colour → Colour
weaker colour.White d = colour.White
weaker colour.Gray colour.White = colour.White
weaker colour.Gray colour.Gray = colour.Gray
weaker colour.Gray colour.Black = colour.Gray
weaker colour.Black d = d

-- a cell has at least a colour now, if its zone takes that
abbrev pub RaisesTo : Colour → HeapState → Piles → Place → HeapState → Piles → Type 0
RaisesTo colour.White h p v k q = (k ≡ h) × (q ≡ p)
RaisesTo colour.Gray h p v k q = Shades h p v k q
RaisesTo colour.Black h p v k q = Turns h p v k q

-- a cell has at least the weaker of the colours of two others, if its zone takes that
abbrev pub Raises : HeapState → Piles → Place → Place → Place → HeapState → Piles → Type 0
Raises h p a b x k q = RaisesTo (weaker (colour_of h a) (colour_of h b)) h p x k q

-- the key of an entry has at least the weaker of the colours of its map and its delegate, if it has one
abbrev pub RaisesKey : HeapState → Piles → Place → Place → HeapState → Piles → Type 0
RaisesKey h p m k l q =
    ((d : Place) × IsDelegate h.shape k d × Raises h p m d k l q)
    ⊎ (((d : Place) → IsDelegate h.shape k d → ⊥) × (l ≡ h) × (q ≡ p))

-- no cell is to be scanned in a colour, and for gray nothing is to be done in black
abbrev pub IsScanned : MarkColour → Piles → LooksState → Type 0
IsScanned mark.Black p looks = p.black ≡ []
IsScanned mark.Gray p looks = (p.black ≡ []) × (p.gray ≡ []) × NoneLeft mark.Black looks

-- the colour that marking gives a cell
abbrev pub cell_colour : MarkColour → Colour
cell_colour mark.Gray = colour.Gray
cell_colour mark.Black = colour.Black

-- how many looks are to come now
abbrev pub looks_now : LooksState → ℕ
looks_now looks =
    count_by is_some looks.by_map + (count_by is_some looks.by_key + count_by is_some looks.by_delegate)
