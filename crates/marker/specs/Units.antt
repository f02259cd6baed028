-- Units of marking: what they keep and take, and where there is no work.
use Rattle.std.specs.Prelude.{◌≡◌, ◌⊎◌, ◌↔◌, ◌<◌, ◌≤◌, ◌+◌, ℕ, Bool, true, [], length, Contains, Option, Some}
use Rattle.std.specs.Prelude.{IsTrue, MatchBool, slice_get, sum_by}
use Rattle.gz_names.specs.Zones.{HasZone}
use Rattle.gz_names.specs.declared.numbers.Place.{Place}
use Rattle.cell_bits.specs.declared.bits.Bits.{Bits}
use Rattle.cell_bits.specs.declared.bits.Colour.{Colour}
use Rattle.cell_bits.specs.declared.bits.Colour.TheVariants as colour
use Rattle.zones.specs.declared.states.State.TheVariants as state
use Rattle.mark_stack.specs.Stack.{Piles}
use Rattle.weak_maps.specs.WeakMaps.{HasLooked}
use Rattle.weak_maps.specs.declared.entries.WeakEntry.{WeakEntry}
use Rattle.weak_maps.specs.declared.colours.MarkColour.{MarkColour}
use Rattle.weak_maps.specs.declared.colours.MarkColour.TheVariants as mark
use Rattle.gray_lists.specs.Incoming.{Incoming, list_of, waiting_count}
use Rattle.heap_core.specs.Shape.{IsDelegate, Shape, is_marking, is_marking_state, state_in, state_of, zone_of}
use Rattle.heap_core.specs.Heap.{HeapState, colour_of, joined}
use Rattle.barriers.specs.Reached.{HasEntry, Reached}
use Rattle.barriers.specs.Colours.{HasGob, IsBlack, IsSeen, grays_outside}
use Rattle.barriers.specs.Pending.{pending}
use Rattle.barriers.specs.PendingBlack.{PendingBlack}
use Rattle.barriers.specs.PendingLive.{PendingLive, GrayInvariant, buffer_of}
use Rattle.barriers.specs.Invariant.{MarkingInvariant}
use Rattle.barriers.specs.Exposing.{KeepsLive}
use Rattle.barriers.specs.Scans.{ScansNoMore, black_scans, gray_scans}
use Rattle.barriers.specs.Spreading.{Blackens, Covers}
use Rattle.marker.specs.GrayBits.{AreGraying}
use Rattle.marker.specs.Waiting.{IsBlackOnlyComp, Noted}
use Rattle.marker.specs.Looks.{StartsLooks, with_looks}

-- a unit of marking: no cell loses its colour, and no slot a bit, and both pending closures are as they were
pub record Marks (h : HeapState) (p : Piles) (a : Incoming) (k : HeapState) (q : Piles) (b : Incoming) : Type 0 where
  pub rest : k ≡ record h { colours = k.colours; buffers = k.buffers; looks = k.looks }
  pub invariant : MarkingInvariant k q
  pub gray : GrayInvariant k q b
  pub black_kept : (y : Place) → IsBlack h y → IsBlack k y
  pub seen_kept : (y : Place) → IsSeen h y → IsSeen k y
  pub gob_kept : (y : Place) → HasGob h y → HasGob k y
  pub pending_black : (y : Place) → PendingBlack k q y ↔ PendingBlack h p y
  pub pending_live : (y : Place) → PendingLive k q b y ↔ PendingLive h p a y

-- a black cell of a marking zone was scanned: it may be scanned less often than before in black, and no cell more
-- often; and its entries are to be looked at
pub record ScansBlack (h : HeapState) (p : Piles) (k : HeapState) (q : Piles) : Type 0 where
  pub cell : Place
  pub black : IsBlack h cell
  pub zone : is_marking h.shape cell ≡ true
  pub fewer : black_scans k q cell < black_scans h p cell
  pub no_more : ScansNoMore h p k q
  pub starts : StartsLooks mark.Black cell h k

-- black marking followed a cell that was pending in black: black spread to what black cells reach, and both pending
-- closures are as they were
pub record FollowsBlack (h : HeapState) (p : Piles) (k : HeapState) (q : Piles) : Type 0 where
  pub invariant : MarkingInvariant k q
  pub blackens : Blackens (Reached h.shape (IsBlack h)) (with_looks h k.looks) k
  pub gray_is : q.gray ≡ p.gray
  pub pending_black : (y : Place) → PendingBlack k q y ↔ PendingBlack h p y
  pub pending_live : KeepsLive h p k q
  pub scans : ScansBlack h p k q

-- a cell of the gray pile was scanned: it may be scanned less often than before in gray, and is noted where it waits
-- for a zone that takes no gray yet; and its entries are to be looked at
pub record ScansGray (h : HeapState) (p : Piles) (a : Incoming) (k : HeapState) (q : Piles) (b : Incoming) : Type 0
  where
    pub cell : Place
    pub piled : Contains p.gray cell
    pub fewer : gray_scans k q cell < gray_scans h p cell
    pub noted : Noted h.shape cell a b
    pub buffers_are : k.buffers ≡ h.buffers
    pub starts : StartsLooks mark.Gray cell h k

-- what a piece of gray marking takes: a place out of a buffer, a wrapper off a list, or a cell of the gray pile
abbrev pub TakesOne : HeapState → Piles → Incoming → HeapState → Piles → Incoming → Type 0
TakesOne h p a k q b =
    ((sum_by length k.buffers < sum_by length h.buffers) × (b ≡ a) × (k.looks ≡ h.looks))
    ⊎ (((waiting_count b < waiting_count a) × (k.buffers ≡ h.buffers) × (k.looks ≡ h.looks))
    ⊎ ScansGray h p a k q b)

-- no gray work of a group is left: its pile is empty, and nothing waits for its zones
pub record IsGrayIdle (h : HeapState) (p : Piles) (lists : Incoming) (group : ℕ) : Type 0 where
  pub pile : p.gray ≡ []
  pub buffers : (z : ℕ) → HasZone group z → buffer_of h z ≡ []
  pub incoming : (z n : ℕ) → HasZone group z → slice_get h.shape.comps n ≡ Some z → list_of lists n ≡ []

-- a piece of gray marking: it takes one thing that waits and turns no cell black, and what waits now waited before, or
-- is new on the gray pile in a zone that takes gray, or new on the list of a compartment whose zone takes none yet
pub record DoesGray (h : HeapState) (p : Piles) (a : Incoming) (k : HeapState) (q : Piles) (b : Incoming) : Type 0 where
  pub marks : Marks h p a k q b
  pub takes : TakesOne h p a k q b
  pub scans : ScansNoMore h p k q
  pub black_is : (y : Place) → IsBlack k y ↔ IsBlack h y
  pub black_pile : q.black ≡ p.black
  pub grays_is : grays_outside k ≡ grays_outside h
  pub gray_pile : (x : Place) → Contains q.gray x → Contains p.gray x ⊎ (state_of h.shape x ≡ state.MarkBlackAndGray)
  pub buffered : (z : ℕ) (x : Place) → Contains (buffer_of k z) x → Contains (buffer_of h z) x
  pub incoming : (n : ℕ) (x : Place) → Contains (list_of b n) x → Contains (list_of a n) x ⊎ IsBlackOnlyComp h.shape n

-- what gray marking asks: edges are counted in this ledger, these zones are exactly those that take gray, exactly the
-- arenas that are handed to sweeping are in flight, and the invariants of both colours hold
pub record MayMarkGray (ledger zones : ℕ) (h : HeapState) (flown : ℕ → Option Bits) (p : Piles) (lists : Incoming)
    : Type 0 where
  pub counted : h.ledger ≡ Some ledger
  pub group : AreGraying h.shape zones
  pub covers : Covers h.shape flown
  pub invariant : MarkingInvariant (joined h flown) (pending h p)
  pub gray : GrayInvariant (joined h flown) (pending h p) lists

-- one kind of gray marking was tried for these zones, which reads at most this number of edges: a piece of it was done;
-- or there is none, and nothing was done
pub record TriesGray (did : Bool) (none : Type 0) (most zones : ℕ) (flown : ℕ → Option Bits) (h : HeapState) (p : Piles)
    (a : Incoming) (read : ℕ) (k : HeapState) (q : Piles) (b : Incoming) (now : ℕ) : Type 0 where
  pub does : MatchBool did (DoesGray (joined h flown) (pending h p) a (joined k flown) (pending k q) b)
      (none × (k ≡ h) × (q ≡ p) × (b ≡ a) × (now ≡ read))
  pub found : IsTrue did → IsGrayIdle h (pending h p) a zones → ⊥
  pub steps : now ≤ read + most

-- a cell has at least a colour
abbrev pub HasColour : HeapState → Colour → Place → Type 0
HasColour h colour.White x = Unit {0}
HasColour h colour.Gray x = IsSeen h x
HasColour h colour.Black x = IsBlack h x

-- the weak rule has no work for a colour and these zones: neither at values nor at keys that are wrappers
pub record IsFixed (h : HeapState) (c : Colour) (zones : ℕ) : Type 0 where
  pub values : (m k v : Place) → HasEntry h.shape m k v → HasColour h c m → HasColour h c k
      → HasZone zones (zone_of h.shape v) → HasColour h c v
  pub keys : (m k v d : Place) → HasEntry h.shape m k v → IsDelegate h.shape k d → HasColour h c m → HasColour h c d
      → HasZone zones (zone_of h.shape k) → HasColour h c k

-- for black these zones are marking, for gray they are exactly those that take gray
abbrev pub AreFor : Shape → Colour → ℕ → Type 0
AreFor s colour.White zones = ⊥
AreFor s colour.Gray zones = AreGraying s zones
AreFor s colour.Black zones = (z : ℕ) → HasZone zones z → is_marking_state (state_in s z) ≡ true

-- a look at one entry, which was to be looked at in a colour: its key was given the weaker of the colours of its map
-- and its delegate, and its value the weaker of the colours of its map and its key, each if its zone takes that, and
-- what became black outside marking zones was followed; so both pending closures are as they were, and no cell may be
-- scanned more often
pub record DoesLook (c : MarkColour) (h : HeapState) (p : Piles) (k : HeapState) (q : Piles) : Type 0 where
  pub entry : WeakEntry
  pub there : HasEntry h.shape entry.map entry.key entry.value
  pub looked : HasLooked c entry h.shape.weak h.looks k.looks
  pub rest : k ≡ record h { colours = k.colours; looks = k.looks }
  pub invariant : MarkingInvariant k q
  pub black_kept : (y : Place) → IsBlack h y → IsBlack k y
  pub seen_kept : (y : Place) → IsSeen h y → IsSeen k y
  pub gob_kept : (y : Place) → HasGob h y → HasGob k y
  pub coloured : (y : Place) → IsBlack k y ⊎ ((colour_of k y ≡ colour_of h y) ⊎ (is_marking h.shape y ≡ true))
  pub gray_pile : (y : Place) → Contains q.gray y → Contains p.gray y ⊎ (state_of h.shape y ≡ state.MarkBlackAndGray)
  pub pending_black : (y : Place) → PendingBlack k q y ↔ PendingBlack h p y
  pub pending_live : KeepsLive h p k q
  pub scans : ScansNoMore h p k q
