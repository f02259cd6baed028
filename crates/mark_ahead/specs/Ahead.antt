-- Black marking followed at once all that was pending.
use Rattle.std.specs.Prelude.{◌≡◌, ◌⊎◌, ◌↔◌, ◌<◌, ℕ, true, false, List, [], ◌∷◌, length, Contains, get_or}
use Rattle.std.specs.Prelude.{slice_index}
use Rattle.std.specs.Int.{bit_at}
use Rattle.gz_names.specs.declared.numbers.Place.{Place}
use Rattle.cell_bits.specs.declared.bits.Bits.{Bits}
use Rattle.mark_stack.specs.Stack.{IsPushed, Piles}
use Rattle.mark_stack.specs.declared.stack.Pile.TheVariants as pile
use Rattle.mark_words.specs.Rule.{bit_of}
use Rattle.weak_maps.specs.WeakMaps.{IsSound, LooksState}
use Rattle.weak_maps.specs.declared.colours.MarkColour.{MarkColour}
use Rattle.weak_maps.specs.declared.colours.MarkColour.TheVariants as mark
use Rattle.heap_core.specs.Shape.{IsPresent, field_at, is_marking}
use Rattle.heap_core.specs.Heap.{HeapState}
use Rattle.barriers.specs.Reached.{Reached}
use Rattle.barriers.specs.Colours.{IsBlack}
use Rattle.barriers.specs.Pending.{pending}
use Rattle.barriers.specs.PendingBlack.{PendingBlack}
use Rattle.barriers.specs.Invariant.{MarkingInvariant}
use Rattle.barriers.specs.Exposing.{KeepsLive}
use Rattle.barriers.specs.Scans.{ScansNoMore}
use Rattle.barriers.specs.Spreading.{Blackens}
use Rattle.mark_ahead.specs.Blackening.{HasBlackened}
use Rattle.marker.specs.Looks.{StartsLooks, with_looks}
use Rattle.marker.specs.UnitsToCome.{units_at}

-- the entries of cells that meet P are to be looked at, for one cell after another
pub data StartsEach (c : MarkColour) (P : Place → Type 0) (h : HeapState) (a : LooksState) : LooksState → Type 0 where
  none : StartsEach c P h a a
  more : {b d : LooksState} → StartsEach c P h a b → (x : Place) → P x
      → StartsLooks c x (with_looks h b) (with_looks h d) → StartsEach c P h a d

-- the entries of these cells are to be looked at in black, for one cell after another
abbrev pub StartsAll : HeapState → List Place → LooksState → LooksState → Type 0
StartsAll h [] a d = d ≡ a
StartsAll h (x ∷ xs) a d = (b : LooksState) × IsSound h.shape.weak
    × StartsLooks mark.Black x (with_looks h a) (with_looks h b) × StartsAll h xs b d

-- these cells were taken from the black pile one after another, and the entries of each are to be looked at in black
abbrev pub PopsAll : HeapState → List Place → LooksState → Piles → LooksState → Piles → Type 0
PopsAll h [] a p d q = (d ≡ a) × (q ≡ p)
PopsAll h (x ∷ xs) a p d q = (b : LooksState) × (r : Piles) × IsPushed r pile.Black x p × IsSound h.shape.weak
    × StartsLooks mark.Black x (with_looks h a) (with_looks h b) × PopsAll h xs b r d q

-- so it was with all cells that were pending in black
pub record StartsPending (h : HeapState) (p : Piles) (k : HeapState) (q : Piles) : Type 0 where
  pub rest : k ≡ record h { looks = k.looks; delayed = k.delayed }
  pub cells : List Place
  pub pops : PopsAll h cells h.looks (pending h p) k.looks (pending k q)
  pub empty : (pending k q).black ≡ []

-- a black cell of a marking zone
abbrev pub IsMarkedBlack : HeapState → Place → Type 0
IsMarkedBlack h x = IsBlack h x × (is_marking h.shape x ≡ true)

-- the bits of an arena, and the black bit of a place
abbrev pub bits_in : List Bits → ℕ → Bits
bits_in colours a = get_or colours a (record { black = 0; gob = 0 })

abbrev pub black_bit : List Bits → Place → ℕ
black_bit colours x = bit_at (bits_in colours x.0).black x.1

-- a place lies in an arena, at a slot whose bit a word has
abbrev pub IsSlotOf : ℕ → ℕ → Place → Type 0
IsSlotOf arena word x = (x.0 ≡ arena) × (x.1 < 64) × (bit_at word x.1 ≡ 1)

-- the arenas of marking zones have these black words, and all else is as it was
pub record TakesWords (words : List ℕ) (h k : HeapState) : Type 0 where
  pub rest : k ≡ record h { colours = k.colours }
  pub sized : length k.colours ≡ length h.colours
  pub marking : (x : Place) → is_marking h.shape x ≡ true → x.0 < length h.colours
      → bits_in k.colours x.0 ≡ record (bits_in h.colours x.0) { black = slice_index words x.0 }
  pub others : (x : Place) → is_marking h.shape x ≡ false → bits_in k.colours x.0 ≡ bits_in h.colours x.0

-- black marking followed at once all cells that were pending in black, and through marking zones all that edges reach
-- from them: black spread to what black cells reach, and both pending closures are as they were
pub record FollowsAll (h : HeapState) (p : Piles) (k : HeapState) (q : Piles) : Type 0 where
  pub invariant : MarkingInvariant k q
  pub blackens : Blackens (Reached h.shape (IsBlack h)) (with_looks h k.looks) k
  pub gray_is : q.gray ≡ p.gray
  pub pending_black : (y : Place) → PendingBlack k q y ↔ PendingBlack h p y
  pub pending_live : KeepsLive h p k q
  -- fewer units are to come, and no cell may be scanned more often
  pub fewer : (cells : List Place) → ((x : Place) → IsPresent h.shape x → Contains cells x)
      → units_at k q cells < units_at h p cells
  pub scans : ScansNoMore h p k q
  -- entries are to be looked at for black cells of marking zones alone
  pub started : StartsEach mark.Black (IsMarkedBlack k) h h.looks k.looks
  -- from the black cells of marking zones, exactly what edges reach through marking zones turned black, each cell once,
  -- and what lies outside of these was exposed, as often as edges lead there
  pub from : List Place
  pub from_is : (x : Place) → Contains from x ↔ IsMarkedBlack h x
  pub first : List ℕ
  pub sized : length first ≡ length h.colours
  pub first_is : (x : Place) → is_marking h.shape x ≡ true → (bit_of first x ≡ 1) ↔ IsBlack h x
  pub last : List ℕ
  pub won : List Place
  pub outside : List Place
  pub marked : HasBlackened (field_at h.shape) (is_marking h.shape) first from last won outside
  pub won_black : (x : Place) → Contains won x → IsBlack k x
  pub outside_black : (x : Place) → Contains outside x → IsBlack k x
  -- nothing else turned black in marking zones but what is pending in black
  pub only : (x : Place) → IsMarkedBlack k x → IsBlack h x ⊎ (Contains won x ⊎ Contains q.black x)
