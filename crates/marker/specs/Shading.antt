-- What a step of gray marking does.
use Rattle.std.specs.Prelude.{◌≡◌, ◌≢◌, ◌⊎◌, ◌↔◌, ◌≤◌, ◌+◌, ℕ, Bool, true, false, length, Contains}
use Rattle.gz_names.specs.declared.numbers.Place.{Place}
use Rattle.zones.specs.declared.states.State.TheVariants as state
use Rattle.mark_stack.specs.Stack.{Piles, IsPushed}
use Rattle.mark_stack.specs.declared.stack.Pile.TheVariants as pile
use Rattle.heap_core.specs.Shape.{HasEdge, IsPresent, Shape, state_of, zone_of}
use Rattle.heap_core.specs.Heap.{HeapState, colour_of}
use Rattle.barriers.specs.Colours.{HasGob, IsBlack, IsGray, IsSeen, IsWhite, left, whites, grays_outside}
use Rattle.barriers.specs.Scans.{ScansNoMore}

-- a white cell of a zone that takes gray turned gray, and nothing else changed
pub record Grayed (h : HeapState) (x : Place) (k : HeapState) : Type 0 where
  pub rest : k ≡ record h { colours = k.colours }
  pub sized : length k.colours ≡ length h.colours
  pub present : IsPresent h.shape x
  pub white : IsWhite h x
  pub takes : state_of h.shape x ≡ state.MarkBlackAndGray
  pub gray : IsGray k x
  pub gob_kept : (y : Place) → HasGob h y → HasGob k y
  pub others : (y : Place) → y ≢ x → colour_of k y ≡ colour_of h y
  pub left_is : left k ≡ left h
  pub whites_is : whites k + 1 ≡ whites h
  pub grays_is : grays_outside k ≡ grays_outside h

-- a cell is not white now, if its zone takes gray: if it was, it is pending on the gray pile
abbrev pub Shades : HeapState → Piles → Place → HeapState → Piles → Type 0
Shades h p x k q =
    ((IsWhite h x → state_of h.shape x ≡ state.MarkBlackAndGray → ⊥) × (k ≡ h) × (q ≡ p))
    ⊎ (Grayed h x k × IsPushed p pile.Gray x q)

-- white cells that meet P turned gray, and are on the gray pile; no cell may be scanned more often than before
pub record Shaded (P : Place → Type 0) (h : HeapState) (p : Piles) (k : HeapState) (q : Piles) : Type 0 where
  pub rest : k ≡ record h { colours = k.colours }
  pub sized : length k.colours ≡ length h.colours
  pub black_is : (y : Place) → IsBlack k y ↔ IsBlack h y
  pub gob_kept : (y : Place) → HasGob h y → HasGob k y
  pub kept : (y : Place) → IsSeen h y → IsSeen k y
  pub only : (y : Place) → IsSeen k y → IsSeen h y ⊎ P y
  pub pile_kept : (y : Place) → Contains p.gray y → Contains q.gray y
  pub pile_only : (y : Place) → Contains q.gray y → Contains p.gray y ⊎ ((IsSeen h y → ⊥) × IsSeen k y)
  pub pile_state : (y : Place) → Contains q.gray y → Contains p.gray y ⊎ (state_of h.shape y ≡ state.MarkBlackAndGray)
  pub fresh : (y : Place) → IsSeen k y → IsSeen h y ⊎ Contains q.gray y
  pub black_pile_is : q.black ≡ p.black
  pub wake_is : q.wake ≡ p.wake
  pub left_is : left k ≡ left h
  pub grays_is : grays_outside k ≡ grays_outside h
  pub work : length q.gray + whites k ≡ length p.gray + whites h
  pub whites_less : whites k ≤ whites h
  pub scans : ScansNoMore h p k q

-- what a call that turns a cell gray answers: whether it was white and its zone takes gray
abbrev pub AnswersGray : HeapState → Place → Bool → HeapState → Type 0
AnswersGray h x true k = Grayed h x k
AnswersGray h x false k = (IsWhite h x → state_of h.shape x ≡ state.MarkBlackAndGray → ⊥) × (k ≡ h)

-- what is shaded for a place from a zone's buffer: a cell of the zone, or what another cell leads to
abbrev pub IsForItem : Shape → ℕ → Place → Place → Type 0
IsForItem s zone x y = ((y ≡ x) × (zone_of s x ≡ zone)) ⊎ HasEdge s x y

-- that was done
pub record ItemShaded (s : Shape) (zone : ℕ) (x : Place) (k : HeapState) : Type 0 where
  pub own : zone_of s x ≡ zone → IsSeen k x
  pub behind : zone_of s x ≢ zone → (y : Place) → HasEdge s x y → state_of s y ≡ state.MarkBlackAndGray → IsSeen k y
