-- What holds, and what exposure does, while a collection is being prepared: the colours of its zones count for nothing.
use Rattle.std.specs.Prelude.{◌≡◌, ◌⊎◌, ◌↔◌, ◌≤◌, ◌+◌, ◌*◌, ℕ, true, false, List, [], length, Some, None, Contains}
use Rattle.gz_names.specs.declared.numbers.Place.{Place}
use Rattle.mark_stack.specs.Stack.{Piles, no_places}
use Rattle.heap_core.specs.Shape.{Shape, HasEdge, IsDelegate, IsPresent, is_marking, is_prepared, out_of, zone_of}
use Rattle.heap_core.specs.Heap.{HeapState, colour_of, without_delayed}
use Rattle.barriers.specs.Reached.{HasEntry}
use Rattle.barriers.specs.Colours.{IsBlack, IsSeen, gobs, grays_outside}
use Rattle.barriers.specs.Pending.{pending}
use Rattle.barriers.specs.Invariant.{IsToFollow, ShapeInvariant}
use Rattle.barriers.specs.Spreading.{Grows, Turns}
use Rattle.barriers.specs.Following.{Follows}

-- the colour of a cell counts: its zone is not being prepared
abbrev pub Counts : Shape → Place → Type 0
Counts s x = is_prepared s (zone_of s x) ≡ false

-- what is reached from the starts by cells whose colours count
pub data ReachedLeftOut (s : Shape) (start : Place → Type 0) : Place → Type 0 where
  from : {x : Place} → Counts s x → start x → ReachedLeftOut s start x
  along : {x y : Place} → ReachedLeftOut s start x → HasEdge s x y → Counts s y → ReachedLeftOut s start y
  weak : {m k v : Place} → HasEntry s m k v → Counts s v → ReachedLeftOut s start m → ReachedLeftOut s start k
      → ReachedLeftOut s start v
  delegate : {m k v d : Place} → HasEntry s m k v → IsDelegate s k d → Counts s k → ReachedLeftOut s start m
      → ReachedLeftOut s start d → ReachedLeftOut s start k

-- whatever is being followed: no arena is handed to sweeping and no zone is marking; only present cells are gray or
-- black, none is white whose colour counts, and registers hold black cells; what waits is black, and its colour counts
pub record PreparingColours (h : HeapState) (p : Piles) : Type 0 where
  pub shape : ShapeInvariant h.shape
  pub sized : length h.colours ≡ length h.shape.arenas
  pub none_out : (a : ℕ) → out_of h.shape a ≡ None
  pub none_marking : (x : Place) → is_marking h.shape x ≡ false
  pub seen_present : (x : Place) → IsSeen h x → IsPresent h.shape x
  pub seen : (x : Place) → IsPresent h.shape x → Counts h.shape x → IsSeen h x
  pub regs_black : (x : Place) → Contains h.shape.regs (Some x) → Counts h.shape x → IsBlack h x
  pub black : p.black ≡ []
  pub gray : p.gray ≡ []
  pub wake : (x : Place) → Contains p.wake x → IsBlack h x × Counts h.shape x

-- what holds while some cells are being followed: where colours count, an edge of a black cell leads to a black one,
-- and
-- the weak rule has no work, or a cell of these is still to be followed
pub record PreparingWhile (followed : List Place) (h : HeapState) (p : Piles) : Type 0 where
  pub colours : PreparingColours h p
  pub closed : (x y : Place) → Counts h.shape x → IsBlack h x → HasEdge h.shape x y → Counts h.shape y
      → IsBlack h y ⊎ IsToFollow followed p x
  pub weak_closed : (m k v : Place) → HasEntry h.shape m k v → Counts h.shape v → IsBlack h m → IsBlack h k
      → IsBlack h v ⊎ (IsToFollow followed p m ⊎ IsToFollow followed p k)
  pub key_closed : (m k v d : Place) → HasEntry h.shape m k v → IsDelegate h.shape k d → Counts h.shape k
      → Counts h.shape d → IsBlack h m → IsBlack h d
      → IsBlack h k ⊎ (IsToFollow followed p m ⊎ IsToFollow followed p d)

-- what holds between two calls
pub record PreparingInvariant (h : HeapState) (p : Piles) : Type 0 where
  pub holds : PreparingWhile [] h p
  pub empty : p ≡ no_places

-- a cell is black now, if its colour counts: if it was not, it is to be followed
abbrev pub TurnsLeftOut : HeapState → Piles → Place → HeapState → Piles → Type 0
TurnsLeftOut h p x k q = (Counts h.shape x × Turns h p x k q) ⊎ ((Counts h.shape x → ⊥) × (k ≡ h) × (q ≡ p))

-- one cell turned black, if another one is and both count
abbrev pub TurnsWithLeftOut : HeapState → Piles → Place → Place → HeapState → Piles → Type 0
TurnsWithLeftOut h p other x k q = (Counts h.shape other × IsBlack h other × TurnsLeftOut h p x k q)
    ⊎ ((Counts h.shape other → IsBlack h other → ⊥) × (k ≡ h) × (q ≡ p))

-- an entry was followed, where the colours of its cells count: its value follows its map and its key, and its key its
-- map and its delegate
pub record IsFollowedLeftOut (h : HeapState) (p : Piles) (m k v : Place) : Type 0 where
  pub value : Counts h.shape v → Follows h p m k v
  pub key : (d : Place) → IsDelegate h.shape k d → Counts h.shape k → Counts h.shape d → Follows h p m d k

-- a part of what a cell names was followed: black grew by cells that meet P alone, and these cells are still being
-- followed
pub record StepLeftOut (P : Place → Type 0) (followed : List Place) (h : HeapState) (p : Piles) (k : HeapState)
    (q : Piles) : Type 0 where
  pub holds : PreparingWhile followed (without_delayed k) (pending k q)
  pub grows : Grows P (without_delayed h) (pending h p) (without_delayed k) (pending k q)

-- a cell was exposed: black grew to what is reached by cells whose colours count, and the others are as they were
pub record ExposesLeftOut (h : HeapState) (p : Piles) (x : Place) (k : HeapState) (q : Piles) : Type 0 where
  pub invariant : PreparingInvariant k q
  pub exact : (y : Place) → Counts h.shape y
      → IsBlack k y ↔ ReachedLeftOut h.shape (λ z. IsBlack h z ⊎ (z ≡ x)) y
  pub others : (y : Place) → (Counts h.shape y → ⊥) → colour_of k y ≡ colour_of h y
  pub rest : k ≡ record h { colours = k.colours }
  pub sized : length k.colours ≡ length h.colours
  pub gobs_is : gobs k ≡ gobs h

-- what exposure asks where some zone is being prepared: edges are counted in this ledger, the cell is present, and the
-- colours that count are closed
pub record MayExposeLeftOut (ledger : ℕ) (h : HeapState) (p : Piles) (x : Place) : Type 0 where
  pub counted : h.ledger ≡ Some ledger
  pub prepared : (z : ℕ) × (is_prepared h.shape z ≡ true)
  pub present : IsPresent h.shape x
  pub invariant : PreparingInvariant (without_delayed h) (pending h p)

-- and what it does, reading at most eight edges for each gray cell that turns black
pub record LeftOutDone (x : Place) (h : HeapState) (p : Piles) (read : ℕ) (k : HeapState) (q : Piles) (now : ℕ)
    : Type 0 where
  pub exposes : ExposesLeftOut (without_delayed h) (pending h p) x (without_delayed k) (pending k q)
  pub steps : now + 8 * grays_outside k ≤ read + 8 * grays_outside h

-- a present cell, which is black if its colour counts
pub record IsDark (h : HeapState) (x : Place) : Type 0 where
  pub there : IsPresent h.shape x
  pub black : Counts h.shape x → IsBlack h x
