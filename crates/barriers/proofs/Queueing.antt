-- A cell becomes pending, or is pending no more: on a pile of the stack, or as one that is delayed for it.
use Rattle.std.proofs.Common.{◌≡◌, ◌≢◌, ◌++◌, ◌∷◌, ℕ, [], List, Option, Some, None, IfSome, IfNone, Contains}
use Rattle.std.proofs.Common.{if◌then◌else◌, refl, sym, ap, ◌∙◌, subst}
use Rattle.std.specs.List.Sorted.{IsPermutation}
use Rattle.std.proofs.lemmas.List.Elements.{Contains-append_right}
use Rattle.std.proofs.lemmas.List.Sorted.{IsPermutation-append_left, IsPermutation-append_right, IsPermutation-middle}
use Rattle.std.proofs.lemmas.List.Sorted.{IsPermutation-sym, IsPermutation-trans}
use Rattle.gz_names.specs.declared.numbers.Place.{Place}
use Rattle.mark_stack.specs.Stack.{Piles, IsPushed, pile_of}
use Rattle.mark_stack.specs.declared.stack.Pile.{Pile}
use Rattle.mark_stack.specs.declared.stack.Pile.TheVariants as pile
use Rattle.cell_bits.specs.declared.bits.Bits.{Bits}
use Rattle.heap_core.specs.Shape.{Shape, is_marking}
use Rattle.heap_core.specs.Heap.{HeapState, joined}
use Rattle.barriers.specs.Pending.{pending}
use Rattle.barriers.specs.Invariant.{PileInvariant}
use Rattle.barriers.specs.Spreading.{Blackened, Covers, Turns}
use Rattle.barriers.proofs.Turning.{fresh_pile, turned_by}

-- what is pending on a pile
pub pending_on : (h : HeapState) (p : Piles) (on : Pile)
    → pile_of (pending h p) on ≡ pile_of p on ++ pile_of h.delayed on
pending_on h p pile.Black = refl
pending_on h p pile.Gray = refl
pending_on h p pile.Wake = refl

append_some : (xs ys : List Place) → xs ≢ [] → xs ++ ys ≢ []
append_some [] ys some e = some refl
append_some (x ∷ xs) ys some e = cc e

-- what lies on the pile of the stack is pending
pub pending_some : (h : HeapState) (p : Piles) (on : Pile) → pile_of p on ≢ [] → pile_of (pending h p) on ≢ []
pending_some h p pile.Black some = append_some p.black h.delayed.black some
pending_some h p pile.Gray some = append_some p.gray h.delayed.gray some
pending_some h p pile.Wake some = append_some p.wake h.delayed.wake some

right_more : (zs xs ys : List Place) (x : Place) → IsPermutation (x ∷ xs) ys → IsPermutation (x ∷ (zs ++ xs)) (zs ++ ys)
right_more zs xs ys x e = IsPermutation-trans (x ∷ (zs ++ xs)) (zs ++ x ∷ xs) (zs ++ ys)
    (IsPermutation-sym (zs ++ x ∷ xs) (x ∷ (zs ++ xs)) (IsPermutation-middle zs x xs))
    (IsPermutation-append_right zs (x ∷ xs) ys e)

-- it came onto the pile of the stack
pub pushed_pending : (h : HeapState) (p q : Piles) (on : Pile) (x : Place) → IsPushed p on x q
    → IsPushed (pending h p) on x (pending h q)
pushed_pending h p q on x e = record {
  more = more on e.more;
  others = λ other n. pending_on h q other
      ∙ (ap (λ ps. ps ++ pile_of h.delayed other) (e.others other n) ∙ sym (pending_on h p other));
}
  where
    more : (on : Pile) → IsPermutation (x ∷ pile_of p on) (pile_of q on)
        → IsPermutation (x ∷ pile_of (pending h p) on) (pile_of (pending h q) on)
    more pile.Black m = IsPermutation-append_left h.delayed.black (x ∷ p.black) q.black m
    more pile.Gray m = IsPermutation-append_left h.delayed.gray (x ∷ p.gray) q.gray m
    more pile.Wake m = IsPermutation-append_left h.delayed.wake (x ∷ p.wake) q.wake m

-- it was delayed for the pile
pub delayed_pending : (h k : HeapState) (p : Piles) (on : Pile) (x : Place) → IsPushed h.delayed on x k.delayed
    → IsPushed (pending h p) on x (pending k p)
delayed_pending h k p on x e = record {
  more = more on e.more;
  others = λ other n. pending_on k p other
      ∙ (ap (λ ds. pile_of p other ++ ds) (e.others other n) ∙ sym (pending_on h p other));
}
  where
    more : (on : Pile) → IsPermutation (x ∷ pile_of h.delayed on) (pile_of k.delayed on)
        → IsPermutation (x ∷ pile_of (pending h p) on) (pile_of (pending k p) on)
    more pile.Black m = right_more p.black h.delayed.black k.delayed.black x m
    more pile.Gray m = right_more p.gray h.delayed.gray k.delayed.gray x m
    more pile.Wake m = right_more p.wake h.delayed.wake k.delayed.wake x m

-- one that is delayed is pending
pub delayed_is_pending : (h : HeapState) (p : Piles) (on : Pile) (x : Place) → Contains (pile_of h.delayed on) x
    → Contains (pile_of (pending h p) on) x
delayed_is_pending h p pile.Black x c = Contains-append_right p.black h.delayed.black x c
delayed_is_pending h p pile.Gray x c = Contains-append_right p.gray h.delayed.gray x c
delayed_is_pending h p pile.Wake x c = Contains-append_right p.wake h.delayed.wake x c

-- nothing is pending where the pile is empty and nothing is delayed for it
pub none_pending : (h : HeapState) (p : Piles) (on : Pile) → pile_of p on ≡ [] → pile_of h.delayed on ≡ []
    → pile_of (pending h p) on ≡ []
none_pending h p on e f = pending_on h p on ∙ (ap (λ ps. ps ++ pile_of h.delayed on) e ∙ f)

-- the stack had no room, and is as it was
pub delayed_instead : (h k : HeapState) (p q : Piles) (on : Pile) (x : Place) → q ≡ p
    → IsPushed h.delayed on x k.delayed
    → IsPushed (pending h p) on x (pending k q)
delayed_instead h k p q on x same e =
    subst (λ (z : Piles). IsPushed (pending h p) on x (pending k z)) (sym same) (delayed_pending h k p on x e)

-- a cell was taken from the pile of the stack, or else one that was delayed
pub popped_pending : (h : HeapState) (p q : Piles) (on : Pile) (x : Place) → IsPushed q on x p
    → IsPushed (pending h q) on x (pending h p)
popped_pending h p q on x e = pushed_pending h q p on x e

pub undelayed : (h k : HeapState) (p q : Piles) (on : Pile) (o : Option Place) → q ≡ p
    → IfSome o (λ x. IsPushed k.delayed on x h.delayed) → IfSome o (λ x. IsPushed (pending k q) on x (pending h p))
undelayed h k p q on None same e = tt
undelayed h k p q on (Some x) same e =
    subst (λ (z : Piles). IsPushed (pending k z) on x (pending h p)) (sym same) (delayed_pending k h p on x e)

pub none_left_pending : (h k : HeapState) (p q : Piles) (on : Pile) (o : Option Place) → q ≡ p → pile_of p on ≡ []
    → IfNone o ((pile_of h.delayed on ≡ []) × (k ≡ h))
    → IfNone o ((pile_of (pending h p) on ≡ []) × (k ≡ h) × (q ≡ p))
none_left_pending h k p q on None same empty e = (none_pending h p on empty e.0, e.1, same)
none_left_pending h k p q on (Some x) same empty e = tt

-- what is delayed is no part of the heap as marking sees it
pub joined_same : (h k : HeapState) (f : ℕ → Option Bits) → k ≡ record h { delayed = k.delayed }
    → joined k f ≡ joined h f
joined_same h k f rest = ap (λ (z : HeapState). joined z f) rest

-- nor do arenas come and go with it
pub covers_same : (h k : HeapState) (f : ℕ → Option Bits) → k ≡ record h { delayed = k.delayed } → Covers h.shape f
    → Covers k.shape f
covers_same h k f rest covers =
    subst (λ (s : Shape). Covers s f) (sym (ap (λ (z : HeapState). z.shape) rest)) covers

-- what is delayed is as it was, and so is what is pending
pub pending_same : (h m : HeapState) (s : Piles) → m.delayed ≡ h.delayed → pending m s ≡ pending h s
pending_same h m s delayed = ap (λ (d : Piles). pending (record h { delayed = d }) s) delayed

module _ (h m : HeapState) (f g : ℕ → Option Bits) (s : Piles) (x : Place)
    (turned : Blackened (joined h f) x (joined m g))
    (delayed : m.delayed ≡ h.delayed) where
  pub turned_shape : m.shape ≡ h.shape
  turned_shape = ap (λ (z : HeapState). z.shape) turned.rest

  -- it was not pending
  pub turned_fresh : PileInvariant (joined h f) (pending h s) → (on : Pile)
      → on ≡ (if is_marking m.shape x then pile.Black else pile.Wake) → Contains (pile_of (pending m s) on) x → ⊥
  turned_fresh inv on is =
      subst (λ (q : Piles). Contains (pile_of q on) x → ⊥) (sym (pending_same h m s delayed))
      (subst (λ (o : Pile). Contains (pile_of (pending h s) o) x → ⊥) (sym is)
      (fresh_pile (joined h f) (pending h s) x (is_marking m.shape x) inv turned.was))

  -- and now it is
  pub turned_pending : (k : HeapState) (t : Piles) (on : Pile)
      → on ≡ (if is_marking m.shape x then pile.Black else pile.Wake) → IsPushed (pending m s) on x (pending k t)
      → k ≡ record m { delayed = k.delayed } → Turns (joined h f) (pending h s) x (joined k g) (pending k t)
  turned_pending k t on is more rest =
      turned_by (joined h f) (pending h s) x (joined k g) (pending k t) (is_marking m.shape x)
      (subst (λ (z : HeapState). Blackened (joined h f) x z) (sym (joined_same m k g rest)) turned)
      (ap (λ (z : Shape). is_marking z x) (sym turned_shape))
      (subst (λ (q : Piles). IsPushed q (if is_marking m.shape x then pile.Black else pile.Wake) x (pending k t))
      (pending_same h m s delayed)
      (subst (λ (o : Pile). IsPushed (pending m s) o x (pending k t)) is more))
