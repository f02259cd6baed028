-- The next entry that is to be looked at.
use Rattle.std.proofs.Common.{◌≡◌, ◌<◌, ◌-◌, inl, inr, ℕ, List, Some, length, set, get_or, slice_get, Contains}
use Rattle.std.proofs.Common.{sym, ◌∙◌, ap, subst, arith}
use Rattle.std.proofs.lemmas.List.{set-get_or}
use Rattle.std.proofs.lemmas.Option.{slice_get-get_or, same_Some}
use Rattle.weak_maps.specs.Queues.{QueueState, IsDropped}
use Rattle.weak_maps.specs.Listings.{ListingState, IsLeft}
use Rattle.weak_maps.specs.Seats.{NoMoreLeft, NoneLeftInNew, IsQueueFor, LooksAt}
use Rattle.weak_maps.specs.declared.colours.MarkColour.{MarkColour}
use Rattle.weak_maps.proofs.Looks.{NoMoreLeft-set}

-- a queue serves where no more is left
pub IsQueueFor-less : (c : MarkColour) (lists new : List ListingState) (queue : QueueState) → NoMoreLeft lists new
    → IsQueueFor c lists queue → IsQueueFor c new queue
IsQueueFor-less c lists new queue less serves = record {
  waits = λ j l at left. (let old = less.only j l c at left in serves.waits j old.0 old.1 old.2);
  known = λ j has. (let sized = less.sized in let was = serves.known j has in omega (arith, sized, was));
  room = (let sized = less.sized in let was = serves.room in omega (arith, sized, was));
}

-- and where a list came, for which there is room
pub IsQueueFor-new : (c : MarkColour) (lists new : List ListingState) (queue : QueueState) → NoneLeftInNew lists new
    → length lists < queue.room → IsQueueFor c lists queue → IsQueueFor c new queue
IsQueueFor-new c lists new queue less more serves = record {
  waits = λ j l at left. (let old = less.only j l c at left in serves.waits j old.0 old.1 old.2);
  known = λ j has. (let sized = less.sized in let was = serves.known j has in omega (arith, sized, was));
  room = (let sized = less.sized in omega (arith, sized, more));
}

-- a list of the queue
module _ (c : MarkColour) (lists : List ListingState) (queue : QueueState) (j : ℕ) (serves : IsQueueFor c lists queue)
    (waits : Contains queue.waiting j) (d : ListingState) where
  pub list_known : j < length lists
  list_known = serves.known j waits

  -- it has nothing left, and is taken out
  pub passed-same : (n : ListingState) → n ≡ get_or lists j d → set lists j n ≡ lists
  passed-same n is = ap (set lists j) is ∙ set-get_or lists j d

  pub passed : (rest : QueueState) → IsDropped queue j rest → (IsLeft (get_or lists j d) c → ⊥)
      → IsQueueFor c lists rest
  passed rest dropped none = record {
    waits = λ k l at left. elim ((dropped.those k).0 (serves.waits k l at left)) [
      | inl still ↦ still
      | inr same ↦ absurd (none
          (subst (λ (m : ListingState). IsLeft m c)
          (same_Some _ _ (sym at ∙ (ap (slice_get lists) same ∙ slice_get-get_or lists j d list_known))) left))
    ];
    known = λ k has. serves.known k ((dropped.those k).1 (inl has));
    room = (let held = serves.room in let room = dropped.room in omega (arith, held, room));
  }

  -- or it has, and stays
  module _ (entry : ℕ) (n : ListingState) (looks : IsLeft (get_or lists j d) c
      × (slice_get (get_or lists j d).entries ((get_or lists j d).left - 1) ≡ Some entry)
      × (n ≡ record {
        entries = (get_or lists j d).entries;
        left = (get_or lists j d).left - 1;
        colour = (get_or lists j d).colour;
      })) where
    pub looked : LooksAt c entry lists (set lists j n)
    looked = record {
      list = j;
      listing = get_or lists j d;
      found = slice_get-get_or lists j d list_known;
      some = looks.0;
      there = looks.1;
      new_is = ap (set lists j) looks.2;
    }

    pub looked-queue : IsQueueFor c (set lists j n) queue
    looked-queue = IsQueueFor-less c lists (set lists j n) queue
        (NoMoreLeft-set lists j (get_or lists j d) n (slice_get-get_or lists j d list_known)
        (let left = ap (λ (l : ListingState). l.left) looks.2 in omega (arith, left))
        (ap (λ (l : ListingState). l.colour) looks.2)) serves
