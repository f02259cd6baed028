-- Steps over a heap are steps, too, if what is delayed counts among what is pending.
use Rattle.std.proofs.Common.{◌≡◌, ◌↔◌, ◌∙◌, ℕ, Bool, List, Option, Some, IsSomeAnd, slice_get, slice_set, sym, ap}
use Rattle.std.proofs.Common.{false, inl, inr, subst, true}
use Rattle.gz_names.specs.declared.names.Name.{Name}
use Rattle.gz_names.specs.declared.numbers.Place.{Place}
use Rattle.gz_names.specs.declared.zone_sets.ZoneSet.{ZoneSet}
use Rattle.cell_bits.specs.declared.bits.Bits.{Bits}
use Rattle.cell_bits.specs.declared.jobs.Job.{Job}
use Rattle.zones.specs.States.{next_state}
use Rattle.zones.specs.declared.states.State.TheVariants as state
use Rattle.mark_stack.specs.Stack.{Piles}
use Rattle.gray_lists.specs.Incoming.{Incoming}
use Rattle.colour_defs.specs.Ends.{Lists}
use Rattle.heap_core.specs.Heap.{HeapState, joined, without_delayed}
use Rattle.heap_core.specs.Sweeping.{with_handed, with_taken}
use Rattle.zone_edges.specs.Looks.{IsEdgeFor, LeadsFrom, Looks, LooksAtNext}
use Rattle.zone_edges.specs.Noted.{Noted}
use Rattle.barriers.specs.Pending.{pending}
use Rattle.marker.specs.Units.{IsGrayIdle}
use Rattle.slice_driver.specs.Advancing.{Advances, EndsSweeping}
use Rattle.slice_driver.specs.GroupEnd.{DropsDead, IsGrayHere}
use Rattle.slice_driver.specs.Told.{IsTold}
use Rattle.slice_driver.specs.HandingOut.{HandsOut}
use Rattle.slice_driver.specs.Quiet.{QueuesBlackMaps}
use Rattle.slice_driver.proofs.marking.ZoneSteps.{advanced_to}

-- nothing changed, so what is pending did not
pub same_pending : (h k : HeapState) (p q : Piles) → k ≡ h → q ≡ p → pending k q ≡ pending h p
same_pending h k p q eh ep = ap (λ (z : HeapState). pending z q) eh ∙ ap (λ (r : Piles). pending h r) ep

-- nor did the colours in flight
pub unmarked_seen : (h k : HeapState) (p q : Piles) (f g : ℕ → Option Bits) → k ≡ h → q ≡ p → joined h g ≡ joined h f
    → (without_delayed k ≡ without_delayed h) × (pending k q ≡ pending h p) × (joined h g ≡ joined h f)
unmarked_seen h k p q f g eh ep ej = (ap without_delayed eh, same_pending h k p q eh ep, ej)

pub idle_seen : (h : HeapState) (p : Piles) (lists : Incoming) (word : ℕ) → IsGrayIdle h p lists word
    → IsGrayIdle (without_delayed h) p lists word
idle_seen h p lists word i = record { pile = i.pile; buffers = i.buffers; incoming = i.incoming }

pub idle_unseen : (h : HeapState) (p : Piles) (lists : Incoming) (word : ℕ)
    → IsGrayIdle (without_delayed h) p lists word → IsGrayIdle h p lists word
idle_unseen h p lists word i = record { pile = i.pile; buffers = i.buffers; incoming = i.incoming }

-- a wrapper was looked at
leads_from_seen : (h : HeapState) (zones : ZoneSet) (p : Place) (a b : ℕ) → LeadsFrom h zones p a b
    → LeadsFrom (without_delayed h) zones p a b
leads_from_seen h zones p a b l = record {
  target = l.target;
  target_is = l.target_is;
  from = l.from;
  to = l.to;
  has_from = l.has_from;
  has_to = l.has_to;
  apart = l.apart;
  pale = l.pale;
}

leads_from_unseen : (h : HeapState) (zones : ZoneSet) (p : Place) (a b : ℕ)
    → LeadsFrom (without_delayed h) zones p a b → LeadsFrom h zones p a b
leads_from_unseen h zones p a b l = record {
  target = l.target;
  target_is = l.target_is;
  from = l.from;
  to = l.to;
  has_from = l.has_from;
  has_to = l.has_to;
  apart = l.apart;
  pale = l.pale;
}

edge_seen : (h : HeapState) (zones : ZoneSet) (p : Place) (a b : ℕ) → IsEdgeFor h zones p a b
    ↔ IsEdgeFor (without_delayed h) zones p a b
edge_seen h zones p a b = (
  λ e. elim e [
    | inl leads ↦ inl (leads_from_seen h zones p a b leads)
    | inr back ↦ inr (back.0, leads_from_seen h zones p b a back.1)
  ],
  λ e. elim e [
    | inl leads ↦ inl (leads_from_unseen h zones p a b leads)
    | inr back ↦ inr (back.0, leads_from_unseen h zones p b a back.1)
  ],
)

look_seen : (h : HeapState) (old new : Noted) → LooksAtNext h old new → LooksAtNext (without_delayed h) old new
look_seen h old new l = record {
  zone = l.zone;
  wrapper = l.wrapper;
  has_zone = l.has_zone;
  next = l.next;
  is_wrapper = l.is_wrapper;
  raised = l.raised;
  others = l.others;
  looked = l.looked;
  edges = λ a b. (
    (λ e. elim ((l.edges a b).0 e) [
      | inl was ↦ inl was
      | inr leads ↦ inr ((edge_seen h old.zones l.wrapper a b).0 leads)
    ]),
    λ o. (l.edges a b).1 (elim o [
      | inl was ↦ inl was
      | inr leads ↦ inr ((edge_seen h old.zones l.wrapper a b).1 leads)
    ]),
  );
  left = l.left;
}

pub looks_seen : (h : HeapState) (old : Noted) (did : Bool) (new : Noted) → Looks h old did new
    → Looks (without_delayed h) old did new
looks_seen h old true new looks = look_seen h old new looks
looks_seen h old false new looks = looks

-- zones go on
module _ (l : HeapState) (word : ℕ) (k : HeapState) (on : Advances l word k) where
  pub advances_seen : Advances (without_delayed l) word (without_delayed k)
  advances_seen = record {
    rest = ap without_delayed on.rest;
    sized = on.sized;
    gone_on = on.gone_on;
    others = on.others;
  }

  pub advanced_pending : (s : Piles) → pending l s ≡ pending k s
  advanced_pending s = sym (ap (λ (x : HeapState). pending x s) on.rest)

-- one zone goes on
module _ (h : HeapState) (zone : ℕ) (k : HeapState) (found : slice_get h.shape.states zone ≡ Some state.MarkBlackOnly)
    (on : IsSomeAnd (slice_get h.shape.states zone)
    (λ s. k ≡ record h { shape = record h.shape { states = slice_set h.shape.states zone (next_state s) } })) where
  begun_seen : without_delayed k ≡ record (without_delayed h) {
    shape = record h.shape { states = slice_set h.shape.states zone state.MarkBlackAndGray };
  }
  begun_seen = ap without_delayed (advanced_to h zone k found on)

  begun_pending : (s : Piles) → pending h s ≡ pending k s
  begun_pending s = sym (ap (λ (x : HeapState). pending x s) (advanced_to h zone k found on))

-- the entries of its black maps were queued before
module _ (h : HeapState) (zone : ℕ) (q : HeapState) (rest : q ≡ record h { looks = q.looks })
    (queued : QueuesBlackMaps h zone q) where
  queued_as : QueuesBlackMaps h zone (record h { looks = q.looks })
  queued_as = subst (λ (z : HeapState). QueuesBlackMaps h zone z) rest queued

  pub queued_seen : QueuesBlackMaps (without_delayed h) zone (record (without_delayed h) { looks = q.looks })
  queued_seen = record {
    left = queued_as.left;
    kept = queued_as.kept;
    sized = queued_as.sized;
    by_map = queued_as.by_map;
    by_key = queued_as.by_key;
    by_delegate = queued_as.by_delegate;
  }

  pub queued_state : slice_get h.shape.states zone ≡ Some state.MarkBlackOnly
      → slice_get q.shape.states zone ≡ Some state.MarkBlackOnly
  queued_state found = ap (λ (z : HeapState). slice_get z.shape.states zone) rest ∙ found

  module _ (k : HeapState) (found : slice_get h.shape.states zone ≡ Some state.MarkBlackOnly)
      (on : IsSomeAnd (slice_get q.shape.states zone)
      (λ s. k ≡ record q { shape = record q.shape { states = slice_set q.shape.states zone (next_state s) } })) where
    pub zone_seen : without_delayed k ≡ record (without_delayed h) {
      shape = record h.shape { states = slice_set h.shape.states zone state.MarkBlackAndGray };
      looks = q.looks;
    }
    zone_seen = begun_seen q zone k (queued_state found) on
        ∙ ap (λ (z : HeapState). record (without_delayed z) {
          shape = record z.shape { states = slice_set z.shape.states zone state.MarkBlackAndGray };
        }) rest

    pub zone_pending : (s : Piles) → pending h s ≡ pending k s
    zone_pending s = sym (ap (λ (z : HeapState). pending z s) rest) ∙ begun_pending q zone k (queued_state found) on s

-- sweeping ends
module _ (h : HeapState) (groups : List ZoneSet) (over : Bool) (k : HeapState) (e : EndsSweeping h groups over k) where
  pub ends_seen : EndsSweeping (without_delayed h) groups over (without_delayed k)
  ends_seen = record {
    rest = ap without_delayed e.rest;
    sized = e.sized;
    still = e.still;
    swept = e.swept;
    ended = e.ended;
  }

  pub ended_pending : (s : Piles) → pending h s ≡ pending k s
  ended_pending s = sym (ap (λ (x : HeapState). pending x s) e.rest)

-- an arena was taken in before
pub taken_pending : (h m k : HeapState) (arena freed : ℕ) (bits : Bits) (groups : List ZoneSet) (over : Bool)
    → m ≡ with_taken h arena freed bits → EndsSweeping m groups over k → (s : Piles) → pending h s ≡ pending k s
taken_pending h m k arena freed bits groups over is e s =
    sym (ap (λ (x : HeapState). pending x s) is) ∙ ended_pending m groups over k e s

-- a group is handed to sweeping
drops_seen : (h : HeapState) (g : ZoneSet) (k : HeapState) → DropsDead (with_handed h g.bits) g k
    → DropsDead (with_handed (without_delayed h) g.bits) g (without_delayed k)
drops_seen h g k d = record {
  rest = ap without_delayed d.rest;
  apart = d.apart;
  wrappers = d.wrappers;
  entries = d.entries;
  rows = d.rows;
  sound = d.sound;
  carries = d.carries;
  parallel = d.parallel;
}

module _ (h : HeapState) (g : ZoneSet) (jobs : Option (List Job)) (k : HeapState) (out : HandsOut h g jobs k) where
  pub hands_seen : HandsOut (without_delayed h) g jobs (without_delayed k)
  hands_seen = record {
    dropped = without_delayed out.dropped;
    drops = drops_seen h g out.dropped out.drops;
    goes = advances_seen out.dropped g.bits k out.goes;
    jobs_are = out.jobs_are;
    fewer = out.fewer;
  }

  pub handed_pending : (s : Piles) → pending h s ≡ pending k s
  handed_pending s = sym (ap (λ (x : HeapState). pending x s) out.drops.rest)
      ∙ advanced_pending out.dropped g.bits k out.goes s

-- its gray names
pub grays_seen : (h : HeapState) (g : ZoneSet) (names : List Name) → Lists (IsGrayHere h g) names
    → Lists (IsGrayHere (without_delayed h) g) names
grays_seen h g names l = record {
  ascending = l.ascending;
  has = λ x. (
    (λ c. (let i = (l.has x).0 c in
        record { place = i.place; named = i.named; here = i.here; gray = i.gray })),
    λ i. (l.has x).1 (record { place = i.place; named = i.named; here = i.here; gray = i.gray }),
  );
}

-- and the names that it tells
pub told_seen : (h : HeapState) (zones : ℕ) (names : List Name) → Lists (IsTold h zones) names
    → Lists (IsTold (without_delayed h) zones) names
told_seen h zones names l = record {
  ascending = l.ascending;
  has = λ x. (
    (λ c. (let i = (l.has x).0 c in
        record { place = i.place; watched = i.watched; named = i.named; here = i.here; white = i.white })),
    λ i. (l.has x).1 (record {
      place = i.place;
      watched = i.watched;
      named = i.named;
      here = i.here;
      white = i.white;
    }),
  );
}
