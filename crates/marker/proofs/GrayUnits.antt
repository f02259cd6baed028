-- What a unit of gray marking did, by the list that it took something out of.
use Rattle.std.proofs.Common.{◌≡◌, ◌⊎◌, ◌<◌, ℕ, inl, inr, refl, sym, ap, ◌∙◌, subst, arith, Contains, List, length, []}
use Rattle.std.proofs.Common.{Option, sum_by}
use Rattle.gz_names.specs.Zones.{HasZone}
use Rattle.gz_names.specs.declared.numbers.Place.{Place}
use Rattle.roots.specs.Buffers.{buffer_at}
use Rattle.mark_stack.specs.Stack.{Piles, IsPushed}
use Rattle.mark_stack.specs.declared.stack.Pile.TheVariants as pile
use Rattle.mark_stack.proofs.Pushed.{black_gray, more_has, more_kept, more_length}
use Rattle.gray_lists.specs.Incoming.{Incoming, list_of, waiting_count}
use Rattle.heap_core.specs.Shape.{Shape, HasEdge, IsPresent, state_of}
use Rattle.cell_bits.specs.declared.bits.Bits.{Bits}
use Rattle.heap_core.specs.Heap.{HeapState, joined, weak_of}
use Rattle.weak_maps.specs.WeakMaps.{IsSound, LooksState}
use Rattle.weak_maps.specs.declared.colours.MarkColour.TheVariants as mark
use Rattle.barriers.specs.Colours.{IsBlack, grays_outside}
use Rattle.barriers.specs.PendingLive.{GrayInvariant, buffer_of}
use Rattle.barriers.specs.Pending.{pending}
use Rattle.barriers.specs.Invariant.{InvariantWhile, MarkingInvariant}
use Rattle.barriers.specs.Scans.{ScansNoMore, gray_scans}
use Rattle.barriers.specs.WeakPoint.{WeakPoint, left_of}
use Rattle.barriers.proofs.StayingLeft.{starts_entries}
use Rattle.barriers.proofs.WeakPoint.{StartsEntries, gray_starts}
use Rattle.barriers.proofs.Scans.{no_more_twice, none_more, pops_gray, pops_gray_once}
use Rattle.marker.specs.GrayBits.{AreGraying}
use Rattle.marker.specs.Shading.{IsForItem, ItemShaded, Shaded}
use Rattle.marker.specs.Waiting.{IsBlackOnlyComp, IsCompOf, Noted, TakesBuffered, TakesIncoming}
use Rattle.marker.specs.Units.{DoesGray, Marks, TakesOne}
use Rattle.marker.specs.Looks.{StartsLooks, with_looks}
use Rattle.marker.proofs.Looking.{gray_on, live_on, marking_on, pending_on, point_on, starts_on}
use Rattle.marker.proofs.GraySteps.{LeadsToSeen, buffered_step, gray_seen, incoming_step, pile_step}

-- what waits for a compartment waited before, or the compartment's zone takes no gray yet
abbrev WaitsOn : Shape → Incoming → Incoming → Type 0
WaitsOn s a b = (n : ℕ) (x : Place) → Contains (list_of b n) x → Contains (list_of a n) x ⊎ IsBlackOnlyComp s n

-- what a step of gray marking did
pub does_gray : (P : Place → Type 0) (h m k : HeapState) (p p0 q : Piles) (a b : Incoming)
    → m ≡ record h { buffers = m.buffers; looks = m.looks } → Shaded P m p0 k q → p0.black ≡ p.black
    → Marks h p a k q b → ((x : Place) → Contains p0.gray x → Contains p.gray x)
    → ((z : ℕ) (x : Place) → Contains (buffer_of m z) x → Contains (buffer_of h z) x) → WaitsOn h.shape a b
    → ScansNoMore h p m p0 → TakesOne h p a k q b → DoesGray h p a k q b
does_gray P h m k p p0 q a b taken sh black marks pile buf waits none takes =
    let buffers : k.buffers ≡ m.buffers = ap (λ (z : HeapState). z.buffers) sh.rest in
    record {
      marks = marks;
      takes = takes;
      scans = no_more_twice h p m p0 k q none sh.scans;
      black_is = λ y. (
        λ d. subst (λ (z : HeapState). IsBlack z y) taken ((sh.black_is y).0 d),
        λ d. (sh.black_is y).1 (subst (λ (z : HeapState). IsBlack z y) (sym taken) d),
      );
      black_pile = sh.black_pile_is ∙ black;
      grays_is = sh.grays_is ∙ ap grays_outside taken;
      gray_pile = λ x c. elim (sh.pile_state x c) [
        | inl was ↦ inl (pile x was)
        | inr takes ↦ inr (ap (λ (z : HeapState). state_of z.shape x) (sym taken) ∙ takes)
      ];
      buffered = λ z x c. buf z x (subst (λ bs. Contains (buffer_at bs z) x) buffers c);
      incoming = waits;
    }

-- the cell that was taken from the gray pile is present, and on no list
pub popped_present : (h k : HeapState) (p p0 q : Piles) (x : Place) (P : Place → Type 0) → MarkingInvariant h p
    → IsPushed p0 pile.Gray x p → Shaded P h p0 k q → IsPresent k.shape x
popped_present h k p p0 q x P inv popped sh =
    subst (λ (s : Shape). IsPresent s x) (sym (ap (λ (z : HeapState). z.shape) sh.rest))
    (inv.holds.colours.seen_present x (gray_seen h p p0 x inv.holds popped))

pub popped_apart : (h : HeapState) (p p0 : Piles) (a : Incoming) (x : Place) → GrayInvariant h p a
    → IsPushed p0 pile.Gray x p → (c : ℕ) → Contains (list_of a c) x → ⊥
popped_apart h p p0 a x g popped c at = g.apart c x (more_has p0.gray p.gray x popped.more) at

-- the lists have room for one more
pub popped_room : (h : HeapState) (p p0 : Piles) (a : Incoming) (x : Place) → GrayInvariant h p a
    → IsPushed p0 pile.Gray x p → waiting_count a < a.room
popped_room h p p0 a x g popped = omega (arith, g.few, g.room, more_length p0.gray p.gray x popped.more)

pub popped_some : (p p0 : Piles) (x : Place) → IsPushed p0 pile.Gray x p → p.gray ≡ [] → ⊥
popped_some p p0 x popped none =
    let zero : length p.gray ≡ 0 = ap length none in
    omega (arith, zero, more_length p0.gray p.gray x popped.more)

-- one cell of the gray pile was started, and then followed
module _ (h : HeapState) (p p0 : Piles) (x : Place) (looks : LooksState) (inv : MarkingInvariant h p)
    (popped : IsPushed p0 pile.Gray x p) (sound : IsSound h.shape.weak)
    (starts : StartsLooks mark.Gray x h (with_looks h looks)) where
  abbrev m : HeapState
  m = with_looks h looks

  entries : StartsEntries h.shape mark.Gray x (left_of h) (left_of m)
  entries = starts_entries h mark.Gray x m refl sound starts.map starts.key starts.delegate

  marks_on : MarkingInvariant m p
  marks_on = marking_on h looks p inv entries.kept

  point : WeakPoint m p0 (left_of m)
  point = point_on h looks p0 (left_of m)
      (gray_starts h p0 p x (left_of h) (left_of m) popped inv.weak inv.holds.colours.shape entries)

  module _ (k : HeapState) (q : Piles) (a b : Incoming) (g : GrayInvariant h p a) (holds : InvariantWhile [] k q)
      (sh : Shaded (HasEdge m.shape x) m p0 k q) (all : LeadsToSeen m.shape x k) (noted : Noted k.shape x a b) where
    shape_same : k.shape ≡ h.shape
    shape_same = ap (λ (z : HeapState). z.shape) sh.rest

    noted_here : Noted h.shape x a b
    noted_here = subst (λ (s : Shape). Noted s x a b) shape_same noted

    marks_started : Marks m p a k q b
    marks_started =
        pile_step m k p p0 q a b x marks_on (gray_on h looks p a g) popped holds sh all noted_here point

    marks_then : Marks h p a k q b
    marks_then = record {
      rest = marks_started.rest;
      invariant = marks_started.invariant;
      gray = marks_started.gray;
      black_kept = marks_started.black_kept;
      seen_kept = marks_started.seen_kept;
      gob_kept = marks_started.gob_kept;
      pending_black = λ y. (
        λ l. (pending_on h looks p inv marks_on y).0 ((marks_started.pending_black y).0 l),
        λ l. (marks_started.pending_black y).1 ((pending_on h looks p inv marks_on y).1 l),
      );
      pending_live = λ y. (
        λ l. (live_on h looks p a inv marks_on g y).0 ((marks_started.pending_live y).0 l),
        λ l. (marks_started.pending_live y).1 ((live_on h looks p a inv marks_on g y).1 l),
      );
    }

    after : ScansNoMore h p0 k q
    after = record { black = sh.scans.black; gray = sh.scans.gray }

    popped_less : ScansNoMore h p h p0
    popped_less = pops_gray h p0 p x popped

    none : ScansNoMore h p k q
    none = no_more_twice h p h p0 k q popped_less after

    fewer : gray_scans k q x < gray_scans h p x
    fewer = omega (arith, pops_gray_once h p0 p x popped, after.gray x)

    weak_is : weak_of k ≡ weak_of m
    weak_is = ap weak_of sh.rest

    started_here : StartsLooks mark.Gray x h k
    started_here = starts_on mark.Gray x h m k starts weak_is

    did_pile : DoesGray h p a k q b
    did_pile =
        does_gray (HasEdge h.shape x) h m k p p0 q a b refl sh (sym (popped.others pile.Black black_gray)) marks_then
        (λ y c. more_kept p0.gray p.gray x y popped.more c)
        (λ z y c. c)
        noted_here.waits
        (record { black = popped_less.black; gray = popped_less.gray })
        (inr (inr (record {
          cell = x;
          piled = more_has p0.gray p.gray x popped.more;
          fewer = fewer;
          noted = noted_here;
          buffers_are = ap (λ (z : HeapState). z.buffers) sh.rest;
          starts = started_here;
        })))

-- as it is called
pub record StartedGray (h : HeapState) (p p0 : Piles) (x : Place) (m : HeapState) : Type 0 where
  pub inv : MarkingInvariant h p
  pub popped : IsPushed p0 pile.Gray x p
  pub rest : m ≡ with_looks h m.looks
  pub sound : IsSound h.shape.weak
  pub starts : StartsLooks mark.Gray x h m

pub started_gray : (h n m : HeapState) (flown : ℕ → Option Bits) (p s : Piles) (x : Place)
    → MarkingInvariant (joined h flown) p → n ≡ record h { delayed = n.delayed }
    → IsPushed (pending n s) pile.Gray x p → m ≡ record n { looks = m.looks } → IsSound m.shape.weak
    → StartsLooks mark.Gray x n m → StartedGray (joined h flown) p (pending m s) x (joined m flown)
started_gray h n m flown p s x inv taken popped rest sound starts =
    let here = ap (λ (z : HeapState). joined z flown) taken in
    let same = ap (λ (z : HeapState). pending z s) rest in
    subst (λ (z : HeapState). StartedGray z p (pending m s) x (joined m flown)) here (record {
      inv = subst (λ (z : HeapState). MarkingInvariant z p) (sym here) inv;
      popped = subst (λ (q : Piles). IsPushed q pile.Gray x p) (sym same) popped;
      rest = ap (λ (z : HeapState). joined z flown) rest;
      sound = subst (λ (z : HeapState). IsSound z.shape.weak) rest sound;
      starts = record {
        map = starts.map;
        key = starts.key;
        delegate = starts.delegate;
        parallel = starts.parallel;
      };
    })

module _ (h : HeapState) (p p0 : Piles) (x : Place) (m : HeapState) (s : StartedGray h p p0 x m) where
  starts_here : StartsLooks mark.Gray x h (with_looks h m.looks)
  starts_here = subst (λ (z : HeapState). StartsLooks mark.Gray x h z) s.rest s.starts

  pub started_marks : MarkingInvariant m p
  started_marks = subst (λ (z : HeapState). MarkingInvariant z p) (sym s.rest)
      (marks_on h p p0 x m.looks s.inv s.popped s.sound starts_here)

  pub does_pile : (k : HeapState) (q : Piles) (a b : Incoming) → GrayInvariant h p a → InvariantWhile [] k q
      → Shaded (HasEdge m.shape x) m p0 k q → LeadsToSeen m.shape x k → Noted k.shape x a b
      → DoesGray h p a k q b
  does_pile k q a b = subst (λ (z : HeapState). GrayInvariant h p a → InvariantWhile [] k q
      → Shaded (HasEdge z.shape x) z p0 k q → LeadsToSeen z.shape x k → Noted k.shape x a b
      → DoesGray h p a k q b) (sym s.rest)
      (did_pile h p p0 x m.looks s.inv s.popped s.sound starts_here k q a b)

-- a place was taken out of a buffer: the colours are as they were
buffered_here : (h : HeapState) (bs : List (List Place)) (p : Piles) → InvariantWhile [] h p
    → InvariantWhile [] (record h { buffers = bs }) p
buffered_here h bs p inv = record {
  colours = record {
    shape = inv.colours.shape;
    sized = inv.colours.sized;
    seen_present = inv.colours.seen_present;
    no_white = inv.colours.no_white;
    no_gray = inv.colours.no_gray;
    regs_black = inv.colours.regs_black;
  };
  piles = record {
    black = inv.piles.black;
    wake = inv.piles.wake;
    gray = inv.piles.gray;
  };
  closed = inv.closed;
  weak_closed = inv.weak_closed;
  key_closed = inv.key_closed;
}

-- the same with the bits in flight in place
takes_joined : (h m : HeapState) (flown : ℕ → Option Bits) (zone : ℕ) (x : Place) → TakesBuffered h zone x m
    → TakesBuffered (joined h flown) zone x (joined m flown)
takes_joined h m flown zone x takes = record {
  rest = ap (λ (z : HeapState). joined z flown) takes.rest;
  was = takes.was;
  only = takes.only;
  others = takes.others;
  count = takes.count;
}

-- and what is pending is as it was
pending_after : (h m : HeapState) (s : Piles) (zone : ℕ) (x : Place) → TakesBuffered h zone x m
    → pending m s ≡ pending h s
pending_after h m s zone x takes = ap (λ (z : HeapState). pending z s) takes.rest

-- so what holds between two steps still holds, and the place is that of a present cell
pub buffered_holds : (h m : HeapState) (flown : ℕ → Option Bits) (s : Piles) (zone : ℕ) (x : Place)
    → MarkingInvariant (joined h flown) (pending h s) → TakesBuffered h zone x m
    → InvariantWhile [] (joined m flown) (pending m s)
buffered_holds h m flown s zone x inv takes =
    subst (λ (q : Piles). InvariantWhile [] (joined m flown) q) (sym (pending_after h m s zone x takes))
    (subst (λ (z : HeapState). InvariantWhile [] z (pending h s)) (sym (takes_joined h m flown zone x takes).rest)
    (buffered_here (joined h flown) m.buffers (pending h s) inv.holds))

pub same_after : (h m : HeapState) (zone : ℕ) (x : Place) → TakesBuffered h zone x m → m.shape ≡ h.shape
same_after h m zone x takes = ap (λ (z : HeapState). z.shape) takes.rest

pub buffered_is_present : (h m : HeapState) (flown : ℕ → Option Bits) (p : Piles) (a : Incoming) (zone : ℕ) (x : Place)
    → GrayInvariant (joined h flown) p a → TakesBuffered h zone x m → IsPresent m.shape x
buffered_is_present h m flown p a zone x g takes =
    subst (λ (s : Shape). IsPresent s x) (sym (same_after h m zone x takes)) (g.buffered_present zone x takes.was)

-- a place was taken out of a buffer, and shaded for
pub does_buffered : (h m : HeapState) (flown : ℕ → Option Bits) (k : HeapState) (s q : Piles) (a : Incoming)
    (group zone : ℕ) (x : Place) → MarkingInvariant (joined h flown) (pending h s)
    → GrayInvariant (joined h flown) (pending h s) a
    → AreGraying h.shape group → HasZone group zone → TakesBuffered h zone x m → InvariantWhile [] k q
    → Shaded (IsForItem m.shape zone x) (joined m flown) (pending m s) k q → ItemShaded m.shape zone x k
    → DoesGray (joined h flown) (pending h s) a k q a
does_buffered h m flown k s q a group zone x inv g graying here takes holds sh done =
    let p : Piles = pending h s in
    let same : m.shape ≡ h.shape = same_after h m zone x takes in
    let at : TakesBuffered (joined h flown) zone x (joined m flown) = takes_joined h m flown zone x takes in
    let shaded : Shaded (IsForItem h.shape zone x) (joined m flown) p k q =
    subst (λ (z : Shape). Shaded (IsForItem z zone x) (joined m flown) p k q) same
    (subst (λ (z : Piles). Shaded (IsForItem m.shape zone x) (joined m flown) z k q) (pending_after h m s zone x takes)
    sh) in
    let item : ItemShaded h.shape zone x k = subst (λ (z : Shape). ItemShaded z zone x k) same done in
    let looks_is : k.looks ≡ h.looks = ap (λ (z : HeapState). z.looks) shaded.rest
    ∙ ap (λ (z : HeapState). z.looks) takes.rest in
    let popped : ScansNoMore (joined h flown) p (joined m flown) p =
    subst (λ (z : HeapState). ScansNoMore (joined h flown) p z p) (sym at.rest)
    (record { black = λ y. omega arith; gray = λ y. omega arith }) in
    does_gray (IsForItem h.shape zone x) (joined h flown) (joined m flown) k p p q a a
    (at.rest ∙ ap (λ ls. record (joined h flown) { buffers = m.buffers; looks = ls })
    (sym (ap (λ (z : HeapState). z.looks) at.rest))) shaded refl
    (buffered_step (joined h flown) (joined m flown) k p q a zone x inv g ((graying zone).0 here) at holds shaded
    item) (λ y c. c) takes.only (λ n y c. inl c)
    popped
    (inl (omega (arith, at.count, ap (λ (z : HeapState). sum_by length z.buffers) shaded.rest), refl, looks_is))

-- a wrapper that waits is present
pub incoming_present : (h : HeapState) (p : Piles) (a b : Incoming) (comp : ℕ) (x : Place) → MarkingInvariant h p
    → GrayInvariant h p a → TakesIncoming a comp x b → IsPresent h.shape x
incoming_present h p a b comp x inv g takes = inv.holds.colours.seen_present x (g.incoming_seen comp x takes.was)

-- a wrapper was taken off a list, and followed
pub does_incoming : (h k : HeapState) (p q : Piles) (a b : Incoming) (group comp : ℕ) (x : Place) → MarkingInvariant h p
    → GrayInvariant h p a → AreGraying h.shape group → IsCompOf h.shape group comp → TakesIncoming a comp x b
    → InvariantWhile [] k q → Shaded (HasEdge h.shape x) h p k q → LeadsToSeen h.shape x k → DoesGray h p a k q b
does_incoming h k p q a b group comp x inv g graying of takes holds sh all =
    let looks_is : k.looks ≡ h.looks = ap (λ (z : HeapState). z.looks) sh.rest in
    does_gray (HasEdge h.shape x) h h k p p q a b refl sh refl
    (incoming_step h k p q a b group comp x inv g graying of takes holds sh all) (λ y c. c) (λ z y c. c)
    (λ n y c. inl (takes.only n y c)) (none_more h p)
    (inr (inl (omega (arith, takes.count), ap (λ (z : HeapState). z.buffers) sh.rest, looks_is)))
