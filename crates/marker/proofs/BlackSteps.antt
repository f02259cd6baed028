-- One cell of the black pile was followed.
use Rattle.std.proofs.Common.{◌≡◌, ◌↔◌, ◌<◌, ◌≤◌, true, inl, inr, sym, ap, ◌∙◌, subst, arith, ◌∷◌, []}
use Rattle.std.proofs.Common.{ℕ, ◌+◌, Option, length}
use Rattle.gz_names.specs.declared.numbers.Place.{Place}
use Rattle.mark_stack.specs.Stack.{Piles, IsPushed}
use Rattle.mark_stack.specs.declared.stack.Pile.TheVariants as pile
use Rattle.mark_stack.proofs.Pushed.{gray_black, more_length, wake_black}
use Rattle.weak_maps.specs.WeakMaps.{IsSound, LooksState, WeakMapsState}
use Rattle.weak_maps.specs.declared.colours.MarkColour.TheVariants as mark
use Rattle.heap_core.specs.Shape.{Shape, HasEdge, is_marking}
use Rattle.cell_bits.specs.declared.bits.Bits.{Bits}
use Rattle.heap_core.specs.Heap.{HeapState, joined, weak_of}
use Rattle.barriers.specs.Reached.{HasEntry, Reached}
use Rattle.barriers.specs.Reached as reached
use Rattle.barriers.specs.Colours.{IsBlack, grays_outside}
use Rattle.barriers.specs.PendingBlack.{PendingBlack}
use Rattle.barriers.specs.Pending.{pending}
use Rattle.barriers.specs.Invariant.{InvariantWhile, MarkingInvariant}
use Rattle.barriers.specs.Spreading.{Blackens, Grows, Spreads}
use Rattle.barriers.specs.Exposing.{KeepsLive}
use Rattle.barriers.specs.Scans.{AreScannedOnce, ScansNoMore, black_scans}
use Rattle.barriers.proofs.Spreading.{shape_is, spreads_more, spreads_within}
use Rattle.barriers.specs.WeakPoint.{WeakPoint, left_of}
use Rattle.barriers.proofs.Following.{Taken, followed, taken_black}
use Rattle.barriers.proofs.WeakPoint.{spread_point}
use Rattle.barriers.proofs.BlackClosure.{pending_same, reached_from}
use Rattle.barriers.proofs.LiveClosure.{gray_kept, live_same}
use Rattle.barriers.proofs.Scans.{no_more_twice, once_kept, pops_black, pops_black_once}
use Rattle.marker.specs.Looks.{StartsLooks, with_looks}
use Rattle.marker.proofs.Starting as starting
use Rattle.marker.proofs.Starting.{AreLeft, Stands}
use Rattle.marker.specs.Units.{FollowsBlack, ScansBlack}
use Rattle.marker.proofs.Looking.{gray_on, live_on, marking_on, pending_on}
use Rattle.marker.proofs.Looking.{starts_on}

-- before what was woken is followed: the cell's zone is marking, so its entries are left to be looked at
pub scanned : (h : HeapState) (p q : Piles) (x : Place) (k : HeapState) (r : Piles) → InvariantWhile [] h p
    → IsPushed q pile.Black x p → InvariantWhile (x ∷ []) k r → Grows (HasEdge h.shape x) h q k r
    → ((y : Place) → HasEdge h.shape x y → IsBlack k y) → AreLeft x k → InvariantWhile [] k r
scanned h p q x k r inv e holds grows edges left =
    let same : k.shape ≡ h.shape = shape_is h k grows.spreads.blackens.rest in
    let on : is_marking k.shape x ≡ true =
    ap (λ (s : Shape). is_marking s x) same ∙ (taken_black [] h p q x inv e).zone in
    followed [] k r x holds (λ y ed. edges y (subst (λ (s : Shape). HasEdge s x y) same ed)) (λ off. cc (on, off))
    (λ m n v d entry is at bm bd. inr (inr (left m n v d entry is at)))

pub record Follows (h : HeapState) (p : Piles) (l : HeapState) (t : Piles) : Type 0 where
  pub blackens : Blackens (Reached h.shape (IsBlack h)) h l
  pub pending_black : (y : Place) → PendingBlack l t y ↔ PendingBlack h p y
  pub pending_live : KeepsLive h p l t

-- black spread to what was pending
pub keeps_pending : (h : HeapState) (p : Piles) (l : HeapState) (t : Piles) → MarkingInvariant h p
    → MarkingInvariant l t → t.gray ≡ p.gray → Blackens (Reached h.shape (IsBlack h)) h l → Follows h p l t
keeps_pending h p l t inv new same bl = record {
  blackens = bl;
  pending_black = pending_same h p l t inv new bl;
  pending_live = λ lists g. (
    gray_kept (Reached h.shape (IsBlack h)) h l p t lists bl same g,
    live_same h p l t lists inv g new same bl,
  );
}

pub follows : (h : HeapState) (p q : Piles) (x : Place) (k : HeapState) (r : Piles) (l : HeapState) (t : Piles)
    → MarkingInvariant h p → IsPushed q pile.Black x p → Grows (HasEdge h.shape x) h q k r
    → Spreads (Reached k.shape (IsBlack k)) k r l t → MarkingInvariant l t → Follows h p l t
follows h p q x k r l t inv e scan sp new =
    let R : Place → Type 0 = Reached h.shape (IsBlack h) in
    let same : k.shape ≡ h.shape = shape_is h k scan.spreads.blackens.rest in
    let edge : (y : Place) → HasEdge h.shape x y
    → R y = λ y ed. reached.along (reached.from (taken_black [] h p q x inv.holds e).black) ed in
    let spreads : Spreads R h q l t = spreads_more R R R h q k r l t
    (spreads_within (HasEdge h.shape x) R h q k r scan.spreads edge)
    (spreads_within (Reached k.shape (IsBlack k)) R k r l t sp
    (λ y z. reached_from h.shape (IsBlack k) (IsBlack h)
    (λ w b. elim (scan.spreads.blackens.only w b) [ inl was ↦ reached.from was | inr ed ↦ edge w ed ])
    (subst (λ s. Reached s (IsBlack k) y) same z)))
    (λ y z. z) (λ y z. z) in
    keeps_pending h p l t inv new (spreads.gray_is ∙ sym (e.others pile.Gray gray_black)) spreads.blackens

-- a cell was taken from the black pile, so that was not empty
pub black_some : (p q : Piles) (x : Place) → IsPushed q pile.Black x p → p.black ≡ [] → ⊥
black_some p q x popped none =
    let zero : length p.black ≡ 0 = ap length none in
    omega (arith, zero, more_length q.black p.black x popped.more)

-- the cell that was taken from the black pile was started, and then scanned
module _ (h : HeapState) (p q : Piles) (x : Place) (looks : LooksState) (inv : MarkingInvariant h p)
    (popped : IsPushed q pile.Black x p) (sound : IsSound h.shape.weak)
    (starts : StartsLooks mark.Black x h (with_looks h looks)) where
  abbrev m : HeapState
  m = with_looks h looks

  stood : Stands h p
  stood = record { holds = inv.holds; weak = inv.weak; once = inv.once }

  marks : MarkingInvariant m p
  marks = marking_on h looks p inv (starting.started_entries h p q x looks stood popped sound starts).kept

  point_scanned : (k : HeapState) (r : Piles) → Grows (HasEdge m.shape x) m q k r → WeakPoint k r (left_of k)
  point_scanned k r scan =
      spread_point (HasEdge m.shape x) m q k r scan.spreads marks.holds.colours
      (starting.started_point h p q x looks stood popped sound starts)

  once_scanned : (k : HeapState) (r : Piles) → Grows (HasEdge m.shape x) m q k r → AreScannedOnce k r
  once_scanned k r scan =
      once_kept m q k r scan.spreads.scans (starting.started_once h p q x looks stood popped sound starts)

  taken_started : Taken [] m q x true
  taken_started = starting.started_taken h p q x looks stood popped sound starts

  left_started : AreLeft x m
  left_started = starting.started_left h p q x looks stood popped sound starts

  module _ (k : HeapState) (r : Piles) (l : HeapState) (t : Piles) (scan : Grows (HasEdge m.shape x) m q k r)
      (sp : Spreads (Reached k.shape (IsBlack k)) k r l t) (new : MarkingInvariant l t) where
    did : Follows m p l t
    did = follows m p q x k r l t marks popped scan sp new

    black_same : (y : Place) → PendingBlack l t y ↔ PendingBlack h p y
    black_same y =
        let on = pending_on h looks p inv marks y in
        (λ b. on.0 ((did.pending_black y).0 b), λ b. (did.pending_black y).1 (on.1 b))

    keeps_live : KeepsLive h p l t
    keeps_live lists g =
        let both = did.pending_live lists (gray_on h looks p lists g) in (
          both.0,
          λ y. (
            λ b. (live_on h looks p lists inv marks g y).0 ((both.1 y).0 b),
            λ b. (both.1 y).1 ((live_on h looks p lists inv marks g y).1 b),
          ),
        )

    weak_is : weak_of l ≡ weak_of m
    weak_is = ap weak_of sp.blackens.rest ∙ ap weak_of scan.spreads.blackens.rest

    started_here : StartsLooks mark.Black x h l
    started_here = starts_on mark.Black x h m l starts weak_is

    after : ScansNoMore h q l t
    after =
        let both = no_more_twice m q k r l t scan.spreads.scans sp.scans in
        record { black = both.black; gray = both.gray }

    none : ScansNoMore h p l t
    none = no_more_twice h p h q l t (pops_black h q p x popped) after

    fewer : black_scans l t x < black_scans h p x
    fewer = omega (arith, pops_black_once h q p x popped, after.black x)

    scans_black : ScansBlack h p l t
    scans_black =
        let was = taken_black [] h p q x inv.holds popped in
        record { cell = x; black = was.black; zone = was.zone; fewer = fewer; no_more = none; starts = started_here }

-- as it is called
pub record Started (h : HeapState) (p q : Piles) (x : Place) (m : HeapState) : Type 0 where
  pub inv : MarkingInvariant h p
  pub popped : IsPushed q pile.Black x p
  pub rest : m ≡ with_looks h m.looks
  pub sound : IsSound h.shape.weak
  pub starts : StartsLooks mark.Black x h m

pub started_by : (h n m : HeapState) (flown : ℕ → Option Bits) (p s : Piles) (x : Place)
    → MarkingInvariant (joined h flown) p → n ≡ record h { delayed = n.delayed }
    → IsPushed (pending n s) pile.Black x p → m ≡ record n { looks = m.looks } → IsSound m.shape.weak
    → StartsLooks mark.Black x n m → Started (joined h flown) p (pending m s) x (joined m flown)
started_by h n m flown p s x inv taken popped rest sound starts =
    let here = ap (λ (z : HeapState). joined z flown) taken in
    let same = ap (λ (z : HeapState). pending z s) rest in
    subst (λ (z : HeapState). Started z p (pending m s) x (joined m flown)) here (record {
      inv = subst (λ (z : HeapState). MarkingInvariant z p) (sym here) inv;
      popped = subst (λ (q : Piles). IsPushed q pile.Black x p) (sym same) popped;
      rest = ap (λ (z : HeapState). joined z flown) rest;
      sound = subst (λ (z : HeapState). IsSound z.shape.weak) rest sound;
      starts = record {
        map = starts.map;
        key = starts.key;
        delegate = starts.delegate;
        parallel = starts.parallel;
      };
    })

module _ (h : HeapState) (p q : Piles) (x : Place) (m : HeapState) (s : Started h p q x m) where
  starts_here : StartsLooks mark.Black x h (with_looks h m.looks)
  starts_here = subst (λ (z : HeapState). StartsLooks mark.Black x h z) s.rest s.starts

  pub started_taken : Taken [] m q x true
  started_taken = subst (λ (z : HeapState). Taken [] z q x true) (sym s.rest)
      (taken_started h p q x m.looks s.inv s.popped s.sound starts_here)

  pub started_marks : MarkingInvariant m p
  started_marks = subst (λ (z : HeapState). MarkingInvariant z p) (sym s.rest)
      (marks h p q x m.looks s.inv s.popped s.sound starts_here)

  pub started_point : (k : HeapState) (r : Piles) → Grows (HasEdge m.shape x) m q k r → WeakPoint k r (left_of k)
  started_point k r = subst (λ (z : HeapState). Grows (HasEdge z.shape x) z q k r → WeakPoint k r (left_of k))
      (sym s.rest) (point_scanned h p q x m.looks s.inv s.popped s.sound starts_here k r)

  pub started_once : (k : HeapState) (r : Piles) → Grows (HasEdge m.shape x) m q k r → AreScannedOnce k r
  started_once k r = subst (λ (z : HeapState). Grows (HasEdge z.shape x) z q k r → AreScannedOnce k r) (sym s.rest)
      (once_scanned h p q x m.looks s.inv s.popped s.sound starts_here k r)

  -- its entries are left, also after the scan
  pub started_left : (k : HeapState) (r : Piles) → Grows (HasEdge m.shape x) m q k r → AreLeft x k
  started_left k r scan = subst (λ (z : HeapState). AreLeft x z) (sym scan.spreads.blackens.rest)
      (subst (λ (z : HeapState). AreLeft x z) (sym s.rest)
      (left_started h p q x m.looks s.inv s.popped s.sound starts_here))

  -- it was scanned: what it woke were gray cells outside marking zones
  pub started_grays : (k : HeapState) (r : Piles) → Grows (HasEdge m.shape x) m q k r
      → grays_outside k + length r.wake ≤ grays_outside h
  started_grays k r scan =
      let same : grays_outside m ≡ grays_outside h = ap grays_outside s.rest in
      let none : q.wake ≡ [] = sym (s.popped.others pile.Wake wake_black) ∙ s.inv.none_woken in
      let zero : length q.wake ≡ 0 = ap length none in
      omega (arith, scan.spreads.grays, same, zero)

  pub black_done : (k : HeapState) (r : Piles) (l : HeapState) (t : Piles) → Grows (HasEdge m.shape x) m q k r
      → Spreads (Reached k.shape (IsBlack k)) k r l t → MarkingInvariant l t → FollowsBlack h p l t
  black_done k r l t = subst (λ (z : HeapState). Grows (HasEdge z.shape x) z q k r
      → Spreads (Reached k.shape (IsBlack k)) k r l t → MarkingInvariant l t → FollowsBlack h p l t) (sym s.rest)
      (λ scan sp new.
      let bl = (did h p q x m.looks s.inv s.popped s.sound starts_here k r l t scan sp new).blackens in
      let weak = weak_is h p q x m.looks s.inv s.popped s.sound starts_here k r l t scan sp new in
      record {
        invariant = new;
        blackens = subst (λ (z : LooksState). Blackens (Reached h.shape (IsBlack h)) (with_looks h z) l)
            (sym (ap (λ (w : WeakMapsState). w.looks) weak)) bl;
        gray_is = sp.gray_is ∙ (scan.spreads.gray_is ∙ sym (s.popped.others pile.Gray gray_black));
        pending_black = black_same h p q x m.looks s.inv s.popped s.sound starts_here k r l t scan sp new;
        pending_live = keeps_live h p q x m.looks s.inv s.popped s.sound starts_here k r l t scan sp new;
        scans = scans_black h p q x m.looks s.inv s.popped s.sound starts_here k r l t scan sp new;
      })
