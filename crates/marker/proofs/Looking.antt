-- Other looks are to come, and all else is as it was.
use Rattle.std.proofs.Common.{◌≡◌, ◌≢◌, ◌⊎◌, ◌↔◌, ◌+◌, ◌<◌, ◌≤◌, ℕ, zero, suc, Bool, List, [], ◌∷◌, Option, Some}
use Rattle.std.proofs.Common.{None, inl, inr, refl, sym, ap, subst, arith, count_by, cond, is_some, length}
use Rattle.std.proofs.Common.{slice_get, slice_set}
use Rattle.std.proofs.Common.{sum_by}
use Rattle.std.proofs.lemmas.List.Sums.{sum_by-cons}
use Rattle.gz_names.specs.declared.numbers.Place.{Place}
use Rattle.arena_table.specs.Table.{is_place}
use Rattle.mark_stack.specs.Stack.{Piles}
use Rattle.gray_lists.specs.Incoming.{Incoming}
use Rattle.weak_maps.specs.Delegates.{DelegateRow}
use Rattle.weak_maps.specs.Entries.{Starts}
use Rattle.weak_maps.specs.WeakMaps.{AreParallel, HasLooked, LooksState, WeakMapsState, WeakTableState}
use Rattle.weak_maps.specs.declared.colours.MarkColour.{MarkColour}
use Rattle.weak_maps.specs.declared.colours.MarkColour.TheVariants as mark
use Rattle.weak_maps.specs.declared.entries.WeakEntry.{WeakEntry}
use Rattle.heap_core.specs.Shape.{IsDelegate}
use Rattle.heap_core.specs.Heap.{HeapState, weak_of}
use Rattle.heap_core.proofs.MakingCells.{same-place}
use Rattle.barriers.specs.PendingBlack.{PendingBlack}
use Rattle.barriers.specs.PendingLive.{GrayInvariant, PendingLive}
use Rattle.barriers.specs.Colours.{IsBlack}
use Rattle.barriers.specs.Invariant.{ColourInvariant, InvariantWhile, MarkingInvariant}
use Rattle.barriers.specs.WeakPoint.{Left, WeakPoint, left_of}
use Rattle.barriers.proofs.BlackClosure.{pending_is_reached, reached_is_pending}
use Rattle.barriers.proofs.LiveClosure.{live_is_reached, reached_is_live}
use Rattle.marker.specs.Looks.{StartsLooks, looks_now, with_looks}

-- what does not speak of looks holds with others
pub colours_on : (h : HeapState) (l : LooksState) → ColourInvariant h → ColourInvariant (with_looks h l)
colours_on h l inv = record {
  shape = inv.shape;
  sized = inv.sized;
  seen_present = inv.seen_present;
  no_white = inv.no_white;
  no_gray = inv.no_gray;
  regs_black = inv.regs_black;
}

-- and so does the rest, where the entries that are left in black still are, or their keys are black
pub holds_on : (h : HeapState) (l : LooksState) (p : Piles) (followed : List Place)
    → ((m n d : Place) → IsDelegate h.shape n d → IsBlack h m → IsBlack h d → left_of h mark.Black m n
    → left_of (with_looks h l) mark.Black m n ⊎ IsBlack h n)
    → InvariantWhile followed h p → InvariantWhile followed (with_looks h l) p
holds_on h l p followed more inv = record {
  colours = colours_on h l inv.colours;
  piles = record {
    black = inv.piles.black;
    wake = inv.piles.wake;
    gray = inv.piles.gray;
  };
  closed = inv.closed;
  weak_closed = inv.weak_closed;
  key_closed = λ m n v d e is bm bd. elim (inv.key_closed m n v d e is bm bd) [
    | inl b ↦ inl b
    | inr (inl f) ↦ inr (inl f)
    | inr (inr (inl f)) ↦ inr (inr (inl f))
    | inr (inr (inr l)) ↦ elim (more m n d is bm bd l) [ inl still ↦ inr (inr (inr still)) | inr b ↦ inl b ]
  ];
}

pub point_on : (h : HeapState) (l : LooksState) (p : Piles) (left : Left) → WeakPoint h p left
    → WeakPoint (with_looks h l) p left
point_on h l p left w = record { black = w.black; gray = w.gray; gray_key = w.gray_key }

-- more entries are left
pub more_left : (h : HeapState) (p : Piles) (old new : Left) → ((d : MarkColour) (m n : Place) → old d m n → new d m n)
    → WeakPoint h p old → WeakPoint h p new
more_left h p old new more w = record {
  black = λ m n v e bm bn on. elim (w.black m n v e bm bn on) [
    | inl b ↦ inl b
    | inr (inl c) ↦ inr (inl c)
    | inr (inr (inl c)) ↦ inr (inr (inl c))
    | inr (inr (inr l)) ↦ inr (inr (inr (more mark.Black m n l)))
  ];
  gray = λ m n v e sm sn takes. elim (w.gray m n v e sm sn takes) [
    | inl b ↦ inl b
    | inr (inl c) ↦ inr (inl c)
    | inr (inr (inl c)) ↦ inr (inr (inl c))
    | inr (inr (inr l)) ↦ inr (inr (inr (more mark.Gray m n l)))
  ];
  gray_key = λ m n v d e is sm sd takes. elim (w.gray_key m n v d e is sm sd takes) [
    | inl b ↦ inl b
    | inr (inl c) ↦ inr (inl c)
    | inr (inr (inl c)) ↦ inr (inr (inl c))
    | inr (inr (inr l)) ↦ inr (inr (inr (more mark.Gray m n l)))
  ];
}

-- the looks are what was started
pub starts_on : (c : MarkColour) (x : Place) (h m k : HeapState) → StartsLooks c x h m → weak_of k ≡ weak_of m
    → StartsLooks c x h k
starts_on c x h m k s e = record {
  map = subst (λ (w : WeakMapsState). Starts (λ (entry : WeakEntry). entry.map) c x h.shape.weak.entries
      h.looks.by_map w.looks.by_map) (sym e) s.map;
  key = subst (λ (w : WeakMapsState). Starts (λ (entry : WeakEntry). entry.key) c x h.shape.weak.entries
      h.looks.by_key w.looks.by_key) (sym e) s.key;
  delegate = subst (λ (w : WeakMapsState). Starts (λ (row : DelegateRow). row.target) c x
      h.shape.weak.delegates.rows h.looks.by_delegate w.looks.by_delegate) (sym e) s.delegate;
  parallel = subst (λ (w : WeakMapsState). AreParallel w) (sym e) s.parallel;
}

pub gray_on : (h : HeapState) (l : LooksState) (p : Piles) (lists : Incoming) → GrayInvariant h p lists
    → GrayInvariant (with_looks h l) p lists
gray_on h l p lists g = record {
  buffered_seen = g.buffered_seen;
  buffered_present = g.buffered_present;
  incoming_seen = g.incoming_seen;
  closed = g.closed;
  apart = g.apart;
  lists_apart = g.lists_apart;
  few = g.few;
  room = g.room;
}

pub marking_on : (h : HeapState) (l : LooksState) (p : Piles) → MarkingInvariant h p
    → ((d : MarkColour) (m n : Place) → left_of h d m n → left_of (with_looks h l) d m n)
    → MarkingInvariant (with_looks h l) p
marking_on h l p inv more = record {
  holds = holds_on h l p [] (λ m n d is bm bd left. inl (more mark.Black m n left)) inv.holds;
  none_woken = inv.none_woken;
  weak = point_on h l p (left_of (with_looks h l)) (more_left h p (left_of h) (left_of (with_looks h l)) more inv.weak);
  once = record { black = inv.once.black; gray = inv.once.gray };
}

-- both closures are as they were
pub pending_on : (h : HeapState) (l : LooksState) (p : Piles) → MarkingInvariant h p
    → MarkingInvariant (with_looks h l) p → (y : Place) → PendingBlack (with_looks h l) p y ↔ PendingBlack h p y
pending_on h l p inv new y = (
  λ b. reached_is_pending h p inv (pending_is_reached (with_looks h l) p new b),
  λ b. reached_is_pending (with_looks h l) p new (pending_is_reached h p inv b),
)

pub live_on : (h : HeapState) (l : LooksState) (p : Piles) (lists : Incoming) → MarkingInvariant h p
    → MarkingInvariant (with_looks h l) p → GrayInvariant h p lists → (y : Place)
    → PendingLive (with_looks h l) p lists y ↔ PendingLive h p lists y
live_on h l p lists inv new g y = (
  λ b. reached_is_live h p lists inv g
      (live_is_reached (with_looks h l) p lists new (gray_on h l p lists g) b),
  λ b. reached_is_live (with_looks h l) p lists new (gray_on h l p lists g) (live_is_reached h p lists inv g b),
)

some_one : (x y : Option MarkColour) → Some x ≡ Some y → x ≡ y
some_one x y e = cc e

-- an entry was looked at
one_less : (xs : List (Option MarkColour)) (n : ℕ) (c : MarkColour) → slice_get xs n ≡ Some (Some c)
    → count_by is_some (slice_set xs n None) + 1 ≡ count_by is_some xs
one_less [] n c e = cc e
one_less (x ∷ xs) zero c e =
    let is : x ≡ Some c = cc e in
    let old = sum_by-cons (λ (y : Option MarkColour). cond (is_some y) 1 0) x xs in
    let new = sum_by-cons (λ (y : Option MarkColour). cond (is_some y) 1 0) None xs in
    let one = ap {B = ℕ} (λ (y : Option MarkColour). cond (is_some y) 1 0) is in
    omega (arith, old, new, one)
one_less (x ∷ xs) (suc n) c e =
    let old = sum_by-cons (λ (y : Option MarkColour). cond (is_some y) 1 0) x xs in
    let new = sum_by-cons (λ (y : Option MarkColour). cond (is_some y) 1 0) x (slice_set xs n None) in
    omega (arith, old, new, one_less xs n c e)

pub looked_less : (c : MarkColour) (handed : WeakEntry) (weak : WeakTableState) (old new : LooksState)
    → HasLooked c handed weak old new → looks_now new + 1 ≡ looks_now old
looked_less c handed weak old new looked = elim looked.looked [
  | inl (was, now) ↦ (let one = one_less old.by_map looked.number c was in
      let same = ap looks_now now in omega (arith, one, same))
  | inr (inl (was, now)) ↦ (let one = one_less old.by_key looked.number c was in
      let same = ap looks_now now in omega (arith, one, same))
  | inr (inr (n, row, was, now)) ↦ (let one = one_less old.by_delegate n c was in
      let same = ap looks_now now in omega (arith, one, same))
]

-- the entries of a cell were started: one look more is to come for each of them
pub some_few : (o : Option MarkColour) → cond (is_some o) 1 0 ≤ 1
some_few None = omega arith
some_few (Some c) = omega arith

started_more : {X : Type 0} (f : X → Place) (x : Place) (es : List X) (old new : List (Option MarkColour))
    → length old ≡ length es → length new ≡ length es
    → ((n : ℕ) (e : X) → slice_get es n ≡ Some e → f e ≢ x → slice_get new n ≡ slice_get old n)
    → count_by is_some new ≤ count_by is_some old + count_by (λ e. is_place (f e) x) es
started_more f x [] [] [] a b others = omega arith
started_more f x [] (o ∷ old) new a b others = absurd (omega (arith, a))
started_more f x [] [] (n ∷ new) a b others = absurd (omega (arith, b))
started_more f x (e ∷ es) [] new a b others = absurd (omega (arith, a))
started_more f x (e ∷ es) (o ∷ old) [] a b others = absurd (omega (arith, b))
started_more {X} f x (e ∷ es) (o ∷ old) (n ∷ new) a b others =
    let rest = started_more f x es old new (omega (arith, a)) (omega (arith, b))
    (λ m d at other. others (suc m) d at other)
    in
    let was = sum_by-cons (λ (y : Option MarkColour). cond (is_some y) 1 0) o old in
    let now = sum_by-cons (λ (y : Option MarkColour). cond (is_some y) 1 0) n new in
    let all = sum_by-cons (λ (d : X). cond (is_place (f d) x) 1 0) e es in
    elim (same-place (f e) x) [
      | inl (is, tells) ↦ (let one = ap {B = ℕ} (λ (t : Bool). cond t 1 0) tells in
          omega (arith, rest, was, now, all, one, some_few n))
      | inr (other, tells) ↦ (let same : n ≡ o = some_one n o (others 0 e refl other) in
          let alike = ap {B = ℕ} (λ (y : Option MarkColour). cond (is_some y) 1 0) same in
          omega (arith, rest, was, now, all, alike))
    ]

-- the entries of a cell were started: one look more is to come for each of which it is the map, the key or the delegate
pub starts_few : (c : MarkColour) (x : Place) (h k : HeapState) → StartsLooks c x h k
    → k.shape.weak ≡ h.shape.weak → looks_now k.looks ≤ looks_now h.looks
    + ((count_by (λ (e : WeakEntry). is_place e.map x) h.shape.weak.entries
    + count_by (λ (e : WeakEntry). is_place e.key x) h.shape.weak.entries)
    + count_by (λ (r : DelegateRow). is_place r.target x) h.shape.weak.delegates.rows)
starts_few c x h k starts weak =
    let parallel = starts.parallel in
    let sizes = ap (λ (w : WeakTableState). length w.entries) weak in
    let row_sizes = ap (λ (w : WeakTableState). length w.delegates.rows) weak in
    let by_map = started_more (λ (e : WeakEntry). e.map) x h.shape.weak.entries h.looks.by_map k.looks.by_map
    (omega (arith, starts.map.sized, parallel.0, sizes)) (omega (arith, parallel.0, sizes)) starts.map.others in
    let by_key = started_more (λ (e : WeakEntry). e.key) x h.shape.weak.entries h.looks.by_key k.looks.by_key
    (omega (arith, starts.key.sized, parallel.1, sizes)) (omega (arith, parallel.1, sizes)) starts.key.others in
    let by_delegate = started_more (λ (r : DelegateRow). r.target) x h.shape.weak.delegates.rows h.looks.by_delegate
    k.looks.by_delegate (omega (arith, starts.delegate.sized, parallel.2, row_sizes))
    (omega (arith, parallel.2, row_sizes)) starts.delegate.others in
    omega (arith, by_map, by_key, by_delegate)

-- what falls by one at a cell pays for one look at each entry of which it is the map, and for one where it is the key
pub scans_paid : (f g i j : Place → ℕ) (x : Place) → ((y : Place) → f y + cond (is_place y x) 1 0 ≤ g y)
    → ((y : Place) → i y + cond (is_place y x) 1 0 ≤ j y) → (es : List WeakEntry)
    → sum_by (λ (e : WeakEntry). f e.map + i e.key) es
    + (count_by (λ (e : WeakEntry). is_place e.map x) es + count_by (λ (e : WeakEntry). is_place e.key x) es)
    ≤ sum_by (λ (e : WeakEntry). g e.map + j e.key) es
scans_paid f g i j x maps keys [] = omega arith
scans_paid f g i j x maps keys (e ∷ es) =
    let rest = scans_paid f g i j x maps keys es in
    let was = sum_by-cons (λ (d : WeakEntry). g d.map + j d.key) e es in
    let now = sum_by-cons (λ (d : WeakEntry). f d.map + i d.key) e es in
    let map = sum_by-cons (λ (d : WeakEntry). cond (is_place d.map x) 1 0) e es in
    let key = sum_by-cons (λ (d : WeakEntry). cond (is_place d.key x) 1 0) e es in
    omega (arith, rest, was, now, map, key, maps e.map, keys e.key)

-- and for one look at each entry of which it is the delegate
pub rows_paid : (f g : Place → ℕ) (x : Place) → ((y : Place) → f y + cond (is_place y x) 1 0 ≤ g y)
    → (rows : List DelegateRow) → sum_by (λ (r : DelegateRow). f r.target) rows
    + count_by (λ (r : DelegateRow). is_place r.target x) rows ≤ sum_by (λ (r : DelegateRow). g r.target) rows
rows_paid f g x fewer [] = omega arith
rows_paid f g x fewer (r ∷ rows) =
    let rest = rows_paid f g x fewer rows in
    let was = sum_by-cons (λ (d : DelegateRow). g d.target) r rows in
    let now = sum_by-cons (λ (d : DelegateRow). f d.target) r rows in
    let all = sum_by-cons (λ (d : DelegateRow). cond (is_place d.target x) 1 0) r rows in
    omega (arith, rest, was, now, all, fewer r.target)

-- what is no greater anywhere, and less at a cell
pub less_at : (f g : Place → ℕ) (x : Place) → ((y : Place) → f y ≤ g y) → f x < g x → (y : Place)
    → f y + cond (is_place y x) 1 0 ≤ g y
less_at f g x none fewer y = elim (same-place y x) [
  | inl (is, tells) ↦ (let one = ap {B = ℕ} (λ (t : Bool). cond t 1 0) tells in
      let here = subst (λ z. f z < g z) (sym is) fewer in omega (arith, one, here))
  | inr (other, tells) ↦ (let nothing = ap {B = ℕ} (λ (t : Bool). cond t 1 0) tells in
      omega (arith, nothing, none y))
]
