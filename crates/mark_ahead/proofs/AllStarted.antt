-- Cells that are pending in black, and whose edges lead to black cells, are started one after another.
use Rattle.std.proofs.Common.{◌≡◌, ◌+◌, ◌<◌, ◌≤◌, true, List, [], ◌∷◌, inl, inr, refl, sym, ap, ◌∙◌, subst}
use Rattle.std.proofs.Common.{◌++◌, arith, length, Contains}
use Rattle.gz_names.specs.declared.numbers.Place.{Place}
use Rattle.mark_stack.specs.Stack.{IsPushed, Piles}
use Rattle.mark_stack.specs.declared.stack.Pile.TheVariants as pile
use Rattle.mark_stack.proofs.Pushed.{gray_black, wake_black}
use Rattle.weak_maps.specs.Delegates.{DelegateRow}
use Rattle.weak_maps.specs.Entries.{Starts}
use Rattle.weak_maps.specs.WeakMaps.{AreParallel, IsSound, LooksState}
use Rattle.weak_maps.specs.declared.entries.WeakEntry.{WeakEntry}
use Rattle.weak_maps.specs.declared.colours.MarkColour.{MarkColour}
use Rattle.weak_maps.specs.declared.colours.MarkColour.TheVariants as mark
use Rattle.heap_core.specs.Shape.{HasEdge, IsPresent, Shape, is_marking}
use Rattle.heap_core.specs.Heap.{HeapState}
use Rattle.barriers.specs.Colours.{IsBlack}
use Rattle.barriers.specs.Pending.{pending}
use Rattle.barriers.specs.Scans.{ScansNoMore}
use Rattle.barriers.specs.WeakPoint.{left_of}
use Rattle.barriers.proofs.Places.{nothing_in_none}
use Rattle.barriers.proofs.Following.{Taken}
use Rattle.barriers.proofs.Scans.{no_more_twice, none_more, pops_black_once}
use Rattle.barriers.proofs.Spreading.{grows_none}
use Rattle.mark_ahead.specs.Ahead.{IsMarkedBlack, PopsAll, StartsAll, StartsEach}
use Rattle.mark_ahead.specs.Ahead as each
use Rattle.marker.specs.Looks.{StartsLooks, with_looks}
use Rattle.marker.specs.UnitsToCome.{units_at}
use Rattle.marker.proofs.BlackSteps.{scanned}
use Rattle.marker.proofs.Starting.{Stands, started_entries, started_holds, started_left, started_once, started_point}
use Rattle.marker.proofs.Starting.{started_scans, started_taken}
use Rattle.marker.proofs.UnitsToCome.{black_fewer, maps_fewer, maps_no_more, scan_lowers, scans_no_more}
use Rattle.mark_ahead.proofs.WonCells.{first_in, in_first, later_in, pushed_more, with_pending}

-- no edge of a black cell of a marking zone leads to a cell that is not black
abbrev pub AreClosed : HeapState → Type 0
AreClosed h = (x y : Place) → IsBlack h x → is_marking h.shape x ≡ true → HasEdge h.shape x y → IsBlack h y

-- a list has all present cells
abbrev pub HasPresent : HeapState → List Place → Type 0
HasPresent h cells = (x : Place) → IsPresent h.shape x → Contains cells x

module _ (h : HeapState) (closed : AreClosed h) (a b : LooksState) (p q : Piles) (x : Place)
    (was : Stands (with_looks h a) p) (popped : IsPushed q pile.Black x p) (sound : IsSound h.shape.weak)
    (starts : StartsLooks mark.Black x (with_looks h a) (with_looks h b)) where
  abbrev old : HeapState
  old = with_looks h a

  abbrev new : HeapState
  new = with_looks h b

  taken : Taken [] new q x true
  taken = started_taken old p q x b was popped sound starts

  pub one_black : IsMarkedBlack h x
  one_black = (taken.black, taken.zone)

  pub one_left : (c : MarkColour) (m n : Place) → left_of old c m n → left_of new c m n
  one_left = (started_entries old p q x b was popped sound starts).kept

  pub one_scans : ScansNoMore old p new q
  one_scans = started_scans old p q x b was popped sound starts

  pub one_stands : Stands new q
  one_stands = record {
    holds = scanned new p q x new q (started_holds old p q x b was popped sound starts) popped taken.invariant
        (grows_none (HasEdge new.shape x) new q) (λ y ed. closed x y taken.black taken.zone ed)
        (started_left old p q x b was popped sound starts);
    weak = started_point old p q x b was popped sound starts;
    once = started_once old p q x b was popped sound starts;
  }

  pub one_lowers : (cells : List Place) → HasPresent h cells → units_at new q cells < units_at old p cells
  one_lowers cells all =
      let none = scans_no_more old p new q refl one_scans in
      let maps = maps_no_more old p new q refl one_scans was.holds.colours.no_gray was.once
      (λ y c. inl (subst (λ (ys : List Place). Contains ys y) (sym (popped.others pile.Gray gray_black)) c)) in
      let once_less = pops_black_once old q p x popped in
      let fewer = black_fewer old p new q refl one_scans x taken.zone once_less in
      scan_lowers old p new q cells refl none maps mark.Black x
      (all x (was.holds.colours.seen_present x (inr taken.black))) fewer
      (maps_fewer old p new q refl x fewer (λ black. black)) starts

-- all of them were started
pub record AllStarted (h : HeapState) (a d : LooksState) (p q : Piles) (xs : List Place) : Type 0 where
  pub stands : Stands (with_looks h d) q
  pub black : (x : Place) → Contains xs x → IsMarkedBlack h x
  pub left_kept : (c : MarkColour) (m n : Place) → left_of (with_looks h a) c m n → left_of (with_looks h d) c m n
  pub scans : ScansNoMore (with_looks h a) p (with_looks h d) q
  pub gray_is : q.gray ≡ p.gray
  pub wake_is : q.wake ≡ p.wake
  pub lowers : (cells : List Place) → HasPresent h cells
      → units_at (with_looks h d) q cells + length xs ≤ units_at (with_looks h a) p cells

pub all_started : (h : HeapState) → AreClosed h → (xs : List Place) (a d : LooksState) (p q : Piles)
    → Stands (with_looks h a) p → PopsAll h xs a p d q → AllStarted h a d p q xs
all_started h closed [] a d p q was (same, alike) =
    subst (λ (l : LooksState). AllStarted h a l p q []) (sym same)
    (subst (λ (r : Piles). AllStarted h a a p r []) (sym alike) (record {
      stands = was;
      black = λ x c. absurd (nothing_in_none x c);
      left_kept = λ c m n l. l;
      scans = none_more (with_looks h a) p;
      gray_is = refl;
      wake_is = refl;
      lowers = λ cells all. omega arith;
    }))
all_started h closed (x ∷ xs) a d p q was (b, r, popped, sound, starts, rest) =
    let one = one_stands h closed a b p r x was popped sound starts in
    let left = one_left h closed a b p r x was popped sound starts in
    let less = one_lowers h closed a b p r x was popped sound starts in
    let scans = one_scans h closed a b p r x was popped sound starts in
    let all = all_started h closed xs b d r q one rest in
    record {
      stands = all.stands;
      black = λ y c. elim (in_first x xs y c) [
        | inl is ↦ subst (λ z. IsMarkedBlack h z) is (one_black h closed a b p r x was popped sound starts)
        | inr later ↦ all.black y later
      ];
      left_kept = λ c m n l. all.left_kept c m n (left c m n l);
      scans = no_more_twice (with_looks h a) p (with_looks h b) r (with_looks h d) q scans all.scans;
      gray_is = all.gray_is ∙ sym (popped.others pile.Gray gray_black);
      wake_is = all.wake_is ∙ sym (popped.others pile.Wake wake_black);
      lowers = λ cells has. (let first = less cells has in let others = all.lowers cells has in omega (
        arith,
        first,
        others,
      ));
    }

-- one cell was started before others
each_before : (P : Place → Type 0) (h : HeapState) (a b : LooksState) (x : Place) → P x
    → StartsLooks mark.Black x (with_looks h a) (with_looks h b) → {d : LooksState} → StartsEach mark.Black P h b d
    → StartsEach mark.Black P h a d
each_before P h a b x px starts each.none = each.more each.none x px starts
each_before P h a b x px starts (each.more chain y py next) =
    each.more (each_before P h a b x px starts chain) y py next

pub each_started : (P : Place → Type 0) (h : HeapState) (xs : List Place) (a d : LooksState) (p q : Piles)
    → ((x : Place) → Contains xs x → P x) → PopsAll h xs a p d q → StartsEach mark.Black P h a d
each_started P h [] a d p q all (same, alike) =
    subst (λ (l : LooksState). StartsEach mark.Black P h a l) (sym same) each.none
each_started P h (x ∷ xs) a d p q all (b, r, popped, sound, starts, rest) =
    each_before P h a b x (all x (first_in x xs)) starts
    (each_started P h xs b d r q (λ y c. all y (later_in x y xs c)) rest)

-- cells that are pending before the others are taken from the pile first
pub starts_pop : (h : HeapState) (xs : List Place) (a d : LooksState) (q : Piles) → StartsAll h xs a d
    → PopsAll h xs a (with_pending q xs) d q
starts_pop h [] a d q same = (same, refl)
starts_pop h (x ∷ xs) a d q (b, sound, starts, rest) =
    (b, with_pending q xs, pushed_more (with_pending q xs) x, sound, starts, starts_pop h xs b d q rest)

pub pops_twice : (h : HeapState) (xs ys : List Place) (a b d : LooksState) (p q r : Piles) → PopsAll h xs a p b q
    → PopsAll h ys b q d r → PopsAll h (xs ++ ys) a p d r
pops_twice h [] ys a b d p q r (same, alike) rest =
    subst (λ (l : LooksState). PopsAll h ys l p d r) same
    (subst (λ (s : Piles). PopsAll h ys b s d r) alike rest)
pops_twice h (x ∷ xs) ys a b d p q r (c, s, popped, sound, starts, more) rest =
    (c, s, popped, sound, starts, pops_twice h xs ys c b d s q r more rest)

-- one cell more was started
pub one_more_started : (h : HeapState) (xs : List Place) (x : Place) (a b d : LooksState) → StartsAll h xs a b
    → IsSound h.shape.weak → StartsLooks mark.Black x (with_looks h b) (with_looks h d)
    → StartsAll h (xs ++ x ∷ []) a d
one_more_started h [] x a b d same sound starts =
    (d, sound, subst (λ (l : LooksState). StartsLooks mark.Black x (with_looks h l) (with_looks h d)) same starts, refl)
one_more_started h (y ∷ xs) x a b d (c, was, first, rest) sound starts =
    (c, was, first, one_more_started h xs x c b d rest sound starts)

-- in another heap of the same shape
starts_there : (h k : HeapState) (x : Place) (a b : LooksState) → k.shape ≡ h.shape
    → StartsLooks mark.Black x (with_looks h a) (with_looks h b)
    → StartsLooks mark.Black x (with_looks k a) (with_looks k b)
starts_there h k x a b same s = record {
  map = subst (λ (z : Shape). Starts (λ (entry : WeakEntry). entry.map) mark.Black x z.weak.entries a.by_map b.by_map)
      (sym same) s.map;
  key = subst (λ (z : Shape). Starts (λ (entry : WeakEntry). entry.key) mark.Black x z.weak.entries a.by_key b.by_key)
      (sym same) s.key;
  delegate = subst (λ (z : Shape). Starts (λ (row : DelegateRow). row.target) mark.Black x z.weak.delegates.rows
      a.by_delegate b.by_delegate) (sym same) s.delegate;
  parallel = subst (λ (z : Shape). AreParallel (record { table = z.weak; looks = b })) (sym same) s.parallel;
}

pub pops_there : (h k : HeapState) (xs : List Place) (a d : LooksState) (p q : Piles) → k.shape ≡ h.shape
    → PopsAll h xs a p d q → PopsAll k xs a p d q
pops_there h k [] a d p q same pops = pops
pops_there h k (x ∷ xs) a d p q same (b, r, popped, sound, starts, rest) = (
  b,
  r,
  popped,
  subst (λ (z : Shape). IsSound z.weak) (sym same) sound,
  starts_there h k x a b same starts,
  pops_there h k xs b d r q same rest,
)

pub all_there : (h k : HeapState) (xs : List Place) (a d : LooksState) → k.shape ≡ h.shape → StartsAll h xs a d
    → StartsAll k xs a d
all_there h k [] a d same starts = starts
all_there h k (x ∷ xs) a d same (b, sound, starts, rest) = (
  b,
  subst (λ (z : Shape). IsSound z.weak) (sym same) sound,
  starts_there h k x a b same starts,
  all_there h k xs b d same rest,
)

-- a cell was started in a heap of the same shape
pub starts_from : (h m k : HeapState) (x : Place) → m.shape ≡ h.shape → k.shape ≡ m.shape
    → StartsLooks mark.Black x m k → StartsLooks mark.Black x (with_looks h m.looks) (with_looks h k.looks)
starts_from h m k x same alike s = record {
  map = subst (λ (z : Shape). Starts (λ (entry : WeakEntry). entry.map) mark.Black x z.weak.entries m.looks.by_map
      k.looks.by_map) same s.map;
  key = subst (λ (z : Shape). Starts (λ (entry : WeakEntry). entry.key) mark.Black x z.weak.entries m.looks.by_key
      k.looks.by_key) same s.key;
  delegate = subst (λ (z : Shape). Starts (λ (row : DelegateRow). row.target) mark.Black x z.weak.delegates.rows
      m.looks.by_delegate k.looks.by_delegate) same s.delegate;
  parallel = subst (λ (z : Shape). AreParallel (record { table = z.weak; looks = k.looks })) (alike ∙ same) s.parallel;
}

-- so it was with some of the cells that were pending in black
pub record StartsSome (h : HeapState) (p : Piles) (k : HeapState) (q : Piles) : Type 0 where
  pub rest : k ≡ record h { looks = k.looks; delayed = k.delayed }
  pub cells : List Place
  pub pops : PopsAll h cells h.looks (pending h p) k.looks (pending k q)

pub starts_next : (h : HeapState) (p : Piles) (k : HeapState) (q : Piles) → StartsSome h p k q → (n : HeapState)
    (r : Piles) (x : Place) → n ≡ record k { delayed = n.delayed }
    → IsPushed (pending n r) pile.Black x (pending k q) → (m : HeapState) → m ≡ record n { looks = m.looks }
    → IsSound m.shape.weak → StartsLooks mark.Black x n m → StartsSome h p m r
starts_next h p k q was n r x taken popped m started sound starts =
    let first : k.shape ≡ h.shape = ap (λ (z : HeapState). z.shape) was.rest in
    let second : n.shape ≡ k.shape = ap (λ (z : HeapState). z.shape) taken in
    let third : m.shape ≡ n.shape = ap (λ (z : HeapState). z.shape) started in
    let looks : n.looks ≡ k.looks = ap (λ (z : HeapState). z.looks) taken in
    let delayed : pending m r ≡ pending n r = ap (λ (z : HeapState). pending z r) started in
    let here : StartsLooks mark.Black x (with_looks h k.looks) (with_looks h m.looks) =
    subst (λ (l : LooksState). StartsLooks mark.Black x (with_looks h l) (with_looks h m.looks)) looks
    (starts_from h n m x (second ∙ first) third starts) in
    let one : PopsAll h (x ∷ []) k.looks (pending k q) m.looks (pending m r) = (
      m.looks,
      pending m r,
      subst (λ (z : Piles). IsPushed z pile.Black x (pending k q)) (sym delayed) popped,
      subst (λ (z : Shape). IsSound z.weak) (third ∙ (second ∙ first)) sound,
      here,
      (refl, refl),
    ) in
    record {
      rest = started ∙ (ap (λ (z : HeapState). record z { looks = m.looks }) (taken
          ∙ ap (λ (z : HeapState). record z { delayed = n.delayed }) was.rest)
          ∙ ap (λ (d : Piles). record h { looks = m.looks; delayed = d })
          (sym (ap (λ (z : HeapState). z.delayed) started)));
      cells = was.cells ++ x ∷ [];
      pops = pops_twice h was.cells (x ∷ []) h.looks k.looks m.looks (pending h p) (pending k q) (pending m r) was.pops
          one;
    }
