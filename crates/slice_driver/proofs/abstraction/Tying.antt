-- The tie of what is left to mark to the closures of a collection is kept where a cell is woken, and by a command's
-- change of the heap.
use Rattle.std.proofs.Common.{◌≡◌, ◌⊎◌, ◌↔◌, ◌≤◌, ℕ, zero, suc, List, [], ◌∷◌, length, Option, Some, None, slice_get}
use Rattle.std.proofs.Common.{if◌then◌else◌, refl, sym, ap, subst, ◌∙◌, inl, inr, arith}
use Rattle.std.specs.FinSet as set
use Rattle.std.specs.Option.{option_flatten}
use Rattle.gz_names.specs.declared.names.Name.{Name}
use Rattle.gz_names.specs.declared.names.Name.TheVariants.{Cell, Wrap}
use Rattle.gz_names.specs.declared.numbers.CompNo.{CompNo}
use Rattle.gz_names.specs.declared.numbers.Place.{Place}
use Rattle.gz_names.specs.declared.commands.GraphCmd.{GraphCmd}
use Rattle.mark_stack.specs.Stack.{Piles}
use Rattle.gray_lists.specs.Incoming.{Incoming}
use Rattle.colour_defs.specs.declared.graph.Object.{Object}
use Rattle.colour_defs.specs.Graph.{GraphState, comp_of, comp_of_object, object_of, value_of}
use Rattle.colour_defs.specs.Closure.{Closure, HoldsInField, from, along, weak, delegate}
use Rattle.colour_defs.specs.Closure as names
use Rattle.colour_defs.specs.Step.{step_of, with_field_in}
use Rattle.colour_defs.specs.Units.{Tally}
use Rattle.colour_defs.specs.World.{World, Collection, Names, Has, IsPresent, BlackClosure, LiveClosure}
use Rattle.colour_defs.specs.Present as present
use Rattle.colour_defs.specs.Laws.{IsMarking, IsValid}
use Rattle.colour_defs.proofs.Effects.{Waking, waking_of, Effect, effect_of, keeps, zones, comps, makes, takes, wraps}
use Rattle.colour_defs.proofs.Effects.{writes, slots, puts, dels}
use Rattle.colour_defs.proofs.Finite.{insert_cases}
use Rattle.colour_defs.proofs.Lists.{length_push, length_set}
use Rattle.colour_defs.proofs.ValidCommands.{in_insert, insert_has}
use Rattle.heap_core.specs.Shape.{Shape, name_at}
use Rattle.heap_core.specs.Shape as shape
use Rattle.heap_core.specs.Heap.{HeapState}
use Rattle.heap_core.proofs.MakingCells.{same-place}
use Rattle.barriers.specs.Reached.{Reached, HasEntry}
use Rattle.barriers.specs.Reached as reached
use Rattle.barriers.specs.Colours.{IsBlack}
use Rattle.barriers.specs.Invariant.{ColourInvariant, MarkingInvariant}
use Rattle.barriers.specs.PendingBlack.{PendingBlack}
use Rattle.barriers.specs.PendingBlack as black_closure
use Rattle.barriers.specs.PendingLive.{PendingLive, GrayInvariant, IsLiveStart}
use Rattle.barriers.specs.Exposing.{Exposes}
use Rattle.barriers.proofs.BlackClosure.{pending_is_reached, reached_is_pending}
use Rattle.barriers.proofs.LiveClosure.{live_is_reached}
use Rattle.slice_driver.specs.Worlds.{LiesIn}
use Rattle.slice_driver.specs.Closures.{AreTied}
use Rattle.slice_driver.specs.Commands.{ComesTo}
use Rattle.slice_driver.specs.Serves.{IsNew, Serves}
use Rattle.slice_driver.proofs.abstraction.Named.{key_here, AreSameStarts, closure_present, edge_named, edge_placed}
use Rattle.slice_driver.proofs.abstraction.Named.{name_of, named_present, place_of, present_named, same_reached}
use Rattle.slice_driver.proofs.abstraction.Named.{some_one}

-- what a collection reaches from some starts and from what was woken
abbrev FromStarts : Names → Collection → Name → Type 0
FromStarts starts k = Closure k.snapshot (λ y. Has starts y ⊎ Has k.woken y)

-- the collection where x was woken
abbrev woken_with : Collection → Name → Collection
woken_with k x = record k { woken = set.insert k.woken x }

-- more is reached from more starts
from_more : (k : Collection) (S T : Names) → ((y : Name) → Has S y → Has T y) → {y : Name} → FromStarts S k y
    → FromStarts T k y
from_more k S T more (from (inl s)) = from (inl (more _ s))
from_more k S T more (from (inr u)) = from (inr u)
from_more k S T more (along c e) = along (from_more k S T more c) e
from_more k S T more (weak e a b) = weak e (from_more k S T more a) (from_more k S T more b)
from_more k S T more (delegate e a b) = delegate e (from_more k S T more a) (from_more k S T more b)

-- what was reached is so where x was woken besides
from_woken : (k : Collection) (S : Names) (x : Name) → {y : Name} → FromStarts S k y → FromStarts S (woken_with k x) y
from_woken k S x (from (inl s)) = from (inl s)
from_woken k S x (from (inr u)) = from (inr (in_insert k.woken x _ u))
from_woken k S x (along c e) = along (from_woken k S x c) e
from_woken k S x (weak e a b) = weak e (from_woken k S x a) (from_woken k S x b)
from_woken k S x (delegate e a b) = delegate e (from_woken k S x a) (from_woken k S x b)

-- what is reached in a heap is present
present_reached : (h : HeapState) (P : Place → Type 0) → ColourInvariant h
    → ((p : Place) → P p → shape.IsPresent h.shape p) → {p : Place} → Reached h.shape P p → shape.IsPresent h.shape p
present_reached h P inv there (reached.from s) = there _ s
present_reached h P inv there (reached.along {x = p} {y = q} r e) = inv.shape.targets p q e
present_reached h P inv there (reached.weak {m} {k} {v} e a b) = (inv.shape.entries m k v e).2
present_reached h P inv there (reached.delegate {m} {k} {v} e is a b) = (inv.shape.entries m k v e).1

pub black_present : (h : HeapState) (s : Piles) → MarkingInvariant h s → (p : Place) → PendingBlack h s p
    → shape.IsPresent h.shape p
black_present h s inv p b =
    present_reached h (IsBlack h) inv.holds.colours (λ q d. inv.holds.colours.seen_present q (inr d))
    (pending_is_reached h s inv b)

live_present : (h : HeapState) (s : Piles) (lists : Incoming) → MarkingInvariant h s → GrayInvariant h s lists
    → (p : Place) → PendingLive h s lists p → shape.IsPresent h.shape p
live_present h s lists inv gray p l =
    present_reached h (IsLiveStart h) inv.holds.colours
    (λ q d. elim d [ inl seen ↦ inv.holds.colours.seen_present q seen | inr waits ↦ gray.buffered_present _ q waits ])
    (live_is_reached h s lists inv gray l)

-- entries by places and by names
module _ (h : HeapState) (w : World) (l : LiesIn h w) where
  here : (p : Place) (x : Name) → name_at h.shape p ≡ Some x → present.IsHere l.graph x
  here p x e = (l.part.here x).1 (present_named h w l p x e)

  pub entry_named : (a b c : Place) (m q u : Name) → name_at h.shape a ≡ Some m → name_at h.shape b ≡ Some q
      → name_at h.shape c ≡ Some u → HasEntry h.shape a b c → value_of w.graph m q ≡ Some u
  entry_named a b c m q u na nb nc e = sym (l.part.part.entries m q (here a m na) (key_here h w l b q nb))
      ∙ l.shown.entries_are a b c m q u e na nb nc

  pub entry_placed : (a b : Place) (m q u : Name) → name_at h.shape a ≡ Some m → name_at h.shape b ≡ Some q
      → value_of w.graph m q ≡ Some u → (c : Place) × HasEntry h.shape a b c × (name_at h.shape c ≡ Some u)
  entry_placed a b m q u na nb e =
      let known = l.shown.entries_known m q u (l.part.part.entries m q (here a m na) (key_here h w l b q nb) ∙ e) in
      let at_map : known.0 ≡ a = l.shown.apart known.0 a m known.4 na in
      let at_key : known.1 ≡ b = l.shown.apart known.1 b q known.5 nb in (
        known.2,
        subst (λ z. HasEntry h.shape a z known.2) at_key
            (subst (λ z. HasEntry h.shape z known.1 known.2) at_map known.3),
        known.6,
      )

-- a cell was exposed
module _ (h j : HeapState) (s t : Piles) (lists : Incoming) (w : World) (k : Collection) (p : Place) (x : Name)
    (ok : IsValid w) (l : LiesIn h w) (running : w.collection ≡ Some k) (marking : IsMarking k)
    (inv : MarkingInvariant h s) (gray : GrayInvariant h s lists) (ex : Exposes h s p j t)
    (named : name_at h.shape p ≡ Some x) (tied : AreTied h s lists w k) where
  starts_live : {y : Name} → BlackClosure k y → LiveClosure k y
  starts_live = from_more k k.black_starts k.live_starts (ok.marking k running marking).starts

  module _ (S : Names) (P : Place → Type 0) (same : (q : Place) (y : Name) → name_at h.shape q ≡ Some y
      → P q ↔ FromStarts S k y) (placed : (q : Place) → P q → shape.IsPresent h.shape q) (there : (y : Name)
      → FromStarts S k y → IsPresent w y) (dark : (y : Name) → BlackClosure k y → FromStarts S k y) where
    starts : AreSameStarts h w (λ q. P q ⊎ (q ≡ p)) (λ y. FromStarts S k y ⊎ (x ≡ y))
    starts = record {
      same = λ q y e. (
        λ d. elim d [
          | inl r ↦ inl ((same q y e).0 r)
          | inr at
              ↦ inr (some_one _ _ (sym named ∙ (ap (name_at h.shape) (sym at) ∙ e)))
        ],
        λ d. elim d [
          | inl c ↦ inl ((same q y e).1 c)
          | inr is
              ↦ inr (l.shown.apart q p y e (named ∙ ap (λ z. Some z) is))
        ],
      );
      placed = λ q d. elim d [
        | inl r ↦ placed q r
        | inr at
            ↦ subst (shape.IsPresent h.shape) (sym at) (named_present h.shape p x named)
      ];
      named = λ y d. elim d [ inl c ↦ there y c | inr is ↦ subst (IsPresent w) is (present_named h w l p x named) ];
    }

    -- what is reached now was reached from the snapshot, or is black
    closure_then : {y : Name} → Closure w.graph (λ z. FromStarts S k z ⊎ (x ≡ z)) y → FromStarts S (woken_with k x) y
    closure_then (from (inl c)) = from_woken k S x c
    closure_then (from (inr is)) = from (inr (subst (Has (set.insert k.woken x)) is (insert_has k.woken x)))
    closure_then (along {x = y} {y = z} c e) =
        elim ((ok.marking k running marking).edges y z e) [
          | inl old ↦ along (closure_then c) old
          | inr b
              ↦ from_woken k S x (dark z b)
        ]
    closure_then (weak {m} {k = q} {v = u} e a b) =
        elim ((ok.marking k running marking).entries m q u e)
        [ inl old ↦ weak old (closure_then a) (closure_then b) | inr d ↦ from_woken k S x (dark u d) ]
    closure_then (delegate {m} {v = u} {c} {t} e a b) =
        elim ((ok.marking k running marking).keys m (Wrap c t) u e) [
          | inl old ↦ delegate old.1 (closure_then a) (closure_then b)
          | inr d ↦ from_woken k S x (dark (Wrap c t) d)
        ]

    closure_there : (y : Name) → Closure w.graph (λ z. FromStarts S k z ⊎ (x ≡ z)) y → IsPresent w y
    closure_there y c = closure_present h w l (λ q. P q ⊎ (q ≡ p)) (λ z. FromStarts S k z ⊎ (x ≡ z)) starts y c

    closure_now : {y : Name} → FromStarts S (woken_with k x) y → Closure w.graph (λ z. FromStarts S k z ⊎ (x ≡ z)) y
    closure_now (from (inl st)) = from (inl (from (inl st)))
    closure_now (from {x = y} (inr u)) =
        elim (insert_cases k.woken x y u) [ inl old ↦ from (inl (from (inr old))) | inr is ↦ from (inr is) ]
    closure_now (along {x = y} {y = z} c e) =
        let now = closure_now c in
        elim (tied.edges_then y z (closure_there y now) e) [
          | inl still ↦ along now still
          | inr b
              ↦ from (inl (dark z b))
        ]
    closure_now (weak {m} {k = q} {v = u} e a b) =
        let am = closure_now a in
        let bq = closure_now b in
        elim (tied.entries_then m q u (closure_there m am) (closure_there q bq) e)
        [ inl still ↦ weak still am bq | inr d ↦ from (inl (dark u d)) ]
    closure_now (delegate {m} {v = u} {c} {t} e a b) =
        elim ((ok.marking k running marking).kept m (Wrap c t) u e) [
          | inl still ↦ delegate still.1 (closure_now a) (closure_now b)
          | inr d ↦ from (inl (dark (Wrap c t) d))
        ]

    reached_woken : (q : Place) (y : Name) → name_at h.shape q ≡ Some y → Reached h.shape (λ z. P z ⊎ (z ≡ p)) q
        ↔ FromStarts S (woken_with k x) y
    reached_woken q y e =
        let both = same_reached h w l (λ z. P z ⊎ (z ≡ p)) (λ z. FromStarts S k z ⊎ (x ≡ z)) starts q y e in
        (λ r. closure_then (both.0 r), λ c. both.1 (closure_now c))

    woken_present : (y : Name) → FromStarts S (woken_with k x) y → IsPresent w y
    woken_present y c = closure_there y (closure_now c)

  exposed_black : (q : Place) (y : Name) → name_at h.shape q ≡ Some y
      → Reached h.shape (λ z. PendingBlack h s z ⊎ (z ≡ p)) q ↔ BlackClosure (woken_with k x) y
  exposed_black = reached_woken k.black_starts (PendingBlack h s) (λ q y e. tied.black y q e) (black_present h s inv)
      (λ y c. tied.present y (starts_live c)) (λ y c. c)

  exposed_live : (q : Place) (y : Name) → name_at h.shape q ≡ Some y
      → Reached h.shape (λ z. PendingLive h s lists z ⊎ (z ≡ p)) q ↔ LiveClosure (woken_with k x) y
  exposed_live = reached_woken k.live_starts (PendingLive h s lists) (λ q y e. tied.live y q e)
      (live_present h s lists inv gray) tied.present (λ y c. starts_live c)

  name_was : (q : Place) (y : Name) → name_at j.shape q ≡ Some y → name_at h.shape q ≡ Some y
  name_was q y e = subst (λ (z : Shape). name_at z q ≡ Some y)
      (ap (λ (z : HeapState). z.shape) ex.spreads.blackens.rest) e

  pub tied_exposed : AreTied j t lists w (record k { woken = set.insert k.woken x })
  tied_exposed = record {
    black = λ y q e. (let both = exposed_black q y (name_was q y e) in
        (λ b. both.0 ((ex.pending_black q).0 b), λ c. (ex.pending_black q).1 (both.1 c)));
    live = λ y q e. (let both = exposed_live q y (name_was q y e) in let pending = (ex.pending_live lists gray).1 q in
        (λ b. both.0 (pending.0 b), λ c. pending.1 (both.1 c)));
    present = woken_present k.live_starts (PendingLive h s lists) (λ q y e. tied.live y q e)
        (live_present h s lists inv gray) tied.present (λ y c. starts_live c);
    edges_then = λ y z there e. elim (tied.edges_then y z there e) [
      | inl still ↦ inl still
      | inr b
          ↦ inr (from_woken k k.black_starts x b)
    ];
    entries_then = λ m q u am bq e. elim (tied.entries_then m q u am bq e) [
      | inl still ↦ inl still
      | inr b
          ↦ inr (from_woken k k.black_starts x b)
    ];
    grown = tied.grown;
    formed = tied.formed;
  }

-- what a command's change leaves of the edges and entries of cells that were there
module _ (h j : HeapState) (s : Piles) (lists : Incoming) (w v : World) (k : Collection) (l : LiesIn h w)
    (m : LiesIn j v) (serves : Serves h j s lists) (stays : (q : Place) (y : Name) → name_at h.shape q ≡ Some y
    → name_at j.shape q ≡ Some y) (tied : AreTied h s lists w k) where
  edge_on : (q : Place) (y z : Name) → name_at h.shape q ≡ Some y → names.HasEdge k.snapshot y z
      → names.HasEdge v.graph y z ⊎ BlackClosure k z
  edge_on q y z nq e = elim (tied.edges_then y z (present_named h w l q y nq) e) [
    | inr b ↦ inr b
    | inl still ↦ (let to = edge_placed h w l q y z nq still in elim (serves.edges_then q to.0 to.1) [
      | inl kept ↦ inl (edge_named j v m q to.0 y z (stays q y nq) (stays to.0 z to.2) kept)
      | inr b ↦ inr ((tied.black z to.0 to.2).0 (black_closure.black b))
    ])
  ]

  entry_on : (a b : Place) (o q u : Name) → name_at h.shape a ≡ Some o → name_at h.shape b ≡ Some q
      → value_of k.snapshot o q ≡ Some u → (value_of v.graph o q ≡ Some u) ⊎ BlackClosure k u
  entry_on a b o q u na nb e =
      elim (tied.entries_then o q u (present_named h w l a o na) (present_named h w l b q nb) e) [
        | inr d ↦ inr d
        | inl still ↦ (let to = entry_placed h w l a b o q u na nb still in elim (serves.entries_then a b to.0 to.1) [
          | inl kept ↦ inl (entry_named j v m a b to.0 o q u (stays a o na) (stays b q nb) (stays to.0 u to.2) kept)
          | inr d ↦ inr ((tied.black u to.0 to.2).0 (black_closure.black d))
        ])
      ]

  kept_present : (y : Name) → IsPresent w y → IsPresent v y
  kept_present y there = (let at = place_of h w l y there in present_named j v m at.0 y (stays at.0 y at.1))

-- nothing is new
pub tied_served : (h j : HeapState) (s : Piles) (lists : Incoming) (w v : World) (k : Collection) (t : Tally)
    → LiesIn h w → LiesIn j v → Serves h j s lists → ((p : Place) → name_at j.shape p ≡ name_at h.shape p)
    → length w.graph.objects ≤ length v.graph.objects → AreTied h s lists w k
    → AreTied j s lists v (record k { tally = t })
tied_served h j s lists w v k t l m serves same more tied = record {
  black = λ y q e. (
    λ b. elim ((serves.pending_black q).0 b) [
      | inl was ↦ (tied.black y q (name_was q y e)).0 was
      | inr new
          ↦ absurd (none_new q new)
    ],
    λ c. (serves.pending_black q).1 (inl ((tied.black y q (name_was q y e)).1 c)),
  );
  live = λ y q e. (
    λ b. elim ((serves.pending_live q).0 b) [
      | inl was ↦ (tied.live y q (name_was q y e)).0 was
      | inr new
          ↦ absurd (none_new q new)
    ],
    λ c. (serves.pending_live q).1 (inl ((tied.live y q (name_was q y e)).1 c)),
  );
  present = λ y c. kept_present h j s lists w v k l m serves stays tied y (tied.present y c);
  edges_then = λ y z there e.
      (let at = place_of j v m y there in
      edge_on h j s lists w v k l m serves stays tied at.0 y z (name_was at.0 y at.1) e);
  entries_then = λ o q u here there e. (let at = place_of j v m o here in let to = place_of j v m q there in
      entry_on h j s lists w v k l m serves stays tied at.0 to.0 o q u (name_was at.0 o at.1) (name_was to.0 q to.1) e);
  grown = (let before = tied.grown in omega (arith, before, more));
  formed = tied.formed;
}
  where
    name_was : (q : Place) (y : Name) → name_at j.shape q ≡ Some y → name_at h.shape q ≡ Some y
    name_was q y e = sym (same q) ∙ e

    stays : (q : Place) (y : Name) → name_at h.shape q ≡ Some y → name_at j.shape q ≡ Some y
    stays q y e = same q ∙ e

    none_new : (q : Place) → IsNew h j q → ⊥
    none_new q new = (let n = name_of j.shape q new.0 in new.1 (named_present h.shape q n.0 (name_was q n.0 n.1)))

-- a cell was made
module _ (h j : HeapState) (s : Piles) (lists : Incoming) (w v : World) (k : Collection) (zone : ℕ) (p : Place)
    (x : Name) (ok : IsValid w) (made : IsValid v) (running : w.collection ≡ Some k) (marking : IsMarking k)
    (l : LiesIn h w) (m : LiesIn j v) (serves : Serves h j s lists) (comes : ComesTo h.shape j.shape zone p x) (next :
    (n : ℕ) → x ≡ Cell n
    → n ≡ length w.graph.objects) (tied : AreTied h s lists w k) where
  made_named : name_at j.shape p ≡ Some x
  made_named = comes.names p
      ∙ elim (same-place p p) [
        | inl e ↦ ap (λ b. if b then Some x else name_at h.shape p) e.1
        | inr n
            ↦ absurd (n.0 refl)
      ]

  made_stays : (q : Place) (y : Name) → name_at h.shape q ≡ Some y → name_at j.shape q ≡ Some y
  made_stays q y was = comes.names q ∙ elim (same-place q p) [
    | inl e ↦ absurd (comes.free (named_present h.shape p y (ap (name_at h.shape) (sym e.0) ∙ was)))
    | inr n ↦ ap (λ b. if b then Some x else name_at h.shape q) n.1 ∙ was
  ]

  made_fresh : (q : Place) (y : Name) → name_at j.shape q ≡ Some y → (name_at h.shape q ≡ Some y) ⊎ ((q ≡ p) × (x ≡ y))
  made_fresh q y now = elim (same-place q p) [
    | inl e ↦ inr (
      e.0,
      some_one _ _ (sym (comes.names q ∙ ap (λ b. if b then Some x else name_at h.shape q) e.1)
          ∙ now),
    )
    | inr n ↦ inl (sym (comes.names q ∙ ap (λ b. if b then Some x else name_at h.shape q) n.1) ∙ now)
  ]

  new_here : IsNew h j p
  new_here = (named_present j.shape p x made_named, comes.free)

  -- only x is new
  new_is : (q : Place) (y : Name) → name_at j.shape q ≡ Some y → IsNew h j q → x ≡ y
  new_is q y e new = elim (made_fresh q y e) [
    | inl was ↦ absurd (new.1 (named_present h.shape q y was))
    | inr is
        ↦ is.1
  ]

  starts_are_live : {y : Name} → BlackClosure k y → LiveClosure k y
  starts_are_live = from_more k k.black_starts k.live_starts (ok.running k running).starts

  -- the snapshot does not have an object that was made after it
  not_yet : (n : ℕ) → x ≡ Cell n → object_of k.snapshot n ≡ None
  not_yet n is = past k.snapshot.objects n (let after = next n is in let before = tied.grown in
      omega (arith, after, before))
    where
      past : (os : List (Option Object)) (n : ℕ) → length os ≤ n → option_flatten (slice_get os n) ≡ None
      past [] n le = refl
      past (o ∷ os) zero le = absurd (omega (arith, le))
      past (o ∷ os) (suc n) le = past os n (omega (arith, le))

  no_comp : (n : ℕ) (c : CompNo) → x ≡ Cell n → comp_of k.snapshot (Cell n) ≡ Some c → ⊥
  no_comp n c is e = cc (ap comp_of_object (not_yet n is), e)

  -- nor an entry of the new cell
  no_map : (y q u : Name) → x ≡ y → value_of k.snapshot y q ≡ Some u → ⊥
  no_map (Cell n) q u is e = (let r = tied.formed.keys (Cell n) q u e in no_comp n r.0 is r.1)
  no_map (Wrap c t) q u is e = tied.formed.no_wrappers (Wrap c t) q u e

  -- it was not there
  not_there : IsPresent w x → ⊥
  not_there there =
      let at = place_of h w l x there in
      let same : at.0 ≡ p = m.shown.apart at.0 p x (made_stays at.0 x at.1) made_named in
      comes.free (named_present h.shape p x (ap (name_at h.shape) (sym same) ∙ at.1))

  -- the target of a new wrapper was there
  target_there : (c : CompNo) (t : ℕ) → x ≡ Wrap c t → IsPresent w (Cell t)
  target_there c t is =
      let edge = (made.made (Wrap c t) (subst (IsPresent v) is (present_named j v m p x made_named))).2 in
      let at = edge_placed j v m p (Wrap c t) (Cell t) (made_named ∙ ap (λ o. Some o) is) (refl, edge) in
      elim (made_fresh at.0 (Cell t) at.2) [
        | inl was ↦ present_named h w l at.0 (Cell t) was
        | inr self ↦ absurd (let other = self.1 in cc (is, other))
      ]

  -- an entry of a map that was there has no new key: with the map and its target a wrapper key would have been there
  no_key : (o y u : Name) → IsPresent w o → x ≡ y → value_of k.snapshot o y ≡ Some u → ⊥
  no_key o (Cell n) u there is e = (let r = tied.formed.keys o (Cell n) u e in no_comp n r.0 is r.2)
  no_key o (Wrap c t) u there is e = elim ((ok.marking k running marking).kept o (Wrap c t) u e) [
    | inl now ↦ not_there (subst (IsPresent w) (sym is)
        (ok.presence.keys o now.0 c t now.1 there (target_there c t is)))
    | inr black ↦ not_there (subst (IsPresent w) (sym is) (tied.present (Wrap c t) (starts_are_live black)))
  ]

  -- an edge that the snapshot has of the new cell is that of a wrapper that was made again
  edge_made : (y z : Name) → x ≡ y → names.HasEdge k.snapshot y z → names.HasEdge v.graph y z
  edge_made (Cell n) z is e = absurd (subst (λ o. HoldsInField o z) (not_yet n is) e)
  edge_made (Wrap c t) z is e =
      (e.0, (made.made (Wrap c t) (subst (IsPresent v) is (present_named j v m p x made_named))).2)

  edge_apart : (y z : Name) → x ≡ y → names.HasEdge k.snapshot y z → x ≡ z → ⊥
  edge_apart (Cell n) z is e self = subst (λ o. HoldsInField o z) (not_yet n is) e
  edge_apart (Wrap c t) z is e self = cc (is, e.0, self)

  -- it leads to what was still to become black
  edge_black : (y z : Name) → x ≡ y → names.HasEdge k.snapshot y z → BlackClosure k z
  edge_black y z is e =
      let at = edge_placed j v m p y z (made_named ∙ ap (λ o. Some o) is) (edge_made y z is e) in
      let pending : PendingBlack j s at.0 =
      reached_is_pending j s serves.marks
      (reached.along (pending_is_reached j s serves.marks ((serves.pending_black p).1 (inr new_here))) at.1) in
      elim (made_fresh at.0 z at.2) [
        | inr self ↦ absurd (edge_apart y z is e self.1)
        | inl was ↦ elim ((serves.pending_black at.0).0 pending) [
          | inl b ↦ (tied.black z at.0 was).0 b
          | inr new ↦ absurd (new.1 (named_present h.shape at.0 z was))
        ]
      ]

  -- what is reached where x was woken is reached before, or is x
  reached_before : (S : Names) → ((y : Name) → BlackClosure k y → FromStarts S k y)
      → ((y : Name) → FromStarts S k y → IsPresent w y) → {y : Name} → FromStarts S (woken_with k x) y
      → FromStarts S k y ⊎ (x ≡ y)
  reached_before S dark there (from (inl st)) = inl (from (inl st))
  reached_before S dark there (from {x = y} (inr u)) =
      elim (insert_cases k.woken x y u) [ inl old ↦ inl (from (inr old)) | inr is ↦ inr is ]
  reached_before S dark there (along {x = y} {y = z} c e) =
      elim (reached_before S dark there c) [ inl old ↦ inl (along old e) | inr is ↦ inl (dark z (edge_black y z is e)) ]
  reached_before S dark there (weak {m = o} {k = q} {v = u} e a b) = elim (reached_before S dark there a) [
    | inr is ↦ absurd (no_map o q u is e)
    | inl old ↦ elim (reached_before S dark there b) [
      | inr is ↦ absurd (no_key o q u (there o old) is e)
      | inl also
          ↦ inl (weak e old also)
    ]
  ]
  reached_before S dark there (delegate {m = o} {v = u} {c} {t} e a b) = elim (reached_before S dark there a) [
    | inr is ↦ absurd (no_map o (Wrap c t) u is e)
    | inl old ↦ elim (reached_before S dark there b) [
      | inl also ↦ inl (delegate e old also)
      | inr is ↦ absurd (let d = tied.formed.delegates o u c t e in no_comp t d.0 is d.1)
    ]
  ]

  woken_here : (S : Names) (y : Name) → x ≡ y → FromStarts S (woken_with k x) y
  woken_here S y is = from (inr (subst (Has (set.insert k.woken x)) is (insert_has k.woken x)))

  module _ (S : Names) (P R : Place → Type 0) (dark : (y : Name) → BlackClosure k y → FromStarts S k y)
      (there : (y : Name) → FromStarts S k y → IsPresent w y) (same : (y : Name) (q : Place)
      → name_at h.shape q ≡ Some y → P q ↔ FromStarts S k y) (grows : (q : Place)
      → R q ↔ (P q ⊎ IsNew h j q)) where
    tied_then : (y : Name) (q : Place) → name_at j.shape q ≡ Some y → R q ↔ FromStarts S (woken_with k x) y
    tied_then y q e = (
      λ r. elim (made_fresh q y e) [
        | inr is ↦ woken_here S y is.1
        | inl was ↦ elim ((grows q).0 r) [
          | inl old ↦ from_woken k S x ((same y q was).0 old)
          | inr new
              ↦ woken_here S y (new_is q y e new)
        ]
      ],
      λ c. elim (made_fresh q y e) [
        | inr is ↦ subst R (sym is.0) ((grows p).1 (inr new_here))
        | inl was ↦ elim (reached_before S dark there c) [
          | inl old ↦ (grows q).1 (inl ((same y q was).1 old))
          | inr is ↦ subst R (m.shown.apart p q y (made_named ∙ ap (λ o. Some o) is) e) ((grows p).1 (inr new_here))
        ]
      ],
    )

  pub tied_made : (t : Tally) → length w.graph.objects ≤ length v.graph.objects
      → AreTied j s lists v (record k { tally = t; woken = set.insert k.woken x })
  tied_made t more = record {
    black = tied_then k.black_starts (PendingBlack h s) (PendingBlack j s) (λ y c. c)
        (λ y c. tied.present y (starts_are_live c)) tied.black serves.pending_black;
    live = tied_then k.live_starts (PendingLive h s lists) (PendingLive j s lists) (λ y c. starts_are_live c)
        tied.present tied.live serves.pending_live;
    present = λ y c. elim (reached_before k.live_starts (λ z d. starts_are_live d) tied.present c) [
      | inl old ↦ kept_present h j s lists w v k l m serves made_stays tied y (tied.present y old)
      | inr is ↦ subst (IsPresent v) is (present_named j v m p x made_named)
    ];
    edges_then = λ y z there e. (let at = place_of j v m y there in elim (made_fresh at.0 y at.1) [
      | inr is ↦ inl (edge_made y z is.1 e)
      | inl was ↦ elim (edge_on h j s lists w v k l m serves made_stays tied at.0 y z was e)
          [ inl still ↦ inl still | inr b ↦ inr (from_woken k k.black_starts x b) ]
    ]);
    entries_then = λ o q u here there e. (let at = place_of j v m o here in let to = place_of j v m q there in
        elim (made_fresh at.0 o at.1) [
          | inr is ↦ absurd (no_map o q u is.1 e)
          | inl was ↦ elim (made_fresh to.0 q to.1) [
            | inr is ↦ absurd (no_key o q u (present_named h w l at.0 o was) is.1 e)
            | inl also ↦ elim (entry_on h j s lists w v k l m serves made_stays tied at.0 to.0 o q u was also e)
                [ inl still ↦ inl still | inr b ↦ inr (from_woken k k.black_starts x b) ]
          ]
        ]);
    grown = (let before = tied.grown in omega (arith, before, more));
    formed = tied.formed;
  }

-- no object is ever taken from a graph
no_fewer : (g : GraphState) (n : Waking) {h : GraphState} → Effect g n h → length g.objects ≤ length h.objects
no_fewer g n keeps = omega arith
no_fewer g n (zones c) = omega arith
no_fewer g n (comps z) = omega arith
no_fewer g n (makes r o nothing is) = (let long = length_push g.objects (Some o) in omega (arith, long))
no_fewer g n (takes r x is) = omega arith
no_fewer g n (wraps r c t is src) = omega arith
no_fewer g n (writes i o f v at src fits) =
    (let long = length_set g.objects i (with_field_in (Some o) f v) in omega (arith, long))
no_fewer g n (slots i x src) = omega arith
no_fewer g n (puts m k v fits src) = omega arith
no_fewer g n (dels m k held) = omega arith

pub objects_grow : (g : GraphState) (c : GraphCmd) → length g.objects ≤ length (step_of g c).0.objects
objects_grow g c = no_fewer g (waking_of g c) (effect_of g c)
