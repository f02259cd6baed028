-- What black marking does that follows one cell, or all that are pending.
use Rattle.std.proofs.Common.{◌≡◌, ◌↔◌, ◌<◌, ℕ, false, [], inr, sym, ap, subst}
use Rattle.gz_names.specs.declared.numbers.Place.{Place}
use Rattle.mark_stack.specs.Stack.{Piles}
use Rattle.weak_maps.specs.declared.colours.MarkColour.TheVariants as mark
use Rattle.heap_core.specs.Shape.{AreWhole, Shape, is_marking_state, state_in, zone_of}
use Rattle.heap_core.specs.Heap.{HeapState}
use Rattle.barriers.specs.Reached.{Reached}
use Rattle.barriers.specs.Colours.{IsBlack}
use Rattle.barriers.specs.PendingBlack.{PendingBlack}
use Rattle.barriers.specs.Invariant.{MarkingInvariant}
use Rattle.barriers.specs.Exposing.{KeepsLive}
use Rattle.barriers.specs.Scans.{ScansNoMore}
use Rattle.barriers.specs.Spreading.{Blackens}
use Rattle.mark_ahead.specs.Ahead.{FollowsAll, IsMarkedBlack}
use Rattle.marker.specs.Looks.{with_looks}
use Rattle.marker.specs.Units.{FollowsBlack}
use Rattle.marker.specs.UnitsToCome.{units_at}
use Rattle.slice_driver.specs.Represents.{IsOfMarking}
use Rattle.slice_driver.specs.UnitsToCome.{present_places}
use Rattle.slice_driver.proofs.basics.LeftLooks.{LooksLeftFrom, each_started_left, started_left}
use Rattle.slice_driver.proofs.abstraction.Waits.{none_in_it}
use Rattle.slice_driver.proofs.measure.MarkingToCome.{black_fewer_units}
use Rattle.slice_driver.proofs.measure.PresentPlaces.{present_listed}

-- cells that were pending in black were followed, one or all: black spread to what black cells reach, both pending
-- closures are as they were, fewer units are to come, and entries came to be looked at for cells of marking zones alone
pub record FollowsCells (h : HeapState) (p : Piles) (k : HeapState) (q : Piles) : Type 0 where
  pub invariant : MarkingInvariant k q
  pub blackens : Blackens (Reached h.shape (IsBlack h)) (with_looks h k.looks) k
  pub gray_is : q.gray ≡ p.gray
  pub pending_black : (y : Place) → PendingBlack k q y ↔ PendingBlack h p y
  pub pending_live : KeepsLive h p k q
  pub scans : ScansNoMore h p k q
  pub fewer : units_at k q (present_places h.shape) < units_at h p (present_places h.shape)
  pub busy : ((z : ℕ) → is_marking_state (state_in h.shape z) ≡ false) → ⊥
  pub left : LooksLeftFrom h.shape h.looks k.shape k.looks

module _ (h : HeapState) (p : Piles) (k : HeapState) (q : Piles) (whole : AreWhole h.shape.arenas)
    (inv : MarkingInvariant h p) where
  pub one_followed : FollowsBlack h p k q → FollowsCells h p k q
  one_followed does =
      let scanned = does.scans in
      let same : k.shape ≡ h.shape = ap (λ (z : HeapState). z.shape) does.blackens.rest in
      record {
        invariant = does.invariant;
        blackens = does.blackens;
        gray_is = does.gray_is;
        pending_black = does.pending_black;
        pending_live = does.pending_live;
        scans = scanned.no_more;
        fewer = black_fewer_units h p k q same inv does.gray_is whole scanned;
        busy = λ quiet. (let off = quiet (zone_of h.shape scanned.cell) in let on = scanned.zone in cc (on, off));
        left = started_left mark.Black scanned.cell h k scanned.starts same
            (inv.holds.colours.seen_present scanned.cell (inr scanned.black), scanned.zone);
      }

  pub all_followed : (p.black ≡ [] → ⊥) → FollowsAll h p k q → FollowsCells h p k q
  all_followed some does = record {
    invariant = does.invariant;
    blackens = does.blackens;
    gray_is = does.gray_is;
    pending_black = does.pending_black;
    pending_live = does.pending_live;
    scans = does.scans;
    fewer = does.fewer (present_places h.shape) (present_listed h.shape whole);
    busy = λ quiet. some (none_in_it p.black (λ x piled.
        (let off = quiet (zone_of h.shape x) in let on = (inv.holds.piles.black x piled).1 in cc (on, off))));
    left = subst (λ (t : Shape). LooksLeftFrom h.shape h.looks t k.looks) (sym same)
        (each_started_left mark.Black (IsMarkedBlack k) h of_marking h.looks does.started);
  }
    where
      same : k.shape ≡ h.shape
      same = ap (λ (z : HeapState). z.shape) does.blackens.rest

      of_marking : (x : Place) → IsMarkedBlack k x → IsOfMarking h.shape x
      of_marking x black = subst (λ (t : Shape). IsOfMarking t x) same
          (does.invariant.holds.colours.seen_present x (inr black.0), black.1)
