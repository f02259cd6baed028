-- Where a group ends, and what its end says of the bits.
use Rattle.std.proofs.Common.{◌≡◌, ◌+◌, ℕ, true, false, List, [], ◌∷◌, Option, Some, None, IsSome, is_some}
use Rattle.std.proofs.Common.{slice_get, inl, inr, refl, sym, ap, subst, arith}
use Rattle.std.proofs.lemmas.Bool.{cases_eq, cases_lt}
use Rattle.gz_names.specs.Zones.{zones_in}
use Rattle.gz_names.specs.declared.zone_sets.ZoneSet.{ZoneSet}
use Rattle.gz_names.specs.declared.replies.Report.{Report}
use Rattle.gz_names.specs.declared.replies.Report.TheVariants as report
use Rattle.cell_bits.specs.declared.bits.Bits.{Bits}
use Rattle.colour_defs.specs.Ends.{zones_without}
use Rattle.colour_defs.specs.World.{World}
use Rattle.heap_core.specs.Shape.{Shape, out_of}
use Rattle.heap_core.specs.Heap.{HeapState}
use Rattle.barriers.specs.Colours.{IsBlack, IsSeen}
use Rattle.zone_edges.specs.Looks.{AreAllLookedAt}
use Rattle.zone_edges.specs.Noted.{Noted}
use Rattle.slice_driver.specs.Collector.{CollectorState, IsKept, RunState, heap_with, run_of}
use Rattle.slice_driver.specs.declared.collector.Phase.{Phase}
use Rattle.slice_driver.specs.declared.collector.Phase.TheVariants as phase
use Rattle.slice_driver.specs.GroupEnd.{AreColoured, IsReady}
use Rattle.slice_driver.specs.Quiet.{IsFormed}
use Rattle.slice_driver.specs.Remaining.{clearing_left}
use Rattle.slice_driver.specs.Represents.{Represents}
use Rattle.slice_driver.specs.Units.{AreJobs, EndsColoured, IsLowestOut, IsSoundMarking, is_group_end, jobs_at}
use Rattle.slice_driver.specs.Working.{HasBegun, HasGroups, IsAtGroupEnd, IsBlackDone, IsGrouping, IsQuietDone}
use Rattle.slice_driver.specs.Working.{DoesQuietUnits, IsGrayDone, IsGroupDone, IsResting, IsStill}
use Rattle.slice_driver.proofs.abstraction.Named.{some_one}
use Rattle.slice_driver.proofs.grouping.Looks.{own_heap}
use Rattle.slice_driver.proofs.marking.MarkingUnits.{black_fixed, gray_fixed, group_done_before, still_black_done}
use Rattle.slice_driver.proofs.marking.MarkingUnits.{still_group_done}

-- a report of no group's end hands out no arena, and says nothing of colours
pub no_jobs : (r : Option Report) (h : HeapState) → is_group_end r ≡ false → AreJobs None (jobs_at r h)
no_jobs None h e = refl
no_jobs (Some (report.Groups groups)) h e = refl
no_jobs (Some (report.Ended zones grays told)) h e = absurd (cc e)
no_jobs (Some (report.Swept arena names)) h e = refl
no_jobs (Some report.Started) h e = refl
no_jobs (Some report.Done) h e = refl
no_jobs (Some (report.Stopped zones)) h e = refl

pub no_colours : (r : Option Report) (c : CollectorState) (flown : ℕ → Option Bits) (colours : List Bits)
    → is_group_end r ≡ false → EndsColoured r c flown colours
no_colours None c flown colours e = tt
no_colours (Some (report.Groups groups)) c flown colours e = tt
no_colours (Some (report.Ended zones grays told)) c flown colours e = absurd (cc e)
no_colours (Some (report.Swept arena names)) c flown colours e = tt
no_colours (Some report.Started) c flown colours e = tt
no_colours (Some report.Done) c flown colours e = tt
no_colours (Some (report.Stopped zones)) c flown colours e = tt

-- the collector stands for what it stood for
moved : (c : CollectorState) (flown : ℕ → Option Bits) (d : CollectorState) (flying : ℕ → Option Bits)
    → IsStill c flown d flying → (w : World) → Represents c flown w → Represents d flying w
moved c flown d flying a w s = subst (λ (x : CollectorState). Represents x flying w) (sym a.same) (a.worlds w s)

-- where the first four steps have no work and no arena is out, the group is ready to end
pub ready : (c : CollectorState) (flown : ℕ → Option Bits) → IsSoundMarking c flown → IsResting c flown
    → ((a : ℕ) → out_of c.heap.shape a ≡ None) → HasGroups c → (g : ZoneSet) × (rest : List ZoneSet) × IsReady c g rest
ready c flown s rests kept groups = go c.groups refl
  where
    own : heap_with c flown ≡ c.heap
    own = own_heap c flown s.world s.represents kept

    go : (gs : List ZoneSet) → c.groups ≡ gs → (g : ZoneSet) × (rest : List ZoneSet) × IsReady c g rest
    go [] e = absurd (groups.more rests.formed kept e)
    go (g ∷ rest) e =
        let at : slice_get c.groups 0 ≡ Some g = ap (λ (xs : List ZoneSet). slice_get xs 0) e in
        let done = rests.group g at in (
          g,
          rest,
          record {
            run = rests.formed.0;
            running = rests.formed.1;
            formed = rests.formed.2;
            groups_are = e;
            small = groups.small g at;
            kept = kept;
            marked = record {
              begun = λ z h. (rests.begun g at z).0 h;
              black_empty = rests.black.pile;
              black_fixed = λ m k v has bm bk mv.
                  subst (λ h. IsBlack h v) own
                  ((black_fixed c flown s rests.black).values m k v has (subst (λ h. IsBlack h m) (sym own) bm)
                  (subst (λ h. IsBlack h k) (sym own) bk) mv);
              black_keys = λ m k v d has is bm bd.
                  subst (λ h. IsBlack h k) own
                  ((black_fixed c flown s rests.black).keys m k v d has is (subst (λ h. IsBlack h m) (sym own) bm)
                  (subst (λ h. IsBlack h d) (sym own) bd));
              gray_empty = done.idle.pile;
              none_buffered = done.idle.buffers;
              none_incoming = done.idle.incoming;
              gray_fixed = λ m k v has sm sk here.
                  subst (λ h. IsSeen h v) own
                  ((gray_fixed c flown g s rests.black (rests.begun g at) done).values m k v has
                  (subst (λ h. IsSeen h m) (sym own) sm) (subst (λ h. IsSeen h k) (sym own) sk)
                  here);
              gray_keys = λ m k v d has is sm sd here.
                  subst (λ h. IsSeen h k) own
                  ((gray_fixed c flown g s rests.black (rests.begun g at) done).keys m k v d has is
                  (subst (λ h. IsSeen h m) (sym own) sm) (subst (λ h. IsSeen h d) (sym own) sd)
                  here);
              none_black = rests.black.looked;
              none_gray = done.looked;
            };
          },
        )

-- something is left, while a collection runs whose groups are formed
pub more_of : (s : Shape) (edges : Noted) (groups : List ZoneSet) (p : Phase) (r : RunState) → run_of p ≡ Some r
    → r.formed ≡ true → IsKept s edges groups p → ((a : ℕ) → out_of s a ≡ None) → groups ≡ [] → ⊥
more_of s edges groups phase.Idle r e formed kept none empty = cc e
more_of s edges groups (phase.Preparing zones uncleared) r e formed kept none empty =
    (let is = ap (λ (x : RunState). x.formed) (some_one _ _ e) in cc (is, formed))
more_of s edges groups (phase.Grouping zones ungrouped) r e formed kept none empty =
    (let is = ap (λ (x : RunState). x.formed) (some_one _ _ e) in cc (is, formed))
more_of s edges groups (phase.Grouped zones) r e formed kept none empty = kept empty none

-- nothing was done, and after that nothing changed
pub still_on : (c : CollectorState) (flown : ℕ → Option Bits) (d : CollectorState) (flying : ℕ → Option Bits)
    (e : CollectorState) → IsStill c flown d flying → e ≡ d → IsStill c flown e flying
still_on c flown d flying e a same = subst (λ (x : CollectorState). IsStill c flown x flying) (sym same) a

-- nothing is there
not_due : {X : Type 0} (P : Type 0) (o : Option X) → o ≡ None → IsSome o → P
not_due P o none some = absurd (let is = ap is_some none in cc (some, is))

-- one arena is the lowest that is out
pub one_lowest : (s : Shape) (a b : ℕ) → IsLowestOut s a → IsLowestOut s b → a ≡ b
one_lowest s a b one other = elim (cases_lt a b) [
  | inl lt ↦ not_due (a ≡ b) (out_of s a) (other.lowest a lt) one.out
  | inr ge ↦ elim (cases_eq a b) [
    | inl is ↦ is
    | inr ne ↦ not_due (a ≡ b) (out_of s b) (one.lowest b (omega (arith, ge, ne))) other.out
  ]
]

-- where no unit that reports nothing is left and the groups are formed, marking rests
pub formed_rests : (c : CollectorState) (flown : ℕ → Option Bits) → IsQuietDone c flown → IsFormed c → IsResting c flown
formed_rests c flown done formed = record {
  black = done.black;
  formed = formed;
  begun = done.begun formed;
  group = done.group formed;
}

-- nothing was done, so the same is left
module _ (c : CollectorState) (flown : ℕ → Option Bits) (d : CollectorState) (flying : ℕ → Option Bits)
    (a : IsStill c flown d flying) where
  pub still_resting : IsResting c flown → IsResting d flying
  still_resting rests = record {
    black = still_black_done c flown d flying a rests.black;
    formed = subst IsFormed (sym a.same) rests.formed;
    begun = subst HasBegun (sym a.same) rests.begun;
    group = still_group_done c flown d flying a rests.group;
  }

  black_before : IsBlackDone d flying → IsBlackDone c flown
  black_before done = subst (λ (x : CollectorState). IsBlackDone x flown) a.same
      (record { pile = done.pile; looked = done.looked })

  resting_before : IsResting d flying → IsResting c flown
  resting_before rests = record {
    black = black_before rests.black;
    formed = subst IsFormed a.same rests.formed;
    begun = subst HasBegun a.same rests.begun;
    group = group_done_before c flown d flying a rests.group;
  }

  pub quiet_done_before : IsQuietDone d flying → IsQuietDone c flown
  quiet_done_before done = record {
    cleared = subst (λ (x : CollectorState). clearing_left x.heap.shape x.run ≡ 0) a.same done.cleared;
    black = black_before done.black;
    looked = subst (λ (x : CollectorState). IsGrouping x → AreAllLookedAt x.heap.shape x.edges) a.same done.looked;
    begun = subst (λ (x : CollectorState). IsFormed x → HasBegun x) a.same done.begun;
    group = λ formed. group_done_before c flown d flying a (done.group (subst IsFormed (sym a.same) formed));
  }

  pub end_before : IsAtGroupEnd d flying → IsAtGroupEnd c flown
  end_before at = (
    resting_before at.0,
    subst (λ (x : CollectorState). (b : ℕ) → out_of x.heap.shape b ≡ None) a.same at.1,
  )

  pub still_at_end : IsAtGroupEnd c flown → IsAtGroupEnd d flying
  still_at_end at = (
    still_resting at.0,
    subst (λ (x : CollectorState). (b : ℕ) → out_of x.heap.shape b ≡ None) (sym a.same) at.1,
  )

  -- the bits of an end are those that it asks
  pub coloured_before : (r : Option Report) (colours : List Bits) → EndsColoured r d flying colours
      → EndsColoured r c flown colours
  coloured_before None colours h = tt
  coloured_before (Some (report.Groups groups)) colours h = tt
  coloured_before (Some (report.Ended zones grays told)) colours h = λ w k ok rep is. subst
      (λ (x : CollectorState). AreColoured (record x.heap { colours = colours }) w.graph k
      (zones_without k.marking (zones_in zones))) a.same (h w k ok (moved c flown d flying a w rep) is)
  coloured_before (Some (report.Swept arena names)) colours h = tt
  coloured_before (Some report.Started) colours h = tt
  coloured_before (Some report.Done) colours h = tt
  coloured_before (Some (report.Stopped zones)) colours h = tt

-- where the gray marking of the group was done, no more of it was
pub first_busy : (n : ℕ) (g : ZoneSet) (c : CollectorState) (flown : ℕ → Option Bits) (d : CollectorState)
    (flying : ℕ → Option Bits) → DoesQuietUnits n c flown d flying → slice_get d.groups 0 ≡ Some g
    → (IsGrayDone d flying g → ⊥) → (IsGroupDone c flown → n ≡ 0) → IsGroupDone c flown → n + 1 ≡ 0
first_busy n g c flown d flying did at busy none done = absurd
    (busy (still_group_done c flown d flying (did.none (none done)) done g at))
