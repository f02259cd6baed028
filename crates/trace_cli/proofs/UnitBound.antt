-- The bound on units, as lines are answered: what commands add to it and what units take of it.
use Rattle.std.proofs.Common.{◌≡◌, ◌+◌, ◌≤◌, ℕ, List, [], ◌∷◌, ◌++◌, Option, None, Some, Result, Err, Ok, is_some}
use Rattle.std.proofs.Common.{inl, inr, refl, sym, ap, subst, ◌∙◌, arith}
use Rattle.std.proofs.lemmas.Grind.{flat_map-append}
use Rattle.gz_names.specs.declared.commands.GraphCmd.{GraphCmd}
use Rattle.gz_names.specs.declared.commands.GraphCmd.TheVariants as cmd
use Rattle.gz_names.specs.declared.names.Name.{Name}
use Rattle.gz_names.specs.declared.names.Name.TheVariants.{Cell, Wrap}
use Rattle.gz_names.specs.declared.replies.CmdFault.{CmdFault}
use Rattle.gz_names.specs.declared.replies.Refusal.{Refusal}
use Rattle.gz_names.specs.declared.replies.Reply.{Reply}
use Rattle.gz_names.specs.declared.replies.Report.{Report}
use Rattle.cell_bits.specs.declared.bits.Bits.{Bits}
use Rattle.colour_defs.specs.Graph.{GraphState}
use Rattle.colour_defs.specs.Laws.{IsValid}
use Rattle.colour_defs.specs.Lawful.{HasTally, IsRunning, Slices, with_spent, with_spent_preparing}
use Rattle.colour_defs.specs.Step.{refusal_in, step_of}
use Rattle.colour_defs.specs.Units.{MeetsUnitBound, Tally, sweeps_in, unit_limit, with_put, with_woken}
use Rattle.colour_defs.specs.World.{Accepts, AcceptsIn, AcceptsPreparing, AcceptsUnless, Collection, CommandInWorld}
use Rattle.colour_defs.specs.World.{IsIdle, Preparation, Wakes, World, also_woken_by, first_tally, marking_of}
use Rattle.colour_defs.specs.World.{with_counts, with_waking, woken_by}
use Rattle.colour_defs.proofs.Tallies.{sweeps_both, units_sweep}
use Rattle.heap_core.specs.Heap.{HeapState, joined}
use Rattle.slice_driver.specs.Collector.{CollectorState}
use Rattle.slice_driver.specs.Remaining.{clearing_left, grouping_left, steps_left}
use Rattle.slice_driver.specs.Represents.{Represents}
use Rattle.slice_driver.specs.Units.{RaisesBy, RaisesWithin, tally_after}
use Rattle.slice_driver.specs.UnitsToCome.{IsWithin, IsWithinBound, marking_to_come, units_to_come}
use Rattle.trace_cli.specs.Starting.{RunsWithin}
use Rattle.trace_cli.specs.Writing.{WritesUnits, reports_in}
use Rattle.trace_cli.proofs.Preparing.{FromPreparing, some_is, started, units_from, waits}

-- where no collection runs nothing is bounded
pub idle_within : (c : CollectorState) (flown : ℕ → Option Bits) (w : World) → IsIdle w → IsWithin c flown w
idle_within c flown w idle = record {
  marking = λ k some. absurd (let none = idle.none_running in cc (none, some));
  preparing = λ p some. absurd (let none = idle.none_preparing in cc (none, some));
}

-- the same heap, with the bits in flight: the same is to come
same_to_come : (c : CollectorState) (f g : ℕ → Option Bits) → joined c.heap g ≡ joined c.heap f
    → units_to_come c g ≡ units_to_come c f
unfolding units_to_come
same_to_come c f g same = ap (λ (h : HeapState). marking_to_come h c.stack c.lists
    + (grouping_left c.heap.shape c.edges c.run + steps_left c.heap.shape.states)
    + clearing_left c.heap.shape c.run) same

pub same_within : (c : CollectorState) (f g : ℕ → Option Bits) (w : World) → joined c.heap g ≡ joined c.heap f
    → IsWithin c f w → IsWithin c g w
same_within c f g w same within =
    let still = sym (same_to_come c f g same) in record {
      marking = λ k running. subst (λ (n : ℕ). IsWithinBound k.tally n) still (within.marking k running);
      preparing = λ p is. subst (λ (n : ℕ). p.spent + n ≤ p.arenas) still (within.preparing p is);
    }

-- a collection that runs in the world of a collector
pub runs_within : (c : CollectorState) (flown : ℕ → Option Bits) (w : World) → IsRunning w → IsWithin c flown w
    → RunsWithin w (units_to_come c flown)
runs_within c flown w running within =
    record { running = running; marking = within.marking; preparing = within.preparing }

-- the collection after a command, and its tally
wakes_collection : (w : World) (o : Option Collection) (zones : List ℕ) (g : GraphState) (x : Name) (v : World)
    → Wakes w o zones g x v → v.collection ≡ with_waking x o
wakes_collection w o [] g x v h = h.0
wakes_collection w o (z ∷ zones) g x v h = h.0

waking_tally : (x : Name) (o : Option Collection) (k : Collection) → with_waking x o ≡ Some k
    → (j : Collection) × (o ≡ Some j) × (k.tally ≡ j.tally)
waking_tally x None k e = absurd (cc e)
waking_tally x (Some j) k e = (j, refl, ap (λ (i : Collection). i.tally) (sym (some_is _ _ e)))

pub accepts_tally : (w : World) (o : Option Collection) (g : GraphState) (x : Option Name) (v : World)
    → Accepts w o g x v
    → (k : Collection) → v.collection ≡ Some k → (j : Collection) × (o ≡ Some j) × (k.tally ≡ j.tally)
accepts_tally w o g None v same k e = (k, sym (ap (λ (u : World). u.collection) same) ∙ e, refl)
accepts_tally w o g (Some x) v h k e =
    waking_tally x o k (sym (wakes_collection w o (marking_of w.collection) g x v h.1) ∙ e)

counted_tally : (g : GraphState) (c : GraphCmd) (o : Option Collection) (k : Collection) → with_counts g c o ≡ Some k
    → (j : Collection) × (o ≡ Some j) × (k.tally ≡ tally_after g c j)
counted_tally g c None k e = absurd (cc e)
counted_tally g c (Some j) k e = (j, refl, ap (λ (i : Collection). i.tally) (sym (some_is _ _ e)))

command_tally : (w : World) (c : GraphCmd) (answer : Reply) (v : World) → w.preparing ≡ None → refusal_in answer ≡ None
    → CommandInWorld w c answer v → (k : Collection) → v.collection ≡ Some k
    → (j : Collection) × (w.collection ≡ Some j) × (k.tally ≡ tally_after w.graph c j)
command_tally w c answer v calm taken done k e =
    let none = sym (ap refusal_in done.0) ∙ taken in
    let counts = with_counts w.graph c w.collection in
    let next = (step_of w.graph c).0 in
    let woken = woken_by w.graph c in
    let also = also_woken_by w.graph c in
    let took = subst (λ (o : Option Refusal). AcceptsUnless o w counts next woken also v) none done.1 in
    let accepts = subst (λ (o : Option Preparation). AcceptsIn o w counts next woken also v) calm took in
    let made = accepts_tally w counts next woken v accepts k e in
    let was = counted_tally w.graph c w.collection made.0 made.1 in
    (was.0, was.1, made.2 ∙ was.2)

pub woken_spent : (g : GraphState) (zones : List ℕ) (x : Option Name) (t : Tally)
    → (with_woken g zones x t).spent ≡ t.spent
woken_spent g zones None t = refl
woken_spent g zones (Some (Cell n)) t = refl
woken_spent g zones (Some (Wrap c n)) t = refl

put_spent : (g : GraphState) (zones : List ℕ) (c : GraphCmd) (t : Tally) → (with_put g zones c t).spent ≡ t.spent
put_spent g zones cmd.Zone t = refl
put_spent g zones (cmd.Comp z) t = refl
put_spent g zones (cmd.New r c n) t = refl
put_spent g zones (cmd.Map r c) t = refl
put_spent g zones (cmd.Get r s f) t = refl
put_spent g zones (cmd.Set s f v) t = refl
put_spent g zones (cmd.Wrap r s c) t = refl
put_spent g zones (cmd.Unwrap r s) t = refl
put_spent g zones (cmd.Copy r s) t = refl
put_spent g zones (cmd.Drop r) t = refl
put_spent g zones (cmd.Hold s r) t = refl
put_spent g zones (cmd.Release s) t = refl
put_spent g zones (cmd.Expose r s) t = refl
put_spent g zones (cmd.Put m k v) t = refl
put_spent g zones (cmd.Del m k) t = refl
put_spent g zones (cmd.Find r m k) t = refl

-- what is being prepared stays so over a command
command_preparing : (w : World) (c : GraphCmd) (answer : Reply) (v : World) → refusal_in answer ≡ None
    → CommandInWorld w c answer v → v.preparing ≡ w.preparing
command_preparing w c answer v taken done =
    go w.preparing (woken_by w.graph c) (also_woken_by w.graph c) (subst (λ (o : Option Refusal). AcceptsUnless o w
    (with_counts w.graph c w.collection) (step_of w.graph c).0 (woken_by w.graph c) (also_woken_by w.graph c) v)
    (sym (ap refusal_in done.0) ∙ taken) done.1)
  where
    go : (o : Option Preparation) (x also : Option Name)
        → AcceptsIn o w (with_counts w.graph c w.collection) (step_of w.graph c).0 x also v
        → v.preparing ≡ w.preparing
    go None None also is = ap (λ (u : World). u.preparing) is
    go None (Some x) also is = is.0.preparing_is
    go (Some p) None None is = ap (λ (u : World). u.preparing) is
    go (Some p) None (Some y) is = ap (λ (u : World). u.preparing) is.0
    go (Some p) (Some x) also is = is.0.preparing_is

-- and no collection begins with a command while one is being prepared
preparing_alone : (w : World) (c : GraphCmd) (answer : Reply) (v : World) (p : Preparation) → w.preparing ≡ Some p
    → refusal_in answer ≡ None → CommandInWorld w c answer v → v.collection ≡ w.collection
preparing_alone w c answer v p is taken done =
    go (woken_by w.graph c) (also_woken_by w.graph c) (subst (λ (o : Option Preparation). AcceptsIn o w
    (with_counts w.graph c w.collection) (step_of w.graph c).0 (woken_by w.graph c) (also_woken_by w.graph c) v) is
    (subst (λ (o : Option Refusal). AcceptsUnless o w (with_counts w.graph c w.collection) (step_of w.graph c).0
    (woken_by w.graph c) (also_woken_by w.graph c) v) (sym (ap refusal_in done.0) ∙ taken) done.1))
  where
    go : (x also : Option Name) → AcceptsPreparing w p (step_of w.graph c).0 x also v → v.collection ≡ w.collection
    go None None same = ap (λ (u : World). u.collection) same
    go None (Some y) same = ap (λ (u : World). u.collection) same.0
    go (Some x) also same = same.1

-- what is to come rises by no more than the bound
raised : (spent old new limit more : ℕ) → spent + old ≤ limit → new + limit ≤ old + more → spent + new ≤ more
raised spent old new limit more within rise = omega (arith, within, rise)

pub lowered : (spent old new limit : ℕ) → spent + old ≤ limit → new ≤ old → spent + new ≤ limit
lowered spent old new limit bound fewer = omega (arith, bound, fewer)

-- a command that was accepted, and one that was not done
module _ (c d : CollectorState) (f g : ℕ → Option Bits) (command : GraphCmd) (r : Result Reply CmdFault)
    (raises : RaisesWithin c f command r d g) (w : World) (ok : IsValid w) (stands : Represents c f w)
    (within : IsWithin c f w) where
  accepted_marking : (answer : Reply) → r ≡ Ok answer → refusal_in answer ≡ None → (v : World)
      → CommandInWorld w command answer v → w.preparing ≡ None → (k : Collection) → v.collection ≡ Some k
      → IsWithinBound k.tally (units_to_come d g)
  accepted_marking answer e taken v done calm k running =
      let was = command_tally w command answer v calm taken done k running in
      let j = was.0 in
      let after = tally_after w.graph command j in
      let same : after.spent ≡ j.tally.spent =
      woken_spent w.graph j.zones (woken_by w.graph command) (with_put w.graph j.zones command j.tally)
      ∙ put_spent w.graph j.zones command j.tally in
      let rise = subst (λ (x : Result Reply CmdFault). RaisesBy w j command x (units_to_come c f) (units_to_come d g)) e
      (raises.marking w j ok stands was.1) in
      let bound = raised j.tally.spent (units_to_come c f) (units_to_come d g) (unit_limit j.tally) (unit_limit after)
      (within.marking j was.1) rise in
      subst (λ (t : Tally). IsWithinBound t (units_to_come d g)) (sym was.2)
      (subst (λ (n : ℕ). n + units_to_come d g ≤ unit_limit after) (sym same) bound)

  still_preparing : (p : Preparation) → w.preparing ≡ Some p → p.spent + units_to_come d g ≤ p.arenas
  still_preparing p is = lowered p.spent (units_to_come c f) (units_to_come d g) p.arenas (within.preparing p is)
      (raises.preparing w p ok stands is)

  pub accepted_within : (answer : Reply) → r ≡ Ok answer → refusal_in answer ≡ None → (v : World)
      → CommandInWorld w command answer v → IsWithin d g v
  accepted_within answer e taken v done = record {
    marking = λ k running. by w.preparing refl k running;
    preparing = λ p is. still_preparing p (sym (command_preparing w command answer v taken done) ∙ is);
  }
    where
      by : (o : Option Preparation) → w.preparing ≡ o → (k : Collection) → v.collection ≡ Some k
          → IsWithinBound k.tally (units_to_come d g)
      by None calm k running = accepted_marking answer e taken v done calm k running
      by (Some p) is k running =
          absurd (let none = (ok.preparing p is).alone in
          let same = preparing_alone w command answer v p is taken done in cc (none, same, running))

  pub refused_within : (why : CmdFault) → r ≡ Err why → IsWithin d g w
  refused_within why e = record {
    marking = λ k running.
        lowered k.tally.spent (units_to_come c f) (units_to_come d g) (unit_limit k.tally) (within.marking k running)
        (subst (λ (x : Result Reply CmdFault). RaisesBy w k command x (units_to_come c f) (units_to_come d g)) e
        (raises.marking w k ok stands running));
    preparing = λ p is. still_preparing p is;
  }

-- units one after another: what they sweep
pub sweeps_append : (xs ys : List (List Report))
    → sweeps_in (reports_in (xs ++ ys)) ≡ sweeps_in (reports_in xs) + sweeps_in (reports_in ys)
sweeps_append xs ys =
    ap sweeps_in (flat_map-append (λ (u : List Report). u) xs ys) ∙ sweeps_both (reports_in xs) (reports_in ys)

-- the world in which this number of units more were counted
abbrev pub spent : ℕ → World → World
spent n w = record w { preparing = with_spent_preparing n w.preparing; collection = with_spent n w.collection }

counted : (n : ℕ) (o : Option Collection) (k : Collection) → with_spent n o ≡ Some k
    → (j : Collection) × (o ≡ Some j) × (k.tally ≡ record j.tally { spent = j.tally.spent + n })
counted n None k e = absurd (cc e)
counted n (Some j) k e = (j, refl, ap (λ (i : Collection). i.tally) (sym (some_is _ _ e)))

counted_preparing : (n : ℕ) (o : Option Preparation) (p : Preparation) → with_spent_preparing n o ≡ Some p
    → (q : Preparation) × (o ≡ Some q) × (p ≡ record q { spent = q.spent + n })
counted_preparing n None p e = absurd (cc e)
counted_preparing n (Some q) p e = (q, refl, sym (some_is _ _ e))

-- this number of arenas were swept, and this number of units done
abbrev with_units : ℕ → ℕ → Tally → Tally
with_units swept n t = record t { sweeps = t.sweeps + swept; spent = t.spent + n }

limit_swept : (t : Tally) (swept n : ℕ) → unit_limit (with_units swept n t) ≡ unit_limit t + swept
limit_swept t swept n = omega arith

-- units that keep the bound: with the tally by which they count, and what is to come after them
pub record KeepsBound (w v : World) (n left : ℕ) (reports : List Report) : Type 0 where
  pub tally : Tally
  pub has : HasTally w tally
  pub within : MeetsUnitBound (is_some v.preparing) tally reports n
  pub marking : (k : Collection) → v.collection ≡ Some k
      → (k.tally ≡ record tally { sweeps = tally.sweeps + sweeps_in reports })
      × (tally.spent + n + left ≤ unit_limit tally + sweeps_in reports)
  pub preparing : (p : Preparation) → v.preparing ≡ Some p → p.spent + n + left ≤ p.arenas

fewer : (spent n left limit : ℕ) → spent + n + left ≤ limit → spent + n ≤ limit
fewer spent n left limit bound = omega (arith, bound)

-- by what was to come before them, of a collection whose marking had begun
marking_bound : (spent most n left swept limit : ℕ) → spent + most ≤ limit → left + n ≤ most + swept
    → spent + n + left ≤ limit + swept
marking_bound spent most n left swept limit bound took = omega (arith, bound, took)

-- of one that is being prepared on
preparing_bound : (spent most n left arenas swept : ℕ) → swept ≡ 0 → spent + most ≤ arenas → left + n ≤ most + swept
    → spent + n + left ≤ arenas
preparing_bound spent most n left arenas swept none bound took = omega (arith, none, bound, took)

-- and of one whose marking began with them
starting_bound : (spent most n left arenas limit swept : ℕ) → spent + most ≤ arenas
    → left + n + arenas ≤ most + (limit + swept) → spent + n + left ≤ limit + swept
starting_bound spent most n left arenas limit swept bound took = omega (arith, bound, took)

-- units of a collection that runs within its bound
module _ (w : World) (d : CollectorState) (g : ℕ → Option Bits) (most n : ℕ) (p q : Option (List ℕ))
    (runs : RunsWithin w most) (h : WritesUnits w d g most n p q) where
  abbrev said : List Report
  said = reports_in h.units

  abbrev Keeps : Type 0
  Keeps = KeepsBound w h.after n (units_to_come d g) said

  -- its marking had begun
  going_on : w.preparing ≡ None → (k : Collection) → w.collection ≡ Some k → Keeps
  going_on calm k running =
      let swept = units_sweep w h.units h.after calm h.done in
      let bound = marking_bound k.tally.spent most n (units_to_come d g) (sweeps_in said) (unit_limit k.tally)
      (runs.marking k running) (h.to_come.goes (inl calm)) in
      record {
        tally = k.tally;
        has = inl (k, running, refl);
        within = subst (λ (o : Option Preparation). MeetsUnitBound (is_some o) k.tally said n)
            (sym swept.none_prepared)
            (fewer k.tally.spent n (units_to_come d g) (unit_limit k.tally + sweeps_in said) bound);
        marking = λ j at.
            (let was = swept.tally j at in
            let same : was.0 ≡ k = some_is _ _ (sym was.1 ∙ running) in (
              was.2 ∙ ap (λ (i : Collection). record i.tally { sweeps = i.tally.sweeps + sweeps_in said }) same,
              bound,
            ));
        preparing = λ r is. absurd (let none = swept.none_prepared in cc (none, is));
      }

  -- it is being prepared
  prepares : (r : Preparation) → w.preparing ≡ Some r → FromPreparing w r said h.after → Keeps
  prepares r is (waits same silent) =
      let here : h.after.preparing ≡ Some r = ap (λ (x : World). x.preparing) same ∙ is in
      let bound = preparing_bound r.spent most n (units_to_come d g) r.arenas (sweeps_in said) (ap sweeps_in silent)
      (runs.preparing r is) (h.to_come.goes (inr (ap is_some here))) in
      record {
        tally = first_tally w r;
        has = inr (r, is, refl);
        within = subst (λ (o : Option Preparation). MeetsUnitBound (is_some o) (first_tally w r) said n) (sym here)
            (fewer r.spent n (units_to_come d g) r.arenas bound);
        marking = λ k at.
            absurd (let was = ap (λ (x : World). x.collection) same in
            let none = (h.prepared r is).alone in cc (at, was, none));
        preparing = λ o at.
            subst (λ (t : Preparation). t.spent + n + units_to_come d g ≤ t.arenas) (some_is _ _ (sym here ∙ at)) bound;
      }
  prepares r is (started rest says gone counts) =
      let bound = starting_bound r.spent most n (units_to_come d g) r.arenas (unit_limit (first_tally w r))
      (sweeps_in said) (runs.preparing r is) (h.to_come.starts r is gone) in
      record {
        tally = first_tally w r;
        has = inr (r, is, refl);
        within = subst (λ (o : Option Preparation). MeetsUnitBound (is_some o) (first_tally w r) said n) (sym gone)
            (fewer r.spent n (units_to_come d g) (unit_limit (first_tally w r) + sweeps_in said) bound);
        marking = λ k at. (counts k at, bound);
        preparing = λ o at. absurd (cc (gone, at));
      }

  keeps : Keeps
  keeps = by w.preparing refl runs.running
    where
      by : (o : Option Preparation) → w.preparing ≡ o → IsRunning w → Keeps
      by None calm (inl k) = going_on calm k.0 k.1
      by None calm (inr r) = absurd (let is = r.1 in cc (calm, is))
      by (Some r) is running = prepares r is (units_from w r (h.prepared r is) h.units h.after h.done)

  -- so they are units of a slice
  pub units_slice : Slices w (reports_in h.units) n (spent n h.after)
  units_slice = record {
    running = runs.running;
    units = h.units;
    after = h.after;
    done = h.done;
    number = h.number;
    reports_are = refl;
    world_is = refl;
    tally = keeps.tally;
    tally_is = keeps.has;
    within = keeps.within;
  }

  -- and once they are counted it is within its bound on
  pub spent_within : IsWithin d g (spent n h.after)
  spent_within = record {
    marking = λ k running.
        (let now = counted n h.after.collection k running in
        let so = keeps.marking now.0 now.1 in
        let is : k.tally ≡ with_units (sweeps_in said) n keeps.tally =
        now.2 ∙ ap (λ (t : Tally). record t { spent = t.spent + n }) so.0 in
        subst (λ (t : Tally). IsWithinBound t (units_to_come d g)) (sym is)
        (subst (λ (m : ℕ). keeps.tally.spent + n + units_to_come d g ≤ m)
        (sym (limit_swept keeps.tally (sweeps_in said) n)) so.1));
    preparing = λ r is.
        (let now = counted_preparing n h.after.preparing r is in
        subst (λ (t : Preparation). t.spent + units_to_come d g ≤ t.arenas) (sym now.2)
        (keeps.preparing now.0 now.1));
  }
