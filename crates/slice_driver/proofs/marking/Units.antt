-- Units that report nothing, one after another.
use Rattle.std.proofs.Common.{◌≡◌, ◌<◌, ◌+◌, ℕ, zero, suc, Bool, true, false, [], Option, IsSome, is_some, None, refl}
use Rattle.std.proofs.Common.{sym, ap, subst}
use Rattle.std.proofs.Common.{◌∙◌}
use Rattle.std.proofs.Common.{arith}
use Rattle.cell_bits.specs.declared.bits.Bits.{Bits}
use Rattle.colour_defs.specs.Lawful.{IsLawfulUnit, quiet}
use Rattle.colour_defs.specs.World.{World}
use Rattle.colour_defs.proofs.ValidReports.{unit_valid}
use Rattle.zone_edges.specs.Looks.{AreAllLookedAt}
use Rattle.slice_driver.specs.Collector.{CollectorState, RunState}
use Rattle.slice_driver.specs.Quiet.{IsFormed, IsStarted}
use Rattle.slice_driver.specs.Remaining.{clearing_left}
use Rattle.slice_driver.specs.Represents.{Represents, going}
use Rattle.slice_driver.specs.Units.{IsSound, IsSoundMarking, KeepsFreedWords}
use Rattle.slice_driver.specs.Working.{DidOrStill, DoesQuietUnits, GoesOn, QuietOrNone, HasBegun}
use Rattle.slice_driver.specs.Working.{IsBlackDone, IsGroupDone, IsGrouping, IsQuietDone, IsStill}
use Rattle.slice_driver.proofs.marking.MarkingUnits.{both_still, group_done_before, still_black_done, still_goes}
use Rattle.slice_driver.proofs.marking.MarkingUnits.{still_group_done, still_left, still_marking, still_sound}
use Rattle.slice_driver.proofs.marking.MarkingUnits.{still_to_come}
use Rattle.slice_driver.proofs.abstraction.Named.{some_one}
use Rattle.slice_driver.proofs.abstraction.Phases.{calm_marking, none_to_clear, started_of}
use Rattle.slice_driver.proofs.abstraction.SoundAfter.{unit_sound}

-- a unit without a report leaves the world as it is, so two count like one
quiet_then : (w v u : World) → IsLawfulUnit w [] v → IsLawfulUnit v [] u → IsLawfulUnit w [] u
quiet_then w v u (quiet running) second = second

pub goes_then : (c : CollectorState) (f : ℕ → Option Bits) (d : CollectorState) (g : ℕ → Option Bits)
    (e : CollectorState) (h : ℕ → Option Bits) → GoesOn c f [] d g → GoesOn d g [] e h → GoesOn c f [] e h
goes_then c f d g e h a b = record {
  done = λ w ok r. (
      let one = a.done w ok r in
      let two = b.done one.0 (unit_valid w ok one.1) one.2 in
      (two.0, quiet_then w one.0 two.0 one.1 two.1, two.2));
  words = λ n freed is. b.words n freed (a.words n freed is);
  running = b.running;
  made_is = b.made_is ∙ a.made_is;
  ledger_is = b.ledger_is ∙ a.ledger_is;
  weak_is = b.weak_is ∙ a.weak_is;
  less = omega (arith, a.less, b.less);
  to_come = omega (arith, a.to_come, b.to_come);
}

-- nothing is done after a unit
goes_still : (c : CollectorState) (f : ℕ → Option Bits) (d : CollectorState) (g : ℕ → Option Bits)
    (e : CollectorState) (h : ℕ → Option Bits) → GoesOn c f [] d g → IsStill d g e h → GoesOn c f [] e h
goes_still c f d g e h a b = record {
  done = λ w ok r. (
      let one = a.done w ok r in
      (one.0, one.1, subst (λ (x : CollectorState). Represents x h one.0) (sym b.same) (b.worlds one.0 one.2)));
  words = subst (λ (x : CollectorState). KeepsFreedWords c.heap.shape x.heap.shape) (sym b.same) a.words;
  running = subst (λ (x : CollectorState). IsSome x.run) (sym b.same) a.running;
  made_is = ap (λ (x : CollectorState). x.heap.made) b.same ∙ a.made_is;
  ledger_is = ap (λ (x : CollectorState). x.heap.ledger) b.same ∙ a.ledger_is;
  weak_is = ap (λ (x : CollectorState). x.heap.shape.weak) b.same ∙ a.weak_is;
  less = (let same = still_left d g e h b in let lt = a.less in omega (arith, same, lt));
  to_come = (let same = still_to_come d g e h b in let lt = a.to_come in omega (arith, same, lt));
}

nothing_done : (c : CollectorState) (f : ℕ → Option Bits) → IsStill c f c f
nothing_done c f = record { same = refl; colours = refl; worlds = λ w r. r }

pub no_quiet : (c : CollectorState) (f : ℕ → Option Bits) → DoesQuietUnits 0 c f c f
no_quiet c f = record {
  none = λ e. nothing_done c f;
  some = λ lt. absurd (omega (arith, lt));
  less = omega arith;
  to_come = omega arith;
}

pub more_quiet : (n : ℕ) (c : CollectorState) (f : ℕ → Option Bits) (d : CollectorState) (g : ℕ → Option Bits)
    (e : CollectorState) (h : ℕ → Option Bits) → DoesQuietUnits n c f d g → GoesOn d g [] e h
    → DoesQuietUnits (n + 1) c f e h
more_quiet n c f d g e h did goes = record {
  none = λ is. absurd (omega (arith, is));
  some = λ lt. one_more n did;
  less = (let was = did.less in let now = goes.less in omega (arith, was, now));
  to_come = (let was = did.to_come in let now = goes.to_come in omega (arith, was, now));
}
  where
    one_more : (m : ℕ) → DoesQuietUnits m c f d g → GoesOn c f [] e h
    one_more zero m = still_goes c f d g [] e h (m.none refl) goes
    one_more (suc k) m = goes_then c f d g e h (m.some (omega arith)) goes

-- the last call finds nothing to do
pub last_quiet : (n : ℕ) (c : CollectorState) (f : ℕ → Option Bits) (d : CollectorState) (g : ℕ → Option Bits)
    (e : CollectorState) (h : ℕ → Option Bits) → DoesQuietUnits n c f d g → IsStill d g e h
    → DoesQuietUnits n c f e h
last_quiet n c f d g e h did still = record {
  none = λ is. both_still c f d g e h (did.none is) still;
  some = λ lt. goes_still c f d g e h (did.some lt) still;
  less = (let was = did.less in let same = still_left d g e h still in omega (arith, was, same));
  to_come = (let was = did.to_come in let same = still_to_come d g e h still in omega (arith, was, same));
}

-- some such units after others
pub then_quiet : (n m : ℕ) (c : CollectorState) (f : ℕ → Option Bits) (d : CollectorState) (g : ℕ → Option Bits)
    (e : CollectorState) (h : ℕ → Option Bits) → DoesQuietUnits n c f d g → DoesQuietUnits m d g e h
    → DoesQuietUnits (n + m) c f e h
then_quiet n m c f d g e h a b = record {
  none = λ is. both_still c f d g e h (a.none (omega (arith, is))) (b.none (omega (arith, is)));
  some = some_of n m a b;
  less = (let one = a.less in let two = b.less in omega (arith, one, two));
  to_come = (let one = a.to_come in let two = b.to_come in omega (arith, one, two));
}
  where
    some_of : (i j : ℕ) → DoesQuietUnits i c f d g → DoesQuietUnits j d g e h → 0 < i + j → GoesOn c f [] e h
    some_of zero zero x y lt = absurd (omega (arith, lt))
    some_of zero (suc k) x y lt = still_goes c f d g [] e h (x.none refl) (y.some (omega arith))
    some_of (suc k) zero x y lt = goes_still c f d g e h (x.some (omega arith)) (y.none refl)
    some_of (suc k) (suc j) x y lt = goes_then c f d g e h (x.some (omega arith)) (y.some (omega arith))

-- one such unit, or none
pub one_quiet : (c : CollectorState) (f : ℕ → Option Bits) (d : CollectorState) (g : ℕ → Option Bits)
    → GoesOn c f [] d g → DoesQuietUnits 1 c f d g
one_quiet c f d g goes = more_quiet 0 c f c f d g (no_quiet c f) goes

-- a change of edges leaves black marking done
pub black_done_on : (c d : CollectorState) (f : ℕ → Option Bits) → d ≡ record c { edges = d.edges } → IsBlackDone c f
    → IsBlackDone d f
black_done_on c d f same done = subst (λ (x : CollectorState). IsBlackDone x f) (sym same)
    (record { pile = done.pile; looked = done.looked })

pub still_quiet : (c : CollectorState) (f : ℕ → Option Bits) (d : CollectorState) (g : ℕ → Option Bits)
    → IsStill c f d g → DoesQuietUnits 0 c f d g
still_quiet c f d g still = last_quiet 0 c f c f d g (no_quiet c f) still

-- where no such unit was left, none is
pub still_quiet_done : (c : CollectorState) (f : ℕ → Option Bits) (d : CollectorState) (g : ℕ → Option Bits)
    → IsStill c f d g → IsQuietDone c f → IsQuietDone d g
still_quiet_done c f d g still done = record {
  cleared = subst (λ (x : CollectorState). clearing_left x.heap.shape x.run ≡ 0) (sym still.same) done.cleared;
  black = still_black_done c f d g still done.black;
  looked = subst (λ (x : CollectorState). IsGrouping x → AreAllLookedAt x.heap.shape x.edges) (sym still.same)
      done.looked;
  begun = subst (λ (x : CollectorState). IsFormed x → HasBegun x) (sym still.same) done.begun;
  group = λ formed. still_group_done c f d g still (done.group (subst IsFormed still.same formed));
}

-- groups that are formed are not still to be formed
pub not_both : (c : CollectorState) → IsGrouping c → IsFormed c → ⊥
not_both c g formed = (
    let same = some_one g.0 formed.0 (sym g.1 ∙ formed.1) in
    let bits = ap (λ (r : RunState). r.formed) same in
    cc (bits, g.2, formed.2))

-- the collector after this number of units
pub quiet_sound : (n : ℕ) (c : CollectorState) (f : ℕ → Option Bits) (d : CollectorState) (g : ℕ → Option Bits)
    → DoesQuietUnits n c f d g → IsSound c f → IsSound d g
quiet_sound zero c f d g did s = still_sound c f d g (did.none refl) s
quiet_sound (suc k) c f d g did s = unit_sound c d f g [] (did.some (omega arith)).done s

-- nothing is being prepared in the world after a unit that reports nothing, where nothing was before
quiet_calm : (w v : World) → IsLawfulUnit w [] v → w.preparing ≡ None → v.preparing ≡ None
quiet_calm w v (quiet running) calm = calm

goes_marking : (c : CollectorState) (f : ℕ → Option Bits) (d : CollectorState) (g : ℕ → Option Bits)
    → GoesOn c f [] d g → IsSoundMarking c f → IsSoundMarking d g
goes_marking c f d g goes s =
    let does = goes.done s.world s.valid (going s.represents) in
    record {
      world = does.0;
      valid = unit_valid s.world s.valid does.1;
      represents = calm_marking d g does.0 (quiet_calm s.world does.0 does.1 s.represents.phase.calm) does.2;
    }

pub quiet_marking : (n : ℕ) (c : CollectorState) (f : ℕ → Option Bits) (d : CollectorState) (g : ℕ → Option Bits)
    → DoesQuietUnits n c f d g → IsSoundMarking c f → IsSoundMarking d g
quiet_marking zero c f d g did s = still_marking c f d g (did.none refl) s
quiet_marking (suc k) c f d g did s = goes_marking c f d g (did.some (omega arith)) s

-- after black marking that found nothing to do
module _ (c : CollectorState) (f : ℕ → Option Bits) (s : IsSoundMarking c f) (e : CollectorState) (g : ℕ → Option Bits)
    (still : IsStill c f e g) (black : IsBlackDone c f) where
  -- each wrapper was looked at
  all_looked : IsGrouping e → AreAllLookedAt e.heap.shape e.edges → IsQuietDone c f
  all_looked grouping all = record {
    cleared = none_to_clear c (subst IsStarted still.same (grouping.0, grouping.1, grouping.3));
    black = black;
    looked = λ g. subst (λ (x : CollectorState). AreAllLookedAt x.heap.shape x.edges) still.same all;
    begun = λ formed. absurd (not_both e grouping (subst IsFormed (sym still.same) formed));
    group = λ formed. absurd (not_both e grouping (subst IsFormed (sym still.same) formed));
  }

  -- gray marking, once the zones of the group have begun
  pub grays_quietly : (b : Bool) (d : CollectorState) (h : ℕ → Option Bits) → IsFormed e → HasBegun e
      → DidOrStill b (IsGroupDone e g) e g d h → QuietOrNone b c f d h
  grays_quietly true d h formed begun did = still_goes c f e g [] d h still did.0
  grays_quietly false d h formed begun did = (
    both_still c f e g d h still did.0,
    record {
      cleared = none_to_clear c (started_of c f s.world s.represents (ap is_some (subst IsFormed still.same formed).1));
      black = black;
      looked = λ grouping. absurd (not_both e (subst IsGrouping (sym still.same) grouping) formed);
      begun = λ was. subst HasBegun still.same begun;
      group = λ was. group_done_before c f e g still did.1;
    },
  )

  -- as much gray marking as is asked for, once the zones of the group have begun
  pub many_quietly : (n : ℕ) (d : CollectorState) (h : ℕ → Option Bits) → DoesQuietUnits n e g d h
      → DoesQuietUnits n c f d h
  many_quietly n d h did = subst (λ (m : ℕ). DoesQuietUnits m c f d h) (omega arith)
      (then_quiet 0 n c f e g d h (still_quiet c f e g still) did)

  -- none was, since each wrapper was looked at
  pub none_looked : (n : ℕ) (d : CollectorState) → IsGrouping e → DoesQuietUnits n e g d g
      → AreAllLookedAt d.heap.shape d.edges → n ≡ 0 → IsQuietDone d g
  none_looked n d grouping did all is =
      let here : IsStill e g d g = did.none is in
      let before = subst (λ (x : CollectorState). AreAllLookedAt x.heap.shape x.edges) here.same all in
      still_quiet_done c f d g (both_still c f e g d g still here) (all_looked grouping before)

  pub none_rests : (n : ℕ) (d : CollectorState) (h : ℕ → Option Bits) → IsFormed e → HasBegun e
      → DoesQuietUnits n e g d h → IsGroupDone d h → n ≡ 0 → IsQuietDone d h
  none_rests n d h formed begun did group is =
      let here : IsStill e g d h = did.none is in
      let quiet = grays_quietly false d h formed begun (here, group_done_before e g d h here group) in
      still_quiet_done c f d h quiet.0 quiet.1
