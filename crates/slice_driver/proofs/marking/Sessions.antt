-- What a session promises, from what its collector does.
use Rattle.std.proofs.Common.{◌≡◌, ◌↔◌, ◌⊎◌, ◌<◌, ℕ, zero, suc, [], ◌∷◌, Bool, true, false, List, Option, Some, None}
use Rattle.std.proofs.Common.{Result}
use Rattle.std.proofs.Common.{Ok, Err, IfOk, slice_get, inl, inr, arith}
use Rattle.std.proofs.Common.{OnErr, OnOk, IsSome, is_some, cond, refl, sym, ap, subst}
use Rattle.gz_names.specs.declared.commands.GraphCmd.{GraphCmd}
use Rattle.gz_names.specs.declared.commands.GraphCmd.TheVariants as command
use Rattle.gz_names.specs.declared.replies.CmdFault.{CmdFault}
use Rattle.gz_names.specs.declared.replies.Reply.{Reply}
use Rattle.gz_names.specs.declared.replies.Report.{Report}
use Rattle.cell_bits.specs.declared.bits.Bits.{Bits}
use Rattle.cell_bits.specs.declared.jobs.Job.{Job}
use Rattle.colour_defs.specs.World.{World, first_world}
use Rattle.colour_defs.proofs.ValidRuns.{first_valid}
use Rattle.sweeping.specs.ArenasOut.{flown_by, outs_of}
use Rattle.slice_driver.specs.Advances.{Advances, AreOut, MayAdvance}
use Rattle.slice_driver.specs.Collector.{CollectorState}
use Rattle.marker.specs.UnitsToCome.{units_at}
use Rattle.heap_core.specs.Shape.{ArenaShape, Shape, out_in, out_of}
use Rattle.heap_core.specs.Effects.{HasRoom}
use Rattle.slice_driver.specs.Resets.{ResetsOn}
use Rattle.slice_driver.specs.Sessions.{SessionResets, SessionSteps, counted_in, kind_of, no_step}
use Rattle.slice_driver.specs.Sessions.{session_result, session_step, step_told}
use Rattle.slice_driver.specs.Left.{units_left}
use Rattle.slice_driver.specs.Represents.{Represents}
use Rattle.slice_driver.specs.Units.{DoesCommand, IsLowestOut, IsSound, KeepsFreedWords, none_flown}
use Rattle.slice_driver.specs.UnitsToCome.{units_to_come}
use Rattle.slice_driver.specs.Working.{IsStill}
use Rattle.slice_driver.specs.declared.advance.Step.{Step}
use Rattle.slice_driver.specs.declared.session.told.SessionStep.{SessionStep}
use Rattle.slice_driver.proofs.abstraction.Counting.{counts_alike}
use Rattle.slice_driver.proofs.marking.MarkingUnits.{still_sound}
use Rattle.slice_driver.proofs.marking.SessionReports.{says_kind}
use Rattle.slice_driver.proofs.taking_in.TakingDue.{out_none}

-- no unit was done
pub no_step_done : (step : SessionStep) (limit : ℕ) (c : CollectorState) (f : ℕ → Option Bits) (outs : List (ℕ × ℕ))
    (report : Option Report) → step ≡ no_step → (0 < limit → IsSome c.run → ⊥)
    → SessionSteps limit c f report step c f outs report
no_step_done step limit c f outs report is idle = record {
  steps = λ lt running. absurd (idle lt running);
  report_is = λ some. absurd (cc some);
  none = λ n. is;
  still = λ n. (refl, refl, refl);
}

pub no_step_reset : (step : SessionStep) (c : CollectorState) (f : ℕ → Option Bits) (outs : List (ℕ × ℕ))
    (report : Option Report) → step ≡ no_step → (IsSome c.run → ⊥) → SessionResets c f report step c f outs report
no_step_reset step c f outs report is idle = record {
  some = λ running. absurd (idle running);
  report_is = λ some. absurd (cc some);
  none = λ n. is;
  still = λ n. (refl, refl, refl);
}

-- a step is the one that a session tells of
told_of : (b : Bool) (now : Option Report) → (b ≡ true → IsSome (kind_of now))
    → is_some (cond b (kind_of now) None) ≡ b
told_of true now some = some refl
told_of false now some = refl

said_of : (b : Bool) (now : Option Report) → IsSome (cond b (kind_of now) None)
    → cond b (kind_of now) None ≡ kind_of now
said_of true now some = refl
said_of false now some = absurd (cc some)

-- words are kept where a collection was begun, and where none was
pub begin_words : {X E : Type 0} (r : Result X E) (c d : CollectorState)
    → OnOk r (KeepsFreedWords c.heap.shape d.heap.shape) → OnErr r (d ≡ c) → KeepsFreedWords c.heap.shape d.heap.shape
begin_words (Ok done) c d words same = words
begin_words (Err why) c d words same = subst (λ (x : CollectorState). KeepsFreedWords c.heap.shape x.heap.shape)
    (sym same) (λ a freed is. is)

pub told_err : {E : Type 0} (r : Result Step E) (now : Option Report) (P : Type 0) → OnErr r P
    → OnErr (session_result r now) P
told_err (Ok step) now P p = tt
told_err (Err why) now P p = p

module _ (limit : ℕ) (c : CollectorState) (f : ℕ → Option Bits) (before : Option Report) (d : CollectorState)
    (g : ℕ → Option Bits) (now : Option Report) where
  -- a step of a session is one of its collector
  pub ok_steps : {E : Type 0} (r : Result Step E) (outs : List (ℕ × ℕ)) → 0 < limit → IsSome c.run → IsSound c f
      → IfOk r (λ (step : Step). step.handed ≡ None)
      → IfOk r (λ (step : Step). Advances limit c f before step d g outs now)
      → (b : CollectorState) → IsSome b.run → c ≡ counted_in b d.heap.ledger
      → IfOk (session_result r now) (λ (step : SessionStep). SessionSteps limit b f before step d g outs now)
  ok_steps (Ok step) outs some running sound handed a b ran is =
      let reported = told_of step.reported now (says_kind limit c f before step d g outs now sound a) in
      let same : step_told (session_step step now) ≡ step = λ i. record {
        units = step.units;
        reported = reported i;
        finished = step.finished;
        handed = sym handed i;
      } in
      record {
        steps = λ lt ran. subst (λ (s : Step). Advances limit (counted_in b d.heap.ledger) f before s d g outs now)
            (sym same) (subst (λ (x : CollectorState). Advances limit x f before step d g outs now) is a);
        report_is = said_of step.reported now;
        none = λ n. absurd (n some ran);
        still = λ n. absurd (n some ran);
      }
  ok_steps (Err why) outs some running sound handed a b ran is = tt

  -- the collector stands for a valid world after it
  pub after_sound : {E : Type 0} (r : Result Step E) (outs : List (ℕ × ℕ)) → IsSound c f
      → IfOk r (λ (step : Step). Advances limit c f before step d g outs now) → OnErr r (IsStill c f d g) → IsSound d g
  after_sound (Ok step) outs s a still = a.sound
  after_sound (Err why) outs s a still = still_sound c f d g still s

  -- and who sweeps has the arenas that are out
  pub after_out : {E O : Type 0} (r : Result Step E) (left : O → List (ℕ × ℕ)) (p q : O) → AreOut c.heap.shape (left p)
      → IfOk r (λ (step : Step). Advances limit c f before step d g (left q) now) → OnErr r (IsStill c f d g)
      → OnErr r (q ≡ p) → AreOut d.heap.shape (left q)
  after_out {O = O} (Ok step) left p q out a still same = a.out
  after_out {O = O} (Err why) left p q out a still same = subst (λ (x : CollectorState). AreOut x.heap.shape (left q))
      (sym still.same)
      (subst (λ (o : O). AreOut c.heap.shape (left o)) (sym same) out)

-- an arena of these is out, and this is the lowest
abbrev IsLowestIn : List ArenaShape → ℕ → Type 0
IsLowestIn xs a = IsSome (out_in (slice_get xs a)) × ((b : ℕ) → b < a → out_in (slice_get xs b) ≡ None)

-- none of these is out
abbrev IsNoneOut : List ArenaShape → Type 0
IsNoneOut xs = (a : ℕ) → out_in (slice_get xs a) ≡ None

none_before : (x : ArenaShape) (xs : List ArenaShape) → x.out ≡ None → (a : ℕ)
    → ((b : ℕ) → b < a → out_in (slice_get xs b) ≡ None) → (b : ℕ) → b < suc a
    → out_in (slice_get (x ∷ xs) b) ≡ None
none_before x xs e a rest zero lt = e
none_before x xs e a rest (suc b) lt = rest b (omega (arith, lt))

none_out : (x : ArenaShape) (xs : List ArenaShape) → x.out ≡ None → IsNoneOut xs → IsNoneOut (x ∷ xs)
none_out x xs e rest zero = e
none_out x xs e rest (suc a) = rest a

lowest_in : (xs : List ArenaShape) → ((a : ℕ) × IsLowestIn xs a) ⊎ IsNoneOut xs
lowest_in [] = inr (λ a. refl)
lowest_in (x ∷ xs) = by x.out refl (lowest_in xs)
  where
    by : (o : Option Bits) → x.out ≡ o → ((a : ℕ) × IsLowestIn xs a) ⊎ IsNoneOut xs
        → ((a : ℕ) × IsLowestIn (x ∷ xs) a) ⊎ IsNoneOut (x ∷ xs)
    by (Some bits) e rest = inl (0, (ap is_some e, λ b lt. absurd (omega (arith, lt))))
    by None e (inl l) = inl (suc l.0, (l.1.0, none_before x xs e l.0 l.1.1))
    by None e (inr none) = inr (none_out x xs e none)

-- an arena is out, and one is the lowest; or none is
pub lowest_or_none : (s : Shape) → ((a : ℕ) × IsLowestOut s a) ⊎ ((a : ℕ) → out_of s a ≡ None)
lowest_or_none s = elim (lowest_in s.arenas) [
  | inl l ↦ inl (l.0, record { out = l.1.0; lowest = l.1.1 })
  | inr none ↦ inr none
]

-- a step of a session that gives a collection up is one of its collector
module _ (c : CollectorState) (f : ℕ → Option Bits) (d : CollectorState) (g : ℕ → Option Bits) (now : Option Report)
  where
    resets_tell : (step : Step) (outs : List (ℕ × ℕ)) → ResetsOn c f step d g outs now → IsSome (kind_of now)
    resets_tell step outs r = elim (lowest_or_none c.heap.shape) [
      | inl l ↦ (let told = (r.sweeps l.0 l.1).1 in ap (λ o. is_some (kind_of o)) told.1)
      | inr none ↦ (let told = r.stops none in ap (λ o. is_some (kind_of o)) told.1)
    ]

    pub resets_told : (b : CollectorState) (before : Option Report) (step : Step) (outs : List (ℕ × ℕ)) → IsSome b.run
        → c ≡ counted_in b d.heap.ledger → ResetsOn c f step d g outs now
        → SessionResets b f before (session_step step now) d g outs now
    resets_told b before step outs running is r =
        let says = resets_tell step outs r in
        let none_handed : step.handed ≡ None = ap (λ (s : Step). s.handed) r.step_is in
        let reported : is_some (cond step.reported (kind_of now) None) ≡ step.reported =
        told_of step.reported now (λ e. says) in
        let same : step_told (session_step step now) ≡ step = λ i. record {
          units = step.units;
          reported = reported i;
          finished = step.finished;
          handed = sym none_handed i;
        } in
        record {
          some = λ some. subst (λ (s : Step). ResetsOn (counted_in b d.heap.ledger) f s d g outs now) (sym same)
              (subst (λ (x : CollectorState). ResetsOn x f step d g outs now) is r);
          report_is = said_of step.reported now;
          none = λ none. absurd (cc (none, running));
          still = λ none. absurd (cc (none, running));
        }

-- a collector stands for what another one stood for, with other bits in flight
pub flies_sound : (c d : CollectorState) (f g : ℕ → Option Bits)
    → ((w : World) → Represents c f w → Represents d g w) → IsSound c f → IsSound d g
flies_sound c d f g same s = record { world = s.world; valid = s.valid; represents = same s.world s.represents }

-- a new session
pub new_sound : (c : CollectorState) (jobs : List Job) → jobs ≡ [] → Represents c none_flown first_world
    → IsSound c (flown_by jobs) × AreOut c.heap.shape (outs_of jobs)
new_sound c jobs is rep = subst (λ (xs : List Job). IsSound c (flown_by xs) × AreOut c.heap.shape (outs_of xs))
    (sym is) (
      record { world = first_world; valid = first_valid; represents = rep },
      out_none c.heap.shape,
    )

pub new_first : (c : CollectorState) (jobs : List Job) → jobs ≡ [] → Represents c none_flown first_world
    → Represents c (flown_by jobs) first_world
new_first c jobs is rep = subst (λ (xs : List Job). Represents c (flown_by xs) first_world) (sym is) rep

-- what is done over a collector whose edges are counted is done in the worlds for which it stands otherwise
pub does_counted : (b : CollectorState) (ledger : Option ℕ) (f : ℕ → Option Bits) (cmd : GraphCmd)
    (r : Result Reply CmdFault) (d : CollectorState) (g : ℕ → Option Bits)
    → DoesCommand (counted_in b ledger) f cmd r d g → DoesCommand b f cmd r d g
does_counted b ledger f cmd r d g does w ok rep = does w ok ((counts_alike b ledger f w).0 rep)

pub in_ledger : (P : CollectorState → Type 0) (b : CollectorState) (l m : Option ℕ) → m ≡ l → P (counted_in b l)
    → P (counted_in b m)
in_ledger P b l m same p = subst (λ (n : Option ℕ). P (counted_in b n)) (sym same) p

pub sound_counted : (b : CollectorState) (ledger : Option ℕ) (f : ℕ → Option Bits) → IsSound b f
    → IsSound (counted_in b ledger) f
sound_counted b ledger f s =
    record { world = s.world; valid = s.valid; represents = (counts_alike b ledger f s.world).0 s.represents }

-- where edges are counted, arenas are out as they were
pub counted_words : (b : CollectorState) (ledger : Option ℕ) (d : CollectorState) → d ≡ counted_in b ledger
    → KeepsFreedWords b.heap.shape d.heap.shape
counted_words b ledger d same = subst (λ (x : CollectorState). KeepsFreedWords b.heap.shape x.heap.shape) (sym same)
    (λ a freed is. is)

-- where edges are counted, as much is left of a collection
pub left_counted : (c : CollectorState) (ledger : Option ℕ) (flown : ℕ → Option Bits)
    → units_left (counted_in c ledger) flown ≡ units_left c flown
unfolding units_to_come units_at
left_counted c ledger flown = refl

pub may_counted : (b : CollectorState) (ledger : Option ℕ) (f : ℕ → Option Bits) (outs : List (ℕ × ℕ))
    → MayAdvance b f outs → MayAdvance (counted_in b ledger) f outs
may_counted b ledger f outs may = record {
  sound = sound_counted b ledger f may.sound;
  running = may.running;
  out = record { freed = may.out.freed };
}

pub room_counted : (b : CollectorState) (ledger : Option ℕ) (c : GraphCmd) → HasRoom b.heap c
    → HasRoom (counted_in b ledger).heap c
room_counted b ledger command.Zone room = room
room_counted b ledger (command.Comp z) room = room
room_counted b ledger (command.New r c n) room = room
room_counted b ledger (command.Map r c) room = room
room_counted b ledger (command.Get r s f) room = room
room_counted b ledger (command.Set s f t) room = room
room_counted b ledger (command.Wrap r s c) room = room
room_counted b ledger (command.Unwrap r s) room = room
room_counted b ledger (command.Copy r s) room = room
room_counted b ledger (command.Drop r) room = room
room_counted b ledger (command.Hold g r) room = room
room_counted b ledger (command.Release g) room = room
room_counted b ledger (command.Expose r g) room = room
room_counted b ledger (command.Put m k v) room = room
room_counted b ledger (command.Del m k) room = room
room_counted b ledger (command.Find r m k) room = room

-- the ledger stays
pub after_ledger : {E : Type 0} (limit : ℕ) (c : CollectorState) (f : ℕ → Option Bits) (before : Option Report)
    (d : CollectorState) (g : ℕ → Option Bits) (now : Option Report) (r : Result Step E) (outs : List (ℕ × ℕ))
    → IfOk r (λ (step : Step). Advances limit c f before step d g outs now) → OnErr r (IsStill c f d g)
    → d.heap.ledger ≡ c.heap.ledger
after_ledger limit c f before d g now (Ok step) outs a still = a.ledger
after_ledger limit c f before d g now (Err why) outs a still = ap (λ (x : CollectorState). x.heap.ledger) still.same

-- a dump of the one is one of the other
pub dump_counted : {T E : Type 0} (b c : CollectorState) (f : ℕ → Option Bits) (r : Result T E)
    (P : World → T → Type 0) → ((flown : ℕ → Option Bits) (w : World) → Represents b flown w ↔ Represents c flown w)
    → IfOk r (λ (lines : T). (w : World) → Represents c f w → P w lines)
    → IfOk r (λ (lines : T). (w : World) → Represents b f w → P w lines)
dump_counted b c f (Ok lines) P alike told = λ w rep. told w ((alike f w).0 rep)
dump_counted b c f (Err why) P alike told = tt
