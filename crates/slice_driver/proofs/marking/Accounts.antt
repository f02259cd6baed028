-- The numbers that a session gave, and those that its reports listed as freed, from what its collector does.
use Rattle.std.proofs.Common.{◌≡◌, ℕ, Bool, true, false, List, [], ◌++◌, append-nil, cond, Option, Some, None}
use Rattle.std.proofs.Common.{Result, inl, inr}
use Rattle.std.proofs.Common.{Ok, Err, IfOk, OnErr, OnOk, refl, sym, ap, ◌∙◌, subst}
use Rattle.gz_names.specs.Zones.{zones_in}
use Rattle.gz_names.specs.declared.commands.GraphCmd.{GraphCmd}
use Rattle.gz_names.specs.declared.names.Name.{Name}
use Rattle.gz_names.specs.declared.replies.CmdFault.{CmdFault}
use Rattle.gz_names.specs.declared.replies.CmdFault.TheVariants as fault
use Rattle.gz_names.specs.declared.replies.Reply.{Reply}
use Rattle.gz_names.specs.declared.replies.Report.{Report}
use Rattle.gz_names.specs.declared.replies.Report.TheVariants as report
use Rattle.cell_bits.specs.declared.bits.Bits.{Bits}
use Rattle.cell_bits.specs.declared.jobs.Job.{Job}
use Rattle.colour_defs.specs.World.{World, first_world}
use Rattle.colour_defs.proofs.ValidCommands.{command_valid}
use Rattle.colour_defs.proofs.ValidReports.{unit_valid}
use Rattle.colour_defs.proofs.ValidRuns.{first_valid}
use Rattle.collection_laws.specs.Numbers.{IsAccounted, freed_in}
use Rattle.collection_laws.proofs.Accounts.{command_accounts, first_accounts, prepares_accounts, still_accounts}
use Rattle.collection_laws.proofs.Accounts.{unit_accounts, units_accounts}
use Rattle.sweeping.specs.ArenasOut.{flown_by}
use Rattle.slice_driver.specs.Accounts.{Accounts, FreesOn, GivesOn, freed_by, freed_by_report}
use Rattle.slice_driver.specs.Advances.{Advances}
use Rattle.slice_driver.specs.Collector.{CollectorState}
use Rattle.slice_driver.specs.Represents.{Represents}
use Rattle.slice_driver.specs.Resets.{ResetsOn}
use Rattle.slice_driver.specs.Sessions.{counted_in, kind_of, no_step, outcome_of, session_result}
use Rattle.slice_driver.specs.Sessions.{session_step}
use Rattle.slice_driver.specs.Units.{AnswersIn, BeginsIn, DoesCommand, IsAfterWant, none_flown, reports_of, with_done}
use Rattle.slice_driver.specs.Working.{IsStill}
use Rattle.slice_driver.specs.declared.advance.Step.{Step}
use Rattle.slice_driver.specs.declared.session.SessionFault.{SessionFault}
use Rattle.slice_driver.specs.declared.session.SessionFault.TheVariants as session
use Rattle.slice_driver.specs.declared.session.told.SessionStep.{SessionStep}
use Rattle.slice_driver.proofs.abstraction.Named.{some_one}
use Rattle.slice_driver.proofs.abstraction.Counting.{counts_alike}
use Rattle.slice_driver.proofs.abstraction.Wanted.{wanted_valid}
use Rattle.slice_driver.proofs.marking.Sessions.{lowest_or_none, new_first}

pub new_accounts : (c : CollectorState) (jobs : List Job) → jobs ≡ [] → Represents c none_flown first_world
    → Accounts c (flown_by jobs) 0 []
new_accounts c jobs is rep = record {
  world = first_world;
  valid = first_valid;
  represents = new_first c jobs is rep;
  accounted = first_accounts;
}

-- out of memory no number is given
wanted_accounts : (w : World) (cmd : GraphCmd) (v : World) (given : ℕ) (freed : List Name) → IsAfterWant w cmd v
    → IsAccounted w given freed → IsAccounted v given freed
wanted_accounts w cmd v given freed (inl same) a = subst (λ (u : World). IsAccounted u given freed) (sym same) a
wanted_accounts w cmd v given freed (inr s) a = still_accounts w v given freed (ap (λ (u : World). u.graph) s.2)
    (ap (λ (u : World). u.places) s.2) (ap (λ (u : World). u.owner) s.2) (ap (λ (u : World). u.out) s.2)
    (ap (λ (u : World). u.white) s.2) a

module _ (c : CollectorState) (f : ℕ → Option Bits) (d : CollectorState) (g : ℕ → Option Bits) where
  pub gives_on : (cmd : GraphCmd) (r : Result Reply SessionFault) (o : Result Reply CmdFault)
      → outcome_of r ≡ Some o → DoesCommand c f cmd o d g → GivesOn c f r d g
  gives_on cmd (Ok answer) o is does given freed a =
      let did : AnswersIn a.world cmd (Ok answer) d g =
      subst (λ (x : Result Reply CmdFault). AnswersIn a.world cmd x d g) (sym (some_one _ _ is))
      (does a.world a.valid a.represents) in
      let next = command_accounts a.world cmd answer did.0 given freed a.valid a.accounted did.1 in (
        next.0,
        record {
          world = did.0;
          valid = command_valid a.world did.0 cmd answer a.valid did.1;
          represents = did.2;
          accounted = next.1;
        },
      )
  gives_on cmd (Err (session.Refused why)) o is does given freed a =
      let did : AnswersIn a.world cmd (Err (fault.Refused why)) d g =
      subst (λ (x : Result Reply CmdFault). AnswersIn a.world cmd x d g) (sym (some_one _ _ is))
      (does a.world a.valid a.represents) in
      (tt, record { world = a.world; valid = a.valid; represents = did.1; accounted = a.accounted })
  gives_on cmd (Err session.NoMemory) o is does given freed a =
      let did : AnswersIn a.world cmd (Err fault.NoMemory) d g =
      subst (λ (x : Result Reply CmdFault). AnswersIn a.world cmd x d g) (sym (some_one _ _ is))
      (does a.world a.valid a.represents) in (
        tt,
        record {
          world = did.0;
          valid = wanted_valid a.world cmd did.0 a.valid did.1;
          represents = did.2;
          accounted = wanted_accounts a.world cmd did.0 given freed did.1 a.accounted;
        },
      )
  gives_on cmd (Err session.Full) o is does given freed a = absurd (cc is)

  -- nothing is listed as freed, and each world stays
  pub stays_on : d ≡ c → ((w : World) → Represents c f w → Represents c g w) → FreesOn c f [] d g
  stays_on same worlds given freed a =
      subst (λ (x : CollectorState). Accounts x g given (freed ++ [])) (sym same) (record {
        world = a.world;
        valid = a.valid;
        represents = worlds a.world a.represents;
        accounted = subst (λ (l : List Name). IsAccounted a.world given l) (sym (append-nil freed)) a.accounted;
      })

pub begins_on : {T E : Type 0} (c : CollectorState) (f : ℕ → Option Bits) (d : CollectorState) (r : Result T E)
    (zones : ℕ) → OnOk r (BeginsIn c zones d) → OnErr r (d ≡ c) → FreesOn c f [] d f
begins_on c f d (Ok done) zones begun same given freed a =
    let b = begun f a.world a.valid a.represents in
    record {
      world = b.0;
      valid = b.2;
      represents = b.3;
      accounted = subst (λ (l : List Name). IsAccounted b.0 given l) (sym (append-nil freed))
          (prepares_accounts a.world (zones_in (record { bits = zones })) b.0 given freed b.1 a.accounted);
    }
begins_on c f d (Err why) zones begun same given freed a = stays_on c f d f same (λ w rep. rep) given freed a

-- what a step lists as freed
done_tells : (f : Bool) → freed_in (with_done f) ≡ []
done_tells true = refl
done_tells false = refl

tells : (b : Bool) (now : Option Report) (f : Bool)
    → freed_in (cond b (reports_of now f) []) ≡ freed_by_report (cond b (kind_of now) None) now
tells false now f = refl
tells true None f = refl
tells true (Some report.Started) f = done_tells f
tells true (Some (report.Groups groups)) f = done_tells f
tells true (Some (report.Ended zones grays dead)) f = done_tells f
tells true (Some (report.Swept arena names)) f = ap (λ (l : List Name). names ++ l) (done_tells f) ∙ append-nil names
tells true (Some report.Done) f = done_tells f
tells true (Some (report.Stopped zones)) f = done_tells f

pub frees_on : {E : Type 0} (limit : ℕ) (c : CollectorState) (f : ℕ → Option Bits) (before : Option Report)
    (d : CollectorState) (g : ℕ → Option Bits) (outs : List (ℕ × ℕ)) (now : Option Report) (r : Result Step E)
    → IfOk r (λ (step : Step). Advances limit c f before step d g outs now) → OnErr r (IsStill c f d g)
    → FreesOn c f (freed_by (session_result r now) now) d g
frees_on limit c f before d g outs now (Ok step) done still given freed a =
    let u = done.done a.world a.valid a.represents in
    record {
      world = u.after;
      valid = u.valid;
      represents = u.represents;
      accounted = subst (λ (l : List Name). IsAccounted u.after given (freed ++ l))
          (ap freed_in u.reports_are ∙ tells step.reported now step.finished)
          (units_accounts a.world u.units u.after given freed u.done a.accounted);
    }
frees_on limit c f before d g outs now (Err why) done still given freed a =
    stays_on c f d g still.same still.worlds given freed a

-- what a step lists that gives a collection up
pub resets_on : (c : CollectorState) (f : ℕ → Option Bits) (d : CollectorState) (g : ℕ → Option Bits)
    (outs : List (ℕ × ℕ)) (now : Option Report) (step : Step) → ResetsOn c f step d g outs now
    → FreesOn c f (freed_by_report (session_step step now).report now) d g
resets_on c f d g outs now step r given freed a = elim (lowest_or_none c.heap.shape) [
  | inl l ↦ (
      let u = (r.sweeps l.0 l.1).0 a.world a.valid a.represents in
      record {
        world = u.0;
        valid = unit_valid a.world a.valid u.1;
        represents = u.2;
        accounted = subst (λ (l : List Name). IsAccounted u.0 given (freed ++ l)) listed
            (unit_accounts a.world given freed u.1 a.accounted);
      })
  | inr none ↦ (
      let s = r.stops none in
      let v = s.2.stops a.world a.valid a.represents in
      let nothing : freed_by_report (session_step step now).report now ≡ [] =
      ap (λ b. freed_by_report (cond b (kind_of now) None) now) reported
      ∙ ap (λ (o : Option Report). freed_by_report (kind_of o) o) s.1 in
      let is = v.1.world_is in
      record {
        world = v.0;
        valid = v.2;
        represents = v.3;
        accounted = subst (λ (l : List Name). IsAccounted v.0 given l)
            (sym (ap (λ (l : List Name). freed ++ l) nothing ∙ append-nil freed))
            (still_accounts a.world v.0 given freed (ap (λ (u : World). u.graph) is)
            (ap (λ (u : World). u.places) is) (ap (λ (u : World). u.owner) is) (ap (λ (u : World). u.out) is)
            (ap (λ (u : World). u.white) is) a.accounted);
      })
]
  where
    reported : step.reported ≡ true
    reported = ap (λ (s : Step). s.reported) r.step_is

    listed : freed_in (reports_of now step.finished) ≡ freed_by_report (session_step step now).report now
    listed = tells true now step.finished
        ∙ ap (λ b. freed_by_report (cond b (kind_of now) None) now) (sym reported)

-- and over a collector whose edges are counted, which stands for the same worlds
pub frees_counted : (b : CollectorState) (ledger : Option ℕ) (f : ℕ → Option Bits) (names : List Name)
    (d : CollectorState) (g : ℕ → Option Bits) → FreesOn (counted_in b ledger) f names d g → FreesOn b f names d g
frees_counted b ledger f names d g frees given freed a = frees given freed (record {
  world = a.world;
  valid = a.valid;
  represents = (counts_alike b ledger f a.world).0 a.represents;
  accounted = a.accounted;
})

-- no unit was done
pub idle_on : (E : Type 0) (c : CollectorState) (f : ℕ → Option Bits) (step : SessionStep) (now : Option Report)
    → step ≡ no_step → FreesOn c f (freed_by {E = E} (Ok step) now) c f
idle_on E c f step now is =
    subst (λ (s : SessionStep). FreesOn c f (freed_by_report s.report now) c f) (sym is)
    (stays_on c f c f refl (λ w rep. rep))

pub idle_resets : (c : CollectorState) (f : ℕ → Option Bits) (step : SessionStep) (now : Option Report)
    → step ≡ no_step → FreesOn c f (freed_by_report step.report now) c f
idle_resets c f step now is =
    subst (λ (s : SessionStep). FreesOn c f (freed_by_report s.report now) c f) (sym is)
    (stays_on c f c f refl (λ w rep. rep))
