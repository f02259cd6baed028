-- A step of a session reports something that a session tells of; and a command on the graph gets the
-- reply that the language has for it.
use Rattle.std.proofs.Common.{◌≡◌, ◌≢◌, ◌⊎◌, ℕ, inl, inr, Bool, true, List, [], ◌∷◌, ◌++◌, Option, Some, None}
use Rattle.std.proofs.Common.{Result}
use Rattle.std.proofs.Common.{Ok, Err, IfOk, IsSome, is_some, cond, refl, sym, ap, ◌∙◌, subst}
use Rattle.std.specs.List.{flat_map}
use Rattle.gz_names.specs.declared.commands.GraphCmd.{GraphCmd}
use Rattle.gz_names.specs.declared.replies.CmdFault.{CmdFault}
use Rattle.gz_names.specs.declared.replies.Reply.{Reply}
use Rattle.gz_names.specs.declared.replies.Report.{Report}
use Rattle.gz_names.specs.declared.replies.Report.TheVariants.{Started, Groups, Ended, Swept, Done, Stopped}
use Rattle.cell_bits.specs.declared.bits.Bits.{Bits}
use Rattle.colour_defs.specs.Lawful.{IsLawfulUnit, quiet, says, last, AreLawfulUnits}
use Rattle.colour_defs.specs.World.{World}
use Rattle.colour_defs.specs.Step.{refusal_in}
use Rattle.collection_laws.specs.Numbers.{IsGraphReply}
use Rattle.collection_laws.specs.Replies.{IsReplyTo}
use Rattle.collection_laws.proofs.Replies.{answered}
use Rattle.slice_driver.specs.Advances.{Advances, told}
use Rattle.slice_driver.specs.Collector.{CollectorState}
use Rattle.slice_driver.specs.Sessions.{kind_of}
use Rattle.slice_driver.specs.Units.{AnswersIn, DoesCommand, IsSound, reports_of, with_done}
use Rattle.slice_driver.specs.declared.advance.Step.{Step}

of_kind : (r : Report) → r ≢ Done → IsSome (kind_of (Some r))
of_kind Started not = refl
of_kind (Groups groups) not = refl
of_kind (Ended zones grays dead) not = refl
of_kind (Swept arena names) not = refl
of_kind Done not = absurd (not refl)
of_kind (Stopped zones) not = refl

first_said : (w : World) {unit : List Report} {u : World} → IsLawfulUnit w unit u → (said : Report)
    (more rs : List Report) → unit ++ more ≡ said ∷ rs → (unit ≡ []) ⊎ IsSome (kind_of (Some said))
first_said w (quiet run) said more rs e = inl refl
first_said w (says {r} run not h over) said more rs e =
    inr (subst (λ (x : Report). IsSome (kind_of (Some x))) (cc e) (of_kind r not))
first_said w (last {r} run not h done) said more rs e =
    inr (subst (λ (x : Report). IsSome (kind_of (Some x))) (cc e) (of_kind r not))

-- the first report of units
units_say : (w : World) (units : List (List Report)) (v : World) → AreLawfulUnits w units v → (r : Report)
    (rs : List Report) → flat_map (λ u. u) units ≡ r ∷ rs → IsSome (kind_of (Some r))
units_say w [] v h r rs e = absurd (cc e)
units_say w (unit ∷ units) v (u, first, rest) r rs e =
    elim (first_said w first r (flat_map (λ x. x) units) rs e) [
      | inl none ↦
          units_say u units v rest r rs
          (subst (λ (x : List Report). x ++ flat_map (λ y. y) units ≡ r ∷ rs) none e)
      | inr is ↦ is
    ]

pub says_kind : (limit : ℕ) (c : CollectorState) (f : ℕ → Option Bits) (before : Option Report) (step : Step)
    (d : CollectorState) (g : ℕ → Option Bits) (outs : List (ℕ × ℕ)) (now : Option Report) → IsSound c f
    → Advances limit c f before step d g outs now → step.reported ≡ true → IsSome (kind_of now)
says_kind limit c f before step d g outs now s a reported = go now refl (a.told_some reported)
  where
    go : (o : Option Report) → now ≡ o → is_some now ≡ true → IsSome (kind_of now)
    go None e some = absurd (cc (some, ap is_some e))
    go (Some r) e some =
        let u = a.done s.world s.valid s.represents in
        let at : told step now ≡ r ∷ with_done step.finished =
        ap (λ (b : Bool). cond b (reports_of now step.finished) []) reported
        ∙ ap (λ (o : Option Report). reports_of o step.finished) e in
        subst (λ (o : Option Report). IsSome (kind_of o)) (sym e)
        (units_say s.world u.units u.after u.done r (with_done step.finished) (u.reports_are ∙ at))

-- a reply is one to a command on the graph, and to this one if it is not refused
module _ (c : CollectorState) (f : ℕ → Option Bits) (cmd : GraphCmd) (r : Result Reply CmdFault) (d : CollectorState)
    (g : ℕ → Option Bits) (s : IsSound c f) (does : DoesCommand c f cmd r d g) where
  graph_in : (o : Result Reply CmdFault) → r ≡ o → IfOk o IsGraphReply
  graph_in (Ok reply) is =
      let did =
      subst (λ (x : Result Reply CmdFault). AnswersIn s.world cmd x d g) is (does s.world s.valid s.represents) in
      subst (λ (x : Reply). IsGraphReply x) (sym did.1.0) (answered s.world.graph cmd).reply
  graph_in (Err why) is = tt

  says_in : (o : Result Reply CmdFault) → r ≡ o → IfOk o (λ reply. refusal_in reply ≡ None) → IfOk o (IsReplyTo cmd)
  says_in (Ok reply) is done =
      let did =
      subst (λ (x : Result Reply CmdFault). AnswersIn s.world cmd x d g) is (does s.world s.valid s.represents) in
      subst (λ (x : Reply). IsReplyTo cmd x) (sym did.1.0)
      ((answered s.world.graph cmd).says (subst (λ (x : Reply). refusal_in x ≡ None) did.1.0 done))
  says_in (Err why) is done = tt

  pub graph_reply : IfOk r IsGraphReply
  graph_reply = graph_in r refl

  pub says_reply : IfOk r (λ reply. refusal_in reply ≡ None) → IfOk r (IsReplyTo cmd)
  says_reply = says_in r refl
