-- A command on the graph: the judge stands for the world after it.
use Rattle.std.proofs.Common.{◌≡◌, ◌∙◌, ℕ, Option, Some, None, refl, sym, ap, subst}
use Rattle.gz_names.specs.Zones.{zones_in}
use Rattle.gz_names.specs.declared.names.Name.{Name}
use Rattle.gz_names.specs.declared.names.Name.TheVariants.{Cell, Wrap}
use Rattle.gz_names.specs.declared.commands.GraphCmd.{GraphCmd}
use Rattle.gz_names.specs.declared.commands.GraphCmd.TheVariants as cmd
use Rattle.gz_names.specs.declared.replies.Reply.{Reply}
use Rattle.gz_names.specs.declared.replies.Refusal.{Refusal}
use Rattle.colour_defs.specs.Graph.{GraphState, register_cell}
use Rattle.colour_defs.specs.Laws.{IsMade, IsValid}
use Rattle.colour_defs.specs.Step.{refusal_in, step_of}
use Rattle.colour_defs.specs.Units.{Tally, with_put, with_woken}
use Rattle.colour_defs.specs.World.{AcceptsIn, AcceptsUnless, Collection, CommandInWorld, IsPresent, Preparation, World}
use Rattle.colour_defs.specs.World.{also_woken_by, target_cell, with_counts, woken_by}
use Rattle.colour_defs.proofs.Effects.{effect_of, keeps, no_waking, waking_of}
use Rattle.colour_defs.proofs.Follows.{Follows, follows}
use Rattle.colour_defs.proofs.Refused.{refused_keeps}
use Rattle.colour_defs.proofs.ValidCommands.{changed, command_valid}
use Rattle.judge.specs.Cells.{unless_refused, wakes}
use Rattle.judge.specs.Positions.{StandsIn}
use Rattle.judge.specs.Represents.{IsAtStage, LiesInPlace, Represents}
use Rattle.judge.specs.Stages.{Changes, Obeys, Shown, Stage, collecting, counts_for, idle, preparing, tally_unless}
use Rattle.judge.specs.declared.former.Change.TheVariants as change
use Rattle.judge.proofs.Changed.{represents_after}
use Rattle.judge.proofs.LeadsOn.{command_on}

-- what a collection counts after a command
abbrev pub counted : GraphState → GraphCmd → Collection → Tally
counted g c k = with_woken g k.zones (woken_by g c) (with_put g k.zones c k.tally)

pub counted_is : (g : GraphState) (c : GraphCmd) (o : Option Collection)
    → with_counts g c o ≡ changed (counted g c) (λ k. k.woken) o
counted_is g c None = refl
counted_is g c (Some k) = refl

pub uncounted_is : (o : Option Collection) → changed (λ k. k.tally) (λ k. k.woken) o ≡ o
uncounted_is None = refl
uncounted_is (Some k) = refl

-- what is read through a wrapper is present
target_there : (w : World) → IsValid w → (x : Option Name) (s : Name) (r : ℕ) → register_cell w.graph r ≡ x
    → target_cell x ≡ Some s → IsPresent w s
target_there w ok None s r e t = absurd (cc t)
target_there w ok (Some (Cell n)) s r e t =
    subst (λ y. IsPresent w y) (cc t) (ok.presence.registers r (Cell n) e)
target_there w ok (Some (Wrap c n)) s r e t =
    let there = ok.presence.registers r (Wrap c n) e in
    let made : IsMade w.graph (Wrap c n) = ok.made (Wrap c n) there in
    subst (λ y. IsPresent w y) (cc t) (ok.presence.edges (Wrap c n) (Cell n) there (refl, made.2))

pub also_there : (w : World) → IsValid w → (c : GraphCmd) (s : Name) → also_woken_by w.graph c ≡ Some s → IsPresent w s
also_there w ok cmd.Zone s e = absurd (cc e)
also_there w ok (cmd.Comp z) s e = absurd (cc e)
also_there w ok (cmd.New r c n) s e = absurd (cc e)
also_there w ok (cmd.Map r c) s e = absurd (cc e)
also_there w ok (cmd.Get r a f) s e = absurd (cc e)
also_there w ok (cmd.Set a f t) s e = absurd (cc e)
also_there w ok (cmd.Wrap r a c) s e = target_there w ok (register_cell w.graph a) s a refl e
also_there w ok (cmd.Unwrap r a) s e = target_there w ok (register_cell w.graph a) s a refl e
also_there w ok (cmd.Copy r a) s e = absurd (cc e)
also_there w ok (cmd.Drop r) s e = absurd (cc e)
also_there w ok (cmd.Hold k r) s e = absurd (cc e)
also_there w ok (cmd.Release k) s e = absurd (cc e)
also_there w ok (cmd.Expose r k) s e = absurd (cc e)
also_there w ok (cmd.Put m k v) s e = absurd (cc e)
also_there w ok (cmd.Del m k) s e = absurd (cc e)
also_there w ok (cmd.Find r m k) s e = absurd (cc e)

-- what the judge counts then is what the definitions count
counts_as : (g : GraphState) (c : GraphCmd) (s : Shown) (w : World) (t : Stage) → IsAtStage t s w → (k : Collection)
    → w.collection ≡ Some k → k.tally ≡ s.tally → counted g c k ≡ counts_for g t c s.tally
counts_as g c s w idle at k e same = absurd (cc (e, at.idle.none_running))
counts_as g c s w (preparing zones) at k e same = absurd (cc (e, at.alone))
counts_as g c s w (collecting zones marking groups) at k e same =
    let is : at.collection ≡ k = cc (e, at.collection_is) in
    let zs : k.zones ≡ zones_in zones = ap (λ (m : Collection). m.zones) (sym is) ∙ at.zones_are in
    ap (λ z. with_woken g z (woken_by g c) (with_put g z c k.tally)) zs
    ∙ ap (λ t. with_woken g (zones_in zones) (woken_by g c) (with_put g (zones_in zones) c t)) same

counts_none : (g : GraphState) (c : GraphCmd) (s : Shown) (w : World) (t : Stage) → IsAtStage t s w
    → w.collection ≡ None → counts_for g t c s.tally ≡ s.tally
counts_none g c s w idle at e = refl
counts_none g c s w (preparing zones) at e = refl
counts_none g c s w (collecting zones marking groups) at e = absurd (cc (e, at.collection_is))

module _ (c : GraphCmd) (r : Reply) (old new : Shown) (w v : World) (stands : StandsIn w.graph old w)
    (obeys : Obeys w.graph c old new) (lies : LiesInPlace (step_of w.graph c).0 (wakes w.graph c) old new)
    (lawful : CommandInWorld w c r v) where
  abbrev after : GraphState
  after = (step_of w.graph c).0

  valid : IsValid v
  valid = command_valid w v c r stands.laws.valid lawful

  accepted : refusal_in (step_of w.graph c).1 ≡ None → Represents (step_of w.graph c).0 new v
  accepted e =
      let changes = subst (λ o. Changes (change.Command c) after (unless_refused o (woken_by w.graph c))
      (unless_refused o (also_woken_by w.graph c)) old new) e obeys.changes in
      let lying = subst (λ o. LiesInPlace after (unless_refused o (woken_by w.graph c)) old new) e lies in
      let tally = obeys.tally_is ∙ ap (λ o. tally_unless o w.graph old.stage c old.tally) e in
      let accepts = subst (λ o. AcceptsUnless o w (with_counts w.graph c w.collection) after (woken_by w.graph c)
      (also_woken_by w.graph c) v) e lawful.1 in
      represents_after (change.Command c) after (woken_by w.graph c) (also_woken_by w.graph c) (counted w.graph c)
      w.graph old new w v (record {
        stands = stands;
        after = valid;
        changes = changes;
        lies = lying;
        on = command_on w.graph c;
        follow = follows w.graph (waking_of w.graph c) (effect_of w.graph c);
        also_there = also_there w stands.laws.valid c;
        tally = λ k is same.
            counts_as w.graph c old w old.stage stands.represents.stage_is k is same ∙ sym tally;
        uncounted = λ none. tally ∙ counts_none w.graph c old w old.stage stands.represents.stage_is none;
        accepts = subst (λ o. AcceptsIn w.preparing w o after (woken_by w.graph c) (also_woken_by w.graph c) v)
            (counted_is w.graph c w.collection) accepts;
      })

  still : (g : GraphState) → g ≡ w.graph → v ≡ w → (p : Option Preparation)
      → AcceptsIn p w (changed (λ k. k.tally) (λ k. k.woken) w.collection) g None None v
  still g same is None =
      is ∙ ap (λ a. record w { graph = a }) (sym same)
      ∙ ap (λ o. record w { graph = g; collection = o }) (sym (uncounted_is w.collection))
  still g same is (Some p) = is ∙ ap (λ a. record w { graph = a }) (sym same)

  refused : (why : Refusal) → refusal_in (step_of w.graph c).1 ≡ Some why → Represents (step_of w.graph c).0 new v
  refused why e =
      let same : after ≡ w.graph = refused_keeps w.graph c why e in
      let changes = subst (λ o. Changes (change.Command c) after (unless_refused o (woken_by w.graph c))
      (unless_refused o (also_woken_by w.graph c)) old new) e obeys.changes in
      let lying = subst (λ o. LiesInPlace after (unless_refused o (woken_by w.graph c)) old new) e lies in
      let tally = obeys.tally_is ∙ ap (λ o. tally_unless o w.graph old.stage c old.tally) e in
      let is = subst (λ o. AcceptsUnless o w (with_counts w.graph c w.collection) after (woken_by w.graph c)
      (also_woken_by w.graph c) v) e lawful.1 in
      represents_after (change.Command c) after None None (λ k. k.tally) w.graph old new w v (record {
        stands = stands;
        after = valid;
        changes = changes;
        lies = lying;
        on = command_on w.graph c;
        follow = subst (λ h. Follows w.graph no_waking h) (sym same) (follows w.graph no_waking keeps);
        also_there = λ s n. absurd (cc n);
        tally = λ k at t. t ∙ sym tally;
        uncounted = λ none. tally;
        accepts = still after same is w.preparing;
      })

  pub represents_command : Represents (step_of w.graph c).0 new v
  represents_command = go (refusal_in (step_of w.graph c).1) refl
    where
      go : (o : Option Refusal) → refusal_in (step_of w.graph c).1 ≡ o → Represents (step_of w.graph c).0 new v
      go None e = accepted e
      go (Some why) e = refused why e
