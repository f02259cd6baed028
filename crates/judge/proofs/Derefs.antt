-- A weak slot is read: the judge stands for the world after it.
use Rattle.std.proofs.Common.{◌≡◌, ◌∙◌, ℕ, Option, Some, None, refl, sym, ap, subst}
use Rattle.gz_names.specs.Zones.{zones_in}
use Rattle.gz_names.specs.declared.names.Name.{Name}
use Rattle.gz_names.specs.declared.commands.WeakCmd.TheVariants as weak_command
use Rattle.gz_names.specs.declared.replies.Reply.{Reply}
use Rattle.colour_defs.specs.Graph.{GraphState}
use Rattle.colour_defs.specs.Step.{with_register}
use Rattle.colour_defs.specs.Units.{with_woken}
use Rattle.colour_defs.specs.WeakRefs.{WeakInWorld, weak_cell}
use Rattle.colour_defs.specs.World.{AcceptsIn, Collection, World}
use Rattle.colour_defs.proofs.Effects.{Effect, takes, woken}
use Rattle.colour_defs.proofs.Follows.{follows}
use Rattle.colour_defs.proofs.ValidCommands.{read, read_is}
use Rattle.colour_defs.proofs.ValidWeak.{weak_valid}
use Rattle.judge.specs.Positions.{StandsIn}
use Rattle.judge.specs.Represents.{IsAtStage, LiesInPlace, Represents}
use Rattle.judge.specs.Stages.{Shown, Stage, TakesNamed, collecting, idle, preparing, woken_tally}
use Rattle.judge.specs.declared.former.Change.TheVariants as change
use Rattle.judge.proofs.Changed.{represents_after}
use Rattle.judge.proofs.LeadsOn.{takes_on}

read_as : (g : GraphState) (x : Option Name) (s : Shown) (w : World) (t : Stage) → IsAtStage t s w → (k : Collection)
    → w.collection ≡ Some k → k.tally ≡ s.tally → read g x k ≡ woken_tally g t x s.tally
read_as g x s w idle at k e same = absurd (cc (e, at.idle.none_running))
read_as g x s w (preparing zones) at k e same = absurd (cc (e, at.alone))
read_as g x s w (collecting zones marking groups) at k e same =
    let is : at.collection ≡ k = cc (e, at.collection_is) in
    let zs : k.zones ≡ zones_in zones = ap (λ (m : Collection). m.zones) (sym is) ∙ at.zones_are in
    ap (λ z. with_woken g z x k.tally) zs ∙ ap (λ t. with_woken g (zones_in zones) x t) same

read_none : (g : GraphState) (x : Option Name) (s : Shown) (w : World) (t : Stage) → IsAtStage t s w
    → w.collection ≡ None → woken_tally g t x s.tally ≡ s.tally
read_none g x s w idle at e = refl
read_none g x s w (preparing zones) at e = refl
read_none g x s w (collecting zones marking groups) at e = absurd (cc (e, at.collection_is))

module _ (r q : ℕ) (a : Reply) (old new : Shown) (w v : World) (stands : StandsIn w.graph old w)
    (taken : TakesNamed w.graph r (weak_cell w q) old new)
    (lies : LiesInPlace (with_register w.graph r (weak_cell w q)) (weak_cell w q) old new)
    (lawful : WeakInWorld w (weak_command.Deref r q) a v) where
  pub represents_deref : Represents (with_register w.graph r (weak_cell w q)) new v
  represents_deref =
      let x : Option Name = weak_cell w q in
      let effect : Effect w.graph (record { first = weak_cell w q; also = None })
      (with_register w.graph r (weak_cell w q)) = takes r (weak_cell w q) (λ y e. woken e) in
      represents_after (change.Take r (weak_cell w q)) (with_register w.graph r (weak_cell w q)) (weak_cell w q) None
      (read w.graph (weak_cell w q)) w.graph old new w v (record {
        stands = stands;
        after = weak_valid w v (weak_command.Deref r q) a stands.laws.valid lawful;
        changes = taken.changes;
        lies = lies;
        on = takes_on w.graph r (weak_cell w q);
        follow = follows w.graph (record { first = weak_cell w q; also = None }) effect;
        also_there = λ s n. absurd (cc n);
        tally = λ k is same.
            read_as w.graph (weak_cell w q) old w old.stage stands.represents.stage_is k is same ∙ sym taken.tally_is;
        uncounted = λ none.
            taken.tally_is ∙ read_none w.graph (weak_cell w q) old w old.stage stands.represents.stage_is none;
        accepts = subst (λ o. AcceptsIn w.preparing w o (with_register w.graph r (weak_cell w q))
            (weak_cell w q) None v)
            (read_is w.graph (weak_cell w q) w.collection) lawful.1;
      })
