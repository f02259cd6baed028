-- What a line leaves of weak slots and of watched cells: what is still present.
use Rattle.std.proofs.Common.{◌≡◌, ℕ, inl, inr, Bool, true, false, if◌then◌else◌, List, [], ◌∷◌, is_some, refl, sym, ap}
use Rattle.std.proofs.Common.{subst, ◌∙◌, Option, Some, None, slice_index_or}
use Rattle.std.proofs.Math.ListN.{get_or-map}
use Rattle.std.specs.FinMap as map
use Rattle.gz_names.specs.Zones.{zones_in}
use Rattle.gz_names.specs.declared.names.Name.{Name}
use Rattle.gz_names.specs.declared.commands.Cmd.{Cmd}
use Rattle.gz_names.specs.declared.commands.Cmd.TheVariants as command
use Rattle.gz_names.specs.declared.commands.GraphCmd.{GraphCmd}
use Rattle.gz_names.specs.declared.replies.Reply.{Reply}
use Rattle.gz_names.specs.declared.replies.Refusal.{Refusal}
use Rattle.gz_names.specs.declared.replies.Report.{Report}
use Rattle.gz_names.specs.declared.replies.Report.TheVariants.{Started, Groups, Ended, Swept, Done, Stopped}
use Rattle.colour_defs.specs.Graph.{GraphState}
use Rattle.colour_defs.specs.Step.{step_of, refusal_in}
use Rattle.colour_defs.specs.World.{World, WeakNames, Preparation, Collection, Has, IsPresent, is_present, AcceptsIn}
use Rattle.colour_defs.specs.World.{AcceptsUnless, CommandInWorld, with_counts, woken_by, also_woken_by}
use Rattle.colour_defs.specs.WeakRefs.{weak_cell, if_present}
use Rattle.colour_defs.specs.Lawful.{IsLawfulReport, IsLawfulUnit, quiet, says, last, AreLawfulUnits, AreLawfulSweeps}
use Rattle.colour_defs.specs.Lawful.{LastOfReset, Resets, Slices, Prepares, Answers, RefusesToBegin}
use Rattle.colour_defs.specs.Laws.{IsValid, IsNoWeakCmd}
use Rattle.spec_laws.specs.Kept.{KeepsWeak}
use Rattle.colour_defs.proofs.ValidCommands.{place_kept}
use Rattle.spec_laws.proofs.Tight.{compact_tight}
use Rattle.colour_defs.proofs.ValidReports.{prepare_valid, report_valid, unit_valid, units_valid, sweep_valid}
use Rattle.colour_defs.proofs.ValidReports.{sweeps_valid}

same_weak : (w v : World) → IsValid w → v.weak ≡ w.weak → ((x : Name) → IsPresent w x → IsPresent v x) → KeepsWeak w v
same_weak w v ok e kept = record {
  slots = λ q. go q (weak_cell w q) refl;
  watched = λ x. (
    λ h. (let was = subst (λ (n : WeakNames). Has n.watched x) e h in (was, kept x (ok.presence.watched x was))),
    λ h. subst (λ (n : WeakNames). Has n.watched x) (sym e) h.0,
  );
}
  where
    go : (q : ℕ) → (o : Option Name) → weak_cell w q ≡ o → weak_cell v q ≡ if_present v (weak_cell w q)
    go q None at = ap (λ (n : WeakNames). slice_index_or n.slots q None) e ∙ (at ∙ sym (ap (if_present v) at))
    go q (Some x) at = ap (λ (n : WeakNames). slice_index_or n.slots q None) e
        ∙ (at ∙ sym (ap (if_present v) at ∙ ap (λ b. if b then Some x else None) (kept x (ok.presence.weak q x at))))

-- a world after another, in which no more is present
record Leaves (w v : World) : Type 0 where
  keeps : KeepsWeak w v
  fewer : (x : Name) → IsPresent v x → IsPresent w x

present_twice : (u v : World) → ((x : Name) → IsPresent v x → IsPresent u x) → (o : Option Name)
    → if_present v (if_present u o) ≡ if_present v o
present_twice u v fewer None = refl
present_twice u v fewer (Some x) = go (is_present u x) refl (is_present v x) refl
  where
    go : (b : Bool) → is_present u x ≡ b → (c : Bool) → is_present v x ≡ c
        → if_present v (if_present u (Some x)) ≡ if_present v (Some x)
    go true e c f = ap (λ t. if_present v (if t then Some x else None)) e
    go false e true f = absurd (let there = fewer x f in cc (there, e))
    go false e false f = ap (λ t. if_present v (if t then Some x else None)) e
        ∙ sym (ap (λ t. if t then Some x else None) f)

leaves_then : (w u v : World) → Leaves w u → Leaves u v → Leaves w v
leaves_then w u v a b = record {
  keeps = record {
    slots = λ q. b.keeps.slots q ∙ (ap (if_present v) (a.keeps.slots q) ∙ present_twice u v b.fewer (weak_cell w q));
    watched = λ x. (
      λ h. (let c = (b.keeps.watched x).0 h in let d = (a.keeps.watched x).0 c.0 in (d.0, c.1)),
      λ h. (b.keeps.watched x).1 ((a.keeps.watched x).1 (h.0, b.fewer x h.1), h.1),
    );
  };
  fewer = λ x p. a.fewer x (b.fewer x p);
}

same_names : (w v : World) → IsValid w → v.weak ≡ w.weak → v.places ≡ w.places → Leaves w v
same_names w v ok e at = record {
  keeps = same_weak w v ok e (λ x p. ap (λ m. map.contains_key m x) at ∙ p);
  fewer = λ x p. sym (ap (λ m. map.contains_key m x) at) ∙ p;
}

stays : (w v : World) → IsValid w → v ≡ w → Leaves w v
stays w v ok e = same_names w v ok (ap (λ (z : World). z.weak) e) (ap (λ (z : World). z.places) e)

report_leaves : (w : World) (r : Report) (v : World) → IsValid w → IsLawfulReport w r v → Leaves w v
report_leaves w Started v ok h =
    same_names w v ok (ap (λ (z : World). z.weak) h.1.world_is) (ap (λ (z : World). z.places) h.1.world_is)
report_leaves w (Groups groups) v ok h =
    same_names w v ok (ap (λ (z : World). z.weak) h.world_is) (ap (λ (z : World). z.places) h.world_is)
report_leaves w (Ended zones grays told) v ok h = record {
  keeps = record {
    slots = λ q. ap (λ (xs : List (Option Name)). slice_index_or xs q None) h.loses.slots_are
        ∙ get_or-map (if_present v) w.weak.slots q None;
    watched = h.loses.watched_are;
  };
  fewer = λ x p. sym (ap is_some (h.ends.stay x (λ white. let none = h.ends.gone x white in cc (p, ap is_some none))))
      ∙ p;
}
report_leaves w (Swept arena freed) v ok h =
    same_names w v ok (ap (λ (z : World). z.weak) h.world_is) (ap (λ (z : World). z.places) h.world_is)
report_leaves w Done v ok h =
    same_names w v ok (ap (λ (z : World). z.weak) h.world_is) (ap (λ (z : World). z.places) h.world_is)
report_leaves w (Stopped zones) v ok h = absurd h

unit_leaves : (w : World) (rs : List Report) (v : World) → IsValid w → IsLawfulUnit w rs v → Leaves w v
unit_leaves w rs v ok (quiet runs) = stays w w ok refl
unit_leaves w rs v ok (says {r} runs plain h more) = report_leaves w r v ok h
unit_leaves w rs v ok (last {r} {u} runs plain h d) =
    leaves_then w u v (report_leaves w r u ok h) (report_leaves u Done v (report_valid w r u ok h) d)

units_leaves : (w : World) (units : List (List Report)) (v : World) → IsValid w → AreLawfulUnits w units v → Leaves w v
units_leaves w [] v ok h = stays w v ok h
units_leaves w (unit ∷ units) v ok (u, first, rest) =
    leaves_then w u v (unit_leaves w unit u ok first) (units_leaves u units v (unit_valid w ok first) rest)

sweeps_leaves : (w : World) (rs : List Report) (v : World) → IsValid w → AreLawfulSweeps w rs v → Leaves w v
sweeps_leaves w [] v ok h = stays w v ok h
sweeps_leaves w (Swept arena freed ∷ rs) v ok (u, first, rest) =
    leaves_then w u v (report_leaves w (Swept arena freed) u ok first)
    (sweeps_leaves u rs v (sweep_valid w arena freed u ok first) rest)
sweeps_leaves w (Started ∷ rs) v ok h = absurd h
sweeps_leaves w (Groups groups ∷ rs) v ok h = absurd h
sweeps_leaves w (Ended zones grays told ∷ rs) v ok h = absurd h
sweeps_leaves w (Done ∷ rs) v ok h = absurd h
sweeps_leaves w (Stopped zones ∷ rs) v ok h = absurd h

last_leaves : (w : World) (r : Report) (v : World) → IsValid w → LastOfReset w r v → Leaves w v
last_leaves w Started v ok h = absurd h
last_leaves w (Groups groups) v ok h = absurd h
last_leaves w (Ended zones grays told) v ok h = absurd h
last_leaves w (Swept arena freed) v ok h = absurd h
last_leaves w Done v ok h = report_leaves w Done v ok h
last_leaves w (Stopped zones) v ok h =
    same_names w v ok (ap (λ (z : World). z.weak) h.world_is) (ap (λ (z : World). z.places) h.world_is)

reset_leaves : (w : World) (reports : List Report) (v : World) → IsValid w → Resets w reports v → Leaves w v
reset_leaves w reports v ok h = leaves_then w h.after v (sweeps_leaves w h.sweeps h.after ok h.swept)
    (last_leaves h.after h.final v (sweeps_valid w h.sweeps h.after ok h.swept) h.ends)

slice_leaves : (w : World) (reports : List Report) (n : ℕ) (v : World) → IsValid w → Slices w reports n v → Leaves w v
slice_leaves w reports n v ok s = leaves_then w s.after v (units_leaves w s.units s.after ok s.done)
    (same_names s.after v (units_valid w s.units s.after ok s.done) (ap (λ (z : World). z.weak) s.world_is)
    (ap (λ (z : World). z.places) s.world_is))

refused_leaves : (w : World) (zones : List ℕ) (reports : List Report) (answer : Reply) (v : World) → IsValid w
    → RefusesToBegin w zones reports answer v → Leaves w v
refused_leaves w zones reports answer v ok (inl h) = stays w v ok h.2.same
refused_leaves w zones reports answer v ok (inr h) = stays w v ok h.3.same

-- a command on the graph: nothing stops being present
accepts_keeps : (w v : World) (collection : Option Collection) (graph : GraphState) (p : Option Preparation)
    (first also : Option Name) → IsValid w → AcceptsIn p w collection graph first also v → KeepsWeak w v
accepts_keeps w v collection graph None None also ok a =
    (same_names w v ok (ap (λ (z : World). z.weak) a) (ap (λ (z : World). z.places) a)).keeps
accepts_keeps w v collection graph None (Some x) also ok a = same_weak w v ok a.0.weak_is (place_kept w graph x v a.0)
accepts_keeps w v collection graph (Some p) None None ok a =
    (same_names w v ok (ap (λ (z : World). z.weak) a) (ap (λ (z : World). z.places) a)).keeps
accepts_keeps w v collection graph (Some p) None (Some y) ok a =
    (same_names w v ok (ap (λ (z : World). z.weak) a.0) (ap (λ (z : World). z.places) a.0)).keeps
accepts_keeps w v collection graph (Some p) (Some x) also ok a =
    same_weak w v ok a.0.weak_is (place_kept w graph x v a.0)

command_keeps : (w v : World) (c : GraphCmd) (answer : Reply) → IsValid w → CommandInWorld w c answer v → KeepsWeak w v
command_keeps w v c answer ok h = go (refusal_in (step_of w.graph c).1) h.1
  where
    go : (o : Option Refusal)
        → AcceptsUnless o w (with_counts w.graph c w.collection) (step_of w.graph c).0 (woken_by w.graph c)
        (also_woken_by w.graph c) v → KeepsWeak w v
    go (Some why) same = (stays w v ok same).keeps
    go None a = accepts_keeps w v (with_counts w.graph c w.collection) (step_of w.graph c).0 w.preparing
        (woken_by w.graph c) (also_woken_by w.graph c) ok a

beginning_leaves : (w : World) (zones : List ℕ) (v : World) → IsValid w → Prepares w zones v → Leaves w v
beginning_leaves w zones v ok h =
    same_names w v ok (ap (λ (z : World). z.weak) h.world_is) (ap (λ (z : World). z.places) h.world_is)

pub line_keeps : (w : World) (c : Cmd) (reports : List Report) (answer : Reply) (v : World)
    → IsValid w → IsNoWeakCmd c → Answers w c reports answer v → KeepsWeak w v
line_keeps w (command.Graph c) reports answer v ok plain h = command_keeps w v c answer ok h.1
line_keeps w (command.Weak c) reports answer v ok plain h = absurd (plain c refl)
line_keeps w (command.Gc zones) reports answer v ok plain (inl h) =
    (beginning_leaves w (zones_in zones) v ok h.2).keeps
line_keeps w (command.Gc zones) reports answer v ok plain (inr h) =
    (refused_leaves w (zones_in zones) reports answer v ok h).keeps
line_keeps w (command.Slice n) reports answer v ok plain (inl h) = (slice_leaves w reports h.0 v ok h.2).keeps
line_keeps w (command.Slice n) reports answer v ok plain (inr h) = (stays w v ok h.2.same).keeps
line_keeps w command.Finish reports answer v ok plain (inl h) = (slice_leaves w reports h.0 v ok h.2).keeps
line_keeps w command.Finish reports answer v ok plain (inr h) = (stays w v ok h.2.same).keeps
line_keeps w (command.Collect zones) reports answer v ok plain (inl h) =
    (leaves_then w h.1.begun v (beginning_leaves w (zones_in zones) h.1.begun ok h.1.begins)
    (units_leaves h.1.begun h.1.units v (prepare_valid w (zones_in zones) h.1.begun ok h.1.begins)
    h.1.done)).keeps
line_keeps w (command.Collect zones) reports answer v ok plain (inr h) =
    (refused_leaves w (zones_in zones) reports answer v ok h).keeps
line_keeps w command.Reset reports answer v ok plain (inl h) = (reset_leaves w reports v ok h.1).keeps
line_keeps w command.Reset reports answer v ok plain (inr h) = (stays w v ok h.2.same).keeps
line_keeps w command.Colours reports answer v ok plain (inl h) = (stays w v ok h.4.same).keeps
line_keeps w command.Colours reports answer v ok plain (inr h) = (stays w v ok h.2.same).keeps
line_keeps w command.Dump reports answer v ok plain (inl h) = (stays w v ok h.4.same).keeps
line_keeps w command.Dump reports answer v ok plain (inr h) = (stays w v ok h.2.same).keeps
line_keeps w (command.Compact zone) reports answer v ok plain (inl h) =
    same_weak w v ok (ap (λ (z : World). z.weak) h.4.world_is)
    (λ x p. ((compact_tight w zone h.0 h.1 v h.4).present x).1 p)
line_keeps w (command.Compact zone) reports answer v ok plain (inr h) =
    (refused_leaves w (zone ∷ []) reports answer v ok h).keeps

-- a weak slot that is read leaves them as they are
pub deref_keeps : (w v : World) (collection : Option Collection) (graph : GraphState) (p : Option Preparation)
    (first : Option Name) → AcceptsIn p w collection graph first None v → v.weak ≡ w.weak
deref_keeps w v collection graph None None a = ap (λ (z : World). z.weak) a
deref_keeps w v collection graph None (Some x) a = a.0.weak_is
deref_keeps w v collection graph (Some p) None a = ap (λ (z : World). z.weak) a
deref_keeps w v collection graph (Some p) (Some x) a = a.0.weak_is
