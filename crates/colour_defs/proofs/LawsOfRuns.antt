-- The laws of every lawful world.
use Rattle.std.proofs.Common.{◌≡◌, inl, inr, ℕ, List, [], subst, Contains}
use Rattle.gz_names.specs.declared.names.Name.{Name}
use Rattle.colour_defs.specs.Graph.{IsInZones, GraphState}
use Rattle.colour_defs.specs.World.{World, Has, IsLeftOut, BlackClosure, LiveClosure, first_world}
use Rattle.gz_names.specs.declared.replies.Report.{Report}
use Rattle.gz_names.specs.declared.commands.Cmd.{Cmd}
use Rattle.gz_names.specs.declared.replies.Reply.{Reply}
use Rattle.colour_defs.specs.Lawful.{Run, EndsGroup, Finishes}
use Rattle.colour_defs.specs.Laws.{IsValid, RegistersAreBlack, ClosuresAreClosed, ClosuresAreClosedAtEnd}
use Rattle.colour_defs.specs.Laws.{GarbageGoesAtEnd, GarbageIsGone, ReachedIsInClosures, IsInRegister, IsRoot, IsClosed}
use Rattle.colour_defs.specs.Laws.{IsClosedWithin}
use Rattle.colour_defs.proofs.Carried.{black_closed, live_closed, black_in_live}
use Rattle.colour_defs.specs.Closure.{Closure, from, along, weak, delegate, ClosureWithin, within_start, within_edge}
use Rattle.colour_defs.specs.Closure.{within_value, within_key}
use Rattle.colour_defs.proofs.Lists.{nothing_in_none}
use Rattle.colour_defs.proofs.ValidEnds.{closed_at_end, gone_at_end, marks_end, runs_end}
use Rattle.colour_defs.proofs.Membership.{zone_in}
use Rattle.colour_defs.proofs.ValidReports.{no_marking}
use Rattle.colour_defs.proofs.ValidRuns.{run_valid, first_valid}

pub lawful_valid : (cs : List Cmd) (answers : List (List Report × Reply)) (w : World)
    → Run first_world cs answers w → IsValid w
lawful_valid cs answers w h = run_valid first_world cs answers w first_valid h

pub registers_black : (w : World) → IsValid w → RegistersAreBlack w
registers_black w ok = record {
  marking = λ k e some. (ok.marking k e some).registers;
  settled = λ s. (ok.settled s).closed.registers;
  preparing = λ p e r x h out. (ok.preparing p e).closed.registers r x h (ok.presence.registers r x h, out);
}

pub closures_closed : (w : World) → IsValid w → ClosuresAreClosed w
closures_closed w ok = record {
  black = λ k e some. black_closed w k (ok.marking k e some);
  live = λ k e some. live_closed w k (ok.marking k e some);
  settled = λ s. (ok.settled s).closed;
  preparing = λ p e. (ok.preparing p e).closed;
}

pub ends_gone : (w : World) (zones : List ℕ) (grays told : List Name) (v : World) → IsValid w
    → (h : EndsGroup w zones grays told v) → GarbageGoesAtEnd w h.collection zones v
ends_gone w zones grays told v ok h x here none = gone_at_end w v h.collection zones h.rest grays ok h.running h.first
    told h.ends h.loses x here none

no_zone : (g : GraphState) (zs : List ℕ) → zs ≡ [] → (x : Name) → IsInZones g zs x → ⊥
no_zone g zs e x h = let z = zone_in g zs x h in nothing_in_none z.0 (subst (λ l. Contains l z.0) e z.2)

pub done_gone : (w v : World) → IsValid w → (h : Finishes w v) → GarbageIsGone w h.over.collection
done_gone w v ok h x none p =
    let k = h.over.collection in
    let empty = no_marking w h.over.collection (ok.groups h.over.collection [] h.over.running h.over.ended) in
    (ok.running h.over.collection h.over.running).others x p (λ e. no_zone w.graph h.over.collection.marking empty x e)
    none

in_closed : (g : GraphState) (start P : Name → Type 0) → ((x : Name) → start x → P x) → IsClosed g P → {x : Name}
    → Closure g start x → P x
in_closed g start P h c (from s) = h _ s
in_closed g start P h c (along r d) = c.edges _ _ (in_closed g start P h c r) d
in_closed g start P h c (weak at m k) = c.entries _ _ _ at (in_closed g start P h c m) (in_closed g start P h c k)
in_closed g start P h c (delegate at m t) =
    c.delegates _ _ _ _ at (in_closed g start P h c m) (in_closed g start P h c t)

in_closed_within : (g : GraphState) (In start P : Name → Type 0) → ((x : Name) → start x → In x → P x)
    → IsClosedWithin g In P → {x : Name} → ClosureWithin g In start x → P x
in_closed_within g In start P h c (within_start s i) = h _ s i
in_closed_within g In start P h c (within_edge r d i) = c.edges _ _ (in_closed_within g In start P h c r) d i
in_closed_within g In start P h c (within_value at m k i) =
    c.entries _ _ _ at (in_closed_within g In start P h c m) (in_closed_within g In start P h c k) i
in_closed_within g In start P h c (within_key at m t i) = c.delegates _ _ _ _ at (in_closed_within g In start P h c m)
    (in_closed_within g In start P h c t) i

pub ends_closed : (w : World) (zones : List ℕ) (grays told : List Name) (v : World) → IsValid w
    → (h : EndsGroup w zones grays told v) → ClosuresAreClosedAtEnd h.collection v
ends_closed w zones grays told v ok h =
    let c = closed_at_end w v h.collection zones h.rest grays ok h.running h.first told h.ends h.loses in
    let m = marks_end w v h.collection zones h.rest grays ok h.running h.first told h.ends h.loses in
    let r = runs_end w v h.collection zones h.rest grays ok h.running h.first told h.ends h.loses in
    record {
      black = c.0;
      live = c.1;
      reached_black = λ x q. in_closed v.graph (IsInRegister v) (BlackClosure h.collection)
          (λ y s. m.registers s.0 y s.1) c.0 q;
      reached_live = λ x q. in_closed v.graph (IsRoot v h.collection) (LiveClosure h.collection) (λ y s. elim s [
        | inl a ↦ c.1.registers a.0 y a.1
        | inr o ↦ elim o [ inl a ↦ m.slots a.0 y a.1 | inr a ↦ r.outside y a.0 a.1 ]
      ]) c.1 q;
    }

pub reached_now : (w : World) → IsValid w → ReachedIsInClosures w
reached_now w ok = record {
  black = λ k e some x r. let m = ok.marking k e some in
      in_closed w.graph (IsInRegister w) (BlackClosure k) (λ y h. m.registers h.0 y h.1) (black_closed w k m) r;
  live = λ k e some x r. let m = ok.marking k e some in in_closed w.graph (IsRoot w k) (LiveClosure k) (λ y s. elim s [
    | inl h ↦ black_in_live w k m y (m.registers h.0 y h.1)
    | inr o ↦ elim o [ inl h ↦ m.slots h.0 y h.1 | inr h ↦ (ok.running k e).outside y h.0 h.1 ]
  ]) (live_closed w k m) r;
  settled = λ s x r. let t = ok.settled s in
      in_closed w.graph (IsInRegister w) (Has w.black) (λ y h. t.closed.registers h.0 y h.1) t.closed r;
  preparing = λ p e x r. let t = ok.preparing p e in
      in_closed_within w.graph (IsLeftOut w p) (IsInRegister w) (Has w.black) (λ y h i. t.closed.registers h.0 y h.1 i)
      t.closed r;
}
