-- Whether a collection runs, and whether it is over: the judge's stage says so just where the world does.
use Rattle.std.proofs.Common.{◌≡◌, ◌≢◌, ◌∙◌, inl, inr, ℕ, List, [], ◌∷◌, map, Some, None, refl, sym, ap, subst}
use Rattle.gz_names.specs.Zones.{zones_in}
use Rattle.gz_names.specs.declared.zone_sets.ZoneSet.{ZoneSet}
use Rattle.colour_defs.specs.Graph.{GraphState}
use Rattle.colour_defs.specs.Lawful.{IsOver as IsOverIn, IsRunning}
use Rattle.colour_defs.specs.World.{Collection, IsIdle, World}
use Rattle.colour_defs.proofs.ZoneSets.{zones_in-has}
use Rattle.judge.specs.Replies.{AreMade}
use Rattle.judge.specs.Represents.{IsAtStage, Represents}
use Rattle.judge.specs.Stages.{IsOver, Shown, Stage, collecting, idle, preparing}
use Rattle.std.specs.Prelude.{Contains, ◌<◌}

no_groups_left : (groups : List ZoneSet) → Some (map zones_in groups) ≡ Some [] → groups ≡ []
no_groups_left [] e = refl
no_groups_left (g ∷ gs) e = absurd (cc e)

over_at : (s : Shown) (w : World) (t : Stage) → s.stage ≡ t → IsAtStage t s w → s.out ≡ [] → (k : Collection)
    → w.collection ≡ Some k → k.groups ≡ Some [] → IsOver s
over_at s w idle e at none k is ended = absurd (cc (is, at.idle.none_running))
over_at s w (preparing zones) e at none k is ended = absurd (cc (is, at.alone))
over_at s w (collecting zones marking None) e at none k is ended =
    absurd (let same : at.collection ≡ k = cc (is, at.collection_is) in
    let has = ap (λ (c : Collection). c.groups) same in cc (has, at.groups_are, ended))
over_at s w (collecting zones marking (Some groups)) e at none k is ended =
    let same : at.collection ≡ k = cc (is, at.collection_is) in
    let gone = no_groups_left groups (sym at.groups_are ∙ ap (λ (c : Collection). c.groups) same ∙ ended) in record {
      zones = zones;
      marking = marking;
      ended = e ∙ ap (λ gs. collecting zones marking (Some gs)) gone;
      none_out = none;
    }

idle_at : (s : Shown) (w : World) (t : Stage) → IsAtStage t s w → IsIdle w → t ≡ idle
idle_at s w idle at rest = refl
idle_at s w (preparing zones) at rest = absurd (cc (at.preparing_is, rest.none_preparing))
idle_at s w (collecting zones marking groups) at rest = absurd (cc (at.collection_is, rest.none_running))

runs_at : (s : Shown) (w : World) (t : Stage) → IsAtStage t s w → (t ≡ idle → ⊥) → IsRunning w
runs_at s w idle at other = absurd (other refl)
runs_at s w (preparing zones) at other = inr (at.preparation, at.preparing_is)
runs_at s w (collecting zones marking groups) at other = inl (at.collection, at.collection_is)

rests_at : (s : Shown) (w : World) (t : Stage) → IsAtStage t s w → t ≡ idle → IsIdle w
rests_at s w idle at e = at.idle
rests_at s w (preparing zones) at e = absurd (cc e)
rests_at s w (collecting zones marking groups) at e = absurd (cc e)

pub never_both : (w : World) → IsRunning w → IsIdle w → ⊥
never_both w (inl k) rest = cc (k.1, rest.none_running)
never_both w (inr p) rest = cc (p.1, rest.none_preparing)

module _ {g : GraphState} {s : Shown} {w : World} (stands : Represents g s w) where
  pub over_shown : IsOverIn w → IsOver s
  over_shown over = over_at s w s.stage refl stands.stage_is (sym stands.out_are ∙ over.none_out) over.collection
      over.running over.ended

  pub over_world : IsOver s → IsOverIn w
  over_world over =
      let at = subst (λ t. IsAtStage t s w) over.ended stands.stage_is in record {
        collection = at.collection;
        running = at.collection_is;
        ended = at.groups_are;
        none_out = stands.out_are ∙ over.none_out;
      }

  pub idle_shown : IsIdle w → s.stage ≡ idle
  idle_shown rest = idle_at s w s.stage stands.stage_is rest

  pub idle_world : s.stage ≡ idle → IsIdle w
  idle_world e = rests_at s w s.stage stands.stage_is e

  pub running_world : s.stage ≢ idle → IsRunning w
  running_world other = runs_at s w s.stage stands.stage_is other

  pub running_shown : IsRunning w → s.stage ≢ idle
  running_shown runs e = never_both w runs (idle_world e)

  -- the zones of a set are made
  pub made_world : (zones : ZoneSet) → AreMade g zones
      → (z : ℕ) → Contains (zones_in zones) z → z < w.graph.zones
  made_world zones made z c = subst (λ a. z < a.zones) (sym stands.graph_is) (made z ((zones_in-has zones z).0 c))

  pub made_shown : (zones : ZoneSet) → ((z : ℕ) → Contains (zones_in zones) z → z < w.graph.zones) → AreMade g zones
  made_shown zones made z h = subst (λ a. z < a.zones) stands.graph_is (made z ((zones_in-has zones z).1 h))
