-- What holds of what is shown, behind lines that are judged: the former graph is the graph as it stood when marking
-- began, and the walks have found in it what their starts reach.
use Rattle.std.specs.Prelude.{◌≡◌, true, false, List, Some}
use Rattle.gz_names.specs.declared.names.Name.{Name}
use Rattle.gz_names.specs.declared.zone_sets.ZoneSet.{ZoneSet}
use Rattle.colour_defs.specs.Graph.{GraphState}
use Rattle.plain_graph.specs.Reach.{Follows, WalkState}
use Rattle.judge.specs.Former.{IsFormer, Releases}
use Rattle.judge.specs.Stages.{HasGroups, Shown, idle, preparing, stage_of}
use Rattle.judge.specs.Walks.{Walks, walks_of}
use Rattle.judge.specs.declared.world.World.{World}

-- a walk over what some names reach
pub record IsWalked (g : GraphState) (w : WalkState) : Type 0 where
  pub starts : List Name
  pub follows : Follows g starts w

-- what was found in the former graph, which stays as it is
pub record AreFollowed (s : Shown) (w : Walks) : Type 0 where
  pub kept : s.former.is_kept ≡ true
  pub black : IsWalked s.former.graph w.black
  pub live : IsWalked s.former.graph w.live

pub record IsSound (g : GraphState) (s : Shown) : Type 0 where
  pub former : IsFormer s.former g
  pub none_kept : s.stage ≡ idle → s.former.is_kept ≡ false
  pub none_yet : (zones : ZoneSet) → s.stage ≡ preparing zones → s.former.is_kept ≡ false
  pub walks : (w : Walks) → s.walks ≡ Some w → HasGroups s.stage → AreFollowed s w

-- what was found is kept while groups are left. After that what was found black is black, and the former graph takes
-- the commands that it has not taken
pub record Settles (old new : World) : Type 0 where
  pub left : HasGroups (stage_of new.phase) → (walks_of new.phase ≡ walks_of old.phase) × (new.former ≡ old.former)
      × (new.black ≡ old.black)
  pub over : (HasGroups (stage_of new.phase) → ⊥) → Releases old.former new.former
      × ((w : Walks) → walks_of old.phase ≡ Some w → new.black ≡ w.black)
