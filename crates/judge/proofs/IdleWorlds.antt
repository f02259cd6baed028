-- A collection begins, and a zone is compacted: there is a world after each, for which the judge stands.
use Rattle.std.proofs.Common.{◌≡◌, ◌↔◌, ◌∙◌, ◌<◌, ◌^◌, ℕ, Bool, true, false, not, [], Some}
use Rattle.std.proofs.Common.{arith, None, ap, refl, subst, sym}
use Rattle.std.specs.FinSet as set
use Rattle.gz_names.specs.Zones.{zones_in}
use Rattle.gz_names.specs.declared.names.Name.{Name}
use Rattle.gz_names.specs.declared.zone_sets.ZoneSet.{ZoneSet}
use Rattle.colour_defs.specs.Compaction.{Compacts}
use Rattle.colour_defs.specs.Graph.{GraphState, IsInZones, is_in_zones}
use Rattle.colour_defs.specs.Laws.{IsValid}
use Rattle.colour_defs.specs.Lawful.{Prepares}
use Rattle.colour_defs.specs.World.{Has, Names, World, first_preparation}
use Rattle.colour_defs.proofs.Lists.{both_of, first_of_both, second_of_both}
use Rattle.colour_defs.proofs.Names.{names_apart}
use Rattle.colour_defs.proofs.ZoneSets.{zones_in-has}
use Rattle.judge.specs.Bounds.{arena_count, with_arenas}
use Rattle.judge.specs.Compaction.{Packs}
use Rattle.judge.specs.Represents.{Represents}
use Rattle.judge.specs.Replies.{AreMade}
use Rattle.judge.specs.Stages.{Shown, idle, preparing}
use Rattle.judge.specs.Starts.{LeavesOut}
use Rattle.judge.proofs.Beginning.{represents_begin}
use Rattle.judge.proofs.Compacting.{represents_packed}
use Rattle.judge.proofs.Settling.{no_bits}
use Rattle.judge.proofs.Standing.{at_rest, idle_lies}

module _ (g : GraphState) (zones : ZoneSet) (old new : Shown) (w : World) (r : Represents g old w) (ok : IsValid w)
    (some : 0 < zones.bits) (small : zones.bits < 2 ^ 64) (idle_is : old.stage ≡ idle) (made : AreMade g zones)
    (leaves : LeavesOut g (zones_in zones) old.cells old.black.names new.left_out)
    (new_is : new ≡ record old {
      stage = preparing zones;
      left_out = new.left_out;
      walks = None;
      tally = with_arenas (arena_count (zones_in zones) old.owners);
    }) where
  abbrev left : Names
  left = set.retain w.black (λ x. not (is_in_zones w.graph (zones_in zones) x))

  abbrev begun : World
  begun = record w {
    black = set.retain w.black (λ x. not (is_in_zones w.graph (zones_in zones) x));
    preparing = Some (first_preparation w (zones_in zones));
  }

  not_in : (b : Bool) → not b ≡ true → b ≡ true → ⊥
  not_in true n e = cc n
  not_in false n e = cc e

  of_not : (b : Bool) → (b ≡ true → ⊥) → not b ≡ true
  of_not true n = absurd (n refl)
  of_not false n = refl

  left_has : (x : Name) → Has left x ↔ (Has w.black x × (IsInZones w.graph (zones_in zones) x → ⊥))
  left_has x =
      let is = set.contains-retain w.black (λ x. not (is_in_zones w.graph (zones_in zones) x)) x
      (λ y tie. ap (λ x. not (is_in_zones w.graph (zones_in zones) x)) (sym (names_apart x y tie))) in (
        λ h. let both = sym is ∙ h in (
          first_of_both (set.contains w.black x) (not (is_in_zones w.graph (zones_in zones) x)) both,
          not_in (is_in_zones w.graph (zones_in zones) x)
              (second_of_both (set.contains w.black x) (not (is_in_zones w.graph (zones_in zones) x)) both),
        ),
        λ h. is ∙ both_of (set.contains w.black x) (not (is_in_zones w.graph (zones_in zones) x)) h.0
            (of_not (is_in_zones w.graph (zones_in zones) x) h.1),
      )

  full : zones_in zones ≡ [] → ⊥
  full e = let none = no_bits zones small e in omega (arith, some, none)

  lawful : Prepares w (zones_in zones) begun
  lawful = record {
    idle = (at_rest r idle_is).idle;
    made = λ z c. subst (λ h. z < h.zones) (sym r.graph_is) (made z ((zones_in-has zones z).0 c));
    some = full;
    world_is = refl;
    black_are = left_has;
  }

  pub preparing_begun : (v : World) × Prepares w (zones_in zones) v × Represents g new v
  preparing_begun =
      (begun, lawful, represents_begin g zones old new w begun r ok small idle_is leaves new_is lawful)

-- a zone is compacted
module _ (g : GraphState) (zone : ℕ) (old new : Shown) (moved given_up : ℕ) (w : World) (r : Represents g old w)
    (idle_is : old.stage ≡ idle) (packs : Packs g zone old moved given_up new) where
  pub compacted : (v : World) × Compacts w zone moved given_up v × Represents g new v
  compacted = let p = packs.lawful w (idle_lies r idle_is) in
      (p.0, p.1, represents_packed g zone moved given_up moved given_up old new w p.0 r idle_is packs p.1)
