-- As marking begins, the judge stands for a world in which it has begun lawfully.
use Rattle.std.proofs.Common.{◌≡◌, ◌⊎◌, ◌↔◌, inl, inr, Some, None, Contains, refl, subst, sym}
use Rattle.std.specs.FinSet as set
use Rattle.gz_names.specs.Zones.{zones_in}
use Rattle.gz_names.specs.declared.names.Name.{Name}
use Rattle.colour_defs.specs.Graph.{IsInZones}
use Rattle.colour_defs.specs.Laws.{IsValidPreparing}
use Rattle.colour_defs.specs.Lawful.{Begins}
use Rattle.colour_defs.specs.World.{Collection, Has, IsPresent, World, first_tally}
use Rattle.judge.specs.Represents.{IsPrepared, Represents, IsAtStage}
use Rattle.judge.specs.Stages.{Shown, Starts, Stage}
use Rattle.judge.proofs.NameSets.{set_has, set_of}
use Rattle.judge.specs.Positions.{StandsIn}
use Rattle.judge.proofs.Starting.{counted_first, represents_start}
use Rattle.judge.proofs.StandsFor.{cell_of, of_register, of_slot, present_of}
use Rattle.judge.proofs.StandsFor.{register_of, slot_of}

module _ (s t : Shown) (w : World) (f : StandsIn w.graph s w) (st : Starts w.graph s t) where
  pub prepared : IsPrepared s st.zones w
  prepared = subst (λ (u : Stage). IsAtStage u s w) st.was f.represents.stage_is

  abbrev pub begun : Collection
  begun = record {
    zones = zones_in st.zones;
    marking = zones_in st.zones;
    snapshot = w.graph;
    black_starts = set_of st.started.begun.black;
    live_starts = set_of st.started.begun.live;
    woken = set.empty;
    groups = None;
    tally = first_tally w prepared.preparation;
  }

  abbrev pub started_world : World
  started_world = record w { preparing = None; collection = Some begun }

  ready : IsValidPreparing w prepared.preparation
  ready = f.laws.valid.preparing prepared.preparation prepared.preparing_is

  outside : (x : Name) → Has w.black x → IsInZones w.graph (zones_in st.zones) x → ⊥
  outside x b i = (ready.left_out x b).1 (subst (λ zs. IsInZones w.graph zs x) (sym prepared.zones_are) i)

  black_starts : (x : Name) → Has begun.black_starts x ↔ (Contains w.graph.registers (Some x) ⊎ Has w.black x)
  black_starts x = (
    λ h. elim ((st.started.begun.black_are x).0 ((set_has st.started.begun.black x).0 h)) [
      | inl r ↦ inl (of_register w.graph x r)
      | inr b ↦ inr ((prepared.black_are x).1 b.1.1)
    ],
    λ h. (set_has st.started.begun.black x).1 ((st.started.begun.black_are x).1 (elim h [
      | inl c ↦ inl (register_of w.graph f.laws.registers x c)
      | inr b ↦ inr (cell_of s w f.represents x (ready.left_out x b).0, (outside x b, (prepared.black_are x).0 b))
    ])),
  )

  live_starts : (x : Name) → Has begun.live_starts x
      ↔ (Has begun.black_starts x ⊎ (Contains w.graph.slots (Some x)
      ⊎ (IsPresent w x × (IsInZones w.graph (zones_in st.zones) x → ⊥))))
  live_starts x = (
    λ h. elim ((st.started.begun.live_are x).0 ((set_has st.started.begun.live x).0 h)) [
      | inl held ↦ elim held [
        | inl r ↦ inl ((black_starts x).1 (inl (of_register w.graph x r)))
        | inr q ↦ inr (inl (of_slot w.graph x q))
      ]
      | inr out ↦ inr (inr (present_of s w f.represents x out.0, out.1))
    ],
    λ h. (set_has st.started.begun.live x).1 ((st.started.begun.live_are x).1 (elim h [
      | inl b ↦ elim ((black_starts x).0 b) [
        | inl c ↦ inl (inl (register_of w.graph f.laws.registers x c))
        | inr d ↦ inr (cell_of s w f.represents x (ready.left_out x d).0, outside x d)
      ]
      | inr o ↦ elim o [
        | inl c ↦ inl (inr (slot_of w.graph f.laws.slots x c))
        | inr p ↦ inr (cell_of s w f.represents x p.0, p.1)
      ]
    ])),
  )

  pub started_lawful : Begins w (zones_in st.zones) started_world
  started_lawful = record {
    preparation = prepared.preparation;
    was = prepared.preparing_is;
    of_zones = prepared.zones_are;
    collection = begun;
    world_is = refl;
    zones_are = refl;
    marking_are = refl;
    snapshot_is = refl;
    woken_is = refl;
    groups_are = refl;
    tally_is = refl;
    black_starts = black_starts;
    live_starts = live_starts;
  }

  pub started_represents : Represents w.graph t started_world
  started_represents = represents_start s t w started_world (zones_in st.zones) f st started_lawful

  pub tally_now : t.tally ≡ first_tally w prepared.preparation
  unfolding prepared started_lawful
  tally_now = counted_first s t w started_world (zones_in st.zones) f st started_lawful
