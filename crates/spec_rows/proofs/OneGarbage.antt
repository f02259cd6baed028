-- A collection of zone 0 in which cell 0 is all that was made, and nothing holds it: the units that free it. What is
-- named weakly before and after is kept open, and so is how many arenas were counted as the zone was prepared.
use Rattle.std.proofs.Common.{◌≡◌, ℕ, ◌+◌, inl, inr, List, [], ◌∷◌, true, refl, sym, ap, subst, ◌∙◌, Some}
use Rattle.std.proofs.Common.{None, is_some}
use Rattle.std.specs.FinSet as set
use Rattle.std.specs.FinMap as map
use Rattle.gz_names.specs.declared.names.Name.{Name}
use Rattle.gz_names.specs.declared.names.Name.TheVariants.{Cell}
use Rattle.gz_names.specs.declared.commands.GraphCmd.TheVariants as cmd
use Rattle.colour_defs.specs.Graph.{GraphState, IsInZones}
use Rattle.colour_defs.specs.Step.{step_of}
use Rattle.colour_defs.specs.World.{World, WeakNames, Preparation, Collection, IsPresent}
use Rattle.colour_defs.specs.World.{LiveClosure, first_tally}
use Rattle.colour_defs.specs.Ends.{IsLawfulEnd, IsWhiteOf}
use Rattle.colour_defs.specs.WeakRefs.{LosesWeak}
use Rattle.colour_defs.specs.Lawful.{Begins, AreLawfulUnits}
use Rattle.spec_rows.specs.Rows.{comp_0}
use Rattle.colour_defs.proofs.Lists.{nothing_in_none, no_name_in_nulls}
use Rattle.colour_defs.proofs.Membership.{white_of}
use Rattle.colour_defs.proofs.Finite.{no_name}
use Rattle.spec_rows.proofs.Places.{Places, places_empty, places_insert, reached_within, place_named, single}
use Rattle.spec_rows.proofs.OneWhite.{one_gone, others_stay, one_white, sweep_of_one}
use Rattle.spec_rows.proofs.OneZone.{grouped, forms_one_group, one_zone_units, one_zone_lawful}
use Rattle.spec_rows.proofs.LinkedAndDropped.{w2}

-- the graph in which the cell was made and dropped
abbrev pub made_graph : GraphState
made_graph = (step_of w2.graph (cmd.New 0 comp_0 0)).0

abbrev pub dropped_graph : GraphState
dropped_graph = (step_of made_graph (cmd.Drop 0)).0

pub one_place : Places (map.insert map.empty (Cell 0) (0, 0)) ((Cell 0, (0, 0)) ∷ [])
one_place = places_insert map.empty [] (Cell 0) (0, 0) places_empty

module _ (arenas : ℕ) (kept left : WeakNames) (told : List Name) where
  abbrev preparation : Preparation
  preparation = record { zones = 0 ∷ []; arenas = arenas; spent = 0 }

  -- the world before the collection, but for its black names
  abbrev before : World
  before = record w2 {
    graph = dropped_graph;
    places = map.insert map.empty (Cell 0) (0, 0);
    owner = Some 0 ∷ [];
    weak = kept;
    black = set.empty;
  }

  abbrev pub garbage_prepared : World
  garbage_prepared = record before { preparing = Some preparation }

  abbrev k0 : Collection
  k0 = record {
    zones = 0 ∷ [];
    marking = 0 ∷ [];
    snapshot = dropped_graph;
    black_starts = set.empty;
    live_starts = set.empty;
    woken = set.empty;
    groups = None;
    tally = first_tally garbage_prepared preparation;
  }

  abbrev k1 : Collection
  k1 = grouped k0

  abbrev k2 : Collection
  k2 = record k1 { marking = []; groups = Some [] }

  abbrev k3 : Collection
  k3 = record k2 { tally = record k2.tally { sweeps = k2.tally.sweeps + 1 } }

  abbrev pub garbage_begun : World
  garbage_begun = record before { collection = Some k0 }

  abbrev pub garbage_grouped : World
  garbage_grouped = record before { collection = Some k1 }

  abbrev pub garbage_ended : World
  garbage_ended = record before {
    places = map.remove (map.insert map.empty (Cell 0) (0, 0)) (Cell 0);
    out = 0 ∷ [];
    white = (Cell 0, (0, 0)) ∷ [];
    weak = left;
    collection = Some k2;
  }

  abbrev v3 : World
  v3 = record garbage_ended { out = []; white = []; collection = Some k3 }

  abbrev pub garbage_freed : World
  garbage_freed = record v3 { collection = None }

  present : (x : Name) → IsPresent before x → Cell 0 ≡ x
  present x h = single (Cell 0) x (place_named ((Cell 0, (0, 0)) ∷ []) x (sym (ap is_some (one_place x)) ∙ h))

  in_zone : (x : Name) → Cell 0 ≡ x → IsInZones dropped_graph (0 ∷ []) x
  in_zone x e = subst (λ z. IsInZones dropped_graph (0 ∷ []) z) e refl

  pub garbage_begins : Begins garbage_prepared (0 ∷ []) garbage_begun
  garbage_begins = record {
    preparation = preparation;
    was = refl;
    of_zones = refl;
    collection = k0;
    world_is = refl;
    zones_are = refl;
    marking_are = refl;
    snapshot_is = refl;
    woken_is = refl;
    groups_are = refl;
    tally_is = refl;
    black_starts = λ x. (
      (λ h. absurd (no_name x h)),
      λ h. elim h [ inl c ↦ absurd (no_name_in_nulls 16 x c) | inr b ↦ absurd (no_name x b) ],
    );
    live_starts = λ x. (
      (λ h. absurd (no_name x h)),
      λ h. elim h [
        | inl b ↦ b
        | inr o
            ↦ elim o [ inl s ↦ absurd (no_name_in_nulls 64 x s) | inr p ↦ absurd (p.1 (in_zone x (present x p.0))) ]
      ],
    );
  }

  none_live : (x : Name) → LiveClosure k1 x → ⊥
  none_live x h = nothing_in_none x
      (reached_within dropped_graph _ [] (λ y s. elim s [ inl a ↦ absurd (no_name y a) | inr t ↦ absurd (no_name y t) ])
      (λ y z c d. absurd (nothing_in_none y c)) (λ m q v at hm hq. absurd (cc at)) (λ m v c t at hm ht. absurd (cc at))
      h)

  white0 : IsWhiteOf garbage_grouped k1 (0 ∷ []) (Cell 0)
  white0 = white_of garbage_grouped k1 (0 ∷ []) (Cell 0) (ap is_some (one_place (Cell 0))) refl (none_live (Cell 0))
      (none_live (Cell 0))

  white_only : (x : Name) → IsWhiteOf garbage_grouped k1 (0 ∷ []) x → Cell 0 ≡ x
  white_only x h = present x h.present

  ends : IsLawfulEnd garbage_grouped k1 (0 ∷ []) [] [] garbage_ended
  ends = record {
    ready = refl;
    grays_are = record {
      ascending = tt;
      has = λ x. ((λ c. absurd (nothing_in_none x c)), λ g. absurd (none_live x g.gray.live));
    };
    graph_is = refl;
    owner_is = refl;
    gone = one_gone garbage_grouped k1 (0 ∷ []) (Cell 0) (0, 0) (one_place (Cell 0)) white0 white_only;
    stay = others_stay garbage_grouped k1 (0 ∷ []) (Cell 0) (0, 0) (one_place (Cell 0)) white0 white_only;
    white_are = one_white garbage_grouped k1 (0 ∷ []) (Cell 0) (0, 0) (one_place (Cell 0)) white0 white_only;
    out_is = refl;
    preparing_is = refl;
    collection_is = refl;
    black_are = λ s x. ((λ h. absurd (no_name x h)), λ h. absurd (none_live x h.0));
  }

  -- no one is present from the end on
  pub garbage_gone : (x : Name) → IsPresent garbage_ended x → ⊥
  garbage_gone x h =
      let was : IsPresent before x = subst (λ b. b ≡ true) (ap is_some (kept_place x h)) h in
      let e : Cell 0 ≡ x = present x was in
      let none : map.get garbage_ended.places x ≡ None =
      one_gone garbage_grouped k1 (0 ∷ []) (Cell 0) (0, 0) (one_place (Cell 0)) white0 white_only x
      (subst (λ z. IsWhiteOf garbage_grouped k1 (0 ∷ []) z) e white0) in
      cc (h, ap is_some none)
    where
      kept_place : (x : Name) → IsPresent garbage_ended x → map.get garbage_ended.places x ≡ map.get before.places x
      kept_place x h = others_stay garbage_grouped k1 (0 ∷ []) (Cell 0) (0, 0) (one_place (Cell 0)) white0 white_only x
          (λ white. cc (
            h,
            ap is_some
                (one_gone garbage_grouped k1 (0 ∷ []) (Cell 0) (0, 0) (one_place (Cell 0)) white0 white_only x white),
          ))

  pub garbage_units : LosesWeak garbage_grouped told garbage_ended
      → AreLawfulUnits garbage_begun (one_zone_units [] told (Cell 0 ∷ [])) garbage_freed
  garbage_units loses = one_zone_lawful garbage_begun garbage_grouped garbage_ended v3 garbage_freed [] told
      (Cell 0 ∷ []) (forms_one_group garbage_begun k0 refl refl refl)
      (record { collection = k1; rest = []; running = refl; first = refl; ends = ends; loses = loses })
      (sweep_of_one garbage_ended (Cell 0) 0 refl refl)
      (record { over = record { collection = k3; running = refl; ended = refl; none_out = refl }; world_is = refl })
