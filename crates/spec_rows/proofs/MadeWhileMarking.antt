-- Made and dropped while marking: the answers are lawful.
use Rattle.std.proofs.Common.{◌≡◌, ◌+◌, ◌≤◌, inl, inr, [], ◌∷◌, refl, sym, ap, subst, ◌∙◌, arith}
use Rattle.std.proofs.Common.{Some, None, is_some}
use Rattle.std.specs.FinSet as set
use Rattle.std.specs.FinMap as map
use Rattle.gz_names.specs.declared.names.Name.{Name}
use Rattle.gz_names.specs.declared.names.Name.TheVariants.{Cell, Wrap}
use Rattle.gz_names.specs.declared.commands.GraphCmd.TheVariants as cmd
use Rattle.gz_names.specs.declared.commands.Cmd.TheVariants.{Graph, Gc, Slice, Finish, Collect}
use Rattle.gz_names.specs.declared.replies.Reply.TheVariants as reply
use Rattle.gz_names.specs.declared.replies.Report.TheVariants.{Started, Groups, Ended, Swept, Done}
use Rattle.colour_defs.specs.Graph.{IsInZones}
use Rattle.colour_defs.specs.Closure.{HasEdge, from}
use Rattle.colour_defs.specs.Step.{step_of}
use Rattle.colour_defs.specs.Units.{unit_limit}
use Rattle.colour_defs.specs.World.{World, Collection, first_preparation, Has, IsPresent, BlackClosure, LiveClosure}
use Rattle.colour_defs.specs.World.{first_tally, no_weak_names}
use Rattle.colour_defs.specs.Ends.{IsLawfulEnd, IsWhiteOf}
use Rattle.colour_defs.specs.Lawful.{Answers, Prepares, Begins, IsLawfulOutput}
use Rattle.spec_rows.specs.Rows.{comp_0, only_zone_0, made_while_marking, answers_made_while_marking}
use Rattle.colour_defs.proofs.Lists.{nothing_in_none, no_name_in_nulls}
use Rattle.colour_defs.proofs.ZoneSets.{zones_in-first}
use Rattle.colour_defs.proofs.ValidCommands.{insert_has}
use Rattle.colour_defs.proofs.ValidRuns.{no_one, no_black}
use Rattle.colour_defs.proofs.Finite.{Members, members_empty, members_insert, no_name}
use Rattle.spec_rows.proofs.Places.{Places, places_empty, places_insert, reached_within, place_named, single}
use Rattle.spec_rows.proofs.Making.{room_first}
use Rattle.spec_rows.proofs.Beginnings.{begins_unit}
use Rattle.colour_defs.proofs.NothingWeak.{loses_nothing}
use Rattle.spec_rows.proofs.OneZone.{prepared, prepares_one, grouped, forms_one_group, one_zone_units}
use Rattle.spec_rows.proofs.OneZone.{one_zone_lawful, units_collect, sweep_of_nothing}
use Rattle.spec_rows.proofs.OneGarbage.{garbage_begun, garbage_freed, garbage_begins, garbage_units}
use Rattle.spec_rows.proofs.LinkedAndDropped.{w1, w2, a1, a2}

abbrev k0 : Collection
k0 = record {
  zones = 0 ∷ [];
  marking = 0 ∷ [];
  snapshot = w2.graph;
  black_starts = set.empty;
  live_starts = set.empty;
  woken = set.empty;
  groups = None;
  tally = first_tally (prepared w2) (first_preparation w2 (0 ∷ []));
}

abbrev u0 : World
u0 = record w2 { black = set.empty; collection = Some k0 }

begins : Begins (prepared w2) (0 ∷ []) u0
begins = record {
  preparation = first_preparation w2 (0 ∷ []);
  was = refl;
  of_zones = refl;
  collection = k0;
  world_is = refl;
  zones_are = refl;
  marking_are = refl;
  snapshot_is = refl;
  woken_is = refl;
  groups_are = refl;
  tally_is = refl;
  black_starts = λ x. (
    (λ h. absurd (no_name x h)),
    λ h. elim h [ inl c ↦ absurd (no_name_in_nulls 16 x c) | inr b ↦ absurd (no_name x b) ],
  );
  live_starts = λ x. (
    (λ h. absurd (no_name x h)),
    λ h. elim h [
      | inl b ↦ b
      | inr o
          ↦ elim o [ inl s ↦ absurd (no_name_in_nulls 64 x s) | inr p ↦ absurd (no_one x p.0) ]
    ],
  );
}

abbrev begun_again : World
begun_again = garbage_begun 1 no_weak_names no_weak_names []

abbrev freed : World
freed = garbage_freed 1 no_weak_names no_weak_names []

-- the rest of the run
abbrev k1 : Collection
k1 = record k0 { tally = record k0.tally { spent = k0.tally.spent + 1 } }

abbrev u1 : World
u1 = record w2 { black = set.empty; collection = Some k1 }

abbrev k2 : Collection
k2 = record k1 { woken = set.insert set.empty (Cell 0) }

abbrev u2 : World
u2 = record u1 {
  graph = (step_of w2.graph (cmd.New 0 comp_0 0)).0;
  places = map.insert map.empty (Cell 0) (0, 0);
  owner = Some 0 ∷ [];
  collection = Some k2;
}

abbrev u3 : World
u3 = record u2 { graph = (step_of u2.graph (cmd.Drop 0)).0 }

abbrev k4 : Collection
k4 = grouped k2

abbrev u4 : World
u4 = record u3 { collection = Some k4 }

abbrev k5 : Collection
k5 = record k4 { marking = []; groups = Some [] }

abbrev u5 : World
u5 = record u3 { out = 0 ∷ []; black = set.insert set.empty (Cell 0); collection = Some k5 }

abbrev k6 : Collection
k6 = record k5 { tally = record k5.tally { sweeps = k5.tally.sweeps + 1 } }

abbrev u6 : World
u6 = record u5 { out = []; white = []; collection = Some k6 }

abbrev u7 : World
u7 = record u6 { collection = None }

made : Answers u1 (Graph (cmd.New 0 comp_0 0)) [] (reply.Made 0) u2
made = (
  refl,
  (
    refl,
    (
      record {
        graph_is = refl;
        found = λ h. absurd (no_one (Cell 0) h);
        made = λ n. (0, (0, 0), refl, room_first u1 0 (λ b e. cc e), refl);
        out_is = refl;
        white_is = refl;
        weak_is = refl;
        preparing_is = refl;
      },
      (refl, refl),
    ),
  ),
)

awake : Members (set.insert set.empty (Cell 0)) (Cell 0 ∷ [])
awake = members_insert set.empty [] (Cell 0) members_empty

places : Places u3.places ((Cell 0, (0, 0)) ∷ [])
places = places_insert map.empty [] (Cell 0) (0, 0) places_empty

present : (x : Name) → IsPresent u3 x → Cell 0 ≡ x
present x h = single (Cell 0) x (place_named ((Cell 0, (0, 0)) ∷ []) x (sym (ap is_some (places x)) ∙ h))

here0 : IsPresent u3 (Cell 0)
here0 = ap is_some (places (Cell 0))

-- nothing has an edge in the snapshot, so what is reached is what was woken
no_edge2 : (x y : Name) → HasEdge w2.graph x y → ⊥
no_edge2 (Cell n) y e = e
no_edge2 (Wrap c t) y e = cc e.1

within : (x : Name) → LiveClosure k4 x → Cell 0 ≡ x
within x h = single (Cell 0) x
    (reached_within w2.graph _ (Cell 0 ∷ []) (λ y s. elim s [ inl a ↦ absurd (no_name y a) | inr t ↦ (awake y).0 t ])
    (λ y z c d. absurd (no_edge2 y z d)) (λ m q v at hm hq. absurd (cc at)) (λ m v c t at hm ht. absurd (cc at)) h)

black0 : BlackClosure k4 (Cell 0)
black0 = from (inr (insert_has set.empty (Cell 0)))

no_white : (x : Name) → IsWhiteOf u4 k4 (0 ∷ []) x → ⊥
no_white x h = h.white.not_black (subst (λ z. BlackClosure k4 z) (present x h.present) black0)

ends : IsLawfulEnd u4 k4 (0 ∷ []) [] [] u5
ends = record {
  ready = refl;
  grays_are = record {
    ascending = tt;
    has = λ x. (
      (λ c. absurd (nothing_in_none x c)),
      λ g. absurd (g.gray.not_black (subst (λ z. BlackClosure k4 z) (present x g.present) black0)),
    );
  };
  graph_is = refl;
  owner_is = refl;
  gone = λ x h. absurd (no_white x h);
  stay = λ x n. refl;
  white_are = λ x p. ((λ c. absurd (nothing_in_none (x, p) c)), λ h. absurd (no_white x h.0));
  out_is = refl;
  preparing_is = refl;
  collection_is = refl;
  black_are = λ s x. (
    (λ h. subst (λ z. BlackClosure k4 z × IsPresent u5 z) (single (Cell 0) x ((awake x).0 h)) (black0, here0)),
    λ h. subst (λ z. Has u5.black z) (present x h.1) (insert_has set.empty (Cell 0)),
  );
}

few_units : k2.tally.spent + 3 ≤ unit_limit k2.tally + 1
few_units = omega arith

finished : Answers u3 Finish (Groups (only_zone_0 ∷ []) ∷ Ended only_zone_0 [] [] ∷ Swept 0 [] ∷ Done ∷ [])
    (reply.Sliced 3) u7
finished = inl (
  3,
  refl,
  record {
    running = inl (k2, refl);
    units = one_zone_units [] [] [];
    after = u7;
    done = one_zone_lawful u3 u4 u5 u6 u7 [] [] [] (forms_one_group u3 k2 refl refl refl)
        (record {
          collection = k4;
          rest = [];
          running = refl;
          first = refl;
          ends = ends;
          loses = loses_nothing _ _ refl refl;
        }) (sweep_of_nothing u5 refl refl)
        (record {
          over = record { collection = k6; running = refl; ended = refl; none_out = refl };
          world_is = refl;
        });
    number = refl;
    reports_are = refl;
    world_is = refl;
    tally = k2.tally;
    tally_is = inl (k2, refl, refl);
    within = few_units;
  },
  record { none_running = refl; none_preparing = refl },
)

-- the second collection
in_zone : (x : Name) → Cell 0 ≡ x → IsInZones u7.graph (0 ∷ []) x
in_zone x e = subst (λ z. IsInZones u7.graph (0 ∷ []) z) e refl

collected : Answers u7 (Collect only_zone_0)
    (Started ∷ Groups (only_zone_0 ∷ []) ∷ Ended only_zone_0 [] [] ∷ Swept 0 (Cell 0 ∷ []) ∷ Done ∷ [])
    reply.Collected freed
collected = units_collect u7 begun_again freed [] [] (Cell 0 ∷ [])
    (prepares_one u7 (record { none_running = refl; none_preparing = refl }) (omega arith)
    (λ x h. in_zone x (single (Cell 0) x ((awake x).0 h)))) (garbage_begins 1 no_weak_names no_weak_names [])
    (garbage_units 1 no_weak_names no_weak_names [] (loses_nothing _ _ refl refl))
    (record { none_running = refl; none_preparing = refl })

one_unit : k0.tally.spent + 1 ≤ unit_limit k0.tally + 0
one_unit = omega arith

first_slice : Answers (prepared w2) (Slice 1) (Started ∷ []) (reply.Sliced 1) u1
first_slice = inl (
  1,
  refl,
  record {
    running = inr (first_preparation w2 (0 ∷ []), refl);
    units = (Started ∷ []) ∷ [];
    after = u0;
    done = (u0, begins_unit (0 ∷ []) (prepared w2) u0 begins, refl);
    number = refl;
    reports_are = refl;
    world_is = refl;
    tally = k0.tally;
    tally_is = inr (first_preparation w2 (0 ∷ []), refl, refl);
    within = one_unit;
  },
  omega arith,
  λ h. absurd (omega arith),
)

begun : Answers w2 (Gc only_zone_0) [] reply.GcBegun (prepared w2)
begun = inl (
  refl,
  refl,
  subst (λ z. Prepares w2 z (prepared w2)) (sym zones_in-first)
      (prepares_one w2 (record { none_running = refl; none_preparing = refl }) (omega arith)
      (λ x h. absurd (no_black x h))),
)

pub made_while_marking_lawful : IsLawfulOutput made_while_marking answers_made_while_marking
made_while_marking_lawful = (
  freed,
  (
    w1,
    a1,
    (
      w2,
      a2,
      (
        prepared w2,
        begun,
        (
          u1,
          first_slice,
          (
            u2,
            made,
            (
              u3,
              (refl, (refl, refl)),
              (u7, finished, (freed, collected, refl)),
            ),
          ),
        ),
      ),
    ),
  ),
)
