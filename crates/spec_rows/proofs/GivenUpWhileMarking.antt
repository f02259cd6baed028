-- Given up while marking: the answers are lawful, and are not where the cell stays gray.
use Rattle.std.proofs.Common.{◌≡◌, ℕ, ◌+◌, ◌≤◌, ◌⊎◌, inl, inr, [], ◌∷◌, refl, sym, ap, subst, ◌∙◌, arith, Some, None}
use Rattle.std.proofs.Common.{Contains, replicate}
use Rattle.std.specs.FinSet as set
use Rattle.gz_names.specs.declared.names.Name.{Name}
use Rattle.gz_names.specs.declared.names.Name.TheVariants.{Cell}
use Rattle.gz_names.specs.declared.commands.GraphCmd.TheVariants as cmd
use Rattle.gz_names.specs.declared.commands.Cmd.TheVariants.{Graph, Gc, Slice, Reset, Colours}
use Rattle.gz_names.specs.declared.replies.Reply.TheVariants as reply
use Rattle.gz_names.specs.declared.replies.Report.TheVariants.{Started, Stopped}
use Rattle.colour_defs.specs.Graph.{slot_cell, IsInZones}
use Rattle.colour_defs.specs.Closure.{Closure, from}
use Rattle.colour_defs.specs.Units.{unit_limit}
use Rattle.colour_defs.specs.World.{World, Collection, Has, IsPresent, first_world, first_preparation, first_tally}
use Rattle.colour_defs.specs.Lawful.{Answers, Begins, IsRunning, IsUnfinished, IsBlackSoFar, Stops, quiet}
use Rattle.colour_defs.specs.Lawful.{IsLawfulOutput}
use Rattle.spec_rows.specs.Rows.{comp_0, only_zone_0, given_up_while_marking, answers_given_up_while_marking}
use Rattle.colour_defs.specs.Laws.{IsValid}
use Rattle.colour_defs.proofs.Lists.{contains_head, contains_set_cases, no_name_in_nulls}
use Rattle.colour_defs.proofs.ZoneSets.{zones_in-first}
use Rattle.colour_defs.proofs.ValidCommands.{insert_has}
use Rattle.colour_defs.proofs.ValidRuns.{answer_valid, first_valid}
use Rattle.colour_defs.proofs.Finite.{no_name}
use Rattle.spec_rows.proofs.Beginnings.{begins_unit}
use Rattle.spec_rows.proofs.OneZone.{prepared}
use Rattle.spec_rows.proofs.OneGarbage.{made_graph}
use Rattle.spec_rows.proofs.Inverted.{quiet_after, placed_after, ReportsAll, units_reports}
use Rattle.spec_rows.proofs.LinkedAndDropped.{w1, w2, a1, a2}
use Rattle.spec_rows.proofs.GivenUp.{w3, w4, w5, w6, a3, roots, root, present, here0, in_zone, begun, none_gray}
use Rattle.spec_rows.proofs.GivenUp.{one_report}

abbrev k0 : Collection
k0 = record {
  zones = 0 ∷ [];
  marking = 0 ∷ [];
  snapshot = w5.graph;
  black_starts = set.empty;
  live_starts = roots;
  woken = set.empty;
  groups = None;
  tally = first_tally (prepared w5) (first_preparation w5 (0 ∷ []));
}

abbrev u0 : World
u0 = record w5 { black = set.empty; collection = Some k0 }

in_slot : (x : Name) → Contains w5.graph.slots (Some x) → Cell 0 ≡ x
in_slot x c = elim (contains_set_cases (replicate 64 None) 0 (Some (Cell 0)) (Some x) c)
    [ inl t ↦ absurd (no_name_in_nulls 64 x t) | inr e ↦ cc e ]

begins : Begins (prepared w5) (0 ∷ []) u0
begins = record {
  preparation = first_preparation w5 (0 ∷ []);
  was = refl;
  of_zones = refl;
  collection = k0;
  world_is = refl;
  zones_are = refl;
  marking_are = refl;
  snapshot_is = refl;
  woken_is = refl;
  groups_are = refl;
  tally_is = refl;
  black_starts = λ x. (
    (λ h. absurd (no_name x h)),
    λ h. elim h [ inl c ↦ absurd (no_name_in_nulls 16 x c) | inr b ↦ absurd (no_name x b) ],
  );
  live_starts = λ x. (
    (λ h. inr (inl (subst (λ z. Contains w5.graph.slots (Some z)) (root x h) (0, omega arith, refl)))),
    λ h. elim h [
      | inl b ↦ absurd (no_name x b)
      | inr o ↦ elim o [
        | inl s ↦ subst (λ z. Has roots z) (in_slot x s) (insert_has set.empty (Cell 0))
        | inr p
            ↦ absurd (p.1 (in_zone x (present x p.0)))
      ]
    ],
  );
}

-- one unit clears the arena, the other begins the marking
abbrev k1 : Collection
k1 = record k0 { tally = record k0.tally { spent = k0.tally.spent + 2 } }

abbrev u1 : World
u1 = record w5 { black = set.empty; collection = Some k1 }

two_units : k0.tally.spent + 2 ≤ unit_limit k0.tally + 0
two_units = omega arith

sliced : Answers (prepared w5) (Slice 2) (Started ∷ []) (reply.Sliced 2) u1
sliced = inl (
  2,
  refl,
  record {
    running = inr (first_preparation w5 (0 ∷ []), refl);
    units = [] ∷ (Started ∷ []) ∷ [];
    after = u0;
    done = (
      prepared w5,
      quiet (inr (first_preparation w5 (0 ∷ []), refl)),
      (u0, begins_unit (0 ∷ []) (prepared w5) u0 begins, refl),
    );
    number = refl;
    reports_are = refl;
    world_is = refl;
    tally = k0.tally;
    tally_is = inr (first_preparation w5 (0 ∷ []), refl, refl);
    within = two_units;
  },
  omega arith,
  λ h. absurd (omega arith),
)

runs : IsRunning u1
runs = inl (k1, refl)

in_it : (z : ℕ) → IsUnfinished u1 z → Contains (0 ∷ []) z
in_it z (inl c) = c
in_it z (inr h) = absurd (cc h.1)

-- what a reset blackens first
abbrev BlackAsItStops : Name → Type 0
BlackAsItStops s = IsBlackSoFar u1 s ⊎ (IsPresent u1 s × IsInZones u1.graph (0 ∷ []) s)

stops : Stops u1 (0 ∷ []) w6
stops = record {
  running = runs;
  none_out = refl;
  not_over = λ o. cc (o.running, o.ended);
  zones_are = λ z. ((λ c. inl c), in_it z);
  world_is = refl;
  black_are = λ x. (
    (λ h. subst (λ z. Closure u1.graph BlackAsItStops z × IsPresent u1 z) (root x h)
        (from (inr (here0, refl)), here0)),
    λ h. subst (λ z. Has roots z) (present x h.1) (insert_has set.empty (Cell 0)),
  );
}

stopped : Answers u1 Reset (Stopped only_zone_0 ∷ []) reply.ResetDone w6
stopped = inl (
  refl,
  record {
    running = runs;
    sweeps = [];
    after = u1;
    swept = refl;
    final = Stopped only_zone_0;
    ends = subst (λ z. Stops u1 z w6) (sym zones_in-first) stops;
    reports_are = refl;
  },
)

pub given_up_while_marking_lawful : IsLawfulOutput given_up_while_marking (answers_given_up_while_marking [])
given_up_while_marking_lawful = (
  w6,
  (
    w1,
    a1,
    (
      w2,
      a2,
      (
        w3,
        a3,
        (
          w4,
          (refl, (refl, refl)),
          (
            w5,
            (refl, (refl, refl)),
            (prepared w5, begun, (u1, sliced, (w6, stopped, (w6, told, refl)))),
          ),
        ),
      ),
    ),
  ),
)
  where
    told : Answers w6 Colours [] (reply.Gray []) w6
    told = inl (
      [],
      refl,
      record { none_marking = refl; none_preparing = refl },
      none_gray,
      record { silent = refl; same = refl },
    )

pub not_gray_after_marking : IsLawfulOutput given_up_while_marking (answers_given_up_while_marking (Cell 0 ∷ [])) → ⊥
not_gray_after_marking
    (v, (u1, b1, (u2, b2, (u3, b3, (u4, b4, (u5, b5, (u6, b6, (u7, b7, (u8, b8, (u9, b9, more)))))))))) =
    let q1 = quiet_after first_world u1 cmd.Zone (reply.Zone 0) first_world.graph refl refl refl b1.1 refl in
    let c1 : u1.preparing ≡ None = ap (λ (z : World). z.preparing) q1 in
    let q2 = quiet_after u1 u2 (cmd.Comp 0) (reply.Comp comp_0) w1.graph (ap (λ (z : World). z.graph) q1) refl c1 b2.1
    refl in
    let c2 : u2.preparing ≡ None = ap (λ (z : World). z.preparing) q2 ∙ c1 in
    let p3 = placed_after u2 u3 (cmd.New 0 comp_0 0) (reply.Made 0) w2.graph (ap (λ (z : World). z.graph) q2) refl c2
    b3.1 (Cell 0) refl in
    let c3 : u3.preparing ≡ None = p3.preparing_is ∙ c2 in
    let q4 = quiet_after u3 u4 (cmd.Hold 0 0) reply.Accepted made_graph p3.graph_is refl c3 b4.1 refl in
    let c4 : u4.preparing ≡ None = ap (λ (z : World). z.preparing) q4 ∙ c3 in
    let q5 = quiet_after u4 u5 (cmd.Drop 0) reply.Accepted w4.graph (ap (λ (z : World). z.graph) q4) refl c4 b5.1 refl
    in
    let ok2 : IsValid u2 = answer_valid u1 (Graph (cmd.Comp 0)) [] (reply.Comp comp_0) u2
    (answer_valid first_world (Graph cmd.Zone) [] (reply.Zone 0) u1 first_valid b1) b2 in
    let ok3 : IsValid u3 = answer_valid u2 (Graph (cmd.New 0 comp_0 0)) [] (reply.Made 0) u3 ok2 b3 in
    let ok4 : IsValid u4 = answer_valid u3 (Graph (cmd.Hold 0 0)) [] reply.Accepted u4 ok3 b4 in
    let ok5 : IsValid u5 = answer_valid u4 (Graph (cmd.Drop 0)) [] reply.Accepted u5 ok4 b5 in
    let ok6 : IsValid u6 = answer_valid u5 (Gc only_zone_0) [] reply.GcBegun u6 ok5 b6 in
    let ok7 : IsValid u7 = answer_valid u6 (Slice 2) (Started ∷ []) (reply.Sliced 2) u7 ok6 b7 in
    elim b6 [
      | inl h ↦ elim b7 [
        | inl s ↦ elim b8 [
          | inl r ↦ elim b9 [
            | inl t ↦
                let all : ReportsAll u6 (Started ∷ []) s.2.after =
                subst (λ rs. ReportsAll u6 rs s.2.after) (sym s.2.reports_are)
                (units_reports u6 s.2.units s.2.after s.2.done) in
                let g6 : u6.graph ≡ w5.graph = ap (λ (z : World). z.graph) h.2.world_is
                ∙ ap (λ (z : World). z.graph) q5 in
                let g7 : u7.graph ≡ w5.graph = ap (λ (z : World). z.graph) s.2.world_is
                ∙ (ap (λ (z : World). z.graph) all.2 ∙ (ap (λ (z : World). z.graph) all.1.1.world_is ∙ g6)) in
                let held : IsPresent u7 (Cell 0) =
                ok7.presence.slots 0 (Cell 0) (subst (λ g. slot_cell g 0 ≡ Some (Cell 0)) (sym g7) refl) in
                let inside : IsInZones u7.graph (0 ∷ []) (Cell 0) =
                subst (λ g. IsInZones g (0 ∷ []) (Cell 0)) (sym g7) refl in
                let black : Has u8.black (Cell 0) =
                ((one_report u7 u8 r.1).black_are (Cell 0)).1 (from (inr (held, inside)), held) in
                let names : (Cell 0 ∷ []) ≡ t.0 = cc t.1 in
                ((t.3.has (Cell 0)).0 (subst (λ l. Contains l (Cell 0)) names (contains_head (Cell 0) []))).1 black
            | inr t ↦ cc t.0
          ]
          | inr r ↦ cc r.0
        ]
        | inr s ↦ cc s.0
      ]
      | inr n ↦ elim n [ inl h ↦ cc h.0 | inr h ↦ cc h.0 ]
    ]
