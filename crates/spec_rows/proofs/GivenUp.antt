-- Given up: the answers are lawful, and are not where the cell stays gray.
use Rattle.std.proofs.Common.{◌≡◌, ℕ, ◌⊎◌, inl, inr, List, [], ◌∷◌, ◌++◌, refl, sym, ap, subst, ◌∙◌, arith, Some, None}
use Rattle.std.proofs.Common.{Contains, is_some}
use Rattle.std.specs.FinSet as set
use Rattle.gz_names.specs.Zones.{zones_in}
use Rattle.gz_names.specs.declared.names.Name.{Name}
use Rattle.gz_names.specs.declared.names.Name.TheVariants.{Cell}
use Rattle.gz_names.specs.declared.commands.GraphCmd.TheVariants as cmd
use Rattle.gz_names.specs.declared.commands.Cmd.TheVariants.{Graph, Gc, Reset, Colours}
use Rattle.gz_names.specs.declared.replies.Reply.TheVariants as reply
use Rattle.gz_names.specs.declared.replies.Report.{Report}
use Rattle.gz_names.specs.declared.replies.Report.TheVariants.{Started, Groups, Ended, Swept, Done, Stopped}
use Rattle.colour_defs.specs.Graph.{slot_cell, IsInZones}
use Rattle.colour_defs.specs.Closure.{Closure, from}
use Rattle.colour_defs.specs.Step.{step_of}
use Rattle.colour_defs.specs.World.{World, Preparation, Names, Has, IsPresent, first_world}
use Rattle.colour_defs.specs.World.{first_preparation}
use Rattle.colour_defs.specs.Ends.{Lists}
use Rattle.colour_defs.specs.Lawful.{Answers, Prepares, IsRunning, IsUnfinished, IsBlackSoFar, AreLawfulSweeps}
use Rattle.colour_defs.specs.Lawful.{LastOfReset, Stops, Resets, IsLawfulOutput}
use Rattle.spec_rows.specs.Rows.{comp_0, only_zone_0, given_up, answers_given_up}
use Rattle.colour_defs.specs.Laws.{IsValid}
use Rattle.colour_defs.proofs.Lists.{nothing_in_none, contains_head}
use Rattle.colour_defs.proofs.ZoneSets.{zones_in-first}
use Rattle.colour_defs.proofs.ValidCommands.{insert_has}
use Rattle.colour_defs.proofs.ValidRuns.{answer_valid, first_valid}
use Rattle.colour_defs.proofs.Finite.{no_name, insert_cases}
use Rattle.spec_rows.proofs.Places.{place_named, single}
use Rattle.spec_rows.proofs.Making.{room_first, made_world, new_lawful}
use Rattle.spec_rows.proofs.OneZone.{prepared, prepares_one}
use Rattle.spec_rows.proofs.OneGarbage.{made_graph, one_place}
use Rattle.spec_rows.proofs.Inverted.{quiet_after, placed_after}
use Rattle.spec_rows.proofs.LinkedAndDropped.{w1, w2, a1, a2, v2}

abbrev pub w3 : World
w3 = made_world w2 0 comp_0 0 (0, 0) (Some 0 ∷ [])

abbrev pub w4 : World
w4 = record w3 { graph = (step_of w3.graph (cmd.Hold 0 0)).0 }

abbrev pub w5 : World
w5 = record w4 { graph = (step_of w4.graph (cmd.Drop 0)).0 }

pub a3 : Answers w2 (Graph (cmd.New 0 comp_0 0)) [] (reply.Made 0) w3
a3 = new_lawful w2 0 comp_0 0 0 (0, 0) (Some 0 ∷ []) v2 (record { none_running = refl; none_preparing = refl }) refl
    refl (room_first w2 0 (λ b e. cc e))

abbrev pub roots : Names
roots = set.insert set.empty (Cell 0)

abbrev pub w6 : World
w6 = record w5 { black = roots }

pub present : (x : Name) → IsPresent w5 x → Cell 0 ≡ x
present x h = single (Cell 0) x (place_named ((Cell 0, (0, 0)) ∷ []) x (sym (ap is_some (one_place x)) ∙ h))

pub here0 : IsPresent w5 (Cell 0)
here0 = ap is_some (one_place (Cell 0))

pub in_zone : (x : Name) → Cell 0 ≡ x → IsInZones w5.graph (0 ∷ []) x
in_zone x e = subst (λ z. IsInZones w5.graph (0 ∷ []) z) e refl

pub root : (x : Name) → Has roots x → Cell 0 ≡ x
root x h = elim (insert_cases set.empty (Cell 0) x h) [ inl none ↦ absurd (no_name x none) | inr e ↦ e ]

pub begun : Answers w5 (Gc only_zone_0) [] reply.GcBegun (prepared w5)
begun = inl (
  refl,
  refl,
  subst (λ z. Prepares w5 z (prepared w5)) (sym zones_in-first)
      (prepares_one w5 (record { none_running = refl; none_preparing = refl }) (omega arith)
      (λ x h. in_zone x (root x h))),
)

runs : IsRunning (prepared w5)
runs = inr (first_preparation w5 (0 ∷ []), refl)

in_it : (z : ℕ) → IsUnfinished (prepared w5) z → Contains (0 ∷ []) z
in_it z (inl c) = absurd (nothing_in_none z c)
in_it z (inr h) = let same : first_preparation w5 (0 ∷ []) ≡ h.0 = cc h.1 in
    subst (λ l. Contains l z) (sym (ap (λ (p : Preparation). p.zones) same)) h.2

-- what a reset blackens first
abbrev BlackAsItStops : Name → Type 0
BlackAsItStops s = IsBlackSoFar (prepared w5) s
    ⊎ (IsPresent (prepared w5) s × IsInZones (prepared w5).graph (0 ∷ []) s)

stops : Stops (prepared w5) (0 ∷ []) w6
stops = record {
  running = runs;
  none_out = refl;
  not_over = λ o. cc o.running;
  zones_are = λ z. ((λ c. inr (first_preparation w5 (0 ∷ []), refl, c)), in_it z);
  world_is = refl;
  black_are = λ x. (
    (λ h. subst (λ z. Closure (prepared w5).graph BlackAsItStops z × IsPresent (prepared w5) z) (root x h)
        (from (inr (here0, refl)), here0)),
    λ h. subst (λ z. Has roots z) (present x h.1) (insert_has set.empty (Cell 0)),
  );
}

stopped : Answers (prepared w5) Reset (Stopped only_zone_0 ∷ []) reply.ResetDone w6
stopped = inl (
  refl,
  record {
    running = runs;
    sweeps = [];
    after = prepared w5;
    swept = refl;
    final = Stopped only_zone_0;
    ends = subst (λ z. Stops (prepared w5) z w6) (sym zones_in-first) stops;
    reports_are = refl;
  },
)

pub none_gray : Lists (λ x. IsPresent w6 x × (Has w6.black x → ⊥)) []
none_gray = record {
  ascending = tt;
  has = λ x. (
    (λ c. absurd (nothing_in_none x c)),
    λ h. absurd (h.1 (subst (λ z. Has roots z) (present x h.0) (insert_has set.empty (Cell 0)))),
  );
}

pub given_up_lawful : IsLawfulOutput given_up (answers_given_up [])
given_up_lawful = (
  w6,
  (
    w1,
    a1,
    (
      w2,
      a2,
      (
        w3,
        a3,
        (
          w4,
          (refl, (refl, refl)),
          (
            w5,
            (refl, (refl, refl)),
            (prepared w5, begun, (w6, stopped, (w6, told, refl))),
          ),
        ),
      ),
    ),
  ),
)
  where
    told : Answers w6 Colours [] (reply.Gray []) w6
    told = inl (
      [],
      refl,
      record { none_marking = refl; none_preparing = refl },
      none_gray,
      record { silent = refl; same = refl },
    )

-- a reset that reports that it gave a collection up, and nothing else
pub one_report : (w v : World) → Resets w (Stopped only_zone_0 ∷ []) v → Stops w (0 ∷ []) v
one_report w v r = go r.sweeps r.swept r.final r.ends r.reports_are
  where
    go : (sweeps : List Report) → AreLawfulSweeps w sweeps r.after → (final : Report) → LastOfReset r.after final v
        → Stopped only_zone_0 ∷ [] ≡ sweeps ++ final ∷ [] → Stops w (0 ∷ []) v
    go [] same Started ends e = absurd ends
    go [] same (Groups groups) ends e = absurd ends
    go [] same (Ended zones grays told) ends e = absurd ends
    go [] same (Swept arena freed) ends e = absurd ends
    go [] same Done ends e = absurd (cc e)
    go [] same (Stopped zones) ends e = let z : only_zone_0 ≡ zones = cc e in
        subst (λ q. Stops q (0 ∷ []) v) same
        (subst (λ l. Stops r.after l v) (ap zones_in (sym z) ∙ zones_in-first) ends)
    go (s ∷ []) h final ends e = absurd (cc e)
    go (s ∷ t ∷ more) h final ends e = absurd (cc e)

pub not_gray_then : IsLawfulOutput given_up (answers_given_up (Cell 0 ∷ [])) → ⊥
not_gray_then (v, (u1, b1, (u2, b2, (u3, b3, (u4, b4, (u5, b5, (u6, b6, (u7, b7, (u8, b8, more))))))))) =
    let q1 = quiet_after first_world u1 cmd.Zone (reply.Zone 0) first_world.graph refl refl refl b1.1 refl in
    let c1 : u1.preparing ≡ None = ap (λ (z : World). z.preparing) q1 in
    let q2 = quiet_after u1 u2 (cmd.Comp 0) (reply.Comp comp_0) w1.graph (ap (λ (z : World). z.graph) q1) refl c1 b2.1
    refl in
    let c2 : u2.preparing ≡ None = ap (λ (z : World). z.preparing) q2 ∙ c1 in
    let p3 = placed_after u2 u3 (cmd.New 0 comp_0 0) (reply.Made 0) w2.graph (ap (λ (z : World). z.graph) q2) refl c2
    b3.1 (Cell 0) refl in
    let c3 : u3.preparing ≡ None = p3.preparing_is ∙ c2 in
    let q4 = quiet_after u3 u4 (cmd.Hold 0 0) reply.Accepted made_graph p3.graph_is refl c3 b4.1 refl in
    let c4 : u4.preparing ≡ None = ap (λ (z : World). z.preparing) q4 ∙ c3 in
    let q5 = quiet_after u4 u5 (cmd.Drop 0) reply.Accepted w4.graph (ap (λ (z : World). z.graph) q4) refl c4 b5.1 refl
    in
    let ok2 : IsValid u2 = answer_valid u1 (Graph (cmd.Comp 0)) [] (reply.Comp comp_0) u2
    (answer_valid first_world (Graph cmd.Zone) [] (reply.Zone 0) u1 first_valid b1) b2 in
    let ok3 : IsValid u3 = answer_valid u2 (Graph (cmd.New 0 comp_0 0)) [] (reply.Made 0) u3 ok2 b3 in
    let ok4 : IsValid u4 = answer_valid u3 (Graph (cmd.Hold 0 0)) [] reply.Accepted u4 ok3 b4 in
    let ok5 : IsValid u5 = answer_valid u4 (Graph (cmd.Drop 0)) [] reply.Accepted u5 ok4 b5 in
    let ok6 : IsValid u6 = answer_valid u5 (Gc only_zone_0) [] reply.GcBegun u6 ok5 b6 in
    elim b6 [
      | inl h ↦ elim b7 [
        | inl r ↦ elim b8 [
          | inl t ↦
              let g6 : u6.graph ≡ w5.graph = ap (λ (z : World). z.graph) h.2.world_is
              ∙ ap (λ (z : World). z.graph) q5 in
              let held : IsPresent u6 (Cell 0) =
              ok6.presence.slots 0 (Cell 0) (subst (λ g. slot_cell g 0 ≡ Some (Cell 0)) (sym g6) refl) in
              let inside : IsInZones u6.graph (0 ∷ []) (Cell 0) =
              subst (λ g. IsInZones g (0 ∷ []) (Cell 0)) (sym g6) refl in
              let black : Has u7.black (Cell 0) =
              ((one_report u6 u7 r.1).black_are (Cell 0)).1 (from (inr (held, inside)), held) in
              let names : (Cell 0 ∷ []) ≡ t.0 = cc t.1 in
              ((t.3.has (Cell 0)).0 (subst (λ l. Contains l (Cell 0)) names (contains_head (Cell 0) []))).1 black
          | inr t ↦ cc t.0
        ]
        | inr r ↦ cc r.0
      ]
      | inr n ↦ elim n [ inl h ↦ cc h.0 | inr h ↦ cc h.0 ]
    ]
