-- Made and dropped while its zone is prepared: the answers are lawful, and are not without the freed cell.
use Rattle.std.proofs.Common.{◌≡◌, ℕ, zero, suc, ◌+◌, ◌≤◌, inl, inr, [], ◌∷◌, true, refl, sym, ap, subst, ◌∙◌}
use Rattle.std.proofs.Common.{Some, None, Contains, is_some, cond, slice_get, arith}
use Rattle.std.specs.FinMap as map
use Rattle.gz_names.specs.Order.{names_total}
use Rattle.gz_names.specs.declared.names.Name.{Name}
use Rattle.gz_names.specs.declared.names.Name.TheVariants.{Cell, Wrap}
use Rattle.gz_names.specs.declared.commands.GraphCmd.TheVariants as cmd
use Rattle.gz_names.specs.declared.commands.Cmd.TheVariants.{Graph, Gc, Colours, Finish}
use Rattle.gz_names.specs.declared.replies.Reply.TheVariants as reply
use Rattle.gz_names.specs.declared.replies.Refusal.TheVariants as refusal
use Rattle.gz_names.specs.declared.replies.Report.TheVariants.{Started, Groups, Ended, Swept, Done}
use Rattle.colour_defs.specs.Graph.{GraphState, IsInZones}
use Rattle.colour_defs.specs.Closure.{HasEdge}
use Rattle.colour_defs.specs.World.{World, Preparation, Has, IsPresent, IsLeftOut, BlackClosure}
use Rattle.colour_defs.specs.Units.{Tally, unit_limit}
use Rattle.colour_defs.specs.World.{LiveClosure, CommandInWorld, first_world, first_preparation, first_tally}
use Rattle.colour_defs.specs.World.{no_weak_names}
use Rattle.colour_defs.specs.Lawful.{Answers, Prepares, Begins, Slices, IsLawfulOutput}
use Rattle.spec_rows.specs.Rows.{comp_0, only_zone_0, made_while_preparing, answers_while_preparing}
use Rattle.colour_defs.specs.Laws.{IsValid, IsMade}
use Rattle.colour_defs.proofs.Lists.{nothing_in_none, no_name_in_nulls}
use Rattle.colour_defs.proofs.Names.{eq_name-refl}
use Rattle.colour_defs.proofs.ZoneSets.{zones_in-first}
use Rattle.colour_defs.proofs.Carried.{within_in, reached_more}
use Rattle.colour_defs.proofs.ValidRuns.{answer_valid, first_valid, no_one, no_black}
use Rattle.colour_defs.proofs.Finite.{no_name, members_empty}
use Rattle.spec_rows.proofs.Places.{place_named, reached_within, single}
use Rattle.spec_rows.proofs.Making.{room_first}
use Rattle.spec_rows.proofs.Beginnings.{begins_unit}
use Rattle.colour_defs.proofs.NothingWeak.{loses_nothing}
use Rattle.spec_rows.proofs.OneZone.{prepared, prepares_one, one_zone_units}
use Rattle.spec_rows.proofs.OneGarbage.{made_graph, dropped_graph, one_place, garbage_prepared, garbage_begun}
use Rattle.spec_rows.proofs.OneGarbage.{garbage_freed, garbage_begins, garbage_units}
use Rattle.spec_rows.proofs.Inverted.{quiet_after, placed_preparing, quiet_preparing, ReportsAll, units_reports}
use Rattle.spec_rows.proofs.Inverted.{place_owned}
use Rattle.spec_rows.proofs.Told.{white_is_told, only_zone}
use Rattle.spec_rows.proofs.LinkedAndDropped.{w1, w2, a1, a2}

abbrev q0 : World
q0 = prepared w2

abbrev q1 : World
q1 = record q0 { graph = made_graph; places = map.insert map.empty (Cell 0) (0, 0); owner = Some 0 ∷ [] }

abbrev q2 : World
q2 = garbage_prepared 0 no_weak_names no_weak_names []

abbrev freed : World
freed = garbage_freed 0 no_weak_names no_weak_names []

begun : Answers w2 (Gc only_zone_0) [] reply.GcBegun q0
begun = inl (
  refl,
  refl,
  subst (λ z. Prepares w2 z q0) (sym zones_in-first)
      (prepares_one w2 (record { none_running = refl; none_preparing = refl }) (omega arith)
      (λ x h. absurd (no_black x h))),
)

here : (x : Name) → IsPresent q1 x → IsInZones q1.graph (0 ∷ []) x
here x h = subst (λ z. IsInZones q1.graph (0 ∷ []) z)
    (single (Cell 0) x (place_named ((Cell 0, (0, 0)) ∷ []) x (sym (ap is_some (one_place x)) ∙ h))) refl

made : Answers q0 (Graph (cmd.New 0 comp_0 0)) [] (reply.Made 0) q1
made = (
  refl,
  (
    refl,
    (
      record {
        graph_is = refl;
        found = λ h. absurd (no_one (Cell 0) h);
        made = λ n. (0, (0, 0), refl, room_first q0 0 (λ b e. cc e), refl);
        out_is = refl;
        white_is = refl;
        weak_is = refl;
        preparing_is = refl;
      },
      refl,
      λ y. ((λ h. absurd (no_name y h)), λ h. absurd (let left = within_in h in left.1 (here y left.0))),
    ),
  ),
)

told : Answers q2 Colours [] (reply.Refused refusal.Marking) q2
told = inr (refl, (λ s. cc s.none_preparing), record { silent = refl; same = refl })

abbrev first : Tally
first = first_tally q2 (record { zones = 0 ∷ []; arenas = 0; spent = 0 })

four_units : first.spent + 4 ≤ unit_limit first + 1
four_units = omega arith

finished : Answers q2 Finish
    (Started ∷ Groups (only_zone_0 ∷ []) ∷ Ended only_zone_0 [] [] ∷ Swept 0 (Cell 0 ∷ []) ∷ Done ∷ []) (reply.Sliced 4)
    freed
finished = inl (
  4,
  refl,
  record {
    running = inr (_, refl);
    units = (Started ∷ []) ∷ one_zone_units [] [] (Cell 0 ∷ []);
    after = freed;
    done = (
      garbage_begun 0 no_weak_names no_weak_names [],
      begins_unit (0 ∷ []) q2 (garbage_begun 0 no_weak_names no_weak_names [])
          (garbage_begins 0 no_weak_names no_weak_names []),
      garbage_units 0 no_weak_names no_weak_names [] (loses_nothing _ _ refl refl),
    );
    number = refl;
    reports_are = refl;
    world_is = refl;
    tally = first;
    tally_is = inr (_, refl, refl);
    within = four_units;
  },
  record { none_running = refl; none_preparing = refl },
)

pub made_while_preparing_lawful : IsLawfulOutput made_while_preparing (answers_while_preparing (Cell 0 ∷ []))
made_while_preparing_lawful = (
  freed,
  (
    w1,
    a1,
    (
      w2,
      a2,
      (q0, begun, (q1, made, (q2, (refl, (refl, refl)), (q2, told, (freed, finished, refl))))),
    ),
  ),
)

-- nothing has an edge once the cell is dropped
no_edge : (x y : Name) → HasEdge dropped_graph x y → ⊥
no_edge (Cell zero) y e = nothing_in_none (Some y) e
no_edge (Cell (suc n)) y e = e
no_edge (Wrap c t) y e = cc e.1

-- a world in which the zone is prepared, and the cell was made and dropped
module _ (w : World) (ok : IsValid w) (at : w.graph ≡ dropped_graph) (p : ℕ × ℕ)
    (lies : map.get w.places (Cell 0) ≡ Some p) (owned : slice_get w.owner p.0 ≡ Some (Some 0)) (q : Preparation)
    (was : w.preparing ≡ Some q) (zones : q.zones ≡ 0 ∷ []) where
  in_zone : (x : Name) → IsPresent w x → IsInZones w.graph (0 ∷ []) x
  in_zone x h = only_zone w.graph (ap (λ (g : GraphState). g.comps) at) x (ok.made x h)

  none_black : (x : Name) → Has w.black x → ⊥
  none_black x h = let left : IsLeftOut w q x = (ok.preparing q was).left_out x h in
      left.1 (subst (λ z. IsInZones w.graph z x) (sym zones) (in_zone x left.0))

  module _ (u : World) (b : Begins w (0 ∷ []) u) where
    start : (x : Name) → Has b.collection.live_starts x → ⊥
    start x s = elim ((b.live_starts x).0 s) [
      | inl c ↦ elim ((b.black_starts x).0 c)
          [ inl r ↦ no_name_in_nulls 16 x (subst (λ g. Contains g.registers (Some x)) at r) | inr k ↦ none_black x k ]
      | inr o ↦ elim o [
        | inl c ↦ no_name_in_nulls 64 x (subst (λ g. Contains g.slots (Some x)) at c)
        | inr r
            ↦ r.1 (in_zone x r.0)
      ]
    ]

    not_live : (x : Name) → LiveClosure b.collection x → ⊥
    not_live x h = nothing_in_none x (reached_within b.collection.snapshot _ []
        (λ y s. elim s [
          | inl a ↦ absurd (start y a)
          | inr t
              ↦ absurd (nothing_in_none y ((members_empty y).0 (subst (λ r. Has r y) b.woken_is t)))
        ])
        (λ y z c d. absurd (nothing_in_none y c))
        (λ m k v f hm hk. absurd (nothing_in_none m hm))
        (λ m v c t f hm ht. absurd (nothing_in_none m hm))
        h)

    not_in : (LiveClosure b.collection (Cell 0) → ⊥) × (BlackClosure b.collection (Cell 0) → ⊥)
    not_in = (
      not_live (Cell 0),
      λ x. not_live (Cell 0)
          (reached_more b.collection.snapshot _ _
          (λ y s. elim s [ inl t ↦ inl ((b.live_starts y).1 (inl t)) | inr t ↦ inr t ]) x),
    )

    begun_misses : (v : World)
        → ReportsAll u (Groups (only_zone_0 ∷ []) ∷ Ended only_zone_0 [] [] ∷ Swept 0 [] ∷ Done ∷ []) v → ⊥
    begun_misses v all =
        let owner : slice_get u.owner p.0 ≡ Some (Some 0) = ap (λ (z : World). slice_get z.owner p.0) b.world_is
        ∙ owned in
        let lying : map.get u.places (Cell 0) ≡ Some p = ap (λ (z : World). map.get z.places (Cell 0)) b.world_is
        ∙ lies in
        let inside : IsInZones u.graph (0 ∷ []) (Cell 0) =
        subst (λ g. IsInZones g (0 ∷ []) (Cell 0)) (sym (ap (λ (z : World). z.graph) b.world_is ∙ at)) refl in
        white_is_told u (Cell 0) p b.collection (ap (λ (z : World). z.collection) b.world_is) inside lying owner not_in
        v all

  slice_misses : (n : ℕ) (v : World)
      → Slices w (Started ∷ Groups (only_zone_0 ∷ []) ∷ Ended only_zone_0 [] [] ∷ Swept 0 [] ∷ Done ∷ []) n v → ⊥
  slice_misses n v s =
      let all : ReportsAll w (Started ∷ Groups (only_zone_0 ∷ []) ∷ Ended only_zone_0 [] [] ∷ Swept 0 [] ∷ Done ∷ [])
      s.after = subst (λ rs. ReportsAll w rs s.after) (sym s.reports_are) (units_reports w s.units s.after s.done)
      in
      let b0 : Begins w (all.1).0 all.0 = (all.1).1 in
      let same : q ≡ b0.preparation = cc (was, b0.was) in
      let mine : (all.1).0 ≡ 0 ∷ [] = sym b0.of_zones ∙ (sym (ap (λ (r : Preparation). r.zones) same) ∙ zones) in
      begun_misses all.0 (subst (λ z. Begins w z all.0) mine b0) s.after all.2

no_run : (u2 : World) → IsValid u2 → u2.graph ≡ w2.graph → (u3 u4 u5 v : World) → Prepares u2 (0 ∷ []) u3
    → CommandInWorld u3 (cmd.New 0 comp_0 0) (reply.Made 0) u4 → CommandInWorld u4 (cmd.Drop 0) reply.Accepted u5
    → IsValid u5 → (n : ℕ)
    → Slices u5 (Started ∷ Groups (only_zone_0 ∷ []) ∷ Ended only_zone_0 [] [] ∷ Swept 0 [] ∷ Done ∷ []) n v → ⊥
no_run u2 ok2 g2 u3 u4 u5 v pr h4 h5 ok5 n s =
    let q = first_preparation u2 (0 ∷ []) in
    let c3 : u3.preparing ≡ Some q = ap (λ (z : World). z.preparing) pr.world_is in
    let g3 : u3.graph ≡ w2.graph = ap (λ (z : World). z.graph) pr.world_is ∙ g2 in
    let p4 = placed_preparing u3 u4 (cmd.New 0 comp_0 0) (reply.Made 0) w2.graph g3 refl q c3 h4 (Cell 0) refl in
    let c4 : u4.preparing ≡ Some q = p4.preparing_is ∙ c3 in
    let q5 = quiet_preparing u4 u5 (cmd.Drop 0) reply.Accepted made_graph p4.graph_is refl q c4 h5 refl refl in
    let absent : (IsPresent u3 (Cell 0) → ⊥) =
    λ h. cc ((subst (λ g. IsMade g (Cell 0)) g2
    (ok2.made (Cell 0) (subst (λ m. map.contains_key m (Cell 0) ≡ true) (ap (λ (z : World). z.places) pr.world_is)
    h))).1) in
    let m = p4.made absent in
    let z0 : m.0 ≡ 0 = cc (m.2) in
    let owned : slice_get u4.owner (m.1).0 ≡ Some (Some 0) = place_owned u3 m.0 m.1 u4.owner m.3
    ∙ ap (λ z. Some (Some z)) z0 in
    let lies : map.get u4.places (Cell 0) ≡ Some m.1 = ap (λ t. map.get t (Cell 0)) m.4
    ∙ map.get-insert names_total u3.places (Cell 0) m.1 (Cell 0)
    ∙ ap (λ b. cond b (Some m.1) (map.get u3.places (Cell 0))) (eq_name-refl (Cell 0)) in
    slice_misses u5 ok5 (ap (λ (z : World). z.graph) q5) m.1 (ap (λ (z : World). map.get z.places (Cell 0)) q5 ∙ lies)
    (ap (λ (z : World). slice_get z.owner (m.1).0) q5 ∙ owned) q (ap (λ (z : World). z.preparing) q5 ∙ c4) refl n v
    s

pub freed_cell_is_missed_too : IsLawfulOutput made_while_preparing (answers_while_preparing []) → ⊥
freed_cell_is_missed_too (v, (u1, a1, (u2, a2, (u3, a3, (u4, a4, (u5, a5, (u6, a6, (u7, a7, more)))))))) =
    let q1 = quiet_after first_world u1 cmd.Zone (reply.Zone 0) first_world.graph refl refl refl a1.1 refl in
    let g1 : u1.graph ≡ w1.graph = ap (λ (z : World). z.graph) q1 in
    let c1 : u1.preparing ≡ None = ap (λ (z : World). z.preparing) q1 in
    let q2 = quiet_after u1 u2 (cmd.Comp 0) (reply.Comp comp_0) w1.graph g1 refl c1 a2.1 refl in
    let g2 : u2.graph ≡ w2.graph = ap (λ (z : World). z.graph) q2 in
    let ok2 : IsValid u2 = answer_valid u1 (Graph (cmd.Comp 0)) [] (reply.Comp comp_0) u2
    (answer_valid first_world (Graph cmd.Zone) [] (reply.Zone 0) u1 first_valid a1) a2 in
    let ok3 : IsValid u3 = answer_valid u2 (Gc only_zone_0) [] reply.GcBegun u3 ok2 a3 in
    let ok4 : IsValid u4 = answer_valid u3 (Graph (cmd.New 0 comp_0 0)) [] (reply.Made 0) u4 ok3 a4 in
    let ok5 : IsValid u5 = answer_valid u4 (Graph (cmd.Drop 0)) [] reply.Accepted u5 ok4 a5 in
    let same : u6 ≡ u5 = elim a6 [ inl h ↦ cc h.1 | inr h ↦ h.2.same ] in
    elim a3 [
      | inl h ↦ elim a7 [
        | inl s ↦ no_run u2 ok2 g2 u3 u4 u5 u7 (subst (λ z. Prepares u2 z u3) zones_in-first h.2) a4.1 a5.1 ok5 s.0
            (subst (λ z. Slices z (Started ∷ Groups (only_zone_0 ∷ []) ∷ Ended only_zone_0 [] [] ∷ Swept 0 [] ∷ Done
            ∷ []) s.0 u7) same s.2)
        | inr s ↦ cc s.0
      ]
      | inr n ↦ elim n [ inl h ↦ cc h.0 | inr h ↦ cc h.0 ]
    ]
