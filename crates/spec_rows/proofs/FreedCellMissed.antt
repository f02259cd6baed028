-- Linked and dropped: without the freed cell the answers are not lawful.
use Rattle.std.proofs.Common.{◌≡◌, ℕ, inl, inr, [], ◌∷◌, cond, refl, sym, ap, subst}
use Rattle.std.proofs.Common.{◌∙◌, Some, None, Contains, slice_get}
use Rattle.std.specs.FinMap as map
use Rattle.gz_names.specs.Order.{names_total}
use Rattle.gz_names.specs.declared.names.Name.{Name}
use Rattle.gz_names.specs.declared.names.Name.TheVariants.{Cell, Wrap}
use Rattle.gz_names.specs.declared.commands.GraphCmd.TheVariants as cmd
use Rattle.gz_names.specs.declared.replies.Reply.{Reply}
use Rattle.gz_names.specs.declared.replies.Reply.TheVariants as reply
use Rattle.gz_names.specs.declared.replies.Report.TheVariants.{Started, Groups, Ended, Swept, Done}
use Rattle.colour_defs.specs.Graph.{GraphState, value_of, IsInZones}
use Rattle.colour_defs.specs.Closure.{HasEdge}
use Rattle.colour_defs.specs.World.{World, Preparation, Names, Has, IsPresent, IsSettled, IsIdle}
use Rattle.colour_defs.specs.World.{BlackClosure, LiveClosure, first_world, first_preparation, marking_of}
use Rattle.colour_defs.specs.World.{CommandInWorld}
use Rattle.colour_defs.specs.Lawful.{Prepares, Begins, Collects, IsLawfulOutput}
use Rattle.spec_rows.specs.Rows.{comp_0, only_zone_0, linked_and_dropped, answers_without_freed_cell}
use Rattle.colour_defs.specs.Laws.{IsValid, IsMade}
use Rattle.colour_defs.proofs.Lists.{nothing_in_none, contains_head, contains_tail, contains_cases, no_name_in_nulls}
use Rattle.colour_defs.proofs.Names.{eq_name-refl}
use Rattle.colour_defs.proofs.ZoneSets.{zones_in-first}
use Rattle.colour_defs.proofs.Carried.{reached_more}
use Rattle.colour_defs.proofs.ValidCommands.{command_valid}
use Rattle.colour_defs.proofs.ValidRuns.{first_valid}
use Rattle.colour_defs.proofs.Finite.{members_empty}
use Rattle.spec_rows.proofs.Places.{reached_within, single}
use Rattle.spec_rows.proofs.LinkedAndDropped.{edges7, reg_root, w1, w2, w3, w4, w5, w6, w7}
use Rattle.spec_rows.proofs.Inverted.{quiet_after, placed_after, ReportsAll, units_reports, place_owned}
use Rattle.spec_rows.proofs.Told.{white_is_told, only_zone}

-- a world before the collection: the graph is known, and where cell 2 lies is known to be in an arena of zone 0
module _ (w : World) (ok : IsValid w) (at : w.graph ≡ w7.graph) (p : ℕ × ℕ) (lies : map.get w.places (Cell 2) ≡ Some p)
    (owned : slice_get w.owner p.0 ≡ Some (Some 0)) (idle : IsIdle w) where
  in_zone : (x : Name) → IsPresent w x → IsInZones w.graph (0 ∷ []) x
  in_zone x h = only_zone w.graph (ap (λ (g : GraphState). g.comps) at) x (ok.made x h)

  -- the world in which zone 0 is prepared
  abbrev prepared : Names → World
  prepared black = record w { black = black; preparing = Some (first_preparation w (0 ∷ [])) }

  module _ (black : Names) (empty : (x : Name) → Has black x → ⊥) (u : World) (b : Begins (prepared black) (0 ∷ []) u)
    where
      not_reached : LiveClosure b.collection (Cell 2) → ⊥
      not_reached h = elim (contains_cases (Cell 1) (Cell 0 ∷ []) (Cell 2) within)
          [ inl e ↦ cc e | inr t ↦ let q = single (Cell 0) (Cell 2) t in cc q ]
        where
          zero_in : Contains (Cell 1 ∷ Cell 0 ∷ []) (Cell 0)
          zero_in = contains_tail (Cell 1) (Cell 0 ∷ []) (Cell 0) (contains_head (Cell 0) [])

          blacks : (x : Name) → Has b.collection.black_starts x → Contains (Cell 1 ∷ Cell 0 ∷ []) x
          blacks x s = elim ((b.black_starts x).0 s) [
            | inl c ↦ subst (λ z. Contains (Cell 1 ∷ Cell 0 ∷ []) z)
                (reg_root x (subst (λ g. Contains g.registers (Some x)) at c)) zero_in
            | inr o ↦ absurd (empty x o)
          ]

          all : (x : Name) → Has b.collection.live_starts x → Contains (Cell 1 ∷ Cell 0 ∷ []) x
          all x s = elim ((b.live_starts x).0 s) [
            | inl c ↦ blacks x c
            | inr o ↦ elim o [
              | inl c ↦ absurd (no_name_in_nulls 64 x (subst (λ g. Contains g.slots (Some x)) at c))
              | inr
                  q ↦ absurd (q.1 (in_zone x q.0))
            ]
          ]

          snapshot : b.collection.snapshot ≡ w7.graph
          snapshot = b.snapshot_is ∙ at

          within : Contains (Cell 1 ∷ Cell 0 ∷ []) (Cell 2)
          within = reached_within b.collection.snapshot _ (Cell 1 ∷ Cell 0 ∷ [])
              (λ y s. elim s [
                | inl a ↦ all y a
                | inr t
                    ↦ absurd (nothing_in_none y ((members_empty y).0 (subst (λ r. Has r y) b.woken_is t)))
              ])
              (λ y z c d. subst (λ n. Contains (Cell 1 ∷ Cell 0 ∷ []) n)
              (edges7 y z (subst (λ g. HasEdge g y z) snapshot d)).1 (contains_head (Cell 1) (Cell 0 ∷ [])))
              (λ m q v f hm hq. let none : value_of w7.graph m q ≡ Some v =
              subst (λ g. value_of g m q ≡ Some v) snapshot f in absurd (cc none))
              (λ m v c t f hm ht. let none : value_of w7.graph m (Wrap c t) ≡ Some v =
              subst (λ g. value_of g m (Wrap c t) ≡ Some v) snapshot f in absurd (cc none))
              h

      not_in : (LiveClosure b.collection (Cell 2) → ⊥) × (BlackClosure b.collection (Cell 2) → ⊥)
      not_in = (
        not_reached,
        λ x. not_reached (reached_more b.collection.snapshot _ _
            (λ y q. elim q [ inl t ↦ inl ((b.live_starts y).1 (inl t)) | inr t ↦ inr t ]) x),
      )

  -- the zone is prepared and its marking has begun
  no_rest : (q : World) → Prepares w (0 ∷ []) q → (u : World) → Begins q (0 ∷ []) u → (v : World)
      → ReportsAll u (Groups (only_zone_0 ∷ []) ∷ Ended only_zone_0 [] [] ∷ Swept 0 [] ∷ Done ∷ []) v → ⊥
  no_rest q pr u b0 v all =
      let b : Begins (prepared q.black) (0 ∷ []) u = subst (λ z. Begins z (0 ∷ []) u) pr.world_is b0 in
      let settled : IsSettled w =
      record { none_marking = ap marking_of idle.none_running; none_preparing = idle.none_preparing } in
      let empty : (x : Name) → Has q.black x → ⊥ = λ x h. let d = (pr.black_are x).0 h in
      d.1 (in_zone x ((ok.settled settled).present x d.0)) in
      let graph : u.graph ≡ w7.graph = ap (λ (z : World). z.graph) b.world_is ∙ at in
      let owner : slice_get u.owner p.0 ≡ Some (Some 0) = ap (λ (z : World). slice_get z.owner p.0) b.world_is
      ∙ owned in
      let lying : map.get u.places (Cell 2) ≡ Some p = ap (λ (z : World). map.get z.places (Cell 2)) b.world_is
      ∙ lies in
      white_is_told u (Cell 2) p b.collection (ap (λ (z : World). z.collection) b.world_is)
      (subst (λ g. IsInZones g (0 ∷ []) (Cell 2)) (sym graph) refl) lying owner (not_in q.black empty u b) v all

  no_collect : (v : World)
      → Collects w (0 ∷ [])
      (Started ∷ Groups (only_zone_0 ∷ []) ∷ Ended only_zone_0 [] [] ∷ Swept 0 [] ∷ Done ∷ []) v → ⊥
  no_collect v c =
      let all : ReportsAll c.begun (Started ∷ Groups (only_zone_0 ∷ []) ∷ Ended only_zone_0 [] [] ∷ Swept 0 [] ∷ Done
      ∷ []) v = subst (λ rs. ReportsAll c.begun rs v) (sym c.reports_are) (units_reports c.begun c.units v c.done)
      in
      let pr : Prepares w (0 ∷ []) c.begun = c.begins in
      let b0 : Begins c.begun (all.1).0 all.0 = (all.1).1 in
      let same : first_preparation w (0 ∷ []) ≡ b0.preparation =
      cc (ap (λ (z : World). z.preparing) pr.world_is, b0.was) in
      let zones : (all.1).0 ≡ 0 ∷ [] = sym b0.of_zones ∙ sym (ap (λ (q : Preparation). q.zones) same) in
      no_rest c.begun pr all.0 (subst (λ z. Begins c.begun z all.0) zones b0) v all.2

-- the collection of a run over these lines
no_run : (u2 : World) → IsValid u2 → u2.graph ≡ w2.graph → u2.preparing ≡ None
    → (u3 u4 u5 u6 u7 v : World) (r3 r4 r5 r6 r7 : Reply)
    → CommandInWorld u2 (cmd.New 0 comp_0 1) r3 u3 → CommandInWorld u3 (cmd.New 1 comp_0 0) r4 u4
    → CommandInWorld u4 (cmd.Set 0 0 (Some 1)) r5 u5 → CommandInWorld u5 (cmd.New 1 comp_0 0) r6 u6
    → CommandInWorld u6 (cmd.Drop 1) r7 u7
    → Collects u7 (0 ∷ [])
    (Started ∷ Groups (only_zone_0 ∷ []) ∷ Ended only_zone_0 [] [] ∷ Swept 0 [] ∷ Done ∷ []) v → ⊥
no_run u2 ok2 g2 c2 u3 u4 u5 u6 u7 v r3 r4 r5 r6 r7 h3 h4 h5 h6 h7 c =
    let p3 = placed_after u2 u3 (cmd.New 0 comp_0 1) r3 w2.graph g2 refl c2 h3 (Cell 0) refl in
    let c3 : u3.preparing ≡ None = p3.preparing_is ∙ c2 in
    let p4 = placed_after u3 u4 (cmd.New 1 comp_0 0) r4 w3.graph p3.graph_is refl c3 h4 (Cell 1) refl in
    let c4 : u4.preparing ≡ None = p4.preparing_is ∙ c3 in
    let q5 = quiet_after u4 u5 (cmd.Set 0 0 (Some 1)) r5 w4.graph p4.graph_is refl c4 h5 refl in
    let c5 : u5.preparing ≡ None = ap (λ (z : World). z.preparing) q5 ∙ c4 in
    let g5 : u5.graph ≡ w5.graph = ap (λ (z : World). z.graph) q5 in
    let p6 = placed_after u5 u6 (cmd.New 1 comp_0 0) r6 w5.graph g5 refl c5 h6 (Cell 2) refl in
    let c6 : u6.preparing ≡ None = p6.preparing_is ∙ c5 in
    let q7 = quiet_after u6 u7 (cmd.Drop 1) r7 w6.graph p6.graph_is refl c6 h7 refl in
    let g7 : u7.graph ≡ w7.graph = ap (λ (z : World). z.graph) q7 in
    let ok3 = command_valid u2 u3 (cmd.New 0 comp_0 1) r3 ok2 h3 in
    let ok4 = command_valid u3 u4 (cmd.New 1 comp_0 0) r4 ok3 h4 in
    let ok5 = command_valid u4 u5 (cmd.Set 0 0 (Some 1)) r5 ok4 h5 in
    let ok6 = command_valid u5 u6 (cmd.New 1 comp_0 0) r6 ok5 h6 in
    let ok7 = command_valid u6 u7 (cmd.Drop 1) r7 ok6 h7 in
    let absent : (IsPresent u5 (Cell 2) → ⊥) = λ h. cc ((subst (λ g. IsMade g (Cell 2)) g5 (ok5.made (Cell 2) h)).1) in
    let m = p6.made absent in
    let z0 : m.0 ≡ 0 = cc (m.2) in
    let owned : slice_get u6.owner (m.1).0 ≡ Some (Some 0) = place_owned u5 m.0 m.1 u6.owner m.3
    ∙ ap (λ z. Some (Some z)) z0 in
    let lies : map.get u6.places (Cell 2) ≡ Some m.1 = ap (λ q. map.get q (Cell 2)) m.4
    ∙ map.get-insert names_total u5.places (Cell 2) m.1 (Cell 2)
    ∙ ap (λ b. cond b (Some m.1) (map.get u5.places (Cell 2))) (eq_name-refl (Cell 2)) in
    no_collect u7 ok7 g7 m.1 (ap (λ (z : World). map.get z.places (Cell 2)) q7 ∙ lies)
    (ap (λ (z : World). slice_get z.owner (m.1).0) q7 ∙ owned) c.begins.idle v
    c

pub freed_cell_is_missed : IsLawfulOutput linked_and_dropped answers_without_freed_cell
    → ⊥
freed_cell_is_missed (v, (u1, a1, (u2, a2, (u3, a3, (u4, a4, (u5, a5, (u6, a6, (u7, a7, (u8, a8, more))))))))) =
    let q1 = quiet_after first_world u1 cmd.Zone (reply.Zone 0) first_world.graph refl refl refl a1.1 refl in
    let g1 : u1.graph ≡ w1.graph = ap (λ (z : World). z.graph) q1 in
    let c1 : u1.preparing ≡ None = ap (λ (z : World). z.preparing) q1 in
    let q2 = quiet_after u1 u2 (cmd.Comp 0) (reply.Comp comp_0) w1.graph g1 refl c1 a2.1 refl in
    let g2 : u2.graph ≡ w2.graph = ap (λ (z : World). z.graph) q2 in
    let c2 : u2.preparing ≡ None = ap (λ (z : World). z.preparing) q2 ∙ c1 in
    let ok2 = command_valid u1 u2 (cmd.Comp 0) (reply.Comp comp_0)
    (command_valid first_world u1 cmd.Zone (reply.Zone 0) first_valid a1.1) a2.1 in
    elim a8 [
      | inl h ↦ no_run u2 ok2 g2 c2 u3 u4 u5 u6 u7 u8 (reply.Made 0) (reply.Made 1) reply.Accepted (reply.Made 2)
          reply.Accepted a3.1 a4.1 a5.1 a6.1 a7.1
          (subst (λ z. Collects u7 z
          (Started ∷ Groups (only_zone_0 ∷ []) ∷ Ended only_zone_0 [] [] ∷ Swept 0 [] ∷ Done ∷ []) u8)
          zones_in-first h.1)
      | inr n ↦ elim n [ inl h ↦ cc h.0 | inr h ↦ cc h.0 ]
    ]
