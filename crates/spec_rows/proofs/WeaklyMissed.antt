-- Named by a weak slot and watched: the answers are not lawful where the slot keeps what died, nor, after a compaction,
-- where the empty arena is kept.
use Rattle.std.proofs.Common.{◌≡◌, ◌+◌, ℕ, inl, inr, List, [], ◌∷◌, true, refl, sym, ap, subst, ◌∙◌}
use Rattle.std.proofs.Common.{arith, length, length-append, Option, Some, None, Contains, is_some, slice_get}
use Rattle.std.specs.Prelude.{count_by}
use Rattle.std.specs.FinMap as map
use Rattle.gz_names.specs.declared.names.Name.{Name}
use Rattle.gz_names.specs.declared.names.Name.TheVariants.{Cell}
use Rattle.gz_names.specs.declared.commands.GraphCmd.TheVariants as cmd
use Rattle.gz_names.specs.declared.commands.WeakCmd.TheVariants as weak_cmd
use Rattle.gz_names.specs.declared.commands.Cmd.TheVariants.{Graph, Weak, Collect}
use Rattle.gz_names.specs.declared.replies.Reply.TheVariants as reply
use Rattle.gz_names.specs.declared.replies.Report.TheVariants.{Started, Groups, Ended, Swept, Done}
use Rattle.colour_defs.specs.Graph.{register_cell, is_in_zones}
use Rattle.colour_defs.specs.Step.{step_of, named_or_null, with_register}
use Rattle.colour_defs.specs.World.{World, IsPresent, HasPlace, AcceptsIn, first_world}
use Rattle.colour_defs.specs.WeakRefs.{weak_cell, with_read, with_weak_slot, watch_cell}
use Rattle.colour_defs.specs.Ends.{arenas_from}
use Rattle.colour_defs.specs.Compaction.{Compacts}
use Rattle.colour_defs.specs.Lawful.{Answers, Collects, EndsGroup, FormsGroups, IsLawfulSweep, Finishes}
use Rattle.colour_defs.specs.Lawful.{IsLawfulOutput}
use Rattle.spec_rows.specs.Rows.{comp_0, only_zone_0, weakly_named, answers_weakly_named, compacted}
use Rattle.spec_rows.specs.Rows.{answers_compacted}
use Rattle.colour_defs.specs.Laws.{IsValid}
use Rattle.colour_defs.proofs.Lists.{nothing_in_none, contains_head}
use Rattle.colour_defs.proofs.ZoneSets.{zones_in-first}
use Rattle.colour_defs.proofs.ValidCommands.{placed_fresh}
use Rattle.colour_defs.proofs.ValidRuns.{answer_valid, first_valid, no_one}
use Rattle.spec_rows.proofs.Inverted.{quiet_after, placed_after, ReportsAll, units_reports, place_owned, arena_listed}
use Rattle.spec_rows.proofs.WeaklyNamed.{no_keys}
use Rattle.spec_rows.proofs.LinkedAndDropped.{w1, w2}

-- what a collection of zone 0 leaves whose sweep freed cell 0
record Leaves (w v : World) : Type 0 where
  freed : IsPresent v (Cell 0) → ⊥
  fewer : (x : Name) → IsPresent v x → IsPresent w x
  owner_is : v.owner ≡ w.owner

after_units : (w v : World)
    → ReportsAll w (Groups (only_zone_0 ∷ []) ∷ Ended only_zone_0 [] (Cell 0 ∷ []) ∷ Swept 0 (Cell 0 ∷ []) ∷ Done ∷ [])
    v → Leaves w v
after_units w v all =
    let f : FormsGroups w ((0 ∷ []) ∷ []) all.0 = subst (λ z. FormsGroups w (z ∷ []) all.0) zones_in-first all.1 in
    let e : EndsGroup all.0 (0 ∷ []) [] (Cell 0 ∷ []) all.2.0 =
    subst (λ z. EndsGroup all.0 z [] (Cell 0 ∷ []) all.2.0) zones_in-first all.2.1 in
    let s : IsLawfulSweep all.2.0 0 (Cell 0 ∷ []) all.2.2.0 = all.2.2.1 in
    let d : Finishes all.2.2.0 all.2.2.2.0 = all.2.2.2.1 in
    let last : v ≡ all.2.2.2.0 = all.2.2.2.2 in
    let places : v.places ≡ (all.2.0).places = ap (λ (z : World). z.places) last
    ∙ (ap (λ (z : World). z.places) d.world_is ∙ ap (λ (z : World). z.places) s.world_is) in
    let before : (all.0).places ≡ w.places = ap (λ (z : World). z.places) f.world_is in
    let white = (s.freed_are.has (Cell 0)).0 (contains_head (Cell 0) []) in
    let was = (e.ends.white_are (Cell 0) (0, white.0)).0 white.1 in
    let none : map.get (all.2.0).places (Cell 0) ≡ None = e.ends.gone (Cell 0) was.0 in
    record {
      freed = λ p. cc (p, ap is_some (ap (λ m. map.get m (Cell 0)) places ∙ none));
      fewer = λ x p.
          let here : IsPresent all.2.0 x = subst (λ m. map.contains_key m x ≡ true) places p in
          let same : map.get (all.2.0).places x ≡ map.get (all.0).places x =
          e.ends.stay x (λ dead. cc (here, ap is_some (e.ends.gone x dead))) in
          subst (λ m. map.contains_key m x ≡ true) before (sym (ap is_some same) ∙ here);
      owner_is = ap (λ (z : World). z.owner) last
          ∙ (ap (λ (z : World). z.owner) d.world_is
          ∙ (ap (λ (z : World). z.owner) s.world_is ∙ (e.ends.owner_is ∙ ap (λ (z : World). z.owner) f.world_is)));
    }

same_cells : (w u v : World) → u.places ≡ w.places → u.owner ≡ w.owner → Leaves u v → Leaves w v
same_cells w u v places owner l = record {
  freed = l.freed;
  fewer = λ x p. subst (λ m. map.contains_key m x ≡ true) places (l.fewer x p);
  owner_is = l.owner_is ∙ owner;
}

after_collection : (w v : World)
    → Collects w (0 ∷ [])
    (Started ∷ Groups (only_zone_0 ∷ []) ∷ Ended only_zone_0 [] (Cell 0 ∷ []) ∷ Swept 0 (Cell 0 ∷ []) ∷ Done
    ∷ []) v → Leaves w v
after_collection w v c =
    let all : ReportsAll c.begun (Started ∷ Groups (only_zone_0 ∷ []) ∷ Ended only_zone_0 [] (Cell 0 ∷ [])
    ∷ Swept 0 (Cell 0 ∷ []) ∷ Done ∷ []) v =
    subst (λ rs. ReportsAll c.begun rs v) (sym c.reports_are) (units_reports c.begun c.units v c.done) in
    let p = c.begins in
    let b = (all.1).1 in
    same_cells w all.0 v (ap (λ (z : World). z.places) b.world_is ∙ ap (λ (z : World). z.places) p.world_is)
    (ap (λ (z : World). z.owner) b.world_is ∙ ap (λ (z : World). z.owner) p.world_is) (after_units all.0 v all.2)

-- what a weak slot names, by what reading it answers
named_is_present : (w : World) → IsValid w → reply.Named (Cell 0) ≡ named_or_null (weak_cell w 0) → IsPresent w (Cell 0)
named_is_present w ok e = go (weak_cell w 0) refl e
  where
    go : (o : Option Name) → weak_cell w 0 ≡ o → reply.Named (Cell 0) ≡ named_or_null o → IsPresent w (Cell 0)
    go None at e = absurd (cc e)
    go (Some x) at e = let same : Cell 0 ≡ x = cc e in subst (λ z. IsPresent w z) (sym same) (ok.presence.weak 0 x at)

nothing_named : (o : Option Name) → reply.Null ≡ named_or_null o → o ≡ None
nothing_named None e = refl
nothing_named (Some x) e = absurd (cc e)

no_length : (xs : List ℕ) → length xs ≡ 0 → xs ≡ []
no_length [] e = refl
no_length (x ∷ xs) e = absurd (cc e)

watch_places : (w : World) (o : Option Name) → ((watch_cell w o).0).places ≡ w.places
watch_places w None = refl
watch_places w (Some x) = refl

watch_owner : (w : World) (o : Option Name) → ((watch_cell w o).0).owner ≡ w.owner
watch_owner w None = refl
watch_owner w (Some x) = refl

watch_preparing : (w : World) (o : Option Name) → ((watch_cell w o).0).preparing ≡ w.preparing
watch_preparing w None = refl
watch_preparing w (Some x) = refl

-- the lines up to the collection
module _ (u1 u2 u3 u4 u5 u6 u7 : World)
    (b1 : Answers first_world (Graph cmd.Zone) [] (reply.Zone 0) u1)
    (b2 : Answers u1 (Graph (cmd.Comp 0)) [] (reply.Comp comp_0) u2)
    (b3 : Answers u2 (Graph (cmd.New 0 comp_0 0)) [] (reply.Made 0) u3)
    (b4 : Answers u3 (Weak (weak_cmd.Weaken 0 0)) [] reply.Accepted u4)
    (b5 : Answers u4 (Weak (weak_cmd.Watch 0)) [] reply.Accepted u5)
    (b6 : Answers u5 (Graph (cmd.Drop 0)) [] reply.Accepted u6)
    (c : Collects u6 (0 ∷ [])
    (Started ∷ Groups (only_zone_0 ∷ []) ∷ Ended only_zone_0 [] (Cell 0 ∷ []) ∷ Swept 0 (Cell 0 ∷ []) ∷ Done
    ∷ []) u7) where
  b7 : Answers u6 (Collect only_zone_0)
      (Started ∷ Groups (only_zone_0 ∷ []) ∷ Ended only_zone_0 [] (Cell 0 ∷ []) ∷ Swept 0 (Cell 0 ∷ []) ∷ Done
      ∷ []) reply.Collected u7
  b7 = inl (
    refl,
    subst
        (λ z. Collects u6 z
        (Started ∷ Groups (only_zone_0 ∷ []) ∷ Ended only_zone_0 [] (Cell 0 ∷ []) ∷ Swept 0 (Cell 0 ∷ []) ∷ Done
        ∷ []) u7) (sym zones_in-first) c,
  )

  ok3 : IsValid u3
  ok3 = answer_valid u2 (Graph (cmd.New 0 comp_0 0)) [] (reply.Made 0) u3
      (answer_valid u1 (Graph (cmd.Comp 0)) [] (reply.Comp comp_0) u2
      (answer_valid first_world (Graph cmd.Zone) [] (reply.Zone 0) u1 first_valid b1) b2) b3

  ok7 : IsValid u7
  ok7 = answer_valid u6 (Collect only_zone_0) _ reply.Collected u7
      (answer_valid u5 (Graph (cmd.Drop 0)) [] reply.Accepted u6
      (answer_valid u4 (Weak (weak_cmd.Watch 0)) [] reply.Accepted u5
      (answer_valid u3 (Weak (weak_cmd.Weaken 0 0)) [] reply.Accepted u4 ok3 b4) b5) b6) b7

  left : Leaves u6 u7
  left = after_collection u6 u7 c

  pub reads_nothing : reply.Named (Cell 0) ≡ named_or_null (weak_cell u7 0) → ⊥
  reads_nothing e = left.freed (named_is_present u7 ok7 e)

  -- only cell 0 was made, in an arena of zone 0
  calm2 : u2.preparing ≡ None
  calm2 =
      let q1 = quiet_after first_world u1 cmd.Zone (reply.Zone 0) first_world.graph refl refl refl b1.1 refl in
      let q2 = quiet_after u1 u2 (cmd.Comp 0) (reply.Comp comp_0) w1.graph (ap (λ (z : World). z.graph) q1) refl
      (ap (λ (z : World). z.preparing) q1) b2.1 refl in
      ap (λ (z : World). z.preparing) q2 ∙ ap (λ (z : World). z.preparing) q1

  graph2 : u2.graph ≡ w2.graph
  graph2 =
      let q1 = quiet_after first_world u1 cmd.Zone (reply.Zone 0) first_world.graph refl refl refl b1.1 refl in
      ap (λ (z : World). z.graph)
      (quiet_after u1 u2 (cmd.Comp 0) (reply.Comp comp_0) w1.graph (ap (λ (z : World). z.graph) q1) refl
      (ap (λ (z : World). z.preparing) q1) b2.1 refl)

  none2 : (x : Name) → IsPresent u2 x → ⊥
  none2 x p =
      let q1 = quiet_after first_world u1 cmd.Zone (reply.Zone 0) first_world.graph refl refl refl b1.1 refl in
      let q2 = quiet_after u1 u2 (cmd.Comp 0) (reply.Comp comp_0) w1.graph (ap (λ (z : World). z.graph) q1) refl
      (ap (λ (z : World). z.preparing) q1) b2.1 refl in
      no_one x (subst (λ m. map.contains_key m x ≡ true)
      (ap (λ (z : World). z.places) q2 ∙ ap (λ (z : World). z.places) q1) p)

  placed : HasPlace u2 (step_of w2.graph (cmd.New 0 comp_0 0)).0 (Cell 0) u3
  placed = placed_after u2 u3 (cmd.New 0 comp_0 0) (reply.Made 0) w2.graph graph2 refl calm2 b3.1 (Cell 0) refl

  only3 : (x : Name) → IsPresent u3 x → Cell 0 ≡ x
  only3 x p = elim (placed_fresh u2.places (Cell 0) ((placed.made (none2 (Cell 0))).1) x
      (subst (λ m. map.contains_key m x ≡ true) (placed.made (none2 (Cell 0))).4 p))
      [ inl was ↦ absurd (none2 x was) | inr e ↦ e ]

  -- the weak commands and the drop leave places and arenas as they are
  same6 : (u6.places ≡ u3.places) × (u6.owner ≡ u3.owner)
  same6 =
      let e4 : u4 ≡ with_weak_slot u3 0 (register_cell u3.graph 0) = b4.1.1 in
      let e5 : u5 ≡ (watch_cell u4 (register_cell u4.graph 0)).0 = b5.1.1 in
      let c5 : u5.preparing ≡ None = ap (λ (z : World). z.preparing) e5
      ∙ (watch_preparing u4 (register_cell u4.graph 0)
      ∙ (ap (λ (z : World). z.preparing) e4 ∙ (placed.preparing_is ∙ calm2))) in
      let e6 = quiet_after u5 u6 (cmd.Drop 0) reply.Accepted u5.graph refl refl c5 b6.1 refl in (
        ap (λ (z : World). z.places) e6
            ∙ (ap (λ (z : World). z.places) e5
            ∙ (watch_places u4 (register_cell u4.graph 0) ∙ ap (λ (z : World). z.places) e4)),
        ap (λ (z : World). z.owner) e6
            ∙ (ap (λ (z : World). z.owner) e5
            ∙ (watch_owner u4 (register_cell u4.graph 0) ∙ ap (λ (z : World). z.owner) e4)),
      )

  none7 : (x : Name) → IsPresent u7 x → ⊥
  none7 x p =
      let e : Cell 0 ≡ x = only3 x (subst (λ m. map.contains_key m x ≡ true) same6.0 (left.fewer x p)) in
      left.freed (subst (λ z. IsPresent u7 z) (sym e) p)

  owned7 : (a : ℕ) × (slice_get u7.owner a ≡ Some (Some 0))
  owned7 =
      let m = placed.made (none2 (Cell 0)) in
      let z0 : m.0 ≡ 0 = cc (m.2) in
      let owned : slice_get u3.owner (m.1).0 ≡ Some (Some 0) = place_owned u2 m.0 m.1 u3.owner m.3
      ∙ ap (λ z. Some (Some z)) z0 in
      ((m.1).0, ap (λ o. slice_get o (m.1).0) (left.owner_is ∙ same6.1) ∙ owned)

  module _ (u8 u9 : World) (b8 : Answers u7 (Weak (weak_cmd.Deref 1 0)) [] reply.Null u8) where
    same8 : (u8.places ≡ u7.places) × (u8.owner ≡ u7.owner)
    same8 =
        let a : AcceptsIn None u7 (with_read u7.graph (weak_cell u7 0) u7.collection)
        (with_register u7.graph 1 (weak_cell u7 0)) (weak_cell u7 0) None u8 =
        subst (λ p. AcceptsIn p u7 (with_read u7.graph (weak_cell u7 0) u7.collection)
        (with_register u7.graph 1 (weak_cell u7 0)) (weak_cell u7 0) None u8) c.over.none_preparing b8.1.1 in
        let e : u8 ≡ record u7 {
          graph = with_register u7.graph 1 (weak_cell u7 0);
          collection = with_read u7.graph (weak_cell u7 0) u7.collection;
        } =
        subst (λ o. AcceptsIn None u7 (with_read u7.graph (weak_cell u7 0) u7.collection)
        (with_register u7.graph 1 (weak_cell u7 0)) o None u8) (nothing_named (weak_cell u7 0) b8.1.0) a in
        (ap (λ (z : World). z.places) e, ap (λ (z : World). z.owner) e)

    pub gives_none_up : Compacts u8 0 0 0 u9 → ⊥
    gives_none_up t =
        let none : count_by (λ x. is_in_zones u8.graph (0 ∷ []) x) (map.keys u8.places) ≡ 0 =
        ap (λ ks. count_by (λ x. is_in_zones u8.graph (0 ∷ []) x) ks)
        (no_keys u8.places (λ x p. none7 x (subst (λ m. map.contains_key m x ≡ true) same8.0 p))) in
        let few = t.few.1 in
        let given = t.given_is in
        let all : length (arenas_from 0 u8.owner (0 ∷ [])) ≡ length t.kept + length t.given_up =
        ap (λ (l : List ℕ). length l) t.arenas_are ∙ length-append t.kept t.given_up in
        let empty : arenas_from 0 u8.owner (0 ∷ []) ≡ [] =
        no_length (arenas_from 0 u8.owner (0 ∷ [])) (omega (arith, none, few, given, all)) in
        let listed : Contains (arenas_from 0 u8.owner (0 ∷ [])) (0 + owned7.0) =
        arena_listed 0 u8.owner (0 ∷ []) owned7.0 0 (ap (λ o. slice_get o owned7.0) same8.1 ∙ owned7.1) refl in
        nothing_in_none (0 + owned7.0) (subst (λ l. Contains l (0 + owned7.0)) empty listed)

-- these lines are a collection
collects : (w v : World)
    → Answers w (Collect only_zone_0)
    (Started ∷ Groups (only_zone_0 ∷ []) ∷ Ended only_zone_0 [] (Cell 0 ∷ []) ∷ Swept 0 (Cell 0 ∷ []) ∷ Done
    ∷ []) reply.Collected v
    → Collects w (0 ∷ [])
    (Started ∷ Groups (only_zone_0 ∷ []) ∷ Ended only_zone_0 [] (Cell 0 ∷ []) ∷ Swept 0 (Cell 0 ∷ []) ∷ Done ∷ []) v
collects w v (inl h) =
    subst (λ z. Collects w z
    (Started ∷ Groups (only_zone_0 ∷ []) ∷ Ended only_zone_0 [] (Cell 0 ∷ []) ∷ Swept 0 (Cell 0 ∷ []) ∷ Done
    ∷ []) v) zones_in-first h.1
collects w v (inr (inl h)) = absurd (cc h.0)
collects w v (inr (inr h)) = absurd (cc h.0)

pub slot_keeps_nothing : IsLawfulOutput weakly_named (answers_weakly_named (reply.Named (Cell 0))) → ⊥
slot_keeps_nothing (v, (u1, b1, (u2, b2, (u3, b3, (u4, b4, (u5, b5, (u6, b6, (u7, b7, (u8, b8, more))))))))) =
    reads_nothing u1 u2 u3 u4 u5 u6 u7 b1 b2 b3 b4 b5 b6 (collects u6 u7 b7) b8.1.0

pub arena_is_given_up : IsLawfulOutput compacted (answers_compacted 0) → ⊥
arena_is_given_up
    (v, (u1, b1, (u2, b2, (u3, b3, (u4, b4, (u5, b5, (u6, b6, (u7, b7, (u8, b8, (u9, b9, more)))))))))) = elim b9 [
      | inl h ↦
          let moved : 0 ≡ h.0 = cc h.2 in
          let given : 0 ≡ h.1 = cc h.2 in
          gives_none_up u1 u2 u3 u4 u5 u6 u7 b1 b2 b3 b4 b5 b6 (collects u6 u7 b7) u8 u9 b8
          (subst (λ n. Compacts u8 0 0 n u9) (sym given) (subst (λ n. Compacts u8 0 n h.1 u9) (sym moved) h.4))
      | inr n ↦ elim n [ inl h ↦ cc h.0 | inr h ↦ cc h.0 ]
    ]
