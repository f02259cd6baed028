-- Linked and dropped: the answers are lawful.
use Rattle.std.proofs.Common.{◌≡◌, ℕ, zero, suc, ◌+◌, ◌<◌, inl, inr, List, [], ◌∷◌, Bool, true, false, cond, refl}
use Rattle.std.proofs.Common.{sym, ap, subst, ◌∙◌, arith, Option, Some, None, Contains, is_some, slice_get, replicate}
use Rattle.std.specs.FinSet as set
use Rattle.std.specs.FinMap as map
use Rattle.gz_names.specs.Order.{same_name}
use Rattle.gz_names.specs.declared.names.Name.{Name}
use Rattle.gz_names.specs.declared.names.Name.TheVariants.{Cell, Wrap}
use Rattle.gz_names.specs.declared.commands.GraphCmd.TheVariants as cmd
use Rattle.gz_names.specs.declared.commands.Cmd.TheVariants.{Graph, Collect}
use Rattle.gz_names.specs.declared.replies.Reply.TheVariants as reply
use Rattle.gz_names.specs.declared.replies.Report.TheVariants.{Started, Groups, Ended, Swept, Done}
use Rattle.colour_defs.specs.Graph.{value_of, IsInZones}
use Rattle.colour_defs.specs.Closure.{HasEdge, from, along}
use Rattle.colour_defs.specs.Step.{step_of}
use Rattle.colour_defs.specs.World.{World, Collection, first_preparation, Names, Has, IsPresent, BlackClosure}
use Rattle.colour_defs.specs.World.{LiveClosure, first_world, first_tally}
use Rattle.colour_defs.specs.Ends.{IsLawfulEnd, IsWhiteOf}
use Rattle.colour_defs.specs.Lawful.{Answers, Begins, IsLawfulOutput}
use Rattle.spec_rows.specs.Rows.{comp_0, only_zone_0, linked_and_dropped, answers_linked_and_dropped}
use Rattle.colour_defs.specs.Laws.{IsValid}
use Rattle.colour_defs.proofs.Lists.{nothing_in_none, contains_head, contains_tail, contains_cases, no_name_in_nulls}
use Rattle.colour_defs.proofs.Names.{same_name-is}
use Rattle.colour_defs.proofs.Membership.{white_of}
use Rattle.colour_defs.proofs.ValidCommands.{insert_has}
use Rattle.colour_defs.proofs.ValidRuns.{answer_valid, first_valid}
use Rattle.colour_defs.proofs.Finite.{Members, members_empty, members_insert, insert_cases, no_name}
use Rattle.spec_rows.proofs.Places.{Places, place_in, places_empty, places_insert, reached_within, fresh_slot}
use Rattle.spec_rows.proofs.Places.{place_named, single, each_has}
use Rattle.spec_rows.proofs.Making.{room_next, room_first, made_world, new_lawful}
use Rattle.spec_rows.proofs.OneWhite.{after_remove, one_gone, others_stay, one_white, sweep_of_one}
use Rattle.colour_defs.proofs.NothingWeak.{loses_nothing}
use Rattle.spec_rows.proofs.OneZone.{prepared, prepares_one, grouped, forms_one_group, collect_lawful}

abbrev pub w1 : World
w1 = record first_world { graph = (step_of first_world.graph cmd.Zone).0 }

abbrev pub w2 : World
w2 = record w1 { graph = (step_of w1.graph (cmd.Comp 0)).0 }

abbrev pub w3 : World
w3 = made_world w2 0 comp_0 1 (0, 0) (Some 0 ∷ [])

abbrev pub w4 : World
w4 = made_world w3 1 comp_0 0 (0, 1) (Some 0 ∷ [])

abbrev pub w5 : World
w5 = record w4 { graph = (step_of w4.graph (cmd.Set 0 0 (Some 1))).0 }

abbrev pub w6 : World
w6 = made_world w5 1 comp_0 0 (0, 2) (Some 0 ∷ [])

abbrev pub w7 : World
w7 = record w6 { graph = (step_of w6.graph (cmd.Drop 1)).0 }

pub a1 : Answers first_world (Graph cmd.Zone) [] (reply.Zone 0) w1
a1 = (refl, (refl, refl))

pub a2 : Answers w1 (Graph (cmd.Comp 0)) [] (reply.Comp comp_0) w2
a2 = (refl, (refl, refl))

pub v2 : IsValid w2
v2 = answer_valid w1 (Graph (cmd.Comp 0)) [] (reply.Comp comp_0) w2
    (answer_valid first_world (Graph cmd.Zone) [] (reply.Zone 0) w1 first_valid a1) a2

pub a3 : Answers w2 (Graph (cmd.New 0 comp_0 1)) [] (reply.Made 0) w3
a3 = new_lawful w2 0 comp_0 1 0 (0, 0) (Some 0 ∷ []) v2 (record { none_running = refl; none_preparing = refl }) refl
    refl (room_first w2 0 (λ b e. cc e))

v3 : IsValid w3
v3 = answer_valid w2 (Graph (cmd.New 0 comp_0 1)) [] (reply.Made 0) w3 v2 a3

pub only_arena : (b : ℕ) → slice_get {X = Option ℕ} (Some 0 ∷ []) b ≡ Some (Some 0) → b ≡ 0
only_arena zero e = refl
only_arena (suc b) e = absurd (cc e)

abbrev pub p3 : List (Name × (ℕ × ℕ))
p3 = (Cell 0, (0, 0)) ∷ []

abbrev pub p4 : List (Name × (ℕ × ℕ))
p4 = (Cell 1, (0, 1)) ∷ p3

abbrev pub p6 : List (Name × (ℕ × ℕ))
p6 = (Cell 2, (0, 2)) ∷ p4

places3 : Places w3.places p3
places3 = places_insert map.empty [] (Cell 0) (0, 0) places_empty

pub places4 : Places w4.places p4
places4 = places_insert w3.places p3 (Cell 1) (0, 1) places3

places6 : Places w6.places p6
places6 = places_insert w5.places p4 (Cell 2) (0, 2) places4

used3 : (s : ℕ) → s < 1 → (x : Name) × (map.get w3.places x ≡ Some (0, s))
used3 zero h = (Cell 0, places3 (Cell 0))
used3 (suc s) h = absurd (omega arith)

pub a4 : Answers w3 (Graph (cmd.New 1 comp_0 0)) [] (reply.Made 1) w4
a4 = new_lawful w3 1 comp_0 0 0 (0, 1) (Some 0 ∷ []) v3 (record { none_running = refl; none_preparing = refl }) refl
    refl (room_next w3 0 0 1 refl only_arena refl (omega arith) used3
    (λ x e. fresh_slot p3 (0, 1) refl x (sym (places3 x) ∙ e)))

v4 : IsValid w4
v4 = answer_valid w3 (Graph (cmd.New 1 comp_0 0)) [] (reply.Made 1) w4 v3 a4

pub a5 : Answers w4 (Graph (cmd.Set 0 0 (Some 1))) [] reply.Accepted w5
a5 = (refl, (refl, refl))

pub v5 : IsValid w5
v5 = answer_valid w4 (Graph (cmd.Set 0 0 (Some 1))) [] reply.Accepted w5 v4 a5

used5 : (s : ℕ) → s < 2 → (x : Name) × (map.get w5.places x ≡ Some (0, s))
used5 zero h = (Cell 0, places4 (Cell 0))
used5 (suc zero) h = (Cell 1, places4 (Cell 1))
used5 (suc (suc s)) h = absurd (omega arith)

pub a6 : Answers w5 (Graph (cmd.New 1 comp_0 0)) [] (reply.Made 2) w6
a6 = new_lawful w5 1 comp_0 0 0 (0, 2) (Some 0 ∷ []) v5 (record { none_running = refl; none_preparing = refl }) refl
    refl (room_next w5 0 0 2 refl only_arena refl (omega arith) used5
    (λ x e. fresh_slot p4 (0, 2) refl x (sym (places4 x) ∙ e)))

pub a7 : Answers w6 (Graph (cmd.Drop 1)) [] reply.Accepted w7
a7 = (refl, (refl, refl))

-- the collection
abbrev roots : Names
roots = set.insert set.empty (Cell 0)

abbrev k0 : Collection
k0 = record {
  zones = 0 ∷ [];
  marking = 0 ∷ [];
  snapshot = w7.graph;
  black_starts = roots;
  live_starts = roots;
  woken = set.empty;
  groups = None;
  tally = first_tally (prepared w7) (first_preparation w7 (0 ∷ []));
}

abbrev u0 : World
u0 = record w7 { black = set.empty; collection = Some k0 }

root : (x : Name) → Has roots x → Cell 0 ≡ x
root x h = elim (insert_cases set.empty (Cell 0) x h)
    [ inl none ↦ absurd (nothing_in_none x ((members_empty x).0 none)) | inr e ↦ e ]

black7 : Members w7.black (Cell 2 ∷ Cell 1 ∷ Cell 0 ∷ [])
black7 = members_insert (set.insert (set.insert set.empty (Cell 0)) (Cell 1)) (Cell 1 ∷ Cell 0 ∷ []) (Cell 2)
    (members_insert (set.insert set.empty (Cell 0)) (Cell 0 ∷ []) (Cell 1)
    (members_insert set.empty [] (Cell 0) members_empty))

present7 : (x : Name) → IsPresent w7 x → Contains (Cell 2 ∷ Cell 1 ∷ Cell 0 ∷ []) x
present7 x h = place_named p6 x (sym (ap is_some (places6 x)) ∙ h)

all_in_zone : (x : Name) → Contains (Cell 2 ∷ Cell 1 ∷ Cell 0 ∷ []) x → IsInZones w7.graph (0 ∷ []) x
all_in_zone = each_has (λ x. IsInZones w7.graph (0 ∷ []) x) (Cell 2 ∷ Cell 1 ∷ Cell 0 ∷ []) (refl, (refl, (refl, tt)))

pub reg_root : (x : Name) → Contains w7.graph.registers (Some x) → Cell 0 ≡ x
reg_root x c = elim (contains_cases (Some (Cell 0)) (replicate 15 None) (Some x) c)
    [ inl e ↦ cc e | inr t ↦ absurd (no_name_in_nulls 15 x t) ]

begins : Begins (prepared w7) (0 ∷ []) u0
begins = record {
  preparation = first_preparation w7 (0 ∷ []);
  was = refl;
  of_zones = refl;
  collection = k0;
  world_is = refl;
  zones_are = refl;
  marking_are = refl;
  snapshot_is = refl;
  woken_is = refl;
  groups_are = refl;
  tally_is = refl;
  black_starts = λ x. (
    (λ h. inl (subst (λ z. Contains w7.graph.registers (Some z)) (root x h)
        (contains_head (Some (Cell 0)) (replicate 15 None)))),
    λ h. elim h [
      | inl c ↦ subst (λ z. Has roots z) (reg_root x c) (insert_has set.empty (Cell 0))
      | inr b ↦ absurd (no_name x b)
    ],
  );
  live_starts = λ x. (
    (λ h. inl h),
    λ h. elim h [
      | inl b ↦ b
      | inr o ↦ elim o [
        | inl s ↦ absurd (no_name_in_nulls 64 x s)
        | inr p
            ↦ absurd (p.1 (all_in_zone x (present7 x p.0)))
      ]
    ],
  );
}

abbrev k1 : Collection
k1 = grouped k0

abbrev u1 : World
u1 = record w7 { black = set.empty; collection = Some k1 }

pub edges7 : (x y : Name) → HasEdge w7.graph x y → (Cell 0 ≡ x) × (Cell 1 ≡ y)
edges7 (Cell zero) y e = let q = single (Some (Cell 1)) (Some y) e in (refl, cc q)
edges7 (Cell (suc zero)) y e = absurd (nothing_in_none (Some y) e)
edges7 (Cell (suc (suc zero))) y e = absurd (nothing_in_none (Some y) e)
edges7 (Cell (suc (suc (suc n)))) y e = absurd e
edges7 (Wrap c t) y e = absurd (cc e.1)

-- what is reached from the root
within : (k : Collection) → k.snapshot ≡ w7.graph → k.black_starts ≡ roots → k.live_starts ≡ roots → k.woken ≡ set.empty
    → (x : Name) → LiveClosure k x → Contains (Cell 1 ∷ Cell 0 ∷ []) x
within k es eb ea ew x h = reached_within k.snapshot _ (Cell 1 ∷ Cell 0 ∷ [])
    (λ y s. elim s [
      | inl a ↦ subst (λ z. Contains (Cell 1 ∷ Cell 0 ∷ []) z) (root y (subst (λ r. Has r y) ea a))
          (contains_tail (Cell 1) (Cell 0 ∷ []) (Cell 0) (contains_head (Cell 0) []))
      | inr t ↦ absurd (nothing_in_none y ((members_empty y).0 (subst (λ r. Has r y) ew t)))
    ])
    (λ y z c d. subst (λ n. Contains (Cell 1 ∷ Cell 0 ∷ []) n) (edges7 y z (subst (λ g. HasEdge g y z) es d)).1
    (contains_head (Cell 1) (Cell 0 ∷ [])))
    (λ m q v at hm hq. let none : value_of w7.graph m q ≡ Some v = subst (λ g. value_of g m q ≡ Some v) es at in
    absurd (cc none))
    (λ m v c t at hm ht. let none : value_of w7.graph m (Wrap c t) ≡ Some v =
    subst (λ g. value_of g m (Wrap c t) ≡ Some v) es at in absurd (cc none))
    h

black0 : BlackClosure k1 (Cell 0)
black0 = from (inl (insert_has set.empty (Cell 0)))

black1 : BlackClosure k1 (Cell 1)
black1 = along black0 (contains_head (Some (Cell 1)) [])

both_black : (x : Name) → Contains (Cell 1 ∷ Cell 0 ∷ []) x → BlackClosure k1 x
both_black = each_has (BlackClosure k1) (Cell 1 ∷ Cell 0 ∷ []) (black1, (black0, tt))

all_black : (x : Name) → LiveClosure k1 x → BlackClosure k1 x
all_black x h = both_black x (within k1 refl refl refl refl x h)

black_all : (x : Name) → BlackClosure k1 x → LiveClosure k1 x
black_all x h = h

two_is_garbage : LiveClosure k1 (Cell 2) → ⊥
two_is_garbage h = elim (contains_cases (Cell 1) (Cell 0 ∷ []) (Cell 2) (within k1 refl refl refl refl (Cell 2) h))
    [ inl e ↦ cc e | inr t ↦ let q = single (Cell 0) (Cell 2) t in cc q ]

white2 : IsWhiteOf u1 k1 (0 ∷ []) (Cell 2)
white2 = white_of u1 k1 (0 ∷ []) (Cell 2) (ap is_some (places6 (Cell 2))) refl two_is_garbage
    (λ b. two_is_garbage (black_all (Cell 2) b))

-- only cell 2 is white
white_only : (x : Name) → IsWhiteOf u1 k1 (0 ∷ []) x → Cell 2 ≡ x
white_only x h = elim (contains_cases (Cell 2) (Cell 1 ∷ Cell 0 ∷ []) x (present7 x h.present))
    [ inl e ↦ e | inr t ↦ absurd (h.white.not_black (both_black x t)) ]

abbrev k2 : Collection
k2 = record k1 { marking = []; groups = Some [] }

abbrev u2 : World
u2 = record w7 {
  places = map.remove w7.places (Cell 2);
  out = 0 ∷ [];
  white = (Cell 2, (0, 2)) ∷ [];
  black = set.insert (set.insert set.empty (Cell 0)) (Cell 1);
  collection = Some k2;
}

abbrev pub p8 : List (Name × (ℕ × ℕ))
p8 = p4

places8 : Places u2.places p4
places8 x = after_remove u1 k1 (0 ∷ []) (Cell 2) (0, 2) (places6 (Cell 2)) white2 white_only x
    ∙ ap (λ o. cond (same_name x (Cell 2)) None o) (places6 x) ∙ go (same_name x (Cell 2)) refl
  where
    past : same_name x (Cell 2) ≡ true → place_in p4 x ≡ None
    past e = ap (place_in p4) (same_name-is x (Cell 2) e)

    go : (b : Bool) → same_name x (Cell 2) ≡ b → cond b None (cond b (Some (0, 2)) (place_in p4 x)) ≡ place_in p4 x
    go true e = sym (past e)
    go false e = refl

black8 : Members u2.black (Cell 1 ∷ Cell 0 ∷ [])
black8 = members_insert (set.insert set.empty (Cell 0)) (Cell 0 ∷ []) (Cell 1)
    (members_insert set.empty [] (Cell 0) members_empty)

ends : IsLawfulEnd u1 k1 (0 ∷ []) [] [] u2
ends = record {
  ready = refl;
  grays_are = record {
    ascending = tt;
    has = λ x. ((λ c. absurd (nothing_in_none x c)), λ g. absurd (g.gray.not_black (all_black x g.gray.live)));
  };
  graph_is = refl;
  owner_is = refl;
  gone = one_gone u1 k1 (0 ∷ []) (Cell 2) (0, 2) (places6 (Cell 2)) white2 white_only;
  stay = others_stay u1 k1 (0 ∷ []) (Cell 2) (0, 2) (places6 (Cell 2)) white2 white_only;
  white_are = one_white u1 k1 (0 ∷ []) (Cell 2) (0, 2) (places6 (Cell 2)) white2 white_only;
  out_is = refl;
  preparing_is = refl;
  collection_is = refl;
  black_are = λ s x. (
    (λ h. let c = (black8 x).0 h in (
      both_black x c,
      each_has (λ z. IsPresent u2 z) (Cell 1 ∷ Cell 0 ∷ []) (
        ap is_some (places8 (Cell 1)),
        (ap is_some (places8 (Cell 0)), tt),
      ) x c,
    )),
    λ h. (black8 x).1 (within k1 refl refl refl refl x (black_all x h.0)),
  );
}

abbrev k3 : Collection
k3 = record k2 { tally = record k2.tally { sweeps = k2.tally.sweeps + 1 } }

abbrev u3 : World
u3 = record u2 { out = []; white = []; collection = Some k3 }

abbrev pub w8 : World
w8 = record u3 { collection = None }

pub a8 : Answers w7 (Collect only_zone_0)
    (Started ∷ Groups (only_zone_0 ∷ []) ∷ Ended only_zone_0 [] [] ∷ Swept 0 (Cell 2 ∷ []) ∷ Done ∷ [])
    reply.Collected w8
a8 = collect_lawful w7 u0 u1 u2 u3 w8 [] (Cell 2 ∷ [])
    (prepares_one w7 (record { none_running = refl; none_preparing = refl }) (omega arith)
    (λ x h. all_in_zone x ((black7 x).0 h))) begins (forms_one_group u0 k0 refl refl refl)
    (record {
      collection = k1;
      rest = [];
      running = refl;
      first = refl;
      ends = ends;
      loses = loses_nothing _ _ refl refl;
    }) (sweep_of_one u2 (Cell 2) 2 refl refl)
    (record { over = record { collection = k3; running = refl; ended = refl; none_out = refl }; world_is = refl }) refl

abbrev pub w9 : World
w9 = record w8 { graph = (step_of w8.graph (cmd.Get 2 0 0)).0 }

pub a9 : Answers w8 (Graph (cmd.Get 2 0 0)) [] (reply.Named (Cell 1)) w9
a9 = (refl, (refl, refl))

pub linked_and_dropped_lawful : IsLawfulOutput linked_and_dropped answers_linked_and_dropped
linked_and_dropped_lawful =
    (w9, (w1, a1, (w2, a2, (w3, a3, (w4, a4, (w5, a5, (w6, a6, (w7, a7, (w8, a8, (w9, a9, refl))))))))))
