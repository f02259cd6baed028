-- A black map with a gray key: the answers are lawful.
use Rattle.std.proofs.Common.{◌≡◌, ℕ, zero, suc, ◌+◌, ◌<◌, ◌⊎◌, inl, inr, List, [], ◌∷◌, Bool, true, false, ◌&&◌}
use Rattle.std.proofs.Common.{cond, refl, sym, ap, subst, ◌∙◌, arith, Some, None, Contains, is_some, replicate}
use Rattle.std.specs.FinSet as set
use Rattle.std.specs.FinMap as map
use Rattle.gz_names.specs.Order.{same_name}
use Rattle.gz_names.specs.declared.names.Name.{Name}
use Rattle.gz_names.specs.declared.names.Name.TheVariants.{Cell, Wrap}
use Rattle.gz_names.specs.declared.numbers.CompNo.{CompNo}
use Rattle.gz_names.specs.declared.commands.GraphCmd.TheVariants as cmd
use Rattle.gz_names.specs.declared.commands.Cmd.TheVariants.{Graph, Collect, Colours}
use Rattle.gz_names.specs.declared.replies.Reply.TheVariants as reply
use Rattle.gz_names.specs.declared.replies.Report.TheVariants.{Started, Groups, Ended, Swept, Done}
use Rattle.colour_defs.specs.Graph.{value_of, IsInZones}
use Rattle.colour_defs.specs.Closure.{HasEdge, Closure, from, weak}
use Rattle.colour_defs.specs.Step.{step_of, new_map}
use Rattle.colour_defs.specs.World.{World, Collection, first_preparation, Names, Has, IsPresent, BlackClosure}
use Rattle.colour_defs.specs.World.{LiveClosure, first_tally}
use Rattle.colour_defs.specs.Ends.{IsLawfulEnd, IsWhiteOf, Lists}
use Rattle.colour_defs.specs.Lawful.{Answers, Begins, IsLawfulOutput}
use Rattle.spec_rows.specs.Rows.{comp_0, only_zone_0, gray_key, answers_gray_key}
use Rattle.colour_defs.specs.Laws.{IsValid}
use Rattle.colour_defs.proofs.Lists.{nothing_in_none, contains_head, contains_tail, contains_cases, no_name_in_nulls}
use Rattle.colour_defs.proofs.Lists.{contains_set_cases}
use Rattle.colour_defs.proofs.Membership.{gray_of, white_is_not_live}
use Rattle.colour_defs.proofs.ValidCommands.{insert_has, in_insert}
use Rattle.colour_defs.proofs.ValidRuns.{answer_valid}
use Rattle.colour_defs.proofs.Finite.{Members, members_empty, members_insert, no_name}
use Rattle.spec_rows.proofs.Places.{Places, places_empty, places_insert, reached_within, place_named, single, each_has}
use Rattle.spec_rows.proofs.Places.{fresh_slot}
use Rattle.spec_rows.proofs.Making.{object_world, made_world, new_lawful, map_lawful, room_first, room_next}
use Rattle.colour_defs.proofs.NothingWeak.{loses_nothing}
use Rattle.spec_rows.proofs.OneZone.{prepared, prepares_one, grouped, forms_one_group, collect_lawful}
use Rattle.spec_rows.proofs.OneZone.{sweep_of_nothing}
use Rattle.spec_rows.proofs.LinkedAndDropped.{w1, w2, a1, a2, v2, only_arena}

abbrev w3 : World
w3 = object_world w2 0 (new_map comp_0) (0, 0) (Some 0 ∷ [])

abbrev w4 : World
w4 = made_world w3 1 comp_0 0 (0, 1) (Some 0 ∷ [])

abbrev w5 : World
w5 = made_world w4 2 comp_0 0 (0, 2) (Some 0 ∷ [])

abbrev w6 : World
w6 = record w5 { graph = (step_of w5.graph (cmd.Put 0 1 2)).0 }

abbrev w7 : World
w7 = record w6 { graph = (step_of w6.graph (cmd.Hold 0 1)).0 }

abbrev w7b : World
w7b = record w7 { graph = (step_of w7.graph (cmd.Drop 1)).0 }

abbrev w8 : World
w8 = record w7b { graph = (step_of w7b.graph (cmd.Drop 2)).0 }

a3 : Answers w2 (Graph (cmd.Map 0 comp_0)) [] (reply.Made 0) w3
a3 = map_lawful w2 0 comp_0 0 (0, 0) (Some 0 ∷ []) v2 (record { none_running = refl; none_preparing = refl }) refl refl
    (room_first w2 0 (λ b e. cc e))

v3 : IsValid w3
v3 = answer_valid w2 (Graph (cmd.Map 0 comp_0)) [] (reply.Made 0) w3 v2 a3

abbrev p3 : List (Name × (ℕ × ℕ))
p3 = (Cell 0, (0, 0)) ∷ []

abbrev p4 : List (Name × (ℕ × ℕ))
p4 = (Cell 1, (0, 1)) ∷ p3

abbrev p5 : List (Name × (ℕ × ℕ))
p5 = (Cell 2, (0, 2)) ∷ p4

places3 : Places w3.places p3
places3 = places_insert map.empty [] (Cell 0) (0, 0) places_empty

places4 : Places w4.places p4
places4 = places_insert w3.places p3 (Cell 1) (0, 1) places3

places5 : Places w5.places p5
places5 = places_insert w4.places p4 (Cell 2) (0, 2) places4

used3 : (s : ℕ) → s < 1 → (x : Name) × (map.get w3.places x ≡ Some (0, s))
used3 zero h = (Cell 0, places3 (Cell 0))
used3 (suc s) h = absurd (omega arith)

used4 : (s : ℕ) → s < 2 → (x : Name) × (map.get w4.places x ≡ Some (0, s))
used4 zero h = (Cell 0, places4 (Cell 0))
used4 (suc zero) h = (Cell 1, places4 (Cell 1))
used4 (suc (suc s)) h = absurd (omega arith)

a4 : Answers w3 (Graph (cmd.New 1 comp_0 0)) [] (reply.Made 1) w4
a4 = new_lawful w3 1 comp_0 0 0 (0, 1) (Some 0 ∷ []) v3 (record { none_running = refl; none_preparing = refl }) refl
    refl (room_next w3 0 0 1 refl only_arena refl (omega arith) used3
    (λ x e. fresh_slot p3 (0, 1) refl x (sym (places3 x) ∙ e)))

v4 : IsValid w4
v4 = answer_valid w3 (Graph (cmd.New 1 comp_0 0)) [] (reply.Made 1) w4 v3 a4

a5 : Answers w4 (Graph (cmd.New 2 comp_0 0)) [] (reply.Made 2) w5
a5 = new_lawful w4 2 comp_0 0 0 (0, 2) (Some 0 ∷ []) v4 (record { none_running = refl; none_preparing = refl }) refl
    refl (room_next w4 0 0 2 refl only_arena refl (omega arith) used4
    (λ x e. fresh_slot p4 (0, 2) refl x (sym (places4 x) ∙ e)))

abbrev b3 : List Name
b3 = Cell 2 ∷ Cell 1 ∷ Cell 0 ∷ []

abbrev blacks : Names
blacks = set.insert set.empty (Cell 0)

abbrev roots : Names
roots = set.insert blacks (Cell 1)

abbrev k0 : Collection
k0 = record {
  zones = 0 ∷ [];
  marking = 0 ∷ [];
  snapshot = w8.graph;
  black_starts = blacks;
  live_starts = roots;
  woken = set.empty;
  groups = None;
  tally = first_tally (prepared w8) (first_preparation w8 (0 ∷ []));
}

abbrev k1 : Collection
k1 = grouped k0

abbrev k2 : Collection
k2 = record k1 { marking = []; groups = Some [] }

abbrev k3 : Collection
k3 = record k2 { tally = record k2.tally { sweeps = k2.tally.sweeps + 1 } }

abbrev u0 : World
u0 = record w8 { black = set.empty; collection = Some k0 }

abbrev u1 : World
u1 = record w8 { black = set.empty; collection = Some k1 }

abbrev u2 : World
u2 = record w8 { out = 0 ∷ []; black = blacks; collection = Some k2 }

abbrev u3 : World
u3 = record u2 { out = []; white = []; collection = Some k3 }

abbrev w9 : World
w9 = record u3 { collection = None }

blacks_are : Members blacks (Cell 0 ∷ [])
blacks_are = members_insert set.empty [] (Cell 0) members_empty

roots_are : Members roots (Cell 1 ∷ Cell 0 ∷ [])
roots_are = members_insert blacks (Cell 0 ∷ []) (Cell 1) blacks_are

black8 : Members w8.black b3
black8 = members_insert roots (Cell 1 ∷ Cell 0 ∷ []) (Cell 2) roots_are

present8 : (x : Name) → IsPresent w8 x → Contains b3 x
present8 x h = place_named p5 x (sym (ap is_some (places5 x)) ∙ h)

all_present : (x : Name) → Contains b3 x → IsPresent w8 x
all_present = each_has (IsPresent w8) b3 (
  ap is_some (places5 (Cell 2)),
  (ap is_some (places5 (Cell 1)), (ap is_some (places5 (Cell 0)), tt)),
)

all_in_zone : (x : Name) → Contains b3 x → IsInZones w8.graph (0 ∷ []) x
all_in_zone = each_has (λ x. IsInZones w8.graph (0 ∷ []) x) b3 (refl, (refl, (refl, tt)))

in_slot : (x : Name) → Contains w8.graph.slots (Some x) → Cell 1 ≡ x
in_slot x c = elim (contains_set_cases (replicate 64 None) 0 (Some (Cell 1)) (Some x) c)
    [ inl t ↦ absurd (no_name_in_nulls 64 x t) | inr e ↦ cc e ]

in_reg : (x : Name) → Contains w8.graph.registers (Some x) → Cell 0 ≡ x
in_reg x c = elim (contains_cases (Some (Cell 0)) (replicate 15 None) (Some x) c)
    [ inl e ↦ cc e | inr t ↦ absurd (no_name_in_nulls 15 x t) ]

root_held : (x : Name) → Contains (Cell 1 ∷ Cell 0 ∷ []) x
    → Has blacks x ⊎ (Contains w8.graph.slots (Some x) ⊎ (IsPresent w8 x × (IsInZones w8.graph (0 ∷ []) x → ⊥)))
root_held = each_has
    (λ x. Has blacks x ⊎ (Contains w8.graph.slots (Some x) ⊎ (IsPresent w8 x × (IsInZones w8.graph (0 ∷ []) x → ⊥))))
    (Cell 1 ∷ Cell 0 ∷ []) (inr (inl (0, omega arith, refl)), (inl (insert_has set.empty (Cell 0)), tt))

begins : Begins (prepared w8) (0 ∷ []) u0
begins = record {
  preparation = first_preparation w8 (0 ∷ []);
  was = refl;
  of_zones = refl;
  collection = k0;
  world_is = refl;
  zones_are = refl;
  marking_are = refl;
  snapshot_is = refl;
  woken_is = refl;
  groups_are = refl;
  tally_is = refl;
  black_starts = λ x. (
    (λ h. inl (subst (λ z. Contains w8.graph.registers (Some z)) (single (Cell 0) x ((blacks_are x).0 h))
        (contains_head (Some (Cell 0)) (replicate 15 None)))),
    λ h. elim h [
      | inl c ↦ subst (λ z. Has blacks z) (in_reg x c) (insert_has set.empty (Cell 0))
      | inr b ↦ absurd (no_name x b)
    ],
  );
  live_starts = λ x. (
    (λ h. root_held x ((roots_are x).0 h)),
    λ h. elim h [
      | inl b ↦ in_insert blacks (Cell 1) x b
      | inr o ↦ elim o [
        | inl s ↦ subst (λ z. Has roots z) (in_slot x s) (insert_has blacks (Cell 1))
        | inr p
            ↦ absurd (p.1 (all_in_zone x (present8 x p.0)))
      ]
    ],
  );
}

no_edge : (x y : Name) → HasEdge w8.graph x y → ⊥
no_edge (Cell zero) y e = nothing_in_none (Some y) e
no_edge (Cell (suc zero)) y e = nothing_in_none (Some y) e
no_edge (Cell (suc (suc zero))) y e = nothing_in_none (Some y) e
no_edge (Cell (suc (suc (suc n)))) y e = e
no_edge (Wrap c t) y e = cc e.1

value_is : (m q v : Name) → value_of w8.graph m q ≡ Some v → Cell 2 ≡ v
value_is m q v e = go (same_name (Cell 0) m && same_name (Cell 1) q) e
  where
    go : (b : Bool) → cond b (Some (Cell 2)) None ≡ Some v → Cell 2 ≡ v
    go true e = cc e
    go false e = cc e

no_wrapper_key : (m v : Name) (c : CompNo) (t : ℕ) → value_of w8.graph m (Wrap c t) ≡ Some v → ⊥
no_wrapper_key m v c t e = go (same_name (Cell 0) m) e
  where
    go : (b : Bool) → cond (b && false) (Some (Cell 2)) None ≡ Some v → ⊥
    go true e = cc e
    go false e = cc e

black0 : BlackClosure k1 (Cell 0)
black0 = from (inl (insert_has set.empty (Cell 0)))

only_black : (x : Name) → BlackClosure k1 x → Cell 0 ≡ x
only_black x h = single (Cell 0) x (reached_within w8.graph _ (Cell 0 ∷ [])
    (λ y s. elim s [ inl a ↦ (blacks_are y).0 a | inr t ↦ absurd (no_name y t) ])
    (λ y z c d. absurd (no_edge y z d))
    (λ m q v at hm hq.
    let zero_key : value_of w8.graph (Cell 0) (Cell 0) ≡ Some v =
    subst (λ z. value_of w8.graph (Cell 0) z ≡ Some v) (sym (single (Cell 0) q hq))
    (subst (λ z. value_of w8.graph z q ≡ Some v) (sym (single (Cell 0) m hm)) at) in
    absurd (cc zero_key))
    (λ m v c t at hm ht. absurd (no_wrapper_key m v c t at))
    h)

gray0 : LiveClosure k1 (Cell 0)
gray0 = from (inl (in_insert blacks (Cell 1) (Cell 0) (insert_has set.empty (Cell 0))))

gray1 : LiveClosure k1 (Cell 1)
gray1 = from (inl (insert_has blacks (Cell 1)))

-- the value of a black map's gray key
gray2 : LiveClosure k1 (Cell 2)
gray2 = weak {m = Cell 0} {k = Cell 1} refl gray0 gray1

all_gray : (x : Name) → Contains b3 x → LiveClosure k1 x
all_gray = each_has (LiveClosure k1) b3 (gray2, (gray1, (gray0, tt)))

no_white : (x : Name) → IsWhiteOf u1 k1 (0 ∷ []) x → ⊥
no_white x h = white_is_not_live u1 k1 (0 ∷ []) x h (all_gray x (present8 x h.present))

abbrev grays : List Name
grays = Cell 1 ∷ Cell 2 ∷ []

apart_from_map : (x : Name) → Contains grays x → Contains b3 x × (Cell 0 ≡ x → ⊥)
apart_from_map = each_has (λ x. Contains b3 x × (Cell 0 ≡ x → ⊥)) grays (
  (contains_tail (Cell 2) (Cell 1 ∷ Cell 0 ∷ []) (Cell 1) (contains_head (Cell 1) (Cell 0 ∷ [])), (λ e. cc e)),
  ((contains_head (Cell 2) (Cell 1 ∷ Cell 0 ∷ []), (λ e. cc e)), tt),
)

in_grays : (x : Name) → Contains b3 x → (Cell 0 ≡ x → ⊥) → Contains grays x
in_grays = each_has (λ x. (Cell 0 ≡ x → ⊥) → Contains grays x) b3 (
  (λ n. contains_tail (Cell 1) (Cell 2 ∷ []) (Cell 2) (contains_head (Cell 2) [])),
  ((λ n. contains_head (Cell 1) (Cell 2 ∷ [])), ((λ n. absurd (n refl)), tt)),
)

ends : IsLawfulEnd u1 k1 (0 ∷ []) [] grays u2
ends = record {
  ready = refl;
  grays_are = record {
    ascending = ((refl, tt), (tt, tt));
    has = λ x. (
      (λ c. let d = apart_from_map x c in
          gray_of u1 k1 (0 ∷ []) x (all_present x d.0) (all_in_zone x d.0) (all_gray x d.0)
          (λ b. d.1 (only_black x b))),
      λ g. in_grays x (present8 x g.present) (λ e. g.gray.not_black (subst (λ z. BlackClosure k1 z) e black0)),
    );
  };
  graph_is = refl;
  owner_is = refl;
  gone = λ x h. absurd (no_white x h);
  stay = λ x n. refl;
  white_are = λ x p. ((λ c. absurd (nothing_in_none (x, p) c)), λ h. absurd (no_white x h.0));
  out_is = refl;
  preparing_is = refl;
  collection_is = refl;
  black_are = λ s x. (
    (λ h. subst (λ z. BlackClosure k1 z × IsPresent u2 z) (single (Cell 0) x ((blacks_are x).0 h))
        (black0, ap is_some (places5 (Cell 0)))),
    λ h. subst (λ z. Has blacks z) (only_black x h.0) (insert_has set.empty (Cell 0)),
  );
}

collected : Answers w8 (Collect only_zone_0)
    (Started ∷ Groups (only_zone_0 ∷ []) ∷ Ended only_zone_0 grays [] ∷ Swept 0 [] ∷ Done ∷ []) reply.Collected
    w9
collected = collect_lawful w8 u0 u1 u2 u3 w9 grays []
    (prepares_one w8 (record { none_running = refl; none_preparing = refl }) (omega arith)
    (λ x h. all_in_zone x ((black8 x).0 h))) begins (forms_one_group u0 k0 refl refl refl)
    (record {
      collection = k1;
      rest = [];
      running = refl;
      first = refl;
      ends = ends;
      loses = loses_nothing _ _ refl refl;
    }) (sweep_of_nothing u2 refl refl)
    (record { over = record { collection = k3; running = refl; ended = refl; none_out = refl }; world_is = refl }) refl

abbrev w10 : World
w10 = record w9 { graph = (step_of w9.graph (cmd.Expose 1 0)).0; black = set.insert roots (Cell 2) }

abbrev start10 : Name → Type 0
start10 s = Has blacks s ⊎ (Cell 1 ≡ s)

reached10 : (x : Name) → Contains b3 x → Closure w10.graph start10 x
reached10 = each_has (Closure w10.graph start10) b3 (
  weak {m = Cell 0} {k = Cell 1} refl (from (inl (insert_has set.empty (Cell 0)))) (from (inr refl)),
  (from (inr refl), (from (inl (insert_has set.empty (Cell 0))), tt)),
)

within10 : (x : Name) → Closure w10.graph start10 x → Contains b3 x
within10 x h = reached_within w10.graph start10 b3
    (λ y s. elim s [
      | inl a ↦ contains_tail (Cell 2) (Cell 1 ∷ Cell 0 ∷ []) y
          (contains_tail (Cell 1) (Cell 0 ∷ []) y ((blacks_are y).0 a))
      | inr e ↦ subst (λ z. Contains b3 z) e
          (contains_tail (Cell 2) (Cell 1 ∷ Cell 0 ∷ []) (Cell 1) (contains_head (Cell 1) (Cell 0 ∷ [])))
    ])
    (λ y z c d. absurd (no_edge y z d))
    (λ m q v at hm hq. subst (λ z. Contains b3 z) (value_is m q v at) (contains_head (Cell 2) (Cell 1 ∷ Cell 0 ∷ [])))
    (λ m v c t at hm ht. absurd (no_wrapper_key m v c t at))
    h

exposed : Answers w9 (Graph (cmd.Expose 1 0)) [] (reply.Named (Cell 1)) w10
exposed = (
  refl,
  (
    refl,
    (
      record {
        graph_is = refl;
        found = λ h. (refl, refl);
        made = λ n. absurd (n (ap is_some (places5 (Cell 1))));
        out_is = refl;
        white_is = refl;
        weak_is = refl;
        preparing_is = refl;
      },
      (
        refl,
        λ y. (
          (λ h. let c = (black8 y).0 h in (reached10 y c, all_present y c)),
          λ h. (black8 y).1 (within10 y h.0),
        ),
      ),
    ),
  ),
)

no_gray : Lists (λ x. IsPresent w10 x × (Has w10.black x → ⊥)) []
no_gray = record {
  ascending = tt;
  has = λ x. ((λ c. absurd (nothing_in_none x c)), λ h. absurd (h.1 ((black8 x).1 (present8 x h.0))));
}

abbrev w11 : World
w11 = record w10 { graph = (step_of w10.graph (cmd.Find 3 0 1)).0 }

pub gray_key_lawful : IsLawfulOutput gray_key answers_gray_key
gray_key_lawful = (
  w11,
  (
    w1,
    a1,
    (
      w2,
      a2,
      (
        w3,
        a3,
        (
          w4,
          a4,
          (
            w5,
            a5,
            (
              w6,
              (refl, (refl, refl)),
              (
                w7,
                (refl, (refl, refl)),
                (
                  w7b,
                  (refl, (refl, refl)),
                  (
                    w8,
                    (refl, (refl, refl)),
                    (w9, collected, (w10, exposed, (w10, colours, (w11, (refl, (refl, refl)), refl)))),
                  ),
                ),
              ),
            ),
          ),
        ),
      ),
    ),
  ),
)
  where
    colours : Answers w10 Colours [] (reply.Gray []) w10
    colours = inl (
      [],
      refl,
      record { none_marking = refl; none_preparing = refl },
      no_gray,
      record { silent = refl; same = refl },
    )
