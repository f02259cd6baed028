-- A gray slot alone: the answers are lawful.
use Rattle.std.proofs.Common.{◌≡◌, zero, suc, ◌+◌, ◌⊎◌, inl, inr, [], ◌∷◌, refl, sym, ap, subst, ◌∙◌, arith, Some}
use Rattle.std.proofs.Common.{None, Contains, is_some, replicate}
use Rattle.std.specs.FinSet as set
use Rattle.gz_names.specs.declared.names.Name.{Name}
use Rattle.gz_names.specs.declared.names.Name.TheVariants.{Cell, Wrap}
use Rattle.gz_names.specs.declared.commands.GraphCmd.TheVariants as cmd
use Rattle.gz_names.specs.declared.commands.Cmd.TheVariants.{Graph, Collect, Colours}
use Rattle.gz_names.specs.declared.replies.Reply.TheVariants as reply
use Rattle.gz_names.specs.declared.replies.Report.TheVariants.{Started, Groups, Ended, Swept, Done}
use Rattle.colour_defs.specs.Graph.{value_of, IsInZones}
use Rattle.colour_defs.specs.Closure.{HasEdge, Closure, from, along}
use Rattle.colour_defs.specs.Step.{step_of}
use Rattle.colour_defs.specs.World.{World, Collection, first_preparation, Names, Has, IsPresent, BlackClosure}
use Rattle.colour_defs.specs.World.{LiveClosure, first_tally}
use Rattle.colour_defs.specs.Ends.{IsLawfulEnd, IsWhiteOf, Lists}
use Rattle.colour_defs.specs.Lawful.{Answers, Begins, IsLawfulOutput}
use Rattle.spec_rows.specs.Rows.{only_zone_0, gray_slot_alone, answers_gray_slot_alone}
use Rattle.colour_defs.proofs.Lists.{nothing_in_none, contains_head, contains_tail, no_name_in_nulls}
use Rattle.colour_defs.proofs.Lists.{contains_set_cases}
use Rattle.colour_defs.proofs.Membership.{gray_of, white_is_not_live}
use Rattle.colour_defs.proofs.ValidCommands.{insert_has}
use Rattle.colour_defs.proofs.Finite.{Members, members_empty, members_insert, no_name, insert_cases}
use Rattle.spec_rows.proofs.Places.{reached_within, place_named, single, each_has}
use Rattle.colour_defs.proofs.NothingWeak.{loses_nothing}
use Rattle.spec_rows.proofs.OneZone.{prepared, prepares_one, grouped, forms_one_group, collect_lawful}
use Rattle.spec_rows.proofs.OneZone.{sweep_of_nothing}
use Rattle.spec_rows.proofs.LinkedAndDropped.{w1, w2, w3, w4, w5, a1, a2, a3, a4, a5, p4, places4}

abbrev w6 : World
w6 = record w5 { graph = (step_of w5.graph (cmd.Hold 3 0)).0 }

abbrev w7 : World
w7 = record w6 { graph = (step_of w6.graph (cmd.Drop 0)).0 }

abbrev w8 : World
w8 = record w7 { graph = (step_of w7.graph (cmd.Drop 1)).0 }

abbrev roots : Names
roots = set.insert set.empty (Cell 0)

abbrev k0 : Collection
k0 = record {
  zones = 0 ∷ [];
  marking = 0 ∷ [];
  snapshot = w8.graph;
  black_starts = set.empty;
  live_starts = roots;
  woken = set.empty;
  groups = None;
  tally = first_tally (prepared w8) (first_preparation w8 (0 ∷ []));
}

abbrev k1 : Collection
k1 = grouped k0

abbrev k2 : Collection
k2 = record k1 { marking = []; groups = Some [] }

abbrev k3 : Collection
k3 = record k2 { tally = record k2.tally { sweeps = k2.tally.sweeps + 1 } }

abbrev u0 : World
u0 = record w8 { black = set.empty; collection = Some k0 }

abbrev u1 : World
u1 = record w8 { black = set.empty; collection = Some k1 }

abbrev u2 : World
u2 = record w8 { out = 0 ∷ []; black = set.empty; collection = Some k2 }

abbrev u3 : World
u3 = record u2 { out = []; white = []; collection = Some k3 }

abbrev w9 : World
w9 = record u3 { collection = None }

root : (x : Name) → Has roots x → Cell 0 ≡ x
root x h = elim (insert_cases set.empty (Cell 0) x h) [ inl none ↦ absurd (no_name x none) | inr e ↦ e ]

black4 : Members w8.black (Cell 1 ∷ Cell 0 ∷ [])
black4 = members_insert (set.insert set.empty (Cell 0)) (Cell 0 ∷ []) (Cell 1)
    (members_insert set.empty [] (Cell 0) members_empty)

present4 : (x : Name) → IsPresent w8 x → Contains (Cell 1 ∷ Cell 0 ∷ []) x
present4 x h = place_named p4 x (sym (ap is_some (places4 x)) ∙ h)

both_present : (x : Name) → Contains (Cell 1 ∷ Cell 0 ∷ []) x → IsPresent w8 x
both_present = each_has (IsPresent w8) (Cell 1 ∷ Cell 0 ∷ []) (
  ap is_some (places4 (Cell 1)),
  (ap is_some (places4 (Cell 0)), tt),
)

all_in_zone : (x : Name) → Contains (Cell 1 ∷ Cell 0 ∷ []) x → IsInZones w8.graph (0 ∷ []) x
all_in_zone = each_has (λ x. IsInZones w8.graph (0 ∷ []) x) (Cell 1 ∷ Cell 0 ∷ []) (refl, (refl, tt))

in_slot : (x : Name) → Contains w8.graph.slots (Some x) → Cell 0 ≡ x
in_slot x c = elim (contains_set_cases (replicate 64 None) 3 (Some (Cell 0)) (Some x) c)
    [ inl t ↦ absurd (no_name_in_nulls 64 x t) | inr e ↦ cc e ]

begins : Begins (prepared w8) (0 ∷ []) u0
begins = record {
  preparation = first_preparation w8 (0 ∷ []);
  was = refl;
  of_zones = refl;
  collection = k0;
  world_is = refl;
  zones_are = refl;
  marking_are = refl;
  snapshot_is = refl;
  woken_is = refl;
  groups_are = refl;
  tally_is = refl;
  black_starts = λ x. (
    (λ h. absurd (no_name x h)),
    λ h. elim h [
      | inl c ↦ absurd (no_name_in_nulls 16 x c)
      | inr b ↦ absurd (no_name x b)
    ],
  );
  live_starts = λ x. (
    (λ h. inr (inl (subst (λ z. Contains w8.graph.slots (Some z)) (root x h) (3, omega arith, refl)))),
    λ h. elim h [
      | inl b ↦ absurd (no_name x b)
      | inr o ↦ elim o [
        | inl s ↦ subst (λ z. Has roots z) (in_slot x s) (insert_has set.empty (Cell 0))
        | inr p
            ↦ absurd (p.1 (all_in_zone x (present4 x p.0)))
      ]
    ],
  );
}

edges4 : (x y : Name) → HasEdge w8.graph x y → Cell 1 ≡ y
edges4 (Cell zero) y e = let q = single (Some (Cell 1)) (Some y) e in cc q
edges4 (Cell (suc zero)) y e = absurd (nothing_in_none (Some y) e)
edges4 (Cell (suc (suc n))) y e = absurd e
edges4 (Wrap c t) y e = absurd (cc e.1)

no_value : (m q v : Name) → value_of w8.graph m q ≡ Some v → ⊥
no_value m q v e = cc e

gray0 : LiveClosure k1 (Cell 0)
gray0 = from (inl (insert_has set.empty (Cell 0)))

both_all : (x : Name) → Contains (Cell 1 ∷ Cell 0 ∷ []) x → LiveClosure k1 x
both_all = each_has (LiveClosure k1) (Cell 1 ∷ Cell 0 ∷ []) (
  along gray0 (contains_head (Some (Cell 1)) []),
  (gray0, tt),
)

none_black : (x : Name) → BlackClosure k1 x → ⊥
none_black x h = nothing_in_none x
    (reached_within w8.graph _ [] (λ y s. elim s [ inl a ↦ absurd (no_name y a) | inr t ↦ absurd (no_name y t) ])
    (λ y z c d. absurd (nothing_in_none y c)) (λ m q v at hm hq. absurd (no_value m q v at))
    (λ m v c t at hm ht. absurd (no_value m (Wrap c t) v at)) h)

no_white : (x : Name) → IsWhiteOf u1 k1 (0 ∷ []) x → ⊥
no_white x h = white_is_not_live u1 k1 (0 ∷ []) x h (both_all x (present4 x h.present))

turned : (x : Name) → Contains (Cell 0 ∷ Cell 1 ∷ []) x → Contains (Cell 1 ∷ Cell 0 ∷ []) x
turned = each_has (Contains (Cell 1 ∷ Cell 0 ∷ [])) (Cell 0 ∷ Cell 1 ∷ []) (
  contains_tail (Cell 1) (Cell 0 ∷ []) (Cell 0) (contains_head (Cell 0) []),
  (contains_head (Cell 1) (Cell 0 ∷ []), tt),
)

back : (x : Name) → Contains (Cell 1 ∷ Cell 0 ∷ []) x → Contains (Cell 0 ∷ Cell 1 ∷ []) x
back = each_has (Contains (Cell 0 ∷ Cell 1 ∷ [])) (Cell 1 ∷ Cell 0 ∷ []) (
  contains_tail (Cell 0) (Cell 1 ∷ []) (Cell 1) (contains_head (Cell 1) []),
  (contains_head (Cell 0) (Cell 1 ∷ []), tt),
)

ends : IsLawfulEnd u1 k1 (0 ∷ []) [] (Cell 0 ∷ Cell 1 ∷ []) u2
ends = record {
  ready = refl;
  grays_are = record {
    ascending = ((refl, tt), (tt, tt));
    has = λ x. (
      (λ c. let d = turned x c in gray_of u1 k1 (0 ∷ []) x (both_present x d) (all_in_zone x d) (both_all x d)
          (none_black x)),
      λ g. back x (present4 x g.present),
    );
  };
  graph_is = refl;
  owner_is = refl;
  gone = λ x h. absurd (no_white x h);
  stay = λ x n. refl;
  white_are = λ x p. ((λ c. absurd (nothing_in_none (x, p) c)), λ h. absurd (no_white x h.0));
  out_is = refl;
  preparing_is = refl;
  collection_is = refl;
  black_are = λ s x. ((λ h. absurd (no_name x h)), λ h. absurd (none_black x h.0));
}

collected : Answers w8 (Collect only_zone_0)
    (Started ∷ Groups (only_zone_0 ∷ []) ∷ Ended only_zone_0 (Cell 0 ∷ Cell 1 ∷ []) [] ∷ Swept 0 [] ∷ Done ∷ [])
    reply.Collected w9
collected = collect_lawful w8 u0 u1 u2 u3 w9 (Cell 0 ∷ Cell 1 ∷ []) []
    (prepares_one w8 (record { none_running = refl; none_preparing = refl }) (omega arith)
    (λ x h. all_in_zone x ((black4 x).0 h))) begins (forms_one_group u0 k0 refl refl refl)
    (record {
      collection = k1;
      rest = [];
      running = refl;
      first = refl;
      ends = ends;
      loses = loses_nothing _ _ refl refl;
    }) (sweep_of_nothing u2 refl refl)
    (record { over = record { collection = k3; running = refl; ended = refl; none_out = refl }; world_is = refl }) refl

gray_names : Lists (λ x. IsPresent w9 x × (Has w9.black x → ⊥)) (Cell 0 ∷ Cell 1 ∷ [])
gray_names = record {
  ascending = ((refl, tt), (tt, tt));
  has = λ x. ((λ c. (both_present x (turned x c), no_name x)), λ h. back x (present4 x h.0));
}

abbrev w10 : World
w10 = record w9 {
  graph = (step_of w9.graph (cmd.Expose 5 3)).0;
  black = set.insert (set.insert set.empty (Cell 0)) (Cell 1);
}

edges10 : (x y : Name) → HasEdge w10.graph x y → Cell 1 ≡ y
edges10 (Cell zero) y e = let q = single (Some (Cell 1)) (Some y) e in cc q
edges10 (Cell (suc zero)) y e = absurd (nothing_in_none (Some y) e)
edges10 (Cell (suc (suc n))) y e = absurd e
edges10 (Wrap c t) y e = absurd (cc e.1)

exposed : Answers w9 (Graph (cmd.Expose 5 3)) [] (reply.Named (Cell 0)) w10
exposed = (
  refl,
  (
    refl,
    (
      record {
        graph_is = refl;
        found = λ h. (refl, refl);
        made = λ n. absurd (n
            (both_present (Cell 0) (contains_tail (Cell 1) (Cell 0 ∷ []) (Cell 0) (contains_head (Cell 0) []))));
        out_is = refl;
        white_is = refl;
        weak_is = refl;
        preparing_is = refl;
      },
      (
        refl,
        λ y. (
          (λ h. let c = (black4 y).0 h in (
            each_has (Closure w10.graph (λ s. Has set.empty s ⊎ (Cell 0 ≡ s))) (Cell 1 ∷ Cell 0 ∷ [])
                (along (from (inr refl)) (contains_head (Some (Cell 1)) []), (from (inr refl), tt)) y c,
            both_present y c,
          )),
          λ h. (black4 y).1 (reached_within w10.graph _ (Cell 1 ∷ Cell 0 ∷ [])
              (λ z s. elim s [
                | inl a ↦ absurd (no_name z a)
                | inr e
                    ↦ subst (λ n. Contains (Cell 1 ∷ Cell 0 ∷ []) n) e
                    (contains_tail (Cell 1) (Cell 0 ∷ []) (Cell 0) (contains_head (Cell 0) []))
              ])
              (λ a b c d. subst (λ n. Contains (Cell 1 ∷ Cell 0 ∷ []) n) (edges10 a b d)
              (contains_head (Cell 1) (Cell 0 ∷ [])))
              (λ m q v at hm hq. absurd (no_value m q v at)) (λ m v c t at hm ht. absurd (no_value m (Wrap c t) v at))
              h.0),
        ),
      ),
    ),
  ),
)

no_gray : Lists (λ x. IsPresent w10 x × (Has w10.black x → ⊥)) []
no_gray = record {
  ascending = tt;
  has = λ x. ((λ c. absurd (nothing_in_none x c)), λ h. absurd (h.1 ((black4 x).1 (present4 x h.0))));
}

pub gray_slot_alone_lawful : IsLawfulOutput gray_slot_alone answers_gray_slot_alone
gray_slot_alone_lawful = (
  w10,
  (
    w1,
    a1,
    (
      w2,
      a2,
      (
        w3,
        a3,
        (
          w4,
          a4,
          (
            w5,
            a5,
            (
              w6,
              (refl, (refl, refl)),
              (
                w7,
                (refl, (refl, refl)),
                (
                  w8,
                  (refl, (refl, refl)),
                  (w9, collected, (w9, first_colours, (w10, exposed, (w10, second_colours, refl)))),
                ),
              ),
            ),
          ),
        ),
      ),
    ),
  ),
)
  where
    first_colours : Answers w9 Colours [] (reply.Gray (Cell 0 ∷ Cell 1 ∷ [])) w9
    first_colours = inl (
      Cell 0 ∷ Cell 1 ∷ [],
      refl,
      record { none_marking = refl; none_preparing = refl },
      gray_names,
      record { silent = refl; same = refl },
    )

    second_colours : Answers w10 Colours [] (reply.Gray []) w10
    second_colours = inl (
      [],
      refl,
      record { none_marking = refl; none_preparing = refl },
      no_gray,
      record { silent = refl; same = refl },
    )
