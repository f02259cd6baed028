-- One way, gray: the answers are lawful.
use Rattle.std.proofs.Common.{◌≡◌, ℕ, zero, suc, ◌+◌, ◌<◌, ◌⊎◌, inl, inr, List, [], ◌∷◌, Bool, true, false, refl}
use Rattle.std.proofs.Common.{sym, ap, subst, ◌∙◌, arith, Option, Some, None, IsTrue, Contains, is_some, slice_get}
use Rattle.std.proofs.Common.{replicate, eqb, eqb-true, ◌&&◌, ◌||◌}
use Rattle.std.specs.FinSet as set
use Rattle.std.specs.FinMap as map
use Rattle.gz_names.specs.Zones.{zones_in, zones_from}
use Rattle.gz_names.specs.declared.names.Name.{Name}
use Rattle.gz_names.specs.declared.names.Name.TheVariants.{Cell, Wrap}
use Rattle.gz_names.specs.declared.numbers.CompNo.{CompNo}
use Rattle.gz_names.specs.declared.commands.GraphCmd.TheVariants as cmd
use Rattle.gz_names.specs.declared.commands.Cmd.TheVariants.{Graph, Collect}
use Rattle.gz_names.specs.declared.replies.Reply.TheVariants as reply
use Rattle.gz_names.specs.declared.replies.Report.{Report}
use Rattle.gz_names.specs.declared.replies.Report.TheVariants.{Started, Groups, Ended, Swept, Done}
use Rattle.colour_defs.specs.Graph.{zone_of, has_wrapper, IsInZones}
use Rattle.colour_defs.specs.Closure.{HasEdge, Closure, from, along}
use Rattle.colour_defs.specs.Step.{step_of}
use Rattle.colour_defs.specs.World.{World, Collection, Names, Has, IsPresent, BlackClosure, LiveClosure, first_world}
use Rattle.colour_defs.specs.World.{first_preparation, first_tally}
use Rattle.colour_defs.specs.Groups.{AreLawfulGroups, AreAscending, IsFirstEdge, LeadsWithin, here}
use Rattle.colour_defs.specs.Ends.{IsLawfulEnd}
use Rattle.colour_defs.specs.Lawful.{Answers, Prepares, Begins, AreLawfulUnits}
use Rattle.colour_defs.specs.Lawful.{FormsGroups, EndsGroup, IsLawfulSweep, says, last, IsLawfulOutput}
use Rattle.spec_rows.specs.Rows.{comp_0, comp_1, only_zone_0, only_zone_1, zones_0_and_1, one_way_gray}
use Rattle.spec_rows.specs.Rows.{answers_one_way_gray}
use Rattle.colour_defs.specs.Laws.{IsValid}
use Rattle.colour_defs.proofs.Lists.{nothing_in_none, contains_head, contains_tail, contains_cases, no_name_in_nulls}
use Rattle.colour_defs.proofs.Lists.{contains_set_cases}
use Rattle.colour_defs.proofs.Membership.{gray_of, white_is_not_live}
use Rattle.colour_defs.proofs.ValidCommands.{insert_has}
use Rattle.colour_defs.proofs.ValidRuns.{answer_valid, first_valid}
use Rattle.colour_defs.proofs.Finite.{Members, members_empty, members_insert, no_name, insert_cases}
use Rattle.spec_rows.proofs.Places.{Places, places_empty, places_insert, reached_within, fresh_slot, place_named}
use Rattle.spec_rows.proofs.Places.{single, each_has}
use Rattle.colour_defs.proofs.NothingWeak.{loses_nothing}
use Rattle.spec_rows.proofs.Beginnings.{begins_unit}
use Rattle.spec_rows.proofs.Making.{room_next, room_first, made_world, new_lawful}

abbrev w1 : World
w1 = record first_world { graph = (step_of first_world.graph cmd.Zone).0 }

abbrev w2 : World
w2 = record w1 { graph = (step_of w1.graph cmd.Zone).0 }

abbrev w3 : World
w3 = record w2 { graph = (step_of w2.graph (cmd.Comp 0)).0 }

abbrev w4 : World
w4 = record w3 { graph = (step_of w3.graph (cmd.Comp 1)).0 }

abbrev w5 : World
w5 = made_world w4 0 comp_0 1 (0, 0) (Some 0 ∷ [])

abbrev w6 : World
w6 = made_world w5 1 comp_1 0 (1, 0) (Some 0 ∷ Some 1 ∷ [])

abbrev w7 : World
w7 = record w6 {
  graph = (step_of w6.graph (cmd.Wrap 2 1 comp_0)).0;
  places = map.insert w6.places (Wrap comp_0 1) (0, 1);
  black = set.insert w6.black (Wrap comp_0 1);
}

abbrev w8 : World
w8 = record w7 { graph = (step_of w7.graph (cmd.Set 0 0 (Some 2))).0 }

abbrev w9 : World
w9 = record w8 { graph = (step_of w8.graph (cmd.Hold 0 0)).0 }

abbrev w10 : World
w10 = record w9 { graph = (step_of w9.graph (cmd.Drop 0)).0 }

abbrev w11 : World
w11 = record w10 { graph = (step_of w10.graph (cmd.Drop 1)).0 }

abbrev w12 : World
w12 = record w11 { graph = (step_of w11.graph (cmd.Drop 2)).0 }

a1 : Answers first_world (Graph cmd.Zone) [] (reply.Zone 0) w1
a1 = (refl, (refl, refl))

a2 : Answers w1 (Graph cmd.Zone) [] (reply.Zone 1) w2
a2 = (refl, (refl, refl))

a3 : Answers w2 (Graph (cmd.Comp 0)) [] (reply.Comp comp_0) w3
a3 = (refl, (refl, refl))

a4 : Answers w3 (Graph (cmd.Comp 1)) [] (reply.Comp comp_1) w4
a4 = (refl, (refl, refl))

v4 : IsValid w4
v4 = answer_valid w3 (Graph (cmd.Comp 1)) [] (reply.Comp comp_1) w4
    (answer_valid w2 (Graph (cmd.Comp 0)) [] (reply.Comp comp_0) w3
    (answer_valid w1 (Graph cmd.Zone) [] (reply.Zone 1) w2
    (answer_valid first_world (Graph cmd.Zone) [] (reply.Zone 0) w1 first_valid a1) a2) a3) a4

a5 : Answers w4 (Graph (cmd.New 0 comp_0 1)) [] (reply.Made 0) w5
a5 = new_lawful w4 0 comp_0 1 0 (0, 0) (Some 0 ∷ []) v4 (record { none_running = refl; none_preparing = refl }) refl
    refl (room_first w4 0 (λ b e. cc e))

v5 : IsValid w5
v5 = answer_valid w4 (Graph (cmd.New 0 comp_0 1)) [] (reply.Made 0) w5 v4 a5

no_one_arena : (b : ℕ) → slice_get {X = Option ℕ} (Some 0 ∷ []) b ≡ Some (Some 1) → ⊥
no_one_arena zero e = cc e
no_one_arena (suc b) e = cc e

a6 : Answers w5 (Graph (cmd.New 1 comp_1 0)) [] (reply.Made 1) w6
a6 = new_lawful w5 1 comp_1 0 1 (1, 0) (Some 0 ∷ Some 1 ∷ []) v5 (record { none_running = refl; none_preparing = refl })
    refl refl (room_first w5 1 no_one_arena)

abbrev p6 : List (Name × (ℕ × ℕ))
p6 = (Cell 1, (1, 0)) ∷ (Cell 0, (0, 0)) ∷ []

abbrev p7 : List (Name × (ℕ × ℕ))
p7 = (Wrap comp_0 1, (0, 1)) ∷ p6

places6 : Places w6.places p6
places6 = places_insert w5.places ((Cell 0, (0, 0)) ∷ []) (Cell 1) (1, 0)
    (places_insert map.empty [] (Cell 0) (0, 0) places_empty)

places7 : Places w7.places p7
places7 = places_insert w6.places p6 (Wrap comp_0 1) (0, 1) places6

only_arena : (b : ℕ) → slice_get {X = Option ℕ} (Some 0 ∷ Some 1 ∷ []) b ≡ Some (Some 0) → b ≡ 0
only_arena zero e = refl
only_arena (suc zero) e = absurd (cc e)
only_arena (suc (suc b)) e = absurd (cc e)

used6 : (s : ℕ) → s < 1 → (x : Name) × (map.get w6.places x ≡ Some (0, s))
used6 zero h = (Cell 0, places6 (Cell 0))
used6 (suc s) h = absurd (omega arith)

abbrev b6 : List Name
b6 = Cell 1 ∷ Cell 0 ∷ []

abbrev b7 : List Name
b7 = Wrap comp_0 1 ∷ b6

black6 : Members w6.black b6
black6 = members_insert (set.insert set.empty (Cell 0)) (Cell 0 ∷ []) (Cell 1)
    (members_insert set.empty [] (Cell 0) members_empty)

black7 : Members w7.black b7
black7 = members_insert w6.black b6 (Wrap comp_0 1) black6

present7 : (x : Name) → IsPresent w7 x → Contains b7 x
present7 x h = place_named p7 x (sym (ap is_some (places7 x)) ∙ h)

all_present : (x : Name) → Contains b7 x → IsPresent w7 x
all_present = each_has (IsPresent w7) b7 (
  ap is_some (places7 (Wrap comp_0 1)),
  (ap is_some (places7 (Cell 1)), (ap is_some (places7 (Cell 0)), tt)),
)

absent6 : IsPresent w6 (Wrap comp_0 1) → ⊥
absent6 h = cc (h, ap is_some (places6 (Wrap comp_0 1)))

-- the wrapper's name, by its numbers
wrap_only : (c : CompNo) (t : ℕ) → IsTrue (has_wrapper w7.graph c t) → (Wrap comp_0 1 ≡ Wrap c t)
wrap_only c t e = go (eqb 0 c.0) (eqb 1 t) refl refl e
  where
    go : (p q : Bool) → eqb 0 c.0 ≡ p → eqb 1 t ≡ q → ((p && q) || false) ≡ true → Wrap comp_0 1 ≡ Wrap c t
    go true true ep eq e = λ i. Wrap (record { 0 = eqb-true 0 c.0 ep i }) (eqb-true 1 t eq i)
    go true false ep eq e = absurd (cc e)
    go false q ep eq e = absurd (cc e)

edges7 : (x y : Name) → HasEdge w7.graph x y → Cell 1 ≡ y
edges7 (Cell zero) y e = let q = single None (Some y) e in absurd (cc q)
edges7 (Cell (suc zero)) y e = absurd (nothing_in_none (Some y) e)
edges7 (Cell (suc (suc n))) y e = absurd e
edges7 (Wrap c t) y e = let q : ◌≡◌ {A = ℕ} 1 t = cc (wrap_only c t e.1) in ap (λ n. Cell n) q ∙ e.0

abbrev start7 : Name → Type 0
start7 s = Has w6.black s ⊎ (Wrap comp_0 1 ≡ s)

one_in : Contains b7 (Cell 1)
one_in = contains_tail (Wrap comp_0 1) b6 (Cell 1) (contains_head (Cell 1) (Cell 0 ∷ []))

started7 : (x : Name) → Contains b7 x → Closure w7.graph start7 x
started7 = each_has (Closure w7.graph start7) b7 (
  from (inr refl),
  (
    from (inl ((black6 (Cell 1)).1 (contains_head (Cell 1) (Cell 0 ∷ [])))),
    (from (inl ((black6 (Cell 0)).1 (contains_tail (Cell 1) (Cell 0 ∷ []) (Cell 0) (contains_head (Cell 0) [])))), tt),
  ),
)

within7 : (x : Name) → Closure w7.graph start7 x → Contains b7 x
within7 x h = reached_within w7.graph start7 b7
    (λ y s. elim s [
      | inl a ↦ contains_tail (Wrap comp_0 1) b6 y ((black6 y).0 a)
      | inr e
          ↦ subst (λ n. Contains b7 n) e (contains_head (Wrap comp_0 1) b6)
    ])
    (λ y z c d. subst (λ n. Contains b7 n) (edges7 y z d) one_in)
    (λ m q v at hm hq. absurd (cc at))
    (λ m v c t at hm ht. absurd (cc at))
    h

a7 : Answers w6 (Graph (cmd.Wrap 2 1 comp_0)) [] (reply.Named (Wrap comp_0 1)) w7
a7 = (
  refl,
  (
    refl,
    (
      record {
        graph_is = refl;
        found = λ h. absurd (absent6 h);
        made = λ n. (
          0,
          (0, 1),
          refl,
          room_next w6 0 0 1 refl only_arena refl (omega arith) used6
              (λ x e. fresh_slot p6 (0, 1) refl x (sym (places6 x) ∙ e)),
          refl,
        );
        out_is = refl;
        white_is = refl;
        weak_is = refl;
        preparing_is = refl;
      },
      (
        refl,
        λ y. (
          (λ h. let c = (black7 y).0 h in (started7 y c, all_present y c)),
          λ h. (black7 y).1 (within7 y h.0),
        ),
      ),
    ),
  ),
)

-- the collection
abbrev both : List ℕ
both = 0 ∷ 1 ∷ []

abbrev roots : Names
roots = set.insert set.empty (Cell 0)

abbrev gs : List (List ℕ)
gs = (0 ∷ []) ∷ (1 ∷ []) ∷ []

-- both zones are prepared: no cell is black from then on
abbrev prepared12 : World
prepared12 = record w12 { black = set.empty; preparing = Some (first_preparation w12 both) }

abbrev k0 : Collection
k0 = record {
  zones = both;
  marking = both;
  snapshot = w12.graph;
  black_starts = set.empty;
  live_starts = roots;
  woken = set.empty;
  groups = None;
  tally = first_tally prepared12 (first_preparation w12 both);
}

abbrev k1 : Collection
k1 = record k0 { groups = Some gs }

abbrev k2 : Collection
k2 = record k1 { marking = 1 ∷ []; groups = Some ((1 ∷ []) ∷ []) }

abbrev k3 : Collection
k3 = record k2 { tally = record k2.tally { sweeps = k2.tally.sweeps + 1 } }

abbrev k4 : Collection
k4 = record k3 { marking = []; groups = Some [] }

abbrev k5 : Collection
k5 = record k4 { tally = record k4.tally { sweeps = k4.tally.sweeps + 1 } }

abbrev u0 : World
u0 = record w12 { black = set.empty; collection = Some k0 }

abbrev u1 : World
u1 = record w12 { black = set.empty; collection = Some k1 }

abbrev u2 : World
u2 = record w12 { out = 0 ∷ []; black = set.empty; collection = Some k2 }

abbrev u3 : World
u3 = record w12 { black = set.empty; collection = Some k3 }

abbrev u4 : World
u4 = record w12 { out = 1 ∷ []; black = set.empty; collection = Some k4 }

abbrev u5 : World
u5 = record w12 { black = set.empty; collection = Some k5 }

abbrev w13 : World
w13 = record u5 { collection = None }

root : (x : Name) → Has roots x → Cell 0 ≡ x
root x h = elim (insert_cases set.empty (Cell 0) x h) [ inl none ↦ absurd (no_name x none) | inr e ↦ e ]

all_in_zones : (x : Name) → Contains b7 x → IsInZones w12.graph both x
all_in_zones = each_has (λ x. IsInZones w12.graph both x) b7 (refl, (refl, (refl, tt)))

in_slot : (x : Name) → Contains w12.graph.slots (Some x) → Cell 0 ≡ x
in_slot x c = elim (contains_set_cases (replicate 64 None) 0 (Some (Cell 0)) (Some x) c)
    [ inl t ↦ absurd (no_name_in_nulls 64 x t) | inr e ↦ cc e ]

prepares : Prepares w12 both prepared12
prepares = record {
  idle = record { none_running = refl; none_preparing = refl };
  made = λ z c. elim (contains_cases 0 (1 ∷ []) z c) [
    | inl e ↦ omega (arith, e)
    | inr t ↦ let e = single 1 z t in
        omega (arith, e)
  ];
  some = λ e. cc e;
  world_is = refl;
  black_are = λ x. ((λ h. absurd (no_name x h)), λ h. absurd (h.1 (all_in_zones x ((black7 x).0 h.0))));
}

begins : Begins prepared12 both u0
begins = record {
  preparation = first_preparation w12 both;
  was = refl;
  of_zones = refl;
  collection = k0;
  world_is = refl;
  zones_are = refl;
  marking_are = refl;
  snapshot_is = refl;
  woken_is = refl;
  groups_are = refl;
  tally_is = refl;
  black_starts = λ x. (
    (λ h. absurd (no_name x h)),
    λ h. elim h [
      | inl c ↦ absurd (no_name_in_nulls 16 x c)
      | inr b ↦ absurd (no_name x b)
    ],
  );
  live_starts = λ x. (
    (λ h. inr (inl (subst (λ z. Contains w12.graph.slots (Some z)) (root x h) (0, omega arith, refl)))),
    λ h. elim h [
      | inl b ↦ absurd (no_name x b)
      | inr o ↦ elim o [
        | inl s ↦ subst (λ z. Has roots z) (in_slot x s) (insert_has set.empty (Cell 0))
        | inr p
            ↦ absurd (p.1 (all_in_zones x (present7 x p.0)))
      ]
    ],
  );
}

-- a group of this partition is one of the two
group_is : (P : List ℕ → Type 0) → P (0 ∷ []) → P (1 ∷ []) → (g : List ℕ) → Contains gs g → P g
group_is P p q g c =
    elim (contains_cases (0 ∷ []) ((1 ∷ []) ∷ []) g c) [ inl e ↦ subst P e p | inr t ↦ subst P (single (1 ∷ []) g t) q ]

alone : (z a b : ℕ) → Contains (z ∷ []) a → Contains (z ∷ []) b → LeadsWithin (IsFirstEdge u0 k0) (z ∷ []) a b
alone z a b ca cb = subst (λ y. LeadsWithin (IsFirstEdge u0 k0) (z ∷ []) a y) (sym (single z a ca) ∙ single z b cb) here

-- the only wrapper is of zone 0
wrapper_zone : (c : CompNo) (t a : ℕ) → IsPresent u0 (Wrap c t) → zone_of u0.graph (Wrap c t) ≡ Some a → 0 ≡ a
wrapper_zone c t a p e = elim (contains_cases (Wrap comp_0 1) b6 (Wrap c t) (present7 (Wrap c t) p)) [
  | inl q ↦ let z : zone_of u0.graph (Wrap comp_0 1) ≡ Some a = subst (λ x. zone_of u0.graph x ≡ Some a) (sym q) e in
      cc z
  | inr r ↦ elim (contains_cases (Cell 1) (Cell 0 ∷ []) (Wrap c t) r) [
    | inl q ↦ absurd (cc q)
    | inr s ↦ let q =
        single (Cell 0) (Wrap c t) s in absurd (cc q)
  ]
]

groups : AreLawfulGroups u0 k0 gs
groups = record {
  all = λ z c. elim (contains_cases 0 (1 ∷ []) z c) [
    | inl e ↦ (0 ∷ [], contains_head (0 ∷ []) ((1 ∷ []) ∷ []), subst (λ y. Contains (0 ∷ []) y) e (contains_head 0 []))
    | inr t ↦ (1 ∷ [], contains_tail (0 ∷ []) ((1 ∷ []) ∷ []) (1 ∷ []) (contains_head (1 ∷ []) []), t)
  ];
  only = λ g z c d. group_is (λ l. Contains l z → Contains both z)
      (λ h. subst (λ y. Contains both y) (single 0 z h) (contains_head 0 (1 ∷ []))) (λ h. contains_tail 0 (1 ∷ []) z h)
      g c d;
  full = λ g c. group_is (λ l. l ≡ [] → ⊥) (λ e. cc e) (λ e. cc e) g c;
  ascending = λ g c. group_is AreAscending (tt, tt) (tt, tt) g c;
  apart = (
    (λ h c z d f. let e : ◌≡◌ {A = List ℕ} (1 ∷ []) h = single (1 ∷ []) h c in let z0 = single 0 z d in
        let z1 = single 1 z (subst (λ l. Contains l z) (sym e) f) in omega (arith, z0, z1)),
    ((λ h c. absurd (nothing_in_none h c)), tt),
  );
  strong = λ g c. group_is (λ l. (a b : ℕ) → Contains l a → Contains l b → LeadsWithin (IsFirstEdge u0 k0) l a b)
      (alone 0) (alone 1) g c;
  backward = (
    (λ h c a b ca cb e.
        let eh : ◌≡◌ {A = List ℕ} (1 ∷ []) h = single (1 ∷ []) h c in
        let ea = single 1 a (subst (λ l. Contains l a) (sym eh) ca) in
        elim e.3 [
          | inl l ↦ let ez = wrapper_zone l.0 l.1 a l.2.present l.2.of in omega (arith, ea, ez)
          | inr l ↦ cc (l.3.2)
        ]),
    ((λ h c. absurd (nothing_in_none h c)), tt),
  );
}

edges12 : (x y : Name) → HasEdge w12.graph x y → Contains b7 y
edges12 (Cell zero) y e = let q = single (Some (Wrap comp_0 1)) (Some y) e in
    subst (λ n. Contains b7 n) (cc q) (contains_head (Wrap comp_0 1) b6)
edges12 (Cell (suc zero)) y e = absurd (nothing_in_none (Some y) e)
edges12 (Cell (suc (suc n))) y e = absurd e
edges12 (Wrap c t) y e = let q : ◌≡◌ {A = ℕ} 1 t = cc (wrap_only c t e.1) in
    subst (λ n. Contains b7 n) (ap (λ n. Cell n) q ∙ e.0) one_in

gray0 : LiveClosure k1 (Cell 0)
gray0 = from (inl (insert_has set.empty (Cell 0)))

gray_wrap : LiveClosure k1 (Wrap comp_0 1)
gray_wrap = along gray0 (contains_head (Some (Wrap comp_0 1)) [])

gray1 : LiveClosure k1 (Cell 1)
gray1 = along gray_wrap (refl, refl)

all_gray : (x : Name) → Contains b7 x → LiveClosure k1 x
all_gray = each_has (LiveClosure k1) b7 (gray_wrap, (gray1, (gray0, tt)))

none_black : (x : Name) → BlackClosure k1 x → ⊥
none_black x h = nothing_in_none x
    (reached_within w12.graph _ [] (λ y s. elim s [ inl a ↦ absurd (no_name y a) | inr t ↦ absurd (no_name y t) ])
    (λ y z c d. absurd (nothing_in_none y c)) (λ m q v at hm hq. absurd (cc at)) (λ m v c t at hm ht. absurd (cc at)) h)

abbrev first_grays : List Name
first_grays = Cell 0 ∷ Wrap comp_0 1 ∷ []

in_first : (x : Name) → Contains b7 x → IsInZones w12.graph (0 ∷ []) x → Contains first_grays x
in_first = each_has (λ x. IsInZones w12.graph (0 ∷ []) x → Contains first_grays x) b7 (
  (λ h. contains_tail (Cell 0) (Wrap comp_0 1 ∷ []) (Wrap comp_0 1) (contains_head (Wrap comp_0 1) [])),
  ((λ h. absurd (cc h)), ((λ h. contains_head (Cell 0) (Wrap comp_0 1 ∷ [])), tt)),
)

in_second : (x : Name) → Contains b7 x → IsInZones w12.graph (1 ∷ []) x → Contains (Cell 1 ∷ []) x
in_second = each_has (λ x. IsInZones w12.graph (1 ∷ []) x → Contains (Cell 1 ∷ []) x) b7
    ((λ h. absurd (cc h)), ((λ h. contains_head (Cell 1) []), ((λ h. absurd (cc h)), tt)))

first_of : (x : Name) → Contains first_grays x → Contains b7 x × IsInZones w12.graph (0 ∷ []) x
first_of = each_has (λ x. Contains b7 x × IsInZones w12.graph (0 ∷ []) x) first_grays (
  (
    contains_tail (Wrap comp_0 1) b6 (Cell 0)
        (contains_tail (Cell 1) (Cell 0 ∷ []) (Cell 0) (contains_head (Cell 0) [])),
    refl,
  ),
  ((contains_head (Wrap comp_0 1) b6, refl), tt),
)

second_of : (x : Name) → Contains (Cell 1 ∷ []) x → Contains b7 x × IsInZones w12.graph (1 ∷ []) x
second_of = each_has (λ x. Contains b7 x × IsInZones w12.graph (1 ∷ []) x) (Cell 1 ∷ []) ((one_in, refl), tt)

ends_first : IsLawfulEnd u1 k1 (0 ∷ []) ((1 ∷ []) ∷ []) first_grays u2
ends_first = record {
  ready = refl;
  grays_are = record {
    ascending = ((refl, tt), (tt, tt));
    has = λ x. (
      (λ c. let d = first_of x c in gray_of u1 k1 (0 ∷ []) x (all_present x d.0) d.1 (all_gray x d.0) (none_black x)),
      λ g. in_first x (present7 x g.present) g.here,
    );
  };
  graph_is = refl;
  owner_is = refl;
  gone = λ x h. absurd (white_is_not_live u1 k1 (0 ∷ []) x h (all_gray x (present7 x h.present)));
  stay = λ x n. refl;
  white_are = λ x p. (
    (λ c. absurd (nothing_in_none (x, p) c)),
    λ h. absurd (white_is_not_live u1 k1 (0 ∷ []) x h.0 (all_gray x (present7 x h.0.present))),
  );
  out_is = refl;
  preparing_is = refl;
  collection_is = refl;
  black_are = λ s x. absurd (cc s.none_marking);
}

ends_second : IsLawfulEnd u3 k3 (1 ∷ []) [] (Cell 1 ∷ []) u4
ends_second = record {
  ready = refl;
  grays_are = record {
    ascending = (tt, tt);
    has = λ x. (
      (λ c. let d = second_of x c in gray_of u3 k3 (1 ∷ []) x (all_present x d.0) d.1 (all_gray x d.0) (none_black x)),
      λ g. in_second x (present7 x g.present) g.here,
    );
  };
  graph_is = refl;
  owner_is = refl;
  gone = λ x h. absurd (white_is_not_live u3 k3 (1 ∷ []) x h (all_gray x (present7 x h.present)));
  stay = λ x n. refl;
  white_are = λ x p. (
    (λ c. absurd (nothing_in_none (x, p) c)),
    λ h. absurd (white_is_not_live u3 k3 (1 ∷ []) x h.0 (all_gray x (present7 x h.0.present))),
  );
  out_is = refl;
  preparing_is = refl;
  collection_is = refl;
  black_are = λ s x. ((λ h. absurd (no_name x h)), λ h. absurd (none_black x h.0));
}

sweeps_first : IsLawfulSweep u2 0 [] u3
sweeps_first = record {
  rest = [];
  first = refl;
  world_is = refl;
  freed_are = record {
    ascending = tt;
    has = λ x. ((λ c. absurd (nothing_in_none x c)), λ h. absurd (nothing_in_none (x, (0, h.0)) h.1));
  };
  white_are = λ x p. ((λ c. absurd (nothing_in_none (x, p) c)), λ h. absurd (nothing_in_none (x, p) h.0));
}

sweeps_second : IsLawfulSweep u4 1 [] u5
sweeps_second = record {
  rest = [];
  first = refl;
  world_is = refl;
  freed_are = record {
    ascending = tt;
    has = λ x. ((λ c. absurd (nothing_in_none x c)), λ h. absurd (nothing_in_none (x, (1, h.0)) h.1));
  };
  white_are = λ x p. ((λ c. absurd (nothing_in_none (x, p) c)), λ h. absurd (nothing_in_none (x, p) h.0));
}

-- the zones of the three sets
zones_0 : zones_in only_zone_0 ≡ 0 ∷ []
unfolding zones_in zones_from
zones_0 = refl

zones_1 : zones_in only_zone_1 ≡ 1 ∷ []
unfolding zones_in zones_from
zones_1 = refl

zones_01 : zones_in zones_0_and_1 ≡ both
unfolding zones_in zones_from
zones_01 = refl

-- the units after its beginning
abbrev units12 : List (List Report)
units12 = (Groups (only_zone_0 ∷ only_zone_1 ∷ []) ∷ []) ∷ (Ended only_zone_0 first_grays [] ∷ []) ∷ (Swept 0 [] ∷ [])
    ∷ (Ended only_zone_1 (Cell 1 ∷ []) [] ∷ []) ∷ (Swept 1 [] ∷ Done ∷ []) ∷ []

done12 : AreLawfulUnits u0 units12 w13
done12 = (
  u1,
  says (inl (k0, refl)) (λ e. cc e) (rw (zones_0, zones_1) forms) (λ o. cc (o.running, o.ended)),
  (
    u2,
    says (inl (k1, refl)) (λ e. cc e)
        (subst (λ z. EndsGroup u1 z first_grays [] u2) (sym zones_0)
        (record {
          collection = k1;
          rest = (1 ∷ []) ∷ [];
          running = refl;
          first = refl;
          ends = ends_first;
          loses = loses_nothing u1 u2 refl refl;
        })) (λ o. cc o.none_out),
    (
      u3,
      says (inl (k2, refl)) (λ e. cc e) sweeps_first (λ o. cc (o.running, o.ended)),
      (
        u4,
        says (inl (k3, refl)) (λ e. cc e)
            (subst (λ z. EndsGroup u3 z (Cell 1 ∷ []) [] u4) (sym zones_1)
            (record {
              collection = k3;
              rest = [];
              running = refl;
              first = refl;
              ends = ends_second;
              loses = loses_nothing u3 u4 refl refl;
            })) (λ o. cc o.none_out),
        (
          w13,
          last (inl (k4, refl)) (λ e. cc e) sweeps_second
              (record {
                over = record { collection = k5; running = refl; ended = refl; none_out = refl };
                world_is = refl;
              }),
          refl,
        ),
      ),
    ),
  ),
)
  where
    forms : FormsGroups u0 gs u1
    forms = record { collection = k0; running = refl; none_yet = refl; lawful = groups; world_is = refl }

collected : Answers w12 (Collect zones_0_and_1)
    (Started ∷ Groups (only_zone_0 ∷ only_zone_1 ∷ []) ∷ Ended only_zone_0 first_grays [] ∷ Swept 0 []
    ∷ Ended only_zone_1 (Cell 1 ∷ []) [] ∷ Swept 1 [] ∷ Done ∷ []) reply.Collected w13
collected = inl (
  refl,
  record {
    begun = prepared12;
    begins = subst (λ z. Prepares w12 z prepared12) (sym zones_01) prepares;
    units = (Started ∷ []) ∷ units12;
    done = (u0, begins_unit both prepared12 u0 begins, done12);
    reports_are = refl;
    over = record { none_running = refl; none_preparing = refl };
  },
)

pub one_way_gray_lawful : IsLawfulOutput one_way_gray answers_one_way_gray
one_way_gray_lawful = (
  w13,
  (
    w1,
    a1,
    (
      w2,
      a2,
      (
        w3,
        a3,
        (
          w4,
          a4,
          (
            w5,
            a5,
            (
              w6,
              a6,
              (
                w7,
                a7,
                (
                  w8,
                  (refl, (refl, refl)),
                  (
                    w9,
                    (refl, (refl, refl)),
                    (
                      w10,
                      (refl, (refl, refl)),
                      (w11, (refl, (refl, refl)), (w12, (refl, (refl, refl)), (w13, collected, refl))),
                    ),
                  ),
                ),
              ),
            ),
          ),
        ),
      ),
    ),
  ),
)
