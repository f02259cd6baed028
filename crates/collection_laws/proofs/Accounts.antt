-- What becomes of numbers, carried over what lawful worlds do.
use Rattle.std.proofs.Common.{◌≡◌, ◌<◌, ◌≤◌, ℕ, ◌+◌, ◌⊎◌, inl, inr, List, [], ◌∷◌, ◌++◌, refl, sym, ap, subst, ◌∙◌}
use Rattle.std.proofs.Common.{Bool, true, false, nat_lt, ltb-true, arith, length, Option, Some, None, Contains}
use Rattle.std.proofs.Common.{append-nil, append_assoc, is_some, slice_get}
use Rattle.std.specs.FinMap as map
use Rattle.std.specs.List.{flat_map}
use Rattle.std.specs.Option.{option_flatten}
use Rattle.std.proofs.lemmas.Bool.{ltb-false}
use Rattle.std.proofs.lemmas.Option.{slice_get_within}
use Rattle.gz_names.specs.declared.names.Name.{Name}
use Rattle.gz_names.specs.declared.names.Name.TheVariants.{Cell}
use Rattle.gz_names.specs.declared.commands.GraphCmd.{GraphCmd}
use Rattle.gz_names.specs.declared.replies.Refusal.{Refusal}
use Rattle.gz_names.specs.declared.replies.Reply.{Reply}
use Rattle.gz_names.specs.declared.replies.Report.{Report}
use Rattle.gz_names.specs.declared.replies.Report.TheVariants.{Started, Groups, Ended, Swept, Done, Stopped}
use Rattle.gz_names.specs.Zones.{zones_in}
use Rattle.colour_defs.specs.declared.graph.Object.{Object}
use Rattle.colour_defs.specs.Graph.{GraphState, comp_of_object, zone_of, zone_of_comp}
use Rattle.colour_defs.specs.Ends.{IsLawfulEnd, IsWhiteOf}
use Rattle.colour_defs.specs.Lawful.{Begins, Prepares, IsLawfulReport}
use Rattle.colour_defs.specs.Lawful.{IsLawfulSweep, IsLawfulUnit}
use Rattle.colour_defs.specs.Lawful.{quiet, says, last, AreLawfulUnits}
use Rattle.colour_defs.specs.Laws.{HasSomeZone, IsValid}
use Rattle.colour_defs.specs.Step.{step_of, refusal_in}
use Rattle.colour_defs.specs.World.{World, Collection, Preparation, HasPlace, IsPresent, AcceptsIn}
use Rattle.colour_defs.specs.World.{AcceptsUnless, CommandInWorld, with_counts, woken_by}
use Rattle.colour_defs.specs.World.{also_woken_by, first_world}
use Rattle.colour_defs.proofs.Carried.{Changes, present_or}
use Rattle.colour_defs.proofs.Effects.{Waking, waking_of}
use Rattle.colour_defs.proofs.Lists.{nothing_in_none}
use Rattle.colour_defs.proofs.Refused.{refused_keeps}
use Rattle.colour_defs.proofs.ValidCommands.{command_valid, quiet_changes, waking_changes}
use Rattle.colour_defs.proofs.ValidRuns.{no_one}
use Rattle.colour_defs.proofs.Woken.{Woken, from_slot, new_cell, wrapper}
use Rattle.collection_laws.specs.Numbers.{GivesNext, IsAccounted, IsUnswept, LiesInArenas, freed_in, given_after}
use Rattle.collection_laws.specs.Numbers.{times_in}
use Rattle.collection_laws.proofs.Graphs.{command_graph}
use Rattle.collection_laws.proofs.Lying.{StaysInPlace, command_lying, ends_lying, same_zones, stays_lying, sweeps_lying}
use Rattle.collection_laws.proofs.Replies.{Answered, answered}
use Rattle.collection_laws.proofs.Times.{freed_append, freed_last, times_append, times_cases, times_none, times_one}

-- a number that has a zone was given
zone_given : (g : GraphState) (n z : ℕ) → zone_of g (Cell n) ≡ Some z → n < length g.objects
zone_given g n z e = go (slice_get g.objects n) refl e
  where
    go : (o : Option (Option Object)) → slice_get g.objects n ≡ o
        → zone_of_comp g (comp_of_object (option_flatten o)) ≡ Some z → n < length g.objects
    go None at e = absurd (cc e)
    go (Some o) at e = slice_get_within g.objects n o at

present_given : (w : World) → IsValid w → (n : ℕ) → IsPresent w (Cell n) → n < length w.graph.objects
present_given w ok n p = let z : HasSomeZone w.graph (Cell n) = ok.made (Cell n) p in zone_given w.graph n z.0 z.1

-- nothing is freed, and one number more is given at most, to a cell that is there then
pub record GivesOneMore (w v : World) (o : Waking) (given next : ℕ) (freed : List Name) : Type 0 where
  pub ok : IsValid w
  pub valid : IsValid v
  pub accounted : IsAccounted w given freed
  pub changes : Changes w o v
  pub white_is : v.white ≡ w.white
  pub lies : LiesInArenas v
  pub next_is : length v.graph.objects ≡ next
  pub more : (next ≡ given) ⊎ ((next ≡ given + 1) × (o.first ≡ Some (Cell given)))

module _ (w v : World) (o : Waking) (given next : ℕ) (freed : List Name) (gives : GivesOneMore w v o given next freed)
  where
    no_fewer : given ≤ next
    no_fewer = elim gives.more [ inl e ↦ omega (arith, e) | inr h ↦ (let e = h.0 in omega (arith, e)) ]

    -- a cell that was not there has the next number
    new_number : (n : ℕ) → (IsPresent w (Cell n) → ⊥) → o.first ≡ Some (Cell n) → n ≡ given
    new_number n absent is = elim (gives.changes.awake (Cell n) is) [
      | inl there ↦ absurd (absent there)
      | inr awake ↦ by awake
    ]
      where
        by : Woken w.graph v.graph (Cell n) → n ≡ given
        by (from_slot s e) = absurd (absent (gives.ok.presence.slots s (Cell n) e))
        by (new_cell e d at) = let is : length w.graph.objects ≡ n = cc e in sym is ∙ gives.accounted.given_is
        by (wrapper d t e src there) = absurd (cc e)

    was_or_new : (n : ℕ) → IsPresent v (Cell n) → IsPresent w (Cell n) ⊎ (n ≡ given)
    was_or_new n p = elim (present_or w (Cell n)) [
      | inl there ↦ inl there
      | inr absent ↦ elim (gives.changes.fresh (Cell n) p) [
        | inl there ↦ inl there
        | inr is ↦ inr (new_number n absent is)
      ]
    ]

    was_unswept : (n : ℕ) → IsUnswept v (Cell n) → IsUnswept w (Cell n)
    was_unswept n u = (u.0, subst (λ l. Contains {X = Name × (ℕ × ℕ)} l (Cell n, u.0)) gives.white_is u.1)

    now_unswept : (n : ℕ) → IsUnswept w (Cell n) → IsUnswept v (Cell n)
    now_unswept n u = (u.0, subst (λ l. Contains {X = Name × (ℕ × ℕ)} l (Cell n, u.0)) (sym gives.white_is) u.1)

    pub changed_accounts : IsAccounted v next freed
    changed_accounts = record {
      lies = gives.lies;
      given_is = gives.next_is;
      present = λ n p. (
        (let below = present_given v gives.valid n p in let is = gives.next_is in omega (arith, below, is)),
        elim (was_or_new n p) [
          | inl there ↦ (gives.accounted.present n there).1
          | inr is ↦ gives.accounted.others n (omega (arith, is))
        ],
      );
      unswept = λ n u.
          let was = gives.accounted.unswept n (was_unswept n u) in
          let few = no_fewer in (
            (let below = was.0 in omega (arith, below, few)),
            was.1,
            λ p. elim (was_or_new n p) [
              | inl there ↦ was.2 there
              | inr is ↦ (let below = was.0 in omega (arith, below, is))
            ],
          );
      told = λ n below absent swept. elim gives.more [
        | inl e ↦ gives.accounted.told n (omega (arith, below, e)) (λ p. absent (gives.changes.kept (Cell n) p))
            (λ u. swept (now_unswept n u))
        | inr h ↦ old_or_new n below absent swept h.0 h.1
      ];
      others = λ n out. let few = no_fewer in gives.accounted.others n (omega (arith, out, few));
    }
      where
        old_or_new : (n : ℕ) → n < next → (IsPresent v (Cell n) → ⊥) → (IsUnswept v (Cell n) → ⊥) → next ≡ given + 1
            → o.first ≡ Some (Cell given) → times_in freed n ≡ 1
        old_or_new n below absent swept e first = by (nat_lt n given) refl
          where
            by : (b : Bool) → nat_lt n given ≡ b → times_in freed n ≡ 1
            by true lt = gives.accounted.told n (ltb-true n given lt) (λ p. absent (gives.changes.kept (Cell n) p))
                (λ u. swept (now_unswept n u))
            by false lt =
                let least : given ≤ n = ltb-false n given lt in
                let is : given ≡ n = omega (arith, least, below, e) in
                absurd (absent (gives.changes.there (Cell n) (first ∙ ap (λ m. Some (Cell m)) is)))

-- an accepted command
accepted_changes : (w : World) (c : GraphCmd) (v : World) → refusal_in (step_of w.graph c).1 ≡ None
    → AcceptsUnless None w (with_counts w.graph c w.collection) (step_of w.graph c).0 (woken_by w.graph c)
    (also_woken_by w.graph c) v
    → Changes w (waking_of w.graph c) v × (v.white ≡ w.white)
accepted_changes w c v ok h = by (with_counts w.graph c w.collection) w.preparing (woken_by w.graph c) refl
    (also_woken_by w.graph c) h
  where
    placed : (x : Name) → woken_by w.graph c ≡ Some x → HasPlace w (step_of w.graph c).0 x v
        → Changes w (waking_of w.graph c) v × (v.white ≡ w.white)
    placed x is h = (waking_changes w v c x ok is h, h.white_is)

    by : (k : Option Collection) (p : Option Preparation) (x : Option Name) → woken_by w.graph c ≡ x
        → (y : Option Name) → AcceptsIn p w k (step_of w.graph c).0 x y v
        → Changes w (waking_of w.graph c) v × (v.white ≡ w.white)
    by k None None none y h = subst (λ (u : World). Changes w (waking_of w.graph c) u × (u.white ≡ w.white)) (sym h)
        (quiet_changes w c w.black k none, refl)
    by k None (Some x) is y h = placed x is h.0
    by k (Some p) None none None h =
        subst (λ (u : World). Changes w (waking_of w.graph c) u × (u.white ≡ w.white)) (sym h)
        (quiet_changes w c w.black w.collection none, refl)
    by k (Some p) None none (Some y) h =
        subst (λ (u : World). Changes w (waking_of w.graph c) u × (u.white ≡ w.white)) (sym h.0)
        (quiet_changes w c v.black w.collection none, refl)
    by k (Some p) (Some x) is y h = placed x is h.0

-- a command on the graph
pub command_accounts : (w : World) (c : GraphCmd) (answer : Reply) (v : World) (given : ℕ) (freed : List Name)
    → IsValid w → IsAccounted w given freed → CommandInWorld w c answer v
    → GivesNext given answer × IsAccounted v (given_after given answer) freed
command_accounts w c answer v given freed ok a h =
    subst (λ (r : Reply). GivesNext given r × IsAccounted v (given_after given r) freed) (sym h.0)
    (subst (λ (n : ℕ). GivesNext n (step_of w.graph c).1 × IsAccounted v (given_after n (step_of w.graph c).1) freed)
    a.given_is (says.next, go (refusal_in (step_of w.graph c).1) refl h.1))
  where
    says : Answered w.graph c
    says = answered w.graph c

    mine : IsAccounted w (length w.graph.objects) freed
    mine = subst (λ (n : ℕ). IsAccounted w n freed) (sym a.given_is) a

    made : length v.graph.objects ≡ given_after (length w.graph.objects) (step_of w.graph c).1
    made = ap (λ (g : GraphState). length g.objects) (command_graph w c answer v h) ∙ says.made

    go : (o : Option Refusal) → refusal_in (step_of w.graph c).1 ≡ o
        → AcceptsUnless o w (with_counts w.graph c w.collection) (step_of w.graph c).0 (woken_by w.graph c)
        (also_woken_by w.graph c) v
        → IsAccounted v (given_after (length w.graph.objects) (step_of w.graph c).1) freed
    go (Some why) e same =
        let kept : length (step_of w.graph c).0.objects ≡ length w.graph.objects =
        ap (λ (g : GraphState). length g.objects) (refused_keeps w.graph c why e) in
        subst (λ (n : ℕ). IsAccounted v n freed) (sym kept ∙ says.made)
        (subst (λ (u : World). IsAccounted u (length w.graph.objects) freed) (sym same) mine)
    go None e accepted =
        let changes = accepted_changes w c v e accepted in
        changed_accounts w v (waking_of w.graph c) (length w.graph.objects)
        (given_after (length w.graph.objects) (step_of w.graph c).1) freed (record {
          ok = ok;
          valid = command_valid w v c answer ok h;
          accounted = mine;
          changes = changes.0;
          white_is = changes.1;
          lies = command_lying w c answer v h a.lies;
          next_is = made;
          more = says.woken;
        })

-- where all cells stay and no number is given
pub same_accounts : (w v : World) (given : ℕ) (freed : List Name) → StaysInPlace w v
    → length v.graph.objects ≡ length w.graph.objects → IsAccounted w given freed → IsAccounted v given freed
same_accounts w v given freed s same a =
    let was : (x : Name) → IsPresent v x → IsPresent w x =
    λ x p. subst (λ m. is_some (map.get m x) ≡ true) s.places_is p in
    let now : (x : Name) → IsPresent w x → IsPresent v x =
    λ x p. subst (λ m. is_some (map.get m x) ≡ true) (sym s.places_is) p in
    let was_unswept : (x : Name) → IsUnswept v x → IsUnswept w x =
    λ x u. (u.0, subst (λ l. Contains {X = Name × (ℕ × ℕ)} l (x, u.0)) s.white_is u.1) in
    let now_unswept : (x : Name) → IsUnswept w x → IsUnswept v x =
    λ x u. (u.0, subst (λ l. Contains {X = Name × (ℕ × ℕ)} l (x, u.0)) (sym s.white_is) u.1) in
    record {
      lies = stays_lying w v s a.lies;
      given_is = same ∙ a.given_is;
      present = λ n p. a.present n (was (Cell n) p);
      unswept = λ n u. let h = a.unswept n (was_unswept (Cell n) u) in (h.0, h.1, λ p. h.2 (was (Cell n) p));
      told = λ n below absent swept.
          a.told n below (λ p. absent (now (Cell n) p)) (λ u. swept (now_unswept (Cell n) u));
      others = a.others;
    }

-- the graph and all cells are as they were
pub still_accounts : (w v : World) (given : ℕ) (freed : List Name) → v.graph ≡ w.graph → v.places ≡ w.places
    → v.owner ≡ w.owner → v.out ≡ w.out → v.white ≡ w.white → IsAccounted w given freed → IsAccounted v given freed
still_accounts w v given freed graph places owner out white a =
    same_accounts w v given freed (record {
      zones = same_zones graph;
      places_is = places;
      owner_is = owner;
      out_is = out;
      white_is = white;
    }) (ap (λ (g : GraphState). length g.objects) graph) a

-- a collection begins
pub prepares_accounts : (w : World) (zones : List ℕ) (v : World) (given : ℕ) (freed : List Name) → Prepares w zones v
    → IsAccounted w given freed → IsAccounted v given freed
prepares_accounts w zones v given freed h a =
    still_accounts w v given freed (ap (λ (u : World). u.graph) h.world_is) (ap (λ (u : World). u.places) h.world_is)
    (ap (λ (u : World). u.owner) h.world_is) (ap (λ (u : World). u.out) h.world_is)
    (ap (λ (u : World). u.white) h.world_is) a

begins_accounts : (w : World) (zones : List ℕ) (v : World) (given : ℕ) (freed : List Name) → Begins w zones v
    → IsAccounted w given freed → IsAccounted v given freed
begins_accounts w zones v given freed h a =
    still_accounts w v given freed (ap (λ (u : World). u.graph) h.world_is) (ap (λ (u : World). u.places) h.world_is)
    (ap (λ (u : World). u.owner) h.world_is) (ap (λ (u : World). u.out) h.world_is)
    (ap (λ (u : World). u.white) h.world_is) a

-- the end of a group
ends_accounts : (w : World) (k : Collection) (group : List ℕ) (rest : List (List ℕ)) (grays : List Name) (v : World)
    (given : ℕ) (freed : List Name) → IsLawfulEnd w k group rest grays v → IsAccounted w given freed
    → IsAccounted v given freed
ends_accounts w k group rest grays v given freed e a =
    let stayed : (x : Name) → IsPresent v x → IsWhiteOf w k group x → ⊥ =
    λ x p white. cc (p, ap is_some (e.gone x white)) in
    let was : (x : Name) → IsPresent v x → IsPresent w x = λ x p. sym (ap is_some (e.stay x (stayed x p))) ∙ p in
    let none_out : (x : Name) → IsUnswept w x → ⊥ =
    λ x u. nothing_in_none u.0.0 (subst (λ l. Contains l u.0.0) e.ready (a.lies.unswept_out x u.0 u.1)) in
    record {
      lies = ends_lying w k group rest grays v e a.lies;
      given_is = ap (λ (g : GraphState). length g.objects) e.graph_is ∙ a.given_is;
      present = λ n p. a.present n (was (Cell n) p);
      unswept = λ n u.
          let white = (e.white_are (Cell n) u.0).0 u.1 in
          let h = a.present n white.0.present in
          (h.0, h.1, λ p. stayed (Cell n) p white.0);
      told = λ n below absent swept. a.told n below
          (λ p. absent (ap is_some (e.stay (Cell n) (λ white. swept (at_place n p white))) ∙ p))
          (none_out (Cell n));
      others = a.others;
    }
  where
    at_place : (n : ℕ) → IsPresent w (Cell n) → IsWhiteOf w k group (Cell n) → IsUnswept v (Cell n)
    at_place n p white = by (map.get w.places (Cell n)) refl p
      where
        by : (o : Option (ℕ × ℕ)) → map.get w.places (Cell n) ≡ o → is_some o ≡ true → IsUnswept v (Cell n)
        by None at some = absurd (cc some)
        by (Some q) at some = (q, (e.white_are (Cell n) q).1 (white, at))

-- an arena is taken in
sweeps_accounts : (w : World) (arena : ℕ) (names : List Name) (v : World) (given : ℕ) (freed : List Name)
    → IsLawfulSweep w arena names v → IsAccounted w given freed → IsAccounted v given (freed ++ names)
sweeps_accounts w arena names v given freed s a = record {
  lies = sweeps_lying w arena names v s a.lies;
  given_is = ap (λ (u : World). length u.graph.objects) s.world_is ∙ a.given_is;
  present = λ n p.
      let h = a.present n (was n p) in
      (h.0, apart n h.1 (λ c. (a.unswept n (listed n c)).2 (was n p)));
  unswept = λ n u.
      let there = (s.white_are (Cell n) u.0).0 u.1 in
      let h = a.unswept n (u.0, there.0) in (
        h.0,
        apart n h.1 (λ c. there.1 (at_arena n u.0 there.0 c)),
        λ p. h.2 (was n p),
      );
  told = λ n below absent swept. elim (times_cases n names) [
    | inl none ↦
        let old = a.told n below (λ p. absent (now n p)) (λ u. unlisted n none u swept) in
        let sum = times_append n freed names in
        omega (arith, old, none, sum)
    | inr c ↦
        let old = (a.unswept n (listed n c)).1 in
        let one = times_one n names s.freed_are.ascending c in
        let sum = times_append n freed names in
        omega (arith, old, one, sum)
  ];
  others = λ n out. apart n (a.others n out)
      (λ c. (let below = (a.unswept n (listed n c)).0 in omega (arith, below, out)));
}
  where
    was : (n : ℕ) → IsPresent v (Cell n) → IsPresent w (Cell n)
    was n p = subst (λ (u : World). IsPresent u (Cell n)) s.world_is p

    now : (n : ℕ) → IsPresent w (Cell n) → IsPresent v (Cell n)
    now n p = subst (λ (u : World). IsPresent u (Cell n)) (sym s.world_is) p

    listed : (n : ℕ) → Contains names (Cell n) → IsUnswept w (Cell n)
    listed n c = let at = (s.freed_are.has (Cell n)).0 c in ((arena, at.0), at.1)

    at_arena : (n : ℕ) (p : ℕ × ℕ) → Contains {X = Name × (ℕ × ℕ)} w.white (Cell n, p) → Contains names (Cell n)
        → p.0 ≡ arena
    at_arena n p there c =
        let at = (s.freed_are.has (Cell n)).0 c in
        ap (λ (q : ℕ × ℕ). q.0) (a.lies.unswept_once (Cell n) p (arena, at.0) there at.1)

    apart : (n : ℕ) → times_in freed n ≡ 0 → (Contains names (Cell n) → ⊥) → times_in (freed ++ names) n ≡ 0
    apart n before none =
        let sum = times_append n freed names in
        let now = times_none n names none in
        omega (arith, before, sum, now)

    -- what is not told lies on in another arena
    unlisted : (n : ℕ) → times_in names n ≡ 0 → IsUnswept w (Cell n) → (IsUnswept v (Cell n) → ⊥) → ⊥
    unlisted n none u swept = swept (
      u.0,
      (s.white_are (Cell n) u.0).1 (
        u.1,
        λ here. (
            let one = times_one n names s.freed_are.ascending ((s.freed_are.has (Cell n)).1 (
              u.0.1,
              subst (λ i. Contains {X = Name × (ℕ × ℕ)} w.white (Cell n, (i, u.0.1))) here u.1,
            )) in
            cc (one, none)
            ),
      ),
    )

-- no more is reported as freed
pub tells_none : (v : World) (given : ℕ) (freed : List Name) → IsAccounted v given freed
    → IsAccounted v given (freed ++ [])
tells_none v given freed a = subst (λ (l : List Name). IsAccounted v given l) (sym (append-nil freed)) a

-- one report
pub report_accounts : (w : World) (r : Report) (v : World) (given : ℕ) (freed : List Name) → IsLawfulReport w r v
    → IsAccounted w given freed → IsAccounted v given (freed ++ freed_in (r ∷ []))
report_accounts w Started v given freed h a =
    tells_none v given freed (begins_accounts w h.0 v given freed h.1 a)
report_accounts w (Groups groups) v given freed h a = tells_none v given freed
    (still_accounts w v given freed (ap (λ (u : World). u.graph) h.world_is) (ap (λ (u : World). u.places) h.world_is)
    (ap (λ (u : World). u.owner) h.world_is) (ap (λ (u : World). u.out) h.world_is)
    (ap (λ (u : World). u.white) h.world_is) a)
report_accounts w (Ended zones grays told) v given freed h a = tells_none v given freed
    (ends_accounts w h.collection (zones_in zones) h.rest grays v given freed h.ends a)
report_accounts w (Swept arena names) v given freed h a =
    subst (λ (l : List Name). IsAccounted v given (freed ++ l)) (sym (append-nil names))
    (sweeps_accounts w arena names v given freed h a)
report_accounts w Done v given freed h a = tells_none v given freed
    (still_accounts w v given freed (ap (λ (u : World). u.graph) h.world_is) (ap (λ (u : World). u.places) h.world_is)
    (ap (λ (u : World). u.owner) h.world_is) (ap (λ (u : World). u.out) h.world_is)
    (ap (λ (u : World). u.white) h.world_is) a)
report_accounts w (Stopped zones) v given freed h a = absurd h

-- the reports of a unit
pub unit_accounts : (w : World) {rs : List Report} {v : World} (given : ℕ) (freed : List Name) → IsLawfulUnit w rs v
    → IsAccounted w given freed → IsAccounted v given (freed ++ freed_in rs)
unit_accounts w given freed (quiet run) a = tells_none w given freed a
unit_accounts w given freed (says {r} {v} run not h more) a = report_accounts w r v given freed h a
unit_accounts w given freed (last {r} {u} {v} run not h done) a =
    let told = freed ++ freed_in (r ∷ []) in
    let over : IsAccounted v given ((freed ++ freed_in (r ∷ [])) ++ []) =
    report_accounts u Done v given (freed ++ freed_in (r ∷ [])) done (report_accounts w r u given freed h a) in
    subst (λ (l : List Name). IsAccounted v given l)
    (append-nil (freed ++ freed_in (r ∷ [])) ∙ ap (λ (l : List Name). freed ++ l) (sym (freed_last r))) over

-- units one after another
pub units_accounts : (w : World) (units : List (List Report)) (v : World) (given : ℕ) (freed : List Name)
    → AreLawfulUnits w units v → IsAccounted w given freed
    → IsAccounted v given (freed ++ freed_in (flat_map (λ u. u) units))
units_accounts w [] v given freed h a =
    subst (λ (u : World). IsAccounted u given (freed ++ [])) (sym h) (tells_none w given freed a)
units_accounts w (unit ∷ units) v given freed (u, first, rest) a =
    let next : IsAccounted v given ((freed ++ freed_in unit) ++ freed_in (flat_map (λ u. u) units)) =
    units_accounts u units v given (freed ++ freed_in unit) rest (unit_accounts w given freed first a) in
    subst (λ (l : List Name). IsAccounted v given l)
    (append_assoc freed (freed_in unit) (freed_in (flat_map (λ u. u) units))
    ∙ ap (λ (l : List Name). freed ++ l) (sym (freed_append unit (flat_map (λ u. u) units)))) next

-- the first world
pub first_accounts : IsAccounted first_world 0 []
first_accounts = record {
  lies = record {
    owned = λ x p at. absurd (no_one x (ap is_some at));
    unswept_out = λ x p c. absurd (nothing_in_none {X = Name × (ℕ × ℕ)} (x, p) c);
    unswept_once = λ x p q c d. absurd (nothing_in_none {X = Name × (ℕ × ℕ)} (x, p) c);
  };
  given_is = refl;
  present = λ n p. absurd (no_one (Cell n) p);
  unswept = λ n u. absurd (nothing_in_none {X = Name × (ℕ × ℕ)} (Cell n, u.0) u.1);
  told = λ n below absent swept. absurd (omega (arith, below));
  others = λ n out. refl;
}
