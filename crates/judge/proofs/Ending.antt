-- A group ends: the judge stands for the world after it.
use Rattle.std.proofs.Common.{◌≡◌, ◌↔◌, ◌∙◌, ◌⊎◌, inl, inr, ℕ, true, List, [], ◌∷◌, map, Option, Some, None}
use Rattle.std.proofs.Common.{Contains, IsTrue, is_some, nat_eq, refl, sym, ap, subst, if◌then◌else◌}
use Rattle.std.specs.BTreeMap as tree
use Rattle.std.specs.FinMap as finite
use Rattle.std.proofs.lemmas.Bool.{cases_eq, eq-eqb, eqb-true}
use Rattle.gz_names.specs.Zones.{zones_in}
use Rattle.gz_names.specs.declared.names.Name.{Name}
use Rattle.gz_names.specs.declared.numbers.Place.{Place}
use Rattle.gz_names.specs.declared.zone_sets.ZoneSet.{ZoneSet}
use Rattle.colour_defs.specs.Ends.{IsGrayOf, IsLawfulEnd, IsWhiteOf, arenas_from, zones_without}
use Rattle.colour_defs.specs.Graph.{GraphState, IsInZones}
use Rattle.colour_defs.specs.Laws.{IsMarking, IsValidMarking}
use Rattle.colour_defs.specs.Lawful.{EndsGroup as EndsIn}
use Rattle.colour_defs.specs.WeakRefs.{if_present as if_there}
use Rattle.colour_defs.specs.World.{BlackClosure, Collection, Has, IsPresent, LiveClosure, World, marking_of}
use Rattle.colour_defs.proofs.Carried.{black_in_live, present_or}
use Rattle.colour_defs.proofs.Lists.{contains_cases, contains_head, contains_tail, nothing_in_none}
use Rattle.colour_defs.proofs.Membership.{gray_of, white_is_not_live, white_of}
use Rattle.plain_graph.specs.Indexed.{order_of}
use Rattle.judge.specs.Cells.{Cells, HasCell, IsGray, IsWhite}
use Rattle.judge.specs.Positions.{KeepsLaws, StandsIn}
use Rattle.judge.specs.Represents.{AreWaiting, IsAtStage, HasFound, IsBlackIn, IsCollected, Represents}
use Rattle.judge.specs.Stages.{EndsGroup, HasGroups, IsSettled, Shown}
use Rattle.judge.specs.Walks.{IsFoundBlack, IsFoundLive}
use Rattle.judge.specs.Weak.{IsWatched, if_present}
use Rattle.judge.specs.Whites.{is_at, lies_in, whites_in}
use Rattle.judge.proofs.Found.{HasCaught, black_is, lists_as}
use Rattle.judge.proofs.Grouping.{black_caught, live_caught}
use Rattle.judge.proofs.OneList.{one_list}
use Rattle.judge.proofs.Watching.{same_or_not}
use Rattle.judge.proofs.Numbers.{without_is}
use Rattle.judge.proofs.Settling.{groups_mark, marks_in, settled_in, settled_stage}
use Rattle.judge.proofs.Standing.{collected_at, present_is}

-- places that cannot differ are the same
same_option : (a b : Option (ℕ × ℕ)) → ((a ≡ b → ⊥) → ⊥) → a ≡ b
same_option None None n = refl
same_option None (Some q) n = absurd (n (λ e. cc e))
same_option (Some p) None n = absurd (n (λ e. cc e))
same_option (Some p) (Some q) n = elim (cases_eq p.0 q.0) [
  | inl a ↦ elim (cases_eq p.1 q.1) [
    | inl b ↦ ap Some (same_pair p q a b)
    | inr d ↦ absurd (n (λ e. d (let s : p ≡ q = cc e in ap (λ x. x.1) s)))
  ]
  | inr d ↦ absurd (n (λ e. d (let s : p ≡ q = cc e in ap (λ x. x.0) s)))
]
  where
    same_pair : (p q : ℕ × ℕ) → p.0 ≡ q.0 → p.1 ≡ q.1 → p ≡ q
    same_pair (a, b) (c, d) e f = ap (λ x. (x, b)) e ∙ ap (λ y. (c, y)) f

-- whether a name is in a list
among : (xs : List Name) (x : Name) → Contains xs x ⊎ (Contains xs x → ⊥)
among [] x = inr (λ c. nothing_in_none x c)
among (y ∷ ys) x = elim (same_or_not y x) [
  | inl e ↦ inl (subst (λ z. Contains (y ∷ ys) z) e (contains_head y ys))
  | inr other ↦ elim (among ys x) [
    | inl t ↦ inl (contains_tail y ys x t)
    | inr none ↦ inr (λ c. elim (contains_cases y ys x c) [ inl e ↦ other e | inr t ↦ none t ])
  ]
]

-- a cell that lies in an arena has a slot there
place_in : (cells : Cells) (a : ℕ) (x : Name) → IsTrue (lies_in cells a x)
    → (slot : ℕ) × (tree.get order_of cells x ≡ Some (a, slot))
place_in cells a x t = go (tree.get order_of cells x) refl
  where
    go : (o : Option Place) → tree.get order_of cells x ≡ o → (slot : ℕ) × (o ≡ Some (a, slot))
    go None e = let f : IsTrue (lies_in cells a x) = t in let n = ap (λ p. is_at p a) e in absurd (cc (f, n))
    go (Some (b, slot)) e =
        let at : nat_eq b a ≡ true = sym (ap (λ p. is_at p a) e) ∙ t in
        (slot, ap (λ n. Some (n, slot)) (eqb-true b a at))

in_place : (cells : Cells) (a : ℕ) (x : Name) (slot : ℕ) → tree.get order_of cells x ≡ Some (a, slot)
    → IsTrue (lies_in cells a x)
in_place cells a x slot e = ap (λ p. is_at p a) e ∙ eq-eqb a a refl

-- a group that ends, in the judge's world and in one of the definitions
module _ (g : GraphState) (group : ZoneSet) (judged grays told : List Name) (old new : Shown) (w v : World)
    (zs : List ℕ) (stands : StandsIn g old w) (after : KeepsLaws v) (ends : EndsGroup g old group judged new)
    (lawful : EndsIn w zs grays told v) where
  pub running : IsCollected old ends.ends.zones ends.ends.marking (Some (group ∷ ends.ends.rest)) w
  running = collected_at stands.represents ends.ends.zones ends.ends.marking (Some (group ∷ ends.ends.rest))
      ends.ends.was

  abbrev k : Collection
  k = running.collection

  pub same_collection : lawful.collection ≡ running.collection
  same_collection = cc (running.collection_is, lawful.running)

  same_groups : Some (zs ∷ lawful.rest) ≡ Some (zones_in group ∷ map zones_in ends.ends.rest)
  same_groups = sym lawful.first ∙ ap (λ (c : Collection). c.groups) same_collection ∙ running.groups_are

  pub same_group : zs ≡ zones_in group
  same_group = cc same_groups

  same_rest : lawful.rest ≡ map zones_in ends.ends.rest
  same_rest = cc same_groups

  pub at_end : IsLawfulEnd w running.collection (zones_in group) (map zones_in ends.ends.rest) grays v
  at_end = subst (λ c. IsLawfulEnd w c (zones_in group) (map zones_in ends.ends.rest) grays v) same_collection
      (subst (λ z. IsLawfulEnd w lawful.collection z (map zones_in ends.ends.rest) grays v) same_group
      (subst (λ r. IsLawfulEnd w lawful.collection zs r grays v) same_rest lawful.ends))

  has_groups : HasGroups old.stage
  has_groups = subst HasGroups (sym ends.ends.was) tt

  marks : IsMarking running.collection
  marks none = groups_mark stands.represents stands.laws.valid has_groups
      (settled_stage stands.represents stands.laws.valid (record {
        none_marking = ap marking_of running.collection_is ∙ none;
        none_preparing = running.alone;
      }))

  found : HasFound old running.collection ends.walks
  found = let f = running.found has_groups in let same : f.0 ≡ ends.walks = cc (f.1.walks_are, ends.found) in
      subst (λ u. HasFound old running.collection u) same f.1

  valid_marking : IsValidMarking w running.collection
  valid_marking = stands.laws.valid.marking running.collection running.collection_is marks

  in_group : (x : Name) → IsInZones w.graph (zones_in group) x ↔ IsInZones g (zones_in group) x
  in_group x = (
    λ h. subst (λ a. IsInZones a (zones_in group) x) stands.represents.graph_is h,
    λ h. subst (λ a. IsInZones a (zones_in group) x) (sym stands.represents.graph_is) h,
  )

  -- white and gray are the same
  pub white_as : (x : Name) → IsWhiteOf w running.collection (zones_in group) x
      ↔ (HasCell old.cells x × IsWhite g (zones_in group) old.former.graph ends.walks x)
  white_as x = (
    λ h. (
      (present_is stands.represents x).0 h.present,
      (
        (in_group x).0 h.here,
        λ live. white_is_not_live w running.collection (zones_in group) x h
            ((found.live_are x).1 live),
      ),
    ),
    λ h. white_of w running.collection (zones_in group) x ((present_is stands.represents x).1 h.0)
        ((in_group x).1 h.1.0) (λ live. h.1.1 ((found.live_are x).0 live))
        (λ black. h.1.1 ((found.live_are x).0 (black_in_live w running.collection valid_marking x black))),
  )

  pub gray_as : (x : Name) → IsGrayOf w running.collection (zones_in group) x
      ↔ (HasCell old.cells x × IsGray g (zones_in group) old.former.graph ends.walks x)
  gray_as x = (
    λ h. (
      (present_is stands.represents x).0 h.present,
      (
        (in_group x).0 h.here,
        (found.live_are x).0 h.gray.live,
        λ b. h.gray.not_black ((found.black_are x).1 b),
      ),
    ),
    λ h. gray_of w running.collection (zones_in group) x ((present_is stands.represents x).1 h.0)
        ((in_group x).1 h.1.0) ((found.live_are x).1 h.1.1) (λ b. h.1.2 ((found.black_are x).0 b)),
  )

  -- where the cells lie then
  placed : (x : Name) → finite.get v.places x ≡ tree.get order_of new.cells x
  placed x = same_option (finite.get v.places x) (tree.get order_of new.cells x) (λ differ.
      let white : IsWhiteOf w running.collection (zones_in group) x → ⊥ = λ h.
      let c = (white_as x).0 h in differ (at_end.gone x h ∙ sym (ends.colours.gone x c.0 c.1)) in
      differ (at_end.stay x white ∙ stands.represents.places_are x
      ∙ sym (ends.colours.stay x (λ c. white ((white_as x).1 c)))))

  there : (x : Name) → is_some (finite.get v.places x) ≡ is_some (tree.get order_of new.cells x)
  there x = ap is_some (placed x)

  stays : (x : Name) → IsPresent w x → (IsWhiteOf w running.collection (zones_in group) x → ⊥) → IsPresent v x
  stays x here n = ap is_some (at_end.stay x n) ∙ here

  not_white : (x : Name) → IsPresent v x → IsWhiteOf w running.collection (zones_in group) x → ⊥
  not_white x here white = let gone = ap is_some (at_end.gone x white) in cc (here, gone)

  was : (x : Name) → IsPresent v x → IsPresent w x
  was x here = sym (ap is_some (at_end.stay x (not_white x here))) ∙ here

  -- the white cells wait where they lay
  waiting : (a : ℕ) → Contains new.out a → AreWaiting new v a
  waiting a out = lists_as (λ x. HasCell old.cells x × IsWhite g (zones_in group) old.former.graph ends.walks x
      × IsTrue (lies_in old.cells a x)) (λ x. (slot : ℕ) × Contains v.white (x, (a, slot))) (whites_in new.whites a)
      (λ x h. let p = place_in old.cells a x h.2 in (
        p.0,
        (at_end.white_are x (a, p.0)).1
            ((white_as x).1 (h.0, h.1), stands.represents.places_are x ∙ p.1),
      ))
      (λ x h. let b = (at_end.white_are x (a, h.0)).0 h.1 in let c = (white_as x).0 b.0 in
      (c.0, c.1, in_place old.cells a x h.0 (sym (stands.represents.places_are x) ∙ b.1)))
      (ends.whites_are a)

  -- weak slots, and watched cells
  named : (o : Option Name) → if_there v o ≡ if_present new.cells o
  named None = refl
  named (Some x) = ap (λ b. if b then Some x else None) (there x)

  named_all : (os : List (Option Name)) → map (if_there v) os ≡ map (if_present new.cells) os
  named_all [] = refl
  named_all (o ∷ os) = ap (λ p. p ∷ map (if_there v) os) (named o) ∙ ap (λ ps. if_present new.cells o ∷ ps)
      (named_all os)

  slots : v.weak.slots ≡ new.weak.slots
  slots = lawful.loses.slots_are ∙ ap (λ os. map (if_there v) os) stands.represents.slots_are
      ∙ named_all old.weak.slots ∙ sym ends.loses.slots_are

  watched : (x : Name) → Has v.weak.watched x ↔ IsWatched new.weak x
  watched x = (
    λ h. let b = (lawful.loses.watched_are x).0 h in (ends.loses.watched_are x).1 (
      (stands.represents.watched_are x).0 b.0,
      λ c. let t = (ends.loses.told_are.has x).0 c in not_white x b.1 ((white_as x).1 t.0),
    ),
    λ h. let b = (ends.loses.watched_are x).0 h in
        let seen = (stands.represents.watched_are x).1 b.0 in
        (lawful.loses.watched_are x).1 (
          seen,
          elim (present_or v x) [
            | inl here ↦ here
            | inr absent ↦ absurd (absent (stays x (stands.laws.valid.presence.watched x seen)
                (λ white. b.1 ((ends.loses.told_are.has x).1 ((white_as x).0 white, b.0)))))
          ],
        ),
  )

  -- the watched cells that died
  told_are : (x : Name) → Contains told x ↔ Contains new.told x
  told_are x = (
    λ c. let h = (lawful.loses.told_are.has x).0 c in elim (among new.told x) [
      | inl in_told ↦ in_told
      | inr none ↦ absurd (h.1 ((lawful.loses.watched_are x).0 ((watched x).1 ((ends.loses.watched_are x).1
          ((stands.represents.watched_are x).0 h.0, none)))).1)
    ],
    λ c. let h = (ends.loses.told_are.has x).0 c in
        (lawful.loses.told_are.has x).1 (
          (stands.represents.watched_are x).1 h.1,
          λ here. not_white x here ((white_as x).1 h.0),
        ),
  )

  pub same_told : told ≡ new.told
  same_told = one_list (Contains new.told) told new.told
      (record { ascending = lawful.loses.told_are.ascending; has = told_are })
      (record { ascending = ends.loses.told_are.ascending; has = λ x. (λ c. c, λ c. c) })

  pub same_grays : grays ≡ judged
  same_grays = one_list (λ x. HasCell old.cells x
      × IsGray g (zones_in group) old.former.graph ends.walks x) grays judged
      (lists_as (IsGrayOf w running.collection (zones_in group))
      (λ x. HasCell old.cells x × IsGray g (zones_in group) old.former.graph ends.walks x) grays
      (λ x h. (gray_as x).0 h) (λ x h. (gray_as x).1 h) at_end.grays_are) ends.colours.grays_are

  -- what the collection has found
  known : HasCaught old.former.graph ends.walks ends.goes_on.after
  known = let f = stands.sound.walks ends.walks ends.found has_groups in
      record { black = f.black; live = f.live; caught = ends.goes_on.caught }

  black_after : (x : Name) → BlackClosure running.collection x
      ↔ IsFoundBlack old.former.graph ends.goes_on.after x
  black_after x = let c = black_caught old.former.graph ends.walks ends.goes_on.after known x in
      (λ b. c.1 ((found.black_are x).0 b), λ f. (found.black_are x).1 (c.0 f))

  live_after : (x : Name) → LiveClosure running.collection x ↔ IsFoundLive old.former.graph ends.goes_on.after x
  live_after x = let c = live_caught old.former.graph ends.walks ends.goes_on.after known x in
      (λ b. c.1 ((found.live_are x).0 b), λ f. (found.live_are x).1 (c.0 f))

  abbrev ended : Collection
  ended = record running.collection {
    marking = zones_without running.collection.marking (zones_in group);
    groups = Some (map zones_in ends.ends.rest);
  }

  collected : IsCollected new ends.ends.zones ends.ends.after (Some ends.ends.rest) v
  collected = record {
    collection = ended;
    collection_is = at_end.collection_is;
    alone = at_end.preparing_is ∙ running.alone;
    small = ends.ends.small;
    zones_are = running.zones_are;
    marking_are = ap (λ ms. zones_without ms (zones_in group)) running.marking_are
        ∙ without_is ends.ends.marking group ends.ends.after ends.ends.after_are;
    groups_are = refl;
    tally_is = running.tally_is ∙ sym ends.tally_is;
    none_out = λ none. absurd (cc none);
    found = λ has. let goes = ends.goes_on.left has in
        let former = ap (λ f. f.graph) goes.1 in (
          ends.goes_on.after,
          record {
            walks_are = goes.0;
            former_is = found.former_is ∙ sym former;
            black_are = λ x. subst (λ a. BlackClosure running.collection x ↔ IsFoundBlack a ends.goes_on.after x)
                (sym former) (black_after x);
            live_are = λ x. subst (λ a. LiveClosure running.collection x ↔ IsFoundLive a ends.goes_on.after x)
                (sym former) (live_after x);
          },
        );
    first = λ none. absurd (cc none);
  }

  -- what is black once no zone is marking
  blackens : IsSettled new.stage → IsBlackIn new.black v
  blackens still =
      let stage = subst (λ t. IsAtStage t new v) (sym ends.ends.new_is) collected in
      let rest = settled_in new v after.valid new.stage stage still in
      let goes = ends.goes_on.over (λ has. marks_in new v after.valid new.stage stage has still) in
      let done = ends.goes_on.caught.black known.black.starts known.black.follows in
      subst (λ b. IsBlackIn b v) (sym goes.1) (record {
        within = done.follows.within;
        names_are = λ x.
            let is = at_end.black_are rest x in
            let names = black_is old.former.graph ends.walks ends.goes_on.after known.caught known.black x in (
              λ b. names.1 ((found.black_are x).0 (is.0 b).0),
              λ c. let black = (found.black_are x).1 (names.0 c) in is.1 (black, here x black),
            );
      })
    where
      here : (x : Name) → BlackClosure running.collection x → IsPresent v x
      here x black =
          let live = black_in_live w running.collection valid_marking x black in
          let l = stands.laws.live.marking running.collection running.collection_is marks in
          stays x (l.live x live) (λ white. white_is_not_live w running.collection (zones_in group) x white live)

  pub represents_end : Represents g new v
  represents_end = record {
    graph_is = at_end.graph_is ∙ stands.represents.graph_is;
    places_are = placed;
    owners_are = at_end.owner_is ∙ stands.represents.owners_are ∙ sym ends.owners_is;
    out_are = at_end.out_is ∙ ap (λ os. arenas_from 0 os (zones_in group)) stands.represents.owners_are
        ∙ sym ends.out_is;
    white_are = waiting;
    slots_are = slots;
    watched_are = watched;
    black_are = blackens;
    stage_is = subst (λ t. IsAtStage t new v) (sym ends.ends.new_is) collected;
  }
