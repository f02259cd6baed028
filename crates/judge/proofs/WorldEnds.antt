-- As a group ends, the judge stands for a world in which it has ended lawfully.
use Rattle.std.proofs.Common.{◌≡◌, ◌↔◌, ◌∙◌, ◌++◌, inl, inr, ℕ, Bool, true, false, cond, List, [], ◌∷◌, Option, Some}
use Rattle.std.proofs.Common.{None}
use Rattle.std.proofs.Common.{Contains, ap, is_some, map, refl, subst, sym, eqb}
use Rattle.std.proofs.lemmas.List.Elements.{Contains-append_cases, Contains-append_left, Contains-append_right}
use Rattle.std.specs.BTreeMap as tree
use Rattle.std.specs.FinMap as finite
use Rattle.std.specs.List.{list_any}
use Rattle.gz_names.specs.Order.{name_cmp}
use Rattle.gz_names.specs.Zones.{zones_in}
use Rattle.gz_names.specs.declared.names.Name.{Name}
use Rattle.gz_names.specs.declared.numbers.Place.{Place}
use Rattle.gz_names.specs.declared.zone_sets.ZoneSet.{ZoneSet}
use Rattle.colour_defs.specs.Ends.{IsGrayOf, IsWhiteOf, Lists, arenas_from, zones_without}
use Rattle.colour_defs.specs.Graph.{is_in_zones}
use Rattle.colour_defs.specs.Laws.{AreValidGroups, IsValidMarking}
use Rattle.colour_defs.specs.Lawful as lawful
use Rattle.colour_defs.specs.WeakRefs as weak
use Rattle.colour_defs.specs.World.{BlackClosure, Collection, Has, IsPresent, World}
use Rattle.colour_defs.proofs.Carried.{black_in_live}
use Rattle.colour_defs.proofs.Lists.{contains_cases, contains_head, contains_tail, decided, nothing_in_none}
use Rattle.colour_defs.proofs.Membership.{among_to, gray_of, some_member, white_is_not_live, white_of, without_has}
use Rattle.colour_defs.proofs.Names.{names_apart}
use Rattle.plain_graph.specs.Indexed.{order_of}
use Rattle.judge.specs.Cells.{HasCell, IsGray, IsWhite}
use Rattle.judge.specs.Represents.{HasFound, IsAtStage, IsCollected, Represents}
use Rattle.judge.specs.Sound.{AreFollowed}
use Rattle.judge.specs.Stages.{EndsGroup, HasGroups, Shown, Stage, collecting}
use Rattle.judge.specs.Walks.{IsFoundBlack}
use Rattle.judge.specs.Weak.{IsWatched}
use Rattle.judge.proofs.FirstTally.{present_among}
use Rattle.judge.proofs.Found.{black_is}
use Rattle.judge.proofs.NameSets.{set_has, set_of, sorted_has}
use Rattle.judge.specs.Positions.{StandsIn}
use Rattle.judge.proofs.Ending.{represents_end}
use Rattle.judge.proofs.Lawfulness.{laws_report}
use Rattle.judge.proofs.StandsFor.{cell_of, present_of}
use Rattle.gz_names.specs.declared.replies.Report.TheVariants as report
use Rattle.judge.proofs.WorldSweeps.{lists_same}

-- a cell with the place where it lay, if it lies nowhere now
abbrev pub gone_at : Name → Option (ℕ × ℕ) → Option Place → List (Name × (ℕ × ℕ))
gone_at x None now = []
gone_at x (Some p) (Some q) = []
gone_at x (Some p) None = (x, p) ∷ []

-- those of some names
abbrev pub gone_of : (Name → Option (ℕ × ℕ)) → (Name → Option Place) → List Name → List (Name × (ℕ × ℕ))
gone_of then now [] = []
gone_of then now (x ∷ xs) = gone_at x (then x) (now x) ++ gone_of then now xs

gone_one : (x y : Name) (p : ℕ × ℕ) (o : Option (ℕ × ℕ)) (n : Option Place) → Contains (gone_at x o n) (y, p)
    → (x ≡ y) × (o ≡ Some p) × (n ≡ None)
gone_one x y p None n c = absurd (nothing_in_none (y, p) c)
gone_one x y p (Some q) (Some r) c = absurd (nothing_in_none (y, p) c)
gone_one x y p (Some q) None c = elim (contains_cases (x, q) [] (y, p) c) [
  | inr h ↦ absurd (nothing_in_none (y, p) h)
  | inl same ↦ (ap (λ e. e.0) same, ap (λ e. Some e.1) same, refl)
]

gone_was : (then : Name → Option (ℕ × ℕ)) (now : Name → Option Place) (xs : List Name) (y : Name) (p : ℕ × ℕ)
    → Contains (gone_of then now xs) (y, p) → (then y ≡ Some p) × (now y ≡ None)
gone_was then now [] y p c = absurd (nothing_in_none (y, p) c)
gone_was then now (x ∷ xs) y p c =
    elim (Contains-append_cases (gone_at x (then x) (now x)) (gone_of then now xs) (y, p) c) [
      | inr h ↦ gone_was then now xs y p h
      | inl h ↦ let g = gone_one x y p (then x) (now x) h in
          subst (λ z. (then z ≡ Some p) × (now z ≡ None)) g.0 (g.1, g.2)
    ]

gone_here : (x : Name) (p : ℕ × ℕ) (o : Option (ℕ × ℕ)) (n : Option Place) → o ≡ Some p → n ≡ None
    → Contains (gone_at x o n) (x, p)
gone_here x p None n a b = absurd (cc a)
gone_here x p (Some q) (Some r) a b = absurd (cc b)
gone_here x p (Some q) None a b = let same : q ≡ p = cc a in
    subst (λ z. Contains {X = Name × (ℕ × ℕ)} ((x, q) ∷ []) (x, z)) same (contains_head (x, q) [])

gone_has : (then : Name → Option (ℕ × ℕ)) (now : Name → Option Place) (xs : List Name) (y : Name) (p : ℕ × ℕ)
    → Contains xs y → then y ≡ Some p → now y ≡ None → Contains (gone_of then now xs) (y, p)
gone_has then now [] y p c a b = absurd (nothing_in_none y c)
gone_has then now (x ∷ xs) y p c a b = elim (contains_cases x xs y c) [
  | inl same ↦ Contains-append_left (gone_at x (then x) (now x)) (gone_of then now xs) (y, p)
      (subst (λ z. Contains (gone_at z (then z) (now z)) (y, p)) (sym same) (gone_here y p (then y) (now y) a b))
  | inr h ↦ Contains-append_right (gone_at x (then x) (now x)) (gone_of then now xs) (y, p)
      (gone_has then now xs y p h a b)
]

module _ (s t : Shown) (w : World) (f : StandsIn w.graph s w) (group : ZoneSet) (grays : List Name)
    (e : EndsGroup w.graph s group grays t) where
  pub ending : IsCollected s e.ends.zones e.ends.marking (Some (group ∷ e.ends.rest)) w
  ending = subst (λ (u : Stage). IsAtStage u s w) e.ends.was f.represents.stage_is

  abbrev pub k : Collection
  k = ending.collection

  left : HasGroups s.stage
  left = subst HasGroups (sym e.ends.was) tt

  found : HasFound s k e.walks
  found = let h = ending.found left in
      let same : h.0 ≡ e.walks = cc (h.1.walks_are, e.found) in
      subst (λ z. HasFound s k z) same h.1

  was : AreFollowed s e.walks
  was = f.sound.walks e.walks e.found left

  groups_ok : AreValidGroups w k (zones_in group ∷ map zones_in e.ends.rest)
  groups_ok = f.laws.valid.groups k (zones_in group ∷ map zones_in e.ends.rest) ending.collection_is ending.groups_are

  some_marking : k.marking ≡ [] → ⊥
  some_marking none =
      let first = contains_head (zones_in group) (map zones_in e.ends.rest) in
      let m = some_member (zones_in group) (groups_ok.full (zones_in group) first) in
      nothing_in_none m.0 (subst (λ l. Contains l m.0) none (groups_ok.marked (zones_in group) m.0 first m.1))

  marks : IsValidMarking w k
  marks = f.laws.valid.marking k ending.collection_is some_marking

  -- white by both
  white_to : (x : Name) → HasCell s.cells x → IsWhite w.graph (zones_in group) s.former.graph e.walks x
      → IsWhiteOf w k (zones_in group) x
  white_to x c h = white_of w k (zones_in group) x (present_of s w f.represents x c) h.0
      (λ live. h.1 ((found.live_are x).0 live)) (λ b. h.1 ((found.live_are x).0 (black_in_live w k marks x b)))

  white_from : (x : Name) → IsWhiteOf w k (zones_in group) x
      → IsWhite w.graph (zones_in group) s.former.graph e.walks x
  white_from x h = (h.here, λ live. white_is_not_live w k (zones_in group) x h ((found.live_are x).1 live))

  -- what is present no longer was white
  white_gone : (x : Name) → HasCell s.cells x → tree.get order_of t.cells x ≡ None
      → IsWhite w.graph (zones_in group) s.former.graph e.walks x
  white_gone x c gone = elim (decided (is_in_zones w.graph (zones_in group) x)) [
    | inl here ↦ (here, λ live. not_not (λ h. h.1 live))
    | inr out ↦ absurd (not_not (λ h. out h.0))
  ]
    where
      not_not : (IsWhite w.graph (zones_in group) s.former.graph e.walks x → ⊥) → ⊥
      not_not n = let stay = e.colours.stay x (λ h. n h.1) in
          let lost : HasCell t.cells x = ap is_some stay ∙ c in cc (lost, ap is_some gone)

  abbrev pub places : finite.FinMap name_cmp (ℕ × ℕ)
  places = finite.retain_keys w.places (λ x. is_some (tree.get order_of t.cells x))

  places_are : (x : Name) → finite.get places x ≡ tree.get order_of t.cells x
  places_are x = finite.get-retain_keys w.places (λ y. is_some (tree.get order_of t.cells y)) x
      (λ y tie. let same : x ≡ y = names_apart x y tie in
      ap (λ y. is_some (tree.get order_of t.cells y)) (sym same)) ∙ go (tree.get order_of t.cells x) refl
    where
      go : (o : Option Place) → tree.get order_of t.cells x ≡ o → cond (is_some o) (finite.get w.places x) None ≡ o
      go None at = refl
      go (Some p) at = f.represents.places_are x
          ∙ sym (e.colours.stay x (λ h. cc (at, e.colours.gone x h.0 h.1))) ∙ at

  abbrev pub white : List (Name × (ℕ × ℕ))
  white = gone_of (λ x. finite.get w.places x) (λ x. tree.get order_of t.cells x) (finite.keys w.places)

  white_are : (x : Name) (p : ℕ × ℕ) → Contains white (x, p)
      ↔ (IsWhiteOf w k (zones_in group) x × (finite.get w.places x ≡ Some p))
  white_are x p = (
    λ c. let g = gone_was (λ y. finite.get w.places y) (λ y. tree.get order_of t.cells y) (finite.keys w.places) x p c
        in
        let here : HasCell s.cells x = ap is_some (sym (f.represents.places_are x) ∙ g.0) in
        (white_to x here (white_gone x here g.1), g.0),
    λ h. gone_has (λ y. finite.get w.places y) (λ y. tree.get order_of t.cells y) (finite.keys w.places) x p
        ((present_among w x).0 h.0.present) h.1
        (e.colours.gone x (cell_of s w f.represents x h.0.present) (white_from x h.0)),
  )

  abbrev pub collection_now : Collection
  collection_now = record k {
    marking = zones_without k.marking (zones_in group);
    groups = Some (map zones_in e.ends.rest);
  }

  abbrev pub ended_world : World
  ended_world = record w {
    places = places;
    out = arenas_from 0 w.owner (zones_in group);
    white = white;
    black = set_of t.black.names;
    weak = record {
      slots = map (weak.if_present (record w { places = places })) w.weak.slots;
      watched = set_of t.weak.watched.keys;
    };
    collection = Some collection_now;
  }

  here_now : (x : Name) → IsPresent ended_world x → HasCell t.cells x
  here_now x p = sym (ap is_some (places_are x)) ∙ p

  now_here : (x : Name) → HasCell t.cells x → IsPresent ended_world x
  now_here x c = ap is_some (places_are x) ∙ c

  stays : (x : Name) → IsPresent w x → (IsWhite w.graph (zones_in group) s.former.graph e.walks x → ⊥)
      → IsPresent ended_world x
  stays x p n = now_here x (ap is_some (e.colours.stay x (λ h. n h.1)) ∙ cell_of s w f.represents x p)

  not_here : (x : Name) → IsPresent w x → IsWhite w.graph (zones_in group) s.former.graph e.walks x
      → IsPresent ended_world x → ⊥
  not_here x p h here = cc (here_now x here, ap is_some (e.colours.gone x (cell_of s w f.represents x p) h))

  gone_white : (x : Name) → IsPresent w x → (IsPresent ended_world x → ⊥)
      → IsWhite w.graph (zones_in group) s.former.graph e.walks x
  gone_white x p none = white_gone x (cell_of s w f.represents x p) (go (tree.get order_of t.cells x) refl)
    where
      go : (o : Option Place) → tree.get order_of t.cells x ≡ o → o ≡ None
      go None at = refl
      go (Some q) at = absurd (none (now_here x (ap is_some at)))

  -- what is settled: no group is left
  none_left : (rest : List ZoneSet) → e.ends.rest ≡ rest → zones_without k.marking (zones_in group) ≡ [] → rest ≡ []
  none_left [] at none = refl
  none_left (g ∷ gs) at none =
      let groups = subst (λ r. AreValidGroups w k (zones_in group ∷ map zones_in r)) at groups_ok in
      let there = contains_tail (zones_in group) (map zones_in (g ∷ gs)) (zones_in g)
      (contains_head (zones_in g) (map zones_in gs)) in
      let m = some_member (zones_in g) (groups.full (zones_in g) there) in
      let out = groups.apart.0 (zones_in g) (contains_head (zones_in g) (map zones_in gs)) m.0 in
      absurd (nothing_in_none m.0 (subst (λ l. Contains l m.0) none
      (without_has k.marking (zones_in group) m.0 (groups.marked (zones_in g) m.0 there m.1)
      (not_among m.0 (λ c. out c m.1)))))
    where
      not_among : (z : ℕ) → (Contains (zones_in group) z → ⊥) → list_any (eqb z) (zones_in group) ≡ false
      not_among z n = go (list_any (eqb z) (zones_in group)) refl
        where
          go : (b : Bool) → list_any (eqb z) (zones_in group) ≡ b → b ≡ false
          go true is = absurd (n (among_to z (zones_in group) is))
          go false is = refl

  over_now : zones_without k.marking (zones_in group) ≡ [] → t.black ≡ e.goes_on.after.black
  over_now none = (e.goes_on.over (λ h. subst HasGroups (e.ends.new_is
      ∙ ap (λ r. collecting e.ends.zones e.ends.after (Some r)) (none_left e.ends.rest refl none)) h)).1

  black_stays : (x : Name) → BlackClosure k x → IsPresent ended_world x
  black_stays x b = let live = f.laws.live.marking k ending.collection_is some_marking in
      stays x (live.live x (black_in_live w k marks x b))
      (λ h. h.1 ((found.live_are x).0 (black_in_live w k marks x b)))

  black_are : zones_without k.marking (zones_in group) ≡ [] → (x : Name)
      → Has ended_world.black x ↔ (BlackClosure k x × IsPresent ended_world x)
  black_are none x = (
    λ h. let b = (found.black_are x).1 ((after_are x).0 (subst (λ c. Contains c.names x) (over_now none)
        ((set_has t.black.names x).0 h))) in (b, black_stays x b),
    λ h. (set_has t.black.names x).1 (subst (λ c. Contains c.names x) (sym (over_now none))
        ((after_are x).1 ((found.black_are x).0 h.0))),
  )
    where
      after_are : (x : Name) → Contains e.goes_on.after.black.names x ↔ IsFoundBlack s.former.graph e.walks x
      after_are x = black_is s.former.graph e.walks e.goes_on.after e.goes_on.caught was.black x

  grays_are : Lists (IsGrayOf w k (zones_in group)) grays
  grays_are = lists_same
      (λ x. HasCell s.cells x × IsGray w.graph (zones_in group) s.former.graph e.walks x)
      (IsGrayOf w k (zones_in group)) grays
      (λ x h. gray_of w k (zones_in group) x (present_of s w f.represents x h.0) h.1.0 ((found.live_are x).1 h.1.1)
      (λ b. h.1.2 ((found.black_are x).0 b)))
      (λ x h. (
        cell_of s w f.represents x h.present,
        (
          h.here,
          (found.live_are x).0 h.gray.live,
          λ b. h.gray.not_black ((found.black_are x).1 b),
        ),
      )) e.colours.grays_are

  pub ended_lawful : lawful.EndsGroup w (zones_in group) grays t.told ended_world
  ended_lawful = record {
    collection = k;
    rest = map zones_in e.ends.rest;
    running = ending.collection_is;
    first = ending.groups_are;
    ends = record {
      ready = f.represents.out_are ∙ e.none_out;
      grays_are = grays_are;
      graph_is = refl;
      owner_is = refl;
      gone = λ x h. places_are x ∙ e.colours.gone x (cell_of s w f.represents x h.present) (white_from x h);
      stay = λ x n. places_are x ∙ e.colours.stay x (λ h. n (white_to x h.0 h.1)) ∙ sym (f.represents.places_are x);
      white_are = white_are;
      out_is = refl;
      preparing_is = refl;
      collection_is = refl;
      black_are = λ settled. black_are settled.none_marking;
    };
    loses = record {
      slots_are = refl;
      watched_are = λ x. (
        λ h. (let now = (sorted_has t.weak.watched x).1 ((set_has t.weak.watched.keys x).0 h) in
            let then = (e.loses.watched_are x).0 now in
            let watched = (f.represents.watched_are x).1 then.0 in
            let here = f.laws.valid.presence.watched x watched in (
              watched,
              stays x here (λ white. then.1
                  ((e.loses.told_are.has x).1 ((cell_of s w f.represents x here, white), then.0))),
            )),
        λ h. (set_has t.weak.watched.keys x).1 ((sorted_has t.weak.watched x).0 ((e.loses.watched_are x).1 (
          (f.represents.watched_are x).0 h.0,
          λ c. let told = (e.loses.told_are.has x).0 c in
              not_here x (present_of s w f.represents x told.0.0) told.0.1 h.1,
        ))),
      );
      told_are = lists_same (λ x. (HasCell s.cells x × IsWhite w.graph (zones_in group) s.former.graph e.walks x)
          × IsWatched s.weak x) (λ x. Has w.weak.watched x × (IsPresent ended_world x → ⊥)) t.told
          (λ x h. ((f.represents.watched_are x).1 h.1, not_here x (present_of s w f.represents x h.0.0) h.0.1))
          (λ x h. let here = f.laws.valid.presence.watched x h.0 in
          ((cell_of s w f.represents x here, gone_white x here h.1), (f.represents.watched_are x).0 h.0))
          e.loses.told_are;
    };
  }

  pub ended_represents : Represents w.graph t ended_world
  ended_represents = represents_end w.graph group grays grays t.told s t w ended_world (zones_in group) f
      (laws_report w (report.Ended group grays t.told) ended_world f.laws ended_lawful) e ended_lawful
