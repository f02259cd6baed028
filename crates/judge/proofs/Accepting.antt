-- A change of the graph that the judge accepts: there is a world after it by the definitions.
use Rattle.std.proofs.Common.{◌≡◌, ◌↔◌, ◌∙◌, ◌⊎◌, ◌&&◌, inl, inr, ℕ, List, [], ◌∷◌, Option, Some, None}
use Rattle.std.proofs.Common.{Contains, ap, refl, subst, sym}
use Rattle.std.specs.FinMap as finite
use Rattle.std.specs.FinSet as set
use Rattle.gz_names.specs.Order.{name_cmp}
use Rattle.gz_names.specs.declared.names.Name.{Name}
use Rattle.gz_names.specs.declared.zone_sets.ZoneSet.{ZoneSet}
use Rattle.colour_defs.specs.Closure.{ClosureWithin, within_edge, within_key, within_start, within_value}
use Rattle.colour_defs.specs.Graph.{GraphState, IsInZones}
use Rattle.colour_defs.specs.Laws.{HasSomeZone, IsValid, NamesOnlyPresent}
use Rattle.colour_defs.specs.Units.{Tally}
use Rattle.colour_defs.specs.World.{Accepts, AcceptsIn, AcceptsPreparing, Collection, Has, HasPlace, IsPresent, Names}
use Rattle.colour_defs.specs.World.{IsSettled as HasSettled, Preparation, Wakes, WakesLeftOut, World, is_present}
use Rattle.colour_defs.specs.World.{marking_of, with_waking}
use Rattle.colour_defs.proofs.Carried.{Changes, presence_carries, present_or, within_in}
use Rattle.colour_defs.proofs.Follows.{Follows}
use Rattle.colour_defs.proofs.Lists.{both_of, first_of_both, second_of_both}
use Rattle.colour_defs.proofs.Names.{names_apart}
use Rattle.colour_defs.proofs.ValidCommands.{Step, changed}
use Rattle.judge.specs.LeftOut.{GrowsLeft, IsClosedLeft, IsEither, IsOutOf}
use Rattle.judge.specs.Live.{IsFollowed}
use Rattle.judge.specs.Positions.{StandsIn}
use Rattle.judge.specs.Represents.{IsAtStage, IsPrepared, LiesInPlace}
use Rattle.judge.specs.Stages as judged
use Rattle.judge.specs.Stages.{Blackens, BlackensLeft, BlackensOne, IsSettled, Shown, Stage, collecting, idle}
use Rattle.judge.specs.Stages.{preparing}
use Rattle.judge.specs.Walks.{GoesOnFrom, IsLeftBlack}
use Rattle.judge.specs.declared.former.Change.{Change}
use Rattle.judge.proofs.Blackening.{left_closed, within_as}
use Rattle.judge.proofs.LeadsOn.{LeadsOn, black_followed}
use Rattle.judge.proofs.NameSets.{left_has, names_left, set_has, set_of}
use Rattle.judge.proofs.Settling.{settled_stage}
use Rattle.judge.proofs.Standing.{present_is}
use Rattle.judge.proofs.StillClosed.{goes_on_black}

-- the names of a list that are present in a world
abbrev pub present_of : World → List Name → Names
present_of w xs = set.retain (set_of xs) (is_present w)

pub present_has : (w : World) (xs : List Name) (x : Name) → Has (present_of w xs) x ↔ (Contains xs x × IsPresent w x)
present_has w xs x = (
  λ h. (let both = sym is ∙ h in (
    (set_has xs x).0 (first_of_both (set.contains (set_of xs) x) (is_present w x) both),
    second_of_both (set.contains (set_of xs) x) (is_present w x) both,
  )),
  λ h. is ∙ both_of (set.contains (set_of xs) x) (is_present w x) ((set_has xs x).1 h.0) h.1,
)
  where
    is : set.contains (present_of w xs) x ≡ (set.contains (set_of xs) x && is_present w x)
    is = set.contains-retain (set_of xs) (is_present w) x
        (λ y tie. ap (is_present w) (sym (names_apart x y tie)))

-- what is reached within a set, from what is in another one that leads nowhere else, is in that one
pub within_followed : (g : GraphState) (I S P : Name → Type 0) → IsFollowed g P → ((x : Name) → S x → I x → P x)
    → {x : Name} → ClosureWithin g I S x → ClosureWithin g (λ y. P y × I y) S x × P x
within_followed g I S P f there (within_start s i) = let p = there _ s i in (within_start s (p, i), p)
within_followed g I S P f there (within_edge r e i) =
    let q = within_followed g I S P f there r in
    let p = f.edges _ _ q.1 e in (within_edge q.0 e (p, i), p)
within_followed g I S P f there (within_value is m k i) =
    let q = within_followed g I S P f there m in
    let t = within_followed g I S P f there k in
    let p = f.values _ _ _ is q.1 t.1 in (within_value is q.0 t.0 (p, i), p)
within_followed g I S P f there (within_key is m k i) =
    let q = within_followed g I S P f there m in
    let t = within_followed g I S P f there k in
    let p = f.keys _ _ _ _ is q.1 t.1 in (within_key is q.0 t.0 (p, i), p)

-- a change of the graph, before it is known which world it leads to
pub record IsAsked (k : Change) (h : GraphState) (x also : Option Name) (old new : Shown) (w : World) : Type 0 where
  pub stands : StandsIn w.graph old w
  pub changes : judged.Changes k h x also old new
  pub lies : LiesInPlace h x old new
  pub on : LeadsOn w.graph h
  pub follow : Follows w.graph (record { first = x; also = also }) h
  pub also_there : (s : Name) → also ≡ Some s → IsPresent w s
  pub step : Step w (record { first = x; also = also }) h
  pub zoned : (y : Name) → x ≡ Some y → IsPresent w y ⊎ HasSomeZone h y

module _ (k : Change) (h : GraphState) (x also : Option Name) (f : Collection → Tally) (old new : Shown) (w : World)
    (a : IsAsked k h x also old new w) where
  ok : IsValid w
  ok = a.stands.laws.valid

  abbrev counted : Option Collection
  counted = changed f (λ m. m.woken) w.collection

  -- where the woken name lies
  pub record IsPlaced (y : Name) : Type 0 where
    pub places : finite.FinMap name_cmp (ℕ × ℕ)
    pub owner : List (Option ℕ)
    pub has : (black : Names) (collection : Option Collection)
        → HasPlace w h y (record w {
          graph = h;
          places = places;
          owner = owner;
          black = black;
          collection = collection;
        })

  placed : (y : Name) → x ≡ Some y → IsPlaced y
  placed y some = elim (present_or w y) [
    | inl here ↦ record {
      places = w.places;
      owner = w.owner;
      has = λ black collection. record {
        graph_is = refl;
        found = λ p. (refl, refl);
        made = λ absent. absurd (absent here);
        out_is = refl;
        white_is = refl;
        weak_is = refl;
        preparing_is = refl;
      };
    }
    | inr absent ↦
        let lies = subst (λ o. LiesInPlace h o old new) some a.lies in
        let zone : HasSomeZone h y = elim (a.zoned y some) [ inl here ↦ absurd (absent here) | inr z ↦ z ] in
        let place = lies.made (λ c. absent ((present_is a.stands.represents y).1 c)) zone.0 zone.1 in
        record {
          places = finite.insert w.places y place.0;
          owner = new.owners;
          has = λ black collection. record {
            graph_is = refl;
            found = λ p. absurd (absent p);
            made = λ none. (
              zone.0,
              place.0,
              zone.1,
              place.1 w a.stands.represents.owners_are a.stands.represents.out_are a.stands.represents.places_are,
              refl,
            );
            out_is = refl;
            white_is = refl;
            weak_is = refl;
            preparing_is = refl;
          };
        }
  ]

  -- the woken name in a world in which it has its place
  module _ (y : Name) (some : x ≡ Some y) where
    abbrev world_with : Names → Option Collection → World
    world_with black collection = record w {
      graph = h;
      places = (placed y some).places;
      owner = (placed y some).owner;
      black = black;
      collection = collection;
    }

    goes_from : (t : Stage) → IsAtStage t old w → IsSettled t → w.preparing ≡ None
        → BlackensOne h t y old.black new.black → GoesOnFrom h (y ∷ []) old.black new.black
    goes_from idle at still calm b = b
    goes_from (preparing zones) at still calm b = absurd (cc (calm, at.preparing_is))
    goes_from (collecting zones marking groups) at still calm b = b.0 still

    wakes : w.preparing ≡ None → (l : List ℕ) → marking_of w.collection ≡ l
        → (v : World) × HasPlace w h y v × Wakes w counted l h y v
    wakes calm (z ∷ zs) at = (
      world_with w.black (with_waking y counted),
      (placed y some).has w.black (with_waking y counted),
      (refl, refl),
    )
    wakes calm [] at =
        let v = world_with w.black None in
        let black = present_of (world_with w.black None) new.black.names in
        let rest : HasSettled w = record { none_marking = at; none_preparing = calm } in
        let still = settled_stage a.stands.represents ok rest in
        let was = a.stands.represents.black_are still in
        let goes = goes_from old.stage a.stands.represents.stage_is still calm
        (subst (λ o. Blackens h old.stage o old.black new.black) some a.changes.blackens) in
        let names = goes_on_black h (Has w.black) y old.black new.black (λ n b. (was.names_are n).0 b)
        (λ n c. (was.names_are n).1 c) was.within (black_followed w h ok (ok.settled rest) a.on) goes in (
          world_with black (with_waking y counted),
          (placed y some).has black (with_waking y counted),
          (
            refl,
            λ n. (
              λ b. let c = (present_has (world_with w.black None) new.black.names n).0 b in ((names n).0 c.0, c.1),
              λ r. (present_has (world_with w.black None) new.black.names n).1 ((names n).1 r.0, r.1),
            ),
          ),
        )

  -- while zones are being prepared
  module _ (zones : ZoneSet) (at : IsPrepared old zones w)
      (grows : GrowsLeft h zones (IsEither x also) old.left_out new.left_out) where
    closed : IsClosedLeft h zones old.left_out
    closed = left_closed w at.preparation zones (record { first = x; also = also }) h old.left_out (record {
      ok = ok;
      ready = ok.preparing at.preparation at.preparing_is;
      zones_are = at.zones_are;
      follow = a.follow;
      on = a.on;
      black_are = at.black_are;
    })

    -- what is left out in a world after the change turns black
    wakes_left : (v : World) (P : Name → Type 0) → v.graph ≡ h → NamesOnlyPresent v
        → ((n : Name) → IsPresent w n → IsPresent v n) → ((n : Name) → P n → IsPresent v n)
        → ((n : Name) → P n ↔ IsEither x also n)
        → ((n : Name) → Has v.black n ↔ (Contains (names_left new.left_out) n × IsPresent v n))
        → WakesLeftOut w at.preparation P v
    wakes_left v P graph presence kept there alike black n = (
      λ b. subst (λ g. ClosureWithin g (λ m. IsPresent v m × (IsInZones g at.preparation.zones m → ⊥))
          (λ m. Has w.black m ⊎ P m) n) (sym graph)
          (within_as h (λ m. IsPresent v m × IsOutOf h zones m)
          (λ m. IsPresent v m × (IsInZones h at.preparation.zones m → ⊥))
          (λ m. IsLeftBlack old.left_out m ⊎ IsEither x also m) (λ m. Has w.black m ⊎ P m)
          (λ m l. (l.0, λ i. l.1 (subst (λ zs. IsInZones h zs m) at.zones_are i)))
          (λ m s. elim s [ inl o ↦ inl ((at.black_are m).1 o) | inr e ↦ inr ((alike m).1 e) ])
          (within_followed h (IsOutOf h zones) (λ m. IsLeftBlack old.left_out m ⊎ IsEither x also m) (IsPresent v)
          followed (λ m s i. elim s [
            | inl o ↦ kept m ((ok.preparing at.preparation at.preparing_is).left_out m ((at.black_are m).1 o)).0
            | inr e ↦ there m ((alike m).1 e)
          ]) ((grows closed n).0 ((left_has new.left_out n).1 ((black n).0 b).0))).0),
      λ r. let out = subst (λ g. ClosureWithin g (λ m. IsPresent v m × (IsInZones g at.preparation.zones m → ⊥))
          (λ m. Has w.black m ⊎ P m) n) graph r in
          (black n).1 (
            (left_has new.left_out n).0 ((grows closed n).1
                (within_as h (λ m. IsPresent v m × (IsInZones h at.preparation.zones m → ⊥)) (IsOutOf h zones)
                (λ m. Has w.black m ⊎ P m) (λ m. IsLeftBlack old.left_out m ⊎ IsEither x also m)
                (λ m l i. l.1 (subst (λ zs. IsInZones h zs m) (sym at.zones_are) i))
                (λ m s. elim s [ inl o ↦ inl ((at.black_are m).0 o) | inr p ↦ inr ((alike m).0 p) ]) out)),
            (within_in out).0,
          ),
    )
      where
        followed : IsFollowed h (IsPresent v)
        followed = subst (λ g. IsFollowed g (IsPresent v)) graph (record {
          edges = presence.edges;
          values = presence.entries;
          keys = presence.keys;
        })

  -- presence after the change
  presence_of : (v : World) → Changes w (record { first = x; also = also }) v → NamesOnlyPresent v
  presence_of v c = presence_carries w (record { first = x; also = also }) v ok c

  kept_of : (v : World) → Changes w (record { first = x; also = also }) v → (n : Name) → IsPresent w n → IsPresent v n
  kept_of v c = c.kept

  grows_at : (zones : ZoneSet) → old.stage ≡ preparing zones
      → GrowsLeft h zones (IsEither x also) old.left_out new.left_out
  grows_at zones e = subst (λ t. BlackensLeft h t (IsEither x also) old.left_out new.left_out) e a.changes.left_out

  prepared : (zones : ZoneSet) → old.stage ≡ preparing zones → (at : IsPrepared old zones w) → (y z : Option Name)
      → x ≡ y → also ≡ z → (v : World) × AcceptsPreparing w at.preparation h y z v
  prepared zones e at None None n m = (record w { graph = h }, refl)
  prepared zones e at None (Some z) n m =
      let plain = record w { graph = h } in
      let black = present_of (record w { graph = h }) (names_left new.left_out) in
      let ch = a.step.quiet black w.collection n in
      let v = record w { graph = h; black = black } in (
        record w { graph = h; black = present_of (record w { graph = h }) (names_left new.left_out) },
        (
          refl,
          wakes_left zones at (grows_at zones e)
              (record w { graph = h; black = present_of (record w { graph = h }) (names_left new.left_out) })
              (λ s. z ≡ s) refl
              (presence_of (record w {
                graph = h;
                black = present_of (record w { graph = h })
                    (names_left new.left_out);
              })
              ch) (λ s p. p)
              (λ s q. a.also_there s (m ∙ ap Some q))
              (λ s. (
                λ q. inr (m ∙ ap Some q),
                λ q. elim q [ inl b ↦ absurd (cc (n, b)) | inr b ↦ cc (m, b) ],
              )) (present_has (record w { graph = h }) (names_left new.left_out)),
        ),
      )
  prepared zones e at (Some y) z n m =
      let plain = world_with y n w.black w.collection in
      let black = present_of (world_with y n w.black w.collection) (names_left new.left_out) in
      let v = world_with y n black w.collection in
      let has = (placed y n).has black w.collection in
      let ch = a.step.waking (world_with y n black w.collection) y n has in (
        world_with y n (present_of (world_with y n w.black w.collection) (names_left new.left_out)) w.collection,
        (
          has,
          refl,
          wakes_left zones at (grows_at zones e)
              (world_with y n (present_of (world_with y n w.black w.collection) (names_left new.left_out)) w.collection)
              (λ s. (y ≡ s) ⊎ (z ≡ Some s)) refl
              (presence_of
              (world_with y n (present_of (world_with y n w.black w.collection) (names_left new.left_out)) w.collection)
              ch) (kept_of
              (world_with y n (present_of (world_with y n w.black w.collection) (names_left new.left_out)) w.collection)
              ch)
              (λ s q. elim q [
                | inl same ↦ ch.there s (n ∙ ap Some same)
                | inr too ↦ ch.kept s (a.also_there s (m ∙ too))
              ])
              (λ s. (
                λ q. elim q [ inl same ↦ inl (n ∙ ap Some same) | inr too ↦ inr (m ∙ too) ],
                λ q. elim q [ inl b ↦ inl (cc (n, b)) | inr b ↦ inr (sym m ∙ b) ],
              )) (present_has (world_with y n w.black w.collection) (names_left new.left_out)),
        ),
      )

  accepted : (y : Option Name) → x ≡ y → w.preparing ≡ None
      → (v : World) × Accepts w (changed f (λ m. m.woken) w.collection) h y v
  accepted None n calm = (record w { graph = h; collection = changed f (λ m. m.woken) w.collection }, refl)
  accepted (Some y) n calm =
      let made = wakes y n calm (marking_of w.collection) refl in (made.0, (made.1, made.2))

  any : (q : Option Preparation) → w.preparing ≡ q → (t : Stage) → old.stage ≡ t → IsAtStage t old w
      → (v : World) × AcceptsIn q w (changed f (λ m. m.woken) w.collection) h x also v
  any None e t s at = accepted x refl e
  any (Some q) e idle s at = absurd (cc (e, at.idle.none_preparing))
  any (Some q) e (preparing zones) s at =
      let same : at.preparation ≡ q = cc (e, at.preparing_is) in
      subst (λ p. (v : World) × AcceptsPreparing w p h x also v) same (prepared zones s at x also refl refl)
  any (Some q) e (collecting zones marking groups) s at = absurd (cc (e, at.alone))

  pub accepting : (v : World) × AcceptsIn w.preparing w (changed f (λ m. m.woken) w.collection) h x also v
  accepting = any w.preparing refl old.stage refl a.stands.represents.stage_is
