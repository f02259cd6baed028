-- The judge stands for the world after a change of the graph.
use Rattle.std.proofs.Common.{◌≡◌, ◌↔◌, ◌∙◌, ◌⊎◌, inl, inr, ℕ, true, List, [], ◌∷◌, Option, Some, None, Contains}
use Rattle.std.proofs.Common.{refl, sym, ap, subst}
use Rattle.std.specs.BTreeMap as tree
use Rattle.std.specs.FinMap as finite
use Rattle.gz_names.specs.Order.{name_cmp}
use Rattle.gz_names.specs.declared.names.Name.{Name}
use Rattle.gz_names.specs.declared.zone_sets.ZoneSet.{ZoneSet}
use Rattle.colour_defs.specs.Closure.{Closure}
use Rattle.colour_defs.specs.Ends.{Lists}
use Rattle.colour_defs.specs.Graph.{GraphState}
use Rattle.colour_defs.specs.Laws.{IsValid}
use Rattle.colour_defs.specs.Units.{Tally}
use Rattle.colour_defs.specs.World.{Accepts, AcceptsIn, AcceptsPreparing, Collection, Has, HasPlace, IsPresent}
use Rattle.colour_defs.specs.World.{Preparation, Wakes, WakesLeftOut, World, marking_of}
use Rattle.colour_defs.specs.World.{with_waking}
use Rattle.colour_defs.proofs.Effects.{Waking}
use Rattle.colour_defs.proofs.ValidCommands.{changed, place_kept, place_there}
use Rattle.plain_graph.specs.Indexed.{order_of}
use Rattle.plain_graph.specs.Reach.{WalkState}
use Rattle.judge.specs.Cells.{Cells, GivesPlaces}
use Rattle.judge.specs.LeftOut.{GrowsLeft, IsEither}
use Rattle.judge.specs.Represents.{AreWaiting, HasFound, IsAtStage, IsBlackIn}
use Rattle.judge.specs.Represents.{IsPrepared, LiesInPlace, Represents}
use Rattle.judge.specs.Stages.{Blackens, BlackensLeft, BlackensOne, HasGroups, IsSettled, Shown, Stage}
use Rattle.judge.specs.Stages.{collecting, idle, preparing}
use Rattle.judge.specs.Walks.{GoesOnFrom, IsLeftBlack, Walks}
use Rattle.judge.specs.Weak.{IsWatched}
use Rattle.judge.specs.Whites.{whites_in}
use Rattle.judge.specs.declared.former.Change.{Change}
use Rattle.judge.specs.declared.weak.WeakNames.{WeakNames}
use Rattle.judge.specs.declared.whites.Whites.{Whites}
use Rattle.judge.proofs.Blackening.{Prepares, blackens_settled, left_stays, left_wakes}
use Rattle.judge.proofs.Changing.{IsBeside, IsChange, awake_by, beside_graph, beside_placed, found_woken}
use Rattle.judge.proofs.LeadsOn.{LeadsOn}
use Rattle.judge.proofs.Placing.{same_places}
use Rattle.judge.proofs.Settling.{groups_mark, settled_world}
use Rattle.judge.proofs.Sound.{walks_before}

-- the collection after it
pub waked_is : (x : Name) (f : Collection → Tally) (o : Option Collection)
    → with_waking x (changed f (λ k. k.woken) o) ≡ changed f (awake_by (Some x)) o
waked_is x f None = refl
waked_is x f (Some k) = refl

module _ (k : Change) (h : GraphState) (x also : Option Name) (f : Collection → Tally) (g : GraphState)
    (old new : Shown)
    (w v : World) (c : IsChange k h x also f g old new w v) where
  stands : Represents g old w
  stands = c.stands.represents

  ok : IsValid w
  ok = c.stands.laws.valid

  abbrev counted : Option Collection
  counted = changed f (λ m. m.woken) w.collection

  -- where the cells lie then
  abbrev ArePlaced : Type 0
  ArePlaced = ((y : Name) → finite.get v.places y ≡ tree.get order_of new.cells y) × (v.owner ≡ new.owners)

  gives_at : (y : Option Name) → x ≡ y → GivesPlaces h y old.cells new.cells
  gives_at y e = subst (λ o. GivesPlaces h o old.cells new.cells) e c.changes.places

  lies_at : (y : Option Name) → x ≡ y → LiesInPlace h y old new
  lies_at y e = subst (λ o. LiesInPlace h o old new) e c.lies

  still_placed : x ≡ None → v.places ≡ w.places → v.owner ≡ w.owner → ArePlaced
  still_placed none places owners = (
    λ y. ap (λ (m : finite.FinMap name_cmp (ℕ × ℕ)). finite.get m y) places ∙ stands.places_are y
        ∙ ap (λ (cells : Cells). tree.get order_of cells y) (sym (gives_at None none)),
    owners ∙ stands.owners_are ∙ sym (lies_at None none),
  )

  now_placed : (y : Name) → x ≡ Some y → HasPlace w h y v → ArePlaced
  now_placed y some has = same_places stands h y has (gives_at (Some y) some) (lies_at (Some y) some)

  -- what stays as it is
  module _ (beside : IsBeside w v h) where
    still_waiting : (arena : ℕ) → Contains new.out arena → AreWaiting new v arena
    still_waiting arena out =
        let was = stands.white_are arena (subst (λ os. Contains os arena) c.changes.out_is out) in
        let whites = subst (λ (ws : Whites). Lists (λ y. (slot : ℕ) × Contains w.white (y, (arena, slot)))
        (whites_in ws arena)) (sym c.changes.whites_is) was in
        subst (λ (ws : List (Name × (ℕ × ℕ))). Lists (λ y. (slot : ℕ) × Contains ws (y, (arena, slot)))
        (whites_in new.whites arena)) (sym beside.white_is) whites

    still_watched : (y : Name) → Has v.weak.watched y ↔ IsWatched new.weak y
    still_watched y =
        subst (λ (n : WeakNames). Has v.weak.watched y ↔ IsWatched n y) (sym c.changes.weak_is)
        (subst (λ n. Has n y ↔ IsWatched old.weak y) (sym (ap (λ n. n.watched) beside.weak_is))
        (stands.watched_are y))

    represents_with : ArePlaced → (IsSettled new.stage → IsBlackIn new.black v) → IsAtStage new.stage new v
        → Represents h new v
    represents_with placed black stage = record {
      graph_is = beside.graph_is;
      places_are = placed.0;
      owners_are = placed.1;
      out_are = beside.out_is ∙ stands.out_are ∙ sym c.changes.out_is;
      white_are = still_waiting;
      slots_are = ap (λ n. n.slots) beside.weak_is ∙ stands.slots_are
          ∙ ap (λ (n : WeakNames). n.slots) (sym c.changes.weak_is);
      watched_are = still_watched;
      black_are = black;
      stage_is = stage;
    }

  -- while no collection is being prepared
  module _ (calm : w.preparing ≡ None) (beside : IsBeside w v h)
      (running : v.collection ≡ changed f (awake_by x) w.collection) where
    kept_found : (m : Collection) → (walks : Walks) × HasFound old m walks → HasGroups old.stage
        → (walks : Walks) × HasFound new (record m { woken = awake_by x m; tally = f m }) walks
    kept_found m has left =
        let marks : IsSettled old.stage → ⊥ = λ still. groups_mark stands ok left still in
        let followed = c.stands.sound.walks has.0 has.1.walks_are left in
        found_woken x old.stage old new m (f m) marks (c.changes.takes.graph_is followed.kept) c.changes.walks has

    stage_after : (t : Stage) → old.stage ≡ t → IsAtStage t old w → IsAtStage t new v
    stage_after idle e at = record {
      idle = record {
        none_running = running ∙ ap (changed f (awake_by x)) at.idle.none_running;
        none_preparing = beside.preparing_is ∙ calm;
      };
      none_out = c.changes.out_is ∙ at.none_out;
    }
    stage_after (preparing zones) e at = absurd (cc (calm, at.preparing_is))
    stage_after (collecting zones marking groups) e at = let m = at.collection in record {
      collection = record m { woken = awake_by x m; tally = f m };
      collection_is = running ∙ ap (changed f (awake_by x)) at.collection_is;
      alone = beside.preparing_is ∙ calm;
      small = at.small;
      zones_are = at.zones_are;
      marking_are = at.marking_are;
      groups_are = at.groups_are;
      tally_is = c.tally m at.collection_is at.tally_is;
      none_out = λ none. c.changes.out_is ∙ at.none_out none;
      found = λ left. let was = subst HasGroups c.changes.stage_is left in kept_found m (at.found was) was;
      first = λ none walks is y.
          let b = walks_before old.stage x old.walks new.walks walks c.changes.walks is in
          subst (λ (u : WalkState). Closure m.snapshot (Has m.black_starts) y ↔ Contains u.names y) (sym b.2)
          (at.first none b.0 b.1 y);
    }

    at_stage_after : IsAtStage new.stage new v
    at_stage_after = subst (λ t. IsAtStage t new v) (sym c.changes.stage_is)
        (stage_after old.stage refl stands.stage_is)

    settled_before : IsSettled new.stage → IsSettled old.stage
    settled_before still = subst IsSettled c.changes.stage_is still

    -- nothing turns black
    black_stays : x ≡ None → v.black ≡ w.black → IsSettled new.stage → IsBlackIn new.black v
    black_stays none same still =
        let was = stands.black_are (settled_before still) in
        let black : new.black ≡ old.black =
        subst (λ o. Blackens h old.stage o old.black new.black) none c.changes.blackens in
        subst (λ (b : WalkState). IsBlackIn b v) (sym black) (record {
          within = was.within;
          names_are = λ y. subst (λ b. Has b y ↔ Contains old.black.names y) (sym same) (was.names_are y);
        })

    goes_black : (t : Stage) → IsAtStage t old w → IsSettled t → (y : Name) → BlackensOne h t y old.black new.black
        → GoesOnFrom h (y ∷ []) old.black new.black
    goes_black idle at still y b = b
    goes_black (preparing zones) at still y b = absurd (cc (calm, at.preparing_is))
    goes_black (collecting zones marking groups) at still y b = b.0 still

    black_grows : (y : Name) → x ≡ Some y → HasPlace w h y v → Wakes w counted (marking_of w.collection) h y v
        → IsSettled new.stage → IsBlackIn new.black v
    black_grows y some has wakes still =
        let before = settled_before still in
        let rest = settled_world stands ok before in
        let woken = subst (λ l. Wakes w counted l h y v) rest.none_marking wakes in
        let graph = beside.graph_is in
        let judged = goes_black old.stage stands.stage_is before y
        (subst (λ o. Blackens h old.stage o old.black new.black) some c.changes.blackens) in
        blackens_settled w v y old.black new.black ok c.after rest (stands.black_are before)
        (subst (λ a. LeadsOn w.graph a) (sym graph) c.on) (place_kept w h y v has) (place_there w h y v has)
        (λ z. subst (λ a. Has v.black z ↔ (Closure a (λ s. Has w.black s ⊎ (y ≡ s)) z × IsPresent v z)) (sym graph)
        (woken.1 z)) (subst (λ a. GoesOnFrom a (y ∷ []) old.black new.black) (sym graph) judged)

  -- no collection is being prepared
  running_after : w.preparing ≡ None → (y : Option Name) → x ≡ y → Accepts w counted h y v → Represents h new v
  running_after calm None e a =
      let beside = beside_graph w v h w.black counted a in
      let running : v.collection ≡ changed f (awake_by x) w.collection =
      ap (λ (z : World). z.collection) a ∙ ap (λ o. changed f (awake_by o) w.collection) (sym e) in
      represents_with beside (still_placed e (ap (λ (z : World). z.places) a) (ap (λ (z : World). z.owner) a))
      (black_stays calm beside running e (ap (λ (z : World). z.black) a)) (at_stage_after calm beside running)
  running_after calm (Some y) e a =
      let beside = beside_placed w v h y a.0 in
      let running : v.collection ≡ changed f (awake_by x) w.collection =
      waked_as y (marking_of w.collection) a.1 ∙ waked_is y f w.collection
      ∙ ap (λ o. changed f (awake_by o) w.collection) (sym e) in
      represents_with beside (now_placed y e a.0) (black_grows calm beside running y e a.0 a.1)
      (at_stage_after calm beside running)
    where
      waked_as : (z : Name) (l : List ℕ) → Wakes w counted l h z v → v.collection ≡ with_waking z counted
      waked_as z [] m = m.0
      waked_as z (n ∷ ns) m = m.0

  -- these zones are being prepared
  module _ (zones : ZoneSet) (e : old.stage ≡ preparing zones) (at : IsPrepared old zones w) where
    abbrev p : Preparation
    p = at.preparation

    abbrev waking : Waking
    waking = record { first = x; also = also }

    prepares : Prepares w at.preparation zones (record { first = x; also = also }) h old.left_out
    prepares = record {
      ok = ok;
      ready = ok.preparing at.preparation at.preparing_is;
      zones_are = at.zones_are;
      follow = c.follow;
      on = c.on;
      black_are = at.black_are;
    }

    grows : GrowsLeft h zones (IsEither x also) old.left_out new.left_out
    grows = subst (λ t. BlackensLeft h t (IsEither x also) old.left_out new.left_out) e c.changes.left_out

    never_settled : IsSettled new.stage → IsBlackIn new.black v
    never_settled still =
        let rest = settled_world stands ok (subst IsSettled c.changes.stage_is still) in
        absurd (cc (rest.none_preparing, at.preparing_is))

    stage_prepared : IsBeside w v h → v.collection ≡ None → ((y : Name) → Has v.black y ↔ IsLeftBlack new.left_out y)
        → IsAtStage new.stage new v
    stage_prepared beside alone black = subst (λ t. IsAtStage t new v) (sym (c.changes.stage_is ∙ e)) prepared
      where
        same : new.tally ≡ old.tally
        same = c.uncounted at.alone

        prepared : IsPrepared new zones v
        prepared = record {
          preparation = at.preparation;
          preparing_is = beside.preparing_is ∙ at.preparing_is;
          alone = alone;
          small = at.small;
          zones_are = at.zones_are;
          arenas_are = at.arenas_are ∙ ap (λ (t : Tally). t.arenas) (sym same);
          spent_is = at.spent_is ∙ ap (λ (t : Tally). t.spent) (sym same);
          none_out = c.changes.out_is ∙ at.none_out;
          black_are = black;
        }

    either_none : x ≡ None → also ≡ None → (s : Name) → IsEither x also s → ⊥
    either_none n m s (inl a) = cc (n, a)
    either_none n m s (inr a) = cc (m, a)

    either_also : (z : Name) → x ≡ None → also ≡ Some z → (s : Name) → IsEither x also s → z ≡ s
    either_also z n m s (inl a) = absurd (cc (n, a))
    either_also z n m s (inr a) = cc (m, a)

    either_first : (y : Name) → x ≡ Some y → (s : Name) → IsEither x also s → (y ≡ s) ⊎ (also ≡ Some s)
    either_first y n s (inl a) = inl (cc (n, a))
    either_first y n s (inr a) = inr a

    prepared_after : (y z : Option Name) → x ≡ y → also ≡ z → AcceptsPreparing w at.preparation h y z v
        → Represents h new v
    prepared_after None None n m a =
        let beside = beside_graph w v h w.black w.collection a in
        let black : v.black ≡ w.black = ap (λ (u : World). u.black) a in
        represents_with beside (still_placed n (ap (λ (u : World). u.places) a) (ap (λ (u : World). u.owner) a))
        never_settled (stage_prepared beside (ap (λ (u : World). u.collection) a ∙ at.alone)
        (λ y. subst (λ b. Has b y ↔ IsLeftBlack new.left_out y) (sym black)
        (left_stays w at.preparation zones waking h (IsEither x also) old.left_out new.left_out prepares
        (either_none n m) grows y)))
    prepared_after None (Some z) n m a =
        let beside = beside_graph w v h v.black w.collection a.0 in
        let places : v.places ≡ w.places = ap (λ (u : World). u.places) a.0 in
        let kept : (s : Name) → IsPresent w s → IsPresent v s =
        λ s. subst (λ ps. finite.contains_key ps s ≡ true) (sym places) in
        represents_with beside (still_placed n places (ap (λ (u : World). u.owner) a.0)) never_settled
        (stage_prepared beside (ap (λ (u : World). u.collection) a.0 ∙ at.alone)
        (left_wakes w v at.preparation zones waking (λ s. z ≡ s) (IsEither x also) old.left_out new.left_out
        (subst (λ a. Prepares w at.preparation zones waking a old.left_out) (sym beside.graph_is) prepares) c.after kept
        (λ s q. kept s (c.also_there s (m ∙ ap Some (either_also z n m s q))))
        (λ s q. inr (m ∙ ap Some q)) (either_also z n m) a.1
        (subst (λ a. GrowsLeft a zones (IsEither x also) old.left_out new.left_out) (sym beside.graph_is) grows)))
    prepared_after (Some y) z n m a =
        let beside = beside_placed w v h y a.0 in
        represents_with beside (now_placed y n a.0) never_settled
        (stage_prepared beside (a.1 ∙ at.alone)
        (left_wakes w v at.preparation zones waking (λ s. (y ≡ s) ⊎ (also ≡ Some s)) (IsEither x also) old.left_out
        new.left_out (subst (λ a. Prepares w at.preparation zones waking a old.left_out) (sym beside.graph_is) prepares)
        c.after (place_kept w h y v a.0)
        (λ s q. elim (either_first y n s q) [
          | inl same ↦ subst (λ u. IsPresent v u) same (place_there w h y v a.0)
          | inr too ↦ place_kept w h y v a.0 s (c.also_there s too)
        ])
        (λ s q. elim q [ inl same ↦ inl (n ∙ ap Some same) | inr too ↦ inr too ]) (either_first y n)
        (subst (λ o. WakesLeftOut w at.preparation (λ s. (y ≡ s) ⊎ (o ≡ Some s)) v) (sym m) a.2)
        (subst (λ a. GrowsLeft a zones (IsEither x also) old.left_out new.left_out) (sym beside.graph_is) grows)))

  any_after : (q : Option Preparation) → w.preparing ≡ q → (t : Stage) → old.stage ≡ t → IsAtStage t old w
      → Represents h new v
  any_after None e t s at =
      running_after e x refl (subst (λ r. AcceptsIn r w counted h x also v) e c.accepts)
  any_after (Some q) e idle s at = absurd (cc (e, at.idle.none_preparing))
  any_after (Some q) e (preparing zones) s at =
      prepared_after zones s at x also refl refl
      (subst (λ r. AcceptsIn r w counted h x also v) at.preparing_is c.accepts)
  any_after (Some q) e (collecting zones marking groups) s at = absurd (cc (e, at.alone))

  pub represents_after : Represents h new v
  represents_after = any_after w.preparing refl old.stage refl stands.stage_is
