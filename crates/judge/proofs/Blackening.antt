-- A name that a change wakes turns the same names black in the judge's world as in that of the definitions.
use Rattle.std.proofs.Common.{◌≡◌, ◌↔◌, ◌⊎◌, inl, inr, [], ◌∷◌, ◌++◌, Option, Contains}
use Rattle.std.proofs.Common.{sym, subst}
use Rattle.std.specs.BTreeSet.{BTreeSet}
use Rattle.gz_names.specs.Zones.{zones_in}
use Rattle.gz_names.specs.declared.names.Name.{Name}
use Rattle.gz_names.specs.declared.zone_sets.ZoneSet.{ZoneSet}
use Rattle.colour_defs.specs.Closure.{Closure, ClosureWithin, within_edge, within_key, within_start, within_value}
use Rattle.colour_defs.specs.Graph.{GraphState, IsInZones}
use Rattle.colour_defs.specs.Laws.{IsValid, IsValidPreparing}
use Rattle.colour_defs.specs.World.{Has, IsLeftOut, IsPresent, IsSettled as HasSettled, Preparation, WakesLeftOut}
use Rattle.colour_defs.specs.World.{World}
use Rattle.colour_defs.proofs.Effects.{Waking}
use Rattle.colour_defs.proofs.Follows.{Follows}
use Rattle.plain_graph.specs.Reach.{IsDone, WalkState}
use Rattle.judge.specs.LeftOut.{GrowsLeft, IsClosedLeft, IsOutOf}
use Rattle.judge.specs.Live.{IsFollowed, IsFollowedOut}
use Rattle.judge.specs.Represents.{IsBlackIn}
use Rattle.judge.specs.Walks.{GoesOnFrom, IsLeftBlack}
use Rattle.judge.proofs.LeadsOn.{LeadsOn, black_followed, left_followed}
use Rattle.judge.proofs.LiveCommands.{reached_in}
use Rattle.judge.proofs.StillClosed.{closed_left, followed_as, follows_itself, goes_on_black}

pub present_followed : (w : World) → IsValid w → IsFollowed w.graph (IsPresent w)
present_followed w ok =
    record { edges = ok.presence.edges; values = ok.presence.entries; keys = ok.presence.keys }

-- what is reached within a set from what is present is present
pub present_within : (w : World) (I S : Name → Type 0) → IsValid w → ((x : Name) → S x → I x → IsPresent w x)
    → {x : Name}
    → ClosureWithin w.graph I S x → ClosureWithin w.graph (λ y. IsPresent w y × I y) S x × IsPresent w x
present_within w I S ok there (within_start s i) = let p = there _ s i in (within_start s (p, i), p)
present_within w I S ok there (within_edge r e i) =
    let q = present_within w I S ok there r in
    let p = ok.presence.edges _ _ q.1 e in (within_edge q.0 e (p, i), p)
present_within w I S ok there (within_value is m k i) =
    let q = present_within w I S ok there m in
    let t = present_within w I S ok there k in
    let p = ok.presence.entries _ _ _ is q.1 t.1 in (within_value is q.0 t.0 (p, i), p)
present_within w I S ok there (within_key is m k i) =
    let q = present_within w I S ok there m in
    let t = present_within w I S ok there k in
    let p = ok.presence.keys _ _ _ _ is q.1 t.1 in (within_key is q.0 t.0 (p, i), p)

pub within_as : (g : GraphState) (I J S T : Name → Type 0) → ((x : Name) → I x → J x) → ((x : Name) → S x → T x)
    → {x : Name} → ClosureWithin g I S x → ClosureWithin g J T x
within_as g I J S T f h (within_start s i) = within_start (h _ s) (f _ i)
within_as g I J S T f h (within_edge r e i) = within_edge (within_as g I J S T f h r) e (f _ i)
within_as g I J S T f h (within_value is m k i) =
    within_value is (within_as g I J S T f h m) (within_as g I J S T f h k) (f _ i)
within_as g I J S T f h (within_key is m t i) =
    within_key is (within_as g I J S T f h m) (within_as g I J S T f h t) (f _ i)

-- nothing is prepared or marked
pub blackens_settled : (w v : World) (x : Name) (old new : WalkState) → IsValid w → IsValid v → HasSettled w
    → IsBlackIn old w → LeadsOn w.graph v.graph → ((y : Name) → IsPresent w y → IsPresent v y) → IsPresent v x
    → ((y : Name) → Has v.black y ↔ (Closure v.graph (λ s. Has w.black s ⊎ (x ≡ s)) y × IsPresent v y))
    → GoesOnFrom v.graph (x ∷ []) old new → IsBlackIn new v
blackens_settled w v x old new ok after still is on kept there black goes = record {
  within = done.follows.within;
  names_are = λ y. (
    λ b. (names y).1 ((black y).0 b).0,
    λ c. let r = (names y).0 c in (black y).1 (
      r,
      reached_in v.graph (λ s. Has w.black s ⊎ (x ≡ s)) (IsPresent v)
          (λ s h. elim h [
            | inl b ↦ kept s ((ok.settled still).present s b)
            | inr e ↦ subst (λ z. IsPresent v z) e there
          ]) (present_followed v after) r,
    ),
  );
}
  where
    followed : IsFollowed v.graph (Has w.black)
    followed = black_followed w v.graph ok (ok.settled still) on

    names : (y : Name) → Contains new.names y ↔ Closure v.graph (λ s. Has w.black s ⊎ (x ≡ s)) y
    names = goes_on_black v.graph (Has w.black) x old new (λ y b. (is.names_are y).0 b) (λ y c. (is.names_are y).1 c)
        is.within followed goes

    done : IsDone v.graph (old.names ++ x ∷ []) new
    done = goes old.names (follows_itself v.graph old is.within
        (followed_as v.graph (Has w.black) (Contains old.names) (λ y b. (is.names_are y).0 b)
        (λ y c. (is.names_are y).1 c) followed))

-- these zones are being prepared
pub record Prepares (w : World) (p : Preparation) (zones : ZoneSet) (o : Waking) (h : GraphState)
    (old : Option (BTreeSet Name)) : Type 0 where
  pub ok : IsValid w
  pub ready : IsValidPreparing w p
  pub zones_are : p.zones ≡ zones_in zones
  pub follow : Follows w.graph o h
  pub on : LeadsOn w.graph h
  pub black_are : (x : Name) → Has w.black x ↔ IsLeftBlack old x

pub left_closed : (w : World) (p : Preparation) (zones : ZoneSet) (o : Waking) (h : GraphState)
    (old : Option (BTreeSet Name)) → Prepares w p zones o h old → IsClosedLeft h zones old
left_closed w p zones o h old is =
    closed_left h zones (Has w.black) old (λ x b. (is.black_are x).0 b) (λ x b. (is.black_are x).1 b)
    (subst (λ zs. IsFollowedOut h zs (Has w.black)) is.zones_are
    (left_followed w o h is.ok is.follow p is.ready is.on))

-- nothing is woken
grown_none : (g : GraphState) (zones : ZoneSet) (P : Name → Type 0) (old : Option (BTreeSet Name))
    → IsClosedLeft g zones old → ((x : Name) → P x → ⊥) → {x : Name}
    → ClosureWithin g (IsOutOf g zones) (λ s. IsLeftBlack old s ⊎ P s) x → IsLeftBlack old x
grown_none g zones P old closed none (within_start s i) = elim s [ inl b ↦ b | inr p ↦ absurd (none _ p) ]
grown_none g zones P old closed none (within_edge r e i) =
    closed.edges _ _ (grown_none g zones P old closed none r) e i
grown_none g zones P old closed none (within_value is m k i) =
    closed.values _ _ _ is (grown_none g zones P old closed none m) (grown_none g zones P old closed none k) i
grown_none g zones P old closed none (within_key is m t i) =
    closed.keys _ _ _ _ is (grown_none g zones P old closed none m) (grown_none g zones P old closed none t) i

pub left_stays : (w : World) (p : Preparation) (zones : ZoneSet) (o : Waking) (h : GraphState) (P : Name → Type 0)
    (old new : Option (BTreeSet Name)) → Prepares w p zones o h old → ((x : Name) → P x → ⊥)
    → GrowsLeft h zones P old new → (y : Name) → Has w.black y ↔ IsLeftBlack new y
left_stays w p zones o h P old new is none grows y = (
  λ b. (grown y).1 (within_start (inl ((is.black_are y).0 b)) (closed.inside y ((is.black_are y).0 b))),
  λ b. (is.black_are y).1 (grown_none h zones P old closed none ((grown y).0 b)),
)
  where
    closed : IsClosedLeft h zones old
    closed = left_closed w p zones o h old is

    grown : (z : Name) → IsLeftBlack new z ↔ ClosureWithin h (IsOutOf h zones) (λ s. IsLeftBlack old s ⊎ P s) z
    grown = grows closed

-- these names are woken, which are present then
pub left_wakes : (w v : World) (p : Preparation) (zones : ZoneSet) (o : Waking) (P Q : Name → Type 0)
    (old new : Option (BTreeSet Name)) → Prepares w p zones o v.graph old → IsValid v
    → ((x : Name) → IsPresent w x → IsPresent v x) → ((x : Name) → Q x → IsPresent v x)
    → ((x : Name) → P x → Q x) → ((x : Name) → Q x → P x) → WakesLeftOut w p P v
    → GrowsLeft v.graph zones Q old new → (y : Name) → Has v.black y ↔ IsLeftBlack new y
left_wakes w v p zones o P Q old new is after kept there to of wakes grows y = (
  λ b. (grown y).1 (within_as v.graph (IsLeftOut v p) (IsOutOf v.graph zones) (λ s. Has w.black s ⊎ P s)
      (λ s. IsLeftBlack old s ⊎ Q s) (λ x l. out x l.1)
      (λ x h. elim h [ inl b ↦ inl ((is.black_are x).0 b) | inr q ↦ inr (to x q) ]) ((wakes y).0 b)),
  λ b. (wakes y).1 (within_as v.graph (λ x. IsPresent v x × IsOutOf v.graph zones x) (IsLeftOut v p)
      (λ s. IsLeftBlack old s ⊎ Q s) (λ s. Has w.black s ⊎ P s) (λ x l. (l.0, back x l.1))
      (λ x h. elim h [ inl b ↦ inl ((is.black_are x).1 b) | inr q ↦ inr (of x q) ])
      (present_within v (IsOutOf v.graph zones) (λ s. IsLeftBlack old s ⊎ Q s) after
      (λ x h i. elim h [
        | inl b ↦ kept x (is.ready.left_out x ((is.black_are x).1 b)).0
        | inr q ↦ there x q
      ]) ((grown y).0 b)).0),
)
  where
    out : (x : Name) → (IsInZones v.graph p.zones x → ⊥) → IsOutOf v.graph zones x
    out x n = subst (λ zs. IsInZones v.graph zs x → ⊥) is.zones_are n

    back : (x : Name) → IsOutOf v.graph zones x → IsInZones v.graph p.zones x → ⊥
    back x n = subst (λ zs. IsInZones v.graph zs x → ⊥) (sym is.zones_are) n

    grown : (z : Name) → IsLeftBlack new z
        ↔ ClosureWithin v.graph (IsOutOf v.graph zones) (λ s. IsLeftBlack old s ⊎ Q s) z
    grown = grows (left_closed w p zones o v.graph old is)
