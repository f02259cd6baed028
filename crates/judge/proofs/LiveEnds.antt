-- As a group ends, what its collection has found live stays.
use Rattle.std.proofs.Common.{◌≡◌, ◌∙◌, ℕ, inl, inr, List, ◌∷◌, Some, Contains, ap, is_some, subst}
use Rattle.std.proofs.Common.{sym}
use Rattle.gz_names.specs.declared.names.Name.{Name}
use Rattle.gz_names.specs.declared.names.Name.TheVariants.{Cell, Wrap}
use Rattle.gz_names.specs.declared.numbers.CompNo.{CompNo}
use Rattle.colour_defs.specs.Closure.{HasEdge, along, delegate, weak}
use Rattle.colour_defs.specs.Ends.{IsLawfulEnd, IsWhiteOf, zones_without}
use Rattle.colour_defs.specs.Graph.{GraphState, IsInZones, comp_of, is_among, is_in_zones, value_of, zone_of}
use Rattle.colour_defs.specs.Laws.{AreValidGroups, IsSameComp, IsValid, IsValidMarking, IsValidRunning}
use Rattle.colour_defs.specs.WeakRefs.{LosesWeak}
use Rattle.colour_defs.specs.World.{BlackClosure, Collection, IsPresent, LiveClosure, World}
use Rattle.colour_defs.proofs.Carried.{black_in_live}
use Rattle.colour_defs.proofs.Lists.{contains_cases, decided}
use Rattle.colour_defs.proofs.Membership.{in_zone, same_zone_of, white_is_not_live, zone_in}
use Rattle.colour_defs.proofs.ValidEnds.{gone_at_end, marks}
use Rattle.judge.specs.Live.{IsLive}

module _ (w v : World) (k : Collection) (group : List ℕ) (rest : List (List ℕ)) (grays : List Name) (ok : IsValid w)
    (running : w.collection ≡ Some k) (first : k.groups ≡ Some (group ∷ rest)) (told : List Name)
    (e : IsLawfulEnd w k group rest grays v) (loses : LosesWeak w told v) (l : IsLive w k) where
  groups_ok : AreValidGroups w k (group ∷ rest)
  groups_ok = ok.groups k (group ∷ rest) running first

  marking_ok : IsValidMarking w k
  marking_ok = marks w v k group rest grays ok running first told e loses

  running_ok : IsValidRunning w k
  running_ok = ok.running k running

  not_white_stays : (x : Name) → IsPresent w x → (IsWhiteOf w k group x → ⊥) → IsPresent v x
  not_white_stays x p n = ap is_some (e.stay x n) ∙ p

  was_present : (x : Name) → IsPresent v x → IsPresent w x
  was_present x p = sym (ap is_some (e.stay x (λ white. cc (p, ap is_some (e.gone x white))))) ∙ p

  stays_in_live : (x : Name) → IsPresent v x → IsInZones w.graph group x → (LiveClosure k x → ⊥) → ⊥
  stays_in_live x p here none = gone_at_end w v k group rest grays ok running first told e loses x here none p

  same_now : (x y : Name) → IsSameComp k.snapshot x y → zone_of w.graph x ≡ zone_of w.graph y
  same_now x y s = same_zone_of w.graph x y (s.0, l.made x s.0 s.1, l.made y s.0 s.2)

  -- a cell of a later group that led to a white cell
  later : (x y : Name) → IsPresent w x → HasEdge k.snapshot x y → IsWhiteOf w k group y
      → IsInZones w.graph k.marking x → (IsInZones w.graph group x → ⊥) → ⊥
  later (Cell n) y p d white here out =
      out (ap (is_among group) (same_now (Cell n) y (l.formed.fields n y d)) ∙ white.here)
  later (Wrap c t) y p d white here out =
      let zy = zone_in w.graph group y white.here in
      let zx = zone_in w.graph k.marking (Wrap c t) here in
      let g = groups_ok.in_some zx.0 zx.2 in
      let at : zone_of w.graph (Cell t) ≡ Some zy.0 = subst (λ z. zone_of w.graph z ≡ Some zy.0) (sym d.0) zy.1 in
      elim (contains_cases group rest g.0 g.1) [
        | inl is ↦ out (in_zone w.graph group (Wrap c t) zx.0 zx.1 (subst (λ n. Contains n zx.0) (sym is) g.2))
        | inr r ↦ groups_ok.backward.0 g.0 r c t zx.0 zy.0 p zx.1 at g.2 zy.2
            (λ b. white.white.not_black (subst (λ z. BlackClosure k z) d.0 b))
      ]

  edge_stays : (x y : Name) → IsPresent v x → HasEdge k.snapshot x y → IsPresent v y
  edge_stays x y p d =
      let px : IsPresent w x = was_present x p in
      not_white_stays y (l.followed.edges x y px d) (λ white.
      let no : (LiveClosure k x → ⊥) = λ a. white_is_not_live w k group y white (along a d) in
      elim (decided (is_in_zones w.graph group x)) [
        | inl here ↦ stays_in_live x p here no
        | inr out ↦ elim (decided (is_in_zones w.graph k.marking x))
            [ inl here ↦ later x y px d white here out | inr other ↦ running_ok.others x px other no ]
      ])

  value_stays : (m q u : Name) → value_of k.snapshot m q ≡ Some u → IsPresent v m → IsPresent v q → IsPresent v u
  value_stays m q u at pm pq =
      not_white_stays u (l.followed.values m q u at (was_present m pm) (was_present q pq)) (λ white.
      let hm : IsInZones w.graph group m =
      ap (is_among group) (same_now m u (l.formed.values m q u at)) ∙ white.here in
      let hq : IsInZones w.graph group q =
      sym (ap (is_among group) (same_now m q (l.formed.keys m q u at))) ∙ hm in
      stays_in_live m pm hm
      (λ am. stays_in_live q pq hq (λ aq. white_is_not_live w k group u white (weak at am aq))))

  -- a target of a later group, whose wrapper was a key as marking began, and is white
  target_later : (m u : Name) (c : CompNo) (t : ℕ) → value_of k.snapshot m (Wrap c t) ≡ Some u → IsPresent w m
      → IsPresent w (Wrap c t) → IsWhiteOf w k group (Wrap c t) → IsInZones w.graph k.marking (Cell t)
      → (IsInZones w.graph group (Cell t) → ⊥) → (BlackClosure k (Cell t) → ⊥) → ⊥
  target_later m u c t at pm pw white here out none = elim (marking_ok.kept m (Wrap c t) u at) [
    | inr b ↦ white.white.not_black b
    | inl now ↦
        let za = zone_in w.graph group (Wrap c t) white.here in
        let zb = zone_in w.graph k.marking (Cell t) here in
        let g = groups_ok.in_some zb.0 zb.2 in
        elim (contains_cases group rest g.0 g.1) [
          | inl is ↦ out (in_zone w.graph group (Cell t) zb.0 zb.1 (subst (λ n. Contains n zb.0) (sym is) g.2))
          | inr r ↦
              groups_ok.forward.0 g.0 r c t za.0 zb.0 pw (m, now.0, now.1, pm) za.1 zb.1 za.2 g.2 none
        ]
  ]

  key_stays : (m u : Name) (c : CompNo) (t : ℕ) → value_of k.snapshot m (Wrap c t) ≡ Some u → IsPresent v m
      → IsPresent v (Cell t) → IsPresent v (Wrap c t)
  key_stays m u c t at pm pt =
      let wm : IsPresent w m = was_present m pm in
      let wt : IsPresent w (Cell t) = was_present (Cell t) pt in
      let pw : IsPresent w (Wrap c t) = l.followed.keys m u c t at wm wt in
      not_white_stays (Wrap c t) pw (λ white.
      let same = same_now m (Wrap c t) (l.formed.keys m (Wrap c t) u at) in
      stays_in_live m pm (ap (is_among group) same ∙ white.here) (λ am.
      let no : (LiveClosure k (Cell t) → ⊥) =
      λ a. white_is_not_live w k group (Wrap c t) white (delegate at am a) in
      elim (decided (is_in_zones w.graph group (Cell t))) [
        | inl here ↦ stays_in_live (Cell t) pt here no
        | inr out ↦ elim (decided (is_in_zones w.graph k.marking (Cell t))) [
          | inr other ↦ running_ok.others (Cell t) wt other no
          | inl here ↦ target_later m u c t at wm pw white here out
              (λ b. no (black_in_live w k marking_ok (Cell t) b))
        ]
      ]))

  pub live_stays : (x : Name) → LiveClosure k x → IsPresent v x
  live_stays x h = not_white_stays x (l.live x h) (λ white. white_is_not_live w k group x white h)

  pub live_ends : IsLive v (record k { marking = zones_without k.marking group; groups = Some rest })
  live_ends = record {
    formed = l.formed;
    made = λ x c at. subst (λ (g : GraphState). comp_of g x ≡ Some c) (sym e.graph_is) (l.made x c at);
    followed = record { edges = edge_stays; values = value_stays; keys = λ m u c t. key_stays m u c t };
    live = live_stays;
  }
