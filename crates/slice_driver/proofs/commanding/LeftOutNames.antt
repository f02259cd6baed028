-- While a collection is being prepared: what is reached by places whose colours count is what is reached by names that
-- the collection leaves out.
use Rattle.std.proofs.Common.{◌≡◌, ◌↔◌, ◌⊎◌, ℕ, Option, Some, None, inl, inr, sym, ap, subst, ◌∙◌}
use Rattle.gz_names.specs.Zones.{HasZone, zones_in}
use Rattle.gz_names.specs.declared.names.Name.{Name}
use Rattle.gz_names.specs.declared.names.Name.TheVariants.{Cell, Wrap}
use Rattle.gz_names.specs.declared.numbers.Place.{Place}
use Rattle.gz_names.specs.declared.zone_sets.ZoneSet.{ZoneSet}
use Rattle.mark_stack.specs.Stack.{Piles}
use Rattle.zones.specs.declared.states.State.TheVariants as state
use Rattle.colour_defs.specs.Closure.{ClosureWithin, within_edge, within_key, within_start, within_value}
use Rattle.colour_defs.specs.Graph.{IsInZones, value_of}
use Rattle.colour_defs.specs.World.{Has, IsLeftOut, Preparation, WakesLeftOut, World}
use Rattle.colour_defs.proofs.Carried.{within_in}
use Rattle.heap_core.specs.Shape.{IsPresent, Shape, is_prepare_state, name_at, state_in, zone_of}
use Rattle.heap_core.specs.Heap.{HeapState, colour_of}
use Rattle.barriers.specs.Colours.{IsBlack}
use Rattle.barriers.specs.LeftOut.{Counts, PreparingInvariant, ReachedLeftOut}
use Rattle.barriers.specs.LeftOut as reached
use Rattle.barriers.proofs.LeftOut.{left_out_closed, left_out_from}
use Rattle.slice_driver.specs.Commands.{ExposedLeftOut}
use Rattle.slice_driver.specs.Worlds.{LiesIn}
use Rattle.slice_driver.proofs.abstraction.BlackNames.{left_out_named, left_out_names, named_left_out}
use Rattle.slice_driver.proofs.abstraction.Named.{delegate_named, delegate_placed, edge_named, edge_placed, key_here}
use Rattle.slice_driver.proofs.abstraction.Named.{name_of, named_present, place_of, present_named, some_one}
use Rattle.slice_driver.proofs.beginning.Beginning.{zones_named, zones_placed}
use Rattle.slice_driver.proofs.taking_in.Runs.{has_zone_or_not}

-- a present cell's colour counts exactly where the collection leaves its name out
abbrev pub AreLeftOut : HeapState → World → Preparation → Type 0
AreLeftOut h w p = (q : Place) (x : Name) → name_at h.shape q ≡ Some x
    → Counts h.shape q ↔ (IsInZones w.graph p.zones x → ⊥)

-- starts by places and by names that are the same where colours count
pub record AreSameLeftOut (h : HeapState) (P : Place → Type 0) (Q : Name → Type 0) : Type 0 where
  pub same : (q : Place) (x : Name) → name_at h.shape q ≡ Some x → Counts h.shape q → P q ↔ Q x
  pub placed : (q : Place) → P q → IsPresent h.shape q

module _ (h : HeapState) (w : World) (l : LiesIn h w) (p : Preparation) (out : AreLeftOut h w p) where
  is_left_out : (q : Place) (x : Name) → name_at h.shape q ≡ Some x → Counts h.shape q → IsLeftOut w p x
  is_left_out q x e counts = (present_named h w l q x e, (out q x e).0 counts)

  module _ (P : Place → Type 0) (Q : Name → Type 0) (st : AreSameLeftOut h P Q) where
    reached_named : {q : Place} → ReachedLeftOut h.shape P q → (x : Name) × (name_at h.shape q ≡ Some x)
        × ClosureWithin w.graph (IsLeftOut w p) Q x
    reached_named (reached.from {x = q} counts s) =
        let n = name_of h.shape q (st.placed q s) in
        (n.0, n.1, within_start ((st.same q n.0 n.1 counts).0 s) (is_left_out q n.0 n.1 counts))
    reached_named (reached.along {x = o} {y = q} r e counts) =
        let i = reached_named r in
        let n = name_of h.shape q (l.shown.fields_held o q e.0 e.2) in
        (n.0, n.1, within_edge i.2 (edge_named h w l o q i.0 n.0 i.1 n.1 e) (is_left_out q n.0 n.1 counts))
    reached_named (reached.weak {m} {k} {v} e counts a b) =
        let i = reached_named a in
        let j = reached_named b in
        let n = name_of h.shape v (l.shown.entries_held m k v e).2 in
        let value : value_of l.graph i.0 j.0 ≡ Some n.0 = l.shown.entries_are m k v i.0 j.0 n.0 e i.1 j.1 n.1 in
        let here = (l.part.here i.0).1 (present_named h w l m i.0 i.1) in (
          n.0,
          n.1,
          within_value (sym (l.part.part.entries i.0 j.0 here (key_here h w l k j.0 j.1)) ∙ value) i.2 j.2
              (is_left_out v n.0 n.1 counts),
        )
    reached_named (reached.delegate {m} {k} {v} {d} e is counts a b) =
        let i = reached_named a in
        let j = reached_named b in
        let held = l.shown.entries_held m k v e in
        let key = name_of h.shape k held.1 in
        let n = name_of h.shape v held.2 in
        let names = delegate_named h w l k d key.0 is key.1 in
        let here = (l.part.here i.0).1 (present_named h w l m i.0 i.1) in
        let value : value_of w.graph i.0 key.0 ≡ Some n.0 =
        sym (l.part.part.entries i.0 key.0 here (key_here h w l k key.0 key.1))
        ∙ l.shown.entries_are m k v i.0 key.0 n.0 e i.1 key.1 n.1 in
        let same : j.0 ≡ Cell names.1 = some_one _ _ (sym j.1 ∙ names.3) in
        let wrap : name_at h.shape k ≡ Some (Wrap names.0 names.1) = key.1 ∙ ap (λ z. Some z) names.2 in (
          Wrap names.0 names.1,
          wrap,
          within_key (subst (λ z. value_of w.graph i.0 z ≡ Some n.0) names.2 value) i.2
              (subst (λ z. ClosureWithin w.graph (IsLeftOut w p) Q z) same j.2)
              (is_left_out k (Wrap names.0 names.1) wrap counts),
        )

    closure_placed : {x : Name} → ClosureWithin w.graph (IsLeftOut w p) Q x → (q : Place)
        × (name_at h.shape q ≡ Some x) × ReachedLeftOut h.shape P q
    closure_placed (within_start {x} s inside) =
        let at = place_of h w l x inside.0 in
        let counts = (out at.0 x at.1).1 inside.1 in
        (at.0, at.1, reached.from counts ((st.same at.0 x at.1 counts).1 s))
    closure_placed (within_edge {x} {y} r e inside) =
        let i = closure_placed r in
        let q = edge_placed h w l i.0 x y i.1 e in
        (q.0, q.2, reached.along i.2 q.1 ((out q.0 y q.2).1 inside.1))
    closure_placed (within_value {m} {k} {v} e a b inside) =
        let i = closure_placed a in
        let j = closure_placed b in
        let here = (l.part.here m).1 (present_named h w l i.0 m i.1) in
        let value : value_of l.graph m k ≡ Some v = l.part.part.entries m k here (key_here h w l j.0 k j.1) ∙ e in
        let entry = l.shown.entries_known m k v value in
        let at_map : entry.0 ≡ i.0 = l.shown.apart entry.0 i.0 m entry.4 i.1 in
        let at_key : entry.1 ≡ j.0 = l.shown.apart entry.1 j.0 k entry.5 j.1 in (
          entry.2,
          entry.6,
          reached.weak entry.3 ((out entry.2 v entry.6).1 inside.1)
              (subst (ReachedLeftOut h.shape P) (sym at_map) i.2) (subst (ReachedLeftOut h.shape P) (sym at_key) j.2),
        )
    closure_placed (within_key {m} {v} {c} {t} e a b inside) =
        let i = closure_placed a in
        let j = closure_placed b in
        let here = (l.part.here m).1 (present_named h w l i.0 m i.1) in
        let target = (l.part.here (Cell t)).1 (present_named h w l j.0 (Cell t) j.1) in
        let value : value_of l.graph m (Wrap c t) ≡ Some v = l.part.part.entries m (Wrap c t) here target ∙ e in
        let entry = l.shown.entries_known m (Wrap c t) v value in
        let at_map : entry.0 ≡ i.0 = l.shown.apart entry.0 i.0 m entry.4 i.1 in (
          entry.1,
          entry.5,
          reached.delegate entry.3 (delegate_placed h w l entry.1 j.0 c t entry.5 j.1)
              ((out entry.1 (Wrap c t) entry.5).1 inside.1) (subst (ReachedLeftOut h.shape P) (sym at_map) i.2) j.2,
        )

    pub same_left_out : (q : Place) (x : Name) → name_at h.shape q ≡ Some x
        → ReachedLeftOut h.shape P q ↔ ClosureWithin w.graph (IsLeftOut w p) Q x
    same_left_out q x e = (
      λ r. (let n = reached_named r in
          subst (λ z. ClosureWithin w.graph (IsLeftOut w p) Q z) (some_one _ _ (sym n.1 ∙ e)) n.2),
      λ r. (let at = closure_placed r in
          subst (ReachedLeftOut h.shape P) (l.shown.apart at.0 q x at.1 e) at.2),
    )

-- so it is where the zones of a collection are being prepared, and no others
pub left_out_in : (h : HeapState) (w : World) (zones : ZoneSet) (l : LiesIn h w) (p : Preparation)
    → p.zones ≡ zones_in zones → ((z : ℕ) → HasZone zones.bits z → state_in h.shape z ≡ state.Prepare)
    → ((z : ℕ) → (HasZone zones.bits z → ⊥) → state_in h.shape z ≡ state.NoGC) → AreLeftOut h w p
left_out_in h w zones l p zones_are inside outside q x e = (
  λ counts named. (
      let has = zones_placed h w l zones q x e (subst (λ zs. IsInZones w.graph zs x) zones_are named) in
      let prepared = ap is_prepare_state (inside (zone_of h.shape q) has) in
      cc (counts, prepared)),
  λ not. elim (has_zone_or_not zones.bits (zone_of h.shape q)) [
    | inr out ↦ ap is_prepare_state (outside (zone_of h.shape q) out)
    | inl has ↦ absurd (not (subst (λ zs. IsInZones w.graph zs x) (sym zones_are) (zones_named h w l zones q x e has)))
  ],
)

-- black spread from what was black, where colours count
abbrev pub SpreadsFrom : Shape → HeapState → HeapState → (Place → Type 0) → Type 0
SpreadsFrom s h k E = (y : Place) → Counts s y → IsBlack k y ↔ ReachedLeftOut s (λ z. IsBlack h z ⊎ E z) y

pub exposed_spreads : (o : Option Place) (h : HeapState) (st : Piles) (k : HeapState) (t : Piles)
    → PreparingInvariant h st → ExposedLeftOut o h st k t → SpreadsFrom h.shape h k (λ z. o ≡ Some z)
exposed_spreads None h st k t inv e y counts = (
  λ b. reached.from counts (inl (subst (λ z. IsBlack z y) e.0 b)),
  λ r. subst (λ z. IsBlack z y) (sym e.0) (left_out_closed h st inv
      (left_out_from h.shape (λ z. IsBlack h z ⊎ (None ≡ Some z)) (IsBlack h)
      (λ z c s. elim s [ inl b ↦ reached.from c b | inr is ↦ absurd (cc is) ]) r)),
)
exposed_spreads (Some x) h st k t inv e y counts = (
  λ b. left_out_from h.shape (λ z. IsBlack h z ⊎ (z ≡ x)) (λ z. IsBlack h z ⊎ (Some x ≡ Some z))
      (λ z c s. reached.from c (elim s [ inl b ↦ inl b | inr is ↦ inr (ap (λ q. Some q) (sym is)) ]))
      ((e.exact y counts).0 b),
  λ r. (e.exact y counts).1
      (left_out_from h.shape (λ z. IsBlack h z ⊎ (Some x ≡ Some z)) (λ z. IsBlack h z ⊎ (z ≡ x))
      (λ z c s. reached.from c (elim s [ inl b ↦ inl b | inr is ↦ inr (sym (some_one _ _ is)) ])) r),
)

-- and on
pub spreads_then : (s : Shape) (h k l : HeapState) (A B : Place → Type 0) → SpreadsFrom s h k A → SpreadsFrom s k l B
    → SpreadsFrom s h l (λ z. A z ⊎ B z)
spreads_then s h k l A B a b y counts = (
  λ black. left_out_from s (λ z. IsBlack k z ⊎ B z) (λ z. IsBlack h z ⊎ (A z ⊎ B z))
      (λ z c st. elim st [
        | inr e ↦ reached.from c (inr (inr e))
        | inl was ↦ left_out_from s (λ q. IsBlack h q ⊎ A q) (λ q. IsBlack h q ⊎ (A q ⊎ B q))
            (λ q d su. reached.from d (elim su [ inl first ↦ inl first | inr e ↦ inr (inl e) ])) ((a z c).0 was)
      ]) ((b y counts).0 black),
  λ r. (b y counts).1 (left_out_from s (λ z. IsBlack h z ⊎ (A z ⊎ B z)) (λ z. IsBlack k z ⊎ B z)
      (λ z c st. elim st [
        | inl was ↦ reached.from c (inl ((a z c).1 (reached.from c (inl was))))
        | inr (inl e) ↦ reached.from c (inl ((a z c).1 (reached.from c (inr e))))
        | inr (inr e) ↦ reached.from c (inr e)
      ]) r),
)

-- cells that keep their colours, as they do not count
pub exposed_others : (o : Option Place) (h : HeapState) (st : Piles) (k : HeapState) (t : Piles)
    → ExposedLeftOut o h st k t → (y : Place) → (Counts h.shape y → ⊥) → colour_of k y ≡ colour_of h y
exposed_others None h st k t e y not = ap (λ (z : HeapState). colour_of z y) e.0
exposed_others (Some x) h st k t e y not = e.others y not

-- a cell whose name a command wakes
abbrev pub IsWokenAt : HeapState → Option Name → Option Name → Place → Type 0
IsWokenAt k woken also z = (x : Name) × (name_at k.shape z ≡ Some x) × ((woken ≡ Some x) ⊎ (also ≡ Some x))

-- after a command has woken names, the heap k is black where the world then has black names
pub record IsWokenIn (h k : HeapState) (w : World) (p : Preparation) (woken also : Option Name) : Type 0 where
  pub lies : LiesIn h w
  pub out : AreLeftOut h w p
  pub left_out : (x : Name) → Has w.black x → IsLeftOut w p x
  pub black : (x : Name) (q : Place) → name_at h.shape q ≡ Some x → Counts h.shape q → Has w.black x ↔ IsBlack h q
  pub present : (q : Place) → IsBlack h q → IsPresent h.shape q
  pub names : (q : Place) (x : Name) → name_at h.shape q ≡ Some x → name_at k.shape q ≡ Some x
  pub counts : (q : Place) → IsPresent h.shape q → Counts k.shape q → Counts h.shape q
  pub exact : (y : Place) → Counts k.shape y
      → IsBlack k y ↔ ReachedLeftOut k.shape (λ z. IsBlack h z ⊎ IsWokenAt k woken also z) y

module _ (h k : HeapState) (w v : World) (p : Preparation) (woken also : Option Name)
    (i : IsWokenIn h k w p woken also) (lies : LiesIn k v) (out : AreLeftOut k v p)
    (black_is : v.black ≡ left_out_names k v.places) where
  abbrev Woken : Name → Type 0
  Woken s = (woken ≡ Some s) ⊎ (also ≡ Some s)

  same_starts : AreSameLeftOut k (λ z. IsBlack h z ⊎ IsWokenAt k woken also z) (λ s. Has w.black s ⊎ Woken s)
  same_starts = record {
    same = λ q x e counts. (
      λ s. elim s [
        | inl b ↦ (
            let there = i.present q b in
            let n = name_of h.shape q there in
            let same : n.0 ≡ x = some_one _ _ (sym (i.names q n.0 n.1) ∙ e) in
            inl (subst (λ y. Has w.black y) same ((i.black n.0 q n.1 (i.counts q there counts)).1 b)))
        | inr at ↦ inr (subst Woken (some_one _ _ (sym at.1 ∙ e)) at.2)
      ],
      λ s. elim s [
        | inl has ↦ (
            let inside = i.left_out x has in
            let at = place_of h w i.lies x inside.0 in
            let same : at.0 ≡ q = lies.shown.apart at.0 q x (i.names at.0 x at.1) e in
            inl (subst (IsBlack h) same ((i.black x at.0 at.1 ((i.out at.0 x at.1).1 inside.1)).0 has)))
        | inr at ↦ inr (x, e, at)
      ],
    );
    placed = λ q s. elim s [
      | inl b ↦ (let n = name_of h.shape q (i.present q b) in named_present k.shape q n.0 (i.names q n.0 n.1))
      | inr at ↦ named_present k.shape q at.0 at.1
    ];
  }

  -- its black names are those whose places are black and count
  pub tied_after : (x : Name) (q : Place) → name_at k.shape q ≡ Some x → Counts k.shape q → Has v.black x ↔ IsBlack k q
  tied_after x q e counts = (
    λ has. (
        let n = left_out_named k v.places x (subst (λ b. Has b x) black_is has) in
        subst (IsBlack k) (lies.shown.apart n.0 q x ((lies.places_are x n.0).0 n.1) e) n.3),
    λ b. subst (λ s. Has s x) (sym black_is)
        (named_left_out k v.places x q ((lies.places_are x q).1 e) counts b),
  )

  -- so the names that the command wakes turn black, with what they lead to among those that are left out
  pub wakes_after : WakesLeftOut w p Woken v
  wakes_after y = (
    λ has. (
        let n = left_out_named k v.places y (subst (λ b. Has b y) black_is has) in
        let e = (lies.places_are y n.0).0 n.1 in
        (same_left_out k v lies p out (λ z. IsBlack h z ⊎ IsWokenAt k woken also z) (λ s. Has w.black s ⊎ Woken s)
        same_starts n.0 y e).0 ((i.exact n.0 n.2).0 n.3)),
    λ r. (
        let inside = within_in r in
        let at = place_of k v lies y inside.0 in
        let counts = (out at.0 y at.1).1 inside.1 in
        (tied_after y at.0 at.1 counts).1 ((i.exact at.0 counts).1
        ((same_left_out k v lies p out (λ z. IsBlack h z ⊎ IsWokenAt k woken also z) (λ s. Has w.black s ⊎ Woken s)
        same_starts at.0 y at.1).1 r))),
  )
