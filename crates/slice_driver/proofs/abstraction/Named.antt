-- What is reached by places is what is reached by names.
use Rattle.std.proofs.Common.{◌≡◌, ◌↔◌, ◌<◌, ◌≤◌, ℕ, zero, suc, List, [], ◌∷◌, length, map, Option, Some, None, IsSome}
use Rattle.std.proofs.Common.{is_some, slice_get, Contains, refl, sym, ap, subst, ◌∙◌, inl, inr, arith, option_map}
use Rattle.std.proofs.Common.{true}
use Rattle.std.specs.FinMap as places
use Rattle.gz_names.specs.declared.commands.Kind.TheVariants as kind
use Rattle.gz_names.specs.declared.names.Name.{Name}
use Rattle.gz_names.specs.declared.names.Name.TheVariants.{Cell, Wrap}
use Rattle.gz_names.specs.declared.numbers.CompNo.{CompNo}
use Rattle.gz_names.specs.declared.numbers.Place.{Place}
use Rattle.arena_table.specs.Cells.{CellState, joined, field_of}
use Rattle.colour_defs.specs.Graph.{GraphState, object_of, value_of}
use Rattle.colour_defs.specs.Closure.{Closure, HoldsInField, from, along, weak, delegate}
use Rattle.colour_defs.specs.Closure as names
use Rattle.colour_defs.specs.World.{World, IsPresent as IsPresentName}
use Rattle.colour_defs.specs.Present as present
use Rattle.colour_defs.proofs.Lists.{contains_at, contains_cases, nothing_in_none}
use Rattle.colour_defs.specs.declared.graph.Object.{Object}
use Rattle.heap_core.specs.Shape.{Shape, HasEdge, IsDelegate, IsPresent, cell_of, field_in, held_name, name_at}
use Rattle.heap_core.specs.Heap.{HeapState}
use Rattle.heap_core.specs.Shows.{StandsFor, is_wrapper, object_at}
use Rattle.barriers.specs.Reached.{Reached}
use Rattle.barriers.specs.Reached as reached
use Rattle.slice_driver.specs.Worlds.{LiesIn}

pub some_one : {X : Type 0} (x y : X) → Some x ≡ Some y → x ≡ y
some_one x y e = cc e

-- a present cell and its name
pub named_cell : (s : Shape) (p : Place) (x : Name) → name_at s p ≡ Some x → (cell : CellState)
    × (cell_of s p ≡ Some cell) × (cell.name ≡ x)
named_cell s p x e = go (cell_of s p) refl e
  where
    go : (o : Option CellState) → cell_of s p ≡ o → option_map (λ (c : CellState). c.name) o ≡ Some x
        → (cell : CellState) × (cell_of s p ≡ Some cell) × (cell.name ≡ x)
    go None at e = absurd (cc e)
    go (Some cell) at e = (cell, at, some_one _ _ e)

pub name_of : (s : Shape) (p : Place) → IsPresent s p → (x : Name) × (name_at s p ≡ Some x)
name_of s p there = go (cell_of s p) refl there
  where
    go : (o : Option CellState) → cell_of s p ≡ o → IsSome o → (x : Name) × (name_at s p ≡ Some x)
    go None at there = absurd (cc there)
    go (Some cell) at there = (cell.name, ap (option_map (λ (c : CellState). c.name)) at)

pub named_present : (s : Shape) (p : Place) (x : Name) → name_at s p ≡ Some x → IsPresent s p
named_present s p x e = let c = named_cell s p x e in ap is_some c.1

-- an edge by names, where the cell is what the graph has
module _ (s : Shape) (g : GraphState) (p : Place) (cell : CellState) where
  pub edge_as : (x y : Name) (q : Place) (f : ℕ) → StandsFor s g p cell x → field_of cell f ≡ Some q
      → name_at s q ≡ Some y → names.HasEdge g x y
  edge_as (Cell n) y q f stands e named =
      subst (λ z. HoldsInField z y) (sym stands.1)
      (contains_at (map (held_name s) cell.fields) f (Some y) (got cell.fields f e))
    where
      got : (fs : List (Option Place)) (i : ℕ) → joined (slice_get fs i) ≡ Some q
          → slice_get (map (held_name s) fs) i ≡ Some (Some y)
      got [] i e = absurd (cc e)
      got (o ∷ fs) zero e = ap (λ z. Some z) (ap (held_name s) e ∙ named)
      got (o ∷ fs) (suc i) e = got fs i e
  edge_as (Wrap c t) y q f stands e named = (
    some_one _ _ (sym stands.target_is
        ∙ ap (name_at s) (only f (subst (λ fs. joined (slice_get fs f) ≡ Some q) stands.fields_is e)) ∙ named),
    stands.known,
  )
    where
      only : (i : ℕ) → joined (slice_get (Some stands.target ∷ []) i) ≡ Some q → stands.target ≡ q
      only zero e = some_one _ _ e
      only (suc i) e = absurd (cc e)

  -- and back: an edge of the graph leads to a place
  holds : (y : Name) (fs : List (Option Place)) → Contains (map (held_name s) fs) (Some y) → (q : Place) × (f : ℕ)
      × (f < length fs) × (joined (slice_get fs f) ≡ Some q) × (name_at s q ≡ Some y)
  holds y [] c = absurd (nothing_in_none (Some y) c)
  holds y (o ∷ fs) c = elim (contains_cases (held_name s o) (map (held_name s) fs) (Some y) c) [
    | inl e ↦ head o e
    | inr t ↦ (let r = holds y fs t in (r.0, suc r.1, omega (arith, r.2), r.3, r.4))
  ]
    where
      head : (o : Option Place) → held_name s o ≡ Some y → (q : Place) × (f : ℕ) × (f < length (o ∷ fs))
          × (joined (slice_get (o ∷ fs) f) ≡ Some q) × (name_at s q ≡ Some y)
      head None e = absurd (cc e)
      head (Some q) e = (q, 0, omega arith, refl, e)

-- starts by places and by names that are the same cells, all of them present
pub record AreSameStarts (h : HeapState) (w : World) (P : Place → Type 0) (Q : Name → Type 0) : Type 0 where
  pub same : (p : Place) (x : Name) → name_at h.shape p ≡ Some x → P p ↔ Q x
  pub placed : (p : Place) → P p → IsPresent h.shape p
  pub named : (x : Name) → Q x → IsPresentName w x

pub part_edge : (g j : GraphState) → present.IsPartOf g j → (x y : Name) → names.HasEdge j x y → names.HasEdge g x y
part_edge g j part (Wrap c t) y e = (e.0, part.wrappers c t e.1)
part_edge g j part (Cell n) y e = go (object_of j n) refl e
  where
    go : (o : Option Object) → object_of j n ≡ o → HoldsInField o y → HoldsInField (object_of g n) y
    go None at e = absurd e
    go (Some o) at e = subst (λ z. HoldsInField z y) (sym (part.objects n o at)) e

module _ (h : HeapState) (w : World) (l : LiesIn h w) where
  pub present_named : (p : Place) (x : Name) → name_at h.shape p ≡ Some x → IsPresentName w x
  present_named p x e = ap is_some ((l.places_are x p).1 e)

  pub place_of : (x : Name) → IsPresentName w x → (p : Place) × (name_at h.shape p ≡ Some x)
  place_of x there = go (places.get w.places x) refl there
    where
      go : (o : Option Place) → places.get w.places x ≡ o → is_some o ≡ true
          → (p : Place) × (name_at h.shape p ≡ Some x)
      go None at there = absurd (cc there)
      go (Some p) at there = (p, (l.places_are x p).0 at)

  here : (p : Place) (x : Name) → name_at h.shape p ≡ Some x → present.IsHere l.graph x
  here p x e = (l.part.here x).1 (present_named p x e)

  -- what a key stands for is here: it, or a wrapper's target
  pub key_here : (p : Place) (x : Name) → name_at h.shape p ≡ Some x → present.IsKeyHere l.graph x
  key_here p (Cell n) e = here p (Cell n) e
  key_here p (Wrap c t) e =
      let cell = named_cell h.shape p (Wrap c t) e in
      let stands : StandsFor h.shape l.graph p cell.0 (Wrap c t) =
      subst (λ z. StandsFor h.shape l.graph p cell.0 z) cell.2 (l.shown.cells p cell.0 cell.1).stands in
      here stands.target (Cell t) stands.target_is

  pub edge_named : (p q : Place) (x y : Name) → name_at h.shape p ≡ Some x → name_at h.shape q ≡ Some y
      → HasEdge h.shape p q → names.HasEdge w.graph x y
  edge_named p q x y np nq e =
      let c = named_cell h.shape p x np in
      let stands : StandsFor h.shape l.graph p c.0 x =
      subst (λ z. StandsFor h.shape l.graph p c.0 z) c.2 (l.shown.cells p c.0 c.1).stands in
      part_edge w.graph l.graph l.part.part x y
      (edge_as h.shape l.graph p c.0 x y q e.0 stands (sym (ap (λ o. field_in o e.0) c.1) ∙ e.2) nq)

  whole_edge : (p : Place) (x y : Name) (cell : CellState) → cell_of h.shape p ≡ Some cell → length cell.fields ≤ 8
      → StandsFor h.shape l.graph p cell x → names.HasEdge w.graph x y → (q : Place) × HasEdge h.shape p q
      × (name_at h.shape q ≡ Some y)
  whole_edge p (Cell n) y cell there few stands e =
      let o : object_of w.graph n ≡ Some (object_at h.shape cell) =
      l.part.part.objects n (object_at h.shape cell) stands.1 in
      let r = holds h.shape l.graph p cell y cell.fields (subst (λ z. HoldsInField z y) o e) in
      (r.0, (r.1, omega (arith, r.2, few), ap (λ z. field_in z r.1) there ∙ r.3), r.4)
  whole_edge p (Wrap c t) y cell there few stands e = (
    stands.target,
    (
      0,
      omega arith,
      ap (λ z. field_in z 0) there
          ∙ ap (λ fs. joined (slice_get fs 0)) stands.fields_is,
    ),
    stands.target_is ∙ ap (λ z. Some z) e.0,
  )

  pub edge_placed : (p : Place) (x y : Name) → name_at h.shape p ≡ Some x → names.HasEdge w.graph x y
      → (q : Place) × HasEdge h.shape p q × (name_at h.shape q ≡ Some y)
  edge_placed p x y np e =
      let c = named_cell h.shape p x np in
      let shown = l.shown.cells p c.0 c.1 in
      whole_edge p x y c.0 c.1 shown.few (subst (λ z. StandsFor h.shape l.graph p c.0 z) c.2 shown.stands) e

  -- a delegate by places and by names
  pub delegate_named : (k d : Place) (x : Name) → IsDelegate h.shape k d → name_at h.shape k ≡ Some x
      → (c : CompNo) × (t : ℕ) × (x ≡ Wrap c t) × (name_at h.shape d ≡ Some (Cell t))
  delegate_named k d (Cell n) is e =
      let cell = named_cell h.shape k (Cell n) e in
      let stands : StandsFor h.shape l.graph k cell.0 (Cell n) =
      subst (λ z. StandsFor h.shape l.graph k cell.0 z) cell.2 (l.shown.cells k cell.0 cell.1).stands in
      let kind_is : Some cell.0.kind ≡ Some kind.Wrapper =
      sym (ap (option_map (λ (z : CellState). z.kind)) cell.1) ∙ is.0 in
      absurd (let wrapper = ap is_wrapper (some_one _ _ kind_is) in let none = stands.0 in cc (wrapper, none))
  delegate_named k d (Wrap c t) is e =
      let cell = named_cell h.shape k (Wrap c t) e in
      let stands : StandsFor h.shape l.graph k cell.0 (Wrap c t) =
      subst (λ z. StandsFor h.shape l.graph k cell.0 z) cell.2 (l.shown.cells k cell.0 cell.1).stands in
      let held : Some stands.target ≡ Some d = sym (ap (λ o. field_in o 0) cell.1
      ∙ ap (λ fs. joined (slice_get fs 0)) stands.fields_is) ∙ is.1 in
      (c, t, refl, ap (name_at h.shape) (sym (some_one _ _ held)) ∙ stands.target_is)

  pub delegate_placed : (k d : Place) (c : CompNo) (t : ℕ) → name_at h.shape k ≡ Some (Wrap c t)
      → name_at h.shape d ≡ Some (Cell t) → IsDelegate h.shape k d
  delegate_placed k d c t nk nd =
      let cell = named_cell h.shape k (Wrap c t) nk in
      let stands : StandsFor h.shape l.graph k cell.0 (Wrap c t) =
      subst (λ z. StandsFor h.shape l.graph k cell.0 z) cell.2 (l.shown.cells k cell.0 cell.1).stands in (
        ap (option_map (λ (z : CellState). z.kind)) cell.1 ∙ ap (λ z. Some z) stands.kind_is,
        ap (λ o. field_in o 0) cell.1 ∙ ap (λ fs. joined (slice_get fs 0)) stands.fields_is
            ∙ ap (λ z. Some z) (l.shown.apart stands.target d (Cell t) stands.target_is nd),
      )

  module _ (P : Place → Type 0) (Q : Name → Type 0) (starts : AreSameStarts h w P Q) where
    pub reached_named : {p : Place} → Reached h.shape P p → (x : Name) × (name_at h.shape p ≡ Some x)
        × Closure w.graph Q x
    reached_named (reached.from {x = p} st) = let n = name_of h.shape p (starts.placed p st) in
        (n.0, n.1, from ((starts.same p n.0 n.1).0 st))
    reached_named (reached.along {x = p} {y = q} r e) =
        let i = reached_named r in
        let n = name_of h.shape q (l.shown.fields_held p q e.0 e.2) in
        (n.0, n.1, along i.2 (edge_named p q i.0 n.0 i.1 n.1 e))
    reached_named (reached.weak {m} {k} {v} e a b) =
        let i = reached_named a in
        let j = reached_named b in
        let n = name_of h.shape v (l.shown.entries_held m k v e).2 in
        let value : value_of l.graph i.0 j.0 ≡ Some n.0 = l.shown.entries_are m k v i.0 j.0 n.0 e i.1 j.1 n.1 in
        (n.0, n.1, weak (sym (l.part.part.entries i.0 j.0 (here m i.0 i.1) (key_here k j.0 j.1)) ∙ value) i.2 j.2)
    reached_named (reached.delegate {m} {k} {v} {d} e is a b) =
        let i = reached_named a in
        let j = reached_named b in
        let held = l.shown.entries_held m k v e in
        let key = name_of h.shape k held.1 in
        let n = name_of h.shape v held.2 in
        let names = delegate_named k d key.0 is key.1 in
        let value : value_of w.graph i.0 key.0 ≡ Some n.0 =
        sym (l.part.part.entries i.0 key.0 (here m i.0 i.1) (key_here k key.0 key.1))
        ∙ l.shown.entries_are m k v i.0 key.0 n.0 e i.1 key.1 n.1 in
        let same : j.0 ≡ Cell names.1 = some_one _ _ (sym j.1 ∙ names.3) in (
          Wrap names.0 names.1,
          key.1 ∙ ap (λ z. Some z) names.2,
          delegate (subst (λ z. value_of w.graph i.0 z ≡ Some n.0) names.2 value) i.2
              (subst (λ z. Closure w.graph Q z) same j.2),
        )

    pub closure_placed : {x : Name} → Closure w.graph Q x → (p : Place) × (name_at h.shape p ≡ Some x)
        × Reached h.shape P p
    closure_placed (from {x} st) = let at = place_of x (starts.named x st) in
        (at.0, at.1, reached.from ((starts.same at.0 x at.1).1 st))
    closure_placed (along {x} {y} r e) =
        let i = closure_placed r in
        let q = edge_placed i.0 x y i.1 e in
        (q.0, q.2, reached.along i.2 q.1)
    closure_placed (delegate {m} {v} {c} {t} e a b) =
        let i = closure_placed a in
        let j = closure_placed b in
        let value : value_of l.graph m (Wrap c t) ≡ Some v =
        l.part.part.entries m (Wrap c t) (here i.0 m i.1) (here j.0 (Cell t) j.1) ∙ e in
        let entry = l.shown.entries_known m (Wrap c t) v value in
        let at_map : entry.0 ≡ i.0 = l.shown.apart entry.0 i.0 m entry.4 i.1 in (
          entry.1,
          entry.5,
          reached.delegate entry.3 (delegate_placed entry.1 j.0 c t entry.5 j.1)
              (subst (Reached h.shape P) (sym at_map) i.2) j.2,
        )
    closure_placed (weak {m} {k} {v} e a b) =
        let i = closure_placed a in
        let j = closure_placed b in
        let value : value_of l.graph m k ≡ Some v = l.part.part.entries m k (here i.0 m i.1) (key_here j.0 k j.1) ∙ e in
        let entry = l.shown.entries_known m k v value in
        let at_map : entry.0 ≡ i.0 = l.shown.apart entry.0 i.0 m entry.4 i.1 in
        let at_key : entry.1 ≡ j.0 = l.shown.apart entry.1 j.0 k entry.5 j.1 in (
          entry.2,
          entry.6,
          reached.weak entry.3 (subst (Reached h.shape P) (sym at_map) i.2)
              (subst (Reached h.shape P) (sym at_key) j.2),
        )

    pub same_reached : (p : Place) (x : Name) → name_at h.shape p ≡ Some x → Reached h.shape P p ↔ Closure w.graph Q x
    same_reached p x e = (
      λ r. (let n = reached_named r in subst (λ z. Closure w.graph Q z) (some_one _ _ (sym n.1 ∙ e)) n.2),
      λ r. (let at = closure_placed r in subst (Reached h.shape P) (l.shown.apart at.0 p x at.1 e) at.2),
    )

    pub closure_present : (x : Name) → Closure w.graph Q x → IsPresentName w x
    closure_present x r = let at = closure_placed r in present_named at.0 x at.1
