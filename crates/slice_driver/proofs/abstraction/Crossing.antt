-- What leads out of a zone is a wrapper of its list.
use Rattle.std.proofs.Common.{◌≡◌, ◌≢◌, ℕ, zero, suc, List, [], ◌∷◌, Option, Some, None, IfSome, slice_get}
use Rattle.std.proofs.Common.{refl, sym, ap, subst, ◌∙◌, Contains}
use Rattle.std.proofs.Common.{option_map, is_some}
use Rattle.std.specs.Map.{lookup}
use Rattle.gz_names.specs.declared.names.Name.{Name}
use Rattle.gz_names.specs.declared.names.Name.TheVariants.{Cell, Wrap}
use Rattle.gz_names.specs.declared.numbers.CompNo.{CompNo}
use Rattle.gz_names.specs.declared.numbers.Place.{Place}
use Rattle.arena_table.specs.Cells.{CellState, joined}
use Rattle.wrappers.specs.WrapperMaps.{first_of, is_key, list_at, list_of, place_at}
use Rattle.wrappers.specs.declared.wrapper_maps.WrapperKey.{WrapperKey}
use Rattle.wrappers.proofs.Finding.{lookup-Contains}
use Rattle.colour_defs.specs.Graph.{GraphState}
use Rattle.colour_defs.specs.Closure as names
use Rattle.colour_defs.specs.Laws.{IsWellFormed}
use Rattle.colour_defs.specs.Present as present
use Rattle.colour_defs.proofs.Membership.{same_zone_of}
use Rattle.heap_core.specs.Shape.{HasEdge, IsPresent, cell_of, field_in, name_at, zone_of}
use Rattle.heap_core.specs.Heap.{HeapState}
use Rattle.heap_core.specs.Shows.{Shows, StandsFor}
use Rattle.slice_driver.specs.Begins.{IsListed}
use Rattle.slice_driver.proofs.abstraction.Named.{name_of, named_cell, some_one, edge_as}
use Rattle.slice_driver.proofs.abstraction.Lying.{zone_named}

-- a wrapper that is found stands on some list
found_listed : (lists : List (List (WrapperKey × Place))) (c t : ℕ) (p : Place) → place_at lists c t ≡ Some p
    → (z : ℕ) × Contains (list_at lists z) (record { comp = c; target = t }, p)
found_listed [] c t p e = absurd (cc e)
found_listed (es ∷ lists) c t p e = go (λ f. found_listed lists c t p f) (lookup (is_key c t) es) refl e
  where
    go : (place_at lists c t ≡ Some p → (z : ℕ) × Contains (list_at lists z) (record { comp = c; target = t }, p))
        → (o : Option Place) → lookup (is_key c t) es ≡ o → first_of o (place_at lists c t) ≡ Some p
        → (z : ℕ) × Contains (list_at (es ∷ lists) z) (record { comp = c; target = t }, p)
    go more None at f = let r = more f in (suc r.0, r.1)
    go more (Some q) at f = (
      0,
      subst (λ r. Contains es (record { comp = c; target = t }, r)) (some_one _ _ f)
          (subst (λ o. IfSome o (λ r. Contains es (record { comp = c; target = t }, r))) at (lookup-Contains es c t)),
    )

pub same_part : (g : GraphState) → present.IsPartOf g g
same_part g = record {
  zones = refl;
  comps = refl;
  registers = refl;
  slots = refl;
  made = refl;
  objects = λ n o e. e;
  wrappers = λ c t e. e;
  entries = λ m k hm hk. refl;
}

-- a cell of the heap stands for this name
pub record StandsAt (h : HeapState) (g : GraphState) (p : Place) (x : Name) : Type 0 where
  pub cell : CellState
  pub there : cell_of h.shape p ≡ Some cell
  pub is : cell.name ≡ x
  pub stands : StandsFor h.shape g p cell x

-- an object leads into its own zone
pub leads_inside : (h : HeapState) (g : GraphState) (p q : Place) (n : ℕ) → Shows h g → IsWellFormed g
    → StandsAt h g p (Cell n) → HasEdge h.shape p q → zone_of h.shape p ≡ zone_of h.shape q
leads_inside h g p q n s well at e =
    let named : name_at h.shape p ≡ Some (Cell n) = ap (λ o. option_map (λ (c : CellState). c.name) o) at.there
    ∙ ap (λ z. Some z) at.is in
    let y = name_of h.shape q (s.fields_held p q e.0 e.2) in
    let edge : names.HasEdge g (Cell n) y.0 =
    edge_as h.shape g p at.cell (Cell n) y.0 q e.0 at.stands (sym (ap (λ o. field_in o e.0) at.there) ∙ e.2) y.1 in
    let same = same_zone_of g (Cell n) y.0 (well.fields n y.0 edge) in
    some_one _ _ (sym (zone_named h g g p (Cell n) s (same_part g) named)
    ∙ (same ∙ zone_named h g g q y.0 s (same_part g) y.1))

crosses_as : (h : HeapState) (g : GraphState) (p q : Place) (cell : CellState) (x : Name) → Shows h g → IsWellFormed g
    → cell_of h.shape p ≡ Some cell → cell.name ≡ x → StandsFor h.shape g p cell x
    → slice_get h.shape.comps cell.comp.0 ≡ Some (zone_of h.shape p) → HasEdge h.shape p q
    → zone_of h.shape p ≢ zone_of h.shape q → IsListed h.shape p q
crosses_as h g p q cell (Cell n) s well there is stands home e apart =
    absurd (apart (leads_inside h g p q n s well (record { cell = cell; there = there; is = is; stands = stands }) e))
crosses_as h g p q cell (Wrap c t) s well there is stands home e apart =
    let found = found_listed h.shape.wrappers.lists c.0 t p stands.mapped in
    let at_home : slice_get h.shape.comps c.0 ≡ Some found.0 =
    s.maps_at_home found.0 (record { comp = c.0; target = t }, p) found.1 in
    let zone : found.0 ≡ zone_of h.shape p =
    some_one _ _ (sym at_home ∙ (ap (λ (d : CompNo). slice_get h.shape.comps d.0) (sym stands.comp_is) ∙ home)) in
    record {
      key = record { comp = c.0; target = t };
      listed = subst (λ z. Contains (list_of h.shape.wrappers z) (record { comp = c.0; target = t }, p)) zone found.1;
      target = ap (λ o. field_in o 0) there
          ∙ (ap (λ fs. joined (slice_get fs 0)) stands.fields_is
          ∙ ap (λ z. Some z) (only e.0
          (subst (λ fs. joined (slice_get fs e.0) ≡ Some q) stands.fields_is
          (sym (ap (λ o. field_in o e.0) there) ∙ e.2))));
    }
  where
    only : (i : ℕ) → joined (slice_get (Some stands.target ∷ []) i) ≡ Some q → stands.target ≡ q
    only zero f = some_one _ _ f
    only (suc i) f = absurd (cc f)

-- a cell that leads out of its zone
pub crosses : (h : HeapState) (g : GraphState) (p q : Place) → Shows h g → IsWellFormed g → HasEdge h.shape p q
    → zone_of h.shape p ≢ zone_of h.shape q → IsListed h.shape p q
crosses h g p q s well e apart =
    let x = name_of h.shape p (present_from (cell_of h.shape p) refl) in
    let cell = named_cell h.shape p x.0 x.1 in
    let shown = s.cells p cell.0 cell.1 in
    crosses_as h g p q cell.0 cell.0.name s well cell.1 refl shown.stands shown.at_home e apart
  where
    present_from : (o : Option CellState) → cell_of h.shape p ≡ o → IsPresent h.shape p
    present_from None at = absurd (cc (e.2, at))
    present_from (Some c) at = ap is_some at

-- so it is a wrapper
pub crosses_named : (h : HeapState) (g : GraphState) (p q : Place) → Shows h g → IsWellFormed g → HasEdge h.shape p q
    → zone_of h.shape p ≢ zone_of h.shape q → (c : CompNo) × (t : ℕ) × (name_at h.shape p ≡ Some (Wrap c t))
crosses_named h g p q s well e apart = go (cell_of h.shape p) refl
  where
    by : (cell : CellState) (x : Name) → cell_of h.shape p ≡ Some cell → cell.name ≡ x
        → StandsFor h.shape g p cell x → (c : CompNo) × (t : ℕ) × (name_at h.shape p ≡ Some (Wrap c t))
    by cell (Cell n) there is stands = absurd
        (apart (leads_inside h g p q n s well (record { cell = cell; there = there; is = is; stands = stands }) e))
    by cell (Wrap c t) there is stands = (
      c,
      t,
      ap (λ o. option_map (λ (d : CellState). d.name) o) there
          ∙ ap (λ z. Some z) is,
    )

    go : (o : Option CellState) → cell_of h.shape p ≡ o
        → (c : CompNo) × (t : ℕ) × (name_at h.shape p ≡ Some (Wrap c t))
    go None at = absurd (cc (e.2, at))
    go (Some cell) at = by cell cell.name at refl (s.cells p cell at).stands
