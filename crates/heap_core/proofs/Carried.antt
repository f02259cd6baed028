-- A heap whose cells are others than those of a first one, and keep its names.
use Rattle.std.proofs.Common.{◌≡◌, ◌≤◌, ℕ, List, Option, Some, None, map, length, slice_get, refl, sym, ap, subst, ◌∙◌}
use Rattle.std.proofs.Common.{Contains, IsTrue}
use Rattle.std.specs.Option.{ForSome}
use Rattle.gz_names.specs.declared.names.Name.{Name}
use Rattle.gz_names.specs.declared.names.Name.TheVariants.{Cell, Wrap}
use Rattle.gz_names.specs.declared.numbers.CompNo.{CompNo}
use Rattle.gz_names.specs.declared.numbers.Place.{Place}
use Rattle.zones.specs.declared.states.State.{State}
use Rattle.arena_table.specs.Cells.{CellState}
use Rattle.wrappers.specs.WrapperMaps.{list_of, place_of}
use Rattle.wrappers.specs.declared.wrapper_maps.WrapperKey.{WrapperKey}
use Rattle.weak_maps.specs.WeakMaps.{WeakTableState, value_of}
use Rattle.colour_defs.specs.declared.graph.Object.{Object}
use Rattle.colour_defs.specs.declared.graph.Entry.{Entry}
use Rattle.colour_defs.specs.Graph as graph
use Rattle.colour_defs.specs.Graph.{GraphState, object_of, has_wrapper}
use Rattle.heap_core.specs.Shape.{IsPresent, cell_of, field_at, name_at, held_name}
use Rattle.heap_core.specs.Heap.{HeapState}
use Rattle.heap_core.specs.Shows.{Shows, IsShown}
use Rattle.heap_core.proofs.Places.{named_present, present_cell, cell_named, map-members}

-- what holds what is as it was, and so are the names of cells that were present
pub record Carries (h k : HeapState) (g j : GraphState) : Type 0 where
  pub zones_same : j.zones ≡ g.zones
  pub comps_same : j.comps ≡ g.comps
  pub registers_same : j.registers ≡ g.registers
  pub slots_same : j.slots ≡ g.slots
  pub entries_same : j.entries ≡ g.entries
  pub states_are : k.shape.states ≡ h.shape.states
  pub comps_are : k.shape.comps ≡ h.shape.comps
  pub regs_are : k.shape.regs ≡ h.shape.regs
  pub slots_are : k.shape.slots ≡ h.shape.slots
  pub weak_is : k.shape.weak ≡ h.shape.weak
  pub named : (q : Place) (x : Name) → name_at h.shape q ≡ Some x → name_at k.shape q ≡ Some x

module _ (h k : HeapState) (g j : GraphState) (s : Shows h g) (c : Carries h k g j) where
  pub kept : (q : Place) → IsPresent h.shape q → IsPresent k.shape q
  kept q e = let cell = present_cell h.shape q e in
      named_present k.shape q cell.0.name (c.named q cell.0.name (cell_named h.shape q cell.0 cell.1))

  pub name_kept : (q : Place) → IsPresent h.shape q → name_at k.shape q ≡ name_at h.shape q
  name_kept q e =
      let cell = present_cell h.shape q e in
      let n = cell_named h.shape q cell.0 cell.1 in
      c.named q cell.0.name n ∙ sym n

  pub held_kept : (v : Option Place) → ForSome v (IsPresent h.shape) → held_name k.shape v ≡ held_name h.shape v
  held_kept None e = refl
  held_kept (Some q) e = name_kept q (e q refl)

  pub names_kept : (xs : List (Option Place)) → ((q : Place) → Contains xs (Some q) → IsPresent h.shape q)
      → map (held_name k.shape) xs ≡ map (held_name h.shape) xs
  names_kept xs e = map-members (held_name k.shape) (held_name h.shape) xs
      (λ v m. held_kept v (λ q is. e q (subst (λ (x : Option Place). Contains xs x) is m)))

  -- what the graph is at cells, where the rest is carried along
  pub shows-carried : length j.objects ≡ k.shape.objects → k.shape.objects ≤ k.made
      → ((p q : Place) (f : ℕ) → field_at k.shape p f ≡ Some q → IsPresent k.shape q)
      → ((p : Place) (cell : CellState) → cell_of k.shape p ≡ Some cell → IsShown k.shape j p cell)
      → ((p q : Place) (x : Name) → name_at k.shape p ≡ Some x → name_at k.shape q ≡ Some x → p ≡ q)
      → ((n : ℕ) (o : Object) → object_of j n ≡ Some o → (p : Place) × (name_at k.shape p ≡ Some (Cell n)))
      → ((d : CompNo) (t : ℕ) → IsTrue (has_wrapper j d t) → (p : Place) × (name_at k.shape p ≡ Some (Wrap d t)))
      → ((d : CompNo) (t : ℕ) (p : Place) → place_of k.shape.wrappers d.0 t ≡ Some p
      → name_at k.shape p ≡ Some (Wrap d t))
      → ((z : ℕ) (e : WrapperKey × Place) → Contains (list_of k.shape.wrappers z) e
      → slice_get k.shape.comps e.0.comp ≡ Some z)
      → Shows k j
  shows-carried objects few fields cells apart objects_are wrappers_are mapped maps_at_home = record {
    zones_are = c.zones_same ∙ s.zones_are ∙ ap (λ (xs : List State). length xs) (sym c.states_are);
    comps_are = c.comps_same ∙ s.comps_are ∙ sym c.comps_are;
    objects_made = objects;
    registers_are = c.registers_same ∙ s.registers_are ∙ sym (names_kept h.shape.regs s.registers_held)
        ∙ ap (λ (xs : List (Option Place)). map (held_name k.shape) xs) (sym c.regs_are);
    slots_are = c.slots_same ∙ s.slots_are ∙ sym (names_kept h.shape.slots s.slots_held)
        ∙ ap (λ (xs : List (Option Place)). map (held_name k.shape) xs) (sym c.slots_are);
    registers_held = λ p m.
        kept p (s.registers_held p (subst (λ (xs : List (Option Place)). Contains xs (Some p)) c.regs_are m));
    slots_held = λ p m. kept p
        (s.slots_held p (subst (λ (xs : List (Option Place)). Contains xs (Some p)) c.slots_are m));
    fields_held = fields;
    cells = cells;
    apart = apart;
    objects_are = objects_are;
    wrappers_are = wrappers_are;
    mapped = mapped;
    maps_at_home = maps_at_home;
    entries_held = λ m key v e. (let held = s.entries_held m key v (value_was m key (Some v) e) in
        (kept m held.0, kept key held.1, kept v held.2));
    entries_are = λ m key v x y z e a b d. (let was = value_was m key (Some v) e in
        let held = s.entries_held m key v was in
        ap (λ (es : List Entry). graph.value_in es x y) c.entries_same
        ∙ s.entries_are m key v x y z was (sym (name_kept m held.0) ∙ a) (sym (name_kept key held.1) ∙ b)
        (sym (name_kept v held.2) ∙ d));
    entries_known = λ x y z e.
        (let was = ap (λ (es : List Entry). graph.value_in es x y) (sym c.entries_same) ∙ e in
        let known = s.entries_known x y z was in (
          known.0,
          known.1,
          known.2,
          ap (λ (w : WeakTableState). value_of w known.0 known.1) c.weak_is ∙ known.3,
          c.named known.0 x known.4,
          c.named known.1 y known.5,
          c.named known.2 z known.6,
        ));
    few_objects = few;
  }
    where
      value_was : (m key : Place) (v : Option Place) → value_of k.shape.weak m key ≡ v → value_of h.shape.weak m key ≡ v
      value_was m key v e = ap (λ (w : WeakTableState). value_of w m key) (sym c.weak_is) ∙ e
