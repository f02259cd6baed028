-- Heaps with the same present cells show the same graph.
use Rattle.std.proofs.Common.{◌≡◌, ◌≤◌, ℕ, List, length, map, Option, Some, None, IsSome, Contains, slice_get, refl}
use Rattle.std.proofs.Common.{sym, ap, subst, ◌∙◌}
use Rattle.std.specs.Option.{option_map}
use Rattle.gz_names.specs.declared.names.Name.{Name}
use Rattle.gz_names.specs.declared.names.Name.TheVariants.{Cell, Wrap}
use Rattle.gz_names.specs.declared.numbers.Place.{Place}
use Rattle.arena_table.specs.Cells.{CellState}
use Rattle.wrappers.specs.WrapperMaps.{WrappersState, list_of, place_of}
use Rattle.weak_maps.specs.WeakMaps.{WeakTableState, value_of}
use Rattle.colour_defs.specs.Graph.{GraphState}
use Rattle.heap_core.specs.Shape.{HasEdge, IsDelegate, IsPresent, cell_of, comp_at, field_at, field_in, held_name}
use Rattle.heap_core.specs.Shape.{name_at, zone_of}
use Rattle.heap_core.specs.Heap.{HeapState}
use Rattle.heap_core.specs.Shows.{IsShown, Shows, StandsFor}
use Rattle.barriers.specs.Reached.{HasEntry}

-- each zone has the present cells that it had, and all else that a graph is shown by is as it was
pub record HasSameCells (h k : HeapState) : Type 0 where
  pub cells : (p : Place) → cell_of k.shape p ≡ cell_of h.shape p
  pub zones : (p : Place) → zone_of k.shape p ≡ zone_of h.shape p
  pub states : length k.shape.states ≡ length h.shape.states
  pub comps : k.shape.comps ≡ h.shape.comps
  pub wrappers : k.shape.wrappers ≡ h.shape.wrappers
  pub weak : k.shape.weak ≡ h.shape.weak
  pub regs : k.shape.regs ≡ h.shape.regs
  pub slots : k.shape.slots ≡ h.shape.slots
  pub objects : k.shape.objects ≡ h.shape.objects
  pub made : k.made ≡ h.made

module _ (h k : HeapState) (same : HasSameCells h k) where
  pub name_same : (p : Place) → name_at k.shape p ≡ name_at h.shape p
  name_same p = ap (option_map (λ (c : CellState). c.name)) (same.cells p)

  pub comp_same : (p : Place) → comp_at k.shape p ≡ comp_at h.shape p
  comp_same p = ap (option_map (λ (c : CellState). c.comp)) (same.cells p)

  held_same : (o : Option Place) → held_name k.shape o ≡ held_name h.shape o
  held_same None = refl
  held_same (Some p) = name_same p

  all_held : held_name k.shape ≡ held_name h.shape
  all_held = λ i o. held_same o i

  pub field_same : (p : Place) (f : ℕ) → field_at k.shape p f ≡ field_at h.shape p f
  field_same p f = ap (λ o. field_in o f) (same.cells p)

  pub edge_on : (p q : Place) → HasEdge h.shape p q → HasEdge k.shape p q
  edge_on p q e = (e.0, e.1, field_same p e.0 ∙ e.2)

  pub edge_back : (p q : Place) → HasEdge k.shape p q → HasEdge h.shape p q
  edge_back p q e = (e.0, e.1, sym (field_same p e.0) ∙ e.2)

  pub entry_on : (m q v : Place) → HasEntry h.shape m q v → HasEntry k.shape m q v
  entry_on m q v e = subst (λ (w : WeakTableState). value_of w m q ≡ Some v) (sym same.weak) e

  pub entry_back : (m q v : Place) → HasEntry k.shape m q v → HasEntry h.shape m q v
  entry_back m q v e = subst (λ (w : WeakTableState). value_of w m q ≡ Some v) same.weak e

  pub delegate_on : (q d : Place) → IsDelegate h.shape q d → IsDelegate k.shape q d
  delegate_on q d is = (ap (option_map (λ (z : CellState). z.kind)) (same.cells q) ∙ is.0, field_same q 0 ∙ is.1)

  pub delegate_back : (q d : Place) → IsDelegate k.shape q d → IsDelegate h.shape q d
  delegate_back q d is =
      (sym (ap (option_map (λ (z : CellState). z.kind)) (same.cells q)) ∙ is.0, sym (field_same q 0) ∙ is.1)

  pub present_on : (p : Place) → IsPresent h.shape p → IsPresent k.shape p
  present_on p there = subst (λ (o : Option CellState). IsSome o) (sym (same.cells p)) there

  pub present_back : (p : Place) → IsPresent k.shape p → IsPresent h.shape p
  present_back p there = subst (λ (o : Option CellState). IsSome o) (same.cells p) there

  stands : (g : GraphState) (p : Place) (cell : CellState) (x : Name) → StandsFor h.shape g p cell x
      → StandsFor k.shape g p cell x
  stands g p cell (Cell n) st = (
    st.0,
    st.1 ∙ ap (λ (f : Option Place → Option Name).
        Some (record {
          comp = cell.comp;
          is_map = Rattle.heap_core.specs.Shows.is_map cell.kind;
          fields = map f cell.fields;
        })) (sym all_held),
  )
  stands g p cell (Wrap c t) st = record {
    target = st.target;
    kind_is = st.kind_is;
    comp_is = st.comp_is;
    fields_is = st.fields_is;
    target_is = name_same st.target ∙ st.target_is;
    known = st.known;
    mapped = subst (λ (w : WrappersState). place_of w c.0 t ≡ Some p) (sym same.wrappers) st.mapped;
  }

  shown_cell : (g : GraphState) (p : Place) (cell : CellState) → IsShown h.shape g p cell → IsShown k.shape g p cell
  shown_cell g p cell is = record {
    stands = stands g p cell cell.name is.stands;
    sized = is.sized;
    few = is.few;
    at_home = subst (λ (cs : List ℕ). slice_get cs cell.comp.0 ≡ Some (zone_of k.shape p)) (sym same.comps)
        (is.at_home ∙ ap (λ z. Some z) (sym (same.zones p)));
  }

  pub shows_same : (g : GraphState) → Shows h g → Shows k g
  shows_same g s = record {
    zones_are = s.zones_are ∙ sym same.states;
    comps_are = s.comps_are ∙ sym same.comps;
    objects_made = s.objects_made ∙ sym same.objects;
    registers_are = s.registers_are ∙ ap (λ (f : Option Place → Option Name). map f h.shape.regs) (sym all_held)
        ∙ ap (λ (rs : List (Option Place)). map (held_name k.shape) rs) (sym same.regs);
    slots_are = s.slots_are ∙ ap (λ (f : Option Place → Option Name). map f h.shape.slots) (sym all_held)
        ∙ ap (λ (rs : List (Option Place)). map (held_name k.shape) rs) (sym same.slots);
    registers_held = λ p c.
        present_on p (s.registers_held p (subst (λ (rs : List (Option Place)). Contains rs (Some p)) same.regs c));
    slots_held = λ p c. present_on p
        (s.slots_held p (subst (λ (rs : List (Option Place)). Contains rs (Some p)) same.slots c));
    fields_held = λ p q f e. present_on q (s.fields_held p q f (sym (field_same p f) ∙ e));
    cells = λ p cell e. shown_cell g p cell (s.cells p cell (sym (same.cells p) ∙ e));
    apart = λ p q x e f. s.apart p q x (sym (name_same p) ∙ e) (sym (name_same q) ∙ f);
    objects_are = λ n o e. (let at = s.objects_are n o e in (at.0, name_same at.0 ∙ at.1));
    wrappers_are = λ c t e. (let at = s.wrappers_are c t e in (at.0, name_same at.0 ∙ at.1));
    mapped = λ c t p e. name_same p
        ∙ s.mapped c t p (subst (λ (w : WrappersState). place_of w c.0 t ≡ Some p) same.wrappers e);
    maps_at_home = λ z e c. subst (λ (cs : List ℕ). slice_get cs e.0.comp ≡ Some z) (sym same.comps)
        (s.maps_at_home z e (subst (λ (w : WrappersState). Contains (list_of w z) e) same.wrappers c));
    entries_held = λ m q v e.
        (let there = s.entries_held m q v (entry_back m q v e) in
        (present_on m there.0, present_on q there.1, present_on v there.2));
    entries_are = λ m q v x y z e a b c. s.entries_are m q v x y z (entry_back m q v e) (sym (name_same m) ∙ a)
        (sym (name_same q) ∙ b) (sym (name_same v) ∙ c);
    entries_known = λ x y z e.
        (let at = s.entries_known x y z e in (
          at.0,
          at.1,
          at.2,
          entry_on at.0 at.1 at.2 at.3,
          name_same at.0 ∙ at.4,
          name_same at.1 ∙ at.5,
          name_same at.2 ∙ at.6,
        ));
    few_objects = subst (λ n. n ≤ k.made) (sym same.objects)
        (subst (λ n. h.shape.objects ≤ n) (sym same.made) s.few_objects);
  }
