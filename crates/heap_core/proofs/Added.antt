-- What a heap shows after one more cell was made.
use Rattle.std.proofs.Common.{◌≡◌, ◌<◌, ◌≤◌, ◌⊎◌, ℕ, Bool, false, cond, inl, inr, List, Option, Some, None, IsSome}
use Rattle.std.proofs.Common.{length, slice_get, refl, sym, ap, subst, ◌∙◌, IsTrue, Contains}
use Rattle.std.specs.Option.{option_map}
use Rattle.std.proofs.lemmas.Option.{slice_get-get_or, slice_get_within}
use Rattle.gz_names.specs.declared.names.Name.{Name}
use Rattle.gz_names.specs.declared.names.Name.TheVariants.{Cell, Wrap}
use Rattle.gz_names.specs.declared.numbers.CompNo.{CompNo}
use Rattle.gz_names.specs.declared.numbers.Place.{Place}
use Rattle.arena_table.specs.Cells.{CellState, field_count, field_of, joined}
use Rattle.arena_table.specs.Table.{is_place}
use Rattle.wrappers.specs.WrapperMaps.{list_of, place_of}
use Rattle.wrappers.specs.declared.wrapper_maps.WrapperKey.{WrapperKey}
use Rattle.colour_defs.specs.declared.graph.Object.{Object}
use Rattle.colour_defs.specs.Graph.{GraphState, object_of, has_wrapper}
use Rattle.heap_core.specs.Shape.{Shape, ArenaShape, IsPresent, cell_of, cell_in_arena, field_at, field_in, name_at}
use Rattle.heap_core.specs.Shape.{zone_of}
use Rattle.heap_core.specs.Heap.{HeapState}
use Rattle.heap_core.specs.Shows.{Shows, IsShown, StandsFor, is_map, object_at}
use Rattle.heap_core.proofs.Places.{place-same, place-cases, named_present, cell_named, cell_present}
use Rattle.heap_core.proofs.Carried.{Carries, shows-carried, kept, names_kept}

-- one more cell, under a new name; what held something holds the same
pub record Adds (h k : HeapState) (g j : GraphState) (zone : ℕ) (p : Place) (cell : CellState) : Type 0 where
  pub zones_same : j.zones ≡ g.zones
  pub comps_same : j.comps ≡ g.comps
  pub registers_same : j.registers ≡ g.registers
  pub slots_same : j.slots ≡ g.slots
  pub entries_same : j.entries ≡ g.entries
  pub states_are : k.shape.states ≡ h.shape.states
  pub comps_are : k.shape.comps ≡ h.shape.comps
  pub regs_are : k.shape.regs ≡ h.shape.regs
  pub slots_are : k.shape.slots ≡ h.shape.slots
  pub weak_is : k.shape.weak ≡ h.shape.weak
  pub absent : cell_of h.shape p ≡ None
  pub cells_are : (q : Place) → cell_of k.shape q ≡ cond (is_place q p) (Some cell) (cell_of h.shape q)
  pub zone_is : zone_of k.shape p ≡ zone
  pub zones_are : (q : Place) → q.0 < length h.shape.arenas → zone_of k.shape q ≡ zone_of h.shape q
  pub at_home : slice_get h.shape.comps cell.comp.0 ≡ Some zone
  pub fresh : (q : Place) → name_at h.shape q ≡ Some cell.name → ⊥
  pub objects_kept : (n : ℕ) (o : Object) → object_of g n ≡ Some o → object_of j n ≡ Some o
  pub wrappers_kept : (d : CompNo) (t : ℕ) → IsTrue (has_wrapper g d t) → IsTrue (has_wrapper j d t)
  pub places_kept : (d : CompNo) (t : ℕ) (q : Place) → place_of h.shape.wrappers d.0 t ≡ Some q
      → place_of k.shape.wrappers d.0 t ≡ Some q
  pub objects_new : (n : ℕ) (o : Object) → object_of j n ≡ Some o → (object_of g n ≡ Some o) ⊎ (cell.name ≡ Cell n)
  pub wrappers_new : (d : CompNo) (t : ℕ) → IsTrue (has_wrapper j d t) → IsTrue (has_wrapper g d t)
      ⊎ (cell.name ≡ Wrap d t)
  pub places_new : (d : CompNo) (t : ℕ) (q : Place) → place_of k.shape.wrappers d.0 t ≡ Some q
      → (place_of h.shape.wrappers d.0 t ≡ Some q) ⊎ ((q ≡ p) × (cell.name ≡ Wrap d t))
  pub maps_at_home : (z : ℕ) (e : WrapperKey × Place) → Contains (list_of k.shape.wrappers z) e
      → slice_get h.shape.comps e.0.comp ≡ Some z
  pub fields_there : (f : ℕ) (q : Place) → field_of cell f ≡ Some q → IsPresent h.shape q
  pub stands : ((q : Place) (x : Name) → name_at h.shape q ≡ Some x → name_at k.shape q ≡ Some x)
      → StandsFor k.shape j p cell cell.name
  pub sized : length cell.fields ≡ field_count cell.kind
  pub few_fields : length cell.fields ≤ 8
  pub objects_made : length j.objects ≡ k.shape.objects
  pub few_objects : k.shape.objects ≤ k.made

-- a place that is in the fields of a cell is what one of them holds
in_field : (xs : List (Option Place)) (q : Place) → Contains xs (Some q) → (f : ℕ) × (joined (slice_get xs f) ≡ Some q)
in_field xs q (f, below, is) = (f, ap joined (slice_get-get_or xs f (Some q) below) ∙ is)

-- the arena of a present cell was made
pub arena_made : (s : Shape) (q : Place) → IsPresent s q → q.0 < length s.arenas
arena_made s q e = go (slice_get s.arenas q.0) refl e
  where
    go : (o : Option ArenaShape) → slice_get s.arenas q.0 ≡ o → IsSome (cell_in_arena o q.1) → q.0 < length s.arenas
    go None is e = absurd (cc e)
    go (Some a) is e = slice_get_within s.arenas q.0 a is

module _ (h k : HeapState) (g j : GraphState) (zone : ℕ) (p : Place) (cell : CellState) (s : Shows h g)
    (a : Adds h k g j zone p cell) where
  here : cell_of k.shape p ≡ Some cell
  here = a.cells_are p ∙ ap (λ (b : Bool). cond b (Some cell) (cell_of h.shape p)) (place-same p)

  others : (q : Place) → is_place q p ≡ false → cell_of k.shape q ≡ cell_of h.shape q
  others q e = a.cells_are q ∙ ap (λ (b : Bool). cond b (Some cell) (cell_of h.shape q)) e

  -- what was present is elsewhere
  elsewhere : (q : Place) → IsPresent h.shape q → is_place q p ≡ false
  elsewhere q e = place-cases (is_place q p ≡ false) q p
      (λ is. (let gone : cell_of h.shape q ≡ None = ap (cell_of h.shape) is ∙ a.absent in cc (e, gone)))
      (λ apart. apart)

  named : (q : Place) (x : Name) → name_at h.shape q ≡ Some x → name_at k.shape q ≡ Some x
  named q x e = ap (λ (o : Option CellState). option_map (λ (c : CellState). c.name) o)
      (others q (elsewhere q (named_present h.shape q x e))) ∙ e

  named_cases : (q : Place) (x : Name) → name_at k.shape q ≡ Some x → ((q ≡ p) × (cell.name ≡ x))
      ⊎ (name_at h.shape q ≡ Some x)
  named_cases q x e = place-cases (((q ≡ p) × (cell.name ≡ x)) ⊎ (name_at h.shape q ≡ Some x)) q p
      (λ is. inl (is, cc (sym (cell_named k.shape p cell here) ∙ ap (name_at k.shape) (sym is) ∙ e)))
      (λ apart. inr (sym (ap (λ (o : Option CellState). option_map (λ (c : CellState). c.name) o) (others q apart))
      ∙ e))

  carries : Carries h k g j
  carries = record {
    zones_same = a.zones_same;
    comps_same = a.comps_same;
    registers_same = a.registers_same;
    slots_same = a.slots_same;
    entries_same = a.entries_same;
    states_are = a.states_are;
    comps_are = a.comps_are;
    regs_are = a.regs_are;
    slots_are = a.slots_are;
    weak_is = a.weak_is;
    named = named;
  }

  field_kept : (b q : Place) (f : ℕ) → field_at k.shape b f ≡ Some q → IsPresent k.shape q
  field_kept b q f e = place-cases (IsPresent k.shape q) b p
      (λ is. kept h k g j s carries q
      (a.fields_there f q (sym (ap (λ (o : Option CellState). field_in o f) (ap (cell_of k.shape) is ∙ here)) ∙ e)))
      (λ apart. kept h k g j s carries q
      (s.fields_held b q f (ap (λ (o : Option CellState). field_in o f) (sym (others b apart)) ∙ e)))

  -- a cell that was present
  object_same : (q : Place) (d : CellState) → cell_of h.shape q ≡ Some d → object_at k.shape d ≡ object_at h.shape d
  object_same q d e = ap (λ (fs : List (Option Name)). record { comp = d.comp; is_map = is_map d.kind; fields = fs })
      (names_kept h k g j s carries d.fields
      (λ r m. (let f = in_field d.fields r m in
      s.fields_held q r f.0 (ap (λ (o : Option CellState). field_in o f.0) e ∙ f.1))))

  stands_other : (q : Place) (d : CellState) (x : Name) → cell_of h.shape q ≡ Some d → StandsFor h.shape g q d x
      → StandsFor k.shape j q d x
  stands_other q d (Cell m) e st =
      (st.0, a.objects_kept m (object_at h.shape d) st.1 ∙ ap (λ (o : Object). Some o) (sym (object_same q d e)))
  stands_other q d (Wrap c t) e st = record {
    target = st.target;
    kind_is = st.kind_is;
    comp_is = st.comp_is;
    fields_is = st.fields_is;
    target_is = named st.target (Cell t) st.target_is;
    known = a.wrappers_kept c t st.known;
    mapped = a.places_kept c t q st.mapped;
  }

  shown : (q : Place) (d : CellState) → cell_of k.shape q ≡ Some d → IsShown k.shape j q d
  shown q d e = place-cases (IsShown k.shape j q d) q p
      (λ is. (let mine : cell ≡ d = cc (sym here ∙ ap (cell_of k.shape) (sym is) ∙ e) in
      let new : IsShown k.shape j p cell = record {
        stands = a.stands named;
        sized = a.sized;
        few = a.few_fields;
        at_home = ap (λ (xs : List ℕ). slice_get xs cell.comp.0) a.comps_are ∙ a.at_home
            ∙ ap (λ (z : ℕ). Some z) (sym a.zone_is);
      } in
      subst (λ (x : Place). IsShown k.shape j x d) (sym is)
      (subst (λ (x : CellState). IsShown k.shape j p x) mine new)))
      (λ apart. (let was : cell_of h.shape q ≡ Some d = sym (others q apart) ∙ e in
      let old = s.cells q d was in
      record {
        stands = stands_other q d d.name was old.stands;
        sized = old.sized;
        few = old.few;
        at_home = ap (λ (xs : List ℕ). slice_get xs d.comp.0) a.comps_are ∙ old.at_home
            ∙ ap (λ (z : ℕ). Some z) (sym (a.zones_are q (arena_made h.shape q (cell_present h.shape q d was))));
      }))

  apart : (b q : Place) (x : Name) → name_at k.shape b ≡ Some x → name_at k.shape q ≡ Some x → b ≡ q
  apart b q x e f = elim (named_cases b x e) [
    | inl m ↦ elim (named_cases q x f) [
      | inl n ↦ m.0 ∙ sym n.0
      | inr n ↦ absurd (a.fresh q (n ∙ ap (λ (y : Name). Some y) (sym m.1)))
    ]
    | inr m ↦ elim (named_cases q x f) [
      | inl n ↦ absurd (a.fresh b (m ∙ ap (λ (y : Name). Some y) (sym n.1)))
      | inr n ↦ s.apart b q x m n
    ]
  ]

  pub shows-added : Shows k j
  shows-added = shows-carried h k g j s carries a.objects_made a.few_objects field_kept shown apart
      (λ n o e. elim (a.objects_new n o e) [
        | inl old ↦ (let known = s.objects_are n o old in (known.0, named known.0 (Cell n) known.1))
        | inr is ↦ (p, cell_named k.shape p cell here ∙ ap (λ (y : Name). Some y) is)
      ])
      (λ d t e. elim (a.wrappers_new d t e) [
        | inl old ↦ (let known = s.wrappers_are d t old in (known.0, named known.0 (Wrap d t) known.1))
        | inr is ↦ (p, cell_named k.shape p cell here ∙ ap (λ (y : Name). Some y) is)
      ])
      (λ d t q e. elim (a.places_new d t q e) [
        | inl old ↦ named q (Wrap d t) (s.mapped d t q old)
        | inr is ↦ ap (name_at k.shape) is.0 ∙ cell_named k.shape p cell here ∙ ap (λ (y : Name). Some y) is.1
      ])
      (λ z e m. ap (λ (xs : List ℕ). slice_get xs e.0.comp) a.comps_are ∙ a.maps_at_home z e m)
