-- The heap after the end of a group lies in the world after it.
use Rattle.std.proofs.Common.{◌≡◌, ◌↔◌, ◌&&◌, ◌||◌, ◌<◌, ◌≤◌, ℕ, suc, Bool, true, false, not, cond, inl, inr, refl, sym}
use Rattle.std.proofs.Common.{ap, ◌∙◌, subst, arith, Option, None, Some, is_some, is_none, List, [], ◌∷◌, length, map}
use Rattle.std.proofs.Common.{Contains, slice_get, slice_index_or}
use Rattle.std.specs.FinMap as places
use Rattle.std.specs.Int.{bit_at}
use Rattle.std.specs.Option.{option_map}
use Rattle.std.proofs.lemmas.Option.{slice_get_within}
use Rattle.gz_names.specs.Zones.{zones_in}
use Rattle.gz_names.specs.declared.names.Name.{Name}
use Rattle.gz_names.specs.declared.names.Name.TheVariants.{Cell, Wrap}
use Rattle.gz_names.specs.declared.numbers.CompNo.{CompNo}
use Rattle.gz_names.specs.declared.numbers.Place.{Place}
use Rattle.arena_table.specs.Cells.{CellState, field_of, joined}
use Rattle.arena_table.specs.Indexed.{in_zones}
use Rattle.wrappers.specs.WrapperMaps.{list_of, place_of}
use Rattle.wrappers.specs.declared.wrapper_maps.WrapperKey.{WrapperKey}
use Rattle.weak_maps.specs.WeakMaps.{alive_value, is_dead_entry, value_of}
use Rattle.colour_defs.specs.Graph.{GraphState, register_cell, slot_cell}
use Rattle.colour_defs.specs.Graph as graph
use Rattle.colour_defs.specs.World.{World, IsPresent as IsPresentName}
use Rattle.colour_defs.specs.Laws.{IsValid}
use Rattle.colour_defs.specs.Present as present
use Rattle.colour_defs.proofs.Lists.{contains_cases, contains_head, nothing_in_none}
use Rattle.colour_defs.proofs.ValidEnds.{end_valid}
use Rattle.heap_core.specs.Shape.{HasEdge, IsPresent, cell_of, field_at, field_in, held_name, name_at, zone_of}
use Rattle.heap_core.specs.Heap.{HeapState, colour_of}
use Rattle.heap_core.specs.Sweeping.{handed, is_absent}
use Rattle.heap_core.specs.Shows.{Shows, StandsFor, is_map, object_at}
use Rattle.slice_driver.specs.Collector.{CollectorState}
use Rattle.slice_driver.proofs.abstraction.Named.{edge_named, name_of, named_cell, named_present, present_named}
use Rattle.slice_driver.proofs.group_end.Ready.{groups_are, inv}
use Rattle.slice_driver.proofs.group_end.Cells.{cell_at_end, is_dead, is_white_colour, zone_at_end}
use Rattle.slice_driver.proofs.group_end.Graphs.{object_back, object_on, objects_kept, restrict, shows_restricted}
use Rattle.slice_driver.proofs.group_end.Graphs.{value_back, value_kept_too, value_on, wrapper_back, wrapper_on}
use Rattle.slice_driver.proofs.group_end.Worlds.{ended, get_ended, is_kept, lawful_end}
use Rattle.slice_driver.proofs.group_end.Worlds.{not_true}
use Rattle.slice_driver.proofs.group_end.WeakEnd.{loses_ended}
use Rattle.slice_driver.proofs.group_end.Wrappers.{AreAtHome, found_listed, has_kept, kept_has, listed_found, listed_is}
use Rattle.slice_driver.proofs.group_end.Ending.{Ending}

-- what is held somewhere is held at an index
held_index : (f : Option Place → Option Name) (os : List (Option Place)) (p : Place) (x : Name) → Contains os (Some p)
    → f (Some p) ≡ Some x → (i : ℕ) × (slice_index_or (map f os) i None ≡ Some x)
held_index f [] p x c e = absurd (nothing_in_none (Some p) c)
held_index f (o ∷ os) p x c e = elim (contains_cases o os (Some p) c) [
  | inl same ↦ (0, ap f same ∙ e)
  | inr tail ↦ (let r = held_index f os p x tail e in (suc r.0, r.1))
]

field_index : (os : List (Option Place)) (p : Place) → Contains os (Some p)
    → (i : ℕ) × (joined (slice_get os i) ≡ Some p)
field_index [] p c = absurd (nothing_in_none (Some p) c)
field_index (o ∷ os) p c = elim (contains_cases o os (Some p) c) [
  | inl same ↦ (0, same)
  | inr tail ↦ (let r = field_index os p tail in (suc r.0, r.1))
]

pub map_same : {X Y : Type 0} (f k : X → Y) (xs : List X) → ((x : X) → Contains xs x → f x ≡ k x) → map f xs ≡ map k xs
map_same f k [] same = refl
map_same f k (x ∷ xs) same = λ i. same x (contains_head x xs) i
    ∷ map_same f k xs (λ y c. same y (Rattle.colour_defs.proofs.Lists.contains_tail x xs y c)) i

-- a field that holds something is one of the cell's
field_within : (cell : CellState) (f : ℕ) (q : Place) → field_of cell f ≡ Some q → f < length cell.fields
field_within cell f q e = go (slice_get cell.fields f) refl e
  where
    go : (o : Option (Option Place)) → slice_get cell.fields f ≡ o → joined o ≡ Some q → f < length cell.fields
    go None at e = absurd (cc e)
    go (Some v) at e = slice_get_within cell.fields f v at

none_is : {X : Type 0} (o : Option X) → is_none o ≡ false → is_some o ≡ true
none_is None e = absurd (cc e)
none_is (Some x) e = refl

some_is : {X : Type 0} (o : Option X) → is_some o ≡ true → is_none o ≡ false
some_is None e = absurd (cc e)
some_is (Some x) e = refl

module _ (c : CollectorState) (w : World) (n : HeapState) (end : Ending c w n) where
  open end use {flown, collection as k, group as g, rest, ready as ending, ended as e, lists.{grays, told, grays_are}}

  abbrev pub after : World
  after = ended c.heap w k g rest

  pub valid : IsValid after
  valid = end_valid w after k (zones_in g) (map zones_in rest) grays ending.valid ending.running
      (groups_are c flown w k g rest ending)
      told (lawful_end c flown w k g rest ending grays grays_are)
      (loses_ended c w n end)

  pub sized : length c.heap.colours ≡ length c.heap.shape.arenas
  sized = (inv c flown w k g rest ending).holds.colours.sized

  pub arenas_are : n.shape.arenas ≡ handed g.bits c.heap.shape.arenas c.heap.colours
  arenas_are = ap (λ (z : HeapState). z.shape.arenas) e.rest

  pub cells : (p : Place) → cell_of n.shape p ≡ cond (is_dead c.heap g p) None (cell_of c.heap.shape p)
  cells p = cell_at_end c.heap n g arenas_are sized ending.ready.kept p

  pub zones : (p : Place) → zone_of n.shape p ≡ zone_of c.heap.shape p
  zones p = zone_at_end c.heap n g arenas_are sized ending.ready.kept p

  pub cell_on : (p : Place) → is_dead c.heap g p ≡ false → cell_of n.shape p ≡ cell_of c.heap.shape p
  cell_on p alive = cells p ∙ ap (λ b. cond b None (cell_of c.heap.shape p)) alive

  pub cell_back : (p : Place) (cell : CellState) → cell_of n.shape p ≡ Some cell → (cell_of c.heap.shape p ≡ Some cell)
      × (is_dead c.heap g p ≡ false)
  cell_back p cell there = go (is_dead c.heap g p) refl (sym (cells p) ∙ there)
    where
      go : (t : Bool) → is_dead c.heap g p ≡ t → cond t None (cell_of c.heap.shape p) ≡ Some cell
          → (cell_of c.heap.shape p ≡ Some cell) × (is_dead c.heap g p ≡ false)
      go true t e = absurd (cc e)
      go false t e = (e, t)

  pub present_back : (p : Place) → IsPresent n.shape p → IsPresent c.heap.shape p × (is_dead c.heap g p ≡ false)
  present_back p there = go (cell_of n.shape p) refl there
    where
      go : (o : Option CellState) → cell_of n.shape p ≡ o → is_some o ≡ true → IsPresent c.heap.shape p
          × (is_dead c.heap g p ≡ false)
      go None at e = absurd (cc e)
      go (Some cell) at e = (let r = cell_back p cell at in (ap is_some r.0, r.1))

  pub present_on : (p : Place) → IsPresent c.heap.shape p → is_dead c.heap g p ≡ false → IsPresent n.shape p
  present_on p there alive = ap is_some (cell_on p alive) ∙ there

  pub name_on : (p : Place) → is_dead c.heap g p ≡ false → name_at n.shape p ≡ name_at c.heap.shape p
  name_on p alive = ap (option_map (λ (z : CellState). z.name)) (cell_on p alive)

  pub name_back : (p : Place) (x : Name) → name_at n.shape p ≡ Some x → (name_at c.heap.shape p ≡ Some x)
      × (is_dead c.heap g p ≡ false)
  name_back p x named = let alive = (present_back p (named_present n.shape p x named)).1 in
      (sym (name_on p alive) ∙ named, alive)

  -- names that stay lie at places that are not dead
  abbrev keep : Name → Bool
  keep = is_kept c.heap g w

  alive_kept : (p : Place) (x : Name) → name_at c.heap.shape p ≡ Some x → is_dead c.heap g p ≡ false → keep x ≡ true
  alive_kept p x named alive = ap (λ o. Rattle.slice_driver.proofs.group_end.Worlds.kept_place c.heap g o)
      ((ending.represents.placed.lies.places_are x p).1 named) ∙ ap not alive

  kept_alive : (p : Place) (x : Name) → name_at c.heap.shape p ≡ Some x → keep x ≡ true → is_dead c.heap g p ≡ false
  kept_alive p x named kept =
      not_true _ (sym (ap (λ o. Rattle.slice_driver.proofs.group_end.Worlds.kept_place c.heap g o)
      ((ending.represents.placed.lies.places_are x p).1 named)) ∙ kept)

  stays : (x : Name) → IsPresentName after x ↔ (IsPresentName w x × (keep x ≡ true))
  stays x = (
    λ there. go (keep x) (places.get w.places x) refl refl (sym (ap is_some (get_ended c.heap g w x)) ∙ there),
    λ there. ap is_some (get_ended c.heap g w x ∙ ap (λ b. cond b (places.get w.places x) None) there.1) ∙ there.0,
  )
    where
      go : (t : Bool) (o : Option Place) → keep x ≡ t → places.get w.places x ≡ o
          → is_some (cond t (places.get w.places x) None) ≡ true → IsPresentName w x × (keep x ≡ true)
      go true o t f there = (there, t)
      go false o t f there = absurd (cc there)

  pub present_alive : (p : Place) (x : Name) → name_at c.heap.shape p ≡ Some x → IsPresentName after x
      → is_dead c.heap g p ≡ false
  present_alive p x named there = kept_alive p x named ((stays x).0 there).1

  abbrev pub graph_after : GraphState
  graph_after = restrict ending.represents.placed.lies.graph keep

  shown : Shows c.heap ending.represents.placed.lies.graph
  shown = ending.represents.placed.lies.shown

  pub part : present.Shows after graph_after
  part = shows_restricted ending.represents.placed.lies.graph keep w after ending.represents.placed.lies.part refl stays
      ending.valid.presence valid.presence

  reg_alive : (p : Place) → Contains c.heap.shape.regs (Some p) → is_dead c.heap g p ≡ false
  reg_alive p held =
      let x = name_of c.heap.shape p (shown.registers_held p held) in
      let r = held_index (held_name c.heap.shape) c.heap.shape.regs p x.0 held x.1 in
      let cell : register_cell w.graph r.0 ≡ Some x.0 =
      ap (λ rs. slice_index_or rs r.0 None) (sym ending.represents.placed.lies.part.part.registers
      ∙ shown.registers_are)
      ∙ r.1 in
      present_alive p x.0 x.1 (valid.presence.registers r.0 x.0 cell)

  slot_alive : (p : Place) → Contains c.heap.shape.slots (Some p) → is_dead c.heap g p ≡ false
  slot_alive p held =
      let x = name_of c.heap.shape p (shown.slots_held p held) in
      let r = held_index (held_name c.heap.shape) c.heap.shape.slots p x.0 held x.1 in
      let cell : slot_cell w.graph r.0 ≡ Some x.0 =
      ap (λ rs. slice_index_or rs r.0 None) (sym ending.represents.placed.lies.part.part.slots ∙ shown.slots_are)
      ∙ r.1 in
      present_alive p x.0 x.1 (valid.presence.slots r.0 x.0 cell)

  -- a cell that stays names only cells that stay
  pub edge_alive : (p q : Place) → HasEdge c.heap.shape p q → is_dead c.heap g p ≡ false → is_dead c.heap g q ≡ false
  edge_alive p q edge alive =
      let x = name_of c.heap.shape p (Rattle.slice_driver.proofs.group_end.Places.edge_from c.heap.shape p q edge) in
      let y = name_of c.heap.shape q (shown.fields_held p q edge.0 edge.2) in
      present_alive q y.0 y.1
      (valid.presence.edges x.0 y.0
      ((stays x.0).1 (present_named c.heap w ending.represents.placed.lies p x.0 x.1, alive_kept p x.0 x.1 alive))
      (edge_named c.heap w ending.represents.placed.lies p q x.0 y.0 x.1 y.1 edge))

  field_alive : (p q : Place) (cell : CellState) (f : ℕ) → cell_of c.heap.shape p ≡ Some cell → field_of cell f ≡ Some q
      → is_dead c.heap g p ≡ false → is_dead c.heap g q ≡ false
  field_alive p q cell f there held alive =
      edge_alive p q (
        f,
        (let few = (shown.cells p cell there).few in let within = field_within cell f q held in
            omega arith),
        ap (λ o. field_in o f) there ∙ held,
      ) alive

  held_on : (o : Option Place) → ((p : Place) → o ≡ Some p → is_dead c.heap g p ≡ false)
      → held_name n.shape o ≡ held_name c.heap.shape o
  held_on None alive = refl
  held_on (Some p) alive = name_on p (alive p refl)

  object_same : (p : Place) (cell : CellState) → cell_of c.heap.shape p ≡ Some cell → is_dead c.heap g p ≡ false
      → object_at c.heap.shape cell ≡ object_at n.shape cell
  object_same p cell there alive =
      let names : map (held_name c.heap.shape) cell.fields ≡ map (held_name n.shape) cell.fields =
      map_same _ _ cell.fields
      (λ o held. sym (held_on o
      (λ q is. let i = field_index cell.fields q (subst (λ z. Contains cell.fields z) is held) in
      field_alive p q cell i.0 there i.1 alive))) in
      ap (λ fs. record { comp = cell.comp; is_map = is_map cell.kind; fields = fs }) names

  home : AreAtHome c.heap.shape.comps c.heap.shape.wrappers
  home = shown.maps_at_home

  comps_same : n.shape.comps ≡ c.heap.shape.comps
  comps_same = ap (λ (z : HeapState). z.shape.comps) e.rest

  in_old : (z : ℕ) (d : WrapperKey × Place) → Contains (list_of n.shape.wrappers z) d
      → Contains (list_of c.heap.shape.wrappers z) d × (in_zones g.bits z ≡ true → is_absent n.shape d.1 ≡ false)
  in_old z d there = kept_has (bit_at g.bits z) (is_absent n.shape) (list_of c.heap.shape.wrappers z) d
      (subst (λ es. Contains es d) (e.wrappers z) there)

  in_new : (z : ℕ) (d : WrapperKey × Place) → Contains (list_of c.heap.shape.wrappers z) d
      → is_absent n.shape d.1 ≡ false → Contains (list_of n.shape.wrappers z) d
  in_new z d there alive =
      subst (λ es. Contains es d) (sym (e.wrappers z))
      (has_kept (bit_at g.bits z) (is_absent n.shape) (list_of c.heap.shape.wrappers z) d there alive)

  home_after : AreAtHome c.heap.shape.comps n.shape.wrappers
  home_after z d there = home z d (in_old z d there).0

  -- a wrapper that is found lies under its name
  mapped_after : (comp : CompNo) (t : ℕ) (p : Place) → place_of n.shape.wrappers comp.0 t ≡ Some p
      → name_at n.shape p ≡ Some (Wrap comp t)
  mapped_after comp t p found =
      let r = found_listed c.heap.shape.comps n.shape.wrappers home_after comp t p found in
      let old = in_old r.0 (record { comp = comp.0; target = t }, p) r.2 in
      let named : name_at c.heap.shape p ≡ Some (Wrap comp t) =
      shown.mapped comp t p (listed_is c.heap.shape.comps c.heap.shape.wrappers home e.apart comp t r.0 p old.0) in
      name_on p (go r.0 (in_zones g.bits r.0) refl r.1 named old.1) ∙ named
    where
      zone_same : (z : ℕ) → slice_get c.heap.shape.comps comp.0 ≡ Some z → name_at c.heap.shape p ≡ Some (Wrap comp t)
          → zone_of c.heap.shape p ≡ z
      zone_same z at named =
          let d = named_cell c.heap.shape p (Wrap comp t) named in
          let is = shown.cells p d.0 d.1 in
          let stands : StandsFor c.heap.shape ending.represents.placed.lies.graph p d.0 (Wrap comp t) =
          subst (λ y. StandsFor c.heap.shape ending.represents.placed.lies.graph p d.0 y) d.2 is.stands in
          let same : Some (zone_of c.heap.shape p) ≡ Some z = sym is.at_home
          ∙ ap (λ (m : CompNo). slice_get c.heap.shape.comps m.0) stands.comp_is ∙ at in
          cc same

      go : (z : ℕ) (t' : Bool) → in_zones g.bits z ≡ t' → slice_get c.heap.shape.comps comp.0 ≡ Some z
          → name_at c.heap.shape p ≡ Some (Wrap comp t) → (in_zones g.bits z ≡ true → is_absent n.shape p ≡ false)
          → is_dead c.heap g p ≡ false
      go z true is at named old = (present_back p (none_is (cell_of n.shape p) (old is))).1
      go z false is at named old =
          ap (λ b. b && is_white_colour (colour_of c.heap p)) (ap (in_zones g.bits) (zone_same z at named) ∙ is)

  -- for a wrapper that stays something is found, and that is it
  found_some : (comp : CompNo) (t : ℕ) (p : Place) → name_at n.shape p ≡ Some (Wrap comp t)
      → (q : Place) × (place_of n.shape.wrappers comp.0 t ≡ Some q)
  found_some comp t p named =
      let old = name_back p (Wrap comp t) named in
      let cell = named_cell c.heap.shape p (Wrap comp t) old.0 in
      let is = shown.cells p cell.0 cell.1 in
      let stands : StandsFor c.heap.shape ending.represents.placed.lies.graph p cell.0 (Wrap comp t) =
      subst (λ y. StandsFor c.heap.shape ending.represents.placed.lies.graph p cell.0 y) cell.2 is.stands in
      let r = found_listed c.heap.shape.comps c.heap.shape.wrappers home comp t p stands.mapped in
      let there = in_new r.0 (record { comp = comp.0; target = t }, p) r.2
      (some_is (cell_of n.shape p) (named_present n.shape p (Wrap comp t) named)) in
      let f = listed_found c.heap.shape.comps n.shape.wrappers home_after comp t r.0 p there in
      (f.0, f.1)

  found_after : (comp : CompNo) (t : ℕ) (p : Place) → name_at n.shape p ≡ Some (Wrap comp t)
      → place_of n.shape.wrappers comp.0 t ≡ Some p
  found_after comp t p named = go (found_some comp t p named)
    where
      go : (q : Place) × (place_of n.shape.wrappers comp.0 t ≡ Some q) → place_of n.shape.wrappers comp.0 t ≡ Some p
      go (q, found) = found
          ∙ ap (λ x. Some x) (shown.apart q p (Wrap comp t) (name_back q (Wrap comp t) (mapped_after comp t q found)).0
          (name_back p (Wrap comp t) named).0)

  stands_after : (p : Place) (cell : CellState) (x : Name) → cell_of n.shape p ≡ Some cell → name_at n.shape p ≡ Some x
      → StandsFor c.heap.shape ending.represents.placed.lies.graph p cell x → StandsFor n.shape graph_after p cell x
  stands_after p cell (Cell m) there named stands =
      (let old = cell_back p cell there in (
        stands.0,
        object_on ending.represents.placed.lies.graph keep m (object_at n.shape cell)
            (alive_kept p (Cell m) (name_back p (Cell m) named).0 old.1)
            (stands.1 ∙ ap (λ z. Some z) (object_same p cell old.0 old.1)),
      ))
  stands_after p cell (Wrap comp t) there named stands = (let old = cell_back p cell there in record {
    target = stands.target;
    kind_is = stands.kind_is;
    comp_is = stands.comp_is;
    fields_is = stands.fields_is;
    target_is = name_on stands.target
        (field_alive p stands.target cell 0 old.0 (ap (λ fs. joined (slice_get fs 0)) stands.fields_is) old.1)
        ∙ stands.target_is;
    known = wrapper_on ending.represents.placed.lies.graph keep comp t
        (alive_kept p (Wrap comp t) (name_back p (Wrap comp t) named).0 old.1)
        stands.known;
    mapped = found_after comp t p named;
  })

  -- an entry that is left names cells that stay
  entry_back : (m q v : Place) → value_of n.shape.weak m q ≡ Some v → (value_of c.heap.shape.weak m q ≡ Some v)
      × (is_absent n.shape m ≡ false) × (is_absent n.shape q ≡ false) × (is_absent n.shape v ≡ false)
  entry_back m q v f = go (value_of c.heap.shape.weak m q) refl (sym (e.entries.found m q) ∙ f)
    where
      three : (a b d : Bool) → ((a || b) || d) ≡ false → (a ≡ false) × (b ≡ false) × (d ≡ false)
      three true b d f = absurd (cc f)
      three false true d f = absurd (cc f)
      three false false d f = (refl, refl, f)

      by : (u : Place) (t : Bool) → is_dead_entry (is_absent n.shape) (record { map = m; key = q; value = u }) ≡ t
          → value_of c.heap.shape.weak m q ≡ Some u → cond t None (Some u) ≡ Some v
          → (value_of c.heap.shape.weak m q ≡ Some v) × (is_absent n.shape m ≡ false) × (is_absent n.shape q ≡ false)
          × (is_absent n.shape v ≡ false)
      by u true t at f = absurd (cc f)
      by u false t at f =
          let same : u ≡ v = cc f in
          let parts = three (is_absent n.shape m) (is_absent n.shape q) (is_absent n.shape u) t in
          (at ∙ f, parts.0, parts.1, subst (λ z. is_absent n.shape z ≡ false) same parts.2)

      go : (o : Option Place) → value_of c.heap.shape.weak m q ≡ o → alive_value (is_absent n.shape) m q o ≡ Some v
          → (value_of c.heap.shape.weak m q ≡ Some v) × (is_absent n.shape m ≡ false) × (is_absent n.shape q ≡ false)
          × (is_absent n.shape v ≡ false)
      go None at f = absurd (cc f)
      go (Some u) at f = by u (is_dead_entry (is_absent n.shape) (record { map = m; key = q; value = u })) refl at f

  pub entry_on : (m q v : Place) → value_of c.heap.shape.weak m q ≡ Some v → IsPresent n.shape m → IsPresent n.shape q
      → IsPresent n.shape v → value_of n.shape.weak m q ≡ Some v
  entry_on m q v f pm pq pv = e.entries.found m q ∙ ap (alive_value (is_absent n.shape) m q) f
      ∙ ap (λ b. cond b None (Some v))
      (none3 (is_absent n.shape m) (is_absent n.shape q) (is_absent n.shape v) (some_is _ pm) (some_is _ pq)
      (some_is _ pv))
    where
      none3 : (a b d : Bool) → a ≡ false → b ≡ false → d ≡ false → ((a || b) || d) ≡ false
      none3 true b d f g h = absurd (cc f)
      none3 false true d f g h = absurd (cc g)
      none3 false false d f g h = h

  pub entry_was : (m q v : Place) → value_of n.shape.weak m q ≡ Some v → value_of c.heap.shape.weak m q ≡ Some v
  entry_was m q v f = (entry_back m q v f).0

  pub entry_present : (m q v : Place) → value_of n.shape.weak m q ≡ Some v → IsPresent n.shape m × IsPresent n.shape q
      × IsPresent n.shape v
  entry_present m q v f = let r = entry_back m q v f in (none_is _ r.1, none_is _ r.2, none_is _ r.3)

  entries_known_after : (x y z : Name) → graph.value_of graph_after x y ≡ Some z → (m : Place) × (q : Place)
      × (v : Place) × (value_of n.shape.weak m q ≡ Some v) × (name_at n.shape m ≡ Some x) × (name_at n.shape q ≡ Some y)
      × (name_at n.shape v ≡ Some z)
  entries_known_after x y z f =
      let r = value_back ending.represents.placed.lies.graph keep x y z f in
      let o = shown.entries_known x y z r.2 in
      let am = kept_alive o.0 x o.4 r.0 in
      let aq = kept_alive o.1 y o.5 r.1 in
      let av = kept_alive o.2 z o.6
      (value_kept_too ending.represents.placed.lies.graph keep w after ending.represents.placed.lies.part refl stays
      ending.valid.presence valid.presence x y z r.0 r.1 r.2) in
      let nm = name_on o.0 am ∙ o.4 in
      let nq = name_on o.1 aq ∙ o.5 in
      let nv = name_on o.2 av ∙ o.6 in (
        o.0,
        o.1,
        o.2,
        entry_on o.0 o.1 o.2 o.3 (named_present n.shape o.0 x nm) (named_present n.shape o.1 y nq)
            (named_present n.shape o.2 z nv),
        nm,
        nq,
        nv,
      )

  pub shows_after : Shows n graph_after
  shows_after = record {
    zones_are = shown.zones_are ∙ sym e.sized;
    comps_are = shown.comps_are ∙ sym comps_same;
    objects_made = objects_kept ending.represents.placed.lies.graph keep ∙ shown.objects_made
        ∙ sym (ap (λ (z : HeapState). z.shape.objects) e.rest);
    registers_are = shown.registers_are
        ∙ map_same _ _ c.heap.shape.regs
        (λ o held. sym (held_on o (λ p is. reg_alive p (subst (λ z. Contains c.heap.shape.regs z) is held))))
        ∙ ap (λ (rs : List (Option Place)). map (held_name n.shape) rs)
        (sym (ap (λ (z : HeapState). z.shape.regs) e.rest));
    slots_are = shown.slots_are
        ∙ map_same _ _ c.heap.shape.slots
        (λ o held. sym (held_on o (λ p is. slot_alive p (subst (λ z. Contains c.heap.shape.slots z) is held))))
        ∙ ap (λ (rs : List (Option Place)). map (held_name n.shape) rs)
        (sym (ap (λ (z : HeapState). z.shape.slots) e.rest));
    registers_held = λ p held.
        (let old = subst (λ (rs : List (Option Place)). Contains rs (Some p))
        (ap (λ (z : HeapState). z.shape.regs) e.rest) held in
        present_on p (shown.registers_held p old) (reg_alive p old));
    slots_held = λ p held.
        (let old = subst (λ (rs : List (Option Place)). Contains rs (Some p))
        (ap (λ (z : HeapState). z.shape.slots) e.rest) held in
        present_on p (shown.slots_held p old) (slot_alive p old));
    fields_held = fields_held;
    cells = λ p cell there. (let old = cell_back p cell there in let is = shown.cells p cell old.0 in record {
      stands = stands_after p cell cell.name there (ap (option_map (λ (z : CellState). z.name)) there) is.stands;
      sized = is.sized;
      few = is.few;
      at_home = ap (λ (cs : List ℕ). slice_get cs cell.comp.0) comps_same ∙ is.at_home
          ∙ ap (λ z. Some z) (sym (zones p));
    });
    apart = λ p q x a b. shown.apart p q x (name_back p x a).0 (name_back q x b).0;
    objects_are = λ m o f. (let r = object_back ending.represents.placed.lies.graph keep m o f in
        let p = shown.objects_are m o r.1 in
        (p.0, name_on p.0 (kept_alive p.0 (Cell m) p.1 r.0) ∙ p.1));
    wrappers_are = λ comp t f.
        (let r = wrapper_back ending.represents.placed.lies.graph keep comp t f in
        let p = shown.wrappers_are comp t r.1 in
        (p.0, name_on p.0 (kept_alive p.0 (Wrap comp t) p.1 r.0) ∙ p.1));
    mapped = mapped_after;
    maps_at_home = λ z d there. ap (λ (cs : List ℕ). slice_get cs d.0.comp) comps_same ∙ home_after z d there;
    entries_held = entry_present;
    entries_are = λ m q v x y z f a b d.
        (let om = name_back m x a in let oq = name_back q y b in let ov = name_back v z d in
        value_on ending.represents.placed.lies.graph keep x y (alive_kept m x om.0 om.1) (alive_kept q y oq.0 oq.1)
        ∙ shown.entries_are m q v x y z (entry_was m q v f) om.0 oq.0 ov.0);
    entries_known = entries_known_after;
    few_objects = subst (λ (z : HeapState). z.shape.objects ≤ z.made) (sym e.rest) shown.few_objects;
  }
    where
      fields_held : (p q : Place) (f : ℕ) → field_at n.shape p f ≡ Some q → IsPresent n.shape q
      fields_held p q f held = go (cell_of n.shape p) refl held
        where
          go : (o : Option CellState) → cell_of n.shape p ≡ o → field_in o f ≡ Some q → IsPresent n.shape q
          go None at h = absurd (cc h)
          go (Some cell) at h =
              (let old = cell_back p cell at in
              present_on q (shown.fields_held p q f (ap (λ o. field_in o f) old.0 ∙ h))
              (field_alive p q cell f old.0 h old.1))
