-- What a heap shows after a field was written.
use Rattle.std.proofs.Common.{◌≡◌, ◌≢◌, ◌⊎◌, ℕ, Bool, true, false, cond, inl, inr, List, Option, Some, None, Ok, map}
use Rattle.std.proofs.Common.{length, slice_get, slice_set, refl, sym, ap, subst, ◌∙◌, arith, Contains}
use Rattle.std.specs.Option.{ForSome, option_map, option_flatten}
use Rattle.std.proofs.lemmas.List.{map-set}
use Rattle.gz_names.specs.declared.names.Name.{Name}
use Rattle.gz_names.specs.declared.names.Name.TheVariants.{Cell, Wrap}
use Rattle.gz_names.specs.declared.numbers.CompNo.{CompNo}
use Rattle.gz_names.specs.declared.numbers.Place.{Place}
use Rattle.gz_names.specs.declared.commands.GraphCmd.TheVariants as cmd
use Rattle.gz_names.specs.declared.replies.Reply.{Reply}
use Rattle.gz_names.specs.declared.replies.Reply.TheVariants as reply
use Rattle.arena_table.specs.Cells.{CellState, joined, with_value}
use Rattle.arena_table.specs.Table.{is_place}
use Rattle.wrappers.specs.WrapperMaps.{WrappersState, list_of, place_of}
use Rattle.colour_defs.specs.declared.graph.Object.{Object}
use Rattle.colour_defs.specs.Graph.{GraphState, object_of}
use Rattle.colour_defs.specs.Step as step
use Rattle.colour_defs.specs.Step.{step_of}
use Rattle.colour_defs.proofs.Lists.{get_set_cases, get_set_here, length_set}
use Rattle.heap_core.specs.Shape.{IsPresent, cell_of, field_at, field_in, held_name, name_at, zone_of}
use Rattle.heap_core.specs.Heap.{HeapState}
use Rattle.heap_core.specs.Changes.{Writes}
use Rattle.heap_core.specs.Shows.{Shows, IsShown, StandsFor, IsWrapperOf, is_wrapper, is_map, object_at}
use Rattle.heap_core.specs.Answers.{DoesStep}
use Rattle.heap_core.specs.Lookups.{IsWritable, field_refusal, fits_in, value_to_set}
use Rattle.heap_core.proofs.Places.{place-same, place-cases, cell_named}
use Rattle.heap_core.proofs.Shown.{of_map, object_there}
use Rattle.heap_core.proofs.Stepping.{does-accepted}
use Rattle.heap_core.proofs.Carried.{Carries, shows-carried, kept}
use Rattle.heap_core.proofs.Fetched.{field_there}
use Rattle.heap_core.proofs.Written.{set_there, value_present}

-- a list of what may be null is read after a write
joined_cases : (xs : List (Option Place)) (f e : ℕ) (v : Option Place) (q : Place)
    → joined (slice_get (slice_set xs f v) e) ≡ Some q → (joined (slice_get xs e) ≡ Some q) ⊎ (v ≡ Some q)
joined_cases xs f e v q is = elim (get_set_cases xs f e v) [
  | inl same ↦ inl (ap joined (sym same) ∙ is)
  | inr here ↦ inr (ap joined (sym here.1) ∙ is)
]

-- an object that is there, as the list of objects has it
listed : (o : Option (Option Object)) (x : Object) → option_flatten o ≡ Some x → (z : Option Object) × (o ≡ Some z)
listed None x e = absurd (cc e)
listed (Some z) x e = (z, refl)

module _ (h k : HeapState) (g : GraphState) (p : Place) (cell : CellState) (n f : ℕ) (v : Option Place) (s : Shows h g)
    (there : cell_of h.shape p ≡ Some cell) (name : cell.name ≡ Cell n) (plain : is_wrapper cell.kind ≡ false)
    (object : object_of g n ≡ Some (object_at h.shape cell)) (value : ForSome v (IsPresent h.shape))
    (w : Writes h p f v k) where
  abbrev graph : GraphState
  graph = step.with_field g n (object_at h.shape cell) f (held_name h.shape v)

  abbrev new_cell : CellState
  new_cell = with_value f v cell

  here : cell_of k.shape p ≡ Some new_cell
  here = w.cells p ∙ ap (λ (b : Bool). cond b (option_map (with_value f v) (cell_of h.shape p)) (cell_of h.shape p))
      (place-same p) ∙ ap (option_map (with_value f v)) there

  others : (q : Place) → is_place q p ≡ false → cell_of k.shape q ≡ cell_of h.shape q
  others q e = w.cells q
      ∙ ap (λ (b : Bool). cond b (option_map (with_value f v) (cell_of h.shape q)) (cell_of h.shape q)) e

  names : (q : Place) → name_at k.shape q ≡ name_at h.shape q
  names q = place-cases (name_at k.shape q ≡ name_at h.shape q) q p
      (λ e. (let mine : name_at k.shape p ≡ name_at h.shape p = cell_named k.shape p new_cell here
      ∙ sym (cell_named h.shape p cell there) in
      subst (λ (x : Place). name_at k.shape x ≡ name_at h.shape x) (sym e) mine))
      (λ e. ap (λ (o : Option CellState). option_map (λ (c : CellState). c.name) o) (others q e))

  comps : k.shape.comps ≡ h.shape.comps
  comps = ap (λ (x : HeapState). x.shape.comps) w.rest

  wrappers : k.shape.wrappers ≡ h.shape.wrappers
  wrappers = ap (λ (x : HeapState). x.shape.wrappers) w.rest

  objects : k.shape.objects ≡ h.shape.objects
  objects = ap (λ (x : HeapState). x.shape.objects) w.rest

  carries : Carries h k g graph
  carries = record {
    zones_same = refl;
    comps_same = refl;
    registers_same = refl;
    slots_same = refl;
    entries_same = refl;
    states_are = ap (λ (x : HeapState). x.shape.states) w.rest;
    comps_are = comps;
    regs_are = ap (λ (x : HeapState). x.shape.regs) w.rest;
    slots_are = ap (λ (x : HeapState). x.shape.slots) w.rest;
    weak_is = ap (λ (x : HeapState). x.shape.weak) w.rest;
    named = λ q x e. names q ∙ e;
  }

  field_kept : (a b : Place) (e : ℕ) → field_at k.shape a e ≡ Some b → IsPresent k.shape b
  field_kept a b e is = place-cases (IsPresent k.shape b) a p
      (λ same. (let at : joined (slice_get (slice_set cell.fields f v) e) ≡ Some b =
      sym (ap (λ (o : Option CellState). field_in o e) (ap (cell_of k.shape) same ∙ here)) ∙ is in
      elim (joined_cases cell.fields f e v b at) [
        | inl old ↦ kept h k g graph s carries b
            (s.fields_held p b e (ap (λ (o : Option CellState). field_in o e) there ∙ old))
        | inr new ↦ kept h k g graph s carries b (value b new)
      ]))
      (λ apart. kept h k g graph s carries b
      (s.fields_held a b e (ap (λ (o : Option CellState). field_in o e) (sym (others a apart)) ∙ is)))

  names_one : (x : Option Place) → held_name k.shape x ≡ held_name h.shape x
  names_one None = refl
  names_one (Some q) = names q

  names_all : (xs : List (Option Place)) → map (held_name k.shape) xs ≡ map (held_name h.shape) xs
  names_all xs = ap (λ (φ : Option Place → Option Name). map φ xs) (λ i x. names_one x i)

  -- the object of the number, and the others
  object_here : object_of graph n ≡ Some (object_at k.shape new_cell)
  object_here =
      let z = listed (slice_get g.objects n) (object_at h.shape cell) object in
      let fields : map (held_name k.shape) (slice_set cell.fields f v) ≡ slice_set (map (held_name h.shape) cell.fields)
      f (held_name h.shape v) = names_all (slice_set cell.fields f v)
      ∙ map-set (held_name h.shape) cell.fields f v in
      ap option_flatten (get_set_here g.objects n
      (step.with_field_in (Some (object_at h.shape cell)) f (held_name h.shape v)) z.0 z.1)
      ∙ ap (λ (fs : List (Option Name)). Some (record { comp = cell.comp; is_map = is_map cell.kind; fields = fs }))
      (sym fields)

  object_other : (m : ℕ) (o : Object) → m ≢ n → object_of g m ≡ Some o → object_of graph m ≡ Some o
  object_other m o ne e =
      elim (get_set_cases g.objects n m (step.with_field_in (Some (object_at h.shape cell)) f (held_name h.shape v))) [
        | inl same ↦ ap option_flatten same ∙ e
        | inr is ↦ absurd (ne (sym is.0))
      ]

  -- a cell that kept its fields
  wrapper_other : (q : Place) (d : CellState) (c : CompNo) (t : ℕ) → IsWrapperOf h.shape g q d c t
      → IsWrapperOf k.shape graph q d c t
  wrapper_other q d c t m = record {
    target = m.target;
    kind_is = m.kind_is;
    comp_is = m.comp_is;
    fields_is = m.fields_is;
    target_is = names m.target ∙ m.target_is;
    known = m.known;
    mapped = ap (λ (x : WrappersState). place_of x c.0 t) wrappers ∙ m.mapped;
  }

  object_same : (d : CellState) → object_at k.shape d ≡ object_at h.shape d
  object_same d = ap (λ (fs : List (Option Name)). record { comp = d.comp; is_map = is_map d.kind; fields = fs })
      (names_all d.fields)

  stands_other : (q : Place) (d : CellState) (x : Name) → q ≢ p → cell_of h.shape q ≡ Some d → d.name ≡ x
      → StandsFor h.shape g q d x → StandsFor k.shape graph q d x
  stands_other q d (Cell m) ne at is st =
      let apart : m ≢ n = λ e.
      ne (s.apart q p (Cell n)
      (cell_named h.shape q d at ∙ ap (λ (x : Name). Some x) (is ∙ ap (λ (i : ℕ). Cell i) e))
      (cell_named h.shape p cell there ∙ ap (λ (x : Name). Some x) name)) in
      (st.0, object_other m (object_at h.shape d) apart st.1 ∙ ap (λ (o : Object). Some o) (sym (object_same d)))
  stands_other q d (Wrap c t) ne at is st = wrapper_other q d c t st

  home_kept : (q : Place) (d : CellState) → slice_get h.shape.comps d.comp.0 ≡ Some (zone_of h.shape q)
      → slice_get k.shape.comps d.comp.0 ≡ Some (zone_of k.shape q)
  home_kept q d e = ap (λ (xs : List ℕ). slice_get xs d.comp.0) comps ∙ e ∙ ap (λ (z : ℕ). Some z) (sym (w.zones q))

  shown_here : IsShown k.shape graph p new_cell
  shown_here =
      let old = s.cells p cell there in
      let long : length (slice_set cell.fields f v) ≡ length cell.fields = length_set cell.fields f v in
      record {
        stands = subst (λ (x : Name). StandsFor k.shape graph p new_cell x) (sym name) (plain, object_here);
        sized = long ∙ old.sized;
        few = (let few = old.few in omega arith);
        at_home = home_kept p cell old.at_home;
      }

  shown : (q : Place) (d : CellState) → cell_of k.shape q ≡ Some d → IsShown k.shape graph q d
  shown q d e = place-cases (IsShown k.shape graph q d) q p
      (λ same. (let mine : new_cell ≡ d = cc (sym here ∙ ap (cell_of k.shape) (sym same) ∙ e) in
      subst (λ (x : Place). IsShown k.shape graph x d) (sym same)
      (subst (λ (x : CellState). IsShown k.shape graph p x) mine shown_here)))
      (λ apart. (let was : cell_of h.shape q ≡ Some d = sym (others q apart) ∙ e in
      let old = s.cells q d was in
      let ne : q ≢ p = λ is. cc (sym apart ∙ ap (λ (x : Place). is_place x p) is ∙ place-same p) in
      record {
        stands = stands_other q d d.name ne was refl old.stands;
        sized = old.sized;
        few = old.few;
        at_home = home_kept q d old.at_home;
      }))

  number_known : (m : ℕ) (o : Object) → object_of graph m ≡ Some o → (q : Place) × (name_at k.shape q ≡ Some (Cell m))
  number_known m o e =
      elim (get_set_cases g.objects n m (step.with_field_in (Some (object_at h.shape cell)) f (held_name h.shape v))) [
        | inl same ↦ (let old = s.objects_are m o (ap option_flatten (sym same) ∙ e) in (old.0, names old.0 ∙ old.1))
        | inr is ↦ (
          p,
          names p ∙ cell_named h.shape p cell there
              ∙ ap (λ (x : Name). Some x) (name ∙ ap (λ (i : ℕ). Cell i) is.0),
        )
      ]

  pub shows-written : Shows k graph
  shows-written = shows-carried h k g graph s carries
      (length_set g.objects n (step.with_field_in (Some (object_at h.shape cell)) f (held_name h.shape v))
      ∙ s.objects_made ∙ sym objects)
      (let few = s.few_objects in let made : k.made ≡ h.made = ap (λ (x : HeapState). x.made) w.rest in let same =
      objects in omega arith)
      field_kept
      shown
      (λ a b x i j. s.apart a b x (sym (names a) ∙ i) (sym (names b) ∙ j))
      number_known
      (λ d t e. (let old = s.wrappers_are d t e in (old.0, names old.0 ∙ old.1)))
      (λ d t q e. names q ∙ s.mapped d t q (ap (λ (x : WrappersState). place_of x d.0 t) (sym wrappers) ∙ e))
      (λ z e m. ap (λ (xs : List ℕ). slice_get xs e.0.comp) comps
      ∙ s.maps_at_home z e (subst (λ (x : WrappersState). Contains (list_of x z) e) wrappers m))

-- `set` at an object with the field, whose compartment the value is of
pub does-set : (h k : HeapState) (s f : ℕ) (t : Option ℕ) (p : Place) → IsWritable h s f t p
    → Writes h p f (value_to_set h t) k → DoesStep h (cmd.Set s f t) (Ok reply.Accepted) k
does-set h k s f t p may w = does-accepted h (cmd.Set s f t) reply.Accepted k (λ g shows. (
    let c = of_map (λ (cell : CellState). field_refusal cell.kind f) (cell_of h.shape p) None may.field in
    let d = of_map (λ (cell : CellState). fits_in h.shape cell.comp (value_to_set h t)) (cell_of h.shape p) true
    may.fits in
    let n = field_there c.0.kind f c.2 in
    let same : d.0 ≡ c.0 = cc (sym d.1 ∙ c.1) in
    let plain : is_wrapper c.0.kind ≡ false = ap is_wrapper n.1 in
    let o = object_there h g p c.0 shows c.1 plain in
    record {
      after = step.with_field g o.number (object_at h.shape c.0) f (held_name h.shape (value_to_set h t));
      step = set_there h g s p c.0 f t shows may.held c.1 may.filled n.0 n.1 n.2 true
          (ap (λ (cell : CellState). fits_in h.shape cell.comp (value_to_set h t)) (sym same) ∙ d.2);
      sure = refl;
      shows = shows-written h k g p c.0 o.number f (value_to_set h t) shows c.1 o.name_is plain o.object_is
          (value_present h g t shows) w;
    }))

-- what may be written is not refused
pub set_accepted : (h : HeapState) (g : GraphState) (s f : ℕ) (t : Option ℕ) (p : Place) → Shows h g
    → IsWritable h s f t p → step.refusal_in (step_of g (cmd.Set s f t)).1 ≡ None
set_accepted h g s f t p shows may =
    let c = of_map (λ (cell : CellState). field_refusal cell.kind f) (cell_of h.shape p) None may.field in
    let d = of_map (λ (cell : CellState). fits_in h.shape cell.comp (value_to_set h t)) (cell_of h.shape p) true
    may.fits in
    let n = field_there c.0.kind f c.2 in
    let same : d.0 ≡ c.0 = cc (sym d.1 ∙ c.1) in
    ap (λ (x : GraphState × Reply). step.refusal_in x.1)
    (set_there h g s p c.0 f t shows may.held c.1 may.filled n.0 n.1 n.2 true
    (ap (λ (cell : CellState). fits_in h.shape cell.comp (value_to_set h t)) (sym same) ∙ d.2))
