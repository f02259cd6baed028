-- `get` and `unwrap`.
use Rattle.std.proofs.Common.{◌≡◌, ◌<◌, ◌≤◌, ℕ, Bool, true, false, cond, List, Option, Some, None, Ok, Err, map, length}
use Rattle.std.proofs.Common.{slice_get, refl, sym, ap, ◌∙◌, arith, nat_lt}
use Rattle.std.specs.Option.{option_map}
use Rattle.std.proofs.lemmas.Bool.{ltb-true}
use Rattle.std.proofs.lemmas.Bool.Decides.{nat_tests}
use Rattle.std.proofs.lemmas.Option.{slice_get-map, slice_get-get_or, slice_get_past}
use Rattle.gz_names.specs.declared.names.Name.{Name}
use Rattle.gz_names.specs.declared.numbers.Place.{Place}
use Rattle.gz_names.specs.declared.commands.Kind.{Kind}
use Rattle.gz_names.specs.declared.commands.Kind.TheVariants as kind
use Rattle.gz_names.specs.declared.commands.GraphCmd.TheVariants as cmd
use Rattle.gz_names.specs.declared.replies.Refusal.{Refusal}
use Rattle.gz_names.specs.declared.replies.Refusal.TheVariants as refusal
use Rattle.arena_table.specs.Cells.{CellState, field_count, field_of, joined}
use Rattle.colour_defs.specs.declared.graph.Object.{Object}
use Rattle.colour_defs.specs.Graph.{GraphState}
use Rattle.colour_defs.specs.Step.{step_of, refuse, take_in_register, get_from, get_in, get_value, unwrap_from}
use Rattle.heap_core.specs.Shape.{cell_of, field_at, field_in, held_name}
use Rattle.heap_core.specs.Heap.{HeapState, reg_of}
use Rattle.heap_core.specs.Shows.{Shows, is_wrapper, is_map, object_at}
use Rattle.heap_core.specs.Lookups.{Hands, field_refusal}
use Rattle.heap_core.proofs.Shown.{of_map, reg_named, object_there, wrapper_there}

-- a field of an object, as the graph has it
get_within : (h : HeapState) (g : GraphState) (r : ℕ) (cell : CellState) (f : ℕ) → f < length cell.fields
    → get_value g r (slice_get (map (held_name h.shape) cell.fields) f)
    ≡ take_in_register g r (held_name h.shape (field_of cell f))
get_within h g r cell f lt =
    let e = slice_get-get_or cell.fields f None lt in
    let there : slice_get (map (held_name h.shape) cell.fields) f ≡ Some (held_name h.shape (field_of cell f)) =
    slice_get-map (held_name h.shape) cell.fields f ∙ ap (option_map (held_name h.shape)) e
    ∙ ap (λ (o : Option (Option Place)). Some (held_name h.shape (joined o))) (sym e)
    in
    ap (get_value g r) there

get_past : (h : HeapState) (g : GraphState) (r : ℕ) (cell : CellState) (f : ℕ) → length cell.fields ≤ f
    → get_value g r (slice_get (map (held_name h.shape) cell.fields) f) ≡ refuse g refusal.NoField
get_past h g r cell f le =
    ap (get_value g r) (slice_get-map (held_name h.shape) cell.fields f
    ∙ ap (option_map (held_name h.shape)) (slice_get_past cell.fields f le))

-- a field of this number is there, or it is refused
pub field_there : (k : Kind) (f : ℕ) → field_refusal k f ≡ None → (n : ℕ) × (k ≡ kind.Object n) × (f < n)
field_there (kind.Object n) f e = (n, refl, ltb-true f n (go (nat_lt f n) e))
  where
    go : (b : Bool) → cond b None (Some refusal.NoField) ≡ None → b ≡ true
    go true e = refl
    go false e = absurd (cc e)
field_there kind.Map f e = absurd (cc e)
field_there kind.Wrapper f e = absurd (cc e)

module _ (h : HeapState) (g : GraphState) (r s : ℕ) (p : Place) (cell : CellState) (f : ℕ) (shows : Shows h g)
    (held : reg_of h s ≡ Some p) (there : cell_of h.shape p ≡ Some cell) where
  -- `get` at an object or a map
  get_plain : is_wrapper cell.kind ≡ false → step_of g (cmd.Get r s f) ≡ get_in g r (Some (object_at h.shape cell)) f
  get_plain plain =
      let o = object_there h g p cell shows there plain in
      ap (λ (x : Option Name). get_from g r x f)
      (reg_named h g s p cell shows held there ∙ ap (λ (x : Name). Some x) o.name_is)
      ∙ ap (λ (x : Option Object). get_in g r x f) o.object_is

  get_ok : (n : ℕ) → cell.kind ≡ kind.Object n → f < n
      → step_of g (cmd.Get r s f) ≡ take_in_register g r (held_name h.shape (field_at h.shape p f))
  get_ok n e lt =
      let size : length cell.fields ≡ field_count cell.kind = (shows.cells p cell there).sized in
      let count : field_count cell.kind ≡ n = ap field_count e in
      get_plain (ap is_wrapper e)
      ∙ ap (λ (k : Kind). cond (is_map k) (refuse g refusal.Kind)
      (get_value g r (slice_get (map (held_name h.shape) cell.fields) f))) e
      ∙ get_within h g r cell f (omega arith)
      ∙ ap (λ (o : Option CellState). take_in_register g r (held_name h.shape (field_in o f))) (sym there)

  get_err : (k : Kind) (why : Refusal) → cell.kind ≡ k → field_refusal k f ≡ Some why
      → step_of g (cmd.Get r s f) ≡ refuse g why
  get_err (kind.Object n) why e is = go (nat_lt f n) refl is
    where
      go : (b : Bool) → nat_lt f n ≡ b → cond b None (Some refusal.NoField) ≡ Some why
          → step_of g (cmd.Get r s f) ≡ refuse g why
      go true t is = absurd (cc is)
      go false t is =
          let size : length cell.fields ≡ field_count cell.kind = (shows.cells p cell there).sized in
          let count : field_count cell.kind ≡ n = ap field_count e in
          let past : length cell.fields ≤ f = grind (arith, nat_tests) in
          get_plain (ap is_wrapper e)
          ∙ ap (λ (k : Kind). cond (is_map k) (refuse g refusal.Kind)
          (get_value g r (slice_get (map (held_name h.shape) cell.fields) f))) e
          ∙ get_past h g r cell f past
          ∙ ap (refuse g) (cc is)
  get_err kind.Map why e is =
      get_plain (ap is_wrapper e)
      ∙ ap (λ (k : Kind). cond (is_map k) (refuse g refusal.Kind)
      (get_value g r (slice_get (map (held_name h.shape) cell.fields) f))) e
      ∙ ap (refuse g) (cc is)
  get_err kind.Wrapper why e is =
      let w = wrapper_there h g p cell shows there (ap is_wrapper e) in
      ap (λ (x : Option Name). get_from g r x f)
      (reg_named h g s p cell shows held there ∙ ap (λ (x : Name). Some x) w.name_is)
      ∙ ap (refuse g) (cc is)

  -- `unwrap`
  unwrap_plain : is_wrapper cell.kind ≡ false → step_of g (cmd.Unwrap r s) ≡ refuse g refusal.Kind
  unwrap_plain plain =
      let o = object_there h g p cell shows there plain in
      ap (unwrap_from g r) (reg_named h g s p cell shows held there ∙ ap (λ (x : Name). Some x) o.name_is)

  unwrap_ok : is_wrapper cell.kind ≡ true
      → step_of g (cmd.Unwrap r s) ≡ take_in_register g r (held_name h.shape (field_at h.shape p 0))
  unwrap_ok w =
      let k = wrapper_there h g p cell shows there w in
      let target : field_of cell 0 ≡ Some k.wraps.target =
      ap (λ (fs : List (Option Place)). joined (slice_get fs 0)) k.wraps.fields_is in
      ap (unwrap_from g r) (reg_named h g s p cell shows held there ∙ ap (λ (x : Name). Some x) k.name_is)
      ∙ ap (take_in_register g r) (sym k.wraps.target_is)
      ∙ ap (λ (v : Option Place). take_in_register g r (held_name h.shape v)) (sym target)
      ∙ ap (λ (o : Option CellState). take_in_register g r (held_name h.shape (field_in o 0))) (sym there)

-- what the look-ups answer
pub gets : (h : HeapState) (s : ℕ) (p : Place) (f : ℕ) → reg_of h s ≡ Some p
    → option_map (λ (cell : CellState). field_refusal cell.kind f) (cell_of h.shape p) ≡ Some None
    → Hands h (λ r. cmd.Get r s f) (Ok (field_at h.shape p f))
gets h s p f held may r g shows =
    let c = of_map (λ (cell : CellState). field_refusal cell.kind f) (cell_of h.shape p) None may in
    let k = field_there c.0.kind f c.2 in
    get_ok h g r s p c.0 f shows held c.1 k.0 k.1 k.2

pub gets_not : (h : HeapState) (s : ℕ) (p : Place) (f : ℕ) (why : Refusal) → reg_of h s ≡ Some p
    → option_map (λ (cell : CellState). field_refusal cell.kind f) (cell_of h.shape p) ≡ Some (Some why)
    → Hands h (λ r. cmd.Get r s f) (Err why)
gets_not h s p f why held may r g shows =
    let c = of_map (λ (cell : CellState). field_refusal cell.kind f) (cell_of h.shape p) (Some why) may in
    get_err h g r s p c.0 f shows held c.1 c.0.kind why refl c.2

pub unwraps : (h : HeapState) (s : ℕ) (p : Place) → reg_of h s ≡ Some p
    → option_map (λ (cell : CellState). cell.kind) (cell_of h.shape p) ≡ Some kind.Wrapper
    → Hands h (λ r. cmd.Unwrap r s) (Ok (field_at h.shape p 0))
unwraps h s p held is r g shows =
    let c = of_map (λ (cell : CellState). cell.kind) (cell_of h.shape p) kind.Wrapper is in
    unwrap_ok h g r s p c.0 0 shows held c.1 (ap is_wrapper c.2)

pub unwraps_not : (h : HeapState) (s : ℕ) (p : Place) (k : Kind) → reg_of h s ≡ Some p
    → option_map (λ (cell : CellState). cell.kind) (cell_of h.shape p) ≡ Some k → is_wrapper k ≡ false
    → Hands h (λ r. cmd.Unwrap r s) (Err refusal.Kind)
unwraps_not h s p k held is plain r g shows =
    let c = of_map (λ (cell : CellState). cell.kind) (cell_of h.shape p) k is in
    unwrap_plain h g r s p c.0 0 shows held c.1 (ap is_wrapper c.2 ∙ plain)
