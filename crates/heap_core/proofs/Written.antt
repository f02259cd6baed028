-- `set`.
use Rattle.std.proofs.Common.{◌≡◌, ◌<◌, ℕ, Bool, true, false, cond, Option, Some, None, map, length, is_some, refl, sym}
use Rattle.std.proofs.Common.{ap, ◌∙◌, arith, nat_lt}
use Rattle.std.specs.Option.{ForSome, option_map}
use Rattle.std.proofs.lemmas.Bool.Decides.{nat_tests}
use Rattle.std.proofs.lemmas.List.{length-map}
use Rattle.gz_names.specs.declared.names.Name.{Name}
use Rattle.gz_names.specs.declared.names.Name.TheVariants.{Cell, Wrap}
use Rattle.gz_names.specs.declared.numbers.CompNo.{CompNo}
use Rattle.gz_names.specs.declared.numbers.Place.{Place}
use Rattle.gz_names.specs.declared.commands.Kind.{Kind}
use Rattle.gz_names.specs.declared.commands.Kind.TheVariants as kind
use Rattle.gz_names.specs.declared.commands.GraphCmd.TheVariants as cmd
use Rattle.gz_names.specs.declared.replies.Reply.TheVariants as reply
use Rattle.gz_names.specs.declared.replies.Refusal.{Refusal}
use Rattle.gz_names.specs.declared.replies.Refusal.TheVariants as refusal
use Rattle.arena_table.specs.Cells.{CellState, field_count}
use Rattle.colour_defs.specs.declared.graph.Object.{Object}
use Rattle.colour_defs.specs.Graph.{GraphState, comp_of, comp_of_object}
use Rattle.colour_defs.specs.Step as step
use Rattle.colour_defs.specs.Step.{step_of, refuse, set_from, set_in, is_same_comp, fits_comp, some_value}
use Rattle.heap_core.specs.Shape.{IsPresent, cell_of, held_name}
use Rattle.heap_core.specs.Heap.{HeapState, reg_of}
use Rattle.heap_core.specs.Shows.{Shows, StandsFor, is_wrapper, is_map, object_at}
use Rattle.heap_core.specs.Lookups.{IsRefused, field_refusal, fits_in, is_filled, value_to_set}
use Rattle.heap_core.proofs.Places.{present_cell, cell_named}
use Rattle.heap_core.proofs.Shown.{of_map, reg_present, reg_named, reg_empty, object_there, wrapper_there}
use Rattle.heap_core.proofs.Fetched.{field_there}

-- the compartment of a present cell
comp_as : (h : HeapState) (g : GraphState) (p : Place) (cell : CellState) (x : Name) → StandsFor h.shape g p cell x
    → comp_of g x ≡ Some cell.comp
comp_as h g p cell (Cell n) k = ap comp_of_object k.1
comp_as h g p cell (Wrap c t) k = ap (λ (d : CompNo). Some d) (sym k.comp_is)

pub comp_shown : (h : HeapState) (g : GraphState) (p : Place) (cell : CellState) → Shows h g
    → cell_of h.shape p ≡ Some cell → comp_of g cell.name ≡ Some cell.comp
comp_shown h g p cell s e = comp_as h g p cell cell.name (s.cells p cell e).stands

-- whether what is held fits, as the graph says
pub fits_shown : (h : HeapState) (g : GraphState) (c : CompNo) (v : Option Place) → Shows h g
    → ForSome v (IsPresent h.shape) → fits_comp g c (held_name h.shape v) ≡ fits_in h.shape c v
fits_shown h g c None s there = refl
fits_shown h g c (Some p) s there =
    let k = present_cell h.shape p (there p refl) in
    ap (fits_comp g c) (cell_named h.shape p k.0 k.1)
    ∙ ap (λ (o : Option CompNo). is_same_comp o c)
    (comp_shown h g p k.0 s k.1
    ∙ sym (ap (λ (o : Option CellState). option_map (λ (cell : CellState). cell.comp) o) k.1))

-- what is to be written is present
pub value_present : (h : HeapState) (g : GraphState) (t : Option ℕ) → Shows h g
    → ForSome (value_to_set h t) (IsPresent h.shape)
value_present h g None s p e = absurd (cc e)
value_present h g (Some t) s p e = reg_present h g t p s e

-- what is to be written, as the graph has it
value_shown : (h : HeapState) (g : GraphState) (t : Option ℕ) → Shows h g → is_filled h t ≡ true
    → step.value_to_set g t ≡ Some (held_name h.shape (value_to_set h t))
value_shown h g None s filled = refl
value_shown h g (Some t) s filled = go (reg_of h t) refl filled
  where
    go : (o : Option Place) → reg_of h t ≡ o → is_some o ≡ true
        → step.value_to_set g (Some t) ≡ Some (held_name h.shape (reg_of h t))
    go None e some = absurd (cc some)
    go (Some p) e some =
        let k = present_cell h.shape p (reg_present h g t p s e) in
        ap some_value (reg_named h g t p k.0 s e k.1)
        ∙ ap (λ (x : Option Name). Some x) (sym (cell_named h.shape p k.0 k.1))
        ∙ ap (λ (o : Option Place). Some (held_name h.shape o)) (sym e)

value_empty : (h : HeapState) (g : GraphState) (t : Option ℕ) → Shows h g → is_filled h t ≡ false
    → step.value_to_set g t ≡ None
value_empty h g None s filled = absurd (cc filled)
value_empty h g (Some t) s filled = go (reg_of h t) refl filled
  where
    go : (o : Option Place) → reg_of h t ≡ o → is_some o ≡ false → step.value_to_set g (Some t) ≡ None
    go None e some = ap some_value (reg_empty h g t s e)
    go (Some p) e some = absurd (cc some)

-- why a `set` is refused
pub set_empty : (h : HeapState) (s f : ℕ) (t : Option ℕ) → reg_of h s ≡ None → IsRefused h (cmd.Set s f t) refusal.Empty
set_empty h s f t e g shows = ap (λ (x : Option Name). set_from g x f (step.value_to_set g t)) (reg_empty h g s shows e)

pub set_unfilled : (h : HeapState) (s f : ℕ) (t : Option ℕ) (p : Place) → reg_of h s ≡ Some p → is_filled h t ≡ false
    → IsRefused h (cmd.Set s f t) refusal.Empty
set_unfilled h s f t p e filled g shows =
    let k = present_cell h.shape p (reg_present h g s p shows e) in
    ap (λ (x : Option Name). set_from g x f (step.value_to_set g t)) (reg_named h g s p k.0 shows e k.1)
    ∙ ap (λ (v : Option (Option Name)). set_from g (Some k.0.name) f v) (value_empty h g t shows filled)

module _ (h : HeapState) (g : GraphState) (s : ℕ) (p : Place) (cell : CellState) (f : ℕ) (t : Option ℕ)
    (shows : Shows h g) (held : reg_of h s ≡ Some p) (there : cell_of h.shape p ≡ Some cell)
    (filled : is_filled h t ≡ true) where
  set_named : step_of g (cmd.Set s f t) ≡ set_from g (Some cell.name) f (Some (held_name h.shape (value_to_set h t)))
  set_named = ap (λ (x : Option Name). set_from g x f (step.value_to_set g t)) (reg_named h g s p cell shows held there)
      ∙ ap (λ (v : Option (Option Name)). set_from g (Some cell.name) f v) (value_shown h g t shows filled)

  set_plain : (plain : is_wrapper cell.kind ≡ false)
      → step_of g (cmd.Set s f t) ≡ set_in g (object_there h g p cell shows there plain).number
      (Some (object_at h.shape cell)) f (held_name h.shape (value_to_set h t))
  set_plain plain =
      let o = object_there h g p cell shows there plain in
      set_named
      ∙ ap (λ (x : Name). set_from g (Some x) f (Some (held_name h.shape (value_to_set h t)))) o.name_is
      ∙ ap (λ (x : Option Object). set_in g o.number x f (held_name h.shape (value_to_set h t))) o.object_is

  set_err : (k : Kind) (why : Refusal) → cell.kind ≡ k → field_refusal k f ≡ Some why
      → step_of g (cmd.Set s f t) ≡ refuse g why
  set_err (kind.Object n) why e is = go (nat_lt f n) refl is
    where
      go : (b : Bool) → nat_lt f n ≡ b → cond b None (Some refusal.NoField) ≡ Some why
          → step_of g (cmd.Set s f t) ≡ refuse g why
      go true u is = absurd (cc is)
      go false u is =
          let size : length cell.fields ≡ field_count cell.kind = (shows.cells p cell there).sized in
          let count : field_count cell.kind ≡ n = ap field_count e in
          let mapped : length (map (held_name h.shape) cell.fields) ≡ length cell.fields =
          length-map cell.fields (held_name h.shape) in
          let past : nat_lt f (length (map (held_name h.shape) cell.fields)) ≡ false =
          ap (nat_lt f) (mapped ∙ size ∙ count) ∙ u in
          let plain : is_map cell.kind ≡ false = ap is_map e in
          set_plain (ap is_wrapper e) ∙ rw (plain, past) (ap (refuse g) (cc is))
  set_err kind.Map why e is = let plain : is_map cell.kind ≡ true = ap is_map e in set_plain (ap is_wrapper e)
      ∙ rw plain (ap (refuse g) (cc is))
  set_err kind.Wrapper why e is =
      let w = wrapper_there h g p cell shows there (ap is_wrapper e) in
      set_named ∙ ap (λ (x : Name). set_from g (Some x) f (Some (held_name h.shape (value_to_set h t)))) w.name_is
      ∙ ap (refuse g) (cc is)

  -- where the field is there, by whether the value fits
  pub set_there : (n : ℕ) (e : cell.kind ≡ kind.Object n) → f < n → (b : Bool)
      → fits_in h.shape cell.comp (value_to_set h t) ≡ b
      → step_of g (cmd.Set s f t)
      ≡ cond b (
        step.with_field g (object_there h g p cell shows there (ap is_wrapper e)).number
            (object_at h.shape cell) f (held_name h.shape (value_to_set h t)),
        reply.Accepted,
      ) (refuse g refusal.Cross)
  set_there n e lt b fits =
      let size : length cell.fields ≡ field_count cell.kind = (shows.cells p cell there).sized in
      let count : field_count cell.kind ≡ n = ap field_count e in
      let mapped : length (map (held_name h.shape) cell.fields) ≡ length cell.fields =
      length-map cell.fields (held_name h.shape) in
      let below : nat_lt f n ≡ true = grind (arith, nat_tests) in
      let within : nat_lt f (length (map (held_name h.shape) cell.fields)) ≡ true =
      ap (nat_lt f) (mapped ∙ size ∙ count) ∙ below in
      let plain : is_map cell.kind ≡ false = ap is_map e in
      let fit : fits_comp g cell.comp (held_name h.shape (value_to_set h t)) ≡ b =
      fits_shown h g cell.comp (value_to_set h t) shows (value_present h g t shows) ∙ fits in
      set_plain (ap is_wrapper e) ∙ rw (plain, within, fit) refl

pub set_refused : (h : HeapState) (s f : ℕ) (t : Option ℕ) (p : Place) (why : Refusal) → reg_of h s ≡ Some p
    → is_filled h t ≡ true → option_map (λ (cell : CellState). field_refusal cell.kind f) (cell_of h.shape p)
    ≡ Some (Some why) → IsRefused h (cmd.Set s f t) why
set_refused h s f t p why held filled may g shows =
    let c = of_map (λ (cell : CellState). field_refusal cell.kind f) (cell_of h.shape p) (Some why) may in
    set_err h g s p c.0 f t shows held c.1 filled c.0.kind why refl c.2

pub set_cross : (h : HeapState) (s f : ℕ) (t : Option ℕ) (p : Place) (c : CompNo) → reg_of h s ≡ Some p
    → is_filled h t ≡ true → option_map (λ (cell : CellState). field_refusal cell.kind f) (cell_of h.shape p)
    ≡ Some None → option_map (λ (cell : CellState). cell.comp) (cell_of h.shape p) ≡ Some c
    → fits_in h.shape c (value_to_set h t) ≡ false → IsRefused h (cmd.Set s f t) refusal.Cross
set_cross h s f t p c held filled may comp fits g shows =
    let k = of_map (λ (cell : CellState). field_refusal cell.kind f) (cell_of h.shape p) None may in
    let n = field_there k.0.kind f k.2 in
    let same : k.0.comp ≡ c =
    cc (sym (ap (λ (o : Option CellState). option_map (λ (cell : CellState). cell.comp) o) k.1) ∙ comp) in
    set_there h g s p k.0 f t shows held k.1 filled n.0 n.1 n.2 false
    (ap (λ (d : CompNo). fits_in h.shape d (value_to_set h t)) same ∙ fits)
