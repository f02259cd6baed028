-- What a compartment sees of a cell.
use Rattle.std.proofs.Common.{◌≡◌, ◌≢◌, ◌<◌, ℕ, Bool, true, false, cond, eqb-true, eq-eqb, List, [], ◌∷◌, ◌++◌, Option}
use Rattle.std.proofs.Common.{Some, None, if◌then◌else◌, length, slice_get, unwrap_or, refl, sym, ap, subst, ◌∙◌, arith}
use Rattle.std.proofs.Common.{nat_lt}
use Rattle.std.specs.Option.{option_map}
use Rattle.std.proofs.lemmas.Bool.Decides.{nat_tests}
use Rattle.gz_names.specs.declared.names.Name.{Name}
use Rattle.gz_names.specs.declared.names.Name.TheVariants.{Cell, Wrap}
use Rattle.gz_names.specs.declared.numbers.CompNo.{CompNo}
use Rattle.gz_names.specs.declared.numbers.Place.{Place}
use Rattle.gz_names.specs.declared.commands.GraphCmd.TheVariants as cmd
use Rattle.gz_names.specs.declared.replies.Reply.TheVariants as reply
use Rattle.arena_table.specs.Cells.{CellState, field_of, joined}
use Rattle.wrappers.specs.WrapperMaps.{place_of}
use Rattle.colour_defs.specs.Graph.{GraphState, has_wrapper, comp_of}
use Rattle.colour_defs.specs.Step as step
use Rattle.colour_defs.specs.Step.{step_of, wrap_from, wrap_target, take_wrapper, target_of, take_in_register}
use Rattle.colour_defs.specs.Step.{is_same_comp, is_in_comp, refusal_in, IsAccepted}
use Rattle.colour_defs.specs.World.{woken_by, woken_by_wrap}
use Rattle.colour_defs.proofs.Names.{same_comp}
use Rattle.heap_core.specs.Shape.{IsPresent, cell_of, comp_at, held_name, name_at}
use Rattle.heap_core.specs.Heap.{HeapState, reg_of}
use Rattle.heap_core.specs.Shows.{Shows, StandsFor, is_wrapper}
use Rattle.heap_core.specs.Lookups.{number_at, number_in, seen_from, target_at, target_in}
use Rattle.heap_core.proofs.Places.{named_present, present_cell, cell_named}
use Rattle.heap_core.proofs.Shown.{reg_present, reg_named, object_there, wrapper_there}
use Rattle.heap_core.proofs.Written.{comp_shown}

-- what a cell stands for: it is there, and has the number that is in the cell's name
pub record IsTargetOf (h : HeapState) (cell : CellState) (t : Place) : Type 0 where
  pub number : ℕ
  pub name_is : name_at h.shape t ≡ Some (Cell number)
  pub number_is : target_of cell.name ≡ number

pub target_there : (h : HeapState) (g : GraphState) (p : Place) (cell : CellState) → Shows h g
    → cell_of h.shape p ≡ Some cell → IsTargetOf h cell (target_at h.shape p)
target_there h g p cell s there = go (is_wrapper cell.kind) refl
  where
    go : (b : Bool) → is_wrapper cell.kind ≡ b → IsTargetOf h cell (target_at h.shape p)
    go true w =
        let k = wrapper_there h g p cell s there w in
        let is : target_at h.shape p ≡ k.wraps.target =
        ap (λ (o : Option CellState). target_in o p) there
        ∙ ap (λ (b : Bool). cond b (unwrap_or (field_of cell 0) p) p) w
        ∙ ap (λ (fs : List (Option Place)). unwrap_or (joined (slice_get fs 0)) p) k.wraps.fields_is
        in
        record {
          number = k.number;
          name_is = ap (name_at h.shape) is ∙ k.wraps.target_is;
          number_is = ap target_of k.name_is;
        }
    go false plain =
        let o = object_there h g p cell s there plain in
        let is : target_at h.shape p ≡ p = ap (λ (o : Option CellState). target_in o p) there
        ∙ ap (λ (b : Bool). cond b (unwrap_or (field_of cell 0) p) p) plain in
        record {
          number = o.number;
          name_is = ap (name_at h.shape) is ∙ cell_named h.shape p cell there
              ∙ ap (λ (x : Name). Some x) o.name_is;
          number_is = ap target_of o.name_is;
        }

pub target_present : (h : HeapState) (g : GraphState) (s : ℕ) (p : Place) → Shows h g → reg_of h s ≡ Some p
    → IsPresent h.shape (target_at h.shape p)
target_present h g s p shows held =
    let cell = present_cell h.shape p (reg_present h g s p shows held) in
    let t = target_there h g p cell.0 shows cell.1 in
    named_present h.shape (target_at h.shape p) (Cell t.number) t.name_is

-- a wrapper is in the graph exactly if the map has its place
pub wrapper_known : (h : HeapState) (g : GraphState) (c : CompNo) (n : ℕ) (q : Place) → Shows h g
    → place_of h.shape.wrappers c.0 n ≡ Some q → has_wrapper g c n ≡ true
wrapper_known h g c n q s e =
    let name = s.mapped c n q e in
    let d = present_cell h.shape q (named_present h.shape q (Wrap c n) name) in
    let is : d.0.name ≡ Wrap c n = cc (sym (cell_named h.shape q d.0 d.1) ∙ name) in
    (let st : StandsFor h.shape g q d.0 (Wrap c n) =
    subst (λ (x : Name). StandsFor h.shape g q d.0 x) is (s.cells q d.0 d.1).stands in st).known

pub wrapper_mapped : (h : HeapState) (g : GraphState) (c : CompNo) (n : ℕ) (q : Place) → Shows h g
    → name_at h.shape q ≡ Some (Wrap c n) → place_of h.shape.wrappers c.0 n ≡ Some q
wrapper_mapped h g c n q s name =
    let d = present_cell h.shape q (named_present h.shape q (Wrap c n) name) in
    let is : d.0.name ≡ Wrap c n = cc (sym (cell_named h.shape q d.0 d.1) ∙ name) in
    (let st : StandsFor h.shape g q d.0 (Wrap c n) =
    subst (λ (x : Name). StandsFor h.shape g q d.0 x) is (s.cells q d.0 d.1).stands in st).mapped

pub wrapper_unknown : (h : HeapState) (g : GraphState) (c : CompNo) (n : ℕ) → Shows h g
    → place_of h.shape.wrappers c.0 n ≡ None → has_wrapper g c n ≡ false
wrapper_unknown h g c n s e = go (has_wrapper g c n) refl
  where
    go : (b : Bool) → has_wrapper g c n ≡ b → has_wrapper g c n ≡ false
    go true is = let k = s.wrappers_are c n is in let there = wrapper_mapped h g c n k.0 s k.1 in absurd (cc (e, there))
    go false is = is

-- the compartment of a present cell, as the graph says
pub comp_tested : (h : HeapState) (g : GraphState) (c : CompNo) (t : Place) (x : Name) → Shows h g
    → name_at h.shape t ≡ Some x → is_in_comp g c x ≡ is_same_comp (comp_at h.shape t) c
comp_tested h g c t x s name =
    let d = present_cell h.shape t (named_present h.shape t x name) in
    let is : d.0.name ≡ x = cc (sym (cell_named h.shape t d.0 d.1) ∙ name) in
    ap (λ (o : Option CompNo). is_same_comp o c) (ap (comp_of g) (sym is) ∙ comp_shown h g t d.0 s d.1
    ∙ sym (ap (λ (o : Option CellState). option_map (λ (cell : CellState). cell.comp) o) d.1))

pub same_comp-is : (o : Option CompNo) (c : CompNo) → is_same_comp o c ≡ true → o ≡ Some c
same_comp-is None c e = cc
same_comp-is (Some d) c e = ap (λ (x : CompNo). Some x) (same_comp d c (eqb-true d.0 c.0 e))

pub same_comp-not : (o : Option CompNo) (c : CompNo) → is_same_comp o c ≡ false → o ≢ Some c
same_comp-not o c e is = let yes_same : is_same_comp o c ≡ true = ap (λ (x : Option CompNo). is_same_comp x c) is
    ∙ eq-eqb c.0 c.0 refl in cc (e, yes_same)

-- the compartment does not see a target: its wrapper is made
pub record IsUnseen (h : HeapState) (g : GraphState) (r s : ℕ) (c : CompNo) (t : Place) : Type 0 where
  pub name_is : name_at h.shape t ≡ Some (Cell (number_at h.shape t))
  pub apart : comp_at h.shape t ≢ Some c
  pub absent : place_of h.shape.wrappers c.0 (number_at h.shape t) ≡ None
  pub step : step_of g (cmd.Wrap r s c)
      ≡ (
        record (step.with_register g r (Some (Wrap c (number_at h.shape t)))) {
          wrappers =
              g.wrappers ++ (c, number_at h.shape t) ∷ [];
        },
        reply.Named (Wrap c (number_at h.shape t)),
      )

module _ (h : HeapState) (g : GraphState) (r s : ℕ) (c : CompNo) (p : Place) (shows : Shows h g)
    (held : reg_of h s ≡ Some p) (made : c.0 < length h.shape.comps) where
  -- the step goes by the target's number
  wrap_there : (cell : CellState) (there : cell_of h.shape p ≡ Some cell)
      → step_of g (cmd.Wrap r s c) ≡ wrap_target g r c (target_there h g p cell shows there).number
  wrap_there cell there =
      let count : length g.comps ≡ length h.shape.comps = ap (λ (xs : List ℕ). length xs) shows.comps_are in
      let b : nat_lt c.0 (length g.comps) ≡ true = grind (arith, nat_tests) in
      ap (λ (x : Option Name). wrap_from g r x c) (reg_named h g s p cell shows held there)
      ∙ rw b (ap (wrap_target g r c) (target_there h g p cell shows there).number_is)

  number_shown : (cell : CellState) (there : cell_of h.shape p ≡ Some cell) → number_at h.shape (target_at h.shape p)
      ≡ (target_there h g p cell shows there).number
  number_shown cell there = ap number_in (target_there h g p cell shows there).name_is

  tested : (cell : CellState) (there : cell_of h.shape p ≡ Some cell)
      → is_in_comp g c (Cell (target_there h g p cell shows there).number)
      ≡ is_same_comp (comp_at h.shape (target_at h.shape p)) c
  tested cell there = comp_tested h g c (target_at h.shape p) (Cell (target_there h g p cell shows there).number) shows
      (target_there h g p cell shows there).name_is

  -- where the compartment sees something
  pub wrap_seen : (v : Place) → seen_from h.shape c (target_at h.shape p) ≡ Some v
      → step_of g (cmd.Wrap r s c) ≡ take_in_register g r (held_name h.shape (Some v))
  wrap_seen v seen =
      let cell = present_cell h.shape p (reg_present h g s p shows held) in
      go cell.0 cell.1 (is_same_comp (comp_at h.shape (target_at h.shape p)) c) refl seen
    where
      go : (cell : CellState) (there : cell_of h.shape p ≡ Some cell) (b : Bool)
          → is_same_comp (comp_at h.shape (target_at h.shape p)) c ≡ b
          → cond b (Some (target_at h.shape p))
          (place_of h.shape.wrappers c.0 (number_at h.shape (target_at h.shape p))) ≡ Some v
          → step_of g (cmd.Wrap r s c) ≡ take_in_register g r (held_name h.shape (Some v))
      go cell there true same is =
          let k = target_there h g p cell shows there in
          let b : is_in_comp g c (Cell k.number) ≡ true = tested cell there ∙ same in
          let name : name_at h.shape v ≡ Some (Cell k.number) = ap (name_at h.shape) (cc (sym is)) ∙ k.name_is in
          wrap_there cell there ∙ rw b (ap (take_in_register g r) (sym name))
      go cell there false same is =
          let k = target_there h g p cell shows there in
          let b : is_in_comp g c (Cell k.number) ≡ false = tested cell there ∙ same in
          let at : place_of h.shape.wrappers c.0 k.number ≡ Some v =
          ap (place_of h.shape.wrappers c.0) (sym (number_shown cell there)) ∙ is in
          let known : has_wrapper g c k.number ≡ true = wrapper_known h g c k.number v shows at in
          wrap_there cell there ∙ rw (b, known) (ap (take_in_register g r) (sym (shows.mapped c k.number v at)))

  -- what is woken: nothing, where the target is of the compartment, else its wrapper
  pub wrap_woken : (b : Bool) → is_same_comp (comp_at h.shape (target_at h.shape p)) c ≡ b
      → woken_by g (cmd.Wrap r s c) ≡ (if b then None else Some (Wrap c (number_at h.shape (target_at h.shape p))))
  wrap_woken b same =
      let cell = present_cell h.shape p (reg_present h g s p shows held) in
      let k = target_there h g p cell.0 shows cell.1 in
      let test : is_in_comp g c (Cell k.number) ≡ b = tested cell.0 cell.1 ∙ same in
      ap (λ (o : Option Name). woken_by_wrap g o c) (reg_named h g s p cell.0 shows held cell.1)
      ∙ ap (λ (n : ℕ). if is_in_comp g c (Cell n) then None else Some (Wrap c n)) k.number_is
      ∙ ap (λ (x : Bool). if x then None else Some (Wrap c k.number)) test
      ∙ ap (λ (n : ℕ). if b then None else Some (Wrap c n)) (sym (number_shown cell.0 cell.1))

  -- where it sees nothing, a wrapper is made
  pub wrap_unseen : seen_from h.shape c (target_at h.shape p) ≡ None → IsUnseen h g r s c (target_at h.shape p)
  wrap_unseen unseen =
      let cell = present_cell h.shape p (reg_present h g s p shows held) in
      go cell.0 cell.1 (is_same_comp (comp_at h.shape (target_at h.shape p)) c) refl unseen
    where
      go : (cell : CellState) (there : cell_of h.shape p ≡ Some cell) (b : Bool)
          → is_same_comp (comp_at h.shape (target_at h.shape p)) c ≡ b
          → cond b (Some (target_at h.shape p))
          (place_of h.shape.wrappers c.0 (number_at h.shape (target_at h.shape p))) ≡ None
          → IsUnseen h g r s c (target_at h.shape p)
      go cell there true same is = absurd (cc is)
      go cell there false same is =
          let k = target_there h g p cell shows there in
          let n = number_shown cell there in
          let b : is_in_comp g c (Cell k.number) ≡ false = tested cell there ∙ same in
          let at : place_of h.shape.wrappers c.0 k.number ≡ None = ap (place_of h.shape.wrappers c.0) (sym n) ∙ is in
          let unknown : has_wrapper g c k.number ≡ false = wrapper_unknown h g c k.number shows at in
          record {
            name_is = k.name_is ∙ ap (λ (i : ℕ). Some (Cell i)) (sym n);
            apart = same_comp-not (comp_at h.shape (target_at h.shape p)) c same;
            absent = is;
            step = wrap_there cell there
                ∙ rw (b, unknown) (ap
                (λ (i : ℕ). (
                  record (step.with_register g r (Some (Wrap c i))) { wrappers = g.wrappers ++ (c, i) ∷ [] },
                  reply.Named (Wrap c i),
                )) (sym n));
          }
