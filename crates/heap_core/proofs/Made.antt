-- Objects and maps are made.
use Rattle.std.proofs.Common.{◌≡◌, ◌+◌, ◌<◌, ◌≤◌, ℕ, zero, suc, Bool, true, false, cond, inl, inr, List, [], ◌∷◌, ◌++◌}
use Rattle.std.proofs.Common.{Option, Some, None, Ok, Err, map, length, replicate, slice_get, slice_set, refl, sym, ap}
use Rattle.std.proofs.Common.{subst, ◌∙◌, arith, add-one, nat_lt, Contains}
use Rattle.std.specs.Option.{option_flatten}
use Rattle.std.proofs.lemmas.Bool.Decides.{nat_tests}
use Rattle.std.proofs.lemmas.List.{length-replicate}
use Rattle.std.proofs.lemmas.Option.{slice_get_within}
use Rattle.gz_names.specs.declared.names.Name.{Name}
use Rattle.gz_names.specs.declared.names.Name.TheVariants.{Cell}
use Rattle.gz_names.specs.declared.numbers.CompNo.{CompNo}
use Rattle.gz_names.specs.declared.numbers.Place.{Place}
use Rattle.gz_names.specs.declared.commands.Kind.{Kind}
use Rattle.gz_names.specs.declared.commands.GraphCmd.{GraphCmd}
use Rattle.gz_names.specs.declared.replies.Reply.{Reply}
use Rattle.gz_names.specs.declared.replies.Reply.TheVariants as reply
use Rattle.gz_names.specs.declared.replies.CmdFault.TheVariants as fault
use Rattle.arena_table.specs.Cells.{field_count, joined}
use Rattle.arena_table.specs.Table.{new_cell}
use Rattle.wrappers.specs.WrapperMaps.{WrappersState, list_of, place_of}
use Rattle.colour_defs.specs.declared.graph.Object.{Object}
use Rattle.colour_defs.specs.Graph.{GraphState, object_of}
use Rattle.colour_defs.specs.Step.{step_of, refusal_in, make_object}
use Rattle.colour_defs.proofs.Lists.{get_push_cases, get_push_here, get_past, length_push}
use Rattle.heap_core.specs.Shape.{Shape, IsPresent, cell_of, held_name, name_at}
use Rattle.heap_core.specs.Heap.{HeapState, with_reg}
use Rattle.heap_core.specs.Changes.{Makes, with_number}
use Rattle.heap_core.specs.Shows.{Shows, StandsFor, is_wrapper, is_map, object_at}
use Rattle.heap_core.specs.Answers.{DoesStep}
use Rattle.heap_core.specs.Effects.{MakesHeld, object_of_kind}
use Rattle.heap_core.proofs.Places.{place-same, named_present, present_cell, cell_named, cell_present}
use Rattle.heap_core.proofs.Stepping.{does-accepted, does-wanting}
use Rattle.heap_core.proofs.Held.{shows-with_reg}
use Rattle.heap_core.proofs.Added.{Adds, shows-added}

-- null fields
null_field : (n f : ℕ) → joined (slice_get (replicate {A = Option Place} n None) f) ≡ None
null_field zero f = refl
null_field (suc n) zero = refl
null_field (suc n) (suc f) = null_field n f

null_names : (s : Shape) (n : ℕ) → map (held_name s) (replicate n None) ≡ replicate n None
null_names s zero = refl
null_names s (suc n) = ap (λ (xs : List (Option Name)). None ∷ xs) (null_names s n)

-- an object by its number, where one more is made
object_kept : (g : GraphState) (o : Object) (n : ℕ) (x : Object) → object_of g n ≡ Some x
    → option_flatten (slice_get (g.objects ++ Some o ∷ []) n) ≡ Some x
object_kept g o n x e = elim (get_push_cases g.objects (Some o) n) [
  | inl same ↦ ap option_flatten same ∙ e
  | inr here ↦ (let gone : object_of g n ≡ None = ap (λ (i : ℕ). option_flatten (slice_get g.objects i)) here.0
      ∙ ap option_flatten (get_past g.objects) in absurd (cc (gone, e)))
]

-- what has a number is in the graph
pub number_there : (h : HeapState) (g : GraphState) (q : Place) (n : ℕ) → Shows h g → name_at h.shape q ≡ Some (Cell n)
    → (o : Object) × (object_of g n ≡ Some o)
number_there h g q n s e =
    let d = present_cell h.shape q (named_present h.shape q (Cell n) e) in
    let is : d.0.name ≡ Cell n = cc (sym (cell_named h.shape q d.0 d.1) ∙ e) in
    let st : StandsFor h.shape g q d.0 (Cell n) =
    subst (λ (x : Name). StandsFor h.shape g q d.0 x) is (s.cells q d.0 d.1).stands in
    (object_at h.shape d.0, st.1)

-- no present cell has the next number
number_fresh : (h : HeapState) (g : GraphState) (q : Place) → Shows h g
    → name_at h.shape q ≡ Some (Cell h.shape.objects) → ⊥
number_fresh h g q s e =
    let o = number_there h g q h.shape.objects s e in
    let gone : object_of g h.shape.objects ≡ None =
    ap (λ (n : ℕ). option_flatten (slice_get g.objects n)) (sym s.objects_made)
    ∙ ap option_flatten (get_past g.objects) in
    cc (gone, o.1)

module _ (h m : HeapState) (g : GraphState) (zone : ℕ) (p : Place) (kind : Kind) (c : CompNo) (s : Shows h g)
    (plain : is_wrapper kind ≡ false) (few : field_count kind ≤ 8) (home : slice_get h.shape.comps c.0 ≡ Some zone)
    (makes : Makes h zone p (new_cell kind c (Cell h.shape.objects)) m) where
  abbrev graph : GraphState
  graph = record g { objects = g.objects ++ Some (object_of_kind kind c) ∷ [] }

  wrappers : m.shape.wrappers ≡ h.shape.wrappers
  wrappers = ap (λ (x : HeapState). x.shape.wrappers) makes.rest

  objects : m.shape.objects ≡ h.shape.objects
  objects = ap (λ (x : HeapState). x.shape.objects) makes.rest

  object_here : object_of graph h.shape.objects
      ≡ Some (object_at (with_number m).shape (new_cell kind c (Cell h.shape.objects)))
  object_here =
      ap (λ (n : ℕ). option_flatten (slice_get (g.objects ++ Some (object_of_kind kind c) ∷ []) n)) (sym s.objects_made)
      ∙ ap option_flatten (get_push_here g.objects (Some (object_of_kind kind c)))
      ∙ ap (λ (fs : List (Option Name)). Some (record { comp = c; is_map = is_map kind; fields = fs }))
      (sym (null_names (with_number m).shape (field_count kind)))

  adds : Adds h (with_number m) g graph zone p (new_cell kind c (Cell h.shape.objects))
  adds = record {
    zones_same = refl;
    comps_same = refl;
    registers_same = refl;
    slots_same = refl;
    entries_same = refl;
    states_are = ap (λ (x : HeapState). x.shape.states) makes.rest;
    comps_are = ap (λ (x : HeapState). x.shape.comps) makes.rest;
    regs_are = ap (λ (x : HeapState). x.shape.regs) makes.rest;
    slots_are = ap (λ (x : HeapState). x.shape.slots) makes.rest;
    weak_is = ap (λ (x : HeapState). x.shape.weak) makes.rest;
    absent = makes.free;
    cells_are = makes.cells;
    zone_is = makes.zone_is;
    zones_are = makes.zones;
    at_home = home;
    fresh = λ q e. number_fresh h g q s e;
    objects_kept = λ n o e. object_kept g (object_of_kind kind c) n o e;
    wrappers_kept = λ d t e. e;
    places_kept = λ d t q e. ap (λ (x : WrappersState). place_of x d.0 t) wrappers ∙ e;
    objects_new = λ n o e. elim (get_push_cases g.objects (Some (object_of_kind kind c)) n) [
      | inl same ↦ inl (ap option_flatten (sym same) ∙ e)
      | inr here ↦ inr (ap (λ (i : ℕ). Cell i) (sym s.objects_made ∙ sym here.0))
    ];
    wrappers_new = λ d t e. inl e;
    places_new = λ d t q e. inl (ap (λ (x : WrappersState). place_of x d.0 t) (sym wrappers) ∙ e);
    maps_at_home = λ z e k. s.maps_at_home z e (subst (λ (x : WrappersState). Contains (list_of x z) e) wrappers k);
    fields_there = λ f q e. absurd (cc (null_field (field_count kind) f, e));
    stands = λ named. (plain, object_here);
    sized = length-replicate (field_count kind) None;
    few_fields = (let size : length (replicate {A = Option Place} (field_count kind) None) ≡ field_count kind =
        length-replicate (field_count kind) None in omega arith);
    objects_made = length_push g.objects (Some (object_of_kind kind c)) ∙ ap suc (s.objects_made ∙ sym objects)
        ∙ sym (add-one m.shape.objects);
    few_objects = (let all : m.made ≡ h.made + 1 = ap (λ (x : HeapState). x.made) makes.rest in let old =
        s.few_objects in let same = objects in omega arith);
  }

  shows-made : (r : ℕ)
      → Shows (with_reg (with_number m) r (Some p))
      (record g {
        objects = g.objects ++ Some (object_of_kind kind c) ∷ [];
        registers = slice_set g.registers r (Some (Cell (length g.objects)));
      })
  shows-made r =
      let here : cell_of (with_number m).shape p ≡ Some (new_cell kind c (Cell h.shape.objects)) = makes.cells p
      ∙ ap (λ (b : Bool). cond b (Some (new_cell kind c (Cell h.shape.objects))) (cell_of h.shape p)) (place-same p)
      in
      let name : held_name (with_number m).shape (Some p) ≡ Some (Cell (length g.objects)) =
      cell_named (with_number m).shape p (new_cell kind c (Cell h.shape.objects)) here
      ∙ ap (λ (n : ℕ). Some (Cell n)) (sym s.objects_made) in
      subst (λ (x : Option Name). Shows (with_reg (with_number m) r (Some p))
      (record graph { registers = slice_set g.registers r x })) name
      (shows-with_reg (with_number m) graph r (Some p)
      (shows-added h (with_number m) g graph zone p (new_cell kind c (Cell h.shape.objects)) s adds)
      (λ q e. (let same : p ≡ q = cc e in
      subst (IsPresent (with_number m).shape) same
      (cell_present (with_number m).shape p (new_cell kind c (Cell h.shape.objects)) here))))

-- where the compartment was made, the step makes the object
make_there : (h : HeapState) (g : GraphState) (r : ℕ) (kind : Kind) (c : CompNo) → Shows h g
    → c.0 < length h.shape.comps
    → make_object g r (object_of_kind kind c)
    ≡ (
      record g {
        objects = g.objects ++ Some (object_of_kind kind c) ∷ [];
        registers = slice_set g.registers r (Some (Cell (length g.objects)));
      },
      reply.Made (length g.objects),
    )
make_there h g r kind c s there =
    let made : length g.comps ≡ length h.shape.comps = ap (λ (xs : List ℕ). length xs) s.comps_are in
    let t : nat_lt c.0 (length g.comps) ≡ true = grind (arith, nat_tests) in
    rw t refl

pub does-make : (h k : HeapState) (r : ℕ) (kind : Kind) (c : CompNo) (x : GraphCmd)
    → ((g : GraphState) → step_of g x ≡ make_object g r (object_of_kind kind c)) → is_wrapper kind ≡ false
    → field_count kind ≤ 8 → MakesHeld h r kind c k → DoesStep h x (Ok (reply.Made h.shape.objects)) k
does-make h k r kind c x is plain few made = does-accepted h x (reply.Made h.shape.objects) k (λ g s. record {
  after = record g {
    objects = g.objects ++ Some (object_of_kind kind c) ∷ [];
    registers = slice_set g.registers r (Some (Cell (length g.objects)));
  };
  step = is g ∙ make_there h g r kind c s (slice_get_within h.shape.comps c.0 made.zone made.home)
      ∙ ap (λ (n : ℕ). (
        record g {
          objects = g.objects ++ Some (object_of_kind kind c) ∷ [];
          registers = slice_set g.registers r (Some (Cell (length g.objects)));
        },
        reply.Made n,
      )) s.objects_made;
  sure = refl;
  shows = subst (λ (y : HeapState).
      Shows y (record g {
        objects = g.objects ++ Some (object_of_kind kind c) ∷ [];
        registers = slice_set g.registers r (Some (Cell (length g.objects)));
      })) (sym made.rest)
      (shows-made h made.made g made.zone made.place kind c s plain few made.home made.makes r);
})

pub does-make_wanting : (h : HeapState) (r : ℕ) (kind : Kind) (c : CompNo) (x : GraphCmd)
    → ((g : GraphState) → step_of g x ≡ make_object g r (object_of_kind kind c)) → c.0 < length h.shape.comps
    → DoesStep h x (Err fault.NoMemory) h
does-make_wanting h r kind c x is there =
    does-wanting h x (λ g s. ap (λ (p : GraphState × Reply). refusal_in p.1) (is g ∙ make_there h g r kind c s there))
