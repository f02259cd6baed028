-- One more zone, and one more compartment.
use Rattle.std.proofs.Common.{◌≡◌, ◌≢◌, ◌+◌, ◌<◌, ◌≤◌, ℕ, List, [], ◌∷◌, ◌++◌, length, Ok, refl, sym, ap, ◌∙◌, arith}
use Rattle.std.proofs.Common.{add-one, nat_lt, true}
use Rattle.std.proofs.lemmas.Bool.Decides.{nat_tests}
use Rattle.gz_names.specs.declared.numbers.Place.{Place}
use Rattle.gz_names.specs.declared.numbers.CompNo.{CompNo}
use Rattle.gz_names.specs.declared.limits.TheConstants.{ZONE_LIMIT, COMP_LIMIT}
use Rattle.gz_names.specs.declared.commands.GraphCmd.TheVariants as cmd
use Rattle.gz_names.specs.declared.replies.Reply.TheVariants as reply
use Rattle.zones.specs.declared.states.State.TheVariants as state
use Rattle.colour_defs.specs.Graph.{GraphState}
use Rattle.colour_defs.specs.Step.{step_of}
use Rattle.colour_defs.proofs.Lists.{length_push, get_append}
use Rattle.arena_table.specs.Cells.{CellState}
use Rattle.heap_core.specs.Shape.{zone_of}
use Rattle.heap_core.specs.Heap.{HeapState}
use Rattle.heap_core.specs.Changes.{with_zone, with_comp}
use Rattle.heap_core.specs.Shows.{Shows, IsWrapperOf}
use Rattle.heap_core.specs.Answers.{DoesStep}
use Rattle.heap_core.proofs.Shown.{stands_as}
use Rattle.heap_core.proofs.Stepping.{does-accepted}

abbrev graph_with_zone : GraphState → GraphState
graph_with_zone g = record g { zones = g.zones + 1 }

wrapper_with_zone : (h : HeapState) (g : GraphState) (p : Place) (cell : CellState) (c : CompNo) (t : ℕ)
    → IsWrapperOf h.shape g p cell c t → IsWrapperOf (with_zone h).shape (graph_with_zone g) p cell c t
wrapper_with_zone h g p cell c t w =
    record {
      target = w.target;
      kind_is = w.kind_is;
      comp_is = w.comp_is;
      fields_is = w.fields_is;
      target_is = w.target_is;
      known = w.known;
      mapped = w.mapped;
    }

shows-with_zone : (h : HeapState) (g : GraphState) → Shows h g → Shows (with_zone h) (graph_with_zone g)
shows-with_zone h g s = record {
  zones_are = ap (λ (n : ℕ). n + 1) s.zones_are ∙ add-one (length h.shape.states)
      ∙ sym (length_push h.shape.states state.NoGC);
  comps_are = s.comps_are;
  objects_made = s.objects_made;
  registers_are = s.registers_are;
  slots_are = s.slots_are;
  registers_held = s.registers_held;
  slots_held = s.slots_held;
  fields_held = s.fields_held;
  cells = λ p cell e. (let k = s.cells p cell e in
      record {
        stands = stands_as h.shape (with_zone h).shape g (graph_with_zone g) p cell cell.name (λ n o. o)
            (wrapper_with_zone h g p cell) k.stands;
        sized = k.sized;
        few = k.few;
        at_home = k.at_home;
      });
  apart = s.apart;
  objects_are = s.objects_are;
  wrappers_are = s.wrappers_are;
  mapped = s.mapped;
  maps_at_home = s.maps_at_home;
  entries_held = s.entries_held;
  entries_are = s.entries_are;
  entries_known = s.entries_known;
  few_objects = s.few_objects;
}

-- a number that is at most a limit, and is not the limit
below_limit : (n limit : ℕ) → n ≤ limit → n ≢ limit → n < limit
below_limit n limit most not = omega arith

zone_step : (g : GraphState) (n : ℕ) → g.zones ≡ n → n < ZONE_LIMIT
    → step_of g cmd.Zone ≡ (graph_with_zone g, reply.Zone n)
zone_step g n e lt = let t : nat_lt n ZONE_LIMIT ≡ true = grind (arith, nat_tests) in rw (e, t) refl

pub does-zone : (h : HeapState) (n : ℕ) → n ≡ length h.shape.states → n ≤ ZONE_LIMIT → n ≢ ZONE_LIMIT
    → DoesStep h cmd.Zone (Ok (reply.Zone n)) (with_zone h)
does-zone h n e most not = does-accepted h cmd.Zone (reply.Zone n) (with_zone h) (λ g s. record {
  after = graph_with_zone g;
  step = zone_step g n (s.zones_are ∙ sym e) (below_limit n ZONE_LIMIT most not);
  sure = refl;
  shows = shows-with_zone h g s;
})

-- a compartment of a zone
abbrev graph_with_comp : GraphState → ℕ → GraphState
graph_with_comp g z = record g { comps = g.comps ++ z ∷ [] }

wrapper_with_comp : (h : HeapState) (g : GraphState) (z : ℕ) (p : Place) (cell : CellState) (c : CompNo) (t : ℕ)
    → IsWrapperOf h.shape g p cell c t → IsWrapperOf (with_comp h z).shape (graph_with_comp g z) p cell c t
wrapper_with_comp h g z p cell c t w =
    record {
      target = w.target;
      kind_is = w.kind_is;
      comp_is = w.comp_is;
      fields_is = w.fields_is;
      target_is = w.target_is;
      known = w.known;
      mapped = w.mapped;
    }

shows-with_comp : (h : HeapState) (g : GraphState) (z : ℕ) → Shows h g → Shows (with_comp h z) (graph_with_comp g z)
shows-with_comp h g z s = record {
  zones_are = s.zones_are;
  comps_are = ap (λ (xs : List ℕ). xs ++ z ∷ []) s.comps_are;
  objects_made = s.objects_made;
  registers_are = s.registers_are;
  slots_are = s.slots_are;
  registers_held = s.registers_held;
  slots_held = s.slots_held;
  fields_held = s.fields_held;
  cells = λ p cell e. (let k = s.cells p cell e in record {
    stands = stands_as h.shape (with_comp h z).shape g (graph_with_comp g z) p cell cell.name (λ n o. o)
        (wrapper_with_comp h g z p cell) k.stands;
    sized = k.sized;
    few = k.few;
    at_home = get_append h.shape.comps (z ∷ []) cell.comp.0 (zone_of h.shape p) k.at_home;
  });
  apart = s.apart;
  objects_are = s.objects_are;
  wrappers_are = s.wrappers_are;
  mapped = s.mapped;
  maps_at_home = λ y e k. get_append h.shape.comps (z ∷ []) e.0.comp y (s.maps_at_home y e k);
  entries_held = s.entries_held;
  entries_are = s.entries_are;
  entries_known = s.entries_known;
  few_objects = s.few_objects;
}

comp_step : (g : GraphState) (z n : ℕ) → length g.comps ≡ n → z < g.zones → n < COMP_LIMIT
    → step_of g (cmd.Comp z) ≡ (graph_with_comp g z, reply.Comp (record { 0 = n }))
comp_step g z n e there lt =
    let t : nat_lt z g.zones ≡ true = grind (arith, nat_tests) in
    let u : nat_lt n COMP_LIMIT ≡ true = grind (arith, nat_tests) in
    rw (e, t, u) refl

pub does-comp : (h : HeapState) (z : ℕ) (c : CompNo) → c.0 ≡ length h.shape.comps → z < length h.shape.states
    → c.0 ≤ COMP_LIMIT → c.0 ≢ COMP_LIMIT → DoesStep h (cmd.Comp z) (Ok (reply.Comp c)) (with_comp h z)
does-comp h z c e there most not = does-accepted h (cmd.Comp z) (reply.Comp c) (with_comp h z) (λ g s. record {
  after = graph_with_comp g z;
  step = comp_step g z c.0 (ap (λ (xs : List ℕ). length xs) s.comps_are ∙ sym e) (let n = s.zones_are in omega arith)
      (below_limit c.0 COMP_LIMIT most not);
  sure = refl;
  shows = shows-with_comp h g z s;
})
