-- A heap with nothing in it shows the empty graph.
use Rattle.std.proofs.Common.{◌≡◌, ℕ, zero, suc, List, [], Option, Some, None, map, length, replicate, slice_get}
use Rattle.std.proofs.Common.{slice_index_or, refl, sym, ap, subst, ◌∙◌, arith, Contains}
use Rattle.gz_names.specs.declared.numbers.Place.{Place}
use Rattle.zones.specs.declared.states.State.{State}
use Rattle.arena_table.specs.Cells.{CellState}
use Rattle.wrappers.specs.WrapperMaps.{WrappersState, list_of, place_at, place_of}
use Rattle.wrappers.specs.declared.wrapper_maps.WrapperKey.{WrapperKey}
use Rattle.colour_defs.specs.Graph.{empty_graph}
use Rattle.colour_defs.proofs.Lists.{no_name_in_nulls, nothing_in_none}
use Rattle.heap_core.specs.Shape.{ArenaShape, cell_of, cell_in_arena, field_in, held_name, name_at}
use Rattle.heap_core.specs.Heap.{HeapState, IsEmpty}
use Rattle.heap_core.specs.Shows.{Shows}
use Rattle.heap_core.specs.Answers.{IsSound}

no_place : (n c t : ℕ) → place_at (replicate n []) c t ≡ None
no_place zero c t = refl
no_place (suc n) c t = no_place n c t

no_list : (n z : ℕ) → slice_index_or (replicate {A = List (WrapperKey × Place)} n []) z [] ≡ []
no_list zero z = refl
no_list (suc n) zero = refl
no_list (suc n) (suc z) = no_list n z

module _ (h : HeapState) (e : IsEmpty h) where
  no_cell : (p : Place) → cell_of h.shape p ≡ None
  no_cell p = ap (λ (xs : List ArenaShape). cell_in_arena (slice_get xs p.0) p.1) e.arenas

  no_name : (p : Place) → name_at h.shape p ≡ None
  no_name p = ap (λ (o : Option CellState). Rattle.std.specs.Option.option_map (λ (cell : CellState). cell.name) o)
      (no_cell p)

  pub shows-empty : Shows h empty_graph
  shows-empty = record {
    zones_are = sym (ap (λ (xs : List State). length xs) e.states);
    comps_are = sym e.comps;
    objects_made = sym e.objects;
    registers_are = sym (ap (λ (xs : List (Option Place)). map (held_name h.shape) xs) e.regs);
    slots_are = sym (ap (λ (xs : List (Option Place)). map (held_name h.shape) xs) e.slots);
    registers_held = λ p m.
        absurd (no_name_in_nulls 16 p (subst (λ (xs : List (Option Place)). Contains xs (Some p)) e.regs m));
    slots_held = λ p m. absurd
        (no_name_in_nulls 64 p (subst (λ (xs : List (Option Place)). Contains xs (Some p)) e.slots m));
    fields_held = λ p q f is.
        absurd (let none : field_in (cell_of h.shape p) f ≡ None =
        ap (λ (o : Option CellState). field_in o f) (no_cell p) in cc (none, is));
    cells = λ p cell is. absurd (cc (no_cell p, is));
    apart = λ p q x a b. absurd (cc (no_name p, a));
    objects_are = λ n o is. absurd (cc is);
    wrappers_are = λ c t is. absurd (cc is);
    mapped = λ c t p is.
        absurd (let none : place_of h.shape.wrappers c.0 t ≡ None =
        ap (λ (w : WrappersState). place_of w c.0 t) e.wrappers ∙ no_place 64 c.0 t in cc (none, is));
    maps_at_home = λ z entry m.
        absurd (nothing_in_none entry
        (subst (λ (xs : List (WrapperKey × Place)). Contains xs entry)
        (ap (λ (w : WrappersState). list_of w z) e.wrappers ∙ no_list 64 z) m));
    entries_held = λ m k v is. absurd (cc (e.entries m k, is));
    entries_are = λ m k v x y z is a b c. absurd (cc (e.entries m k, is));
    entries_known = λ x y z is. absurd (cc is);
    few_objects = (let none = e.objects in omega arith);
  }

  pub sound-empty : IsSound h
  sound-empty = (empty_graph, shows-empty)
