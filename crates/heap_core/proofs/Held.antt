-- Commands that change what registers and gray slots hold.
use Rattle.std.proofs.Common.{◌≡◌, ℕ, inl, inr, List, Option, Some, None, Ok, slice_set, refl, sym, ap, ◌∙◌}
use Rattle.std.specs.Option.{ForSome}
use Rattle.std.proofs.lemmas.List.{map-set}
use Rattle.gz_names.specs.declared.names.Name.{Name}
use Rattle.gz_names.specs.declared.numbers.Place.{Place}
use Rattle.gz_names.specs.declared.commands.GraphCmd.{GraphCmd}
use Rattle.gz_names.specs.declared.commands.GraphCmd.TheVariants as cmd
use Rattle.gz_names.specs.declared.replies.Reply.TheVariants as reply
use Rattle.gz_names.specs.declared.numbers.CompNo.{CompNo}
use Rattle.arena_table.specs.Cells.{CellState}
use Rattle.colour_defs.specs.Graph.{GraphState}
use Rattle.colour_defs.specs.Step as step
use Rattle.colour_defs.specs.Step.{step_of, take_in_register, named_or_null, refusal_in}
use Rattle.colour_defs.proofs.Lists.{contains_set_cases}
use Rattle.heap_core.specs.Shape.{IsPresent, held_name}
use Rattle.heap_core.specs.Heap.{HeapState, reg_of, with_reg, with_slot}
use Rattle.heap_core.specs.Shows.{Shows, IsWrapperOf}
use Rattle.heap_core.specs.Answers.{DoesStep}
use Rattle.heap_core.proofs.Shown.{stands_as, reg_shown, reg_present}
use Rattle.heap_core.proofs.Stepping.{does-accepted}

-- a cell stands for its name also where only registers and slots are others
wrapper_held : (h : HeapState) (g : GraphState) (r : ℕ) (v : Option Place) (x : Option Name) (p : Place)
    (cell : CellState) (c : CompNo) (t : ℕ) → IsWrapperOf h.shape g p cell c t
    → IsWrapperOf (with_reg h r v).shape (step.with_register g r x) p cell c t
wrapper_held h g r v x p cell c t w =
    record {
      target = w.target;
      kind_is = w.kind_is;
      comp_is = w.comp_is;
      fields_is = w.fields_is;
      target_is = w.target_is;
      known = w.known;
      mapped = w.mapped;
    }

wrapper_in_slot : (h : HeapState) (g : GraphState) (r : ℕ) (v : Option Place) (x : Option Name) (p : Place)
    (cell : CellState) (c : CompNo) (t : ℕ) → IsWrapperOf h.shape g p cell c t
    → IsWrapperOf (with_slot h r v).shape (step.with_slot g r x) p cell c t
wrapper_in_slot h g r v x p cell c t w =
    record {
      target = w.target;
      kind_is = w.kind_is;
      comp_is = w.comp_is;
      fields_is = w.fields_is;
      target_is = w.target_is;
      known = w.known;
      mapped = w.mapped;
    }

-- a register takes a present cell, or becomes empty
pub shows-with_reg : (h : HeapState) (g : GraphState) (r : ℕ) (v : Option Place) → Shows h g
    → ForSome v (IsPresent h.shape) → Shows (with_reg h r v) (step.with_register g r (held_name h.shape v))
shows-with_reg h g r v s there = record {
  zones_are = s.zones_are;
  comps_are = s.comps_are;
  objects_made = s.objects_made;
  registers_are = ap (λ (xs : List (Option Name)). slice_set xs r (held_name h.shape v)) s.registers_are
      ∙ sym (map-set (held_name h.shape) h.shape.regs r v);
  slots_are = s.slots_are;
  registers_held = λ p c. elim (contains_set_cases h.shape.regs r v (Some p) c) [
    | inl k ↦ s.registers_held p k
    | inr e
        ↦ there p e
  ];
  slots_held = s.slots_held;
  fields_held = s.fields_held;
  cells = λ p cell e. (let k = s.cells p cell e in
      record {
        stands = stands_as h.shape (with_reg h r v).shape g (step.with_register g r (held_name h.shape v)) p cell
            cell.name (λ n e. e) (wrapper_held h g r v (held_name h.shape v) p cell) k.stands;
        sized = k.sized;
        few = k.few;
        at_home = k.at_home;
      });
  apart = s.apart;
  objects_are = s.objects_are;
  wrappers_are = s.wrappers_are;
  mapped = s.mapped;
  maps_at_home = s.maps_at_home;
  entries_held = s.entries_held;
  entries_are = s.entries_are;
  entries_known = s.entries_known;
  few_objects = s.few_objects;
}

-- a gray slot does
pub shows-with_slot : (h : HeapState) (g : GraphState) (r : ℕ) (v : Option Place) → Shows h g
    → ForSome v (IsPresent h.shape) → Shows (with_slot h r v) (step.with_slot g r (held_name h.shape v))
shows-with_slot h g r v s there = record {
  zones_are = s.zones_are;
  comps_are = s.comps_are;
  objects_made = s.objects_made;
  registers_are = s.registers_are;
  slots_are = ap (λ (xs : List (Option Name)). slice_set xs r (held_name h.shape v)) s.slots_are
      ∙ sym (map-set (held_name h.shape) h.shape.slots r v);
  registers_held = s.registers_held;
  slots_held = λ p c. elim (contains_set_cases h.shape.slots r v (Some p) c) [
    | inl k ↦ s.slots_held p k
    | inr e
        ↦ there p e
  ];
  fields_held = s.fields_held;
  cells = λ p cell e. (let k = s.cells p cell e in
      record {
        stands = stands_as h.shape (with_slot h r v).shape g (step.with_slot g r (held_name h.shape v)) p cell
            cell.name (λ n e. e) (wrapper_in_slot h g r v (held_name h.shape v) p cell) k.stands;
        sized = k.sized;
        few = k.few;
        at_home = k.at_home;
      });
  apart = s.apart;
  objects_are = s.objects_are;
  wrappers_are = s.wrappers_are;
  mapped = s.mapped;
  maps_at_home = s.maps_at_home;
  entries_held = s.entries_held;
  entries_are = s.entries_are;
  entries_known = s.entries_known;
  few_objects = s.few_objects;
}

-- a reply that names what is held is no refusal
pub named_sure : (x : Option Name) → refusal_in (named_or_null x) ≡ None
named_sure None = refl
named_sure (Some x) = refl

-- a register takes what a command looked up, and the reply names it
pub does-take : (h : HeapState) (c : GraphCmd) (r : ℕ) (v : Option Place)
    → ((g : GraphState) → Shows h g → ForSome v (IsPresent h.shape))
    → ((g : GraphState) → Shows h g → step_of g c ≡ take_in_register g r (held_name h.shape v))
    → DoesStep h c (Ok (named_or_null (held_name h.shape v))) (with_reg h r v)
does-take h c r v there e = does-accepted h c (named_or_null (held_name h.shape v)) (with_reg h r v) (λ g s. record {
  after = step.with_register g r (held_name h.shape v);
  step = e g s;
  sure = named_sure (held_name h.shape v);
  shows = shows-with_reg h g r v s (there g s);
})

pub does-copy : (h : HeapState) (r s : ℕ) → DoesStep h (cmd.Copy r s) (Ok reply.Accepted) (with_reg h r (reg_of h s))
does-copy h r s = does-accepted h (cmd.Copy r s) reply.Accepted (with_reg h r (reg_of h s)) (λ g k. record {
  after = step.with_register g r (held_name h.shape (reg_of h s));
  step = ap (λ (x : Option Name). (step.with_register g r x, reply.Accepted)) (reg_shown h g s k);
  sure = refl;
  shows = shows-with_reg h g r (reg_of h s) k (λ p e. reg_present h g s p k e);
})

pub does-drop : (h : HeapState) (r : ℕ) → DoesStep h (cmd.Drop r) (Ok reply.Accepted) (with_reg h r None)
does-drop h r = does-accepted h (cmd.Drop r) reply.Accepted (with_reg h r None) (λ g k. record {
  after = step.with_register g r None;
  step = refl;
  sure = refl;
  shows = shows-with_reg h g r None k (λ p e. absurd (cc e));
})

pub does-hold : (h : HeapState) (g r : ℕ) → DoesStep h (cmd.Hold g r) (Ok reply.Accepted) (with_slot h g (reg_of h r))
does-hold h g r = does-accepted h (cmd.Hold g r) reply.Accepted (with_slot h g (reg_of h r)) (λ j k. record {
  after = step.with_slot j g (held_name h.shape (reg_of h r));
  step = ap (λ (x : Option Name). (step.with_slot j g x, reply.Accepted)) (reg_shown h j r k);
  sure = refl;
  shows = shows-with_slot h j g (reg_of h r) k (λ p e. reg_present h j r p k e);
})

pub does-release : (h : HeapState) (g : ℕ) → DoesStep h (cmd.Release g) (Ok reply.Accepted) (with_slot h g None)
does-release h g = does-accepted h (cmd.Release g) reply.Accepted (with_slot h g None) (λ j k. record {
  after = step.with_slot j g None;
  step = refl;
  sure = refl;
  shows = shows-with_slot h j g None k (λ p e. absurd (cc e));
})
