-- What a world and the judge that stands for it name alike.
use Rattle.std.proofs.Common.{◌≡◌, ◌∙◌, ◌<◌, List, Option, Some, None, Contains, ap, is_some}
use Rattle.std.proofs.Common.{length, slice_index_or, subst, sym}
use Rattle.std.proofs.lemmas.Option.{get_or_from_slice_get, slice_get-get_or}
use Rattle.gz_names.specs.declared.names.Name.{Name}
use Rattle.colour_defs.specs.Graph.{GraphState}
use Rattle.colour_defs.specs.World.{IsPresent, World}
use Rattle.colour_defs.proofs.Lists.{get_contains}
use Rattle.judge.specs.Cells.{HasCell}
use Rattle.judge.specs.Represents.{Represents}
use Rattle.judge.specs.Stages.{Shown}
use Rattle.judge.specs.Starts.{IsInRegister, IsInSlot}

-- presence is what the judge says
pub cell_of : {g : GraphState} (s : Shown) (w : World) → Represents g s w → (x : Name) → IsPresent w x
    → HasCell s.cells x
cell_of s w r x p = sym (ap is_some (r.places_are x)) ∙ p

pub present_of : {g : GraphState} (s : Shown) (w : World) → Represents g s w → (x : Name) → HasCell s.cells x
    → IsPresent w x
present_of s w r x c = ap is_some (r.places_are x) ∙ c

-- what registers and gray slots hold
held_there : (xs : List (Option Name)) (x : Name) → (c : Contains xs (Some x)) → slice_index_or xs c.0 None ≡ Some x
held_there xs x c = get_or_from_slice_get xs c.0 (Some x) None
    (slice_get-get_or xs c.0 (Some x) c.1 ∙ ap (λ (y : Option Name). Some y) c.2)

pub register_of : (g : GraphState) → length g.registers ≡ 16 → (x : Name) → Contains g.registers (Some x)
    → IsInRegister g x
register_of g many x c = (c.0, subst (λ n. c.0 < n) many c.1, held_there g.registers x c)

pub of_register : (g : GraphState) (x : Name) → IsInRegister g x → Contains g.registers (Some x)
of_register g x h = get_contains g.registers h.0 x h.2

pub slot_of : (g : GraphState) → length g.slots ≡ 64 → (x : Name) → Contains g.slots (Some x) → IsInSlot g x
slot_of g many x c = (c.0, subst (λ n. c.0 < n) many c.1, held_there g.slots x c)

pub of_slot : (g : GraphState) (x : Name) → IsInSlot g x → Contains g.slots (Some x)
of_slot g x h = get_contains g.slots h.0 x h.2
