-- What a command answers, and what it leaves.
use Rattle.std.specs.Prelude.{◌≡◌, None, Result, Ok, Err}
use Rattle.gz_names.specs.declared.commands.GraphCmd.{GraphCmd}
use Rattle.gz_names.specs.declared.replies.Reply.{Reply}
use Rattle.gz_names.specs.declared.replies.Reply.TheVariants as reply
use Rattle.gz_names.specs.declared.replies.CmdFault.{CmdFault}
use Rattle.gz_names.specs.declared.replies.CmdFault.TheVariants as fault
use Rattle.colour_defs.specs.Graph.{GraphState}
use Rattle.colour_defs.specs.Step.{step_of, refusal_in}
use Rattle.heap_core.specs.Heap.{HeapState}
use Rattle.heap_core.specs.Shows.{Shows}

-- the answer gives this reply: a refusal is answered as such, and memory runs out only where the command is not
-- refused
abbrev pub IsAnswer : Reply → Result Reply CmdFault → Type 0
IsAnswer r (Ok answer) = (answer ≡ r) × (refusal_in r ≡ None)
IsAnswer r (Err (fault.Refused why)) = r ≡ reply.Refused why
IsAnswer r (Err fault.NoMemory) = refusal_in r ≡ None

-- the heap after a command: it shows the graph after it, or is as it was
abbrev pub IsAfter : HeapState → GraphState → Result Reply CmdFault → HeapState → Type 0
IsAfter old g (Ok answer) new = Shows new g
IsAfter old g (Err fault) new = new ≡ old

-- on each graph that the heap shows, the command answers and does what the step on that graph says
abbrev pub DoesStep : HeapState → GraphCmd → Result Reply CmdFault → HeapState → Type 0
DoesStep old c result new = (g : GraphState) → Shows old g → IsAnswer (step_of g c).1 result
    × IsAfter old (step_of g c).0 result new

-- the heap shows some graph
abbrev pub IsSound : HeapState → Type 0
IsSound h = (g : GraphState) × Shows h g
