-- What commands on weak slots and watched cells answer and leave, by places.
use Rattle.std.specs.Prelude.{◌≡◌, ℕ, Bool, false, Option, Some, None, Result, Ok, Err, slice_index_or, if◌then◌else◌}
use Rattle.gz_names.specs.declared.numbers.Place.{Place}
use Rattle.gz_names.specs.declared.replies.CmdFault.{CmdFault}
use Rattle.gz_names.specs.declared.replies.CmdFault.TheVariants as fault
use Rattle.gz_names.specs.declared.replies.Refusal.TheVariants as refusal
use Rattle.gz_names.specs.declared.replies.Reply.{Reply}
use Rattle.gz_names.specs.declared.replies.Reply.TheVariants as reply
use Rattle.weak_refs.specs.WeakNames as names
use Rattle.heap_core.specs.Heap.{HeapState}

-- what a weak slot names
abbrev pub weak_slot_of : HeapState → ℕ → Option Place
weak_slot_of h q = slice_index_or h.weak_names.slots q None

-- a weak slot names this
abbrev pub with_weak_slot : HeapState → ℕ → Option Place → HeapState
with_weak_slot h q v = record h { weak_names = names.with_slot h.weak_names q v }

-- whether a cell is watched; the heap where it is, and where it is not
abbrev pub is_watched : HeapState → Place → Bool
is_watched h p = names.is_watched h.weak_names p

abbrev pub with_watched : HeapState → Place → HeapState
with_watched h p = record h { weak_names = names.with_watched h.weak_names p }

abbrev pub without_watched : HeapState → Place → HeapState
without_watched h p = record h { weak_names = names.without_watched h.weak_names p }

-- what is held is watched from now on, or nothing is held. Memory may be wanted where it was not watched
abbrev pub Watches : HeapState → Option Place → Result Reply CmdFault → HeapState → Type 0
Watches old None result new = (result ≡ Err (fault.Refused refusal.Empty)) × (new ≡ old)
Watches old (Some p) (Ok answer) new = (answer ≡ reply.Accepted) × (new ≡ with_watched old p)
Watches old (Some p) (Err why) new = (why ≡ fault.NoMemory) × (new ≡ old) × (is_watched old p ≡ false)

-- what is held is watched no longer, or nothing is held
abbrev pub Unwatches : HeapState → Option Place → Result Reply CmdFault → HeapState → Type 0
Unwatches old None result new = (result ≡ Err (fault.Refused refusal.Empty)) × (new ≡ old)
Unwatches old (Some p) result new =
    (result ≡ Ok (if is_watched old p then reply.Accepted else reply.Absent)) × (new ≡ without_watched old p)
