-- What a slot owns is as much worth to every thread: a box of malloc's memory, which any thread may free.
use Rattle.std.specs.Prelude.{Option, None, Some}
use Rattle.std.proofs.Crossing.{frees}
use mir.Raw.{raw}
use base.Fraction.{full_share}
use base.Shift.{Keyless}
use denote.Builtin.{RawPtr}
use denote.Memory.{lone}
use denote.Param.Send.{IsSend, owning_send, part_keyless, sendable}
use denote.RawPtr.{Ptr, block_ptr, null_ptr}
use Rattle.gczone_c.specs.Owned.{heap, owns_box}
use Rattle.gczone_c.specs.declared.held.Held.{Held}
use Rattle.gczone_c.specs.contracts.held.Held.{the_row as held_row}
use Rattle.gczone_c.proofs.Sent.{held_send}
use Rattle.gczone_c.specs.contracts.handle.Slot as slot

pointer : IsSend RawPtr
pointer = search sendable

keyless : (p : Ptr) (held : Option Held) → Keyless (owns_box held_row p held)
keyless p None = tt
keyless null_ptr (Some x) = (tt, frees.frees heap (raw (lone (held_row).mir)) null_ptr)
keyless (block_ptr b o) (Some x) = (
  part_keyless held_row held_send full_share x b o,
  frees.frees heap (raw (lone (held_row).mir)) (block_ptr b o),
)

pub send : IsSend slot.the_row
send = owning_send slot.the_type (pointer, tt) (λ d. keyless d.at d.held) (λ k d w. tt)
