-- What a handle that C holds owns.
use Rattle.std.specs.Prelude.{Option, None, Some}
use Rattle.std.specs.Box.Ownership.{box_owns}
use Rattle.std.specs.contracts.impls.GlobalAllocator.TheImpl.{ghosts}
use Rattle.std.specs.declared.alloc.Global.{Global}
use mir.Syntax.{Ty}
use base.Fml.{Fml, feq}
use denote.RattleType.{RattleType}
use denote.RawPtr.{Ptr, null_ptr}

-- the heap of malloc: `Global` has this value alone
abbrev pub heap : Global
heap = record { memory = record { seal = tt } }

-- the right to free a block of it
abbrev pub may_free : Ty → Ptr → Fml
may_free τ p = ghosts.dealloc_token heap τ p

-- a box of that heap at p, or a null pointer
abbrev pub owns_box : (R : RattleType) → Ptr → Option R.Denot → Fml
owns_box R p None = feq Ptr p null_ptr
owns_box R p (Some x) = box_owns may_free R p x
