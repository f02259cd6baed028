use Rattle.std.proofs.Common.{◌≡◌, ap, arith, length, refl, sum_by}
use Rattle.roots.specs.Buffers.{lists_of}
use Rattle.roots.proofs.Buffering.{IsWaiting-none, length-empty}
use Rattle.roots.proofs.roots_held.Roots.new.Goals as goal

pub invariant_of-result : goal.invariant_of-result
invariant_of-result c =
    let none : sum_by length (lists_of c.in_ok-buffers.buffers.items) ≡ 0 =
    ap (sum_by length) c.in_ok-buffers.ensures in (
      length-empty c.in_ok-buffers.buffers.items c.in_ok-buffers.ensures,
      IsWaiting-none _ c.in_ok-buffers.ensures,
      omega (arith, none),
      refl,
    )
