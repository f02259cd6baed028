-- The lowest arena that is handed to sweeping.
use Rattle.std.proofs.Common.{◌≡◌, ◌≤◌, ℕ, zero, suc, false, Option, None, Some, is_some, List, []}
use Rattle.std.proofs.Common.{◌∷◌, length, slice_get, refl, arith}
use Rattle.heap_core.specs.Shape.{ArenaShape, out_in}

-- past the last arena none is out
pub out_past : (arenas : List ArenaShape) (a : ℕ) → length arenas ≤ a → out_in (slice_get arenas a) ≡ None
out_past [] a le = refl
out_past (x ∷ arenas) zero le = absurd (omega arith)
out_past (x ∷ arenas) (suc a) le = out_past arenas a (omega arith)

pub is_none : {X : Type 0} (o : Option X) → is_some o ≡ false → o ≡ None
is_none None e = refl
is_none (Some b) e = absurd (cc e)
