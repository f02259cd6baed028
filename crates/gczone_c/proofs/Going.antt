-- How what a handle leads to goes over, by a call on what was taken out and is put back.
use Rattle.std.proofs.Common.{◌≡◌, Option, Some, subst, sym}
use Rattle.gczone_c.specs.Calls.{GoesOver}
use Rattle.gczone_c.specs.declared.held.Held.{Held}

-- a was taken out and lent as x, and b is put back: what the call did to x goes for the handle
pub goes_by : (C : Type 0) (P : Held → Held → Type 0) {old new : Option Held} {a b x : Held}
    → old ≡ Some a → x ≡ a → new ≡ Some b → P x b → GoesOver C P old new
goes_by C P {new = new} {a = a} {b = b} taken lent back does =
    subst (λ (o : Option Held). GoesOver C P o new) (sym taken)
    (subst (λ (n : Option Held). GoesOver C P (Some a) n) (sym back) (subst (λ (y : Held). P y b) lent does))
