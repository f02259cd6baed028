-- An entry of a list.
use Rattle.std.proofs.Common.{Option, IfSome, ◌≡◌, ◌∙◌, ℕ, List, Some, None, map, slice_get, sym, ap}
use Rattle.std.specs.Option.{option_map}
use Rattle.std.proofs.lemmas.Option.{slice_get-map}

-- what stands at a number that is listed
pub listed_at : {E : Type 0} (entry_of : ℕ → E) (numbers : List ℕ) (i x : ℕ) (e : E) → slice_get numbers i ≡ Some x
    → entry_of x ≡ e → Some e ≡ slice_get (map entry_of numbers) i
listed_at entry_of numbers i x e at is =
    sym (slice_get-map entry_of numbers i ∙ (ap (option_map entry_of) at ∙ ap (λ z. Some z) is))

pub listed_none : {E : Type 0} (entry_of : ℕ → E) (numbers : List ℕ) (i : ℕ) → slice_get numbers i ≡ None
    → None ≡ slice_get (map entry_of numbers) i
listed_none entry_of numbers i none = sym (slice_get-map entry_of numbers i ∙ ap (option_map entry_of) none)

-- what holds anyway
pub IfSome_each : {X P : Type 0} (r : Option X) → P → IfSome r (λ _. P)
IfSome_each None h = tt
IfSome_each (Some x) h = h
