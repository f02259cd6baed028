-- Pinned roots stand behind the sixteen registers.
use Rattle.std.proofs.Common.{◌≡◌, ◌≢◌, ◌<◌, ◌+◌, ◌-◌, ◌++◌, ℕ, List, Option, Some, None, OnSome, IfNone, length, set}
use Rattle.std.proofs.Common.{slice_index_or, ap, sym, subst, ◌∙◌, inl, inr, arith}
use Rattle.std.proofs.lemmas.Bool.{cases_lt}
use Rattle.std.proofs.lemmas.List.{get_or-append-add, get_or_append_left, get_or-append_right, set-append_right}
use Rattle.std.proofs.lemmas.List.{set-get_or}
use Rattle.slab.specs.Slab.{Slab, get, Updates}
use Rattle.gz_names.specs.declared.numbers.Place.{Place}

module _ (regs : List (Option Place)) (sixteen : length regs ≡ 16) where
  -- what is held behind the registers
  pub held-pinned : (slots : List (Option Place)) (root : ℕ)
      → slice_index_or (regs ++ slots) (16 + root) None ≡ slice_index_or slots root None
  held-pinned slots root =
      subst (λ (n : ℕ). slice_index_or (regs ++ slots) (n + root) None ≡ slice_index_or slots root None) sixteen
      (get_or-append-add regs slots root None)

  -- a write behind the registers
  pub set-pinned : (slots : List (Option Place)) (root : ℕ) (held : Option Place)
      → set (regs ++ slots) (16 + root) held ≡ regs ++ set slots root held
  set-pinned slots root held =
      set-append_right regs slots 16 (16 + root) held sixteen (omega arith)
      ∙ ap (λ n. regs ++ set slots n held) (omega arith)

  -- where one pinned root is written, what all others and the registers hold stays
  pub others-pinned : (old new : Slab Place) (root : ℕ) (held : Option Place) → Updates old new root held → (n : ℕ)
      → n ≢ 16 + root → slice_index_or (regs ++ new.slots) n None ≡ slice_index_or (regs ++ old.slots) n None
  others-pinned old new root held updates n differs = elim (cases_lt n 16) [
    | inl less ↦
        (let within : n < length regs = omega (arith, sixteen) in
        get_or_append_left regs new.slots None n within ∙ sym (get_or_append_left regs old.slots None n within))
    | inr least ↦
        get_or-append_right regs new.slots 16 n None sixteen least
        ∙ (updates.others (n - 16) (λ e. differs (omega arith))
        ∙ sym (get_or-append_right regs old.slots 16 n None sixteen least))
  ]

-- what a removal leaves, whether there was something or not
pub slots-removed : (old new : Slab Place) (root : ℕ) (removed : Option Place) → removed ≡ get old root
    → OnSome removed (new.slots ≡ set old.slots root None) → IfNone removed (new ≡ old)
    → new.slots ≡ set old.slots root None
slots-removed old new root None held some none =
    ap (λ (s : Slab Place). s.slots) none
    ∙ sym (ap (λ v. set old.slots root v) held ∙ set-get_or old.slots root None)
slots-removed old new root (Some place) held some none = some
