-- The mark rule in sentences.
use Rattle.std.specs.Prelude.{◌≡◌, ℕ, ◌<◌, ◌⊎◌, List, length, All}
use mathlib.Core.Option.{some}
use lib.ListN.{get_elem?}
use Rattle.atomic_table.specs.Table.{State}
use Rattle.mark_words.specs.declared.view.MarkView.{MarkView}
use Rattle.mark_words.specs.Sums.{times}
use Rattle.mark_words.specs.Rule.{bit_of}

-- the view stands at this place among all views
abbrev pub IsViewAt : State (Unit {0}) MarkView → ℕ → MarkView → Type 0
IsViewAt s id v = get_elem? s.views id ≡ some v

abbrev pub Won : MarkView → ℕ × ℕ → Type 0
Won v p = 0 < times p v.won

pub record MarkRuleInWords (P : ℕ × ℕ → Type 0) (first : List ℕ) (s : State (Unit {0}) MarkView) : Type 0 where
  -- a slot is black exactly if it was black at first or some seat won it
  pub was-black : (p : ℕ × ℕ) → p.0 < length first → bit_of first p ≡ 1 → bit_of s.words p ≡ 1
  pub won-black : (p : ℕ × ℕ) → p.0 < length first → (id : ℕ) (v : MarkView) → IsViewAt s id v → Won v p
      → bit_of s.words p ≡ 1
  pub black-is : (p : ℕ × ℕ) → p.0 < length first → bit_of s.words p ≡ 1 → (bit_of first p ≡ 1)
      ⊎ ((id : ℕ) × (v : MarkView) × IsViewAt s id v × Won v p)
  -- a cell that was won was white at first, and was won once, by one seat
  pub won-fresh : (p : ℕ × ℕ) → p.0 < length first → (id : ℕ) (v : MarkView) → IsViewAt s id v → Won v p
      → (bit_of first p ≡ 0) × (times p v.won ≡ 1)
  pub one-winner : (p : ℕ × ℕ) → p.0 < length first → (a b : ℕ) (v u : MarkView) → IsViewAt s a v → IsViewAt s b u
      → Won v p → Won u p → a ≡ b
  -- each cell that was won is listed
  pub won-listed : (id : ℕ) (v : MarkView) → IsViewAt s id v → All P v.won
