-- What a step tells a seat.
use Rattle.std.specs.Prelude.{◌≡◌, ◌≢◌, ℕ, ◌+◌, List, [], bit_and, All}
use Rattle.std.specs.Int.{bit_not, w64}
use Rattle.atomic_table.specs.Table.{Me, Step}
use Rattle.mark_words.specs.declared.view.MarkView.{MarkView}
use Rattle.mark_words.specs.Sums.{times, whole}
use Rattle.mark_words.specs.Rule.{bit_of}
use Rattle.mark_words.specs.Places.{places_of}
use Rattle.mark_words.specs.Views.{with_tried}

abbrev Sat : Type 0
Sat = Me (Unit {0}) MarkView

-- the first places were tried, and of these the second were won: this seat had not won them before, and they were white
-- at first
pub record HasTried (v : MarkView) (tried won : List (ℕ × ℕ)) (w : MarkView) : Type 0 where
  pub view_is : w ≡ with_tried v tried won
  pub unwon : All (λ p. times p v.won ≡ 0) won
  pub white : All (λ p. bit_of v.first p ≡ 0) won

-- the seat tries the places of the step's mask, and wins those whose bits the word lacks
abbrev pub tries : Step (Unit {0}) → Sat → ℕ → Sat → Type 0
tries st m n m' = (m'.1 ≡ m.1) × (m'.0.first ≡ m.0.first)
    × HasTried m.0 (places_of st.word st.first) (places_of st.word (bit_and st.first (bit_not w64 n))) m'.0

-- the seat looks whether the word has all of these slots: if so, it has tried their places, and has won none
abbrev pub looks : ℕ → Step (Unit {0}) → Sat → ℕ → Sat → Type 0
looks slots st m n m' = (m'.1 ≡ m.1) × (m'.0.first ≡ m.0.first)
    × (bit_and slots (bit_not w64 n) ≡ 0 → HasTried m.0 (places_of st.word slots) [] m'.0)
    × (bit_and slots (bit_not w64 n) ≢ 0 → m'.0 ≡ m.0)

-- each place that the seat tried was black at first, or was won by it, once
abbrev pub KnowsAll : MarkView → Type 0
KnowsAll v = All (λ p. bit_of v.first p + times p v.won ≡ 1) v.known

abbrev pub settles : Step (Unit {0}) → Sat → ℕ → Sat → Type 0
settles st m n m' = (m' ≡ m) × (m.0.parts ≡ whole → KnowsAll m.0)
