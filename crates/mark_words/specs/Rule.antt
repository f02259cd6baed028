-- What holds between any two steps on the black words.
use Rattle.std.specs.Prelude.{◌≡◌, ℕ, ◌+◌, ◌<◌, List, [], length, slice_index, All}
use Rattle.std.specs.Int.{bit_at}
use mathlib.Core.Option.{some}
use lib.ListN.{get_elem?}
use Rattle.atomic_table.specs.Table.{State}
use Rattle.mark_words.specs.declared.view.MarkView.{MarkView}
use Rattle.mark_words.specs.Sums.{times, total, whole}

-- the bit of a place: its word is that of its arena
abbrev pub bit_of : List ℕ → ℕ × ℕ → ℕ
bit_of words p = bit_at (slice_index words p.0) p.1

abbrev pub IsBlackIn : List ℕ → ℕ × ℕ → Type 0
IsBlackIn words p = bit_of words p ≡ 1

-- a seat's view against the words as they are now
pub record SeatRule (P : ℕ × ℕ → Type 0) (first words : List ℕ) (v : MarkView) : Type 0 where
  -- it won no place that is not listed
  pub listed : All P v.won
  -- each place that it knows to be black is in an arena, and is black
  pub inside : All (λ p. p.0 < length first) v.known
  pub black : All (IsBlackIn words) v.known
  -- a seat without parts has won nothing
  pub idle : v.parts ≡ 0 → v.won ≡ []

pub record MarkRule (P : ℕ × ℕ → Type 0) (first : List ℕ) (s : State (Unit {0}) MarkView) : Type 0 where
  -- one word stands behind those of the arenas, so that split, join and settle have a word to step on
  pub sized : length s.words ≡ length first + 1
  -- each bit is its first value and the number of times that seats won it, which is therefore 0 or 1
  pub bits : (p : ℕ × ℕ) → p.0 < length first → bit_of s.words p ≡ bit_of first p + total (λ v. times p v.won) s.views
  pub parts : total (λ v. v.parts) s.views ≡ whole
  pub seats : (id : ℕ) (v : MarkView) → get_elem? s.views id ≡ some v → SeatRule P first s.words v
