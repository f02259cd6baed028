-- The rule of marks in sentences.
use Rattle.std.proofs.Common.{ℕ, ◌<◌, List, inl, inr, arith}
use Rattle.std.specs.Int.{bit_at}
use Rattle.std.proofs.lemmas.Nat.Bits.{bit_at-lt}
use mathlib.Core.Logic.{dite}
use native.Mathlib.Decide.{ℕ_discrete}
use Rattle.atomic_table.specs.Table.{State}
use Rattle.mark_words.specs.declared.view.MarkView.{MarkView}
use Rattle.mark_words.specs.Sums.{times}
use Rattle.mark_words.specs.Rule.{bit_of, MarkRule}
use Rattle.mark_words.specs.InWords.{MarkRuleInWords}
use Rattle.mark_words.proofs.Counts.{total-at, total-two, some_counts}

pub in_words : (P : ℕ × ℕ → Type 0) (first : List ℕ) (s : State (Unit {0}) MarkView) → MarkRule P first s
    → MarkRuleInWords P first s
in_words P first s r =
    let won : ℕ × ℕ → MarkView → ℕ = λ p v. times p v.won in
    let most : (p : ℕ × ℕ) → bit_of s.words p < 2 = λ p.
    let l = bit_at-lt (Rattle.std.specs.List.slice_index s.words p.0) p.1 in omega arith in record {
      was-black = λ p lt on. let b = r.bits p lt in let m = most p in omega arith;
      won-black = λ p lt id v at w. let b = r.bits p lt in let m = most p in
          let t = total-at (won p) s.views id v at in omega arith;
      black-is = λ p lt on. dite (ℕ_discrete (bit_of first p) 1)
          (λ e. inl e)
          (λ ne. let b = r.bits p lt in let l = bit_at-lt (Rattle.std.specs.List.slice_index first p.0) p.1 in
          inr (some_counts (won p) s.views (omega arith)));
      won-fresh = λ p lt id v at w. let b = r.bits p lt in let m = most p in
          let t = total-at (won p) s.views id v at in ((omega arith), (omega arith));
      one-winner = λ p lt a b v u at at' w w'. dite (ℕ_discrete a b) (λ e. e)
          (λ ne. let c = r.bits p lt in let m = most p in let t = total-two (won p) s.views a b v u ne at at' in
          absurd (omega arith));
      won-listed = λ id v at. (r.seats id v at).listed;
    }
