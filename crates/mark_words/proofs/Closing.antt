-- The words as marks are closed.
use Rattle.std.proofs.Common.{◌≡◌, ℕ, zero, suc, ◌+◌, ◌<◌, List, [], ◌∷◌, length, get_or, set, sym, ap}
use Rattle.std.proofs.Common.{◌∙◌, arith, get_or-set_same, get_or-set_other}
use Rattle.std.specs.Int.{bit_at}
use mathlib.Core.Logic.{dite}
use mathlib.Core.Option.{some, some-injective, some-ne-none}
use native.Mathlib.Decide.{ℕ_discrete}
use lib.ListN.{get_elem?}
use Rattle.atomic_table.specs.Table.{State, Final, Seen}
use Rattle.mark_words.specs.declared.view.MarkView.{MarkView}
use Rattle.mark_words.specs.Sums.{times, whole}
use Rattle.mark_words.specs.Rule.{bit_of, MarkRule}
use Rattle.mark_words.proofs.TableSteps.{alone}

read_at : (ys : List ℕ) (k n : ℕ) → get_elem? ys k ≡ some n → get_or ys k 0 ≡ n
read_at [] k n e = absurd (some-ne-none n (sym e))
read_at (y ∷ ys) zero n e = some-injective y n e
read_at (y ∷ ys) (suc k) n e = read_at ys k n e

-- one word more is as the table had it
pub copied : (xs ys : List ℕ) (k n : ℕ) → k < length xs → get_elem? ys k ≡ some n
    → ((i : ℕ) → i < k → get_or xs i 0 ≡ get_or ys i 0) → (i : ℕ) → i < k + 1 → get_or (set xs k n) i 0 ≡ get_or ys i 0
copied xs ys k n lt e old i more = dite (ℕ_discrete i k)
    (λ same. ap (λ (z : ℕ). get_or (set xs k n) z 0) same ∙ get_or-set_same xs k n 0 lt ∙ sym (read_at ys k n e)
    ∙ ap (λ (z : ℕ). get_or ys z 0) (sym same))
    (λ ne. get_or-set_other xs k i n 0 ne ∙ old i (omega arith))

pub closing : (P : ℕ × ℕ → Type 0) (first words last : List ℕ) (slots : List (Unit {0})) (id : ℕ) (v : MarkView)
    → Final (Seen (MarkRule P first) id v) words slots → v.parts ≡ whole
    → ((i : ℕ) → i < length first → get_or last i 0 ≡ get_or words i 0)
    → (p : ℕ × ℕ) → p.0 < length first → bit_of last p ≡ bit_of first p + times p v.won
closing P first words last slots id v f all same p lt =
    let s : State (Unit {0}) MarkView = f.0 in
    let r = f.1.0 in
    let b = r.bits p lt in
    let a = alone P first s r id v f.1.1 all p in
    let e : bit_of last p ≡ bit_of s.words p = ap (λ (n : ℕ). bit_at n p.1) (same p.0 lt)
    ∙ ap (λ (l : List ℕ). bit_of l p) (sym f.2) in omega arith
