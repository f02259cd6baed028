-- The last line of a slice that names a number of units, and is wrong.
use Rattle.std.proofs.Common.{◌≡◌, ◌∙◌, ℕ, ◌<◌, ◌≤◌, ◌^◌, Bool, true, false, List, [], Option, refl, sym, ap, subst}
use Rattle.std.proofs.Common.{arith}
use Rattle.std.specs.Prelude.{codes}
use Rattle.std.specs.Fmt.{decimal}
use Rattle.std.proofs.lemmas.Fmt.{decimal_injective}
use Rattle.std.proofs.lemmas.List.{append_cancel_left}
use Rattle.colour_defs.specs.Units.{Tally}
use Rattle.gz_names.specs.declared.replies.Reply.TheVariants as answer
use Rattle.trace_lang.specs.Texts.{reply_text}
use Rattle.judge.specs.Replies.{IsSliced, IsWithin}
use Rattle.judge.specs.Stages.{CountsAs, IsOverBound, KeepsBound, Shown, is_prepared}

-- a line names this number of units
pub record Names (line : List ℕ) (units : ℕ) : Type 0 where
  pub small : units < 2 ^ 64
  pub line_is : line ≡ reply_text (answer.Sliced units)

-- it names no other
one_number : (most : Option ℕ) (reports units : ℕ) (old new : Shown) (line : List ℕ) → Names line units
    → (l : IsSliced most reports old line new) → l.number ≡ units
one_number most reports units old new line names l = decimal_injective l.number units l.small names.small
    (append_cancel_left (codes "slice ") (decimal l.number) (decimal units) (sym l.line_is ∙ names.line_is))

pub wrong_number : (most : Option ℕ) (reports units : ℕ) (old new : Shown) (line : List ℕ) → Names line units
    → (reports ≤ units → IsWithin most units old.stage → ⊥) → IsSliced most reports old line new → ⊥
wrong_number most reports units old new line names wrong l =
    let same = one_number most reports units old new line names l in
    wrong (subst (λ (n : ℕ). reports ≤ n) same l.enough) (subst (λ (n : ℕ). IsWithin most n old.stage) same l.within)

-- the tally of the judge counts as itself
counts_itself : (b : Bool) (t : Tally) → CountsAs b t t []
counts_itself true t = (refl, refl)
counts_itself false t = ap (λ (n : ℕ). record t { sweeps = n }) (omega arith)

not_kept : (s : Shown) (k : ℕ) → IsOverBound s k → KeepsBound s k → ⊥
not_kept s k over kept =
    let same = counts_itself (is_prepared s.stage) s.tally in over s.tally [] same (kept s.tally [] same)

pub over_bound : (most : Option ℕ) (reports units : ℕ) (old new : Shown) (line : List ℕ) → Names line units
    → IsOverBound old units → IsSliced most reports old line new → ⊥
over_bound most reports units old new line names over l =
    not_kept old units over
    (subst (λ (n : ℕ). KeepsBound old n) (one_number most reports units old new line names l) l.spends.within)
