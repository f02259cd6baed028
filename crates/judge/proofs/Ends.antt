-- What was written, and how the judge ends with it.
use Rattle.std.proofs.Common.{◌≡◌, ◌⊎◌, ℕ, inl, inr, List, Option, refl, subst, sym, ◌∙◌, codes}
use Rattle.std.specs.Io.KnownBytes.{Appends}
use Rattle.gz_io.specs.Causes.{AppendsFront, Rose}
use Rattle.judge.specs.Endings.{EndsBy}
use Rattle.judge.specs.Verdicts.{IsJudgedWhole}
use Rattle.judge.specs.declared.judging.JudgeEnd.{JudgeEnd}
use Rattle.judge.specs.declared.judging.JudgeEnd.TheVariants as end
use Rattle.judge.proofs.LawfulBytes.{lawful_bytes}
use Rattle.judge.proofs.NewPlaces.{places_new}
use Rattle.judge.proofs.Soundness.{sound_judge}

-- a text was written, and this is the end; or the sink failed
abbrev pub Wrote : JudgeEnd → JudgeEnd → Option (List ℕ) → Option (List ℕ) → List ℕ → ℕ → ℕ → Type 0
Wrote result said old new text before after =
    ((result ≡ said) × Appends old new text)
    ⊎ ((result ≡ end.WriteFault) × AppendsFront old new text × Rose before after)

pub lawful_written : (input : List ℕ) (result : JudgeEnd) (old new : Option (List ℕ)) (before after : ℕ)
    → IsJudgedWhole input → Wrote result end.Lawful old new (codes "lawful\n") before after
    → EndsBy input old new result
lawful_written input result old new before after j (inl (is, done)) =
    subst (λ r. EndsBy input old new r) (sym is) (lawful_bytes input (sound_judge places_new input j), done)
lawful_written input result old new before after j (inr (is, front, rose)) =
    subst (λ r. EndsBy input old new r) (sym is)
    (codes "lawful\n", inl (lawful_bytes input (sound_judge places_new input j), refl), front)

-- only a sink that failed ends it by a failed write, and no write ends it by a failed read
pub fault_rose : (result said : JudgeEnd) (old new : Option (List ℕ)) (text : List ℕ) (before after : ℕ)
    → (said ≡ end.WriteFault → ⊥) → Wrote result said old new text before after → result ≡ end.WriteFault
    → Rose before after
fault_rose result said old new text before after other (inl (is, done)) e = absurd (other (sym is ∙ e))
fault_rose result said old new text before after other (inr (is, front, rose)) e = rose

pub no_read_fault : (result said : JudgeEnd) (old new : Option (List ℕ)) (text : List ℕ) (before after : ℕ)
    → (said ≡ end.ReadFault → ⊥) → Wrote result said old new text before after → result ≡ end.ReadFault → ⊥
no_read_fault result said old new text before after other (inl (is, done)) e = other (sym is ∙ e)
no_read_fault result said old new text before after other (inr (is, front, rose)) e =
    let q : end.WriteFault ≡ end.ReadFault = sym is ∙ e in cc q
