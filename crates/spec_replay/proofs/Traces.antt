-- Traces of the language.
use Rattle.std.proofs.Common.{◌≡◌, ◌≢◌, ℕ, zero, suc, ◌+◌, ◌⊎◌, inl, inr, List, [], ◌∷◌, ◌++◌, length, Some}
use Rattle.std.proofs.Common.{sym, refl, subst, ◌∙◌, arith}
use Rattle.gz_io.specs.Lines.{EndsLine, Gives, IsNotAscii, IsPlain, IsTooLong}
use Rattle.gz_io.specs.declared.reader.Next.{Next}
use Rattle.gz_io.specs.declared.reader.Next.TheVariants as reader
use Rattle.gz_io.proofs.Once.{only_answer}
use Rattle.gz_names.specs.declared.commands.Cmd.{Cmd}
use Rattle.trace_lang.specs.Grammar.{Spells}
use Rattle.trace_lang.proofs.Fine.{spells_fine}
use Rattle.spec_replay.specs.Answers.{IsTrace}

-- a line without a line feed ends at the first one
cut_same : (line text ys zs : List ℕ) → IsPlain line → IsPlain text → line ++ 10 ∷ ys ≡ text ++ 10 ∷ zs
    → (line ≡ text) × (ys ≡ zs)
cut_same [] [] ys zs p q e = (refl, cc e)
cut_same [] (t ∷ text) ys zs p q e = absurd (q.1 (cc e))
cut_same (b ∷ line) [] ys zs p q e = absurd (p.1 (cc e))
cut_same (b ∷ line) (t ∷ text) ys zs p q e =
    let first : b ≡ t = cc e in
    let rest : line ++ 10 ∷ ys ≡ text ++ 10 ∷ zs = cc e in
    let r = cut_same line text ys zs p.2 q.2 rest in
    let same : line ≡ text = r.0 in (cc (first, same), r.1)

no_feed : (line ys : List ℕ) → IsPlain (line ++ 10 ∷ ys) → ⊥
no_feed [] ys p = p.1 refl
no_feed (b ∷ line) ys p = no_feed line ys p.2

same_line : (xs ys zs line text : List ℕ) → IsPlain line → IsPlain text → EndsLine xs ys line
    → EndsLine xs zs text → (line ≡ text) × (ys ≡ zs)
same_line xs ys zs line text p q (inl a) (inl b) = cut_same line text ys zs p q (sym a ∙ b)
same_line xs ys zs line text p q (inl a) (inr b) = absurd (no_feed line ys (subst IsPlain (sym b.0 ∙ a) q))
same_line xs ys zs line text p q (inr a) (inl b) = absurd (no_feed text zs (subst IsPlain (sym a.0 ∙ b) p))
same_line xs ys zs line text p q (inr a) (inr b) = (sym a.0 ∙ b.0, a.2 ∙ sym b.2)

some_there : (line : List ℕ) (b : ℕ) (ys : List ℕ) → line ++ b ∷ ys ≡ [] → ⊥
some_there [] b ys e = cc e
some_there (x ∷ line) b ys e = cc e

line_there : (rest more line : List ℕ) → EndsLine rest more line → rest ≡ [] → ⊥
line_there rest more line (inl e) none = some_there line 10 more (sym e ∙ none)
line_there rest more [] (inr e) none = omega (arith, e.1)
line_there rest more (b ∷ line) (inr e) none = cc (sym e.0 ∙ none)

-- the line that is given is the trace's next one
pub trace_line : (k : ℕ) (rest more line : List ℕ) (size : ℕ) → IsTrace k rest
    → Gives rest more (reader.Line size) line
    → (j : ℕ) × IsTrace j more × (j + 1 ≡ k) × (c : Cmd) × Spells line c
trace_line zero rest more line size t g = absurd (line_there rest more line g.3 t)
trace_line (suc j) rest more line size t g =
    let fine = spells_fine t.0 t.2 t.4 in
    let same = same_line rest t.1 more t.0 line fine.plain g.2 t.3 g.3 in
    (j, subst (IsTrace j) same.1 t.5, omega arith, t.2, subst (λ l. Spells l t.2) same.0 t.4)

-- what a trace of the language begins with is no line that is refused
record Comes (rest : List ℕ) : Type 0 where
  answer : Next
  more : List ℕ
  line : List ℕ
  gives : Gives rest more answer line
  no_fault : answer ≢ reader.ReadFault
  not_long : answer ≢ reader.TooLong
  ascii : answer ≢ reader.NotAscii

comes : (k : ℕ) (rest : List ℕ) → IsTrace k rest → Comes rest
comes zero rest t = record {
  answer = reader.End;
  more = [];
  line = [];
  gives = (t, refl);
  no_fault = λ e. cc e;
  not_long = λ e. cc e;
  ascii = λ e. cc e;
}
comes (suc j) rest t =
    let fine = spells_fine t.0 t.2 t.4 in
    record {
      answer = reader.Line (length t.0);
      more = t.1;
      line = t.0;
      gives = (refl, omega (arith, fine.short), fine.plain, t.3);
      no_fault = λ e. cc e;
      not_long = λ e. cc e;
      ascii = λ e. cc e;
    }

only_one : (r s : Next) → r ≢ reader.ReadFault → s ≢ r → (r ≡ reader.ReadFault) ⊎ (r ≡ s) → ⊥
only_one r s n m (inl e) = n e
only_one r s n m (inr e) = m (sym e)

pub trace_good : (k : ℕ) (rest : List ℕ) → IsTrace k rest → IsTooLong rest ⊎ IsNotAscii rest → ⊥
trace_good k rest t (inl long) =
    let n = comes k rest t in
    only_one reader.TooLong n.answer (λ e. cc e) n.not_long
    (only_answer (Some rest) (Some rest) [] reader.TooLong (refl, long) n.answer n.more n.line n.gives n.no_fault)
trace_good k rest t (inr high) =
    let n = comes k rest t in
    only_one reader.NotAscii n.answer (λ e. cc e) n.ascii
    (only_answer (Some rest) (Some rest) [] reader.NotAscii (refl, high) n.answer n.more n.line n.gives n.no_fault)
