-- Bytes allow one answer.
use Rattle.std.proofs.Common.{◌≡◌, ◌≢◌, ℕ, ◌<◌, ◌≤◌, List, [], ◌∷◌, ◌++◌, length, get_or, refl, ap, sym, subst, ◌∙◌}
use Rattle.std.proofs.Common.{arith, inl, inr, ◌⊎◌, Option, Some, None}
use Rattle.std.proofs.lemmas.Bool.{cases_lt}
use Rattle.gz_io.specs.Lines.{IsPlain, EndsLine, IsTooLong, IsNotAscii, Gives, GivesKnown, IsOnlyAnswer}
use Rattle.gz_io.specs.declared.reader.Next.{Next}
use Rattle.gz_io.specs.declared.reader.Next.TheVariants as next
use Rattle.gz_io.proofs.Plain.{plain_get, at_seam, before_seam, seam_fits}

-- a plain prefix of bytes, and the byte behind it
record Front (xs line : List ℕ) (byte : ℕ) : Type 0 where
  rest : List ℕ
  bytes : xs ≡ line ++ byte ∷ rest
  plain : IsPlain line

-- a byte that no line may have
abbrev Stops : ℕ → Type 0
Stops b = (b ≡ 10) ⊎ (128 ≤ b)

stops_no_plain : (b : ℕ) → Stops b → b < 128 → b ≢ 10 → ⊥
stops_no_plain b (inl e) l o = o e
stops_no_plain b (inr h) l o = omega arith

-- the prefix before such a byte is the longest
longest : (xs l m : List ℕ) (b c : ℕ) → Front xs l b → Front xs m c → Stops b → length m ≤ length l
longest xs l m b c f g s = elim (cases_lt (length l) (length m)) [
  | inl h ↦ (
      let p = before_seam xs m g.rest c (length l) g.bytes g.plain h in
      let is : get_or xs (length l) 0 ≡ b = at_seam xs l f.rest b f.bytes in
      absurd (stops_no_plain b s (omega (arith, p.0, is)) (λ e. p.1 (is ∙ e)))
      )
  | inr h ↦ h
]

same_byte : (xs l m : List ℕ) (b c : ℕ) → Front xs l b → Front xs m c → length l ≡ length m → b ≡ c
same_byte xs l m b c f g e =
    sym (at_seam xs l f.rest b f.bytes) ∙ ap (λ k. get_or xs k 0) e ∙ at_seam xs m g.rest c g.bytes

-- plain bytes have no such byte
no_stop : (xs l : List ℕ) (b : ℕ) → IsPlain xs → Front xs l b → Stops b → ⊥
no_stop xs l b p f s =
    let q = plain_get xs (length l) 0 p (seam_fits xs l f.rest b f.bytes) in
    let is : get_or xs (length l) 0 ≡ b = at_seam xs l f.rest b f.bytes in
    stops_no_plain b s (omega (arith, q.0, is)) (λ e. q.1 (is ∙ e))

no_front : (xs l : List ℕ) (b : ℕ) → xs ≡ [] → Front xs l b → ⊥
no_front xs l b e f = omega (arith, seam_fits xs l f.rest b f.bytes, ap length e)

fed : (xs ys line : List ℕ) → IsPlain line → xs ≡ line ++ 10 ∷ ys → Front xs line 10
fed xs ys line p e = record { rest = ys; bytes = e; plain = p }

long : (xs : List ℕ) (t : IsTooLong xs) → Front xs t.line t.byte
long xs t = record { rest = t.rest; bytes = t.bytes; plain = t.plain }

high : (xs : List ℕ) (t : IsNotAscii xs) → Front xs t.line t.byte
high xs t = record { rest = t.rest; bytes = t.bytes; plain = t.plain }

two_lines : (xs ys zs l m : List ℕ) → IsPlain l → IsPlain m → EndsLine xs ys l → EndsLine xs zs m → length l ≡ length m
two_lines xs ys zs l m p q (inl e) (inl f) =
    let a = longest xs l m 10 10 (fed xs ys l p e) (fed xs zs m q f) (inl refl) in
    let b = longest xs m l 10 10 (fed xs zs m q f) (fed xs ys l p e) (inl refl) in omega arith
two_lines xs ys zs l m p q (inl e) (inr f) =
    absurd (no_stop xs l 10 (subst IsPlain (sym f.0) q) (fed xs ys l p e) (inl refl))
two_lines xs ys zs l m p q (inr e) (inl f) =
    absurd (no_stop xs m 10 (subst IsPlain (sym e.0) p) (fed xs zs m q f) (inl refl))
two_lines xs ys zs l m p q (inr e) (inr f) = ap length (sym e.0 ∙ f.0)

line_no_end : (xs ys l : List ℕ) → IsPlain l → EndsLine xs ys l → xs ≡ [] → ⊥
line_no_end xs ys l p (inl e) n = no_front xs l 10 n (fed xs ys l p e)
line_no_end xs ys l p (inr e) n = omega (arith, e.1, ap length (sym e.0 ∙ n))

line_no_long : (xs ys l : List ℕ) → length l ≤ 255 → IsPlain l → EndsLine xs ys l → IsTooLong xs → ⊥
line_no_long xs ys l n p (inl e) t =
    let a = longest xs l t.line 10 t.byte (fed xs ys l p e) (long xs t) (inl refl) in
    t.goes_on (sym (same_byte xs l t.line 10 t.byte (fed xs ys l p e) (long xs t) (omega (arith, t.size))))
line_no_long xs ys l n p (inr e) t = omega (arith, seam_fits xs t.line t.rest t.byte t.bytes, t.size, ap length e.0)

line_no_high : (xs ys l : List ℕ) → IsPlain l → EndsLine xs ys l → IsNotAscii xs → ⊥
line_no_high xs ys l p (inl e) t =
    let a = longest xs l t.line 10 t.byte (fed xs ys l p e) (high xs t) (inl refl) in
    let b = longest xs t.line l t.byte 10 (high xs t) (fed xs ys l p e) (inr t.high) in
    let same : 10 ≡ t.byte = same_byte xs l t.line 10 t.byte (fed xs ys l p e) (high xs t) (omega arith) in
    omega (arith, t.high)
line_no_high xs ys l p (inr e) t = no_stop xs t.line t.byte (subst IsPlain (sym e.0) p) (high xs t) (inr t.high)

long_no_high : (xs : List ℕ) → IsTooLong xs → IsNotAscii xs → ⊥
long_no_high xs t u =
    omega (arith, longest xs u.line t.line u.byte t.byte (high xs u) (long xs t) (inr u.high), t.size, u.size)

once : (xs ys zs l m : List ℕ) (r s : Next) → Gives xs ys r l → Gives xs zs s m → s ≢ next.ReadFault
    → (r ≡ next.ReadFault) ⊎ (r ≡ s)
once xs ys zs l m next.ReadFault s g h n = inl refl
once xs ys zs l m (next.Line a) (next.Line b) g h n =
    inr (ap (λ k. next.Line k) (g.0 ∙ two_lines xs ys zs l m g.2 h.2 g.3 h.3 ∙ sym h.0))
once xs ys zs l m (next.Line a) next.End g h n = absurd (line_no_end xs ys l g.2 g.3 h.0)
once xs ys zs l m (next.Line a) next.TooLong g h n = absurd (line_no_long xs ys l (omega (arith, g.0, g.1)) g.2 g.3 h.1)
once xs ys zs l m (next.Line a) next.NotAscii g h n = absurd (line_no_high xs ys l g.2 g.3 h.1)
once xs ys zs l m next.End (next.Line b) g h n = absurd (line_no_end xs zs m h.2 h.3 g.0)
once xs ys zs l m next.End next.End g h n = inr refl
once xs ys zs l m next.End next.TooLong g h n = absurd (no_front xs h.1.line h.1.byte g.0 (long xs h.1))
once xs ys zs l m next.End next.NotAscii g h n = absurd (no_front xs h.1.line h.1.byte g.0 (high xs h.1))
once xs ys zs l m next.TooLong (next.Line b) g h n = absurd (line_no_long xs zs m (omega (arith, h.0, h.1)) h.2 h.3 g.1)
once xs ys zs l m next.TooLong next.End g h n = absurd (no_front xs g.1.line g.1.byte h.0 (long xs g.1))
once xs ys zs l m next.TooLong next.TooLong g h n = inr refl
once xs ys zs l m next.TooLong next.NotAscii g h n = absurd (long_no_high xs g.1 h.1)
once xs ys zs l m next.NotAscii (next.Line b) g h n = absurd (line_no_high xs zs m h.2 h.3 g.1)
once xs ys zs l m next.NotAscii next.End g h n = absurd (no_front xs g.1.line g.1.byte h.0 (high xs g.1))
once xs ys zs l m next.NotAscii next.TooLong g h n = absurd (long_no_high xs h.1 g.1)
once xs ys zs l m next.NotAscii next.NotAscii g h n = inr refl
once xs ys zs l m r next.ReadFault g h n = absurd (n refl)

pub only_answer : (a b : Option (List ℕ)) (line : List ℕ) (result : Next) → GivesKnown a b result line
    → IsOnlyAnswer a result
only_answer None b line result g = tt
only_answer (Some xs) None line result g = absurd g
only_answer (Some xs) (Some ys) line result g = λ r zs m h n. once xs ys zs line m result r g h n
