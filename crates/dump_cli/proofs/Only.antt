-- The lines of a dump can be read from its bytes in one way only.
use Rattle.std.proofs.Common.{◌≡◌, ◌≢◌, ℕ, ◌+◌, ◌<◌, ◌≤◌, ◌⊎◌, inl, inr, List, [], ◌∷◌, ◌++◌, length, Option, None, Ok}
use Rattle.std.proofs.Common.{append_assoc, sym, refl, ap, subst, ◌∙◌, arith}
use Rattle.std.proofs.lemmas.List.{append-nil, length-append}
use Rattle.gz_io.specs.Lines.{EndsLine, IsNotAscii, IsPlain, IsTooLong}
use Rattle.gz_names.specs.declared.dumps.DumpLine.{DumpLine}
use Rattle.gz_names.specs.DumpTexts.{SpellsLine}
use Rattle.dump_check.specs.declared.checker.Verdict.{Verdict}
use Rattle.dump_check.specs.Checking.{Progress, read_of, Says}
use Rattle.dump_cli.specs.Verdicts.{AreReadSo, HasRead}
use Rattle.dump_cli.proofs.Fine.{line_fine}
use Rattle.dump_cli.proofs.Read.{length_push, line_there, read_push, said_of}

-- a line without a line feed ends at the first one
cut_same : (line text ys zs : List ℕ) → IsPlain line → IsPlain text → line ++ 10 ∷ ys ≡ text ++ 10 ∷ zs
    → (line ≡ text) × (ys ≡ zs)
cut_same [] [] ys zs p q e = (refl, cc e)
cut_same [] (t ∷ text) ys zs p q e = absurd (q.1 (cc e))
cut_same (b ∷ line) [] ys zs p q e = absurd (p.1 (cc e))
cut_same (b ∷ line) (t ∷ text) ys zs p q e =
    let first : b ≡ t = cc e in
    let rest : line ++ 10 ∷ ys ≡ text ++ 10 ∷ zs = cc e in
    let r = cut_same line text ys zs p.2 q.2 rest in
    let same : line ≡ text = r.0 in (cc (first, same), r.1)

no_feed : (line ys : List ℕ) → IsPlain (line ++ 10 ∷ ys) → ⊥
no_feed [] ys p = p.1 refl
no_feed (b ∷ line) ys p = no_feed line ys p.2

pub same_line : (xs ys zs line text : List ℕ) → IsPlain line → IsPlain text → EndsLine xs ys line
    → EndsLine xs zs text → (line ≡ text) × (ys ≡ zs)
same_line xs ys zs line text p q (inl a) (inl b) = cut_same line text ys zs p q (sym a ∙ b)
same_line xs ys zs line text p q (inl a) (inr b) = absurd (no_feed line ys (subst IsPlain (sym b.0 ∙ a) q))
same_line xs ys zs line text p q (inr a) (inl b) = absurd (no_feed text zs (subst IsPlain (sym a.0 ∙ b) p))
same_line xs ys zs line text p q (inr a) (inr b) = (sym a.0 ∙ b.0, a.2 ∙ sym b.2)

-- two spellings of one text are one line
abbrev pub IsOneLine : List ℕ → Type 0
IsOneLine text = (l m : DumpLine) → SpellsLine text l → SpellsLine text m → l ≡ m

-- of two readings of the same bytes one goes on where the other stops
abbrev pub Agrees : List DumpLine → List ℕ → List DumpLine → List ℕ → Type 0
Agrees ls rest all end = ((more : List DumpLine) × (all ≡ ls ++ more) × HasRead rest more end)
    ⊎ ((more : List DumpLine) × (ls ≡ all ++ more) × HasRead end more rest)

-- each reading of the bytes agrees with this one
abbrev pub IsOnlyReading : List ℕ → List DumpLine → List ℕ → Type 0
IsOnlyReading input ls rest = (all : List DumpLine) (end : List ℕ) → HasRead input all end → Agrees ls rest all end

pub first_reading : (input : List ℕ) → IsOnlyReading input [] input
first_reading input all end h = inl (all, refl, h)

push_all : (ls : List DumpLine) (l : DumpLine) (more : List DumpLine) → (ls ++ l ∷ []) ++ more ≡ ls ++ l ∷ more
push_all ls l more = append_assoc ls (l ∷ []) more

agrees_more : (ls : List DumpLine) (rest next text : List ℕ) (l : DumpLine) (all : List DumpLine) (end : List ℕ)
    → EndsLine rest next text → IsPlain text → SpellsLine text l → IsOneLine text → Agrees ls rest all end
    → Agrees (ls ++ l ∷ []) next all end
agrees_more ls rest next text l all end e p s one (inl ([], is, h)) =
    inr (l ∷ [], ap (λ t. t ++ l ∷ []) (sym (is ∙ append-nil ls)), read_push end [] rest text next l (sym h) e s)
agrees_more ls rest next text l all end e p s one (inl (m ∷ more, is, h)) =
    let fine = line_fine h.0 m h.3 in
    let same = same_line rest next h.1 text h.0 p fine.plain e h.2 in
    let it : l ≡ m = one l m s (subst (λ t. SpellsLine t m) (sym same.0) h.3) in
    inl (
      more,
      is ∙ ap (λ (t : DumpLine). ls ++ t ∷ more) (sym it) ∙ sym (push_all ls l more),
      subst (λ t. HasRead t more end) (sym same.1) h.4,
    )
agrees_more ls rest next text l all end e p s one (inr (more, is, h)) = inr (
  more ++ l ∷ [],
  ap (λ t. t ++ l ∷ []) is ∙ append_assoc all more (l ∷ []),
  read_push end more rest text next l h e s,
)

pub reading_more : (input : List ℕ) (ls : List DumpLine) (rest next text : List ℕ) (l : DumpLine)
    → EndsLine rest next text → IsPlain text → SpellsLine text l → IsOneLine text → IsOnlyReading input ls rest
    → IsOnlyReading input (ls ++ l ∷ []) next
reading_more input ls rest next text l e p s one only all end h =
    agrees_more ls rest next text l all end e p s one (only all end h)

-- a sound line more
pub goes_on : (E : Type 0) (input : List ℕ) (ls : List DumpLine) (rest more text given : List ℕ) (o : Option Verdict)
    (new : Progress) (k : ℕ) → AreReadSo input ls rest → IsOnlyReading input ls rest → EndsLine rest more text
    → IsPlain text → IsOneLine given → given ≡ text → o ≡ None → Says {E = E} ls given (Ok o) new → length ls ≡ k
    → (all : List DumpLine) × AreReadSo input all more × (new ≡ read_of all) × (length all ≡ k + 1)
    × IsOnlyReading input all more
goes_on E input ls rest more text given o new k so only e p one same is s n =
    let g = said_of E ls text given o None new same is s in (
      ls ++ g.line ∷ [],
      record { read = read_push input ls rest text more g.line so.read e g.spelled; sound = g.sound },
      g.kept,
      length_push ls g.line ∙ ap (λ t. t + 1) n,
      reading_more input ls rest more text g.line e p g.spelled (subst IsOneLine same one) only,
    )

-- the line that comes after these, of more
pub record NextLine (ls : List DumpLine) (rest : List ℕ) (all : List DumpLine) : Type 0 where
  pub line : DumpLine
  pub more : List DumpLine
  pub text : List ℕ
  pub next : List ℕ
  pub is : all ≡ ls ++ line ∷ more
  pub ends : EndsLine rest next text
  pub spelled : SpellsLine text line

-- bytes are left, and the others read them all
pub next_of_rest : (ls : List DumpLine) (rest : List ℕ) (all : List DumpLine) → rest ≢ [] → Agrees ls rest all []
    → NextLine ls rest all
next_of_rest ls rest all some (inl ([], is, h)) = absurd (some h)
next_of_rest ls rest all some (inl (m ∷ more, is, h)) =
    record { line = m; more = more; text = h.0; next = h.1; is = is; ends = h.2; spelled = h.3 }
next_of_rest ls rest all some (inr ([], is, h)) = absurd (some (sym h))
next_of_rest ls rest all some (inr (m ∷ more, is, h)) = absurd (line_there [] h.1 h.0 h.2 refl)

-- the others are more
pub next_of_more : (ls : List DumpLine) (rest : List ℕ) (all : List DumpLine) (end : List ℕ) → length ls < length all
    → Agrees ls rest all end → NextLine ls rest all
next_of_more ls rest all end less (inl ([], is, h)) =
    let same = ap length (is ∙ append-nil ls) in absurd (omega (arith, less, same))
next_of_more ls rest all end less (inl (m ∷ more, is, h)) =
    record { line = m; more = more; text = h.0; next = h.1; is = is; ends = h.2; spelled = h.3 }
next_of_more ls rest all end less (inr (more, is, h)) =
    let same = ap length is in absurd (omega (arith, less, same, length-append all more))

-- where nothing is left, no others of at least as many lines leave anything
pub none_left : (ls : List DumpLine) (rest : List ℕ) (all : List DumpLine) (end : List ℕ) → rest ≡ [] → end ≢ []
    → length ls ≤ length all → Agrees ls rest all end → ⊥
none_left ls rest all end none some most (inl ([], is, h)) = some (sym h ∙ none)
none_left ls rest all end none some most (inl (m ∷ more, is, h)) = line_there rest h.1 h.0 h.2 none
none_left ls rest all end none some most (inr ([], is, h)) = some (h ∙ none)
none_left ls rest all end none some most (inr (m ∷ more, is, h)) =
    let same = ap length is in
    let sum = length-append all (m ∷ more) in omega (arith, most, same, sum)

-- a line of a dump is neither too long nor outside ASCII
feed_within : (text line ys zs : List ℕ) → IsPlain line → length text < length line → text ++ 10 ∷ ys ≡ line ++ zs → ⊥
feed_within text [] ys zs p less e = absurd (omega (arith, less))
feed_within [] (b ∷ line) ys zs p less e = p.1 (cc e)
feed_within (t ∷ text) (b ∷ line) ys zs p less e =
    let rest : text ++ 10 ∷ ys ≡ line ++ zs = cc e in feed_within text line ys zs p.2 (omega (arith, less)) rest

high_within : (text line ys zs : List ℕ) (byte : ℕ) → IsPlain text → IsPlain line → 128 ≤ byte
    → text ++ 10 ∷ ys ≡ line ++ byte ∷ zs → ⊥
high_within [] [] ys zs byte p q high e = let same : 10 ≡ byte = cc e in omega (arith, high, same)
high_within [] (b ∷ line) ys zs byte p q high e = q.1 (cc e)
high_within (t ∷ text) [] ys zs byte p q high e = let same : t ≡ byte = cc e in omega (arith, high, same, p.0)
high_within (t ∷ text) (b ∷ line) ys zs byte p q high e =
    let rest : text ++ 10 ∷ ys ≡ line ++ byte ∷ zs = cc e in high_within text line ys zs byte p.2 q.2 high rest

byte_within : (line : List ℕ) (byte : ℕ) (zs : List ℕ) → IsPlain (line ++ byte ∷ zs) → byte < 128
byte_within [] byte zs p = p.0
byte_within (b ∷ line) byte zs p = byte_within line byte zs p.2

long_none : (rest next text : List ℕ) (l : DumpLine) → IsTooLong rest → EndsLine rest next text → SpellsLine text l → ⊥
long_none rest next text l t (inl e) s =
    let fine = line_fine text l s in
    feed_within text t.line next (t.byte ∷ t.rest) t.plain (omega (arith, fine.short, t.size)) (sym e ∙ t.bytes)
long_none rest next text l t (inr e) s =
    let fine = line_fine text l s in
    let same = ap length (sym e.0 ∙ t.bytes) in
    let sum = length-append t.line (t.byte ∷ t.rest) in omega (arith, fine.short, t.size, same, sum)

high_none : (rest next text : List ℕ) (l : DumpLine) → IsNotAscii rest → EndsLine rest next text → SpellsLine text l
    → ⊥
high_none rest next text l t (inl e) s =
    let fine = line_fine text l s in
    high_within text t.line next t.rest t.byte fine.plain t.plain t.high (sym e ∙ t.bytes)
high_none rest next text l t (inr e) s =
    let fine = line_fine text l s in
    let low = byte_within t.line t.byte t.rest (subst IsPlain (sym e.0 ∙ t.bytes) fine.plain) in
    omega (arith, low, t.high)

pub refused_none : (rest next text : List ℕ) (l : DumpLine) → IsTooLong rest ⊎ IsNotAscii rest
    → EndsLine rest next text → SpellsLine text l → ⊥
refused_none rest next text l (inl t) e s = long_none rest next text l t e s
refused_none rest next text l (inr t) e s = high_none rest next text l t e s
