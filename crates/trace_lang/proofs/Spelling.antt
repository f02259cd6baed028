-- Words of a text.
use Rattle.std.proofs.Common.{rules, ◌-◌, sym, ◌≡◌, ◌≢◌, ℕ, ◌+◌, ◌<◌, zero, suc, take, drop, List, [], ◌∷◌, ◌++◌}
use Rattle.std.proofs.Common.{length, get_or, refl, ap, ◌∙◌, arith, add-one, true, false, Bool, if◌then◌else◌}
use Rattle.std.specs.Prelude.{◌==◌, codes}
use Rattle.std.specs.Io.{StartsWith}
use Rattle.std.proofs.lemmas.Bool.{eqb-false}
use Rattle.std.proofs.lemmas.List.{take_rest}
use Rattle.trace_lang.specs.declared.words.Word.{Word}
use Rattle.trace_lang.specs.declared.words.Word.TheVariants as word
use Rattle.trace_lang.specs.Words.{IsBreak, IsWord, word_text}
use Rattle.trace_lang.proofs.Breaks.{break_of}

pub word_more : (xs : List ℕ) (i : ℕ) → i < length xs → IsWord (take i xs) → get_or xs i 0 ≢ 32
    → IsWord (take (i + 1) xs)
word_more [] i h p other = absurd (omega arith)
word_more (x ∷ xs) zero h p other = (other, tt)
word_more (x ∷ xs) (suc i) h p other = rw add-one (p.0, rw add-one at (word_more xs i (omega arith) p.1 other))

-- a text is a word and a rest in one way
pub same_word : (v w r s : List ℕ) → IsWord v → IsWord w → IsBreak r → IsBreak s → v ++ r ≡ w ++ s → (v ≡ w) × (r ≡ s)
same_word [] [] r s p q b d e = (refl, e)
same_word [] (y ∷ w) [] s p q b d e = absurd (cc e)
same_word [] (y ∷ w) (c ∷ r) s p q b d e = absurd (q.0 (omega (arith, b, ap (λ t. get_or t 0 0) e)))
same_word (x ∷ v) [] r [] p q b d e = absurd (cc e)
same_word (x ∷ v) [] r (c ∷ s) p q b d e = absurd (p.0 (omega (arith, d, ap (λ t. get_or t 0 0) e)))
same_word (x ∷ v) (y ∷ w) r s p q b d e =
    let h : x ≡ y = ap (λ t. get_or t 0 0) e in
    let k = same_word v w r s p.1 q.1 b d (ap (λ t. drop 1 t) e) in
    (ap (λ t. t ∷ v) h ∙ ap (λ t. y ∷ t) k.0, k.1)

-- the first words are words
abbrev no_space : List ℕ → Bool
no_space [] = true
no_space (b ∷ bs) = if b == 32 then false else no_space bs

no_space_parts : (b : ℕ) (bs : List ℕ) (t : Bool) → (b == 32) ≡ t → (if t then false else no_space bs) ≡ true
    → (b ≢ 32) × (no_space bs ≡ true)
no_space_parts b bs true e h = absurd (cc h)
no_space_parts b bs false e h = (eqb-false b 32 e, h)

no_space_word : (xs : List ℕ) → no_space xs ≡ true → IsWord xs
no_space_word [] h = tt
no_space_word (b ∷ bs) h = let p = no_space_parts b bs (b == 32) refl h in (p.0, no_space_word bs p.1)

no_space_text : (w : Word) → no_space (word_text w) ≡ true
no_space_text word.Zone = refl
no_space_text word.Comp = refl
no_space_text word.New = refl
no_space_text word.Map = refl
no_space_text word.Get = refl
no_space_text word.Set = refl
no_space_text word.Wrap = refl
no_space_text word.Unwrap = refl
no_space_text word.Copy = refl
no_space_text word.Drop = refl
no_space_text word.Hold = refl
no_space_text word.Release = refl
no_space_text word.Expose = refl
no_space_text word.Put = refl
no_space_text word.Del = refl
no_space_text word.Find = refl
no_space_text word.Gc = refl
no_space_text word.Slice = refl
no_space_text word.Finish = refl
no_space_text word.Collect = refl
no_space_text word.Colours = refl
no_space_text word.Dump = refl
no_space_text word.Reset = refl
no_space_text word.Weaken = refl
no_space_text word.Deref = refl
no_space_text word.Watch = refl
no_space_text word.Unwatch = refl
no_space_text word.Compact = refl

pub word_text_word : (w : Word) → IsWord (word_text w)
word_text_word w = no_space_word (word_text w) (no_space_text w)

-- no two first words have the same text
pub word_text_one : (v w : Word) → word_text v ≡ word_text w → v ≡ w
word_text_one v w e = search (rules, e)

-- a line that begins with a word and a space is the word and a rest that goes on with a space
word_and_rest : (word line rest : List ℕ) → StartsWith line (word ++ codes " ") → rest ≡ drop (length word) line
    → (line ≡ word ++ rest) × IsBreak rest
word_and_rest [] [] rest s e = absurd (cc s)
word_and_rest [] (x ∷ xs) rest s e = (sym e, break_of rest xs (e ∙ ap (λ t. get_or t 0 0 ∷ xs) s))
word_and_rest (b ∷ word) [] rest s e = absurd (cc s)
word_and_rest (b ∷ word) (x ∷ xs) rest s e =
    let p = word_and_rest word xs rest (ap (λ t. drop 1 t) s) e in
    (ap (λ t. get_or t 0 0 ∷ xs) s ∙ ap (λ t. b ∷ t) p.0, p.1)

pub word_front : (word line : List ℕ) (len : ℕ) → StartsWith line (word ++ codes " ") → len ≡ length word
    → (line ≡ word ++ take (length line - len) (drop len line)) × IsBreak (take (length line - len) (drop len line))
word_front word line len s e = word_and_rest word line _ s (take_rest line len ∙ ap (λ n. drop n line) e)
