-- Groups are read from a line in one way, but for zones that no word has.
use Rattle.std.proofs.Common.{◌≡◌, ◌≢◌, ◌∙◌, true, ℕ, ◌<◌, List, [], ◌∷◌, ◌++◌, drop, map, Contains}
use Rattle.std.proofs.Common.{refl, sym, ap, arith}
use Rattle.std.specs.Fmt.{decimal}
use Rattle.std.specs.Str.{all_ascii_digits}
use Rattle.std.proofs.lemmas.Fmt.{decimal_injective, digits_decimal}
use Rattle.std.proofs.lemmas.List.{append-nil}
use Rattle.std.proofs.lemmas.Str.Parse.{tells_all_ascii_digits}
use Rattle.gz_names.specs.Zones.{zones_in}
use Rattle.gz_names.specs.declared.zone_sets.ZoneSet.{ZoneSet}
use Rattle.gz_names.specs.declared.replies.Report.TheVariants as report
use Rattle.gz_names.proofs.Words.{HasZone-below}
use Rattle.colour_defs.proofs.Lists.{contains_head, contains_tail}
use Rattle.colour_defs.proofs.ZoneSets.{zones_in-has}
use Rattle.trace_lang.specs.Texts.{groups_text, report_text}
use Rattle.trace_lang.specs.Words.{IsBreak, IsWord, number_words}
use Rattle.trace_lang.proofs.Decimals.{own}
use Rattle.trace_lang.proofs.Spelling.{same_word}
use Rattle.judge.specs.Lines.{Lacks}
use Rattle.judge.proofs.Bytes.{lacks_both}
use Rattle.judge.proofs.GroupLines.{first_bar, first_text, one_group, zones_lack}

digits_word : (ds : List ℕ) → all_ascii_digits ds ≡ true → IsWord ds
digits_word [] e = tt
digits_word (c ∷ cs) e = let p = tells_all_ascii_digits.parts c cs e in
    (λ h. omega (arith, p.0.0, h), digits_word cs p.1)

words_break : (ns : List ℕ) → IsBreak (number_words ns)
words_break [] = tt
words_break (n ∷ ns) = refl

-- numbers, each behind a space
same_words : (ms ns : List ℕ) → ((n : ℕ) → Contains ms n → n < 64) → ((n : ℕ) → Contains ns n → n < 64)
    → number_words ms ≡ number_words ns → ms ≡ ns
same_words [] [] a b e = refl
same_words [] (n ∷ ns) a b e = absurd (cc e)
same_words (m ∷ ms) [] a b e = absurd (cc e)
same_words (m ∷ ms) (n ∷ ns) a b e =
    let below_m : m < 64 = a m (contains_head m ms) in
    let below_n : n < 64 = b n (contains_head n ns) in
    let parts = same_word (decimal m) (decimal n) (number_words ms) (number_words ns)
    (digits_word (decimal m) (digits_decimal own m (omega (arith, below_m))))
    (digits_word (decimal n) (digits_decimal own n (omega (arith, below_n)))) (words_break ms) (words_break ns)
    (ap (λ t. drop 1 t) e) in
    let first : m ≡ n = decimal_injective m n (omega (arith, below_m)) (omega (arith, below_n)) parts.0 in
    let rest = same_words ms ns (λ k c. a k (contains_tail m ms k c)) (λ k c. b k (contains_tail n ns k c)) parts.1 in
    λ i. first i ∷ rest i

pub same_zone_words : (g h : ZoneSet) → number_words (zones_in g) ≡ number_words (zones_in h) → zones_in g ≡ zones_in h
same_zone_words g h e = same_words (zones_in g) (zones_in h)
    (λ z c. HasZone-below g.bits z ((zones_in-has g z).0 c)) (λ z c. HasZone-below h.bits z ((zones_in-has h z).0 c)) e

-- each group has zones
abbrev pub AreFull : List ZoneSet → Type 0
AreFull gs = (g : ZoneSet) → Contains gs g → zones_in g ≢ []

some_text : (g : ZoneSet) (gs : List ZoneSet) → zones_in g ≢ [] → groups_text 0 (g ∷ gs) ≢ []
some_text g gs some e = go (zones_in g) some e
  where
    go : (zs : List ℕ) → zs ≢ [] → (([] ++ number_words zs) ++ groups_text 1 gs) ≡ [] → ⊥
    go [] n e = n refl
    go (z ∷ zs) n e = cc e

pub same_groups : (gs hs : List ZoneSet) → AreFull gs → AreFull hs → groups_text 0 gs ≡ groups_text 0 hs
    → map zones_in gs ≡ map zones_in hs
same_groups [] [] a b e = refl
same_groups [] (h ∷ hs) a b e = absurd (some_text h hs (b h (contains_head h hs)) (sym e))
same_groups (g ∷ gs) [] a b e = absurd (some_text g gs (a g (contains_head g gs)) e)
same_groups (g ∷ []) (h ∷ hs) a b e =
    let text : List ℕ = number_words (zones_in g) in
    let none = zones_lack g in
    let r = one_group (number_words (zones_in g)) h hs none (sym (append-nil (number_words (zones_in g))) ∙ e) in
    ap (λ z. z ∷ []) (same_zone_words g h r.0) ∙ ap (λ ks. zones_in h ∷ map zones_in ks) (sym r.1)
same_groups (g ∷ k ∷ gs) (h ∷ hs) a b e =
    let front : List ℕ = number_words (zones_in g) ++ 32 ∷ [] in
    let text : List ℕ = groups_text 0 (g ∷ k ∷ gs) in
    let none : Lacks 124 (number_words (zones_in g) ++ 32 ∷ []) = lacks_both 124 (number_words (zones_in g)) (32 ∷ [])
    (zones_lack g) (λ q. omega (arith, q), tt) in
    let mine = first_bar (groups_text 0 (g ∷ k ∷ gs)) (number_words (zones_in g) ++ 32 ∷ []) (groups_text 0 (k ∷ gs)) g
    (k ∷ gs) none (first_text g k gs) refl in
    let theirs = first_bar (groups_text 0 (g ∷ k ∷ gs)) (number_words (zones_in g) ++ 32 ∷ [])
    (groups_text 0 (k ∷ gs)) h hs none (first_text g k gs) e in
    let first = same_zone_words g h (sym mine.0 ∙ theirs.0) in
    let rest = same_groups (k ∷ gs) hs (λ z c. a z (contains_tail g (k ∷ gs) z c))
    (λ z c. b z (contains_tail h hs z c)) theirs.2 in
    λ i. first i ∷ rest i

pub same_groups_line : (gs hs : List ZoneSet) → AreFull gs → AreFull hs
    → report_text (report.Groups gs) ≡ report_text (report.Groups hs) → map zones_in gs ≡ map zones_in hs
same_groups_line gs hs a b e = same_groups gs hs a b (ap (λ t. drop 6 t) e)
