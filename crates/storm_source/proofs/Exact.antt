-- Whatever commands the lines of a storm stand for.
use Rattle.std.proofs.Common.{◌≡◌, ◌+◌, ◌<◌, ◌≤◌, ◌==◌, ◌^◌, ◌++◌, ℕ, zero, suc, List, [], ◌∷◌, Bool, true, false}
use Rattle.std.proofs.Common.{refl, ap, ap₂, sym, subst, ◌∙◌, arith, append_assoc, drop, codes, cond}
use Rattle.std.specs.Prelude.{All, ⊤}
use Rattle.std.specs.Fmt.{decimal}
use Rattle.std.specs.Int.{bit_at}
use Rattle.std.specs.Str.Parse.{AllDigits}
use Rattle.std.proofs.lemmas.Fmt.{decimal_injective, decimal_is_IsNumeral}
use Rattle.std.proofs.lemmas.List.Elements.{All-append, All-cons, All-head, All-tail}
use Rattle.std.proofs.lemmas.Str.Parse.{digit_from_value}
use Rattle.gz_names.specs.Zones.{zones_from, zones_in}
use Rattle.gz_names.specs.declared.zone_sets.ZoneSet.{ZoneSet}
use Rattle.gz_names.specs.declared.commands.Cmd.{Cmd}
use Rattle.gz_names.specs.declared.commands.Cmd.TheVariants.{Graph, Weak, Finish, Collect, Colours}
use Rattle.gz_names.specs.declared.commands.GraphCmd.TheVariants as cmd
use Rattle.gz_names.specs.declared.commands.WeakCmd.{WeakCmd}
use Rattle.gz_names.specs.declared.commands.WeakCmd.TheVariants as weak
use Rattle.trace_lang.specs.Grammar.{Spells, SpellsRest}
use Rattle.trace_lang.specs.Words.{IsBreak, IsWord, number_words, word_text}
use Rattle.trace_lang.specs.declared.words.Word.{Word}
use Rattle.trace_lang.specs.declared.words.Word.TheVariants as word
use Rattle.trace_lang.proofs.Rests.{rest_break}
use Rattle.trace_lang.proofs.Spelling.{same_word, word_text_one, word_text_word}
use Rattle.trace_lang.proofs.ZoneLists.{number_words-break}
use Rattle.storm_source.specs.Commands.{AreOfStorm, IsNoWeakCommand, MakesNoZone, SpellAll}
use Rattle.storm_source.specs.Trace.{drawn_lines, head_lines, storm_lines, tail_lines}
use Rattle.storm_source.proofs.Spelled.{all_drawn, all_four, first_commands, firsts_made, firsts_make_none}
use Rattle.storm_source.proofs.Spelled.{firsts_plain}
use Rattle.storm_source.proofs.Spelled.{zone_made}

-- a line has one first word, and one rest
parted : (line : List ℕ) (w : Word) (rest : List ℕ) → line ≡ word_text w ++ rest → IsBreak rest → (d : Cmd)
    (q : Spells line d) → (q.0 ≡ w) × (q.1 ≡ rest)
parted line w rest is break d (v, r, e, s) =
    let same = same_word (word_text v) (word_text w) r rest (word_text_word v) (word_text_word w) (rest_break v r d s)
    break (sym e ∙ is) in
    (word_text_one v w same.0, same.1)

-- only the word `zone` makes a zone
zone_word : (w : Word) (rest : List ℕ) (c : Cmd) → SpellsRest w rest c → c ≡ Graph cmd.Zone → w ≡ word.Zone
zone_word word.Zone rest c h e = refl
zone_word word.Comp rest c h e = absurd (cc (e, h.1))
zone_word word.New rest c h e = absurd (cc (e, h.3))
zone_word word.Map rest c h e = absurd (cc (e, h.2))
zone_word word.Get rest c h e = absurd (cc (e, h.3))
zone_word word.Set rest c h e = absurd (cc (e, h.3))
zone_word word.Wrap rest c h e = absurd (cc (e, h.3))
zone_word word.Unwrap rest c h e = absurd (cc (e, h.2))
zone_word word.Copy rest c h e = absurd (cc (e, h.2))
zone_word word.Drop rest c h e = absurd (cc (e, h.1))
zone_word word.Hold rest c h e = absurd (cc (e, h.2))
zone_word word.Release rest c h e = absurd (cc (e, h.1))
zone_word word.Expose rest c h e = absurd (cc (e, h.2))
zone_word word.Put rest c h e = absurd (cc (e, h.3))
zone_word word.Del rest c h e = absurd (cc (e, h.2))
zone_word word.Find rest c h e = absurd (cc (e, h.3))
zone_word word.Gc rest c h e = absurd (cc (e, h.1))
zone_word word.Slice rest c h e = absurd (cc (e, h.1))
zone_word word.Finish rest c h e = absurd (cc (e, h.0))
zone_word word.Collect rest c h e = absurd (cc (e, h.1))
zone_word word.Colours rest c h e = absurd (cc (e, h.0))
zone_word word.Dump rest c h e = absurd (cc (e, h.0))
zone_word word.Reset rest c h e = absurd (cc (e, h.0))
zone_word word.Weaken rest c h e = absurd (cc (e, h.2))
zone_word word.Deref rest c h e = absurd (cc (e, h.2))
zone_word word.Watch rest c h e = absurd (cc (e, h.1))
zone_word word.Unwatch rest c h e = absurd (cc (e, h.1))
zone_word word.Compact rest c h e = absurd (cc (e, h.1))

-- all that a first word and a rest stand for is about weak slots or watched cells, if something is
weak_word : (w : Word) (rest : List ℕ) (c d : Cmd) (k : WeakCmd) → SpellsRest w rest c → SpellsRest w rest d
    → d ≡ Weak k → (j : WeakCmd) × (c ≡ Weak j)
weak_word word.Zone rest c d k p h e = absurd (cc (e, h.0))
weak_word word.Comp rest c d k p h e = absurd (cc (e, h.1))
weak_word word.New rest c d k p h e = absurd (cc (e, h.3))
weak_word word.Map rest c d k p h e = absurd (cc (e, h.2))
weak_word word.Get rest c d k p h e = absurd (cc (e, h.3))
weak_word word.Set rest c d k p h e = absurd (cc (e, h.3))
weak_word word.Wrap rest c d k p h e = absurd (cc (e, h.3))
weak_word word.Unwrap rest c d k p h e = absurd (cc (e, h.2))
weak_word word.Copy rest c d k p h e = absurd (cc (e, h.2))
weak_word word.Drop rest c d k p h e = absurd (cc (e, h.1))
weak_word word.Hold rest c d k p h e = absurd (cc (e, h.2))
weak_word word.Release rest c d k p h e = absurd (cc (e, h.1))
weak_word word.Expose rest c d k p h e = absurd (cc (e, h.2))
weak_word word.Put rest c d k p h e = absurd (cc (e, h.3))
weak_word word.Del rest c d k p h e = absurd (cc (e, h.2))
weak_word word.Find rest c d k p h e = absurd (cc (e, h.3))
weak_word word.Gc rest c d k p h e = absurd (cc (e, h.1))
weak_word word.Slice rest c d k p h e = absurd (cc (e, h.1))
weak_word word.Finish rest c d k p h e = absurd (cc (e, h.0))
weak_word word.Collect rest c d k p h e = absurd (cc (e, h.1))
weak_word word.Colours rest c d k p h e = absurd (cc (e, h.0))
weak_word word.Dump rest c d k p h e = absurd (cc (e, h.0))
weak_word word.Reset rest c d k p h e = absurd (cc (e, h.0))
weak_word word.Weaken rest c d k p h e = (weak.Weaken p.0 p.1, p.2)
weak_word word.Deref rest c d k p h e = (weak.Deref p.0 p.1, p.2)
weak_word word.Watch rest c d k p h e = (weak.Watch p.0, p.1)
weak_word word.Unwatch rest c d k p h e = (weak.Unwatch p.0, p.1)
weak_word word.Compact rest c d k p h e = absurd (cc (e, h.1))

-- what a line stands for makes a zone, if anything that it stands for does
one_zone : (line : List ℕ) (c d : Cmd) → Spells line c → Spells line d → d ≡ Graph cmd.Zone → c ≡ Graph cmd.Zone
one_zone line c d (v, r, e, s) (w, t, f, u) is =
    let same = parted line w t f (rest_break w t d u) c (v, r, e, s) in
    let zone : v ≡ word.Zone = same.0 ∙ zone_word w t d u is in
    (subst (λ (x : Word). SpellsRest x r c) zone s).0

-- and so is what a line stands for
one_weak : (line : List ℕ) (c d : Cmd) → Spells line c → Spells line d → (k : WeakCmd) → d ≡ Weak k
    → (j : WeakCmd) × (c ≡ Weak j)
one_weak line c d (v, r, e, s) (w, t, f, u) k is =
    let same = parted line w t f (rest_break w t d u) c (v, r, e, s) in
    weak_word w t c d k (subst (λ (x : Word). SpellsRest x t c) same.0
    (subst (λ (y : List ℕ). SpellsRest v y c) same.1 s)) u is

none_weak : (lines : List (List ℕ)) (cs ds : List Cmd) → SpellAll lines cs → All IsNoWeakCommand cs
    → SpellAll lines ds → All IsNoWeakCommand ds
none_weak [] [] [] a all b = all
none_weak (line ∷ lines) (c ∷ cs) (d ∷ ds) a all b =
    All-cons IsNoWeakCommand d ds
    (λ k is. (let j = one_weak line c d a.0 b.0 k is in All-head IsNoWeakCommand c cs all j.0 j.1))
    (none_weak lines cs ds a.1 (All-tail IsNoWeakCommand c cs all) b.1)
none_weak [] [] (d ∷ ds) a all b = absurd b
none_weak [] (c ∷ cs) ds a all b = absurd a
none_weak (line ∷ lines) [] ds a all b = absurd a
none_weak (line ∷ lines) (c ∷ cs) [] a all b = absurd b

make_none : (lines : List (List ℕ)) (cs ds : List Cmd) → SpellAll lines cs → All MakesNoZone cs → SpellAll lines ds
    → All MakesNoZone ds
make_none [] [] [] a all b = all
make_none (line ∷ lines) (c ∷ cs) (d ∷ ds) a all b =
    All-cons MakesNoZone d ds
    (λ is. All-head MakesNoZone c cs all (one_zone line c d a.0 b.0 is))
    (make_none lines cs ds a.1 (All-tail MakesNoZone c cs all) b.1)
make_none [] [] (d ∷ ds) a all b = absurd b
make_none [] (c ∷ cs) ds a all b = absurd a
make_none (line ∷ lines) [] ds a all b = absurd a
make_none (line ∷ lines) (c ∷ cs) [] a all b = absurd b

-- commands of two lists of lines
spell_each : (ls ms : List (List ℕ)) (cs : List Cmd) → SpellAll (ls ++ ms) cs
    → (xs : List Cmd) × (ys : List Cmd) × (cs ≡ xs ++ ys) × SpellAll ls xs × SpellAll ms ys
spell_each [] ms cs s = ([], cs, refl, tt, s)
spell_each (l ∷ ls) ms [] s = absurd s
spell_each (l ∷ ls) ms (c ∷ cs) s =
    let rest = spell_each ls ms cs s.1 in
    (c ∷ rest.0, rest.1, ap (λ (xs : List Cmd). c ∷ xs) rest.2, (s.0, rest.3), rest.4)

-- numbers behind spaces are read in one way
digits_word : (text : List ℕ) → AllDigits 10 text → IsWord text
digits_word [] h = tt
digits_word (x ∷ xs) h = let digit = digit_from_value x h.0 in ((λ e. omega (arith, e, digit)), digits_word xs h.1)

decimal_word : (n : ℕ) → n < 2 ^ 64 → IsWord (decimal n)
decimal_word n small = digits_word (decimal n) (decimal_is_IsNumeral n small).0.1

abbrev AreSmall : List ℕ → Type 0
AreSmall [] = ⊤
AreSmall (x ∷ xs) = (x < 2 ^ 64) × AreSmall xs

one_reading : (xs ys : List ℕ) → AreSmall xs → AreSmall ys → number_words xs ≡ number_words ys → xs ≡ ys
one_reading [] [] a b e = refl
one_reading [] (y ∷ ys) a b e = absurd (cc e)
one_reading (x ∷ xs) [] a b e = absurd (cc e)
one_reading (x ∷ xs) (y ∷ ys) a b e =
    let same = same_word (decimal x) (decimal y) (number_words xs) (number_words ys) (decimal_word x a.0)
    (decimal_word y b.0) (number_words-break xs) (number_words-break ys) (ap (drop 1) e) in
    ap₂ (λ (z : ℕ) (zs : List ℕ). z ∷ zs) (decimal_injective x y a.0 b.0 same.0) (one_reading xs ys a.1 b.1 same.1)

zones_small : (w n count : ℕ) → n + count ≤ 64 → AreSmall (zones_from w n count)
unfolding zones_from
zones_small w n zero few = tt
zones_small w n (suc count) few = go (zones_small w (n + 1) count (omega arith)) (bit_at w n == 1)
  where
    go : AreSmall (zones_from w (n + 1) count) → (b : Bool)
        → AreSmall (cond b (n ∷ zones_from w (n + 1) count) (zones_from w (n + 1) count))
    go rest true = (omega (arith, few), rest)
    go rest false = rest

all_small : (zones : ZoneSet) → AreSmall (zones_in zones)
unfolding zones_in
all_small zones = zones_small zones.bits 0 64 (omega arith)

-- the last three lines
last_three : (cs : List Cmd) → SpellAll tail_lines cs → (zones : ZoneSet) × (zones_in zones ≡ 0 ∷ 1 ∷ 2 ∷ 3 ∷ [])
    × (cs ≡ Finish ∷ Collect zones ∷ Colours ∷ [])
last_three [] s = absurd s
last_three (a ∷ []) s = absurd s.1
last_three (a ∷ b ∷ []) s = absurd s.1.1
last_three (a ∷ b ∷ c ∷ d ∷ cs) s = absurd s.1.1.1
last_three (a ∷ b ∷ c ∷ []) (p, (q, (r, t))) =
    let finish = parted (codes "finish") word.Finish [] refl tt a p in
    let collect = parted (codes "collect 0 1 2 3") word.Collect (codes " 0 1 2 3") refl refl b q in
    let colours = parted (codes "colours") word.Colours [] refl tt c r in
    let first : a ≡ Finish = (subst (λ (w : Word). SpellsRest w p.1 a) finish.0 p.3).0 in
    let second = subst (λ (w : Word). SpellsRest w q.1 b) collect.0 q.3 in
    let third : c ≡ Colours = (subst (λ (w : Word). SpellsRest w r.1 c) colours.0 r.3).0 in
    let zones : ZoneSet = second.0 in
    let text : number_words (zones_in second.0) ≡ number_words (0 ∷ 1 ∷ 2 ∷ 3 ∷ []) =
    sym second.2.2 ∙ collect.1 ∙ all_four in (
      second.0,
      one_reading (zones_in second.0) (0 ∷ 1 ∷ 2 ∷ 3 ∷ []) (all_small second.0)
          (omega arith, (omega arith, (omega arith, (omega arith, tt)))) text,
      ap₂ (λ (x : Cmd) (xs : List Cmd). x ∷ xs) first
          (ap₂ (λ (x y : Cmd). x ∷ y ∷ []) second.1 third),
    )

is_zone : (c : Cmd) → Spells (codes "zone") c → c ≡ Graph cmd.Zone
is_zone c s = one_zone (codes "zone") c (Graph cmd.Zone) s zone_made refl

pub storm_exact : (seed lines : ℕ) (commands : List Cmd) → SpellAll (storm_lines seed lines) commands
    → AreOfStorm commands
storm_exact seed lines [] s = absurd s
storm_exact seed lines (a ∷ []) s = absurd s.1
storm_exact seed lines (a ∷ b ∷ []) s = absurd s.1.1
storm_exact seed lines (a ∷ b ∷ c ∷ []) s = absurd s.1.1.1
storm_exact seed lines (a ∷ b ∷ c ∷ d ∷ cs) (p, (q, (r, (t, rest)))) =
    let first = spell_each (drop 4 head_lines) (drawn_lines lines seed ++ tail_lines) cs rest in
    let next = spell_each (drawn_lines lines seed) tail_lines first.1 first.4 in
    let final = last_three next.1 next.4 in
    let drawn = all_drawn lines seed in
    let zones : a ∷ b ∷ c ∷ d ∷ cs
    ≡ Graph cmd.Zone ∷ Graph cmd.Zone ∷ Graph cmd.Zone ∷ Graph cmd.Zone ∷ cs =
    ap₂ (λ (x : Cmd) (xs : List Cmd). x ∷ xs) (is_zone a p)
    (ap₂ (λ (x : Cmd) (xs : List Cmd). x ∷ xs) (is_zone b q)
    (ap₂ (λ (x y : Cmd). x ∷ y ∷ cs) (is_zone c r) (is_zone d t))) in
    let parts : cs ≡ (first.0 ++ next.0) ++ Finish ∷ Collect final.0 ∷ Colours ∷ [] =
    first.2 ∙ ap (λ (xs : List Cmd). first.0 ++ xs) (next.2 ∙ ap (λ (xs : List Cmd). next.0 ++ xs) final.2)
    ∙ sym (append_assoc first.0 next.0 (Finish ∷ Collect final.0 ∷ Colours ∷ [])) in
    record {
      between = first.0 ++ next.0;
      zones = final.0;
      none_made = All-append MakesNoZone first.0 next.0
          (make_none (drop 4 head_lines) first_commands first.0 firsts_made firsts_make_none first.3)
          (make_none (drawn_lines lines seed) drawn.0 next.0 drawn.1.0 drawn.1.1 next.3);
      none_weak = All-append IsNoWeakCommand first.0 next.0
          (none_weak (drop 4 head_lines) first_commands first.0 firsts_made firsts_plain first.3)
          (none_weak (drawn_lines lines seed) drawn.0 next.0 drawn.1.0 drawn.1.2 next.3);
      zones_are = final.1;
      commands_are = zones
          ∙ ap (λ (xs : List Cmd). Graph cmd.Zone ∷ Graph cmd.Zone ∷ Graph cmd.Zone ∷ Graph cmd.Zone ∷ xs) parts;
    }
