-- The groups that a line lists are read from it.
use Rattle.std.proofs.Common.{◌≡◌, ◌≢◌, ◌∙◌, Bool, true, false, eqb, eqb-true, if◌then◌else◌, ℕ, ◌+◌, ◌-◌, ◌<◌, ◌^◌}
use Rattle.std.proofs.Common.{List, [], ◌∷◌, w64}
use Rattle.std.proofs.Common.{◌++◌, take, length, Contains, refl, sym, ap, subst, arith}
use Rattle.std.proofs.Common.{append_assoc}
use Rattle.std.specs.Prelude.{codes}
use Rattle.std.specs.Int.{trailing_zeros}
use Rattle.std.specs.Fmt.{decimal}
use Rattle.std.specs.Str.{all_ascii_digits}
use Rattle.std.proofs.lemmas.Fmt.{digits_decimal}
use Rattle.std.proofs.lemmas.List.{append-nil, length-append}
use Rattle.std.proofs.lemmas.Str.Parse.{tells_all_ascii_digits}
use Rattle.std.proofs.Math.Seq.{take-append_seam}
use Rattle.gz_names.specs.Zones.{zones_in}
use Rattle.gz_names.specs.declared.zone_sets.ZoneSet.{ZoneSet}
use Rattle.gz_names.specs.declared.commands.Cmd.TheVariants.{Gc}
use Rattle.gz_names.proofs.Words.{HasZone-below, HasZone-first}
use Rattle.colour_defs.proofs.Lists.{nothing_in_none, contains_head, contains_tail}
use Rattle.colour_defs.proofs.ZoneSets.{zones_in-has}
use Rattle.trace_lang.specs.Grammar.{Spells, SpellsZones}
use Rattle.trace_lang.specs.declared.words.Word.TheVariants as word
use Rattle.trace_lang.specs.Texts.{bar_text, groups_text}
use Rattle.trace_lang.specs.Words.{number_word, number_words}
use Rattle.trace_lang.proofs.Decimals.{own}
use Rattle.judge.specs.Lines.{Lacks}
use Rattle.judge.specs.Parts.{AreListed}
use Rattle.judge.proofs.Bytes.{lacks_both, lacks_not, one_place}

-- numbers have no bar
digits_lack : (ds : List ℕ) → all_ascii_digits ds ≡ true → Lacks 124 ds
digits_lack [] e = tt
digits_lack (c ∷ cs) e =
    let p = tells_all_ascii_digits.parts c cs e in (λ h. omega (arith, p.0.1, h), digits_lack cs p.1)

numbers_lack : (ns : List ℕ) → ((n : ℕ) → Contains ns n → n < 64) → Lacks 124 (number_words ns)
numbers_lack [] below = tt
numbers_lack (n ∷ ns) below =
    lacks_both 124 (number_word n) (number_words ns) (
      λ h. omega (arith, h),
      digits_lack (decimal n) (digits_decimal own n (omega (arith, below n (contains_head n ns)))),
    )
    (numbers_lack ns (λ m c. below m (contains_tail n ns m c)))

pub zones_lack : (g : ZoneSet) → Lacks 124 (number_words (zones_in g))
zones_lack g = numbers_lack (zones_in g) (λ z c. HasZone-below g.bits z ((zones_in-has g z).0 c))

-- a bar stands before each group but the first
bar_of : (n : ℕ) → bar_text (n + 1) ≡ codes " |"
bar_of n = go (eqb (n + 1) 0) refl
  where
    go : (b : Bool) → eqb (n + 1) 0 ≡ b → (if b then [] else codes " |") ≡ codes " |"
    go true e = absurd (omega (arith, eqb-true (n + 1) 0 e))
    go false e = refl

later_text : (n : ℕ) (gs : List ZoneSet) → groups_text (n + 1) gs ≡ groups_text 1 gs
later_text n [] = refl
later_text n (g ∷ gs) =
    ap (λ t. (t ++ number_words (zones_in g)) ++ groups_text (n + 1 + 1) gs) (bar_of n)
    ∙ ap (λ t. (codes " |" ++ number_words (zones_in g)) ++ t) (later_text (n + 1) gs ∙ sym (later_text 1 gs))

rest_text : (g : ZoneSet) (gs : List ZoneSet) → groups_text 1 (g ∷ gs) ≡ 32 ∷ 124 ∷ groups_text 0 (g ∷ gs)
rest_text g gs = ap (λ t. 32 ∷ 124 ∷ (number_words (zones_in g) ++ t)) (later_text 1 gs)

-- the text of a group and of those behind it
pub first_text : (g h : ZoneSet) (gs : List ZoneSet) → groups_text 0 (g ∷ h ∷ gs)
    ≡ (number_words (zones_in g) ++ 32 ∷ []) ++ 124 ∷ groups_text 0 (h ∷ gs)
first_text g h gs =
    ap (λ t. number_words (zones_in g) ++ t) (rest_text h gs)
    ∙ sym (append_assoc (number_words (zones_in g)) (32 ∷ []) (124 ∷ groups_text 0 (h ∷ gs)))

-- no bar is found: there is one group
pub one_group : (text : List ℕ) (g : ZoneSet) (gs : List ZoneSet) → Lacks 124 text → text ≡ groups_text 0 (g ∷ gs)
    → (text ≡ number_words (zones_in g)) × (gs ≡ [])
one_group text g [] none e = (e ∙ append-nil (number_words (zones_in g)), refl)
one_group text g (h ∷ gs) none e =
    absurd (lacks_not 124 (number_words (zones_in g) ++ 32 ∷ []) (groups_text 0 (h ∷ gs))
    (subst (λ (t : List ℕ). Lacks 124 t) (e ∙ first_text g h gs) none))

-- the first bar is found
pub first_bar : (text front rest : List ℕ) (g : ZoneSet) (gs : List ZoneSet) → Lacks 124 front
    → text ≡ front ++ 124 ∷ rest → text ≡ groups_text 0 (g ∷ gs)
    → (take (length front - 1) text ≡ number_words (zones_in g)) × (gs ≢ []) × (rest ≡ groups_text 0 gs)
first_bar text front rest g [] none is e =
    absurd (lacks_not 124 front rest (subst (λ (t : List ℕ). Lacks 124 t)
    (sym (append-nil (number_words (zones_in g))) ∙ sym e ∙ is) (zones_lack g)))
first_bar text front rest g (h ∷ gs) none is e =
    let words = number_words (zones_in g) in
    let r = one_place 124 front rest (words ++ 32 ∷ []) (groups_text 0 (h ∷ gs)) none
    (lacks_both 124 words (32 ∷ []) (zones_lack g) (λ k. omega (arith, k), tt)) (sym is ∙ e ∙ first_text g h gs) in
    let count : length front - 1 ≡ length words =
    omega (arith, ap (λ (t : List ℕ). length t) r.0, length-append words (32 ∷ [])) in (
      ap (λ n. take n text) count
          ∙ ap (λ t. take (length words) t) (e ∙ first_text g h gs
          ∙ append_assoc words (32 ∷ []) (124 ∷ groups_text 0 (h ∷ gs)))
          ∙ take-append_seam words (32 ∷ 124 ∷ groups_text 0 (h ∷ gs)),
      λ none. cc none,
      r.1,
    )

-- the zones of a set stand in a line as those of `gc` do
pub gc_spelt : (line words : List ℕ) (zones : ZoneSet) → line ≡ codes "gc" ++ words → SpellsZones zones words
    → Spells line (Gc zones)
gc_spelt line words zones e spells = (word.Gc, words, e, (zones, refl, spells))

pub some_words : (g : ZoneSet) → 0 < g.bits → g.bits < 2 ^ 64 → number_words (zones_in g) ≢ []
some_words g some small e =
    let first = HasZone-first g.bits some small in
    let z : ℕ = trailing_zeros w64 g.bits in
    nothing_in_none z (subst (λ (zs : List ℕ). Contains zs z) (no_numbers (zones_in g) e)
    ((zones_in-has g z).1 first.1))
  where
    no_numbers : (ns : List ℕ) → number_words ns ≡ [] → ns ≡ []
    no_numbers [] e = refl
    no_numbers (n ∷ ns) e = absurd (cc e)

-- these groups were read, and the rest lists those that are left
pub record ReadSoFar (text rest : List ℕ) (read : List ZoneSet) : Type 0 where
  pub left : (groups : List ZoneSet) → AreListed groups → text ≡ groups_text 0 groups
      → (g : ZoneSet) × (gs : List ZoneSet) × (groups ≡ read ++ g ∷ gs) × (rest ≡ groups_text 0 (g ∷ gs))

pub read_none : (text : List ℕ) → text ≢ [] → ReadSoFar text text []
read_none text some = record { left = λ groups listed e. first groups e }
  where
    first : (groups : List ZoneSet) → text ≡ groups_text 0 groups
        → (g : ZoneSet) × (gs : List ZoneSet) × (groups ≡ [] ++ g ∷ gs) × (text ≡ groups_text 0 (g ∷ gs))
    first [] e = absurd (some e)
    first (g ∷ gs) e = (g, gs, refl, e)

-- where the text is empty, no group is listed
pub read_empty : (text : List ℕ) (groups : List ZoneSet) → AreListed groups → text ≡ [] → text ≡ groups_text 0 groups
    → groups ≡ []
read_empty text [] listed none e = refl
read_empty text (g ∷ gs) listed none e =
    absurd (some_words g (listed.some g (contains_head g gs)) (listed.small g (contains_head g gs))
    (first_empty (number_words (zones_in g)) (groups_text 1 gs) (sym e ∙ none)))
  where
    first_empty : (xs ys : List ℕ) → xs ++ ys ≡ [] → xs ≡ []
    first_empty [] ys e = refl
    first_empty (x ∷ xs) ys e = absurd (cc e)

-- the next group of a text whose first groups were read
pub record IsNextRead (text rest : List ℕ) (read : List ZoneSet) (groups : List ZoneSet) : Type 0 where
  pub group : ZoneSet
  pub more : List ZoneSet
  pub groups_are : groups ≡ read ++ group ∷ more
  pub rest_is : rest ≡ groups_text 0 (group ∷ more)
  pub spells : SpellsZones group (number_words (zones_in group))

pub next_read : (text rest : List ℕ) (read groups : List ZoneSet) → ReadSoFar text rest read → AreListed groups
    → text ≡ groups_text 0 groups → IsNextRead text rest read groups
next_read text rest read groups so listed e =
    let (g, gs, is, rest_is) = so.left groups listed e in
    let here : Contains groups g = subst (λ (xs : List ZoneSet). Contains xs g) (sym is) (in_rest read g gs) in record {
      group = g;
      more = gs;
      groups_are = is;
      rest_is = rest_is;
      spells = (listed.some g here, listed.small g here, refl);
    }
  where
    in_rest : (xs : List ZoneSet) (g : ZoneSet) (gs : List ZoneSet) → Contains (xs ++ g ∷ gs) g
    in_rest [] g gs = contains_head g gs
    in_rest (x ∷ xs) g gs = contains_tail x (xs ++ g ∷ gs) g (in_rest xs g gs)

-- a group was read, and others follow it
pub read_more : (text rest others : List ℕ) (read new : List ZoneSet) (group : ZoneSet) → ReadSoFar text rest read
    → ((g : ZoneSet) (gs : List ZoneSet) → rest ≡ groups_text 0 (g ∷ gs)
    → (SpellsZones g (number_words (zones_in g)) → group ≡ g) × (gs ≢ []) × (others ≡ groups_text 0 gs))
    → new ≡ read ++ group ∷ [] → ReadSoFar text others new
read_more text rest others read new group so reads is = record {
  left = λ groups listed e.
      let next = next_read text rest read groups so listed e in
      let r = reads next.group next.more next.rest_is in
      pushed next.more next.group (r.0 next.spells) next.groups_are r.1 r.2;
}
  where
    pushed : {groups : List ZoneSet} (gs : List ZoneSet) (g : ZoneSet) → group ≡ g → groups ≡ read ++ g ∷ gs → gs ≢ []
        → others ≡ groups_text 0 gs
        → (h : ZoneSet) × (hs : List ZoneSet) × (groups ≡ new ++ h ∷ hs) × (others ≡ groups_text 0 (h ∷ hs))
    pushed [] g same all some rest = absurd (some refl)
    pushed (h ∷ hs) g same all some rest = (
      h,
      hs,
      all ∙ sym (append_assoc read (g ∷ []) (h ∷ hs)) ∙ ap (λ (x : ZoneSet). (read ++ x ∷ []) ++ h ∷ hs) (sym same)
          ∙ ap (λ xs. xs ++ h ∷ hs) (sym is),
      rest,
    )

-- the last group was read
pub read_last : (text rest : List ℕ) (read groups : List ZoneSet) (group : ZoneSet)
    → IsNextRead text rest read groups → ((g : ZoneSet) (gs : List ZoneSet) → rest ≡ groups_text 0 (g ∷ gs)
    → (SpellsZones g (number_words (zones_in g)) → group ≡ g) × (gs ≡ [])) → read ++ group ∷ [] ≡ groups
read_last text rest read groups group next reads =
    let r = reads next.group next.more next.rest_is in
    ap (λ (x : ZoneSet). read ++ x ∷ []) (r.0 next.spells)
    ∙ ap (λ (xs : List ZoneSet). read ++ next.group ∷ xs) (sym r.1) ∙ sym next.groups_are
