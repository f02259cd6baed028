-- What was written of a text and what is held back.
use Rattle.std.proofs.Common.{◌≡◌, ℕ, ◌+◌, ◌<◌, ◌≤◌, take, drop, List, [], ◌∷◌, ◌++◌, length, get_or, refl, ap, sym}
use Rattle.std.proofs.Common.{subst, ◌∙◌, arith, append_assoc, take-append-drop, Option, false}
use Rattle.std.proofs.lemmas.List.{append-nil, length-take-le}
use Rattle.std.specs.Prelude.{codes, ◌==◌}
use Rattle.std.proofs.Math.Seq.{drop-cons, take-add}
use Rattle.std.specs.Io.KnownBytes.{Appends}
use Rattle.std.proofs.KnownBytes.{Appends-trans}
use Rattle.gz_io.specs.Causes.{AppendsFront}
use Rattle.gz_names.specs.declared.names.Name.{Name}
use Rattle.gz_names.specs.declared.zone_sets.ZoneSet.{ZoneSet}
use Rattle.gz_names.specs.declared.dumps.DumpLine.{DumpLine}
use Rattle.gz_names.specs.DumpTexts.{dump_text}
use Rattle.gz_names.specs.Zones.{zones_in}
use Rattle.trace_lang.specs.Owing.{Owes}
use Rattle.trace_lang.specs.Words.{number_words}
use Rattle.trace_lang.specs.Texts.{name_words, names_text, name_text, bar_text, groups_text, line_of}
use Rattle.trace_lang.specs.Texts.{break_text, dump_lines_text, told_text, told_line}

-- what is held grows
pub owes_more : (a b : Option (List ℕ)) (held text more : List ℕ) → Owes a b held text
    → Owes a b (held ++ more) (text ++ more)
owes_more a b held text more h = (h.0, h.1, ap (λ t. t ++ more) h.2 ∙ append_assoc h.0 held more)

-- some of what is held is written
pub owes_sent : (a b c : Option (List ℕ)) (held rest text : List ℕ) → Owes a b held text → Owes b c rest held
    → Owes a c rest text
owes_sent a b c held rest text h k =
    (h.0 ++ k.0, Appends-trans a b c h.0 k.0 h.1 k.1, h.2 ∙ ap (λ t. h.0 ++ t) k.2 ∙ sym (append_assoc h.0 k.0 rest))

-- a prefix of what is held, and of more, is written
pub owes_front : (a b c : Option (List ℕ)) (held text more : List ℕ) → Owes a b held text
    → AppendsFront b c (held ++ more) → AppendsFront a c (text ++ more)
owes_front a b c held text more h k = (
  h.0 ++ k.0,
  k.1,
  ap (λ t. t ++ more) h.2 ∙ append_assoc h.0 held more ∙ ap (λ t. h.0 ++ t) k.2
      ∙ sym (append_assoc h.0 k.0 k.1),
  Appends-trans a b c h.0 k.0 h.1 k.3,
)

pub front_more : (a b : Option (List ℕ)) (text more : List ℕ) → AppendsFront a b text → AppendsFront a b (text ++ more)
front_more a b text more h = (h.0, h.1 ++ more, ap (λ t. t ++ more) h.2 ∙ append_assoc h.0 h.1 more, h.3)

-- a step of a loop: room is made, and then more is held
pub owes_step : (a b c : Option (List ℕ)) (held mid new text next more : List ℕ) → Owes a b held text
    → Owes b c mid held → new ≡ mid ++ more → next ≡ text ++ more → Owes a c new next
owes_step a b c held mid new text next more h k n e =
    subst (λ t. Owes a c t next) (sym n) (subst
    (λ t. Owes a c (mid ++ more) t) (sym e) (owes_more a c mid text more (owes_sent a b c held mid text h k)))

-- a prefix of what is held was written
pub front_step : (a b c : Option (List ℕ)) (held text all more : List ℕ) → Owes a b held text → AppendsFront b c held
    → all ≡ text ++ more → AppendsFront a c all
front_step a b c held text all more h k e =
    let f : AppendsFront b c (held ++ []) = front_more b c held [] k in
    let g : AppendsFront a c (text ++ []) = owes_front a b c held text [] h f in
    subst (λ t. AppendsFront a c t) (sym e)
    (front_more a c text more (subst (λ t. AppendsFront a c t) (append-nil text) g))

pub name_words-push : (xs : List Name) (x : Name) → name_words (xs ++ x ∷ []) ≡ name_words xs ++ (32 ∷ name_text x)
name_words-push [] x = ap (λ t. 32 ∷ t) (append-nil (name_text x))
name_words-push (y ∷ xs) x =
    ap (λ t. 32 ∷ t) (ap (λ t. name_text y ++ t) (name_words-push xs x)
    ∙ sym (append_assoc (name_text y) (name_words xs) (32 ∷ name_text x)))

pub taken_next : {X : Type 0} (xs : List X) (i : ℕ) (d : X) → i < length xs
    → take (i + 1) xs ≡ take i xs ++ get_or xs i d ∷ []
taken_next xs i d h = take-add i 1 xs ∙ ap (λ t. take i xs ++ take 1 t) (drop-cons xs i d h)

pub name_words-append : (xs ys : List Name) → name_words (xs ++ ys) ≡ name_words xs ++ name_words ys
name_words-append [] ys = refl
name_words-append (x ∷ xs) ys =
    ap (λ t. 32 ∷ t) (ap (λ t. name_text x ++ t) (name_words-append xs ys)
    ∙ sym (append_assoc (name_text x) (name_words xs) (name_words ys)))

pub groups_text-append : (n m : ℕ) (xs ys : List ZoneSet) → m ≡ n + length xs
    → groups_text n (xs ++ ys) ≡ groups_text n xs ++ groups_text m ys
groups_text-append n m [] ys e = ap (λ k. groups_text k ys) (let k : n ≡ m = omega (arith, e) in k)
groups_text-append n m (x ∷ xs) ys e =
    ap (λ t. (bar_text n ++ number_words (zones_in x)) ++ t) (groups_text-append (n + 1) m xs ys (omega (arith, e)))
    ∙ sym (append_assoc (bar_text n ++ number_words (zones_in x)) (groups_text (n + 1) xs) (groups_text m ys))

pub names_some : (xs : List Name) → (length xs == 0) ≡ false → names_text xs ≡ name_words xs
names_some [] h = absurd (cc h)
names_some (x ∷ xs) h = refl

assoc4 : (o a b n : List ℕ) → (o ++ (a ++ b)) ++ n ≡ (o ++ a) ++ (b ++ n)
assoc4 o a b n = ap (λ t. t ++ n) (sym (append_assoc o a b)) ∙ append_assoc (o ++ a) b n

pub some_rest : (old : List ℕ) (xs : List Name) (i : ℕ)
    → line_of (old ++ name_words xs) ≡ (old ++ name_words (take i xs)) ++ (name_words (drop i xs) ++ 10 ∷ [])
some_rest old xs i =
    ap (λ t. line_of (old ++ t)) (ap name_words (sym (take-append-drop i xs)) ∙ name_words-append (take i xs)
    (drop i xs)) ∙ assoc4 old (name_words (take i xs)) (name_words (drop i xs)) (10 ∷ [])

pub group_rest : (old : List ℕ) (xs : List ZoneSet) (i : ℕ) → i ≤ length xs
    → line_of (old ++ groups_text 0 xs) ≡ (old ++ groups_text 0 (take i xs)) ++ (groups_text i (drop i xs) ++ 10 ∷ [])
group_rest old xs i h =
    let l : length (take i xs) ≡ i = length-take-le i xs h in
    ap (λ t. line_of (old ++ t)) (ap (groups_text 0) (sym (take-append-drop i xs)) ∙ groups_text-append 0 i (take i xs)
    (drop i xs) (omega (arith, l))) ∙ assoc4 old (groups_text 0 (take i xs)) (groups_text i (drop i xs)) (10 ∷ [])

pub some_next : (old : List ℕ) (xs : List Name) (i : ℕ) (d : Name) → i < length xs
    → old ++ name_words (take (i + 1) xs) ≡ (old ++ name_words (take i xs)) ++ (32 ∷ name_text (get_or xs i d))
some_next old xs i d h =
    ap (λ t. old ++ t) (ap name_words (taken_next xs i d h) ∙ name_words-push (take i xs) (get_or xs i d))
    ∙ sym (append_assoc old (name_words (take i xs)) (32 ∷ name_text (get_or xs i d)))

pub group_next : (old : List ℕ) (xs : List ZoneSet) (i : ℕ) (d : ZoneSet) → i < length xs
    → old ++ groups_text 0 (take (i + 1) xs) ≡ (old ++ groups_text 0 (take i xs))
    ++ (bar_text i ++ number_words (zones_in (get_or xs i d)))
group_next old xs i d h =
    let l : length (take i xs) ≡ i = length-take-le i xs (omega arith) in
    ap (λ t. old ++ t) (ap (groups_text 0) (taken_next xs i d h) ∙ groups_text-append 0 i (take i xs)
    (get_or xs i d ∷ []) (omega (arith, l)) ∙ ap
    (λ t. groups_text 0 (take i xs) ++ t) (append-nil (bar_text i ++ number_words (zones_in (get_or xs i d)))))
    ∙ sym (append_assoc old (groups_text 0 (take i xs)) (bar_text i ++ number_words (zones_in (get_or xs i d))))

pub end_front : (a b c : Option (List ℕ)) (held text all : List ℕ) → Owes a b held text → all ≡ text
    → AppendsFront b c (line_of held) → AppendsFront a c (line_of all)
end_front a b c held text all h e k =
    subst (λ t. AppendsFront a c (line_of t)) (sym e) (owes_front a b c held text (10 ∷ []) h k)

pub two_pieces : (mid push new x y : List ℕ) → push ≡ mid ++ x → new ≡ push ++ y → new ≡ mid ++ (x ++ y)
two_pieces mid push new x y p n = n ∙ ap (λ t. t ++ y) p ∙ append_assoc mid x y

-- the lines of a dump, in two parts
pub dump_lines-append : (n m : ℕ) (xs ys : List DumpLine) → m ≡ n + length xs
    → dump_lines_text n (xs ++ ys) ≡ dump_lines_text n xs ++ dump_lines_text m ys
dump_lines-append n m [] ys e = ap (λ k. dump_lines_text k ys) (let k : n ≡ m = omega (arith, e) in k)
dump_lines-append n m (x ∷ xs) ys e =
    ap (λ t. (break_text n ++ dump_text x) ++ t) (dump_lines-append (n + 1) m xs ys (omega (arith, e)))
    ∙ sym (append_assoc (break_text n ++ dump_text x) (dump_lines_text (n + 1) xs) (dump_lines_text m ys))

pub dump_rest : (xs : List DumpLine) (i : ℕ) → i ≤ length xs
    → line_of (dump_lines_text 0 xs) ≡ dump_lines_text 0 (take i xs) ++ (dump_lines_text i (drop i xs) ++ 10 ∷ [])
dump_rest xs i h =
    let l : length (take i xs) ≡ i = length-take-le i xs h in
    ap line_of (ap (dump_lines_text 0) (sym (take-append-drop i xs)) ∙ dump_lines-append 0 i (take i xs) (drop i xs)
    (omega (arith, l))) ∙ append_assoc (dump_lines_text 0 (take i xs)) (dump_lines_text i (drop i xs)) (10 ∷ [])

pub dump_next : (xs : List DumpLine) (i : ℕ) (d : DumpLine) → i < length xs
    → dump_lines_text 0 (take (i + 1) xs) ≡ dump_lines_text 0 (take i xs) ++ (break_text i ++ dump_text (get_or xs i d))
dump_next xs i d h =
    let l : length (take i xs) ≡ i = length-take-le i xs (omega arith) in
    ap (dump_lines_text 0) (taken_next xs i d h)
    ∙ dump_lines-append 0 i (take i xs) (get_or xs i d ∷ []) (omega (arith, l)) ∙ ap
    (λ t. dump_lines_text 0 (take i xs) ++ t) (append-nil (break_text i ++ dump_text (get_or xs i d)))

-- the line of what is told stands behind the line before it
pub told_behind : (text : List ℕ) (xs : List Name) → line_of (text ++ told_text xs) ≡ line_of text ++ told_line xs
told_behind text [] = ap line_of (append-nil text) ∙ sym (append-nil (line_of text))
told_behind text (x ∷ xs) =
    append_assoc text (told_text (x ∷ xs)) (10 ∷ []) ∙ ap (λ t. text ++ t) tail
    ∙ sym (append_assoc text (10 ∷ []) (told_line (x ∷ xs)))
  where
    tail : told_text (x ∷ xs) ++ 10 ∷ [] ≡ (10 ∷ []) ++ told_line (x ∷ xs)
    tail = ap (λ t. 10 ∷ t) (append_assoc (codes "told") (name_words (x ∷ xs)) (10 ∷ []))

pub told_some : (xs : List Name) → (length xs == 0) ≡ false → told_line xs ≡ line_of (codes "told" ++ name_words xs)
told_some [] h = absurd (cc h)
told_some (x ∷ xs) h = refl

-- what is written in two steps, of which the second may stop early
after_front : (a b c : Option (List ℕ)) (x y : List ℕ) → Appends a b x → AppendsFront b c y
    → AppendsFront a c (x ++ y)
after_front a b c x y h k = (
  x ++ k.0,
  k.1,
  ap (λ t. x ++ t) k.2 ∙ sym (append_assoc x k.0 k.1),
  Appends-trans a b c x k.0 h k.3,
)

-- the lines of a group's end, by its piece, its gray names and the line of what is told
ended_text : (piece zs names : List ℕ) (told : List Name) → piece ≡ (codes "ended" ++ zs) ++ codes " gray"
    → line_of (codes "ended" ++ zs ++ codes " gray" ++ names ++ told_text told)
    ≡ line_of (piece ++ names) ++ told_line told
ended_text piece zs names told e =
    told_behind (((codes "ended" ++ zs) ++ codes " gray") ++ names) told
    ∙ ap (λ t. line_of (t ++ names) ++ told_line told) (sym e)

-- the piece, as its words are put into it
pub ended_piece : (empty word ended piece zs : List ℕ) → empty ≡ [] → word ≡ empty ++ codes "ended" → ended ≡ word ++ zs
    → piece ≡ ended ++ codes " gray" → piece ≡ (codes "ended" ++ zs) ++ codes " gray"
ended_piece empty word ended piece zs e f g h =
    h ∙ ap (λ t. t ++ codes " gray") (g ∙ ap (λ t. t ++ zs) (f ∙ ap (λ t. t ++ codes "ended") e))

pub ended_whole : (a b c : Option (List ℕ)) (piece zs names : List ℕ) (told : List Name)
    → piece ≡ (codes "ended" ++ zs) ++ codes " gray" → Appends a b (line_of (piece ++ names))
    → Appends b c (told_line told)
    → Appends a c (line_of (codes "ended" ++ zs ++ codes " gray" ++ names ++ told_text told))
ended_whole a b c piece zs names told e h k =
    subst (λ t. Appends a c t) (sym (ended_text piece zs names told e))
    (Appends-trans a b c (line_of (piece ++ names)) (told_line told) h k)

pub ended_front : (a b : Option (List ℕ)) (piece zs names : List ℕ) (told : List Name)
    → piece ≡ (codes "ended" ++ zs) ++ codes " gray" → AppendsFront a b (line_of (piece ++ names))
    → AppendsFront a b (line_of (codes "ended" ++ zs ++ codes " gray" ++ names ++ told_text told))
ended_front a b piece zs names told e h =
    subst (λ t. AppendsFront a b t) (sym (ended_text piece zs names told e))
    (front_more a b (line_of (piece ++ names)) (told_line told) h)

pub ended_told : (a b c : Option (List ℕ)) (piece zs names : List ℕ) (told : List Name)
    → piece ≡ (codes "ended" ++ zs) ++ codes " gray" → Appends a b (line_of (piece ++ names))
    → AppendsFront b c (told_line told)
    → AppendsFront a c (line_of (codes "ended" ++ zs ++ codes " gray" ++ names ++ told_text told))
ended_told a b c piece zs names told e h k =
    subst (λ t. AppendsFront a c t) (sym (ended_text piece zs names told e))
    (after_front a b c (line_of (piece ++ names)) (told_line told) h k)
