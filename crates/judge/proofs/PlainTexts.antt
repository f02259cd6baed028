-- The lines of an answer have no line feed, and do not begin as those of a trace do.
use Rattle.std.proofs.Common.{◌≡◌, ◌≢◌, ℕ, zero, suc, ◌+◌, ◌%◌, ◌/◌, Bool, true, false, if◌then◌else◌}
use Rattle.std.proofs.Common.{List, [], ◌∷◌, ◌++◌, refl, ap, arith, get_or}
use Rattle.std.specs.Prelude.{codes, nat_lt, ◌==◌}
use Rattle.std.specs.Fmt.{decimal, digit_glyph, digits, digits_onto}
use Rattle.std.proofs.lemmas.Bool.{eqb-false, ltb-true}
use Rattle.gz_names.specs.declared.names.Name.{Name}
use Rattle.gz_names.specs.declared.names.Name.TheVariants.{Cell, Wrap}
use Rattle.gz_names.specs.Zones.{zones_in}
use Rattle.gz_names.specs.declared.zone_sets.ZoneSet.{ZoneSet}
use Rattle.gz_names.specs.declared.replies.Refusal.{Refusal}
use Rattle.gz_names.specs.declared.replies.Refusal.TheVariants as refusal
use Rattle.gz_names.specs.declared.replies.Reply.{Reply}
use Rattle.gz_names.specs.declared.replies.Reply.TheVariants as reply
use Rattle.gz_names.specs.declared.replies.Report.TheVariants as report
use Rattle.gz_names.specs.declared.dumps.DumpLine.{DumpLine}
use Rattle.gz_names.specs.declared.dumps.DumpLine.TheVariants as line
use Rattle.gz_names.specs.declared.dumps.DumpColour.{DumpColour}
use Rattle.gz_names.specs.declared.dumps.DumpColour.TheVariants.{Black, Gray}
use Rattle.gz_names.specs.DumpTexts.{colour_text, dump_text, name_text}
use Rattle.trace_lang.specs.Texts.{bar_text, groups_text, name_words, names_text, refusal_text, reply_text, report_text}
use Rattle.trace_lang.specs.Words.{number_word, number_words}
use Rattle.judge.specs.Lines.{IsOneLine}
use Rattle.judge.specs.Replies.{IsUnmarked}
use Rattle.judge.specs.Transcripts.{dump_line}

-- bytes that are no line feed and no mark of a trace's line
pub data ArePlain : List ℕ → Type 0 where
  nothing : ArePlain []
  more : {b : ℕ} {bs : List ℕ} → b ≢ 10 → b ≢ 62 → ArePlain bs → ArePlain (b ∷ bs)

pub plain_both : (xs ys : List ℕ) → ArePlain xs → ArePlain ys → ArePlain (xs ++ ys)
plain_both [] ys p q = q
plain_both (x ∷ xs) ys (more a b p) q = more a b (plain_both xs ys p q)

-- by a test
abbrev is_plain : List ℕ → Bool
is_plain [] = true
is_plain (b ∷ bs) = if b == 10 then false else (if b == 62 then false else is_plain bs)

plain_by : (bs : List ℕ) → is_plain bs ≡ true → ArePlain bs
plain_by [] e = nothing
plain_by (b ∷ bs) e = go (λ h. plain_by bs h) (b == 10) (b == 62) refl refl e
  where
    go : (is_plain bs ≡ true → ArePlain bs) → (s t : Bool) → (b == 10) ≡ s → (b == 62) ≡ t
        → (if s then false else (if t then false else is_plain bs)) ≡ true → ArePlain (b ∷ bs)
    go rest true t p q h = absurd (cc h)
    go rest false true p q h = absurd (cc h)
    go rest false false p q h = more (eqb-false b 10 p) (eqb-false b 62 q) (rest h)

-- numbers
glyph_plain : (d : ℕ) → (digit_glyph false d ≢ 10) × (digit_glyph false d ≢ 62)
glyph_plain d = go (nat_lt d 10) refl
  where
    go : (b : Bool) → nat_lt d 10 ≡ b → ((if b then 48 + d else (87 + d)) ≢ 10)
        × ((if b then 48 + d else (87 + d)) ≢ 62)
    go true e = (λ h. omega (arith, h), λ h. omega (arith, h, ltb-true d 10 e))
    go false e = (λ h. omega (arith, h), λ h. omega (arith, h))

glyph_more : (d : ℕ) (bs : List ℕ) → ArePlain bs → ArePlain (digit_glyph false d ∷ bs)
glyph_more d bs p = let g = glyph_plain d in more g.0 g.1 p

digits_plain : (k n : ℕ) (acc : List ℕ) → ArePlain acc → ArePlain (digits_onto k 10 false n acc)
digits_plain zero n acc p = p
digits_plain (suc k) n acc p = go (glyph_more (n % 10) acc p)
    (digits_plain k (n / 10) (digit_glyph false (n % 10) ∷ acc) (glyph_more (n % 10) acc p)) (n / 10 == 0)
  where
    go : ArePlain (digit_glyph false (n % 10) ∷ acc)
        → ArePlain (digits_onto k 10 false (n / 10) (digit_glyph false (n % 10) ∷ acc)) → (b : Bool)
        → ArePlain (if b then digit_glyph false (n % 10) ∷ acc
        else digits_onto k 10 false (n / 10) (digit_glyph false (n % 10) ∷ acc))
    go this rest true = this
    go this rest false = rest

pub decimal_plain : (n : ℕ) → ArePlain (decimal n)
unfolding digits
decimal_plain n = digits_plain 64 n [] nothing

number_plain : (n : ℕ) → ArePlain (number_word n)
number_plain n = more (λ e. omega (arith, e)) (λ e. omega (arith, e)) (decimal_plain n)

numbers_plain : (ns : List ℕ) → ArePlain (number_words ns)
numbers_plain [] = nothing
numbers_plain (n ∷ ns) = plain_both (number_word n) (number_words ns) (number_plain n) (numbers_plain ns)

-- names
name_plain : (x : Name) → ArePlain (name_text x)
name_plain (Cell n) = decimal_plain n
name_plain (Wrap c t) = plain_both (decimal c.0) (58 ∷ decimal t) (decimal_plain c.0)
    (more (λ e. omega (arith, e)) (λ e. omega (arith, e)) (decimal_plain t))

names_plain : (xs : List Name) → ArePlain (name_words xs)
names_plain [] = nothing
names_plain (x ∷ xs) = more (λ e. omega (arith, e)) (λ e. omega (arith, e))
    (plain_both (name_text x) (name_words xs) (name_plain x) (names_plain xs))

list_plain : (xs : List Name) → ArePlain (names_text xs)
list_plain [] = plain_by (codes " -") refl
list_plain (x ∷ xs) = names_plain (x ∷ xs)

-- replies of one line
refusal_plain : (why : Refusal) → ArePlain (refusal_text why)
refusal_plain refusal.Full = plain_by (codes "full") refl
refusal_plain refusal.NoZone = plain_by (codes "no-zone") refl
refusal_plain refusal.NoComp = plain_by (codes "no-comp") refl
refusal_plain refusal.Empty = plain_by (codes "empty") refl
refusal_plain refusal.Kind = plain_by (codes "kind") refl
refusal_plain refusal.NoField = plain_by (codes "no-field") refl
refusal_plain refusal.Cross = plain_by (codes "cross") refl
refusal_plain refusal.Running = plain_by (codes "running") refl
refusal_plain refusal.Idle = plain_by (codes "idle") refl
refusal_plain refusal.Marking = plain_by (codes "marking") refl

colour_plain : (c : DumpColour) → ArePlain (colour_text c)
colour_plain Black = plain_by (codes "b") refl
colour_plain Gray = plain_by (codes "g") refl

space_plain : (bs : List ℕ) → ArePlain bs → ArePlain (32 ∷ bs)
space_plain bs p = more (λ e. omega (arith, e)) (λ e. omega (arith, e)) p

dump_plain : (l : DumpLine) → ArePlain (dump_text l)
dump_plain (line.Cell x c) = plain_both (codes "cell ") (name_text x ++ 32 ∷ colour_text c)
    (plain_by (codes "cell ") refl)
    (plain_both (name_text x) (32 ∷ colour_text c) (name_plain x) (space_plain (colour_text c) (colour_plain c)))
dump_plain (line.Edge n y) = plain_both (codes "edge ") (decimal n ++ 32 ∷ name_text y) (plain_by (codes "edge ") refl)
    (plain_both (decimal n) (32 ∷ name_text y) (decimal_plain n) (space_plain (name_text y) (name_plain y)))
dump_plain (line.Weak m k v) = plain_both (codes "weak " ++ decimal m ++ 32 ∷ name_text k) (32 ∷ name_text v)
    (plain_both (codes "weak " ++ decimal m) (32 ∷ name_text k)
    (plain_both (codes "weak ") (decimal m) (plain_by (codes "weak ") refl) (decimal_plain m))
    (space_plain (name_text k) (name_plain k))) (space_plain (name_text v) (name_plain v))
dump_plain line.End = plain_by (codes "end") refl

nil_right : (xs : List ℕ) → ArePlain xs → ArePlain (xs ++ [])
nil_right xs p = plain_both xs [] p nothing

pub line_plain : (l : DumpLine) → ArePlain (dump_line l)
line_plain l = nil_right (dump_text l) (dump_plain l)

-- a reply that is no dump
abbrev pub IsNoDump : Reply → Type 0
IsNoDump r = (lines : List DumpLine) → r ≡ reply.Dump lines → ⊥

pub reply_plain : (r : Reply) → IsNoDump r → ArePlain (reply_text r)
reply_plain (reply.Zone z) none = plain_both (codes "zone ") (decimal z) (plain_by (codes "zone ") refl)
    (decimal_plain z)
reply_plain (reply.Comp c) none =
    plain_both (codes "comp ") (decimal c.0) (plain_by (codes "comp ") refl) (decimal_plain c.0)
reply_plain (reply.Made n) none = plain_both (codes "cell ") (decimal n) (plain_by (codes "cell ") refl)
    (decimal_plain n)
reply_plain (reply.Named x) none = name_plain x
reply_plain reply.Null none = plain_by (codes "null") refl
reply_plain reply.Accepted none = plain_by (codes "ok") refl
reply_plain reply.Absent none = plain_by (codes "absent") refl
reply_plain reply.GcBegun none = plain_by (codes "gc ok") refl
reply_plain (reply.Sliced k) none =
    plain_both (codes "slice ") (decimal k) (plain_by (codes "slice ") refl) (decimal_plain k)
reply_plain reply.Collected none = plain_by (codes "collected") refl
reply_plain reply.ResetDone none = plain_by (codes "reset ok") refl
reply_plain (reply.Gray names) none =
    plain_both (codes "gray") (names_text names) (plain_by (codes "gray") refl) (list_plain names)
reply_plain (reply.Dump lines) none = absurd (none lines refl)
reply_plain (reply.Compacted moved given) none =
    plain_both (codes "compacted") (number_word moved ++ number_word given) (plain_by (codes "compacted") refl)
    (plain_both (number_word moved) (number_word given) (number_plain moved) (number_plain given))
reply_plain (reply.Refused why) none = refusal_plain why

-- reports of one line
bar_plain : (n : ℕ) → ArePlain (bar_text n)
bar_plain n = go (n == 0)
  where
    go : (b : Bool) → ArePlain (if b then [] else codes " |")
    go true = nothing
    go false = plain_by (codes " |") refl

groups_plain : (n : ℕ) (gs : List ZoneSet) → ArePlain (groups_text n gs)
groups_plain n [] = nothing
groups_plain n (g ∷ gs) = plain_both (bar_text n ++ number_words (zones_in g)) (groups_text (n + 1) gs)
    (plain_both (bar_text n) (number_words (zones_in g)) (bar_plain n) (numbers_plain (zones_in g)))
    (groups_plain (n + 1) gs)

pub started_plain : ArePlain (report_text report.Started)
started_plain = plain_by (codes "started") refl

pub groups_line_plain : (gs : List ZoneSet) → ArePlain (report_text (report.Groups gs))
groups_line_plain gs = plain_both (codes "groups") (groups_text 0 gs) (plain_by (codes "groups") refl)
    (groups_plain 0 gs)

pub ended_plain : (zones : ZoneSet) (grays : List Name) → ArePlain (report_text (report.Ended zones grays []))
ended_plain zones grays =
    nil_right (codes "ended" ++ number_words (zones_in zones) ++ codes " gray" ++ names_text grays)
    (plain_both (codes "ended" ++ number_words (zones_in zones) ++ codes " gray") (names_text grays)
    (plain_both (codes "ended" ++ number_words (zones_in zones)) (codes " gray")
    (plain_both (codes "ended") (number_words (zones_in zones)) (plain_by (codes "ended") refl)
    (numbers_plain (zones_in zones))) (plain_by (codes " gray") refl)) (list_plain grays))

pub swept_plain : (arena : ℕ) (freed : List Name) → ArePlain (report_text (report.Swept arena freed))
swept_plain arena freed =
    plain_both (codes "swept ") (decimal arena ++ names_text freed) (plain_by (codes "swept ") refl)
    (plain_both (decimal arena) (names_text freed) (decimal_plain arena) (list_plain freed))

pub done_plain : ArePlain (report_text report.Done)
done_plain = plain_by (codes "done") refl

pub stopped_plain : (zones : ZoneSet) → ArePlain (report_text (report.Stopped zones))
stopped_plain zones = plain_both (codes "stopped") (number_words (zones_in zones)) (plain_by (codes "stopped") refl)
    (numbers_plain (zones_in zones))

pub told_plain : (x : Name) (xs : List Name) → ArePlain (codes "told" ++ name_words (x ∷ xs))
told_plain x xs = plain_both (codes "told") (name_words (x ∷ xs)) (plain_by (codes "told") refl) (names_plain (x ∷ xs))

-- what plain bytes lack
pub one_line : (bs : List ℕ) → ArePlain bs → IsOneLine bs
one_line [] nothing = tt
one_line (b ∷ bs) (more a c p) = (a, one_line bs p)

pub unmarked : (bs : List ℕ) → ArePlain bs → IsUnmarked bs
unmarked [] p text e = cc e
unmarked (b ∷ bs) (more a c p) text e = c (ap (λ t. get_or t 0 0) e)
