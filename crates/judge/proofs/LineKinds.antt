-- Which report a line is, by its first letters; and groups are read from a line in one way.
use Rattle.std.proofs.Common.{◌≡◌, ℕ, List, [], ◌∷◌, ◌++◌, get_or, refl, ap}
use Rattle.std.proofs.Common.{arith}
use Rattle.std.specs.Prelude.{codes}
use Rattle.gz_names.specs.declared.names.Name.{Name}
use Rattle.gz_names.specs.declared.zone_sets.ZoneSet.{ZoneSet}
use Rattle.gz_names.specs.declared.replies.Report.{Report}
use Rattle.gz_names.specs.declared.replies.Report.TheVariants as report
use Rattle.trace_lang.specs.Texts.{name_words, report_text}

-- two texts have the same bytes
byte_at : (i : ℕ) (xs ys : List ℕ) → xs ≡ ys → get_or xs i 0 ≡ get_or ys i 0
byte_at i xs ys e = ap (λ (l : List ℕ). get_or l i 0) e

pub is_started : (r : Report) → report_text r ≡ report_text report.Started
    → r ≡ report.Started
is_started report.Started e = refl
is_started (report.Groups gs) e = absurd (let d : 103 ≡ 115 = byte_at 0 _ _ e in omega (arith, d))
is_started (report.Ended zones grays told) e = absurd (let d : 101 ≡ 115 = byte_at 0 _ _ e in omega (arith, d))
is_started (report.Swept arena freed) e = absurd (let d : 119 ≡ 116 = byte_at 1 _ _ e in omega (arith, d))
is_started report.Done e = absurd (let d : 100 ≡ 115 = byte_at 0 _ _ e in omega (arith, d))
is_started (report.Stopped zones) e = absurd (let d : 111 ≡ 97 = byte_at 2 _ _ e in omega (arith, d))

pub is_groups : (r : Report) (hs : List ZoneSet) → report_text r ≡ report_text (report.Groups hs)
    → (gs : List ZoneSet) × (r ≡ report.Groups gs)
is_groups report.Started hs e = absurd (let d : 115 ≡ 103 = byte_at 0 _ _ e in omega (arith, d))
is_groups (report.Groups gs) hs e = (gs, refl)
is_groups (report.Ended zones grays told) hs e = absurd (let d : 101 ≡ 103 = byte_at 0 _ _ e in omega (arith, d))
is_groups (report.Swept arena freed) hs e = absurd (let d : 115 ≡ 103 = byte_at 0 _ _ e in omega (arith, d))
is_groups report.Done hs e = absurd (let d : 100 ≡ 103 = byte_at 0 _ _ e in omega (arith, d))
is_groups (report.Stopped zones) hs e = absurd (let d : 115 ≡ 103 = byte_at 0 _ _ e in omega (arith, d))

pub is_ended : (r : Report) (z : ZoneSet) (n : List Name) → report_text r ≡ report_text (report.Ended z n [])
    → (zones : ZoneSet) × (grays : List Name) × (told : List Name) × (r ≡ report.Ended zones grays told)
is_ended report.Started z n e = absurd (let d : 115 ≡ 101 = byte_at 0 _ _ e in omega (arith, d))
is_ended (report.Groups gs) z n e = absurd (let d : 103 ≡ 101 = byte_at 0 _ _ e in omega (arith, d))
is_ended (report.Ended zones grays told) z n e = (zones, grays, told, refl)
is_ended (report.Swept arena freed) z n e = absurd (let d : 115 ≡ 101 = byte_at 0 _ _ e in omega (arith, d))
is_ended report.Done z n e = absurd (let d : 100 ≡ 101 = byte_at 0 _ _ e in omega (arith, d))
is_ended (report.Stopped zones) z n e = absurd (let d : 115 ≡ 101 = byte_at 0 _ _ e in omega (arith, d))

pub is_swept : (r : Report) (a : ℕ) (f : List Name) → report_text r ≡ report_text (report.Swept a f)
    → (arena : ℕ) × (freed : List Name) × (r ≡ report.Swept arena freed)
is_swept report.Started a f e = absurd (let d : 116 ≡ 119 = byte_at 1 _ _ e in omega (arith, d))
is_swept (report.Groups gs) a f e = absurd (let d : 103 ≡ 115 = byte_at 0 _ _ e in omega (arith, d))
is_swept (report.Ended zones grays told) a f e = absurd (let d : 101 ≡ 115 = byte_at 0 _ _ e in omega (arith, d))
is_swept (report.Swept arena freed) a f e = (arena, freed, refl)
is_swept report.Done a f e = absurd (let d : 100 ≡ 115 = byte_at 0 _ _ e in omega (arith, d))
is_swept (report.Stopped zones) a f e = absurd (let d : 116 ≡ 119 = byte_at 1 _ _ e in omega (arith, d))

pub is_done : (r : Report) → report_text r ≡ report_text report.Done
    → r ≡ report.Done
is_done report.Started e = absurd (let d : 115 ≡ 100 = byte_at 0 _ _ e in omega (arith, d))
is_done (report.Groups gs) e = absurd (let d : 103 ≡ 100 = byte_at 0 _ _ e in omega (arith, d))
is_done (report.Ended zones grays told) e = absurd (let d : 101 ≡ 100 = byte_at 0 _ _ e in omega (arith, d))
is_done (report.Swept arena freed) e = absurd (let d : 115 ≡ 100 = byte_at 0 _ _ e in omega (arith, d))
is_done report.Done e = refl
is_done (report.Stopped zones) e = absurd (let d : 115 ≡ 100 = byte_at 0 _ _ e in omega (arith, d))

pub is_stopped : (r : Report) (z : ZoneSet) → report_text r ≡ report_text (report.Stopped z)
    → (zones : ZoneSet) × (r ≡ report.Stopped zones)
is_stopped report.Started z e = absurd (let d : 97 ≡ 111 = byte_at 2 _ _ e in omega (arith, d))
is_stopped (report.Groups gs) z e = absurd (let d : 103 ≡ 115 = byte_at 0 _ _ e in omega (arith, d))
is_stopped (report.Ended zones grays told) z e = absurd (let d : 101 ≡ 115 = byte_at 0 _ _ e in omega (arith, d))
is_stopped (report.Swept arena freed) z e = absurd (let d : 119 ≡ 116 = byte_at 1 _ _ e in omega (arith, d))
is_stopped report.Done z e = absurd (let d : 100 ≡ 115 = byte_at 0 _ _ e in omega (arith, d))
is_stopped (report.Stopped zones) z e = (zones, refl)

pub not_collected : (r : Report) → report_text r ≡ codes "collected" → ⊥
not_collected report.Started e = let d : 115 ≡ 99 = byte_at 0 _ _ e in omega (arith, d)
not_collected (report.Groups gs) e = let d : 103 ≡ 99 = byte_at 0 _ _ e in omega (arith, d)
not_collected (report.Ended zones grays told) e = let d : 101 ≡ 99 = byte_at 0 _ _ e in omega (arith, d)
not_collected (report.Swept arena freed) e = let d : 115 ≡ 99 = byte_at 0 _ _ e in omega (arith, d)
not_collected report.Done e = let d : 100 ≡ 99 = byte_at 0 _ _ e in omega (arith, d)
not_collected (report.Stopped zones) e = let d : 115 ≡ 99 = byte_at 0 _ _ e in omega (arith, d)

pub not_slice : (r : Report) (rest : List ℕ) → report_text r ≡ codes "slice " ++ rest → ⊥
not_slice report.Started rest e = let d : 116 ≡ 108 = byte_at 1 _ _ e in omega (arith, d)
not_slice (report.Groups gs) rest e = let d : 103 ≡ 115 = byte_at 0 _ _ e in omega (arith, d)
not_slice (report.Ended zones grays told) rest e = let d : 101 ≡ 115 = byte_at 0 _ _ e in omega (arith, d)
not_slice (report.Swept arena freed) rest e = let d : 119 ≡ 108 = byte_at 1 _ _ e in omega (arith, d)
not_slice report.Done rest e = let d : 100 ≡ 115 = byte_at 0 _ _ e in omega (arith, d)
not_slice (report.Stopped zones) rest e = let d : 116 ≡ 108 = byte_at 1 _ _ e in omega (arith, d)

pub not_told : (r : Report) (x : Name) (xs : List Name) → report_text r ≡ codes "told" ++ name_words (x ∷ xs) → ⊥
not_told report.Started x xs e = let d : 115 ≡ 116 = byte_at 0 _ _ e in omega (arith, d)
not_told (report.Groups gs) x xs e = let d : 103 ≡ 116 = byte_at 0 _ _ e in omega (arith, d)
not_told (report.Ended zones grays told) x xs e = let d : 101 ≡ 116 = byte_at 0 _ _ e in omega (arith, d)
not_told (report.Swept arena freed) x xs e = let d : 115 ≡ 116 = byte_at 0 _ _ e in omega (arith, d)
not_told report.Done x xs e = let d : 100 ≡ 116 = byte_at 0 _ _ e in omega (arith, d)
not_told (report.Stopped zones) x xs e = let d : 115 ≡ 116 = byte_at 0 _ _ e in omega (arith, d)

-- nor are last lines those that tell watched cells, or each other
pub slice_not_collected : (rest : List ℕ) → codes "slice " ++ rest ≡ codes "collected" → ⊥
slice_not_collected rest e = let d : 115 ≡ 99 = byte_at 0 _ _ e in omega (arith, d)

pub told_not_collected : (x : Name) (xs : List Name) → codes "told" ++ name_words (x ∷ xs) ≡ codes "collected" → ⊥
told_not_collected x xs e = let d : 116 ≡ 99 = byte_at 0 _ _ e in omega (arith, d)

pub told_not_slice : (x : Name) (xs : List Name) (rest : List ℕ)
    → codes "told" ++ name_words (x ∷ xs) ≡ codes "slice " ++ rest → ⊥
told_not_slice x xs rest e = let d : 116 ≡ 115 = byte_at 0 _ _ e in omega (arith, d)

pub not_telling : (r : Report) (rest : List ℕ) → report_text r ≡ codes "told " ++ rest → ⊥
not_telling report.Started rest e = let d : 115 ≡ 116 = byte_at 0 _ _ e in omega (arith, d)
not_telling (report.Groups gs) rest e = let d : 103 ≡ 116 = byte_at 0 _ _ e in omega (arith, d)
not_telling (report.Ended zones grays told) rest e = let d : 101 ≡ 116 = byte_at 0 _ _ e in omega (arith, d)
not_telling (report.Swept arena freed) rest e = let d : 115 ≡ 116 = byte_at 0 _ _ e in omega (arith, d)
not_telling report.Done rest e = let d : 100 ≡ 116 = byte_at 0 _ _ e in omega (arith, d)
not_telling (report.Stopped zones) rest e = let d : 115 ≡ 116 = byte_at 0 _ _ e in omega (arith, d)
