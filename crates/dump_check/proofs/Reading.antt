-- Lines of a dump, one behind the others.
use Rattle.std.proofs.Common.{
  ◌≡◌,
  ◌+◌,
  ◌⊎◌,
  inl,
  inr,
  List,
  [],
  ◌∷◌,
  ◌++◌,
  length,
  refl,
  ap,
  sym,
  subst,
  ◌∙◌,
  arith,
  append_assoc,
  None,
}
use Rattle.std.specs.Prelude.{IsTrue}
use Rattle.std.proofs.lemmas.List.{append-nil}
use Rattle.gz_names.specs.declared.dumps.DumpLine.{DumpLine}
use Rattle.gz_names.specs.declared.dumps.DumpLine.TheVariants as line
use Rattle.gz_names.specs.Dumps.{
  AreSoundLines,
  IsSoundDump,
  cells_of,
  edge_count,
  fault_of,
  is_in_form,
  last_part,
  part_of,
  weak_count,
}
use Rattle.dump_check.specs.declared.checker.Part.{Part}
use Rattle.dump_check.specs.declared.checker.Part.TheVariants as part
use Rattle.dump_check.specs.Checking.{part_number, Progress, read_of, with_line}

-- sound lines with one more
pub sound_push : (before ls : List DumpLine) (l : DumpLine) → AreSoundLines before ls
    → IsTrue (is_in_form (before ++ ls) l) → fault_of (before ++ ls) l ≡ None → AreSoundLines before (ls ++ l ∷ [])
sound_push before [] l s f g = (
  subst (λ b. IsTrue (is_in_form b l)) (append-nil before) f,
  subst (λ b. fault_of b l ≡ None) (append-nil before) g,
  tt,
)
sound_push before (m ∷ ls) l s f g = (
  s.0,
  s.1,
  sound_push (before ++ m ∷ []) ls l s.2
      (subst (λ b. IsTrue (is_in_form b l)) (sym (append_assoc before (m ∷ []) ls)) f)
      (subst (λ b. fault_of b l ≡ None) (sym (append_assoc before (m ∷ []) ls)) g),
)

-- what is kept of lines with one more
pub last_part_push : (ls : List DumpLine) (l : DumpLine) → last_part (ls ++ l ∷ []) ≡ part_of l
last_part_push [] l = refl
last_part_push (a ∷ []) l = refl
last_part_push (a ∷ b ∷ ls) l = last_part_push (b ∷ ls) l

length_push : (ls : List DumpLine) (l : DumpLine) → length (ls ++ l ∷ []) ≡ length ls + 1
length_push [] l = omega arith
length_push (a ∷ ls) l = omega (arith, length_push ls l)

cells_push : (ls ms : List DumpLine) → cells_of (ls ++ ms) ≡ cells_of ls ++ cells_of ms
cells_push [] ms = refl
cells_push (line.Cell x c ∷ ls) ms = ap (λ t. (x, c) ∷ t) (cells_push ls ms)
cells_push (line.Edge n y ∷ ls) ms = cells_push ls ms
cells_push (line.Weak m k v ∷ ls) ms = cells_push ls ms
cells_push (line.End ∷ ls) ms = cells_push ls ms

edges_push : (ls ms : List DumpLine) → edge_count (ls ++ ms) ≡ edge_count ls + edge_count ms
edges_push [] ms = omega arith
edges_push (line.Cell x c ∷ ls) ms = edges_push ls ms
edges_push (line.Edge n y ∷ ls) ms = omega (arith, edges_push ls ms)
edges_push (line.Weak m k v ∷ ls) ms = edges_push ls ms
edges_push (line.End ∷ ls) ms = edges_push ls ms

weak_push : (ls ms : List DumpLine) → weak_count (ls ++ ms) ≡ weak_count ls + weak_count ms
weak_push [] ms = omega arith
weak_push (line.Cell x c ∷ ls) ms = weak_push ls ms
weak_push (line.Edge n y ∷ ls) ms = weak_push ls ms
weak_push (line.Weak m k v ∷ ls) ms = omega (arith, weak_push ls ms)
weak_push (line.End ∷ ls) ms = weak_push ls ms

same_progress : (a b : Progress) → a.cells ≡ b.cells → a.part ≡ b.part → a.edges ≡ b.edges → a.entries ≡ b.entries
    → a.lines ≡ b.lines → a ≡ b
same_progress a b c p e w l = λ i. record { cells = c i; part = p i; edges = e i; entries = w i; lines = l i }

pub read_push : (ls : List DumpLine) (l : DumpLine) → with_line (read_of ls) l ≡ read_of (ls ++ l ∷ [])
read_push ls (line.Cell x c) = same_progress _ _ (sym (cells_push ls (line.Cell x c ∷ [])))
    (sym (last_part_push ls (line.Cell x c))) (let e = edges_push ls (line.Cell x c ∷ []) in omega (arith, e))
    (let e = weak_push ls (line.Cell x c ∷ []) in omega (arith, e)) (sym (length_push ls (line.Cell x c)))
read_push ls (line.Edge n y) = same_progress _ _ (sym (cells_push ls (line.Edge n y ∷ []) ∙ append-nil (cells_of ls)))
    (sym (last_part_push ls (line.Edge n y))) (let e = edges_push ls (line.Edge n y ∷ []) in omega (arith, e))
    (let e = weak_push ls (line.Edge n y ∷ []) in omega (arith, e)) (sym (length_push ls (line.Edge n y)))
read_push ls (line.Weak m k v) =
    same_progress _ _ (sym (cells_push ls (line.Weak m k v ∷ []) ∙ append-nil (cells_of ls)))
    (sym (last_part_push ls (line.Weak m k v))) (let e = edges_push ls (line.Weak m k v ∷ []) in omega (arith, e))
    (let e = weak_push ls (line.Weak m k v ∷ []) in omega (arith, e)) (sym (length_push ls (line.Weak m k v)))
read_push ls line.End = same_progress _ _ (sym (cells_push ls (line.End ∷ []) ∙ append-nil (cells_of ls)))
    (sym (last_part_push ls line.End)) (let e = edges_push ls (line.End ∷ []) in omega (arith, e))
    (let e = weak_push ls (line.End ∷ []) in omega (arith, e)) (sym (length_push ls line.End))

-- lines whose last part is the end's end with the end
pub ends_of : (ls : List DumpLine) → last_part ls ≡ 3 → (body : List DumpLine) × (ls ≡ body ++ line.End ∷ [])
ends_of [] e = absurd (omega (arith, e))
ends_of (line.Cell x c ∷ []) e = absurd (omega (arith, e))
ends_of (line.Edge n y ∷ []) e = absurd (omega (arith, e))
ends_of (line.Weak m k v ∷ []) e = absurd (omega (arith, e))
ends_of (line.End ∷ []) e = ([], refl)
ends_of (a ∷ b ∷ ls) e = let p = ends_of (b ∷ ls) e in (a ∷ p.0, ap (λ t. a ∷ t) p.1)

pub sound_of : (ls : List DumpLine) → AreSoundLines [] ls → last_part ls ≡ 3 → IsSoundDump ls
sound_of ls s e = let p = ends_of ls e in record { body = p.0; ends = p.1; sound = s }

pub end_of : (ls : List DumpLine) → IsSoundDump ls → last_part ls ≡ 3
end_of ls d = ap last_part d.ends ∙ last_part_push d.body line.End

-- the parts before the end are not the end's
pub open_part : (p : Part) → (p ≡ part.Cells) ⊎ ((p ≡ part.Edges) ⊎ (p ≡ part.WeakEntries)) → part_number p ≡ 3 → ⊥
open_part part.Cells h e = absurd (omega (arith, e))
open_part part.Edges h e = absurd (omega (arith, e))
open_part part.WeakEntries h e = absurd (omega (arith, e))
open_part part.End (inl p) e = absurd (cc p)
open_part part.End (inr (inl p)) e = absurd (cc p)
open_part part.End (inr (inr p)) e = absurd (cc p)

pub one_line_more : (p : Progress) (l : DumpLine) → (with_line p l).lines ≡ p.lines + 1
one_line_more p (line.Cell x c) = refl
one_line_more p (line.Edge n y) = refl
one_line_more p (line.Weak m k v) = refl
one_line_more p line.End = refl
