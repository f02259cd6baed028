-- Which report is due, and whether the collection is over.
use Rattle.std.proofs.Common.{◌≡◌, ◌↔◌, ◌∙◌, ℕ, ◌-◌, false, IsTrue, List, [], ◌∷◌, ◌++◌, length, Option, Some, None}
use Rattle.std.proofs.Common.{refl, sym, ap, subst, arith, length-append}
use Rattle.std.specs.Prelude.{reverse, slice_get, IfSome}
use Rattle.std.proofs.lemmas.List.{reverse-append, reverse-reverse}
use Rattle.std.proofs.lemmas.Option.{MatchOption-from_none}
use Rattle.gz_names.specs.declared.zone_sets.ZoneSet.{ZoneSet}
use Rattle.colour_defs.specs.Units.{Tally}
use Rattle.judge.specs.Stages.{Shown, Stage, HasGroups, IsDue, IsDueOf, IsOver, collecting, preparing, stage_of}
use Rattle.judge.specs.Walks.{Walks}
use Rattle.judge.specs.declared.former.Former.{Former}
use Rattle.judge.specs.declared.collection.Collection.{Collection}
use Rattle.judge.specs.declared.preparation.Preparation.{Preparation}
use Rattle.judge.specs.declared.world.Phase.{Phase}
use Rattle.judge.specs.declared.world.Phase.TheVariants as phase
use Rattle.judge.specs.declared.world.DueReport.{DueReport}
use Rattle.judge.specs.declared.world.DueReport.TheVariants as due

pub due_in : (r : DueReport) (s : Shown) → s.out ≡ [] → IsDueOf r s.stage → IsDue r s
due_in due.Idle s none d = (none, d)
due_in due.Started s none d = (none, d)
due_in due.Groups s none d = (none, d)
due_in due.Ended s none d = (none, d)
due_in (due.Swept arena) s none d = absurd d
due_in due.Done s none d = (none, d)

pub over_of : (r : DueReport) (s : Shown) → IsDue r s → r ≡ due.Done → IsOver s
over_of due.Idle s d e = absurd (cc e)
over_of due.Started s d e = absurd (cc e)
over_of due.Groups s d e = absurd (cc e)
over_of due.Ended s d e = absurd (cc e)
over_of (due.Swept arena) s d e = absurd (cc e)
over_of due.Done s d e = record { zones = d.1.0; marking = d.1.1; ended = d.1.2; none_out = d.0 }

pub done_of : (r : DueReport) (s : Shown) → IsDue r s → IsOver s → r ≡ due.Done
done_of due.Idle s d o = absurd (cc (d.1, o.ended))
done_of due.Started s d o = absurd (cc (d.1.1, o.ended))
done_of due.Groups s d o = absurd (cc (d.1.2, o.ended))
done_of due.Ended s d o = absurd (cc (d.1.1.3, o.ended))
done_of (due.Swept arena) s d o = absurd (cc (d.1, o.none_out))
done_of due.Done s d o = refl

-- the lowest arena is the last of the list
get_last : (ys : List ℕ) (b : ℕ) → slice_get (ys ++ b ∷ []) (length ys) ≡ Some b
get_last [] b = refl
get_last (y ∷ ys) b = get_last ys b

pub last_first : (xs : List ℕ) (r : Option ℕ) → r ≡ slice_get xs (length xs - 1)
    → IfSome r (λ a. (rest : List ℕ) × (reverse xs ≡ a ∷ rest))
last_first xs r e = at (reverse xs) refl
  where
    at : (rs : List ℕ) → reverse xs ≡ rs → IfSome r (λ a. (rest : List ℕ) × (reverse xs ≡ a ∷ rest))
    at [] q =
        let none : xs ≡ [] = sym (reverse-reverse xs) ∙ ap reverse q in
        MatchOption-from_none r (λ a. (rest : List ℕ) × (reverse xs ≡ a ∷ rest))
        (e ∙ ap (λ ys. slice_get ys (length ys - 1)) none)
    at (b ∷ rest) q =
        let ys : List ℕ = reverse rest in
        let is : xs ≡ ys ++ b ∷ [] = sym (reverse-reverse xs) ∙ ap reverse q ∙ reverse-append (b ∷ []) rest in
        let n : length xs - 1 ≡ length ys = omega (arith, length-append ys (b ∷ []), ap length is) in
        let some : r ≡ Some b =
        e ∙ ap (λ k. slice_get xs k) n ∙ ap (λ zs. slice_get zs (length ys)) is ∙ get_last ys b in
        subst (λ o. IfSome o (λ a. (t : List ℕ) × (reverse xs ≡ a ∷ t))) (sym some) (rest, q)

pub some_first : {X : Type 0} (xs : List X) → (length xs ≡ 0 → ⊥) → (x : X) × (rest : List X) × (xs ≡ x ∷ rest)
some_first [] some = absurd (some refl)
some_first (x ∷ xs) some = (x, xs, refl)

-- a collection that is being prepared
pub not_preparing : (p : Phase) (zones : ZoneSet) → ((q : Preparation) → p ≡ phase.Preparing q → ⊥)
    → stage_of p ≡ preparing zones → ⊥
not_preparing phase.Idle zones n e = cc e
not_preparing (phase.Preparing q) zones n e = n q refl
not_preparing (phase.Collecting k) zones n e = cc e

-- marking has begun
pub started_is : (old new : Shown) {f : Former} (zones : ZoneSet) (s : Stage) (w : Walks) {m n : Tally}
    → new ≡ record old { stage = s; left_out = None; former = f; walks = Some w; tally = m }
    → s ≡ collecting zones zones None → m ≡ n → new ≡ record old {
      stage = collecting zones zones None;
      left_out = None;
      former = new.former;
      walks = Some w;
      tally = n;
    }
started_is old new {f = f} zones s w {m = m} {n = n} e stage counted = e
    ∙ ap (λ (k : Stage). record old { stage = k; left_out = None; former = f; walks = Some w; tally = m }) stage
    ∙ ap (λ (t : Tally). record old {
      stage = collecting zones zones None;
      left_out = None;
      former = f;
      walks = Some w;
      tally = t;
    }) counted
    ∙ ap (λ (h : Former). record old {
      stage = collecting zones zones None;
      left_out = None;
      former = h;
      walks = Some w;
      tally = n;
    }) (sym (ap (λ (t : Shown). t.former) e))

-- no groups are left where none is marking
pub none_left : (p : Phase) → ((k : Collection) → p ≡ phase.Collecting k → ⊥) → IsTrue false ↔ HasGroups (stage_of p)
none_left phase.Idle n = (λ t. absurd (cc t), λ h. absurd h)
none_left (phase.Preparing q) n = (λ t. absurd (cc t), λ h. absurd h)
none_left (phase.Collecting k) n = absurd (n k refl)
