-- Commands that wake nothing.
use Rattle.std.proofs.Common.{◌≡◌, ◌↔◌, ℕ, List, Option, Some, None, Ok, refl, sym, ap, subst, ◌∙◌, Contains}
use Rattle.std.specs.FinMap as places
use Rattle.gz_names.specs.declared.names.Name.{Name}
use Rattle.gz_names.specs.declared.numbers.Place.{Place}
use Rattle.gz_names.specs.declared.commands.GraphCmd.{GraphCmd}
use Rattle.gz_names.specs.declared.replies.Reply.{Reply}
use Rattle.cell_bits.specs.declared.bits.Bits.{Bits}
use Rattle.colour_defs.specs.Step.{step_of}
use Rattle.colour_defs.specs.World.{World, Collection, IsSettled, marking_of, with_counts, woken_by}
use Rattle.colour_defs.specs.Laws.{IsValid}
use Rattle.colour_defs.specs.Present.{IsPartOf}
use Rattle.heap_core.specs.Shape.{IsPresent, name_at}
use Rattle.heap_core.specs.Heap.{HeapState}
use Rattle.heap_core.specs.Answers.{DoesStep}
use Rattle.barriers.specs.Colours.{IsBlack}
use Rattle.slice_driver.specs.Worlds.{LiesIn}
use Rattle.slice_driver.specs.Closures.{AreBlack}
use Rattle.slice_driver.specs.Commands.{DoesInWorld, StayInPlace, Wakes, waking, with_colours}
use Rattle.slice_driver.proofs.abstraction.Named.{named_present}
use Rattle.slice_driver.proofs.basics.NamesWeakly.{names_weakly_on}
use Rattle.slice_driver.proofs.abstraction.Lying.{IsStepIn, command_accepted, lies_from, step_in, woken_in}

pub counted_marking : (w : World) (c : GraphCmd) (o : Option Collection)
    → marking_of (with_counts w.graph c o) ≡ marking_of o
counted_marking w c None = refl
counted_marking w c (Some k) = refl

-- where all cells stay in place, the heap lies in each world with the graph after the step, and else as before
pub lies_still : (w v : World) (old new : HeapState) (c : GraphCmd) (answer : Reply) (l : LiesIn old w)
    → IsStepIn w old new c answer l → StayInPlace old.shape new.shape → new.weak_names ≡ old.weak_names
    → v.graph ≡ (step_of w.graph c).0 → v.places ≡ w.places → v.owner ≡ w.owner → v.weak ≡ w.weak → v.out ≡ w.out
    → v.white ≡ w.white → LiesIn new v
lies_still w v old new c answer l step stay named graph at owner weak out white =
    lies_from new (step_of l.graph c).0 v step.shown step.well_formed
    (subst (λ g. IsPartOf g (step_of l.graph c).0) (sym graph) step.part) stay.whole
    (λ x p. (
      λ e. stay.names p ∙ (l.places_are x p).0 (ap (λ m. places.get m x) (sym at) ∙ e),
      λ e. ap (λ m. places.get m x) at ∙ (l.places_are x p).1 (sym (stay.names p) ∙ e),
    ))
    (owner ∙ (l.owner_is ∙ sym stay.owners))
    (names_weakly_on old.shape new.shape (λ p x e. stay.names p ∙ e) old.weak_names new.weak_names w.weak v.weak named
    weak l.weak_are)
    (out ∙ (l.out_is ∙ sym stay.outs))
    (λ x p. (
      λ has. (stay.unswept p x).1
          ((l.white_are x p).0 (subst (λ (ws : List (Name × (ℕ × ℕ))). Contains ws (x, p)) white has)),
      λ un. subst (λ (ws : List (Name × (ℕ × ℕ))). Contains ws (x, p)) (sym white)
          ((l.white_are x p).1 ((stay.unswept p x).0 un)),
    ))

pub does_quiet : (w : World) (old new : HeapState) (c : GraphCmd) (answer : Reply) (ds es : List Bits) → IsValid w
    → LiesIn old w → w.preparing ≡ None → (IsSettled w → AreBlack (with_colours old ds) w) → DoesStep old c
    (Ok answer) new
    → StayInPlace old.shape new.shape → new.weak_names ≡ old.weak_names → Wakes old c None
    → ((p : Place) → IsPresent old.shape p → IsBlack (with_colours new es) p ↔ IsBlack (with_colours old ds) p)
    → DoesInWorld w c answer new es
does_quiet w old new c answer ds es ok l calm black does stay named quiet same =
    let step = step_in w old new c answer ok l does in
    let none : woken_by w.graph c ≡ None = woken_in w old c None ok l quiet in
    let v : World = record w { graph = (step_of w.graph c).0; collection = with_counts w.graph c w.collection } in
    record {
      after = v;
      command = command_accepted w v c answer None calm step.answer_is step.accepted none refl;
      lies = lies_still w v old new c answer l step stay named refl refl refl refl refl refl;
      black = λ settled x p e. (
          let was : name_at old.shape p ≡ Some x = sym (stay.names p) ∙ e in
          let both = black (record {
            none_marking = sym (counted_marking w c w.collection) ∙ settled.none_marking;
            none_preparing = calm;
          }) x p was in
          let there = named_present old.shape p x was in (
            λ has. (same p there).1 (both.0 has),
            λ b. both.1 ((same p there).0 b),
          )
          );
      out_is = refl;
      preparing_is = refl;
      graph_is = refl;
      collection_is = ap (λ o. waking o (with_counts w.graph c w.collection)) (sym none);
    }
