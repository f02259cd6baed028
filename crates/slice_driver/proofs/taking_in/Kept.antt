-- What is kept as an arena comes in: the words of the others, and what a collector keeps besides.
use Rattle.std.proofs.Common.{◌≡◌, ℕ, false, Option, None, Some, List, [], slice_get, refl, sym, ap, subst, ◌∙◌}
use Rattle.std.proofs.Common.{inl, inr, option_map}
use Rattle.std.proofs.lemmas.Bool.{cases_eq}
use Rattle.gz_names.specs.declared.zone_sets.ZoneSet.{ZoneSet}
use Rattle.cell_bits.specs.declared.bits.Bits.{Bits}
use Rattle.arena_table.proofs.Changing.{slice_get-change_other, slice_get-change_same}
use Rattle.heap_core.specs.Shape.{ArenaShape, Shape, out_in, out_of}
use Rattle.heap_core.specs.Heap.{HeapState}
use Rattle.heap_core.specs.Sweeping.{come_in, with_taken}
use Rattle.slice_driver.specs.Advancing.{EndsSweeping}
use Rattle.slice_driver.specs.Units.{IsFreedWord, KeepsFreedWords}

-- where a heap has other states alone, its arenas are as they were
pub out_rest : (h k : HeapState) → k ≡ record h { shape = record h.shape { states = k.shape.states } } → (a : ℕ)
    → out_of k.shape a ≡ out_of h.shape a
out_rest h k e a = ap (λ (z : HeapState). out_of z.shape a) e

pub words_rest : (h k : HeapState) → k ≡ record h { shape = record h.shape { states = k.shape.states } }
    → KeepsFreedWords h.shape k.shape
words_rest h k e a freed word = subst (λ (z : HeapState). IsFreedWord z.shape a freed) (sym e) word

module _ (h : HeapState) (a freed : ℕ) (bits : Bits) where
  abbrev after : HeapState
  after = with_taken h a freed bits

  pub out_taken : out_of after.shape a ≡ None
  out_taken = ap out_in (slice_get-change_same (come_in freed) h.shape.arenas a) ∙ go (slice_get h.shape.arenas a)
    where
      go : (o : Option ArenaShape) → out_in (option_map (come_in freed) o) ≡ None
      go None = refl
      go (Some arena) = refl

  pub words_taken : KeepsFreedWords h.shape after.shape
  words_taken b word is arena old at out = elim (cases_eq b a) [
    | inr ne ↦ is arena old (sym (slice_get-change_other (come_in freed) h.shape.arenas a b ne) ∙ at) out
    | inl e ↦ absurd (
        let some : out_of after.shape a ≡ Some old = ap (λ z. out_of after.shape z) (sym e) ∙ ap out_in at ∙ out in
        cc (out_taken, some)
        )
  ]

pub words_both : (s t u : Shape) → KeepsFreedWords s t → KeepsFreedWords t u → KeepsFreedWords s u
words_both s t u f g a freed word = g a freed (f a freed word)

-- more is left, where not all was over
pub more_left : (h : HeapState) (groups : List ZoneSet) (k : HeapState) → EndsSweeping h groups false k → groups ≡ []
    → ((a : ℕ) → out_of k.shape a ≡ None) → ⊥
more_left h groups k e empty none = (e.swept (λ a. sym (out_rest h k e.rest a) ∙ none a) refl).0 empty
