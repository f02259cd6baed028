-- What is freed of an arena that is handed to sweeping stays the same while its cells stay where they are.
use Rattle.std.proofs.Common.{◌≡◌, ◌↔◌, ◌+◌, ◌*◌, ℕ, suc, Bool, true, false, List, [], ◌∷◌, length, if◌then◌else◌}
use Rattle.std.proofs.Common.{Option, Some, None, IsSome, is_some, slice_get, option_map, refl, sym, ap, subst, ◌∙◌}
use Rattle.gz_names.specs.declared.names.Name.{Name}
use Rattle.gz_names.specs.declared.numbers.Place.{Place}
use Rattle.cell_bits.specs.declared.bits.Bits.{Bits}
use Rattle.cell_bits.specs.Colours.{white_mask_of}
use Rattle.arena_table.specs.Cells.{CellState}
use Rattle.arena_table.specs.Slots.{alloc_word_of, cell_in}
use Rattle.heap_core.specs.Shape.{ArenaShape, AreWhole, Shape, cell_in_arena, is_white, name_at, out_in, out_of}
use Rattle.heap_core.specs.Shape.{present_in, stored_at, stored_in}
use Rattle.slice_driver.specs.Units.{IsFreedWord, KeepsFreedWords}
use Rattle.slice_driver.specs.Worlds.{IsUnswept}

-- the slots that were taken are taken
same_word : (xs ys : List (Option CellState)) → length xs ≡ length ys →
    ((i : ℕ) → is_some (cell_in xs i) ≡ is_some (cell_in ys i)) → alloc_word_of xs ≡ alloc_word_of ys
same_word [] [] e same = refl
same_word [] (y ∷ ys) e same = absurd (cc e)
same_word (x ∷ xs) [] e same = absurd (cc e)
same_word (x ∷ xs) (y ∷ ys) e same =
    let here : is_some x ≡ is_some y = same 0 in
    let rest : alloc_word_of xs ≡ alloc_word_of ys = same_word xs ys (cc e) (λ i. same (suc i)) in
    λ i. (if here i then 1 else 0) + 2 * rest i

some_named : (o : Option CellState) → is_some (option_map (λ (c : CellState). c.name) o) ≡ is_some o
some_named None = refl
some_named (Some c) = refl

out_arena : (o : Option ArenaShape) (bits : Bits) → out_in o ≡ Some bits → (arena : ArenaShape) × (o ≡ Some arena) ×
    (arena.out ≡ Some bits)
out_arena None bits e = absurd (cc e)
out_arena (Some arena) bits e = (arena, refl, e)

-- an arena that is out, before and after
module _ (s t : Shape) (a : ℕ) (bits : Bits) (old new : ArenaShape) (was : slice_get s.arenas a ≡ Some old)
    (is : slice_get t.arenas a ≡ Some new) (out_then : old.out ≡ Some bits) (out_now : new.out ≡ Some bits)
    (names : (i : ℕ) → name_at t (a, i) ≡ name_at s (a, i))
    (unswept : (i : ℕ) (x : Name) → IsUnswept t (a, i) x ↔ IsUnswept s (a, i) x) where
  stored_then : (i : ℕ) → stored_at s (a, i) ≡ cell_in old.slots i
  stored_then i = ap (λ o. stored_in o i) was

  stored_now : (i : ℕ) → stored_at t (a, i) ≡ cell_in new.slots i
  stored_now i = ap (λ o. stored_in o i) is

  named : (u : Shape) (arena : ArenaShape) → slice_get u.arenas a ≡ Some arena → arena.out ≡ Some bits → (i : ℕ)
      → is_white bits i ≡ false → is_some (name_at u (a, i)) ≡ is_some (cell_in arena.slots i)
  named u arena at out i pale =
      some_named (cell_in_arena (slice_get u.arenas a) i)
      ∙ (ap (λ o. is_some (cell_in_arena o i)) at
      ∙ (ap (λ o. is_some (present_in o arena.slots i)) out
      ∙ ap (λ (b : Bool). is_some (if b then None else cell_in arena.slots i)) pale))

  taken : (i : ℕ) → is_some (cell_in new.slots i) ≡ is_some (cell_in old.slots i)
  taken i = go (is_white bits i) refl
    where
      both : is_white bits i ≡ true → (o u : Option CellState) → cell_in new.slots i ≡ o → cell_in old.slots i ≡ u
          → is_some o ≡ is_some u
      both white None None e f = refl
      both white (Some c) None e f =
          let now : IsUnswept t (a, i) c.name = record {
            bits = bits;
            cell = c;
            out_is = ap out_in is ∙ out_now;
            white = white;
            cell_is = stored_now i ∙ e;
            name_is = refl;
          } in
          let before = (unswept i c.name).0 now in
          let here : None ≡ Some before.cell = sym f ∙ (sym (stored_then i) ∙ before.cell_is) in
          absurd (cc here)
      both white None (Some c) e f =
          let before : IsUnswept s (a, i) c.name = record {
            bits = bits;
            cell = c;
            out_is = ap out_in was ∙ out_then;
            white = white;
            cell_is = stored_then i ∙ f;
            name_is = refl;
          } in
          let now = (unswept i c.name).1 before in
          let here : None ≡ Some now.cell = sym e ∙ (sym (stored_now i) ∙ now.cell_is) in
          absurd (cc here)
      both white (Some c) (Some d) e f = refl

      go : (b : Bool) → is_white bits i ≡ b → is_some (cell_in new.slots i) ≡ is_some (cell_in old.slots i)
      go true white = both white (cell_in new.slots i) (cell_in old.slots i) refl refl
      go false pale = sym (named t new is out_now i pale) ∙
          (ap (λ o. is_some o) (names i) ∙ named s old was out_then i pale)

-- where cells of arenas that are out stay where they are, what is freed of these stays the same
pub keeps_words : (s t : Shape) → AreWhole s.arenas → AreWhole t.arenas → ((a : ℕ) → out_of t a ≡ out_of s a) →
    ((p : Place) → IsSome (out_of s p.0) → name_at t p ≡ name_at s p) →
    ((p : Place) (x : Name) → IsUnswept t p x ↔ IsUnswept s p x) → KeepsFreedWords s t
keeps_words s t whole_then whole_now outs names unswept a freed word new bits is out =
    let out_then : out_of s a ≡ Some bits = sym (outs a) ∙ (ap out_in is ∙ out) in
    let old = out_arena (slice_get s.arenas a) bits out_then in
    let same : alloc_word_of new.slots ≡ alloc_word_of old.0.slots = same_word new.slots old.0.slots
    (whole_now a new is ∙ sym (whole_then a old.0 old.1))
    (taken s t a bits old.0 new old.1 is old.2 out (λ i. names (a, i) (ap is_some out_then))
    (λ i x. unswept (a, i) x)) in
    word old.0 bits old.1 old.2 ∙ ap (white_mask_of bits) (sym same)

pub same_words : (s t : Shape) → t ≡ s → KeepsFreedWords s t
same_words s t e a freed word = subst (λ (u : Shape). IsFreedWord u a freed) (sym e) word
