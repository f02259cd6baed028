-- What each kind of change does to the places of cells.
use Rattle.std.proofs.Common.{◌≡◌, ◌<◌, ◌⊎◌, ℕ, zero, suc, List, [], ◌∷◌, length, Option, Some, None, slice_get, refl}
use Rattle.std.proofs.Common.{sym, ap, ◌∙◌, inl, inr, arith}
use Rattle.std.specs.Option.{ForSome}
use Rattle.gz_names.specs.declared.names.Name.{Name}
use Rattle.gz_names.specs.declared.names.Name.TheVariants.{Cell, Wrap}
use Rattle.gz_names.specs.declared.numbers.CompNo.{CompNo}
use Rattle.gz_names.specs.declared.numbers.Place.{Place}
use Rattle.gz_names.specs.declared.commands.Kind.{Kind}
use Rattle.gz_names.specs.declared.commands.GraphCmd.{GraphCmd}
use Rattle.gz_names.specs.declared.replies.Reply.{Reply}
use Rattle.arena_table.specs.Cells.{CellState, joined}
use Rattle.arena_table.specs.Table.{new_cell}
use Rattle.colour_defs.specs.Graph.{GraphState}
use Rattle.heap_core.specs.declared.plans.Change.{Change}
use Rattle.heap_core.specs.declared.plans.Change.TheVariants as change
use Rattle.heap_core.specs.Shape.{AreWhole, IsPresent, cell_of, field_at, field_in, held_name, name_at}
use Rattle.heap_core.specs.Heap.{HeapState, with_reg, with_slot}
use Rattle.heap_core.specs.Changes.{Makes, with_comp, with_zone, wrapper_cell}
use Rattle.heap_core.specs.Effects.{HoldsWrapper, MakesHeld}
use Rattle.heap_core.specs.Lookups.{number_at}
use Rattle.heap_core.specs.Plans as plans
use Rattle.heap_core.specs.Plans.{ChangesBy, IsAble, IsNear, IsWoken, WakesBy, handed_by}
use Rattle.heap_core.specs.Shows.{Shows}
use Rattle.barriers.specs.Reached.{Reached}
use Rattle.barriers.specs.Reached as reached
use Rattle.slice_driver.specs.Commands.{ComesTo, StayInPlace, Wakes}
use Rattle.slice_driver.proofs.abstraction.Named.{name_of}
use Rattle.slice_driver.proofs.abstraction.Keeping.{comes_makes, comes_then, comes_wrapper, stay_same, stay_writes}

-- a register holds it
abbrev pub IsHeld : HeapState → Place → Type 0
IsHeld h p = plans.IsHeld h.shape p

-- a change moves nothing, and what it hands out is reached from registers; or it hands out a present cell, which the
-- command wakes; or it makes a cell, which the command wakes, an object with the next number
pub data Moves (old : HeapState) (c : GraphCmd) (ch : Change) (new : HeapState) : Type 0 where
  quiet : StayInPlace old.shape new.shape → Wakes old c None → new.colours ≡ old.colours
      → ((p : Place) → handed_by ch ≡ Some p → Reached old.shape (IsHeld old) p) → Moves old c ch new
  finds : (p : Place) (x : Name) → name_at old.shape p ≡ Some x → Wakes old c (Some x) → new.colours ≡ old.colours
      → new.shape.arenas ≡ old.shape.arenas → new.shape.weak ≡ old.shape.weak → handed_by ch ≡ Some p
      → Moves old c ch new
  makes : (zone : ℕ) (p : Place) (x : Name) (cell : CellState) (between : HeapState)
      → ComesTo old.shape new.shape zone p x → Wakes old c (Some x) → Makes old zone p cell between
      → new.colours ≡ between.colours → handed_by ch ≡ None → ((n : ℕ) → x ≡ Cell n → n ≡ old.shape.objects)
      → Moves old c ch new

module _ (old : HeapState) (g : GraphState) (shows : Shows old g) where
  pub field_below : (p q : Place) (f : ℕ) → field_at old.shape p f ≡ Some q → f < 8
  field_below p q f e = go (cell_of old.shape p) refl e
    where
      within : (fs : List (Option Place)) (i : ℕ) → joined (slice_get fs i) ≡ Some q → i < length fs
      within [] i e = absurd (cc e)
      within (o ∷ fs) zero e = omega arith
      within (o ∷ fs) (suc i) e = let r = within fs i e in omega (arith, r)

      go : (o : Option CellState) → cell_of old.shape p ≡ o → field_in o f ≡ Some q → f < 8
      go None at e = absurd (cc e)
      go (Some cell) at e = omega (arith, within cell.fields f e, (shows.cells p cell at).few)

  -- what is near is reached from registers
  pub near_reached : (p : Place) → IsNear old.shape p → Reached old.shape (IsHeld old) p
  near_reached p (plans.held here) = reached.from here
  near_reached p (plans.field q f here e) = reached.along (reached.from here) (f, field_below q p f e, e)
  near_reached p (plans.value m k map key e) = reached.weak e (reached.from map) (reached.from key)

  module _ (whole : AreWhole old.shape.arenas) (c : GraphCmd) (ch : Change) (new : HeapState) where
    -- the arenas and the colours are as they were
    quietly : (k : HeapState) → new ≡ k → k.shape.arenas ≡ old.shape.arenas → k.colours ≡ old.colours
        → Wakes old c None → ((p : Place) → handed_by ch ≡ Some p → IsNear old.shape p) → Moves old c ch new
    quietly k e arenas colours wakes near =
        quiet (stay_same old.shape new.shape (ap (λ (h : HeapState). h.shape.arenas) e ∙ arenas) whole) wakes
        (ap (λ (h : HeapState). h.colours) e ∙ colours) (λ p is. near_reached p (near p is))

    -- an object or a map was made
    moves_held : (r : ℕ) (d : CompNo) (k : Kind) → handed_by ch ≡ None
        → IsWoken old c (Some (Cell old.shape.objects)) → MakesHeld old r k d new → Moves old c ch new
    moves_held r d k nothing wakes m =
        let x : Name = Cell old.shape.objects in
        let cell : CellState = new_cell k d x in
        makes m.zone m.place x cell m.made
        (comes_then old.shape m.made.shape new.shape m.zone m.place x
        (comes_makes old m.zone m.place cell m.made m.makes whole) (ap (λ (h : HeapState). h.shape.arenas) m.rest))
        wakes m.makes (ap (λ (h : HeapState). h.colours) m.rest) nothing (λ n is. cc is)

    -- a wrapper was made
    moves_wrapped : (r : ℕ) (d : CompNo) (t : Place) → handed_by ch ≡ None
        → IsWoken old c (Some (Wrap d (number_at old.shape t))) → HoldsWrapper old r d t new → Moves old c ch new
    moves_wrapped r d t nothing wakes m =
        let n : ℕ = number_at old.shape t in
        makes m.zone m.wrapper (Wrap d n) (wrapper_cell d n t) m.makes.made
        (comes_then old.shape m.between.shape new.shape m.zone m.wrapper (Wrap d n)
        (comes_wrapper old m.zone d n t m.wrapper m.between m.makes whole)
        (ap (λ (h : HeapState). h.shape.arenas) m.rest))
        wakes m.makes.makes
        (ap (λ (h : HeapState). h.colours) m.rest ∙ ap (λ (h : HeapState). h.colours) m.makes.rest) nothing
        (λ i is. absurd (cc is))

    -- a register took what is near, or what is woken
    moves_register : (r : ℕ) (v : Option Place) → handed_by ch ≡ v → ForSome v (IsPresent old.shape)
        → (IsWoken old c None × ForSome v (IsNear old.shape)) ⊎ IsWoken old c (held_name old.shape v)
        → new ≡ with_reg old r v → Moves old c ch new
    moves_register r v handed there (inl wakes) e =
        quietly (with_reg old r v) e refl refl wakes.0 (λ p is. wakes.1 p (sym handed ∙ is))
    moves_register r None handed there (inr wakes) e =
        quietly (with_reg old r None) e refl refl wakes (λ p is. absurd (cc (handed, is)))
    moves_register r (Some p) handed there (inr wakes) e =
        let x = name_of old.shape p (there p refl) in
        finds p x.0 x.1 (λ j k. wakes j k ∙ x.1) (ap (λ (h : HeapState). h.colours) e)
        (ap (λ (h : HeapState). h.shape.arenas) e) (ap (λ (h : HeapState). h.shape.weak) e) handed

  none_handed : (p : Place) → None ≡ Some p → IsNear old.shape p
  none_handed p e = absurd (cc e)

  -- with the entries of another
  abbrev with_weak : HeapState → HeapState
  with_weak new = record old { shape = record old.shape { weak = new.shape.weak }; looks = new.looks }

  module _ (whole : AreWhole old.shape.arenas) (c : GraphCmd) (new : HeapState) where
    pub moves_of : (n : ℕ) (ch : Change) (answer : Reply) → IsAble old.shape n ch → WakesBy old c ch
        → ChangesBy old ch answer new → Moves old c ch new
    moves_of n change.Zone answer able wakes by =
        quietly whole c change.Zone new (with_zone old) by.0 refl refl wakes none_handed
    moves_of n (change.Comp z) answer able wakes by =
        quietly whole c (change.Comp z) new (with_comp old z) by.0 refl refl wakes none_handed
    moves_of n (change.Cell r z d k) answer able wakes by =
        moves_held whole c (change.Cell r z d k) new r d k refl wakes by.0
    moves_of n (change.Wrapper r z d t) answer able wakes by =
        moves_wrapped whole c (change.Wrapper r z d t) new r d t refl wakes by.0
    moves_of n (change.Register r v named) answer able wakes by =
        moves_register whole c (change.Register r v named) new r v refl able wakes by.0
    moves_of n (change.Slot k v) answer able wakes by =
        quietly whole c (change.Slot k v) new (with_slot old k v) by.0 refl refl wakes none_handed
    moves_of n (change.Field p f v) answer able wakes by =
        quiet (stay_writes old p f v new by.0 whole) wakes (ap (λ (h : HeapState). h.colours) by.0.rest)
        (λ q e. absurd (cc e))
    moves_of n (change.Put m k v) answer able wakes by =
        quietly whole c (change.Put m k v) new (with_weak new) by.0.rest refl refl wakes none_handed
    moves_of n (change.Del m k) answer able wakes by =
        quietly whole c (change.Del m k) new (with_weak new) by.0.rest refl refl wakes none_handed
