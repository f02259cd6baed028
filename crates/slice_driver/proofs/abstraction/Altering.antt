-- What each kind of change does: edges, entries and what registers hold come and go towards dark cells, or a cell is
-- made.
use Rattle.std.proofs.Common.{◌≡◌, ◌≢◌, ◌⊎◌, ◌<◌, ℕ, true, length, Option, Some, None, IsSomeAnd, slice_get}
use Rattle.std.proofs.Common.{Contains, inl, inr, refl, sym, ap, subst, ◌∙◌}
use Rattle.std.specs.Option.{option_map}
use Rattle.gz_names.specs.declared.names.Name.TheVariants.{Cell}
use Rattle.gz_names.specs.declared.numbers.CompNo.{CompNo}
use Rattle.gz_names.specs.declared.numbers.Place.{Place}
use Rattle.gz_names.specs.declared.commands.Kind.{Kind}
use Rattle.gz_names.specs.declared.commands.Kind.TheVariants as kind
use Rattle.gz_names.specs.declared.replies.Reply.{Reply}
use Rattle.cell_bits.specs.declared.bits.Bits.{Bits}
use Rattle.arena_table.specs.Cells.{CellState}
use Rattle.arena_table.specs.Table.{new_cell}
use Rattle.weak_maps.specs.WeakMaps.{value_of}
use Rattle.heap_core.specs.declared.plans.Change.{Change}
use Rattle.heap_core.specs.declared.plans.Change.TheVariants as change
use Rattle.heap_core.specs.Shape.{IsPresent, Shape, cell_of, delegate_of_key, zone_of}
use Rattle.heap_core.specs.Shows.{is_wrapper}
use Rattle.heap_core.specs.Heap.{HeapState, joined, with_reg, with_slot}
use Rattle.heap_core.specs.Changes.{IsWith, IsWithout, Makes, with_comp, with_number, with_zone, wrapper_cell}
use Rattle.heap_core.specs.Effects.{HoldsWrapper, MakesHeld}
use Rattle.heap_core.specs.Lookups.{number_at}
use Rattle.heap_core.specs.Plans as plans
use Rattle.heap_core.specs.Plans.{ChangesBy, IsAble, handed_by, overwritten_by}
use Rattle.barriers.specs.Birth.{Born}
use Rattle.barriers.specs.Rewiring.{HoldsDark, Rewired}
use Rattle.barriers.specs.Spreading.{Covers}
use Rattle.barriers.proofs.Changing.{kind_at, rewired_comp, rewired_entry, rewired_reg, rewired_slot, rewired_write}
use Rattle.barriers.proofs.Changing.{rewired_zone, set_holds, with_delegates, without_delegates}
use Rattle.barriers.proofs.NewCells.{born, leads_nowhere, leads_to_target}
use Rattle.barriers.proofs.StayingLeft.{carries_stay, puts_stay}
use Rattle.slice_driver.proofs.abstraction.Named.{some_one}

-- a heap with the registers, the gray slots, the numbers and the wrapper maps of another
abbrev pub with_held : HeapState → Shape → HeapState
with_held h s = record h {
  shape = record h.shape { regs = s.regs; slots = s.slots; objects = s.objects; wrappers = s.wrappers };
}

-- a cell was made, and a register holds it
pub record Bears (Dark : Place → Type 0) (old new : HeapState) (flown : ℕ → Option Bits) : Type 0 where
  pub zone : ℕ
  pub place : Place
  pub cell : CellState
  pub made : HeapState
  pub makes : Makes old zone place cell made
  pub birth : Born Dark (joined old flown) place (joined made flown)
  pub held : Shape
  pub rest : new ≡ with_held made held
  pub regs : (x : Place) → Contains held.regs (Some x) → Contains old.shape.regs (Some x) ⊎ (x ≡ place)

pub data Alters (Dark : Place → Type 0) (old new : HeapState) (flown : ℕ → Option Bits) : Type 0 where
  rewires : Rewired Dark (joined old flown) (joined new flown) → Alters Dark old new flown
  bears : Bears Dark old new flown → Alters Dark old new flown

module _ (Dark : Place → Type 0) (old new : HeapState) (flown : ℕ → Option Bits) (holds : HoldsDark Dark old.shape)
    (there : (x : Place) → Dark x → IsPresent old.shape x) (covers : Covers old.shape flown)
    (sized : length (joined old flown).colours ≡ length old.shape.arenas) where
  abbrev h : HeapState
  h = joined old flown

  rewired : (k : HeapState) → new ≡ k → Rewired Dark h (joined k flown) → Alters Dark old new flown
  rewired k e r = rewires (subst (λ (z : HeapState). Rewired Dark h (joined z flown)) (sym e) r)

  home_made : (d : CompNo) (z zone : ℕ) → plans.LiesIn old.shape d z → slice_get old.shape.comps d.0 ≡ Some zone
      → zone < length old.shape.states
  home_made d z zone lies home =
      subst (λ n. n < length old.shape.states) (some_one _ _ (sym lies.home ∙ home)) lies.made

  -- the registers after one took the new cell
  regs_with : (made : HeapState) (r : ℕ) (p : Place) → made.shape.regs ≡ old.shape.regs → (x : Place)
      → Contains (with_reg made r (Some p)).shape.regs (Some x) → Contains old.shape.regs (Some x) ⊎ (x ≡ p)
  regs_with made r p same x has = elim (set_holds made.shape.regs r (Some p) (Some x) has) [
    | inl was ↦ inl (subst (λ rs. Contains rs (Some x)) same was)
    | inr is ↦ inr (sym (some_one _ _ is))
  ]

  bears_held : (r z : ℕ) (k : Kind) (d : CompNo) → plans.LiesIn old.shape d z → MakesHeld old r k d new
      → Bears Dark old new flown
  bears_held r z k d home m = record {
    zone = m.zone;
    place = m.place;
    cell = new_cell k d (Cell old.shape.objects);
    made = m.made;
    makes = m.makes;
    birth = born old m.made flown m.zone m.place (new_cell k d (Cell old.shape.objects)) m.makes covers holds.shape
        sized
        Dark (home_made d z m.zone home m.home) m.home (leads_nowhere Dark k d (Cell old.shape.objects));
    held = (with_reg (with_number m.made) r (Some m.place)).shape;
    rest = m.rest;
    regs = regs_with (with_number m.made) r m.place (ap (λ (g : HeapState). g.shape.regs) m.makes.rest);
  }

  bears_wrapper : (r z : ℕ) (c : CompNo) (t : Place) → plans.LiesIn old.shape c z → Dark t → HoldsWrapper old r c t new
      → Bears Dark old new flown
  bears_wrapper r z c t home dark m =
      let cell : CellState = wrapper_cell c (number_at old.shape t) t in
      let k : HeapState = record m.makes.made {
        shape = record m.makes.made.shape { wrappers = m.between.shape.wrappers };
      } in
      record {
        zone = m.zone;
        place = m.wrapper;
        cell = cell;
        made = m.makes.made;
        makes = m.makes.makes;
        birth = born old m.makes.made flown m.zone m.wrapper cell m.makes.makes covers holds.shape sized Dark
            (home_made c z m.zone home m.home) m.home (leads_to_target Dark c (number_at old.shape t) t dark);
        held = (with_reg k r (Some m.wrapper)).shape;
        rest = m.rest ∙ ap (λ (g : HeapState). with_reg g r (Some m.wrapper)) m.makes.rest;
        regs = regs_with k r m.wrapper (ap (λ (g : HeapState). g.shape.regs) m.makes.makes.rest);
      }

  -- an object with a field is no wrapper
  plain_field : (p : Place) (f : ℕ) → IsSomeAnd (cell_of old.shape p) (λ c. plans.HasField c f)
      → kind_at old.shape p ≢ Some kind.Wrapper
  plain_field p f has = go (cell_of old.shape p) has
    where
      go : (o : Option CellState) → IsSomeAnd o (λ c. plans.HasField c f)
          → option_map (λ (c : CellState). c.kind) o ≢ Some kind.Wrapper
      go None has e = cc e
      go (Some cell) has e =
          (let wrapper : is_wrapper cell.kind ≡ true = ap is_wrapper (some_one _ _ e) in let plain = has.plain in
          cc (wrapper, plain))

  alters_put : (n : ℕ) (m k v : Place) → IsAble old.shape n (change.Put m k v)
      → ((p : Place) → value_of old.shape.weak m k ≡ Some p → Dark p) → IsWith old m k v new
      → Alters Dark old new flown
  alters_put n m k v able gone w = rewires
      (rewired_entry Dark h m k (Some v) (joined new flown) (record {
        rest = ap (λ (z : HeapState). joined z flown) w.rest;
        values = w.values;
        delegates = with_delegates old new m k holds.shape v w;
        left = puts_stay old new m k (delegate_of_key old.shape k) w.rows v w.entries w.left;
      }) holds (holds.regs k able.1.held) gone
      (λ q e. (
      let dark : Dark q = subst Dark (some_one _ _ e) (holds.regs v able.2.held) in
      let same = ap (λ (z : Place). zone_of old.shape z) (some_one _ _ e) in
      record {
        black = dark;
        key_black = holds.regs k able.1.held;
        map = there m (holds.regs m able.0);
        key = there k (holds.regs k able.1.held);
        map_zone = sym able.2.zone ∙ same;
        key_zone = able.1.zone ∙ (sym able.2.zone ∙ same);
      })))

  alters_del : (n : ℕ) (m k : Place) → IsAble old.shape n (change.Del m k)
      → ((p : Place) → value_of old.shape.weak m k ≡ Some p → Dark p) → IsWithout old m k new
      → Alters Dark old new flown
  alters_del n m k able gone w = rewires
      (rewired_entry Dark h m k None (joined new flown) (record {
        rest = ap (λ (z : HeapState). joined z flown) w.rest;
        values = w.values;
        delegates = without_delegates old new m k holds.shape w;
        left = carries_stay old new w.carries w.rows;
      }) holds (holds.regs k able.1) gone (λ q e. absurd (cc e)))

  pub alters : (n : ℕ) (ch : Change) (answer : Reply) → IsAble old.shape n ch
      → ((p : Place) → overwritten_by old.shape ch ≡ Some p → Dark p)
      → ((p : Place) → handed_by ch ≡ Some p → Dark p)
      → ((r z : ℕ) (c : CompNo) (t : Place) → ch ≡ change.Wrapper r z c t → Dark t) → ChangesBy old ch answer new
      → Alters Dark old new flown
  alters n change.Zone answer able gone handed target by = rewired (with_zone old) by.0 (rewired_zone Dark h holds)
  alters n (change.Comp z) answer able gone handed target by =
      rewired (with_comp old z) by.0 (rewired_comp Dark h z holds)
  alters n (change.Cell r z d k) answer able gone handed target by = bears (bears_held r z k d able.0 by.0)
  alters n (change.Wrapper r z d t) answer able gone handed target by =
      bears (bears_wrapper r z d t able.0 (target r z d t refl) by.0)
  alters n (change.Register r v named) answer able gone handed target by =
      rewired (with_reg old r v) by.0 (rewired_reg Dark h r v holds handed)
  alters n (change.Slot k v) answer able gone handed target by =
      rewired (with_slot old k v) by.0 (rewired_slot Dark h k v holds)
  alters n (change.Field p f v) answer able gone handed target by = rewires
      (rewired_write old new flown p f v by.0 Dark holds (plain_field p f able.0) gone
      (λ y e. (holds.regs y (able.1 y e).held, sym (able.1 y e).zone)))
  alters n (change.Put m k v) answer able gone handed target by = alters_put n m k v able gone by.0
  alters n (change.Del m k) answer able gone handed target by = alters_del n m k able gone by.0
