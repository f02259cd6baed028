-- What each command on the graph leaves, by places.
use Rattle.std.specs.Prelude.{◌≡◌, ◌≢◌, ◌<◌, ℕ, Bool, true, false, Option, Some, None, IsSomeAnd, replicate}
use Rattle.std.specs.Prelude.{slice_get}
use Rattle.gz_names.specs.declared.names.Name.TheVariants.{Cell}
use Rattle.gz_names.specs.declared.commands.Kind.{Kind}
use Rattle.gz_names.specs.declared.commands.Kind.TheVariants as kind
use Rattle.gz_names.specs.declared.commands.GraphCmd.{GraphCmd}
use Rattle.gz_names.specs.declared.commands.GraphCmd.TheVariants as cmd
use Rattle.gz_names.specs.declared.numbers.CompNo.{CompNo}
use Rattle.gz_names.specs.declared.numbers.Place.{Place}
use Rattle.arena_table.specs.Cells.{field_count}
use Rattle.arena_table.specs.Table.{new_cell}
use Rattle.wrappers.specs.WrapperMaps.{place_of}
use Rattle.colour_defs.specs.declared.graph.Object.{Object}
use Rattle.heap_core.specs.Shape.{comp_at}
use Rattle.heap_core.specs.Heap.{HeapState, reg_of, slot_of, with_reg, with_slot}
use Rattle.heap_core.specs.Changes.{IsWith, IsWithout, Makes, MakesWrapper, Writes, with_comp, with_number, with_zone}
use Rattle.heap_core.specs.Shows.{is_map}
use Rattle.heap_core.specs.Lookups.{held_field, held_value, number_at, target_at, value_to_set}

-- a field of a register's object was written
abbrev pub Sets : HeapState → ℕ → ℕ → Option ℕ → HeapState → Type 0
Sets old s f t new = IsSomeAnd (reg_of old s) (λ p. Writes old p f (value_to_set old t) new)

-- an object or a map of a kind, its fields null, as the graph has it
abbrev pub object_of_kind : Kind → CompNo → Object
object_of_kind k c = record { comp = c; is_map = is_map k; fields = replicate (field_count k) None }

-- an object or a map of a compartment was made, with the next number, and a register holds it
pub record MakesHeld (old : HeapState) (r : ℕ) (k : Kind) (c : CompNo) (new : HeapState) : Type 0 where
  pub zone : ℕ
  pub place : Place
  pub made : HeapState
  pub home : slice_get old.shape.comps c.0 ≡ Some zone
  pub makes : Makes old zone place (new_cell k c (Cell old.shape.objects)) made
  pub rest : new ≡ with_reg (with_number made) r (Some place)

-- the wrapper of a target in a compartment was made, and a register holds it
pub record HoldsWrapper (old : HeapState) (r : ℕ) (c : CompNo) (t : Place) (new : HeapState) : Type 0 where
  pub zone : ℕ
  pub wrapper : Place
  pub between : HeapState
  pub home : slice_get old.shape.comps c.0 ≡ Some zone
  pub makes : MakesWrapper old zone c (number_at old.shape t) t wrapper between
  pub rest : new ≡ with_reg between r (Some wrapper)

-- a register took the target of another's cell, or its wrapper in a compartment, which was there or was made
pub data Wraps (old : HeapState) (r s : ℕ) (c : CompNo) (new : HeapState) : Type 0 where
  itself : (p : Place) → reg_of old s ≡ Some p → comp_at old.shape (target_at old.shape p) ≡ Some c
      → new ≡ with_reg old r (Some (target_at old.shape p)) → Wraps old r s c new
  found : (p wrapper : Place) → reg_of old s ≡ Some p → comp_at old.shape (target_at old.shape p) ≢ Some c
      → place_of old.shape.wrappers c.0 (number_at old.shape (target_at old.shape p)) ≡ Some wrapper
      → new ≡ with_reg old r (Some wrapper) → Wraps old r s c new
  made : (p : Place) → reg_of old s ≡ Some p → comp_at old.shape (target_at old.shape p) ≢ Some c
      → place_of old.shape.wrappers c.0 (number_at old.shape (target_at old.shape p)) ≡ None
      → HoldsWrapper old r c (target_at old.shape p) new → Wraps old r s c new

-- the entry of a register's map and another one's cell has a third one's value
abbrev pub Puts : HeapState → ℕ → ℕ → ℕ → HeapState → Type 0
Puts old m k v new =
    IsSomeAnd (reg_of old m)
    (λ map. IsSomeAnd (reg_of old k) (λ key. IsSomeAnd (reg_of old v) (λ value. IsWith old map key value new)))

-- the entry of a register's map and another one's cell is there no more
abbrev pub Dels : HeapState → ℕ → ℕ → HeapState → Type 0
Dels old m k new = IsSomeAnd (reg_of old m) (λ map. IsSomeAnd (reg_of old k) (λ key. IsWithout old map key new))

-- what a command leaves, where it is done
abbrev pub Changes : HeapState → GraphCmd → HeapState → Type 0
Changes old cmd.Zone new = new ≡ with_zone old
Changes old (cmd.Comp z) new = new ≡ with_comp old z
Changes old (cmd.New r c n) new = MakesHeld old r (kind.Object n) c new
Changes old (cmd.Map r c) new = MakesHeld old r kind.Map c new
Changes old (cmd.Get r s f) new = new ≡ with_reg old r (held_field old s f)
Changes old (cmd.Set s f t) new = Sets old s f t new
Changes old (cmd.Wrap r s c) new = Wraps old r s c new
Changes old (cmd.Unwrap r s) new = new ≡ with_reg old r (held_field old s 0)
Changes old (cmd.Copy r s) new = new ≡ with_reg old r (reg_of old s)
Changes old (cmd.Drop r) new = new ≡ with_reg old r None
Changes old (cmd.Hold g r) new = new ≡ with_slot old g (reg_of old r)
Changes old (cmd.Release g) new = new ≡ with_slot old g None
Changes old (cmd.Expose r g) new = new ≡ with_reg old r (slot_of old g)
Changes old (cmd.Put m k v) new = Puts old m k v new
Changes old (cmd.Del m k) new = Dels old m k new
Changes old (cmd.Find r m k) new = new ≡ with_reg old r (held_value old m k)

-- whether a command may want memory
abbrev pub takes_memory : GraphCmd → Bool
takes_memory cmd.Zone = true
takes_memory (cmd.Comp z) = true
takes_memory (cmd.New r c n) = true
takes_memory (cmd.Map r c) = true
takes_memory (cmd.Get r s f) = false
takes_memory (cmd.Set s f t) = false
takes_memory (cmd.Wrap r s c) = true
takes_memory (cmd.Unwrap r s) = false
takes_memory (cmd.Copy r s) = false
takes_memory (cmd.Drop r) = false
takes_memory (cmd.Hold g r) = false
takes_memory (cmd.Release g) = false
takes_memory (cmd.Expose r g) = false
takes_memory (cmd.Put m k v) = true
takes_memory (cmd.Del m k) = false
takes_memory (cmd.Find r m k) = false

-- fewer cells than the limit were made, where a command may make one
abbrev pub HasRoom : HeapState → GraphCmd → Type 0
HasRoom h cmd.Zone = Unit {0}
HasRoom h (cmd.Comp z) = Unit {0}
HasRoom h (cmd.New r c n) = h.made < 4294967295
HasRoom h (cmd.Map r c) = h.made < 4294967295
HasRoom h (cmd.Get r s f) = Unit {0}
HasRoom h (cmd.Set s f t) = Unit {0}
HasRoom h (cmd.Wrap r s c) = h.made < 4294967295
HasRoom h (cmd.Unwrap r s) = Unit {0}
HasRoom h (cmd.Copy r s) = Unit {0}
HasRoom h (cmd.Drop r) = Unit {0}
HasRoom h (cmd.Hold g r) = Unit {0}
HasRoom h (cmd.Release g) = Unit {0}
HasRoom h (cmd.Expose r g) = Unit {0}
HasRoom h (cmd.Put m k v) = Unit {0}
HasRoom h (cmd.Del m k) = Unit {0}
HasRoom h (cmd.Find r m k) = Unit {0}
