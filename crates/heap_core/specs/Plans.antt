-- The change that a command makes, by kinds, and what a plan says of its command.
use Rattle.std.specs.Prelude.{◌≡◌, ◌≢◌, ◌<◌, ◌≤◌, ◌⊎◌, ℕ, true, false, List, Option, Some, None, Ok, length}
use Rattle.std.specs.Prelude.{is_some, slice_get, Contains, IsSomeAnd, if◌then◌else◌}
use Rattle.std.specs.Option.{ForSome}
use Rattle.gz_names.specs.declared.limits.TheConstants.{ZONE_LIMIT, COMP_LIMIT}
use Rattle.gz_names.specs.declared.names.Name.{Name}
use Rattle.gz_names.specs.declared.names.Name.TheVariants.{Cell, Wrap}
use Rattle.gz_names.specs.declared.commands.GraphCmd.{GraphCmd}
use Rattle.gz_names.specs.declared.commands.GraphCmd.TheVariants as cmd
use Rattle.gz_names.specs.declared.numbers.CompNo.{CompNo}
use Rattle.gz_names.specs.declared.numbers.Place.{Place}
use Rattle.gz_names.specs.declared.replies.Reply.{Reply}
use Rattle.gz_names.specs.declared.replies.Reply.TheVariants as reply
use Rattle.cell_bits.specs.declared.bits.Bits.{Bits}
use Rattle.arena_table.specs.Cells.{CellState, field_count}
use Rattle.wrappers.specs.WrapperMaps.{place_of}
use Rattle.weak_maps.specs.WeakMaps.{value_of}
use Rattle.colour_defs.specs.Graph.{GraphState}
use Rattle.colour_defs.specs.Step.{HasFewFields, IsAccepted, named_or_null}
use Rattle.colour_defs.specs.World.{woken_by}
use Rattle.mark_stack.specs.Stack.{Piles}
use Rattle.heap_core.specs.declared.plans.Change.{Change}
use Rattle.heap_core.specs.declared.plans.Change.TheVariants as change
use Rattle.heap_core.specs.declared.plans.Plan.{Plan}
use Rattle.heap_core.specs.Shape.{Shape, IsPresent, cell_of, field_at, held_name, zone_of}
use Rattle.heap_core.specs.Heap.{HeapState, with_marks, with_reg, with_slot}
use Rattle.heap_core.specs.Shows.{Shows, is_wrapper}
use Rattle.heap_core.specs.Answers.{DoesStep}
use Rattle.heap_core.specs.Changes.{IsWith, IsWithout, Writes, with_comp, with_zone}
use Rattle.heap_core.specs.Effects.{Changes, HasRoom, HoldsWrapper, MakesHeld, takes_memory}
use Rattle.heap_core.specs.Lookups.{number_at}
use Rattle.heap_core.specs.Peeks.{handed, made_in, stored, wrapped_target}

-- what a change overwrites or removes: a field's value, or an entry's
abbrev pub overwritten_by : Shape → Change → Option Place
overwritten_by s change.Zone = None
overwritten_by s (change.Comp z) = None
overwritten_by s (change.Cell r z c k) = None
overwritten_by s (change.Wrapper r z c t) = None
overwritten_by s (change.Register r v named) = None
overwritten_by s (change.Slot g v) = None
overwritten_by s (change.Field p f v) = field_at s p f
overwritten_by s (change.Put m k v) = value_of s.weak m k
overwritten_by s (change.Del m k) = value_of s.weak m k

-- the present cell that a change hands to a register
abbrev pub handed_by : Change → Option Place
handed_by change.Zone = None
handed_by (change.Comp z) = None
handed_by (change.Cell r z c k) = None
handed_by (change.Wrapper r z c t) = None
handed_by (change.Register r v named) = v
handed_by (change.Slot g v) = None
handed_by (change.Field p f v) = None
handed_by (change.Put m k v) = None
handed_by (change.Del m k) = None

-- the zone in which a change makes a cell
abbrev pub made_by : Change → Option ℕ
made_by change.Zone = None
made_by (change.Comp z) = None
made_by (change.Cell r z c k) = Some z
made_by (change.Wrapper r z c t) = Some z
made_by (change.Register r v named) = None
made_by (change.Slot g v) = None
made_by (change.Field p f v) = None
made_by (change.Put m k v) = None
made_by (change.Del m k) = None

-- a register holds it
abbrev pub IsHeld : Shape → Place → Type 0
IsHeld s p = Contains s.regs (Some p)

-- a register holds it, a field of a cell that one holds names it, or it is the value of an entry whose map and key
-- registers hold
pub data IsNear (s : Shape) (p : Place) : Type 0 where
  held : IsHeld s p → IsNear s p
  field : (q : Place) (f : ℕ) → IsHeld s q → field_at s q f ≡ Some p → IsNear s p
  value : (m k : Place) → IsHeld s m → IsHeld s k → value_of s.weak m k ≡ Some p → IsNear s p

-- it may be written into a cell: a register holds it, and it lies in the cell's zone
pub record MayCome (s : Shape) (p q : Place) : Type 0 where
  pub held : IsHeld s q
  pub zone : zone_of s q ≡ zone_of s p

-- an object has a field of this number
pub record HasField (cell : CellState) (f : ℕ) : Type 0 where
  pub within : f < length cell.fields
  pub plain : is_wrapper cell.kind ≡ false

-- a compartment lies in a zone that is made
pub record LiesIn (s : Shape) (c : CompNo) (z : ℕ) : Type 0 where
  pub home : slice_get s.comps c.0 ≡ Some z
  pub made : z < length s.states

-- a change can be made in a heap of this shape, of whose cells so many were ever made
abbrev pub IsAble : Shape → ℕ → Change → Type 0
IsAble s n change.Zone = length s.states ≢ ZONE_LIMIT
IsAble s n (change.Comp z) = (z < length s.states) × (length s.comps ≢ COMP_LIMIT)
IsAble s n (change.Cell r z c k) = LiesIn s c z × (field_count k ≤ 8) × (n < 4294967295) × (is_wrapper k ≡ false)
IsAble s n (change.Wrapper r z c t) = LiesIn s c z × IsPresent s t × (place_of s.wrappers c.0 (number_at s t) ≡ None)
    × (n < 4294967295)
IsAble s n (change.Register r v named) = ForSome v (IsPresent s)
IsAble s n (change.Slot g v) = ForSome v (IsHeld s)
IsAble s n (change.Field p f v) = IsSomeAnd (cell_of s p) (λ c. HasField c f) × ForSome v (MayCome s p)
IsAble s n (change.Put m k v) = IsHeld s m × MayCome s m k × MayCome s m v
IsAble s n (change.Del m k) = IsHeld s m × IsHeld s k

-- a change may want memory: it makes something, or adds an entry
abbrev pub MayWant : Shape → Change → Type 0
MayWant s change.Zone = Unit {0}
MayWant s (change.Comp z) = Unit {0}
MayWant s (change.Cell r z c k) = Unit {0}
MayWant s (change.Wrapper r z c t) = Unit {0}
MayWant s (change.Register r v named) = ⊥
MayWant s (change.Slot g v) = ⊥
MayWant s (change.Field p f v) = ⊥
MayWant s (change.Put m k v) = value_of s.weak m k ≡ None
MayWant s (change.Del m k) = ⊥

-- a change was made, and this is the reply
abbrev pub ChangesBy : HeapState → Change → Reply → HeapState → Type 0
ChangesBy old change.Zone answer new = (new ≡ with_zone old) × (answer ≡ reply.Zone (length old.shape.states))
ChangesBy old (change.Comp z) answer new = (new ≡ with_comp old z)
    × (answer ≡ reply.Comp (record { 0 = length old.shape.comps }))
ChangesBy old (change.Cell r z c k) answer new = MakesHeld old r k c new × (answer ≡ reply.Made old.shape.objects)
ChangesBy old (change.Wrapper r z c t) answer new = HoldsWrapper old r c t new
    × (answer ≡ reply.Named (Wrap c (number_at old.shape t)))
ChangesBy old (change.Register r v named) answer new = (new ≡ with_reg old r v)
    × (answer ≡ (if named then named_or_null (held_name old.shape v) else reply.Accepted))
ChangesBy old (change.Slot g v) answer new = (new ≡ with_slot old g v) × (answer ≡ reply.Accepted)
ChangesBy old (change.Field p f v) answer new = Writes old p f v new × (answer ≡ reply.Accepted)
ChangesBy old (change.Put m k v) answer new = IsWith old m k v new × (answer ≡ reply.Accepted)
ChangesBy old (change.Del m k) answer new = IsWithout old m k new
    × (answer ≡ (if is_some (value_of old.shape.weak m k) then reply.Accepted else reply.Absent))

-- what a command wakes, by its change: the cell that it makes; of what it hands to a register nothing, where that is
-- near, or that itself
abbrev pub IsWoken : HeapState → GraphCmd → Option Name → Type 0
IsWoken h c x = (g : GraphState) → Shows h g → woken_by g c ≡ x

abbrev pub WakesBy : HeapState → GraphCmd → Change → Type 0
WakesBy h c change.Zone = IsWoken h c None
WakesBy h c (change.Comp z) = IsWoken h c None
WakesBy h c (change.Cell r z d k) = IsWoken h c (Some (Cell h.shape.objects))
WakesBy h c (change.Wrapper r z d t) = IsWoken h c (Some (Wrap d (number_at h.shape t)))
WakesBy h c (change.Register r v named) = (IsWoken h c None × ForSome v (IsNear h.shape))
    ⊎ IsWoken h c (held_name h.shape v)
WakesBy h c (change.Slot g v) = IsWoken h c None
WakesBy h c (change.Field p f v) = IsWoken h c None
WakesBy h c (change.Put m k v) = IsWoken h c None
WakesBy h c (change.Del m k) = IsWoken h c None

-- a command is no `wrap`
abbrev pub IsNoWrap : GraphCmd → Type 0
IsNoWrap c = (r s : ℕ) (d : CompNo) → c ≡ cmd.Wrap r s d → ⊥

-- the target of a wrapper that a change makes is what the command is about
abbrev pub IsTarget : Option Place → Change → Type 0
IsTarget w change.Zone = Unit {0}
IsTarget w (change.Comp z) = Unit {0}
IsTarget w (change.Cell r z c k) = Unit {0}
IsTarget w (change.Wrapper r z c t) = w ≡ Some t
IsTarget w (change.Register r v named) = Unit {0}
IsTarget w (change.Slot g v) = Unit {0}
IsTarget w (change.Field p f v) = Unit {0}
IsTarget w (change.Put m k v) = Unit {0}
IsTarget w (change.Del m k) = Unit {0}

-- a plan tells what a command does to a heap: on no graph that the heap shows is the command refused; the plan's
-- parts are what it overwrites or removes, what a `wrap` is about, what it hands to its register and the zone in
-- which it makes a cell; and whoever makes the plan's change does the command
pub record IsPlanIn (h : HeapState) (c : GraphCmd) (plan : Plan) : Type 0 where
  pub accepted : (g : GraphState) → Shows h g → IsAccepted g c
  pub overwritten : plan.overwritten ≡ stored h c
  pub wrapped : plan.wrapped ≡ wrapped_target h c
  pub handed : handed_by plan.change ≡ handed h c
  pub made : made_by plan.change ≡ made_in h c
  pub replaced : plan.overwritten ≡ overwritten_by h.shape plan.change
  pub overwritten_there : ForSome plan.overwritten (IsPresent h.shape)
  pub overwritten_near : ForSome plan.overwritten (IsNear h.shape)
  pub wrapped_there : ForSome plan.wrapped (IsPresent h.shape)
  pub wrapped_near : ForSome plan.wrapped (IsNear h.shape)
  pub target : IsTarget plan.wrapped plan.change
  pub only_wraps : IsNoWrap c → plan.wrapped ≡ None
  pub wakes : WakesBy h c plan.change
  pub handed_there : ForSome (handed_by plan.change) (IsPresent h.shape)
  pub able : HasRoom h c → HasFewFields c → IsAble h.shape h.made plan.change
  pub wants : MayWant h.shape plan.change → takes_memory c ≡ true
  pub does : HasFewFields c → (answer : Reply) (new : HeapState) → ChangesBy h plan.change answer new
      → DoesStep h c (Ok answer) new × Changes h c new

-- it does so whatever the colours and whatever is delayed, so barriers may come between
abbrev pub IsPlanOf : HeapState → GraphCmd → Plan → Type 0
IsPlanOf h c plan = (ds : List Bits) (d : Piles) → IsPlanIn (with_marks h ds d) c plan
