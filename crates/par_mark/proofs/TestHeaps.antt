-- What commands keep of a test's heap, and what marking needs of it.
use Rattle.std.proofs.Common.{◌≡◌, ℕ, ◌<◌, List, length, length-set, Option, Some, None, IsSome, IsSomeAnd, Result, Ok}
use Rattle.std.proofs.Common.{Err}
use Rattle.std.proofs.Common.{All, Contains, IfOk, OnErr, slice_get, slice_set, sym, ap, subst, refl, ◌∙◌}
use Rattle.std.proofs.lemmas.List.Elements.{All-get_or, Contains-get_or}
use Rattle.std.proofs.lemmas.Option.{get_or_from_slice_get, slice_get_within}
use Rattle.gz_names.specs.declared.commands.GraphCmd.{GraphCmd}
use Rattle.gz_names.specs.declared.commands.GraphCmd.TheVariants as cmd
use Rattle.gz_names.specs.declared.replies.Reply.{Reply}
use Rattle.zones.specs.States.{next_state}
use Rattle.zones.specs.declared.states.State.{State}
use Rattle.arena_table.specs.Cells.{CellState}
use Rattle.heap_core.specs.Shape.{AreWhole, HasEdge, IsPresent, cell_in_arena, cell_of, field_in, zone_in, zone_of}
use Rattle.heap_core.specs.Heap.{HeapState, IsEmpty}
use Rattle.heap_core.specs.Effects.{HasRoom}
use Rattle.heap_core.specs.Plans.{ChangesBy, IsPlanOf}
use Rattle.heap_core.specs.declared.plans.Change.{Change}
use Rattle.heap_core.specs.declared.plans.Change.TheVariants as change
use Rattle.heap_core.specs.declared.plans.Plan.{Plan}
use Rattle.heap_core.proofs.Planned.{planned-here}
use Rattle.heap_core.proofs.Stepping.{still-sound}
use Rattle.colour_defs.specs.Step.{HasFewFields}
use Rattle.heap_core.specs.Answers.{IsSound}
use Rattle.par_mark.specs.TestHeaps.{IsMarkable, IsTakenOn, markable}

-- before the limit each command has room
pub has_room : (h : HeapState) (c : GraphCmd) → h.made < 4294967295 → HasRoom h c
has_room h cmd.Zone few = tt
has_room h (cmd.Comp z) few = tt
has_room h (cmd.New r c n) few = few
has_room h (cmd.Map r c) few = few
has_room h (cmd.Get r s f) few = tt
has_room h (cmd.Set s f t) few = tt
has_room h (cmd.Wrap r s c) few = few
has_room h (cmd.Unwrap r s) few = tt
has_room h (cmd.Copy r s) few = tt
has_room h (cmd.Drop r) few = tt
has_room h (cmd.Hold g r) few = tt
has_room h (cmd.Release g) few = tt
has_room h (cmd.Expose r g) few = tt
has_room h (cmd.Put m k v) few = tt
has_room h (cmd.Del m k) few = tt
has_room h (cmd.Find r m k) few = tt

pub sound_of : (h : HeapState) → IsMarkable h → IsSound h
sound_of h (markable sound whole uncounted) = sound

whole_of : (h : HeapState) → IsMarkable h → AreWhole h.shape.arenas
whole_of h (markable sound whole uncounted) = whole

uncounted_of : (h : HeapState) → IsMarkable h → h.ledger ≡ None
uncounted_of h (markable sound whole uncounted) = uncounted

abbrev Keeps : HeapState → HeapState → Type 0
Keeps old new = AreWhole old.shape.arenas → AreWhole new.shape.arenas

same : (old new k : HeapState) → k.shape.arenas ≡ old.shape.arenas → new ≡ k → Keeps old new
same old new k e is = subst (λ (h : HeapState). Keeps old h) (sym is) (λ whole. subst AreWhole (sym e) whole)

makes : (old new : HeapState) (m : HeapState) → Keeps old m → new.shape.arenas ≡ m.shape.arenas → Keeps old new
makes old new m keeps e whole = subst AreWhole (sym e) (keeps whole)

keeps : (old new : HeapState) (ch : Change) (answer : Reply) → ChangesBy old ch answer new → Keeps old new
keeps old new change.Zone answer by = same old new _ refl by.0
keeps old new (change.Comp z) answer by = same old new _ refl by.0
keeps old new (change.Cell r z c k) answer by =
    makes old new by.0.made by.0.makes.whole (ap (λ (k : HeapState). k.shape.arenas) by.0.rest)
keeps old new (change.Wrapper r z c t) answer by = makes old new by.0.makes.made by.0.makes.makes.whole
    (ap (λ (k : HeapState). k.shape.arenas) by.0.rest ∙ ap (λ (k : HeapState). k.shape.arenas) by.0.makes.rest)
keeps old new (change.Register r v named) answer by = same old new _ refl by.0
keeps old new (change.Slot g v) answer by = same old new _ refl by.0
keeps old new (change.Field p f v) answer by = by.0.whole
keeps old new (change.Put m k v) answer by = same old new _ refl by.0.rest
keeps old new (change.Del m k) answer by = same old new _ refl by.0.rest

abbrev ledger_of : HeapState → Option ℕ
ledger_of h = h.ledger

counted_as_before : (old new : HeapState) (ch : Change) (answer : Reply) → ChangesBy old ch answer new
    → new.ledger ≡ old.ledger
counted_as_before old new change.Zone answer by = ap ledger_of by.0
counted_as_before old new (change.Comp z) answer by = ap ledger_of by.0
counted_as_before old new (change.Cell r z c k) answer by = ap ledger_of by.0.rest ∙ ap ledger_of by.0.makes.rest
counted_as_before old new (change.Wrapper r z c t) answer by =
    ap ledger_of by.0.rest ∙ ap ledger_of by.0.makes.rest ∙ ap ledger_of by.0.makes.makes.rest
counted_as_before old new (change.Register r v named) answer by = ap ledger_of by.0
counted_as_before old new (change.Slot g v) answer by = ap ledger_of by.0
counted_as_before old new (change.Field p f v) answer by = ap ledger_of by.0.rest
counted_as_before old new (change.Put m k v) answer by = ap ledger_of by.0.rest
counted_as_before old new (change.Del m k) answer by = ap ledger_of by.0.rest

-- a command that is done, or for which there is no memory
pub after : {E : Type 0} (old new : HeapState) (c : GraphCmd) (plan : Plan) (r : Result Reply E) → IsMarkable old
    → HasFewFields c → IsPlanOf old c plan → IfOk r (λ answer. ChangesBy old plan.change answer new)
    → OnErr r (new ≡ old) → IsMarkable new
after old new c plan (Ok answer) m few is by err = markable
    (still-sound old new c (Ok answer) (sound_of old m) ((planned-here old c plan is).does few answer new by).0)
    (keeps old new plan.change answer by (whole_of old m))
    (counted_as_before old new plan.change answer by ∙ uncounted_of old m)
after old new c plan (Err why) m few is by err = subst IsMarkable (sym err) m

none_whole : (h : HeapState) → IsEmpty h → AreWhole h.shape.arenas
none_whole h empty = subst AreWhole (sym empty.arenas) (λ a arena is. cc is)

pub begun : (h : HeapState) → IsEmpty h → IsSound h → IsMarkable h
begun h empty sound = markable sound (none_whole h empty) empty.ledger

-- what marking needs of the heap
pub record CanMark (h : HeapState) : Type 0 where
  pub made : (x : ℕ × ℕ) → IsPresent h.shape x → zone_of h.shape x < length h.shape.states
  pub targets : (x y : ℕ × ℕ) → HasEdge h.shape x y → IsPresent h.shape y
  pub whole : AreWhole h.shape.arenas
  pub uncounted : h.ledger ≡ None

in_list : (zones : List ℕ) (n bound zone : ℕ) → All (λ z. z < bound) zones → slice_get zones n ≡ Some zone
    → zone < bound
in_list zones n bound zone all e = subst (λ z. z < bound) (get_or_from_slice_get zones n zone 0 e)
    (All-get_or (λ z. z < bound) zones n 0 (slice_get_within zones n zone e) all)

module _ (h : HeapState) (m : IsMarkable h) (new : HeapState) (on : IsTakenOn h new) where
  module _ (homes : All (λ z. z < length new.shape.states) new.shape.comps) where
    in_zone : (x : ℕ × ℕ) (o : Option CellState) → cell_of h.shape x ≡ o → IsSome o
        → zone_of h.shape x < length new.shape.states
    in_zone x None e p = cc p
    in_zone x (Some cell) e p = in_list new.shape.comps cell.comp.0 (length new.shape.states) (zone_of h.shape x) homes
        (ap (λ comps. slice_get comps cell.comp.0) on.comps ∙ ((sound_of h m).1.cells x cell e).at_home)

    -- a zone that was taken on may be marked, and so may the others
    pub can_mark : CanMark new
    can_mark = record {
      made = λ x p. subst (λ a. zone_in (slice_get a x.0) < length new.shape.states) (sym on.arenas)
          (in_zone x (cell_of h.shape x) refl (subst (λ a. IsSome (cell_in_arena (slice_get a x.0) x.1)) on.arenas p));
      targets = λ x y e. subst (λ a. IsSome (cell_in_arena (slice_get a y.0) y.1)) (sym on.arenas)
          ((sound_of h m).1.fields_held x y e.0
          (subst (λ a. field_in (cell_in_arena (slice_get a x.0) x.1) e.0 ≡ Some y) on.arenas e.2));
      whole = subst AreWhole (sym on.arenas) (whole_of h m);
      uncounted = on.ledger ∙ uncounted_of h m;
    }

  -- what a register holds stays where it is
  pub held : (r : ℕ) (x : ℕ × ℕ) → slice_get h.shape.regs r ≡ Some (Some x) → IsPresent new.shape x
  held r x e = subst (λ a. IsSome (cell_in_arena (slice_get a x.0) x.1)) (sym on.arenas)
      ((sound_of h m).1.registers_held x (subst (λ o. Contains h.shape.regs o)
      (get_or_from_slice_get h.shape.regs r (Some x) None e)
      (Contains-get_or h.shape.regs r None (slice_get_within h.shape.regs r (Some x) e))))

abbrev pub Advances : HeapState → ℕ → HeapState → Type 0
Advances h zone new = IsSomeAnd (slice_get h.shape.states zone) (λ s. new ≡ record h {
  shape = record h.shape { states = slice_set h.shape.states zone (next_state s) };
})

-- one step to the next state
module _ (h new : HeapState) (zone : ℕ) where
  one_step : (o : Option State) → IsSomeAnd o (λ s. new ≡ record h {
    shape = record h.shape { states = slice_set h.shape.states zone (next_state s) };
  }) → IsTakenOn h new × (length new.shape.states ≡ length h.shape.states)
  one_step None x = absurd x
  one_step (Some s) is = (
    record {
      arenas = ap (λ (k : HeapState). k.shape.arenas) is;
      comps = ap (λ (k : HeapState). k.shape.comps) is;
      ledger = ap (λ (k : HeapState). k.ledger) is;
    },
    ap (λ (k : HeapState). length k.shape.states) is ∙ length-set h.shape.states zone (next_state s),
  )

  pub still_made : Advances h zone new → zone < length h.shape.states → zone < length new.shape.states
  still_made a below = subst (λ n. zone < n) (sym (one_step (slice_get h.shape.states zone) a).1) below

-- two steps
pub taken_on : (h between new : HeapState) (zone : ℕ) → Advances h zone between → Advances between zone new
    → IsTakenOn h new
taken_on h between new zone a b =
    let first = (one_step h between zone (slice_get h.shape.states zone) a).0 in
    let then' = (one_step between new zone (slice_get between.shape.states zone) b).0 in
    record {
      arenas = then'.arenas ∙ first.arenas;
      comps = then'.comps ∙ first.comps;
      ledger = then'.ledger ∙ first.ledger;
    }
