-- Roots are pinned, loaded and unpinned, in each world that a collector stands for.
use Rattle.std.proofs.Common.{◌≡◌, ◌≢◌, ◌+◌, ℕ, List, map, Option, Some, None, Ok, Err, IsErr, IsSome}
use Rattle.std.proofs.Common.{Contains, slice_index_or, slice_set, refl, sym, ap, subst, ◌∙◌, inl, inr}
use Rattle.std.proofs.Math.ListN.{get_or-map}
use Rattle.std.proofs.lemmas.List.{map-set, set-get_or}
use Rattle.std.proofs.lemmas.Bool.Decides.{eqb_tells}
use Rattle.gz_names.specs.declared.names.Name.{Name}
use Rattle.gz_names.specs.declared.numbers.Place.{Place}
use Rattle.gz_names.specs.declared.replies.CmdFault.TheVariants as fault
use Rattle.gz_names.specs.declared.replies.Refusal.TheVariants as refusal
use Rattle.cell_bits.specs.declared.bits.Bits.{Bits}
use Rattle.colour_defs.specs.Graph.{register_cell}
use Rattle.colour_defs.specs.Step.{with_register}
use Rattle.colour_defs.specs.World.{World}
use Rattle.colour_defs.proofs.Lists.{contains_set_cases, get_contains}
use Rattle.heap_core.specs.Heap.{HeapState, reg_of, with_reg, without_delayed}
use Rattle.heap_core.specs.Pinned.{Pins, pinned_of}
use Rattle.heap_core.specs.Shape.{Shape, held_name}
use Rattle.heap_core.proofs.Shown.{reg_present, reg_shown}
use Rattle.zone_edges.specs.Noted.{Noted}
use Rattle.gz_names.specs.declared.zone_sets.ZoneSet.{ZoneSet}
use Rattle.slice_driver.specs.Collector.{CollectorState, IsKept}
use Rattle.slice_driver.specs.Pins.{Holds, IsWhereEmpty, LoadsIn, PinDone, PinsIn, RootDone, UnpinsIn, holding}
use Rattle.slice_driver.specs.Pins.{pinned_cell}
use Rattle.slice_driver.specs.Pins.{with_registers}
use Rattle.slice_driver.specs.Worlds.{LiesIn}
use Rattle.slice_driver.specs.declared.collector.Phase.{Phase}
use Rattle.slice_driver.proofs.abstraction.Named.{name_of}
use Rattle.slice_driver.proofs.abstraction.Renaming.{lies_of}
use Rattle.slice_driver.proofs.commanding.DerefSteps.{kept_registers}
use Rattle.slice_driver.proofs.pinning.Held.{Reholds, from_registers, held_at, held_to_come, represents_held}
use Rattle.slice_driver.proofs.pinning.Valid.{registers_valid}

-- the world in which registers and pinned roots hold what these do
abbrev world_with : World → Shape → List (Option Place) → World
world_with w s regs = with_registers w (map (held_name s) regs)

-- registers hold other cells of those that they held, and in each world that has its meaning
holds : (Does : World → World → Type 0) (old : CollectorState) (regs : List (Option Place))
    → ((x : Place) → Contains regs (Some x) → Contains old.heap.shape.regs (Some x))
    → ((w : World) → LiesIn old.heap w → Does w (world_with w old.heap.shape regs)) → Holds Does old (holding old regs)
holds Does old regs among means = record {
  done = λ flown w ok rep.
      let lies = lies_of old flown w rep in
      let by : Reholds = record { c = old; regs = regs; among = among; flown = flown; world = w } in (
        world_with w old.heap.shape regs,
        means w lies,
        registers_valid w (map (held_name old.heap.shape) regs) ok (from_registers by lies),
        represents_held by rep,
      );
  to_come = λ flown. held_to_come old regs flown;
  rest = refl;
}

-- what a register or a pinned root holds, by names and by places
held_in : (h : HeapState) (w : World) → LiesIn h w → (r : ℕ) → register_cell w.graph r ≡ held_name h.shape (reg_of h r)
held_in h w l r = ap (λ (rs : List (Option Name)). slice_index_or rs r None) (sym l.part.part.registers)
    ∙ reg_shown h l.graph r l.shown

held_now : (w : World) (s : Shape) (regs : List (Option Place)) (r : ℕ)
    → register_cell (world_with w s regs).graph r ≡ held_name s (slice_index_or regs r None)
held_now w s regs r = get_or-map (held_name s) regs r None

-- it holds nothing, or a cell under its name
cell_none : (h : HeapState) (w : World) → LiesIn h w → (r : ℕ) → reg_of h r ≡ None → register_cell w.graph r ≡ None
cell_none h w l r none = held_in h w l r ∙ ap (held_name h.shape) none

cell_some : (h : HeapState) (w : World) → LiesIn h w → (r : ℕ) (p : Place) → reg_of h r ≡ Some p
    → (x : Name) × (register_cell w.graph r ≡ Some x)
cell_some h w l r p e =
    let x = name_of h.shape p (reg_present h l.graph r p l.shown e) in
    (x.0, held_in h w l r ∙ (ap (held_name h.shape) e ∙ x.1))

is_there : (h : HeapState) (w : World) → LiesIn h w → (r : ℕ) (p : Place) → reg_of h r ≡ Some p
    → IsSome (register_cell w.graph r)
is_there h w l r p e =
    let x = cell_some h w l r p e in
    subst (λ (o : Option Name). IsSome o) (sym x.1) refl

-- so this holds exactly where a register or root is empty
told_empty : (old : CollectorState) (r : ℕ) (Is : Type 0) → reg_of old.heap r ≡ None → Is → (flown : ℕ → Option Bits)
    → IsWhereEmpty old flown r Is
told_empty old r Is none is flown w rep = (λ _. cell_none old.heap w (lies_of old flown w rep) r none, λ _. is)

told_held : (old : CollectorState) (r : ℕ) (p : Place) (Is : Type 0) → reg_of old.heap r ≡ Some p → (Is → ⊥)
    → (flown : ℕ → Option Bits) → IsWhereEmpty old flown r Is
told_held old r p Is held not flown w rep =
    let x = cell_some old.heap w (lies_of old flown w rep) r p held in
    (λ is. absurd (not is), λ none. absurd (let cell = x.1 in cc (cell, none)))

-- a root was pinned to what a register holds
pub record IsPinned (old : CollectorState) (r root : ℕ) (p : Place) (regs : List (Option Place)) : Type 0 where
  pub register : reg_of old.heap r ≡ Some p
  pub free : pinned_of old.heap root ≡ None
  pub held : slice_index_or regs (16 + root) None ≡ Some p
  pub others : (n : ℕ) → n ≢ 16 + root → slice_index_or regs n None ≡ reg_of old.heap n

module _ (old : CollectorState) (r root : ℕ) (p : Place) (regs : List (Option Place)) (is : IsPinned old r root p regs)
  where
    among_pinned : (x : Place) → Contains regs (Some x) → Contains old.heap.shape.regs (Some x)
    among_pinned x has =
        let at = held_at regs x has in
        elim (eqb_tells at.0 (16 + root)) [
          | inl same ↦ (
              let here : Some p ≡ Some x =
              sym is.held ∙ (ap (λ (n : ℕ). slice_index_or regs n None) (sym same.1) ∙ at.1) in
              get_contains old.heap.shape.regs r x (is.register ∙ here))
          | inr other ↦ get_contains old.heap.shape.regs at.0 x (sym (is.others at.0 other.1) ∙ at.1)
        ]

    pins_in : (w : World) → LiesIn old.heap w → PinsIn r root w (world_with w old.heap.shape regs)
    pins_in w l = record {
      some = is_there old.heap w l r p is.register;
      free = cell_none old.heap w l (16 + root) is.free;
      held = held_now w old.heap.shape regs (16 + root)
          ∙ (ap (held_name old.heap.shape) (is.held ∙ sym is.register) ∙ sym (held_in old.heap w l r));
      others = λ n other. held_now w old.heap.shape regs n
          ∙ (ap (held_name old.heap.shape) (is.others n other) ∙ sym (held_in old.heap w l n));
      rest = refl;
    }

    pub holds_pinned : Holds (PinsIn r root) old (holding old regs)
    holds_pinned = holds (PinsIn r root) old regs among_pinned pins_in

-- a register or a pinned root holds something else, which one of them held
module _ (old : CollectorState) (r : ℕ) (o : Option Place)
    (held : (x : Place) → o ≡ Some x → Contains old.heap.shape.regs (Some x)) where
  abbrev pub regs_set : List (Option Place)
  regs_set = slice_set old.heap.shape.regs r o

  among_set : (x : Place) → Contains regs_set (Some x) → Contains old.heap.shape.regs (Some x)
  among_set x has = elim (contains_set_cases old.heap.shape.regs r o (Some x) has) [
    | inl was ↦ was
    | inr now ↦ held x now
  ]

  set_in : (w : World) → LiesIn old.heap w → (x : Option Name) → held_name old.heap.shape o ≡ x
      → world_with w old.heap.shape regs_set ≡ record w { graph = with_register w.graph r x }
  set_in w l x named =
      let s : Shape = old.heap.shape in
      let was : map (held_name s) s.regs ≡ w.graph.registers = sym l.shown.registers_are ∙ l.part.part.registers in
      ap (with_registers w)
      (map-set (held_name s) s.regs r o
      ∙ (ap (λ (rs : List (Option Name)). slice_set rs r (held_name s o)) was
      ∙ ap (slice_set w.graph.registers r) named))

-- a register takes what a pinned root holds
pub holds_loaded : (old : CollectorState) (r root : ℕ) (p : Place) → pinned_of old.heap root ≡ Some p
    → Holds (LoadsIn r root) old (holding old (slice_set old.heap.shape.regs r (pinned_of old.heap root)))
holds_loaded old r root p is =
    let o = pinned_of old.heap root in
    let held : (x : Place) → o ≡ Some x → Contains old.heap.shape.regs (Some x) =
    λ x e. get_contains old.heap.shape.regs (16 + root) x e in
    holds (LoadsIn r root) old (slice_set old.heap.shape.regs r o) (among_set old r o held) (λ w l. record {
      some = is_there old.heap w l (16 + root) p is;
      world_is = set_in old r o held w l (pinned_cell w root) (sym (held_in old.heap w l (16 + root)));
    })

-- a pinned root holds nothing any more
pub holds_unpinned : (old : CollectorState) (root : ℕ) (p : Place) → pinned_of old.heap root ≡ Some p
    → Holds (UnpinsIn root) old (holding old (slice_set old.heap.shape.regs (16 + root) None))
holds_unpinned old root p is =
    let held : (x : Place) → None ≡ Some x → Contains old.heap.shape.regs (Some x) = λ x e. absurd (cc e) in
    holds (UnpinsIn root) old (slice_set old.heap.shape.regs (16 + root) None) (among_set old (16 + root) None held)
    (λ w l. record {
      some = is_there old.heap w l (16 + root) p is;
      world_is = set_in old (16 + root) None held w l None refl;
    })

-- a register holds nothing, so nothing is pinned
pub pin_empty : (old : CollectorState) (r : ℕ) → reg_of old.heap r ≡ None
    → PinDone old r (Err (fault.Refused refusal.Empty)) old
pin_empty old r none = record {
  done = tt;
  empty = told_empty old r (Err (fault.Refused refusal.Empty) ≡ Err (fault.Refused refusal.Empty)) none refl;
  fails = λ why e. inl (cc e);
  err = refl;
}

-- what a collector keeps besides is not of registers
pub kept_held : (m new : HeapState) (regs : List (Option Place)) (edges : Noted) (groups : List ZoneSet) (p : Phase)
    → new ≡ record m { shape = record m.shape { regs = regs } } → IsKept m.shape edges groups p
    → IsKept new.shape edges groups p
kept_held m new regs edges groups p is kept = subst (λ (h : HeapState). IsKept h.shape edges groups p) (sym is)
    (kept_registers m.shape regs edges groups p kept)

pub kept_same : (m new : HeapState) (edges : Noted) (groups : List ZoneSet) (p : Phase) → new ≡ m
    → IsKept m.shape edges groups p → IsKept new.shape edges groups p
kept_same m new edges groups p is kept = subst (λ (h : HeapState). IsKept h.shape edges groups p) (sym is) kept

-- a pinned root that holds nothing holds nothing any more: nothing changed
pub unpinned_same : (m new : HeapState) (root : ℕ) → pinned_of m root ≡ None → new ≡ with_reg m (16 + root) None
    → new ≡ m
unpinned_same m new root none unpins = unpins
    ∙ ap (λ (rs : List (Option Place)). record m { shape = record m.shape { regs = rs } })
    (ap (slice_set m.shape.regs (16 + root)) (sym none) ∙ set-get_or m.shape.regs (16 + root) None)

-- a collector as it is seen by its heap with cells delayed, of which registers alone change
pub record SeenBy (old : CollectorState) : Type 0 where
  pub seen : HeapState → CollectorState
  pub heap : HeapState
  pub view_is : seen heap ≡ old
  pub here : without_delayed heap ≡ old.heap
  pub alike : (regs : List (Option Place)) → seen (record heap { shape = record heap.shape { regs = regs } })
      ≡ holding (seen heap) regs

module _ (old : CollectorState) (by : SeenBy old) where
  seen_as : (new : HeapState) (regs : List (Option Place))
      → new ≡ record by.heap { shape = record by.heap.shape { regs = regs } } → by.seen new ≡ holding old regs
  seen_as new regs is = ap by.seen is ∙ (by.alike regs ∙ ap (λ (c : CollectorState). holding c regs) by.view_is)

  shape_is : by.heap.shape ≡ old.heap.shape
  shape_is = ap (λ (h : HeapState). h.shape) by.here

  reg_is : (r : ℕ) (o : Option Place) → reg_of by.heap r ≡ o → reg_of old.heap r ≡ o
  reg_is r o e = subst (λ (s : Shape). slice_index_or s.regs r None ≡ o) shape_is e

  pub pin_done : (r root : ℕ) (p : Place) (new : HeapState) → reg_of by.heap r ≡ Some p → Pins by.heap p root new
      → PinDone old r (Ok root) (by.seen new)
  pin_done r root p new register pins =
      let regs = new.shape.regs in
      let is : IsPinned old r root p regs = record {
        register = reg_is r (Some p) register;
        free = reg_is (16 + root) None pins.free;
        held = pins.held;
        others = λ n other. pins.others n other
            ∙ ap (λ (s : Shape). slice_index_or s.regs n None) shape_is;
      } in
      record {
        done = subst (λ (c : CollectorState). Holds (PinsIn r root) old c) (sym (seen_as new regs pins.rest))
            (holds_pinned old r root p regs is);
        empty = told_held old r p (Ok root ≡ Err (fault.Refused refusal.Empty)) is.register (λ e. cc e);
        fails = λ why e. absurd (cc e);
        err = tt;
      }

  pub pin_wanted : (r : ℕ) (p : Place) (new : HeapState) → reg_of by.heap r ≡ Some p → new ≡ by.heap
      → PinDone old r (Err fault.NoMemory) (by.seen new)
  pin_wanted r p new register same = record {
    done = tt;
    empty = told_held old r p (Err fault.NoMemory ≡ Err (fault.Refused refusal.Empty)) (reg_is r (Some p) register)
        (λ e. cc e);
    fails = λ why e. inr (cc e);
    err = ap by.seen same ∙ by.view_is;
  }

  -- a pinned root was asked for
  module _ {T E : Type 0} where
    pub load_done : (x : T) (r root : ℕ) (p : Place) (new : HeapState) → pinned_of by.heap root ≡ Some p
        → new ≡ with_reg by.heap r (pinned_of by.heap root)
        → RootDone {T = T} {E = E} (LoadsIn r root) old root (Ok x) (by.seen new)
    load_done x r root p new holds_it loads =
        let held = reg_is (16 + root) (Some p) holds_it in
        let is : by.seen new ≡ holding old (slice_set old.heap.shape.regs r (pinned_of old.heap root)) =
        seen_as new (slice_set by.heap.shape.regs r (pinned_of by.heap root)) loads
        ∙ ap (λ (s : Shape). holding old (slice_set s.regs r (slice_index_or s.regs (16 + root) None))) shape_is in
        record {
          done = subst (λ (c : CollectorState). Holds (LoadsIn r root) old c) (sym is) (holds_loaded old r root p held);
          empty = told_held old (16 + root) p (IsErr {T = T} {E = E} (Ok x)) held (λ e. cc e);
          err = tt;
        }

    pub unpin_done : (x : T) (root : ℕ) (p : Place) (new : HeapState) → pinned_of by.heap root ≡ Some p
        → new ≡ with_reg by.heap (16 + root) None
        → RootDone {T = T} {E = E} (UnpinsIn root) old root (Ok x) (by.seen new)
    unpin_done x root p new holds_it unpins =
        let held = reg_is (16 + root) (Some p) holds_it in
        let is : by.seen new ≡ holding old (slice_set old.heap.shape.regs (16 + root) None) =
        seen_as new (slice_set by.heap.shape.regs (16 + root) None) unpins
        ∙ ap (λ (s : Shape). holding old (slice_set s.regs (16 + root) None)) shape_is in
        record {
          done = subst (λ (c : CollectorState). Holds (UnpinsIn root) old c) (sym is) (holds_unpinned old root p held);
          empty = told_held old (16 + root) p (IsErr {T = T} {E = E} (Ok x)) held (λ e. cc e);
          err = tt;
        }

    -- it holds nothing
    pub not_pinned : (Does : World → World → Type 0) (root : ℕ) (why : E) (new : HeapState)
        → pinned_of by.heap root ≡ None → new ≡ by.heap
        → RootDone {T = T} {E = E} Does old root (Err why) (by.seen new)
    not_pinned Does root why new none same = record {
      done = tt;
      empty = told_empty old (16 + root) (IsErr {T = T} {E = E} (Err why)) (reg_is (16 + root) None none) refl;
      err = ap by.seen same ∙ by.view_is;
    }
