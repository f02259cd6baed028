use Rattle.std.proofs.Common.{◌≡◌, ◌≢◌, ◌∙◌, [], List, Contains, MatchBool, refl, sym, ap, subst}
use Rattle.gz_names.specs.Moves.{GoApart}
use Rattle.gz_names.specs.declared.moves.Move.{Move}
use Rattle.wrappers.specs.WrapperMaps.{WrappersState}
use Rattle.weak_maps.specs.Moving.{IsNamed}
use Rattle.weak_maps.specs.WeakMaps as weak
use Rattle.weak_maps.specs.WeakMaps.{WeakMapsState}
use Rattle.heap_core.specs.Heap.{HeapState, bits_of}
use Rattle.heap_core.specs.Moving.{Carries, MayForward, wrappers_forwarded, zones_now}
use Rattle.heap_core.specs.Shape.{arena_shapes}
use Rattle.heap_core.specs.contracts.heap.Heap.{the_view}
use Rattle.heap_core.proofs.Going.{carries-moved, inside-after, may-forward-others, noted-moved}
use Rattle.heap_core.proofs.Leading.{carried-by, may-move}
use Rattle.heap_core.proofs.Naming.{named-apart, watched-apart}
use Rattle.heap_core.proofs.Staying.{carries-none}
use Rattle.heap_core.proofs.heap.Heap.carry.Goals as goal

pub returns-then-is_empty-clause-carries : goal.returns-then-is_empty-clause-carries
returns-then-is_empty-clause-carries c =
    let none : c.args.moves.now ≡ [] = subst (λ b. MatchBool b (c.args.moves.now ≡ []) (c.args.moves.now ≢ []))
    c.if-is_empty.true c.is_empty.ensures in
    subst (λ (ms : List Move). Carries (zones_now c.args.self.now) c.args.self.now c.args.zone ms c.args.self.now)
    (sym none) (carries-none c.args.self.now c.args.zone c.requires.heap)

pub forwarded-requires : goal.forwarded-requires
forwarded-requires c = subst (λ (x : HeapState). GoApart (Contains x.weak_names.watched) c.args.moves.now)
    (sym c.self.view_is) (watched-apart c.args.self.now c.requires.heap c.args.zone c.args.moves.now c.requires.moves)

pub forward-requires : goal.forward-requires
forward-requires c = subst (λ (x : HeapState). GoApart (IsNamed x.shape.weak) c.args.moves.now) (sym c.self.view_is)
    (named-apart c.args.self.now c.requires.heap c.args.zone c.args.moves.now c.requires.moves
    c.carry_law.ensures.entries)

pub move_cells-requires : goal.move_cells-requires
move_cells-requires c = may-move c.args.self.now.shape c.self.inside.arenas.arenas
    (ap (λ (x : HeapState). x.shape.arenas) (sym c.self.view_is)) c.requires.heap.kept c.args.zone c.args.moves.now
    c.requires.moves

pub forward_in-requires : goal.forward_in-requires
forward_in-requires c = inside-after c.self.inside.arenas.arenas c.move_cells.new.self.arenas c.args.moves.now
    (may-move c.args.self.now.shape c.self.inside.arenas.arenas
    (ap (λ (x : HeapState). x.shape.arenas) (sym c.self.view_is)) c.requires.heap.kept c.args.zone c.args.moves.now
    c.requires.moves) c.move_cells.ensures.moves

pub forward_targets-requires : goal.forward_targets-requires
forward_targets-requires c =
    let h : HeapState = c.args.self.now in
    let moves = c.args.moves.now in
    let zone = c.args.zone in
    subst (λ (w : WrappersState). MayForward c.forward_in.new.self.arenas w moves)
    (sym (c.forward-2.ensures.lists ∙ ap (λ (x : HeapState). wrappers_forwarded moves zone x.shape.wrappers)
    c.self.view_is))
    (may-forward-others h c.self.inside.arenas c.move_cells.new.self c.forward_in.new.self zone moves (record {
      carried = carried-by h (the_view c.self.inside) c.self.inside.arenas.arenas zone moves c.self.view_is refl refl
          (record {
            may = c.requires.heap;
            are = c.requires.moves;
            order = c.carry_law.ensures.order;
            entries = c.carry_law.ensures.entries;
            few = c.carry_law.ensures.zones;
            apart = c.carry_law.ensures.wrappers;
          });
      went = c.move_cells.ensures.moves;
      inner_is = c.forward_in.ensures.state;
      inner = c.forward_in.ensures.cells;
    }))

pub invariant_of-self-2 : goal.invariant_of-self-2
invariant_of-self-2 c = noted-moved c.args.self.now (the_view c.self.inside) (record {
  before = c.self.inside.arenas;
  gone = c.move_cells.new.self;
  inner = c.forward_in.new.self;
  done = c.forward_targets.new.arenas;
}) c.self.inside.target_zones c.args.zone c.args.moves.now
    (record {
      is = c.self.view_is;
      seen = refl;
      coloured = refl;
      made = refl;
      delayed = refl;
      may = record {
        may = c.requires.heap;
        are = c.requires.moves;
        order = c.carry_law.ensures.order;
        entries = c.carry_law.ensures.entries;
        few = c.carry_law.ensures.zones;
        apart = c.carry_law.ensures.wrappers;
      };
      went = c.move_cells.ensures.moves;
      went_is = c.move_cells.ensures.rest;
      inner_is = c.forward_in.ensures.state;
      inner = c.forward_in.ensures.cells;
      wrappers = c.forward-2.new.self;
      wrappers_are = c.forward-2.ensures.lists;
      others = c.forward_targets.ensures;
      are_noted = c.self.invariant;
      entries = subst weak.IsSound (ap (λ (w : WeakMapsState). w.table) c.in_ok-forward.ensures.ok)
          c.forward.ensures.sound;
    })

pub returns-clause-carries : goal.returns-clause-carries
returns-clause-carries c =
    let h : HeapState = c.args.self.now in
    let b : HeapState = the_view c.self.inside in
    let moves = c.args.moves.now in
    let us = c.forward_targets.new.arenas.arenas in
    let moved = carries-moved h b (record {
      before = c.self.inside.arenas;
      gone = c.move_cells.new.self;
      inner = c.forward_in.new.self;
      done = c.forward_targets.new.arenas;
    }) c.self.inside.target_zones c.args.zone moves
    (record {
      is = c.self.view_is;
      seen = refl;
      coloured = refl;
      made = refl;
      delayed = refl;
      may = record {
        may = c.requires.heap;
        are = c.requires.moves;
        order = c.carry_law.ensures.order;
        entries = c.carry_law.ensures.entries;
        few = c.carry_law.ensures.zones;
        apart = c.carry_law.ensures.wrappers;
      };
      went = c.move_cells.ensures.moves;
      went_is = c.move_cells.ensures.rest;
      inner_is = c.forward_in.ensures.state;
      inner = c.forward_in.ensures.cells;
      wrappers = c.forward-2.new.self;
      wrappers_are = c.forward-2.ensures.lists;
      others = c.forward_targets.ensures;
      are_noted = c.self.invariant;
      entries = subst weak.IsSound (ap (λ (w : WeakMapsState). w.table) c.in_ok-forward.ensures.ok)
          c.forward.ensures.sound;
    }) in
    subst (Carries (zones_now h) h c.args.zone moves) (λ j. record b {
      shape = record b.shape {
        arenas = arena_shapes us;
        wrappers = c.forward-2.new.self;
        weak = (sym c.in_ok-forward.ensures.ok j).table;
        regs = (sym c.forward-3.ensures j).regs;
        slots = (sym c.forward-3.ensures j).slots;
      };
      colours = bits_of us;
      buffers = (sym c.forward-3.ensures j).buffers;
      made = c.forward_targets.new.arenas.made;
      looks = (sym c.in_ok-forward.ensures.ok j).looks;
      delayed = c.forward_targets.new.arenas.delayed;
      weak_names = sym c.in_ok-weak_refs.ensures j;
    }) moved
