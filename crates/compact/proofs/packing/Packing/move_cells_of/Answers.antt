use Rattle.std.proofs.Common.{◌<◌, ◌∙◌, suc, sym, subst, refl, arith, w64}
use Rattle.std.specs.Int.{trailing_zeros}
use Rattle.gz_names.specs.declared.numbers.Place.{Place}
use Rattle.compact.specs.Packed.{HasRoom, IsMover, IsPacked}
use Rattle.compact.proofs.Finding.{lowest-is}
use Rattle.compact.proofs.Ones.{some-ones}
use Rattle.compact.proofs.Moving.{counted-all, is-mine, moved-all, mover, moving-first, moving-more}
use Rattle.compact.proofs.Moving.{packed-before, past, room-more, within-mine}
use Rattle.compact.proofs.packing.Packing.move_cells_of.Goals as goal

pub alloc_word-word-requires : goal.alloc_word-word-requires
alloc_word-word-requires c = within-mine c.args.heap.now.shape.arenas c.args.arena c.args.zone c.requires.mine

pub loop-left-init : goal.loop-left-init
loop-left-init c = record {
  moving = (
    0,
    moving-first c.args.heap.now.shape c.args.zone c.args.arena c.alloc_word-word.result c.args.self.now
        (is-mine c.args.heap.now.shape c.args.zone c.args.self.now.first_given_up c.args.arena
        c.alloc_word-word.result c.requires.mine (c.requires.kept c.args.arena) c.alloc_word-word.ensures
        c.requires.from) c.requires.packed c.requires.counted,
  );
  first = refl;
}

pub unreachable-requires : goal.unreachable-requires
unreachable-requires c =
    let some : 0 < c.loop-left.left = omega (arith, c.loop-left-test.true) in
    let low = lowest-is c.loop-left.left some c.loop-left.auto.left-fits.fits in
    c.in_default.ensures low.below

pub move_cell-requires-clause-room : goal.move_cell-requires-clause-room
move_cell-requires-clause-room c =
    let some : 0 < c.loop-left.left = omega (arith, c.loop-left-test.true) in
    let is = c.loop-left.invariant.moving in
    room-more c.args.heap.now.shape c.args.zone c.args.arena c.alloc_word-word.result c.loop-left.left is.0
    c.loop-left.self is.1 (subst (HasRoom c.args.heap.now.shape.arenas c.args.zone)
    (sym c.loop-left.invariant.first) c.requires.room) (some-ones c.loop-left.left some)

pub move_cell-requires-clause-mover : goal.move_cell-requires-clause-mover
move_cell-requires-clause-mover c =
    let some : 0 < c.loop-left.left = omega (arith, c.loop-left-test.true) in
    let is = c.loop-left.invariant.moving in
    subst (IsMover c.args.heap.now.shape c.args.zone c.loop-left.self.first_given_up) (sym c.in-Some.ensures.1)
    (mover c.args.heap.now.shape c.args.zone c.args.arena c.alloc_word-word.result c.loop-left.left is.0
    c.loop-left.self is.1 (trailing_zeros w64 c.loop-left.left)
    (lowest-is c.loop-left.left some c.loop-left.auto.left-fits.fits))

pub move_cell-requires-clause-packed : goal.move_cell-requires-clause-packed
move_cell-requires-clause-packed c =
    let some : 0 < c.loop-left.left = omega (arith, c.loop-left-test.true) in
    let is = c.loop-left.invariant.moving in
    subst (λ (q : Place). IsPacked c.args.heap.now.shape c.args.zone q c.loop-left.self) (sym c.in-Some.ensures.1)
    (packed-before c.args.heap.now.shape c.args.zone c.args.arena c.alloc_word-word.result c.loop-left.left is.0
    c.loop-left.self is.1 (trailing_zeros w64 c.loop-left.left)
    (lowest-is c.loop-left.left some c.loop-left.auto.left-fits.fits))

pub loop-left-preserved : goal.loop-left-preserved
loop-left-preserved c =
    let s = c.args.heap.now.shape in
    let some : 0 < c.loop-left.left = omega (arith, c.loop-left-test.true) in
    let fits = c.loop-left.auto.left-fits.fits in
    let low = lowest-is c.loop-left.left some fits in
    let n = c.loop-left.invariant.moving.0 in
    let is = c.loop-left.invariant.moving.1 in
    let t = trailing_zeros w64 c.loop-left.left in
    let packed = subst (λ (q : Place). IsPacked s c.args.zone (q.0, suc q.1) c.move_cell.new.self)
    c.in-Some.ensures.1 c.in_ok-move_cell.ensures.packed in
    record {
      moving = (
        suc t,
        moving-more s c.args.zone c.args.arena c.alloc_word-word.result c.loop-left.left n t c.loop-left.self
            c.move_cell.new.self (record {
              moving = is;
              low = low;
              past = past s c.args.zone c.args.arena c.alloc_word-word.result c.loop-left.left n c.loop-left.self is
                  t low;
              some = some;
              fits = fits;
              packed = packed;
              count = c.in_ok-move_cell.ensures.count;
              same = c.move_cell.ensures.first;
            }),
      );
      first = c.move_cell.ensures.first ∙ c.loop-left.invariant.first;
    }

pub returns-clause-packed : goal.returns-clause-packed
returns-clause-packed c =
    let is = c.loop-left.invariant.moving in
    moved-all c.args.heap.now.shape c.args.zone c.args.arena c.alloc_word-word.result c.loop-left.left is.0
    c.loop-left.self is.1 c.loop-left-test.false

pub returns-clause-counted : goal.returns-clause-counted
returns-clause-counted c =
    let is = c.loop-left.invariant.moving in
    counted-all c.args.heap.now.shape c.args.zone c.args.arena c.alloc_word-word.result c.loop-left.left is.0
    c.loop-left.self is.1 c.loop-left-test.false

pub returns-in_err-move_cell-clause-first : goal.returns-in_err-move_cell-clause-first
returns-in_err-move_cell-clause-first c = c.move_cell.ensures.first ∙ c.loop-left.invariant.first
