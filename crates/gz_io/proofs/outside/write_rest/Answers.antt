use Rattle.std.proofs.Common.{arith, take, drop, ◌+◌, length, ◌≤◌, ◌∙◌, sym, take-append-drop}
use Rattle.std.proofs.Math.Seq.{take-add}
use Rattle.std.proofs.KnownBytes.{Appends-trans, Appends-kept}
use Rattle.gz_io.proofs.Pieces.{taken_of_rest, taken_of_rest_length}
use Rattle.gz_io.proofs.outside.write_rest.Goals as goal

pub loop-done-preserved : goal.loop-done-preserved
loop-done-preserved g c =
    let piece = c.args.piece.now in
    let done = c.loop-done.done in
    let n = c.in-Ok.count in
    let fits : done + n ≤ length piece = omega (arith, taken_of_rest_length piece done, c.in-Ok.ensures.bound) in (
      fits,
      rw take-add (Appends-trans _ _ _ (take done piece) (take n (drop done piece)) c.loop-done.invariant.1
          (rw taken_of_rest at c.in-Ok.ensures.bytes)),
      c.in-Ok.ensures.cause.same ∙ c.loop-done.invariant.2,
    )

pub returns-in-Err-clause-err : goal.returns-in-Err-clause-err
returns-in-Err-clause-err g c =
    let piece = c.args.piece.now in
    let done = c.loop-done.done in (
      take done piece,
      drop done piece,
      sym (take-append-drop done piece),
      Appends-kept _ _ _ (take done piece)
          c.loop-done.invariant.1 c.in-Err.ensures.bytes,
    )
