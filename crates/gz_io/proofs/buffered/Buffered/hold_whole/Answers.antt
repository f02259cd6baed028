use Rattle.std.proofs.Common.{arith, ap, ◌∙◌, length, ◌++◌}
use Rattle.gz_io.proofs.Between.{put_more}
use Rattle.gz_io.proofs.buffered.Buffered.hold_whole.Goals as goal

pub returns-clause-whole : goal.returns-clause-whole
returns-clause-whole g c = λ _.
    let b = c.self.inside in
    let h = c.copy_from_slice.ensures.after in
    put_more b.buf c.copy_from_slice.new.self b.sent b.len _ (length c.args.piece.now) (omega arith) (omega arith)
    (ap length h)
    ∙ ap (λ t. t ++ c.copy_from_slice.new.self) (ap (λ k. k.held) c.self.view_is)
    ∙ ap (λ t. c.args.self.now.held ++ t) h
