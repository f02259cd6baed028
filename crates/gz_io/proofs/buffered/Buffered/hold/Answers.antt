use Rattle.std.proofs.Common.{arith, ap, ◌∙◌, length, ◌++◌}
use Rattle.std.proofs.lemmas.List.{length-take-le}
use Rattle.gz_io.proofs.Between.{put_more}
use Rattle.gz_io.proofs.buffered.Buffered.hold.Goals as goal

pub returns-clause-held : goal.returns-clause-held
returns-clause-held g c =
    let b = c.self.inside in
    let n = c.min-count.result in
    let h = c.copy_from_slice.ensures.after in
    put_more b.buf c.copy_from_slice.new.self b.sent b.len _ n (omega arith) (omega arith) (ap length h
    ∙ length-take-le n c.args.piece.now (omega arith))
    ∙ ap (λ t. t ++ c.copy_from_slice.new.self) (ap (λ k. k.held) c.self.view_is)
    ∙ ap (λ t. c.args.self.now.held ++ t) h
