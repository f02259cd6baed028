use Rattle.std.proofs.KnownBytes.{append_known-moved}
use Rattle.gz_io.proofs.Between.{parts_meet}
use Rattle.gz_io.proofs.buffered.Buffered.pass_on.Goals as goal

pub returns-then-self-len-clause-bytes : goal.returns-then-self-len-clause-bytes
returns-then-self-len-clause-bytes g c =
    let b = c.self.inside in
    rw (← c.self.view_is) (append_known-moved _ _ _ _ _ c.send-self-inside.ensures.bytes
    (parts_meet b.buf b.sent c.send-self-inside.result b.len c.send-self-inside.ensures.from
    c.send-self-inside.ensures.most))
