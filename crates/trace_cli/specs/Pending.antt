-- What is left of a line that asks for units.
use Rattle.std.specs.Prelude.{ℕ, ◌+◌, ◌-◌, ◌≤◌, ⊤}
use Rattle.gz_names.specs.declared.replies.Reply.{Reply}
use Rattle.gz_names.specs.declared.replies.Reply.TheVariants as reply
use Rattle.trace_cli.specs.declared.pending.Pending.{Pending}
use Rattle.trace_cli.specs.declared.pending.Pending.TheVariants as pending

-- how many units it still asks for at most
abbrev pub limit_of : Pending → ℕ
limit_of pending.Collect = 18446744073709551615
limit_of (pending.Slice left done) = left
limit_of (pending.Finish done) = 18446744073709551615
limit_of pending.Reset = 18446744073709551615

-- this number of units more can be done for it
abbrev pub Allows : Pending → ℕ → Type 0
Allows pending.Collect n = ⊤
Allows (pending.Slice left done) n = n ≤ left
Allows (pending.Finish done) n = ⊤
Allows pending.Reset n = ⊤

-- how many were counted
abbrev pub done_of : Pending → ℕ
done_of pending.Collect = 0
done_of (pending.Slice left done) = done
done_of (pending.Finish done) = done
done_of pending.Reset = 0

-- what is left after this number of units more
abbrev pub after : ℕ → Pending → Pending
after n pending.Collect = pending.Collect
after n (pending.Slice left done) = pending.Slice (left - n) (done + n)
after n (pending.Finish done) = pending.Finish (done + n)
after n pending.Reset = pending.Reset

-- the reply of the last line
abbrev pub reply_of : Pending → Reply
reply_of pending.Collect = reply.Collected
reply_of (pending.Slice left done) = reply.Sliced done
reply_of (pending.Finish done) = reply.Sliced done
reply_of pending.Reset = reply.ResetDone
