-- What clauses say of a queue.
use Rattle.std.specs.Prelude.{◌≡◌}
use Rattle.crossbeam_queue.specs.Passes.{view}
use Rattle.par_mark.specs.declared.donations.QueueView.{QueueView}
use Rattle.par_mark.specs.declared.queue.Queue.{Queue}
use Rattle.par_mark.specs.Donations.{unused_view}

-- what main's pass knows
abbrev pub pass_view : {L : Type 0} → Queue L → QueueView
pass_view q = view q.pass

-- nobody has put anything into the queue, and nobody else holds a pass of it
abbrev pub IsUnused : {L : Type 0} → Queue L → Type 0
IsUnused q = pass_view q ≡ unused_view
