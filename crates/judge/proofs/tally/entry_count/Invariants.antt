use Rattle.std.proofs.Common.{◌≡◌, count_by, take}
use Rattle.gz_names.specs.Zones.{zones_in}
use Rattle.judge.specs.Bounds.{is_counted}
use Rattle.judge.proofs.tally.entry_count.Given as goal

abbrev pub invariant-loop-entry : goal.invariant-loop-entry
invariant-loop-entry l =
    l.count ≡ count_by (λ e. is_counted l.graph l.places (zones_in l.zones) e) (take l.entry-index l.entry-items)
