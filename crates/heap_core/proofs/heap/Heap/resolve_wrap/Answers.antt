use Rattle.std.proofs.Common.{sym, ◌∙◌}
use Rattle.heap_core.specs.Heap.{with_marks}
use Rattle.heap_core.proofs.Resolved.{plans-wrap_seen, plans-wrap_unseen, shows_coloured, wrappable_coloured}
use Rattle.heap_core.proofs.Wrapped.{seen_present}
use Rattle.heap_core.proofs.heap.Heap.resolve_wrap.Goals as goal
use Rattle.heap_core.proofs.heap.Heap.resolve_wrap.Goals.{in-Some, in-None}

pub returns-after-seen_from-clause-plan : goal.returns-after-seen_from-clause-plan
returns-after-seen_from-clause-plan c = λ ds d. (
    let h = c.args.self.now in
    let target = c.in-Ok.target in
    let shows = shows_coloured h ds d c.requires.sound.0 c.requires.sound.1 in
    let may = wrappable_coloured h ds d c.args.s c.args.c target c.in-Ok.ensures.ok in
    elim c.match-seen_from.branch [
      | in-Some w ↦ (
          let seen = sym c.seen_from.ensures ∙ w.in-Some.is in
          rw w.result-is (plans-wrap_seen (with_marks h ds d) c.requires.sound.0 c.args.r c.args.s c.args.c target
          w.in-Some.place shows may c.in-Ok.ensures.present
          (seen_present h c.requires.sound.0 c.args.c target w.in-Some.place c.requires.sound.1 c.in-Ok.ensures.present
          seen) seen))
      | in-None w ↦ rw w.result-is
          (plans-wrap_unseen (with_marks h ds d) c.requires.sound.0 c.args.r c.args.s c.args.c target w.zone_of.result
          shows may c.in-Ok.ensures.present
          (record { home = w.zone_of.ensures.value; made = w.zone_of.ensures.made })
          (sym c.seen_from.ensures ∙ w.in-None.is))
    ])
