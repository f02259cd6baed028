use Rattle.std.proofs.Common.{◌∙◌, ◌+◌, ◌++◌, List, ap, append_assoc, arith, drop, sym}
use Rattle.std.proofs.lemmas.List.{append-nil, drop_all}
use Rattle.gz_names.specs.declared.numbers.Place.{Place}
use Rattle.judge.specs.Compaction.{free_in}
use Rattle.judge.proofs.Freed.{in_first, in_none}
use Rattle.judge.proofs.compaction.free_places.Goals as goal

pub loop-arena-preserved : goal.loop-arena-preserved
loop-arena-preserved c =
    let taken = c.args.taken.now in
    let arenas = c.args.arenas.now in
    let i = c.loop-arena.arena-index in
    ap (λ (ps : List Place). ps ++ free_in taken (drop (i + 1) arenas)) c.in_ok-push_free.ensures
    ∙ append_assoc c.loop-arena.free.items _ (free_in taken (drop (i + 1) arenas))
    ∙ ap (λ (ps : List Place). c.loop-arena.free.items ++ ps)
    (sym (in_first taken arenas i _ c.loop-arena-test.true))
    ∙ c.loop-arena.invariant

pub returns : goal.returns
returns c =
    let arenas = c.args.arenas.now in
    sym (append-nil c.loop-arena.free.items)
    ∙ ap (λ (ps : List Place). c.loop-arena.free.items ++ ps)
    (sym (in_none c.args.taken.now _ (drop_all c.loop-arena.arena-index arenas (omega arith))))
    ∙ c.loop-arena.invariant
