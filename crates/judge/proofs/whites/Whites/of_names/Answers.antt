use Rattle.std.proofs.Common.{◌∙◌, ◌<◌, List, arith, length, subst, sym}
use Rattle.gz_names.specs.declared.names.Name.{Name}
use Rattle.judge.proofs.Fitting.{fits_more}
use Rattle.judge.proofs.Swept.{by_arena_all, by_arena_more, by_arena_none}
use Rattle.judge.proofs.whites.Whites.of_names.Goals as goal

pub loop-name-init : goal.loop-name-init
loop-name-init c = by_arena_none c.args.places.now c.new-whites.result c.new-whites.ensures

pub loop-name-preserved : goal.loop-name-preserved
loop-name-preserved c =
    by_arena_more c.args.places.now c.copied.result c.args.names.now c.loop-name.name-index _ c.loop-name.whites
    c.add.new.self c.loop-name-test.true
    (record { found = c.copied.ensures ∙ c.get.ensures.value; adds = c.in_ok-add.ensures }) c.loop-name.invariant

pub returns : goal.returns
returns c =
    by_arena_all c.args.places.now c.args.names.now c.loop-name.name-index c.loop-name.whites (omega arith)
    c.loop-name.invariant

pub add-requires : goal.add-requires
add-requires c = λ p is.
    subst (λ (ns : List Name). length ns < 64) (sym (c.loop-name.invariant p.0))
    (fits_more c.args.places.now c.args.names.now c.loop-name.name-index _ p c.requires.spread c.requires.ascending
    c.loop-name-test.true (sym (c.copied.ensures ∙ c.get.ensures.value) ∙ is))
