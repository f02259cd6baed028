use Rattle.std.proofs.Common.{List, subst, sym, arith}
use Rattle.std.proofs.lemmas.List.{append-nil}
use Rattle.gz_names.specs.declared.names.Name.{Name}
use Rattle.plain_graph.specs.Reach.{Follows}
use Rattle.judge.proofs.Follows.{follows_all, follows_more}
use Rattle.judge.proofs.collection.add_all.Goals as goal

pub loop-name-init : goal.loop-name-init
loop-name-init c = λ g starts f. subst (λ (xs : List Name). Follows g xs c.args.walk.now) (sym (append-nil starts)) f

pub loop-name-preserved : goal.loop-name-preserved
loop-name-preserved c = λ g starts f.
    follows_more g starts c.args.names.now c.loop-name.name-index _ c.loop-name.walk c.add.new.self
    c.loop-name-test.true (c.loop-name.invariant g starts f)
    (record { next = c.in_ok-add.ensures.next; added = c.in_ok-add.ensures.added })

pub returns : goal.returns
returns c = λ g starts f.
    follows_all g starts c.args.names.now c.loop-name.name-index c.loop-name.walk (omega arith)
    (c.loop-name.invariant g starts f)
