use Rattle.std.proofs.Common.{◌++◌, List, subst}
use Rattle.gz_names.specs.declared.names.Name.{Name}
use Rattle.plain_graph.specs.Reach.{IsDone}
use Rattle.judge.proofs.collection.Collection.catch_up.Goals as goal

pub returns-clause-walks : goal.returns-clause-walks
returns-clause-walks c = record {
  black = λ starts f.
      subst (λ (xs : List Name). IsDone c.args.former.now (starts ++ xs) c.follow_all.new.walk) c.as_slice.ensures.value
      (c.in_ok-follow_all.ensures starts f);
  live = λ starts f.
      subst (λ (xs : List Name). IsDone c.args.former.now (starts ++ xs) c.follow_all-2.new.walk)
      c.as_slice-2.ensures.value (c.in_ok-follow_all-2.ensures starts f);
  woken = c.clear.ensures.items;
}
