use Rattle.std.proofs.Common.{List, subst}
use Rattle.gz_names.specs.declared.names.Name.{Name}
use Rattle.plain_graph.specs.Reach.{IsDone}
use Rattle.judge.proofs.collection.Collection.start.Goals as goal

pub returns-clause-begun : goal.returns-clause-begun
returns-clause-begun c =
    let g = c.args.graph.now in record {
      black = c.in_ok-starts.starts.items;
      live = c.in_ok-starts-2.starts.items;
      black_are = c.in_ok-starts.ensures;
      live_are = c.in_ok-starts-2.ensures;
      black_done = subst (λ (ns : List Name). IsDone g ns c.in_ok-black.black) c.as_slice.ensures.value
          c.in_ok-black.ensures;
      live_done = subst (λ (ns : List Name). IsDone g ns c.in_ok-live.live) c.as_slice-2.ensures.value
          c.in_ok-live.ensures;
      woken = c.new.ensures.items;
    }
