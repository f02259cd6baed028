use Rattle.std.proofs.Common.{◌≡◌, inl, inr, List, Contains, Some}
use Rattle.std.proofs.lemmas.Result.{on_ok_weaker}
use Rattle.gz_names.specs.declared.names.Name.{Name}
use Rattle.colour_defs.specs.Graph.{GraphState, value_of}
use Rattle.colour_defs.specs.Closure.{HasEdge, along}
use Rattle.plain_graph.specs.Reach.{Adds, Keeps, Visits, Waits}
use Rattle.plain_graph.proofs.Walks.{extends_has, extends_more, has_delegate_more, keeps_less}
use Rattle.plain_graph.proofs.reach.Walk.visit.Goals as goal

-- a visit: what a name leads to, and what entries keep that wait for it
visit_made : (g : GraphState) (x : Name) (pairs : List (Name × Name)) (old mid new : List Name) → Contains old x
    → Adds old mid (HasEdge g x) → Keeps g (λ m k. Contains pairs (m, k)) mid new
    → ((m k v : Name) → value_of g m k ≡ Some v → Waits x m k → Contains pairs (m, k)) → Visits g x old new
visit_made g x pairs old mid new here a b listed =
    let less = keeps_less g (λ m k. Contains pairs (m, k)) (Waits x) mid new b (λ m k v w at. listed m k v at w) in
    record {
      entries = record {
        extends = extends_more old mid new a.extends b.extends;
        values = λ m k v w at cm ck.
            less.values m k v w at (extends_has old mid m a.extends cm) (extends_has old mid k a.extends ck);
        keys = λ m k v w at cm d.
            less.keys m k v w at (extends_has old mid m a.extends cm) (has_delegate_more old mid k a.extends d);
        sound = λ starts r. b.sound starts
            (λ y c. elim (a.only y c) [ inl o ↦ r y o | inr e ↦ along (r x here) e ]);
      };
      edges = λ y e. extends_has mid new y b.extends (a.all y e);
    }

pub returns-clause-visited : goal.returns-clause-visited
returns-clause-visited c =
    on_ok_weaker c.add_all_kept.result (λ k. visit_made c.args.graph.now c.args.name c.waiting_for.result.now
    c.args.self.now.names c.add_ends.new.self.names c.add_all_kept.new.self.names c.requires
    c.in_ok-add_ends.ensures.added k c.waiting_for.ensures) c.add_all_kept.ensures.kept
