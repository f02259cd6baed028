use Rattle.std.proofs.Common.{◌∙◌, ap}
use Rattle.heap_core.specs.Heap.{HeapState}
use Rattle.mark_stack.specs.Stack.{pile_of}
use Rattle.heap_core.proofs.Forgetting.{fewer_delayed, if_none, none_then, others_delayed}
use Rattle.heap_core.proofs.heap.Heap.forget_delayed.Goals as goal

pub loop-pile-smaller : goal.loop-pile-smaller
loop-pile-smaller c =
    fewer_delayed c.loop-pile.self.delayed c.next_delayed.new.self.delayed c.args.pile c.next_delayed.result
    c.next_delayed.ensures.some c.loop-pile-test.ensures

pub loop-pile-preserved : goal.loop-pile-preserved
loop-pile-preserved c = record {
  rest = c.next_delayed.ensures.rest
      ∙ ap (λ (h : HeapState). record h { delayed = c.next_delayed.new.self.delayed }) c.loop-pile.invariant.rest;
  others = λ other ne.
      others_delayed c.loop-pile.self.delayed c.next_delayed.new.self.delayed c.args.pile c.next_delayed.result
      c.next_delayed.ensures.some
      (if_none c.next_delayed.result c.next_delayed.ensures.none (λ n. ap (λ (h : HeapState). h.delayed) n.1)) other ne
      ∙ c.loop-pile.invariant.others other ne;
}

pub returns-clause-rest : goal.returns-clause-rest
returns-clause-rest c = c.next_delayed.ensures.rest
    ∙ ap (λ (h : HeapState). record h { delayed = c.next_delayed.new.self.delayed }) c.loop-pile.invariant.rest

pub returns-clause-none : goal.returns-clause-none
returns-clause-none c =
    let none = none_then c.next_delayed.result c.next_delayed.ensures.none c.loop-pile-test.ensures in
    ap (λ (h : HeapState). pile_of h.delayed c.args.pile) none.1 ∙ none.0

pub returns-clause-others : goal.returns-clause-others
returns-clause-others c = λ other ne.
    others_delayed c.loop-pile.self.delayed c.next_delayed.new.self.delayed c.args.pile c.next_delayed.result
    c.next_delayed.ensures.some
    (if_none c.next_delayed.result c.next_delayed.ensures.none (λ n. ap (λ (h : HeapState). h.delayed) n.1)) other ne
    ∙ c.loop-pile.invariant.others other ne
