use Rattle.std.proofs.Common.{◌≡◌, ◌∙◌, [], replicate, ap, subst, sym}
use Rattle.mark_stack.specs.Stack.{no_places}
use Rattle.mark_stack.specs.declared.stack.Pile.TheVariants as pile
use Rattle.weak_maps.specs.WeakMaps.{NoneLeft}
use Rattle.weak_maps.specs.declared.colours.MarkColour.{MarkColour}
use Rattle.heap_core.specs.Heap.{HeapState}
use Rattle.heap_core.specs.contracts.heap.Heap.{the_view}
use Rattle.heap_core.proofs.heap.Heap.forget_waiting.Goals as goal
use Rattle.heap_core.proofs.heap.Heap.forget_waiting.Goals.{After-forget_delayed-3}

-- forgetting the piles changes nothing else
only_piles : (c : After-forget_delayed-3) → c.forget_delayed-3.new.self
    ≡ record (the_view (record c.self.inside { roots = c.clear.new.self; weak = c.forget.new.self })) {
      delayed = c.forget_delayed-3.new.self.delayed;
    }
only_piles c = c.forget_delayed-3.ensures.rest
    ∙ ap (λ (h : HeapState). record h { delayed = c.forget_delayed-3.new.self.delayed })
    (c.forget_delayed-2.ensures.rest
    ∙ ap (λ (h : HeapState). record h { delayed = c.forget_delayed-2.new.self.delayed }) c.forget_delayed.ensures.rest)

pub returns-clause-rest : goal.returns-clause-rest
returns-clause-rest c =
    let d = c.forget_delayed-3.new.self in
    let black : d.delayed.black ≡ [] = c.forget_delayed-3.ensures.others pile.Black (λ e. cc e)
    ∙ (c.forget_delayed-2.ensures.others pile.Black (λ e. cc e) ∙ c.forget_delayed.ensures.none) in
    let gray : d.delayed.gray ≡ [] = c.forget_delayed-3.ensures.others pile.Gray (λ e. cc e)
    ∙ c.forget_delayed-2.ensures.none in
    let wake : d.delayed.wake ≡ [] = c.forget_delayed-3.ensures.none in
    let none : d.delayed ≡ no_places = (λ j. record { black = black j; gray = gray j; wake = wake j }) in
    let looks : c.forget.new.self.looks ≡ d.looks = sym (ap (λ (h : HeapState). h.looks) (only_piles c)) in
    let was : HeapState = the_view c.self.inside in
    let before : record (the_view (record c.self.inside { roots = c.clear.new.self; weak = c.forget.new.self })) {
      delayed = d.delayed;
    } ≡ record was { buffers = replicate 64 []; looks = c.forget.new.self.looks; delayed = d.delayed } = (λ j.
    record was {
      shape = record was.shape {
        weak = c.forget.ensures.table j;
        regs = (c.clear.ensures j).regs;
        slots = (c.clear.ensures j).slots;
      };
      buffers = (c.clear.ensures j).buffers;
      looks = c.forget.new.self.looks;
      delayed = d.delayed;
    }) in
    let after : record was { buffers = replicate 64 []; looks = c.forget.new.self.looks; delayed = d.delayed }
    ≡ record was { buffers = replicate 64 []; looks = d.looks; delayed = no_places } = (λ j. record was {
      buffers = replicate 64 [];
      looks = looks j;
      delayed = none j;
    }) in
    only_piles c
    ∙ (before
    ∙ (after
    ∙ ap (λ (h : HeapState). record h { buffers = replicate 64 []; looks = d.looks; delayed = no_places })
    c.self.view_is))

pub returns-clause-none : goal.returns-clause-none
returns-clause-none c = subst (λ l. (colour : MarkColour) → NoneLeft colour l)
    (sym (ap (λ (h : HeapState). h.looks) (only_piles c))) c.forget.ensures.none
