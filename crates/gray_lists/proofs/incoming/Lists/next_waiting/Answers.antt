use Rattle.std.proofs.Common.{Option, Some, None, IfSome, IfNone}
use Rattle.gz_names.specs.declared.numbers.CompNo.{CompNo}
use Rattle.gray_lists.proofs.Headed.{headed-waits, headless-empty}
use Rattle.gray_lists.proofs.incoming.Lists.next_waiting.Goals as goal

on_some : (o : Option CompNo) (P Q : CompNo → Type 0) → IfSome o P → ((x : CompNo) → P x → Q x) → IfSome o Q
on_some None P Q h f = h
on_some (Some x) P Q h f = f x h

on_none : (o : Option CompNo) (P Q : Type 0) → IfNone o P → (P → Q) → IfNone o Q
on_none None P Q h f = f h
on_none (Some x) P Q h f = h

pub returns-clause-some : goal.returns-clause-some
returns-clause-some c = rw (← c.self.view_is)
    (on_some c.first_from.result _ _ c.first_from.ensures.some
    (λ x h. (
      h.0,
      headed-waits _ _ _ _ _ c.self.inside.waiting.words x.0 c.self.invariant.0.links c.self.invariant.1
          h.1,
    )))

pub returns-clause-between : goal.returns-clause-between
returns-clause-between c = rw (← c.self.view_is)
    (on_some c.first_from.result _ _ c.first_from.ensures.between
    (λ x h n from below. headless-empty _ _ c.self.inside.waiting.words n c.self.invariant.1 (h n from below)))

pub returns-clause-none : goal.returns-clause-none
returns-clause-none c = rw (← c.self.view_is)
    (on_none c.first_from.result _ _ c.first_from.ensures.none
    (λ h n from. headless-empty _ _ c.self.inside.waiting.words n c.self.invariant.1 (h n from)))
