use Rattle.std.proofs.Common.{◌∙◌, ap, refl}
use Rattle.mark_stack.specs.Stack.{Piles}
use Rattle.gray_lists.specs.Incoming.{Incoming, list_of}
use Rattle.slice_driver.specs.Represents.{going}
use Rattle.slice_driver.proofs.beginning.Starting.{empty_viewed, no_buffer, no_entries, none_pending}
use Rattle.slice_driver.proofs.beginning.Starting.{represents_first}
use Rattle.slice_driver.proofs.collector.Collector.new.Goals as goal

pub returns-clause-first : goal.returns-clause-first
returns-clause-first c =
    let heap = c.in_ok-new.field-0 in
    let stack = none_pending heap c.in_ok-new-2.field-0 c.in_ok-new.ensures.empty c.in_ok-new-2.ensures in
    going (represents_first _ (empty_viewed heap c.in_ok-new.ensures.empty) c.entries_law.ensures.sound
    (ap (λ (p : Piles). p.black) stack) (ap (λ (p : Piles). p.gray) stack) (ap (λ (p : Piles). p.wake) stack)
    (λ n. ap (λ (l : Incoming). list_of l n) c.new-3.ensures ∙ no_buffer 256 n) refl)

pub returns-clause-entries : goal.returns-clause-entries
returns-clause-entries c = no_entries c.in_ok-new.field-0.shape.weak.entries c.in_ok-new.ensures.empty.entries
