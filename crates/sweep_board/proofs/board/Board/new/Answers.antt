use Rattle.std.proofs.Common.{List, [], ℕ, ◌+◌, ◌*◌, sym, subst, ap, length, ◌∙◌}
use Rattle.atomic_table.specs.Table.{opening}
use Rattle.cell_bits.specs.declared.jobs.Job.{Job}
use Rattle.sweep_board.specs.Rule.{BoardRule}
use Rattle.sweep_board.specs.Views.{main_view}
use Rattle.sweep_board.proofs.board.Board.new.Goals as goal

pub of_words-requires : goal.of_words-requires
of_words-requires c =
    subst (λ (ws : List ℕ). BoardRule c.in_ok-jobs.jobs.items (opening ws [] (main_view c.in_ok-jobs.jobs.items)))
    (sym c.deref.ensures.value)
    (subst (λ (js : List Job). BoardRule js (opening c.in_ok-words.words.items [] (main_view js)))
    (sym c.in_ok-jobs.ensures.items) c.in_ok-words.ensures)

pub invariant_of-result-clause-sized : goal.invariant_of-result-clause-sized
invariant_of-result-clause-sized c =
    c.in_ok-table.ensures.0 ∙ ap length c.deref.ensures.value ∙ c.in_ok-words.ensures.sized
    ∙ ap (λ (js : List Job). 4 * length js + 1) (sym c.in_ok-jobs.ensures.items)
