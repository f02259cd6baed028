use Rattle.std.proofs.Common.{◌∙◌, ap, sym, refl, rules}
use Rattle.std.specs.Result.{result_ok}
use Rattle.std.proofs.lemmas.List.Sorted.{answers_always}
use Rattle.cell_bits.proofs.Ascending.{found}
use Rattle.cell_bits.proofs.jobs.find_job.Goals as goal

pub returns-in-Ok : goal.returns-in-Ok
returns-in-Ok c =
    let facts = c.binary_search_by_key.ensures in
    sym (found c.args.jobs.now c.requires c.args.arena _ _ refl facts.bound
    (facts.position (λ job. job.arena) (answers_always _ _ _ (λ f a r g called. search rules)))
    ∙ ap result_ok c.in-Ok.is)

pub returns-in-Err : goal.returns-in-Err
returns-in-Err c =
    let facts = c.binary_search_by_key.ensures in
    sym (found c.args.jobs.now c.requires c.args.arena _ _ refl facts.bound
    (facts.position (λ job. job.arena) (answers_always _ _ _ (λ f a r g called. search rules)))
    ∙ ap result_ok c.in-Err.is)
