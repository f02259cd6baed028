use Rattle.std.proofs.Common.{◌++◌, ◌∙◌, ap, arith, map, List, ℕ}
use Rattle.std.proofs.lemmas.List.{take_all}
use Rattle.gz_names.specs.declared.names.Name.TheVariants as name
use Rattle.slice_driver.specs.NameKeys.{wrapper_at}
use Rattle.slice_driver.proofs.name_keys.names_of_keys.Goals as goal

pub returns : goal.returns
returns c = c.wrappers.invariant
    ∙ ap (λ (keys : List ℕ). map (λ n. name.Cell n) c.args.cells.now ++ map wrapper_at keys)
    (take_all c.wrappers.key-index c.args.wrappers.now (omega (arith, c.wrappers-test.false)))
