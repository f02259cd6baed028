use Rattle.std.proofs.Common.{◌≡◌, ◌++◌, take, map}
use Rattle.gz_names.specs.declared.names.Name.TheVariants as name
use Rattle.slice_driver.specs.NameKeys.{wrapper_at}
use Rattle.slice_driver.proofs.name_keys.names_of_keys.Given as goal

abbrev pub invariant-loop-number : goal.invariant-loop-number
invariant-loop-number l = l.names.items ≡ map (λ n. name.Cell n) (take l.number-index l.cells)

abbrev pub invariant-wrappers : goal.invariant-wrappers
invariant-wrappers l = l.names.items ≡ map (λ n. name.Cell n) l.cells ++ map wrapper_at (take l.key-index l.wrappers)
