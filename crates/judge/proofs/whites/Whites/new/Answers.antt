use Rattle.std.proofs.Common.{ℕ, List, ap}
use Rattle.std.specs.BTreeMap as tree
use Rattle.std.specs.Map.{lookup}
use Rattle.std.specs.Ordering.{nat_cmp}
use Rattle.gz_names.specs.declared.names.Name.{Name}
use Rattle.judge.specs.Whites.{names_or_none}
use Rattle.judge.proofs.whites.Whites.new.Goals as goal

pub returns : goal.returns
returns c = λ arena.
    ap (λ (es : List (ℕ × List Name)). names_or_none (lookup (tree.is_at (nat_cmp arena)) es)) c.new.ensures.empty
