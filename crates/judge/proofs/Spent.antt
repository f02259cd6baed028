-- The units of a collection against the bound of the definitions.
use Rattle.std.proofs.Common.{◌≡◌, ◌∙◌, ℕ, ◌+◌, ◌<◌, ◌≤◌, ◌↔◌, List, ap, arith}
use Rattle.gz_names.specs.declared.replies.Report.{Report}
use Rattle.colour_defs.specs.Units.{MeetsUnitBound, Tally, sweeps_in, unit_limit}
use Rattle.judge.specs.Stages.{CountsAs, IsOverBound, KeepsBound, Shown, Stage, collecting, idle, is_prepared, limit_in}
use Rattle.judge.specs.Stages.{preparing}

-- once marking has begun, the limit is that of the definitions and the arenas that were swept since
limit_is : (m t : Tally) (reports : List Report) → m ≡ record t { sweeps = t.sweeps + sweeps_in reports }
    → unit_limit m ≡ unit_limit t + sweeps_in reports
limit_is m t reports is = ap unit_limit is ∙ omega arith

-- what is counted meets the bound exactly where what the definitions count does
meets : (s : Stage) (m t : Tally) (reports : List Report) (k : ℕ) → CountsAs (is_prepared s) m t reports
    → (m.spent + k ≤ limit_in s m) ↔ MeetsUnitBound (is_prepared s) t reports k
meets idle m t reports k is =
    let spent = ap (λ (x : Tally). x.spent) is in
    (λ h. omega (arith, h, spent, limit_is m t reports is), λ h. omega (arith, h, spent, limit_is m t reports is))
meets (preparing zones) m t reports k is = (λ h. omega (arith, h, is.0, is.1), λ h. omega (arith, h, is.0, is.1))
meets (collecting zones marking groups) m t reports k is =
    let spent = ap (λ (x : Tally). x.spent) is in
    (λ h. omega (arith, h, spent, limit_is m t reports is), λ h. omega (arith, h, spent, limit_is m t reports is))

pub keeps_bound : (s : Shown) (k : ℕ) → s.tally.spent + k ≤ limit_in s.stage s.tally → KeepsBound s k
keeps_bound s k fits = λ t reports is. (meets s.stage s.tally t reports k is).0 fits

pub over_bound : (s : Shown) (k : ℕ) → limit_in s.stage s.tally < s.tally.spent + k → IsOverBound s k
over_bound s k over = λ t reports is met.
    let fits = (meets s.stage s.tally t reports k is).1 met in omega (arith, fits, over)
