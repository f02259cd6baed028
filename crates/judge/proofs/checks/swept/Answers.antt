use Rattle.std.proofs.Common.{◌∙◌, ℕ, List, ap, drop, refl}
use Rattle.trace_lang.specs.Texts.{report_text}
use Rattle.judge.specs.Bounds.{tally_of, with_sweep}
use Rattle.judge.specs.Stages.{shown}
use Rattle.judge.specs.Whites.{whites_in}
use Rattle.judge.proofs.checks.swept.Goals as goal

pub returns-then-is_same-clause-right : goal.returns-then-is_same-clause-right
returns-then-is_same-clause-right c = (
  whites_in c.args.world.now.whites c.args.arena,
  c.is_same.ensures.0 c.if-is_same.true ∙ c.as_slice.ensures.value ∙ c.in_ok-due.ensures
      ∙ ap report_text c.swept_report-report.ensures,
  record {
    rest = c.requires.0;
    first = c.requires.1;
    freed_are = refl;
    clears = c.in_ok-sweep.ensures.clears;
    new_is = c.in_ok-sweep.ensures.same ∙ ap (λ (xs : List ℕ). record (shown c.args.world.now) {
      out = drop 1 xs;
      whites = c.sweep.new.self.whites;
      tally = with_sweep (tally_of c.args.world.now.tally);
    }) c.requires.1;
  },
)
