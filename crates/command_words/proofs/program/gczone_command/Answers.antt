use Rattle.std.proofs.Common.{rules, ap, ap₂, ◌≡◌, ◌∙◌}
use Rattle.clap.specs.Simple.{app_of_fields}
use Rattle.clap.specs.Words.{App, app_of, with_subcommand}
use Rattle.command_words.specs.Program.{wants_subcommand}
use Rattle.command_words.proofs.program.gczone_command.Goals as goal

pub returns : goal.returns
returns c =
    let top = λ (a : App). a.top in
    let wants : app_of c.subcommand_required.result ≡ wants_subcommand (app_of c.new.result) =
    ap app_of_fields c.subcommand_required.ensures in
    record {
      app =
          c.in_ok-command.ensures.shape c.check_command.ensures.local ∙ ap₂ with_subcommand
          (c.in_ok-subcommand-2.ensures.shape c.in_ok-storm.ensures.local ∙ ap₂ with_subcommand
          (c.in_ok-subcommand.ensures.shape c.in_ok-run.ensures.local ∙ ap₂ with_subcommand
          (wants ∙ ap wants_subcommand c.new.ensures.app) (ap top c.in_ok-run.ensures.app))
          (ap top c.in_ok-storm.ensures.app)) (ap top c.check_command.ensures.app);
      local = search rules;
    }
