-- The command that clap is told of, as plain values.
use Rattle.std.specs.Prelude.{◌≡◌, true, false, [], ◌∷◌, Some, codes}
use Rattle.clap.specs.Words.{App, Rule, app_of, new_app, new_rule, with_rule, with_subcommand}
use Rattle.clap.specs.declared.builder.command.Command.{Command}
use Rattle.clap.specs.declared.builder.command.Command.TheViews.{out-Command}
use Rattle.clap.specs.declared.builder.action.ArgAction.TheVariants.{Set}
use Rattle.clap.specs.declared.builder.value_parser.ValueParser.TheVariants.{Unsigned}

-- `--helpers N`, N from 0 to 4, and 2 where it is left out
abbrev pub helpers_rule : Rule
helpers_rule = record (new_rule (codes "helpers")) {
  long = Some (codes "helpers");
  action = Some Set;
  parser = Some (Unsigned 0 4);
  defaults = codes "2" ∷ [];
}

-- `--markers M`, M 1 or 2, and 1 where it is left out
abbrev pub markers_rule : Rule
markers_rule = record (new_rule (codes "markers")) {
  long = Some (codes "markers");
  action = Some Set;
  parser = Some (Unsigned 1 2);
  defaults = codes "1" ∷ [];
}

-- SEED and LINES
abbrev pub seed_rule : Rule
seed_rule = record (new_rule (codes "seed")) {
  action = Some Set;
  parser = Some (Unsigned 0 2147483647);
  required = true;
}

abbrev pub lines_rule : Rule
lines_rule = record (new_rule (codes "lines")) {
  action = Some Set;
  parser = Some (Unsigned 1 1000000);
  required = true;
}

abbrev pub run : App
run = with_rule (with_rule (new_app (codes "run")) helpers_rule) markers_rule

abbrev pub storm : App
storm = with_rule (with_rule (with_rule (new_app (codes "storm")) seed_rule) lines_rule) helpers_rule

abbrev pub check : App
check = new_app (codes "check")

abbrev pub wants_subcommand : App → App
wants_subcommand a = record a { top = record a.top { subcommand_required = true } }

-- `gczone run [--helpers N] [--markers M]`, `gczone storm SEED LINES [--helpers N]`, `gczone check`
abbrev pub gczone : App
gczone =
    with_subcommand
    (with_subcommand (with_subcommand (wants_subcommand (new_app (codes "gczone"))) run.top) storm.top) check.top

-- clap's command is this one
pub record Tells (a : App) (c : Command) : Type 0 where
  pub app : app_of c ≡ a
  pub local : (out-Command c).has_globals ≡ false
