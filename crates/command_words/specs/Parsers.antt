-- What `clap` is told of each command.
use Rattle.std.specs.Prelude.{true, Some, codes}
use Rattle.clap.specs.Walk.{Rule, Text}
use Rattle.clap.specs.Simple.{App, new_app, new_rule, with_rule}
use Rattle.clap.specs.declared.builder.action.ArgAction.TheVariants.{Set}
use Rattle.clap.specs.declared.builder.value_parser.ValueParser.TheVariants as parsers

-- `--workers`, with a number from 1 to 16
abbrev pub workers_rule : Rule
workers_rule = record (new_rule (codes "workers")) {
  long = Some (codes "workers");
  action = Some Set;
  parser = Some (parsers.Unsigned 1 16);
}

-- a number from 1 to 10,000, which has to be given
abbrev pub submissions_rule : Rule
submissions_rule = record (new_rule (codes "submissions")) {
  action = Some Set;
  parser = Some (parsers.Unsigned 1 10000);
  required = true;
}

abbrev pub bare_app : Text → App
bare_app name = new_app name

abbrev pub turn_app : App
turn_app = with_rule (new_app (codes "turn")) workers_rule

abbrev pub make_app : App
make_app = with_rule (with_rule (new_app (codes "make")) submissions_rule) workers_rule
