-- What the builders tell the parser, argument by argument.
use Rattle.std.proofs.Common.{◌≡◌, ◌∙◌, ◌++◌, ◌∷◌, ◌||◌, [], ap, ap₂}
use Rattle.clap.specs.Built.{AddsArg, AddsSubcommand}
use Rattle.clap.specs.Simple.{App, Shape, app_of, with_subcommand}
use Rattle.clap.specs.Walk.{Rule}
use Rattle.clap.specs.declared.builder.arg.Arg.{Arg}
use Rattle.clap.specs.declared.builder.command.Command.{Command}
use Rattle.sp_words.specs.Requests.{IsArgument, IsCommand}

-- one argument more
pub one_rule_more : (old new : Command) (argument : Arg) (shape : Shape) (rule : Rule) → AddsArg old argument new → IsArgument rule argument → IsCommand shape old → IsCommand (record shape { rules = shape.rules ++ rule ∷ [] }) new
one_rule_more old new argument shape rule adds is command = (
  ap (λ (a : App). a.top) (adds.shape is.1) ∙ ap₂ (λ (s : Shape) (r : Rule). record s { rules = s.rules ++ r ∷ [] }) command.0 is.0,
  adds.globals ∙ ap₂ (λ x y. x || y) command.1 is.1,
)

-- one command more
pub one_command_more : (old new sub : Command) (app : App) (shape : Shape) → AddsSubcommand old sub new → IsCommand shape sub → app_of old ≡ app
    → app_of new ≡ with_subcommand app shape
one_command_more old new sub app shape adds command is = adds.shape command.1 ∙ ap₂ with_subcommand is command.0
