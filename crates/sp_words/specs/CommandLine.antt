-- The command line: what its parser is told, and what arguments ask for. (This project's own.)
use Rattle.std.specs.Prelude.{◌≡◌, ◌≢◌, ◌⊎◌, ◌<◌, ◌^◌, ◌∷◌, [], ℕ, true, false, List, Option, Some, None, codes, unwrap_or}
use Rattle.std.specs.List.{AllZip}
use Rattle.std.specs.Str.Parse.{IsNumeral, digits_value}
use Rattle.clap.specs.Faults.{fault_of}
use Rattle.clap.specs.Kinds.{IsAmong}
use Rattle.clap.specs.Lexer.{usize_max}
use Rattle.clap.specs.Simple.{App, Shape, new_rule, new_shape, subcommand_of}
use Rattle.clap.specs.Walk.{Row, Rule, all_of, first_of}
use Rattle.clap.specs.declared.builder.action.ArgAction.TheVariants.{Append}
use Rattle.clap.specs.declared.error.kind.ErrorKind.{ErrorKind}
use Rattle.clap.specs.declared.error.kind.ErrorKind.TheVariants.{DisplayHelp, DisplayVersion}
use Rattle.space_ids.specs.declared.value.Value.{Value}
use Rattle.sp_arguments.specs.Arguments.{Spells}

-- an argument that has to be there
abbrev pub wanted_rule : List ℕ → Rule
wanted_rule id = record (new_rule id) { value_names = 1; required = true }

-- any number of arguments
abbrev pub arguments_rule : Rule
arguments_rule = record (new_rule (codes "arguments")) {
  value_names = 1;
  action = Some Append;
  range = Some (record { start_inclusive = 0; end_inclusive = usize_max });
}

-- `--fuel N`
abbrev pub fuel_rule : Rule
fuel_rule = record (new_rule (codes "fuel")) { long = Some (codes "fuel"); value_names = 1 }

-- `run FOLDER CLASS METHOD [ARGUMENT..] [--fuel N]`
abbrev pub run_shape : Shape
run_shape = record (new_shape (codes "run")) {
  rules = wanted_rule (codes "folder") ∷ wanted_rule (codes "class") ∷ wanted_rule (codes "method") ∷ arguments_rule ∷ fuel_rule ∷ [];
}

-- `check FOLDER`
abbrev pub check_shape : Shape
check_shape = record (new_shape (codes "check")) { rules = wanted_rule (codes "folder") ∷ [] }

-- `sim FOLDER SCRIPT`
abbrev pub sim_shape : Shape
sim_shape = record (new_shape (codes "sim")) { rules = wanted_rule (codes "folder") ∷ wanted_rule (codes "script") ∷ [] }

abbrev pub program_shape : Shape
program_shape = record (new_shape (codes "rmispace")) {
  is_leaf = false;
  has_version = true;
  subcommand_required = true;
  disable_help_subcommand = true;
}

-- the program and its commands
abbrev pub program : App
program = record { top = program_shape; subs = run_shape ∷ check_shape ∷ sim_shape ∷ [] }

-- what a run asks for
pub record RunWords : Type 0 where
  pub folder : List ℕ
  pub class : List ℕ
  pub method : List ℕ
  pub arguments : List Value
  pub fuel : Option ℕ

-- the fuel that an argument stands for: digits alone, of a number below 2^63
abbrev pub IsFuel : List ℕ → ℕ → Type 0
IsFuel word n = IsNumeral 10 word × (digits_value 10 word < 2 ^ 63) × (n ≡ digits_value 10 word)

-- the fuel, if an argument says it
abbrev pub IsSaidFuel : Option (List ℕ) → Option ℕ → Type 0
IsSaidFuel None fuel = fuel ≡ None
IsSaidFuel (Some word) (Some n) = IsFuel word n
IsSaidFuel (Some word) None = ⊥

-- the arguments after `run`, each by its name
pub record AreRunWords (rows : List Row) (run : RunWords) : Type 0 where
  pub folder : first_of (codes "folder") rows ≡ Some run.folder
  pub class : first_of (codes "class") rows ≡ Some run.class
  pub method : first_of (codes "method") rows ≡ Some run.method
  pub arguments : AllZip Spells (unwrap_or (all_of (codes "arguments") rows) []) run.arguments
  pub fuel : IsSaidFuel (first_of (codes "fuel") rows) run.fuel

-- the arguments ask for a run
pub record AsksRun (words : List (List ℕ)) (run : RunWords) : Type 0 where
  pub taken : fault_of program words ≡ []
  pub rows : List Row
  pub command : subcommand_of program words ≡ Some (codes "run", rows)
  pub asked : AreRunWords rows run

-- the arguments ask for a check of the class files of a folder
pub record AsksCheck (words : List (List ℕ)) (folder : List ℕ) : Type 0 where
  pub taken : fault_of program words ≡ []
  pub rows : List Row
  pub command : subcommand_of program words ≡ Some (codes "check", rows)
  pub asked : first_of (codes "folder") rows ≡ Some folder

-- what a script is played of: the folder of its classes, and the path of the script
pub record SimWords : Type 0 where
  pub folder : List ℕ
  pub script : List ℕ

-- the arguments after `sim`, each by its name
pub record AreSimWords (rows : List Row) (sim : SimWords) : Type 0 where
  pub folder : first_of (codes "folder") rows ≡ Some sim.folder
  pub script : first_of (codes "script") rows ≡ Some sim.script

-- the arguments ask for a script to be played
pub record AsksSim (words : List (List ℕ)) (sim : SimWords) : Type 0 where
  pub taken : fault_of program words ≡ []
  pub rows : List Row
  pub command : subcommand_of program words ≡ Some (codes "sim", rows)
  pub asked : AreSimWords rows sim

-- the arguments ask for help, or for the version
abbrev pub AsksText : List (List ℕ) → Type 0
AsksText words = IsAmong DisplayHelp (fault_of program words) ⊎ IsAmong DisplayVersion (fault_of program words)

-- why nothing is done for arguments: they do not parse, or they name no values or no fuel
pub data IsUsageFault (words : List (List ℕ)) : Type 0 where
  mistaken : (kind : ErrorKind) → IsAmong kind (fault_of program words) → kind ≢ DisplayHelp → kind ≢ DisplayVersion → IsUsageFault words
  senseless : fault_of program words ≡ [] → ((run : RunWords) → AsksRun words run → ⊥) → ((folder : List ℕ) → AsksCheck words folder → ⊥)
      → ((sim : SimWords) → AsksSim words sim → ⊥) → IsUsageFault words
