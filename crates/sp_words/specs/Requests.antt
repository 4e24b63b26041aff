-- What the program makes of its arguments: a request for what they ask. (This project's own.)
use Rattle.std.specs.Prelude.{◌≡◌, ◌≢◌, ◌⊎◌, ℕ, List, false, Option, Some, codes}
use Rattle.clap.specs.Simple.{Shape, shape_of}
use Rattle.clap.specs.Walk.{Row, Rule, first_of, rule_of}
use Rattle.clap.specs.declared.builder.arg.Arg.{Arg}
use Rattle.clap.specs.declared.builder.command.Command.{Command}
use Rattle.clap.specs.declared.builder.command.Command.TheViews.{out-Command}
use Rattle.clap.specs.declared.error.kind.ErrorKind.{ErrorKind}
use Rattle.clap.specs.declared.error.kind.ErrorKind.TheVariants.{DisplayHelp, DisplayVersion, OutOfMemory}
use Rattle.sp_words.specs.CommandLine.{AreRunWords, AreSimWords, AsksCheck, AsksRun, AsksSim, AsksText, IsUsageFault, RunWords, SimWords}
use Rattle.sp_words.specs.declared.words.Request.{Request}
use Rattle.sp_words.specs.declared.words.Request.TheVariants.{Run, Check, Sim, Tell, Refuse}
use Rattle.sp_words.specs.declared.words.RunRequest.{RunRequest}
use Rattle.sp_words.specs.declared.words.SimRequest.{SimRequest}

-- what a request asks for
abbrev pub run_words : RunRequest → RunWords
run_words request = record {
  folder = request.folder.now;
  class = request.class.now;
  method = request.method.now;
  arguments = request.arguments.items;
  fuel = request.fuel;
}

abbrev pub sim_words : SimRequest → SimWords
sim_words request = record { folder = request.folder.now; script = request.script.now }

-- the request is what the arguments ask for
abbrev pub IsRequest : List (List ℕ) → Request → Type 0
IsRequest words (Run request) = AsksRun words (run_words request)
IsRequest words (Check folder) = AsksCheck words folder.now
IsRequest words (Sim request) = AsksSim words (sim_words request)
IsRequest words (Tell text) = AsksText words
IsRequest words (Refuse text) = IsUsageFault words

-- the request is what the arguments after `run` ask for
abbrev pub IsRunRequest : List Row → Request → Type 0
IsRunRequest rows (Run request) = AreRunWords rows (run_words request)
IsRunRequest rows (Check folder) = ⊥
IsRunRequest rows (Sim request) = ⊥
IsRunRequest rows (Tell text) = ⊥
IsRunRequest rows (Refuse text) = (run : RunWords) → AreRunWords rows run → ⊥

-- the request is what the arguments after `check` ask for
abbrev pub IsCheckRequest : List Row → Request → Type 0
IsCheckRequest rows (Run request) = ⊥
IsCheckRequest rows (Check folder) = first_of (codes "folder") rows ≡ Some folder.now
IsCheckRequest rows (Sim request) = ⊥
IsCheckRequest rows (Tell text) = ⊥
IsCheckRequest rows (Refuse text) = (folder : List ℕ) → first_of (codes "folder") rows ≡ Some folder → ⊥

-- the request is what the arguments after `sim` ask for
abbrev pub IsSimRequest : List Row → Request → Type 0
IsSimRequest rows (Run request) = ⊥
IsSimRequest rows (Check folder) = ⊥
IsSimRequest rows (Sim request) = AreSimWords rows (sim_words request)
IsSimRequest rows (Tell text) = ⊥
IsSimRequest rows (Refuse text) = (sim : SimWords) → AreSimWords rows sim → ⊥

-- what the parser found: a command, and the arguments after it
abbrev pub Found : Type 0
Found = Option (List ℕ × List Row)

-- the parser found the command of this name
abbrev pub IsFound : List ℕ → Found → Type 0
IsFound name found = (rows : List Row) × (found ≡ Some (name, rows))

-- the parser found one of the commands
abbrev pub IsCommandFound : Found → Type 0
IsCommandFound found = IsFound (codes "run") found ⊎ (IsFound (codes "check") found ⊎ IsFound (codes "sim") found)

-- the request is what arguments ask for in which the parser found this command
pub data IsAsked (found : Found) (request : Request) : Type 0 where
  run : (rows : List Row) → found ≡ Some (codes "run", rows) → IsRunRequest rows request → IsAsked found request
  check : (rows : List Row) → found ≡ Some (codes "check", rows) → IsCheckRequest rows request → IsAsked found request
  sim : (rows : List Row) → found ≡ Some (codes "sim", rows) → IsSimRequest rows request → IsAsked found request

-- the request is what arguments ask for in which the parser found this fault
abbrev pub IsUnasked : ErrorKind → Request → Type 0
IsUnasked kind (Run request) = ⊥
IsUnasked kind (Check folder) = ⊥
IsUnasked kind (Sim request) = ⊥
IsUnasked kind (Tell text) = (kind ≡ DisplayHelp) ⊎ (kind ≡ DisplayVersion)
IsUnasked kind (Refuse text) = (kind ≢ OutOfMemory) × (kind ≢ DisplayHelp) × (kind ≢ DisplayVersion)

abbrev pub IsRefusing : Request → Type 0
IsRefusing (Run request) = ⊥
IsRefusing (Check folder) = ⊥
IsRefusing (Sim request) = ⊥
IsRefusing (Tell text) = ⊥
IsRefusing (Refuse text) = Unit {0}

-- a command is told to the parser in this way
abbrev pub IsCommand : Shape → Command → Type 0
IsCommand shape command = (shape_of command ≡ shape) × ((out-Command command).has_globals ≡ false)

-- an argument of this command alone is told to the parser in this way
abbrev pub IsArgument : Rule → Arg → Type 0
IsArgument rule argument = (rule_of argument ≡ rule) × (argument.global ≡ false)
