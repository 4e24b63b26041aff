-- The definition of the command line, computed at arguments that are written out.
use Rattle.std.proofs.Common.{◌≡◌, ◌∷◌, [], ℕ, List, Option, Some, None, codes, option_map, refl}
use Rattle.clap.proofs.OnLiterals.{clap_on_literals}
use Rattle.clap.specs.Faults.{fault_of}
use Rattle.clap.specs.Simple.{subcommand_of}
use Rattle.clap.specs.Walk.{Row, all_of, first_of}
use Rattle.clap.specs.declared.error.kind.ErrorKind.TheVariants.{ArgumentConflict, DisplayHelp, DisplayVersion, MissingRequiredArgument, UnknownArgument}
use Rattle.sp_words.specs.CommandLine.{program}

-- what stands in an index, if it is a run
abbrev index : List ℕ → Option (List ℕ × List Row) → Option (Option (List ℕ))
index id = option_map (λ found. first_of id found.1)

abbrev arguments : Option (List ℕ × List Row) → Option (Option (List (List ℕ)))
arguments = option_map (λ found. all_of (codes "arguments") found.1)

-- `rmispace run box T f(I)I 4 --fuel 38`
abbrev sum : List (List ℕ)
sum = codes "rmispace" ∷ codes "run" ∷ codes "box" ∷ codes "T" ∷ codes "f(I)I" ∷ codes "4" ∷ codes "--fuel" ∷ codes "38" ∷ []

pub sum_is_taken : fault_of program sum ≡ []
unfolding clap_on_literals
sum_is_taken = refl

pub sum_has_a_folder : index (codes "folder") (subcommand_of program sum) ≡ Some (Some (codes "box"))
unfolding clap_on_literals
sum_has_a_folder = refl

pub sum_has_a_class : index (codes "class") (subcommand_of program sum) ≡ Some (Some (codes "T"))
unfolding clap_on_literals
sum_has_a_class = refl

pub sum_has_a_method : index (codes "method") (subcommand_of program sum) ≡ Some (Some (codes "f(I)I"))
unfolding clap_on_literals
sum_has_a_method = refl

pub sum_has_an_argument : arguments (subcommand_of program sum) ≡ Some (Some (codes "4" ∷ []))
unfolding clap_on_literals
sum_has_an_argument = refl

pub sum_has_fuel : index (codes "fuel") (subcommand_of program sum) ≡ Some (Some (codes "38"))
unfolding clap_on_literals
sum_has_fuel = refl

-- `rmispace run --fuel=6 box T f(I)I -- -1 [2]`: negative numbers follow `--`
abbrev negative : List (List ℕ)
negative = codes "rmispace" ∷ codes "run" ∷ codes "--fuel=6" ∷ codes "box" ∷ codes "T" ∷ codes "f(I)I" ∷ codes "--" ∷ codes "-1" ∷ codes "[2]" ∷ []

pub negative_is_taken : fault_of program negative ≡ []
unfolding clap_on_literals
negative_is_taken = refl

pub negative_has_arguments : arguments (subcommand_of program negative) ≡ Some (Some (codes "-1" ∷ codes "[2]" ∷ []))
unfolding clap_on_literals
negative_has_arguments = refl

-- `rmispace run box T f(I)I`: neither arguments nor fuel
abbrev bare : List (List ℕ)
bare = codes "rmispace" ∷ codes "run" ∷ codes "box" ∷ codes "T" ∷ codes "f(I)I" ∷ []

pub bare_is_taken : fault_of program bare ≡ []
unfolding clap_on_literals
bare_is_taken = refl

pub bare_has_no_fuel : index (codes "fuel") (subcommand_of program bare) ≡ Some None
unfolding clap_on_literals
bare_has_no_fuel = refl

-- arguments that ask for no run
pub a_word_is_missing : fault_of program (codes "rmispace" ∷ codes "run" ∷ codes "box" ∷ codes "T" ∷ []) ≡ MissingRequiredArgument ∷ []
unfolding clap_on_literals
a_word_is_missing = refl

pub fuel_is_said_once : fault_of program (codes "rmispace" ∷ codes "run" ∷ codes "box" ∷ codes "T" ∷ codes "f(I)I" ∷ codes "--fuel" ∷ codes "1" ∷ codes "--fuel" ∷ codes "2" ∷ [])
    ≡ ArgumentConflict ∷ []
unfolding clap_on_literals
fuel_is_said_once = refl

pub a_hyphen_is_no_number : fault_of program (codes "rmispace" ∷ codes "run" ∷ codes "box" ∷ codes "T" ∷ codes "f(I)I" ∷ codes "-1" ∷ []) ≡ UnknownArgument ∷ []
unfolding clap_on_literals
a_hyphen_is_no_number = refl

pub help_is_asked : fault_of program (codes "rmispace" ∷ codes "--help" ∷ []) ≡ DisplayHelp ∷ []
unfolding clap_on_literals
help_is_asked = refl

pub help_on_run_is_asked : fault_of program (codes "rmispace" ∷ codes "run" ∷ codes "--help" ∷ []) ≡ DisplayHelp ∷ []
unfolding clap_on_literals
help_on_run_is_asked = refl

pub the_version_is_asked : fault_of program (codes "rmispace" ∷ codes "--version" ∷ []) ≡ DisplayVersion ∷ []
unfolding clap_on_literals
the_version_is_asked = refl
