-- What words ask for, by what the parser answers to them.
use Rattle.std.proofs.Common.{◌≡◌, ◌∙◌, ℕ, List, [], true, Some, Result, Ok, Err, IfOk, codes, inl, inr, ap, sym, subst, refl, None, arith, length, slice_index}
use Rattle.clap.proofs.OnLiterals.{clap_on_literals}
use Rattle.clap.specs.Faults.{fault_of, is_simple_and_free}
use Rattle.clap.specs.Kinds.{HasKind, IsAmong}
use Rattle.clap.specs.Simple.{App, HasMatchesOf, app_of, is_simple, subcommand_of, subcommand_rows_of}
use Rattle.clap.specs.Values.{kind_of}
use Rattle.clap.specs.Walk.{Row, first_of}
use Rattle.clap.specs.declared.builder.command.Command.{Command}
use Rattle.clap.specs.declared.error.Error.{Error}
use Rattle.clap.specs.declared.error.kind.ErrorKind.{ErrorKind}
use Rattle.clap.specs.declared.error.kind.ErrorKind.TheVariants.{DisplayHelp, DisplayVersion, OutOfMemory}
use Rattle.clap.specs.declared.parser.matches.ArgMatches.{ArgMatches}
use Rattle.sp_words.specs.CommandLine.{AreRunWords, AreSimWords, mistaken, program, senseless}
use Rattle.sp_words.specs.Requests.{Found, IsAsked, IsCommandFound, IsRequest, IsUnasked, check, run, sim}
use Rattle.sp_words.proofs.Commands.{Enters, IsCommandName, taken_enters}
use Rattle.sp_words.specs.declared.words.Request.{Request}
use Rattle.sp_words.specs.declared.words.Request.TheVariants.{Run, Check, Sim, Tell, Refuse}

-- the program is a command of which the parser's answer is known
program_is_simple : is_simple program ≡ true
unfolding clap_on_literals
program_is_simple = refl

program_is_free : is_simple_and_free program ≡ true
unfolding clap_on_literals
program_is_free = refl

-- the name and the words of what was found
abbrev name_found : Found → List ℕ
name_found None = []
name_found (Some command) = command.0

abbrev rows_found : Found → List Row
rows_found None = []
rows_found (Some command) = command.1

-- the words after one command
same_rows : (found : Found) (name : List ℕ) (rows others : List Row) → found ≡ Some (name, rows) → found ≡ Some (name, others) → rows ≡ others
same_rows found name rows others is other = sym (ap rows_found is) ∙ ap rows_found other

-- `run` is not `check`, nor is `sim`, and `run` is not `sim`
no_check : (found : Found) (rows others : List Row) → found ≡ Some (codes "run", rows) → found ≡ Some (codes "check", others) → ⊥
no_check found rows others is other =
    let bad : codes "run" ≡ codes "check" = sym (ap name_found is) ∙ ap name_found other in
    let lengths : 3 ≡ 5 = ap (λ (name : List ℕ). length name) bad in
    absurd (omega (arith, lengths))

no_check_of_sim : (found : Found) (rows others : List Row) → found ≡ Some (codes "sim", rows) → found ≡ Some (codes "check", others) → ⊥
no_check_of_sim found rows others is other =
    let bad : codes "sim" ≡ codes "check" = sym (ap name_found is) ∙ ap name_found other in
    let lengths : 3 ≡ 5 = ap (λ (name : List ℕ). length name) bad in
    absurd (omega (arith, lengths))

no_sim : (found : Found) (rows others : List Row) → found ≡ Some (codes "run", rows) → found ≡ Some (codes "sim", others) → ⊥
no_sim found rows others is other =
    let bad : codes "run" ≡ codes "sim" = sym (ap name_found is) ∙ ap name_found other in
    let first : 114 ≡ 115 = ap (λ (name : List ℕ). slice_index name 0) bad in
    absurd (omega (arith, first))

asked_request : (words : List (List ℕ)) (found : Found) (request : Request) → fault_of program words ≡ [] → found ≡ subcommand_of program words
    → IsAsked found request → IsRequest words request
asked_request words found (Run request) taken is (run rows command asked) = record { taken = taken; rows = rows; command = sym is ∙ command; asked = asked }
asked_request words found (Run request) taken is (check rows command asked) = absurd asked
asked_request words found (Run request) taken is (sim rows command asked) = absurd asked
asked_request words found (Sim request) taken is (run rows command asked) = absurd asked
asked_request words found (Sim request) taken is (check rows command asked) = absurd asked
asked_request words found (Sim request) taken is (sim rows command asked) = record { taken = taken; rows = rows; command = sym is ∙ command; asked = asked }
asked_request words found (Check folder) taken is (sim rows command asked) = absurd asked
asked_request words found (Tell text) taken is (sim rows command asked) = absurd asked
asked_request words found (Check folder) taken is (run rows command asked) = absurd asked
asked_request words found (Check folder) taken is (check rows command asked) = record { taken = taken; rows = rows; command = sym is ∙ command; asked = asked }
asked_request words found (Tell text) taken is (run rows command asked) = absurd asked
asked_request words found (Tell text) taken is (check rows command asked) = absurd asked
asked_request words found (Refuse text) taken is (run rows command asked) =
    senseless taken
    (λ wanted asks. asked wanted (subst (λ (r : List Row). AreRunWords r wanted) (same_rows found (codes "run") asks.rows rows (is ∙ asks.command) command) asks.asked))
    (λ folder asks. no_check found rows asks.rows command (is ∙ asks.command))
    (λ wanted asks. no_sim found rows asks.rows command (is ∙ asks.command))
asked_request words found (Refuse text) taken is (check rows command asked) =
    senseless taken
    (λ wanted asks. no_check found asks.rows rows (is ∙ asks.command) command)
    (λ folder asks. asked folder (subst (λ (r : List Row). first_of (codes "folder") r ≡ Some folder) (same_rows found (codes "check") asks.rows rows (is ∙ asks.command) command) asks.asked))
    (λ wanted asks. no_check_of_sim found asks.rows rows (is ∙ asks.command) command)
asked_request words found (Refuse text) taken is (sim rows command asked) =
    senseless taken
    (λ wanted asks. no_sim found asks.rows rows (is ∙ asks.command) command)
    (λ folder asks. no_check_of_sim found rows asks.rows command (is ∙ asks.command))
    (λ wanted asks. asked wanted (subst (λ (r : List Row). AreSimWords r wanted) (same_rows found (codes "sim") asks.rows rows (is ∙ asks.command) command) asks.asked))

-- the parser takes the words
pub taken_words : {E : Type 0} (words : List (List ℕ)) (command : Command) (matches : ArgMatches) (answer : Result Request E) → app_of command ≡ program
    → HasMatchesOf (app_of command) words matches → (is_simple_and_free (app_of command) ≡ true → fault_of (app_of command) words ≡ [])
    → IfOk answer (IsAsked (subcommand_rows_of matches)) → IfOk answer (IsRequest words)
taken_words words command matches (Err e) is matched taken asked = tt
taken_words words command matches (Ok request) is matched taken asked =
    asked_request words (subcommand_rows_of matches) request (sym (ap (λ (a : App). fault_of a words) is) ∙ taken (ap is_simple_and_free is ∙ program_is_free))
    ((matched (ap is_simple is ∙ program_is_simple)).1 ∙ ap (λ (a : App). subcommand_of a words) is) asked

-- the parser that takes the words found a command
pub command_found : (words : List (List ℕ)) (command : Command) (matches : ArgMatches) → app_of command ≡ program → HasMatchesOf (app_of command) words matches
    → (is_simple_and_free (app_of command) ≡ true → fault_of (app_of command) words ≡ []) → IsCommandFound (subcommand_rows_of matches)
command_found words command matches is matched taken =
    let begun : Enters words = taken_enters words (sym (ap (λ (a : App). fault_of a words) is) ∙ taken (ap is_simple_and_free is ∙ program_is_free)) in
    let found : subcommand_rows_of matches ≡ subcommand_of program words = (matched (ap is_simple is ∙ program_is_simple)).1 ∙ ap (λ (a : App). subcommand_of a words) is in
    on begun.name begun.rows begun.is (found ∙ begun.enters)
  where
    on : (name : List ℕ) (rows : List Row) → IsCommandName name → subcommand_rows_of matches ≡ Some (name, rows) → IsCommandFound (subcommand_rows_of matches)
    on name rows (inl same) found = inl (rows, found ∙ ap (λ (n : List ℕ). Some (n, rows)) same)
    on name rows (inr (inl same)) found = inr (inl (rows, found ∙ ap (λ (n : List ℕ). Some (n, rows)) same))
    on name rows (inr (inr same)) found = inr (inr (rows, found ∙ ap (λ (n : List ℕ). Some (n, rows)) same))

-- the kind of an error is among those that may come
kind_among : (kind : ErrorKind) (error : Error) (kinds : List ErrorKind) → (kind ≡ OutOfMemory → ⊥) → kind_of error ≡ kind → HasKind kinds error → IsAmong kind kinds
kind_among kind error kinds has is (inl none) = absurd (has (sym is ∙ none))
kind_among kind error kinds has is (inr among) = subst (λ (k : ErrorKind). IsAmong k kinds) is among

unasked_request : (words : List (List ℕ)) (error : Error) (request : Request) → HasKind (fault_of program words) error → IsUnasked (kind_of error) request → IsRequest words request
unasked_request words error (Run request) has unasked = absurd unasked
unasked_request words error (Check folder) has unasked = absurd unasked
unasked_request words error (Sim request) has unasked = absurd unasked
unasked_request words error (Tell text) has (inl help) = inl (kind_among DisplayHelp error _ (λ e. cc) help has)
unasked_request words error (Tell text) has (inr version) = inr (kind_among DisplayVersion error _ (λ e. cc) version has)
unasked_request words error (Refuse text) has unasked = mistaken (kind_of error) (kind_among (kind_of error) error _ unasked.0 refl has) unasked.1 unasked.2

-- the parser does not take the words
pub untaken_words : {E : Type 0} (words : List (List ℕ)) (command : Command) (error : Error) (answer : Result Request E) → app_of command ≡ program
    → (is_simple_and_free (app_of command) ≡ true → HasKind (fault_of (app_of command) words) error)
    → IfOk answer (IsUnasked (kind_of error)) → IfOk answer (IsRequest words)
untaken_words words command error (Err e) is untaken unasked = tt
untaken_words words command error (Ok request) is untaken unasked =
    unasked_request words error request (subst (λ (a : App). HasKind (fault_of a words) error) is (untaken (ap is_simple_and_free is ∙ program_is_free))) unasked
