-- What is asked for after `run`, after `check` and after `sim`.
use Rattle.std.proofs.Common.{◌≡◌, ℕ, List, [], Option, Some, Result, Ok, Err, IfOk, MatchResult, codes, sym, subst}
use Rattle.std.specs.List.{AllZip}
use Rattle.std.specs.Prelude.{unwrap_or}
use Rattle.clap.specs.Walk.{Row, first_of}
use Rattle.sp_arguments.specs.Arguments.{Spells}
use Rattle.sp_words.specs.CommandLine.{AreRunWords, AreSimWords, RunWords, SimWords}
use Rattle.sp_words.specs.Requests.{Found, IsAsked, IsCheckRequest, IsRefusing, IsRunRequest, IsSimRequest, check, run, sim}
use Rattle.sp_words.specs.declared.words.Request.{Request}
use Rattle.space_ids.specs.declared.value.Value.{Value}
use Rattle.sp_words.specs.declared.words.Request.TheVariants.{Run, Check, Sim, Tell, Refuse}

-- a refusal is right if no run is asked for
pub refusing : {E : Type 0} (rows : List Row) (answer : Result Request E) → IfOk answer IsRefusing → ((run : RunWords) → AreRunWords rows run → ⊥)
    → IfOk answer (IsRunRequest rows)
refusing rows (Ok (Run request)) is not = absurd is
refusing rows (Ok (Check folder)) is not = absurd is
refusing rows (Ok (Sim request)) is not = absurd is
refusing rows (Ok (Tell text)) is not = absurd is
refusing rows (Ok (Refuse text)) is not = not
refusing rows (Err e) is not = tt

-- a refusal is right if no check is asked for
pub refusing_check : {E : Type 0} (rows : List Row) (answer : Result Request E) → IfOk answer IsRefusing
    → ((folder : List ℕ) → first_of (codes "folder") rows ≡ Some folder → ⊥) → IfOk answer (IsCheckRequest rows)
refusing_check rows (Ok (Run request)) is not = absurd is
refusing_check rows (Ok (Check folder)) is not = absurd is
refusing_check rows (Ok (Sim request)) is not = absurd is
refusing_check rows (Ok (Tell text)) is not = absurd is
refusing_check rows (Ok (Refuse text)) is not = not
refusing_check rows (Err e) is not = tt

-- a refusal is right if no script is asked for
pub refusing_sim : {E : Type 0} (rows : List Row) (answer : Result Request E) → IfOk answer IsRefusing → ((sim : SimWords) → AreSimWords rows sim → ⊥)
    → IfOk answer (IsSimRequest rows)
refusing_sim rows (Ok (Run request)) is not = absurd is
refusing_sim rows (Ok (Check folder)) is not = absurd is
refusing_sim rows (Ok (Sim request)) is not = absurd is
refusing_sim rows (Ok (Tell text)) is not = absurd is
refusing_sim rows (Ok (Refuse text)) is not = not
refusing_sim rows (Err e) is not = tt

-- what is asked of a command that was found
pub asked_by_run : {E : Type 0} (found : Found) (rows : List Row) (answer : Result Request E) → found ≡ Some (codes "run", rows) → IfOk answer (IsRunRequest rows)
    → IfOk answer (IsAsked found)
asked_by_run found rows (Ok request) is asked = run rows is asked
asked_by_run found rows (Err e) is asked = tt

pub asked_by_check : {E : Type 0} (found : Found) (rows : List Row) (answer : Result Request E) → found ≡ Some (codes "check", rows) → IfOk answer (IsCheckRequest rows)
    → IfOk answer (IsAsked found)
asked_by_check found rows (Ok request) is asked = check rows is asked
asked_by_check found rows (Err e) is asked = tt

pub asked_by_sim : {E : Type 0} (found : Found) (rows : List Row) (answer : Result Request E) → found ≡ Some (codes "sim", rows) → IfOk answer (IsSimRequest rows)
    → IfOk answer (IsAsked found)
asked_by_sim found rows (Ok request) is asked = sim rows is asked
asked_by_sim found rows (Err e) is asked = tt

-- words that stand for no values
pub no_arguments : (words : List (List ℕ)) (said : Option (List (List ℕ))) → words ≡ unwrap_or said []
    → ((values : List Value) → AllZip Spells words values → ⊥) → (values : List Value) → AllZip Spells (unwrap_or said []) values → ⊥
no_arguments words said is not values spells = not values (subst (λ (w : List (List ℕ)). AllZip Spells w values) (sym is) spells)

-- what holds of a result, if it is known which
pub of_ok : {A E : Type 0} (P : A → Type 0) (Q : E → Type 0) (r : Result A E) (value : A) → r ≡ Ok value → MatchResult r P Q → P value
of_ok P Q r value is holds = subst (λ r. MatchResult r P Q) is holds

pub of_err : {A E : Type 0} (P : A → Type 0) (Q : E → Type 0) (r : Result A E) (error : E) → r ≡ Err error → MatchResult r P Q → Q error
of_err P Q r error is holds = subst (λ r. MatchResult r P Q) is holds

-- words that stand for values
pub some_arguments : (words : List (List ℕ)) (said : Option (List (List ℕ))) (values : List Value) → words ≡ unwrap_or said []
    → AllZip Spells words values → AllZip Spells (unwrap_or said []) values
some_arguments words said values is spells = subst (λ (w : List (List ℕ)). AllZip Spells w values) is spells
