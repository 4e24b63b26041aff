-- Arguments that the parser takes begin with a command: any other first argument asks for help or for the version, or is refused.
use Rattle.std.proofs.Common.{◌≡◌, ◌∙◌, ◌||◌, ◌⊎◌, ◌∷◌, [], ℕ, zero, suc, Bool, true, false, cond, List, Option, Some, None, IfSome, length, codes, option_map, slice_get, inl, inr, refl, sym, ap, subst}
use Rattle.std.specs.Prelude.{find, fold}
use Rattle.std.specs.Option.{option_map_or}
use Rattle.std.specs.Str.{bytes_eq, chars}
use Rattle.std.proofs.lemmas.Slice.Eq.{bytes_eq-Decides}
use Rattle.clap.proofs.OnLiterals.{clap_on_literals}
use Rattle.clap.proofs.WalkLemmas.{walk_stopped}
use Rattle.clap.specs.Faults.{bundle_fault, bundle_step_fault, fault_of, flag_word_fault, flags_fault, long_fault, option_fault, other_fault, positional_fault, react_fault, short_fault, step_fault, stray_fault, turn_fault}
use Rattle.clap.specs.Kinds.{Kinds, or_else}
use Rattle.clap.specs.Lexer.{long_of, short_of}
use Rattle.clap.specs.Simple.{Shape, built, entered, filled, help_rule, names_of, subcommand_of, version_rule}
use Rattle.clap.specs.Walk.{Held, Names, Outcome, Row, Rule, Text, Walk, after_flag, after_step, arg_by_index, arg_by_long, arg_by_short, attached_value, bundle_met, bundle_step, idle, long_or_other, nothing_held, plain, reacted, short_or_plain, subcommand_met, subcommand_or_other, takes_values, trailing, value, walk, walk_from, walked}
use Rattle.clap.specs.declared.error.kind.ErrorKind.{ErrorKind}
use Rattle.clap.specs.declared.error.kind.ErrorKind.TheVariants.{DisplayHelp, DisplayVersion, InvalidSubcommand, MissingSubcommand, TooManyValues, UnknownArgument}
use Rattle.sp_words.specs.CommandLine.{program}

-- if two steps pass, the first does
first_passes : (a b : Kinds) → or_else a b ≡ [] → a ≡ []
first_passes [] b e = refl
first_passes (k ∷ ks) b e = e

-- a flag without a value that the parser answers by a text, as help: words with it are not taken
abbrev IsRequesting : Shape → Rule → Type 0
IsRequesting s a = (takes_values a ≡ false) × (react_fault s.rules s.args_override_self a [] nothing_held ≡ [] → ⊥)

-- a command with no arguments but such flags, at its first word
module _ (s : Shape) (none : arg_by_index s.rules 1 ≡ None) (asks : (p : Rule → Bool) → IfSome (find p s.rules) (IsRequesting s)) where
  -- an argument that a positional would take
  stray : (h : Held) → step_fault s 1 h value ≡ [] → ⊥
  stray h e = kinds s.is_leaf (sym (ap (λ o. option_map_or (λ a. positional_fault s.rules s.args_override_self a h) o (stray_fault s)) none) ∙ e)
    where
      kinds : (b : Bool) → cond b (UnknownArgument ∷ []) (UnknownArgument ∷ InvalidSubcommand ∷ []) ≡ [] → ⊥
      kinds true e = cc
      kinds false e = cc

  -- `--name` or `--name=value`
  long : (o : Option Rule) (v : Option Text) → IfSome o (IsRequesting s) → long_fault s.rules s.args_override_self o v nothing_held ≡ [] → ⊥
  long None v asks e = cc
  long (Some a) None asks e =
      asks.1 (subst (λ b. cond b (option_fault s.rules s.args_override_self a None nothing_held) (react_fault s.rules s.args_override_self a [] nothing_held) ≡ []) asks.0 e)
  long (Some a) (Some v) asks e =
      let bad : TooManyValues ∷ [] ≡ [] = subst (λ b. cond b (option_fault s.rules s.args_override_self a (Some v) nothing_held) (TooManyValues ∷ []) ≡ []) asks.0 e in
      cc

  -- the first flag of `-abc`
  short : (o : Option Rule) (rest : Text) (next : Held → Kinds) → IfSome o (IsRequesting s) → short_fault s.rules s.args_override_self o rest nothing_held next ≡ [] → ⊥
  short None rest next asks e = cc
  short (Some a) rest next asks e =
      asks.1 (first_passes _ (next (reacted s.rules a [] nothing_held))
      (subst (λ b. cond b (option_fault s.rules s.args_override_self a (attached_value rest) nothing_held)
      (or_else (react_fault s.rules s.args_override_self a [] nothing_held) (next (reacted s.rules a [] nothing_held))) ≡ []) asks.0 e))

  -- what is wrong with an argument after its flags
  abbrev following : Text → Held × Outcome → Kinds
  following word met = step_fault s 1 (after_flag s.rules idle word met.0 met.1).0 (after_flag s.rules idle word met.0 met.1).1

  -- `-abc`
  bundled : (k : ℕ) (flags word : Text) → or_else (flags_fault s.rules s.args_override_self k flags 0 nothing_held) (following word (bundle_met s.rules k flags 0 plain nothing_held)) ≡ [] → ⊥
  unfolding flags_fault bundle_met
  bundled zero flags word e = stray nothing_held e
  bundled (suc k) flags word e = on (slice_get (chars flags) 0) e
    where
      on : (o : Option ℕ) → or_else (bundle_step_fault s.rules s.args_override_self o flags 0 nothing_held (flags_fault s.rules s.args_override_self k))
          (following word (bundle_step s.rules o flags 0 plain nothing_held (bundle_met s.rules k))) ≡ [] → ⊥
      on None e = stray nothing_held e
      on (Some x) e = short (arg_by_short s.rules x) _ _ (asks _) (first_passes _ _ e)

  -- what is wrong with an argument that names no command
  abbrev wrong_with : Text → Kinds
  wrong_with word = or_else (other_fault s None word nothing_held) (step_fault s 1 (subcommand_or_other s.rules None idle 1 word nothing_held).0 (subcommand_or_other s.rules None idle 1 word nothing_held).1)

  -- of those words `--` alone passes
  only_dashes : (word : Text) → wrong_with word ≡ [] → bytes_eq word (codes "--") ≡ true
  only_dashes word e = dashes (bytes_eq word (codes "--")) e
    where
      shorted : (o : Option Text) → or_else (option_map_or (λ flags. bundle_fault s.rules s.args_override_self flags nothing_held) o [])
          (step_fault s 1 (short_or_plain s.rules idle word o nothing_held).0 (short_or_plain s.rules idle word o nothing_held).1) ≡ [] → ⊥
      shorted None e = stray nothing_held e
      shorted (Some flags) e = bundled (length flags) flags word e

      flagged : (p : Option (Text × Option Text)) → or_else (flag_word_fault s.rules s.args_override_self p word nothing_held)
          (step_fault s 1 (long_or_other s.rules idle word p nothing_held).0 (long_or_other s.rules idle word p nothing_held).1) ≡ [] → ⊥
      flagged (Some p) e = long (arg_by_long s.rules p.0) p.1 (asks _) (first_passes _ _ e)
      flagged None e = shorted (short_of word) e

      dashes : (b : Bool) → or_else (cond b [] (flag_word_fault s.rules s.args_override_self (long_of word) word nothing_held))
          (step_fault s 1 (cond b (nothing_held, trailing 1) (long_or_other s.rules idle word (long_of word) nothing_held)).0
          (cond b (nothing_held, trailing 1) (long_or_other s.rules idle word (long_of word) nothing_held)).1) ≡ [] → b ≡ true
      dashes true e = refl
      dashes false e = absurd (flagged (long_of word) e)

-- what is found is one of two
one_of_two : (P : Rule → Type 0) (p : Rule → Bool) (a b : Rule) → P a → P b → IfSome (find p (a ∷ b ∷ [])) P
one_of_two P p a b left right = on (p a) (p b)
  where
    on : (x y : Bool) → IfSome (cond x (Some a) (cond y (Some b) None)) P
    on true y = left
    on false true = right
    on false false = tt

-- the program, as it is built
abbrev top : Shape
top = (built program).top

abbrev names : Names
names = names_of (built program)

same_text : (a b : Text) → bytes_eq a b ≡ true → a ≡ b
same_text a b e = (bytes_eq-Decides a b).0 e

-- the names of commands
abbrev pub IsCommandName : Text → Type 0
IsCommandName name = (name ≡ codes "run") ⊎ ((name ≡ codes "check") ⊎ (name ≡ codes "sim"))

-- a command that is met has the name of the argument
met_names : (word : Text) → IfSome (subcommand_met names idle word) (λ name. (name ≡ word) × IsCommandName name)
unfolding clap_on_literals
met_names word = on (bytes_eq (codes "run") word) (bytes_eq (codes "check") word) (bytes_eq (codes "sim") word) (same_text _ word) (same_text _ word) (same_text _ word)
  where
    on : (run check sim : Bool) → (run ≡ true → codes "run" ≡ word) → (check ≡ true → codes "check" ≡ word) → (sim ≡ true → codes "sim" ≡ word)
        → IfSome (option_map (λ (s : Text × List Text). s.0) (cond (run || false) (Some (codes "run", [])) (cond (check || false) (Some (codes "check", [])) (cond (sim || false) (Some (codes "sim", [])) None))))
        (λ name. (name ≡ word) × IsCommandName name)
    on true check sim r c s = (r refl, inl refl)
    on false true sim r c s = (c refl, inr (inl refl))
    on false false true r c s = (s refl, inr (inr refl))
    on false false false r c s = tt

-- a command that was met is entered
abbrev Opens : (rest : List Text) → Text → Type 0
Opens rest name = (rows : List Row) × (entered (built program) (Some (name, rest)) ≡ Some (name, rows))

opened : (name : Text) (rest : List Text) → IsCommandName name → Opens rest name
unfolding clap_on_literals
opened name rest (inl run) = subst (Opens rest) (sym run) (_, refl)
opened name rest (inr (inl check)) = subst (Opens rest) (sym check) (_, refl)
opened name rest (inr (inr sim)) = subst (Opens rest) (sym sim) (_, refl)

-- after `--` no argument is a command, and one is missing
dashed : (own : Text) (rest : List Text) → fault_of program (own ∷ codes "--" ∷ rest) ≡ [] → ⊥
unfolding clap_on_literals
dashed own [] e = let bad : MissingSubcommand ∷ [] ≡ [] = e in cc
dashed own (word ∷ rest) e = let bad : UnknownArgument ∷ InvalidSubcommand ∷ [] ≡ [] = e in cc

-- arguments that the parser takes begin with a command, and it is entered
pub record Enters (words : List Text) : Type 0 where
  pub name : Text
  pub rows : List Row
  pub first : slice_get words 1 ≡ Some name
  pub is : IsCommandName name
  pub enters : subcommand_of program words ≡ Some (name, rows)

-- help and the version are the flags of the program
fails : (kind : ErrorKind) (kinds : Kinds) → kind ∷ kinds ≡ [] → ⊥
fails kind kinds e = cc

each_asks : (p : Rule → Bool) → IfSome (find p top.rules) (IsRequesting top)
unfolding clap_on_literals
each_asks p = one_of_two (IsRequesting top) p (filled help_rule) (filled version_rule) (refl, fails DisplayHelp []) (refl, fails DisplayVersion [])

pub taken_enters : (words : List Text) → fault_of program words ≡ [] → Enters words
unfolding clap_on_literals
taken_enters [] e = let bad : MissingSubcommand ∷ [] ≡ [] = e in absurd (cc)
taken_enters (own ∷ []) e = let bad : MissingSubcommand ∷ [] ≡ [] = e in absurd (cc)
taken_enters (own ∷ word ∷ rest) e = on (subcommand_met names idle word) refl (met_names word)
  where
    passes : turn_fault top names (walk_from nothing_held) word ≡ []
    passes = first_passes _ _ (first_passes _ _ e)

    on : (o : Option Text) → subcommand_met names idle word ≡ o → IfSome o (λ name. (name ≡ word) × IsCommandName name) → Enters (own ∷ word ∷ rest)
    on None is met =
        let dashes = only_dashes top refl each_asks word (subst (λ o. or_else (other_fault top o word nothing_held)
        (step_fault top 1 (subcommand_or_other top.rules o idle 1 word nothing_held).0 (subcommand_or_other top.rules o idle 1 word nothing_held).1) ≡ []) is passes) in
        absurd (dashed own rest (subst (λ w. fault_of program (own ∷ w ∷ rest) ≡ []) (same_text word _ dashes) e))
    on (Some name) is met =
        let begun : walked top.rules names (walk_from nothing_held) word ≡ record (walk_from nothing_held) { stopped = Some (name, []) } =
        ap (λ o. after_step top.rules word (walk_from nothing_held) (subcommand_or_other top.rules o idle 1 word nothing_held).0 (subcommand_or_other top.rules o idle 1 word nothing_held).1) is in
        let stop : (walk top.rules names nothing_held (word ∷ rest)).stopped ≡ Some (name, rest) =
        ap (λ (w : Walk). (fold (walked top.rules names) w rest).stopped) begun ∙ sym (ap (λ (w : Walk). w.stopped) (walk_stopped top.rules names (walk_from nothing_held) name [] rest)) in
        let opens = opened name rest met.1 in
        record { name = name; rows = opens.0; first = ap (λ (n : Text). Some n) (sym met.0); is = met.1; enters = ap (entered (built program)) stop ∙ opens.1 }
