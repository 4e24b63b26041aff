use Rattle.std.proofs.Common.{Some, None, lit<}
use Rattle.std.proofs.lemmas.Str.Pattern.{strip_prefix_char, strip_suffix_char}
use Rattle.sp_arguments.proofs.Commas.{bracketed}
use Rattle.sp_arguments.proofs.argument.array_part.Goals as goal

pub returns-in-Some : goal.returns-in-Some
returns-in-Some c = bracketed _ _ _
    (strip_prefix_char 91 c.args.word.now (Some c.in-Some.rest) c.in-Some.ensures.cases (lit< tt))
    (strip_suffix_char 93 c.in-Some.rest.now c.strip_suffix.result c.strip_suffix.ensures.cases (lit< tt))

pub returns-in-None : goal.returns-in-None
returns-in-None c =
    let no = strip_prefix_char 91 c.args.word.now None c.in-None.ensures.cases (lit< tt) in
    λ inside is. no _ is
