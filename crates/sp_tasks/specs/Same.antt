-- Whether two replies, or two records are the same. (This project's own.)
use Rattle.std.specs.Prelude.{◌==◌, ◌&&◌, Bool, true, false, Option, None, Some}
use mathlib.Core.Bool.{beq}
use Rattle.std.specs.Cmp.Lexicographic.{pointwise}
use Rattle.space_ids.specs.declared.value.Value.{Value}
use Rattle.sp_rules.specs.Behaviours.{Reply, Gives, GivesBack, Throws, RunsOut}
use Rattle.sp_rules.specs.References.{is_same_value}
use Rattle.sp_rules.specs.State.{Beginning, Given}
use Rattle.sp_tasks.specs.Recorded.{Recorded}

abbrev pub is_result : Option Value → Option Value → Bool
is_result None None = true
is_result (Some v) (Some w) = is_same_value v w
is_result v w = false

abbrev pub is_reply : Reply → Reply → Bool
is_reply (Gives v) (Gives w) = is_result v w
is_reply (GivesBack v fuel) (GivesBack w other) = is_result v w && fuel == other
is_reply (Throws class) (Throws other) = class.0 == other.0
is_reply RunsOut RunsOut = true
is_reply r q = false

abbrev pub is_given : Given → Given → Bool
is_given a b = a.steps == b.steps && (beq a.lent b.lent && is_reply a.reply b.reply)

abbrev pub is_beginning : Beginning → Beginning → Bool
is_beginning a b = a.method == b.method && (a.fuel == b.fuel && pointwise is_same_value a.arguments b.arguments)

abbrev pub is_recorded : Recorded → Recorded → Bool
is_recorded a b = is_beginning a.began b.began && pointwise is_given a.given b.given
