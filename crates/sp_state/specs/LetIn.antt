-- What a core lets in: events that the rules do not refuse. (This project's own.)
use Rattle.std.specs.Prelude.{◌≡◌, ◌<◌, ◌^◌, [], true, None}
use Rattle.sp_rules.specs.Behaviours.{Op}
use Rattle.sp_rules.specs.Classes.{Setting}
use Rattle.sp_rules.specs.Events.{Event}
use Rattle.sp_rules.specs.Refusals.{fits_store, refusal}
use Rattle.sp_rules.specs.State.{State}

-- The rules do not refuse an event that comes from outside.
abbrev pub IsLetIn : Setting → State → Event → Type 0
IsLetIn g s e = refusal g [] s e ≡ None

-- An operation on the store fits, and there is an id for an object more.
pub record MayCommit (g : Setting) (s : State) (op : Op) : Type 0 where
  pub fits : fits_store g s op ≡ true
  pub numbers : s.objects_made < 2 ^ 63
