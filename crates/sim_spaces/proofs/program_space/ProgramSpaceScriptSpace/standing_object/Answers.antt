use Rattle.std.proofs.Common.{◌≡◌, ◌∙◌, Option, None, Some, refl, sym, ap}
use Rattle.std.specs.Prelude.{option_map, slice_get}
use Rattle.std.proofs.lemmas.Option.{none-some, same_Some, slice_get-map}
use Rattle.sim_spaces.specs.ProgramSpaces.{shown_of}
use Rattle.sim_shows.specs.Lines.{sight}
use Rattle.sim_shows.specs.declared.script_space.Shown.{Shown}
use Rattle.sp_core.specs.Shown as core
use Rattle.sp_rules.specs.State.{Object, State, standing}
use Rattle.sim_spaces.proofs.program_space.ProgramSpaceScriptSpace.standing_object.Goals as goal

back : core.Sight → Shown
back x = record { id = x.id; class = x.class; names = x.names; entries = x.entries }

-- what a core shows is what scripts show
same-shown : (s : State) (x : Option Shown) (o : Option Object) → option_map shown_of x ≡ option_map (core.shown s) o → x ≡ option_map (sight s) o
unfolding back
same-shown s None None e = refl
same-shown s None (Some o) e = absurd (none-some (core.shown s o) e)
same-shown s (Some x) None e = absurd (none-some (shown_of x) (sym e))
same-shown s (Some x) (Some o) e = ap {A = core.Sight} {B = Option Shown} (λ y. Some (back y)) (same_Some (shown_of x) (core.shown s o) e)

pub returns : goal.returns
returns c = λ w s is. same-shown s c.object.result (slice_get (standing s.store) c.args.index) (c.object.ensures w s is) ∙ sym (slice_get-map (sight s) (standing s.store) c.args.index)
