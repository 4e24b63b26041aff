use Rattle.std.proofs.Common.{ap, refl, subst, sym, ◌∙◌}
use Rattle.sp_rules.specs.Classes.{Setting}
use Rattle.sp_space.specs.Spaces.{AreLimits}
use Rattle.sp_behaviours.specs.Classes.{classes_of}
use Rattle.sim_spaces.specs.ProgramSpaces.{Origins}
use Rattle.sim_spaces.proofs.program_spaces.ProgramSpacesOriginProgramSpace.space.Goals as goal

pub returns : goal.returns
returns c =
    let setting : Setting = record {
      classes = classes_of c.self.inside.program.now;
      id = c.args.id;
      digest = c.self.inside.digest;
      limits = record { heap = c.default.result.heap_words; stack = c.default.result.stack_words; references = c.default.result.references; fuel = c.default.result.fuel };
      version = c.args.version;
    } in
    record {
      space = λ g classes id digest limits version.
          c.in_ok-space.ensures g (classes ∙ sym (ap (λ (o : Origins). classes_of o.links) c.self.view_is)) id (digest ∙ sym (ap (λ (o : Origins). o.digest) c.self.view_is))
          (subst (AreLimits g) (sym c.default.ensures) limits) version;
      new = (setting, c.in_ok-space.ensures setting refl refl refl (record { heap = refl; stack = refl; references = refl; fuel = refl }) refl);
    }
