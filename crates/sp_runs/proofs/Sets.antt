-- What is known of the class set of a program, for which spaces run.
use Rattle.std.proofs.Common.{◌≡◌, List, Some, sym, ap, ◌∙◌}
use Rattle.cls_link.specs.Links.{Links, AreLinks}
use Rattle.sp_behaviours.specs.Follows.{PlaysOn}
use Rattle.sp_behaviours.specs.Classes.{classes_of}
use Rattle.sp_files.specs.Programs.{IsProgram}
use Rattle.sp_files.specs.declared.files.ClassBytes.{ClassBytes}
use Rattle.sp_behaviours.specs.Calls.{IsSettingOf}
use Rattle.sp_behaviours.specs.Told.{AreRemoteRules}
use Rattle.sp_behaviours.proofs.CrossingLemmas.{remote_rules_are_kept}
use Rattle.sp_behaviours.proofs.SetLemmas.{memory_named}
use Rattle.sp_rules.specs.Classes.{Classes, Setting}
use Rattle.vm_step.specs.Sound.{IsSoundSet}
use Rattle.vm_step.proofs.Sound.{sound_set}

pub record IsSet (links : Links) : Type 0 where
  pub linked : AreLinks links
  pub sound : IsSoundSet links
  pub rules : AreRemoteRules links.classes

-- So it is of a program, whose files break no rule on sets.
pub set-of : (files : List ClassBytes) (links : Links) → IsProgram files links → IsSet links
set-of files links is = record {
  linked = is.linked;
  sound = sound_set links is.linked is.safe;
  rules = remote_rules_are_kept is.classes links.classes is.set is.linked.set is.makes_a_set;
}

pub setting-is : (links : Links) (g : Setting) → IsSet links → g.classes ≡ classes_of links → IsSettingOf links g
setting-is links g set same = record { classes = same; are = set.linked; sound = set.sound; fields = set.rules.fields; methods = set.rules.methods }

-- its tasks do what its machines do
pub plays-on : (links : Links) (g : Setting) → IsSet links → g.classes ≡ classes_of links → PlaysOn links g
plays-on links g set same = record {
  behaviour = λ own limits method arguments fuel. ap (λ (c : Classes). c.behaviour own limits method arguments fuel) same;
  out_of_memory = memory_named links set.linked ∙ ap (λ (c : Classes). Some c.out_of_memory) (sym same);
}
