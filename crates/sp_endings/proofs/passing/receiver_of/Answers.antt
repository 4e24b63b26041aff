use Rattle.std.proofs.Common.{◌≡◌, Option, None, Some, refl, sym, ◌∙◌}
use Rattle.std.specs.Prelude.{option_map}
use Rattle.space_ids.specs.declared.ids.ClassId.{ClassId}
use Rattle.space_ids.specs.declared.ids.ObjId.{ObjId}
use Rattle.space_ids.specs.declared.ids.Ref.{Ref}
use Rattle.uuid.specs.declared.Uuid.{Uuid}
use Rattle.sp_rules.specs.State.{Object, object_at}
use Rattle.sp_endings.proofs.passing.receiver_of.Goals as goal

named : (own space : Uuid) (target : ObjId) (class : ClassId) (o : Option Object) → own ≡ space → Some class ≡ option_map (λ (o : Object). o.class) o
    → ◌≡◌ {A = Option Ref} (Some (record { space = own; id = target; class = class })) (option_map (λ (o : Object). record { space = space; id = target; class = o.class }) o)
named own space target class None same is = cc
named own space target class (Some o) same is = let its : class ≡ o.class = cc in λ j. Some (record { space = same j; id = target; class = its j })

nothing : (space : Uuid) (target : ObjId) (o : Option Object) → ◌≡◌ {A = Option ClassId} None (option_map (λ (o : Object). o.class) o) → ◌≡◌ {A = Option Ref} None (option_map (λ (o : Object). record { space = space; id = target; class = o.class }) o)
nothing space target None is = refl
nothing space target (Some o) is = cc

pub returns-in-Some : goal.returns-in-Some
returns-in-Some c = λ g s a after.
    named c.id.result g.id c.args.target c.in-Some.class (object_at s c.args.target) (c.id.ensures g s a) (sym c.in-Some.is ∙ c.class_of.ensures g s.store after)

pub returns-in-None : goal.returns-in-None
returns-in-None c = λ g s a after. nothing g.id c.args.target (object_at s c.args.target) (sym c.in-None.is ∙ c.class_of.ensures g s.store after)
