use Rattle.std.proofs.Common.{◌≡◌, true, false, sym, subst, ◌∙◌}
use Rattle.std.specs.Prelude.{◌||◌, not}
use Rattle.std.specs.List.{list_any}
use Rattle.space_ids.specs.declared.ids.ClassId.{ClassId}
use Rattle.sp_rules.specs.Classes.{fit_kinds}
use Rattle.sp_rules.specs.Holders.{is_refused}
use Rattle.sp_rules.specs.References.{references_of}
use Rattle.sp_state.proofs.AnswerLemmas.{none-left}
use Rattle.sp_state.proofs.CallLemmas.{call-absent, call-bad, call-busy, call-parks, stands-not, stands-so}
use Rattle.sp_state.proofs.space_state.SpaceState.refusal.Goals as goal

pub returns-in_default : goal.returns-in_default
returns-in_default w c = λ g s conn number is tells.
    let k = c.args.call.now in
    call-absent g s conn number k.target k.method k.fuel k.arguments (stands-not s k.target (sym (none-left c.class_of.result c.in_default.not-Some) ∙ c.class_of.ensures g s is.owner))

pub returns-then-is_unfit : goal.returns-then-is_unfit
returns-then-is_unfit w c = λ g s conn number is tells.
    let k = c.args.call.now in
    let st = stands-so s k.target c.in-Some.class (sym c.in-Some.is ∙ c.class_of.ensures g s is.owner) in
    call-bad g s st.object conn number k.target k.method k.fuel k.arguments st.there
    (subst (λ (d : ClassId). (not (g.classes.may_call d k.method) || (not (fit_kinds (g.classes.parameters k.method) k.arguments) || list_any (is_refused g s) (references_of k.arguments))) ≡ true) (sym st.class-is)
    (sym (c.is_unfit.ensures g s is tells) ∙ c.if-is_unfit.true))

pub returns-then-busy : goal.returns-then-busy
returns-then-busy w c = λ g s conn number is tells.
    let k = c.args.call.now in
    let st = stands-so s k.target c.in-Some.class (sym c.in-Some.is ∙ c.class_of.ensures g s is.owner) in
    call-busy g s st.object conn number k.target k.method k.fuel k.arguments st.there
    (subst (λ (d : ClassId). (not (g.classes.may_call d k.method) || (not (fit_kinds (g.classes.parameters k.method) k.arguments) || list_any (is_refused g s) (references_of k.arguments))) ≡ false) (sym st.class-is)
    (sym (c.is_unfit.ensures g s is tells) ∙ c.if-is_unfit.false))
    (sym (c.in_ok-busy.ensures g s is.living) ∙ c.if-busy.true)

pub returns : goal.returns
returns w c = λ g s conn number is tells.
    let k = c.args.call.now in
    let st = stands-so s k.target c.in-Some.class (sym c.in-Some.is ∙ c.class_of.ensures g s is.owner) in
    call-parks g s st.object conn number k.target k.method k.fuel k.arguments st.there
    (subst (λ (d : ClassId). (not (g.classes.may_call d k.method) || (not (fit_kinds (g.classes.parameters k.method) k.arguments) || list_any (is_refused g s) (references_of k.arguments))) ≡ false) (sym st.class-is)
    (sym (c.is_unfit.ensures g s is tells) ∙ c.if-is_unfit.false))
    (sym (c.in_ok-busy.ensures g s is.living) ∙ c.if-busy.false)
