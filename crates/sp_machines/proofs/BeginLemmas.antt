-- How machines begin.
use Rattle.std.proofs.Common.{◌≡◌, ℕ, false, List, Option, None, Some, refl, sym, ap, subst, ◌∙◌, length, arith}
use Rattle.std.specs.Prelude.{is_some, codes, unwrap_or, Ok}
use Rattle.std.proofs.lemmas.Bool.{false≢true, true≢false}
use Rattle.cls_link.specs.Links.{Links}
use Rattle.cls_set.specs.Classes.{number_of}
use Rattle.space_ids.specs.declared.ids.ClassId.{ClassId}
use Rattle.space_ids.specs.declared.value.Value.{Value}
use Rattle.uuid.specs.declared.Uuid.{Uuid}
use Rattle.sp_behaviours.specs.Behaviours.{limits_of}
use Rattle.sp_behaviours.specs.Follows.{Follows, PlaysOn}
use Rattle.sp_behaviours.proofs.Starting.{starts-follow}
use Rattle.sp_behaviours.specs.Classes.{class_named, classes_of}
use Rattle.sp_living.specs.Views.{recorded_in}
use Rattle.sp_rules.specs.Classes.{Classes, Setting}
use Rattle.sp_rules.specs.State.{Living}
use Rattle.sp_rules.specs.Tasks.{Task, start}
use Rattle.sp_tasks.specs.Recorded.{Recorded}
use Rattle.vm_step.specs.Begin.{begun}
use Rattle.vm_step.specs.Run.{IsNeverStuck}
use Rattle.vm_step.specs.declared.limits.Limits.{Limits}
use Rattle.sp_machines.specs.Limits.{AreLimits}
use Rattle.sp_machines.specs.Players.{IsLevel, IsPlayed, IsUntouched, Played, reached}

-- ---- a set of classes on which tasks play

pub plays-on : (g : Setting) (links : Links) (memory : ClassId) → g.classes ≡ classes_of links → number_of links.classes (codes "java/lang/OutOfMemoryError") ≡ Some memory → PlaysOn links g
plays-on g links memory same known =
    let none : ClassId = record { 0 = 0 } in
    let named : class_named links.classes (codes "java/lang/OutOfMemoryError") ≡ memory = ap (λ (o : Option ClassId). unwrap_or o none) known in
    record {
      behaviour = λ own limits method arguments fuel. ap (λ (c : Classes). c.behaviour own limits method arguments fuel) same;
      out_of_memory = known ∙ ap Some (sym named) ∙ sym (ap (λ (c : Classes). Some c.out_of_memory) same);
    }

-- ---- machines

start-fuel : (g : Setting) (method : ℕ) (arguments : List Value) (fuel : ℕ) → (start g method arguments fuel).fuel ≡ fuel
unfolding start
start-fuel g method arguments fuel = refl

limits-same : (g : Setting) (limits : Limits) (fuel : ℕ) → AreLimits g limits → record limits { fuel = fuel } ≡ limits_of g.limits fuel
limits-same g limits fuel are = λ j. record { heap_words = sym are.heap j; stack_words = sym are.stack j; references = sym are.references j; fuel = fuel }

-- what a machine begins as, is what the task of its record does
pub begins-level : (links : Links) (g : Setting) (t : Living) (p : Played) (own : Uuid) (past : Recorded) (given limits : Limits) (fuel : ℕ) → PlaysOn links g → own ≡ g.id → AreLimits g limits → IsUntouched links g t
    → recorded_in t ≡ past → fuel ≡ past.began.fuel → given ≡ record limits { fuel = fuel } → begun links own (record { 0 = past.began.method }) past.began.arguments given ≡ Ok p.task
    → p.task.program ≡ links → IsNeverStuck links p.task.state → p.taken ≡ 0 → p.ahead ≡ false → IsLevel links g t p
begins-level links g t p own past given limits fuel plays mine are untouched same counted as-limited begins program safe none abreast =
    let within : given ≡ limits_of g.limits past.began.fuel = as-limited ∙ ap (λ n. record limits { fuel = n }) counted ∙ limits-same g limits past.began.fuel are in
    let there : begun links g.id (record { 0 = past.began.method }) past.began.arguments (limits_of g.limits past.began.fuel) ≡ Ok p.task =
    (λ j. begun links (sym mine j) (record { 0 = past.began.method }) past.began.arguments (sym within j)) ∙ begins in
    let follows : Follows links g (start g past.began.method past.began.arguments past.began.fuel) p.task.state = starts-follow links g past.began.method past.began.arguments past.began.fuel p.task plays there safe in
    let counts : t.steps ≡ 0 = untouched.steps in
    let left : t.task.fuel ≡ t.began.fuel = ap (λ (u : Task). u.fuel) untouched.stands ∙ start-fuel g t.began.method t.began.arguments t.began.fuel in
    let task : start g past.began.method past.began.arguments past.began.fuel ≡ t.task = ap (λ (r : Recorded). start g r.began.method r.began.arguments r.began.fuel) (sym same) ∙ sym untouched.stands in
    record {
      program = program;
      ready = untouched.ready;
      taken = none ∙ sym (ap length untouched.given);
      within = omega (arith, counts, left);
      follows = subst (λ b. Follows links g (reached b t.task) p.task.state) (sym abreast) (subst (λ (u : Task). Follows links g u p.task.state) task follows);
      own = λ ahead. absurd (false≢true (sym abreast ∙ ahead));
      last = λ ahead. absurd (false≢true (sym abreast ∙ ahead));
    }

pub no-machine : (links : Links) (g : Setting) (t : Living) (o : Option Played) → is_some o ≡ false → IsPlayed links g (Some t) o → IsUntouched links g t
no-machine links g t None none p = p
no-machine links g t (Some p) none played = absurd (true≢false none)
