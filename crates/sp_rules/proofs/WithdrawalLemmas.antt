-- No event but a Sweep withdraws an object.
use mathlib.Core.Path.{sym, ap, subst, ◌∙◌}
use Rattle.std.specs.Prelude.{List, [], ◌∷◌, ◌++◌}
use Rattle.std.proofs.Common.{inl, inr}
use Rattle.std.proofs.lemmas.Bool.{true≢false}
use Rattle.sp_rules.specs.Classes.{Setting}
use Rattle.sp_rules.specs.Laws.{IsOne, OnlySweepsWithdraw}
use Rattle.sp_rules.specs.LivingTasks.{next_object}
use Rattle.sp_rules.specs.State.{State, Object, standing}
use Rattle.sp_rules.proofs.Stable.{Core, IsStable, AllowsTelling, AllowsNaming, on_keeps}

in-front : (o x : Object) (xs : List Object) → IsOne o xs → IsOne o (xs ++ x ∷ [])
in-front o x [] e = absurd e
in-front o x (y ∷ ys) (inl e) = inl e
in-front o x (y ∷ ys) (inr e) = inr (in-front o x ys e)

abbrev Stands : Object → State → Type 0
Stands o t = IsOne o (standing t.store)

stable : (g : Setting) (o : Object) → IsStable g (Stands o)
stable g o = record {
  framed = record { frame = λ s t e h. subst (λ store. IsOne o (standing store)) (sym (ap (λ (c : Core). c.store) e)) h };
  begins = λ s origin method arguments fuel h. h;
  counts = λ s h. h;
  ends = λ s id h. h;
  replies = λ s id t reply is h. h;
  commits = λ s id k t reply is h. h;
  waits = λ s id k t is h. h;
  goes_on = λ s id k t is h. h;
  makes = λ s class h. in-front o (record { id = next_object s; class = class }) (standing s.store) h;
  writes = λ s id slot value h. h;
}

telling : (o : Object) → AllowsTelling (Stands o)
telling o = record { told = λ s call h. h }

naming : (o : Object) → AllowsNaming (Stands o)
naming o = record { named = λ s names h. h }

pub only_sweeps_withdraw : OnlySweepsWithdraw
only_sweeps_withdraw g e s o no-sweep h =
    on_keeps (stable g o) s e (λ f. telling o) (λ n. naming o) (λ w. absurd (true≢false (sym w ∙ no-sweep))) h
