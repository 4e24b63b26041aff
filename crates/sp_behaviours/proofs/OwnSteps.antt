-- Tasks as the rules have them: what one instruction and one reply make of each.
use Rattle.std.specs.Prelude.{min}
use Rattle.std.proofs.Common.{◌≡◌, ℕ, suc, ◌+◌, ◌-◌, ap, ◌∙◌, arith, Option}
use Rattle.space_ids.specs.declared.ids.ClassId.{ClassId}
use Rattle.space_ids.specs.declared.value.Value.{Value}
use Rattle.sp_rules.specs.Behaviours.{Behaviour, Plain, Asks, Ends, Over, Op, Outcome, Threw, Spent, Gives, GivesBack, Throws, RunsOut}
use Rattle.sp_rules.specs.Classes.{Setting}
use Rattle.sp_rules.specs.References.{references_in, with_references}
use Rattle.sp_rules.specs.Tasks.{Task, HasEnded, after_own, after_reply, answer, ended_with, lend_fuel, pay_with, stand, stand_at, step, step_at, with_value, within_limit}

-- an instruction of its own
pub step-plain : (t : Task) (next : Behaviour) (fuel : ℕ) → t.behaviour ≡ Plain next → t.fuel ≡ suc fuel → step t ≡ record t { behaviour = next; fuel = fuel; made = t.made + 1 }
unfolding step stand
step-plain t next fuel b f =
    let left : t.fuel - 1 ≡ fuel = omega arith in
    (λ j. step_at (stand_at (b j) (f j)) t) ∙ (λ j. record t { behaviour = after_own (b j); fuel = left j; made = t.made + 1 })

-- one that ends it
pub step-ends : (t : Task) (outcome : Outcome) (fuel : ℕ) → t.behaviour ≡ Ends outcome → t.fuel ≡ suc fuel → step t ≡ record t { behaviour = Over outcome; fuel = fuel; made = t.made + 1 }
unfolding step stand
step-ends t outcome fuel b f =
    let left : t.fuel - 1 ≡ fuel = omega arith in
    (λ j. step_at (stand_at (b j) (f j)) t) ∙ (λ j. record t { behaviour = after_own (b j); fuel = left j; made = t.made + 1 })

-- one that asks waits for its reply
pub step-asks : (t : Task) (op : Op) (next : Option Value → Behaviour) (fuel : ℕ) → t.behaviour ≡ Asks op next → t.fuel ≡ suc fuel → step t ≡ t
unfolding step stand
step-asks t op next fuel b f = λ j. step_at (stand_at (b j) (f j)) t

-- what is over stays so
pub step-ended : (t : Task) (outcome : Outcome) → stand t ≡ HasEnded outcome → step t ≡ t
unfolding step
step-ended t outcome e = λ j. step_at (e j) t

-- where it stands
pub stand-is : (t : Task) (b : Behaviour) (fuel : ℕ) → t.behaviour ≡ b → t.fuel ≡ fuel → stand t ≡ stand_at b fuel
unfolding stand
stand-is t b fuel is f = λ j. stand_at (is j) (f j)

-- a value that it is given
pub record IsGiven (g : Setting) (value : Option Value) (t : Task) (left : ℕ) (u : Task) : Type 0 where
  pub behaviour : u.behaviour ≡ within_limit g (with_references t.held (references_in value)) (after_reply t.behaviour value)
  pub fuel : u.fuel ≡ left
  pub held : u.held ≡ with_references t.held (references_in value)

pub answer-gives : (g : Setting) (value : Option Value) (t : Task) (fuel : ℕ) → t.fuel ≡ suc fuel → IsGiven g value t fuel (answer g (Gives value) t)
unfolding answer
answer-gives g value t fuel f =
    let paid : answer g (Gives value) t ≡ with_value g value (record t { fuel = fuel + 0; made = t.made + 1 }) = λ j. with_value g value (pay_with (f j) 0 t) in
    let rest : fuel + 0 ≡ fuel = omega arith in
    record {
      behaviour = ap (λ (u : Task). u.behaviour) paid;
      fuel = ap (λ (u : Task). u.fuel) paid ∙ rest;
      held = ap (λ (u : Task). u.held) paid;
    }

-- an exception that it is given
pub record IsThrown (class : ClassId) (left : ℕ) (u : Task) : Type 0 where
  pub behaviour : u.behaviour ≡ Over (Threw class)
  pub fuel : u.fuel ≡ left

pub answer-throws : (g : Setting) (class : ClassId) (t : Task) (fuel : ℕ) → t.fuel ≡ suc fuel → IsThrown class fuel (answer g (Throws class) t)
unfolding answer
answer-throws g class t fuel f =
    let paid : answer g (Throws class) t ≡ ended_with (Threw class) (record t { fuel = fuel + 0; made = t.made + 1 }) = λ j. ended_with (Threw class) (pay_with (f j) 0 t) in
    let rest : fuel + 0 ≡ fuel = omega arith in
    record { behaviour = ap (λ (u : Task). u.behaviour) paid; fuel = ap (λ (u : Task). u.fuel) paid ∙ rest }

-- ---- the replies to a call, to a task that has lent its fuel

one-left : (t : Task) (fuel : ℕ) → t.fuel ≡ suc fuel → (lend_fuel t).fuel ≡ suc 0
unfolding lend_fuel
one-left t fuel f = let one : min 1 (suc fuel) ≡ 1 = omega arith in ap (min 1) f ∙ one

-- the value comes with the fuel that the callee left
pub answer-gives-back : (g : Setting) (value : Option Value) (back : ℕ) (t : Task) (fuel : ℕ) → t.fuel ≡ suc fuel → IsGiven g value t back (answer g (GivesBack value back) (lend_fuel t))
unfolding answer lend_fuel
answer-gives-back g value back t fuel f =
    let one : (lend_fuel t).fuel ≡ suc 0 = one-left t fuel f in
    let paid : answer g (GivesBack value back) (lend_fuel t) ≡ with_value g value (record (lend_fuel t) { fuel = 0 + back; made = t.made + 1 }) =
    λ j. with_value g value (pay_with (one j) back (lend_fuel t)) in
    let rest : 0 + back ≡ back = omega arith in
    record {
      behaviour = ap (λ (u : Task). u.behaviour) paid;
      fuel = ap (λ (u : Task). u.fuel) paid ∙ rest;
      held = ap (λ (u : Task). u.held) paid;
    }

pub answer-throws-lent : (g : Setting) (class : ClassId) (t : Task) (fuel : ℕ) → t.fuel ≡ suc fuel → IsThrown class 0 (answer g (Throws class) (lend_fuel t))
answer-throws-lent g class t fuel f = answer-throws g class (lend_fuel t) 0 (one-left t fuel f)

-- a callee whose fuel was spent
pub record IsSpent (u : Task) : Type 0 where
  pub behaviour : u.behaviour ≡ Over Spent
  pub fuel : u.fuel ≡ 0

pub answer-runs-out : (g : Setting) (t : Task) (fuel : ℕ) → t.fuel ≡ suc fuel → IsSpent (answer g RunsOut (lend_fuel t))
unfolding answer
answer-runs-out g t fuel f =
    let one : (lend_fuel t).fuel ≡ suc 0 = one-left t fuel f in
    let paid : answer g RunsOut (lend_fuel t) ≡ ended_with Spent (record (lend_fuel t) { fuel = 0 + 0; made = (lend_fuel t).made + 1 }) =
    λ j. ended_with Spent (pay_with (one j) 0 (lend_fuel t)) in
    record { behaviour = ap (λ (u : Task). u.behaviour) paid; fuel = ap (λ (u : Task). u.fuel) paid }
