-- A machine beside its task: what comes next of it, how it begins, and how it takes a reply.
use Rattle.std.proofs.Common.{◌≡◌, inl, inr, ℕ, ◌+◌, ◌<◌, ◌≤◌, suc, Bool, true, false, List, [], ◌∷◌, ◌++◌, Option, None, Some, refl, sym, ap, subst, ◌∙◌, length, arith}
use Rattle.std.specs.Prelude.{IfSome, is_some, option_map, slice_get, unwrap_or}
use Rattle.std.proofs.lemmas.Bool.{false≢true, true≢false}
use Rattle.cls_link.specs.Links.{Links}
use Rattle.sp_behaviours.specs.Behaviours.{op_at, reply_to}
use Rattle.sp_behaviours.specs.Follows.{Follows, PlaysOn, is_over, stand_of, waiting}
use Rattle.sp_behaviours.proofs.Following.{replies-follow, stands, steps-follow}
use Rattle.sp_living.specs.Views.{recorded_in, turned}
use Rattle.sp_rules.specs.Behaviours as rules
use Rattle.sp_rules.specs.Classes.{Setting}
use Rattle.sp_rules.specs.LivingTasks.{after_steps}
use Rattle.sp_rules.specs.State.{Given, Living}
use Rattle.sp_rules.specs.Tasks.{Task, Runs, AsksFor, HasEnded, answer, is_at_end, stand, step, steps}
use Rattle.sp_tasks.specs.Behaviours.{op_of, outcome_of}
use Rattle.sp_tasks.specs.Recorded.{Recorded}
use Rattle.sp_tasks.specs.declared.behaviour.Outcome.{Outcome}
use Rattle.sp_tasks.specs.declared.behaviour.Op.{Op}
use Rattle.vm_act.specs.declared.asked.Asked.{Asked}
use Rattle.vm_act.specs.declared.asked.Reply.{Reply}
use Rattle.vm_act.specs.declared.machine.Machine.{Machine}
use Rattle.vm_step.specs.Run as runs
use Rattle.vm_step.specs.Run.{State, Running, Waits, Over, Lost, run, IsDue}
use Rattle.vm_step.specs.Task.{Tasked, fuel_left, pause_at}
use Rattle.vm_step.specs.declared.outcome.Pause.TheVariants.{Ask}
use Rattle.sp_machines.specs.Players.{AsksIn, CanCatchUp, IsBehind, IsLevel, IsPlayedBy, Played, WaitsFor, end_in, ended_in, reached}
use Rattle.sp_machines.proofs.EndLemmas.{asks-on, ended-stands, ends-as, ends-on, ends-told-of, run-none, runs-on, steps-made, steps-on}

pub only : {A : Type 0} (x y : A) → Some x ≡ Some y → x ≡ y
only x y h = ap (λ o. unwrap_or o x) h

pub after-none : (t : Living) → after_steps 0 t ≡ t
unfolding steps
after-none t = let e : t.steps + 0 ≡ t.steps = omega arith in λ j. record t { steps = e j }

-- ---- what comes next

pub follows-abreast : (links : Links) (g : Setting) (t : Living) (p : Played) → IsLevel links g t p → p.ahead ≡ false → Follows links g t.task p.task.state
follows-abreast links g t p level abreast = subst (λ b. Follows links g (reached b t.task) p.task.state) abreast level.follows

pub follows-ahead : (links : Links) (g : Setting) (t : Living) (p : Played) → IsLevel links g t p → p.ahead ≡ true → Follows links g (step t.task) p.task.state
follows-ahead links g t p level ahead = subst (λ b. Follows links g (reached b t.task) p.task.state) ahead level.follows

pub ended-next : (links : Links) (g : Setting) (t : Living) (p : Played) (outcome : Outcome) → IsLevel links g t p → p.ahead ≡ false → Some (outcome_of outcome) ≡ end_in p.task.program.classes p.task.state
    → stand t.task ≡ HasEnded (outcome_of outcome)
ended-next links g t p outcome level abreast ends =
    ended-stands (stand t.task) (outcome_of outcome)
    (ends-as links g t.task p.task.state (follows-abreast links g t p level abreast) ∙ ap (λ (l : Links). end_in l.classes p.task.state) (sym level.program) ∙ sym ends)

-- how it is told that it has ended
pub ended-told : (p : Played) (told : Option Outcome) → option_map outcome_of told ≡ end_in p.task.program.classes p.task.state
    → IfSome told (λ outcome. (links : Links) (g : Setting) (t : Living) → IsLevel links g t p → p.ahead ≡ false → stand t.task ≡ HasEnded (outcome_of outcome))
ended-told p None ends = tt
ended-told p (Some outcome) ends = λ links g t level abreast. ended-next links g t p outcome level abreast ends

pub made-next : (links : Links) (g : Setting) (t : Living) (p : Played) (told : Option Outcome) → IsLevel links g t p → p.ahead ≡ true → option_map outcome_of told ≡ ended_in p.task.program.classes p.task.state
    → is_some told ≡ is_over p.task.state → (stand t.task ≡ Runs) × (is_at_end (step t.task).behaviour ≡ is_some told) × IfSome told (λ ended. stand (step t.task) ≡ HasEnded (outcome_of ended))
made-next links g t p told level ahead ends over = (level.own ahead, level.last ahead ∙ sym over, by told (ends ∙ ap (λ (l : Links). ended_in l.classes p.task.state) level.program))
  where
    by : (o : Option Outcome) → option_map outcome_of o ≡ ended_in links.classes p.task.state → IfSome o (λ ended. stand (step t.task) ≡ HasEnded (outcome_of ended))
    by None e = tt
    by (Some ended) e = ends-told-of links g (step t.task) p.task.state (outcome_of ended) (follows-ahead links g t p level ahead) e

-- a machine after one instruction
abbrev pub ran : Bool → Played → Played
ran ahead p = record p { task = record p.task { state = run p.task.program 1 p.task.state }; ahead = ahead }

pub ran-is : (p : Played) (task after : Tasked) (taken : ℕ) (was now : Bool) (links : Links) → record { task = task; taken = taken; ahead = was } ≡ p → task.program ≡ links
    → after ≡ record task { state = run links 1 task.state } → record { task = after; taken = taken; ahead = now } ≡ ran now p
ran-is p task after taken was now links same program is =
    (λ j. record { task = (is ∙ ap (λ (l : Links). record task { state = run l 1 task.state }) (sym program)) j; taken = taken; ahead = now }) ∙ ap (ran now) same

here : (links : Links) (g : Setting) (t : Living) (p : Played) → IsLevel links g t p → run p.task.program 1 p.task.state ≡ run links 1 p.task.state
here links g t p level = ap (λ (l : Links). run l 1 p.task.state) level.program

pub asks-level : (links : Links) (g : Setting) (t : Living) (p : Played) (op : Asked) → IsLevel links g t p → p.ahead ≡ false → Ask op ≡ pause_at (run p.task.program 1 p.task.state) → IsLevel links g t (ran false p)
asks-level links g t p op level abreast asks = record {
  program = level.program;
  ready = level.ready;
  taken = level.taken;
  within = level.within;
  follows = subst (Follows links g t.task) (sym (here links g t p level))
      (asks-on links g t.task p.task.state op (follows-abreast links g t p level abreast) (ap pause_at (sym (here links g t p level)) ∙ sym asks));
  own = λ ahead. absurd (false≢true ahead);
  last = λ ahead. absurd (false≢true ahead);
}

pub asks-in : (op : Asked) (s : State) → Ask op ≡ pause_at s → AsksIn op s
asks-in op (Running m fuel) e = absurd (cc)
asks-in op (Waits asked m fuel) e = let same : asked ≡ op = cc in same
asks-in op (Over end fuel) e = absurd (cc)
asks-in op Lost e = absurd (cc)

pub made-level : (links : Links) (g : Setting) (t : Living) (p : Played) → IsLevel links g t p → p.ahead ≡ false → None ≡ end_in p.task.program.classes p.task.state
    → ((op : Asked) → pause_at (run p.task.program 1 p.task.state) ≡ Ask op → ⊥) → IsLevel links g t (ran true p)
made-level links g t p level abreast on silent =
    let follows = follows-abreast links g t p level abreast in
    record {
      program = level.program;
      ready = level.ready;
      taken = level.taken;
      within = level.within;
      follows = subst (Follows links g (step t.task)) (sym (here links g t p level)) (steps-on links g t.task p.task.state follows);
      own = λ ahead. runs-on links g t.task p.task.state follows (ap (λ (l : Links). end_in l.classes p.task.state) (sym level.program) ∙ sym on)
          (λ op e. silent op (ap pause_at (here links g t p level) ∙ e));
      last = λ ahead.
          ends-on links g t.task p.task.state follows (ap (λ (l : Links). end_in l.classes p.task.state) (sym level.program) ∙ sym on) (λ op e. silent op (ap pause_at (here links g t p level) ∙ e))
          ∙ ap is_over (sym (here links g t p level));
    }

-- ---- what it waits for

pub waits-in : (op : Asked) (s : State) → AsksIn op s → (m : Machine) × (fuel : ℕ) × (s ≡ Waits op m fuel)
waits-in op (Running m fuel) asks = absurd asks
waits-in op (Waits other m fuel) asks = (m, fuel, ap (λ x. Waits x m fuel) asks)
waits-in op (Over end fuel) asks = absurd asks
waits-in op Lost asks = absurd asks

-- the operation that it is told by
pub waits-for : (p : Played) (asked : Asked) (op : Op) → AsksIn asked p.task.state → ((m : Machine) (fuel : ℕ) → p.task.state ≡ Waits asked m fuel → op_of op ≡ op_at p.task.program.classes asked m) → WaitsFor p op
waits-for p asked op asks tells =
    let w = waits-in asked p.task.state asks in
    record { asked = asked; machine = w.0; fuel = w.1; state = w.2; is = tells w.0 w.1 w.2 }

-- no instruction leaves it as it was
pub none-made : (p : Played) (task after : Tasked) (taken : ℕ) (ahead : Bool) (links : Links) → record { task = task; taken = taken; ahead = ahead } ≡ p → after ≡ record task { state = run links 0 task.state }
    → record { task = after; taken = taken; ahead = ahead } ≡ p
none-made p task after taken ahead links same is =
    (λ j. record { task = (is ∙ ap (λ (s : State). record task { state = s }) (run-none links task.state)) j; taken = taken; ahead = ahead }) ∙ same

-- its task stands there
pub waits-stand : (links : Links) (g : Setting) (t : Living) (p : Played) (op : Op) → IsLevel links g t p → p.ahead ≡ false → WaitsFor p op → stand t.task ≡ AsksFor (op_of op)
waits-stand links g t p op level abreast w =
    stands links g t.task p.task.state (follows-abreast links g t p level abreast) ∙ ap (stand_of links) w.state
    ∙ ap AsksFor (sym (w.is ∙ ap (λ (l : Links). op_at l.classes w.asked w.machine) level.program))

-- ---- instructions of its own

-- a machine after so many instructions at most
abbrev pub run_on : ℕ → Played → Played
run_on k p = record p { task = record p.task { state = run p.task.program k p.task.state } }

pub run-on-is : (p : Played) (task after : Tasked) (taken : ℕ) (ahead : Bool) (links : Links) (k : ℕ) → record { task = task; taken = taken; ahead = ahead } ≡ p → task.program ≡ links
    → after ≡ record task { state = run links k task.state } → record { task = after; taken = taken; ahead = ahead } ≡ run_on k p
run-on-is p task after taken ahead links k same program is =
    (λ j. record { task = (is ∙ ap (λ (l : Links). record task { state = run l k task.state }) (sym program)) j; taken = taken; ahead = ahead }) ∙ ap (run_on k) same

-- it is level with its task after as many as the units of fuel that they took
pub run-level : (links : Links) (g : Setting) (t : Living) (p : Played) (k n : ℕ) → IsLevel links g t p → p.ahead ≡ false → n + fuel_left (run p.task.program k p.task.state) ≡ fuel_left p.task.state
    → IsLevel links g (after_steps n t) (run_on k p)
run-level links g t p k n level abreast took =
    let follows : Follows links g t.task p.task.state = follows-abreast links g t p level abreast in
    let on : run p.task.program k p.task.state ≡ run links k p.task.state = ap (λ (l : Links). run l k p.task.state) level.program in
    let went : Follows links g (steps k t.task) (run p.task.program k p.task.state) = subst (Follows links g (steps k t.task)) (sym on) (steps-follow links g t.task p.task.state k follows) in
    let had : t.task.fuel ≡ fuel_left p.task.state = follows.fuel in
    let has : (steps k t.task).fuel ≡ fuel_left (run p.task.program k p.task.state) = went.fuel in
    let spent : n + (steps k t.task).fuel ≡ t.task.fuel = omega (arith, took, had, has) in
    let same : steps n t.task ≡ steps k t.task = steps-made k n t.task spent in
    let left : (steps n t.task).fuel ≡ (steps k t.task).fuel = ap (λ (u : Task). u.fuel) same in
    let was : t.steps + t.task.fuel ≤ t.began.fuel = level.within in
    record {
      program = level.program;
      ready = level.ready;
      taken = level.taken;
      within = omega (arith, was, spent, left);
      follows = subst (λ ahead. Follows links g (reached ahead (steps n t.task)) (run p.task.program k p.task.state)) (sym abreast)
          (subst (λ (u : Task). Follows links g u (run p.task.program k p.task.state)) (sym same) went);
      own = λ ahead. absurd (false≢true (sym abreast ∙ ahead));
      last = λ ahead. absurd (false≢true (sym abreast ∙ ahead));
    }

pub run-within : (links : Links) (g : Setting) (t : Living) (p : Played) (left n : ℕ) → IsLevel links g t p → p.ahead ≡ false → n + left ≡ fuel_left p.task.state → n ≤ t.task.fuel
run-within links g t p left n level abreast took =
    let had : t.task.fuel ≡ fuel_left p.task.state = (follows-abreast links g t p level abreast).fuel in
    omega (arith, took, had)

pub still-level : (links : Links) (g : Setting) (t : Living) (p : Played) → IsLevel links g t p → IsLevel links g (after_steps 0 t) p
still-level links g t p level = subst (λ (u : Living). IsLevel links g u p) (sym (after-none t)) level

-- ---- replies

one-more : {A : Type 0} (ys : List A) (y : A) → length (ys ++ y ∷ []) ≡ suc (length ys)
one-more [] y = refl
one-more (z ∷ ys) y = ap suc (one-more ys y)

turned-length : {A : Type 0} (xs : List A) → length (turned xs) ≡ length xs
turned-length [] = refl
turned-length (x ∷ xs) = one-more (turned xs) x ∙ ap suc (turned-length xs)

at-length : {A : Type 0} (xs : List A) (x : A) → slice_get (xs ++ x ∷ []) (length xs) ≡ Some x
at-length [] x = refl
at-length (y ∷ ys) x = at-length ys x

past-length : {A : Type 0} (xs : List A) → slice_get xs (length xs) ≡ None
past-length [] = refl
past-length (x ∷ xs) = past-length xs

abbrev reply_in : Given → rules.Reply
reply_in given = given.reply

-- a machine that has taken each reply finds no other
pub level-none : (links : Links) (g : Setting) (t : Living) (p : Played) → IsLevel links g t p → option_map reply_in (slice_get (recorded_in t).given p.taken) ≡ None
level-none links g t p level =
    ap (λ n. option_map reply_in (slice_get (turned t.given) n)) (level.taken ∙ sym (turned-length t.given)) ∙ ap (option_map reply_in) (past-length (turned t.given))

-- one that is behind finds the newest
pub behind-some : (links : Links) (g : Setting) (t : Living) (p : Played) → (b : IsBehind links g t p) → option_map reply_in (slice_get (recorded_in t).given p.taken) ≡ Some b.last.reply
behind-some links g t p b =
    (λ j. option_map reply_in (slice_get (turned (b.given j)) ((b.taken ∙ sym (turned-length b.earlier)) j))) ∙ ap (option_map reply_in) (at-length (turned b.earlier) b.last)

-- a machine of a task that does not wait, for which there is no other reply, is level with it
pub caught-up : (links : Links) (g : Setting) (t : Living) (p : Played) → IsPlayedBy links g t p → t.waits ≡ false → option_map reply_in (slice_get (recorded_in t).given p.taken) ≡ None → IsLevel links g t p
caught-up links g t p (inl level) ready none = level
caught-up links g t p (inr (inl waiting)) ready none = absurd (true≢false (sym waiting.waits ∙ ready))
caught-up links g t p (inr (inr behind)) ready none = let e : None ≡ Some behind.last.reply = sym none ∙ behind-some links g t p behind in absurd (cc)

-- one for which there is a reply is behind
pub is-behind : (links : Links) (g : Setting) (t : Living) (p : Played) (r : rules.Reply) → IsPlayedBy links g t p → t.waits ≡ false → option_map reply_in (slice_get (recorded_in t).given p.taken) ≡ Some r
    → (b : IsBehind links g t p) × (b.last.reply ≡ r)
is-behind links g t p r (inl level) ready some = let e : None ≡ Some r = sym (level-none links g t p level) ∙ some in absurd (cc)
is-behind links g t p r (inr (inl waiting)) ready some = absurd (true≢false (sym waiting.waits ∙ ready))
is-behind links g t p r (inr (inr behind)) ready some = let e : Some behind.last.reply ≡ Some r = sym (behind-some links g t p behind) ∙ some in (behind, cc)

-- what such a machine stands at, and the reply that it takes
pub behind-asks : (links : Links) (g : Setting) (t : Living) (p : Played) (b : IsBehind links g t p) → Ask b.asks.asked ≡ pause_at p.task.state
behind-asks links g t p b = sym (ap pause_at b.asks.state)

behind-level : (links : Links) (g : Setting) (t : Living) (p : Played) (op : Asked) (r : rules.Reply) (given : Reply) → PlaysOn links g → (b : IsBehind links g t p) → b.last.reply ≡ r
    → Ask op ≡ pause_at p.task.state → Some given ≡ reply_to op r → fuel_left (runs.answer given p.task.state) < fuel_left p.task.state
    → IsLevel links g t (record p { task = record p.task { state = runs.answer given p.task.state }; taken = length (recorded_in t).given })
behind-level links g t p op r given plays b same asks told spent =
    let waits : State = Waits b.asks.asked b.asks.machine b.asks.fuel in
    let asked : b.asks.asked ≡ op = asks-in op waits (asks ∙ ap pause_at b.asks.state) in
    let fits : reply_to b.asks.asked b.last.reply ≡ Some given = (λ j. reply_to (asked j) (same j)) ∙ sym told in
    let one : b.takes.given ≡ given = only b.takes.given given (sym b.takes.told ∙ fits) in
    let dues : IsDue links.classes given waits = subst (λ (x : Reply). IsDue links.classes x waits) one b.takes.due in
    let follows : Follows links g (answer g b.last.reply (waiting b.asks.asked b.asks.before)) (runs.answer given waits) =
    replies-follow links g b.asks.before b.asks.asked b.asks.machine b.asks.fuel b.last.reply given plays b.asks.follows fits dues in
    let task : t.task ≡ answer g b.last.reply (waiting b.asks.asked b.asks.before) = b.answered ∙ ap (answer g b.last.reply) b.asks.is in
    let now : Follows links g t.task (runs.answer given p.task.state) =
    subst (λ (u : Task). Follows links g u (runs.answer given p.task.state)) (sym task)
    (subst (λ (s : State). Follows links g (answer g b.last.reply (waiting b.asks.asked b.asks.before)) (runs.answer given s)) (sym b.asks.state) follows) in
    let left : t.task.fuel ≡ fuel_left (runs.answer given p.task.state) = now.fuel in
    let had : b.asks.before.fuel ≡ fuel_left p.task.state = b.asks.follows.fuel ∙ ap fuel_left (sym b.asks.state) in
    let within : b.asks.before.fuel ≤ t.began.fuel = b.within in
    let none : t.steps ≡ 0 = b.steps in
    record {
      program = b.asks.program;
      ready = b.ready;
      taken = turned-length t.given;
      within = omega (arith, left, had, within, none, spent);
      follows = subst (λ ahead. Follows links g (reached ahead t.task) (runs.answer given p.task.state)) (sym b.asks.level) now;
      own = λ ahead. absurd (false≢true (sym b.asks.level ∙ ahead));
      last = λ ahead. absurd (false≢true (sym b.asks.level ∙ ahead));
    }

-- it takes the reply
pub replied-level : (links : Links) (g : Setting) (t : Living) (p : Played) (op : Asked) (r : rules.Reply) (given : Reply) → PlaysOn links g → IsPlayedBy links g t p → t.waits ≡ false
    → option_map reply_in (slice_get (recorded_in t).given p.taken) ≡ Some r → Ask op ≡ pause_at p.task.state → Some given ≡ reply_to op r
    → fuel_left (runs.answer given p.task.state) < fuel_left p.task.state
    → IsLevel links g t (record p { task = record p.task { state = runs.answer given p.task.state }; taken = length (recorded_in t).given })
replied-level links g t p op r given plays played ready some asks told spent =
    let found = is-behind links g t p r played ready some in
    behind-level links g t p op r given plays found.0 found.1 asks told spent

-- ---- a machine that can catch up

-- the reply that it finds is one to what it asks, and is due
pub record IsFound (p : Played) (r : rules.Reply) : Type 0 where
  pub asked : Asked
  pub asks : Ask asked ≡ pause_at p.task.state
  pub given : Reply
  pub told : reply_to asked r ≡ Some given
  pub due : IsDue p.task.program.classes given p.task.state

pub found-reply : (p : Played) (past : Recorded) (r : rules.Reply) → CanCatchUp p past → option_map reply_in (slice_get past.given p.taken) ≡ Some r → IsFound p r
found-reply p past r can some =
    let at : option_map reply_in (slice_get (recorded_in can.living).given p.taken) ≡ Some r = ap (λ (x : Recorded). option_map reply_in (slice_get x.given p.taken)) can.same ∙ some in
    let found = is-behind can.links can.setting can.living p r can.played can.ready at in
    let b = found.0 in
    record {
      asked = b.asks.asked;
      asks = behind-asks can.links can.setting can.living p b;
      given = b.takes.given;
      told = ap (reply_to b.asks.asked) (sym found.1) ∙ b.takes.told;
      due = subst (λ (l : Links). IsDue l.classes b.takes.given p.task.state) (sym b.asks.program) (subst (IsDue can.links.classes b.takes.given) (sym b.asks.state) b.takes.due);
    }
