-- The table of the hand-shake, of what each end said and heard, and of what is on its way.
use mathlib.Core.Path.{sym, ap, subst, ◌∙◌}
use Rattle.std.proofs.lemmas.Bool.{true≢false}
use Rattle.std.specs.Prelude.{◌≡◌, refl, ℕ, zero, suc, Bool, true, false, List, [], ◌∷◌, ◌++◌, Option, Some, slice_get}
use Rattle.net_message.specs.declared.message.Message.{Message}
use Rattle.uuid.specs.declared.Uuid.{Uuid}
use Rattle.sp_rules.specs.Classes.{Setting}
use Rattle.sp_rules.specs.Laws.{AllOf}
use Rattle.sp_rules.specs.State.{is_open}
use Rattle.sp_rules.specs.Worlds.{World, Space, side, other, run, new_world}
use Rattle.sp_rules.proofs.AllLemmas.{some-none}
use Rattle.sp_rules.proofs.OwnLemmas.{some-same}
use Rattle.sp_laws.specs.Inbound.{opened}
use Rattle.sp_order_laws.specs.Delivered.{came_on, sent_on, outputs_in, outputs_at}
use Rattle.sp_order_laws.specs.InOrder.{AreInOrder}
use Rattle.sp_order_laws.proofs.DeliveryLemmas.{lost_frames_come_last}
use Rattle.sp_order_laws.specs.Hellos.{NoHellos, BeginsWithHello, says_late, SaysFirst, BeginsWelcome, BeginsInOrder}
use Rattle.sp_order_laws.specs.HandShakes.{HasNotHeard, HasHeard, IsInTable, IsHandShake, HandShakesAreInTable}
use Rattle.sp_order_laws.proofs.HelloLemmas.{none-left}
use Rattle.sp_order_laws.proofs.TableLemmas.{connections_begin_in_order}

at-all : (n : ℕ) (xs : List Space) (x : Space) (P : Space → Type 0) → slice_get xs n ≡ Some x → AllOf P xs → P x
at-all n [] x P e a = absurd (some-none x (sym e))
at-all zero (y ∷ xs) x P e a = subst P (some-same e) a.0
at-all (suc n) (y ∷ xs) x P e a = at-all n xs x P e a.1

-- what follows the first of frames that begin with a Hello
after-first : (xs ys : List Message) (m : Message) (ms : List Message) → xs ++ ys ≡ m ∷ ms → NoHellos ms → (xs ≡ [] → ⊥) → NoHellos ys
after-first [] ys m ms e a more = absurd (more refl)
after-first (x ∷ xs) ys m ms e a more = rest xs ms (ap others e) a
  where
    others : List Message → List Message
    others [] = []
    others (y ∷ zs) = zs

    rest : (zs ms : List Message) → zs ++ ys ≡ ms → NoHellos ms → NoHellos ys
    rest [] ms e a = subst NoHellos (sym e) a
    rest (z ∷ zs) [] e a = absurd (true≢false (sym (ap is_there e)))
      where
        is_there : List Message → Bool
        is_there [] = true
        is_there (y ∷ l) = false
    rest (z ∷ zs) (n ∷ ns) e a = rest zs ns (ap others e) a.1

begins-after : (g : Setting) (xs ys all : List Message) → xs ++ ys ≡ all → BeginsWithHello g all → (xs ≡ [] → ⊥) → NoHellos ys
begins-after g xs ys [] e a more = absurd (more (none-left xs ys e).0)
begins-after g xs ys (m ∷ ms) e a more = after-first xs ys m ms e a.1 more

nothing-after : (xs ys : List Message) (m : Message) → xs ++ ys ≡ m ∷ [] → (xs ≡ [] → ⊥) → ys ≡ []
nothing-after [] ys m e more = absurd (more refl)
nothing-after (x ∷ xs) ys m e more = (none-left xs ys (ap others e)).1
  where
    others : List Message → List Message
    others [] = []
    others (y ∷ zs) = zs

welcome-there : (g : Setting) (dialled : Option Uuid) (peer : Uuid) (xs : List Message) → BeginsWelcome g dialled peer xs → xs ≡ [] → ⊥
welcome-there g dialled peer [] a e = a
welcome-there g dialled peer (x ∷ xs) a e = true≢false (sym (ap is_there e))
  where
    is_there : List Message → Bool
    is_there [] = true
    is_there (y ∷ l) = false

-- a connection that is open was opened
was-opened : (s : Space) (conn : ℕ) → BeginsInOrder s conn → is_open s.state conn ≡ true → (b : Bool) → opened conn s.history ≡ b → opened conn s.history ≡ true
was-opened s conn k is true e = e
was-opened s conn k is false e = absurd (true≢false (sym is ∙ k.shut e))

in-table : (s there : Space) (conn : ℕ) (came queue lost : List Message) → BeginsInOrder s conn → BeginsInOrder there conn → came ≡ came_on conn s.history → came ++ (queue ++ lost) ≡ sent_on conn there.outputs → IsInTable s there conn queue lost
in-table s there conn came queue lost k t is all = record {
  unopened = λ o. (none-left came (queue ++ lost) (all ∙ (t.silent o).1)).1;
  first = λ o h. subst (BeginsWithHello there.setting) (sym (sent h)) (t.first o);
  early = λ a h none. t.early a (sym (sent h) ∙ none);
  alone = λ a h. subst (SaysFirst there.setting (says_late there.setting a.row.dialled)) (sym (sent h)) (t.waits a.row a.there a.none).1;
  later = λ h. begins-after there.setting came (queue ++ lost) (sent_on conn there.outputs) all (t.first (said h (opened conn there.history) refl)) (came-some h);
  answered = λ h a. none-after (says_late there.setting a.row.dialled) (t.waits a.row a.there a.none).1 (came-some h);
}
  where
    -- nothing came, so all that was sent is under way or lost
    sent : HasNotHeard s conn → queue ++ lost ≡ sent_on conn there.outputs
    sent h = sym (ap (λ (l : List Message). l ++ (queue ++ lost)) (is ∙ (k.waits h.row h.there h.none).0)) ∙ all

    -- no Hello came there, so at most the Hello was sent, and that came
    none-after : (late : Bool) → SaysFirst there.setting late (sent_on conn there.outputs) → (came ≡ [] → ⊥) → queue ++ lost ≡ []
    none-after true none some = absurd (some (none-left came (queue ++ lost) (all ∙ none)).0)
    none-after false one some = nothing-after came (queue ++ lost) one.hello (all ∙ one.alone) some

    came-some : HasHeard s conn → came ≡ [] → ⊥
    came-some h e = welcome-there s.setting h.row.dialled h.peer (came_on conn s.history) (k.greeted h.row h.peer h.there h.some) (sym is ∙ e)

    -- what came was sent by an end that had opened
    said : HasHeard s conn → (b : Bool) → opened conn there.history ≡ b → opened conn there.history ≡ true
    said h true e = e
    said h false e = absurd (came-some h (none-left came (queue ++ lost) (all ∙ (t.silent e).1)).0)

pub hand_shakes_are_in_table : HandShakesAreInTable
hand_shakes_are_in_table settings events conn p to s there is at other-at = by (run (new_world settings) events) (connections_begin_in_order settings events) ((lost_frames_come_last settings events).comes conn p to is s at) at other-at
  where
    by : (w : World) → AllOf (λ (x : Space). (n : ℕ) → BeginsInOrder x n) w.spaces → AreInOrder (came_on conn s.history) (side to p).queue (sent_on conn (outputs_at w.spaces (side (other to) p).space)) (side (other to) p).phase
        → slice_get w.spaces (side to p).space ≡ Some s → slice_get w.spaces (side (other to) p).space ≡ Some there → IsHandShake w conn p to s there
    by w all order here away = record {
      lost = order.lost;
      ended = order.ended;
      table = in-table s there conn (came_on conn s.history) (side to p).queue order.lost (at-all (side to p).space w.spaces s (λ (x : Space). (n : ℕ) → BeginsInOrder x n) here all conn)
          (at-all (side (other to) p).space w.spaces there (λ (x : Space). (n : ℕ) → BeginsInOrder x n) away all conn) refl (order.all ∙ ap (λ (o : Option Space). sent_on conn (outputs_in o)) away);
    }
