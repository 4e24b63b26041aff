-- On a connection on which nobody asks there is no call, and on one on which this space does not ask no request.
use mathlib.Core.Path.{sym, subst, ◌∙◌}
use Rattle.std.proofs.Common.{arith}
use Rattle.std.proofs.lemmas.Bool.{true≢false, eqb-true}
use Rattle.std.specs.Prelude.{◌≡◌, refl, ℕ, ◌==◌, ◌||◌, is_some, is_none, Bool, true, false, Option, None, Some}
use Rattle.uuid.specs.declared.Uuid.{Uuid}
use Rattle.sp_rules.specs.ParkedFrames.{is_out_on}
use Rattle.sp_rules.specs.Space
use Rattle.sp_rules.specs.State.{State, Request, Stage, Waits, Out, Answered, Connection, connection_at, is_to}
use Rattle.sp_rules.proofs.AllLemmas.{all-weaken, all-found}
use Rattle.sp_rules.proofs.OwnLemmas.{some-same}
use Rattle.sp_laws.specs.Answered.{IsDialledTo, StandsOn, GoesTo, HasTakenNone, AreInPlace}
use Rattle.sp_laws.specs.Idle.{IsIdleWhereUnasked, UnaskedConnectionsAreIdle}
use Rattle.sp_laws.specs.Inbound.{CallsCameOnce}
use Rattle.sp_laws.proofs.InboundLemmas.{calls_that_come_are_once}
use Rattle.sp_laws.proofs.PlaceEvents.{answers_are_parked}

idle : (s : State) → AreInPlace s → CallsCameOnce s → IsIdleWhereUnasked s
idle s p o = record {
  calls = λ conn number c is unasked le.
      let zero : c.last ≡ 0 = all-found HasTakenNone (λ (d : Connection). d.number == conn) s.connections c is p.unasked unasked in
      o.above conn number c is (omega arith);
  requests = λ conn c is none. all-weaken (λ (q : Request). StandsOn s.connections q.peer q.stage × GoesTo q.peer q.asked) (λ (q : Request). is_out_on conn q.stage ≡ false) s.requests (λ q x. out conn c is none q.peer q.stage x.0) p.requests;
}
  where
    neither : (peer : Uuid) (a b : Option Uuid) → is_some a ≡ true → is_to peer b ≡ true → is_none a || is_none b ≡ true → ⊥
    neither peer None b e f t = true≢false (sym e)
    neither peer (Some x) None e f t = true≢false (sym f)
    neither peer (Some x) (Some y) e f t = true≢false (sym t)

    dialled : (conn : ℕ) (c : Connection) → connection_at s conn ≡ Some c → is_none c.peer || is_none c.dialled ≡ true → (peer : Uuid) → IsDialledTo s.connections conn peer → ⊥
    dialled conn c is none peer d =
        let same : d.row ≡ c = some-same (sym d.found ∙ is) in
        neither peer c.peer c.dialled (subst (λ (x : Connection). is_some x.peer ≡ true) same d.greeted) (subst (λ (x : Connection). is_to peer x.dialled ≡ true) same d.dialled) none

    at : (conn n : ℕ) (c : Connection) → connection_at s conn ≡ Some c → is_none c.peer || is_none c.dialled ≡ true → (peer : Uuid) → IsDialledTo s.connections n peer → (b : Bool) → (n == conn) ≡ b → b ≡ false
    at conn n c is none peer d true e = absurd (dialled conn c is none peer (subst (λ m. IsDialledTo s.connections m peer) (eqb-true n conn e) d))
    at conn n c is none peer d false e = refl

    out : (conn : ℕ) (c : Connection) → connection_at s conn ≡ Some c → is_none c.peer || is_none c.dialled ≡ true → (peer : Uuid) (stage : Stage) → StandsOn s.connections peer stage → is_out_on conn stage ≡ false
    out conn c is none peer Waits x = refl
    out conn c is none peer (Out n sequence) x = at conn n c is none peer x (n == conn) refl
    out conn c is none peer (Answered n) x = at conn n c is none peer x (n == conn) refl

pub unasked_connections_are_idle : UnaskedConnectionsAreIdle
unasked_connections_are_idle g h t o = idle (Space.state_of g h) (answers_are_parked g h t) (calls_that_come_are_once g h o)
