-- What a client owes of a lease, after every event of a reference.
use mathlib.Core.Path.{sym, ap, ◌∙◌}
use Rattle.std.proofs.Common.{inl, inr}
use Rattle.std.proofs.lemmas.Bool.{true≢false}
use Rattle.std.specs.Prelude.{◌≡◌, refl, ℕ, Bool, true, false, List, [], ◌∷◌, Option, None, Some, is_some, nat_lt, if◌then◌else◌}
use Rattle.dgc_client.specs.declared.lease.ClientLease.{ClientLease}
use Rattle.dgc_client.specs.declared.lease.Made.{Made}
use Rattle.dgc_index.specs.declared.plans.Term.{Term}
use Rattle.dgc_client.specs.History.{Event, after, lease_of}
use Rattle.dgc_client.specs.History.Event.{Held, Dropped, Moment, DirtyMade, CleanMade, DirtySent, DirtyAnswered, DirtyFailed, CleanAnswered, CleanFailed}
use Rattle.dgc_client.specs.Lease as lease
use Rattle.dgc_client.specs.Table as client
use Rattle.sp_rules.specs.Space
use Rattle.sp_laws.specs.Owing.{OwesItsEnd, LeasesOweTheirEnd}

none-some : {A : Type 0} {o : Option A} → o ≡ None → is_some o ≡ true → ⊥
none-some e t = true≢false (sym (sym (ap is_some e) ∙ t))

if_owes : {l k : ClientLease} (b : Bool) → (b ≡ true → OwesItsEnd l) → OwesItsEnd k → OwesItsEnd (if b then l else k)
if_owes true h k = h refl
if_owes false h k = k

standing-some : (o : Option Term) (moment : ℕ) → is_some (lease.standing o moment) ≡ true → is_some o ≡ true
standing-some None moment e = e
standing-some (Some term) moment e = refl

standing-none : (o : Option Term) (moment : ℕ) → o ≡ None → lease.standing o moment ≡ None
standing-none o moment e = ap (λ x. lease.standing x moment) e

sent-some : (made : Option Made) (call moment : ℕ) → is_some (lease.sent_at made call moment) ≡ true → is_some made ≡ true
sent-some None call moment e = e
sent-some (Some made) call moment e = refl

sent-none : (made : Option Made) (call moment : ℕ) → made ≡ None → lease.sent_at made call moment ≡ None
sent-none made call moment e = ap (λ x. lease.sent_at x call moment) e

made-some : (made : Option Made) (call : ℕ) → lease.is_made made call ≡ true → is_some made ≡ true
made-some None call e = absurd (true≢false (sym e))
made-some (Some made) call e = refl

clean-some : (clean : Option ℕ) (call : ℕ) → lease.is_clean clean call ≡ true → is_some clean ≡ true
clean-some None call e = absurd (true≢false (sym e))
clean-some (Some clean) call e = refl

-- a dirty call that is answered leaves a lease
answered-owes : (l : ClientLease) (period : ℕ) (made : Option Made) → is_some made ≡ true → is_some l.dirty ≡ true → OwesItsEnd l → OwesItsEnd (lease.answered made period l)
answered-owes l period None e d h = h
answered-owes l period (Some made) e d h = record {
  asked = λ t. absurd (true≢false (sym t));
  leased = λ t. inl (h.asked d);
  cleaned = λ t. absurd (none-some (h.cleaned t).0 d);
}

after-owes : (e : Event) (l : ClientLease) → OwesItsEnd l → OwesItsEnd (after e l)
after-owes Held l h = record { asked = h.asked; leased = h.leased; cleaned = h.cleaned }
after-owes Dropped l h = record { asked = h.asked; leased = h.leased; cleaned = h.cleaned }
after-owes (Moment moment) l h = pick (nat_lt moment l.moment)
  where
    later : OwesItsEnd (lease.at_moment moment l)
    later = record {
      asked = h.asked;
      leased = λ t. h.leased (standing-some l.lease moment t);
      cleaned = λ t. let x = h.cleaned t in (x.0, (standing-none l.lease moment x.1.0, x.1.1));
    }

    pick : (b : Bool) → OwesItsEnd (if b then l else lease.at_moment moment l)
    pick true = h
    pick false = later
after-owes (DirtyMade call) l h = record { asked = λ t. refl; leased = λ t. inl refl; cleaned = λ t. absurd (true≢false (sym t)) }
after-owes (CleanMade call) l h = record { asked = λ t. absurd (true≢false (sym t)); leased = λ t. absurd (true≢false (sym t)); cleaned = λ t. (refl, (refl, refl)) }
after-owes (DirtySent call) l h = record {
  asked = λ t. h.asked (sent-some l.dirty call l.moment t);
  leased = h.leased;
  cleaned = λ t. let x = h.cleaned t in (sent-none l.dirty call l.moment x.0, x.1);
}
after-owes (DirtyAnswered call period) l h = if_owes (lease.is_made l.dirty call) (λ t. answered-owes l period l.dirty (made-some l.dirty call t) (made-some l.dirty call t) h) h
after-owes (DirtyFailed call) l h = if_owes (lease.is_made l.dirty call) (λ made. record {
  asked = λ t. absurd (true≢false (sym t));
  leased = λ t. inr refl;
  cleaned = λ t. absurd (none-some (h.cleaned t).0 (made-some l.dirty call made));
}) h
after-owes (CleanAnswered call) l h = if_owes (lease.is_clean l.clean call) (λ made. record { asked = h.asked; leased = h.leased; cleaned = λ t. absurd (true≢false (sym t)) }) h
after-owes (CleanFailed call) l h = if_owes (lease.is_clean l.clean call) (λ made. record {
  asked = λ t. absurd (none-some (h.cleaned (clean-some l.clean call made)).0 t);
  leased = λ t. absurd (none-some (h.cleaned (clean-some l.clean call made)).1.0 t);
  cleaned = λ t. absurd (true≢false (sym t));
}) h

history-owes : (h : List Event) → OwesItsEnd (lease_of h)
history-owes [] = record { asked = λ t. absurd (true≢false (sym t)); leased = λ t. absurd (true≢false (sym t)); cleaned = λ t. absurd (true≢false (sym t)) }
history-owes (e ∷ h) = after-owes e (lease_of h) (history-owes h)

pub leases_owe_their_end : LeasesOweTheirEnd
leases_owe_their_end g h r = history-owes (client.own r (Space.state_of g h).leases)
