use Rattle.std.proofs.Common.{◌≡◌, ℕ, ◌+◌, ◌<◌, ◌≤◌, Bool, true, false, cond, ◌&&◌, filter, List, ◌∷◌, Result, Ok, Err, is_some, refl, sym, ap, ◌∙◌, arith, Contains}
use Rattle.std.specs.Prelude.{nat_lt, OnErr}
use Rattle.std.specs.Str.{bytes_eq}
use Rattle.std.proofs.lemmas.Bool.Decides.{nat_tests}
use Rattle.space_ids.specs.declared.ids.ObjId.{ObjId}
use Rattle.dgc_list.specs.declared.expiries.Expiry.{Expiry}
use Rattle.dgc_list.specs.declared.list.RefList.{RefList}
use Rattle.dgc_list.specs.declared.remembered.Remembered.{Remembered}
use Rattle.dgc_list.specs.Remembered.{after_dirty, after_clean, after_moment}
use Rattle.dgc_list.specs.Clients.{leased, leased_after, IsSame}
use Rattle.dgc_list.specs.Objects.{clients_at, remembered_at, is_named, IsCovered, Tells, Expires}
use Rattle.dgc_list.specs.History.{Call, moment_of, granted, is_told, remembered_of, is_leased, clients_of, IsAfter}
use Rattle.dgc_list.specs.History.Call.{Dirty, Clean, Moment}
use Rattle.dgc_list.proofs.CallsLemmas.{bytes_eq-refl}
use Rattle.dgc_list.proofs.HistoryLemmas.{all-leased, filter-all}
use Rattle.dgc_list.proofs.MomentLemmas.{filter-like}
use Rattle.dgc_list.proofs.RememberedLemmas.{moment-none}

pub on_err : {T E P : Type 0} (r : Result T E) → P → OnErr r P
on_err (Ok x) p = tt
on_err (Err e) p = p

-- if nothing is remembered anew and no expiry is lost, the list is what it was
pub after-same : (h : List Call) (old new : RefList) → new.moment ≡ old.moment → ((o : ObjId) → IsSame (clients_at old.objects o) (clients_at new.objects o))
    → ((other : Expiry) → Contains old.expiries other → Contains new.expiries other) → IsAfter h old → IsAfter h new
after-same h old new moment same kept after = record {
  moment = moment ∙ after.moment;
  remembered = λ c o. (same o).remembered c ∙ after.remembered c o;
  clients = λ o. (same o).leased ∙ after.clients o;
  covered = λ o c at stands. kept _ (after.covered o c at (ap (λ (r : Remembered). r.expires) (sym ((same o).remembered c)) ∙ stands));
}

module _ (h : List Call) (old : RefList) (after : IsAfter h old) (f : Remembered → Remembered) (client : List ℕ) (ids : List ObjId)
    (new : List (ObjId × List (List ℕ × Remembered))) (told : Tells f client ids old.objects new) where
  pub remembered-told : (c : List ℕ) (o : ObjId) → remembered_at new o c ≡ cond (is_told client ids c o) (f (remembered_of h c o)) (remembered_of h c o)
  remembered-told c o = told.remembered_is o c ∙ ap (λ (r : Remembered). cond (is_told client ids c o) (f r) r) (after.remembered c o)

  pub clients-told : (o : ObjId) → leased (clients_at new o) ≡ cond (is_named o ids)
      (leased_after client (is_leased h client o) (is_some (cond (is_told client ids client o) (f (remembered_of h client o)) (remembered_of h client o)).expires) (clients_of h o)) (clients_of h o)
  clients-told o = told.leased_is o
      ∙ ap (λ (r : Remembered). cond (is_named o ids) (leased_after client (is_some r.expires) (is_some (f r).expires) (leased (clients_at old.objects o))) (leased (clients_at old.objects o))) (after.remembered client o)
      ∙ ap (λ cs. cond (is_named o ids) (leased_after client (is_leased h client o) (is_some (f (remembered_of h client o)).expires) cs) cs) (after.clients o)
      ∙ (elim (is_named o ids) as (λ t. cond t (leased_after client (is_leased h client o) (is_some (f (remembered_of h client o)).expires) (clients_of h o)) (clients_of h o)
      ≡ cond t (leased_after client (is_leased h client o) (is_some (cond (bytes_eq client client && t) (f (remembered_of h client o)) (remembered_of h client o)).expires) (clients_of h o)) (clients_of h o))
      [ true ↦ rw (bytes_eq-refl client) refl | false ↦ refl ])

-- a dirty call, from the calls that make it
pub after-dirty : (h : List Call) (old new : RefList) (client : List ℕ) (ids : List ObjId) (number period expires : ℕ)
    → expires ≡ old.moment + granted period → new.moment ≡ old.moment → Tells (after_dirty number expires) client ids old.objects new.objects
    → (IsCovered old.objects old.expiries → IsCovered new.objects new.expiries) → IsAfter h old → IsAfter (Dirty client ids number period ∷ h) new
after-dirty h old new client ids number period expires is moment told covers after =
    let now : expires ≡ moment_of h + granted period = is ∙ ap (λ m. m + granted period) after.moment in
    record {
      moment = moment ∙ after.moment;
      remembered = λ c o. rw (← now) (remembered-told h old after (after_dirty number expires) client ids new.objects told c o);
      clients = λ o. rw (← now) (clients-told h old after (after_dirty number expires) client ids new.objects told o);
      covered = covers after.covered;
    }

-- a clean call, from the calls that make it
pub after-clean : (h : List Call) (old new : RefList) (client : List ℕ) (ids : List ObjId) (number : ℕ) (strong : Bool)
    → new.moment ≡ old.moment → Tells (after_clean number strong) client ids old.objects new.objects
    → (IsCovered old.objects old.expiries → IsCovered new.objects new.expiries) → IsAfter h old → IsAfter (Clean client ids number strong ∷ h) new
after-clean h old new client ids number strong moment told covers after = record {
  moment = moment ∙ after.moment;
  remembered = λ c o. remembered-told h old after (after_clean number strong) client ids new.objects told c o;
  clients = λ o. clients-told h old after (after_clean number strong) client ids new.objects told o;
  covered = covers after.covered;
}

-- a moment below the last changes nothing
pub after-early : (h : List Call) (list : RefList) (moment : ℕ) → moment < list.moment → IsAfter h list → IsAfter (Moment moment ∷ h) list
after-early h list moment early after =
    let before : moment < moment_of h = omega (arith, after.moment) in
    let test : nat_lt moment (moment_of h) ≡ true = grind (arith, nat_tests) in
    record {
      moment = after.moment ∙ omega arith;
      remembered = λ c o. rw test (after.remembered c o);
      clients = λ o. after.clients o ∙ sym (filter-like (λ c. is_leased (Moment moment ∷ h) c o) (λ c. is_leased h c o) (λ c. rw test refl) (clients_of h o) ∙ filter-all (λ c. is_leased h c o) (clients_of h o) (all-leased h o));
      covered = after.covered;
    }

-- a moment, from the expiries that it took
pub after-moment : (h : List Call) (old new : RefList) (moment : ℕ) → old.moment ≤ moment → new.moment ≡ moment → Expires moment old.objects new.objects
    → (IsCovered old.objects old.expiries → IsCovered new.objects new.expiries) → ((other : Expiry) → Contains new.expiries other → moment < other.moment)
    → IsAfter h old → IsAfter (Moment moment ∷ h) new
after-moment h old new moment late is expires covers none after =
    let before : moment_of h ≤ moment = omega (arith, after.moment) in
    let test : nat_lt moment (moment_of h) ≡ false = grind (arith, nat_tests) in
    let covered = covers after.covered in
    let settled : (o : ObjId) (c : List ℕ) → remembered_at new.objects o c ≡ after_moment moment (remembered_of h c o) =
    λ o c. sym (moment-none moment (remembered_at new.objects o c) (λ at stands. none _ (covered o c at stands)))
    ∙ expires.remembered_is o c ∙ ap (after_moment moment) (after.remembered c o) in
    let now_is : (o : ObjId) (c : List ℕ) → remembered_at new.objects o c ≡ remembered_of (Moment moment ∷ h) c o = λ o c. rw test (settled o c) in
    let stand : (o : ObjId) → leased (clients_at old.objects o) ≡ filter (λ c. is_some (remembered_at old.objects o c).expires) (leased (clients_at old.objects o)) =
    λ o. rw (after.clients o) (sym (filter-like (λ c. is_some (remembered_at old.objects o c).expires) (λ c. is_leased h c o) (λ c. ap (λ (r : Remembered). is_some r.expires) (after.remembered c o)) (clients_of h o)
    ∙ filter-all (λ c. is_leased h c o) (clients_of h o) (all-leased h o))) in
    record {
      moment = is ∙ omega arith;
      remembered = λ c o. now_is o c;
      clients = λ o. expires.leased_is o (stand o) ∙ ap (filter (λ c. is_some (remembered_at new.objects o c).expires)) (after.clients o)
          ∙ filter-like (λ c. is_some (remembered_at new.objects o c).expires) (λ c. is_leased (Moment moment ∷ h) c o)
          (λ c. ap (λ (r : Remembered). is_some r.expires) (now_is o c)) (clients_of h o);
      covered = covered;
    }
