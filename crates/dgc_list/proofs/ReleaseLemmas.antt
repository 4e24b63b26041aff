-- Room for a client of which nothing is remembered is taken back.
use Rattle.std.proofs.Common.{◌≡◌, ℕ, Bool, true, false, cond, ◌||◌, List, [], ◌∷◌, ◌++◌, Contains, is_some, refl, sym, ap, subst, ◌∙◌}
use Rattle.std.specs.Prelude.{IsTrue}
use Rattle.std.specs.Str.{bytes_eq}
use Rattle.std.proofs.lemmas.Slice.Eq.{bytes_eq-Decides}
use Rattle.space_ids.specs.declared.ids.ObjId.{ObjId}
use Rattle.dgc_list.specs.declared.expiries.Expiry.{Expiry}
use Rattle.dgc_list.specs.declared.list.RefList.{RefList}
use Rattle.dgc_list.specs.declared.remembered.Remembered.{Remembered}
use Rattle.dgc_list.specs.Remembered.{is_blank}
use Rattle.dgc_list.specs.Clients.{remembered_in, is_known, leased, leased_after, IsAlike, Sets}
use Rattle.dgc_list.specs.Objects.{is_same, clients_at, remembered_at, is_named}
use Rattle.dgc_list.specs.History.{Call, IsAfter}
use Rattle.dgc_list.proofs.CallsLemmas.{leased_after-same, named-other}
use Rattle.dgc_list.proofs.ObjectsLemmas.{same-object}

pub alike-refl : (es : List (List ℕ × Remembered)) → IsAlike es es
alike-refl es = record { remembered = λ _. refl; leased = refl }

pub alike-trans : (a b c : List (List ℕ × Remembered)) → IsAlike a b → IsAlike b c → IsAlike a c
alike-trans a b c first second = record { remembered = λ o. second.remembered o ∙ first.remembered o; leased = second.leased ∙ first.leased }

-- what is set is what was remembered
alike-set : (client : List ℕ) (r : Remembered) (old new : List (List ℕ × Remembered)) → r ≡ remembered_in old client → Sets client r old new → IsAlike old new
alike-set client r old new is set = record {
  remembered = λ other. set.remembered_is other ∙ elim (bytes_eq client other) as (λ t. bytes_eq client other ≡ t → cond t r (remembered_in old other) ≡ remembered_in old other) [
    | true ↦ λ h. is ∙ ap (remembered_in old) ((bytes_eq-Decides client other).0 h)
    | false ↦ λ _. refl
  ] refl;
  leased = set.leased_is
      ∙ ap (λ (x : Remembered). leased_after client (is_some (remembered_in old client).expires) (is_some x.expires) (leased old)) is
      ∙ leased_after-same client (is_some (remembered_in old client).expires) (leased old);
}

pub alike-changed : (object : ObjId) (client : List ℕ) (r : Remembered) (old new : List (ObjId × List (List ℕ × Remembered))) → r ≡ remembered_in (clients_at old object) client
    → Sets client r (clients_at old object) (clients_at new object) → ((q : ObjId) → is_same object q ≡ false → clients_at new q ≡ clients_at old q)
    → (q : ObjId) → IsAlike (clients_at old q) (clients_at new q)
alike-changed object client r old new is set others q =
    elim (is_same object q) as (λ t. is_same object q ≡ t → IsAlike (clients_at old q) (clients_at new q)) [
      | true ↦ λ here. subst (λ (o : ObjId). IsAlike (clients_at old o) (clients_at new o)) (same-object object q here)
          (alike-set client r (clients_at old object) (clients_at new object) is set)
      | false ↦ λ apart. subst (λ (es : List (List ℕ × Remembered)). IsAlike (clients_at old q) es) (sym (others q apart)) (alike-refl (clients_at old q))
    ] refl

-- room is taken back at one object more
pub taken-more : (client : List ℕ) (ids : List ObjId) (id : ObjId) (old now new : List (ObjId × List (List ℕ × Remembered)))
    → ((o : ObjId) → IsAlike (clients_at old o) (clients_at now o))
    → ((o : ObjId) → IsTrue (is_named o ids) → IsTrue (is_blank (remembered_at old o client)) → is_known (clients_at now o) client ≡ false)
    → (IsTrue (is_blank (remembered_at now id client)) → is_known (clients_at new id) client ≡ false)
    → ((o : ObjId) → is_same id o ≡ false → clients_at new o ≡ clients_at now o)
    → (o : ObjId) → IsTrue (is_named o (ids ++ id ∷ [])) → IsTrue (is_blank (remembered_at old o client)) → is_known (clients_at new o) client ≡ false
taken-more client ids id old now new alike before here others o named blank =
    elim (is_same id o) as (λ t. is_same id o ≡ t → is_known (clients_at new o) client ≡ false) [
      | true ↦ λ same. subst (λ (x : ObjId). is_known (clients_at new x) client ≡ false) (same-object id o same)
          (here (subst (λ (x : ObjId). IsTrue (is_blank (remembered_at now x client))) (sym (same-object id o same))
          (subst (λ (r : Remembered). IsTrue (is_blank r)) (sym ((alike o).remembered client)) blank)))
      | false ↦ λ apart. subst (λ (es : List (List ℕ × Remembered)). is_known es client ≡ false) (sym (others o apart))
          (before o (sym (named-other o ids id apart) ∙ named) blank)
    ] refl

pub or-blank : (s t : Bool) → t ≡ true → IsTrue (s || t)
or-blank true t h = refl
or-blank false t h = h

pub after-alike : (h : List Call) (old new : RefList) → new.moment ≡ old.moment → ((o : ObjId) → IsAlike (clients_at old.objects o) (clients_at new.objects o))
    → ((other : Expiry) → Contains old.expiries other → Contains new.expiries other) → IsAfter h old → IsAfter h new
after-alike h old new moment alike kept after = record {
  moment = moment ∙ after.moment;
  remembered = λ c o. (alike o).remembered c ∙ after.remembered c o;
  clients = λ o. (alike o).leased ∙ after.clients o;
  covered = λ o c at stands. kept _ (after.covered o c at (ap (λ (r : Remembered). r.expires) (sym ((alike o).remembered c)) ∙ stands));
}
