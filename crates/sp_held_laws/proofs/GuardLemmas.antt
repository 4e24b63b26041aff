-- What a root names is leased, and what is withdrawn nothing holds.
use mathlib.Core.Path.{sym, ap, subst, ◌∙◌}
use Rattle.std.proofs.Common.{arith, inl, inr}
use Rattle.std.proofs.lemmas.Bool.{true≢false, eqb-true, eq-eqb, ltb-false}
use Rattle.std.proofs.lemmas.Slice.Eq.{bytes_eq-Decides}
use Rattle.std.specs.List.{list_any, list_all}
use Rattle.std.specs.Str.{bytes_eq}
use Rattle.std.specs.Prelude.{◌≡◌, refl, ℕ, ◌+◌, ◌≤◌, ◌==◌, ◌&&◌, ◌||◌, not, nat_lt, cond, is_some, Bool, true, false, List, [], ◌∷◌, ◌++◌, Option, None, Some, filter, length, if◌then◌else◌}
use Rattle.dgc_list.specs.Clients.{leased_after}
use Rattle.dgc_list.specs.History as owner
use Rattle.dgc_list.specs.History.{is_told, is_leased, clients_of, remembered_of}
use Rattle.dgc_list.specs.Objects.{is_named, is_same}
use Rattle.dgc_list.specs.Remembered.{is_gone, after_dirty, after_clean, after_moment}
use Rattle.dgc_list.specs.declared.remembered.Remembered.{Remembered}
use Rattle.space_ids.specs.declared.ids.ForeignId.{ForeignId}
use Rattle.space_ids.specs.declared.ids.ObjId.{ObjId}
use Rattle.space_ids.specs.declared.ids.Ref.{Ref}
use Rattle.sp_registry.specs.declared.registry.Binding.{Binding}
use Rattle.uuid.specs.declared.Uuid.{Uuid}
use Rattle.sp_rules.specs.Classes.{Setting, StartRefusal}
use Rattle.sp_rules.specs.Events.{Root}
use Rattle.sp_rules.specs.Holders
use Rattle.sp_rules.specs.Holders.{fields_of, has_reason, lease_now}
use Rattle.sp_rules.specs.Lists.{total}
use Rattle.sp_rules.specs.References.{references_in, references_of, own_ids, is_id, is_id_in}
use Rattle.sp_rules.specs.Refusals
use Rattle.sp_rules.specs.Refusals.{Check, first_refusal, is_root_argument, refuse_if, refuse_start}
use Rattle.sp_rules.specs.State.{State, Living, Object, KeptResult, standing}
use Rattle.sp_rules.proofs.AllLemmas.{some-none, all-pass, all-weaken}
use Rattle.sp_rules.proofs.OwnLemmas.{unrefused, first-of, not-false, and-right}
use Rattle.sp_held_laws.specs.OneObject.{times_of, holders_in, names_of, own_holders, has_entry_of}
use Rattle.sp_held_laws.specs.Guards.{IsOwnOrLeased, RootsNameWhatIsLeased, own_reference, NothingHoldsWhatGoes}

-- ---- roots

-- after the test of the start
started : (why : Option StartRefusal) (rest : List Check) → first_refusal (refuse_start why ++ rest) ≡ None → first_refusal rest ≡ None
started None rest e = e
started (Some why) rest e = absurd (some-none (Refusals.CannotStart why) e)

leased : (g : Setting) (s : State) (r : Ref) → is_root_argument g s r ≡ true → IsOwnOrLeased g s r
leased g s r e = by (bytes_eq r.space g.id) refl e
  where
    by : (b : Bool) → bytes_eq r.space g.id ≡ b → (if b then Holders.is_own_standing g s r else Holders.has_holder g s r && is_some (lease_now s (record { space = r.space; id = r.id })).lease) ≡ true → IsOwnOrLeased g s r
    by true is f = inl is
    by false is f = inr (and-right (Holders.has_holder g s r) _ f)

pub roots_name_what_is_leased : RootsNameWhatIsLeased
roots_name_what_is_leased g lent s method arguments fuel e =
    let tests = started (g.classes.start_refusal g.id method arguments) _ (unrefused g lent s (Root method arguments fuel) e) in
    all-weaken (λ (r : Ref). is_root_argument g s r ≡ true) (IsOwnOrLeased g s) (references_of arguments) (leased g s)
    (all-pass (is_root_argument g s) (references_of arguments) (not-false (list_all (is_root_argument g s) (references_of arguments)) (first-of (not (list_all (is_root_argument g s) (references_of arguments))) Refusals.NotHeld (refuse_if (nat_lt g.limits.fuel fuel) Refusals.WrongKind ++ refuse_if (Rattle.sp_rules.specs.Frames.is_busy s) Refusals.Busy) tests).0))

-- ---- holders of an own object

or-none : (a b : Bool) → a || b ≡ false → (a ≡ false) × (b ≡ false)
or-none true b e = absurd (true≢false e)
or-none false b e = (refl, e)

-- where none passes the test, nothing is counted
total-none : {A : Type 0} (is : A → Bool) (f : A → ℕ) → ((x : A) → is x ≡ false → f x ≡ 0) → (xs : List A) → list_any is xs ≡ false → total f xs ≡ 0
total-none is f k [] e = refl
total-none is f k (x ∷ xs) e =
    let a = or-none (is x) (list_any is xs) e in
    let b : f x ≡ 0 = k x a.0 in
    let c : total f xs ≡ 0 = total-none is f k xs a.1 in omega (arith, b, c)

none-left : {A : Type 0} (is : A → Bool) (xs : List A) → list_any is xs ≡ false → length (filter is xs) ≡ 0
none-left is [] e = refl
none-left {A} is (x ∷ xs) e = let a = or-none (is x) (list_any is xs) e in by (is x) a.0 (none-left is xs a.1)
  where
    by : (b : Bool) → b ≡ false → length (filter is xs) ≡ 0 → length (cond b (x ∷ filter is xs) (filter is xs)) ≡ 0
    by true f rest = absurd (true≢false f)
    by false f rest = rest

same-id : (a b : ObjId) → is_id a b ≡ false → is_id b a ≡ false
same-id a b e = by (b.0 == a.0) refl
  where
    by : (t : Bool) → (b.0 == a.0) ≡ t → t ≡ false
    by true f = absurd (true≢false (sym (eq-eqb a.0 b.0 (sym (eqb-true b.0 a.0 f))) ∙ e))
    by false f = refl

no-times : (own : Uuid) (id : ObjId) (refs : List Ref) → is_id_in (own_ids own refs) id ≡ false → times_of (record { space = own; id = id }) refs ≡ 0
no-times own id [] e = refl
no-times own id (x ∷ refs) e = by (bytes_eq x.space own) e (no-times own id refs)
  where
    r : ForeignId
    r = record { space = own; id = id }

    none : (b : Bool) → b ≡ false → length (filter (Rattle.sp_held_laws.specs.OneObject.is_of r) refs) ≡ 0 → length (cond b (x ∷ filter (Rattle.sp_held_laws.specs.OneObject.is_of r) refs) (filter (Rattle.sp_held_laws.specs.OneObject.is_of r) refs)) ≡ 0
    none true f k = absurd (true≢false f)
    none false f k = k

    by : (b : Bool) → is_id_in ((if b then x.id ∷ [] else []) ++ own_ids own refs) id ≡ false → (is_id_in (own_ids own refs) id ≡ false → times_of r refs ≡ 0)
        → length (cond (b && is_id x.id id) (x ∷ filter (Rattle.sp_held_laws.specs.OneObject.is_of r) refs) (filter (Rattle.sp_held_laws.specs.OneObject.is_of r) refs)) ≡ 0
    by true f rest = let a = or-none (is_id id x.id) (is_id_in (own_ids own refs) id) f in none (is_id x.id id) (same-id id x.id a.0) (rest a.1)
    by false f rest = rest f

-- ---- entries

-- whether a client is listed
lists : List ℕ → List (List ℕ) → Bool
lists c clients = list_any (bytes_eq c) clients

listed-more : (c d : List ℕ) (clients : List (List ℕ)) → lists c clients ≡ true → lists c (clients ++ d ∷ []) ≡ true
unfolding lists
listed-more c d [] e = absurd (true≢false (sym e))
listed-more c d (x ∷ clients) e = by (bytes_eq c x) e (listed-more c d clients)
  where
    by : (b : Bool) → b || list_any (bytes_eq c) clients ≡ true → (list_any (bytes_eq c) clients ≡ true → list_any (bytes_eq c) (clients ++ d ∷ []) ≡ true) → b || list_any (bytes_eq c) (clients ++ d ∷ []) ≡ true
    by true f rest = refl
    by false f rest = rest f

listed-last : (c : List ℕ) (clients : List (List ℕ)) → lists c (clients ++ c ∷ []) ≡ true
unfolding lists
listed-last c [] = Rattle.sp_rules.proofs.AllLemmas.or-left (bytes_eq c c) false ((bytes_eq-Decides c c).1 refl)
listed-last c (x ∷ clients) = Rattle.sp_rules.proofs.AllLemmas.or-right (bytes_eq c x) (list_any (bytes_eq c) (clients ++ c ∷ [])) (listed-last c clients)

listed-left : (c : List ℕ) (is : List ℕ → Bool) (clients : List (List ℕ)) → is c ≡ true → lists c clients ≡ true → lists c (filter is clients) ≡ true
unfolding lists
listed-left c is [] p e = e
listed-left c is (x ∷ clients) p e = by (bytes_eq c x) refl (is x) refl e (listed-left c is clients p)
  where
    by : (b : Bool) → bytes_eq c x ≡ b → (k : Bool) → is x ≡ k → b || list_any (bytes_eq c) clients ≡ true → (list_any (bytes_eq c) clients ≡ true → list_any (bytes_eq c) (filter is clients) ≡ true)
        → list_any (bytes_eq c) (cond k (x ∷ filter is clients) (filter is clients)) ≡ true
    by true f true g h rest = Rattle.sp_rules.proofs.AllLemmas.or-left (bytes_eq c x) _ f
    by true f false g h rest = absurd (true≢false (sym p ∙ (ap is ((bytes_eq-Decides c x).0 f) ∙ g)))
    by false f true g h rest = Rattle.sp_rules.proofs.AllLemmas.or-right (bytes_eq c x) _ (rest h)
    by false f false g h rest = rest h

-- one client's entry changes
listed-after : (client c : List ℕ) (was now before later : Bool) (clients : List (List ℕ)) → (bytes_eq client c ≡ true → (later ≡ now) × (before ≡ was)) → (bytes_eq client c ≡ false → later ≡ before)
    → (before ≡ true → lists c clients ≡ true) → later ≡ true → lists c (leased_after client was now clients) ≡ true
unfolding lists
listed-after client c was now before later clients own others listed is = by (bytes_eq client c) refl was refl now refl
  where
    by : (b : Bool) → bytes_eq client c ≡ b → (w : Bool) → was ≡ w → (n : Bool) → now ≡ n → list_any (bytes_eq c) (leased_after client w n clients) ≡ true
    by true f true g true h = listed ((own f).1 ∙ g)
    by true f true g false h = absurd (true≢false (sym is ∙ ((own f).0 ∙ h)))
    by true f false g true h = subst (λ d. list_any (bytes_eq c) (clients ++ d ∷ []) ≡ true) (sym ((bytes_eq-Decides client c).0 f)) (listed-last c clients)
    by true f false g false h = absurd (true≢false (sym is ∙ ((own f).0 ∙ h)))
    by false f true g true h = listed (sym (others f) ∙ is)
    by false f true g false h = listed-left c (λ d. not (bytes_eq client d)) clients (ap not f) (listed (sym (others f) ∙ is))
    by false f false g true h = listed-more c client clients (listed (sym (others f) ∙ is))
    by false f false g false h = listed (sym (others f) ∙ is)

-- a call of a client on some objects changes what is remembered of it and them alone
listed-call : (client c : List ℕ) (named : Bool) (f : Remembered → Remembered) (rc rclient : Remembered) (clients : List (List ℕ)) → (bytes_eq client c ≡ true → rclient ≡ rc)
    → (is_some rc.expires ≡ true → lists c clients ≡ true) → is_some (if bytes_eq client c && named then f rc else rc).expires ≡ true
    → lists c (if named then leased_after client (is_some rclient.expires) (is_some (if bytes_eq client client && named then f rclient else rclient).expires) clients else clients) ≡ true
listed-call client c true f rc rclient clients same listed is = listed-after client c (is_some rclient.expires) (is_some (if bytes_eq client client && true then f rclient else rclient).expires) (is_some rc.expires) (is_some (if bytes_eq client c && true then f rc else rc).expires) clients own others listed is
  where
    own : bytes_eq client c ≡ true → (is_some (if bytes_eq client c && true then f rc else rc).expires ≡ is_some (if bytes_eq client client && true then f rclient else rclient).expires) × (is_some rc.expires ≡ is_some rclient.expires)
    own e = (
      ap {A = Bool} {B = Bool} (λ b. is_some (if b && true then f rc else rc).expires) e
          ∙ (ap (λ (r : Remembered). is_some (f r).expires) (sym (same e)) ∙ ap {A = Bool} {B = Bool} (λ b. is_some (if b && true then f rclient else rclient).expires) (sym ((bytes_eq-Decides client client).1 refl))),
      ap (λ (r : Remembered). is_some r.expires) (sym (same e)),
    )

    others : bytes_eq client c ≡ false → is_some (if bytes_eq client c && true then f rc else rc).expires ≡ is_some rc.expires
    others e = ap {A = Bool} {B = Bool} (λ b. is_some (if b && true then f rc else rc).expires) e
listed-call client c false f rc rclient clients same listed is = listed (by (bytes_eq client c) is)
  where
    by : (b : Bool) → is_some (if b && false then f rc else rc).expires ≡ true → is_some rc.expires ≡ true
    by true e = e
    by false e = e

-- a client with an entry is listed
leased-listed : (h : List owner.Call) (o : ObjId) (c : List ℕ) → is_leased h c o ≡ true → lists c (clients_of h o) ≡ true
leased-listed [] o c e = absurd (true≢false (sym e))
leased-listed (owner.Dirty client objects number period ∷ h) o c e =
    listed-call client c (is_named o objects) (after_dirty number (owner.moment_of h + owner.granted period)) (remembered_of h c o) (remembered_of h client o) (clients_of h o)
    (λ f. ap (λ (d : List ℕ). remembered_of h d o) ((bytes_eq-Decides client c).0 f)) (leased-listed h o c) e
leased-listed (owner.Clean client objects number strong ∷ h) o c e =
    listed-call client c (is_named o objects) (after_clean number strong) (remembered_of h c o) (remembered_of h client o) (clients_of h o)
    (λ f. ap (λ (d : List ℕ). remembered_of h d o) ((bytes_eq-Decides client c).0 f)) (leased-listed h o c) e
leased-listed (owner.Moment moment ∷ h) o c e = listed-left c (λ d. is_leased (owner.Moment moment ∷ h) d o) (clients_of h o) e (leased-listed h o c (by (nat_lt moment (owner.moment_of h)) e))
  where
    still : (b : Bool) (r : Remembered) → is_some (if b then record { number = (if r.strong then r.number else None); strong = r.strong; expires = None } else r).expires ≡ true → is_some r.expires ≡ true
    still true r f = absurd (true≢false (sym f))
    still false r f = f

    by : (b : Bool) → is_some (if b then remembered_of h c o else after_moment moment (remembered_of h c o)).expires ≡ true → is_some (remembered_of h c o).expires ≡ true
    by true f = f
    by false f = still (is_gone moment (remembered_of h c o).expires) (remembered_of h c o) f
leased-listed (owner.Forget object ∷ h) o c e = by (is_same object o) e (leased-listed h o c)
  where
    by : (b : Bool) → is_some (if b then Rattle.dgc_list.specs.Remembered.blank else remembered_of h c o).expires ≡ true → (is_some (remembered_of h c o).expires ≡ true → lists c (clients_of h o) ≡ true) → lists c (if b then [] else clients_of h o) ≡ true
    by true f rest = absurd (true≢false (sym f))
    by false f rest = rest f

-- ---- what goes

pub nothing_holds_what_goes : NothingHoldsWhatGoes
unfolding has_reason lists
nothing_holds_what_goes s id e =
    let g : Setting = s.setting in
    let t : State = s.state in
    let a = or-none (Holders.is_bound t id) _ e in
    let b = or-none (Holders.has_entry t id) _ a.1 in
    let c = or-none (Holders.is_held_by_tasks g t id) _ b.1 in
    let d = or-none (Holders.is_in_a_field g t id) _ c.1 in
    let f = or-none (Holders.is_in_a_result g t id) _ d.1 in
    let names : names_of id s ≡ 0 = none-left (λ (x : Binding). is_id x.object id) t.owner.names a.0 in
    let tasks : total (λ (x : Living). times_of (own_reference s id) x.task.held) t.tasks ≡ 0 = total-none (λ (x : Living). is_id_in (own_ids g.id x.task.held) id) (λ (x : Living). times_of (own_reference s id) x.task.held) (λ x k. no-times g.id id x.task.held k) t.tasks c.0 in
    let fields : total (λ (o : Object). times_of (own_reference s id) (references_of (fields_of g t o))) (standing t.store) ≡ 0 = total-none (λ (o : Object). is_id_in (own_ids g.id (references_of (fields_of g t o))) id) (λ (o : Object). times_of (own_reference s id) (references_of (fields_of g t o))) (λ o k. no-times g.id id (references_of (fields_of g t o)) k) (standing t.store) d.0 in
    let results : total (λ (k : KeptResult). times_of (own_reference s id) (references_in k.value)) t.results ≡ 0 = total-none (λ (k : KeptResult). is_id_in (own_ids g.id (references_in k.value)) id) (λ (k : KeptResult). times_of (own_reference s id) (references_in k.value)) (λ x k. no-times g.id id (references_in x.value) k) t.results f.0 in
    (omega (arith, names, tasks, fields, results), λ client. none (clients_of t.owner.entries id) b.0 client (leased-listed t.owner.entries id client))
  where
    none : (clients : List (List ℕ)) → nat_lt 0 (length clients) ≡ false → (client : Uuid) → (is_leased s.state.owner.entries client id ≡ true → list_any (bytes_eq client) clients ≡ true) → is_leased s.state.owner.entries client id ≡ false
    none [] e client listed = by (is_leased s.state.owner.entries client id) refl
      where
        by : (b : Bool) → is_leased s.state.owner.entries client id ≡ b → b ≡ false
        by true f = absurd (true≢false (sym (listed f)))
        by false f = refl
    none (x ∷ xs) e client listed = let a : length (x ∷ xs) ≤ 0 = ltb-false 0 (length (x ∷ xs)) e in absurd (omega (arith, a))
