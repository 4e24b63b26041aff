-- Answers that come on connections that this space dialled: which rule takes each.
use Rattle.std.proofs.Common.{◌≡◌, ℕ, Bool, true, false, cond, List, [], ◌∷◌, ◌++◌, Option, None, Some, refl, sym, ap, ◌∙◌, map, true≢false}
use Rattle.std.specs.Prelude.{◌&&◌, ◌||◌, not, find, fold, option_and_then}
use Rattle.std.specs.Str.{bytes_eq}
use Rattle.dgc_client.specs.Table as client
use Rattle.uuid.specs.declared.Uuid.{Uuid}
use Rattle.std.specs.List.{list_any}
use Rattle.space_ids.specs.declared.value.Value.{Value}
use Rattle.space_ids.specs.declared.value.Value.TheVariants as values
use Rattle.sp_requests.specs.Asking.{asks_by, first_of}
use Rattle.sp_requests.specs.declared.asked.Asker.{Asker}
use Rattle.sp_requests.specs.declared.asked.Asker.TheVariants as asker
use Rattle.sp_requests.specs.declared.asked.ResultKind.{ResultKind}
use Rattle.sp_rules.specs.Behaviours.{Reply, RunsOut, Throws}
use Rattle.sp_rules.specs.Classes.{Setting}
use Rattle.sp_rules.specs.Endings.{close}
use Rattle.sp_rules.specs.Frames.{answered_by, answered_on, ends_as, fits_asked, returned_for, spent_reply}
use Rattle.sp_rules.specs.Holders.{is_refused}
use Rattle.sp_rules.specs.Lists.{with_some}
use Rattle.sp_rules.specs.LivingTasks.{reply_to}
use Rattle.sp_rules.specs.ParkedFrames.{has_number, is_asked_on, is_call_on, is_out_on, is_unanswered_on, park_frame, remove_requests}
use Rattle.sp_rules.specs.References.{foreign_ids, references_in}
use Rattle.sp_rules.specs.State.{State, Asked, Calls, LooksUp, Tells, Connection, Request, ReturnedFrame, Stage, Waits, Out, Answered}
use Rattle.sp_rules.proofs.AllLemmas.{found-is}
use Rattle.sp_transport.specs.Answers.{asker_in}
use Rattle.sp_living.proofs.FoundLemmas.{IsAskedBy}
use Rattle.sp_state.specs.Receiving.{ComesOn, park_returned, refuse_returned}

second : (a b : Bool) → (a && b) ≡ true → b ≡ true
second true b h = h
second false b h = absurd (true≢false (sym h))

no-call : (number : ℕ) (a : Asked) → has_number number a ≡ true → first_of (asks_by a) ≡ None → ⊥
no-call number (Calls n task lent kind m) has none = cc
no-call number (LooksUp n task name) has none = cc
no-call number (Tells call group) has none = true≢false (sym has)

-- nobody asks: nothing is found
pub nobody-asks : (conn number : ℕ) (rs : List Request) → None ≡ option_and_then asker_in (find (is_asked_on conn number) rs) → find (is_asked_on conn number) rs ≡ None
nobody-asks conn number rs none = by (find (is_asked_on conn number) rs) refl none
  where
    by : (o : Option Request) → find (is_asked_on conn number) rs ≡ o → None ≡ option_and_then asker_in o → o ≡ None
    by None there n = refl
    by (Some r) there n = absurd (no-call number r.asked (second (is_unanswered_on conn r.stage) (has_number number r.asked) (found-is (is_asked_on conn number) rs r there)) (sym n))

-- what is asked is out
out-too : (conn number : ℕ) (r : Request) → is_asked_on conn number r ≡ true → is_call_on conn number r ≡ true
out-too conn number r asked = by r.stage asked
  where
    by : (stage : Stage) → (is_unanswered_on conn stage && has_number number r.asked) ≡ true → (is_out_on conn stage && has_number number r.asked) ≡ true
    by Waits asked = asked
    by (Out c sequence) asked = asked
    by (Answered c) asked = absurd (true≢false (sym asked))

pub asked-called : (conn number : ℕ) (rs : List Request) (r : Request) → find (is_asked_on conn number) rs ≡ Some r → (q : Request) × (find (is_call_on conn number) rs ≡ Some q)
asked-called conn number [] r found = cc
asked-called conn number (x ∷ xs) r found = by (is_asked_on conn number x) (is_call_on conn number x) refl refl found (λ later. asked-called conn number xs r later)
  where
    by : (a b : Bool) → is_asked_on conn number x ≡ a → is_call_on conn number x ≡ b → cond a (Some x) (find (is_asked_on conn number) xs) ≡ Some r
        → (find (is_asked_on conn number) xs ≡ Some r → (q : Request) × (find (is_call_on conn number) xs ≡ Some q)) → (q : Request) × (cond b (Some x) (find (is_call_on conn number) xs) ≡ Some q)
    by a true asked called found go = (x, refl)
    by true false asked called found go = absurd (true≢false (sym (out-too conn number x asked) ∙ called))
    by false false asked called found go = go found

-- ---- an answer, to something or to nothing

answered-at : (g : Setting) (c : Connection) (conn number : ℕ) (next : Asked → State → State) (s : State) (o : Option Request) → ComesOn conn s c → find (is_asked_on conn number) s.requests ≡ o
    → answered_by g c number next s ≡ with_some o (close g g.classes.unmarshal conn s) (λ (r : Request). next r.asked s)
unfolding answered_by
answered-at g c conn number next s o on there =
    ap (λ n. with_some (find (is_asked_on n number) s.requests) (close g g.classes.unmarshal n s) (λ (r : Request). next r.asked s)) on.number
    ∙ ap (λ (p : Option Request). with_some p (close g g.classes.unmarshal conn s) (λ (r : Request). next r.asked s)) there

pub answers-nothing : (g : Setting) (c : Connection) (conn number : ℕ) (next : Asked → State → State) (s : State) → ComesOn conn s c → None ≡ option_and_then asker_in (find (is_asked_on conn number) s.requests)
    → answered_by g c number next s ≡ close g g.classes.unmarshal conn s
answers-nothing g c conn number next s on none = answered-at g c conn number next s None on (nobody-asks conn number s.requests none)

pub answers-one : (g : Setting) (c : Connection) (conn number : ℕ) (next : Asked → State → State) (s : State) (by : Asker) → ComesOn conn s c
    → (a : IsAskedBy by (find (is_asked_on conn number) s.requests)) → answered_by g c number next s ≡ next a.row.asked s
answers-one g c conn number next s by on a = answered-at g c conn number next s (Some a.row) on a.there

-- ---- Returned

pub returned-bad : (g : Setting) (c : Connection) (conn number fuel : ℕ) (value : Option Value) (asked : Asked) (s : State) → ComesOn conn s c
    → (not (fits_asked asked value fuel) || list_any (is_refused g s) (references_in value)) ≡ true → returned_for g c number fuel value asked s ≡ refuse_returned g conn number asked s
returned-bad g c conn number fuel value asked s on bad =
    ap (λ n. returned_at n (not (fits_asked asked value fuel) || list_any (is_refused g s) (references_in value))) on.number ∙ ap (returned_at conn) bad
  where
    returned_at : ℕ → Bool → State
    returned_at n b = cond b (refuse_returned g n number asked s)
        (park_frame g n number (ReturnedFrame value fuel) (foreign_ids g.id (references_in value)) (record s { requests = map (answered_on n number) s.requests }))

pub returned-good : (g : Setting) (c : Connection) (conn number fuel : ℕ) (value : Option Value) (asked : Asked) (s : State) → ComesOn conn s c
    → (not (fits_asked asked value fuel) || list_any (is_refused g s) (references_in value)) ≡ false → returned_for g c number fuel value asked s ≡ park_returned g conn number fuel value s
returned-good g c conn number fuel value asked s on good =
    ap (λ n. returned_at n (not (fits_asked asked value fuel) || list_any (is_refused g s) (references_in value))) on.number ∙ ap (returned_at conn) good
  where
    returned_at : ℕ → Bool → State
    returned_at n b = cond b (refuse_returned g n number asked s)
        (park_frame g n number (ReturnedFrame value fuel) (foreign_ids g.id (references_in value)) (record s { requests = map (answered_on n number) s.requests }))

-- ---- Threw and Spent

pub ends-at : (g : Setting) (c : Connection) (conn number : ℕ) (reply : Asked → Reply) (asked : Asked) (s : State) → ComesOn conn s c
    → ends_as g c number reply asked s ≡ reply_to g asked (reply asked) (remove_requests (is_call_on conn number) s)
ends-at g c conn number reply asked s on = ap (λ n. reply_to g asked (reply asked) (remove_requests (is_call_on n number) s)) on.number

pub spent-call : (g : Setting) (task lent : ℕ) (kind : ResultKind) (asked : Asked) → first_of (asks_by asked) ≡ Some (asker.Call task lent kind) → spent_reply g asked ≡ RunsOut
spent-call g task lent kind (Calls n t l k m) e = refl
spent-call g task lent kind (LooksUp n t name) e = cc
spent-call g task lent kind (Tells call group) e = cc

pub spent-lookup : (g : Setting) (task : ℕ) (asked : Asked) → first_of (asks_by asked) ≡ Some (asker.Lookup task) → spent_reply g asked ≡ Throws g.classes.unmarshal
spent-lookup g task (Calls n t l k m) e = cc
spent-lookup g task (LooksUp n t name) e = refl
spent-lookup g task (Tells call group) e = cc

-- what is none of these is none
pub none-left : {A : Type 0} (o : Option A) → ((x : A) → o ≡ Some x → ⊥) → o ≡ None
none-left None never = refl
none-left (Some x) never = absurd (never x refl)

-- ---- the reference of a result

pub result-foreign : (own : Uuid) (value : Option Value) → fold client.with_reference [] (foreign_ids own (references_in value)) ≡ foreign_ids own (references_in value)
result-foreign own None = refl
result-foreign own (Some values.Null) = refl
result-foreign own (Some (values.Int n)) = refl
result-foreign own (Some (values.Ints ns)) = refl
result-foreign own (Some (values.Ref r)) = elim (bytes_eq r.space own) as (λ b. fold client.with_reference [] (cond b [] (record { space = r.space; id = r.id } ∷ []) ++ []) ≡ cond b [] (record { space = r.space; id = r.id } ∷ []) ++ []) [ true ↦ refl | false ↦ refl ]
