use Rattle.std.proofs.Common.{◌≡◌, ℕ, Bool, true, false, cond, ◌&&◌, ◌||◌, List, [], ◌∷◌, ◌++◌, zero, suc, ◌+◌, ◌<◌, length, get_or, take, filter, max, is_some, Option, None, Some, refl, sym, ap, subst, ◌∙◌, arith}
use Rattle.std.specs.Prelude.{All, unwrap_or, if◌then◌else◌, map, slice_get, nat_lt}
use Rattle.std.specs.List.{IsDistinct, filter_map, cons_option}
use Rattle.std.specs.Map.{lookup, keys_of}
use Rattle.indexmap.specs.IndexMap.{set_value_at}
use Rattle.std.proofs.lemmas.Bool.Decides.{nat_tests}
use Rattle.std.proofs.lemmas.Bool.{false≢true}
use Rattle.std.proofs.lemmas.List.{take_more}
use Rattle.std.proofs.lemmas.List.Elements.{All-nil, All-cons}
use Rattle.std.proofs.lemmas.Map.Entries.{lookup_from_place}
use Rattle.space_ids.specs.declared.ids.ObjId.{ObjId}
use Rattle.dgc_client.specs.declared.lease.Change.{Change}
use Rattle.dgc_client.specs.declared.lease.Change.TheVariants as change
use Rattle.dgc_client.specs.declared.lease.ClientLease.{ClientLease}
use Rattle.dgc_client.specs.declared.groups.DueCall.{DueCall}
use Rattle.dgc_client.specs.declared.lease.Due.{Due}
use Rattle.dgc_client.specs.declared.lease.Due.TheVariants.{Dirty, Clean}
use Rattle.space_ids.specs.declared.ids.ForeignId.{ForeignId}
use Rattle.dgc_client.specs.declared.table.Clients.{Clients}
use Rattle.dgc_client.specs.Groups.{is_clean}
use Rattle.dgc_client.specs.Lease.{fresh, after_moment, due}
use Rattle.dgc_client.specs.History.{Event, lease_of, after, event_of}
use Rattle.dgc_client.specs.Table.{Told, is_same, is_among, is_hold, with_reference, held, own, moment_of, leases_of, lease_at, is_known, Puts, IsAfter, on_each, references_at, making, made_each, due_of, IsSound}
use Rattle.dgc_client.specs.Table.Told.{On, At}
use Rattle.dgc_client.specs.declared.picked.Question.{Question}
use Rattle.dgc_client.specs.Touched.{due_call, holds, reference_of}
use Rattle.dgc_client.proofs.LeaseLemmas.{clean-unheld}
use Rattle.dgc_client.proofs.KeptLemmas.{same-reference, same-laws}

-- a reference has an index in the table if it is among the keys
pub known-among : (r : ForeignId) (es : List (ForeignId × ClientLease)) → is_some (lookup (is_same r) es) ≡ is_among r (keys_of es)
known-among r [] = refl
known-among r (e ∷ es) = elim (is_same r e.0) as (λ t. is_some (cond t (Some e.1) (lookup (is_same r) es)) ≡ (t || is_among r (keys_of es))) [ true ↦ refl | false ↦ known-among r es ]

pub or-fresh : (t : Bool) (w : ClientLease) (x : Option ClientLease) (l : ClientLease) → unwrap_or (cond t (Some w) x) l ≡ cond t w (unwrap_or x l)
or-fresh true w x l = refl
or-fresh false w x l = refl

-- what the table keeps after a write of one reference
pub each-after : (reference : ForeignId) (lease : ClientLease) (old new : Clients) → new.leases.moment ≡ old.leases.moment
    → ((q : ForeignId) → lookup (is_same q) (leases_of new.leases) ≡ cond (is_same reference q) (Some lease) (lookup (is_same q) (leases_of old.leases)))
    → (q : ForeignId) → lease_at new q ≡ cond (is_same reference q) lease (lease_at old q)
each-after reference lease old new moment at q =
    ap (λ o. unwrap_or o (fresh new.leases.moment)) (at q) ∙ ap (λ m. unwrap_or (cond (is_same reference q) (Some lease) (lookup (is_same q) (leases_of old.leases))) (fresh m)) moment
    ∙ or-fresh (is_same reference q) lease (lookup (is_same q) (leases_of old.leases)) (fresh old.leases.moment)

-- a write of one reference that is known
pub puts : (reference : ForeignId) (lease : ClientLease) (old new : Clients) → new.leases.moment ≡ old.leases.moment → new.numbers ≡ old.numbers
    → keys_of (leases_of new.leases) ≡ keys_of (leases_of old.leases)
    → ((q : ForeignId) → lookup (is_same q) (leases_of new.leases) ≡ cond (is_same reference q) (Some lease) (lookup (is_same q) (leases_of old.leases)))
    → (IsSound old → IsSound new) → Puts reference lease old new
puts reference lease old new moment numbers keys at sound = record { moment = moment; numbers = numbers; keys = keys; each = each-after reference lease old new moment at; sound = sound }

counted : (s x : Bool) (a b : List Event) → x ≡ true → cond (s && x) a b ≡ cond s a b
counted true x a b e = ap (λ t. cond t a b) e
counted false x a b e = refl

uncounted : (s x : Bool) (a b : List Event) → x ≡ false → cond (s && x) a b ≡ b
uncounted true x a b e = ap (λ t. cond t a b) e
uncounted false x a b e = refl

-- an event of one reference, from the write that makes it
pub after-event : (h : List Told) (old new : Clients) (reference : ForeignId) (event : Event) (lease : ClientLease)
    → new.leases.moment ≡ old.leases.moment → new.numbers ≡ old.numbers
    → keys_of (leases_of new.leases) ≡ (if is_hold event then with_reference (keys_of (leases_of old.leases)) reference else keys_of (leases_of old.leases))
    → ((q : ForeignId) → lease_at new q ≡ cond (is_same reference q) lease (lease_at old q))
    → (is_hold event || is_among reference (keys_of (leases_of old.leases))) ≡ true
    → lease ≡ after event (lease_at old reference) → (IsSound old → IsSound new) → IsAfter h old → IsAfter (On reference event ∷ h) new
after-event h old new reference event lease moment numbers keys each counts is covered was =
    let told : (is_hold event || is_among reference (held h)) ≡ true = ap (λ (ks : List ForeignId). is_hold event || is_among reference ks) (sym was.held) ∙ counts in
    record {
      moment = moment ∙ was.moment;
      numbers = numbers ∙ was.numbers;
      held = keys ∙ ap (λ (ks : List ForeignId). if is_hold event then with_reference ks reference else ks) was.held;
      each = λ q. each q ∙ (elim (is_same reference q) as (λ t. is_same reference q ≡ t → cond t lease (lease_at old q) ≡ lease_of (cond t (event ∷ own q h) (own q h))) [
        | true ↦ λ same. subst (λ (r : ForeignId). lease ≡ after event (lease_of (own r h))) (same-reference reference q same) (is ∙ ap (after event) (was.each reference))
        | false ↦ λ _. was.each q
      ] refl) ∙ ap lease_of (sym (counted (is_same reference q) (is_hold event || is_among reference (held h)) (event ∷ own q h) (own q h) told));
      sound = covered was.sound;
    }

-- an event at a reference that was never held is none of its events
pub after-nothing : (h : List Told) (clients : Clients) (reference : ForeignId) (event : Event) → is_hold event ≡ false → is_among reference (keys_of (leases_of clients.leases)) ≡ false
    → IsAfter h clients → IsAfter (On reference event ∷ h) clients
after-nothing h clients reference event new_none absent was =
    let untold : (is_hold event || is_among reference (held h)) ≡ false =
    ap (λ (ks : List ForeignId). is_hold event || is_among reference ks) (sym was.held) ∙ ap (λ t. t || is_among reference (keys_of (leases_of clients.leases))) new_none ∙ absent in
    record {
      moment = was.moment;
      numbers = was.numbers;
      held = was.held ∙ ap (λ t. if t then with_reference (held h) reference else held h) (sym new_none);
      each = λ q. was.each q ∙ ap lease_of (sym (uncounted (is_same reference q) (is_hold event || is_among reference (held h)) (event ∷ own q h) (own q h) untold));
      sound = was.sound;
    }

-- no change is a new holder
pub no-hold : (change : Change) → is_hold (event_of change) ≡ false
no-hold change.Dropped = refl
no-hold (change.DirtyMade call) = refl
no-hold (change.CleanMade call) = refl
no-hold (change.DirtySent call) = refl
no-hold (change.DirtyAnswered call period) = refl
no-hold (change.DirtyFailed call) = refl
no-hold (change.CleanAnswered call) = refl
no-hold (change.CleanFailed call) = refl

-- a change, from what is put at the reference if it is known
pub after-change : (h : List Told) (old new : Clients) (reference : ForeignId) (change : Change) (lease : ClientLease)
    → (is_known old reference ≡ true → Puts reference lease old new) → (is_known old reference ≡ false → new ≡ old)
    → lease ≡ after (event_of change) (lease_at old reference) → IsAfter h old → IsAfter (On reference (event_of change) ∷ h) new
after-change h old new reference change lease put left is was = by (is_known old reference) refl
  where
    by : (t : Bool) → is_known old reference ≡ t → IsAfter (On reference (event_of change) ∷ h) new
    by true known =
        let p = put known in
        after-event h old new reference (event_of change) lease p.moment p.numbers (p.keys ∙ ap (λ t. if t then with_reference (keys_of (leases_of old.leases)) reference else keys_of (leases_of old.leases)) (sym (no-hold change)))
        p.each (ap (λ t. t || is_among reference (keys_of (leases_of old.leases))) (no-hold change) ∙ sym (known-among reference (leases_of old.leases)) ∙ known) is p.sound was
    by false unknown = subst (λ (l : Clients). IsAfter (On reference (event_of change) ∷ h) l) (sym (left unknown))
        (after-nothing h old reference (event_of change) (no-hold change) (sym (known-among reference (leases_of old.leases)) ∙ unknown) was)

-- a new holder
pub after-held : (h : List Told) (old new : Clients) (reference : ForeignId) (event : Event) (lease : ClientLease) → is_hold event ≡ true
    → new.leases.moment ≡ old.leases.moment → new.numbers ≡ old.numbers → keys_of (leases_of new.leases) ≡ with_reference (keys_of (leases_of old.leases)) reference
    → ((q : ForeignId) → lookup (is_same q) (leases_of new.leases) ≡ cond (is_same reference q) (Some lease) (lookup (is_same q) (leases_of old.leases)))
    → lease ≡ after event (lease_at old reference) → (IsSound old → IsSound new) → IsAfter h old → IsAfter (On reference event ∷ h) new
after-held h old new reference event lease holds moment numbers keys at is covered was =
    after-event h old new reference event lease moment numbers
    (keys ∙ ap (λ t. if t then with_reference (keys_of (leases_of old.leases)) reference else keys_of (leases_of old.leases)) (sym holds))
    (each-after reference lease old new moment at) (ap (λ t. t || is_among reference (keys_of (leases_of old.leases))) holds) is covered was

on-each-push : (rs : List ForeignId) (r : ForeignId) (event : Event) (h : List Told) → on_each (rs ++ r ∷ []) event h ≡ On r event ∷ on_each rs event h
on-each-push [] r event h = refl
on-each-push (x ∷ rs) r event h = on-each-push rs r event (On x event ∷ h)

references-push : (peer : List ℕ) (ids : List ObjId) (id : ObjId) → references_at peer (ids ++ id ∷ []) ≡ references_at peer ids ++ record { space = peer; id = id } ∷ []
references-push peer [] id = refl
references-push peer (x ∷ ids) id = ap (λ (rest : List ForeignId). record { space = peer; id = x } ∷ rest) (references-push peer ids id)

told-one : (peer : List ℕ) (ids : List ObjId) (i : ℕ) (d : ObjId) (event : Event) (h : List Told) → i < length ids
    → on_each (references_at peer (take (i + 1) ids)) event h ≡ On (record { space = peer; id = get_or ids i d }) event ∷ on_each (references_at peer (take i ids)) event h
told-one peer ids i d event h below =
    ap (λ (xs : List ObjId). on_each (references_at peer xs) event h) (take_more ids i d below)
    ∙ ap (λ (rs : List ForeignId). on_each rs event h) (references-push peer (take i ids) (get_or ids i d))
    ∙ on-each-push (references_at peer (take i ids)) (record { space = peer; id = get_or ids i d }) event h

-- the event of one more reference of a group
pub told-next : (peer : List ℕ) (ids shown : List ObjId) (i : ℕ) (d : ObjId) (event : Event) (h : List Told) → shown ≡ ids → i < length shown
    → on_each (references_at peer (take (i + 1) ids)) event h ≡ On (record { space = peer; id = get_or shown i d }) event ∷ on_each (references_at peer (take i ids)) event h
told-next peer ids shown i d event h is below =
    subst (λ (xs : List ObjId). on_each (references_at peer (take (i + 1) xs)) event h ≡ On (record { space = peer; id = get_or shown i d }) event ∷ on_each (references_at peer (take i xs)) event h) is
    (told-one peer shown i d event h below)

made-push : (calls : List DueCall) (x : DueCall) (call : ℕ) (h : List Told) → made_each (calls ++ x ∷ []) call h ≡ On x.reference (making x.kind call) ∷ made_each calls call h
made-push [] x call h = refl
made-push (c ∷ calls) x call h = made-push calls x call (On c.reference (making c.kind call) ∷ h)

-- the calls so far that are made, and the next
pub made-next : (calls : List DueCall) (i : ℕ) (d : DueCall) (call : ℕ) (h : List Told) → i < length calls
    → made_each (take (i + 1) calls) call h ≡ On (get_or calls i d).reference (making (get_or calls i d).kind call) ∷ made_each (take i calls) call h
made-next calls i d call h below =
    ap (λ (xs : List DueCall). made_each xs call h) (take_more calls i d below) ∙ made-push (take i calls) (get_or calls i d) call h

-- entries whose values a function of the keys tells
entries-told : (f : ForeignId → ClientLease) (es : List (ForeignId × ClientLease)) → ((i : ℕ) (k : ForeignId) (v : ClientLease) → slice_get es i ≡ Some (k, v) → f k ≡ v)
    → es ≡ map (λ (k : ForeignId). (k, f k)) (keys_of es)
entries-told f [] tells = refl
entries-told f (e ∷ es) tells = λ j. (e.0, sym (tells zero e.0 e.1 refl) j) ∷ entries-told f es (λ i. tells (suc i)) j

-- the entries are what the history leaves of each reference that was held
pub entries-are : (h : List Told) (clients : Clients) → IsDistinct is_same (keys_of (leases_of clients.leases)) → IsAfter h clients
    → (leases_of clients.leases) ≡ map (λ (k : ForeignId). (k, lease_of (own k h))) (held h)
entries-are h clients distinct was =
    entries-told (λ k. lease_of (own k h)) (leases_of clients.leases)
    (λ i k v at. sym (was.each k) ∙ ap (λ o. unwrap_or o (fresh clients.leases.moment)) (lookup_from_place same-laws (leases_of clients.leases) i k v distinct at))
    ∙ ap (λ (ks : List ForeignId). map (λ (k : ForeignId). (k, lease_of (own k h))) ks) was.held

due-map : (f : ForeignId → ClientLease) (ks : List ForeignId)
    → filter_map (λ (e : ForeignId × ClientLease). due_call e.0 (due e.1)) (map (λ (k : ForeignId). (k, f k)) ks) ≡ filter_map (λ (k : ForeignId). due_call k (due (f k))) ks
due-map f [] = refl
due-map f (k ∷ ks) = ap (cons_option (due_call k (due (f k)))) (due-map f ks)

-- the due calls, from the entries
pub due-calls : (h : List Told) (clients : Clients) (calls : List DueCall) → IsDistinct is_same (keys_of (leases_of clients.leases))
    → calls ≡ filter_map (λ (e : ForeignId × ClientLease). due_call e.0 (due e.1)) (leases_of clients.leases) → IsAfter h clients → calls ≡ due_of h
due-calls h clients calls distinct is was =
    is ∙ ap (λ (es : List (ForeignId × ClientLease)). filter_map (λ (e : ForeignId × ClientLease). due_call e.0 (due e.1)) es) (entries-are h clients distinct was)
    ∙ due-map (λ k. lease_of (own k h)) (held h)

-- the references of clean calls have no holders
pub cleans-unheld : (f : ForeignId → ClientLease) (ks : List ForeignId) → All (λ (call : DueCall). is_clean call ≡ true → (f call.reference).holders ≡ 0) (filter_map (λ (k : ForeignId). due_call k (due (f k))) ks)
cleans-unheld f [] = All-nil (λ (call : DueCall). is_clean call ≡ true → (f call.reference).holders ≡ 0)
cleans-unheld f (k ∷ ks) = by (due (f k)) refl (cleans-unheld f ks)
  where
    by : (o : Option Due) → due (f k) ≡ o → All (λ (call : DueCall). is_clean call ≡ true → (f call.reference).holders ≡ 0) (filter_map (λ (k : ForeignId). due_call k (due (f k))) ks)
        → All (λ (call : DueCall). is_clean call ≡ true → (f call.reference).holders ≡ 0) (cons_option (due_call k o) (filter_map (λ (k : ForeignId). due_call k (due (f k))) ks))
    by None e rest = rest
    by (Some Dirty) e rest = All-cons (λ (call : DueCall). is_clean call ≡ true → (f call.reference).holders ≡ 0) _ _ (λ clean. absurd (false≢true clean)) rest
    by (Some (Clean strong)) e rest = All-cons (λ (call : DueCall). is_clean call ≡ true → (f call.reference).holders ≡ 0) _ _ (λ clean. clean-unheld (f k) strong e) rest

fresh-moment : (m n : ℕ) → fresh (max n m) ≡ after_moment m (fresh n)
fresh-moment m n = elim (nat_lt m n) as (λ t. nat_lt m n ≡ t → fresh (max n m) ≡ cond t (fresh n) (fresh m)) [
  | true ↦ λ h. let greatest : max n m ≡ n = grind (arith, nat_tests) in ap fresh greatest
  | false ↦ λ h. let greatest : max n m ≡ m = grind (arith, nat_tests) in ap fresh greatest
] refl

passed : (m n : ℕ) (r : ForeignId) (es : List (ForeignId × ClientLease))
    → unwrap_or (lookup (is_same r) (map (λ (e : ForeignId × ClientLease). (e.0, after_moment m e.1)) es)) (fresh (max n m)) ≡ after_moment m (unwrap_or (lookup (is_same r) es) (fresh n))
passed m n r [] = fresh-moment m n
passed m n r (e ∷ es) = elim (is_same r e.0) as (λ t. unwrap_or (cond t (Some (after_moment m e.1)) (lookup (is_same r) (map (λ (e : ForeignId × ClientLease). (e.0, after_moment m e.1)) es))) (fresh (max n m))
    ≡ after_moment m (unwrap_or (cond t (Some e.1) (lookup (is_same r) es)) (fresh n))) [ true ↦ refl | false ↦ passed m n r es ]

passed-keys : (m : ℕ) (es : List (ForeignId × ClientLease)) → keys_of (map (λ (e : ForeignId × ClientLease). (e.0, after_moment m e.1)) es) ≡ keys_of es
passed-keys m [] = refl
passed-keys m (e ∷ es) = ap (λ (rest : List ForeignId). e.0 ∷ rest) (passed-keys m es)

pub keys-set : (es : List (ForeignId × ClientLease)) (i : ℕ) (l : ClientLease) → keys_of (set_value_at es i l) ≡ keys_of es
keys-set [] i l = refl
keys-set (e ∷ es) zero l = refl
keys-set (e ∷ es) (suc i) l = ap (λ (rest : List ForeignId). e.0 ∷ rest) (keys-set es i l)

questioned : (question : Question) (f : ForeignId → ClientLease) (ks : List ForeignId)
    → filter_map (reference_of question) (map (λ (k : ForeignId). (k, f k)) ks) ≡ filter (λ (k : ForeignId). holds question (f k)) ks
questioned question f [] = refl
questioned question f (k ∷ ks) =
    elim (holds question (f k)) as (λ t. cons_option (cond t (Some k) None) (filter_map (reference_of question) (map (λ (k : ForeignId). (k, f k)) ks)) ≡ cond t (k ∷ filter (λ (k : ForeignId). holds question (f k)) ks) (filter (λ (k : ForeignId). holds question (f k)) ks))
    [ true ↦ ap (λ (rest : List ForeignId). k ∷ rest) (questioned question f ks) | false ↦ questioned question f ks ]

-- the references of which a question holds, from the leases
pub picked : (question : Question) (h : List Told) (clients : Clients) (references : List ForeignId) → IsDistinct is_same (keys_of (leases_of clients.leases))
    → references ≡ filter_map (reference_of question) (leases_of clients.leases) → IsAfter h clients
    → references ≡ filter (λ (r : ForeignId). holds question (lease_of (own r h))) (held h)
picked question h clients references distinct is was =
    is ∙ ap (λ (es : List (ForeignId × ClientLease)). filter_map (reference_of question) es) (entries-are h clients distinct was) ∙ questioned question (λ k. lease_of (own k h)) (held h)

-- a moment, from what it makes of each reference
pub after-pass : (h : List Told) (old new : Clients) (m : ℕ) → new.leases.moment ≡ max old.leases.moment m → new.numbers ≡ old.numbers
    → (leases_of new.leases) ≡ map (λ (e : ForeignId × ClientLease). (e.0, after_moment m e.1)) (leases_of old.leases) → (IsSound old → IsSound new)
    → IsAfter h old → IsAfter (At m ∷ h) new
after-pass h old new m moment numbers is all was = record {
  moment = moment ∙ ap (λ n. max n m) was.moment ∙ (let flipped : max (moment_of h) m ≡ max m (moment_of h) = omega arith in flipped);
  numbers = numbers ∙ was.numbers;
  held = ap (λ (es : List (ForeignId × ClientLease)). keys_of es) is ∙ passed-keys m (leases_of old.leases) ∙ was.held;
  each = λ r. ap (λ n. unwrap_or (lookup (is_same r) (leases_of new.leases)) (fresh n)) moment
      ∙ ap (λ (es : List (ForeignId × ClientLease)). unwrap_or (lookup (is_same r) es) (fresh (max old.leases.moment m))) is
      ∙ passed m old.leases.moment r (leases_of old.leases) ∙ ap (after_moment m) (was.each r);
  sound = all was.sound;
}

-- but for the references that may have a call due, the table is the same
pub after-touched : (h : List Told) (old new : Clients) → new.leases.moment ≡ old.leases.moment → new.numbers ≡ old.numbers → (leases_of new.leases) ≡ (leases_of old.leases)
    → IsSound new → IsAfter h old → IsAfter h new
after-touched h old new moment numbers entries covered was = record {
  moment = moment ∙ was.moment;
  numbers = numbers ∙ was.numbers;
  held = ap (λ (es : List (ForeignId × ClientLease)). keys_of es) entries ∙ was.held;
  each = λ r. (λ i. unwrap_or (lookup (is_same r) (entries i)) (fresh (moment i))) ∙ was.each r;
  sound = covered;
}
