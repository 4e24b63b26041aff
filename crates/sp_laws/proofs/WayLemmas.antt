-- The moves of requests and leases that keep each dirty and clean call of a reference among the requests or under way.
use mathlib.Core.Path.{sym, ap, subst}
use Rattle.std.proofs.Common.{arith}
use Rattle.std.proofs.lemmas.Bool.{true≢false, eqb-true, eq-eqb, leb-false}
use Rattle.std.specs.Prelude.{◌≡◌, refl, ℕ, ◌+◌, ◌≤◌, ◌<◌, ◌==◌, ◌&&◌, not, nat_le, Bool, true, false, cond, List, [], ◌∷◌, ◌++◌, Some, filter, find, map, if◌then◌else◌}
use Rattle.dgc_client.specs.declared.groups.Group.{Group}
use Rattle.dgc_client.specs.declared.lease.Due.{Due}
use Rattle.dgc_client.specs.declared.lease.Due.TheVariants as due
use Rattle.dgc_client.specs.History.{Event}
use Rattle.dgc_client.specs.History.Event.{DirtySent}
use Rattle.dgc_client.specs.Table as client
use Rattle.dgc_client.specs.Table.{Told, On, At, Numbered, is_among, own, held, references_at, numbers_of}
use Rattle.space_ids.specs.declared.ids.ForeignId.{ForeignId}
use Rattle.sp_rules.specs.Classes.{Setting}
use Rattle.sp_rules.specs.Endings.{is_group}
use Rattle.sp_rules.specs.Frames
use Rattle.sp_rules.specs.Frames.{tells_of, is_dirty_kind}
use Rattle.sp_rules.specs.Laws.{AllOf}
use Rattle.sp_rules.specs.Lists.{total}
use Rattle.sp_rules.specs.ParkedFrames
use Rattle.sp_rules.specs.Requests
use Rattle.sp_rules.specs.State.{State, Request, Asked, Calls, LooksUp, Tells, Stage, Out, Answered}
use Rattle.sp_rules.proofs.AllLemmas.{some-none}
use Rattle.sp_rules.proofs.FuelSums.{total-snoc, total-filter, total-parts}
use Rattle.sp_rules.proofs.OwnLemmas.{and-left, and-right, some-same}
use Rattle.sp_laws.specs.Numbered.{is_out_under}
use Rattle.sp_laws.specs.OnTheWay.{times_named, names_in, calls_naming}
use Rattle.sp_laws.proofs.NamingLemmas.{Known, known-neutral, each-neutral, numbers-each}
use Rattle.sp_laws.proofs.PointerLemmas.{bit, IsNeutral, sent-neutral, named-same, bit-next}

-- ---- what is kept

pub record WayParts : Type 0 where
  pub made : ℕ
  pub requests : List Request
  pub fresh : List Request
  pub leases : List Told

abbrev pub way_parts : State → WayParts
way_parts s = record { made = s.groups_made; requests = s.requests; fresh = s.fresh; leases = s.leases }

-- how often calls of a number name the reference, among the requests and among those that were removed and have not ended yet
abbrev pub naming : ForeignId → List Asked → List Request → Bool → ℕ → ℕ
naming r l requests d call = calls_naming d call r requests + total (names_in d call r) l

abbrev pub under : ℕ → List Request → ℕ
under k requests = total (λ (q : Request). bit (is_out_under k q)) requests

abbrev pub given : ℕ → ℕ → ℕ
given k n = bit (nat_le 1 k && nat_le k n)

pub record Ways (r : ForeignId) (l : List Asked) (x : WayParts) : Type 0 where
  pub known : Known r (naming r l x.requests) x.made x.leases
  pub fresh : AllOf (λ (q : Request). is_group q.asked ≡ false) x.fresh
  pub numbered : (k : ℕ) → under k x.requests ≤ given k (numbers_of x.leases)

pub record Way (g : Setting) (r : ForeignId) (l : List Asked) (s : State) : Type 0 where
  pub parts : Ways r l (way_parts s)

pub quiet : {g : Setting} {r : ForeignId} {l : List Asked} {s : State} (t : State) → way_parts t ≡ way_parts s → Way g r l s → Way g r l t
quiet {g} {r} {l} t e h = record { parts = subst (Ways r l) (sym e) h.parts }

-- only the leases have an event
pub leases_way : {g : Setting} {r : ForeignId} {l : List Asked} {s : State} (t : State) (h : List Told) → way_parts t ≡ record { made = s.groups_made; requests = s.requests; fresh = s.fresh; leases = h } → numbers_of h ≡ numbers_of s.leases
    → (Known r (naming r l s.requests) s.groups_made s.leases → Known r (naming r l s.requests) s.groups_made h) → Way g r l s → Way g r l t
leases_way {g} {r} {l} {s} t h e same f x = record {
  parts = subst (Ways r l) (sym e) (record {
    known = f x.parts.known;
    fresh = x.parts.fresh;
    numbered = λ k. subst (λ n. under k s.requests ≤ given k n) (sym same) (x.parts.numbered k);
  });
}

pub told_way : {g : Setting} {r : ForeignId} {l : List Asked} {s : State} (x : ForeignId) (e : Event) → IsNeutral e → Way g r l s → Way g r l (record s { leases = On x e ∷ s.leases })
told_way {r = r} {s = s} x e N w = leases_way _ (On x e ∷ s.leases) refl refl (λ k. known-neutral x e N k) w

pub known-same : {r : ForeignId} {n : Bool → ℕ → ℕ} {made : ℕ} {h : List Told} (m : Bool → ℕ → ℕ) → ((d : Bool) (call : ℕ) → m d call ≡ n d call) → Known r n made h → Known r m made h
known-same m e k = record { named = named-same m e k.named }

-- ---- what is named

pub names-none : (d : Bool) (call : ℕ) (r : ForeignId) (asked : Asked) → is_group asked ≡ false → names_in d call r asked ≡ 0
names-none d call r (Calls number task lent kind m) e = refl
names-none d call r (LooksUp number task name) e = refl
names-none d call r (Tells c group) e = absurd (true≢false e)

pub names-other : (d : Bool) (x call : ℕ) (r : ForeignId) (b : Group) → (call == x) ≡ false → names_in d x r (Tells call b) ≡ 0
names-other d x call r b e = ap (λ z. if z && tells_of d (Tells call b) then times_named r b else 0) e

pub names-not : (d : Bool) (x call : ℕ) (r : ForeignId) (b : Group) → tells_of d (Tells call b) ≡ false → names_in d x r (Tells call b) ≡ 0
names-not d x call r b e = pick (call == x) (tells_of d (Tells call b)) e
  where
    pick : (a z : Bool) → z ≡ false → (if a && z then times_named r b else 0) ≡ 0
    pick true true f = absurd (true≢false f)
    pick true false f = refl
    pick false z f = refl

pub names-zero : (d : Bool) (x call : ℕ) (r : ForeignId) (b : Group) → times_named r b ≡ 0 → names_in d x r (Tells call b) ≡ 0
names-zero d x call r b z = pick (call == x && tells_of d (Tells call b))
  where
    pick : (a : Bool) → (if a then times_named r b else 0) ≡ 0
    pick true = z
    pick false = refl

pub names-at : (d : Bool) (x call : ℕ) (r : ForeignId) (b : Group) → tells_of d (Tells call b) ≡ true → times_named r b ≡ 1 → names_in d x r (Tells call b) ≡ bit (call == x)
names-at d x call r b e one = pick (call == x) (tells_of d (Tells call b)) e
  where
    pick : (a z : Bool) → z ≡ true → (if a && z then times_named r b else 0) ≡ bit a
    pick true true f = one
    pick true false f = absurd (true≢false (sym f))
    pick false z f = refl

pub names-full : (d : Bool) (call : ℕ) (r : ForeignId) (b : Group) → tells_of d (Tells call b) ≡ true → names_in d call r (Tells call b) ≡ times_named r b
names-full d call r b e = pick (call == call) (tells_of d (Tells call b)) (eq-eqb call call refl) e
  where
    pick : (a z : Bool) → a ≡ true → z ≡ true → (if a && z then times_named r b else 0) ≡ times_named r b
    pick true true f k = refl
    pick true false f k = absurd (true≢false (sym k))
    pick false z f k = absurd (true≢false (sym f))

pub tells-not : (d : Bool) (call : ℕ) (b : Group) → tells_of d (Tells call b) ≡ true → tells_of (not d) (Tells call b) ≡ false
tells-not true call b e = ap not e
tells-not false call b e = pick (is_dirty_kind b.kind) e
  where
    pick : (z : Bool) → not z ≡ true → z ≡ false
    pick true f = absurd (true≢false (sym f))
    pick false f = refl

-- what is named as often
pub named_way : {g : Setting} {r : ForeignId} {l m : List Asked} {s : State} → ((d : Bool) (call : ℕ) → total (names_in d call r) m ≡ total (names_in d call r) l) → Way g r l s → Way g r m s
named_way {g} {r} {l} {m} {s} e h = record {
  parts = record {
    known = known-same (naming r m s.requests) (λ d call. let a : total (names_in d call r) m ≡ total (names_in d call r) l = e d call in omega arith) h.parts.known;
    fresh = h.parts.fresh;
    numbered = h.parts.numbered;
  };
}

-- what is no dirty or clean call comes and goes
pub drop_asked : {g : Setting} {r : ForeignId} {l : List Asked} {s : State} (asked : Asked) → is_group asked ≡ false → Way g r (asked ∷ l) s → Way g r l s
drop_asked {g} {r} {l} {s} asked e h = named_way {l = asked ∷ l} {m = l} (λ d call. let a : names_in d call r asked ≡ 0 = names-none d call r asked e in omega arith) h

pub more_asked : {g : Setting} {r : ForeignId} {l : List Asked} {s : State} (asked : Asked) → is_group asked ≡ false → Way g r l s → Way g r (asked ∷ l) s
more_asked {g} {r} {l} {s} asked e h = named_way {l = l} {m = asked ∷ l} (λ d call. let a : names_in d call r asked ≡ 0 = names-none d call r asked e in omega arith) h

-- ---- requests come and go

pub add_way : {g : Setting} {r : ForeignId} {l : List Asked} {s : State} (q : Request) → ((k : ℕ) → is_out_under k q ≡ false) → Way g r (q.asked ∷ l) s → Way g r l (Requests.add_request q s)
add_way {g} {r} {l} {s} q out h = record {
  parts = record {
    known = known-same (naming r l (s.requests ++ q ∷ [])) (λ d call. let a : calls_naming d call r (s.requests ++ q ∷ []) ≡ calls_naming d call r s.requests + names_in d call r q.asked = total-snoc (λ (p : Request). names_in d call r p.asked) s.requests q in omega arith) h.parts.known;
    fresh = h.parts.fresh;
    numbered = λ k.
        let a : under k (s.requests ++ q ∷ []) ≡ under k s.requests + bit (is_out_under k q) = total-snoc (λ (p : Request). bit (is_out_under k p)) s.requests q in
        let b : bit (is_out_under k q) ≡ 0 = ap bit (out k) in
        let c : under k s.requests ≤ given k (numbers_of s.leases) = h.parts.numbered k in omega arith;
  };
}

given-next : (k n : ℕ) → given k n + bit (n + 1 == k) ≤ given k (n + 1)
given-next k n = pick (nat_le 1 k) refl
  where
    pick : (b : Bool) → nat_le 1 k ≡ b → bit (b && nat_le k n) + bit (n + 1 == k) ≤ bit (b && nat_le k (n + 1))
    pick true e = bit-next k n
    pick false e = zero-at (n + 1 == k) refl
      where
        zero-at : (b : Bool) → (n + 1 == k) ≡ b → 0 + bit b ≤ 0
        zero-at true f = let a : k < 1 = leb-false 1 k e in let c : n + 1 ≡ k = eqb-true (n + 1) k f in absurd (omega arith)
        zero-at false f = omega arith

sent-known : {r : ForeignId} {n : Bool → ℕ → ℕ} {made : ℕ} (part : Group) (call : ℕ) (h : List Told) → Known r n made h → Known r n made (client.sent part call h)
sent-known {r} {n} {made} part call h k = record { named = (kinds part.kind).named }
  where
    kinds : (kind : Due) → Known r n made (client.sent_as kind part call h)
    kinds due.Dirty = each-neutral (references_at part.peer part.ids) (DirtySent call) h (sent-neutral call) k
    kinds (due.Clean strong) = k

sent-numbers : (part : Group) (call : ℕ) (h : List Told) → numbers_of (client.sent part call h) ≡ numbers_of h + 1
sent-numbers part call h = ap (λ n. n + 1) (kinds part.kind)
  where
    kinds : (kind : Due) → numbers_of (client.sent_as kind part call h) ≡ numbers_of h
    kinds due.Dirty = numbers-each (references_at part.peer part.ids) (DirtySent call) h
    kinds (due.Clean strong) = refl

-- a group goes out under the next number
pub numbered_way : {g : Setting} {r : ForeignId} {l : List Asked} {s : State} (conn call : ℕ) (part : Group) → Way g r (Tells call part ∷ l) s
    → Way g r l (Requests.add_request (record { peer = part.peer; asked = Tells call part; stage = Out conn (numbers_of s.leases + 1) }) (record s { leases = client.sent part call s.leases }))
numbered_way {g} {r} {l} {s} conn call part h = record {
  parts = record {
    known = known-same (naming r l (s.requests ++ q ∷ [])) (λ d c. let a : calls_naming d c r (s.requests ++ q ∷ []) ≡ calls_naming d c r s.requests + names_in d c r (Tells call part) = total-snoc (λ (p : Request). names_in d c r p.asked) s.requests q in omega arith) (sent-known part call s.leases h.parts.known);
    fresh = h.parts.fresh;
    numbered = λ k.
        let a : under k (s.requests ++ q ∷ []) ≡ under k s.requests + bit (numbers_of s.leases + 1 == k) = total-snoc (λ (p : Request). bit (is_out_under k p)) s.requests q in
        let c : under k s.requests ≤ given k (numbers_of s.leases) = h.parts.numbered k in
        let f : given k (numbers_of s.leases) + bit (numbers_of s.leases + 1 == k) ≤ given k (numbers_of s.leases + 1) = given-next k (numbers_of s.leases) in
        let e : given k (numbers_of (client.sent part call s.leases)) ≡ given k (numbers_of s.leases + 1) = ap (given k) (sent-numbers part call s.leases) in omega arith;
  };
}
  where
    q : Request
    q = record { peer = part.peer; asked = Tells call part; stage = Out conn (numbers_of s.leases + 1) }

total-asked : (f : Asked → ℕ) (rs : List Request) → total f (map (λ (q : Request). q.asked) rs) ≡ total (λ (q : Request). f q.asked) rs
total-asked f [] = refl
total-asked f (q ∷ rs) = let a : total f (map (λ (p : Request). p.asked) rs) ≡ total (λ (p : Request). f p.asked) rs = total-asked f rs in omega arith

total-append : {A : Type 0} (f : A → ℕ) (xs ys : List A) → total f (xs ++ ys) ≡ total f xs + total f ys
total-append f [] ys = omega arith
total-append f (x ∷ xs) ys = let e : total f (xs ++ ys) ≡ total f xs + total f ys = total-append f xs ys in omega arith

abbrev pub asked_in : List Request → List Asked
asked_in rs = map (λ (q : Request). q.asked) rs

pub removes_way : {g : Setting} {r : ForeignId} {l : List Asked} {s : State} (is : Request → Bool) → Way g r l s → Way g r (asked_in (filter is s.requests) ++ l) (record s { requests = filter (λ q. not (is q)) s.requests })
removes_way {g} {r} {l} {s} is h = record {
  parts = record {
    known = known-same (naming r (asked_in (filter is s.requests) ++ l) (filter (λ q. not (is q)) s.requests)) (λ d call.
        let f : Request → ℕ = λ (q : Request). names_in d call r q.asked in
        let a : total f (filter is s.requests) + total f (filter (λ q. not (is q)) s.requests) ≡ total f s.requests = total-parts f is s.requests in
        let b : total (names_in d call r) (asked_in (filter is s.requests) ++ l) ≡ total (names_in d call r) (asked_in (filter is s.requests)) + total (names_in d call r) l = total-append (names_in d call r) (asked_in (filter is s.requests)) l in
        let c : total (names_in d call r) (asked_in (filter is s.requests)) ≡ total f (filter is s.requests) = total-asked (names_in d call r) (filter is s.requests) in omega arith) h.parts.known;
    fresh = h.parts.fresh;
    numbered = λ k. let a : under k (filter (λ q. not (is q)) s.requests) ≤ under k s.requests = total-filter (λ (q : Request). bit (is_out_under k q)) (λ q. not (is q)) s.requests in let c : under k s.requests ≤ given k (numbers_of s.leases) = h.parts.numbered k in omega arith;
  };
}

-- those that were removed, in two parts
pub sorts_way : {g : Setting} {r : ForeignId} {s : State} (l : List Asked) (is : Request → Bool) (rs : List Request) → Way g r (asked_in rs ++ l) s → Way g r (asked_in (filter (λ q. not (is q)) rs) ++ (asked_in (filter is rs) ++ l)) s
sorts_way {g} {r} {s} l is rs h = named_way {l = asked_in rs ++ l} {m = asked_in (filter (λ q. not (is q)) rs) ++ (asked_in (filter is rs) ++ l)} (λ d call.
    let f : Request → ℕ = λ (q : Request). names_in d call r q.asked in
    let n : Asked → ℕ = names_in d call r in
    let a : total f (filter is rs) + total f (filter (λ q. not (is q)) rs) ≡ total f rs = total-parts f is rs in
    let b : total n (asked_in (filter (λ q. not (is q)) rs) ++ (asked_in (filter is rs) ++ l)) ≡ total n (asked_in (filter (λ q. not (is q)) rs)) + total n (asked_in (filter is rs) ++ l) = total-append n (asked_in (filter (λ q. not (is q)) rs)) (asked_in (filter is rs) ++ l) in
    let c : total n (asked_in (filter is rs) ++ l) ≡ total n (asked_in (filter is rs)) + total n l = total-append n (asked_in (filter is rs)) l in
    let e : total n (asked_in rs ++ l) ≡ total n (asked_in rs) + total n l = total-append n (asked_in rs) l in
    let x : total n (asked_in (filter (λ q. not (is q)) rs)) ≡ total f (filter (λ q. not (is q)) rs) = total-asked n (filter (λ q. not (is q)) rs) in
    let y : total n (asked_in (filter is rs)) ≡ total f (filter is rs) = total-asked n (filter is rs) in
    let z : total n (asked_in rs) ≡ total f rs = total-asked n rs in omega arith) h

-- calls and lookups go
total-left : {A : Type 0} (f : A → ℕ) (is : A → Bool) (xs : List A) → ((x : A) → is x ≡ true → f x ≡ 0) → total f (filter (λ x. not (is x)) xs) ≡ total f xs
total-left f is [] z = refl
total-left {A} f is (x ∷ xs) z = pick (is x) refl (total-left f is xs z)
  where
    pick : (b : Bool) → is x ≡ b → total f (filter (λ y. not (is y)) xs) ≡ total f xs → total f (cond (not b) (x ∷ filter (λ y. not (is y)) xs) (filter (λ y. not (is y)) xs)) ≡ f x + total f xs
    pick true e k = let a : f x ≡ 0 = z x e in omega arith
    pick false e k = omega arith

pub calls_go : {g : Setting} {r : ForeignId} {l : List Asked} {s : State} (is : Request → Bool) → ((q : Request) → is q ≡ true → is_group q.asked ≡ false) → Way g r l s → Way g r l (record s { requests = filter (λ q. not (is q)) s.requests })
calls_go {g} {r} {l} {s} is none h = record {
  parts = record {
    known = known-same (naming r l (filter (λ q. not (is q)) s.requests)) (λ d call. let a : calls_naming d call r (filter (λ q. not (is q)) s.requests) ≡ calls_naming d call r s.requests = total-left (λ (q : Request). names_in d call r q.asked) is s.requests (λ q e. names-none d call r q.asked (none q e)) in omega arith) h.parts.known;
    fresh = h.parts.fresh;
    numbered = λ k. let a : under k (filter (λ q. not (is q)) s.requests) ≤ under k s.requests = total-filter (λ (q : Request). bit (is_out_under k q)) (λ q. not (is q)) s.requests in let c : under k s.requests ≤ given k (numbers_of s.leases) = h.parts.numbered k in omega arith;
  };
}

-- what has a number of calls and lookups is no group
pub number-none : (k : ℕ) (asked : Asked) → ParkedFrames.has_number k asked ≡ true → is_group asked ≡ false
number-none k (Calls number task lent kind m) e = refl
number-none k (LooksUp number task name) e = refl
number-none k (Tells call group) e = absurd (true≢false (sym e))

pub call_gone : {g : Setting} {r : ForeignId} {l : List Asked} {s : State} (conn number : ℕ) → Way g r l s → Way g r l (ParkedFrames.remove_requests (ParkedFrames.is_call_on conn number) s)
call_gone {s = s} conn number h = calls_go {s = s} (ParkedFrames.is_call_on conn number) (λ q e. number-none number q.asked (and-right (ParkedFrames.is_out_on conn q.stage) _ e)) h

-- calls are answered
pub answered_way : {g : Setting} {r : ForeignId} {l : List Asked} {s : State} (conn number : ℕ) → Way g r l s → Way g r l (record s { requests = map (Frames.answered_on conn number) s.requests })
answered_way {g} {r} {l} {s} conn number h = record {
  parts = record {
    known = known-same (naming r l (map (Frames.answered_on conn number) s.requests)) (λ d call. let a : calls_naming d call r (map (Frames.answered_on conn number) s.requests) ≡ calls_naming d call r s.requests = rows (λ (q : Request). names_in d call r q.asked) (λ q. asked d call q) s.requests in omega arith) h.parts.known;
    fresh = h.parts.fresh;
    numbered = λ k. let a : under k (map (Frames.answered_on conn number) s.requests) ≡ under k s.requests = rows (λ (q : Request). bit (is_out_under k q)) (λ q. out k q) s.requests in let c : under k s.requests ≤ given k (numbers_of s.leases) = h.parts.numbered k in omega arith;
  };
}
  where
    rows : (f : Request → ℕ) → ((q : Request) → f (Frames.answered_on conn number q) ≡ f q) → (rs : List Request) → total f (map (Frames.answered_on conn number) rs) ≡ total f rs
    rows f e [] = refl
    rows f e (q ∷ rs) = let a : f (Frames.answered_on conn number q) ≡ f q = e q in let b : total f (map (Frames.answered_on conn number) rs) ≡ total f rs = rows f e rs in omega arith

    asked : (d : Bool) (call : ℕ) (q : Request) → names_in d call r (Frames.answered_on conn number q).asked ≡ names_in d call r q.asked
    asked d call q = pick (ParkedFrames.is_call_on conn number q)
      where
        pick : (b : Bool) → names_in d call r (if b then record q { stage = Answered conn } else q).asked ≡ names_in d call r q.asked
        pick true = refl
        pick false = refl

    out : (k : ℕ) (q : Request) → bit (is_out_under k (Frames.answered_on conn number q)) ≡ bit (is_out_under k q)
    out k q = pick (ParkedFrames.is_call_on conn number q) refl
      where
        shut : (stage : Stage) → bit (is_group q.asked && Frames.has_sequence k stage) ≡ 0 → bit (is_group q.asked && Frames.has_sequence k (Answered conn)) ≡ bit (is_group q.asked && Frames.has_sequence k stage)
        shut stage e = let a : bit (is_group q.asked && false) ≡ 0 = none (is_group q.asked) in omega arith
          where
            none : (b : Bool) → bit (b && false) ≡ 0
            none true = refl
            none false = refl

        pick : (b : Bool) → ParkedFrames.is_call_on conn number q ≡ b → bit (is_out_under k (if b then record q { stage = Answered conn } else q)) ≡ bit (is_out_under k q)
        pick true e = shut q.stage (ap (λ b. bit (b && Frames.has_sequence k q.stage)) (number-none number q.asked (and-right (ParkedFrames.is_out_on conn q.stage) _ e)))
        pick false e = refl

-- if none passes, none goes
total-rest : {A : Type 0} (f n : A → ℕ) (is : A → Bool) → ((y : A) → is y ≡ true → n y ≡ 1) → (ys : List A) → total n ys ≡ 0 → total f (filter (λ z. not (is z)) ys) ≡ total f ys
total-rest f n is one [] z = refl
total-rest {A} f n is one (u ∷ ys) z = at (is u) refl (total-rest f n is one ys)
  where
    at : (b : Bool) → is u ≡ b → (total n ys ≡ 0 → total f (filter (λ v. not (is v)) ys) ≡ total f ys) → total f (cond (not b) (u ∷ filter (λ v. not (is v)) ys) (filter (λ v. not (is v)) ys)) ≡ f u + total f ys
    at true t rest = let a : n u ≡ 1 = one u t in let c : n u + total n ys ≡ 0 = z in absurd (omega arith)
    at false t rest = let c : n u + total n ys ≡ 0 = z in let a : total f (filter (λ v. not (is v)) ys) ≡ total f ys = rest (omega arith) in omega arith

-- the call that ends goes, the only one under its number
total-one : {A : Type 0} (f n : A → ℕ) (is : A → Bool) (xs : List A) (x : A) → ((y : A) → is y ≡ true → n y ≡ 1) → total n xs ≤ 1 → find is xs ≡ Some x → f x + total f (filter (λ y. not (is y)) xs) ≡ total f xs
total-one f n is [] x one few e = absurd (some-none x (sym e))
total-one {A} f n is (y ∷ xs) x one few e = pick (is y) refl e (λ w k. total-one f n is xs x one w k)
  where
    pick : (b : Bool) → is y ≡ b → cond b (Some y) (find is xs) ≡ Some x → (total n xs ≤ 1 → find is xs ≡ Some x → f x + total f (filter (λ z. not (is z)) xs) ≡ total f xs) → f x + total f (cond (not b) (y ∷ filter (λ z. not (is z)) xs) (filter (λ z. not (is z)) xs)) ≡ f y + total f xs
    pick true t k rest =
        let a : n y ≡ 1 = one y t in
        let c : n y + total n xs ≤ 1 = few in
        let z : total n xs ≡ 0 = omega arith in
        let b : total f (filter (λ z. not (is z)) xs) ≡ total f xs = total-rest f n is one xs z in
        let s : f y ≡ f x = ap f (some-same k) in omega arith
    pick false t k rest =
        let c : n y + total n xs ≤ 1 = few in
        let b : f x + total f (filter (λ z. not (is z)) xs) ≡ total f xs = rest (omega arith) k in omega arith

tells-group : (d : Bool) (asked : Asked) → tells_of d asked ≡ true → is_group asked ≡ true
tells-group d (Calls number task lent kind m) e = absurd (true≢false (sym e))
tells-group d (LooksUp number task name) e = absurd (true≢false (sym e))
tells-group d (Tells call group) e = refl

pub told_gone : {g : Setting} {r : ForeignId} {l : List Asked} {s : State} (d : Bool) (conn sequence : ℕ) (q : Request) → find (Frames.tells_on d conn sequence) s.requests ≡ Some q → Way g r l s → Way g r (q.asked ∷ l) (ParkedFrames.remove_requests (Frames.tells_on d conn sequence) s)
told_gone {g} {r} {l} {s} d conn sequence q is h = record {
  parts = record {
    known = known-same (naming r (q.asked ∷ l) (filter (λ p. not (Frames.tells_on d conn sequence p)) s.requests)) (λ y call.
        let a : names_in y call r q.asked + calls_naming y call r (filter (λ p. not (Frames.tells_on d conn sequence p)) s.requests) ≡ calls_naming y call r s.requests = total-one (λ (p : Request). names_in y call r p.asked) (λ (p : Request). bit (is_out_under sequence p)) (Frames.tells_on d conn sequence) s.requests q one few is in omega arith) h.parts.known;
    fresh = h.parts.fresh;
    numbered = λ k. let a : under k (filter (λ p. not (Frames.tells_on d conn sequence p)) s.requests) ≤ under k s.requests = total-filter (λ (p : Request). bit (is_out_under k p)) (λ p. not (Frames.tells_on d conn sequence p)) s.requests in let c : under k s.requests ≤ given k (numbers_of s.leases) = h.parts.numbered k in omega arith;
  };
}
  where
    both : (a b : Bool) → a ≡ true → b ≡ true → bit (a && b) ≡ 1
    both true true e f = refl
    both true false e f = absurd (true≢false (sym f))
    both false b e f = absurd (true≢false (sym e))

    one : (p : Request) → Frames.tells_on d conn sequence p ≡ true → bit (is_out_under sequence p) ≡ 1
    one p e =
        let rest : Frames.has_sequence sequence p.stage && tells_of d p.asked ≡ true = and-right (ParkedFrames.is_unanswered_on conn p.stage) _ e in
        both (is_group p.asked) (Frames.has_sequence sequence p.stage) (tells-group d p.asked (and-right (Frames.has_sequence sequence p.stage) _ rest)) (and-left (Frames.has_sequence sequence p.stage) _ rest)

    few : under sequence s.requests ≤ 1
    few = let c : under sequence s.requests ≤ given sequence (numbers_of s.leases) = h.parts.numbered sequence in let a : given sequence (numbers_of s.leases) ≤ 1 = small (nat_le 1 sequence && nat_le sequence (numbers_of s.leases)) in omega arith
      where
        small : (b : Bool) → bit b ≤ 1
        small true = omega arith
        small false = omega arith
