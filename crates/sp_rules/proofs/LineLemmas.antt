-- Lines of requests that wait for a peer's Hello, as connections open, change and end.
use mathlib.Core.Path.{sym, ap, subst, ◌∙◌}
use Rattle.std.proofs.Common.{inl, inr, arith}
use Rattle.std.proofs.lemmas.Bool.{true≢false, eq-eqb}
use Rattle.std.proofs.lemmas.Slice.Eq.{bytes_eq-Decides}
use Rattle.std.specs.List.{list_any}
use Rattle.std.specs.Prelude.{◌≡◌, refl, ℕ, ◌==◌, ◌||◌, not, is_some, nat_le, ◌≤◌, Bool, true, false, List, [], ◌∷◌, ◌++◌, Option, None, Some, find, if◌then◌else◌, filter, cond, ◌⊎◌}
use Rattle.std.specs.Str.{bytes_eq}
use Rattle.space_ids.specs.declared.ids.ForeignId.{ForeignId}
use Rattle.net_message.specs.declared.message.Message.{Message}
use Rattle.uuid.specs.declared.Uuid.{Uuid}
use Rattle.sp_rules.proofs.AllLemmas.{some-none, or-left, or-right, all-weaken, all-filter, all-map, all-more, all-both-filter, none-found, found-is}
use Rattle.sp_rules.proofs.OwnLemmas.{some-same}
use Rattle.sp_rules.specs.Classes.{Setting}
use Rattle.sp_rules.specs.Events.{Turn}
use Rattle.sp_rules.specs.Holders
use Rattle.sp_rules.specs.Holders.{hold_ids, drop_ids}
use Rattle.sp_rules.specs.Laws.{AllOf}
use Rattle.sp_rules.specs.Lines.{dialled_to, IsAlone, AreDialledOnce, AreOnce, WaitsForHello}
use Rattle.sp_rules.specs.Lists.{each, with_some, at_first}
use Rattle.sp_rules.specs.Requests
use Rattle.sp_rules.specs.State.{State, Request, Connection, connection_at, is_open, set_connection, send, is_to}

-- ---- what is kept

pub record LineParts : Type 0 where
  pub connections : List Connection
  pub dialling : List Uuid
  pub requests : List Request

abbrev pub line_parts : State → LineParts
line_parts s = record { connections = s.connections; dialling = s.dialling; requests = s.requests }

-- no two connections have one number
abbrev pub AreNumbered : List Connection → Type 0
AreNumbered [] = Unit {0}
AreNumbered (c ∷ others) = AllOf (λ (d : Connection). (d.number == c.number) ≡ false) others × AreNumbered others

pub record HoldsLines (skip : Request → Bool) (c : LineParts) : Type 0 where
  pub numbers : AreNumbered c.connections
  pub connections : AreDialledOnce c.connections
  pub dialling : AreOnce c.dialling
  pub apart : AllOf (λ (peer : Uuid). dialled_to c.connections peer ≡ None) c.dialling
  pub waiting : AllOf (λ r. skip r ≡ false → WaitsForHello c.connections c.dialling r) c.requests

-- The lines are in order, but for the requests that are skipped.
pub record Lines (g : Setting) (skip : Request → Bool) (s : State) : Type 0 where
  pub parts : HoldsLines skip (line_parts s)

abbrev pub none : Request → Bool
none r = false

-- ---- small steps

pub quiet : {g : Setting} {skip : Request → Bool} {s : State} (t : State) → line_parts t ≡ line_parts s → Lines g skip s → Lines g skip t
quiet {skip = skip} t e h = record { parts = subst (HoldsLines skip) (sym e) h.parts }

pub if_lines : {g : Setting} {skip : Request → Bool} {t u : State} (b : Bool) → Lines g skip t → Lines g skip u → Lines g skip (if b then t else u)
if_lines true h k = h
if_lines false h k = k

pub some_lines : {g : Setting} {skip : Request → Bool} {A : Type 0} {t : State} (x : Option A) (f : A → State) → Lines g skip t → ((a : A) → x ≡ Some a → Lines g skip (f a)) → Lines g skip (with_some x t f)
some_lines None f h k = h
some_lines (Some a) f h k = k a refl

pub each_lines : {g : Setting} {skip : Request → Bool} {A : Type 0} {s : State} (f : State → A → State) (xs : List A) → ((t : State) (x : A) → Lines g skip t → Lines g skip (f t x)) → Lines g skip s → Lines g skip (each f xs s)
unfolding each
each_lines f [] k h = h
each_lines {s = s} f (x ∷ xs) k h = each_lines f xs k (k s x h)

pub send_lines : {g : Setting} {skip : Request → Bool} {s : State} (turn : Turn) (conn : ℕ) (m : Message) → Lines g skip s → Lines g skip (send turn conn m s)
unfolding send
send_lines {s = s} turn conn m h = if_lines (is_open s conn) (quiet _ refl h) h

pub hold_lines : {g : Setting} {skip : Request → Bool} {s : State} (ids : List ForeignId) → Lines g skip s → Lines g skip (hold_ids ids s)
unfolding hold_ids
hold_lines ids h = each_lines Holders.holder_comes ids (λ t x k. quiet _ refl k) h

pub drop_lines : {g : Setting} {skip : Request → Bool} {s : State} (ids : List ForeignId) → Lines g skip s → Lines g skip (drop_ids ids s)
unfolding drop_ids
drop_lines ids h = each_lines Holders.holder_goes ids (λ t x k. quiet _ refl k) h

-- ---- peers

pub one-peer : (p q : Uuid) → bytes_eq p q ≡ true → p ≡ q
one-peer p q e = (bytes_eq-Decides p q).0 e

pub same-peer : (p : Uuid) → bytes_eq p p ≡ true
same-peer p = (bytes_eq-Decides p p).1 refl

pub other-way : (p q : Uuid) → bytes_eq p q ≡ false → bytes_eq q p ≡ false
other-way p q e = pick (bytes_eq q p) refl
  where
    pick : (b : Bool) → bytes_eq q p ≡ b → b ≡ false
    pick true t = absurd (true≢false (sym (subst (λ x. bytes_eq x q ≡ true) (one-peer q p t) (same-peer q)) ∙ e))
    pick false t = refl

pub any-more : (p : Uuid) (ps : List Uuid) (q : Uuid) → list_any (bytes_eq p) ps ≡ true → list_any (bytes_eq p) (ps ++ q ∷ []) ≡ true
any-more p [] q e = absurd (true≢false (sym e))
any-more p (x ∷ ps) q e = pick (bytes_eq p x) e (any-more p ps q)
  where
    pick : (b : Bool) → b || list_any (bytes_eq p) ps ≡ true → (list_any (bytes_eq p) ps ≡ true → list_any (bytes_eq p) (ps ++ q ∷ []) ≡ true) → b || list_any (bytes_eq p) (ps ++ q ∷ []) ≡ true
    pick true f rest = refl
    pick false f rest = rest f

pub any-last : (p : Uuid) (ps : List Uuid) → list_any (bytes_eq p) (ps ++ p ∷ []) ≡ true
any-last p [] = or-left (bytes_eq p p) false (same-peer p)
any-last p (x ∷ ps) = or-right (bytes_eq p x) _ (any-last p ps)

pub none-more : (p : Uuid) (ps : List Uuid) (q : Uuid) → list_any (bytes_eq p) ps ≡ false → bytes_eq p q ≡ false → list_any (bytes_eq p) (ps ++ q ∷ []) ≡ false
none-more p [] q e f = pick (bytes_eq p q) f
  where
    pick : (b : Bool) → b ≡ false → b || false ≡ false
    pick true t = t
    pick false t = refl
none-more p (x ∷ ps) q e f = pick (bytes_eq p x) e (λ t. none-more p ps q t f)
  where
    pick : (b : Bool) → b || list_any (bytes_eq p) ps ≡ false → (list_any (bytes_eq p) ps ≡ false → list_any (bytes_eq p) (ps ++ q ∷ []) ≡ false) → b || list_any (bytes_eq p) (ps ++ q ∷ []) ≡ false
    pick true t rest = absurd (true≢false t)
    pick false t rest = rest t

pub or-none : (a b : Bool) → a || b ≡ false → (a ≡ false) × (b ≡ false)
or-none true b e = absurd (true≢false e)
or-none false b e = (refl, e)

pub once-more : (ps : List Uuid) (p : Uuid) → AreOnce ps → list_any (bytes_eq p) ps ≡ false → AreOnce (ps ++ p ∷ [])
once-more [] p a e = (refl, tt)
once-more (q ∷ ps) p a e =
    let f : (bytes_eq p q ≡ false) × (list_any (bytes_eq p) ps ≡ false) = or-none (bytes_eq p q) _ e in
    (none-more q ps p a.0 (other-way p q f.0), once-more ps p a.1 f.1)

pub none-filter : (p : Uuid) (is : Uuid → Bool) (ps : List Uuid) → list_any (bytes_eq p) ps ≡ false → list_any (bytes_eq p) (filter is ps) ≡ false
none-filter p is [] e = refl
none-filter p is (q ∷ ps) e = pick (is q) (or-none (bytes_eq p q) _ e).0 (none-filter p is ps (or-none (bytes_eq p q) _ e).1)
  where
    pick : (b : Bool) → bytes_eq p q ≡ false → list_any (bytes_eq p) (filter is ps) ≡ false → list_any (bytes_eq p) (cond b (q ∷ filter is ps) (filter is ps)) ≡ false
    pick true f rest = subst (λ x. x || list_any (bytes_eq p) (filter is ps) ≡ false) (sym f) rest
    pick false f rest = rest

pub once-filter : (is : Uuid → Bool) (ps : List Uuid) → AreOnce ps → AreOnce (filter is ps)
once-filter is [] a = tt
once-filter is (q ∷ ps) a = pick (is q) (once-filter is ps a.1)
  where
    pick : (b : Bool) → AreOnce (filter is ps) → AreOnce (cond b (q ∷ filter is ps) (filter is ps))
    pick true rest = (none-filter q is ps a.0, rest)
    pick false rest = rest

-- a peer other than this one stays among those that are not this one
pub any-others : (p q : Uuid) (ps : List Uuid) → bytes_eq p q ≡ false → list_any (bytes_eq q) ps ≡ true → list_any (bytes_eq q) (filter (λ x. not (bytes_eq p x)) ps) ≡ true
any-others p q [] e a = a
any-others p q (x ∷ ps) e a = pick (bytes_eq p x) refl (bytes_eq q x) refl a (any-others p q ps e)
  where
    rest : List Uuid
    rest = filter (λ y. not (bytes_eq p y)) ps

    pick : (b : Bool) → bytes_eq p x ≡ b → (c : Bool) → bytes_eq q x ≡ c → c || list_any (bytes_eq q) ps ≡ true → (list_any (bytes_eq q) ps ≡ true → list_any (bytes_eq q) rest ≡ true) → list_any (bytes_eq q) (cond (not b) (x ∷ rest) rest) ≡ true
    pick true is true at f go = absurd (true≢false (sym (subst (λ y. bytes_eq p y ≡ true) (sym (one-peer q x at)) is) ∙ e))
    pick true is false at f go = go f
    pick false is true at f go = or-left (bytes_eq q x) _ at
    pick false is false at f go = or-right (bytes_eq q x) _ (go f)

-- ---- connections

abbrev pub To : Uuid → Connection → Bool
To peer c = is_to peer c.dialled

pub none-of : {A : Type 0} (o : Option A) → is_some o ≡ false → o ≡ None
none-of None e = refl
none-of (Some x) e = absurd (true≢false e)

-- what is dialled, if one connection more is to another peer
pub to-more : (cs : List Connection) (c : Connection) (q : Uuid) → To q c ≡ false → dialled_to (cs ++ c ∷ []) q ≡ dialled_to cs q
to-more [] c q e = pick (To q c) e
  where
    pick : (b : Bool) → b ≡ false → cond b (Some c) None ≡ None
    pick true f = absurd (true≢false f)
    pick false f = refl
to-more (d ∷ cs) c q e = pick (To q d) (to-more cs c q e)
  where
    pick : (b : Bool) → dialled_to (cs ++ c ∷ []) q ≡ dialled_to cs q → cond b (Some d) (dialled_to (cs ++ c ∷ []) q) ≡ cond b (Some d) (dialled_to cs q)
    pick true f = refl
    pick false f = f

-- the last one, if no other is dialled
pub to-last : (cs : List Connection) (c : Connection) (q : Uuid) → dialled_to cs q ≡ None → To q c ≡ true → dialled_to (cs ++ c ∷ []) q ≡ Some c
to-last [] c q e t = pick (To q c) t
  where
    pick : (b : Bool) → b ≡ true → cond b (Some c) None ≡ Some c
    pick true f = refl
    pick false f = absurd (true≢false (sym f))
to-last (d ∷ cs) c q e t = pick (To q d) e (λ f. to-last cs c q f t)
  where
    pick : (b : Bool) → cond b (Some d) (dialled_to cs q) ≡ None → (dialled_to cs q ≡ None → dialled_to (cs ++ c ∷ []) q ≡ Some c) → cond b (Some d) (dialled_to (cs ++ c ∷ []) q) ≡ Some c
    pick true f rest = absurd (some-none d f)
    pick false f rest = rest f

-- none is to a peer: neither the first nor one of the others
pub none-to : (d : Connection) (cs : List Connection) (q : Uuid) → dialled_to (d ∷ cs) q ≡ None → (To q d ≡ false) × (dialled_to cs q ≡ None)
none-to d cs q e = pick (To q d) e
  where
    pick : (b : Bool) → cond b (Some d) (dialled_to cs q) ≡ None → (b ≡ false) × (dialled_to cs q ≡ None)
    pick true f = absurd (some-none d f)
    pick false f = (refl, f)

pub filter-none : (is : Connection → Bool) (cs : List Connection) (q : Uuid) → dialled_to cs q ≡ None → dialled_to (filter is cs) q ≡ None
filter-none is [] q e = refl
filter-none is (d ∷ cs) q e = pick (is d) (none-to d cs q e).0 (filter-none is cs q (none-to d cs q e).1)
  where
    pick : (b : Bool) → To q d ≡ false → dialled_to (filter is cs) q ≡ None → dialled_to (cond b (d ∷ filter is cs) (filter is cs)) q ≡ None
    pick true f rest = subst (λ x. cond x (Some d) (dialled_to (filter is cs) q) ≡ None) (sym f) rest
    pick false f rest = rest

pub alone-filter : (is : Connection → Bool) (o : Option Uuid) (cs : List Connection) → IsAlone o cs → IsAlone o (filter is cs)
alone-filter is None cs a = tt
alone-filter is (Some q) cs a = filter-none is cs q a

pub dialled-filter : (is : Connection → Bool) (cs : List Connection) → AreDialledOnce cs → AreDialledOnce (filter is cs)
dialled-filter is [] a = tt
dialled-filter is (d ∷ cs) a = pick (is d) (dialled-filter is cs a.1)
  where
    pick : (b : Bool) → AreDialledOnce (filter is cs) → AreDialledOnce (cond b (d ∷ filter is cs) (filter is cs))
    pick true rest = (alone-filter is d.dialled cs a.0, rest)
    pick false rest = rest

pub numbers-filter : (is : Connection → Bool) (cs : List Connection) → AreNumbered cs → AreNumbered (filter is cs)
numbers-filter is [] a = tt
numbers-filter is (d ∷ cs) a = pick (is d) (numbers-filter is cs a.1)
  where
    pick : (b : Bool) → AreNumbered (filter is cs) → AreNumbered (cond b (d ∷ filter is cs) (filter is cs))
    pick true rest = (all-filter (λ (x : Connection). (x.number == d.number) ≡ false) is cs a.0, rest)
    pick false rest = rest

-- a connection that none of these is leaves them as they are
pub filter-all : (conn : ℕ) (cs : List Connection) (q : Uuid) → AllOf (λ (d : Connection). (d.number == conn) ≡ false) cs → dialled_to (filter (λ (d : Connection). not (d.number == conn)) cs) q ≡ dialled_to cs q
filter-all conn [] q a = refl
filter-all conn (d ∷ cs) q a = pick (d.number == conn) a.0 (filter-all conn cs q a.1)
  where
    rest : List Connection
    rest = filter (λ (x : Connection). not (x.number == conn)) cs

    pick : (b : Bool) → b ≡ false → dialled_to rest q ≡ dialled_to cs q → dialled_to (cond (not b) (d ∷ rest) rest) q ≡ dialled_to (d ∷ cs) q
    pick true f e = absurd (true≢false f)
    pick false f e = ap (λ x. cond (To q d) (Some d) x) e

-- the end of a connection takes it from its peer alone
pub gone-others : (conn : ℕ) (cs : List Connection) (c : Connection) (q : Uuid) → AreNumbered cs → find (λ (d : Connection). d.number == conn) cs ≡ Some c → To q c ≡ false
    → dialled_to (filter (λ (d : Connection). not (d.number == conn)) cs) q ≡ dialled_to cs q
gone-others conn [] c q a e t = refl
gone-others conn (d ∷ cs) c q a e t = pick (d.number == conn) refl e (λ f. gone-others conn cs c q a.1 f t)
  where
    rest : List Connection
    rest = filter (λ (x : Connection). not (x.number == conn)) cs

    pick : (b : Bool) → (d.number == conn) ≡ b → cond b (Some d) (find (λ (x : Connection). x.number == conn) cs) ≡ Some c → (find (λ (x : Connection). x.number == conn) cs ≡ Some c → dialled_to rest q ≡ dialled_to cs q)
        → dialled_to (cond (not b) (d ∷ rest) rest) q ≡ dialled_to (d ∷ cs) q
    pick true is f go =
        filter-all conn cs q (subst (λ n. AllOf (λ (x : Connection). (x.number == n) ≡ false) cs) (Rattle.std.proofs.lemmas.Bool.eqb-true d.number conn is) a.0)
        ∙ sym (ap (λ x. cond x (Some d) (dialled_to cs q)) (ap (To q) (some-same f) ∙ t))
    pick false is f go = ap (λ x. cond (To q d) (Some d) x) (go f)

-- a connection that is there is to its peer
pub there-to : (conn : ℕ) (cs : List Connection) (c : Connection) (q : Uuid) → find (λ (d : Connection). d.number == conn) cs ≡ Some c → To q c ≡ true → dialled_to cs q ≡ None → ⊥
there-to conn [] c q e t n = some-none c (sym e)
there-to conn (d ∷ cs) c q e t n = pick (d.number == conn) e (none-to d cs q n) (λ f. there-to conn cs c q f t)
  where
    pick : (b : Bool) → cond b (Some d) (find (λ (x : Connection). x.number == conn) cs) ≡ Some c → (To q d ≡ false) × (dialled_to cs q ≡ None) → (find (λ (x : Connection). x.number == conn) cs ≡ Some c → dialled_to cs q ≡ None → ⊥) → ⊥
    pick true f k go = true≢false (sym t ∙ ap (To q) (sym (some-same f)) ∙ k.0)
    pick false f k go = go f k.1

alone-none : (o : Option Uuid) (cs : List Connection) (q : Uuid) → IsAlone o cs → is_to q o ≡ true → dialled_to cs q ≡ None
alone-none None cs q a t = absurd (true≢false (sym t))
alone-none (Some p) cs q a t = subst (λ x. dialled_to cs x ≡ None) (one-peer p q t) a

-- the end of a connection leaves none to its peer
pub gone-peer : (conn : ℕ) (cs : List Connection) (c : Connection) (q : Uuid) → AreDialledOnce cs → find (λ (d : Connection). d.number == conn) cs ≡ Some c → c.dialled ≡ Some q
    → dialled_to (filter (λ (d : Connection). not (d.number == conn)) cs) q ≡ None
gone-peer conn [] c q a e t = refl
gone-peer conn (d ∷ cs) c q a e t = pick (d.number == conn) e (λ f. gone-peer conn cs c q a.1 f t)
  where
    rest : List Connection
    rest = filter (λ (x : Connection). not (x.number == conn)) cs

    its : To q c ≡ true
    its = ap (is_to q) t ∙ same-peer q

    pick : (b : Bool) → cond b (Some d) (find (λ (x : Connection). x.number == conn) cs) ≡ Some c → (find (λ (x : Connection). x.number == conn) cs ≡ Some c → dialled_to rest q ≡ None)
        → dialled_to (cond (not b) (d ∷ rest) rest) q ≡ None
    pick true f go = filter-none (λ (x : Connection). not (x.number == conn)) cs q (subst (λ o. IsAlone o cs) (ap (λ (x : Connection). x.dialled) (some-same f) ∙ t) a.0)
    pick false f go = to (To q d) refl
      where
        to : (b : Bool) → To q d ≡ b → cond b (Some d) (dialled_to rest q) ≡ None
        to true z = absurd (there-to conn cs c q f its (alone-none d.dialled cs q a.0 z))
        to false z = go f

-- ---- a row of a connection is changed, not its number and its peer

pub record IsRow (f : Connection → Connection) : Type 0 where
  pub number : (c : Connection) → (f c).number ≡ c.number
  pub dialled : (c : Connection) → (f c).dialled ≡ c.dialled

pub row-none : (is : Connection → Bool) (f : Connection → Connection) → IsRow f → (cs : List Connection) (q : Uuid) → dialled_to cs q ≡ None → dialled_to (at_first is f cs) q ≡ None
row-none is f r [] q e = refl
row-none is f r (d ∷ cs) q e = pick (is d) (none-to d cs q e).0 (none-to d cs q e).1 (row-none is f r cs q (none-to d cs q e).1)
  where
    pick : (b : Bool) → To q d ≡ false → dialled_to cs q ≡ None → dialled_to (at_first is f cs) q ≡ None → dialled_to (if b then f d ∷ cs else d ∷ at_first is f cs) q ≡ None
    pick true t e rest = subst (λ x. cond x (Some (f d)) (dialled_to cs q) ≡ None) (sym (ap (is_to q) (r.dialled d) ∙ t)) e
    pick false t e rest = subst (λ x. cond x (Some d) (dialled_to (at_first is f cs) q) ≡ None) (sym t) rest

pub row-some : (is : Connection → Bool) (f : Connection → Connection) → IsRow f → (cs : List Connection) (q : Uuid) → is_some (dialled_to (at_first is f cs) q) ≡ is_some (dialled_to cs q)
row-some is f r [] q = refl
row-some is f r (d ∷ cs) q = pick (is d) (row-some is f r cs q)
  where
    either : (b : Bool) → is_some (cond b (Some (f d)) (dialled_to cs q)) ≡ is_some (cond b (Some d) (dialled_to cs q))
    either true = refl
    either false = refl

    same : (b : Bool) → is_some (dialled_to (at_first is f cs) q) ≡ is_some (dialled_to cs q) → is_some (cond b (Some d) (dialled_to (at_first is f cs) q)) ≡ is_some (cond b (Some d) (dialled_to cs q))
    same true e = refl
    same false e = e

    pick : (b : Bool) → is_some (dialled_to (at_first is f cs) q) ≡ is_some (dialled_to cs q) → is_some (dialled_to (if b then f d ∷ cs else d ∷ at_first is f cs) q) ≡ is_some (dialled_to (d ∷ cs) q)
    pick true rest = ap (λ x. is_some (cond x (Some (f d)) (dialled_to cs q))) (ap (is_to q) (r.dialled d)) ∙ either (To q d)
    pick false rest = same (To q d) rest

-- whether a Hello came does not change if the row is of another peer, or keeps who spoke
pub row-hello : (is : Connection → Bool) (f : Connection → Connection) → IsRow f → (cs : List Connection) (q : Uuid) → ((c : Connection) → find is cs ≡ Some c → (To q c ≡ false) ⊎ ((f c).peer ≡ c.peer))
    → Requests.hello_came (dialled_to (at_first is f cs) q) ≡ Requests.hello_came (dialled_to cs q)
row-hello is f r [] q keeps = refl
row-hello is f r (d ∷ cs) q keeps = pick (is d) refl (row-hello is f r cs q)
  where
    one : (b : Bool) → To q d ≡ b → (b ≡ false) ⊎ ((f d).peer ≡ d.peer) → Requests.hello_came (cond b (Some (f d)) (dialled_to cs q)) ≡ Requests.hello_came (cond b (Some d) (dialled_to cs q))
    one false t k = refl
    one true t (inl k) = absurd (true≢false k)
    one true t (inr k) = ap (λ p. if is_some p then Some (f d).number else None) k ∙ ap (λ n. if is_some d.peer then Some n else None) (r.number d)

    same : (b : Bool) → Requests.hello_came (dialled_to (at_first is f cs) q) ≡ Requests.hello_came (dialled_to cs q) → Requests.hello_came (cond b (Some d) (dialled_to (at_first is f cs) q)) ≡ Requests.hello_came (cond b (Some d) (dialled_to cs q))
    same true e = refl
    same false e = e

    pick : (b : Bool) → is d ≡ b → (((c : Connection) → find is cs ≡ Some c → (To q c ≡ false) ⊎ ((f c).peer ≡ c.peer)) → Requests.hello_came (dialled_to (at_first is f cs) q) ≡ Requests.hello_came (dialled_to cs q))
        → Requests.hello_came (dialled_to (if b then f d ∷ cs else d ∷ at_first is f cs) q) ≡ Requests.hello_came (dialled_to (d ∷ cs) q)
    pick true t rest = ap (λ x. Requests.hello_came (cond x (Some (f d)) (dialled_to cs q))) (ap (is_to q) (r.dialled d)) ∙ one (To q d) refl (keeps d (ap (λ b. cond b (Some d) (find is cs)) t))
    pick false t rest = same (To q d) (rest (λ c e. keeps c (ap (λ b. cond b (Some d) (find is cs)) t ∙ e)))

pub row-alone : (is : Connection → Bool) (f : Connection → Connection) → IsRow f → (o : Option Uuid) (cs : List Connection) → IsAlone o cs → IsAlone o (at_first is f cs)
row-alone is f r None cs a = tt
row-alone is f r (Some q) cs a = row-none is f r cs q a

pub row-dialled : (is : Connection → Bool) (f : Connection → Connection) → IsRow f → (cs : List Connection) → AreDialledOnce cs → AreDialledOnce (at_first is f cs)
row-dialled is f r [] a = tt
row-dialled is f r (d ∷ cs) a = pick (is d) (row-dialled is f r cs a.1)
  where
    pick : (b : Bool) → AreDialledOnce (at_first is f cs) → AreDialledOnce (if b then f d ∷ cs else d ∷ at_first is f cs)
    pick true rest = (subst (λ o. IsAlone o cs) (sym (r.dialled d)) a.0, a.1)
    pick false rest = (row-alone is f r d.dialled cs a.0, rest)

pub row-numbers : (is : Connection → Bool) (f : Connection → Connection) → IsRow f → (cs : List Connection) → AreNumbered cs → AreNumbered (at_first is f cs)
row-numbers is f r [] a = tt
row-numbers is f r (d ∷ cs) a = pick (is d) (row-numbers is f r cs a.1)
  where
    pick : (b : Bool) → AreNumbered (at_first is f cs) → AreNumbered (if b then f d ∷ cs else d ∷ at_first is f cs)
    pick true rest = (subst (λ n. AllOf (λ (x : Connection). (x.number == n) ≡ false) cs) (sym (r.number d)) a.0, a.1)
    pick false rest = (Rattle.sp_rules.proofs.AllLemmas.all-first (λ (x : Connection). (x.number == d.number) ≡ false) is f cs (λ x e. ap (λ n. n == d.number) (r.number x) ∙ e) a.0, rest)

-- the rows of connections change, and no request waits that would see it
pub row_lines : {g : Setting} {skip : Request → Bool} {s : State} (conn : ℕ) (f : Connection → Connection) → IsRow f
    → ((q : Uuid) (c : Connection) → find (λ (d : Connection). d.number == conn) s.connections ≡ Some c → (To q c ≡ false) ⊎ ((f c).peer ≡ c.peer)) → Lines g skip s → Lines g skip (set_connection f conn s)
row_lines {g} {skip} {s} conn f r keeps h = record {
  parts = record {
    numbers = row-numbers (λ (d : Connection). d.number == conn) f r s.connections h.parts.numbers;
    connections = row-dialled (λ (d : Connection). d.number == conn) f r s.connections h.parts.connections;
    dialling = h.parts.dialling;
    apart = all-weaken (λ peer. dialled_to s.connections peer ≡ None) (λ peer. dialled_to (at_first (λ (d : Connection). d.number == conn) f s.connections) peer ≡ None) s.dialling (λ peer e. row-none (λ (d : Connection). d.number == conn) f r s.connections peer e) h.parts.apart;
    waiting = all-weaken (λ q. skip q ≡ false → WaitsForHello s.connections s.dialling q) (λ q. skip q ≡ false → WaitsForHello (at_first (λ (d : Connection). d.number == conn) f s.connections) s.dialling q) s.requests
        (λ q w out waits. let x = w out waits in (
          ap (λ b. b || list_any (bytes_eq q.peer) s.dialling) (row-some (λ (d : Connection). d.number == conn) f r s.connections q.peer) ∙ x.0,
          row-hello (λ (d : Connection). d.number == conn) f r s.connections q.peer (keeps q.peer) ∙ x.1,
        )) h.parts.waiting;
  };
}

-- ---- how many ids a frame names

most-ids-some : (version : ℕ) → 1 ≤ Requests.most_ids version
most-ids-some version = pick (nat_le 2 version)
  where
    pick : (b : Bool) → 1 ≤ (if b then 4096 else 1024)
    pick true = omega arith
    pick false = omega arith

-- a frame on a connection may name one at least
pub most-some : (s : State) (conn : ℕ) → 1 ≤ Requests.most_on s conn
most-some s conn = pick (connection_at s conn)
  where
    pick : (o : Option Connection) → 1 ≤ Requests.most_of o
    pick None = omega arith
    pick (Some c) = most-ids-some c.version
