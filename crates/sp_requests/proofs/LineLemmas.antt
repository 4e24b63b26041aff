-- The connections that were dialled to peers: what a frame that goes out, a connection that opens, and one that ends make of them.
use Rattle.std.proofs.Common.{◌≡◌, ℕ, Bool, true, false, cond, List, [], ◌∷◌, Option, None, Some, filter, refl, sym, ap, subst, ◌∙◌, true≢false}
use Rattle.std.specs.Prelude.{◌==◌, not}
use Rattle.std.specs.Str.{bytes_eq}
use Rattle.std.proofs.lemmas.Bool.{eqb-true, eq-eqb}
use Rattle.net_message.specs.declared.message.Message.{Message}
use Rattle.uuid.specs.declared.Uuid.{Uuid}
use Rattle.sp_rules.proofs.AllLemmas.{all-found, found-is, none-found}
use Rattle.sp_rules.proofs.LineLemmas.{IsRow, To, gone-others, one-peer, row-dialled, row-numbers, same-peer}
use Rattle.sp_rules.specs.Laws.{AllOf}
use Rattle.sp_rules.specs.Lines.{AreDialledOnce, IsAlone, dialled_to}
use Rattle.sp_rules.specs.State.{Connection, is_to}
use Rattle.sp_requests.specs.Tables.{AreNumbered, numbered}
use Rattle.sp_requests.proofs.TableLemmas.{gone-to}
use Rattle.sp_requests.specs.AllAsked.{sent_on}

only : {A : Type 0} (x y : A) → Some x ≡ Some y → x ≡ y
only x y h = cc

-- a connection is dialled to one peer
pub to-one : (p q : Uuid) (o : Option Uuid) → is_to p o ≡ true → is_to q o ≡ true → p ≡ q
to-one p q None e f = absurd (true≢false (sym e))
to-one p q (Some d) e f = sym (one-peer d p e) ∙ one-peer d q f

pub to-none : (p q : Uuid) (c : Connection) → To p c ≡ true → bytes_eq p q ≡ false → To q c ≡ false
to-none p q c e apart = pick (To q c) refl
  where
    pick : (b : Bool) → To q c ≡ b → b ≡ false
    pick true f = absurd (true≢false (sym (same-peer p) ∙ ap (bytes_eq p) (to-one p q c.dialled e f) ∙ apart))
    pick false f = refl

-- the connection that was dialled to a peer is not among these, which have other numbers
apart-from : (n : ℕ) (cs : List Connection) (q : Uuid) (c : Connection) → AllOf (λ (d : Connection). (d.number == n) ≡ false) cs → dialled_to cs q ≡ Some c → c.number ≡ n → ⊥
apart-from n cs q c others found e =
    true≢false (sym (eq-eqb c.number n e) ∙ all-found (λ (d : Connection). (d.number == n) ≡ false) (To q) cs c found others)

-- the connections of two peers have two numbers
pub line-apart : (cs : List Connection) (p q : Uuid) (c d : Connection) → AreNumbered cs → dialled_to cs p ≡ Some c → dialled_to cs q ≡ Some d → bytes_eq p q ≡ false → c.number ≡ d.number → ⊥
line-apart [] p q c d n e f apart same = cc
line-apart (x ∷ xs) p q c d n e f apart same = pick (To p x) refl (To q x) refl e f (λ g h. line-apart xs p q c d n.1 g h apart same)
  where
    pick : (a : Bool) → To p x ≡ a → (b : Bool) → To q x ≡ b → cond a (Some x) (dialled_to xs p) ≡ Some c → cond b (Some x) (dialled_to xs q) ≡ Some d → (dialled_to xs p ≡ Some c → dialled_to xs q ≡ Some d → ⊥) → ⊥
    pick true at true bt g h go = true≢false (sym bt ∙ to-none p q x at apart)
    pick true at false bt g h go = apart-from x.number xs q d n.0 h (sym same ∙ sym (ap (λ (y : Connection). y.number) (only x c g)))
    pick false at true bt g h go = apart-from x.number xs p c n.0 g (same ∙ sym (ap (λ (y : Connection). y.number) (only x d h)))
    pick false at false bt g h go = go g h

-- the connection that was dialled to a peer is found by its number
pub line-number : (cs : List Connection) (p : Uuid) (c : Connection) → AreNumbered cs → dialled_to cs p ≡ Some c → numbered c.number cs ≡ Some c
line-number [] p c n e = cc
line-number (x ∷ xs) p c n e = pick (To p x) refl e (line-number xs p c n.1)
  where
    pick : (a : Bool) → To p x ≡ a → cond a (Some x) (dialled_to xs p) ≡ Some c → (dialled_to xs p ≡ Some c → numbered c.number xs ≡ Some c) → cond (x.number == c.number) (Some x) (numbered c.number xs) ≡ Some c
    pick true at g go = ap (λ b. cond b (Some x) (numbered c.number xs)) (eq-eqb x.number c.number (ap (λ (y : Connection). y.number) (only x c g))) ∙ g
    pick false at g go = other (x.number == c.number) refl
      where
        other : (b : Bool) → (x.number == c.number) ≡ b → cond b (Some x) (numbered c.number xs) ≡ Some c
        other true is = absurd (apart-from x.number xs p c n.0 g (sym (eqb-true x.number c.number is)))
        other false is = go g

-- ---- a frame goes out

pub line-here : (m : Message) (cs : List Connection) (p : Uuid) (c : Connection) → AreNumbered cs → dialled_to cs p ≡ Some c → dialled_to (sent_on c.number m cs) p ≡ Some (record c { sent = m ∷ c.sent })
line-here m [] p c n e = cc
line-here m (x ∷ xs) p c n e = pick (To p x) refl (x.number == c.number) refl e (line-here m xs p c n.1)
  where
    rest : List Connection
    rest = sent_on c.number m xs

    more : Connection
    more = record x { sent = m ∷ x.sent }

    pick : (a : Bool) → To p x ≡ a → (b : Bool) → (x.number == c.number) ≡ b → cond a (Some x) (dialled_to xs p) ≡ Some c → (dialled_to xs p ≡ Some c → dialled_to rest p ≡ Some (record c { sent = m ∷ c.sent })) → dialled_to (cond b (more ∷ xs) (x ∷ rest)) p ≡ Some (record c { sent = m ∷ c.sent })
    pick true at true is g go = ap (λ a. cond a (Some more) (dialled_to xs p)) at ∙ ap (λ (y : Connection). Some (record y { sent = m ∷ y.sent })) (only x c g)
    pick true at false is g go = absurd (true≢false (sym (eq-eqb x.number c.number (ap (λ (y : Connection). y.number) (only x c g))) ∙ is))
    pick false at true is g go = absurd (apart-from x.number xs p c n.0 g (sym (eqb-true x.number c.number is)))
    pick false at false is g go = ap (λ a. cond a (Some x) (dialled_to rest p)) at ∙ go g

pub line-others : (m : Message) (cs : List Connection) (p q : Uuid) (c : Connection) → AreNumbered cs → dialled_to cs p ≡ Some c → bytes_eq p q ≡ false → dialled_to (sent_on c.number m cs) q ≡ dialled_to cs q
line-others m [] p q c n e apart = refl
line-others m (x ∷ xs) p q c n e apart = pick (To p x) refl (x.number == c.number) refl e (λ g. line-others m xs p q c n.1 g apart)
  where
    rest : List Connection
    rest = sent_on c.number m xs

    more : Connection
    more = record x { sent = m ∷ x.sent }

    pick : (a : Bool) → To p x ≡ a → (b : Bool) → (x.number == c.number) ≡ b → cond a (Some x) (dialled_to xs p) ≡ Some c → (dialled_to xs p ≡ Some c → dialled_to rest q ≡ dialled_to xs q) → dialled_to (cond b (more ∷ xs) (x ∷ rest)) q ≡ cond (To q x) (Some x) (dialled_to xs q)
    pick true at true is g go =
        let none = to-none p q x at apart in
        ap (λ a. cond a (Some more) (dialled_to xs q)) none ∙ sym (ap (λ a. cond a (Some x) (dialled_to xs q)) none)
    pick true at false is g go = absurd (true≢false (sym (eq-eqb x.number c.number (ap (λ (y : Connection). y.number) (only x c g))) ∙ is))
    pick false at true is g go = absurd (apart-from x.number xs p c n.0 g (sym (eqb-true x.number c.number is)))
    pick false at false is g go = ap (λ (o : Option Connection). cond (To q x) (Some x) o) (go g)

pub sent-row : (m : Message) → IsRow (λ (c : Connection). record c { sent = m ∷ c.sent })
sent-row m = record { number = λ c. refl; dialled = λ c. refl }

pub sent-numbered : (conn : ℕ) (m : Message) (cs : List Connection) → AreNumbered cs → AreNumbered (sent_on conn m cs)
sent-numbered conn m cs n = row-numbers (λ (c : Connection). c.number == conn) (λ (c : Connection). record c { sent = m ∷ c.sent }) (sent-row m) cs n

pub sent-dialled : (conn : ℕ) (m : Message) (cs : List Connection) → AreDialledOnce cs → AreDialledOnce (sent_on conn m cs)
sent-dialled conn m cs a = row-dialled (λ (c : Connection). c.number == conn) (λ (c : Connection). record c { sent = m ∷ c.sent }) (sent-row m) cs a

-- ---- a connection ends

abbrev pub without : ℕ → List Connection → List Connection
without conn cs = filter (λ (d : Connection). not (d.number == conn)) cs

pub line-gone : (cs : List Connection) (p : Uuid) (c : Connection) → AreNumbered cs → AreDialledOnce cs → dialled_to cs p ≡ Some c → dialled_to (without c.number cs) p ≡ None
line-gone cs p c n a e = gone-to c.number cs c p n a (line-number cs p c n e) (found-is (To p) cs c e)

pub line-left : (cs : List Connection) (p q : Uuid) (c : Connection) → AreNumbered cs → dialled_to cs p ≡ Some c → bytes_eq p q ≡ false → dialled_to (without c.number cs) q ≡ dialled_to cs q
line-left cs p q c n e apart = gone-others c.number cs c q n (line-number cs p c n e) (to-none p q c (found-is (To p) cs c e) apart)

-- ---- a connection of a number

-- the connection of a number was dialled to its peer
pub number-line : (cs : List Connection) (conn : ℕ) (c : Connection) (p : Uuid) → AreDialledOnce cs → numbered conn cs ≡ Some c → c.dialled ≡ Some p → dialled_to cs p ≡ Some c
number-line [] conn c p once e its = cc
number-line (x ∷ xs) conn c p once e its = pick (x.number == conn) e (To p x) refl (λ f. number-line xs conn c p once.1 f its)
  where
    mine : To p c ≡ true
    mine = ap (is_to p) its ∙ same-peer p

    alone : (o : Option Uuid) → is_to p o ≡ true → IsAlone o xs → dialled_to xs p ≡ None
    alone None to a = absurd (true≢false (sym to))
    alone (Some q) to a = subst (λ (r : Uuid). dialled_to xs r ≡ None) (one-peer q p to) a

    pick : (b : Bool) → cond b (Some x) (numbered conn xs) ≡ Some c → (d : Bool) → To p x ≡ d → (numbered conn xs ≡ Some c → dialled_to xs p ≡ Some c) → cond d (Some x) (dialled_to xs p) ≡ Some c
    pick true g true at go = g
    pick true g false at go = absurd (true≢false (sym mine ∙ ap (To p) (sym (only x c g)) ∙ at))
    pick false g true at go =
        absurd (true≢false (sym mine ∙ all-found (λ (d : Connection). To p d ≡ false) (λ (d : Connection). d.number == conn) xs c g (none-found (To p) xs (alone x.dialled at once.0))))
    pick false g false at go = go g
