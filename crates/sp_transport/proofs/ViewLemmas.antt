-- What is seen of connections, and a transport to which nothing happened.
use Rattle.std.proofs.Common.{◌≡◌, ℕ, Bool, true, false, cond, List, Option, None, Some, is_some, refl, sym, ap, ◌∙◌, arith}
use Rattle.std.specs.Prelude.{◌==◌, option_map}
use Rattle.std.proofs.lemmas.Bool.{eqb-true}
use Rattle.uuid.specs.declared.Uuid.{Uuid}
use Rattle.sp_rules.proofs.AllLemmas.{found-is}
use Rattle.sp_rules.specs.Events.{in_order}
use Rattle.sp_rules.specs.Lines.{dialled_to}
use Rattle.sp_rules.specs.Requests.{hello_came}
use Rattle.sp_rules.specs.State as rules
use Rattle.sp_rules.specs.State.{opening}
use Rattle.sp_requests.proofs.TableLemmas.{dialling-link}
use Rattle.sp_requests.specs.Tables.{AreConnections, is_dialled, link_of, numbered, seen, to_peer}
use Rattle.sp_requests.specs.declared.connection.Connection.{Connection}
use Rattle.sp_requests.specs.declared.connection.Link.TheVariants.{Dialling, Open}
use Rattle.sp_requests.specs.declared.connections.Connections.{Connections}
use Rattle.sp_requests.proofs.LineLemmas.{line-number}
use Rattle.sp_transport.specs.Transports.{AreLines, line_parts}

only : {A : Type 0} (x y : A) → Some x ≡ Some y → x ≡ y
only x y h = cc

apart-some : {A : Type 0} (x : A) → None ≡ Some x → ⊥
apart-some x h = cc

-- ---- a connection that is found by its number

-- The row of a connection of which this was seen.
pub record IsSeen (conn : ℕ) (rows : List rules.Connection) (x : Connection) : Type 0 where
  pub row : rules.Connection
  pub there : numbered conn rows ≡ Some row
  pub number : row.number ≡ conn
  pub is : x ≡ seen row

pub seen-row : (conn : ℕ) (rows : List rules.Connection) (x : Connection) → Some x ≡ option_map seen (numbered conn rows) → IsSeen conn rows x
seen-row conn rows x e = pick (numbered conn rows) refl e
  where
    pick : (o : Option rules.Connection) → numbered conn rows ≡ o → Some x ≡ option_map seen o → IsSeen conn rows x
    pick None at f = absurd (apart-some x (sym f))
    pick (Some c) at f = record { row = c; there = at; number = eqb-true c.number conn (found-is (λ (d : rules.Connection). d.number == conn) rows c at); is = only x (seen c) f }

pub unseen-row : (conn : ℕ) (rows : List rules.Connection) → None ≡ option_map seen (numbered conn rows) → numbered conn rows ≡ None
unseen-row conn rows e = pick (numbered conn rows) e
  where
    pick : (o : Option rules.Connection) → None ≡ option_map seen o → o ≡ None
    pick None f = refl
    pick (Some c) f = absurd (apart-some (seen c) f)

-- whether a Hello has come on it
pub hello-seen : (conn : ℕ) (rows : List rules.Connection) (x : Connection) (b : Bool) → Some x ≡ option_map seen (numbered conn rows) → is_some x.peer ≡ b → cond b (Some conn) None ≡ hello_came (numbered conn rows)
hello-seen conn rows x b e is =
    let s = seen-row conn rows x e in
    let peer : is_some s.row.peer ≡ b = sym (ap (λ (y : Connection). is_some y.peer) s.is) ∙ is in
    sym (ap hello_came s.there ∙ (ap (λ c. cond c (Some s.row.number) None) peer ∙ ap (λ (n : ℕ). cond b (Some n) None) s.number))

pub hello-unseen : (conn : ℕ) (rows : List rules.Connection) → None ≡ option_map seen (numbered conn rows) → None ≡ hello_came (numbered conn rows)
hello-unseen conn rows e = sym (ap hello_came (unseen-row conn rows e))

-- ---- a peer

-- a peer that is being dialled has no connection
pub hello-dialling : (peer : Uuid) (rows : List rules.Connection) (dialling : List Uuid) (table : Connections) → Some Dialling ≡ link_of peer rows dialling → AreConnections rows dialling table → None ≡ hello_came (dialled_to rows peer)
hello-dialling peer rows dialling table e a = sym (ap hello_came (a.apart peer (dialling-link peer rows dialling (sym e))))

pub hello-unlinked : (peer : Uuid) (rows : List rules.Connection) (dialling : List Uuid) → None ≡ link_of peer rows dialling → None ≡ hello_came (dialled_to rows peer)
hello-unlinked peer rows dialling e = pick (is_dialled peer dialling) (to_peer peer rows) e
  where
    pick : (b : Bool) (o : Option rules.Connection) → None ≡ cond b (Some Dialling) (option_map (λ (c : rules.Connection). Open c.number) o) → None ≡ hello_came o
    pick true o f = absurd (apart-some Dialling f)
    pick false None f = refl
    pick false (Some c) f = absurd (apart-some (Open c.number) f)

-- the connection that was dialled to a peer is found by the number of its link
pub hello-open : (peer : Uuid) (conn : ℕ) (rows : List rules.Connection) (dialling : List Uuid) (table : Connections) → Some (Open conn) ≡ link_of peer rows dialling → AreConnections rows dialling table → hello_came (numbered conn rows) ≡ hello_came (dialled_to rows peer)
hello-open peer conn rows dialling table e a = pick (is_dialled peer dialling) (to_peer peer rows) refl e
  where
    number : (n : ℕ) → Some (Open conn) ≡ Some (Open n) → conn ≡ n
    number n h = cc

    other : Some (Open conn) ≡ Some Dialling → ⊥
    other h = cc

    pick : (b : Bool) (o : Option rules.Connection) → dialled_to rows peer ≡ o → Some (Open conn) ≡ cond b (Some Dialling) (option_map (λ (c : rules.Connection). Open c.number) o) → hello_came (numbered conn rows) ≡ hello_came (dialled_to rows peer)
    pick true o at f = absurd (other f)
    pick false None at f = absurd (apart-some (Open conn) (sym f))
    pick false (Some c) at f = ap (λ (n : ℕ). hello_came (numbered n rows)) (number c.number f) ∙ ap hello_came (line-number rows peer c a.numbered_once at ∙ sym at)

-- ---- nothing happened

pub opening-lines : AreLines (line_parts opening)
unfolding opening in_order
opening-lines = record {
  sent = λ q c e. absurd (apart-some c e);
  waiting = tt;
  out = tt;
  rising = omega arith;
  fresh_is = tt;
  noted = tt;
  alike = tt;
}
