-- Frames as they come on a connection: which rule takes each.
use Rattle.std.proofs.Common.{◌≡◌, ℕ, Bool, true, false, cond, List, [], ◌∷◌, Option, None, Some, refl, sym, ap, subst, ◌∙◌, filter, unwrap_or, true≢false}
use Rattle.std.specs.Prelude.{◌==◌, ◌&&◌, ◌||◌, nat_le, is_none, is_some, not, option_map}
use Rattle.std.specs.List.{list_any}
use Rattle.std.specs.Str.{bytes_eq}
use Rattle.net_message.specs.declared.message.Message.{Message}
use Rattle.net_message.specs.declared.message.Message.TheVariants as message
use Rattle.space_ids.specs.declared.ids.ClassId.{ClassId}
use Rattle.uuid.specs.declared.Uuid.{Uuid}
use Rattle.sp_requests.specs.Tables.{seen}
use Rattle.sp_requests.specs.declared.connection.Connection.{Connection as Seen}
use Rattle.sp_rules.specs.Classes.{Setting}
use Rattle.space_ids.specs.declared.ids.ObjId.{ObjId}
use Rattle.sp_rules.specs.Endings.{close, redial}
use Rattle.sp_rules.specs.Frames.{answer_clean, answer_dirty, answer_hello, answered_hello, first_frame, fit_frame, got, got_clean, got_dirty, greeted, is_asking, is_wrong_way, let_go, receive, release}
use Rattle.sp_rules.specs.Lists.{each, with_some}
use Rattle.sp_rules.specs.Requests.{flush_waiting}
use Rattle.sp_rules.specs.State.{State, Connection, KeptResult, connection_at}
use Rattle.sp_living.proofs.FoundLemmas.{number-of}
use Rattle.sp_state.specs.Hellos.{answer_of, hello_in, take_answer, take_hello}
use Rattle.sp_state.specs.declared.hello.Answer.TheVariants.{Agrees, OnlyVersion1, Other}
use Rattle.sp_state.specs.Receiving.{ComesOn}
use Rattle.sp_state.specs.Spaces.{IsSpace}
use Rattle.sp_state.specs.declared.hello.Hello.{Hello}
use Rattle.sp_state.specs.declared.space_state.SpaceState.{SpaceState}

-- a space in a state that is another
pub space-is : (g : Setting) (s t : State) (x : SpaceState) → t ≡ s → IsSpace g s x → IsSpace g t x
space-is g s t x same is = subst (λ (u : State). IsSpace g u x) (sym same) is

-- ---- connections

-- the row of a connection that is seen
pub record IsSeen (conn : ℕ) (s : State) (found : Seen) : Type 0 where
  pub row : Connection
  pub comes : ComesOn conn s row
  pub seen : found ≡ seen row

pub one-seen : (conn : ℕ) (s : State) (found : Seen) → Some found ≡ option_map seen (connection_at s conn) → IsSeen conn s found
one-seen conn s found told = of (connection_at s conn) refl told
  where
    of : (o : Option Connection) → connection_at s conn ≡ o → Some found ≡ option_map seen o → IsSeen conn s found
    of None there none = absurd (true≢false (ap is_some none))
    of (Some c) there same = record { row = c; comes = record { there = there; number = number-of s conn c there }; seen = ap (λ (o : Option Seen). unwrap_or o found) same }

pub none-seen : (conn : ℕ) (s : State) → None ≡ option_map seen (connection_at s conn) → connection_at s conn ≡ None
none-seen conn s told = of (connection_at s conn) told
  where
    of : (o : Option Connection) → None ≡ option_map seen o → o ≡ None
    of None none = refl
    of (Some c) none = absurd (true≢false (sym (ap is_some none)))

-- ---- which way

pub received-first : (g : Setting) (c : Connection) (m : Message) (s : State) → is_none c.peer ≡ true → receive g c m s ≡ first_frame g c m s
unfolding receive
received-first g c m s none =
    ap (λ b. cond b (first_frame g c m s) (cond (is_wrong_way (is_asking m) (is_some c.dialled)) (close g g.classes.unmarshal c.number s) (got g c m s))) none

received-later : (g : Setting) (c : Connection) (m : Message) (s : State) → is_none c.peer ≡ false
    → receive g c m s ≡ cond (is_wrong_way (is_asking m) (is_some c.dialled)) (close g g.classes.unmarshal c.number s) (got g c m s)
unfolding receive
received-later g c m s there =
    ap (λ b. cond b (first_frame g c m s) (cond (is_wrong_way (is_asking m) (is_some c.dialled)) (close g g.classes.unmarshal c.number s) (got g c m s))) there

pub received-wrong : (g : Setting) (c : Connection) (m : Message) (s : State) → is_none c.peer ≡ false → is_wrong_way (is_asking m) (is_some c.dialled) ≡ true
    → receive g c m s ≡ close g g.classes.unmarshal c.number s
received-wrong g c m s there wrong = received-later g c m s there ∙ ap (λ b. cond b (close g g.classes.unmarshal c.number s) (got g c m s)) wrong

pub received-right : (g : Setting) (c : Connection) (m : Message) (s : State) → is_none c.peer ≡ false → is_wrong_way (is_asking m) (is_some c.dialled) ≡ false
    → receive g c m s ≡ got g c m s
received-right g c m s there right = received-later g c m s there ∙ ap (λ b. cond b (close g g.classes.unmarshal c.number s) (got g c m s)) right

-- what does not ask, in the right direction, comes on a connection that this space dialled; what asks, on one that a peer dialled
pub asks-there : (asks : Bool) (dialled : Option Uuid) → asks ≡ true → is_wrong_way asks (is_some dialled) ≡ false → dialled ≡ None
asks-there true None t w = refl
asks-there true (Some peer) t w = absurd (true≢false w)
asks-there false dialled t w = absurd (true≢false (sym t))

pub record IsOfPeer (dialled : Option Uuid) : Type 0 where
  pub peer : Uuid
  pub is : dialled ≡ Some peer

pub answers-here : (asks : Bool) (dialled : Option Uuid) → asks ≡ false → is_wrong_way asks (is_some dialled) ≡ false → IsOfPeer dialled
answers-here true dialled t w = absurd (true≢false t)
answers-here false None t w = absurd (true≢false w)
answers-here false (Some peer) t w = record { peer = peer; is = refl }

-- ---- Hello

pub first-other : (g : Setting) (c : Connection) (m : Message) (s : State) → None ≡ hello_in m → first_frame g c m s ≡ close g g.classes.unmarshal c.number s
unfolding first_frame
first-other g c (message.Hello version space digest) s e = absurd (true≢false (sym (ap is_some e)))
first-other g c _ s e = refl

-- what the answer of a peer that was dialled does
answered-as : (g : Setting) (c : Connection) (peer : Uuid) (version : ℕ) (space : Uuid) (s : State) → answered_hello g c peer version space s ≡ take_answer g c peer space (answer_of c.version version) s
answered-as g c peer version space s = by (version == c.version) (nat_le 2 c.version && version == 1)
  where
    by : (a b : Bool) → cond a (flush_waiting peer c.number (greeted space c.number s)) (cond b (redial peer c.number s) (close g g.classes.unmarshal c.number s)) ≡ take_answer g c peer space (cond a Agrees (cond b OnlyVersion1 Other)) s
    by true b = refl
    by false true = refl
    by false false = refl

pub first-hello : (g : Setting) (c : Connection) (m : Message) (s : State) (hello : Hello) → Some hello ≡ hello_in m → first_frame g c m s ≡ take_hello g c hello s
unfolding first_frame
first-hello g c (message.Hello version space digest) s hello e =
    let same : record { version = version; space = space; digest = digest } ≡ hello = sym (ap (λ (o : Option Hello). unwrap_or o hello) e) in
    (λ j. with_some c.dialled
    (cond (bytes_eq digest g.digest && nat_le version g.version) (answer_hello g version c.number (greeted space c.number s)) (close g g.classes.unmarshal c.number s))
    (λ peer. cond (bytes_eq digest g.digest && bytes_eq space peer) (answered-as g c peer version space s j) (close g g.classes.connect c.number s)))
    ∙ ap (λ (h : Hello). take_hello g c h s) same
first-hello g c _ s hello e = absurd (true≢false (ap is_some e))

hello-cases : (g : Setting) (c : Connection) (hello : Hello) (s : State) (dialled : Option Uuid) → c.dialled ≡ dialled
    → take_hello g c hello s ≡ with_some dialled
    (cond (bytes_eq hello.digest g.digest && nat_le hello.version g.version) (answer_hello g hello.version c.number (greeted hello.space c.number s)) (close g g.classes.unmarshal c.number s))
    (λ peer. cond (bytes_eq hello.digest g.digest && bytes_eq hello.space peer) (take_answer g c peer hello.space (answer_of c.version hello.version) s) (close g g.classes.connect c.number s))
hello-cases g c hello s dialled is = ap (λ (d : Option Uuid). with_some d
    (cond (bytes_eq hello.digest g.digest && nat_le hello.version g.version) (answer_hello g hello.version c.number (greeted hello.space c.number s)) (close g g.classes.unmarshal c.number s))
    (λ peer. cond (bytes_eq hello.digest g.digest && bytes_eq hello.space peer) (take_answer g c peer hello.space (answer_of c.version hello.version) s) (close g g.classes.connect c.number s))) is

pub hello-known : (g : Setting) (c : Connection) (hello : Hello) (s : State) → c.dialled ≡ None → (bytes_eq hello.digest g.digest && nat_le hello.version g.version) ≡ true → take_hello g c hello s ≡ answer_hello g hello.version c.number (greeted hello.space c.number s)
hello-known g c hello s is same = hello-cases g c hello s None is ∙ ap (λ b. cond b (answer_hello g hello.version c.number (greeted hello.space c.number s)) (close g g.classes.unmarshal c.number s)) same

pub hello-strange : (g : Setting) (c : Connection) (hello : Hello) (s : State) → c.dialled ≡ None → (bytes_eq hello.digest g.digest && nat_le hello.version g.version) ≡ false → take_hello g c hello s ≡ close g g.classes.unmarshal c.number s
hello-strange g c hello s is other = hello-cases g c hello s None is ∙ ap (λ b. cond b (answer_hello g hello.version c.number (greeted hello.space c.number s)) (close g g.classes.unmarshal c.number s)) other

pub hello-dialled : (g : Setting) (c : Connection) (hello : Hello) (s : State) (peer : Uuid) → c.dialled ≡ Some peer → (bytes_eq hello.digest g.digest && bytes_eq hello.space peer) ≡ true
    → take_hello g c hello s ≡ take_answer g c peer hello.space (answer_of c.version hello.version) s
hello-dialled g c hello s peer is same =
    hello-cases g c hello s (Some peer) is ∙ ap (λ b. cond b (take_answer g c peer hello.space (answer_of c.version hello.version) s) (close g g.classes.connect c.number s)) same

pub hello-other : (g : Setting) (c : Connection) (hello : Hello) (s : State) (peer : Uuid) → c.dialled ≡ Some peer → (bytes_eq hello.digest g.digest && bytes_eq hello.space peer) ≡ false
    → take_hello g c hello s ≡ close g g.classes.connect c.number s
hello-other g c hello s peer is other =
    hello-cases g c hello s (Some peer) is ∙ ap (λ b. cond b (take_answer g c peer hello.space (answer_of c.version hello.version) s) (close g g.classes.connect c.number s)) other

-- ---- lists of ids

pub dirty-fits : (g : Setting) (c : Connection) (sequence period : ℕ) (ids : List ObjId) (s : State) → fit_frame c ids ≡ true → got_dirty g c sequence period ids s ≡ answer_dirty g c sequence period ids s
unfolding got_dirty
dirty-fits g c sequence period ids s fit = ap (λ b. cond b (answer_dirty g c sequence period ids s) (close g g.classes.unmarshal c.number s)) fit

pub dirty-strange : (g : Setting) (c : Connection) (sequence period : ℕ) (ids : List ObjId) (s : State) → fit_frame c ids ≡ false → got_dirty g c sequence period ids s ≡ close g g.classes.unmarshal c.number s
unfolding got_dirty
dirty-strange g c sequence period ids s fit = ap (λ b. cond b (answer_dirty g c sequence period ids s) (close g g.classes.unmarshal c.number s)) fit

pub clean-fits : (g : Setting) (c : Connection) (sequence : ℕ) (strong : Bool) (ids : List ObjId) (s : State) → fit_frame c ids ≡ true → got_clean g c sequence strong ids s ≡ answer_clean g c sequence strong ids s
unfolding got_clean
clean-fits g c sequence strong ids s fit = ap (λ b. cond b (answer_clean g c sequence strong ids s) (close g g.classes.unmarshal c.number s)) fit

pub clean-strange : (g : Setting) (c : Connection) (sequence : ℕ) (strong : Bool) (ids : List ObjId) (s : State) → fit_frame c ids ≡ false → got_clean g c sequence strong ids s ≡ close g g.classes.unmarshal c.number s
unfolding got_clean
clean-strange g c sequence strong ids s fit = ap (λ b. cond b (answer_clean g c sequence strong ids s) (close g g.classes.unmarshal c.number s)) fit

-- ---- results

none-of : {A : Type 0} (is : A → Bool) (xs : List A) → list_any is xs ≡ false → filter is xs ≡ []
none-of is [] none = refl
none-of is (x ∷ xs) none = elim (is x) as (λ b. (b || list_any is xs) ≡ false → cond b (x ∷ filter is xs) (filter is xs) ≡ []) [
  | true ↦ λ e. absurd (true≢false e)
  | false ↦ λ e. none-of is xs e
] none

all-others : {A : Type 0} (is : A → Bool) (xs : List A) → list_any is xs ≡ false → filter (λ x. not (is x)) xs ≡ xs
all-others is [] none = refl
all-others is (x ∷ xs) none = elim (is x) as (λ b. (b || list_any is xs) ≡ false → cond (not b) (x ∷ filter (λ y. not (is y)) xs) (filter (λ y. not (is y)) xs) ≡ x ∷ xs) [
  | true ↦ λ e. absurd (true≢false e)
  | false ↦ λ e. ap (λ ys. x ∷ ys) (all-others is xs e)
] none

-- If no such result is held, none is let go.
pub release-none : (g : Setting) (is : KeptResult → Bool) (s : State) → list_any is s.results ≡ false → release g is s ≡ s
unfolding release each
release-none g is s none =
    λ j. each (let_go g) (none-of is s.results none j) (record s { results = all-others is s.results none j })

-- a connection is closed by the number of its row
pub closed-at : (g : Setting) (class : ClassId) (conn : ℕ) (s : State) (c : Connection) (x : SpaceState) → ComesOn conn s c → IsSpace g (close g class conn s) x → IsSpace g (close g class c.number s) x
closed-at g class conn s c x on is = subst (λ n. IsSpace g (close g class n s) x) (sym on.number) is

-- a connection on which nobody has said Hello
pub first-peer : (o : Option Uuid) → is_none o ≡ true → o ≡ None
first-peer None e = refl
first-peer (Some peer) e = absurd (true≢false (sym e))

pub none-so : (o : Option Uuid) (b : Bool) → is_some o ≡ not b → is_none o ≡ b
none-so None true e = refl
none-so None false e = absurd (true≢false (sym e))
none-so (Some peer) true e = absurd (true≢false e)
none-so (Some peer) false e = refl
