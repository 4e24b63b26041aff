-- Calls and lookups that come: which rule takes each.
use Rattle.std.proofs.Common.{◌≡◌, ℕ, nat_le, Bool, true, false, cond, List, Option, None, Some, refl, sym, ap, ◌∙◌, unwrap_or, eqb-true}
use Rattle.std.specs.Prelude.{◌||◌, not, option_map}
use Rattle.std.specs.List.{list_any}
use Rattle.space_ids.specs.declared.ids.ClassId.{ClassId}
use Rattle.space_ids.specs.declared.ids.ObjId.{ObjId}
use Rattle.space_ids.specs.declared.value.Value.{Value}
use Rattle.uuid.specs.declared.Uuid.{Uuid}
use Rattle.sp_requests.specs.declared.call_classes.RemoteException.TheVariants as exception
use Rattle.sp_registry.specs.Bindings.{lookup}
use Rattle.sp_rules.specs.Classes.{Setting, fit_kinds}
use Rattle.sp_rules.specs.Endings.{close}
use Rattle.sp_rules.specs.Frames.{call_of, call_on, client_of, counted, found, got_ack, got_call, got_lookup, is_acked_by, is_busy, object_of, release}
use Rattle.sp_rules.specs.Holders.{is_refused}
use Rattle.sp_rules.specs.ParkedFrames.{answer_threw, park_frame}
use Rattle.sp_rules.specs.References.{references_of, is_id}
use Rattle.sp_rules.specs.State.{State, CallFrame, Connection, Object, object_at}
use Rattle.sp_rules.proofs.AllLemmas.{found-is}
use Rattle.sp_owner.specs.Owners.{told}
use Rattle.sp_state.specs.Receiving.{ComesOn, foreign_among, give_found, take_call}

-- ---- numbers

pub called-late : (g : Setting) (c : Connection) (number : ℕ) (target : ObjId) (method fuel : ℕ) (arguments : List Value) (s : State) → nat_le number c.last ≡ true
    → got_call g c number target method fuel arguments s ≡ close g g.classes.unmarshal c.number s
unfolding got_call
called-late g c number target method fuel arguments s late =
    ap (λ b. cond b (close g g.classes.unmarshal c.number s) (call_on g c.number number (object_at s target) method fuel arguments (counted c.number number s))) late

pub called-new : (g : Setting) (c : Connection) (number : ℕ) (target : ObjId) (method fuel : ℕ) (arguments : List Value) (s : State) → nat_le number c.last ≡ false
    → got_call g c number target method fuel arguments s ≡ call_on g c.number number (object_at s target) method fuel arguments (counted c.number number s)
unfolding got_call
called-new g c number target method fuel arguments s new =
    ap (λ b. cond b (close g g.classes.unmarshal c.number s) (call_on g c.number number (object_at s target) method fuel arguments (counted c.number number s))) new

pub looked-late : (g : Setting) (c : Connection) (number : ℕ) (name : List ℕ) (s : State) → nat_le number c.last ≡ true → got_lookup g c number name s ≡ close g g.classes.unmarshal c.number s
unfolding got_lookup
looked-late g c number name s late =
    ap (λ b. cond b (close g g.classes.unmarshal c.number s) (found g c.number number (object_of s (lookup s.owner.names name)) (counted c.number number s))) late

pub looked-new : (g : Setting) (c : Connection) (number : ℕ) (name : List ℕ) (s : State) → nat_le number c.last ≡ false
    → got_lookup g c number name s ≡ found g c.number number (object_of s (lookup s.owner.names name)) (counted c.number number s)
unfolding got_lookup
looked-new g c number name s new =
    ap (λ b. cond b (close g g.classes.unmarshal c.number s) (found g c.number number (object_of s (lookup s.owner.names name)) (counted c.number number s))) new

-- ---- why a call is refused

-- an object that is found has the id
pub object-id : (s : State) (id : ObjId) (o : Object) → object_at s id ≡ Some o → o.id ≡ id
object-id s id o there = λ j. record { 0 = eqb-true o.id.0 id.0 (found-is (λ (p : Object). is_id p.id id) _ o there) j }

-- what a call of a standing object comes to
called-of : (g : Setting) (s : State) (o : Object) (conn number method fuel : ℕ) (arguments : List Value) (bad : Bool)
    → (not (g.classes.may_call o.class method) || (not (fit_kinds (g.classes.parameters method) arguments) || list_any (is_refused g s) (references_of arguments))) ≡ bad
    → call_of g conn number o method fuel arguments s
    ≡ cond bad (answer_threw conn number g.classes.unmarshal s) (cond (is_busy s) (answer_threw conn number g.classes.server_error s) (park_frame g conn number (CallFrame o.id method fuel arguments) (foreign_among g.id arguments) s))
called-of g s o conn number method fuel arguments bad is =
    ap (λ b. cond b (answer_threw conn number g.classes.unmarshal s) (cond (is_busy s) (answer_threw conn number g.classes.server_error s) (park_frame g conn number (CallFrame o.id method fuel arguments) (foreign_among g.id arguments) s))) is

pub call-absent : (g : Setting) (s : State) (conn number : ℕ) (target : ObjId) (method fuel : ℕ) (arguments : List Value) → object_at s target ≡ None
    → call_on g conn number (object_at s target) method fuel arguments s ≡ take_call g conn number (Some exception.NoSuchObject) target method fuel arguments s
call-absent g s conn number target method fuel arguments none = ap (λ (o : Option Object). call_on g conn number o method fuel arguments s) none

call-there : (g : Setting) (s : State) (o : Object) (conn number : ℕ) (target : ObjId) (method fuel : ℕ) (arguments : List Value) → object_at s target ≡ Some o
    → call_on g conn number (object_at s target) method fuel arguments s ≡ call_of g conn number o method fuel arguments s
call-there g s o conn number target method fuel arguments there = ap (λ (p : Option Object). call_on g conn number p method fuel arguments s) there

pub call-bad : (g : Setting) (s : State) (o : Object) (conn number : ℕ) (target : ObjId) (method fuel : ℕ) (arguments : List Value) → object_at s target ≡ Some o
    → (not (g.classes.may_call o.class method) || (not (fit_kinds (g.classes.parameters method) arguments) || list_any (is_refused g s) (references_of arguments))) ≡ true
    → call_on g conn number (object_at s target) method fuel arguments s ≡ take_call g conn number (Some exception.Unmarshal) target method fuel arguments s
call-bad g s o conn number target method fuel arguments there bad = call-there g s o conn number target method fuel arguments there ∙ called-of g s o conn number method fuel arguments true bad

pub call-busy : (g : Setting) (s : State) (o : Object) (conn number : ℕ) (target : ObjId) (method fuel : ℕ) (arguments : List Value) → object_at s target ≡ Some o
    → (not (g.classes.may_call o.class method) || (not (fit_kinds (g.classes.parameters method) arguments) || list_any (is_refused g s) (references_of arguments))) ≡ false
    → is_busy s ≡ true
    → call_on g conn number (object_at s target) method fuel arguments s ≡ take_call g conn number (Some exception.ServerError) target method fuel arguments s
call-busy g s o conn number target method fuel arguments there good busy =
    call-there g s o conn number target method fuel arguments there ∙ called-of g s o conn number method fuel arguments false good
    ∙ ap (λ b. cond b (answer_threw conn number g.classes.server_error s) (park_frame g conn number (CallFrame o.id method fuel arguments) (foreign_among g.id arguments) s)) busy

pub call-parks : (g : Setting) (s : State) (o : Object) (conn number : ℕ) (target : ObjId) (method fuel : ℕ) (arguments : List Value) → object_at s target ≡ Some o
    → (not (g.classes.may_call o.class method) || (not (fit_kinds (g.classes.parameters method) arguments) || list_any (is_refused g s) (references_of arguments))) ≡ false
    → is_busy s ≡ false
    → call_on g conn number (object_at s target) method fuel arguments s ≡ take_call g conn number None target method fuel arguments s
call-parks g s o conn number target method fuel arguments there good idle =
    call-there g s o conn number target method fuel arguments there ∙ called-of g s o conn number method fuel arguments false good
    ∙ ap (λ b. cond b (answer_threw conn number g.classes.server_error s) (park_frame g conn number (CallFrame o.id method fuel arguments) (foreign_among g.id arguments) s)) idle
    ∙ ap (λ (id : ObjId). park_frame g conn number (CallFrame id method fuel arguments) (foreign_among g.id arguments) s) (object-id s target o there)

-- the standing object of which the class is told
pub record Stands (s : State) (id : ObjId) (class : ClassId) : Type 0 where
  pub object : Object
  pub there : object_at s id ≡ Some object
  pub class-is : object.class ≡ class

pub stands-so : (s : State) (id : ObjId) (class : ClassId) → Some class ≡ option_map (λ (o : Object). o.class) (object_at s id) → Stands s id class
stands-so s id class told = of (object_at s id) refl told
  where
    of : (o : Option Object) → object_at s id ≡ o → Some class ≡ option_map (λ (p : Object). p.class) o → Stands s id class
    of None there none = absurd (cc)
    of (Some o) there same = record { object = o; there = there; class-is = sym (ap (λ (c : Option ClassId). unwrap_or c class) same) }

pub stands-not : (s : State) (id : ObjId) → None ≡ option_map (λ (o : Object). o.class) (object_at s id) → object_at s id ≡ None
stands-not s id told = of (object_at s id) told
  where
    of : (o : Option Object) → None ≡ option_map (λ (p : Object). p.class) o → o ≡ None
    of None none = refl
    of (Some o) none = absurd (cc)

-- ---- lookups

pub found-none : (g : Setting) (conn number : ℕ) (o : Option Object) (s : State) → None ≡ option_map told o → found g conn number o s ≡ answer_threw conn number g.classes.not_bound s
found-none g conn number None s e = refl
found-none g conn number (Some o) s e = absurd (cc)

pub found-one : (g : Setting) (conn number : ℕ) (o : Option Object) (id : ObjId) (class : ClassId) (s : State) → Some (id, class) ≡ option_map told o → found g conn number o s ≡ give_found g conn number id class s
found-one g conn number None id class s e = absurd (cc)
found-one g conn number (Some o) id class s e =
    let same : told o ≡ (id, class) = sym (ap (λ (t : Option (ObjId × ClassId)). unwrap_or t (id, class)) e) in
    ap (λ (t : ObjId × ClassId). give_found g conn number t.0 t.1 s) same

-- ---- acknowledgements

pub acked : (g : Setting) (c : Connection) (conn number : ℕ) (s : State) → ComesOn conn s c → list_any (is_acked_by conn number) s.results ≡ true → got_ack g c number s ≡ release g (is_acked_by conn number) s
unfolding got_ack
acked g c conn number s on held =
    ap (λ n. cond (list_any (is_acked_by n number) s.results) (release g (is_acked_by n number) s) (close g g.classes.unmarshal n s)) on.number
    ∙ ap (λ b. cond b (release g (is_acked_by conn number) s) (close g g.classes.unmarshal conn s)) held

pub unacked : (g : Setting) (c : Connection) (conn number : ℕ) (s : State) → ComesOn conn s c → list_any (is_acked_by conn number) s.results ≡ false → got_ack g c number s ≡ close g g.classes.unmarshal conn s
unfolding got_ack
unacked g c conn number s on none =
    ap (λ n. cond (list_any (is_acked_by n number) s.results) (release g (is_acked_by n number) s) (close g g.classes.unmarshal n s)) on.number
    ∙ ap (λ b. cond b (release g (is_acked_by conn number) s) (close g g.classes.unmarshal conn s)) none

-- ---- dirty and clean calls

pub client-so : (o : Option Uuid) (own : Uuid) → client_of o own ≡ unwrap_or o own
client-so None own = refl
client-so (Some peer) own = refl
