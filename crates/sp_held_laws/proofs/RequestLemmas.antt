-- A dirty call that is on its way names what the request of its number names, in worlds in which nothing fails.
use mathlib.Core.Path.{sym, ap, subst, ◌∙◌}
use Rattle.std.proofs.Common.{arith, inl, inr}
use Rattle.std.proofs.lemmas.Bool.{true≢false, eq-eqb, eqb-true}
use Rattle.std.proofs.lemmas.Slice.Eq.{bytes_eq-Decides}
use Rattle.std.specs.Prelude.{◌≡◌, ◌⊎◌, refl, ℕ, ◌+◌, ◌≤◌, ◌==◌, ◌&&◌, not, Bool, true, false, List, [], ◌∷◌}
use Rattle.dgc_client.specs.declared.groups.Group.{Group}
use Rattle.dgc_client.specs.declared.lease.Due.{Due}
use Rattle.dgc_client.specs.declared.lease.Due.TheVariants as due
use Rattle.net_message.specs.declared.message.Message.{Message}
use Rattle.net_message.specs.declared.message.Message.TheVariants as message
use Rattle.space_ids.specs.declared.ids.ObjId.{ObjId}
use Rattle.sp_rules.specs.Classes.{Setting}
use Rattle.sp_rules.specs.References.{is_id_in}
use Rattle.sp_rules.specs.Requests.{group_frame}
use Rattle.sp_rules.specs.State.{Request, Asked, Tells, Stage, Out}
use Rattle.sp_rules.specs.Worlds.{World, Space, Pipe}
use Rattle.sp_rules.proofs.OwnLemmas.{and-left, and-right}
use Rattle.sp_order_laws.specs.Ends.{IsOneOf}
use Rattle.sp_order_laws.specs.Places.{IsBetween}
use Rattle.sp_order_laws.specs.RequestOrder.{AllPairs, StandInOrder, AskedRise}
use Rattle.sp_order_laws.proofs.TimeLemmas.{Given}
use Rattle.sp_held_laws.proofs.AskedLemmas.{AreOfNumber, Asks, asked-there, out-peer}
use Rattle.sp_held_laws.proofs.CleanLaws.{pair-order}

-- ---- one request of a number

-- of two calls that are out under one number neither stands before the other
not-before : (c d n call made : ℕ) (group other : Group) (x y : Request) → x.asked ≡ Tells call group
    → y.asked ≡ Tells made other → x.stage ≡ Out c n → y.stage ≡ Out d n → x.peer ≡ y.peer → StandInOrder x y → ⊥
not-before c d n call made group other x y ex ey fx fy peer before =
    let a : AskedRise x.asked y.asked x.stage y.stage = before ((bytes_eq-Decides x.peer y.peer).1 peer) in
    let b : AskedRise (Tells call group) (Tells made other) (Out c n) (Out d n) =
    subst (λ (s : Stage). AskedRise (Tells call group) (Tells made other) (Out c n) s) fy
    (subst (λ (s : Stage). AskedRise (Tells call group) (Tells made other) s y.stage) fx
    (subst (λ (k : Asked). AskedRise (Tells call group) k x.stage y.stage) ey
    (subst (λ (k : Asked). AskedRise k y.asked x.stage y.stage) ex a))) in
    let z : n + 1 ≤ n = b.1 in absurd (omega (arith, z))

pub same-number : (rs : List Request) → AllPairs rs → (c d n call made : ℕ) (group other : Group) (x y : Request)
    → IsOneOf x rs → IsOneOf y rs → x.asked ≡ Tells call group → y.asked ≡ Tells made other → x.stage ≡ Out c n
    → y.stage ≡ Out d n → x.peer ≡ y.peer → x ≡ y
same-number rs pairs c d n call made group other x y x-there y-there ex ey fx fy peer =
    by (pair-order rs x y pairs x-there y-there)
  where
    by : (x ≡ y) ⊎ (StandInOrder x y ⊎ StandInOrder y x) → x ≡ y
    by (inl e) = e
    by (inr (inl before)) = absurd (not-before c d n call made group other x y ex ey fx fy peer before)
    by (inr (inr after)) = absurd (not-before d c n made call other group y x ey ex fy fx (sym peer) after)

-- ---- a dirty call names what its request names

-- a dirty call of a number that does not name an object
abbrev misses : ℕ → ObjId → Message → Bool
misses n o (message.Dirty sequence period ids) = (sequence == n) && not (is_id_in ids o)
misses n o _ = false

misses-number : (n : ℕ) (o : ObjId) → AreOfNumber n (misses n o)
misses-number n o (message.Dirty sequence period ids) e =
    ap (λ k. k ∷ []) (eqb-true sequence n (and-left (sequence == n) _ e))
misses-number n o (message.Hello version space digest) e = absurd (true≢false (sym e))
misses-number n o (message.Call number object method fuel arguments) e = absurd (true≢false (sym e))
misses-number n o (message.Returned number fuel value) e = absurd (true≢false (sym e))
misses-number n o (message.Threw number class) e = absurd (true≢false (sym e))
misses-number n o (message.Spent number) e = absurd (true≢false (sym e))
misses-number n o (message.Ack number) e = absurd (true≢false (sym e))
misses-number n o (message.Lease sequence period) e = absurd (true≢false (sym e))
misses-number n o (message.Clean sequence strong ids) e = absurd (true≢false (sym e))
misses-number n o (message.Cleaned sequence) e = absurd (true≢false (sym e))
misses-number n o (message.Lookup number name) e = absurd (true≢false (sym e))

-- what a dirty call on its way names, if the request of its number names the object
pub dirty-names : {settings : List Setting} {w : World} → Given settings w
    → (conn n period : ℕ) (ids : List ObjId) (p : Pipe) (a b : Space) (o : ObjId) (q : Request) (call : ℕ)
    (group : Group) → IsBetween w conn p a b → IsOneOf (message.Dirty n period ids) p.accepter.queue
    → AllPairs a.state.requests
    → IsOneOf q a.state.requests → q.asked ≡ Tells call group → q.stage ≡ Out conn n → is_id_in group.ids o ≡ true
    → is_id_in ids o ≡ true
dirty-names {settings} {w} G conn n period ids p a b o q call group between there pairs q-there asked out names =
    by (is_id_in ids o) refl
  where
    misses-it : (kind : Due) (others : List ObjId) → misses n o (group_frame kind n others) ≡ true
        → is_id_in others o ≡ false
    misses-it due.Dirty others e = lacks (is_id_in others o) (and-right (n == n) _ e)
      where
        lacks : (c : Bool) → not c ≡ true → c ≡ false
        lacks true f = absurd (true≢false (sym f))
        lacks false f = refl
    misses-it (due.Clean strong) others e = absurd (true≢false (sym e))

    ids-of : Asked → List ObjId
    ids-of (Tells c g) = g.ids
    ids-of _ = []

    missing : Asks a conn n (misses n o) → true ≡ false
    missing A =
        let same : q ≡ A.request = same-number a.state.requests pairs conn conn n call A.stands.call group
        A.stands.group q A.request q-there A.there asked A.stands.asked out A.stands.out
        (out-peer G conn n p a b q between q-there out ∙ sym
        (out-peer G conn n p a b A.request between A.there A.stands.out)) in
        sym names ∙ (ap (λ (l : List ObjId). is_id_in l o)
        (sym (ap ids-of asked) ∙ (ap (λ (x : Request). ids-of x.asked) same ∙ ap ids-of A.stands.asked)) ∙
        misses-it A.stands.group.kind A.stands.group.ids A.stands.frame)

    both : (x y : Bool) → x ≡ true → y ≡ false → x && not y ≡ true
    both true false f g = refl
    both true true f g = absurd (true≢false g)
    both false y f g = absurd (true≢false (sym f))

    by : (x : Bool) → is_id_in ids o ≡ x → x ≡ true
    by true e = refl
    by false e = absurd (true≢false
        (missing (asked-there G conn n p a b (message.Dirty n period ids) (misses n o) between there refl refl
        (both (n == n) (is_id_in ids o) (eq-eqb n n refl) e) (misses-number n o))))
