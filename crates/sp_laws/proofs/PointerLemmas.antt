-- The dirty and the clean call of one reference that are on their way, as events happen to it, beside what stands among the requests.
use mathlib.Core.Path.{sym, ap, subst, ◌∙◌}
use Rattle.std.proofs.Common.{arith, inl, inr}
use Rattle.std.proofs.lemmas.Bool.{true≢false, eqb-true, eq-eqb, leb-true, leb-false, lt-ltb}
use Rattle.std.specs.Prelude.{◌≡◌, refl, ◌⊎◌, ℕ, ◌+◌, ◌≤◌, ◌<◌, ◌==◌, not, nat_le, nat_lt, Bool, true, false, List, ◌∷◌, Option, None, Some, if◌then◌else◌}
use Rattle.dgc_client.specs.declared.lease.ClientLease.{ClientLease}
use Rattle.dgc_client.specs.declared.lease.Made.{Made}
use Rattle.dgc_client.specs.History.{Event, after, lease_of}
use Rattle.dgc_client.specs.History.Event.{Held, Dropped, Moment, DirtyMade, CleanMade, DirtySent, DirtyAnswered, DirtyFailed, CleanAnswered, CleanFailed}
use Rattle.dgc_client.specs.Lease as lease
use Rattle.sp_rules.proofs.AllLemmas.{or-left, or-right}
use Rattle.sp_laws.specs.MadeWhenDue.{AreMadeWhenDue, next_of}
use Rattle.sp_laws.specs.OnTheWay.{is_on_its_way, overtakes, is_overtaken}

abbrev pub bit : Bool → ℕ
bit true = 1
bit false = 0

-- What stands among the requests, with how often under each number, and what is on its way after these events of a reference that is known
-- or not.
pub record Named (n : Bool → ℕ → ℕ) (made : ℕ) (known : Bool) (k : List Event) : Type 0 where
  pub numbers : (call : ℕ) → n true call + n false call ≤ bit (nat_le call made)
  pub holds : (d : Bool) (call : ℕ) → 1 ≤ n d call → known ≡ true
  pub way : (d : Bool) (call : ℕ) → is_on_its_way d (lease_of k) call ≡ true → 1 ≤ n d call
  pub out : (d : Bool) (call : ℕ) → 1 ≤ n d call → (is_on_its_way d (lease_of k) call ≡ true) ⊎ (is_overtaken d call k ≡ true)
  pub due : AreMadeWhenDue k
  pub below : next_of k ≤ made + 1

-- ---- numbers

pub one-of-two : (n : Bool → ℕ → ℕ) (d : Bool) (call : ℕ) → n d call ≤ n true call + n false call
one-of-two n true call = omega arith
one-of-two n false call = omega arith

pub bit-false : (b : Bool) → bit b ≡ 0 → b ≡ false
bit-false true e = let f : bit true ≡ 0 = e in let c : bit true ≡ 1 = refl in absurd (omega arith)
bit-false false e = refl

pub below : (x made : ℕ) → 1 ≤ bit (nat_le x made) → x ≤ made
below x made = pick (nat_le x made) refl
  where
    pick : (b : Bool) → nat_le x made ≡ b → 1 ≤ bit b → x ≤ made
    pick true e le = leb-true x made e
    pick false e le = absurd (omega (arith, le))

pub bit-grows : (x made : ℕ) → bit (nat_le x made) ≤ bit (nat_le x (made + 1))
bit-grows x made = pick (nat_le x made) refl (nat_le x (made + 1)) refl
  where
    pick : (a : Bool) → nat_le x made ≡ a → (b : Bool) → nat_le x (made + 1) ≡ b → bit a ≤ bit b
    pick true e true f = omega arith
    pick true e false f = let p : x ≤ made = leb-true x made e in let q : made + 1 < x = leb-false x (made + 1) f in absurd (omega arith)
    pick false e b f = omega arith

-- one number more is given
pub bit-next : (x made : ℕ) → bit (nat_le x made) + bit (made + 1 == x) ≤ bit (nat_le x (made + 1))
bit-next x made = pick (made + 1 == x) refl (nat_le x made) refl (nat_le x (made + 1)) refl
  where
    pick : (c : Bool) → (made + 1 == x) ≡ c → (a : Bool) → nat_le x made ≡ a → (b : Bool) → nat_le x (made + 1) ≡ b → bit a + bit c ≤ bit b
    pick true g true e b f = let p : made + 1 ≡ x = eqb-true (made + 1) x g in let q : x ≤ made = leb-true x made e in absurd (omega arith)
    pick true g false e true f = omega arith
    pick true g false e false f = let p : made + 1 ≡ x = eqb-true (made + 1) x g in let q : made + 1 < x = leb-false x (made + 1) f in absurd (omega arith)
    pick false g true e true f = omega arith
    pick false g true e false f = let p : x ≤ made = leb-true x made e in let q : made + 1 < x = leb-false x (made + 1) f in absurd (omega arith)
    pick false g false e b f = omega arith

-- ---- events

-- An event makes no call.
pub record MakesNone (e : Event) : Type 0 where
  pub due : (k : List Event) → AreMadeWhenDue k → AreMadeWhenDue (e ∷ k)
  pub next : (k : List Event) → next_of (e ∷ k) ≡ next_of k

-- An event leaves what is on its way.
pub record IsNeutral (e : Event) : Type 0 where
  pub none : MakesNone e
  pub same : (d : Bool) (l : ClientLease) (call : ℕ) → is_on_its_way d (after e l) call ≡ is_on_its_way d l call

pub held-neutral : IsNeutral Held
held-neutral = record { none = record { due = λ k a. a; next = λ k. refl }; same = same }
  where
    same : (d : Bool) (l : ClientLease) (call : ℕ) → is_on_its_way d (after Held l) call ≡ is_on_its_way d l call
    same true l call = refl
    same false l call = refl

pub dropped-neutral : IsNeutral Dropped
dropped-neutral = record { none = record { due = λ k a. a; next = λ k. refl }; same = same }
  where
    same : (d : Bool) (l : ClientLease) (call : ℕ) → is_on_its_way d (after Dropped l) call ≡ is_on_its_way d l call
    same true l call = refl
    same false l call = refl

pub moment-neutral : (moment : ℕ) → IsNeutral (Moment moment)
moment-neutral moment = record { none = record { due = λ k a. a; next = λ k. refl }; same = same }
  where
    pick : (d : Bool) (l : ClientLease) (call : ℕ) (b : Bool) → is_on_its_way d (if b then l else lease.at_moment moment l) call ≡ is_on_its_way d l call
    pick true l call true = refl
    pick true l call false = refl
    pick false l call true = refl
    pick false l call false = refl

    same : (d : Bool) (l : ClientLease) (call : ℕ) → is_on_its_way d (after (Moment moment) l) call ≡ is_on_its_way d l call
    same d l call = pick d l call (nat_lt moment l.moment)

sent-same : (made : Option Made) (c moment call : ℕ) → lease.is_made (lease.sent_at made c moment) call ≡ lease.is_made made call
sent-same None c moment call = refl
sent-same (Some m) c moment call = pick (m.call == c) refl
  where
    pick : (b : Bool) → (m.call == c) ≡ b → lease.is_made (if b then Some (record { call = c; at = moment }) else Some m) call ≡ (m.call == call)
    pick true e = ap (λ (x : ℕ). x == call) (sym (eqb-true m.call c e))
    pick false e = refl

pub sent-neutral : (c : ℕ) → IsNeutral (DirtySent c)
sent-neutral c = record { none = record { due = λ k a. a; next = λ k. refl }; same = same }
  where
    same : (d : Bool) (l : ClientLease) (call : ℕ) → is_on_its_way d (after (DirtySent c) l) call ≡ is_on_its_way d l call
    same true l call = sent-same l.dirty c l.moment call
    same false l call = refl

pub named-neutral : {n : Bool → ℕ → ℕ} {made : ℕ} {known : Bool} {k : List Event} (e : Event) → IsNeutral e → Named n made known k → Named n made known (e ∷ k)
named-neutral {n} {made} {known} {k} e N h = record {
  numbers = h.numbers;
  holds = h.holds;
  way = λ d call t. h.way d call (sym (N.same d (lease_of k) call) ∙ t);
  out = λ d call le. pick d call (h.out d call le);
  due = N.none.due k h.due;
  below = let a : next_of (e ∷ k) ≡ next_of k = N.none.next k in let b : next_of k ≤ made + 1 = h.below in omega arith;
}
  where
    pick : (d : Bool) (call : ℕ) → (is_on_its_way d (lease_of k) call ≡ true) ⊎ (is_overtaken d call k ≡ true) → (is_on_its_way d (lease_of (e ∷ k)) call ≡ true) ⊎ (is_overtaken d call (e ∷ k) ≡ true)
    pick d call (inl t) = inl (N.same d (lease_of k) call ∙ t)
    pick d call (inr t) = inr (or-right (overtakes d call e) _ t)

-- a reference that becomes known
pub named-known : {n : Bool → ℕ → ℕ} {made : ℕ} {known : Bool} {k : List Event} (more : Bool) → (known ≡ true → more ≡ true) → Named n made known k → Named n made more k
named-known more f h = record { numbers = h.numbers; holds = λ d call le. f (h.holds d call le); way = h.way; out = h.out; due = h.due; below = h.below }

-- as often as before
pub named-same : {n : Bool → ℕ → ℕ} {made : ℕ} {known : Bool} {k : List Event} (m : Bool → ℕ → ℕ) → ((d : Bool) (call : ℕ) → m d call ≡ n d call) → Named n made known k → Named m made known k
named-same {n} {made} m e h = record {
  numbers = λ call. let a : n true call + n false call ≤ bit (nat_le call made) = h.numbers call in let b : m true call ≡ n true call = e true call in let c : m false call ≡ n false call = e false call in omega arith;
  holds = λ d call le. let b : m d call ≡ n d call = e d call in h.holds d call (omega arith);
  way = λ d call t. let a : 1 ≤ n d call = h.way d call t in let b : m d call ≡ n d call = e d call in omega arith;
  out = λ d call le. let b : m d call ≡ n d call = e d call in h.out d call (omega arith);
  due = h.due;
  below = h.below;
}

-- a number more is given, and is not this reference's
pub named-given : {n : Bool → ℕ → ℕ} {made : ℕ} {known : Bool} {k : List Event} → Named n made known k → Named n (made + 1) known k
named-given {n} {made} {known} {k} h = record {
  numbers = λ call. let a : n true call + n false call ≤ bit (nat_le call made) = h.numbers call in let b : bit (nat_le call made) ≤ bit (nat_le call (made + 1)) = bit-grows call made in omega arith;
  holds = h.holds;
  way = h.way;
  out = h.out;
  due = h.due;
  below = let a : next_of k ≤ made + 1 = h.below in omega arith;
}

-- ---- a call is made

pub either : (d x : Bool) → (x ≡ d) ⊎ (x ≡ not d)
either true true = inl refl
either true false = inr refl
either false true = inr refl
either false false = inl refl

-- the dirty call (or the clean call) of a number is made
pub record Makes (d : Bool) (c : ℕ) (e : Event) : Type 0 where
  pub new : (l : ClientLease) (x : ℕ) → is_on_its_way d (after e l) x ≡ (c == x)
  pub others : (l : ClientLease) (x : ℕ) → is_on_its_way (not d) (after e l) x ≡ false
  pub overtaken : (x : ℕ) → x < c → overtakes (not d) x e ≡ true

pub makes-dirty : (c : ℕ) → Makes true c (DirtyMade c)
makes-dirty c = record { new = λ l x. refl; others = λ l x. refl; overtaken = λ x le. lt-ltb x c le }

pub makes-clean : (c : ℕ) → Makes false c (CleanMade c)
makes-clean c = record { new = λ l x. refl; others = λ l x. refl; overtaken = λ x le. lt-ltb x c le }

pub named-makes : {n m : Bool → ℕ → ℕ} {made : ℕ} {known : Bool} {k : List Event} (d : Bool) (e : Event) → Makes d (made + 1) e
    → ((x : ℕ) → is_on_its_way d (lease_of k) x ≡ false) → ((x : ℕ) → m d x ≡ n d x + bit (made + 1 == x)) → ((x : ℕ) → m (not d) x ≡ n (not d) x)
    → (next_of k ≤ made + 1 → AreMadeWhenDue k → AreMadeWhenDue (e ∷ k)) → next_of (e ∷ k) ≡ made + 1 + 1 → Named n made known k → Named m (made + 1) true (e ∷ k)
named-makes {n} {m} {made} {known} {k} d e M free own others dues next h = record {
  numbers = λ x. let a : n true x + n false x ≤ bit (nat_le x made) = h.numbers x in let b : bit (nat_le x made) + bit (made + 1 == x) ≤ bit (nat_le x (made + 1)) = bit-next x made in let c : m true x + m false x ≡ n true x + n false x + bit (made + 1 == x) = sums d own others x in omega arith;
  holds = λ y x le. refl;
  way = λ y x t. ways y (either d y) x t;
  out = λ y x le. outs y (either d y) x le;
  due = dues h.below h.due;
  below = omega (arith, next);
}
  where
    sums : (b : Bool) → ((x : ℕ) → m b x ≡ n b x + bit (made + 1 == x)) → ((x : ℕ) → m (not b) x ≡ n (not b) x) → (x : ℕ) → m true x + m false x ≡ n true x + n false x + bit (made + 1 == x)
    sums true f g x = let a : m true x ≡ n true x + bit (made + 1 == x) = f x in let b : m false x ≡ n false x = g x in omega arith
    sums false f g x = let a : m false x ≡ n false x + bit (made + 1 == x) = f x in let b : m true x ≡ n true x = g x in omega arith

    way-own : (x : ℕ) → is_on_its_way d (lease_of (e ∷ k)) x ≡ true → 1 ≤ m d x
    way-own x t = let a : m d x ≡ n d x + bit (made + 1 == x) = own x in let b : bit (made + 1 == x) ≡ 1 = ap bit (sym (M.new (lease_of k) x) ∙ t) in omega arith

    ways : (y : Bool) → (y ≡ d) ⊎ (y ≡ not d) → (x : ℕ) → is_on_its_way y (lease_of (e ∷ k)) x ≡ true → 1 ≤ m y x
    ways y (inl s) x t = subst (λ b. 1 ≤ m b x) (sym s) (way-own x (subst (λ b. is_on_its_way b (lease_of (e ∷ k)) x ≡ true) s t))
    ways y (inr s) x t = absurd (true≢false (sym (subst (λ b. is_on_its_way b (lease_of (e ∷ k)) x ≡ true) s t) ∙ M.others (lease_of k) x))

    out-own : (x : ℕ) → 1 ≤ m d x → (is_on_its_way d (lease_of (e ∷ k)) x ≡ true) ⊎ (is_overtaken d x (e ∷ k) ≡ true)
    out-own x le = pick (made + 1 == x) refl
      where
        old : (is_on_its_way d (lease_of k) x ≡ true) ⊎ (is_overtaken d x k ≡ true) → (is_on_its_way d (lease_of (e ∷ k)) x ≡ true) ⊎ (is_overtaken d x (e ∷ k) ≡ true)
        old (inl t) = absurd (true≢false (sym t ∙ free x))
        old (inr t) = inr (or-right (overtakes d x e) _ t)

        pick : (b : Bool) → (made + 1 == x) ≡ b → (is_on_its_way d (lease_of (e ∷ k)) x ≡ true) ⊎ (is_overtaken d x (e ∷ k) ≡ true)
        pick true s = inl (M.new (lease_of k) x ∙ s)
        pick false s = let a : m d x ≡ n d x + bit (made + 1 == x) = own x in let b : bit (made + 1 == x) ≡ 0 = ap bit s in old (h.out d x (omega arith))

    out-other : (x : ℕ) → 1 ≤ m (not d) x → is_overtaken (not d) x (e ∷ k) ≡ true
    out-other x le =
        let a : m (not d) x ≡ n (not d) x = others x in
        let b : n (not d) x ≤ n true x + n false x = one-of-two n (not d) x in
        let c : n true x + n false x ≤ bit (nat_le x made) = h.numbers x in
        let low : x ≤ made = below x made (omega arith) in or-left (overtakes (not d) x e) _ (M.overtaken x (omega arith))

    outs : (y : Bool) → (y ≡ d) ⊎ (y ≡ not d) → (x : ℕ) → 1 ≤ m y x → (is_on_its_way y (lease_of (e ∷ k)) x ≡ true) ⊎ (is_overtaken y x (e ∷ k) ≡ true)
    outs y (inl s) x le = subst (λ b. (is_on_its_way b (lease_of (e ∷ k)) x ≡ true) ⊎ (is_overtaken b x (e ∷ k) ≡ true)) (sym s) (out-own x (subst (λ b. 1 ≤ m b x) s le))
    outs y (inr s) x le = inr (subst (λ b. is_overtaken b x (e ∷ k) ≡ true) (sym s) (out-other x (subst (λ b. 1 ≤ m b x) s le)))

-- ---- a call ends

-- the dirty call (or the clean call) of a number is answered, or fails
pub record Ends (d : Bool) (c : ℕ) (e : Event) : Type 0 where
  pub none : MakesNone e
  pub hit : (l : ClientLease) → is_on_its_way d l c ≡ true → (x : ℕ) → is_on_its_way d (after e l) x ≡ false
  pub miss : (l : ClientLease) → is_on_its_way d l c ≡ false → (x : ℕ) → is_on_its_way d (after e l) x ≡ is_on_its_way d l x
  pub others : (l : ClientLease) (x : ℕ) → is_on_its_way (not d) (after e l) x ≡ is_on_its_way (not d) l x

answered-none : (made : Option Made) (c period : ℕ) (l : ClientLease) → lease.is_made made c ≡ true → (x : ℕ) → lease.is_made (lease.answered made period l).dirty x ≡ false
answered-none None c period l t x = absurd (true≢false (sym t))
answered-none (Some m) c period l t x = refl

answered-clean : (made : Option Made) (period : ℕ) (l : ClientLease) (x : ℕ) → lease.is_clean (lease.answered made period l).clean x ≡ lease.is_clean l.clean x
answered-clean None period l x = refl
answered-clean (Some m) period l x = refl

pub dirty-answered : (c period : ℕ) → Ends true c (DirtyAnswered c period)
dirty-answered c period = record {
  none = record { due = λ k a. a; next = λ k. refl };
  hit = λ l t x. hits l x (lease.is_made l.dirty c) t;
  miss = λ l t x. misses l x (lease.is_made l.dirty c) t;
  others = λ l x. pick l x (lease.is_made l.dirty c);
}
  where
    hits : (l : ClientLease) (x : ℕ) (b : Bool) → lease.is_made l.dirty c ≡ true → lease.is_made (if lease.is_made l.dirty c then lease.answered l.dirty period l else l).dirty x ≡ false
    hits l x b t = subst (λ z. lease.is_made (if z then lease.answered l.dirty period l else l).dirty x ≡ false) (sym t) (answered-none l.dirty c period l t x)

    misses : (l : ClientLease) (x : ℕ) (b : Bool) → lease.is_made l.dirty c ≡ false → lease.is_made (if lease.is_made l.dirty c then lease.answered l.dirty period l else l).dirty x ≡ lease.is_made l.dirty x
    misses l x b t = subst (λ z. lease.is_made (if z then lease.answered l.dirty period l else l).dirty x ≡ lease.is_made l.dirty x) (sym t) refl

    pick : (l : ClientLease) (x : ℕ) (b : Bool) → lease.is_clean (if b then lease.answered l.dirty period l else l).clean x ≡ lease.is_clean l.clean x
    pick l x true = answered-clean l.dirty period l x
    pick l x false = refl

pub dirty-failed : (c : ℕ) → Ends true c (DirtyFailed c)
dirty-failed c = record {
  none = record { due = λ k a. a; next = λ k. refl };
  hit = λ l t x. subst (λ z. lease.is_made (if z then failed l else l).dirty x ≡ false) (sym t) refl;
  miss = λ l t x. subst (λ z. lease.is_made (if z then failed l else l).dirty x ≡ lease.is_made l.dirty x) (sym t) refl;
  others = λ l x. pick l x (lease.is_made l.dirty c);
}
  where
    failed : ClientLease → ClientLease
    failed l = record l { dirty = None; owed = Rattle.dgc_client.specs.declared.lease.Owed.TheVariants.Strong; waits = true }

    pick : (l : ClientLease) (x : ℕ) (b : Bool) → lease.is_clean (if b then failed l else l).clean x ≡ lease.is_clean l.clean x
    pick l x true = refl
    pick l x false = refl

pub clean-answered : (c : ℕ) → Ends false c (CleanAnswered c)
clean-answered c = record {
  none = record { due = λ k a. a; next = λ k. refl };
  hit = λ l t x. subst (λ z. lease.is_clean (if z then record l { clean = None } else l).clean x ≡ false) (sym t) refl;
  miss = λ l t x. subst (λ z. lease.is_clean (if z then record l { clean = None } else l).clean x ≡ lease.is_clean l.clean x) (sym t) refl;
  others = λ l x. pick l x (lease.is_clean l.clean c);
}
  where
    pick : (l : ClientLease) (x : ℕ) (b : Bool) → lease.is_made (if b then record l { clean = None } else l).dirty x ≡ lease.is_made l.dirty x
    pick l x true = refl
    pick l x false = refl

pub clean-failed : (c : ℕ) → Ends false c (CleanFailed c)
clean-failed c = record {
  none = record { due = λ k a. a; next = λ k. refl };
  hit = λ l t x. subst (λ z. lease.is_clean (if z then failed l else l).clean x ≡ false) (sym t) refl;
  miss = λ l t x. subst (λ z. lease.is_clean (if z then failed l else l).clean x ≡ lease.is_clean l.clean x) (sym t) refl;
  others = λ l x. pick l x (lease.is_clean l.clean c);
}
  where
    failed : ClientLease → ClientLease
    failed l = record l { clean = None; owed = Rattle.dgc_client.specs.declared.lease.Owed.TheVariants.Again; waits = true }

    pick : (l : ClientLease) (x : ℕ) (b : Bool) → lease.is_made (if b then failed l else l).dirty x ≡ lease.is_made l.dirty x
    pick l x true = refl
    pick l x false = refl

-- one call is on its way
one-made : (o : Option Made) (c x : ℕ) → lease.is_made o c ≡ true → lease.is_made o x ≡ true → c ≡ x
one-made None c x e f = absurd (true≢false (sym e))
one-made (Some m) c x e f = sym (eqb-true m.call c e) ∙ eqb-true m.call x f

one-clean : (o : Option ℕ) (c x : ℕ) → lease.is_clean o c ≡ true → lease.is_clean o x ≡ true → c ≡ x
one-clean None c x e f = absurd (true≢false (sym e))
one-clean (Some m) c x e f = sym (eqb-true m c e) ∙ eqb-true m x f

one-way : (d : Bool) (l : ClientLease) (c x : ℕ) → is_on_its_way d l c ≡ true → is_on_its_way d l x ≡ true → c ≡ x
one-way true l c x e f = one-made l.dirty c x e f
one-way false l c x e f = one-clean l.clean c x e f

pub named-ends : {n m : Bool → ℕ → ℕ} {made : ℕ} {known : Bool} {k : List Event} (d : Bool) (c : ℕ) (e : Event) → Ends d c e
    → ((x : ℕ) → (c == x) ≡ false → m d x ≡ n d x) → m d c ≡ 0 → ((x : ℕ) → m (not d) x ≡ n (not d) x)
    → Named n made known k → Named m made known (e ∷ k)
named-ends {n} {m} {made} {known} {k} d c e E own zero others h = record {
  numbers = λ x. let a : n true x + n false x ≤ bit (nat_le x made) = h.numbers x in let b : m true x ≤ n true x = less true x in let f : m false x ≤ n false x = less false x in omega arith;
  holds = λ y x le. let b : m y x ≤ n y x = less y x in h.holds y x (omega arith);
  way = λ y x t. ways y (either d y) x t;
  out = λ y x le. outs y (either d y) x le;
  due = E.none.due k h.due;
  below = let a : next_of (e ∷ k) ≡ next_of k = E.none.next k in let b : next_of k ≤ made + 1 = h.below in omega arith;
}
  where
    zero-at : (x : ℕ) → (c == x) ≡ true → m d x ≡ 0
    zero-at x s = ap (m d) (sym (eqb-true c x s)) ∙ zero

    less-own : (x : ℕ) → m d x ≤ n d x
    less-own x = pick (c == x) refl
      where
        pick : (b : Bool) → (c == x) ≡ b → m d x ≤ n d x
        pick true s = let a : m d x ≡ 0 = zero-at x s in omega arith
        pick false s = let a : m d x ≡ n d x = own x s in omega arith

    less-of : (y : Bool) → (y ≡ d) ⊎ (y ≡ not d) → (x : ℕ) → m y x ≤ n y x
    less-of y (inl s) x = subst (λ b. m b x ≤ n b x) (sym s) (less-own x)
    less-of y (inr s) x = subst (λ b. m b x ≤ n b x) (sym s) (let a : m (not d) x ≡ n (not d) x = others x in omega arith)

    less : (y : Bool) (x : ℕ) → m y x ≤ n y x
    less y x = less-of y (either d y) x

    way-own : (x : ℕ) → is_on_its_way d (lease_of (e ∷ k)) x ≡ true → 1 ≤ m d x
    way-own x t = pick (is_on_its_way d (lease_of k) c) refl (c == x) refl
      where
        pick : (b : Bool) → is_on_its_way d (lease_of k) c ≡ b → (z : Bool) → (c == x) ≡ z → 1 ≤ m d x
        pick true s z f = absurd (true≢false (sym t ∙ E.hit (lease_of k) s x))
        pick false s true f = absurd (true≢false (sym (sym (E.miss (lease_of k) s x) ∙ t) ∙ (ap (is_on_its_way d (lease_of k)) (sym (eqb-true c x f)) ∙ s)))
        pick false s false f = let a : 1 ≤ n d x = h.way d x (sym (E.miss (lease_of k) s x) ∙ t) in let b : m d x ≡ n d x = own x f in omega arith

    ways : (y : Bool) → (y ≡ d) ⊎ (y ≡ not d) → (x : ℕ) → is_on_its_way y (lease_of (e ∷ k)) x ≡ true → 1 ≤ m y x
    ways y (inl s) x t = subst (λ b. 1 ≤ m b x) (sym s) (way-own x (subst (λ b. is_on_its_way b (lease_of (e ∷ k)) x ≡ true) s t))
    ways y (inr s) x t = subst (λ b. 1 ≤ m b x) (sym s) (
        let a : 1 ≤ n (not d) x = h.way (not d) x (sym (E.others (lease_of k) x) ∙ subst (λ b. is_on_its_way b (lease_of (e ∷ k)) x ≡ true) s t) in
        let b : m (not d) x ≡ n (not d) x = others x in omega arith)

    out-own : (x : ℕ) → 1 ≤ m d x → (is_on_its_way d (lease_of (e ∷ k)) x ≡ true) ⊎ (is_overtaken d x (e ∷ k) ≡ true)
    out-own x le = at (h.out d x (let a : m d x ≤ n d x = less-own x in omega arith))
      where
        at : (is_on_its_way d (lease_of k) x ≡ true) ⊎ (is_overtaken d x k ≡ true) → (is_on_its_way d (lease_of (e ∷ k)) x ≡ true) ⊎ (is_overtaken d x (e ∷ k) ≡ true)
        at (inr t) = inr (or-right (overtakes d x e) _ t)
        at (inl t) = pick (is_on_its_way d (lease_of k) c) refl
          where
            pick : (b : Bool) → is_on_its_way d (lease_of k) c ≡ b → (is_on_its_way d (lease_of (e ∷ k)) x ≡ true) ⊎ (is_overtaken d x (e ∷ k) ≡ true)
            pick true s = let a : m d x ≡ 0 = zero-at x (eq-eqb c x (one-way d (lease_of k) c x s t)) in absurd (omega arith)
            pick false s = inl (E.miss (lease_of k) s x ∙ t)

    out-other : (x : ℕ) → 1 ≤ m (not d) x → (is_on_its_way (not d) (lease_of (e ∷ k)) x ≡ true) ⊎ (is_overtaken (not d) x (e ∷ k) ≡ true)
    out-other x le = at (h.out (not d) x (let a : m (not d) x ≡ n (not d) x = others x in omega arith))
      where
        at : (is_on_its_way (not d) (lease_of k) x ≡ true) ⊎ (is_overtaken (not d) x k ≡ true) → (is_on_its_way (not d) (lease_of (e ∷ k)) x ≡ true) ⊎ (is_overtaken (not d) x (e ∷ k) ≡ true)
        at (inl t) = inl (E.others (lease_of k) x ∙ t)
        at (inr t) = inr (or-right (overtakes (not d) x e) _ t)

    outs : (y : Bool) → (y ≡ d) ⊎ (y ≡ not d) → (x : ℕ) → 1 ≤ m y x → (is_on_its_way y (lease_of (e ∷ k)) x ≡ true) ⊎ (is_overtaken y x (e ∷ k) ≡ true)
    outs y (inl s) x le = subst (λ b. (is_on_its_way b (lease_of (e ∷ k)) x ≡ true) ⊎ (is_overtaken b x (e ∷ k) ≡ true)) (sym s) (out-own x (subst (λ b. 1 ≤ m b x) s le))
    outs y (inr s) x le = subst (λ b. (is_on_its_way b (lease_of (e ∷ k)) x ≡ true) ⊎ (is_overtaken b x (e ∷ k) ≡ true)) (sym s) (out-other x (subst (λ b. 1 ≤ m b x) s le))
