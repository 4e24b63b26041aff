-- What is known of the row that is found of an id, as rows begin, change and end; and parts of sums.
use mathlib.Core.Path.{sym, ap, subst, ◌∙◌}
use Rattle.std.specs.Prelude.{◌≡◌, refl, cond, ℕ, ◌+◌, ◌≤◌, ◌==◌, not, Bool, true, false, List, [], ◌∷◌, ◌++◌, Some, filter, find, if◌then◌else◌}
use Rattle.std.proofs.Common.{arith}
use Rattle.std.proofs.lemmas.Bool.{eqb-true}
use Rattle.net_message.specs.declared.message.Message.{Message}
use Rattle.net_message.specs.declared.message.Message.TheVariants as message
use Rattle.sp_rules.specs.Lists.{at_first}
use Rattle.sp_rules.specs.State.{Living}
use Rattle.sp_laws.specs.Trees.{counted, carried}

-- ---- what is counted

pub counted-less : (b : Bool) (m n : ℕ) → m ≤ n → counted b m ≤ counted b n
counted-less true m n le = le
counted-less false m n le = omega arith

pub counted-both : (b : Bool) (m n : ℕ) → counted b (m + n) ≡ counted b m + counted b n
counted-both true m n = refl
counted-both false m n = refl

pub counted-most : (b : Bool) (n : ℕ) → counted b n ≤ n
counted-most true n = omega arith
counted-most false n = omega arith

-- if the calls of a connection are known
pub carried-same : (f h : ℕ → Bool) → ((n : ℕ) → f n ≡ h n) → (m : Message) → carried f m ≡ carried h m
carried-same f h same (message.Hello version space digest) = refl
carried-same f h same (message.Call number object method fuel arguments) = ap (λ b. counted b fuel) (same number)
carried-same f h same (message.Returned number fuel value) = ap (λ b. counted b fuel) (same number)
carried-same f h same (message.Threw number class) = refl
carried-same f h same (message.Spent number) = refl
carried-same f h same (message.Ack number) = refl
carried-same f h same (message.Dirty sequence period objects) = refl
carried-same f h same (message.Lease sequence period) = refl
carried-same f h same (message.Clean sequence strong objects) = refl
carried-same f h same (message.Cleaned sequence) = refl
carried-same f h same (message.Lookup number name) = refl

-- ---- the row of an id

abbrev pub is_id : ℕ → Living → Bool
is_id id t = t.id == id

-- what holds of the first row of an id, if there is one
pub FirstIs : (Living → Type 0) → ℕ → List Living → Type 0
FirstIs P id [] = Unit {0}
FirstIs P id (t ∷ ts) = cond (t.id == id) (P t) (FirstIs P id ts)

pub first-found : (P : Living → Type 0) (id : ℕ) (ts : List Living) (t : Living) → FirstIs P id ts → find (is_id id) ts ≡ Some t → P t
unfolding FirstIs
first-found P id [] t a e = absurd (Rattle.sp_rules.proofs.AllLemmas.some-none t (sym e))
first-found P id (u ∷ ts) t a e = pick (u.id == id) a e (first-found P id ts t)
  where
    pick : (b : Bool) → cond b (P u) (FirstIs P id ts) → cond b (Some u) (find (is_id id) ts) ≡ Some t → (FirstIs P id ts → find (is_id id) ts ≡ Some t → P t) → P t
    pick true h f rest = subst P (Rattle.sp_rules.proofs.OwnLemmas.some-same f) h
    pick false h f rest = rest h f

pub found-first : (P : Living → Type 0) (id : ℕ) (ts : List Living) → ((t : Living) → find (is_id id) ts ≡ Some t → P t) → FirstIs P id ts
unfolding FirstIs
found-first P id [] k = tt
found-first P id (u ∷ ts) k = pick (u.id == id) (found-first P id ts) k
  where
    pick : (b : Bool) → (((t : Living) → find (is_id id) ts ≡ Some t → P t) → FirstIs P id ts) → ((t : Living) → cond b (Some u) (find (is_id id) ts) ≡ Some t → P t) → cond b (P u) (FirstIs P id ts)
    pick true rest h = h u refl
    pick false rest h = rest h

-- a row begins
pub first-more : (P : Living → Type 0) (id : ℕ) (ts : List Living) (row : Living) → (row.id == id) ≡ false → FirstIs P id ts → FirstIs P id (ts ++ row ∷ [])
unfolding FirstIs
first-more P id [] row other a = subst (λ b. cond b (P row) (Unit {0})) (sym other) tt
first-more P id (u ∷ ts) row other a = pick (u.id == id) a (first-more P id ts row other)
  where
    pick : (b : Bool) → cond b (P u) (FirstIs P id ts) → (FirstIs P id ts → FirstIs P id (ts ++ row ∷ [])) → cond b (P u) (FirstIs P id (ts ++ row ∷ []))
    pick true h rest = h
    pick false h rest = rest h

-- a row changes and keeps its id
pub first-set : (P : Living → Type 0) (is : Living → Bool) (f : Living → Living) (id : ℕ) (ts : List Living) → ((t : Living) → (f t).id ≡ t.id) → ((t : Living) → P t → P (f t)) → FirstIs P id ts → FirstIs P id (at_first is f ts)
unfolding FirstIs
first-set P is f id [] same keeps a = tt
first-set P is f id (u ∷ ts) same keeps a = pick (is u) (first-set P is f id ts same keeps)
  where
    now : (b : Bool) → cond b (P u) (FirstIs P id ts) → cond b (P (f u)) (FirstIs P id ts)
    now true h = keeps u h
    now false h = h

    later : (b : Bool) → (FirstIs P id ts → FirstIs P id (at_first is f ts)) → cond b (P u) (FirstIs P id ts) → cond b (P u) (FirstIs P id (at_first is f ts))
    later true rest h = h
    later false rest h = rest h

    pick : (b : Bool) → (FirstIs P id ts → FirstIs P id (at_first is f ts)) → FirstIs P id (if b then f u ∷ ts else u ∷ at_first is f ts)
    pick true rest = subst (λ n. cond (n == id) (P (f u)) (FirstIs P id ts)) (sym (same u)) (now (u.id == id) a)
    pick false rest = later (u.id == id) rest a

-- the rows of an id go
first-gone : (P : Living → Type 0) (id : ℕ) (ts : List Living) → FirstIs P id (filter (λ (u : Living). not (u.id == id)) ts)
unfolding FirstIs
first-gone P id [] = tt
first-gone P id (u ∷ ts) = pick (u.id == id) refl (first-gone P id ts)
  where
    pick : (b : Bool) → (u.id == id) ≡ b → FirstIs P id (filter (λ (v : Living). not (v.id == id)) ts) → FirstIs P id (cond (not b) (u ∷ filter (λ (v : Living). not (v.id == id)) ts) (filter (λ (v : Living). not (v.id == id)) ts))
    pick true e rest = rest
    pick false e rest = subst (λ b. cond b (P u) (FirstIs P id (filter (λ (v : Living). not (v.id == id)) ts))) (sym e) rest

pub first-fewer : (P : Living → Type 0) (id gone : ℕ) (ts : List Living) → FirstIs P id ts → FirstIs P id (filter (λ (u : Living). not (u.id == gone)) ts)
unfolding FirstIs
first-fewer P id gone [] a = tt
first-fewer P id gone (u ∷ ts) a = pick (u.id == gone) refl (u.id == id) refl a (first-fewer P id gone ts)
  where
    left : List Living
    left = filter (λ (v : Living). not (v.id == gone)) ts

    pick : (b : Bool) → (u.id == gone) ≡ b → (c : Bool) → (u.id == id) ≡ c → cond c (P u) (FirstIs P id ts) → (FirstIs P id ts → FirstIs P id left) → FirstIs P id (cond (not b) (u ∷ left) left)
    pick true g true e h rest = subst (λ n. FirstIs P n left) (sym (eqb-true u.id gone g) ∙ eqb-true u.id id e) (first-gone P gone ts)
    pick true g false e h rest = rest h
    pick false g true e h rest = subst (λ b. cond b (P u) (FirstIs P id left)) (sym e) h
    pick false g false e h rest = subst (λ b. cond b (P u) (FirstIs P id left)) (sym e) (rest h)
