-- Rows of connections that change, open and end, and what is found of them by a peer.
use Rattle.std.proofs.Common.{◌≡◌, ℕ, Bool, true, false, cond, List, [], ◌∷◌, ◌++◌, Option, None, Some, is_some, ◌⊎◌, inl, inr, refl, sym, ap, ◌∙◌, true≢false}
use Rattle.std.specs.Prelude.{◌==◌}
use Rattle.std.proofs.lemmas.Bool.{eqb-true, eq-eqb}
use Rattle.uuid.specs.declared.Uuid.{Uuid}
use Rattle.sp_rules.proofs.AllLemmas.{all-found, some-none}
use Rattle.sp_rules.proofs.LineLemmas.{To}
use Rattle.sp_rules.specs.Laws.{AllOf}
use Rattle.sp_rules.specs.Lines.{dialled_to}
use Rattle.sp_rules.specs.Lists.{at_first}
use Rattle.sp_rules.specs.Requests.{hello_came}
use Rattle.sp_rules.specs.State.{Connection, is_to}
use Rattle.sp_requests.specs.Tables.{AreNumbered, numbered}
use Rattle.sp_transport.proofs.SaidLemmas.{Accepts}

only : (a b : Connection) → Some a ≡ Some b → a ≡ b
only a b h = cc

-- ---- one more

-- what is found among one more was found before, or is that one
pub more-found : (cs : List Connection) (o : Connection) (q : Uuid) (c : Connection) → dialled_to (cs ++ o ∷ []) q ≡ Some c → (dialled_to cs q ≡ Some c) ⊎ (c ≡ o)
more-found [] o q c e = pick (To q o) e
  where
    pick : (b : Bool) → cond b (Some o) None ≡ Some c → (dialled_to [] q ≡ Some c) ⊎ (c ≡ o)
    pick true f = inr (sym (only o c f))
    pick false f = inl f
more-found (x ∷ xs) o q c e = pick (To q x) refl e (λ f. more-found xs o q c f)
  where
    lift : To q x ≡ false → (dialled_to xs q ≡ Some c) ⊎ (c ≡ o) → (dialled_to (x ∷ xs) q ≡ Some c) ⊎ (c ≡ o)
    lift out (inl f) = inl (ap (λ b. cond b (Some x) (dialled_to xs q)) out ∙ f)
    lift out (inr f) = inr f

    pick : (b : Bool) → To q x ≡ b → cond b (Some x) (dialled_to (xs ++ o ∷ []) q) ≡ Some c → (dialled_to (xs ++ o ∷ []) q ≡ Some c → (dialled_to xs q ≡ Some c) ⊎ (c ≡ o)) → (dialled_to (x ∷ xs) q ≡ Some c) ⊎ (c ≡ o)
    pick true to f go = inl (ap (λ b. cond b (Some x) (dialled_to xs q)) to ∙ f)
    pick false to f go = lift to (go f)

pub number-last : (n : ℕ) (cs : List Connection) (o : Connection) → numbered n cs ≡ None → o.number ≡ n → is_some (numbered n (cs ++ o ∷ [])) ≡ true
number-last n [] o none e = ap (λ b. is_some (cond b (Some o) None)) (eq-eqb o.number n e)
number-last n (x ∷ xs) o none e = pick (x.number == n) none (λ f. number-last n xs o f e)
  where
    pick : (b : Bool) → cond b (Some x) (numbered n xs) ≡ None → (numbered n xs ≡ None → is_some (numbered n (xs ++ o ∷ [])) ≡ true) → is_some (cond b (Some x) (numbered n (xs ++ o ∷ []))) ≡ true
    pick true f go = absurd (some-none x f)
    pick false f go = go f

pub number-found : (n : ℕ) (cs : List Connection) (o c : Connection) → numbered n cs ≡ None → numbered n (cs ++ o ∷ []) ≡ Some c → c ≡ o
number-found n [] o c none e = pick (o.number == n) e
  where
    nothing : None ≡ Some c → ⊥
    nothing h = cc

    pick : (b : Bool) → cond b (Some o) None ≡ Some c → c ≡ o
    pick true f = sym (only o c f)
    pick false f = absurd (nothing f)
number-found n (x ∷ xs) o c none e = pick (x.number == n) none e (λ f g. number-found n xs o c f g)
  where
    pick : (b : Bool) → cond b (Some x) (numbered n xs) ≡ None → cond b (Some x) (numbered n (xs ++ o ∷ [])) ≡ Some c → (numbered n xs ≡ None → numbered n (xs ++ o ∷ []) ≡ Some c → c ≡ o) → c ≡ o
    pick true f g go = absurd (some-none x f)
    pick false f g go = go f g

-- ---- a row changes

-- What is found was this row before it changed.
pub record IsChangedOn (f : Connection → Connection) (o : Option Connection) (c : Connection) : Type 0 where
  pub before : Connection
  pub there : o ≡ Some before
  pub is : c ≡ f before

pub change-found : (n : ℕ) (f : Connection → Connection) (cs : List Connection) (q : Uuid) (c : Connection) → ((d : Connection) → (f d).dialled ≡ d.dialled) → dialled_to (at_first (λ (d : Connection). d.number == n) f cs) q ≡ Some c → (dialled_to cs q ≡ Some c) ⊎ IsChangedOn f (dialled_to cs q) c
change-found n f [] q c keeps e = inl e
change-found n f (x ∷ xs) q c keeps e = pick (x.number == n) (To q x) refl e (λ h. change-found n f xs q c keeps h)
  where
    rest : List Connection
    rest = at_first (λ (d : Connection). d.number == n) f xs

    lift : To q x ≡ false → (dialled_to xs q ≡ Some c) ⊎ IsChangedOn f (dialled_to xs q) c → (dialled_to (x ∷ xs) q ≡ Some c) ⊎ IsChangedOn f (dialled_to (x ∷ xs) q) c
    lift out (inl h) = inl (ap (λ b. cond b (Some x) (dialled_to xs q)) out ∙ h)
    lift out (inr s) = inr (record { before = s.before; there = ap (λ b. cond b (Some x) (dialled_to xs q)) out ∙ s.there; is = s.is })

    now : (d : Bool) → To q x ≡ d → To q (f x) ≡ d
    now d to = ap (is_to q) (keeps x) ∙ to

    pick : (b d : Bool) → To q x ≡ d → dialled_to (cond b (f x ∷ xs) (x ∷ rest)) q ≡ Some c → (dialled_to rest q ≡ Some c → (dialled_to xs q ≡ Some c) ⊎ IsChangedOn f (dialled_to xs q) c) → (dialled_to (x ∷ xs) q ≡ Some c) ⊎ IsChangedOn f (dialled_to (x ∷ xs) q) c
    pick true true to h go = inr (record {
      before = x;
      there = ap (λ b. cond b (Some x) (dialled_to xs q)) to;
      is = sym (only (f x) c (sym (ap (λ b. cond b (Some (f x)) (dialled_to xs q)) (now true to)) ∙ h));
    })
    pick true false to h go = inl (ap (λ b. cond b (Some x) (dialled_to xs q)) to ∙ (sym (ap (λ b. cond b (Some (f x)) (dialled_to xs q)) (now false to)) ∙ h))
    pick false true to h go = inl (ap (λ b. cond b (Some x) (dialled_to xs q)) to ∙ (sym (ap (λ b. cond b (Some x) (dialled_to rest q)) to) ∙ h))
    pick false false to h go = lift to (go (sym (ap (λ b. cond b (Some x) (dialled_to rest q)) to) ∙ h))

-- the connection that was dialled to a peer changes
pub change-here : (n : ℕ) (f : Connection → Connection) (cs : List Connection) (q : Uuid) (c : Connection) → ((d : Connection) → (f d).dialled ≡ d.dialled) → AreNumbered cs → dialled_to cs q ≡ Some c → c.number ≡ n → dialled_to (at_first (λ (d : Connection). d.number == n) f cs) q ≡ Some (f c)
change-here n f [] q c keeps apart e number = absurd (nothing e)
  where
    nothing : None ≡ Some c → ⊥
    nothing h = cc
change-here n f (x ∷ xs) q c keeps apart e number = pick (x.number == n) refl (To q x) refl e (λ h. change-here n f xs q c keeps apart.1 h number)
  where
    rest : List Connection
    rest = at_first (λ (d : Connection). d.number == n) f xs

    pick : (b : Bool) → (x.number == n) ≡ b → (d : Bool) → To q x ≡ d → cond d (Some x) (dialled_to xs q) ≡ Some c → (dialled_to xs q ≡ Some c → dialled_to rest q ≡ Some (f c)) → dialled_to (cond b (f x ∷ xs) (x ∷ rest)) q ≡ Some (f c)
    pick true is true to h go = ap (λ b. cond b (Some (f x)) (dialled_to xs q)) (ap (is_to q) (keeps x) ∙ to) ∙ ap (λ (d : Connection). Some (f d)) (only x c h)
    pick true is false to h go =
        absurd (true≢false (sym (eq-eqb c.number x.number (number ∙ sym (eqb-true x.number n is))) ∙ all-found (λ (d : Connection). (d.number == x.number) ≡ false) (To q) xs c h apart.0))
    pick false is true to h go = absurd (true≢false (sym (eq-eqb x.number n (ap (λ (d : Connection). d.number) (only x c h) ∙ number)) ∙ is))
    pick false is false to h go = ap (λ b. cond b (Some x) (dialled_to rest q)) to ∙ go h

-- a connection that a peer dialled changes, which no peer sees
pub accepted-change : (n : ℕ) (f : Connection → Connection) (cs : List Connection) (q : Uuid) → ((d : Connection) → (f d).dialled ≡ d.dialled) → AllOf (Accepts n) cs → dialled_to (at_first (λ (d : Connection). d.number == n) f cs) q ≡ dialled_to cs q
accepted-change n f [] q keeps a = refl
accepted-change n f (x ∷ xs) q keeps a = pick (x.number == n) refl (accepted-change n f xs q keeps a.1)
  where
    rest : List Connection
    rest = at_first (λ (d : Connection). d.number == n) f xs

    pick : (b : Bool) → (x.number == n) ≡ b → dialled_to rest q ≡ dialled_to xs q → dialled_to (cond b (f x ∷ xs) (x ∷ rest)) q ≡ dialled_to (x ∷ xs) q
    pick true is go =
        let out : To q x ≡ false = ap (is_to q) (a.0 is) in
        let new : To q (f x) ≡ false = ap (is_to q) (keeps x) ∙ out in
        ap (λ b. cond b (Some (f x)) (dialled_to xs q)) new ∙ sym (ap (λ b. cond b (Some x) (dialled_to xs q)) out)
    pick false is go = ap (λ (o : Option Connection). cond (To q x) (Some x) o) go

-- who spoke is noted: a Hello that came stays
pub hello-stays : (n : ℕ) (space : Uuid) (cs : List Connection) (q : Uuid) → is_some (hello_came (dialled_to cs q)) ≡ true → is_some (hello_came (dialled_to (at_first (λ (d : Connection). d.number == n) (λ (d : Connection). record d { peer = Some space }) cs) q)) ≡ true
hello-stays n space [] q e = e
hello-stays n space (x ∷ xs) q e = pick (x.number == n) e (λ h. hello-stays n space xs q h)
  where
    new : Connection
    new = record x { peer = Some space }

    rest : List Connection
    rest = at_first (λ (d : Connection). d.number == n) (λ (d : Connection). record d { peer = Some space }) xs

    here : (d : Bool) → is_some (hello_came (cond d (Some x) (dialled_to xs q))) ≡ true → is_some (hello_came (cond d (Some new) (dialled_to xs q))) ≡ true
    here true h = refl
    here false h = h

    there : (d : Bool) → is_some (hello_came (cond d (Some x) (dialled_to xs q))) ≡ true → (is_some (hello_came (dialled_to xs q)) ≡ true → is_some (hello_came (dialled_to rest q)) ≡ true) → is_some (hello_came (cond d (Some x) (dialled_to rest q))) ≡ true
    there true h go = h
    there false h go = go h

    pick : (b : Bool) → is_some (hello_came (cond (To q x) (Some x) (dialled_to xs q))) ≡ true → (is_some (hello_came (dialled_to xs q)) ≡ true → is_some (hello_came (dialled_to rest q)) ≡ true) → is_some (hello_came (dialled_to (cond b (new ∷ xs) (x ∷ rest)) q)) ≡ true
    pick true h go = here (To q x) h
    pick false h go = there (To q x) h go
