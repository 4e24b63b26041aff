-- The requests of one peer among those of all. (For the crate that keeps a table for each peer.)
use Rattle.std.proofs.Common.{◌≡◌, ℕ, Bool, true, false, cond, List, [], ◌∷◌, ◌++◌, Some, filter, map, refl, sym, ap, ◌∙◌, true≢false}
use Rattle.std.specs.Prelude.{not, find}
use Rattle.std.specs.Str.{bytes_eq}
use Rattle.uuid.specs.declared.Uuid.{Uuid}
use Rattle.sp_rules.specs.Frames.{answered_on}
use Rattle.sp_rules.specs.Laws.{AllOf}
use Rattle.sp_rules.specs.ParkedFrames.{is_call_on, is_out_on}
use Rattle.sp_rules.specs.State.{Request}
use Rattle.sp_requests.specs.Peers.{IsWith, of_peer}

-- ---- a request more

pub peer-more : (peer : Uuid) (rows : List Request) (r : Request) → of_peer peer (rows ++ r ∷ []) ≡ cond (bytes_eq r.peer peer) (of_peer peer rows ++ r ∷ []) (of_peer peer rows)
peer-more peer [] r = refl
peer-more peer (x ∷ xs) r = pick (bytes_eq x.peer peer) (bytes_eq r.peer peer) (peer-more peer xs r)
  where
    pick : (b d : Bool) → of_peer peer (xs ++ r ∷ []) ≡ cond d (of_peer peer xs ++ r ∷ []) (of_peer peer xs)
        → cond b (x ∷ of_peer peer (xs ++ r ∷ [])) (of_peer peer (xs ++ r ∷ [])) ≡ cond d (cond b (x ∷ of_peer peer xs) (of_peer peer xs) ++ r ∷ []) (cond b (x ∷ of_peer peer xs) (of_peer peer xs))
    pick true true go = ap (λ l. x ∷ l) go
    pick true false go = ap (λ l. x ∷ l) go
    pick false d go = go

-- ---- requests that go

pub peer-filter : (peer : Uuid) (q : Request → Bool) (rows : List Request) → of_peer peer (filter q rows) ≡ filter q (of_peer peer rows)
peer-filter peer q [] = refl
peer-filter peer q (x ∷ xs) = pick (q x) refl (bytes_eq x.peer peer) refl (peer-filter peer q xs)
  where
    pick : (b : Bool) → q x ≡ b → (d : Bool) → bytes_eq x.peer peer ≡ d → of_peer peer (filter q xs) ≡ filter q (of_peer peer xs) → of_peer peer (cond b (x ∷ filter q xs) (filter q xs)) ≡ filter q (cond d (x ∷ of_peer peer xs) (of_peer peer xs))
    pick true e true f go = ap (λ d. cond d (x ∷ of_peer peer (filter q xs)) (of_peer peer (filter q xs))) f ∙ ap (λ l. x ∷ l) go ∙ sym (ap (λ b. cond b (x ∷ filter q (of_peer peer xs)) (filter q (of_peer peer xs))) e)
    pick true e false f go = ap (λ d. cond d (x ∷ of_peer peer (filter q xs)) (of_peer peer (filter q xs))) f ∙ go
    pick false e true f go = go ∙ sym (ap (λ b. cond b (x ∷ filter q (of_peer peer xs)) (filter q (of_peer peer xs))) e)
    pick false e false f go = go

-- what goes with a connection is of its peer, so another peer's requests stay
pub others-stay : (conn : ℕ) (peer other : Uuid) (is : Request → Bool) (rows : List Request) → ((r : Request) → is r ≡ true → is_out_on conn r.stage ≡ true) → AllOf (IsWith conn peer) rows → bytes_eq peer other ≡ false
    → of_peer other (filter (λ (r : Request). not (is r)) rows) ≡ of_peer other rows
others-stay conn peer other is [] out with apart = refl
others-stay conn peer other is (x ∷ xs) out with apart = pick (is x) refl (bytes_eq x.peer other) refl (others-stay conn peer other is xs out with.1 apart)
  where
    rest : List Request
    rest = filter (λ (r : Request). not (is r)) xs

    pick : (b : Bool) → is x ≡ b → (d : Bool) → bytes_eq x.peer other ≡ d → of_peer other rest ≡ of_peer other xs → of_peer other (cond (not b) (x ∷ rest) rest) ≡ cond d (x ∷ of_peer other xs) (of_peer other xs)
    pick true e true f go = absurd (true≢false (sym f ∙ ap (λ (p : Uuid). bytes_eq p other) (with.0 (out x e)) ∙ apart))
    pick true e false f go = go
    pick false e d f go = ap (λ t. cond t (x ∷ of_peer other rest) (of_peer other rest)) f ∙ ap (λ l. cond d (x ∷ l) l) go

-- ---- requests that are answered

pub peer-answered : (peer : Uuid) (conn n : ℕ) (rows : List Request) → of_peer peer (map (answered_on conn n) rows) ≡ map (answered_on conn n) (of_peer peer rows)
peer-answered peer conn n [] = refl
peer-answered peer conn n (x ∷ xs) = ap (λ (p : Uuid). cond (bytes_eq p peer) (answered_on conn n x ∷ of_peer peer (map (answered_on conn n) xs)) (of_peer peer (map (answered_on conn n) xs))) (its (is_call_on conn n x)) ∙ pick (bytes_eq x.peer peer) (peer-answered peer conn n xs)
  where
    its : (b : Bool) → (cond b (record x { stage = Rattle.sp_rules.specs.State.Answered conn }) x).peer ≡ x.peer
    its true = refl
    its false = refl

    pick : (b : Bool) → of_peer peer (map (answered_on conn n) xs) ≡ map (answered_on conn n) (of_peer peer xs)
        → cond b (answered_on conn n x ∷ of_peer peer (map (answered_on conn n) xs)) (of_peer peer (map (answered_on conn n) xs)) ≡ map (answered_on conn n) (cond b (x ∷ of_peer peer xs) (of_peer peer xs))
    pick true go = ap (λ l. answered_on conn n x ∷ l) go
    pick false go = go

-- ---- requests that are found

pub found-there : (conn : ℕ) (peer : Uuid) (is : Request → Bool) (rows : List Request) → ((r : Request) → is r ≡ true → is_out_on conn r.stage ≡ true) → AllOf (IsWith conn peer) rows → bytes_eq peer peer ≡ true → find is rows ≡ find is (of_peer peer rows)
found-there conn peer is [] out with same = refl
found-there conn peer is (x ∷ xs) out with same = pick (is x) refl (bytes_eq x.peer peer) refl (found-there conn peer is xs out with.1 same)
  where
    pick : (b : Bool) → is x ≡ b → (d : Bool) → bytes_eq x.peer peer ≡ d → find is xs ≡ find is (of_peer peer xs) → cond b (Some x) (find is xs) ≡ find is (cond d (x ∷ of_peer peer xs) (of_peer peer xs))
    pick b e true f go = ap (λ l. cond b (Some x) l) go ∙ sym (ap (λ t. cond t (Some x) (find is (of_peer peer xs))) e)
    pick true e false f go = absurd (true≢false (sym same ∙ sym (ap (λ (p : Uuid). bytes_eq p peer) (with.0 (out x e))) ∙ f))
    pick false e false f go = go
