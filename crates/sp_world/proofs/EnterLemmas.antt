-- Worlds to which nothing has happened, as another space comes.
use Rattle.std.proofs.Common.{◌≡◌, ◌∙◌, ℕ, suc, Bool, true, false, List, [], ◌∷◌, ◌++◌, Option, None, Some, refl, sym, ap, subst, length, cond, map}
use Rattle.std.specs.Prelude.{is_some, option_map}
use Rattle.std.specs.Map.{lookup}
use Rattle.std.specs.Str.{bytes_eq}
use Rattle.std.proofs.lemmas.Bool.{true≢false}
use Rattle.std.proofs.lemmas.List.{map-append, length-map}
use Rattle.uuid.specs.declared.Uuid.{Uuid}
use Rattle.sp_rules.specs.Classes.{Setting}
use Rattle.sp_rules.specs.State.{State, opening}
use Rattle.sp_rules.specs.Worlds.{Space, new_space, new_world, number_of}
use Rattle.sp_rules.proofs.LineLemmas.{one-peer}
use Rattle.sp_pipes.proofs.PipeLemmas.{position-no, position-yes}
use Rattle.sp_world.specs.Residents.{AreResidents, IsResident}
use Rattle.sp_world.specs.Happenings.{TellsRefusal}
use Rattle.sp_world.specs.Waitings.{AreNew, IsWired, IsWorld, is_settled}
use Rattle.sp_world.specs.declared.resident.Resident.{Resident}
use Rattle.sp_world.specs.declared.wiring.Wiring.{Wiring}
use Rattle.sp_world.proofs.WorldLemmas.{still-waits}

-- ---- numbers

abbrev first : Option ℕ → Option ℕ → Option ℕ
first None o = o
first (Some n) o = Some n

abbrev has_id : Uuid → Space → Bool
has_id q s = bytes_eq s.setting.id q

move : (o : Option ℕ) (c : Bool) (n : ℕ) → option_map suc (first o (cond c (Some n) None)) ≡ first (option_map suc o) (cond c (Some (suc n)) None)
move None true n = refl
move None false n = refl
move (Some k) c n = refl

number-last : (spaces : List Space) (x : Space) (q : Uuid) → number_of (spaces ++ x ∷ []) q ≡ first (number_of spaces q) (cond (bytes_eq x.setting.id q) (Some (length spaces)) None)
number-last [] x q = by (bytes_eq x.setting.id q) refl
  where
    by : (b : Bool) → bytes_eq x.setting.id q ≡ b → number_of (x ∷ []) q ≡ cond b (Some 0) None
    by true e = position-yes (has_id q) x [] e
    by false e = position-no (has_id q) x [] e
number-last (y ∷ spaces) x q = by (bytes_eq y.setting.id q) refl (number-last spaces x q)
  where
    last : Option ℕ
    last = cond (bytes_eq x.setting.id q) (Some (suc (length spaces))) None

    by : (b : Bool) → bytes_eq y.setting.id q ≡ b → number_of (spaces ++ x ∷ []) q ≡ first (number_of spaces q) (cond (bytes_eq x.setting.id q) (Some (length spaces)) None)
        → number_of (y ∷ (spaces ++ x ∷ [])) q ≡ first (number_of (y ∷ spaces) q) last
    by true e rest = position-yes (has_id q) y (spaces ++ x ∷ []) e ∙ ap (λ (o : Option ℕ). first o last) (sym (position-yes (has_id q) y spaces e))
    by false e rest = position-no (has_id q) y (spaces ++ x ∷ []) e ∙ ap (option_map suc) rest ∙ move (number_of spaces q) (bytes_eq x.setting.id q) (length spaces)
        ∙ ap (λ (o : Option ℕ). first o last) (sym (position-no (has_id q) y spaces e))

first-none : (o : Option ℕ) → first o None ≡ o
first-none None = refl
first-none (Some n) = refl

not-some : (o : Option ℕ) → is_some o ≡ false → o ≡ None
not-some None e = refl
not-some (Some n) e = absurd (true≢false e)

-- the id is new
entered-new : (spaces : List Space) (x : Space) (q : Uuid) → is_some (number_of spaces x.setting.id) ≡ false
    → cond (bytes_eq x.setting.id q) (Some (length spaces)) (number_of spaces q) ≡ number_of (spaces ++ x ∷ []) q
entered-new spaces x q none = by (bytes_eq x.setting.id q) refl ∙ sym (number-last spaces x q)
  where
    by : (b : Bool) → bytes_eq x.setting.id q ≡ b → cond b (Some (length spaces)) (number_of spaces q) ≡ first (number_of spaces q) (cond b (Some (length spaces)) None)
    by true e = sym (ap (λ (o : Option ℕ). first o (Some (length spaces))) (not-some (number_of spaces q) (subst (λ (p : Uuid). is_some (number_of spaces p) ≡ false) (one-peer x.setting.id q e) none)))
    by false e = sym (first-none (number_of spaces q))

-- another space has the id
entered-old : (spaces : List Space) (x : Space) (q : Uuid) → is_some (number_of spaces x.setting.id) ≡ true → number_of spaces q ≡ number_of (spaces ++ x ∷ []) q
entered-old spaces x q some = by (bytes_eq x.setting.id q) refl (number_of spaces q) refl ∙ sym (number-last spaces x q)
  where
    by : (b : Bool) → bytes_eq x.setting.id q ≡ b → (o : Option ℕ) → number_of spaces q ≡ o → o ≡ first o (cond b (Some (length spaces)) None)
    by true e (Some n) is = refl
    by true e None is = absurd (true≢false (sym some ∙ ap is_some (subst (λ (p : Uuid). number_of spaces p ≡ None) (sym (one-peer x.setting.id q e)) is)))
    by false e o is = sym (first-none o)

-- ---- what is wired

pub entered : (settings : List Setting) (g : Setting) (id : Uuid) (n : ℕ) (old new : Wiring) → g.id ≡ id → length settings ≡ n → is_some (lookup (bytes_eq id) old.numbers.entries) ≡ false
    → ((q : Uuid) → lookup (bytes_eq q) new.numbers.entries ≡ cond (bytes_eq id q) (Some n) (lookup (bytes_eq q) old.numbers.entries)) → new.pipes ≡ old.pipes → new.dials ≡ old.dials
    → IsWired (new_world settings) old → IsWired (new_world (settings ++ g ∷ [])) new
unfolding new_world
entered settings g id n old new is many absent updates pipes dials h = record {
  numbers = λ q. updates q
      ∙ ap (λ (o : Option ℕ). cond (bytes_eq id q) (Some n) o) (h.numbers q)
      ∙ ap (λ (m : ℕ). cond (bytes_eq id q) (Some m) (number_of (map new_space settings) q)) (sym many ∙ sym (length-map settings new_space))
      ∙ ap (λ (p : Uuid). cond (bytes_eq p q) (Some (length (map new_space settings))) (number_of (map new_space settings) q)) (sym is)
      ∙ entered-new (map new_space settings) (new_space g) q (ap (λ (p : Uuid). is_some (number_of (map new_space settings) p)) is ∙ ap is_some (sym (h.numbers id)) ∙ absent)
      ∙ ap (λ (ss : List Space). number_of ss q) (sym (map-append new_space settings (g ∷ [])));
  pipes = subst (λ ps. Rattle.sp_pipes.specs.Connections.ArePipes [] ps) (sym pipes) h.pipes;
  dials = h.dials ∙ ap Rattle.sp_pipes.specs.Asked.asked (sym dials);
}

pub known : (settings : List Setting) (g : Setting) (id : Uuid) (wiring : Wiring) → g.id ≡ id → is_some (lookup (bytes_eq id) wiring.numbers.entries) ≡ true
    → IsWired (new_world settings) wiring → IsWired (new_world (settings ++ g ∷ [])) wiring
unfolding new_world
known settings g id wiring is there h = record {
  numbers = λ q. h.numbers q
      ∙ entered-old (map new_space settings) (new_space g) q (ap (λ (p : Uuid). is_some (number_of (map new_space settings) p)) is ∙ ap is_some (sym (h.numbers id)) ∙ there)
      ∙ ap (λ (ss : List Space). number_of ss q) (sym (map-append new_space settings (g ∷ [])));
  pipes = h.pipes;
  dials = h.dials;
}

-- ---- spaces

pub residents-more : {S : Type 0} (is_space : Setting → State → S → Type 0) (ss : List Space) (rs : List (Resident S)) (s : Space) (r : Resident S)
    → AreResidents is_space ss rs → IsResident is_space s r → AreResidents is_space (ss ++ s ∷ []) (rs ++ r ∷ [])
residents-more is_space [] [] s r a t = (t, tt)
residents-more is_space [] (y ∷ rs) s r a t = absurd a
residents-more is_space (x ∷ ss) [] s r a t = absurd a
residents-more is_space (x ∷ ss) (y ∷ rs) s r a t = (a.0, residents-more is_space ss rs s r a.1 t)

pub new-many : {S : Type 0} (is_space : Setting → State → S → Type 0) (ss : List Space) (rs : List (Resident S)) → AreResidents is_space ss rs → length ss ≡ length rs
new-many is_space [] [] a = refl
new-many is_space [] (y ∷ rs) a = absurd a
new-many is_space (x ∷ ss) [] a = absurd a
new-many is_space (x ∷ ss) (y ∷ rs) a = ap suc (new-many is_space ss rs a.1)

pub new-none : {S : Type 0} (is_space : Setting → State → S → Type 0) (settings : List Setting) → AreNew is_space settings [] → settings ≡ []
new-none is_space [] a = refl
new-none is_space (g ∷ settings) a = absurd a

-- the last space, and the others
pub new-split : {S : Type 0} (is_space : Setting → State → S → Type 0) (settings : List Setting) (ys : List S) (y : S) → AreNew is_space settings (ys ++ y ∷ [])
    → (gs : List Setting) × ((g : Setting) × ((settings ≡ gs ++ g ∷ []) × (AreNew is_space gs ys × is_space g opening y)))
new-split is_space [] [] y a = absurd a
new-split is_space [] (z ∷ ys) y a = absurd a
new-split is_space (g ∷ []) [] y a = ([], (g, (refl, (tt, a.0))))
new-split is_space (g ∷ (k ∷ gs)) [] y a = absurd a.1
new-split is_space (g ∷ gs) (z ∷ ys) y a = let r = new-split is_space gs ys y a.1 in (g ∷ r.0, (r.1.0, (ap (λ (l : List Setting). g ∷ l) r.1.1.0, ((a.0, r.1.1.1.0), r.1.1.1.1))))

-- a world to which nothing has happened has one space more
pub added : {S : Type 0} (is_space : Setting → State → S → Type 0) (settings : List Setting) (g : Setting) (old new : Rattle.sp_world.specs.declared.world.World.World S) (r : Resident S)
    → new.residents.items ≡ old.residents.items ++ r ∷ [] → IsResident is_space (new_space g) r → new.refused ≡ old.refused → is_settled new ≡ true → IsWired (new_world (settings ++ g ∷ [])) new.wiring
    → IsWorld is_space (new_world settings) old → IsWorld is_space (new_world (settings ++ g ∷ [])) new
unfolding new_world
added {S} is_space settings g old new r items resident refused still wired h = record {
  spaces = subst (λ (ss : List Space). AreResidents is_space ss new.residents.items) (sym (map-append new_space settings (g ∷ [])))
      (subst (AreResidents is_space (map new_space settings ++ new_space g ∷ [])) (sym items) (residents-more is_space (map new_space settings) old.residents.items (new_space g) r h.spaces resident));
  refused = subst (TellsRefusal None) (sym refused) h.refused;
  waiting = still-waits (new_world (settings ++ g ∷ [])) new still wired;
}

pub many-new : {S : Type 0} (is_space : Setting → State → S → Type 0) (settings : List Setting) (world : Rattle.sp_world.specs.declared.world.World.World S) → IsWorld is_space (new_world settings) world → length settings ≡ length world.residents.items
unfolding new_world
many-new is_space settings world h = sym (length-map settings new_space) ∙ new-many is_space (map new_space settings) world.residents.items h.spaces
