-- The groups of an event stand in the order in which their frames are answered: clean calls first, then dirty calls.
use mathlib.Core.Path.{sym, ◌∙◌}
use Rattle.std.proofs.lemmas.Bool.{true≢false}
use Rattle.std.specs.List.{flat_map}
use Rattle.std.specs.Prelude.{◌≡◌, refl, cond, ◌&&◌, ℕ, Bool, true, false, List, [], ◌∷◌, ◌++◌, filter, if◌then◌else◌}
use Rattle.std.specs.Str.{bytes_eq}
use Rattle.dgc_client.specs.Groups as groups
use Rattle.dgc_client.specs.Groups.{grouped, with_call, cleans_of_peer, peers_of, is_same_kind}
use Rattle.dgc_client.specs.Table as client
use Rattle.dgc_client.specs.declared.groups.DueCall.{DueCall}
use Rattle.dgc_client.specs.declared.groups.Group.{Group}
use Rattle.dgc_client.specs.declared.lease.Due.{Due}
use Rattle.dgc_client.specs.declared.lease.Due.TheVariants as due
use Rattle.sp_rules.specs.Frames.{is_dirty_kind}
use Rattle.sp_rules.specs.Laws.{AllOf}
use Rattle.sp_rules.specs.Requests
use Rattle.sp_rules.proofs.AllLemmas.{all-append}

abbrev pub IsDirty : Group → Type 0
IsDirty b = is_dirty_kind b.kind ≡ true

-- After a dirty group there is no clean one.
abbrev pub CleansFirst : List Group → Type 0
CleansFirst [] = Unit {0}
CleansFirst (b ∷ bs) = (IsDirty b → AllOf IsDirty bs) × CleansFirst bs

flat-all : {A B : Type 0} (P : B → Type 0) (f : A → List B) (xs : List A) → ((x : A) → AllOf P (f x)) → AllOf P (flat_map f xs)
flat-all P f [] k = tt
flat-all P f (x ∷ xs) k = all-append P (f x) (flat_map f xs) (k x) (flat-all P f xs k)

filter-all : {A : Type 0} (P : A → Type 0) (is : A → Bool) (xs : List A) → ((x : A) → is x ≡ true → P x) → AllOf P (filter is xs)
filter-all P is [] k = tt
filter-all P is (x ∷ xs) k = pick (is x) refl (filter-all P is xs k)
  where
    pick : (b : Bool) → is x ≡ b → AllOf P (filter is xs) → AllOf P (cond b (x ∷ filter is xs) (filter is xs))
    pick true e rest = (k x e, rest)
    pick false e rest = rest

right : (a b : Bool) → a && b ≡ true → b ≡ true
right true b e = e
right false b e = absurd (true≢false (sym e))

is-dirty : (kind : Due) → is_same_kind kind due.Dirty ≡ true → is_dirty_kind kind ≡ true
is-dirty due.Dirty e = refl
is-dirty (due.Clean strong) e = absurd (true≢false (sym e))

is-clean : (kind : Due) (strong : Bool) → is_same_kind kind (due.Clean strong) ≡ true → is_dirty_kind kind ≡ false
is-clean due.Dirty strong e = absurd (true≢false (sym e))
is-clean (due.Clean s) strong e = refl

dirty-group : (c : DueCall) (bs : List Group) → is_dirty_kind c.kind ≡ true → AllOf IsDirty bs → AllOf IsDirty (with_call c bs)
dirty-group c [] e a = (e, tt)
dirty-group c (b ∷ bs) e a = pick (groups.is_of b.peer b.kind c)
  where
    pick : (x : Bool) → AllOf IsDirty (if x then record b { ids = c.reference.id ∷ b.ids } ∷ bs else groups.group_of c ∷ b ∷ bs)
    pick true = (a.0, a.1)
    pick false = (e, a)

dirty-groups : (cs : List DueCall) → AllOf (λ (c : DueCall). is_dirty_kind c.kind ≡ true) cs → AllOf IsDirty (grouped cs)
dirty-groups [] a = tt
dirty-groups (c ∷ cs) a = dirty-group c (grouped cs) a.0 (dirty-groups cs a.1)

all-dirty : (bs : List Group) → AllOf IsDirty bs → CleansFirst bs
all-dirty [] a = tt
all-dirty (b ∷ bs) a = ((λ e. a.1), all-dirty bs a.1)

clean-group : (c : DueCall) (bs : List Group) → is_dirty_kind c.kind ≡ false → CleansFirst bs → CleansFirst (with_call c bs)
clean-group c [] e a = ((λ d. tt), tt)
clean-group c (b ∷ bs) e a = pick (groups.is_of b.peer b.kind c)
  where
    pick : (x : Bool) → CleansFirst (if x then record b { ids = c.reference.id ∷ b.ids } ∷ bs else groups.group_of c ∷ b ∷ bs)
    pick true = (a.0, a.1)
    pick false = ((λ d. absurd (true≢false (sym d ∙ e))), a)

clean-groups : (cs ds : List DueCall) → AllOf (λ (c : DueCall). is_dirty_kind c.kind ≡ false) cs → AllOf (λ (c : DueCall). is_dirty_kind c.kind ≡ true) ds → CleansFirst (grouped (cs ++ ds))
clean-groups [] ds a d = all-dirty (grouped ds) (dirty-groups ds d)
clean-groups (c ∷ cs) ds a d = clean-group c (grouped (cs ++ ds)) a.0 (clean-groups cs ds a.1 d)

pub cleans-first : (h : List client.Told) → CleansFirst (Requests.due_groups h)
unfolding Requests.due_groups
cleans-first h = clean-groups _ _ (flat-all _ (cleans_of_peer (client.due_of h)) (peers_of true (client.due_of h)) cleans) (flat-all _ dirties (peers_of false (client.due_of h)) (λ peer. filter-all _ (groups.is_of peer due.Dirty) (client.due_of h) (λ c e. is-dirty c.kind (right (bytes_eq c.reference.space peer) _ e))))
  where
    dirties : List ℕ → List DueCall
    dirties peer = filter (groups.is_of peer due.Dirty) (client.due_of h)

    cleans : (peer : List ℕ) → AllOf (λ (c : DueCall). is_dirty_kind c.kind ≡ false) (cleans_of_peer (client.due_of h) peer)
    cleans peer = all-append _ (filter (groups.is_of peer (due.Clean true)) (client.due_of h)) (filter (groups.is_of peer (due.Clean false)) (client.due_of h))
        (filter-all _ (groups.is_of peer (due.Clean true)) (client.due_of h) (λ c e. is-clean c.kind true (right (bytes_eq c.reference.space peer) _ e)))
        (filter-all _ (groups.is_of peer (due.Clean false)) (client.due_of h) (λ c e. is-clean c.kind false (right (bytes_eq c.reference.space peer) _ e)))
