use Rattle.std.proofs.Common.{◌≡◌, ℕ, zero, suc, ◌<◌, ◌≤◌, Bool, true, false, ◌&&◌, List, [], ◌∷◌, ◌++◌, length, min, take, drop, Some, refl, sym, ap, ◌∙◌, append_assoc, arith, length-append, length-drop, take-append-drop, length-take}
use Rattle.std.specs.Prelude.{map, All, if◌then◌else◌}
use Rattle.std.specs.List.{flat_map}
use Rattle.std.specs.Str.{bytes_eq}
use Rattle.std.proofs.lemmas.Bool.{false≢true}
use Rattle.std.proofs.lemmas.Grind.{flat_map-append}
use Rattle.std.proofs.lemmas.List.{append-nil, map-append, take_min, drop_min}
use Rattle.std.proofs.lemmas.List.Elements.{All-push, All-pop, All-nil, All-cons, All-head, All-tail}
use Rattle.std.proofs.lemmas.Slice.Eq.{bytes_eq-Decides}
use Rattle.space_ids.specs.declared.ids.ObjId.{ObjId}
use Rattle.dgc_client.specs.declared.groups.DueCall.{DueCall}
use Rattle.dgc_client.specs.declared.groups.Group.{Group}
use Rattle.dgc_client.specs.declared.lease.Due.{Due}
use Rattle.dgc_client.specs.declared.lease.Due.TheVariants.{Dirty, Clean}
use Rattle.dgc_client.specs.Groups.{is_same_kind, is_of, call_of, calls_of, group_of, with_call, grouped, IsApartFrom, AreApart, IsGrouping, pieces_within, pieces, part_of, parts_of, AreFull}

pub left-true : (s t : Bool) → (s && t) ≡ true → s ≡ true
left-true true t h = refl
left-true false t h = h

pub right-true : (s t : Bool) → (s && t) ≡ true → t ≡ true
right-true true t h = h
right-true false t h = absurd (false≢true h)

pub same-kind : (a b : Due) → is_same_kind a b ≡ true → a ≡ b
same-kind Dirty Dirty h = refl
same-kind Dirty (Clean t) h = absurd (false≢true h)
same-kind (Clean s) Dirty h = absurd (false≢true h)
same-kind (Clean true) (Clean true) h = refl
same-kind (Clean true) (Clean false) h = absurd (false≢true h)
same-kind (Clean false) (Clean true) h = absurd (false≢true h)
same-kind (Clean false) (Clean false) h = refl

pub kind-self : (a : Due) → is_same_kind a a ≡ true
kind-self Dirty = refl
kind-self (Clean true) = refl
kind-self (Clean false) = refl

peer-of : (peer : List ℕ) (kind : Due) (call : DueCall) → is_of peer kind call ≡ true → call.reference.space ≡ peer
peer-of peer kind call h = (bytes_eq-Decides call.reference.space peer).0 (left-true (bytes_eq call.reference.space peer) (is_same_kind call.kind kind) h)

kind-of : (peer : List ℕ) (kind : Due) (call : DueCall) → is_of peer kind call ≡ true → call.kind ≡ kind
kind-of peer kind call h = same-kind call.kind kind (right-true (bytes_eq call.reference.space peer) (is_same_kind call.kind kind) h)

both-true : (s t : Bool) → s ≡ true → t ≡ true → (s && t) ≡ true
both-true true t h g = g
both-true false t h g = absurd (false≢true h)

-- a call is of its own peer and kind
self-of : (peer : List ℕ) (kind : Due) (id : ObjId) → is_of peer kind (call_of peer kind id) ≡ true
self-of peer kind id = both-true (bytes_eq peer peer) (is_same_kind kind kind) ((bytes_eq-Decides peer peer).1 refl) (kind-self kind)

-- a call that is not of a peer and kind has another
apart-of : (peer : List ℕ) (kind : Due) (call : DueCall) → is_of peer kind call ≡ false → peer ≡ call.reference.space → kind ≡ call.kind → ⊥
apart-of peer kind call other at of_kind =
    let mine : is_of call.reference.space call.kind call ≡ false = (λ j. is_of (sym at j) (sym of_kind j) call) ∙ other in
    false≢true (sym mine ∙ self-of call.reference.space call.kind call.reference.id)

calls-more : (last : Group) (call : DueCall) → call.reference.space ≡ last.peer → call.kind ≡ last.kind
    → calls_of (record last { ids = last.ids ++ call.reference.id ∷ [] }) ≡ calls_of last ++ call ∷ []
calls-more last call space kind =
    map-append (call_of last.peer last.kind) last.ids (call.reference.id ∷ [])
    ∙ (λ j. calls_of last ++ call_of (sym space j) (sym kind j) call.reference.id ∷ [])

apart-new : (groups : List Group) (last group : Group) → AreApart (groups ++ last ∷ []) → (last.peer ≡ group.peer → last.kind ≡ group.kind → ⊥) → AreApart ((groups ++ last ∷ []) ++ group ∷ [])
apart-new [] last group apart h = (h, (tt, tt))
apart-new (one ∷ []) last group apart h = (apart.0, (h, (tt, tt)))
apart-new (one ∷ two ∷ groups) last group apart h = (apart.0, apart-new (two ∷ groups) last group apart.1 h)

apart-more : (groups : List Group) (last group : Group) → group.peer ≡ last.peer → group.kind ≡ last.kind → AreApart (groups ++ last ∷ []) → AreApart (groups ++ group ∷ [])
apart-more [] last group peer kind apart = (tt, tt)
apart-more (one ∷ []) last group peer kind apart = (λ p k. apart.0 (p ∙ peer) (k ∙ kind), (tt, tt))
apart-more (one ∷ two ∷ groups) last group peer kind apart = (apart.0, apart-more (two ∷ groups) last group peer kind apart.1)

-- a call in the first group
pub put-first : (calls : List DueCall) (call : DueCall) → IsGrouping calls [] → IsGrouping (calls ++ call ∷ []) (group_of call ∷ [])
put-first calls call was = record {
  joined = ap (λ (cs : List DueCall). cs ++ call ∷ []) was.joined;
  some = All-cons (λ (g : Group). 1 ≤ length g.ids) (group_of call) [] (omega arith) was.some;
  apart = (tt, tt);
}

-- a call in a new group, after one of another peer or kind
pub put-new : (calls : List DueCall) (groups : List Group) (last : Group) (call : DueCall) → is_of last.peer last.kind call ≡ false
    → IsGrouping calls (groups ++ last ∷ []) → IsGrouping (calls ++ call ∷ []) ((groups ++ last ∷ []) ++ group_of call ∷ [])
put-new calls groups last call other was = record {
  joined = flat_map-append calls_of (groups ++ last ∷ []) (group_of call ∷ []) ∙ ap (λ (cs : List DueCall). cs ++ call ∷ []) was.joined;
  some = All-push (λ (g : Group). 1 ≤ length g.ids) (groups ++ last ∷ []) (group_of call) was.some (omega arith);
  apart = apart-new groups last (group_of call) was.apart (apart-of last.peer last.kind call other);
}

-- a call in the last group, which is of its peer and kind
pub put-in : (calls : List DueCall) (groups : List Group) (last : Group) (call : DueCall) → is_of last.peer last.kind call ≡ true
    → IsGrouping calls (groups ++ last ∷ []) → IsGrouping (calls ++ call ∷ []) (groups ++ record last { ids = last.ids ++ call.reference.id ∷ [] } ∷ [])
put-in calls groups last call mine was =
    let more : Group = record last { ids = last.ids ++ call.reference.id ∷ [] } in
    let some_there : 1 ≤ length more.ids = omega (arith, length-append last.ids (call.reference.id ∷ [])) in
    record {
      joined = flat_map-append calls_of groups (more ∷ [])
          ∙ ap (λ (cs : List DueCall). flat_map calls_of groups ++ cs) (append-nil (calls_of more) ∙ calls-more last call (peer-of last.peer last.kind call mine) (kind-of last.peer last.kind call mine))
          ∙ sym (append_assoc (flat_map calls_of groups) (calls_of last) (call ∷ []))
          ∙ ap (λ (cs : List DueCall). (flat_map calls_of groups ++ cs) ++ call ∷ []) (sym (append-nil (calls_of last)))
          ∙ ap (λ (cs : List DueCall). cs ++ call ∷ []) (sym (flat_map-append calls_of groups (last ∷ [])) ∙ was.joined);
      some = All-push (λ (g : Group). 1 ≤ length g.ids) groups more (All-pop (λ (g : Group). 1 ≤ length g.ids) (groups ++ last ∷ []) groups (Some last) refl was.some).0 some_there;
      apart = apart-more groups last more refl refl was.apart;
    }

-- a call before groups that are of another peer or kind
alone : (peer : List ℕ) (kind : Due) (id : ObjId) (groups : List Group) → IsApartFrom peer kind groups
    → with_call (call_of peer kind id) groups ≡ record { peer = peer; kind = kind; ids = id ∷ [] } ∷ groups
alone peer kind id [] apart = refl
alone peer kind id (next ∷ more) apart =
    let call = call_of peer kind id in
    elim (is_of next.peer next.kind call) as (λ t. is_of next.peer next.kind call ≡ t
    → (if t then record next { ids = id ∷ next.ids } ∷ more else group_of call ∷ next ∷ more) ≡ group_of call ∷ next ∷ more) [
      | true ↦ λ mine. absurd (apart (peer-of next.peer next.kind call mine) (kind-of next.peer next.kind call mine))
      | false ↦ λ _. refl
    ] refl

-- the calls of one peer and kind that follow each other make one group
stretch : (peer : List ℕ) (kind : Due) (id : ObjId) (ids : List ObjId) (calls : List DueCall) (groups : List Group) → grouped calls ≡ groups → IsApartFrom peer kind groups
    → grouped (map (call_of peer kind) (id ∷ ids) ++ calls) ≡ record { peer = peer; kind = kind; ids = id ∷ ids } ∷ groups
stretch peer kind id [] calls groups is apart = ap (with_call (call_of peer kind id)) is ∙ alone peer kind id groups apart
stretch peer kind id (next ∷ ids) calls groups is apart =
    ap (with_call (call_of peer kind id)) (stretch peer kind next ids calls groups is apart) ∙ rw (self-of peer kind id) refl

regrouped : (groups : List Group) → All (λ (g : Group). 1 ≤ length g.ids) groups → AreApart groups → grouped (flat_map calls_of groups) ≡ groups
regrouped [] some apart = refl
regrouped (group ∷ groups) some apart =
    by group.ids (All-head (λ (g : Group). 1 ≤ length g.ids) group groups some) (regrouped groups (All-tail (λ (g : Group). 1 ≤ length g.ids) group groups some) apart.1)
  where
    by : (ids : List ObjId) → 1 ≤ length ids → grouped (flat_map calls_of groups) ≡ groups
        → grouped (map (call_of group.peer group.kind) ids ++ flat_map calls_of groups) ≡ record group { ids = ids } ∷ groups
    by [] h rest = absurd (omega arith)
    by (id ∷ ids) h rest = stretch group.peer group.kind id ids (flat_map calls_of groups) groups rest apart.0

-- one grouping alone stands for the calls
pub only-grouping : (calls : List DueCall) (groups : List Group) → IsGrouping calls groups → groups ≡ grouped calls
only-grouping calls groups was = sym (regrouped groups was.some was.apart) ∙ ap grouped was.joined

with-call : (call : DueCall) (calls : List DueCall) (groups : List Group) → IsGrouping calls groups → IsGrouping (call ∷ calls) (with_call call groups)
with-call call calls [] was = record {
  joined = ap (λ (cs : List DueCall). call ∷ cs) was.joined;
  some = All-cons (λ (g : Group). 1 ≤ length g.ids) (group_of call) [] (omega arith) was.some;
  apart = (tt, tt);
}
with-call call calls (group ∷ groups) was =
    elim (is_of group.peer group.kind call) as (λ t. is_of group.peer group.kind call ≡ t
    → IsGrouping (call ∷ calls) (if t then record group { ids = call.reference.id ∷ group.ids } ∷ groups else group_of call ∷ group ∷ groups)) [
      | true ↦ λ mine. record {
        joined = λ j. call_of (sym (peer-of group.peer group.kind call mine) j) (sym (kind-of group.peer group.kind call mine) j) call.reference.id ∷ was.joined j;
        some = All-cons (λ (g : Group). 1 ≤ length g.ids) (record group { ids = call.reference.id ∷ group.ids }) groups (omega arith) (All-tail (λ (g : Group). 1 ≤ length g.ids) group groups was.some);
        apart = (was.apart.0, was.apart.1);
      }
      | false ↦ λ other. record {
        joined = ap (λ (cs : List DueCall). call ∷ cs) was.joined;
        some = All-cons (λ (g : Group). 1 ≤ length g.ids) (group_of call) (group ∷ groups) (omega arith) was.some;
        apart = (λ p k. apart-of group.peer group.kind call other (sym p) (sym k), was.apart);
      }
    ] refl

-- the groups of calls are a grouping of them
pub are-grouping : (calls : List DueCall) → IsGrouping calls (grouped calls)
are-grouping [] = record { joined = refl; some = All-nil (λ (g : Group). 1 ≤ length g.ids); apart = tt }
are-grouping (call ∷ calls) = with-call call calls (grouped calls) (are-grouping calls)

no-pieces : (count most : ℕ) → pieces_within count most [] ≡ []
no-pieces zero most = refl
no-pieces (suc count) most = refl

-- the pieces are within the bound by which they are counted
counted-pieces : (n m most : ℕ) → 0 < most → (ids : List ObjId) → length ids ≤ n → length ids ≤ m → pieces_within n most ids ≡ pieces_within m most ids
counted-pieces zero m most some [] a b = sym (no-pieces m most)
counted-pieces zero m most some (id ∷ ids) a b = absurd (omega arith)
counted-pieces (suc n) m most some [] a b = sym (no-pieces m most)
counted-pieces (suc n) zero most some (id ∷ ids) a b = absurd (omega arith)
counted-pieces (suc n) (suc m) most some (id ∷ ids) a b =
    ap (λ (rest : List (List ObjId)). take most (id ∷ ids) ∷ rest)
    (counted-pieces n m most some (drop most (id ∷ ids)) (omega (arith, length-drop most (id ∷ ids))) (omega (arith, length-drop most (id ∷ ids))))

next-pieces : (most : ℕ) (ids : List ObjId) → 0 < most → 0 < length ids → pieces most ids ≡ take most ids ∷ pieces most (drop most ids)
next-pieces most [] some h = absurd (omega arith)
next-pieces most (id ∷ ids) some h =
    ap (λ (rest : List (List ObjId)). take most (id ∷ ids) ∷ rest)
    (counted-pieces (length ids) (length (drop most (id ∷ ids))) most some (drop most (id ∷ ids)) (omega (arith, length-drop most (id ∷ ids))) (omega arith))

-- one more part of a group
pub next-part : (group : Group) (most : ℕ) (done : List Group) (rest ids more : List ObjId) → 0 < most → 0 < length rest
    → ids ≡ take (min most (length rest)) rest → more ≡ drop (min most (length rest)) rest
    → parts_of most group ≡ done ++ map (part_of group) (pieces most rest) → parts_of most group ≡ (done ++ part_of group ids ∷ []) ++ map (part_of group) (pieces most more)
next-part group most done rest ids more some left is_ids is_more so_far =
    let first : ids ≡ take most rest = is_ids ∙ take_min most rest in
    let following : more ≡ drop most rest = is_more ∙ drop_min most rest in
    so_far ∙ ap (λ (ps : List (List ObjId)). done ++ map (part_of group) ps) (next-pieces most rest some left)
    ∙ (λ j. done ++ part_of group (sym first j) ∷ map (part_of group) (pieces most (sym following j)))
    ∙ sym (append_assoc done (part_of group ids ∷ []) (map (part_of group) (pieces most more)))

-- the pieces, joined, are the row
joined-within : (count most : ℕ) → 0 < most → (group : Group) (ids : List ObjId) → length ids ≤ count
    → flat_map calls_of (map (part_of group) (pieces_within count most ids)) ≡ map (call_of group.peer group.kind) ids
joined-within zero most some group [] few = refl
joined-within zero most some group (id ∷ ids) few = absurd (omega arith)
joined-within (suc count) most some group [] few = refl
joined-within (suc count) most some group (id ∷ ids) few =
    ap (λ (rest : List DueCall). map (call_of group.peer group.kind) (take most (id ∷ ids)) ++ rest)
    (joined-within count most some group (drop most (id ∷ ids)) (omega (arith, length-drop most (id ∷ ids))))
    ∙ sym (map-append (call_of group.peer group.kind) (take most (id ∷ ids)) (drop most (id ∷ ids)))
    ∙ ap (map (call_of group.peer group.kind)) (take-append-drop most (id ∷ ids))

pub parts-joined : (most : ℕ) (group : Group) → 0 < most → flat_map calls_of (parts_of most group) ≡ calls_of group
parts-joined most group some = joined-within (length group.ids) most some group group.ids (omega arith)

few-within : (count most : ℕ) → 0 < most → (group : Group) (ids : List ObjId)
    → All (λ (part : Group). (1 ≤ length part.ids) × (length part.ids ≤ most)) (map (part_of group) (pieces_within count most ids))
few-within zero most some group ids = All-nil (λ (part : Group). (1 ≤ length part.ids) × (length part.ids ≤ most))
few-within (suc count) most some group [] = All-nil (λ (part : Group). (1 ≤ length part.ids) × (length part.ids ≤ most))
few-within (suc count) most some group (id ∷ ids) =
    All-cons (λ (part : Group). (1 ≤ length part.ids) × (length part.ids ≤ most)) (part_of group (take most (id ∷ ids))) (map (part_of group) (pieces_within count most (drop most (id ∷ ids))))
    (omega (arith, length-take most (id ∷ ids)), omega (arith, length-take most (id ∷ ids)))
    (few-within count most some group (drop most (id ∷ ids)))

pub parts-few : (most : ℕ) (group : Group) → 0 < most → All (λ (part : Group). (1 ≤ length part.ids) × (length part.ids ≤ most)) (parts_of most group)
parts-few most group some = few-within (length group.ids) most some group group.ids

full-within : (count most : ℕ) → 0 < most → (group : Group) (ids : List ObjId) → AreFull most (map (part_of group) (pieces_within count most ids))
full-within zero most some group ids = tt
full-within (suc count) most some group [] = tt
full-within (suc count) most some group (id ∷ ids) = by count (drop most (id ∷ ids)) refl (full-within count most some group (drop most (id ∷ ids)))
  where
    by : (count : ℕ) (rest : List ObjId) → drop most (id ∷ ids) ≡ rest → AreFull most (map (part_of group) (pieces_within count most rest))
        → AreFull most (part_of group (take most (id ∷ ids)) ∷ map (part_of group) (pieces_within count most rest))
    by zero rest is full = tt
    by (suc count) [] is full = tt
    by (suc count) (next ∷ rest) is full =
        let longer : length (drop most (id ∷ ids)) ≡ suc (length rest) = ap length is in
        (omega (arith, length-take most (id ∷ ids), length-drop most (id ∷ ids)), full)

pub parts-full : (most : ℕ) (group : Group) → 0 < most → AreFull most (parts_of most group)
parts-full most group some = full-within (length group.ids) most some group group.ids
