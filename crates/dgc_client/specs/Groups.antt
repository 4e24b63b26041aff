-- Calls that are due go to their peers in groups: a dirty or a clean call names several objects of one owner (Java RMI specification, 9.1: `DGC.dirty` and `DGC.clean` take an array of object ids). How they are divided is this project's own rule.
use Rattle.std.specs.Prelude.{◌≡◌, ◌≤◌, ℕ, zero, suc, Bool, true, false, List, [], ◌∷◌, ◌++◌, length, filter, fold, map, take, drop, All, not, ◌&&◌, if◌then◌else◌}
use Rattle.std.specs.List.{list_any, flat_map}
use Rattle.std.specs.Str.{bytes_eq}
use Rattle.space_ids.specs.declared.ids.ObjId.{ObjId}
use Rattle.dgc_client.specs.declared.groups.DueCall.{DueCall}
use Rattle.dgc_client.specs.declared.groups.Group.{Group}
use Rattle.dgc_client.specs.declared.lease.Due.{Due}
use Rattle.dgc_client.specs.declared.lease.Due.TheVariants.{Dirty, Clean}

-- whether two answers are one
abbrev pub is_same_answer : Bool → Bool → Bool
is_same_answer true t = t
is_same_answer false t = not t

-- whether two calls are of one kind: dirty, clean, or strong clean
abbrev pub is_same_kind : Due → Due → Bool
is_same_kind Dirty Dirty = true
is_same_kind Dirty (Clean t) = false
is_same_kind (Clean s) Dirty = false
is_same_kind (Clean s) (Clean t) = is_same_answer s t

-- whether a call is of this peer and kind
abbrev pub is_of : List ℕ → Due → DueCall → Bool
is_of peer kind call = bytes_eq call.reference.space peer && is_same_kind call.kind kind

abbrev pub is_clean_kind : Due → Bool
is_clean_kind Dirty = false
is_clean_kind (Clean s) = true

abbrev pub is_clean : DueCall → Bool
is_clean call = is_clean_kind call.kind

-- a peer goes last if it is not there
abbrev pub with_peer : List (List ℕ) → List ℕ → List (List ℕ)
with_peer peers peer = if list_any (bytes_eq peer) peers then peers else peers ++ peer ∷ []

-- the peers of the clean calls, or of the dirty calls, each once, in the order of their first call
abbrev pub peers_of : Bool → List DueCall → List (List ℕ)
peers_of clean calls = fold with_peer [] (map (λ (call : DueCall). call.reference.space) (filter (λ call. is_same_answer (is_clean call) clean) calls))

-- the clean calls of a peer, the strong ones first
abbrev pub cleans_of_peer : List DueCall → List ℕ → List DueCall
cleans_of_peer calls peer = filter (is_of peer (Clean true)) calls ++ filter (is_of peer (Clean false)) calls

-- Clean calls come first, then dirty calls. Those of one peer go together, peers in the order of their first call there.
abbrev pub in_order : List DueCall → List DueCall
in_order calls =
    flat_map (cleans_of_peer calls) (peers_of true calls)
    ++ flat_map (λ peer. filter (is_of peer Dirty) calls) (peers_of false calls)

-- the call of this kind of an object of a peer
abbrev pub call_of : List ℕ → Due → ObjId → DueCall
call_of peer kind id = record { reference = record { space = peer; id = id }; kind = kind }

-- the calls that a group stands for
abbrev pub calls_of : Group → List DueCall
calls_of group = map (call_of group.peer group.kind) group.ids

-- the group of one call alone
abbrev pub group_of : DueCall → Group
group_of call = record { peer = call.reference.space; kind = call.kind; ids = call.reference.id ∷ [] }

-- a call before some groups: in the first if that is of its peer and kind, else in one of its own
abbrev pub with_call : DueCall → List Group → List Group
with_call call [] = group_of call ∷ []
with_call call (group ∷ groups) =
    if is_of group.peer group.kind call then record group { ids = call.reference.id ∷ group.ids } ∷ groups else group_of call ∷ group ∷ groups

-- The calls in groups: those of one peer and kind that follow each other stand in one.
abbrev pub grouped : List DueCall → List Group
grouped [] = []
grouped (call ∷ calls) = with_call call (grouped calls)

-- The first of the groups, if there is one, is of another peer or kind.
abbrev pub IsApartFrom : List ℕ → Due → List Group → Type 0
IsApartFrom peer kind [] = Unit {0}
IsApartFrom peer kind (next ∷ more) = peer ≡ next.peer → kind ≡ next.kind → ⊥

-- Groups that follow each other are of two peers or of two kinds.
abbrev pub AreApart : List Group → Type 0
AreApart [] = Unit {0}
AreApart (group ∷ more) = IsApartFrom group.peer group.kind more × AreApart more

-- The groups stand for the calls, in their order; each has a reference, and there are as few groups as possible.
pub record IsGrouping (calls : List DueCall) (groups : List Group) : Type 0 where
  pub joined : flat_map calls_of groups ≡ calls
  pub some : All (λ (group : Group). 1 ≤ length group.ids) groups
  pub apart : AreApart groups

-- the first pieces of a row, at most `count` of them, each of `most` ids but the last, which may be shorter
abbrev pub pieces_within : (count most : ℕ) → List ObjId → List (List ObjId)
pieces_within zero most ids = []
pieces_within (suc count) most [] = []
pieces_within (suc count) most (id ∷ ids) = take most (id ∷ ids) ∷ pieces_within count most (drop most (id ∷ ids))

-- the pieces of a row, each of `most` ids but the last, which may be shorter
abbrev pub pieces : ℕ → List ObjId → List (List ObjId)
pieces most ids = pieces_within (length ids) most ids

-- the group of some of the ids
abbrev pub part_of : Group → List ObjId → Group
part_of group ids = record group { ids = ids }

-- the parts in which a group goes out, a frame each, of at most `most` objects
abbrev pub parts_of : ℕ → Group → List Group
parts_of most group = map (part_of group) (pieces most group.ids)

-- each group but the last has `most` references
abbrev pub AreFull : ℕ → List Group → Type 0
AreFull most [] = Unit {0}
AreFull most (group ∷ []) = Unit {0}
AreFull most (group ∷ next ∷ more) = (length group.ids ≡ most) × AreFull most (next ∷ more)
