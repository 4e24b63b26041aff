-- Peers that are dialled, or known already.
use Rattle.std.proofs.Common.{◌≡◌, Bool, true, false, cond, List, [], ◌∷◌, ◌++◌, is_some, refl, sym, ap, ◌∙◌}
use Rattle.std.specs.Prelude.{◌||◌, not}
use Rattle.std.specs.List.{list_any}
use Rattle.std.specs.Str.{bytes_eq}
use Rattle.uuid.specs.declared.Uuid.{Uuid}
use Rattle.sp_rules.proofs.LineLemmas.{any-last, any-more}
use Rattle.sp_rules.specs.State.{Connection}
use Rattle.sp_requests.specs.Tables.{dialled_once, is_dialled, to_peer}

turned : (b : Bool) → not (not b) ≡ b
turned true = refl
turned false = refl

-- whether a peer is known, by whether it is news
pub known-of : (known news b : Bool) → news ≡ not known → news ≡ b → known ≡ not b
known-of known news b is e = sym (turned known) ∙ (ap not (sym is) ∙ ap not e)

pub known-dialled : (peer : Uuid) (rows : List Connection) (dialling : List Uuid) → (is_some (to_peer peer rows) || is_dialled peer dialling) ≡ true → dialled_once peer rows dialling ≡ dialling
known-dialled peer rows dialling known = ap (λ b. cond b dialling (dialling ++ peer ∷ [])) known

pub new-dialled : (peer : Uuid) (rows : List Connection) (dialling : List Uuid) → (is_some (to_peer peer rows) || is_dialled peer dialling) ≡ false → dialled_once peer rows dialling ≡ dialling ++ peer ∷ []
new-dialled peer rows dialling new = ap (λ b. cond b dialling (dialling ++ peer ∷ [])) new

pub wider-dialled : (q : Uuid) (dialling : List Uuid) (peer : Uuid) → list_any (bytes_eq q) dialling ≡ true → list_any (bytes_eq q) (dialling ++ peer ∷ []) ≡ true
wider-dialled q dialling peer is = any-more q dialling peer is

pub new-known : (b : Bool) (peer : Uuid) (dialling : List Uuid) → (b || list_any (bytes_eq peer) (dialling ++ peer ∷ [])) ≡ true
new-known true peer dialling = refl
new-known false peer dialling = any-last peer dialling
