use Rattle.std.proofs.Common.{◌≡◌, Bool, true, false, cond, List, [], ◌∷◌, refl, ap, subst, ◌∙◌}
use Rattle.std.specs.Prelude.{◌||◌}
use Rattle.std.specs.Str.{bytes_eq}
use Rattle.uuid.specs.declared.Uuid.{Uuid}
use Rattle.sp_registry.proofs.BindingsLemmas.{bytes_eq-sym}
use Rattle.sp_rules.specs.OwnEvents.{is_among}
use Rattle.sp_requests.proofs.noted_peers.NotedPeers.insert.Goals as goal

one-more : (is was : Bool) → cond is true was ≡ (was || (is || false))
one-more true true = refl
one-more true false = refl
one-more false true = refl
one-more false false = refl

pub returns : goal.returns
returns c = λ other.
    let peer = c.args.peer.now in
    let was = is_among c.self.inside.peers.keys other in
    c.in_ok-insert.ensures.updates.0 other
    ∙ (subst (λ (b : Bool). cond (bytes_eq peer other) true was ≡ (was || (b || false))) (bytes_eq-sym peer other) (one-more (bytes_eq peer other) was)
    ∙ ap (λ (l : List Uuid). is_among l other || is_among (peer ∷ []) other) c.self.view_is)
