use Rattle.std.proofs.Common.{◌≡◌, ℕ, ◌∷◌, [], rules, ap, sym, ◌∙◌}
use Rattle.std.proofs.lemmas.List.{nil_from_length}
use Rattle.uuid.specs.declared.Uuid.{Uuid}
use Rattle.dgc_client.specs.Groups.{parts_of}
use Rattle.sp_rules.specs.Requests.{hello_came}
use Rattle.sp_rules.specs.State.{connection_to}
use Rattle.sp_outputs.specs.Notes.{turn_of}
use Rattle.sp_transport.proofs.FlushLemmas.{not-apart, telling-all, telling-start, telling-step}
use Rattle.sp_transport.proofs.transport.Transport.tell.Goals as goal

pub loop-part-init : goal.loop-part-init
loop-part-init c = λ s stands hello may.
    let whole : c.into_iter-part-iterator.result.rest.items ≡ parts_of c.most_on.result c.args.group.now = search rules in
    telling-start (turn_of c.args.turn) c.args.conn c.args.call c.args.group.now s c.into_iter-part-iterator.result.rest.items c.args.self.now (whole ∙ ap (λ (n : ℕ). parts_of n c.args.group.now) (c.most_on.ensures.most s stands)) stands

pub loop-part-preserved : goal.loop-part-preserved
loop-part-preserved c = λ s stands hello may.
    let next : c.loop-part.part-iterator.rest.items ≡ c.in-Some.part ∷ c.next.new.self.rest.items = search rules in
    telling-step (turn_of c.args.turn) c.args.conn c.args.call c.args.group.now s c.loop-part.yielded c.in-Some.part c.loop-part.part-iterator.rest.items c.next.new.self.rest.items c.loop-part.self c.tell_part.new.self next hello may (c.loop-part.invariant s stands hello may)
    (λ v a came notes. (c.in_ok-tell_part.ensures) v a came notes)

pub returns : goal.returns
returns c = λ s stands hello may.
    let none : c.loop-part.part-iterator.rest.items ≡ [] = nil_from_length _ (sym c.loop-part.part-iterator.rest.ok.0 ∙ (c.in-None.ensures).steps.0) in
    let its : c.args.group.now.peer ≡ c.args.peer.now = not-apart c.args.group.now.peer c.args.peer.now c.ne.result c.ne.ensures c.if-ne.false in
    telling-all (turn_of c.args.turn) c.args.conn c.args.call c.args.group.now s c.loop-part.yielded c.loop-part.part-iterator.rest.items c.loop-part.self none
    (c.loop-part.invariant s stands (ap (λ (p : Uuid). hello_came (connection_to s p)) its ∙ hello) may)
