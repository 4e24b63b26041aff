use Rattle.std.proofs.Common.{◌≡◌, ◌∙◌, ℕ, ap, Some, get_or, subst, sym, arith}
use Rattle.std.proofs.lemmas.Option.{slice_get-get_or}
use Rattle.space_ids.specs.declared.ids.ClassId.{ClassId}
use Rattle.cls_resolve.specs.Entries.{AreKnown, IsEntryMeaning}
use Rattle.cls_resolve.proofs.known.KnownEntries.find.Goals as goal

pub returns-then-known-user : goal.returns-then-known-user
returns-then-known-user c classes have =
    let entries = c.self.inside.entries.items in
    let known = c.in_ok-known.known in
    let kept = subst (AreKnown classes) (sym c.self.view_is) have in
    let inside = c.if-from-len.false in
    let same = c.from.ensures in
    let long = c.len.ensures in
    let at = slice_get-get_or entries c.args.index c.index.result.now (omega (arith, inside, same, long))
    ∙ ap (λ o. Some o) (ap (λ i. get_or entries i c.index.result.now) (sym c.from-2.ensures) ∙ (sym c.index.ensures ∙ c.in_ok-known.was)) in
    let mine : known.user ≡ c.args.user = ap (λ (n : ℕ). record { 0 = n }) c.if-known-user.true in
    subst (λ (u : ClassId). IsEntryMeaning classes u c.args.index known.meaning) mine (kept.known c.args.index known at)
