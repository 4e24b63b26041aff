use Rattle.std.proofs.Common.{Some, refl, sym, subst, ◌∙◌}
use Rattle.std.specs.Prelude.{MatchOption}
use Rattle.cls_resolve.specs.Access.{flags_of}
use Rattle.cls_resolve.specs.Checks.{IsWrongEntry}
use Rattle.cls_resolve.specs.Entries.{IsMember, MeansNothing}
use Rattle.cls_resolve.specs.LinkRules.{order, IsFirstBroken, Site}
use Rattle.cls_resolve.specs.declared.references.Asked.TheVariants as asked
use Rattle.cls_search.proofs.Interfaces.{not_true}
use Rattle.cls_resolve.proofs.MemberChecks.{hidden_owner, means_member, member_absent, member_found, wrong_entry}
use Rattle.cls_resolve.proofs.Used.{granted, means_of, refused}
use Rattle.cls_resolve.proofs.members.entry_use.Goals as goal

pub returns-then-is_wrong_entry-clause-broken : goal.returns-then-is_wrong_entry-clause-broken
returns-then-is_wrong_entry-clause-broken c =
    let classes = c.args.set.now in
    let site : Site = record { class = c.args.user; method = c.args.method.now; asked = asked.Member c.args.operation; index = c.args.index } in
    let e = c.requires in
    wrong_entry classes site c.args.operation refl e.named e.entry e.plain c.args.entry.class e.number
    (subst (λ k. IsWrongEntry c.args.operation k e.named.name (flags_of classes c.args.entry.class)) e.of_kind
    (subst (λ b. IsWrongEntry c.args.operation c.args.entry.kind e.named.name b) c.flags_of.ensures ((c.is_wrong_entry.ensures.wrong e.named.name e.of_name).0 c.if-is_wrong_entry.true)))

pub returns-then-not-entry-clause-broken : goal.returns-then-not-entry-clause-broken
returns-then-not-entry-clause-broken c =
    let classes = c.args.set.now in
    let site : Site = record { class = c.args.user; method = c.args.method.now; asked = asked.Member c.args.operation; index = c.args.index } in
    let e = c.requires in
    let fits : ¬ IsWrongEntry c.args.operation e.named.kind e.named.name (flags_of classes c.args.entry.class) =
    subst (λ k. ¬ IsWrongEntry c.args.operation k e.named.name (flags_of classes c.args.entry.class)) e.of_kind
    (subst (λ b. ¬ IsWrongEntry c.args.operation c.args.entry.kind e.named.name b) c.flags_of.ensures
    (λ w. not_true _ c.if-is_wrong_entry.false ((c.is_wrong_entry.ensures.wrong e.named.name e.of_name).1 w))) in
    hidden_owner classes site c.args.operation refl e.named e.entry e.plain c.args.entry.class e.number fits (λ may. refused _ c.if-not-entry.true (e.accessible.1 may))

pub returns-in_default-clause-broken : goal.returns-in_default-clause-broken
returns-in_default-clause-broken c =
    let classes = c.args.set.now in
    let site : Site = record { class = c.args.user; method = c.args.method.now; asked = asked.Member c.args.operation; index = c.args.index } in
    let e = c.requires in
    let fits : ¬ IsWrongEntry c.args.operation e.named.kind e.named.name (flags_of classes c.args.entry.class) =
    subst (λ k. ¬ IsWrongEntry c.args.operation k e.named.name (flags_of classes c.args.entry.class)) e.of_kind
    (subst (λ b. ¬ IsWrongEntry c.args.operation c.args.entry.kind e.named.name b) c.flags_of.ensures
    (λ w. not_true _ c.if-is_wrong_entry.false ((c.is_wrong_entry.ensures.wrong e.named.name e.of_name).1 w))) in
    let may = e.accessible.0 (granted _ c.if-not-entry.false) in
    let nothing : MeansNothing classes e.named c.args.entry.class =
    subst (λ o. MatchOption o (MeansNothing classes e.named c.args.entry.class) (IsMember classes c.args.user e.named c.args.entry.class)) c.in_default.is e.member in
    subst (λ r. IsFirstBroken classes site order (Some r)) (sym c.absent_rule.ensures)
    (member_absent classes site c.args.operation refl e.named e.entry e.plain c.args.entry.class e.number fits may c.args.entry.kind (sym e.of_kind) nothing.no_field nothing.no_method)

pub returns-in-Some-broken_by_use-clause-broken : goal.returns-in-Some-broken_by_use-clause-broken
returns-in-Some-broken_by_use-clause-broken c =
    let classes = c.args.set.now in
    let site : Site = record { class = c.args.user; method = c.args.method.now; asked = asked.Member c.args.operation; index = c.args.index } in
    let e = c.requires in
    let fits : ¬ IsWrongEntry c.args.operation e.named.kind e.named.name (flags_of classes c.args.entry.class) =
    subst (λ k. ¬ IsWrongEntry c.args.operation k e.named.name (flags_of classes c.args.entry.class)) e.of_kind
    (subst (λ b. ¬ IsWrongEntry c.args.operation c.args.entry.kind e.named.name b) c.flags_of.ensures
    (λ w. not_true _ c.if-is_wrong_entry.false ((c.is_wrong_entry.ensures.wrong e.named.name e.of_name).1 w))) in
    let may = e.accessible.0 (granted _ c.if-not-entry.false) in
    let member = c.in-Some.member in
    let m : IsMember classes c.args.user e.named c.args.entry.class member =
    subst (λ o. MatchOption o (MeansNothing classes e.named c.args.entry.class) (IsMember classes c.args.user e.named c.args.entry.class)) c.in-Some.is e.member in
    let means = means_of classes e.named c.args.entry.class member.index member.flags.bits m.meant in
    member_found classes site c.args.operation refl e.named e.entry e.plain c.args.entry.class e.number fits may member.index.class member.flags.bits means _
    (c.in-Some-broken_by_use.ensures classes site refl refl (means_member classes site c.args.operation refl e.named e.entry e.plain c.args.entry.class e.number fits may member.index.class member.flags.bits means) m.accessible)

pub returns-in-None-clause-broken : goal.returns-in-None-clause-broken
returns-in-None-clause-broken c =
    let classes = c.args.set.now in
    let site : Site = record { class = c.args.user; method = c.args.method.now; asked = asked.Member c.args.operation; index = c.args.index } in
    let e = c.requires in
    let fits : ¬ IsWrongEntry c.args.operation e.named.kind e.named.name (flags_of classes c.args.entry.class) =
    subst (λ k. ¬ IsWrongEntry c.args.operation k e.named.name (flags_of classes c.args.entry.class)) e.of_kind
    (subst (λ b. ¬ IsWrongEntry c.args.operation c.args.entry.kind e.named.name b) c.flags_of.ensures
    (λ w. not_true _ c.if-is_wrong_entry.false ((c.is_wrong_entry.ensures.wrong e.named.name e.of_name).1 w))) in
    let may = e.accessible.0 (granted _ c.if-not-entry.false) in
    let member = c.in-Some.member in
    let m : IsMember classes c.args.user e.named c.args.entry.class member =
    subst (λ o. MatchOption o (MeansNothing classes e.named c.args.entry.class) (IsMember classes c.args.user e.named c.args.entry.class)) c.in-Some.is e.member in
    let means = means_of classes e.named c.args.entry.class member.index member.flags.bits m.meant in
    member_found classes site c.args.operation refl e.named e.entry e.plain c.args.entry.class e.number fits may member.index.class member.flags.bits means _
    (c.in-None.ensures classes site refl refl (means_member classes site c.args.operation refl e.named e.entry e.plain c.args.entry.class e.number fits may member.index.class member.flags.bits means) m.accessible)

pub returns-in-None-clause-used : goal.returns-in-None-clause-used
returns-in-None-clause-used c =
    let classes = c.args.set.now in
    let e = c.requires in
    let member = c.in-Some.member in
    let m : IsMember classes c.args.user e.named c.args.entry.class member =
    subst (λ o. MatchOption o (MeansNothing classes e.named c.args.entry.class) (IsMember classes c.args.user e.named c.args.entry.class)) c.in-Some.is e.member in
    record {
      named = e.named;
      flags = member.flags.bits;
      entry = e.entry;
      of_kind = sym e.of_kind ∙ c.is_wrong_entry.ensures.taken c.if-is_wrong_entry.false;
      number = e.number;
      meant = m.meant;
    }
