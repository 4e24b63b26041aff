use Rattle.std.proofs.Common.{refl, sym, subst, ap, ◌∙◌}
use Rattle.cf_pool.specs.Pools.{NamedMember, class_at, member_at}
use Rattle.cf_pool.specs.PoolRefs.{named_member}
use Rattle.cls_set.specs.Classes.{number_of}
use Rattle.cls_set.proofs.Hierarchy.{none_some, same_some}
use Rattle.cls_resolve.specs.LinkRules.{IsArray}
use Rattle.cls_search.specs.MethodSearches.{is_initializer}
use Rattle.cls_resolve.proofs.Used.{member_of_entry}
use Rattle.cls_resolve.proofs.meanings.member_meaning.Goals as goal

-- a member entry names a class
pub returns-in-NoEntry-clause-meaning : goal.returns-in-NoEntry-clause-meaning
returns-in-NoEntry-clause-meaning c =
    let named = c.in-Some.ensures.class in
    let none = c.in-NoEntry.ensures.meaning in
    absurd (none_some (sym none ∙ (ap (λ p. class_at p c.in-Some.entry.class_index) (sym c.pool_of.ensures) ∙ named)))

pub returns-in-Array-clause-meaning : goal.returns-in-Array-clause-meaning
returns-in-Array-clause-meaning c =
    let at = c.in-Array.ensures.meaning in
    let named = c.in-Some.ensures.class in
    let same = same_some (sym at.entry ∙ (ap (λ p. class_at p c.in-Some.entry.class_index) (sym c.pool_of.ensures) ∙ named)) in
    record {
      named = named_member c.in-Some.entry;
      entry = sym (c.in-Some.ensures.named ∙ ap (λ p. member_at p c.args.index) c.pool_of.ensures);
      array = subst IsArray same at.array;
    }

pub returns-in-Absent-clause-meaning : goal.returns-in-Absent-clause-meaning
returns-in-Absent-clause-meaning c =
    let at = c.in-Absent.ensures.meaning in
    let named = c.in-Some.ensures.class in
    let same = same_some (sym at.entry ∙ (ap (λ p. class_at p c.in-Some.entry.class_index) (sym c.pool_of.ensures) ∙ named)) in
    record {
      named = named_member c.in-Some.entry;
      entry = sym (c.in-Some.ensures.named ∙ ap (λ p. member_at p c.args.index) c.pool_of.ensures);
      plain = subst (λ t. ¬ IsArray t) same at.plain;
      absent = ap (number_of c.args.set.now) (sym same) ∙ at.absent;
    }

pub returns-in-Class-clause-meaning : goal.returns-in-Class-clause-meaning
returns-in-Class-clause-meaning c =
    let named : NamedMember = named_member c.in-Some.entry in
    let at = c.in-Class.ensures.meaning in
    let named_class = c.in-Some.ensures.class in
    let same = same_some (sym at.entry ∙ (ap (λ p. class_at p c.in-Some.entry.class_index) (sym c.pool_of.ensures) ∙ named_class)) in
    record {
      named = named;
      entry = sym (c.in-Some.ensures.named ∙ ap (λ p. member_at p c.args.index) c.pool_of.ensures);
      plain = subst (λ t. ¬ IsArray t) same at.plain;
      of_kind = refl;
      of_name = c.is_initializer.ensures ∙ ap is_initializer c.as_bytes-name.ensures;
      number = ap (number_of c.args.set.now) (sym same) ∙ at.number;
      in_set = at.in_set;
      accessible = at.accessible;
      member =
          member_of_entry c.args.set.now c.args.user c.in-Class.class named _ _ c.as_bytes-name.ensures c.as_bytes-descriptor.ensures c.find_member.result
          c.find_member.ensures.found c.find_member.ensures.absent;
    }
