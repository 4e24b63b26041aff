use Rattle.std.proofs.Common.{◌≡◌, ℕ, Some, subst, Contains, sym, ap, ◌∙◌, inl, inr}
use Rattle.std.proofs.lemmas.Bool.{false≢true}
use Rattle.std.proofs.lemmas.Option.{same_Some}
use Rattle.dgc_list.specs.declared.expiries.Expiry.{Expiry}
use Rattle.dgc_list.specs.declared.remembered.Remembered.{Remembered}
use Rattle.dgc_list.proofs.ReplaceLemmas.{covered-replaced}
use Rattle.dgc_list.proofs.calls.replace.Goals as goal

pub returns-then-not-stands_until-clause-covered : goal.returns-then-not-stands_until-clause-covered
returns-then-not-stands_until-clause-covered c = λ planned.
    let set = c.set.ensures.here c.requires.room in
    covered-replaced c.args.object c.args.client.now c.args.remembered c.args.objects.now c.set.new.self c.args.expiries.now c.remove.new.self set c.set.ensures.others
    (λ other there safe. elim (c.remove.ensures.others other there) as (λ _. Contains c.remove.new.self other) [
      | inl same ↦ absurd (false≢true (sym c.if-not-stands_until.true ∙ c.stands_until.ensures.1
          (safe (sym (ap (λ (e : Expiry). e.object) same)) (sym (ap (λ (e : Expiry). e.client) same)) ∙ ap (λ (e : Expiry). Some e.moment) same)))
      | inr left ↦ left
    ]) planned

pub returns-then-not-stands_until-clause-kept : goal.returns-then-not-stands_until-clause-kept
returns-then-not-stands_until-clause-kept c = λ other there same_moment.
    elim (c.remove.ensures.others other there) as (λ _. Contains c.remove.new.self other) [
      | inl same ↦
          let at = ap (λ (e : Expiry). Some e.moment) same in
          let before = ap (λ (r : Remembered). r.expires) (sym c.requires.before) ∙ c.in-Some.is in
          absurd (false≢true (sym c.if-not-stands_until.true ∙ c.stands_until.ensures.1 (same_moment (before ∙ sym at) ∙ at)))
      | inr left ↦ left
    ]

pub returns-then-not-stands_until-clause-gone : goal.returns-then-not-stands_until-clause-gone
returns-then-not-stands_until-clause-gone c = λ moment was _ left.
    let same : moment ≡ c.in-Some.moment = same_Some moment c.in-Some.moment (sym was ∙ ap (λ (r : Remembered). r.expires) (sym c.requires.before) ∙ c.in-Some.is) in
    c.remove.ensures.gone (subst (λ (m : ℕ). Contains c.remove.new.self (record { moment = m; object = c.args.object; client = c.args.client.now })) same left)

pub returns-in_default-clause-covered : goal.returns-in_default-clause-covered
returns-in_default-clause-covered c = λ planned.
    covered-replaced c.args.object c.args.client.now c.args.remembered c.args.objects.now c.set.new.self c.args.expiries.now c.args.expiries.now
    (c.set.ensures.here c.requires.room) c.set.ensures.others (λ other there _. there) planned
