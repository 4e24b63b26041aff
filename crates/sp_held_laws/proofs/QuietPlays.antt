-- A run in which nothing fails, computed.
use Rattle.std.specs.Prelude.{refl}
use Rattle.sp_rules.specs.Books
use Rattle.sp_rules.specs.Endings
use Rattle.sp_rules.specs.Events
use Rattle.sp_rules.specs.Frames
use Rattle.sp_rules.specs.Holders
use Rattle.sp_rules.specs.Lists
use Rattle.sp_rules.specs.LivingTasks
use Rattle.sp_rules.specs.OwnEvents
use Rattle.sp_rules.specs.ParkedFrames
use Rattle.sp_rules.specs.Refusals
use Rattle.sp_rules.specs.Requests
use Rattle.sp_rules.specs.Space
use Rattle.sp_rules.specs.State
use Rattle.sp_rules.specs.Tasks
use Rattle.sp_rules.specs.Worlds
use Rattle.sp_scripts.specs.Scripts
use Rattle.sp_held_laws.specs.OneObject
use mathlib.Core.Path.{sym, ap, subst, ◌∙◌}
use Rattle.std.proofs.Common.{arith}
use Rattle.std.proofs.lemmas.Bool.{true≢false}
use Rattle.std.specs.List.{list_all}
use Rattle.std.specs.Prelude.{◌≡◌, ℕ, zero, suc, not, ◌&&◌, Bool, true, false, List, [], ◌∷◌, None, Some, slice_get}
use Rattle.std.specs.Str.{bytes_eq}
use Rattle.sp_rules.specs.Classes.{Setting}
use Rattle.sp_rules.specs.Worlds.{WorldEvent}
use Rattle.sp_order_laws.specs.Unbroken.{AreOfOneKind, NothingFails, is_failure}
use Rattle.sp_held_laws.specs.Quiet
use Rattle.net_message.specs.Wire.{IsVersion}
use Rattle.sp_scripts.specs.VersionsScripts.{settings_as}
use Rattle.sp_held_laws.specs.Quiet.{PassesQuietlyIn, PassesQuietly, three_spaces, mixed_spaces, passing_events}

-- none of these fails, as a test
fine-of : (es : List WorldEvent) → list_all (λ e. not (is_failure e)) es ≡ true → NothingFails es
fine-of [] k = tt
fine-of (e ∷ es) k = by (is_failure e) refl k (fine-of es)
  where
    by : (b : Bool) → is_failure e ≡ b → not b && list_all (λ x. not (is_failure x)) es ≡ true → (list_all (λ x. not (is_failure x)) es ≡ true → NothingFails es) → NothingFails (e ∷ es)
    by true f g rest = absurd (true≢false (sym g))
    by false f g rest = (f, rest g)

none-some : {A : Type 0} {x : A} → None ≡ Some x → ⊥
none-some e = absurd (Rattle.sp_rules.proofs.AllLemmas.some-none _ (sym e))

setting-is : {a b : Setting} → Some a ≡ Some b → a ≡ b
setting-is e = Rattle.sp_rules.proofs.OwnLemmas.some-same e

-- three spaces of these versions
abbrev spaces : ℕ → ℕ → ℕ → List Setting
spaces u v w = settings_as 1 (u ∷ v ∷ w ∷ [])

-- the id of a space of the three, by its number
same-number : (u v w i j : ℕ) (a b : Setting) → slice_get (spaces u v w) i ≡ Some a → slice_get (spaces u v w) j ≡ Some b → bytes_eq a.id b.id ≡ true → i ≡ j
same-number u v w i j a b e f g = by i j e f
  where
    apart : {x y : Setting} → x ≡ a → y ≡ b → bytes_eq x.id y.id ≡ false → ⊥
    apart {x} {y} p q r = true≢false (sym g ∙ (ap (λ (s : Setting). bytes_eq s.id b.id) (sym p) ∙ (ap (λ (s : Setting). bytes_eq x.id s.id) (sym q) ∙ r)))

    by : (m n : ℕ) → slice_get (spaces u v w) m ≡ Some a → slice_get (spaces u v w) n ≡ Some b → m ≡ n
    by zero zero p q = refl
    by zero (suc zero) p q = absurd (apart (setting-is p) (setting-is q) refl)
    by zero (suc (suc zero)) p q = absurd (apart (setting-is p) (setting-is q) refl)
    by (suc zero) zero p q = absurd (apart (setting-is p) (setting-is q) refl)
    by (suc zero) (suc zero) p q = refl
    by (suc zero) (suc (suc zero)) p q = absurd (apart (setting-is p) (setting-is q) refl)
    by (suc (suc zero)) zero p q = absurd (apart (setting-is p) (setting-is q) refl)
    by (suc (suc zero)) (suc zero) p q = absurd (apart (setting-is p) (setting-is q) refl)
    by (suc (suc zero)) (suc (suc zero)) p q = refl
    by (suc (suc (suc m))) n p q = absurd (none-some p)
    by m (suc (suc (suc n))) p q = absurd (none-some q)

digest-is : (u v w i : ℕ) (a : Setting) → slice_get (spaces u v w) i ≡ Some a → a.digest ≡ 9 ∷ []
digest-is u v w zero a e = ap (λ (s : Setting). s.digest) (sym (setting-is e))
digest-is u v w (suc zero) a e = ap (λ (s : Setting). s.digest) (sym (setting-is e))
digest-is u v w (suc (suc zero)) a e = ap (λ (s : Setting). s.digest) (sym (setting-is e))
digest-is u v w (suc (suc (suc i))) a e = absurd (none-some e)

version-is : (u v w : ℕ) → IsVersion u → IsVersion v → IsVersion w → (i : ℕ) (a : Setting) → slice_get (spaces u v w) i ≡ Some a → IsVersion a.version
version-is u v w ku kv kw zero a e = subst (λ (s : Setting). IsVersion s.version) (setting-is e) ku
version-is u v w ku kv kw (suc zero) a e = subst (λ (s : Setting). IsVersion s.version) (setting-is e) kv
version-is u v w ku kv kw (suc (suc zero)) a e = subst (λ (s : Setting). IsVersion s.version) (setting-is e) kw
version-is u v w ku kv kw (suc (suc (suc i))) a e = absurd (none-some e)

one-kind : (u v w : ℕ) → IsVersion u → IsVersion v → IsVersion w → AreOfOneKind (spaces u v w)
one-kind u v w ku kv kw = record {
  ids = same-number u v w;
  digests = λ i j a b e f. ap (λ d. bytes_eq d b.digest) (digest-is u v w i a e) ∙ ap (λ d. bytes_eq (9 ∷ []) d) (digest-is u v w j b f);
  versions = version-is u v w ku kv kw;
}

first : IsVersion 1
first = (omega arith, omega arith)

second : IsVersion 2
second = (omega arith, omega arith)

passes_in_one : PassesQuietlyIn three_spaces
unfolding Books.book_run Endings.fail_dirty Endings.end_requests Endings.end_connection Endings.close Endings.fail_write Events.in_order Frames.first_frame Frames.got_call Frames.got_lookup Frames.release Frames.got_ack Frames.got_dirty Frames.got_clean Frames.answered_by Frames.told_by Frames.got Frames.receive Holders.hold_ids Holders.drop_ids Holders.has_reason Lists.each LivingTasks.add_task LivingTasks.reply_task LivingTasks.reply_to LivingTasks.op_reply LivingTasks.after_op LivingTasks.commit LivingTasks.park_call LivingTasks.give_back LivingTasks.finish_task OwnEvents.on_moment OwnEvents.on_sweep OwnEvents.set_names OwnEvents.on_lookup OwnEvents.on_opened OwnEvents.on_refused ParkedFrames.start_call ParkedFrames.answer_parked ParkedFrames.go ParkedFrames.go_all ParkedFrames.park_frame ParkedFrames.fail_parked Refusals.refusal Requests.due_groups Requests.part_goes_out Requests.go_out Requests.dial Requests.ask Requests.flush_waiting Requests.make_group Requests.make_due Requests.ask_fresh Requests.settle Space.happen Space.on Space.state_of Space.outputs_of State.opening State.send Tasks.stand Tasks.step Tasks.steps Tasks.answer Tasks.lend_fuel Tasks.start Worlds.take_event Worlds.acts Worlds.step_task Worlds.deliver Worlds.read_fails Worlds.write_fails Worlds.accept Worlds.open_pipe Worlds.refuse Worlds.after Worlds.run Worlds.new_world Scripts.settle_world Scripts.settle_swept Scripts.run_lines OneObject.object_in Quiet.settling Quiet.events_of Quiet.comes_to
passes_in_one = record { kind = one-kind 1 1 1 first first first; fine = fine-of (passing_events three_spaces) refl; passing = refl; passes = refl }

passes_in_both : PassesQuietlyIn mixed_spaces
unfolding Books.book_run Endings.fail_dirty Endings.end_requests Endings.end_connection Endings.redial Endings.close Endings.fail_write Events.in_order Frames.first_frame Frames.got_call Frames.got_lookup Frames.release Frames.got_ack Frames.got_dirty Frames.got_clean Frames.answered_by Frames.told_by Frames.got Frames.receive Holders.hold_ids Holders.drop_ids Holders.has_reason Lists.each LivingTasks.add_task LivingTasks.reply_task LivingTasks.reply_to LivingTasks.op_reply LivingTasks.after_op LivingTasks.commit LivingTasks.park_call LivingTasks.give_back LivingTasks.finish_task OwnEvents.on_moment OwnEvents.on_sweep OwnEvents.set_names OwnEvents.on_lookup OwnEvents.on_opened OwnEvents.on_refused ParkedFrames.start_call ParkedFrames.answer_parked ParkedFrames.go ParkedFrames.go_all ParkedFrames.park_frame ParkedFrames.fail_parked Refusals.refusal Requests.due_groups Requests.part_goes_out Requests.go_out Requests.dial Requests.ask Requests.flush_waiting Requests.make_group Requests.make_due Requests.ask_fresh Requests.settle Space.happen Space.on Space.state_of Space.outputs_of State.opening State.send Tasks.stand Tasks.step Tasks.steps Tasks.answer Tasks.lend_fuel Tasks.start Worlds.take_event Worlds.acts Worlds.step_task Worlds.deliver Worlds.read_fails Worlds.write_fails Worlds.accept Worlds.open_pipe Worlds.refuse Worlds.after Worlds.run Worlds.new_world Scripts.settle_world Scripts.settle_swept Scripts.run_lines OneObject.object_in Quiet.settling Quiet.events_of Quiet.comes_to
passes_in_both = record { kind = one-kind 1 2 2 first second second; fine = fine-of (passing_events mixed_spaces) refl; passing = refl; passes = refl }

pub a_reference_passes_where_nothing_fails : PassesQuietly
a_reference_passes_where_nothing_fails = (passes_in_one, passes_in_both)
