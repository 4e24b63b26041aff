-- What was asked of a peer, as all of it ends together. (This project's own; that calls end with an exception is the Java RMI specification's appendix A.)
use Rattle.std.specs.Prelude.{◌≡◌, ℕ, ◌==◌, Bool, not, List, [], ◌∷◌, filter, if◌then◌else◌}
use Rattle.std.specs.List.{list_any}
use Rattle.net_message.specs.declared.message.Message.TheVariants as message
use Rattle.space_ids.specs.declared.ids.ClassId.{ClassId}
use Rattle.sp_rules.specs.Behaviours.{Throws}
use Rattle.sp_rules.specs.Classes.{Setting}
use Rattle.sp_rules.specs.Endings.{end_request, fail_group, is_group}
use Rattle.sp_rules.specs.Lists.{each}
use Rattle.sp_rules.specs.LivingTasks.{reply_to}
use Rattle.sp_rules.specs.State.{State, Asked, Calls, LooksUp, Request}
use Rattle.sp_requests.specs.Asking.{asks_by, kind_of}
use Rattle.sp_requests.specs.declared.asked.Asker.{Asker}
use Rattle.sp_requests.specs.declared.asked.Asker.TheVariants as asker
use Rattle.sp_requests.specs.declared.asked.OutGroup.{OutGroup}
use Rattle.sp_requests.specs.declared.ended.EndedCall.{EndedCall}
use Rattle.sp_endings.specs.declared.thrown.Thrown.{Thrown}

-- the class by which a call or lookup ends
abbrev pub thrown_at : Thrown → Bool → ClassId
thrown_at thrown unsent = if unsent then thrown.unsent else thrown.others

-- Calls and lookups end by these classes, if those of these numbers were not sent whole.
abbrev pub AreThrown : (Asked → ClassId) → List ℕ → Thrown → Type 0
AreThrown why unsent thrown =
    (asked : Asked) (number : ℕ) (by : Asker) → asks_by asked ≡ (number, by) ∷ [] → why asked ≡ thrown_at thrown (list_any (◌==◌ number) unsent)

-- something that is asked so
abbrev pub asked_by : Asker → Asked
asked_by (asker.Call task lent kind) = Calls 0 task lent (kind_of kind) (message.Ack 0)
asked_by (asker.Lookup task) = LooksUp 0 task []

-- A call or lookup ends.
abbrev pub end_call : Setting → Thrown → State → EndedCall → State
end_call g thrown s call = reply_to g (asked_by call.asker) (Throws (thrown_at thrown call.unsent)) s

-- Dirty or clean calls fail.
abbrev pub fail_out : Setting → State → OutGroup → State
fail_out g s told = fail_group g told.group.kind told.group told.call s

-- These requests end, which are gone: calls and lookups first.
abbrev pub end_each : Setting → (Asked → ClassId) → List Request → State → State
end_each g why requests s =
    each (end_request g why) (filter (λ (r : Request). is_group r.asked) requests)
    (each (end_request g why) (filter (λ (r : Request). not (is_group r.asked)) requests) s)
