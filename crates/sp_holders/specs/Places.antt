-- Where a reference may be held. (This project's own; what is referenced stays by the Java RMI specification, 3.3.)
use Rattle.std.specs.Prelude.{ℕ, ◌||◌, nat_eq, Bool, false, List, Option, None, Some}
use Rattle.std.specs.List.{list_any}
use Rattle.std.specs.Map.{lookup}
use Rattle.space_ids.specs.declared.ids.Ref.{Ref}
use Rattle.sp_results.specs.Held.{of_calls, of_roots}
use Rattle.sp_living.specs.Tickets.{is_found}
use Rattle.sp_parked.specs.declared.frame.ParkedFrame.{ParkedFrame}
use Rattle.sp_rules.specs.Classes.{Setting}
use Rattle.sp_rules.specs.Holders.{fields_of, references_of_frame}
use Rattle.sp_rules.specs.References.{is_reference_in, references_in, references_of}
use Rattle.sp_rules.specs.State as rules
use Rattle.sp_rules.specs.State.{State, KeptResult, Living, Object, standing}

-- whether a field of an object has the reference, if there is one
abbrev pub fields_have : Setting → State → Ref → Option Object → Bool
fields_have g s r None = false
fields_have g s r (Some o) = is_reference_in (references_of (fields_of g s o)) r

-- whether the frame that waits under a ticket has it
abbrev pub has_at : Ref → ℕ → List (ℕ × ParkedFrame) → Bool
has_at r ticket frames = is_found (λ (p : rules.ParkedFrame). is_reference_in (references_of_frame p.frame) r) (lookup (nat_eq ticket) frames)

-- whether a living task holds it, or a held result has it
abbrev pub tables_have : State → Ref → Bool
tables_have s r = list_any (λ (t : Living). is_reference_in t.task.held r) s.tasks || list_any (λ (k : KeptResult). is_reference_in (references_in k.value) r) s.results

-- whether a living task holds it, or a held result of the space's own roots and lookups has it
abbrev pub own_tables_have : State → Ref → Bool
own_tables_have s r = list_any (λ (t : Living). is_reference_in t.task.held r) s.tasks || list_any (λ (k : KeptResult). is_reference_in (references_in k.value) r) (of_roots s.results)

-- whether one of those has it at whom to look takes no memory: a living task, a held result of the space's own roots and lookups, or a field of a standing object
abbrev pub is_at_hand : Setting → State → Ref → Bool
is_at_hand g s r = own_tables_have s r || list_any (λ o. is_reference_in (references_of (fields_of g s o)) r) (standing s.store)

-- whether one of the others has it: a held result of a call or lookup that came, or a frame that waits
abbrev pub is_away : State → Ref → Bool
is_away s r = list_any (λ (k : KeptResult). is_reference_in (references_in k.value) r) (of_calls s.results) || list_any (λ (p : rules.ParkedFrame). is_reference_in (references_of_frame p.frame) r) s.parked
