-- A refusal of files is one of these files.
use Rattle.std.proofs.Common.{◌≡◌, ◌⊎◌, ℕ, List, inl, inr, subst, sym}
use Rattle.std.proofs.lemmas.Option.{slice_get_within}
use Rattle.sp_texts.specs.RefusalTexts.{IsRefusalOf}
use Rattle.sp_files.specs.Programs.{IsNoProgram, no_set, not_linked, not_safe, unread}
use Rattle.sp_runs.specs.Runs.{IsRefused, no_program}
use Rattle.sp_files.specs.Files.{IsUnread, at_fault, no_memory_to_read}
use Rattle.sp_files.specs.declared.refusal.Refusal.{Refusal}
use Rattle.sp_files.specs.declared.refusal.Refusal.TheVariants as refusal
use Rattle.sp_files.specs.declared.files.ClassBytes.{ClassBytes}
use Rattle.space_ids.specs.declared.value.Value.{Value}
use Rattle.vm_step.specs.declared.limits.Limits.{Limits}

-- a file that is at fault stands in the list
unread_file : (files : List ClassBytes) (r : Refusal) → IsUnread files r → IsRefusalOf files r
unread_file files r (at_fault index file fault before at spelled why) = slice_get_within files index file at
unread_file files r no_memory_to_read = tt

pub no_program_file : (files : List ClassBytes) (r : Refusal) → IsNoProgram files r → IsRefusalOf files r
no_program_file files r (unread refused why) = unread_file files refused why
no_program_file files r (no_set classes fault spelled why) = tt
no_program_file files r (not_linked classes set fault spelled has is why) = tt
no_program_file files r (not_safe classes linked fault spelled has is why) = tt

pub refused_file : (files : List ClassBytes) (class text : List ℕ) (arguments : List Value) (limits : Limits) (r : Refusal) → IsRefused files class text arguments limits r → IsRefusalOf files r
refused_file files class text arguments limits r (no_program refused why) = no_program_file files refused why
refused_file files class text arguments limits r why = tt

-- out of memory is one of the reasons for which files make no program
pub without_program : (files : List ClassBytes) (r : Refusal) → IsNoProgram files r ⊎ (r ≡ refusal.Memory) → IsNoProgram files r
without_program files r (inl why) = why
without_program files r (inr memory) = subst (IsNoProgram files) (sym memory) (unread refusal.Memory no_memory_to_read)
