use Rattle.std.proofs.Common.{◌≡◌, List, ℕ, subst, sym}
use Rattle.cf_load.specs.declared.load_fault.LoadFault.TheVariants.{Read}
use Rattle.cf_reader.specs.Spells.{IsInProfile, Spells}
use Rattle.sp_files.proofs.Spelled.{known_error}
use Rattle.sp_files.proofs.Only.{spelled_out}
use Rattle.sp_files.specs.Only.{IsReadOut}
use Rattle.sp_files.specs.Files.{IsSpelled}
use Rattle.sp_files.specs.declared.files.Content.{Content}
use Rattle.sp_files.proofs.files.read_file.Goals as goal

pub returns-in_err-read_class-in-Bytes-clause-only : goal.returns-in_err-read_class-in-Bytes-clause-only
returns-in_err-read_class-in-Bytes-clause-only c = λ class spelled.
    let of_bytes = subst (λ (content : Content). IsSpelled content class) c.in-Bytes.is spelled in
    let same : c.in-Bytes.bytes.items ≡ c.deref.result.now = sym (c.deref.ensures).value in
    let spells = subst (λ (bytes : List ℕ). Spells bytes of_bytes.0 class) same of_bytes.1 in
    let in_profile = subst (λ (bytes : List ℕ). IsInProfile bytes of_bytes.0) same of_bytes.2 in
    known_error c.from_residual.result (Read c.in_err-read_class-in-Bytes.field-0.0) IsReadOut c.from_residual.ensures.1
    (spelled_out class c.in_err-read_class-in-Bytes.field-0.0
    ((c.in_err-read_class-in-Bytes.ensures).only of_bytes.0 class spells in_profile))
