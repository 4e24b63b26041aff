use Rattle.std.proofs.Common.{ℕ, List, [], ◌++◌, append_assoc, subst, take, ◌∙◌}
use Rattle.std.proofs.lemmas.List.{take_more, map-append, append-nil}
use Rattle.std.proofs.lemmas.List.Folds.{concat-append}
use Rattle.std.specs.Prelude.{slice_index_or}
use Rattle.sha2.specs.Hashers.{Holds256}
use Rattle.sp_digest.specs.Digests.{spelled}
use Rattle.sp_digest.specs.declared.files.NamedFile.{NamedFile}
use Rattle.sp_digest.proofs.files.digest_in_order.Goals as goal

abbrev none : NamedFile
none = record { name = record { ref_ptr = (0, 0); now = [] }; bytes = record { ref_ptr = (0, 0); now = [] } }

pub loop-file-preserved : goal.loop-file-preserved
loop-file-preserved c =
    rw (take_more c.args.files.now c.loop-file.file-index none c.loop-file-test.true, map-append, concat-append, append-nil, ← append_assoc)
    (subst (λ (length : List ℕ). Holds256 c.update-in-loop-file.new.self ((spelled (take c.loop-file.file-index c.args.files.now) ++ length) ++ (slice_index_or c.args.files.now c.loop-file.file-index none).bytes.now)) (c.as_slice.ensures ∙ c.to_be_bytes.ensures)
    (c.update-in-loop-file.ensures _ (c.update.ensures _ c.loop-file.invariant)))
