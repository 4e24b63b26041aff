use Rattle.std.proofs.Common.{◌∙◌, sym, ap, arith, zero-add, Some, Ok, Err}
use Rattle.std.proofs.lemmas.List.Sorted.{searched}
use Rattle.cls_link.proofs.Indices.{index_found, index_absent, absent_between, rises_or_stays}
use Rattle.ver_frames.proofs.Starts.{rise}
use Rattle.ver_frames.proofs.method.index_of.Goals as goal

pub returns-in-Ok : goal.returns-in-Ok
returns-in-Ok c =
    let offsets = c.args.offsets.now in
    let rises = rise offsets c.requires in
    let found = searched offsets c.args.offset (Ok c.in-Ok.index) c.in-Ok.ensures.position (rises_or_stays offsets rises) in
    sym (index_found 0 offsets c.args.offset c.in-Ok.index rises found.0 found.1 ∙ ap (λ n. Some n) (zero-add c.in-Ok.index))

pub returns-in-Err : goal.returns-in-Err
returns-in-Err c =
    let offsets = c.args.offsets.now in
    let found = searched offsets c.args.offset (Err c.in-Err.field-0) c.in-Err.ensures.position (rises_or_stays offsets (rise offsets c.requires)) in
    sym (index_absent 0 offsets c.args.offset (absent_between offsets c.args.offset c.in-Err.field-0 found.1 found.2))
