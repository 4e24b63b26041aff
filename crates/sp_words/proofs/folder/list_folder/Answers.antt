use Rattle.sp_words.proofs.folder.list_folder.Goals as goal

pub loop-byte-preserved : goal.loop-byte-preserved
loop-byte-preserved g c = λ root below all.
    (c.in_ok-take_byte.ensures).found root (rw c.as_str-path.ensures.value below) (c.loop-byte.invariant root below all)
