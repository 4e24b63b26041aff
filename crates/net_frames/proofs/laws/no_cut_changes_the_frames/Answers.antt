use Rattle.std.proofs.Common.{[], subst, sym}
use Rattle.std.specs.List.{flat_map}
use Rattle.net_frames.specs.Stream.{Stream}
use Rattle.net_frames.proofs.StreamLaws.{nothing_begins, reads_whole, one_reading}
use Rattle.net_frames.proofs.laws.no_cut_changes_the_frames.Goals as goal

pub returns-clause-whole : goal.returns-clause-whole
returns-clause-whole c pieces ms end reads = reads_whole [] pieces ms end nothing_begins reads

pub returns-clause-same : goal.returns-clause-same
returns-clause-same c pieces others ms ns end other bytes same reads also =
    one_reading (flat_map (λ piece. piece) pieces) ms ns end other bytes (reads_whole [] pieces ms end nothing_begins reads)
    (subst (λ x. Stream x ns other) (sym same) (reads_whole [] others ns other nothing_begins also))
