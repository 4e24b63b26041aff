use Rattle.net_engine.proofs.Calls.{ends-closed, ends-bad}
use Rattle.net_engine.proofs.laws.frames_before_the_end_are_those_of_the_bytes.Goals as goal

pub returns : goal.returns
returns g c = record { closed = ends-closed g.S.Source.remaining g.S.Source.has_failed; bad = ends-bad g.S.Source.remaining g.S.Source.has_failed }
