use Rattle.vm_typing.proofs.Runs
use Rattle.vm_typing.proofs.laws.typed_machines_are_never_stuck.Goals as goal

pub returns : goal.returns
returns c = record { start = λ w owed. Runs.starts_typed w owed; run = λ w. Runs.runs_sound w; replies = λ w. Runs.plays_sound w }
