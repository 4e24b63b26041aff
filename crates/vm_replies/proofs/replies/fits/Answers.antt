use Rattle.vm_replies.proofs.replies.fits.Goals as goal

pub returns-in-Get-Holds : goal.returns-in-Get-Holds
returns-in-Get-Holds c = λ is table same. rw (c.in-Get-Holds.is-0, c.in-Get-Holds.is-1, ← c.set-in-Get-Holds.ensures) (c.is_held.ensures is table same)
