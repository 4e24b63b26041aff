-- Why calls of a book are refused. (This project's own.)
use Rattle.std.specs.Prelude.{ℕ, ◌==◌, if◌then◌else◌}
use Rattle.sp_events.specs.declared.fault.CoreFault.{CoreFault}
use Rattle.sp_events.specs.declared.fault.CoreFault.TheVariants as core
use Rattle.sp_history.specs.declared.fault.BookFault.{BookFault}
use Rattle.sp_history.specs.declared.fault.BookFault.TheVariants as book

-- the fault of a call that the space refuses
abbrev pub book_fault : CoreFault → BookFault
book_fault core.Memory = book.Memory
book_fault fault = book.Core fault

-- why no entries are cut while so many tasks are in hand: for them, or else for want of memory
abbrev pub cut_fault : ℕ → BookFault
cut_fault in_hand = if in_hand == 0 then book.Memory else book.InHand in_hand
