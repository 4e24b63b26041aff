use Rattle.book_rows.proofs.play_in.Given as goal

-- the book is the one that was just opened, and its setting that of the space
abbrev pub ghosts-play_named-N-Ledger : goal.ghosts-play_named-N-Ledger
ghosts-play_named-N-Ledger g a = record { name = a.opened.blank.name; parts = a.opened.blank.parts }

abbrev pub ghosts-play_named-N-Setup : goal.ghosts-play_named-N-Setup
ghosts-play_named-N-Setup g a = record { setting = g.M.Setup.setting }

abbrev pub ghosts-play_named-N-Naming : goal.ghosts-play_named-N-Naming
ghosts-play_named-N-Naming g a = record { table = a.opened.queue.table.shared.table_id; all = a.opened.blank.parts }
