use Rattle.std.proofs.Common.{◌≡◌, ◌++◌}
use Rattle.sp_main.proofs.Contents.{AreWhole}
use Rattle.sp_main.proofs.entry.read_contents.Given as goal

-- the files so far are whole, and the other paths are left
abbrev pub invariant-loop-path : goal.invariant-loop-path
invariant-loop-path g l = AreWhole (g.F.Folder.gives l.folder) l.yielded l.files.items × (l.fn.paths.items ≡ l.yielded ++ l.path-iterator.rest.items)
