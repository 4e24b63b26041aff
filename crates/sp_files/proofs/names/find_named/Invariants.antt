use Rattle.sp_files.specs.Names.{NamesNoneBefore}
use Rattle.sp_files.proofs.names.find_named.Given as goal

-- no split so far names a method
abbrev pub invariant-loop-index : goal.invariant-loop-index
invariant-loop-index l = NamesNoneBefore l.linked.classes l.class l.text l.index
