use Rattle.std.proofs.Common.{inl, rules, string_bytes, subst, sym}
use Rattle.std.proofs.lemmas.List.Sorted.{All-permutation}
use Rattle.std.proofs.lemmas.Result.{err_from_is_err_and}
use Rattle.sp_words.specs.Folders.{IsBelow, IsClassPath}
use Rattle.sp_words.proofs.Below.{itself, popped}
use Rattle.sp_words.proofs.folder.DiskFolder.paths.Goals as goal

pub returns-in_err-list_folder-in-Some-clause-fault : goal.returns-in_err-list_folder-in-Some-clause-fault
returns-in_err-list_folder-in-Some-clause-fault g c =
    let next = popped (λ path. IsBelow c.args.folder.now (string_bytes path)) c.loop.found.folders.items c.pop.new.self.items c.pop.result c.in-Some.next
    c.pop.ensures.items c.in-Some.is c.loop.invariant.1 in
    let told = err_from_is_err_and c.from_residual-in_err-list_folder-in-Some.result c.from_residual-in_err-list_folder-in-Some.ensures.1 in
    rw (told.1, told.2) ((c.in_err-list_folder-in-Some.ensures).fault c.args.folder.now next.1)

pub returns-in-None-clause-listed : goal.returns-in-None-clause-listed
returns-in-None-clause-listed g c = (
  All-permutation (λ path. IsClassPath c.args.folder.now (string_bytes path)) c.loop.found.files.items c.sort.new.self.items
      c.sort.ensures.permutation c.loop.invariant.0,
  search rules,
)

pub loop-preserved : goal.loop-preserved
loop-preserved g c =
    let next = popped (λ path. IsBelow c.args.folder.now (string_bytes path)) c.loop.found.folders.items c.pop.new.self.items c.pop.result c.in-Some.next
    c.pop.ensures.items c.in-Some.is c.loop.invariant.1 in
    (c.in_ok-list_folder-in-Some.ensures).found c.args.folder.now next.1 (c.loop.invariant.0, next.0)

pub returns-clause-fault : goal.returns-clause-fault
returns-clause-fault g c = inl (subst (IsBelow c.args.folder.now) (sym (c.in_ok-from_str.ensures).ok) (itself c.args.folder.now))
