use Rattle.std.proofs.Common.{◌≡◌, ◌∙◌, ◌++◌, ◌∷◌, [], rules, refl, string_bytes, sym, subst, ap, append_assoc, append-nil}
use Rattle.std.proofs.lemmas.List.{nil_from_length}
use Rattle.sp_main.specs.Folders.{IsContent}
use Rattle.sp_main.proofs.Contents.{AreWhole, all_read, last_unreadable, one_file_more, whole_default}
use Rattle.sp_main.proofs.entry.read_contents.Goals as goal

pub returns-in-Unreadable : goal.returns-in-Unreadable
returns-in-Unreadable g c =
    let content : IsContent 1048577 (g.F.Folder.gives c.args.folder.now (string_bytes c.in-Some.path)) c.in_ok-content.content =
    subst (λ path. IsContent 1048577 (g.F.Folder.gives c.args.folder.now path) c.in_ok-content.content) c.deref.ensures c.in_ok-content.ensures in
    let next : c.loop-path.path-iterator.rest.items ≡ c.in-Some.path ∷ c.next.new.self.rest.items = search rules in
    rw ((c.in_ok-push.ensures).items, c.loop-path.invariant.1, next)
    (last_unreadable (g.F.Folder.gives c.args.folder.now) c.loop-path.yielded _ c.loop-path.files.items c.in-Some.path _ c.loop-path.invariant.0 refl content c.in-Unreadable.is)

pub loop-path-preserved : goal.loop-path-preserved
loop-path-preserved g c =
    let content : IsContent 1048577 (g.F.Folder.gives c.args.folder.now (string_bytes c.in-Some.path)) c.in_ok-content.content =
    subst (λ path. IsContent 1048577 (g.F.Folder.gives c.args.folder.now path) c.in_ok-content.content) c.deref.ensures c.in_ok-content.ensures in
    let next : c.loop-path.path-iterator.rest.items ≡ c.in-Some.path ∷ c.next.new.self.rest.items = search rules in (
      rw ((c.in_ok-push-2.ensures).items) (one_file_more (g.F.Folder.gives c.args.folder.now) c.loop-path.yielded c.loop-path.files.items c.in-Some.path _ c.loop-path.invariant.0 refl content (whole_default _ c.in_default.not-Unreadable)),
      c.loop-path.invariant.1 ∙ ap (λ l. c.loop-path.yielded ++ l) next ∙ sym (append_assoc c.loop-path.yielded (c.in-Some.path ∷ []) c.next.new.self.rest.items),
    )

pub returns : goal.returns
returns g c =
    let none : c.loop-path.path-iterator.rest.items ≡ [] = nil_from_length _ (sym c.loop-path.path-iterator.rest.ok.0 ∙ (c.in-None.ensures).steps.0) in
    all_read (g.F.Folder.gives c.args.folder.now) c.args.paths.items c.loop-path.files.items
    (subst (λ paths. AreWhole (g.F.Folder.gives c.args.folder.now) paths c.loop-path.files.items) (sym (append-nil c.loop-path.yielded) ∙ ap (λ l. c.loop-path.yielded ++ l) (sym none) ∙ sym c.loop-path.invariant.1) c.loop-path.invariant.0)
