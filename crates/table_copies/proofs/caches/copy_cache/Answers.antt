use Rattle.std.proofs.Common.{◌≡◌, ◌++◌, ◌∷◌, ◌≤◌, [], List, length, sym, ap, subst, ◌∙◌, append-nil, append_assoc}
use Rattle.std.specs.Borrow.{Bor}
use Rattle.std.specs.Map.Iter.{deref_pair}
use Rattle.std.specs.declared.iter.Rev.{Rev}
use Rattle.lru.specs.LruCache.{LruCache}
use Rattle.table_copies.specs.Copies.{AreCopies}
use Rattle.table_copies.proofs.CopyLemmas.{cache-more}
use Rattle.table_copies.proofs.caches.copy_cache.Goals as goal

pub loop-key-init : goal.loop-key-init
loop-key-init g c = record {
  cap = ap (λ (l : LruCache g.row.K.Denot g.row.V.Denot). l.cap) c.in_ok-copy.ensures ∙ sym c.requires;
  copied = (
    [],
    append-nil c.into_iter-key-iterator.result.iter
        ∙ ap (λ (r : Rev (List (g.row.K.Denot × g.row.V.Denot))). r.iter) c.into_iter-key-iterator.ensures.into_iter_gives ∙ c.rev-key-items.ensures.source ∙ c.iter.ensures.rest,
    rw (c.in_ok-copy.ensures) tt,
  );
}

pub loop-key-preserved : goal.loop-key-preserved
loop-key-preserved g c =
    let y : Bor g.row.K.Denot × Bor g.row.V.Denot = (c.in-Some.key, c.in-Some.value) in
    let inv = c.loop-key.invariant in
    let done = inv.copied.0 in
    let whole : c.next.new.self.iter ++ deref_pair y ∷ done ≡ c.args.cache.now.entries =
    sym (append_assoc c.next.new.self.iter (deref_pair y ∷ []) done) ∙ ap (λ (it : List (g.row.K.Denot × g.row.V.Denot)). it ++ done) (sym c.in-Some.ensures.steps) ∙ inv.copied.1 in record {
      cap = ap (λ (l : LruCache g.row.K.Denot g.row.V.Denot). l.cap) c.in_ok-put.ensures.entries ∙ inv.cap;
      copied = (
        deref_pair y ∷ done,
        whole,
        cache-more g.K.PartialEq.eq g.V.CopyIn.is_copy c.next.new.self.iter done c.args.cache.now.entries c.loop-key.copy c.put.new.self (deref_pair y) c.in_ok-copy_in.field-0
            whole c.len.ensures.valid.0 (subst (λ n. length c.args.cache.now.entries ≤ n) (sym inv.cap) c.len.ensures.valid.1) inv.copied.2 c.in_ok-copy_in.ensures c.in_ok-put.ensures.entries,
      );
    }

pub loop-key-preserved-in_ok-put : goal.loop-key-preserved-in_ok-put
loop-key-preserved-in_ok-put g c =
    let y : Bor g.row.K.Denot × Bor g.row.V.Denot = (c.in-Some.key, c.in-Some.value) in
    let inv = c.loop-key.invariant in
    let done = inv.copied.0 in
    let whole : c.next.new.self.iter ++ deref_pair y ∷ done ≡ c.args.cache.now.entries =
    sym (append_assoc c.next.new.self.iter (deref_pair y ∷ []) done) ∙ ap (λ (it : List (g.row.K.Denot × g.row.V.Denot)). it ++ done) (sym c.in-Some.ensures.steps) ∙ inv.copied.1 in record {
      cap = ap (λ (l : LruCache g.row.K.Denot g.row.V.Denot). l.cap) c.in_ok-put.ensures.entries ∙ inv.cap;
      copied = (
        deref_pair y ∷ done,
        whole,
        cache-more g.K.PartialEq.eq g.V.CopyIn.is_copy c.next.new.self.iter done c.args.cache.now.entries c.loop-key.copy c.put.new.self (deref_pair y) c.in_ok-copy_in.field-0
            whole c.len.ensures.valid.0 (subst (λ n. length c.args.cache.now.entries ≤ n) (sym inv.cap) c.len.ensures.valid.1) inv.copied.2 c.in_ok-copy_in.ensures c.in_ok-put.ensures.entries,
      );
    }

pub returns-clause-entries : goal.returns-clause-entries
returns-clause-entries g c =
    let done = c.loop-key.invariant.copied in
    subst (λ (es : List (g.row.K.Denot × g.row.V.Denot)). AreCopies g.V.CopyIn.is_copy es c.loop-key.copy.entries)
    (subst (λ (it : List (g.row.K.Denot × g.row.V.Denot)). it ++ done.0 ≡ c.args.cache.now.entries) c.in-None.ensures.steps.0 done.1) done.2
