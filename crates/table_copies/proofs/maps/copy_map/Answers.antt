use Rattle.std.proofs.Common.{◌≡◌, ◌++◌, ◌∷◌, [], List, map, sym, subst, ◌∙◌, append-nil}
use Rattle.std.specs.Borrow.{Bor}
use Rattle.std.specs.Map.Iter.{deref_pair}
use Rattle.std.proofs.lemmas.List.{map-append}
use Rattle.table_copies.specs.Copies.{AreCopies}
use Rattle.table_copies.proofs.CopyLemmas.{map-more, order-more}
use Rattle.table_copies.proofs.maps.copy_map.Goals as goal

pub loop-key-preserved : goal.loop-key-preserved
loop-key-preserved g c =
    let y : Bor g.row.K.Denot × Bor g.row.V.Denot = (c.in-Some.key, c.in-Some.value) in
    let done = map deref_pair c.loop-key.yielded in
    let copies = g.V.CopyIn.is_copy in
    let first = c.in-Some.ensures.steps in record {
      copied =
          subst (λ (es : List (g.row.K.Denot × g.row.V.Denot)). AreCopies copies es c.insert.new.self.entries) (sym (map-append deref_pair c.loop-key.yielded (y ∷ [])))
          (map-more g.K.PartialEq.eq copies g.met.K.Eq.laws done c.next.new.self c.args.map.now.entries c.insert.new.self.entries c.loop-key.copy (deref_pair y) c.in_ok-copy_in.field-0
          (subst (λ (it : List (g.row.K.Denot × g.row.V.Denot)). done ++ it ≡ c.args.map.now.entries) first c.loop-key.invariant.whole) c.iter-key-items.ensures.unique c.loop-key.invariant.copied c.in_ok-copy_in.ensures c.in_ok-insert.ensures.entries);
      whole = order-more c.loop-key.yielded y c.loop-key.key-iterator c.next.new.self c.args.map.now.entries first c.loop-key.invariant.whole;
    }

pub loop-key-preserved-in_ok-insert : goal.loop-key-preserved-in_ok-insert
loop-key-preserved-in_ok-insert g c =
    let y : Bor g.row.K.Denot × Bor g.row.V.Denot = (c.in-Some.key, c.in-Some.value) in
    let done = map deref_pair c.loop-key.yielded in
    let copies = g.V.CopyIn.is_copy in
    let first = c.in-Some.ensures.steps in record {
      copied =
          subst (λ (es : List (g.row.K.Denot × g.row.V.Denot)). AreCopies copies es c.insert.new.self.entries) (sym (map-append deref_pair c.loop-key.yielded (y ∷ [])))
          (map-more g.K.PartialEq.eq copies g.met.K.Eq.laws done c.next.new.self c.args.map.now.entries c.insert.new.self.entries c.loop-key.copy (deref_pair y) c.in_ok-copy_in.field-0
          (subst (λ (it : List (g.row.K.Denot × g.row.V.Denot)). done ++ it ≡ c.args.map.now.entries) first c.loop-key.invariant.whole) c.iter-key-items.ensures.unique c.loop-key.invariant.copied c.in_ok-copy_in.ensures c.in_ok-insert.ensures.entries);
      whole = order-more c.loop-key.yielded y c.loop-key.key-iterator c.next.new.self c.args.map.now.entries first c.loop-key.invariant.whole;
    }

pub returns : goal.returns
returns g c =
    let whole : map deref_pair c.loop-key.yielded ≡ c.args.map.now.entries =
    sym (append-nil (map deref_pair c.loop-key.yielded)) ∙ subst (λ (it : List (g.row.K.Denot × g.row.V.Denot)). map deref_pair c.loop-key.yielded ++ it ≡ c.args.map.now.entries) c.in-None.ensures.steps.0 c.loop-key.invariant.whole in
    subst (λ (es : List (g.row.K.Denot × g.row.V.Denot)). AreCopies g.V.CopyIn.is_copy es c.loop-key.copy.entries) whole c.loop-key.invariant.copied
