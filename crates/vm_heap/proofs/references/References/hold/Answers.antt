use Rattle.std.proofs.Common.{arith, ◌≡◌, ◌<◌, length, sym, ap, ◌∙◌, Some, None}
use Rattle.vm_heap.specs.References.{row_of}
use Rattle.vm_heap.proofs.Tables.{row_within, added, length_added, mark_added}
use Rattle.vm_heap.proofs.references.References.hold.Goals as goal

pub overflow_cast-row : goal.overflow_cast-row
overflow_cast-row c =
    let e : row_of c.self.inside.rows.items c.args.reference ≡ Some c.in-Some.row =
    ap (λ rows. row_of rows c.args.reference) (sym c.deref.ensures.value) ∙ sym c.row_of.ensures ∙ c.in-Some.is in
    let h : c.in-Some.row < length c.self.inside.rows.items = row_within _ _ _ e in
    omega (arith, c.self.invariant.0.within, c.self.invariant.0.small)

pub invariant_of-self : goal.invariant_of-self
invariant_of-self c =
    let e : row_of c.self.inside.rows.items c.args.reference ≡ None =
    ap (λ rows. row_of rows c.args.reference) (sym c.deref.ensures.value) ∙ sym c.row_of.ensures ∙ c.in_default.is in
    rw c.push_reserved-2.ensures.items (
      record {
        once = added _ _ c.self.invariant.0.once e;
        within = omega (arith, length_added c.self.inside.rows.items c.args.reference);
        reserved = omega arith;
        small = c.self.invariant.0.small;
      },
      record {
        marks = c.push_reserved.ensures.items ∙ mark_added _ _ _ _ _ c.self.invariant.1.marks c.eq.ensures;
        reserved = omega arith;
      },
    )
