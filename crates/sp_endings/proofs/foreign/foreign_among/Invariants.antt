use Rattle.std.proofs.Common.{◌≡◌, [], fold, take}
use Rattle.std.specs.List.{IsDistinct}
use Rattle.dgc_client.specs.Table.{is_same, with_reference}
use Rattle.sp_rules.specs.References.{foreign_ids, references_of}
use Rattle.sp_endings.proofs.foreign.foreign_among.Given as goal

-- those among the values so far
abbrev pub invariant-loop-value : goal.invariant-loop-value
invariant-loop-value l = record {
  foreign : l.ids.items ≡ fold with_reference [] (foreign_ids l.own (references_of (take l.value-index l.values)));
  distinct : IsDistinct is_same l.ids.items;
}
