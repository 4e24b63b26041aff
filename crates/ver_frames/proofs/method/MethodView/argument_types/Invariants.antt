use Rattle.std.proofs.Common.{◌≡◌, ◌++◌, map, take}
use Rattle.ver_frames.specs.Types.{field_vtype}
use Rattle.ver_frames.specs.Method.{receiver_types}
use Rattle.ver_frames.proofs.method.MethodView.argument_types.Given as goal

abbrev pub invariant-loop-index : goal.invariant-loop-index
invariant-loop-index l =
    l.types.items ≡ receiver_types l.self ++ map (field_vtype l.self.classes) (take l.index l.parameters)
