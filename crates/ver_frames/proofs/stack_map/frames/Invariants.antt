use Rattle.std.proofs.Common.{◌≡◌, ◌-◌, None}
use Rattle.std.specs.Prelude.{map}
use Rattle.std.specs.List.{AllByRecursion}
use Rattle.ver_frames.specs.Chains.{FrameStands, Stands, declared_in, types_of}
use Rattle.ver_frames.specs.Method.{argument_types}
use Rattle.ver_frames.specs.StackMap.{frames}
use Rattle.ver_frames.proofs.FrameLoops.{with_frames}
use Rattle.ver_frames.proofs.stack_map.frames.Given as goal

abbrev pub invariant-loop : goal.invariant-loop
invariant-loop l = record {
  stand : AllByRecursion (FrameStands l.nodes) l.frames.items;
  before : Stands l.nodes l.locals;
  read : with_frames (map (declared_in l.method.code.max_locals l.nodes) l.frames.items) (frames l.method (l.count - l.counter) l.last (types_of l.nodes l.locals) l.rest)
      ≡ frames l.method l.count None (argument_types l.method) l.bytes;
}
