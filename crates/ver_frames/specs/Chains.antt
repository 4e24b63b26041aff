-- Lists of types that share their fronts, as the frames of one method do. Each type stands at a node of one row, which names the node of
-- the type before it. A list is given by the node of its last type and by its length. (This project's own.)
use Rattle.std.specs.Prelude.{◌≡◌, ℕ, zero, suc, List, [], ◌∷◌, ◌++◌, slice_get, IsSomeAnd}
use Rattle.std.specs.List.{AllByRecursion}
use Rattle.std.specs.Option.{option_map_or}
use Rattle.ver_frames.specs.Frames.{Frame}
use Rattle.ver_frames.specs.StackMapFormat.{Spelled, declared_frame}
use Rattle.ver_frames.specs.declared.chain.TypeChain.{TypeChain}
use Rattle.ver_frames.specs.declared.chain.TypeNode.{TypeNode}
use Rattle.ver_frames.specs.declared.raw_frame.RawFrame.{RawFrame}
use Rattle.ver_frames.specs.declared.vtype.VType.{VType}

-- `count` types, the last of which stands at this node
unfoldable pub types_to : List TypeNode → ℕ → ℕ → List VType
types_to nodes zero last = []
types_to nodes (suc n) last =
    option_map_or (λ (node : TypeNode). types_to nodes n node.before ++ node.kind ∷ []) (slice_get nodes last) []

-- `count` types stand in the row, the last of them at this node
unfoldable pub StandTo : List TypeNode → ℕ → ℕ → Type 0
StandTo nodes zero last = Unit {0}
StandTo nodes (suc n) last = IsSomeAnd (slice_get nodes last) (λ (node : TypeNode). StandTo nodes n node.before)

-- the types of a chain
abbrev pub types_of : List TypeNode → TypeChain → List VType
types_of nodes chain = types_to nodes chain.count chain.last

-- the types of a chain stand in the row
abbrev pub Stands : List TypeNode → TypeChain → Type 0
Stands nodes chain = StandTo nodes chain.count chain.last

-- what stands in a row of nodes stands in the other too, with the same types
unfoldable pub Keeps : List TypeNode → List TypeNode → Type 0
Keeps old new = (n last : ℕ) → StandTo old n last → StandTo new n last × (types_to new n last ≡ types_to old n last)

-- the types of a frame stand in the row
pub record FrameStands (nodes : List TypeNode) (frame : RawFrame) : Type 0 where
  pub locals : Stands nodes frame.locals
  pub stack : Stands nodes frame.stack

-- a frame as it is spelled
abbrev pub spelled_in : List TypeNode → RawFrame → Spelled
spelled_in nodes frame = record { offset = frame.offset; locals = types_of nodes frame.locals; stack = types_of nodes frame.stack }

-- a frame as it is declared, with its offset
abbrev pub declared_in : ℕ → List TypeNode → RawFrame → ℕ × Frame
declared_in max_locals nodes frame =
    (frame.offset, declared_frame max_locals (types_of nodes frame.locals) (types_of nodes frame.stack))
