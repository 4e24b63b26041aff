-- How frames (JVMS 2.6) lie in one row of words: each from its `bottom` on, first the local variables, from `base` on the operands, up to
-- the frame above. A frame's first local variables are the operands that its caller passed, so it begins before the caller's operands end:
-- nothing is copied.
use Rattle.std.specs.Prelude.{ℕ, ◌+◌, ◌-◌, ◌*◌, ◌≤◌, List, [], ◌∷◌, length, take, drop, reverse}
use Rattle.vm_heap.specs.Tagged.{Tagged}
use Rattle.vm_stack.specs.Frames.{Frame, Frames}
use Rattle.vm_stack.specs.declared.link.Link.{Link}

-- the frame that ends a row
abbrev pub frame_of : List Tagged → Link → Frame
frame_of row link = record {
  method = link.method;
  index = link.index;
  locals = drop link.bottom (take link.base row);
  operands = reverse (drop link.base row);
  room = link.limit - link.base;
}

-- the frames below a row's end, nearest first
abbrev pub callers_of : List Tagged → List Link → List Frame
callers_of row [] = []
callers_of row (link ∷ links) = frame_of row link ∷ callers_of (take link.bottom row) links

-- a frame lies from its bottom to its base, to its top, and never reaches past its limit
pub record IsPlaced (bottom base limit top : ℕ) : Type 0 where
  pub locals : bottom ≤ base
  pub operands : base ≤ top
  pub room : top ≤ limit

-- the frames of a row of words: the running method's at `link` with its operands up to `top`, its callers' at `links`, the nearest last
abbrev pub frames_of : List Tagged → Link → ℕ → List Link → ℕ → Frames
frames_of words link top links free = record {
  frame = frame_of (take top words) link;
  callers = callers_of (take link.bottom words) (reverse links);
  free = free;
}

-- with `free` words left of `total`, the frames below the one from `bottom` to `limit` keep within the budget: each has four words
-- beside its own
abbrev pub AreWithin : ℕ → ℕ → ℕ → ℕ → List Link → Type 0
AreWithin total free bottom limit [] = Unit {0}
AreWithin total free bottom limit (below ∷ links) =
    IsPlaced below.bottom below.base below.limit bottom
    × (below.limit + (free + (limit - bottom) + 4) + 4 * length links ≤ total)
    × AreWithin total (free + (limit - bottom) + 4) below.bottom below.limit links

-- the frames lie in a row of `total` words, and `free` words are left; the others are among the first `written`, which were written;
-- `room` is how many links were reserved
pub record IsLaidOut (total written bottom base limit top : ℕ) (links : List Link) (free room : ℕ) : Type 0 where
  pub placed : IsPlaced bottom base limit top
  pub within : limit + free + 4 * length links ≤ total
  pub used : total ≤ written + free
  pub below : AreWithin total free bottom limit (reverse links)
  pub reserved : total ≤ 4 * room + 3
