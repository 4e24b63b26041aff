use Rattle.std.proofs.Common.{sym, ◌∙◌, arith}
use Rattle.ver_frames.proofs.Chains.{chain_long}
use Rattle.ver_frames.proofs.Fillings.{filled_long, filled_over}
use Rattle.ver_frames.specs.Chains.{types_of}
use Rattle.ver_frames.proofs.declared_frames.DeclaredFrame.local_count.Goals as goal

pub returns-then-spelled-all : goal.returns-then-spelled-all
returns-then-spelled-all c =
    let i = c.self.inside in
    let long = chain_long i.nodes.now i.locals c.self.invariant.0 in
    rw (c.from-all.ensures, ← c.self.view_is) (sym (filled_long i.max_locals (types_of i.nodes.now i.locals) (omega (arith, long, c.from-all.ensures))))

pub returns-else-spelled-all : goal.returns-else-spelled-all
returns-else-spelled-all c =
    let i = c.self.inside in
    let long = chain_long i.nodes.now i.locals c.self.invariant.0 in
    rw (← c.self.view_is) (long ∙ sym (filled_over i.max_locals (types_of i.nodes.now i.locals) (omega (arith, long, c.from-all.ensures))))
