use Rattle.std.proofs.Common.{subst, sym}
use Rattle.std.specs.Prelude.{All}
use Rattle.std.proofs.lemmas.List.Sorted.{All-permutation}
use Rattle.sp_digest.specs.Digests.{IsShort}
use Rattle.sp_digest.proofs.files.digest_of.Goals as goal

pub digest_in_order-requires : goal.digest_in_order-requires
digest_in_order-requires c =
    subst (All IsShort) (sym c.deref.ensures.value) (All-permutation IsShort c.args.files.now c.in_ok-ordered.ordered.items (c.in_ok-ordered.ensures).permutation c.requires)
