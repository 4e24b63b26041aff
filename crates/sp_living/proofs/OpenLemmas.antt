-- Connections as they open: which Hello is said, and by whom.
use Rattle.std.proofs.Common.{◌≡◌, ℕ, true, false, cond, None, Some, sym, ap}
use Rattle.std.specs.Prelude.{nat_le}
use Rattle.uuid.specs.declared.Uuid.{Uuid}
use Rattle.sp_rules.specs.Classes.{Setting}
use Rattle.sp_rules.specs.Frames.{say_hello}
use Rattle.sp_rules.specs.OwnEvents.{add_connection, dialled_no_more, first_hello, on_opened, version_to}
use Rattle.sp_rules.specs.State.{State}

pub opens-to : (g : Setting) (conn : ℕ) (peer : Uuid) (s : State) (version : ℕ) → version ≡ version_to g s peer → say_hello g version conn (dialled_no_more (Some peer) (add_connection conn (Some peer) s)) ≡ on_opened g conn (Some peer) s
unfolding on_opened
opens-to g conn peer s version e = ap (λ (v : ℕ). say_hello g v conn (dialled_no_more (Some peer) (add_connection conn (Some peer) s))) e

pub opens-late : (g : Setting) (conn : ℕ) (s : State) → nat_le 2 g.version ≡ true → add_connection conn None s ≡ first_hello g conn None (dialled_no_more None (add_connection conn None s))
opens-late g conn s e = sym (ap (λ b. cond b (add_connection conn None s) (say_hello g 1 conn (add_connection conn None s))) e)

pub opens-early : (g : Setting) (conn : ℕ) (s : State) → nat_le 2 g.version ≡ false → say_hello g 1 conn (add_connection conn None s) ≡ first_hello g conn None (dialled_no_more None (add_connection conn None s))
opens-early g conn s e = sym (ap (λ b. cond b (add_connection conn None s) (say_hello g 1 conn (add_connection conn None s))) e)
