-- What is asked of a peer, in the copy of a row.
use Rattle.std.proofs.Common.{List, Option, None, Some}
use Rattle.std.specs.Str.{bytes_eq}
use Rattle.sp_rules.specs.State.{Connection, Request}
use Rattle.sp_requests.specs.Asking.{HasRequestsOf}
use Rattle.sp_requests.specs.declared.requests.Requests.{Requests}
use Rattle.table_copies.proofs.CopyLemmas.{IsCopyFound}
use Rattle.sp_requests.specs.AllAsked.{IsAsked}

pub asked-copied : (o : Option Connection) (rows : List Request) (t u : Option Requests) → IsCopyFound bytes_eq HasRequestsOf t u → IsAsked o rows t → IsAsked o rows u
asked-copied o rows None (Some u) found asked = absurd found
asked-copied o rows (Some t) None found asked = absurd found
asked-copied None rows None None found asked = asked
asked-copied (Some c) rows None None found asked = asked
asked-copied None rows (Some t) (Some u) found asked = λ conn. found conn rows _ (asked conn)
asked-copied (Some c) rows (Some t) (Some u) found asked = found c.number rows c.sent asked
