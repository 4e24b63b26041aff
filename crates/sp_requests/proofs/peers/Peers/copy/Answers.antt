use Rattle.std.specs.Map.{lookup}
use Rattle.std.specs.Str.{bytes_eq}
use Rattle.sp_rules.specs.Lines.{dialled_to}
use Rattle.sp_requests.specs.Asking.{HasRequestsOf}
use Rattle.sp_requests.specs.Peers.{of_peer}
use Rattle.table_copies.proofs.CopyLemmas.{lookup-copied}
use Rattle.sp_requests.specs.AllAsked.{row_of}
use Rattle.sp_requests.proofs.CopyLemmas.{asked-copied}
use Rattle.sp_requests.proofs.peers.Peers.copy.Goals as goal

pub returns : goal.returns
returns c = record {
  copied = λ connections requests was.
      let old = c.args.self.now.rows.entries in
      let new = c.in_ok-copy_map.field-0.entries in record {
        asked = λ peer.
            asked-copied (dialled_to connections peer) (of_peer peer requests) (row_of peer c.args.self.now) (lookup (bytes_eq peer) new)
            (lookup-copied bytes_eq HasRequestsOf (bytes_eq peer) old new c.in_ok-copy_map.ensures) (was.asked peer);
        numbered_once = was.numbered_once;
        dialled_once = was.dialled_once;
      };
}
