-- Where nothing fails and no entry expires, a client's lease stands on an entry: of each reference that its owner
-- granted to a client the owner has an entry of that client, and of each whose Lease is on its way (Java RMI
-- specification, 9.1: a dirty call adds the client to the object's list).
use Rattle.std.specs.Prelude.{◌≡◌, ℕ, true, false, Some, slice_get}
use Rattle.std.specs.Str.{bytes_eq}
use Rattle.dgc_client.specs.Lease.{is_made}
use Rattle.dgc_client.specs.Table.{references_at, is_among}
use Rattle.dgc_client.specs.declared.groups.Group.{Group}
use Rattle.net_message.specs.declared.message.Message.TheVariants as message
use Rattle.space_ids.specs.declared.ids.ForeignId.{ForeignId}
use Rattle.sp_rules.specs.Frames.{tells_of}
use Rattle.sp_rules.specs.Holders.{lease_now}
use Rattle.sp_rules.specs.State.{State, Request, Tells, Out}
use Rattle.sp_rules.specs.Worlds.{World, Space, Pipe}
use Rattle.sp_order_laws.specs.Ends.{IsOneOf}
use Rattle.sp_order_laws.specs.Places.{IsBetween}
use Rattle.sp_held_laws.specs.Granted.{is_granted}
use Rattle.sp_held_laws.specs.Steps.{has_entry_for}
use Rattle.sp_held_laws.specs.Premises.{InQuietRuns}

-- A reference is foreign to the first of two spaces of a world, and the second is its owner.
pub record IsOfOwner (w : World) (r : ForeignId) (a b : Space) : Type 0 where
  pub client : ℕ
  pub owner : ℕ
  pub here : slice_get w.spaces client ≡ Some a
  pub there : slice_get w.spaces owner ≡ Some b
  pub foreign : bytes_eq r.space a.setting.id ≡ false
  pub own : r.space ≡ b.setting.id

-- Of each reference that is granted to a client its owner has an entry of the client.
abbrev pub GrantedHaveEntries : ForeignId → World → Type 0
GrantedHaveEntries r w = (a b : Space) → IsOfOwner w r a b → is_granted a.state r ≡ true
    → has_entry_for b.state a.setting.id r.id ≡ true

-- So in every run in which nothing fails and no entry for its object expires.
abbrev pub GrantedReferencesHaveEntries : Type 0
GrantedReferencesHaveEntries = InQuietRuns GrantedHaveEntries

-- A dirty call of the reference that no clean call has overtaken is out on a connection under a sequence number.
pub record IsDirtyOut (s : State) (conn number : ℕ) (r : ForeignId) : Type 0 where
  pub request : Request
  pub call : ℕ
  pub group : Group
  pub there : IsOneOf request s.requests
  pub out : request.stage ≡ Out conn number
  pub asked : request.asked ≡ Tells call group
  pub dirty : tells_of true (Tells call group) ≡ true
  pub names : is_among r (references_at group.peer group.ids) ≡ true
  pub made : is_made (lease_now s r).dirty call ≡ true

-- As the Lease of such a call is on its way, the owner has an entry of the client.
abbrev pub LeasesHaveEntries : ForeignId → World → Type 0
LeasesHaveEntries r w = (conn number period : ℕ) (p : Pipe) (a b : Space) → IsBetween w conn p a b
    → IsOneOf (message.Lease number period) p.dialler.queue → IsDirtyOut a.state conn number r
    → r.space ≡ b.setting.id
    → has_entry_for b.state a.setting.id r.id ≡ true

-- So in every such run.
abbrev pub LeasesComeOfEntries : Type 0
LeasesComeOfEntries = InQuietRuns LeasesHaveEntries
