-- An owner's reference lists: dirty calls add a client and grant a lease, clean calls remove it, and calls are ordered by their sequence numbers (Java RMI specification, 9.1: `DGC.dirty` and `DGC.clean`), as a history: this project's own form.
use Rattle.std.specs.Prelude.{◌≡◌, ℕ, ◌+◌, ◌≤◌, Bool, false, List, [], ◌∷◌, is_some, IsTrue, ◌&&◌, nat_lt, min, max, filter, if◌then◌else◌}
use Rattle.std.specs.Str.{bytes_eq}
use Rattle.space_ids.specs.declared.ids.ObjId.{ObjId}
use Rattle.dgc_list.specs.declared.list.RefList.{RefList}
use Rattle.dgc_list.specs.declared.remembered.Remembered.{Remembered}
use Rattle.dgc_list.specs.Remembered.{blank, after_dirty, after_clean, after_moment}
use Rattle.dgc_list.specs.Clients.{is_known, leased, leased_after}
use Rattle.dgc_list.specs.Objects.{is_same, clients_at, remembered_at, is_named, AreKnown, ArePlanned, IsCovered}

-- A call on a reference list. A history is a list of calls, newest first. A client is the sixteen bytes of its space's id; moments and
-- periods are in milliseconds.
pub data Call : Type 0 where
  Dirty : (client : List ℕ) (objects : List ObjId) (number period : ℕ) → Call
  Clean : (client : List ℕ) (objects : List ObjId) (number : ℕ) (strong : Bool) → Call
  Moment : (moment : ℕ) → Call
  Forget : (object : ObjId) → Call

-- The moment that it is: one below the last changes nothing.
abbrev pub moment_of : List Call → ℕ
moment_of [] = 0
moment_of (Dirty client objects number period ∷ h) = moment_of h
moment_of (Clean client objects number strong ∷ h) = moment_of h
moment_of (Moment moment ∷ h) = max moment (moment_of h)
moment_of (Forget object ∷ h) = moment_of h

-- the period granted if this one is asked
abbrev pub granted : ℕ → ℕ
granted period = min period 600000

-- whether a call of the client on these objects is one of this client and object
abbrev pub is_told : List ℕ → List ObjId → List ℕ → ObjId → Bool
is_told client objects c o = bytes_eq client c && is_named o objects

-- What is remembered of a client and an object. It depends on the calls of that client on that object, the moments and the object's
-- withdrawal alone.
abbrev pub remembered_of : List Call → List ℕ → ObjId → Remembered
remembered_of [] c o = blank
remembered_of (Dirty client objects number period ∷ h) c o =
    if is_told client objects c o then after_dirty number (moment_of h + granted period) (remembered_of h c o) else remembered_of h c o
remembered_of (Clean client objects number strong ∷ h) c o =
    if is_told client objects c o then after_clean number strong (remembered_of h c o) else remembered_of h c o
remembered_of (Moment moment ∷ h) c o =
    if nat_lt moment (moment_of h) then remembered_of h c o else after_moment moment (remembered_of h c o)
remembered_of (Forget object ∷ h) c o = if is_same object o then blank else remembered_of h c o

-- whether the client has an entry for the object
abbrev pub is_leased : List Call → List ℕ → ObjId → Bool
is_leased h c o = is_some (remembered_of h c o).expires

-- The clients with an entry for the object, in the order in which the entries that stand were first set.
abbrev pub clients_of : List Call → ObjId → List (List ℕ)
clients_of [] o = []
clients_of (Dirty client objects number period ∷ h) o =
    if is_named o objects then leased_after client (is_leased h client o) (is_leased (Dirty client objects number period ∷ h) client o) (clients_of h o) else clients_of h o
clients_of (Clean client objects number strong ∷ h) o =
    if is_named o objects then leased_after client (is_leased h client o) (is_leased (Clean client objects number strong ∷ h) client o) (clients_of h o) else clients_of h o
clients_of (Moment moment ∷ h) o = filter (λ c. is_leased (Moment moment ∷ h) c o) (clients_of h o)
clients_of (Forget object ∷ h) o = if is_same object o then [] else clients_of h o

-- There is room for what is remembered of the client at each of these objects.
abbrev pub HasRoomForClean : List ℕ → List ObjId → RefList → Type 0
HasRoomForClean client objects list = AreKnown client objects list.objects

-- There is no room for what is remembered of the client at this object.
abbrev pub HasNoRoom : List ℕ → ObjId → RefList → Type 0
HasNoRoom client object list = is_known (clients_at list.objects object) client ≡ false

-- There is room for a dirty call of the client, of this number and period, that comes now.
pub record HasRoomForDirty (client : List ℕ) (objects : List ObjId) (number period : ℕ) (list : RefList) : Type 0 where
  pub clients : HasRoomForClean client objects list
  pub planned : ArePlanned client objects number (list.moment + granted period) list.objects list.expiries

-- The list is what the history leaves.
pub record IsAfter (h : List Call) (list : RefList) : Type 0 where
  pub moment : list.moment ≡ moment_of h
  pub remembered : (c : List ℕ) (o : ObjId) → remembered_at list.objects o c ≡ remembered_of h c o
  pub clients : (o : ObjId) → leased (clients_at list.objects o) ≡ clients_of h o
  pub covered : IsCovered list.objects list.expiries

-- The calls of one client on one object, with the moments and the object's withdrawal.
abbrev pub own_calls : List ℕ → ObjId → List Call → List Call
own_calls c o [] = []
own_calls c o (Dirty client objects number period ∷ h) =
    if is_told client objects c o then Dirty client objects number period ∷ own_calls c o h else own_calls c o h
own_calls c o (Clean client objects number strong ∷ h) =
    if is_told client objects c o then Clean client objects number strong ∷ own_calls c o h else own_calls c o h
own_calls c o (Moment moment ∷ h) = Moment moment ∷ own_calls c o h
own_calls c o (Forget object ∷ h) = if is_same object o then Forget object ∷ own_calls c o h else own_calls c o h

-- Of these calls none of the client on the object is newer than the number, and the object is not withdrawn.
abbrev pub AreOlder : ℕ → List ℕ → ObjId → List Call → Type 0
AreOlder number c o [] = Unit {0}
AreOlder number c o (Dirty client objects n period ∷ h) = (IsTrue (is_told client objects c o) → n ≤ number) × AreOlder number c o h
AreOlder number c o (Clean client objects n strong ∷ h) = (IsTrue (is_told client objects c o) → n ≤ number) × AreOlder number c o h
AreOlder number c o (Moment moment ∷ h) = AreOlder number c o h
AreOlder number c o (Forget object ∷ h) = (is_same object o ≡ false) × AreOlder number c o h
