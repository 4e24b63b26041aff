-- Dirty and clean calls name several objects; each object has its own clients, and each entry its expiry (Java RMI specification, 9.1: `DGC.dirty`, `Lease`).
use Rattle.std.specs.Prelude.{◌≡◌, ℕ, Bool, false, List, [], Some, is_some, IsTrue, unwrap_or, ◌==◌, ◌&&◌, Contains, filter, if◌then◌else◌}
use Rattle.std.specs.List.{list_any}
use Rattle.std.specs.Map.{lookup}
use Rattle.std.specs.Str.{bytes_eq}
use Rattle.space_ids.specs.declared.ids.ObjId.{ObjId}
use Rattle.dgc_list.specs.declared.expiries.Expiry.{Expiry}
use Rattle.dgc_list.specs.declared.remembered.Remembered.{Remembered}
use Rattle.dgc_list.specs.Remembered.{after_moment, is_late}
use Rattle.dgc_list.specs.Clients.{remembered_in, is_known, leased, leased_after}

-- whether two ids are one
abbrev pub is_same : ObjId → ObjId → Bool
is_same a b = a.0 == b.0

-- the clients that are remembered of an object
abbrev pub clients_at : List (ObjId × List (List ℕ × Remembered)) → ObjId → List (List ℕ × Remembered)
clients_at objects object = unwrap_or (lookup (is_same object) objects) []

-- what is remembered of a client and an object
abbrev pub remembered_at : List (ObjId × List (List ℕ × Remembered)) → ObjId → List ℕ → Remembered
remembered_at objects object client = remembered_in (clients_at objects object) client

-- whether the object is one of these
abbrev pub is_named : ObjId → List ObjId → Bool
is_named object objects = list_any (is_same object) objects

-- the client has room at each of the objects
abbrev pub AreKnown : List ℕ → List ObjId → List (ObjId × List (List ℕ × Remembered)) → Type 0
AreKnown client ids objects = (object : ObjId) → IsTrue (is_named object ids) → IsTrue (is_known (clients_at objects object) client)

-- The expiries of the entries that a dirty call of this number sets for the objects, until this moment, are in the row. A late call sets none.
abbrev pub ArePlanned : List ℕ → List ObjId → ℕ → ℕ → List (ObjId × List (List ℕ × Remembered)) → List Expiry → Type 0
ArePlanned client ids number moment objects expiries =
    (object : ObjId) → IsTrue (is_named object ids) → is_late (remembered_at objects object client) number ≡ false
    → Contains expiries (record { moment = moment; object = object; client = client })

-- each entry that stands has its expiry in the row
abbrev pub IsCovered : List (ObjId × List (List ℕ × Remembered)) → List Expiry → Type 0
IsCovered objects expiries =
    (object : ObjId) (client : List ℕ) (moment : ℕ) → (remembered_at objects object client).expires ≡ Some moment
    → Contains expiries (record { moment = moment; object = object; client = client })

-- A client's call on these objects makes this of what is remembered.
pub record Tells (f : Remembered → Remembered) (client : List ℕ) (ids : List ObjId) (old new : List (ObjId × List (List ℕ × Remembered))) : Type 0 where
  pub remembered_is : (o : ObjId) (c : List ℕ)
      → remembered_at new o c ≡ (if bytes_eq client c && is_named o ids then f (remembered_at old o c) else remembered_at old o c)
  pub leased_is : (o : ObjId) → leased (clients_at new o) ≡ (if is_named o ids
      then leased_after client (is_some (remembered_at old o client).expires) (is_some (f (remembered_at old o client)).expires) (leased (clients_at old o))
      else leased (clients_at old o))

-- A moment is on its way through the row: what it makes of what is remembered stays the same, and the entries that are left stand in their order.
pub record Expires (moment : ℕ) (old new : List (ObjId × List (List ℕ × Remembered))) : Type 0 where
  pub remembered_is : (o : ObjId) (c : List ℕ) → after_moment moment (remembered_at new o c) ≡ after_moment moment (remembered_at old o c)
  pub leased_is : (o : ObjId) (stand : leased (clients_at old o) ≡ filter (λ c. is_some (remembered_at old o c).expires) (leased (clients_at old o)))
      → leased (clients_at new o) ≡ filter (λ c. is_some (remembered_at new o c).expires) (leased (clients_at old o))
