-- The direct superclass and the direct superinterfaces of a class (JVMS 4.1), the subclasses and the subtypes to which they lead
-- (JVMS 4.10.1.2; 6.5: checkcast), and remote classes (Java RMI specification, 2.4).
use Rattle.std.specs.Prelude.{◌≡◌, ◌⊎◌, Some, List, Contains, IsSomeAnd, slice_get, codes}
use Rattle.cls_order.specs.declared.class.Class.{Class}
use Rattle.space_ids.specs.declared.ids.ClassId.{ClassId}
use Rattle.cls_order.specs.Classes.{number_of, IsInterface}

-- ---- direct supertypes

-- the other is the direct superclass of a class
abbrev pub Extends : List Class → ClassId → ClassId → Type 0
Extends classes sub sup = IsSomeAnd (slice_get classes sub.0) (λ c. c.superclass ≡ Some sup)

-- the other is among the direct superinterfaces of a class
abbrev pub Declares : List Class → ClassId → ClassId → Type 0
Declares classes sub sup = IsSomeAnd (slice_get classes sub.0) (λ c. Contains c.interfaces sup)

-- sup is a direct supertype of sub: its direct superclass, or one of its direct superinterfaces
abbrev pub IsDirectSupertype : List Class → ClassId → ClassId → Type 0
IsDirectSupertype classes sub sup = Extends classes sub sup ⊎ Declares classes sub sup

-- sub is sup or a subclass of it: the least reflexive, transitive relation that holds direct superclasses
pub data IsSubclass (classes : List Class) : ClassId → ClassId → Type 0 where
  itself : (c : ClassId) → IsSubclass classes c c
  superclass : (sub sup : ClassId) → Extends classes sub sup → IsSubclass classes sub sup
  through : (sub mid sup : ClassId) → IsSubclass classes sub mid → IsSubclass classes mid sup → IsSubclass classes sub sup

-- sub is a subtype of sup: the least reflexive, transitive relation that holds direct superclasses and direct superinterfaces
pub data IsSubtype (classes : List Class) : ClassId → ClassId → Type 0 where
  itself : (c : ClassId) → IsSubtype classes c c
  superclass : (sub sup : ClassId) → Extends classes sub sup → IsSubtype classes sub sup
  superinterface : (sub sup : ClassId) → Declares classes sub sup → IsSubtype classes sub sup
  through : (sub mid sup : ClassId) → IsSubtype classes sub mid → IsSubtype classes mid sup → IsSubtype classes sub sup

-- sup is a supertype of sub by a direct supertype at least: the least transitive relation that holds direct supertypes
pub data IsProperSubtype (classes : List Class) : ClassId → ClassId → Type 0 where
  direct : (sub sup : ClassId) → IsDirectSupertype classes sub sup → IsProperSubtype classes sub sup
  through : (sub mid sup : ClassId) → IsProperSubtype classes sub mid → IsProperSubtype classes mid sup → IsProperSubtype classes sub sup

-- a class, not an interface, implements java/rmi/Remote (Java RMI specification, 2.4)
pub record IsRemote (classes : List Class) (class : ClassId) : Type 0 where
  pub is_class : IsSomeAnd (slice_get classes class.0) (λ c. ¬ IsInterface c)
  pub remote : ClassId
  pub named : number_of classes (codes "java/rmi/Remote") ≡ Some remote
  pub implements : IsSubtype classes class remote
