-- What a call set tells is what the rules of spaces ask of the linked set.
use Rattle.std.proofs.Common.{◌≡◌, ℕ, Bool, false, Option, Some, List, refl, sym, ap, ◌∙◌}
use Rattle.std.specs.Prelude.{codes, if◌then◌else◌}
use Rattle.std.specs.Option.{option_map_or}
use Rattle.cls_link.specs.Links.{Links}
use Rattle.cls_set.specs.Classes.{number_of}
use Rattle.cls_set.specs.declared.class.Class.{Class}
use Rattle.space_ids.specs.declared.ids.ClassId.{ClassId}
use Rattle.sp_requests.specs.Thrown.{thrown_class}
use Rattle.sp_requests.specs.declared.call_classes.RemoteException.{RemoteException}
use Rattle.sp_requests.specs.declared.call_classes.RemoteException.TheVariants as exception
use Rattle.sp_behaviours.proofs.Told.{named_is}
use Rattle.sp_behaviours.specs.Classes.{class_named, classes_of, is_below}
use Rattle.sp_rules.specs.Classes.{Classes, told_class}
use Rattle.vm_code.specs.Classes.{is_subtype}
use Rattle.sp_call_set.specs.Named.{AreNamed, number_in, told_in}
use Rattle.sp_call_set.specs.declared.named.NamedClasses.{NamedClasses}

-- what is so of the linked set that a call set was made of is so of the classes that it tells
pub told_of : {A : Type 0} (part : Classes → A) (inside links : Links) (c : Classes) (x : A) → x ≡ part (classes_of inside) → inside ≡ links → c ≡ classes_of links → x ≡ part c
told_of part inside links c x is view same = is ∙ (ap (λ (l : Links). part (classes_of l)) view ∙ sym (ap part same))

pub below_named : (classes : List Class) (name : List ℕ) (id class : ClassId) → number_of classes name ≡ Some id → is_subtype classes class id ≡ is_below classes name class
below_named classes name id class e = sym (ap (λ (o : Option ClassId). option_map_or (λ (named : ClassId). is_subtype classes class named) o false) e)

pub thrown_is : (links : Links) (named : NamedClasses) → AreNamed links.classes named → (e : RemoteException) → number_in named e ≡ thrown_class (classes_of links) e
thrown_is links named are exception.NoSuchObject = named_is links.classes (codes "java/rmi/NoSuchObjectException") named.no_such_object are.no_such_object
thrown_is links named are exception.Unmarshal = named_is links.classes (codes "java/rmi/UnmarshalException") named.unmarshal are.unmarshal
thrown_is links named are exception.Marshal = named_is links.classes (codes "java/rmi/MarshalException") named.marshal are.marshal
thrown_is links named are exception.Connect = named_is links.classes (codes "java/rmi/ConnectException") named.connect are.connect
thrown_is links named are exception.ServerError = named_is links.classes (codes "java/rmi/ServerError") named.server_error are.server_error
thrown_is links named are exception.NotBound = named_is links.classes (codes "java/rmi/NotBoundException") named.not_bound are.not_bound

same_choice : (a b p q : Bool) (x y u v z : ClassId) → a ≡ p → b ≡ q → x ≡ u → y ≡ v → (if a then x else (if b then y else z)) ≡ (if p then u else (if q then v else z))
same_choice a b p q x y u v z e f g h = rw (e, f, g, h) refl

pub told_is : (links : Links) (named : NamedClasses) → AreNamed links.classes named → (class : ClassId) → told_in links.classes named class ≡ told_class (classes_of links) class
told_is links named are class =
    same_choice (is_subtype links.classes class named.error) (is_subtype links.classes class named.remote_exception) (is_below links.classes (codes "java/lang/Error") class)
    (is_below links.classes (codes "java/rmi/RemoteException") class) named.server_error named.server_exception (class_named links.classes (codes "java/rmi/ServerError"))
    (class_named links.classes (codes "java/rmi/ServerException")) class
    (below_named links.classes (codes "java/lang/Error") named.error class are.error)
    (below_named links.classes (codes "java/rmi/RemoteException") named.remote_exception class are.remote_exception)
    (named_is links.classes (codes "java/rmi/ServerError") named.server_error are.server_error)
    (named_is links.classes (codes "java/rmi/ServerException") named.server_exception are.server_exception)
