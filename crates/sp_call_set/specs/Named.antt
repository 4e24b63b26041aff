-- The classes of java/lang and java/rmi that calls name, by their numbers in a set (Java RMI specification, appendix A). (The numbers are this
-- project's own.)
use Rattle.std.specs.Prelude.{◌≡◌, Some, List, codes, if◌then◌else◌}
use Rattle.cls_set.specs.Classes.{number_of}
use Rattle.cls_set.specs.declared.class.Class.{Class}
use Rattle.space_ids.specs.declared.ids.ClassId.{ClassId}
use Rattle.sp_requests.specs.declared.call_classes.RemoteException.{RemoteException}
use Rattle.sp_requests.specs.declared.call_classes.RemoteException.TheVariants as exception
use Rattle.sp_call_set.specs.declared.named.NamedClasses.{NamedClasses}
use Rattle.vm_code.specs.Classes.{is_subtype}

-- the numbers are those of the classes of these names
pub record AreNamed (classes : List Class) (named : NamedClasses) : Type 0 where
  pub remote : number_of classes (codes "java/rmi/Remote") ≡ Some named.remote
  pub throwable : number_of classes (codes "java/lang/Throwable") ≡ Some named.throwable
  pub error : number_of classes (codes "java/lang/Error") ≡ Some named.error
  pub remote_exception : number_of classes (codes "java/rmi/RemoteException") ≡ Some named.remote_exception
  pub no_such_object : number_of classes (codes "java/rmi/NoSuchObjectException") ≡ Some named.no_such_object
  pub unmarshal : number_of classes (codes "java/rmi/UnmarshalException") ≡ Some named.unmarshal
  pub marshal : number_of classes (codes "java/rmi/MarshalException") ≡ Some named.marshal
  pub connect : number_of classes (codes "java/rmi/ConnectException") ≡ Some named.connect
  pub server_error : number_of classes (codes "java/rmi/ServerError") ≡ Some named.server_error
  pub server_exception : number_of classes (codes "java/rmi/ServerException") ≡ Some named.server_exception
  pub not_bound : number_of classes (codes "java/rmi/NotBoundException") ≡ Some named.not_bound

abbrev pub number_in : NamedClasses → RemoteException → ClassId
number_in named exception.NoSuchObject = named.no_such_object
number_in named exception.Unmarshal = named.unmarshal
number_in named exception.Marshal = named.marshal
number_in named exception.Connect = named.connect
number_in named exception.ServerError = named.server_error
number_in named exception.NotBound = named.not_bound

-- the class by which a caller is told that an object of a class was thrown
abbrev pub told_in : List Class → NamedClasses → ClassId → ClassId
told_in classes named class =
    if is_subtype classes class named.error then named.server_error
    else (if is_subtype classes class named.remote_exception then named.server_exception else class)
