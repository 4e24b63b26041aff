-- The classes that calls name stand in every set.
use Rattle.std.proofs.Common.{◌≡◌, Some, List, [], lit<}
use Rattle.std.specs.Prelude.{IsSome, codes}
use Rattle.cls_link.specs.Links.{Links, AreLinks}
use Rattle.cls_set.specs.BuiltIn.{built_ins, built_in}
use Rattle.cls_set.specs.Classes.{number_of}
use Rattle.cls_set.specs.declared.class.Class.{Class}
use Rattle.sp_call_set.specs.Named.{AreNamed}
use Rattle.sp_call_set.specs.declared.named.NamedClasses.{NamedClasses}

module _ (links : Links) (are : AreLinks links) where
  pub throwable_stands : IsSome (number_of links.classes (codes "java/lang/Throwable"))
  unfolding built_ins
  throwable_stands = are.set.built_in 1 (built_in [] []) (lit< tt)

  pub error_stands : IsSome (number_of links.classes (codes "java/lang/Error"))
  unfolding built_ins
  error_stands = are.set.built_in 10 (built_in [] []) (lit< tt)

  pub remote_stands : IsSome (number_of links.classes (codes "java/rmi/Remote"))
  unfolding built_ins
  remote_stands = are.set.built_in 19 (built_in [] []) (lit< tt)

  pub remote_exception_stands : IsSome (number_of links.classes (codes "java/rmi/RemoteException"))
  unfolding built_ins
  remote_exception_stands = are.set.built_in 20 (built_in [] []) (lit< tt)

  pub connect_stands : IsSome (number_of links.classes (codes "java/rmi/ConnectException"))
  unfolding built_ins
  connect_stands = are.set.built_in 21 (built_in [] []) (lit< tt)

  pub marshal_stands : IsSome (number_of links.classes (codes "java/rmi/MarshalException"))
  unfolding built_ins
  marshal_stands = are.set.built_in 22 (built_in [] []) (lit< tt)

  pub unmarshal_stands : IsSome (number_of links.classes (codes "java/rmi/UnmarshalException"))
  unfolding built_ins
  unmarshal_stands = are.set.built_in 23 (built_in [] []) (lit< tt)

  pub no_such_object_stands : IsSome (number_of links.classes (codes "java/rmi/NoSuchObjectException"))
  unfolding built_ins
  no_such_object_stands = are.set.built_in 24 (built_in [] []) (lit< tt)

  pub server_error_stands : IsSome (number_of links.classes (codes "java/rmi/ServerError"))
  unfolding built_ins
  server_error_stands = are.set.built_in 25 (built_in [] []) (lit< tt)

  pub server_exception_stands : IsSome (number_of links.classes (codes "java/rmi/ServerException"))
  unfolding built_ins
  server_exception_stands = are.set.built_in 26 (built_in [] []) (lit< tt)

  pub not_bound_stands : IsSome (number_of links.classes (codes "java/rmi/NotBoundException"))
  unfolding built_ins
  not_bound_stands = are.set.built_in 27 (built_in [] []) (lit< tt)

pub are_named : (classes : List Class) (n : NamedClasses) → number_of classes (codes "java/rmi/Remote") ≡ Some n.remote
    → number_of classes (codes "java/lang/Throwable") ≡ Some n.throwable
    → number_of classes (codes "java/lang/Error") ≡ Some n.error
    → number_of classes (codes "java/rmi/RemoteException") ≡ Some n.remote_exception
    → number_of classes (codes "java/rmi/NoSuchObjectException") ≡ Some n.no_such_object
    → number_of classes (codes "java/rmi/UnmarshalException") ≡ Some n.unmarshal
    → number_of classes (codes "java/rmi/MarshalException") ≡ Some n.marshal
    → number_of classes (codes "java/rmi/ConnectException") ≡ Some n.connect
    → number_of classes (codes "java/rmi/ServerError") ≡ Some n.server_error
    → number_of classes (codes "java/rmi/ServerException") ≡ Some n.server_exception
    → number_of classes (codes "java/rmi/NotBoundException") ≡ Some n.not_bound → AreNamed classes n
are_named classes n a b c d e f g h i j k =
    record {
      remote = a;
      throwable = b;
      error = c;
      remote_exception = d;
      no_such_object = e;
      unmarshal = f;
      marshal = g;
      connect = h;
      server_error = i;
      server_exception = j;
      not_bound = k;
    }
