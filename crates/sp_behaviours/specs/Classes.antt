-- What the rules of spaces ask of a linked class set: its remote classes, the methods that may be called and what they run, and the classes
-- of what calls throw (Java RMI specification, 2.4 and appendix A).
use Rattle.std.specs.Prelude.{ℕ, Bool, false, List, codes, unwrap_or}
use Rattle.std.specs.Option.{option_map_or}
use Rattle.cls_link.specs.Links.{Links}
use Rattle.cls_set.specs.Classes.{number_of}
use Rattle.cls_set.specs.declared.class.Class.{Class}
use Rattle.space_ids.specs.declared.ids.ClassId.{ClassId}
use Rattle.sp_behaviours.specs.Behaviours.{behaviour}
use Rattle.sp_rules.specs.Classes as rules
use Rattle.vm_code.specs.Classes.{is_subtype}
use Rattle.sp_behaviours.specs.Fields.{fields_of}
use Rattle.sp_behaviours.specs.Kinds.{parameters_of, result_of}
use Rattle.sp_behaviours.specs.Remote.{has_instances, may_call, selected_by}
use Rattle.sp_behaviours.specs.Starts.{start_refusal_in}

-- the class of this name; those that the rules name are built in, so that they stand in every set
abbrev pub class_named : List Class → List ℕ → ClassId
class_named classes name = unwrap_or (number_of classes name) (record { 0 = 0 })

-- whether a class is the one of this name or a subclass of it
abbrev pub is_below : List Class → List ℕ → ClassId → Bool
is_below classes name class = option_map_or (λ named. is_subtype classes class named) (number_of classes name) false

abbrev pub classes_of : Links → rules.Classes
classes_of links = record {
  is_remote = has_instances links.classes;
  may_call = may_call links.classes;
  parameters = parameters_of links.classes;
  result = result_of links.classes;
  selected = selected_by links.classes;
  start_refusal = start_refusal_in links;
  behaviour = behaviour links;
  fields = fields_of links.classes;
  is_throwable = is_below links.classes (codes "java/lang/Throwable");
  is_error = is_below links.classes (codes "java/lang/Error");
  is_remote_exception = is_below links.classes (codes "java/rmi/RemoteException");
  out_of_memory = class_named links.classes (codes "java/lang/OutOfMemoryError");
  no_such_object = class_named links.classes (codes "java/rmi/NoSuchObjectException");
  unmarshal = class_named links.classes (codes "java/rmi/UnmarshalException");
  marshal = class_named links.classes (codes "java/rmi/MarshalException");
  connect = class_named links.classes (codes "java/rmi/ConnectException");
  server_error = class_named links.classes (codes "java/rmi/ServerError");
  server_exception = class_named links.classes (codes "java/rmi/ServerException");
  not_bound = class_named links.classes (codes "java/rmi/NotBoundException");
}
