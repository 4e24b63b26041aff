-- The classes of what spaces throw and answer, as the rules of spaces name them (Java RMI specification, appendix A).
use Rattle.space_ids.specs.declared.ids.ClassId.{ClassId}
use Rattle.sp_rules.specs.Classes.{Classes}
use Rattle.sp_requests.specs.declared.call_classes.RemoteException.{RemoteException}
use Rattle.sp_requests.specs.declared.call_classes.RemoteException.TheVariants as exception

abbrev pub thrown_class : Classes → RemoteException → ClassId
thrown_class classes exception.NoSuchObject = classes.no_such_object
thrown_class classes exception.Unmarshal = classes.unmarshal
thrown_class classes exception.Marshal = classes.marshal
thrown_class classes exception.Connect = classes.connect
thrown_class classes exception.ServerError = classes.server_error
thrown_class classes exception.NotBound = classes.not_bound
