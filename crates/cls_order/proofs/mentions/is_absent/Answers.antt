use Rattle.cls_order.specs.Entries.{classes_of}
use Rattle.cls_order.proofs.Absent.{absent_type}
use Rattle.cls_order.proofs.mentions.is_absent.Goals as goal

pub returns-in-Class : goal.returns-in-Class
returns-in-Class c =
    absent_type (classes_of c.args.entries.now) c.args.kind.now c.in-Class.name c.as_bytes.result.now c.find.result c.is_none.result c.in-Class.is c.as_bytes.ensures c.find.ensures.number c.find.ensures.named c.is_none.ensures
