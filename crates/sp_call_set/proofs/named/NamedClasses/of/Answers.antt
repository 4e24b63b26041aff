use Rattle.sp_call_set.proofs.Standing as standing
use Rattle.sp_call_set.proofs.named.NamedClasses.of.Goals as goal

pub class_named-requires : goal.class_named-requires
class_named-requires c = rw c.set-set.ensures (standing.remote_stands c.args.linked.now c.len-methods.ensures.links)

pub class_named-requires-2 : goal.class_named-requires-2
class_named-requires-2 c = rw c.set-set.ensures (standing.throwable_stands c.args.linked.now c.len-methods.ensures.links)

pub class_named-requires-3 : goal.class_named-requires-3
class_named-requires-3 c = rw c.set-set.ensures (standing.error_stands c.args.linked.now c.len-methods.ensures.links)

pub class_named-requires-4 : goal.class_named-requires-4
class_named-requires-4 c = rw c.set-set.ensures (standing.remote_exception_stands c.args.linked.now c.len-methods.ensures.links)

pub class_named-requires-5 : goal.class_named-requires-5
class_named-requires-5 c = rw c.set-set.ensures (standing.no_such_object_stands c.args.linked.now c.len-methods.ensures.links)

pub class_named-requires-6 : goal.class_named-requires-6
class_named-requires-6 c = rw c.set-set.ensures (standing.unmarshal_stands c.args.linked.now c.len-methods.ensures.links)

pub class_named-requires-7 : goal.class_named-requires-7
class_named-requires-7 c = rw c.set-set.ensures (standing.marshal_stands c.args.linked.now c.len-methods.ensures.links)

pub class_named-requires-8 : goal.class_named-requires-8
class_named-requires-8 c = rw c.set-set.ensures (standing.connect_stands c.args.linked.now c.len-methods.ensures.links)

pub class_named-requires-9 : goal.class_named-requires-9
class_named-requires-9 c = rw c.set-set.ensures (standing.server_error_stands c.args.linked.now c.len-methods.ensures.links)

pub class_named-requires-10 : goal.class_named-requires-10
class_named-requires-10 c = rw c.set-set.ensures (standing.server_exception_stands c.args.linked.now c.len-methods.ensures.links)

pub class_named-requires-11 : goal.class_named-requires-11
class_named-requires-11 c = rw c.set-set.ensures (standing.not_bound_stands c.args.linked.now c.len-methods.ensures.links)

pub returns : goal.returns
returns c = standing.are_named c.args.linked.now.classes _
    (rw (← c.set-set.ensures) c.class_named.ensures)
    (rw (← c.set-set.ensures) c.class_named-2.ensures)
    (rw (← c.set-set.ensures) c.class_named-3.ensures)
    (rw (← c.set-set.ensures) c.class_named-4.ensures)
    (rw (← c.set-set.ensures) c.class_named-5.ensures)
    (rw (← c.set-set.ensures) c.class_named-6.ensures)
    (rw (← c.set-set.ensures) c.class_named-7.ensures)
    (rw (← c.set-set.ensures) c.class_named-8.ensures)
    (rw (← c.set-set.ensures) c.class_named-9.ensures)
    (rw (← c.set-set.ensures) c.class_named-10.ensures)
    (rw (← c.set-set.ensures) c.class_named-11.ensures)
