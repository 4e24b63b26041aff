use Rattle.vm_act.specs.declared.ending.Thrown.TheVariants as thrown
use Rattle.vm_step.proofs.Throws.{are_thrown, thrown_stands, marshal_stands}
use Rattle.vm_step.proofs.thrown.ThrownClasses.of.Goals as goal

pub class_named-requires : goal.class_named-requires
class_named-requires c = rw c.set-set.ensures (thrown_stands c.args.linked.now thrown.ArithmeticException c.len-methods.ensures.links)

pub class_named-requires-2 : goal.class_named-requires-2
class_named-requires-2 c = rw c.set-set.ensures (thrown_stands c.args.linked.now thrown.NullPointerException c.len-methods.ensures.links)

pub class_named-requires-3 : goal.class_named-requires-3
class_named-requires-3 c = rw c.set-set.ensures (thrown_stands c.args.linked.now thrown.ClassCastException c.len-methods.ensures.links)

pub class_named-requires-4 : goal.class_named-requires-4
class_named-requires-4 c = rw c.set-set.ensures (thrown_stands c.args.linked.now thrown.NegativeArraySizeException c.len-methods.ensures.links)

pub class_named-requires-5 : goal.class_named-requires-5
class_named-requires-5 c = rw c.set-set.ensures (thrown_stands c.args.linked.now thrown.ArrayIndexOutOfBoundsException c.len-methods.ensures.links)

pub class_named-requires-6 : goal.class_named-requires-6
class_named-requires-6 c = rw c.set-set.ensures (thrown_stands c.args.linked.now thrown.OutOfMemoryError c.len-methods.ensures.links)

pub class_named-requires-7 : goal.class_named-requires-7
class_named-requires-7 c = rw c.set-set.ensures (thrown_stands c.args.linked.now thrown.StackOverflowError c.len-methods.ensures.links)

pub class_named-requires-8 : goal.class_named-requires-8
class_named-requires-8 c = rw c.set-set.ensures (thrown_stands c.args.linked.now thrown.AbstractMethodError c.len-methods.ensures.links)

pub class_named-requires-9 : goal.class_named-requires-9
class_named-requires-9 c = rw c.set-set.ensures (thrown_stands c.args.linked.now thrown.IllegalAccessError c.len-methods.ensures.links)

pub class_named-requires-10 : goal.class_named-requires-10
class_named-requires-10 c = rw c.set-set.ensures (thrown_stands c.args.linked.now thrown.IncompatibleClassChangeError c.len-methods.ensures.links)

pub class_named-requires-11 : goal.class_named-requires-11
class_named-requires-11 c = rw c.set-set.ensures (marshal_stands c.args.linked.now c.len-methods.ensures.links)

pub returns : goal.returns
returns c = are_thrown c.args.linked.now.classes _
    (rw (← c.set-set.ensures) c.class_named.ensures)
    (rw (← c.set-set.ensures) c.class_named-2.ensures)
    (rw (← c.set-set.ensures) c.class_named-3.ensures)
    (rw (← c.set-set.ensures) c.class_named-4.ensures)
    (rw (← c.set-set.ensures) c.class_named-5.ensures)
    (rw (← c.set-set.ensures) c.class_named-6.ensures)
    (rw (← c.set-set.ensures) c.class_named-7.ensures)
    (rw (← c.set-set.ensures) c.class_named-8.ensures)
    (rw (← c.set-set.ensures) c.class_named-9.ensures)
    (rw (← c.set-set.ensures) c.class_named-10.ensures)
    (rw (← c.set-set.ensures) c.class_named-11.ensures)
