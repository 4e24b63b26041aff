-- The classes that stand in every set (a rule of this project).
use Rattle.std.specs.Prelude.{ℕ, Option, Some, None, List, [], ◌∷◌, ◌+◌, codes, map}
use Rattle.cf_reader.specs.declared.class_file.ClassFile.{ClassFile}
use Rattle.cf_reader.specs.declared.class_file.Method.{Method}
use Rattle.cf_reader.specs.declared.flags.TheConstants.Flags.{PUBLIC, INTERFACE, ABSTRACT}
use Rattle.cls_order.specs.declared.built_in.Kind.{Kind}
use Rattle.cls_order.specs.declared.built_in.Kind.TheVariants.{Concrete, Abstract, Interface}

-- Each of these classes is public and not final, and each but the interface java/rmi/Remote has a public <init>()V that returns at once,
-- and no other member.

pub record BuiltIn : Type 0 where
  pub name : List ℕ
  pub superclass : Option (List ℕ)
  pub kind : Kind

abbrev pub built_in : List ℕ → List ℕ → BuiltIn
built_in name superclass = record { name = name; superclass = Some superclass; kind = Concrete }

-- superclasses first
unfoldable pub built_ins : List BuiltIn
built_ins =
    record { name = codes "java/lang/Object"; superclass = None; kind = Concrete }
    ∷ built_in (codes "java/lang/Throwable") (codes "java/lang/Object")
    ∷ built_in (codes "java/lang/Exception") (codes "java/lang/Throwable")
    ∷ built_in (codes "java/lang/RuntimeException") (codes "java/lang/Exception")
    ∷ built_in (codes "java/lang/ArithmeticException") (codes "java/lang/RuntimeException")
    ∷ built_in (codes "java/lang/NullPointerException") (codes "java/lang/RuntimeException")
    ∷ built_in (codes "java/lang/ClassCastException") (codes "java/lang/RuntimeException")
    ∷ built_in (codes "java/lang/NegativeArraySizeException") (codes "java/lang/RuntimeException")
    ∷ built_in (codes "java/lang/IndexOutOfBoundsException") (codes "java/lang/RuntimeException")
    ∷ built_in (codes "java/lang/ArrayIndexOutOfBoundsException") (codes "java/lang/IndexOutOfBoundsException")
    ∷ built_in (codes "java/lang/Error") (codes "java/lang/Throwable")
    ∷ record { name = codes "java/lang/VirtualMachineError"; superclass = Some (codes "java/lang/Error"); kind = Abstract }
    ∷ built_in (codes "java/lang/StackOverflowError") (codes "java/lang/VirtualMachineError")
    ∷ built_in (codes "java/lang/OutOfMemoryError") (codes "java/lang/VirtualMachineError")
    ∷ built_in (codes "java/lang/LinkageError") (codes "java/lang/Error")
    ∷ built_in (codes "java/lang/IncompatibleClassChangeError") (codes "java/lang/LinkageError")
    ∷ built_in (codes "java/lang/AbstractMethodError") (codes "java/lang/IncompatibleClassChangeError")
    ∷ built_in (codes "java/lang/IllegalAccessError") (codes "java/lang/IncompatibleClassChangeError")
    ∷ built_in (codes "java/io/IOException") (codes "java/lang/Exception")
    ∷ record { name = codes "java/rmi/Remote"; superclass = Some (codes "java/lang/Object"); kind = Interface }
    ∷ built_in (codes "java/rmi/RemoteException") (codes "java/io/IOException")
    ∷ built_in (codes "java/rmi/ConnectException") (codes "java/rmi/RemoteException")
    ∷ built_in (codes "java/rmi/MarshalException") (codes "java/rmi/RemoteException")
    ∷ built_in (codes "java/rmi/UnmarshalException") (codes "java/rmi/RemoteException")
    ∷ built_in (codes "java/rmi/NoSuchObjectException") (codes "java/rmi/RemoteException")
    ∷ built_in (codes "java/rmi/ServerError") (codes "java/rmi/RemoteException")
    ∷ built_in (codes "java/rmi/ServerException") (codes "java/rmi/RemoteException")
    ∷ built_in (codes "java/rmi/NotBoundException") (codes "java/lang/Exception")
    ∷ built_in (codes "java/rmi/AlreadyBoundException") (codes "java/lang/Exception")
    ∷ []

-- the <init>()V of a built-in class: the one instruction `return`
abbrev pub built_in_init : Method
built_in_init =
    record {
      flags = record { bits = PUBLIC };
      name = codes "<init>";
      descriptor = codes "()V";
      types = record { parameters = []; result = None };
      code = Some (record { max_stack = 0; max_locals = 1; bytes = 0xb1 ∷ []; stack_map_table = None });
    }

abbrev pub built_in_flags : Kind → ℕ
built_in_flags Concrete = PUBLIC
built_in_flags Abstract = PUBLIC + ABSTRACT
built_in_flags Interface = PUBLIC + INTERFACE + ABSTRACT

abbrev pub built_in_methods : Kind → List Method
built_in_methods Concrete = built_in_init ∷ []
built_in_methods Abstract = built_in_init ∷ []
built_in_methods Interface = []

-- the class as a class file would say it
abbrev pub file_of : BuiltIn → ClassFile
file_of b =
    record {
      pool = [];
      flags = record { bits = built_in_flags b.kind };
      name = b.name;
      superclass = b.superclass;
      interfaces = [];
      fields = [];
      methods = built_in_methods b.kind;
    }

-- the classes that stand in every set
abbrev pub built_in_files : List ClassFile
built_in_files = map file_of built_ins
