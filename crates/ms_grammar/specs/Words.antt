-- The words and marks that stand in lines as they are. Proofs see each as a whole.
use Rattle.std.specs.Prelude.{ℕ, List, codes}
use Rattle.ms_ir.specs.declared.names.Ty.{Ty}
use Rattle.ms_ir.specs.declared.names.Ty.TheVariants.{I1, I8, I16, I32, I64, Ptr}
use Rattle.ms_ir.specs.declared.inst.Op.{Op}
use Rattle.ms_ir.specs.declared.inst.Op.TheVariants.{Add, Sub, Mul, And, Or, Xor, Shl, Lshr, Ashr}
use Rattle.ms_ir.specs.declared.inst.Pred.{Pred}
use Rattle.ms_ir.specs.declared.inst.Pred.TheVariants.{Eq, Ne, Ugt, Uge, Ult, Ule, Sgt, Sge, Slt, Sle}
use Rattle.ms_ir.specs.declared.inst.CastOp.{CastOp}
use Rattle.ms_ir.specs.declared.inst.CastOp.TheVariants.{Zext, Sext, Trunc}
use Rattle.ms_grammar.specs.declared.keyword.Keyword.{Keyword}
use Rattle.ms_grammar.specs.declared.keyword.Keyword.TheVariants.{Alloca, Getelementptr, Load, Store, Call, Tail, NoTail, Memcpy, Icmp, Select, Phi, To, Br, Ret, Unreachable, Label, Declare, Define, Attributes, Global, Constant, SourceFilename, Target, TypeOf, Comdat, Align, Void, True, False, Nuw, Nsw, Exact, Disjoint, Nneg, Samesign, Times, Dots, Equals, Comma, Colon, Open, Close, OpenSquare, CloseSquare, OpenBrace, CloseBrace}

-- a word or mark as it stands in a line
unfoldable pub spelling : Keyword → List ℕ
spelling Alloca = codes "alloca"
spelling Getelementptr = codes "getelementptr"
spelling Load = codes "load"
spelling Store = codes "store"
spelling Call = codes "call"
spelling Tail = codes "tail"
spelling NoTail = codes "notail"
spelling Memcpy = codes "@llvm.memcpy.p0.p0.i64"
spelling Icmp = codes "icmp"
spelling Select = codes "select"
spelling Phi = codes "phi"
spelling To = codes "to"
spelling Br = codes "br"
spelling Ret = codes "ret"
spelling Unreachable = codes "unreachable"
spelling Label = codes "label"
spelling Declare = codes "declare"
spelling Define = codes "define"
spelling Attributes = codes "attributes"
spelling Global = codes "global"
spelling Constant = codes "constant"
spelling SourceFilename = codes "source_filename"
spelling Target = codes "target"
spelling TypeOf = codes "type"
spelling Comdat = codes "comdat"
spelling Align = codes "align"
spelling Void = codes "void"
spelling True = codes "true"
spelling False = codes "false"
spelling Nuw = codes "nuw"
spelling Nsw = codes "nsw"
spelling Exact = codes "exact"
spelling Disjoint = codes "disjoint"
spelling Nneg = codes "nneg"
spelling Samesign = codes "samesign"
spelling Times = codes "x"
spelling Dots = codes "..."
spelling Equals = codes "="
spelling Comma = codes ","
spelling Colon = codes ":"
spelling Open = codes "("
spelling Close = codes ")"
spelling OpenSquare = codes "["
spelling CloseSquare = codes "]"
spelling OpenBrace = codes "{"
spelling CloseBrace = codes "}"

-- a type
unfoldable pub type_word : Ty → List ℕ
type_word I1 = codes "i1"
type_word I8 = codes "i8"
type_word I16 = codes "i16"
type_word I32 = codes "i32"
type_word I64 = codes "i64"
type_word Ptr = codes "ptr"

-- an operation on two numbers
unfoldable pub op_word : Op → List ℕ
op_word Add = codes "add"
op_word Sub = codes "sub"
op_word Mul = codes "mul"
op_word And = codes "and"
op_word Or = codes "or"
op_word Xor = codes "xor"
op_word Shl = codes "shl"
op_word Lshr = codes "lshr"
op_word Ashr = codes "ashr"

-- a predicate of a comparison
unfoldable pub predicate_word : Pred → List ℕ
predicate_word Eq = codes "eq"
predicate_word Ne = codes "ne"
predicate_word Ugt = codes "ugt"
predicate_word Uge = codes "uge"
predicate_word Ult = codes "ult"
predicate_word Ule = codes "ule"
predicate_word Sgt = codes "sgt"
predicate_word Sge = codes "sge"
predicate_word Slt = codes "slt"
predicate_word Sle = codes "sle"

-- a cast
unfoldable pub cast_word : CastOp → List ℕ
cast_word Zext = codes "zext"
cast_word Sext = codes "sext"
cast_word Trunc = codes "trunc"
