-- What a line has to satisfy besides the spelling of its parts.
use Rattle.std.specs.Prelude.{◌≡◌, ◌≢◌, ℕ, ℤ, ◌^◌, pos, ◌+ℤ◌, ◌*ℤ◌, ◌<◌, ◌≤◌, true, false, List, [], ◌∷◌, Option, Some, None, length, take, codes}
use Rattle.std.specs.Str.{bytes_eq}
use Rattle.ms_lex.specs.Kinds.{is_word}
use Rattle.ms_ir.specs.declared.names.Ty.{Ty}
use Rattle.ms_ir.specs.declared.names.Ty.TheVariants.{I1, Ptr}
use Rattle.ms_ir.specs.declared.names.Name.{Name}
use Rattle.ms_ir.specs.declared.names.Name.TheVariants as name
use Rattle.ms_ir.specs.declared.names.Param.{Param}
use Rattle.ms_ir.specs.declared.inst.Op.{Op}
use Rattle.ms_ir.specs.declared.inst.Op.TheVariants.{Add, Sub, Mul, And, Or, Xor, Shl, Lshr, Ashr}
use Rattle.ms_ir.specs.declared.inst.CastOp.{CastOp}
use Rattle.ms_ir.specs.declared.inst.CastOp.TheVariants.{Zext, Sext, Trunc}
use Rattle.ms_ir.specs.declared.inst.Flags.{Flags}
use Rattle.ms_grammar.specs.Numbers.{bits}
use Rattle.ms_grammar.specs.Kept.{Each, IsStored, IndexItem, constant, term}
use Rattle.ms_grammar.specs.Form.{Scale, name_text}
use Rattle.ms_grammar.specs.declared.line.RawVal.{RawVal}
use Rattle.ms_grammar.specs.declared.line.RawVal.TheVariants.{Num, Local, Global}
use Rattle.ms_grammar.specs.declared.line.RawArg.{RawArg}
use Rattle.ms_grammar.specs.declared.line.RawEntry.{RawEntry}
use Rattle.ms_grammar.specs.declared.line.RawIndex.{RawIndex}
use Rattle.ms_grammar.specs.declared.line.Head.{Head}
use Rattle.ms_grammar.specs.declared.line.RawInst.{RawInst}
use Rattle.ms_grammar.specs.declared.line.RawInst.TheVariants.{Alloca, Gep, Step, Load, Store, Copy, Call, Bin, Cmp, Select, Cast, Phi}
use Rattle.ms_grammar.specs.declared.line.RawTerm.{RawTerm}
use Rattle.ms_grammar.specs.declared.line.RawTerm.TheVariants.{Br, CondBr, Ret, Unreachable}
use Rattle.ms_grammar.specs.declared.line.Line.{Line}
use Rattle.ms_grammar.specs.declared.line.Line.TheVariants as line

-- a word, or a number of at most nine digits
abbrev pub IsNamed : Name → Type 0
IsNamed (name.Word text) = is_word text ≡ true
IsNamed (name.Number n) = n < 10 ^ 9
IsNamed name.Absent = ⊥

abbrev pub IsWordName : Name → Type 0
IsWordName (name.Word text) = is_word text ≡ true
IsWordName (name.Number _) = ⊥
IsWordName name.Absent = ⊥

-- a name, or none
abbrev pub MayBeNamed : Name → Type 0
MayBeNamed (name.Word text) = is_word text ≡ true
MayBeNamed (name.Number n) = n < 10 ^ 9
MayBeNamed name.Absent = Unit {0}

-- a type of numbers
abbrev pub IsInt : Ty → Type 0
IsInt ty = 0 < bits ty

-- a value of a type: a number, which its part spells; a local; and for a pointer a global
abbrev pub IsValue : Ty → RawVal → Type 0
IsValue ty (Num own n) = (own ≡ ty) × IsInt ty
IsValue ty (Local n) = IsNamed n
IsValue ty (Global n) = (ty ≡ Ptr) × IsWordName n

abbrev pub IsArg : RawArg → Type 0
IsArg a = IsValue a.ty a.val

abbrev pub IsParam : Param → Type 0
IsParam p = MayBeNamed p.name

abbrev pub IsEntryOf : Ty → RawEntry → Type 0
IsEntryOf ty e = IsValue ty e.val × IsNamed e.from

-- what the flags may be, each operation having its own
abbrev pub only_wraps : Flags → Flags
only_wraps f = record { nsw = f.nsw; nuw = f.nuw; exact = false; disjoint = false; nneg = false; samesign = false }

abbrev pub no_flags : Flags
no_flags = record { nsw = false; nuw = false; exact = false; disjoint = false; nneg = false; samesign = false }

abbrev pub flags_of_op : Op → Flags → Flags
flags_of_op Add f = only_wraps f
flags_of_op Sub f = only_wraps f
flags_of_op Mul f = only_wraps f
flags_of_op Shl f = only_wraps f
flags_of_op Lshr f = record no_flags { exact = f.exact }
flags_of_op Ashr f = record no_flags { exact = f.exact }
flags_of_op Or f = record no_flags { disjoint = f.disjoint }
flags_of_op And f = no_flags
flags_of_op Xor f = no_flags

abbrev pub flags_of_cast : CastOp → Flags → Flags
flags_of_cast Zext f = record no_flags { nneg = f.nneg }
flags_of_cast Sext f = no_flags
flags_of_cast Trunc f = only_wraps f

-- a conversion to a wider type, or to a narrower one
abbrev pub Converts : CastOp → Ty → Ty → Type 0
Converts Zext from to = bits from < bits to
Converts Sext from to = bits from < bits to
Converts Trunc from to = bits to < bits from

-- the sum of each index times the bytes of its level
abbrev pub offset_of : List ℕ → List ℤ → ℤ
offset_of [] _ = pos 0
offset_of (_ ∷ _) [] = pos 0
offset_of (size ∷ sizes) (index ∷ indices) = (index *ℤ pos size) +ℤ offset_of sizes indices

-- the same where some indices are locals, which add nothing to it
abbrev pub offset_of_items : List ℕ → List IndexItem → ℤ
offset_of_items [] items = pos 0
offset_of_items (size ∷ sizes) [] = pos 0
offset_of_items (size ∷ sizes) (constant index ∷ items) = (index *ℤ pos size) +ℤ offset_of_items sizes items
offset_of_items (size ∷ sizes) (term ty ∷ items) = offset_of_items sizes items

-- a local of this type that counts by so many bytes
abbrev pub IsLocal : RawVal → Type 0
IsLocal (Num ty n) = ⊥
IsLocal (Local n) = IsNamed n
IsLocal (Global n) = ⊥

abbrev pub IsTermOf : Ty → ℕ → RawIndex → Type 0
IsTermOf ty size t = (t.ty ≡ ty) × (t.scale ≡ size) × IsLocal t.val

-- the locals among indices, each with the bytes of its level
abbrev pub AreTerms : List ℕ → List IndexItem → List RawIndex → Type 0
AreTerms sizes [] terms = terms ≡ []
AreTerms [] (item ∷ items) terms = ⊥
AreTerms (size ∷ sizes) (constant index ∷ items) terms = AreTerms sizes items terms
AreTerms (size ∷ sizes) (term ty ∷ items) [] = ⊥
AreTerms (size ∷ sizes) (term ty ∷ items) (t ∷ terms) = IsTermOf ty size t × AreTerms sizes items terms

-- a word that names no function of the language itself
abbrev pub IsOwnName : Name → Type 0
IsOwnName n = IsWordName n × (bytes_eq (take 5 (name_text n)) (codes "llvm.") ≡ false)

abbrev pub IsResult : Option Ty → Type 0
IsResult None = Unit {0}
IsResult (Some ty) = IsInt ty

abbrev pub FitsInst : Scale → RawInst → Type 0
FitsInst scale (Alloca size head rest) = Unit {0}
FitsInst scale (Gep base offset head index rest) =
    IsValue Ptr base × (length scale.indices ≤ length scale.sizes) × (offset ≡ offset_of scale.sizes scale.indices)
FitsInst scale (Step base offset terms head index rest) =
    IsValue Ptr base × (terms ≢ []) × AreTerms scale.sizes scale.items terms × (offset ≡ offset_of_items scale.sizes scale.items)
FitsInst scale (Load ty ptr rest) = IsStored ty × IsValue Ptr ptr
FitsInst scale (Store ty val ptr rest) = IsStored ty × IsValue ty val × IsValue Ptr ptr
FitsInst scale (Copy to from len head behind rest) = (to.ty ≡ Ptr) × (from.ty ≡ Ptr) × IsArg to × IsArg from
FitsInst scale (Call callee ret args head behind rest) = IsOwnName callee × IsResult ret × Each IsArg args
FitsInst scale (Bin op flags ty a b rest) = (flags ≡ flags_of_op op flags) × IsInt ty × IsValue ty a × IsValue ty b
FitsInst scale (Cmp pred flags ty a b rest) =
    (flags ≡ record no_flags { samesign = flags.samesign }) × IsInt ty × IsValue ty a × IsValue ty b
FitsInst scale (Select cond ty a b rest) = IsValue I1 cond × IsValue ty a × IsValue ty b
FitsInst scale (Cast op flags from a to rest) =
    (flags ≡ flags_of_cast op flags) × IsInt from × IsInt to × Converts op from to × IsValue from a
FitsInst scale (Phi ty entries rest) = (entries ≢ []) × Each (IsEntryOf ty) entries

-- whether an instruction makes a local: some always, some never, and a call's may be left unnamed
abbrev pub IsMade : Name → RawInst → Type 0
IsMade n (Store _ _ _ _) = n ≡ name.Absent
IsMade n (Copy _ _ _ _ _ _) = n ≡ name.Absent
IsMade n (Call _ None _ _ _ _) = n ≡ name.Absent
IsMade n (Call _ (Some _) _ _ _ _) = MayBeNamed n
IsMade n (Alloca _ _ _) = IsNamed n
IsMade n (Gep _ _ _ _ _) = IsNamed n
IsMade n (Step _ _ _ _ _ _) = IsNamed n
IsMade n (Load _ _ _) = IsNamed n
IsMade n (Bin _ _ _ _ _ _) = IsNamed n
IsMade n (Cmp _ _ _ _ _ _) = IsNamed n
IsMade n (Select _ _ _ _ _) = IsNamed n
IsMade n (Cast _ _ _ _ _ _) = IsNamed n
IsMade n (Phi _ _ _) = IsNamed n

abbrev pub FitsTerm : RawTerm → Type 0
FitsTerm (Br target rest) = IsNamed target
FitsTerm (CondBr cond if_true if_false rest) = IsValue I1 cond × IsNamed if_true × IsNamed if_false
FitsTerm (Ret None rest) = Unit {0}
FitsTerm (Ret (Some given) rest) = IsInt given.0 × IsValue given.0 given.1
FitsTerm (Unreachable rest) = Unit {0}

abbrev pub FitsHead : Head → Type 0
FitsHead h = (is_word h.name ≡ true) × Each IsParam h.params

abbrev pub FitsLine : Scale → Line → Type 0
FitsLine scale line.Empty = Unit {0}
FitsLine scale line.Close = Unit {0}
FitsLine scale (line.Kept text) = Unit {0}
FitsLine scale (line.Group n text) = Unit {0}
FitsLine scale (line.GlobalVar name text) = is_word name ≡ true
FitsLine scale (line.Label n) = IsNamed n
FitsLine scale (line.Declare head) = FitsHead head
FitsLine scale (line.Define head) = FitsHead head × IsResult head.ret × (head.variadic ≡ false)
FitsLine scale (line.Inst n inst) = IsMade n inst × FitsInst scale inst
FitsLine scale (line.Term t) = FitsTerm t
