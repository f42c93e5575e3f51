-- The line of each thing in a function: what it names is written under the names that are shown.
use Rattle.std.specs.Prelude.{ℕ, List, [], false, Option, Some, None, map, slice_get, slice_index_or}
use Rattle.ms_ir.specs.declared.names.Name.{Name}
use Rattle.ms_ir.specs.declared.names.Name.TheVariants.{Word, Absent}
use Rattle.ms_ir.specs.declared.names.LocalNo.{LocalNo}
use Rattle.ms_ir.specs.declared.names.Param.{Param}
use Rattle.ms_ir.specs.declared.names.Ty.{Ty}
use Rattle.ms_ir.specs.declared.inst.Val.{Val}
use Rattle.ms_ir.specs.declared.inst.Val.TheVariants.{Num, Local, Global}
use Rattle.ms_ir.specs.declared.inst.Arg.{Arg}
use Rattle.ms_ir.specs.declared.inst.Entry.{Entry}
use Rattle.ms_ir.specs.declared.inst.IndexTerm.{IndexTerm}
use Rattle.ms_ir.specs.declared.inst.Inst.{Inst}
use Rattle.ms_ir.specs.declared.inst.Inst.TheVariants.{Alloca, Gep, Step, Load, Store, Copy, Call, Bin, Cmp, Select, Cast, Phi}
use Rattle.ms_ir.specs.declared.inst.Term.{Term}
use Rattle.ms_ir.specs.declared.inst.Term.TheVariants.{Br, CondBr, Ret, Unreachable}
use Rattle.ms_ir.specs.Symbols.{NamesState}
use Rattle.ms_ir.specs.Func.{Placed, FuncState}
use Rattle.ms_grammar.specs.declared.line.RawVal.{RawVal}
use Rattle.ms_grammar.specs.declared.line.RawVal.TheVariants as val
use Rattle.ms_grammar.specs.declared.line.RawArg.{RawArg}
use Rattle.ms_grammar.specs.declared.line.RawEntry.{RawEntry}
use Rattle.ms_grammar.specs.declared.line.RawIndex.{RawIndex}
use Rattle.ms_grammar.specs.declared.line.RawInst.{RawInst}
use Rattle.ms_grammar.specs.declared.line.RawInst.TheVariants as raw
use Rattle.ms_grammar.specs.declared.line.RawTerm.{RawTerm}
use Rattle.ms_grammar.specs.declared.line.RawTerm.TheVariants as end
use Rattle.ms_grammar.specs.declared.line.Line.{Line}
use Rattle.ms_grammar.specs.declared.line.Line.TheVariants as line
use Rattle.ms_print.specs.declared.numbering.Tables.{Tables}
use Rattle.ms_print.specs.Numbering.{shown_params, local_name, labels_of}

-- the names that are shown: of each local, of the blocks, and of the module's functions and globals
pub record Shown : Type 0 where
  pub locals : ℕ → Name
  pub labels : List Name
  pub module_names : NamesState

abbrev pub shown_in : NamesState → FuncState → Shown
shown_in names f = record { locals = local_name f; labels = labels_of f; module_names = names }

abbrev pub local_by : Tables → ℕ → Name
local_by t l = slice_index_or t.locals.items l Absent

-- the same, with the names of locals and blocks in tables
abbrev pub shown_by : NamesState → Tables → Shown
shown_by names t = record { locals = local_by t; labels = t.labels.items; module_names = names }

-- the name of a block
abbrev pub label_of : List Name → ℕ → Name
label_of labels b = slice_index_or labels b Absent

abbrev pub text_in : Option (List ℕ) → List ℕ
text_in None = []
text_in (Some text) = text

-- the name of a function or global
abbrev pub word_at : List (List ℕ) → ℕ → Name
word_at words n = Word (text_in (slice_get words n))

abbrev pub raw_val : Shown → Val → RawVal
raw_val s (Num ty n) = val.Num ty n
raw_val s (Local l) = val.Local (s.locals l.0)
raw_val s (Global g) = val.Global (word_at s.module_names.globals g.0)

abbrev pub raw_arg : Shown → Arg → RawArg
raw_arg s a = record { ty = a.ty; val = raw_val s a.val; text = a.text }

abbrev pub raw_entry : Shown → Entry → RawEntry
raw_entry s e = record { val = raw_val s e.val; from = label_of s.labels e.from.0 }

abbrev pub raw_index : Shown → IndexTerm → RawIndex
raw_index s t = record { val = raw_val s t.val; ty = t.ty; scale = t.scale }

-- What stands behind a call's arguments is all in its tail.
abbrev pub raw_inst : Shown → Inst → RawInst
raw_inst s (Alloca size head tail) = raw.Alloca size head tail
raw_inst s (Gep base offset head index tail) = raw.Gep (raw_val s base) offset head index tail
raw_inst s (Step base offset terms head index tail) = raw.Step (raw_val s base) offset (map (raw_index s) terms) head index tail
raw_inst s (Load ty ptr tail) = raw.Load ty (raw_val s ptr) tail
raw_inst s (Store ty val ptr tail) = raw.Store ty (raw_val s val) (raw_val s ptr) tail
raw_inst s (Copy to from len head tail) = raw.Copy (raw_arg s to) (raw_arg s from) len head [] tail
raw_inst s (Call callee ret args effects head tail) =
    raw.Call (word_at s.module_names.funcs callee.0) ret (map (raw_arg s) args) head [] tail
raw_inst s (Bin op flags ty a b tail) = raw.Bin op flags ty (raw_val s a) (raw_val s b) tail
raw_inst s (Cmp pred flags ty a b tail) = raw.Cmp pred flags ty (raw_val s a) (raw_val s b) tail
raw_inst s (Select cond ty a b tail) = raw.Select (raw_val s cond) ty (raw_val s a) (raw_val s b) tail
raw_inst s (Cast op flags from a to tail) = raw.Cast op flags from (raw_val s a) to tail
raw_inst s (Phi ty entries tail) = raw.Phi ty (map (raw_entry s) entries) tail

abbrev pub raw_given : Shown → Option (Ty × Val) → Option (Ty × RawVal)
raw_given s None = None
raw_given s (Some given) = Some (given.0, raw_val s given.1)

abbrev pub raw_term : Shown → Term → RawTerm
raw_term s (Br b tail) = end.Br (label_of s.labels b.0) tail
raw_term s (CondBr cond a b tail) = end.CondBr (raw_val s cond) (label_of s.labels a.0) (label_of s.labels b.0) tail
raw_term s (Ret given tail) = end.Ret (raw_given s given) tail
raw_term s (Unreachable tail) = end.Unreachable tail

-- the name of the local that an instruction gives, `Absent` where it gives none
abbrev pub result_name : (ℕ → Name) → Option LocalNo → Name
result_name locals None = Absent
result_name locals (Some l) = locals l.0

abbrev pub inst_line : Shown → Placed → Line
inst_line s x = line.Inst (result_name s.locals x.result) (raw_inst s x.inst)

abbrev pub term_line : Shown → Term → Line
term_line s t = line.Term (raw_term s t)

abbrev pub label_line : List Name → ℕ → Line
label_line labels b = line.Label (label_of labels b)

-- a function's first line, with these parameters
abbrev pub define_with : FuncState → List Param → Line
define_with f params =
    line.Define (record { attrs = f.head; ret = f.ret; name = f.name; params = params; variadic = false; post = f.tail })

-- a function's first line; each parameter has its name
abbrev pub define_line : FuncState → Line
define_line f = define_with f (shown_params 0 f.params)
