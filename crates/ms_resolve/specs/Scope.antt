-- Lines under their names: each name becomes a number.
use Rattle.std.specs.Prelude.{◌+◌, ◌&&◌, ℕ, suc, Bool, true, false, List, [], ◌∷◌, ◌++◌, Option, Some, None, length, map, if◌then◌else◌, slice_get, slice_index_or, position}
use Rattle.std.specs.Str.{bytes_eq}
use Rattle.ms_ir.specs.declared.names.Name.{Name}
use Rattle.ms_ir.specs.declared.names.Name.TheVariants.{Absent}
use Rattle.ms_ir.specs.declared.names.Ty.{Ty}
use Rattle.ms_ir.specs.declared.names.Mark.{Mark}
use Rattle.ms_ir.specs.declared.names.Param.{Param}
use Rattle.ms_ir.specs.declared.names.BlockNo.{BlockNo}
use Rattle.ms_ir.specs.declared.inst.Val.{Val}
use Rattle.ms_ir.specs.declared.inst.Val.TheVariants as val
use Rattle.ms_ir.specs.declared.inst.Arg.{Arg}
use Rattle.ms_ir.specs.declared.inst.Entry.{Entry}
use Rattle.ms_ir.specs.declared.inst.IndexTerm.{IndexTerm}
use Rattle.ms_ir.specs.declared.inst.Effects.{Effects}
use Rattle.ms_ir.specs.declared.inst.Inst.{Inst}
use Rattle.ms_ir.specs.declared.inst.Inst.TheVariants as inst
use Rattle.ms_ir.specs.declared.inst.Term.{Term}
use Rattle.ms_ir.specs.declared.inst.Term.TheVariants as term
use Rattle.ms_ir.specs.declared.module.Sig.{Sig}
use Rattle.ms_ir.specs.Func.{Placed, Block, FuncState}
pub use Rattle.ms_ir.specs.Types.{is_pointer}
use Rattle.ms_attrs.specs.Effects.{both, IsEffectsOf}
use Rattle.ms_attrs.specs.Memory.{everything}
use Rattle.ms_attrs.specs.Captures.{IsKeepsOf}
use Rattle.ms_grammar.specs.Parts.{behind_blank}
use Rattle.ms_grammar.specs.Form.{name_text}
use Rattle.ms_grammar.specs.declared.line.Head.{Head}
use Rattle.ms_grammar.specs.declared.line.RawVal.{RawVal}
use Rattle.ms_grammar.specs.declared.line.RawVal.TheVariants as raw
use Rattle.ms_grammar.specs.declared.line.RawArg.{RawArg}
use Rattle.ms_grammar.specs.declared.line.RawEntry.{RawEntry}
use Rattle.ms_grammar.specs.declared.line.RawIndex.{RawIndex}
use Rattle.ms_grammar.specs.declared.line.RawInst.{RawInst}
use Rattle.ms_grammar.specs.declared.line.RawInst.TheVariants.{Alloca, Gep, Step, Load, Store, Copy, Call, Bin, Cmp, Select, Cast, Phi}
use Rattle.ms_grammar.specs.declared.line.RawTerm.{RawTerm}
use Rattle.ms_grammar.specs.declared.line.RawTerm.TheVariants.{Br, CondBr, Ret, Unreachable}
use Rattle.ms_names.specs.Shape.{InstLine, BlockLines, FuncLines}
use Rattle.ms_names.specs.Made.{makes, is_same_name}

-- what attributes mean: a function's or call's under the module's groups, and a parameter's or argument's
pub record Meaning (groups : List (ℕ × List ℕ)) : Type 0 where
  pub effects : List ℕ → Effects
  pub keeps : List ℕ → Bool
  pub effects_are : (post : List ℕ) → IsEffectsOf post groups (effects post)
  pub keeps_are : (attrs : List ℕ) → IsKeepsOf attrs (keeps attrs)

-- what a function's lines are read under: the names of its locals and blocks, those of the module's functions and globals, what the
-- functions' lines say, and what attributes mean
pub record Scope : Type 0 where
  pub locals : List Name
  pub blocks : List Name
  pub funcs : List (List ℕ)
  pub globals : List (List ℕ)
  pub sigs : List Sig
  pub effects : List ℕ → Effects
  pub keeps : List ℕ → Bool

-- the place of the first that passes a test; 0 where none does
abbrev pub or_first : Option ℕ → ℕ
or_first None = 0
or_first (Some k) = k

abbrev pub number_of_name : List Name → Name → ℕ
number_of_name names n = or_first (position (is_same_name n) names)

abbrev pub number_of_word : List (List ℕ) → List ℕ → ℕ
number_of_word words w = or_first (position (bytes_eq w) words)

abbrev pub value_of : Scope → RawVal → Val
value_of s (raw.Num ty n) = val.Num ty n
value_of s (raw.Local n) = val.Local (record { 0 = number_of_name s.locals n })
value_of s (raw.Global n) = val.Global (record { 0 = number_of_word s.globals (name_text n) })

abbrev pub block_of : Scope → Name → BlockNo
block_of s n = record { 0 = number_of_name s.blocks n }

-- an argument, where the callee's line leaves it open or not that a pointer there is kept
abbrev pub arg_of : Scope → Bool → RawArg → Arg
arg_of s lets a = record { ty = a.ty; val = value_of s a.val; keeps = is_pointer a.ty && (s.keeps a.text && lets); text = a.text }

abbrev pub keeps_at : List Mark → Bool
keeps_at [] = true
keeps_at (m ∷ ms) = m.keeps

abbrev pub behind_first : List Mark → List Mark
behind_first [] = []
behind_first (m ∷ ms) = ms

-- arguments under what the callee's line says of its parameters; it says nothing of further ones
abbrev pub args_of : Scope → List Mark → List RawArg → List Arg
args_of s marks [] = []
args_of s marks (a ∷ more) = arg_of s (keeps_at marks) a ∷ args_of s (behind_first marks) more

abbrev pub entry_of : Scope → RawEntry → Entry
entry_of s e = record { val = value_of s e.val; from = block_of s e.from }

abbrev pub index_of : Scope → RawIndex → IndexTerm
index_of s t = record { val = value_of s t.val; ty = t.ty; scale = t.scale }

abbrev pub marks_of : Option Sig → List Mark
marks_of None = []
marks_of (Some sig) = sig.params

abbrev pub effects_of_sig : Option Sig → Effects
effects_of_sig None = everything
effects_of_sig (Some sig) = sig.effects

abbrev pub sig_of : Scope → ℕ → Option Sig
sig_of s f = slice_get s.sigs f

-- an instruction; what is kept behind a call's arguments is all its tail, and a memcpy keeps neither pointer
abbrev pub inst_of : Scope → RawInst → Inst
inst_of s (Alloca size head rest) = inst.Alloca size head rest
inst_of s (Gep base offset head index rest) = inst.Gep (value_of s base) offset head index rest
inst_of s (Step base offset terms head index rest) = inst.Step (value_of s base) offset (map (index_of s) terms) head index rest
inst_of s (Load ty ptr rest) = inst.Load ty (value_of s ptr) rest
inst_of s (Store ty v ptr rest) = inst.Store ty (value_of s v) (value_of s ptr) rest
inst_of s (Copy to from len head behind rest) = inst.Copy (arg_of s false to) (arg_of s false from) len head (behind_blank behind ++ rest)
inst_of s (Call callee ret args head behind rest) =
    let f = number_of_word s.funcs (name_text callee) in
    inst.Call (record { 0 = f }) ret (args_of s (marks_of (sig_of s f)) args) (both (s.effects behind) (effects_of_sig (sig_of s f))) head (behind_blank behind ++ rest)
inst_of s (Bin op flags ty a b rest) = inst.Bin op flags ty (value_of s a) (value_of s b) rest
inst_of s (Cmp pred flags ty a b rest) = inst.Cmp pred flags ty (value_of s a) (value_of s b) rest
inst_of s (Select cond ty a b rest) = inst.Select (value_of s cond) ty (value_of s a) (value_of s b) rest
inst_of s (Cast op flags from a to rest) = inst.Cast op flags from (value_of s a) to rest
inst_of s (Phi ty entries rest) = inst.Phi ty (map (entry_of s) entries) rest

abbrev pub given_of : Scope → Option (Ty × RawVal) → Option (Ty × Val)
given_of s None = None
given_of s (Some given) = Some (given.0, value_of s given.1)

abbrev pub term_of : Scope → RawTerm → Term
term_of s (Br to rest) = term.Br (block_of s to) rest
term_of s (CondBr cond if_true if_false rest) = term.CondBr (value_of s cond) (block_of s if_true) (block_of s if_false) rest
term_of s (Ret given rest) = term.Ret (given_of s given) rest
term_of s (Unreachable rest) = term.Unreachable rest

-- an instruction with this number, where this is the next local
abbrev pub placed_at : Scope → ℕ → ℕ → InstLine → Placed
placed_at s n l x = record {
  number = n;
  result = (if makes x.inst then Some (record { 0 = l }) else None);
  name = (if makes x.inst then slice_index_or s.locals l Absent else Absent);
  inst = inst_of s x.inst;
}

abbrev pub local_behind : ℕ → InstLine → ℕ
local_behind l x = if makes x.inst then suc l else l

abbrev pub insts_from : Scope → ℕ → ℕ → List InstLine → List Placed
insts_from s n l [] = []
insts_from s n l (x ∷ xs) = placed_at s n l x ∷ insts_from s (suc n) (local_behind l x) xs

-- the next local behind instructions, and behind blocks
abbrev pub locals_behind : ℕ → List InstLine → ℕ
locals_behind l [] = l
locals_behind l (x ∷ xs) = locals_behind (local_behind l x) xs

abbrev pub blocks_from : Scope → ℕ → ℕ → ℕ → List BlockLines → List Block
blocks_from s b n l [] = []
blocks_from s b n l (x ∷ xs) =
    record { name = slice_index_or s.blocks b Absent; insts = insts_from s n l x.insts; term = term_of s x.end.term }
    ∷ blocks_from s (suc b) (n + length x.insts) (locals_behind l x.insts) xs

abbrev pub all_made : ℕ → List BlockLines → ℕ
all_made n [] = n
all_made n (x ∷ xs) = all_made (n + length x.insts) xs

abbrev pub all_locals : ℕ → List BlockLines → ℕ
all_locals l [] = l
all_locals l (x ∷ xs) = all_locals (locals_behind l x.insts) xs

-- parameters with the names that they get, where this is the first one's number
abbrev pub params_from : Scope → ℕ → List Param → List Param
params_from s l [] = []
params_from s l (p ∷ ps) = record p { name = slice_index_or s.locals l Absent } ∷ params_from s (suc l) ps

-- a function; how much room it has is left open
abbrev pub func_of : Scope → ℕ → FuncLines → FuncState
func_of s spare f = record {
  name = f.head.name;
  head = f.head.attrs;
  ret = f.head.ret;
  params = params_from s 0 f.head.params;
  tail = f.head.post;
  blocks = blocks_from s 0 0 (length f.head.params) f.blocks;
  made = all_made 0 f.blocks;
  locals = all_locals (length f.head.params) f.blocks;
  spare = spare;
}

-- what a function's line says of a parameter
abbrev pub mark_of : (List ℕ → Bool) → Param → Mark
mark_of keeps p = record { ty = p.ty; keeps = is_pointer p.ty && keeps p.text }

-- what a function's line says
abbrev pub sig_in : (List ℕ → Effects) → (List ℕ → Bool) → Head → Sig
sig_in effects keeps head = record { ret = head.ret; params = map (mark_of keeps) head.params; variadic = head.variadic; effects = effects head.post }
