-- An accepted function: a sound one whose parts are ones that lines of the grammar give, in its module.
use Rattle.std.specs.Prelude.{◌≡◌, ◌⊎◌, ◌<◌, ◌^◌, ℕ, true, List, [], ◌∷◌, ◌++◌, Some, None, map, slice_get}
use Rattle.std.specs.List.{flat_map}
use Rattle.ms_lex.specs.Kinds.{is_word}
use Rattle.ms_attrs.specs.Effects.{IsEffectsOf}
use Rattle.ms_attrs.specs.Captures.{IsKeepsOf}
use Rattle.ms_ir.specs.declared.names.Name.{Name}
use Rattle.ms_ir.specs.declared.names.Name.TheVariants.{Word, Number, Absent}
use Rattle.ms_ir.specs.declared.names.Param.{Param}
use Rattle.ms_ir.specs.declared.inst.Val.TheVariants.{Num}
use Rattle.ms_ir.specs.declared.inst.IndexTerm.{IndexTerm}
use Rattle.ms_ir.specs.declared.inst.Inst.{Inst}
use Rattle.ms_ir.specs.declared.inst.Inst.TheVariants.{Alloca, Gep, Step, Load, Store, Copy, Call, Bin, Cmp, Select, Cast, Phi}
use Rattle.ms_ir.specs.declared.inst.Term.{Term}
use Rattle.ms_ir.specs.Types.{bits}
use Rattle.ms_ir.specs.Func.{Placed, Block, FuncState, insts_at}
use Rattle.ms_ir.specs.Module.{ModuleState}
use Rattle.ms_ir.specs.SoundFunc.{IsSoundFunc}
use Rattle.ms_grammar.specs.Grammar.{Says, without_name}
use Rattle.ms_grammar.specs.declared.line.Head.{Head}
use Rattle.ms_grammar.specs.declared.line.Line.TheVariants as said
use Rattle.ms_grammar.specs.declared.line.RawInst.{RawInst}
use Rattle.ms_grammar.specs.declared.line.RawTerm.{RawTerm}
use Rattle.ms_resolve.specs.Faults.{IsIn}
use Rattle.ms_resolve.specs.Scope.{Scope, inst_of, term_of}
use Rattle.ms_resolve.specs.Used.{values_of, global_of, callee_of}
use Rattle.ms_validity.specs.Faults.{CallsOtherwise, ReturnsOtherwise}

-- What lines are read under in a module: its functions and globals, what its functions' lines say, and what attributes mean there. The names of
-- locals and blocks are any.
pub record IsScopeIn (m : ModuleState) (s : Scope) : Type 0 where
  pub funcs : s.funcs ≡ m.names.funcs
  pub globals : s.globals ≡ m.names.globals
  pub sigs : s.sigs ≡ m.sigs
  pub effects : (post : List ℕ) → IsEffectsOf post m.groups (s.effects post)
  pub keeps : (attrs : List ℕ) → IsKeepsOf attrs (s.keeps attrs)

-- A local among the indices of a getelementptr, or a number of its type in its place, as behind a pass that knows what the local is.
abbrev pub IsTermOrNumber : IndexTerm → IndexTerm → Type 0
IsTermOrNumber was now = (now ≡ was) ⊎ ((n : ℕ) × (n < 2 ^ bits was.ty) × (now ≡ record was { val = Num was.ty n }))

abbrev pub AreTermsOrNumbers : List IndexTerm → List IndexTerm → Type 0
AreTermsOrNumbers [] [] = Unit {0}
AreTermsOrNumbers (t ∷ was) (u ∷ now) = IsTermOrNumber t u × AreTermsOrNumbers was now
AreTermsOrNumbers _ _ = ⊥

-- The second is the first, but that numbers may stand in the places of locals among the indices of a getelementptr. No line says a `Step` with numbers
-- among its terms: it is read with these in its offset.
abbrev pub IsOrHasNumbers : Inst → Inst → Type 0
IsOrHasNumbers (Alloca size head tail) now = now ≡ Alloca size head tail
IsOrHasNumbers (Gep base offset head index tail) now = now ≡ Gep base offset head index tail
IsOrHasNumbers (Step base offset terms head index tail) now =
    (changed : List IndexTerm) × AreTermsOrNumbers terms changed × (now ≡ Step base offset changed head index tail)
IsOrHasNumbers (Load ty ptr tail) now = now ≡ Load ty ptr tail
IsOrHasNumbers (Store ty val ptr tail) now = now ≡ Store ty val ptr tail
IsOrHasNumbers (Copy to from len head tail) now = now ≡ Copy to from len head tail
IsOrHasNumbers (Call callee ret args effects head tail) now = now ≡ Call callee ret args effects head tail
IsOrHasNumbers (Bin op flags ty a b tail) now = now ≡ Bin op flags ty a b tail
IsOrHasNumbers (Cmp pred flags ty a b tail) now = now ≡ Cmp pred flags ty a b tail
IsOrHasNumbers (Select cond ty a b tail) now = now ≡ Select cond ty a b tail
IsOrHasNumbers (Cast op flags from a to tail) now = now ≡ Cast op flags from a to tail
IsOrHasNumbers (Phi ty entries tail) now = now ≡ Phi ty entries tail

-- A line of the grammar says the instruction, whatever names its locals and blocks have there, and with locals in the places of numbers among the indices
-- of a getelementptr that has some. The globals and the function that it names are the module's.
pub record IsSaidInst (m : ModuleState) (inst : Inst) : Type 0 where
  pub bytes : List ℕ
  pub name : Name
  pub line : RawInst
  pub says : Says bytes (said.Inst name line)
  pub globals : (w : List ℕ) → IsIn (flat_map global_of (values_of line)) w → IsIn m.names.globals w
  pub callee : (w : List ℕ) → IsIn (callee_of line) w → IsIn m.names.funcs w
  pub scope : Scope
  pub in_module : IsScopeIn m scope
  pub is : IsOrHasNumbers (inst_of scope line) inst

-- the same for a terminator
pub record IsSaidTerm (m : ModuleState) (term : Term) : Type 0 where
  pub bytes : List ℕ
  pub line : RawTerm
  pub says : Says bytes (said.Term line)
  pub scope : Scope
  pub in_module : IsScopeIn m scope
  pub is : term ≡ term_of scope line

-- A define line of the grammar says the function's first line, but for the names of its parameters.
pub record IsSaidHead (f : FuncState) (head : Head) : Type 0 where
  pub bytes : List ℕ
  pub says : Says bytes (said.Define head)
  pub name : head.name ≡ f.name
  pub attrs : head.attrs ≡ f.head
  pub ret : head.ret ≡ f.ret
  pub post : head.post ≡ f.tail
  pub params : map without_name head.params ≡ map without_name f.params

abbrev pub name_of_param : Param → Name
name_of_param p = p.name

abbrev pub name_of_inst : Placed → Name
name_of_inst x = x.name

abbrev pub names_of_block : Block → List Name
names_of_block b = b.name ∷ map name_of_inst b.insts

-- the names of parameters, blocks and results, in the order of the text
abbrev pub names_in : FuncState → List Name
names_in f = map name_of_param f.params ++ flat_map names_of_block f.blocks

-- a word of the language, or no word
abbrev pub IsWordOrNone : Name → Type 0
IsWordOrNone (Word text) = is_word text ≡ true
IsWordOrNone (Number n) = Unit {0}
IsWordOrNone Absent = Unit {0}

-- no two things have one word
abbrev pub AreApart : List Name → Type 0
AreApart names = (i j : ℕ) (text : List ℕ) → i < j → slice_get names i ≡ Some (Word text) → slice_get names j ≡ Some (Word text) → ⊥

-- lines of the grammar give its first line, its instructions and its terminators
pub record AllSaid (m : ModuleState) (f : FuncState) : Type 0 where
  pub head : Head
  pub said_head : IsSaidHead f head
  pub insts : (b k : ℕ) (x : Placed) → slice_get (insts_at f.blocks b) k ≡ Some x → IsSaidInst m x.inst
  pub terms : (b : ℕ) (x : Block) → slice_get f.blocks b ≡ Some x → IsSaidTerm m x.term

-- Words are words of the language and stand once, and what gives no local has no name. Written numbers and limits are left out.
pub record IsAcceptedFunc (m : ModuleState) (f : FuncState) : Type 0 where
  pub sound : IsSoundFunc f
  pub all_said : AllSaid m f
  pub words : (name : Name) → IsIn (names_in f) name → IsWordOrNone name
  pub apart : AreApart (names_in f)
  pub unnamed : (b k : ℕ) (x : Placed) → slice_get (insts_at f.blocks b) k ≡ Some x → x.result ≡ None → x.name ≡ Absent
  pub calls : (b k : ℕ) (x : Placed) → slice_get (insts_at f.blocks b) k ≡ Some x → CallsOtherwise m x.inst → ⊥
  pub returns : (b : ℕ) (x : Block) → slice_get f.blocks b ≡ Some x → ReturnsOtherwise f x.term → ⊥
