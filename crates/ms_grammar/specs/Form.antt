-- The form of each line: its parts in order. How long an array is and what an index comes to stands
-- in a scale, which says nothing of the printed text.
use Rattle.std.specs.Prelude.{ℕ, ℤ, Bool, List, [], ◌∷◌, ◌++◌, Option, Some, None, if◌then◌else◌, map, decimal}
use Rattle.ms_ir.specs.declared.names.Ty.{Ty}
use Rattle.ms_ir.specs.declared.names.Ty.TheVariants.{I1, I64, Ptr}
use Rattle.ms_ir.specs.declared.names.Name.{Name}
use Rattle.ms_ir.specs.declared.names.Name.TheVariants as name
use Rattle.ms_ir.specs.declared.names.Param.{Param}
use Rattle.ms_ir.specs.declared.inst.Op.{Op}
use Rattle.ms_ir.specs.declared.inst.Pred.{Pred}
use Rattle.ms_ir.specs.declared.inst.CastOp.{CastOp}
use Rattle.ms_ir.specs.declared.inst.Flags.{Flags}
use Rattle.ms_grammar.specs.Words.{spelling, type_word, op_word, predicate_word, cast_word}
use Rattle.ms_grammar.specs.Kept.{IndexItem}
use Rattle.ms_grammar.specs.Parts.{Part, Class, blank, token, flag, number, count, kept, apart, woven, part_text, attributes, post, tail, object, gep_head, indices, call_head, copy_head, kept_line, group_line, global_line, result_word, text_of}
use Rattle.ms_grammar.specs.declared.keyword.Keyword.{Keyword}
use Rattle.ms_grammar.specs.declared.keyword.Keyword.TheVariants as word
use Rattle.ms_grammar.specs.declared.line.RawVal.{RawVal}
use Rattle.ms_grammar.specs.declared.line.RawVal.TheVariants.{Num, Local, Global}
use Rattle.ms_grammar.specs.declared.line.RawArg.{RawArg}
use Rattle.ms_grammar.specs.declared.line.RawEntry.{RawEntry}
use Rattle.ms_grammar.specs.declared.line.RawIndex.{RawIndex}
use Rattle.ms_grammar.specs.declared.line.Head.{Head}
use Rattle.ms_grammar.specs.declared.line.RawInst.{RawInst}
use Rattle.ms_grammar.specs.declared.line.RawInst.TheVariants.{Alloca, Gep, Step, Load, Store, Copy, Call, Bin, Cmp, Select, Cast, Phi}
use Rattle.ms_grammar.specs.declared.line.RawTerm.{RawTerm}
use Rattle.ms_grammar.specs.declared.line.RawTerm.TheVariants.{Br, CondBr, Ret, Unreachable}
use Rattle.ms_grammar.specs.declared.line.Line.{Line}
use Rattle.ms_grammar.specs.declared.line.Line.TheVariants as line

-- the bytes of the types of a getelementptr's levels, and its indices: as numbers, or, where some are locals, one by one
pub record Scale : Type 0 where
  pub sizes : List ℕ
  pub indices : List ℤ
  pub items : List IndexItem

abbrev pub word_part : Keyword → Part
word_part w = token (spelling w)

abbrev pub type_part : Ty → Part
type_part ty = token (type_word ty)

-- a name without its mark
abbrev pub name_text : Name → List ℕ
name_text (name.Word text) = text
name_text (name.Number n) = decimal n
name_text name.Absent = []

abbrev pub local_part : Name → Part
local_part n = token (37 ∷ name_text n)

abbrev pub global_part : List ℕ → Part
global_part text = token (64 ∷ text)

abbrev pub value_part : RawVal → Part
value_part (Num ty n) = number ty n
value_part (Local n) = local_part n
value_part (Global n) = global_part (name_text n)

-- members of a list, with a comma before each further one
abbrev pub further : List (List Part) → List Part
further [] = []
further (m ∷ ms) = word_part word.Comma ∷ blank ∷ m ++ further ms

abbrev pub listed : List (List Part) → List Part
listed [] = []
listed (m ∷ ms) = m ++ further ms

abbrev pub arg_parts : RawArg → List Part
arg_parts a = type_part a.ty ∷ apart attributes a.text ∷ blank ∷ value_part a.val ∷ []

-- a local behind a blank, and nothing where there is none
abbrev pub named_parts : Name → List Part
named_parts (name.Word text) = blank ∷ local_part (name.Word text) ∷ []
named_parts (name.Number n) = blank ∷ local_part (name.Number n) ∷ []
named_parts name.Absent = []

abbrev pub param_parts : Param → List Part
param_parts p = type_part p.ty ∷ apart attributes p.text ∷ named_parts p.name

abbrev pub dots_parts : Bool → List (List Part)
dots_parts variadic = if variadic then (word_part word.Dots ∷ []) ∷ [] else []

-- the line of a function, up to its opening parenthesis
abbrev pub front_parts : Keyword → Head → List Part
front_parts w h =
    word_part w ∷ apart attributes h.attrs ∷ blank ∷ token (result_word h.ret) ∷ blank ∷ global_part h.name ∷ word_part word.Open ∷ []

-- the line of a function, up to its last attribute
abbrev pub head_parts : Keyword → Head → List Part
head_parts w h =
    front_parts w h ++ listed (map param_parts h.params ++ dots_parts h.variadic) ++ word_part word.Close ∷ apart post h.post ∷ []

-- the brace that opens a function's body
abbrev pub brace_parts : List Part
brace_parts = blank ∷ word_part word.OpenBrace ∷ []

abbrev pub entry_parts : RawEntry → List Part
entry_parts e =
    word_part word.OpenSquare ∷ blank ∷ value_part e.val ∷ word_part word.Comma ∷ blank ∷ local_part e.from
    ∷ blank ∷ word_part word.CloseSquare ∷ []

-- a value behind its type
abbrev pub typed_parts : Ty → RawVal → List Part
typed_parts ty val = type_part ty ∷ blank ∷ value_part val ∷ []

abbrev pub comma_parts : List Part
comma_parts = word_part word.Comma ∷ blank ∷ []

abbrev pub target_parts : Name → List Part
target_parts n = word_part word.Label ∷ blank ∷ local_part n ∷ []

-- a call up to the opening parenthesis of its arguments
abbrev pub call_front : Class → List ℕ → Name → List Part
call_front class head callee = kept class head ∷ blank ∷ global_part (name_text callee) ∷ word_part word.Open ∷ []

-- the arguments of a memcpy, in their parentheses: its pointers, then its length
abbrev pub copy_pointers : RawArg → RawArg → List Part
copy_pointers to from = word_part word.Open ∷ arg_parts to ++ comma_parts ++ arg_parts from ++ comma_parts

abbrev pub copy_length : ℕ → List Part
copy_length len =
    type_part I64 ∷ blank ∷ count len ∷ comma_parts ++ type_part I1 ∷ blank ∷ word_part word.False ∷ word_part word.Close ∷ []

-- what is kept behind the arguments of a call
abbrev pub end_parts : List ℕ → List ℕ → List Part
end_parts behind rest = apart post behind ∷ kept tail rest ∷ []

-- an operation with its flags
abbrev pub bin_parts : Op → Flags → List Part
bin_parts op flags =
    token (op_word op) ∷ flag (spelling word.Nuw) flags.nuw ∷ flag (spelling word.Nsw) flags.nsw
    ∷ flag (spelling word.Exact) flags.exact ∷ flag (spelling word.Disjoint) flags.disjoint ∷ blank ∷ []

abbrev pub cmp_parts : Pred → Flags → List Part
cmp_parts pred flags =
    word_part word.Icmp ∷ flag (spelling word.Samesign) flags.samesign ∷ blank ∷ token (predicate_word pred) ∷ blank ∷ []

abbrev pub cast_parts : CastOp → Flags → List Part
cast_parts op flags =
    token (cast_word op) ∷ flag (spelling word.Nneg) flags.nneg ∷ flag (spelling word.Nuw) flags.nuw
    ∷ flag (spelling word.Nsw) flags.nsw ∷ blank ∷ []

-- what a cast converts, and to what
abbrev pub conversion_parts : Ty → RawVal → Ty → List ℕ → List Part
conversion_parts from a to rest = typed_parts from a ++ blank ∷ word_part word.To ∷ blank ∷ type_part to ∷ kept tail rest ∷ []

-- two operands of a type
abbrev pub pair_parts : Ty → RawVal → RawVal → List Part
pair_parts ty a b = typed_parts ty a ++ comma_parts ++ value_part b ∷ []

-- what stands in the place of a local among indices
abbrev pub index_text : RawIndex → List ℕ
index_text t = part_text (value_part t.val)

abbrev pub inst_parts : Scale → RawInst → List Part
inst_parts scale (Alloca size head rest) = word_part word.Alloca ∷ blank ∷ kept (object size) head ∷ kept tail rest ∷ []
inst_parts scale (Gep base offset head index rest) =
    word_part word.Getelementptr ∷ blank ∷ kept (gep_head scale.sizes) head ∷ comma_parts ++ typed_parts Ptr base
    ++ comma_parts ++ kept (indices scale.indices) index ∷ kept tail rest ∷ []
inst_parts scale (Step base offset terms head index rest) =
    word_part word.Getelementptr ∷ blank ∷ kept (gep_head scale.sizes) head ∷ comma_parts ++ typed_parts Ptr base
    ++ comma_parts ++ woven scale.items (map index_text terms) index ∷ kept tail rest ∷ []
inst_parts scale (Load ty ptr rest) =
    word_part word.Load ∷ blank ∷ type_part ty ∷ comma_parts ++ typed_parts Ptr ptr ++ kept tail rest ∷ []
inst_parts scale (Store ty val ptr rest) =
    word_part word.Store ∷ blank ∷ typed_parts ty val ++ comma_parts ++ typed_parts Ptr ptr ++ kept tail rest ∷ []
inst_parts scale (Copy to from len head behind rest) =
    kept copy_head head ∷ blank ∷ word_part word.Memcpy ∷ copy_pointers to from ++ copy_length len ++ end_parts behind rest
inst_parts scale (Call callee ret args head behind rest) =
    call_front (call_head ret) head callee ++ listed (map arg_parts args) ++ word_part word.Close ∷ end_parts behind rest
inst_parts scale (Bin op flags ty a b rest) = bin_parts op flags ++ pair_parts ty a b ++ kept tail rest ∷ []
inst_parts scale (Cmp pred flags ty a b rest) = cmp_parts pred flags ++ pair_parts ty a b ++ kept tail rest ∷ []
inst_parts scale (Select cond ty a b rest) =
    word_part word.Select ∷ blank ∷ typed_parts I1 cond ++ comma_parts ++ typed_parts ty a ++ comma_parts ++ typed_parts ty b
    ++ kept tail rest ∷ []
inst_parts scale (Cast op flags from a to rest) = cast_parts op flags ++ conversion_parts from a to rest
inst_parts scale (Phi ty entries rest) =
    word_part word.Phi ∷ blank ∷ type_part ty ∷ blank ∷ listed (map entry_parts entries) ++ kept tail rest ∷ []

abbrev pub ret_parts : Option (Ty × RawVal) → List Part
ret_parts None = word_part word.Void ∷ []
ret_parts (Some given) = typed_parts given.0 given.1

abbrev pub term_parts : RawTerm → List Part
term_parts (Br target rest) = word_part word.Br ∷ blank ∷ target_parts target ++ kept tail rest ∷ []
term_parts (CondBr cond if_true if_false rest) =
    word_part word.Br ∷ blank ∷ typed_parts I1 cond ++ comma_parts ++ target_parts if_true ++ comma_parts ++ target_parts if_false
    ++ kept tail rest ∷ []
term_parts (Ret given rest) = word_part word.Ret ∷ blank ∷ ret_parts given ++ kept tail rest ∷ []
term_parts (Unreachable rest) = word_part word.Unreachable ∷ kept tail rest ∷ []

-- the local that an instruction makes, and nothing where it is not named
abbrev pub result_parts : Name → List Part
result_parts (name.Word text) = local_part (name.Word text) ∷ blank ∷ word_part word.Equals ∷ blank ∷ []
result_parts (name.Number n) = local_part (name.Number n) ∷ blank ∷ word_part word.Equals ∷ blank ∷ []
result_parts name.Absent = []

abbrev pub form : Scale → Line → List Part
form scale line.Empty = []
form scale line.Close = word_part word.CloseBrace ∷ []
form scale (line.Kept text) = kept kept_line text ∷ []
form scale (line.Group n text) = kept (group_line n) text ∷ []
form scale (line.GlobalVar name text) = kept (global_line name) text ∷ []
form scale (line.Label n) = token (name_text n) ∷ word_part word.Colon ∷ []
form scale (line.Declare head) = head_parts word.Declare head
form scale (line.Define head) = head_parts word.Define head ++ brace_parts
form scale (line.Inst n inst) = blank ∷ blank ∷ result_parts n ++ inst_parts scale inst
form scale (line.Term term) = blank ∷ blank ∷ term_parts term

abbrev pub no_scale : Scale
no_scale = record { sizes = []; indices = []; items = [] }

-- the printed form of a line
abbrev pub printed : Line → List ℕ
printed line = text_of (form no_scale line)
