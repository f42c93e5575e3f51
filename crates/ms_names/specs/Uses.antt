-- Whether a line uses a name that is not there.
use Rattle.std.specs.Prelude.{ℕ, ◌||◌, Bool, false, not, List, [], ◌∷◌, Option, Some, None}
use Rattle.std.specs.List.{list_any}
use Rattle.ms_ir.specs.declared.names.Name.{Name}
use Rattle.ms_ir.specs.declared.names.Ty.{Ty}
use Rattle.ms_grammar.specs.Form.{name_text}
use Rattle.ms_grammar.specs.declared.line.Head.{Head}
use Rattle.ms_grammar.specs.declared.line.Line.{Line}
use Rattle.ms_grammar.specs.declared.line.Line.TheVariants as said
use Rattle.ms_grammar.specs.declared.line.RawVal.{RawVal}
use Rattle.ms_grammar.specs.declared.line.RawVal.TheVariants.{Num, Local, Global}
use Rattle.ms_grammar.specs.declared.line.RawArg.{RawArg}
use Rattle.ms_grammar.specs.declared.line.RawEntry.{RawEntry}
use Rattle.ms_grammar.specs.declared.line.RawIndex.{RawIndex}
use Rattle.ms_grammar.specs.declared.line.RawInst.{RawInst}
use Rattle.ms_grammar.specs.declared.line.RawInst.TheVariants.{Alloca, Gep, Step, Load, Store, Copy, Call, Bin, Cmp, Select, Cast, Phi}
use Rattle.ms_grammar.specs.declared.line.RawTerm.{RawTerm}
use Rattle.ms_grammar.specs.declared.line.RawTerm.TheVariants.{Br, CondBr, Ret, Unreachable}
use Rattle.ms_names.specs.Places.{is_word_there, is_name_there}
use Rattle.ms_names.specs.Draft.{earlier, with_fault, register_in, body_lines}
use Rattle.ms_names.specs.declared.register.Register.{Register}

-- the names that there are: locals, blocks, functions and globals
pub record Known : Type 0 where
  pub locals : List Name
  pub blocks : List Name
  pub symbols : List (List ℕ)

abbrev pub known_by : Register → List (List ℕ) → Known
known_by r symbols = record { locals = r.locals; blocks = r.blocks; symbols = symbols }

abbrev pub lacks_symbol : Known → Name → Bool
lacks_symbol k n = not (is_word_there k.symbols (name_text n))

abbrev pub lacks_block : Known → Name → Bool
lacks_block k n = not (is_name_there k.blocks n)

abbrev pub lacks_value : Known → RawVal → Bool
lacks_value k (Num ty n) = false
lacks_value k (Local n) = not (is_name_there k.locals n)
lacks_value k (Global n) = lacks_symbol k n

abbrev pub lacks_arg : Known → RawArg → Bool
lacks_arg k a = lacks_value k a.val

abbrev pub lacks_entry : Known → RawEntry → Bool
lacks_entry k e = lacks_value k e.val || lacks_block k e.from

abbrev pub lacks_index : Known → RawIndex → Bool
lacks_index k t = lacks_value k t.val

abbrev pub lacks_given : Known → Option (Ty × RawVal) → Bool
lacks_given k None = false
lacks_given k (Some given) = lacks_value k given.1

-- an instruction uses a name that is not there
abbrev pub inst_lacks : Known → RawInst → Bool
inst_lacks k (Alloca size head rest) = false
inst_lacks k (Gep base offset head index rest) = lacks_value k base
inst_lacks k (Step base offset terms head index rest) = lacks_value k base || list_any (lacks_index k) terms
inst_lacks k (Load ty ptr rest) = lacks_value k ptr
inst_lacks k (Store ty val ptr rest) = lacks_value k val || lacks_value k ptr
inst_lacks k (Copy to from len head behind rest) = lacks_arg k to || lacks_arg k from
inst_lacks k (Call callee ret args head behind rest) = list_any (lacks_arg k) args || lacks_symbol k callee
inst_lacks k (Bin op flags ty a b rest) = lacks_value k a || lacks_value k b
inst_lacks k (Cmp pred flags ty a b rest) = lacks_value k a || lacks_value k b
inst_lacks k (Select cond ty a b rest) = lacks_value k cond || (lacks_value k a || lacks_value k b)
inst_lacks k (Cast op flags from a to rest) = lacks_value k a
inst_lacks k (Phi ty entries rest) = list_any (lacks_entry k) entries

abbrev pub term_lacks : Known → RawTerm → Bool
term_lacks k (Br to rest) = lacks_block k to
term_lacks k (CondBr cond if_true if_false rest) = lacks_value k cond || (lacks_block k if_true || lacks_block k if_false)
term_lacks k (Ret given rest) = lacks_given k given
term_lacks k (Unreachable rest) = false

abbrev pub line_lacks : Known → Line → Bool
line_lacks k (said.Inst name inst) = inst_lacks k inst
line_lacks k (said.Term term) = term_lacks k term
line_lacks k _ = false

-- the least line of these, and of one before, that uses a name that is not there
abbrev pub least_lacking : Known → Option ℕ → List (ℕ × Line) → Option ℕ
least_lacking k least [] = least
least_lacking k least (l ∷ ls) = least_lacking k (with_fault least (line_lacks k l.1) l.0) ls

-- the least line of a function with a fault
abbrev pub least_in : List (List ℕ) → ℕ → Head → List (ℕ × Line) → Option ℕ
least_in symbols n head body = let r = register_in n head body in least_lacking (known_by r symbols) r.least body

-- the least line of all functions with a fault, and of one before
abbrev pub least_in_line : List (List ℕ) → ℕ → Line → List (ℕ × Line) → Option ℕ
least_in_line symbols n (said.Define head) rest = least_in symbols n head (body_lines rest)
least_in_line symbols n _ rest = None

abbrev pub least_after : List (List ℕ) → Option ℕ → List (ℕ × Line) → Option ℕ
least_after symbols least [] = least
least_after symbols least (l ∷ ls) = least_after symbols (earlier least (least_in_line symbols l.0 l.1 ls)) ls
