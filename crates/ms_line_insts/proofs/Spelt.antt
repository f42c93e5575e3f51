-- What is spelled, as a record.
use Rattle.std.proofs.Common.{ℕ, ℤ, List, Option, Some, None, Result, Ok, Err}
use Rattle.std.specs.Prelude.{IfOk, MatchOption}
use Rattle.ms_ir.specs.declared.names.Ty.{Ty}
use Rattle.ms_ir.specs.declared.names.Name.{Name}
use Rattle.ms_ir.specs.declared.inst.Op.{Op}
use Rattle.ms_ir.specs.declared.inst.Pred.{Pred}
use Rattle.ms_ir.specs.declared.inst.CastOp.{CastOp}
use Rattle.ms_ir.specs.declared.inst.Flags.{Flags}
use Rattle.ms_grammar.specs.declared.line.RawVal.{RawVal}
use Rattle.ms_grammar.specs.declared.line.RawArg.{RawArg}
use Rattle.ms_grammar.specs.declared.line.RawEntry.{RawEntry}
use Rattle.ms_grammar.specs.declared.line.RawInst.TheVariants.{Alloca, Gep, Step, Load, Store, Copy, Call, Bin, Cmp, Select, Cast, Phi}
use Rattle.ms_grammar.specs.declared.line.RawTerm.TheVariants.{Br, CondBr, Ret, Unreachable}
use Rattle.ms_lex.specs.declared.token.Token.{Token}
use Rattle.ms_grammar.specs.Form.{Scale, inst_parts, term_parts}
use Rattle.ms_grammar.specs.Fits.{FitsInst, FitsTerm}
use Rattle.ms_grammar.specs.declared.line.RawInst.{RawInst}
use Rattle.ms_grammar.specs.declared.line.RawTerm.{RawTerm}
use Rattle.ms_line_insts.specs.Found.{SpellInst, SpellTerm, Tells}
use Rattle.ms_line_insts.specs.declared.found.FoundInst.{FoundInst}
use Rattle.ms_line_insts.specs.Front.{Spelt}
use Rattle.ms_line_insts.specs.GepFronts.{NoPointer}

pub of_term : (line : List ℕ) (tokens : List Token) (term : RawTerm) → SpellTerm line tokens term → Spelt line tokens (term_parts term)
of_term line tokens term s = record { spells = s.spelled }

pub to_term : (line : List ℕ) (tokens : List Token) (term : RawTerm) → Spelt line tokens (term_parts term) → FitsTerm term → SpellTerm line tokens term
to_term line tokens term s fits = record { spelled = s.spells; fits = fits }

pub of_inst : (line : List ℕ) (tokens : List Token) (inst : RawInst) (s : SpellInst line tokens inst) → Spelt line tokens (inst_parts s.scale inst)
of_inst line tokens inst s = record { spells = s.spelled }

pub to_inst : (line : List ℕ) (tokens : List Token) (scale : Scale) (inst : RawInst) → Spelt line tokens (inst_parts scale inst) → FitsInst scale inst → SpellInst line tokens inst
to_inst line tokens scale inst s fits = record { scale = scale; spelled = s.spells; fits = fits }

-- no terminator of any form
pub no_term : (line : List ℕ) (tokens : List Token) → ((target : Name) (rest : List ℕ) → SpellTerm line tokens (Br target rest) → ⊥) →
    ((cond : RawVal) (if_true if_false : Name) (rest : List ℕ) → SpellTerm line tokens (CondBr cond if_true if_false rest) → ⊥) →
    ((rest : List ℕ) → SpellTerm line tokens (Ret None rest) → ⊥) →
    ((ty : Ty) (val : RawVal) (rest : List ℕ) → SpellTerm line tokens (Ret (Some (ty, val)) rest) → ⊥) →
    ((rest : List ℕ) → SpellTerm line tokens (Unreachable rest) → ⊥) → (term : RawTerm) → SpellTerm line tokens term → ⊥
no_term line tokens jump branch nothing value unreached (Br target rest) s = jump target rest s
no_term line tokens jump branch nothing value unreached (CondBr cond if_true if_false rest) s = branch cond if_true if_false rest s
no_term line tokens jump branch nothing value unreached (Ret None rest) s = nothing rest s
no_term line tokens jump branch nothing value unreached (Ret (Some given) rest) s = value given.0 given.1 rest s
no_term line tokens jump branch nothing value unreached (Unreachable rest) s = unreached rest s

-- no instruction of any form
pub no_inst : (line : List ℕ) (tokens : List Token) →
    ((size : ℕ) (head rest : List ℕ) → SpellInst line tokens (Alloca size head rest) → ⊥) →
    NoPointer line tokens →
    ((ty : Ty) (ptr : RawVal) (rest : List ℕ) → SpellInst line tokens (Load ty ptr rest) → ⊥) →
    ((ty : Ty) (val ptr : RawVal) (rest : List ℕ) → SpellInst line tokens (Store ty val ptr rest) → ⊥) →
    ((to from : RawArg) (len : ℕ) (head post rest : List ℕ) → SpellInst line tokens (Copy to from len head post rest) → ⊥) →
    ((callee : Name) (ret : Option Ty) (args : List RawArg) (head post rest : List ℕ) → SpellInst line tokens (Call callee ret args head post rest) → ⊥) →
    ((op : Op) (flags : Flags) (ty : Ty) (a b : RawVal) (rest : List ℕ) → SpellInst line tokens (Bin op flags ty a b rest) → ⊥) →
    ((pred : Pred) (flags : Flags) (ty : Ty) (a b : RawVal) (rest : List ℕ) → SpellInst line tokens (Cmp pred flags ty a b rest) → ⊥) →
    ((cond : RawVal) (ty : Ty) (a b : RawVal) (rest : List ℕ) → SpellInst line tokens (Select cond ty a b rest) → ⊥) →
    ((op : CastOp) (flags : Flags) (from : Ty) (a : RawVal) (to : Ty) (rest : List ℕ) → SpellInst line tokens (Cast op flags from a to rest) → ⊥) →
    ((ty : Ty) (entries : List RawEntry) (rest : List ℕ) → SpellInst line tokens (Phi ty entries rest) → ⊥) →
    (inst : RawInst) → SpellInst line tokens inst → ⊥
no_inst line tokens alloca gep load store copy call bin cmp select cast phi (Alloca size head rest) s = alloca size head rest s
no_inst line tokens alloca gep load store copy call bin cmp select cast phi (Gep base offset head index rest) s = gep.of_numbers base offset head index rest s
no_inst line tokens alloca gep load store copy call bin cmp select cast phi (Step base offset terms head index rest) s = gep.of_variables base offset terms head index rest s
no_inst line tokens alloca gep load store copy call bin cmp select cast phi (Load ty ptr rest) s = load ty ptr rest s
no_inst line tokens alloca gep load store copy call bin cmp select cast phi (Store ty val ptr rest) s = store ty val ptr rest s
no_inst line tokens alloca gep load store copy call bin cmp select cast phi (Copy to from len head post rest) s = copy to from len head post rest s
no_inst line tokens alloca gep load store copy call bin cmp select cast phi (Call callee ret args head post rest) s = call callee ret args head post rest s
no_inst line tokens alloca gep load store copy call bin cmp select cast phi (Bin op flags ty a b rest) s = bin op flags ty a b rest s
no_inst line tokens alloca gep load store copy call bin cmp select cast phi (Cmp pred flags ty a b rest) s = cmp pred flags ty a b rest s
no_inst line tokens alloca gep load store copy call bin cmp select cast phi (Select cond ty a b rest) s = select cond ty a b rest s
no_inst line tokens alloca gep load store copy call bin cmp select cast phi (Cast op flags from a to rest) s = cast op flags from a to rest s
no_inst line tokens alloca gep load store copy call bin cmp select cast phi (Phi ty entries rest) s = phi ty entries rest s

-- the same of what the last of the forms gave
pub read_no_term : {E : Type 0} (line : List ℕ) (tokens : List Token) (r : Result (Option RawTerm) E) → ((target : Name) (rest : List ℕ) → SpellTerm line tokens (Br target rest) → ⊥) →
    ((cond : RawVal) (if_true if_false : Name) (rest : List ℕ) → SpellTerm line tokens (CondBr cond if_true if_false rest) → ⊥) →
    ((rest : List ℕ) → SpellTerm line tokens (Ret None rest) → ⊥) →
    ((ty : Ty) (val : RawVal) (rest : List ℕ) → SpellTerm line tokens (Ret (Some (ty, val)) rest) → ⊥) →
    IfOk r (λ found. MatchOption found ((rest : List ℕ) → SpellTerm line tokens (Unreachable rest) → ⊥) (λ term. SpellTerm line tokens term)) →
    IfOk r (λ found. MatchOption found ((term : RawTerm) → SpellTerm line tokens term → ⊥) (λ term. SpellTerm line tokens term))
read_no_term line tokens (Err e) jump branch nothing value last = tt
read_no_term line tokens (Ok None) jump branch nothing value last = no_term line tokens jump branch nothing value last
read_no_term line tokens (Ok (Some term)) jump branch nothing value last = last

pub read_no_inst : {E : Type 0} (line : List ℕ) (tokens : List Token) (r : Result (Option FoundInst) E) →
    ((size : ℕ) (head rest : List ℕ) → SpellInst line tokens (Alloca size head rest) → ⊥) →
    NoPointer line tokens →
    ((ty : Ty) (ptr : RawVal) (rest : List ℕ) → SpellInst line tokens (Load ty ptr rest) → ⊥) →
    ((ty : Ty) (val ptr : RawVal) (rest : List ℕ) → SpellInst line tokens (Store ty val ptr rest) → ⊥) →
    ((to from : RawArg) (len : ℕ) (head post rest : List ℕ) → SpellInst line tokens (Copy to from len head post rest) → ⊥) →
    ((callee : Name) (ret : Option Ty) (args : List RawArg) (head post rest : List ℕ) → SpellInst line tokens (Call callee ret args head post rest) → ⊥) →
    ((op : Op) (flags : Flags) (ty : Ty) (a b : RawVal) (rest : List ℕ) → SpellInst line tokens (Bin op flags ty a b rest) → ⊥) →
    ((pred : Pred) (flags : Flags) (ty : Ty) (a b : RawVal) (rest : List ℕ) → SpellInst line tokens (Cmp pred flags ty a b rest) → ⊥) →
    ((cond : RawVal) (ty : Ty) (a b : RawVal) (rest : List ℕ) → SpellInst line tokens (Select cond ty a b rest) → ⊥) →
    ((op : CastOp) (flags : Flags) (from : Ty) (a : RawVal) (to : Ty) (rest : List ℕ) → SpellInst line tokens (Cast op flags from a to rest) → ⊥) →
    IfOk r (λ found. MatchOption found ((ty : Ty) (entries : List RawEntry) (rest : List ℕ) → SpellInst line tokens (Phi ty entries rest) → ⊥)
    (λ f. (inst : RawInst) × SpellInst line tokens inst × Tells inst f)) →
    IfOk r (λ found. MatchOption found ((inst : RawInst) → SpellInst line tokens inst → ⊥) (λ f. (inst : RawInst) × SpellInst line tokens inst × Tells inst f))
read_no_inst line tokens (Err e) alloca gep load store copy call bin cmp select cast last = tt
read_no_inst line tokens (Ok None) alloca gep load store copy call bin cmp select cast last = no_inst line tokens alloca gep load store copy call bin cmp select cast last
read_no_inst line tokens (Ok (Some f)) alloca gep load store copy call bin cmp select cast last = last
