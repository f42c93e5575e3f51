-- Lines whose locals and blocks get other names.
use Rattle.std.specs.Prelude.{map, Option, Some, None}
use Rattle.ms_ir.specs.declared.names.Name.{Name}
use Rattle.ms_ir.specs.declared.names.Ty.{Ty}
use Rattle.ms_grammar.specs.declared.line.RawVal.{RawVal}
use Rattle.ms_grammar.specs.declared.line.RawVal.TheVariants.{Num, Local, Global}
use Rattle.ms_grammar.specs.declared.line.RawArg.{RawArg}
use Rattle.ms_grammar.specs.declared.line.RawEntry.{RawEntry}
use Rattle.ms_grammar.specs.declared.line.RawIndex.{RawIndex}
use Rattle.ms_grammar.specs.declared.line.RawInst.{RawInst}
use Rattle.ms_grammar.specs.declared.line.RawInst.TheVariants.{Alloca, Gep, Step, Load, Store, Copy, Call, Bin, Cmp, Select, Cast, Phi}
use Rattle.ms_grammar.specs.declared.line.RawTerm.{RawTerm}
use Rattle.ms_grammar.specs.declared.line.RawTerm.TheVariants.{Br, CondBr, Ret, Unreachable}

-- the other names of locals, and of blocks
pub record Renaming : Type 0 where
  pub local : Name → Name
  pub block : Name → Name

abbrev pub renamed_val : Renaming → RawVal → RawVal
renamed_val r (Num ty n) = Num ty n
renamed_val r (Local n) = Local (r.local n)
renamed_val r (Global n) = Global n

abbrev pub renamed_arg : Renaming → RawArg → RawArg
renamed_arg r a = record { ty = a.ty; val = renamed_val r a.val; text = a.text }

abbrev pub renamed_entry : Renaming → RawEntry → RawEntry
renamed_entry r e = record { val = renamed_val r e.val; from = r.block e.from }

abbrev pub renamed_index : Renaming → RawIndex → RawIndex
renamed_index r t = record { val = renamed_val r t.val; ty = t.ty; scale = t.scale }

abbrev pub renamed_inst : Renaming → RawInst → RawInst
renamed_inst r (Alloca size head rest) = Alloca size head rest
renamed_inst r (Gep base offset head index rest) = Gep (renamed_val r base) offset head index rest
renamed_inst r (Step base offset terms head index rest) = Step (renamed_val r base) offset (map (renamed_index r) terms) head index rest
renamed_inst r (Load ty ptr rest) = Load ty (renamed_val r ptr) rest
renamed_inst r (Store ty val ptr rest) = Store ty (renamed_val r val) (renamed_val r ptr) rest
renamed_inst r (Copy to from len head behind rest) = Copy (renamed_arg r to) (renamed_arg r from) len head behind rest
renamed_inst r (Call callee ret args head behind rest) = Call callee ret (map (renamed_arg r) args) head behind rest
renamed_inst r (Bin op flags ty a b rest) = Bin op flags ty (renamed_val r a) (renamed_val r b) rest
renamed_inst r (Cmp pred flags ty a b rest) = Cmp pred flags ty (renamed_val r a) (renamed_val r b) rest
renamed_inst r (Select cond ty a b rest) = Select (renamed_val r cond) ty (renamed_val r a) (renamed_val r b) rest
renamed_inst r (Cast op flags from a to rest) = Cast op flags from (renamed_val r a) to rest
renamed_inst r (Phi ty entries rest) = Phi ty (map (renamed_entry r) entries) rest

abbrev pub renamed_given : Renaming → Option (Ty × RawVal) → Option (Ty × RawVal)
renamed_given r None = None
renamed_given r (Some given) = Some (given.0, renamed_val r given.1)

abbrev pub renamed_term : Renaming → RawTerm → RawTerm
renamed_term r (Br to rest) = Br (r.block to) rest
renamed_term r (CondBr cond if_true if_false rest) = CondBr (renamed_val r cond) (r.block if_true) (r.block if_false) rest
renamed_term r (Ret given rest) = Ret (renamed_given r given) rest
renamed_term r (Unreachable rest) = Unreachable rest
