-- A function with all that is told of it.
use Rattle.std.specs.Prelude.{◌≡◌, ℕ, List, [], Some, filter, not, nat_eq}
use Rattle.ms_ir.specs.declared.names.LocalNo.{LocalNo}
use Rattle.ms_ir.specs.declared.names.Ty.{Ty}
use Rattle.ms_ir.specs.declared.inst.Val.{Val}
use Rattle.ms_ir.specs.declared.inst.Inst.TheVariants.{Load}
use Rattle.ms_ir.specs.Func.{Placed, FuncState, IsAt}
use Rattle.ms_ir.specs.SoundFunc.{IsSoundFunc, IsValueIn}
use Rattle.ms_flow.specs.Flow.{FlowState}
use Rattle.ms_form.specs.Form.{FormState, HasPlaces}
use Rattle.ms_form.specs.Counts.{pred_counts}
use Rattle.ms_build.specs.Formed.{IsFormed}
use Rattle.ms_alias.specs.Tables.{AliasState, IsAliasOf}
use Rattle.ms_cache.specs.Stays.{Kept}
use Rattle.ms_kept.specs.Answers.{AreRight}

-- The function, the answers that are kept for its queries, and for how many inserts all that is told of it has room.
pub record WholeState : Type 0 where
  pub func : FuncState
  pub kept : List Kept
  pub spare : ℕ

-- The flow graph, the memory form and the tables of pointers are the sound function's own, and each answer that is kept is its clobber.
pub record IsWhole (f : FuncState) (flow : FlowState) (form : FormState) (pointers : AliasState) (kept : List Kept) : Type 0 where
  pub formed : IsFormed f flow.graph form
  pub places : HasPlaces (pred_counts flow) f.made form
  pub waiting : form.waiting ≡ []
  pub alias : IsAliasOf f pointers
  pub sound : IsSoundFunc f
  pub right : AreRight f kept

-- the answers of all instructions but this one, in the order in which they stood
abbrev pub answers_but : ℕ → List Kept → List Kept
answers_but n kept = filter (λ x. not (nat_eq x.0.inst.0 n)) kept

-- the instruction of this number is a load whose result the value can stand for
pub record IsLoadThere (f : FuncState) (n : ℕ) (by : Val) : Type 0 where
  pub b : ℕ
  pub place : ℕ
  pub x : Placed
  pub at : IsAt f.blocks n b place x
  pub ty : Ty
  pub ptr : Val
  pub tail : List ℕ
  pub load : x.inst ≡ Load ty ptr tail
  pub l : LocalNo
  pub result : x.result ≡ Some l
  pub value : IsValueIn f ty by
