-- Small functions with a store or memcpy that is dead, or is not.
use Rattle.std.specs.Prelude.{ℕ, true, [], ◌∷◌, None}
use Rattle.ms_ir.specs.declared.names.Ty.TheVariants.{I8, I32, Ptr}
use Rattle.ms_ir.specs.declared.inst.Arg.{Arg}
use Rattle.ms_ir.specs.declared.inst.Val.TheVariants.{Num}
use Rattle.ms_ir.specs.declared.inst.Inst.TheVariants.{Alloca, Load, Store, Copy}
use Rattle.ms_ir.specs.declared.inst.Term.TheVariants.{Ret}
use Rattle.ms_ir.specs.Func.{Placed, FuncState}
use Rattle.ms_meaning.specs.Samples.{local, giving, plain, block, param, func}
use Rattle.ms_alias.specs.declared.loc.Root.{Root}
use Rattle.ms_alias.specs.declared.loc.Root.TheVariants.{Local as LocalRoot}

-- the root that all these stores go through
abbrev pub first_local : Root
first_local = LocalRoot (record { 0 = 0 })

-- instruction i stores four bytes there
abbrev pub stores_four : ℕ → Placed
stores_four i = plain i (Store I32 (Num I32 i) (local 0) [])

abbrev pub makes_four : Placed
makes_four = giving 0 0 (Alloca 4 [] [])

abbrev pub loads_one : Placed
loads_one = giving 2 1 (Load I8 (local 0) [])

abbrev pub pointer : Arg
pointer = record { ty = Ptr; val = local 0; keeps = true; text = [] }

abbrev pub copies_no_byte : Placed
copies_no_byte = plain 0 (Copy pointer pointer 0 [] [])

-- stores to an argument twice, and once
abbrev pub stores_twice : FuncState
stores_twice = func (param Ptr ∷ []) (block (stores_four 0 ∷ stores_four 1 ∷ []) (Ret None []) ∷ [])

abbrev pub stores_once : FuncState
stores_once = func (param Ptr ∷ []) (block (stores_four 1 ∷ []) (Ret None []) ∷ [])

-- stores to an alloca, and loads one byte of it
abbrev pub loads_back : FuncState
loads_back = func [] (block (makes_four ∷ stores_four 1 ∷ loads_one ∷ []) (Ret None []) ∷ [])

-- stores to an alloca, and returns
abbrev pub stores_to_own : FuncState
stores_to_own = func [] (block (makes_four ∷ stores_four 1 ∷ []) (Ret None []) ∷ [])

abbrev pub copies_nothing : FuncState
copies_nothing = func (param Ptr ∷ []) (block (copies_no_byte ∷ []) (Ret None []) ∷ [])
