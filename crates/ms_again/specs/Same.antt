-- When two modules are the same: they differ at most in the numbers that are written for things without a name, and in the room that
-- functions have for more.
use Rattle.std.specs.Prelude.{◌≡◌, map}
use Rattle.std.specs.Option.{option_map}
use Rattle.ms_ir.specs.declared.names.Name.{Name}
use Rattle.ms_ir.specs.declared.names.Name.TheVariants.{Word, Number, Absent}
use Rattle.ms_ir.specs.declared.names.Param.{Param}
use Rattle.ms_ir.specs.Func.{Placed, Block, FuncState}
use Rattle.ms_ir.specs.Module.{ModuleState}

-- a name, where a written number is none
abbrev pub own_name : Name → Name
own_name (Word text) = Word text
own_name (Number n) = Absent
own_name Absent = Absent

-- a parameter, an instruction and a block without a written number
abbrev pub plain_param : Param → Param
plain_param p = record p { name = own_name p.name }

abbrev pub plain_inst : Placed → Placed
plain_inst x = record x { name = own_name x.name }

abbrev pub plain_block : Block → Block
plain_block b = record { name = own_name b.name; insts = map plain_inst b.insts; term = b.term }

-- a function without written numbers and without room
abbrev pub plain_func : FuncState → FuncState
plain_func f = record f { params = map plain_param f.params; blocks = map plain_block f.blocks; spare = 0 }

-- a module of such functions
abbrev pub plain_module : ModuleState → ModuleState
plain_module m = record m { bodies = map (option_map plain_func) m.bodies }

-- the modules differ in nothing else
pub record IsSameModule (m n : ModuleState) : Type 0 where
  pub same : plain_module m ≡ plain_module n
