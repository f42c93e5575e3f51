-- What belongs together: a function, its flow graph, its memory form and the tables of its pointers.
use Rattle.std.specs.Prelude.{List}
use Rattle.ms_paths.specs.Flow.{Block as Run}
use Rattle.ms_ir.specs.Func.{FuncState}
use Rattle.ms_form.specs.Form.{FormState}
use Rattle.ms_build.specs.Formed.{IsFormed}
use Rattle.ms_alias.specs.Tables.{AliasState, IsAliasOf}

pub record IsPointed (f : FuncState) (g : List Run) (form : FormState) (pointers : AliasState) : Type 0 where
  pub formed : IsFormed f g form
  pub alias : IsAliasOf f pointers
