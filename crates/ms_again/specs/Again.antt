-- A module whose printed text is read again.
use Rattle.std.specs.Prelude.{◌≡◌, ℕ, List}
use Rattle.ms_grammar.specs.declared.line.Line.{Line}
use Rattle.ms_ir.specs.Module.{ModuleState}
use Rattle.ms_print.specs.Text.{module_text}
use Rattle.ms_read.specs.Draft.{IsDraft}
use Rattle.ms_validity.specs.Cause.{IsAccepted}
use Rattle.ms_again.specs.Same.{IsSameModule}
use Rattle.ms_again.specs.Ordered.{IsSameInOrder}

-- The module's text is read as a draft that is accepted as the same module, and that module prints the same text. The text is read and
-- accepted as no other module.
pub record IsReadAgain (m : ModuleState) : Type 0 where
  pub draft : List (ℕ × Line)
  pub other : ModuleState
  pub read : IsDraft (module_text m) draft
  pub accepted : IsAccepted draft other
  pub same : IsSameModule m other
  pub text : module_text other ≡ module_text m
  pub only : (d : List (ℕ × Line)) (n : ModuleState) → IsDraft (module_text m) d → IsAccepted d n → IsSameModule m n

-- the same, where modules are the same though their numbers stand in another order
pub record IsReadInOrder (m : ModuleState) : Type 0 where
  pub draft : List (ℕ × Line)
  pub other : ModuleState
  pub read : IsDraft (module_text m) draft
  pub accepted : IsAccepted draft other
  pub same : IsSameInOrder m other
  pub text : module_text other ≡ module_text m
  pub only : (d : List (ℕ × Line)) (n : ModuleState) → IsDraft (module_text m) d → IsAccepted d n → IsSameInOrder m n
