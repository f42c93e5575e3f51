-- What attributes mean, as functions.
use Rattle.std.specs.Prelude.{ℕ, Bool, List}
use Rattle.ms_ir.specs.declared.inst.Effects.{Effects}
use Rattle.ms_attrs.proofs.MeaningLemmas.{some_effects, some_keeps}

abbrev pub effects_in : List (ℕ × List ℕ) → List ℕ → Effects
effects_in groups post = (some_effects post groups).0

abbrev pub keeps_in : List ℕ → Bool
keeps_in attrs = (some_keeps attrs).0
