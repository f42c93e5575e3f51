use Rattle.std.proofs.Common.{◌≡◌, Option, Some, None}
use Rattle.std.specs.Prelude.{ℕ, IfSome, slice_get}
use Rattle.ms_ir.specs.Func.{FuncState}
use Rattle.ms_ir.specs.Module.{ModuleState, body_of}
use Rattle.ms_ir.specs.SoundFunc.{IsSoundFunc}
use Rattle.ms_alias.specs.Offsets.{AreOffsetsNear}
use Rattle.ms_validity.proofs.BodyLemmas.{body_found}
use Rattle.ms_output.specs.Forms.{AreOpen}
use Rattle.ms_test_scripts.proofs.modules.func_of.Goals as goal

opened : (m : ModuleState) (n : ℕ) → AreOpen m → (o : Option FuncState) → o ≡ body_of m n → IfSome o (λ f. IsSoundFunc f × AreOffsetsNear f)
opened m n all None e = tt
opened m n all (Some f) e = all n f (body_found (slice_get m.bodies n) f e)

pub returns : goal.returns
returns c = opened c.args.m.now c.args.f.0 c.requires _ c.func.ensures
