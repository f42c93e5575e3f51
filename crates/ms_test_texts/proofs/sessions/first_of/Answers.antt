use Rattle.std.proofs.Common.{◌≡◌, Option, Some, None}
use Rattle.std.specs.Prelude.{IfSome, slice_get}
use Rattle.ms_ir.specs.Func.{FuncState}
use Rattle.ms_ir.specs.Module.{ModuleState, body_of}
use Rattle.ms_ir.specs.SoundFunc.{IsSoundFunc}
use Rattle.ms_alias.specs.Offsets.{AreOffsetsNear}
use Rattle.ms_validity.proofs.BodyLemmas.{body_found}
use Rattle.ms_output.specs.Forms.{AreOpen}
use Rattle.ms_test_texts.proofs.sessions.first_of.Goals as goal

first_sound : (m : ModuleState) → AreOpen m → (o : Option FuncState) → o ≡ body_of m 0 → IfSome o (λ f. IsSoundFunc f)
first_sound m all None e = tt
first_sound m all (Some f) e = (all 0 f (body_found (slice_get m.bodies 0) f e)).0

first_near : (m : ModuleState) → AreOpen m → (o : Option FuncState) → o ≡ body_of m 0 → IfSome o (λ f. AreOffsetsNear f)
first_near m all None e = tt
first_near m all (Some f) e = (all 0 f (body_found (slice_get m.bodies 0) f e)).1

pub returns-clause-sound : goal.returns-clause-sound
returns-clause-sound c = first_sound c.args.m.now c.requires c.take_func.result c.take_func.ensures.body

pub returns-clause-near : goal.returns-clause-near
returns-clause-near c = first_near c.args.m.now c.requires c.take_func.result c.take_func.ensures.body
