use Rattle.std.specs.Prelude.{◌≡◌, ℕ, List, Some, slice_get}
use Rattle.std.proofs.lemmas.Result.{IfOk-weaker}
use Rattle.ms_ir.specs.Func.{FuncState}
use Rattle.ms_ir.specs.SoundFunc.{IsSoundFunc}
use Rattle.ms_read.specs.Draft.{IsDraft}
use Rattle.ms_validity.specs.Cause.{IsAccepted}
use Rattle.ms_valid.specs.Limits.{IsModuleWithin}
use Rattle.ms_valid.specs.Module.{IsAcceptedModule}
use Rattle.ms_valid.proofs.draft.accept.Goals as goal

pub returns-clause-module : goal.returns-clause-module
returns-clause-module c =
    IfOk-weaker c.accept.result (λ m. IsAccepted c.args.draft.now m) (λ m. (bytes : List ℕ) → IsDraft bytes c.args.draft.now → IsAcceptedModule m)
    (λ m accepted bytes read. c.modules_are_accepted.ensures bytes c.args.draft.now m read accepted) c.accept.ensures.ok

pub returns-clause-limits : goal.returns-clause-limits
returns-clause-limits c =
    IfOk-weaker c.accept.result (λ m. IsAccepted c.args.draft.now m) (λ m. (bytes : List ℕ) → IsDraft bytes c.args.draft.now → IsModuleWithin m)
    (λ m accepted bytes read. c.modules_are_within_limits.ensures bytes c.args.draft.now m read accepted) c.accept.ensures.ok

pub returns-clause-sound : goal.returns-clause-sound
returns-clause-sound c =
    IfOk-weaker c.accept.result (λ m. IsAccepted c.args.draft.now m)
    (λ m. (bytes : List ℕ) → IsDraft bytes c.args.draft.now → (n : ℕ) (f : FuncState) → slice_get m.bodies n ≡ Some (Some f) → IsSoundFunc f)
    (λ m accepted bytes read. c.accepted_are_sound.ensures bytes c.args.draft.now m read accepted) c.accept.ensures.ok
