use Rattle.std.proofs.Common.{◌≡◌, Some}
use Rattle.ms_form.specs.Form.{HasList}
use Rattle.ms_build.specs.Filled.{AreDefined, before_at}
use Rattle.ms_ir.proofs.Along.{IsCursor}
use Rattle.ms_build.proofs.Define.{UpTo}
use Rattle.ms_build.proofs.filling.define_block.Given as goal

-- the first instructions are done
abbrev pub invariant-loop-place : goal.invariant-loop-place
invariant-loop-place l =
    AreDefined l.func.blocks (UpTo l.fn.b.0 l.place) l.fn.form l.form × (Some l.access ≡ before_at l.func.blocks l.fn.b.0 l.place (Some l.fn.start))
    × HasList l.form l.access × IsCursor l.func.blocks l.fn.b.0 l.place l.at
    × (l.form.waiting ≡ l.fn.form.waiting) × (l.form.spare ≡ l.fn.form.spare)
