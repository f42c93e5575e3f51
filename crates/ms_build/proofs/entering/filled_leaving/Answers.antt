use Rattle.std.proofs.Common.{refl, sym}
use Rattle.ms_build.proofs.Leaving.{leaving_list, leaves_true}
use Rattle.ms_build.proofs.entering.filled_leaving.Goals as goal

pub leaving-requires : goal.leaving-requires
leaving-requires c = leaves_true c.args.form.now c.args.x.0 (rw (← c.in-Some.ensures) refl)

pub returns-in-Some : goal.returns-in-Some
returns-in-Some c = (
  record { start = c.in-Some.field-0; entered = sym c.in-Some.ensures; leaves = sym c.leaving.ensures },
  leaving_list c.args.form.now c.args.x.0 c.leaving.result c.uses.ensures.table c.uses.ensures.users c.requires (sym c.leaving.ensures),
)
