use Rattle.std.proofs.Common.{◌∙◌, inl, refl, sym, arith}
use Rattle.ms_flow.specs.Flow.{sources_of}
use Rattle.ms_build.proofs.Slots.{blocks_of_form}
use Rattle.ms_build.proofs.Lists.{member_at}
use Rattle.ms_build.proofs.Coming.{has_other}
use Rattle.ms_build.proofs.Whole.{target_reached}
use Rattle.ms_build.proofs.settling.try_out.Goals as goal

pub only_other-requires-clause-block : goal.only_other-requires-clause-block
only_other-requires-clause-block c = let n = blocks_of_form c.args.flow.now 0 c.args.form.now c.requires.places in let b = c.requires.block in omega arith

pub only_other-requires-clause-other : goal.only_other-requires-clause-other
only_other-requires-clause-other c = λ some.
    let g = c.args.flow.now.graph in
    let first = member_at (sources_of g c.args.b.0) 0 (omega (arith, some)) in
    has_other g c.args.form.now c.args.b c.requires.consistent (c.sources_told.ensures.all g c.requires.closed)
    (target_reached g (c.sources_told.ensures.edges g c.requires.closed) c.args.b.0 0 first.0 first.1) (sym c.phi_at.ensures ∙ c.if-not-phi_at.false)

pub returns-in_default-clause-tried : goal.returns-in_default-clause-tried
returns-in_default-clause-tried c = inl (record { same = refl; none = λ a had t. c.in_default.ensures a t })
