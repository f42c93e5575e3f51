use Rattle.std.proofs.Common.{◌≡◌, Some, None, sym, ◌∙◌}
use Rattle.ms_build.specs.Accesses.{event_of}
use Rattle.ms_session.proofs.UseLemmas.{use_named, none_read}
use Rattle.ms_session.proofs.uses.named_by_use.Goals as goal

pub returns-in_ok-walk-in-Some : goal.returns-in_ok-walk-in-Some
returns-in_ok-walk-in-Some c =
    use_named c.args.of.now.func.now c.numbered.ensures.one_place c.args.i c.in-Some.loc (event_of c.in_ok-walk-in-Some.field-0)
    ((c.reads.ensures c.in-Some.loc).0 c.in-Some.is) c.in_ok-walk-in-Some.ensures.clobber

pub returns-in-None : goal.returns-in-None
returns-in-None c =
    none_read c.args.of.now.func.now c.args.i (λ loc read. let some : None ≡ Some loc = sym c.in-None.is ∙ (c.reads.ensures loc).1 read in absurd (cc))
