use Rattle.ms_alias.specs.declared.loc.Loc.TheVariants.{Bytes}
use Rattle.ms_effects.proofs.Told.{written_as_span, none_written}
use Rattle.ms_effects.proofs.effect.writes_of.Goals as goal

pub returns-in-Some : goal.returns-in-Some
returns-in-Some c =
    let s = c.in-Some.span in
    let there = (c.writes.ensures (Bytes c.args.root s.from s.len)).0 ((c.range_of.ensures s.from s.len).0 c.in-Some.is) in
    c.effects_are_ranges.ensures.written c.args.func.now c.numbered.ensures c.args.i.0 there.0 there.1 there.2 there.3 c.args.root s.from s.len c.requires.fixed
    (written_as_span c.args.func.now there.2.inst c.args.root s.from s.len there.4)

pub returns-in-None : goal.returns-in-None
returns-in-None c = λ k. (
  none_written c.args.func.now c.args.i c.args.root c.range_of.result c.writes.result c.range_of.ensures c.writes.ensures c.in-None.is k,
  λ h. absurd h,
)
