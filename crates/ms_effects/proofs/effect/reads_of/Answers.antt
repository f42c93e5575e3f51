use Rattle.std.proofs.Common.{pos}
use Rattle.std.proofs.lemmas.Bool.{both_ways}
use Rattle.ms_alias.specs.declared.loc.Loc.TheVariants.{Bytes}
use Rattle.ms_effects.proofs.Told.{read_as_span, other_bytes}
use Rattle.ms_effects.proofs.effect.reads_of.Goals as goal

pub returns-in-Some : goal.returns-in-Some
returns-in-Some c =
    let s = c.in-Some.span in
    let there = (c.reads.ensures (Bytes c.args.root s.from s.len)).0 ((c.range_of.ensures s.from s.len).0 c.in-Some.is) in
    c.effects_are_ranges.ensures.range c.args.func.now c.numbered.ensures c.args.i.0 there.0 there.1 there.2 there.3 c.args.root s.from s.len c.requires.fixed
    (read_as_span c.args.func.now c.args.i there.2.inst c.args.root s.from s.len there.4)

pub returns-then-may_read : goal.returns-then-may_read
returns-then-may_read c = λ k. (
  λ h. tt,
  λ h. other_bytes c.args.func.now c.args.i c.args.root (c.effects_are_ranges.ensures.otherwise c.args.func.now c.numbered.ensures) c.range_of.result c.reads.result c.range_of.ensures c.reads.ensures c.in-None.is
      (pos 0) k ((c.may_read.ensures.told c.requires.alias).0 c.if-may_read.true),
)

pub returns-else-may_read : goal.returns-else-may_read
returns-else-may_read c = λ k. (
  λ h. both_ways c.may_read.result c.if-may_read.false ((c.may_read.ensures.told c.requires.alias).1
      (other_bytes c.args.func.now c.args.i c.args.root (c.effects_are_ranges.ensures.otherwise c.args.func.now c.numbered.ensures) c.range_of.result c.reads.result c.range_of.ensures c.reads.ensures c.in-None.is k (pos 0) h)),
  λ h. absurd h,
)
