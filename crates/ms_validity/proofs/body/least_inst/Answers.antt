use Rattle.std.proofs.Common.{ℕ, ◌+◌, Option, sym, subst, arith}
use Rattle.ms_validity.specs.Told.{InstHas, Tells}
use Rattle.ms_validity.proofs.ToldLemmas.{Before, told_more, told_all}
use Rattle.ms_validity.proofs.body.least_inst.Goals as goal

pub loop-i-preserved : goal.loop-i-preserved
loop-i-preserved c =
    let At = InstHas c.args.phase c.args.m.now c.args.func.now c.args.lines.now in (
      c.inst_line.ensures.view,
      subst (λ (o : Option ℕ). Tells (Before At (c.loop-i.i + 1)) o) (sym c.earlier-found.ensures)
          (told_more At c.loop-i.i c.loop-i.found c.in_ok-inst_line.field-0 c.loop-i.invariant.1 c.in_ok-inst_line.ensures.told),
    )

pub returns-clause-told : goal.returns-clause-told
returns-clause-told c =
    told_all (InstHas c.args.phase c.args.m.now c.args.func.now c.args.lines.now) c.loop-i.i c.loop-i.found
    (λ j n h.
    let below = c.numbered.ensures.below_made h.0 h.1 h.2 h.3.found in
    let number = h.3.numbered in
    let made = c.made-i-end.ensures in
    let end = c.loop-i-test.false in
    omega arith)
    c.loop-i.invariant.1
