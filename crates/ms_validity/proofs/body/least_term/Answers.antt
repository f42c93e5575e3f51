use Rattle.std.proofs.Common.{ℕ, ◌+◌, Option, sym, subst, arith}
use Rattle.std.proofs.lemmas.Option.{slice_get_within}
use Rattle.ms_validity.specs.Told.{TermHas, Tells}
use Rattle.ms_validity.proofs.ToldLemmas.{Before, told_more, told_all}
use Rattle.ms_validity.proofs.body.least_term.Goals as goal

pub loop-b-preserved : goal.loop-b-preserved
loop-b-preserved c =
    let At = TermHas c.args.phase c.args.func.now c.args.lines.now in (
      c.term_line.ensures.view,
      subst (λ (o : Option ℕ). Tells (Before At (c.loop-b.b + 1)) o) (sym c.earlier-found.ensures)
          (told_more At c.loop-b.b c.loop-b.found c.term_line.result c.loop-b.invariant.1 c.term_line.ensures.told),
    )

pub returns-clause-told : goal.returns-clause-told
returns-clause-told c =
    told_all (TermHas c.args.phase c.args.func.now c.args.lines.now) c.loop-b.b c.loop-b.found
    (λ j n h.
    let lt = slice_get_within c.args.func.now.blocks j h.0 h.1 in
    let count = c.block_count-b-end.ensures in
    let end = c.loop-b-test.false in
    omega arith)
    c.loop-b.invariant.1
