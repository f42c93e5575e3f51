use Rattle.std.proofs.Common.{ℕ, ◌+◌, Option, sym, subst, arith}
use Rattle.std.proofs.lemmas.Option.{slice_get_within}
use Rattle.ms_validity.specs.Raw.{LineHas}
use Rattle.ms_validity.specs.Told.{Tells}
use Rattle.ms_validity.proofs.ToldLemmas.{Before, told_more, told_all}
use Rattle.ms_validity.proofs.raw.draft_fault.Goals as goal

pub loop-k-preserved : goal.loop-k-preserved
loop-k-preserved c =
    let At = LineHas c.args.names.now c.args.draft.now in
    subst (λ (o : Option ℕ). Tells (Before At (c.loop-k.k + 1)) o) (sym c.earlier-found.ensures)
    (told_more At c.loop-k.k c.loop-k.found c.in_ok-raw_line.field-0 c.loop-k.invariant c.in_ok-raw_line.ensures)

pub returns : goal.returns
returns c =
    told_all (LineHas c.args.names.now c.args.draft.now) c.loop-k.k c.loop-k.found
    (λ j n h.
    let lt = slice_get_within c.args.draft.now j _ h.1 in
    let count = c.len-k-end.ensures in
    let end = c.loop-k-test.false in
    omega arith)
    c.loop-k.invariant
