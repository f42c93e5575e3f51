use Rattle.std.proofs.Common.{Some, sym, ap, ◌∙◌}
use Rattle.ms_alias.proofs.Makers.{home_none, home_still, home_moving, not_nowhere, moves}
use Rattle.ms_alias.proofs.maker.home.Goals as goal

pub returns-in-None : goal.returns-in-None
returns-in-None c = home_none c.args.func.now c.args.l c.in-None.ensures.found

pub returns-in-None-inst : goal.returns-in-None-inst
returns-in-None-inst c =
    let d = c.in-Some.ensures.found in
    absurd (not_nowhere c.args.func.now.blocks c.in-Some.i.0 d.0 d.1 d.2 d.3 c.in-None-inst.ensures.found)

pub returns-then-not-moves : goal.returns-then-not-moves
returns-then-not-moves c =
    let d = c.in-Some.ensures.found in
    home_still c.args.func.now c.args.l c.numbered.ensures d.0 d.1 d.2 (record { found = d.3.found; gives = d.4 }) (ap moves (c.in-Some-inst.ensures.each d.0 d.1 d.2 d.3) ∙ sym c.moves.ensures ∙ c.if-not-moves.true)

pub returns-in-Some-place_of : goal.returns-in-Some-place_of
returns-in-Some-place_of c =
    let d = c.in-Some.ensures.found in
    let p = c.in-Some-place_of.ensures in
    let one = c.numbered.ensures.one_place c.in-Some-place_of.block.0 c.in-Some-place_of.field-0-1 d.0 d.1 p.0 d.2 p.1.found d.3.found (p.1.numbered ∙ sym d.3.numbered) in
    ap Some one.0 ∙ home_moving c.args.func.now c.args.l c.numbered.ensures d.0 d.1 d.2 (record { found = d.3.found; gives = d.4 }) (ap moves (c.in-Some-inst.ensures.each d.0 d.1 d.2 d.3) ∙ sym c.moves.ensures ∙ c.if-not-moves.false)

pub returns-in-None-place_of : goal.returns-in-None-place_of
returns-in-None-place_of c =
    let d = c.in-Some.ensures.found in
    absurd (not_nowhere c.args.func.now.blocks c.in-Some.i.0 d.0 d.1 d.2 d.3 c.in-None-place_of.ensures)
