use Rattle.std.proofs.Common.{length, sym, ap, ◌∙◌, arith}
use Rattle.ms_alias.specs.Tables.{BasesState}
use Rattle.ms_alias.proofs.Filled.{filled_more, filled_skip, filled_room, filled_all, row_there}
use Rattle.ms_alias.proofs.rows.fill_rows.Goals as goal
use Rattle.ms_alias.proofs.rows.fill_rows.Goals.{in-Brought, in_default}

pub fill_row-requires-clause-room : goal.fill_row-requires-clause-room
fill_row-requires-clause-room c = filled_room c.args.func.now c.args.bases.now c.loop-l.bases c.loop-l.l c.requires.room c.loop-l.invariant.0

pub fill_row-requires-clause-row : goal.fill_row-requires-clause-row
fill_row-requires-clause-row c =
    let a = c.loop-l.invariant.0 in
    row_there c.args.func.now c.args.bases.now c.loop-l.bases c.loop-l.l c.in-Brought.field-0 c.requires.room a (sym c.in-Brought.ensures) ∙ sym (ap (λ (b : BasesState). length b.columns) a.same)

pub loop-l-preserved : goal.loop-l-preserved
loop-l-preserved c =
    let a = c.loop-l.invariant.0 in
    let columns = ap (λ (b : BasesState). length b.columns) a.same in
    let sets = ap (λ (b : BasesState). length b.sets) a.same in
    let size = c.count-l-end.ensures in
    let below = c.loop-l-test.true in
    elim c.match-set_of.branch [
      | in-Brought w ↦
          rw (w.bases-is, w.flood-is) (
            filled_more c.args.func.now c.args.bases.now c.loop-l.bases w.fill_row.new.bases c.loop-l.l c.requires.room a (omega arith) w.fill_row.ensures.kept w.fill_row.ensures.row (w.fill_row.ensures.len ∙ columns),
            w.fill_row.ensures.marks ∙ sets,
            w.fill_row.ensures.bits ∙ columns,
          )
      | in_default w ↦
          rw (w.bases-is, w.flood-is) (
            filled_skip c.args.func.now c.args.bases.now c.loop-l.bases c.loop-l.l a (λ k e. w.in_default.not-Brought k (c.set_of.ensures ∙ e)),
            c.loop-l.invariant.1,
            c.loop-l.invariant.2,
          )
    ]

pub returns-clause-room : goal.returns-clause-room
returns-clause-room c = filled_room c.args.func.now c.args.bases.now c.loop-l.bases c.loop-l.l c.requires.room c.loop-l.invariant.0

pub returns-clause-bases : goal.returns-clause-bases
returns-clause-bases c =
    let stop = c.loop-l-test.false in
    let size = c.count-l-end.ensures in
    filled_all c.args.func.now c.args.bases.now c.loop-l.bases c.loop-l.l c.requires.room c.loop-l.invariant.0 (omega arith)
