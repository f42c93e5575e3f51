use Rattle.std.proofs.Common.{refl, ap, subst, ◌∙◌}
use Rattle.std.specs.Prelude.{◌++◌, IfOk, IfErr}
use Rattle.ms_grammar.specs.declared.line.Line.{Line}
use Rattle.ms_line.specs.Sorts.{sort_of}
use Rattle.ms_line.specs.declared.sort.Sort.{Sort}
use Rattle.ms_read.specs.Draft.{said}
use Rattle.ms_read.specs.Next.{Goes, FailsThere}
use Rattle.ms_read.proofs.RowsRead.{kept_sort, taken_by, fails_by}
use Rattle.ms_read.proofs.module.take_row.Goals as goal

pub returns-in-Err-NotOfProfile-clause-err : goal.returns-in-Err-NotOfProfile-clause-err
returns-in-Err-NotOfProfile-clause-err c = (refl, λ line says. absurd ((rw c.in-Err-NotOfProfile.field-0-is at c.in-Err-NotOfProfile.ensures.err) line says))

pub returns-clause-ok : goal.returns-clause-ok
returns-clause-ok c =
    let read = c.in-Ok.ensures.ok in
    let sort = c.sort_of_line-sort.ensures ∙ ap sort_of read.kept ∙ kept_sort read.written in
    let appended = c.in_ok-push_said.ensures ∙ ap (λ (l : Line). c.args.draft.now ++ said c.args.number l) read.kept in
    taken_by c.next_of.result c.args.at c.args.number c.args.row.now c.args.draft.now c.push_said.new.draft read.written read.says read.within appended
    (subst (λ (s : Sort). IfOk c.next_of.result (Goes c.args.at s)) sort c.next_of.ensures.ok)

pub returns-clause-err : goal.returns-clause-err
returns-clause-err c =
    let read = c.in-Ok.ensures.ok in
    let sort = c.sort_of_line-sort.ensures ∙ ap sort_of read.kept ∙ kept_sort read.written in
    fails_by c.next_of.result c.args.at c.args.number c.args.row.now read.written read.says
    (subst (λ (s : Sort). IfErr c.next_of.result (FailsThere c.args.at c.args.number s)) sort c.next_of.ensures.err)
