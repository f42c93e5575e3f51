use Rattle.std.proofs.Common.{◌∙◌}
use Rattle.std.proofs.lemmas.Result.{err_from_is_err_and}
use Rattle.ms_cli.proofs.Taken.{cut_answer, cut_more, cut_same, whole_same, whole_then, whole_then_cut}
use Rattle.ms_cli.proofs.report.tell_name.Goals as goal

pub returns-in_err-write_all : goal.returns-in_err-write_all
returns-in_err-write_all g c =
    let p = err_from_is_err_and c.from_residual.result c.from_residual.ensures.1 in
    cut_answer c.from_residual.result _ p.1 (cut_more _ (cut_more _ c.in_err-write_all.ensures))

pub returns-in_err-write_all-2 : goal.returns-in_err-write_all-2
returns-in_err-write_all-2 g c =
    let r = c.from_residual-in_err-write_all-2 in
    let p = err_from_is_err_and r.result r.ensures.1 in
    cut_answer r.result _ p.1
    (cut_more _ (whole_then_cut c.in_ok-write_all.ensures (cut_same (c.as_bytes.ensures.value ∙ c.name_or_nothing.ensures) c.in_err-write_all-2.ensures)))

pub returns-in_err-write_all-3 : goal.returns-in_err-write_all-3
returns-in_err-write_all-3 g c =
    let r = c.from_residual-in_err-write_all-3 in
    let p = err_from_is_err_and r.result r.ensures.1 in
    cut_answer r.result _ p.1
    (whole_then_cut
    (whole_then c.in_ok-write_all.ensures (whole_same (c.as_bytes.ensures.value ∙ c.name_or_nothing.ensures) c.in_ok-write_all-2.ensures))
    c.in_err-write_all-3.ensures)
