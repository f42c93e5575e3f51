use Rattle.std.proofs.Common.{◌≡◌, ◌++◌, ℕ, List}
use Rattle.std.proofs.lemmas.Result.{err_from_is_err_and}
use Rattle.ms_cli.proofs.Taken.{cut_answer, cut_more, cut_same, whole_same, whole_then, whole_then_cut}
use Rattle.ms_cli.proofs.report.tell_place.Goals as goal

same_begin : {a b : List ℕ} (n m : List ℕ) → a ≡ b → a ++ n ++ m ≡ b ++ n ++ m
same_begin n m p = cc

pub returns-in_err-tell_name : goal.returns-in_err-tell_name
returns-in_err-tell_name g c =
    let p = err_from_is_err_and c.from_residual.result c.from_residual.ensures.1 in
    cut_answer c.from_residual.result _ p.1
    (cut_more _ (cut_more _ (cut_same (same_begin _ _ c.program_text.ensures) c.in_err-tell_name.ensures)))

pub returns-in_err-write_all : goal.returns-in_err-write_all
returns-in_err-write_all g c =
    let r = c.from_residual-in_err-write_all in
    let p = err_from_is_err_and r.result r.ensures.1 in
    cut_answer r.result _ p.1
    (cut_more _
    (whole_then_cut
    (whole_same (same_begin _ _ c.program_text.ensures) c.in_ok-tell_name.ensures)
    c.in_err-write_all.ensures))

pub returns-in_err-write_all-2 : goal.returns-in_err-write_all-2
returns-in_err-write_all-2 g c =
    let r = c.from_residual-in_err-write_all-2 in
    let p = err_from_is_err_and r.result r.ensures.1 in
    cut_answer r.result _ p.1
    (whole_then_cut
    (whole_then
    (whole_same (same_begin _ _ c.program_text.ensures) c.in_ok-tell_name.ensures)
    c.in_ok-write_all.ensures)
    c.in_err-write_all-2.ensures)
