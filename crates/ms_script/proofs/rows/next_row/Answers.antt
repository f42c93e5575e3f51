use Rattle.std.proofs.Common.{◌-◌, ◌<◌, length, drop, arith, length-drop}
use Rattle.std.proofs.lemmas.List.{take_all}
use Rattle.std.proofs.lemmas.Bool.Decides.{nat_tests}
use Rattle.ms_read.proofs.RowLemmas.{rest_rows, none_behind}
use Rattle.ms_script.proofs.rows.next_row.Goals as goal

pub returns-in-empty-clause-rows : goal.returns-in-empty-clause-rows
returns-in-empty-clause-rows c =
    let some : 0 < length c.args.bytes.now = grind (arith, nat_tests) in
    rest_rows c.args.bytes.now c.split_at.result.0.now c.split_at.result.1.now _ c.count_row.result some c.count_row.ensures.first c.split_at.ensures.front c.split_at.ensures.back (none_behind c.split_at.result.1.now c.in-empty.len_below)

pub returns-in-len1-up-clause-rows : goal.returns-in-len1-up-clause-rows
returns-in-len1-up-clause-rows c =
    let end = c.split_at.result.1.now in
    let some : 0 < length c.args.bytes.now = grind (arith, nat_tests) in
    rest_rows c.args.bytes.now c.split_at.result.0.now end _ c.count_row.result some c.count_row.ensures.first c.split_at.ensures.front c.split_at.ensures.back (take_all (length end - 1) (drop 1 end) (simp length-drop (omega arith)))
