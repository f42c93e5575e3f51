use Rattle.std.proofs.Common.{◌≡◌, map}
use Rattle.std.specs.List.{range_with_len}
use Rattle.ms_form.specs.Counts.{pred_count}
use Rattle.ms_form.proofs.form.Form.empty.Given as goal

-- the blocks so far are counted
abbrev pub invariant-loop-b : goal.invariant-loop-b
invariant-loop-b l = l.counts.items ≡ map (pred_count l.flow) (range_with_len 0 l.b)
