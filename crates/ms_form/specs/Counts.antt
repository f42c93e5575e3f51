-- How many edges lead to each block of a graph.
use Rattle.std.specs.Prelude.{ℕ, List, length, map}
use Rattle.std.specs.List.{range_with_len}
use Rattle.ms_flow.specs.Flow.{FlowState, sources_of}

-- how many edges lead to a block from reached blocks
abbrev pub pred_count : FlowState → ℕ → ℕ
pred_count flow b = length (sources_of flow.graph b)

-- the same for each block
abbrev pub pred_counts : FlowState → List ℕ
pred_counts flow = map (pred_count flow) (range_with_len 0 (length flow.graph))
