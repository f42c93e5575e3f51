-- How many edges lead to the blocks of a small graph.
use Rattle.std.proofs.Common.{◌≡◌, ℕ, List, [], ◌∷◌, length, refl}
use Rattle.ms_flow.specs.Flow.{FlowState}
use Rattle.ms_form.specs.Counts.{pred_count, pred_counts}

-- how many edges lead to each of three blocks
pub three_counts : (flow : FlowState) (i j k : ℕ) → length flow.graph ≡ 3 → pred_count flow 0 ≡ i → pred_count flow 1 ≡ j → pred_count flow 2 ≡ k → pred_counts flow ≡ i ∷ j ∷ k ∷ []
three_counts flow i j k n a b c =
    let computed : pred_counts flow ≡ pred_count flow 0 ∷ pred_count flow 1 ∷ pred_count flow 2 ∷ [] = rw n refl in
    cc
