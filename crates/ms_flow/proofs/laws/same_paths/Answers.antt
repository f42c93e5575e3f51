use Rattle.ms_flow.proofs.Tables.{edges_closed, length-edges_of}
use Rattle.ms_flow.proofs.Same.{edges_same, every_same, paths_same, reached_same, reducible_same, targets_same, walks_same}
use Rattle.ms_flow.proofs.laws.same_paths.Goals as goal

pub returns : goal.returns
returns c = record {
  blocks = length-edges_of;
  targets = targets_same;
  edges = edges_same;
  paths = paths_same;
  reached = reached_same;
  walks = walks_same;
  on_every_path = every_same;
  reducible = reducible_same;
  closed = edges_closed;
}
