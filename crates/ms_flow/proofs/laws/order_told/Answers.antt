use Rattle.ms_flow.proofs.Listed.{all_fine, reducible_fine}
use Rattle.ms_flow.proofs.Orders.{left_once, order_reached, place_below, place_one, placed_edge}
use Rattle.ms_flow.proofs.Paths.{reached_left}
use Rattle.ms_flow.proofs.laws.order_told.Goals as goal

pub returns : goal.returns
returns c = record {
  listed = reached_left;
  once = left_once;
  reached = order_reached;
  below = place_below;
  one = place_one;
  edges = placed_edge;
  order = λ g closed red. all_fine g closed (λ b lt. reducible_fine g closed (λ x y p k. c.order_told.ensures.back g x y p.way red p.path p.apart p.on k) b);
}
