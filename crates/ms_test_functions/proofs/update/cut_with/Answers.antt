use Rattle.ms_test_functions.proofs.update.cut_with.Goals as goal

pub returns : goal.returns
returns g c = record {
  graph = c.drop_edge.ensures.graph;
  closed = c.drop_edge.ensures.closed;
  reducible = c.drop_edge.ensures.reducible;
  form = c.drop_edge.ensures.form;
  places = c.drop_edge.ensures.places;
  waiting = c.drop_edge.ensures.waiting;
}
