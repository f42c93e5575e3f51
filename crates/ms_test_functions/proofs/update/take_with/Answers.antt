use Rattle.std.proofs.Common.{◌≡◌, ◌∙◌, sym}
use Rattle.ms_update.specs.Edits.{func_without}
use Rattle.ms_test_functions.proofs.update.take_with.Goals as goal

pub returns : goal.returns
returns g c =
    let i = c.args.i.0 in
    let old = c.args.f.now in
    let same : c.take.new.f ≡ func_without i old = c.without_told.ensures.taken old c.take.new.f i c.take.ensures.0 c.numbered.ensures c.take.ensures.1 in
    rw same (record {
      graph = c.requires.graph ∙ sym (c.without_told.ensures.edges i old.blocks);
      closed = (c.without_told.ensures.closed i old.blocks).1 c.requires.closed;
      reducible = c.requires.reducible;
      form = c.remove.ensures.form;
      places = record { blocks = c.remove.ensures.places.blocks; slots = c.remove.ensures.places.slots; numbers = c.remove.ensures.places.numbers };
      waiting = c.remove.ensures.waiting;
    })
