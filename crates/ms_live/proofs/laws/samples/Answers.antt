use Rattle.std.proofs.Common.{refl}
use Rattle.ms_live.proofs.Sampled.{first_is_dead, second_is_left, first_alone, begin_and_end, below_three, loaded_is_live, loaded_is_stored, own_is_dead, empty_is_dead}
use Rattle.ms_live.proofs.laws.samples.Goals as goal

pub returns : goal.returns
returns c = record {
  overwritten = first_is_dead;
  left_at_return = second_is_left;
  without = refl;
  exactly = first_alone;
  columns = begin_and_end;
  nearest = below_three;
  live = loaded_is_live;
  loaded = loaded_is_stored;
  own = own_is_dead;
  empty = empty_is_dead;
}
