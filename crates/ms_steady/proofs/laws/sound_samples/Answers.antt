use Rattle.ms_steady.proofs.Functions.{no_block, used_early, is_mistyped, is_great, first_block_entered, block_not_there, is_late_alloca, is_late_phi, is_short_phi, adds_sound}
use Rattle.ms_steady.proofs.laws.sound_samples.Goals as goal

pub returns : goal.returns
returns c = record {
  adds = adds_sound;
  no_block = no_block;
  used_early = used_early;
  mistyped = is_mistyped;
  great_number = is_great;
  first_block_entered = first_block_entered;
  block_not_there = block_not_there;
  late_alloca = is_late_alloca;
  late_phi = is_late_phi;
  short_phi = is_short_phi;
}
