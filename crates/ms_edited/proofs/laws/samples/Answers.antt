use Rattle.std.proofs.Common.{refl}
use Rattle.ms_edited.proofs.Sampled.{no_block_there, no_local_there, no_source_there, name_taken, before_phi, past_end, phi_stays, phi_without_edge, pointer_stored, used_too_early, load_used, no_fork, no_slot, insert_fine, move_fine, remove_fine, unlink_fine}
use Rattle.ms_edited.proofs.laws.samples.Goals as goal

pub returns : goal.returns
returns c = record {
  insert = refl;
  insert_load = refl;
  remove = refl;
  place_without = refl;
  unlink = refl;
  first_entry = refl;
  no_block = no_block_there;
  no_local = no_local_there;
  no_source = no_source_there;
  name_taken = name_taken;
  before_phi = before_phi;
  past_end = past_end;
  phi = phi_stays;
  idle_phi = phi_without_edge;
  other_type = pointer_stored;
  too_early = used_too_early;
  used = load_used;
  no_fork = no_fork;
  no_slot = no_slot;
  insert_fine = insert_fine;
  move_fine = move_fine;
  remove_fine = remove_fine;
  unlink_fine = unlink_fine;
}
