use Rattle.ms_kept.proofs.Renamed.{room_right, room_back}
use Rattle.ms_kept.proofs.laws.rights_need_no_room.Goals as goal

pub returns : goal.returns
returns c = λ f k kept. ((λ are x h. room_right f k x (are x h)), (λ are x h. room_back f k x (are x h)))
