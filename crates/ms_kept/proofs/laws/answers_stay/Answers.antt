use Rattle.ms_ir.specs.Changes.{with_source}
use Rattle.ms_ir.specs.Func.{after_put}
use Rattle.ms_cache.proofs.Told.{movable_idle}
use Rattle.ms_kept.proofs.Stayed.{put_right, taken_right, shifted_right, gone_right}
use Rattle.ms_kept.proofs.Renamed.{source_right}
use Rattle.ms_kept.proofs.Behind.{change_right, kept_right, own_other, cut_left}
use Rattle.ms_kept.proofs.laws.answers_stay.Goals as goal

pub returns-clause-put : goal.returns-clause-put
returns-clause-put c = λ f b place inst name movable numbered numbered_g sound_g a d is is_g change tells old new are what.
    change_right f (after_put f b place inst name) (after_put f b place inst name) f.made inst change tells old new are what
    (λ captures x ne spared r. put_right f b place inst name (movable_idle inst movable) numbered numbered_g sound_g a d is is_g captures x ne spared r)

pub returns-clause-taken : goal.returns-clause-taken
returns-clause-taken c = λ f g n inst t movable numbered sound a d is is_g change tells old new are what.
    change_right f g f n inst change tells old new are what
    (λ captures x ne spared r. taken_right f g n inst t (movable_idle inst movable) numbered sound a d is is_g captures x ne spared r)

pub returns-clause-shifted : goal.returns-clause-shifted
returns-clause-shifted c = λ f g n b place s lt movable numbered sound numbered_g sound_g a is change tells old new are what.
    change_right f g f n s.x.inst change tells old new are what
    (λ captures x ne spared r. shifted_right f g n b place s lt (movable_idle s.x.inst movable) numbered sound numbered_g sound_g a is x ne spared r)

pub returns-clause-source : goal.returns-clause-source
returns-clause-source c = λ f n arg change own old new are what.
    kept_right f (with_source f n arg) f change old new are what (λ x s r. source_right f n arg x (own_other f n change own x.0 s) r)

pub returns-clause-gone : goal.returns-clause-gone
returns-clause-gone c = λ f g n by numbered sound gone change own old new are what.
    kept_right f g f change old new are what (λ x s r. gone_right f g n by numbered sound gone x (own_other f n change own x.0 s) r)

pub returns-clause-unlinked : goal.returns-clause-unlinked
returns-clause-unlinked c = cut_left
