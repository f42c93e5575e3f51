use Rattle.ms_paths.proofs.Updates.{put_form}
use Rattle.ms_paths.proofs.laws.put_form.Goals as goal

pub returns : goal.returns
returns c = put_form
