use Rattle.ms_paths.proofs.Starts.{between_events}
use Rattle.ms_paths.proofs.laws.between_events.Goals as goal

pub returns : goal.returns
returns c = between_events
