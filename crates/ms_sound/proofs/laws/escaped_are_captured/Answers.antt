use Rattle.ms_sound.proofs.Always.{holds}
use Rattle.ms_sound.proofs.laws.escaped_are_captured.Goals as goal

-- src/laws.rt:29:1
pub returns : goal.returns
returns c = λ f numbered once input fits n s on o e. (holds f input fits numbered once n s on).escaped o e
