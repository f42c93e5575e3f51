use Rattle.ms_test_texts.proofs.sessions.read.Goals as goal

pub returns-in-Ok : goal.returns-in-Ok
returns-in-Ok c = (c.args.text.now, c.in-Ok.ensures.ok)
