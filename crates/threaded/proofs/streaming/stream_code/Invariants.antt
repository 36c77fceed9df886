use Rattle.threaded.proofs.streaming.stream_code.Given as goal

abbrev pub ghost-run_onto : goal.ghost-run_onto
ghost-run_onto g a = g.text
