use Rattle.doac.proofs.replays.write_replay.Goals as goal

pub returns-then-states : goal.returns-then-states
returns-then-states g c = rw c.if-states.true (rw (c.deref.ensures.value, c.deref-then-states.ensures.value, c.deref-then-states-2.ensures.value) at c.state_texts.ensures)
