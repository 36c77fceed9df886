use Rattle.std.proofs.Common.{refl, rules}
use Rattle.threaded.proofs.streaming.run_onto.Goals as goal

pub stream_code-requires-sync-R : goal.stream_code-requires-sync-R
stream_code-requires-sync-R g c κs within = (search rules, (search rules, (search rules, ((search rules, search rules), refl))))
