-- What is left of a file gets shorter by each line.
use Rattle.std.proofs.Common.{length}
use Rattle.run_edges.proofs.texts.file.Given as goal

abbrev pub decreases-loop-rest : goal.decreases-loop-rest
decreases-loop-rest l = length l.rest
