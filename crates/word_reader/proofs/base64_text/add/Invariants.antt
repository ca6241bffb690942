use lib.ListN.{length}
use Rattle.word_reader.specs.WordLaws.{Groups}
use Rattle.word_reader.proofs.base64_text.add.Given as goal

abbrev pub invariant-loop-quad : goal.invariant-loop-quad
invariant-loop-quad l = Groups l.s l.at l.initial.out l.out l.rest l.place l.good

abbrev pub decreases-loop-quad : goal.decreases-loop-quad
decreases-loop-quad l = length l.rest
