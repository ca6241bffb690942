use Rattle.buffer.specs.Buffer.{ReachedCapped}
use Rattle.envelope.specs.LineStarts.{entries}
use Rattle.envelope.proofs.WrittenLaws.{rcpts_written, entries_from}
use Rattle.envelope.proofs.output.put.Given as goal

abbrev pub invariant-loop-at : goal.invariant-loop-at
invariant-loop-at l = ReachedCapped (rcpts_written l.envelope (entries l.n l.starts)) (rcpts_written l.envelope (entries_from l.at-index l.n l.starts)) l.initial.next l.initial.out l.out l.next
