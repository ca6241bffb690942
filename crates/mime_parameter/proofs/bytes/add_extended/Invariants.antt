use Rattle.mime_parameter.specs.Extended.{extended}
use lib.ListN.{drop}
use Rattle.buffer.specs.Buffer.{ReachedCapped}
use Rattle.mime_parameter.proofs.bytes.add_extended.Given as goal

abbrev pub invariant-loop-b : goal.invariant-loop-b
invariant-loop-b l = ReachedCapped (extended l.text) (extended (drop l.b-index l.text)) l.at l.initial.out l.out l.next
