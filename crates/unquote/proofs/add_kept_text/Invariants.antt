use Rattle.std.proofs.Common.{drop, false}
use Rattle.unquote.specs.Unquote.{kept_from}
use Rattle.buffer.specs.Buffer.{ReachedCapped}
use Rattle.unquote.proofs.add_kept_text.Given as goal

abbrev pub invariant-loop-b : goal.invariant-loop-b
invariant-loop-b g l = ReachedCapped (kept_from g.S.Stays.stays false l.text) (kept_from g.S.Stays.stays l.escaped (drop l.b-index l.text)) l.at l.initial.out l.out l.next
