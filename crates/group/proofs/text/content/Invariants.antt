use Rattle.std.specs.Prelude.{◌≡◌, length, take}
use Rattle.group.specs.Trimmed.{content_len}
use Rattle.group.proofs.text.content.Given as goal

abbrev pub invariant-loop-last : goal.invariant-loop-last
invariant-loop-last l = take (content_len l.t) l.t ≡ take (content_len l.rest) l.rest

abbrev pub decreases-loop-last : goal.decreases-loop-last
decreases-loop-last l = length l.rest
