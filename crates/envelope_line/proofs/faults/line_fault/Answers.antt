use Rattle.envelope_line.proofs.FaultLaws.{line_long, line_not_utf8, line_no_verb, line_no_path, line_open, line_tail}
use Rattle.envelope_line.proofs.PathLaws.{path_at}
use Rattle.address.specs.AddressLaws.{byte_within}
use native.Mathlib.Omega.{arith}
use mathlib.Core.Path.{sym, ◌∙◌}
use Rattle.envelope_line.proofs.faults.line_fault.Goals as goal

pub returns-then-line-gt998 : goal.returns-then-line-gt998
returns-then-line-gt998 c = line_long _ _ _ c.if-line-gt998.true

pub returns-then-not-is_utf8 : goal.returns-then-not-is_utf8
returns-then-not-is_utf8 c = line_not_utf8 _ _ _ c.if-line-gt998.false (sym c.is_utf8.ensures ∙ c.if-not-is_utf8.true)

pub returns-then-not-has_verb : goal.returns-then-not-has_verb
returns-then-not-has_verb c = line_no_verb _ _ _ c.if-line-gt998.false (sym c.is_utf8.ensures ∙ c.if-not-is_utf8.false) (sym c.has_verb.ensures ∙ c.if-not-has_verb.true)

pub returns-in_default : goal.returns-in_default
unfolding path_at
returns-in_default c = line_no_path _ _ _ c.if-line-gt998.false (sym c.is_utf8.ensures ∙ c.if-not-is_utf8.false) (sym c.has_verb.ensures ∙ c.if-not-has_verb.false) _ (sym c.in_default.is ∙ c.path.ensures)

pub returns-then-byte_at-ne62 : goal.returns-then-byte_at-ne62
unfolding path_at
returns-then-byte_at-ne62 c = line_open _ _ _ c.if-line-gt998.false (sym c.is_utf8.ensures ∙ c.if-not-is_utf8.false) (sym c.has_verb.ensures ∙ c.if-not-has_verb.false) _ (sym c.in-Ok.is ∙ c.path.ensures) (λ e. c.if-byte_at-ne62.true (c.byte_at.ensures ∙ e))

pub overflow_add-end : goal.overflow_add-end
overflow_add-end c = omega (arith, byte_within c.args.line.now c.in-Ok.end 61 (sym c.byte_at.ensures ∙ c.if-byte_at-ne62.false))

pub returns : goal.returns
unfolding path_at
returns c = line_tail _ _ _ c.if-line-gt998.false (sym c.is_utf8.ensures ∙ c.if-not-is_utf8.false) (sym c.has_verb.ensures ∙ c.if-not-has_verb.false) _ (sym c.in-Ok.is ∙ c.path.ensures) (sym c.byte_at.ensures ∙ c.if-byte_at-ne62.false) (c.part.ensures ∙ rw c.path_start.ensures) c.is_ascii.ensures c.tail_fault.ensures
