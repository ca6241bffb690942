use mathlib.Core.Path.{refl, sym, ◌∙◌}
use Rattle.call.proofs.OutputLaws.{refused_observed, envelope_over, header_over, envelope_line_lem, to_ready}
use Rattle.offset.specs.Offset.{checked_offset}
use borrow.Author.Rules.{rules}
use Rattle.call.proofs.downgrade.Goals as goal

pub returns-then-envelope-gt16384 : goal.returns-then-envelope-gt16384
returns-then-envelope-gt16384 c = refused_observed _ _ _ _ _ (envelope_over _ _ _ _ _ c.if-envelope-gt16384.true) c.refused.ensures

pub returns-then-header-gt32768 : goal.returns-then-header-gt32768
returns-then-header-gt32768 c = refused_observed _ _ _ _ _ (header_over _ _ _ _ _ c.if-envelope-gt16384.false c.if-header-gt32768.true) c.refused-then-header-gt32768.ensures

pub downgrade_checked-requires : goal.downgrade_checked-requires
downgrade_checked-requires c = to_ready c.if-envelope-gt16384.false c.if-header-gt32768.false c.check.ensures c.in-Ok.is refl

pub returns-in-Err : goal.returns-in-Err
unfolding checked_offset
returns-in-Err c = refused_observed _ _ _ _ _ (envelope_line_lem _ _ _ _ _ c.if-envelope-gt16384.false c.if-header-gt32768.false _ _ _ (sym c.check.ensures.answer ∙ c.in-Err.is) c.of_fault-offset.ensures) c.refused-in-Err.ensures
