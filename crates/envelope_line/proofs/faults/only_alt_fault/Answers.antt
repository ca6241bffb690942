use Rattle.envelope_line.proofs.FaultLaws.{only_bare, only_retired, only_beside, only_fine, only_bad}
use Rattle.parameter.specs.ParameterLaws.{has_value_lem, has_none, value_part}
use mathlib.Core.Path.{sym, ◌∙◌}
use Rattle.envelope_line.proofs.faults.only_alt_fault.Goals as goal

pub returns-then-p-keyword_len : goal.returns-then-p-keyword_len
returns-then-p-keyword_len c = only_bare _ _ _ (has_none _ _ c.keyword_len.ensures c.if-p-keyword_len.true)

pub returns-then-not-allows_alternative : goal.returns-then-not-allows_alternative
returns-then-not-allows_alternative c = only_retired _ _ _ (has_value_lem _ _ c.keyword_len.ensures c.if-p-keyword_len.false) (sym c.allows_alternative.ensures ∙ c.if-not-allows_alternative.true)

pub returns-then-ascii : goal.returns-then-ascii
returns-then-ascii c = only_beside _ _ _ (has_value_lem _ _ c.keyword_len.ensures c.if-p-keyword_len.false) (sym c.allows_alternative.ensures ∙ c.if-not-allows_alternative.false) c.if-ascii.true

pub returns-then-is_alt_address : goal.returns-then-is_alt_address
returns-then-is_alt_address c = only_fine _ _ _ (has_value_lem _ _ c.keyword_len.ensures c.if-p-keyword_len.false) (sym c.allows_alternative.ensures ∙ c.if-not-allows_alternative.false) c.if-ascii.false (value_part _ _ c.part.ensures c.value_start.ensures.1) (sym c.is_alt_address.ensures ∙ c.if-is_alt_address.true)

pub returns : goal.returns
returns c = only_bad _ _ _ (has_value_lem _ _ c.keyword_len.ensures c.if-p-keyword_len.false) (sym c.allows_alternative.ensures ∙ c.if-not-allows_alternative.false) c.if-ascii.false (value_part _ _ c.part.ensures c.value_start.ensures.1) (sym c.is_alt_address.ensures ∙ c.if-is_alt_address.false)
