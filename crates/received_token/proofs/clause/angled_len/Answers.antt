use mathlib.Core.Path.{sym, ◌∙◌}
use native.Mathlib.Omega.{arith}
use Rattle.address.specs.AddressLaws.{byte_within}
use Rattle.received_token.proofs.ClauseLaws.{angled_other, angled_closed, angled_open, angled_none}
use Rattle.lists.specs.ListsLaws.{nonzero_none, nonzero_some}
use Rattle.received_token.proofs.clause.angled_len.Goals as goal

pub returns-then-byte_at-ne60 : goal.returns-then-byte_at-ne60
returns-then-byte_at-ne60 c = sym (nonzero_none _ (sym (angled_other _ (λ e. c.if-byte_at-ne60.true (c.byte_at.ensures ∙ e)))))

pub overflow_add-result : goal.overflow_add-result
overflow_add-result c = omega (arith, byte_within c.args.s.now _ 61 (sym c.byte_at-in-Ok.ensures ∙ c.if-byte_at-eq62.true))

pub returns-then-byte_at-eq62 : goal.returns-then-byte_at-eq62
returns-then-byte_at-eq62 c = let e = angled_closed _ (sym c.byte_at.ensures ∙ c.if-byte_at-ne60.false) (sym c.address.ensures ∙ c.in-Ok.is) (sym c.byte_at-in-Ok.ensures ∙ c.if-byte_at-eq62.true) in rw (← e) (sym (nonzero_some _ (omega arith)))

pub returns-else-byte_at-eq62 : goal.returns-else-byte_at-eq62
returns-else-byte_at-eq62 c = sym (nonzero_none _ (sym (angled_open _ (sym c.byte_at.ensures ∙ c.if-byte_at-ne60.false) (sym c.address.ensures ∙ c.in-Ok.is) (λ e. c.if-byte_at-eq62.false (c.byte_at-in-Ok.ensures ∙ e)))))

pub returns-in-Err : goal.returns-in-Err
returns-in-Err c = sym (nonzero_none _ (sym (angled_none _ (sym c.byte_at.ensures ∙ c.if-byte_at-ne60.false) (sym c.address.ensures ∙ c.in-Err.is))))
