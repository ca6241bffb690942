use Rattle.structured_token.proofs.TokensLaws.{took_end, took_plain, took_white, took_string, took_semicolon, paren}
use mathlib.Core.Path.{sym, ◌∙◌}
use Rattle.structured_token.proofs.token_at.Goals as goal

pub returns-then-value-at : goal.returns-then-value-at
returns-then-value-at c = took_end _ _ _ c.if-value-at.true

pub returns-then-is_plain : goal.returns-then-is_plain
returns-then-is_plain c = took_plain _ _ _ c.if-value-at.false _ (sym c.is_plain.ensures ∙ c.if-is_plain.true) c.run_end-end.ensures

pub returns-then-is_white : goal.returns-then-is_white
returns-then-is_white c = took_white _ _ _ c.if-value-at.false (sym c.is_plain.ensures ∙ c.if-is_plain.false) _ (sym c.is_white.ensures ∙ c.if-is_white.true) c.run_end-end-then-is_white.ensures

pub returns-then-b-eq34 : goal.returns-then-b-eq34
returns-then-b-eq34 c = took_string _ _ _ c.if-value-at.false (sym c.is_plain.ensures ∙ c.if-is_plain.false) (sym c.is_white.ensures ∙ c.if-is_white.false) _ c.if-b-eq34.true c.string_end-end.ensures

pub returns-then-b-eq59 : goal.returns-then-b-eq59
returns-then-b-eq59 c = took_semicolon _ _ _ c.if-value-at.false (sym c.is_plain.ensures ∙ c.if-is_plain.false) (sym c.is_white.ensures ∙ c.if-is_white.false) c.if-b-eq34.false c.if-b-eq59.true

pub opened-requires : goal.opened-requires
opened-requires c = (c.if-value-at.false, paren c.args.comments c.args.value.now c.args.at c.if-value-at.false (sym c.is_plain.ensures ∙ c.if-is_plain.false) (sym c.is_white.ensures ∙ c.if-is_white.false) c.if-b-eq34.false c.if-b-eq59.false)
