use Rattle.std.proofs.Common.{sym, refl, ◌∙◌, arith, not-suc-le-zero}
use Rattle.lists.specs.ListsLaws.{none_nonzero, some_nonzero}
use Rattle.received_token.proofs.TokensLaws.{took_later, took_other, word_after, word_long, clause_long, took_bare, took_clause}
use Rattle.received_token.proofs.token_at.Goals as goal

pub returns-then-not-white-at : goal.returns-then-not-white-at
returns-then-not-white-at c = took_later c.token_at-kind.ensures c.from-other.ensures c.is_white_space-white.ensures c.if-not-white-at.true

pub returns-then-not-is_for : goal.returns-then-not-is_for
returns-then-not-is_for c = took_other c.token_at-kind.ensures c.from-other.ensures c.is_white_space-white.ensures c.word_at-word.ensures c.if-not-white-at.false (sym c.is_for.ensures ∙ c.if-not-is_for.true)

pub slice_bounds-clause_len-count : goal.slice_bounds-clause_len-count
slice_bounds-clause_len-count c = word_after c.token_at-kind.ensures c.from-other.ensures c.is_white_space-white.ensures c.word_at-word.ensures c.if-not-white-at.false (sym c.is_for.ensures ∙ c.if-not-is_for.false)

pub slice_bounds-clause_len-start : goal.slice_bounds-clause_len-start
slice_bounds-clause_len-start c = word_after c.token_at-kind.ensures c.from-other.ensures c.is_white_space-white.ensures c.word_at-word.ensures c.if-not-white-at.false (sym c.is_for.ensures ∙ c.if-not-is_for.false)

pub overflow_add-result : goal.overflow_add-result
overflow_add-result c = let k = clause_long c.token_at-kind.ensures c.from-other.ensures c.is_white_space-white.ensures c.word_at-word.ensures c.if-not-white-at.false (sym c.is_for.ensures ∙ c.if-not-is_for.false) (some_nonzero _ _ (sym c.in-Some.ensures)).1 in omega (arith, k)

pub overflow_add-result-in-None : goal.overflow_add-result-in-None
overflow_add-result-in-None c = let k = word_long c.token_at-kind.ensures c.from-other.ensures c.is_white_space-white.ensures c.word_at-word.ensures c.if-not-white-at.false (sym c.is_for.ensures ∙ c.if-not-is_for.false) in omega (arith, k)

pub returns-in-Some : goal.returns-in-Some
returns-in-Some c =
    let some = some_nonzero _ _ (sym c.in-Some.ensures) in
    took_clause c.token_at-kind.ensures c.from-other.ensures c.is_white_space-white.ensures c.word_at-word.ensures c.if-not-white-at.false (sym c.is_for.ensures ∙ c.if-not-is_for.false) some.1 (λ z. not-suc-le-zero {n = 0} (omega (arith, some.0, some.1, z)))

pub returns-in-None : goal.returns-in-None
returns-in-None c = took_bare c.token_at-kind.ensures c.from-other.ensures c.is_white_space-white.ensures c.word_at-word.ensures c.if-not-white-at.false (sym c.is_for.ensures ∙ c.if-not-is_for.false) (sym (none_nonzero _ (sym c.in-None.ensures))) refl
