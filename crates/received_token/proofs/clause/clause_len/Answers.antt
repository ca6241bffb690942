use Rattle.std.proofs.Common.{sym, refl, ◌∙◌, arith, rules, not-suc-le-zero}
use Rattle.lists.specs.ListsLaws.{nonzero_none, nonzero_some, none_nonzero, some_nonzero}
use Rattle.received_token.proofs.ClauseLaws.{white_le, white_from, more_long, clause_short, clause_other, clause_bare, clause_there, clause_long}
use Rattle.received_token.proofs.clause.clause_len.Goals as goal

pub returns-then-s-lt4 : goal.returns-then-s-lt4
returns-then-s-lt4 c = sym (nonzero_none _ (sym (clause_short _ c.if-s-lt4.true)))

pub slice_bounds-word-count : goal.slice_bounds-word-count
slice_bounds-word-count c = let q = (c.run_end-white.ensures ∙ sym (white_from _)) in omega (arith, q, white_le c.args.s.now)

pub slice_bounds-word-start : goal.slice_bounds-word-start
slice_bounds-word-start c = let q = (c.run_end-white.ensures ∙ sym (white_from _)) in omega (arith, q, white_le c.args.s.now)

pub returns-then-not-is_for_there : goal.returns-then-not-is_for_there
returns-then-not-is_for_there c = sym (nonzero_none _ (sym (clause_other _ _ (c.run_end-white.ensures ∙ sym (white_from _)) (sym c.is_for_there.ensures ∙ c.if-not-is_for_there.true))))

pub slice_bounds-more-count : goal.slice_bounds-more-count
slice_bounds-more-count c = more_long c.args.s.now _ (c.run_end-white.ensures ∙ sym (white_from _)) (sym c.is_for_there.ensures ∙ c.if-not-is_for_there.false)

pub slice_bounds-more-start : goal.slice_bounds-more-start
slice_bounds-more-start c = more_long c.args.s.now _ (c.run_end-white.ensures ∙ sym (white_from _)) (sym c.is_for_there.ensures ∙ c.if-not-is_for_there.false)

pub slice_bounds-angled_len-count : goal.slice_bounds-angled_len-count
slice_bounds-angled_len-count c = rw (c.run_end-blanks.ensures ∙ sym (white_from _)) (white_le _)

pub slice_bounds-angled_len-start : goal.slice_bounds-angled_len-start
slice_bounds-angled_len-start c = rw (c.run_end-blanks.ensures ∙ sym (white_from _)) (white_le _)

pub returns-in_err-n : goal.returns-in_err-n
returns-in_err-n c =
    let z = none_nonzero _ (sym c.in_err-n.ensures) in
    let e = nonzero_none _ (sym (clause_bare _ _ (c.run_end-white.ensures ∙ sym (white_from _)) (sym c.is_for_there.ensures ∙ c.if-not-is_for_there.false) _ _ (c.run_end-blanks.ensures ∙ sym (white_from _)) (sym z) refl)) in
    rw e (search rules)

pub overflow_add-result : goal.overflow_add-result
overflow_add-result c = let k = clause_long c.args.s.now _ (c.run_end-white.ensures ∙ sym (white_from _)) (sym c.is_for_there.ensures ∙ c.if-not-is_for_there.false) _ _ (c.run_end-blanks.ensures ∙ sym (white_from _)) (some_nonzero _ _ (sym c.in_ok-n.ensures)).1 in omega arith

pub overflow_add-result-2 : goal.overflow_add-result-2
overflow_add-result-2 c = let k = clause_long c.args.s.now _ (c.run_end-white.ensures ∙ sym (white_from _)) (sym c.is_for_there.ensures ∙ c.if-not-is_for_there.false) _ _ (c.run_end-blanks.ensures ∙ sym (white_from _)) (some_nonzero _ _ (sym c.in_ok-n.ensures)).1 in omega arith

pub overflow_add-result-3 : goal.overflow_add-result-3
overflow_add-result-3 c = let k = clause_long c.args.s.now _ (c.run_end-white.ensures ∙ sym (white_from _)) (sym c.is_for_there.ensures ∙ c.if-not-is_for_there.false) _ _ (c.run_end-blanks.ensures ∙ sym (white_from _)) (some_nonzero _ _ (sym c.in_ok-n.ensures)).1 in omega arith

pub returns : goal.returns
returns c =
    let some = some_nonzero _ _ (sym c.in_ok-n.ensures) in
    let e = clause_there _ _ (c.run_end-white.ensures ∙ sym (white_from _)) (sym c.is_for_there.ensures ∙ c.if-not-is_for_there.false) _ _ (c.run_end-blanks.ensures ∙ sym (white_from _)) some.1 (λ z. not-suc-le-zero {n = 0} (omega (arith, some.0, some.1, z))) in
    rw (← e) (sym (nonzero_some _ (omega arith)))
