use Rattle.std.proofs.Common.{◌≡◌, ◌+◌, ◌-◌, ◌≤◌, ◌<◌, length, drop, refl, sym, ◌∙◌, arith}
use Rattle.lists.specs.NonzeroLaws.{none_of, some_of, not_found, found_is, found_some}
use Rattle.phrase.specs.Words.{word_len, next_word_len, phrase_len}
use Rattle.phrase.specs.WordsLaws.{words_stop, words_step, phrase_none, phrase_some, word_within, next_word_within}
use Rattle.phrase.proofs.word.phrase_len.Goals as goal

pub returns-in_err-end : goal.returns-in_err-end
returns-in_err-end c =
    let none : phrase_len c.args.s.now ≡ 0 = sym (phrase_none c.args.s.now _ refl (not_found _ c.word_len.ensures.0 c.in_err-end.was)) in
    (c.from_residual.ensures ∙ none_of none, omega arith)

pub loop-n-init : goal.loop-n-init
loop-n-init c =
    let is : c.in_ok-end.end ≡ word_len (drop 0 c.args.s.now) = found_is _ c.word_len.ensures.0 c.in_ok-end.was in
    let some : 0 < c.in_ok-end.end = found_some _ c.word_len.ensures.0 c.in_ok-end.was in
    (omega (arith, word_within c.args.s.now 0), (phrase_some c.args.s.now _ is (λ z. omega arith), some))

pub loop-n-preserved : goal.loop-n-preserved
loop-n-preserved c =
    let is : c.in-Some.n ≡ next_word_len (drop c.loop-n.end c.args.s.now) = found_is _ c.next_word_len.ensures.0 c.in-Some.is in
    let some : 0 < c.in-Some.n = found_some _ c.next_word_len.ensures.0 c.in-Some.is in
    let within : c.in-Some.n ≤ length c.args.s.now - c.loop-n.end = omega (arith, next_word_within c.args.s.now c.loop-n.end) in
    (omega (arith, c.loop-n.invariant.0), (c.loop-n.invariant.1.0 ∙ words_step c.args.s.now _ _ is (λ z. omega arith) within, omega arith))

pub overflow_add-end : goal.overflow_add-end
overflow_add-end c =
    let is : c.in-Some.n ≡ next_word_len (drop c.loop-n.end c.args.s.now) = found_is _ c.next_word_len.ensures.0 c.in-Some.is in
    omega (arith, next_word_within c.args.s.now c.loop-n.end)

pub loop-n-smaller : goal.loop-n-smaller
loop-n-smaller c =
    let is : c.in-Some.n ≡ next_word_len (drop c.loop-n.end c.args.s.now) = found_is _ c.next_word_len.ensures.0 c.in-Some.is in
    let some : 0 < c.in-Some.n = found_some _ c.next_word_len.ensures.0 c.in-Some.is in
    omega (arith, next_word_within c.args.s.now c.loop-n.end)

pub returns : goal.returns
returns c =
    let none : next_word_len (drop c.loop-n.end c.args.s.now) ≡ 0 = not_found _ c.next_word_len.ensures.0 c.in_default.is in
    let is : phrase_len c.args.s.now ≡ c.loop-n.end = c.loop-n.invariant.1.0 ∙ words_stop c.args.s.now _ _ refl none in
    (some_of c.loop-n.end is (λ z. omega (arith, c.loop-n.invariant.1.1)), omega (arith, is, c.loop-n.invariant.0))
