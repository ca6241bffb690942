use mathlib.Core.Path.{refl, sym, ◌∙◌}
use Prim.Native.Nat.{◌+◌, ◌-◌}
use native.Mathlib.Omega.{arith}
use Rattle.lists.specs.NonzeroLaws.{none_of, some_of, not_found, found_is, found_some}
use Rattle.phrase.specs.WordsLaws.{next_none, next_no_word, next_word, next_word_within}
use Rattle.phrase.proofs.word.next_word_len.Goals as goal

pub returns-then-e-at : goal.returns-then-e-at
returns-then-e-at c = (none_of (sym (next_none c.args.s.now c.args.at _ c.blanks_end-e.ensures c.if-e-at.true)), next_word_within c.args.s.now c.args.at)

pub returns-in_err-word : goal.returns-in_err-word
returns-in_err-word c = (c.from_residual.ensures ∙ none_of (sym (next_no_word c.args.s.now c.args.at _ c.blanks_end-e.ensures _ refl (not_found _ c.word_len.ensures.0 c.in_err-word.was))), next_word_within c.args.s.now c.args.at)

pub returns : goal.returns
returns c =
    let some = found_some _ c.word_len.ensures.0 c.in_ok-word.was in
    let found = next_word c.args.s.now c.args.at _ c.blanks_end-e.ensures c.if-e-at.false c.in_ok-word.word (found_is _ c.word_len.ensures.0 c.in_ok-word.was) (λ z. omega (arith, some)) in
    (some_of (c.blanks_end-e.result - c.args.at + c.in_ok-word.word) (sym found) (λ z. omega (arith, some)), next_word_within c.args.s.now c.args.at)
