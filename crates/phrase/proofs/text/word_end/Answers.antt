use Rattle.std.proofs.Common.{◌≡◌, ◌+◌, ◌≤◌, ◌<◌, drop, refl, sym, ◌∙◌, arith}
use Rattle.lists.specs.NonzeroLaws.{not_found, found_is, found_some}
use Rattle.phrase.specs.Words.{word_len}
use Rattle.phrase.specs.WordsLaws.{word_within}
use Rattle.phrase.specs.PhraseLaws.{word_to_end, word_some}
use Rattle.phrase.proofs.text.word_end.Goals as goal

pub returns-in-Some : goal.returns-in-Some
returns-in-Some c =
    let is : c.in-Some.n ≡ word_len (drop c.args.at c.args.phrase.now) = found_is _ c.word_len.ensures.0 c.in-Some.is in
    let some : 0 < c.in-Some.n = found_some _ c.word_len.ensures.0 c.in-Some.is in
    let within = word_within c.args.phrase.now c.args.at in
    record { is = word_some c.args.phrase.now c.args.at _ is (λ z. omega arith); some = λ h. omega arith; within = λ h. omega arith }

pub returns-in-None : goal.returns-in-None
returns-in-None c =
    let none : word_len (drop c.args.at c.args.phrase.now) ≡ 0 = not_found _ c.word_len.ensures.0 c.in-None.is in
    record { is = c.max.ensures ∙ word_to_end c.args.phrase.now c.args.at _ refl none; some = λ h. omega (arith, c.max.ensures); within = λ h. omega (arith, c.max.ensures) }
