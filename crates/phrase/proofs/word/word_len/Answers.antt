use mathlib.Core.Path.{◌≡◌, refl, sym, ◌∙◌}
use Prim.Native.Nat.{◌-◌}
use native.Mathlib.Omega.{arith}
use lib.ListN.{drop}
use Rattle.lists.specs.NonzeroLaws.{none_of}
use Rattle.lists.specs.Run.{run}
use Rattle.address.specs.Address.{quoted_scan}
use Rattle.address.specs.TakenLaws.{taken_quoted}
use Rattle.phrase.specs.Words.{is_word_byte}
use Rattle.phrase.specs.WordsLaws.{taken_some, taken_none, capped_in, word_quoted, word_run, word_within}
use Rattle.phrase.proofs.word.word_len.Goals as goal

pub returns-in_err-end : goal.returns-in_err-end
returns-in_err-end c =
    let scan = quoted_scan (drop c.args.at c.args.s.now) in
    let none = taken_none c.args.s.now c.args.at scan (taken_quoted _) c.ok.ensures.value c.quoted.ensures c.in_err-end.was in
    (c.from_residual.ensures ∙ none_of (sym (word_quoted c.args.s.now c.args.at 0 0 (capped_in 0 (omega arith)) (sym c.byte_at.ensures ∙ c.if-byte_at-eq34.true) none)), word_within c.args.s.now c.args.at)

pub overflow_sub-end : goal.overflow_sub-end
overflow_sub-end c =
    let scan = quoted_scan (drop c.args.at c.args.s.now) in
    (taken_some c.args.s.now c.args.at scan (taken_quoted _) c.ok.ensures.value c.quoted.ensures c.in_ok-end.was).1.0

pub returns-then-byte_at-eq34 : goal.returns-then-byte_at-eq34
returns-then-byte_at-eq34 c =
    let scan = quoted_scan (drop c.args.at c.args.s.now) in
    let taken = taken_some c.args.s.now c.args.at scan (taken_quoted _) c.ok.ensures.value c.quoted.ensures c.in_ok-end.was in
    (rw (word_quoted c.args.s.now c.args.at _ _ refl (sym c.byte_at.ensures ∙ c.if-byte_at-eq34.true) taken.0) at c.capped.ensures, word_within c.args.s.now c.args.at)

pub returns : goal.returns
returns c =
    let n : c.run_end.result - c.args.at ≡ run is_word_byte (drop c.args.at c.args.s.now) = omega (arith, c.run_end.ensures) in
    (rw (word_run c.args.s.now c.args.at _ _ refl (λ e. c.if-byte_at-eq34.false (c.byte_at.ensures ∙ e)) n) at c.capped-2.ensures, word_within c.args.s.now c.args.at)
