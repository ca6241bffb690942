use mathlib.Core.Path.{sym, ◌∙◌}
use lib.ListN.{drop}
use Rattle.lists.specs.NonzeroLaws.{none_of}
use Rattle.address.specs.Address.{address_scan}
use Rattle.address.specs.TakenLaws.{taken_address}
use Rattle.phrase.specs.WordsLaws.{taken_some, taken_none, address_of, address_none, address_within}
use Rattle.phrase.proofs.word.address_len.Goals as goal

pub returns-in_err-end : goal.returns-in_err-end
returns-in_err-end c =
    let scan = address_scan (drop c.args.at c.args.s.now) in
    (c.from_residual.ensures ∙ none_of (address_none _ (taken_none c.args.s.now c.args.at scan (taken_address _) c.ok.ensures.value c.address.ensures c.in_err-end.was)), address_within c.args.s.now c.args.at)

pub overflow_sub-end : goal.overflow_sub-end
overflow_sub-end c =
    let scan = address_scan (drop c.args.at c.args.s.now) in
    (taken_some c.args.s.now c.args.at scan (taken_address _) c.ok.ensures.value c.address.ensures c.in_ok-end.was).1.0

pub returns : goal.returns
returns c =
    let scan = address_scan (drop c.args.at c.args.s.now) in
    let taken = taken_some c.args.s.now c.args.at scan (taken_address _) c.ok.ensures.value c.address.ensures c.in_ok-end.was in
    (rw (address_of _ _ taken.0) at c.capped.ensures, address_within c.args.s.now c.args.at)
