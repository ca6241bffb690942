use Rattle.std.proofs.Common.{◌≡◌, arith, sym, ◌∙◌}
use Rattle.lists.specs.NonzeroLaws.{none_of, some_of}
use Rattle.phrase.specs.Words.{capped}
use Rattle.phrase.specs.WordsLaws.{capped_in, capped_out}
use Rattle.phrase.proofs.word.capped.Goals as goal

pub returns-in-1-to-900 : goal.returns-in-1-to-900
returns-in-1-to-900 c = some_of c.args.n (sym (capped_in c.args.n (omega arith))) (λ z. omega arith)

pub returns-in_default : goal.returns-in_default
returns-in_default c = none_of (let small : c.args.n ≡ capped c.args.n = capped_in c.args.n (omega arith) in omega arith)

pub returns-in_default-2 : goal.returns-in_default-2
returns-in_default-2 c = none_of (sym (capped_out c.args.n (omega arith)))
