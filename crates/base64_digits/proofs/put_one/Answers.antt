use native.Mathlib.Omega.{arith}
use mathlib.Core.Path.{ap, ◌∙◌}
use mathlib.Core.List.{[], ◌∷◌}
use lib.ListN.{length-set}
use Rattle.base64_digits.specs.Base64.{digit64, in_base64}
use Rattle.base64_digits.proofs.WritingLaws.{sixes_of_one}
use Rattle.buffer.specs.BufferLaws.{stores, appended_stores}
use borrow.Author.Rules.{rules}
use Rattle.base64_digits.proofs.put_one.Goals as goal

pub bounds-out-second : goal.bounds-out-second
bounds-out-second c = simp length-set (omega arith)

pub bounds-out-third : goal.bounds-out-third
bounds-out-third c = simp length-set (omega arith)

pub bounds-out-fourth : goal.bounds-out-fourth
bounds-out-fourth c = simp length-set (omega arith)

pub returns : goal.returns
unfolding stores in_base64
returns c = let six = sixes_of_one c.args.a (search rules) c.bits_of-bits.ensures in
    rw (← (c.digit.ensures ∙ ap digit64 six.0), ← (c.digit-2.ensures ∙ ap digit64 six.1))
    (appended_stores (c.digit.result ∷ c.digit-2.result ∷ 61 ∷ 61 ∷ []) _ _ _ (omega arith))
