use lib.ListN.{length-set}
use mathlib.Core.List.{[], ◌∷◌}
use Rattle.buffer.specs.BufferLaws.{stores, appended_stores}
use native.Mathlib.Omega.{arith}
use borrow.Author.Rules.{rules}
use Rattle.encoded_word.proofs.character.put_alone.Goals as goal

pub bounds-out-second : goal.bounds-out-second
bounds-out-second c = simp length-set (omega arith)

pub bounds-out-third : goal.bounds-out-third
bounds-out-third c = simp length-set (omega arith)

pub bounds-out-fourth : goal.bounds-out-fourth
bounds-out-fourth c = simp length-set (omega arith)

pub returns : goal.returns
unfolding stores
returns c = appended_stores (c.args.a ∷ c.args.b ∷ c.args.c ∷ c.args.d ∷ []) _ _ _ (omega arith)
