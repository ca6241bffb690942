use Rattle.std.proofs.Common.{◌≡◌, ◌≤◌, Bool, List, ℕ, length, arith, drop_of_length-le}
use Rattle.structured_token.specs.declared.Kind.{Kind}
use Rattle.structured_token.specs.Tokens.{kind_of, size_of, Took}
use Rattle.structured_field.proofs.writer.StructuredValueRule.part_at.Goals as goal

none : {comments : Bool} {s : List ℕ} {i : ℕ} {kind : Kind} {e : ℕ} → Took comments s i kind e → length s ≤ i → e ≡ i
unfolding kind_of size_of
none {s = s} {i = i} t h = let is = rw (t.what, drop_of_length-le s {i = i} h) at t.is in omega (arith, is)

pub returns-clause-none : goal.returns-clause-none
returns-clause-none c = none c.token_at.ensures

pub returns-clause-within : goal.returns-clause-within
returns-clause-within c = λ h. grind (arith, c.token_at.ensures.within, none c.token_at.ensures)
