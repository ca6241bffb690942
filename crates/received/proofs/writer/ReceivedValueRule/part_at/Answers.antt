use Rattle.std.specs.Prelude.{◌≡◌, ◌≤◌, ◌&&◌, Bool, false, List, [], ℕ, eqb, length}
use Rattle.std.proofs.Common.{refl, arith, drop_of_length-le}
use Rattle.std.proofs.Math.Bool.{and-false}
use Rattle.lists.specs.Run.{run}
use Rattle.structured_token.specs.Tokens.{kind_of, size_of}
use Rattle.received_token.specs.Clause.{white_len}
use Rattle.received_token.specs.declared.ReceivedKind.{ReceivedKind}
use Rattle.received_token.specs.Tokens.{starts_for, received_size, Took}
use Rattle.received_token.proofs.TokensLaws.{no_for}
use Rattle.received.proofs.writer.ReceivedValueRule.part_at.Goals as goal

no_size : (start comments : Bool) → received_size start comments [] ≡ 0
unfolding received_size starts_for white_len run kind_of size_of
no_size start comments = rw (no_for [] refl refl, and-false start)

none : {comments : Bool} {s : List ℕ} {i : ℕ} {kind : ReceivedKind} {e : ℕ} → Took comments s i kind e → length s ≤ i → e ≡ i
none {comments} {s} {i} t h = let is = rw (drop_of_length-le s {i = i} h, no_size (eqb i 0) comments) at t.is in omega (arith, is)

pub returns-clause-none : goal.returns-clause-none
returns-clause-none c = none c.token_at.ensures

pub returns-clause-within : goal.returns-clause-within
returns-clause-within c = λ h. grind (arith, c.token_at.ensures.within, none c.token_at.ensures)
