use Prim.Native.Nat.{◌+◌}
use mathlib.Core.Path.{◌≡◌, refl}
use native.Mathlib.Omega.{arith}
use lib.ListN.{drop}
use Rattle.comment.specs.Comment.{comment_len}
use Rattle.comment.proofs.CommentLaws.{not_ended, ended_at, ended_some}
use Rattle.structured_token.proofs.TokensLaws.{took_barred, took_unclosed, took_comment}
use Rattle.structured_token.proofs.opened.Goals as goal

pub returns-then-not-comments : goal.returns-then-not-comments
returns-then-not-comments c = took_barred _ _ _ c.requires.0 c.requires.1 c.if-not-comments.true

pub returns-in-Some : goal.returns-in-Some
returns-in-Some c =
    let is : c.in-Some.end ≡ c.args.at + comment_len (drop c.args.at c.args.value.now) = ended_at _ _ c.comment_end.ensures c.in-Some.is in
    took_comment _ _ _ c.requires.0 c.requires.1 _ is c.if-not-comments.false (λ z. omega (arith, is, ended_some _ _ c.comment_end.ensures c.in-Some.is))

pub returns-in-None : goal.returns-in-None
returns-in-None c =
    let is : c.args.at ≡ c.args.at + comment_len (drop c.args.at c.args.value.now) = omega (arith, not_ended _ _ c.comment_end.ensures c.in-None.is) in
    took_unclosed _ _ _ c.requires.0 c.requires.1 _ is refl
