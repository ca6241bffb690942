use Rattle.address_list.specs.PartsLaws.{took_stray, took_none, comment_length, comment_none, comment_long, comment_there}
use Rattle.comment.specs.Comment.{comment_len}
use Rattle.comment.proofs.CommentLaws.{comment_within, not_ended, ended_at, ended_some}
use mathlib.Core.Path.{◌≡◌, refl, sym, ◌∙◌}
use Prim.Native.Nat.{◌+◌, ◌<◌}
use lib.ListN.{drop}
use native.Mathlib.Omega.{arith}
use Rattle.address_list.proofs.part.commented.Goals as goal

pub returns-in_err-size : goal.returns-in_err-size
returns-in_err-size c = took_none c.from_residual.ensures (comment_none c.args.t.now _ refl (let none = not_ended 0 _ c.comment_end.ensures c.in_err-size.was in omega (arith, none))) c.requires

pub slice_bounds-parts_fit-end : goal.slice_bounds-parts_fit-end
slice_bounds-parts_fit-end c = comment_length _ _ (ended_at _ _ c.comment_end.ensures c.in_ok-size.was)

pub returns-then-not-parts_fit : goal.returns-then-not-parts_fit
returns-then-not-parts_fit c = took_stray refl (comment_long c.args.t.now _ (ended_at _ _ c.comment_end.ensures c.in_ok-size.was) (sym c.parts_fit.ensures ∙ c.if-not-parts_fit.true)) c.requires

pub returns : goal.returns
returns c =
    let is : c.in_ok-size.size ≡ 0 + comment_len (drop 0 c.args.t.now) = ended_at _ _ c.comment_end.ensures c.in_ok-size.was in
    let some : 0 < c.in_ok-size.size = omega (arith, is, ended_some 0 _ c.comment_end.ensures c.in_ok-size.was) in
    record {
      is = comment_there c.args.t.now _ is (λ z. omega arith) (sym c.parts_fit.ensures ∙ c.if-not-parts_fit.false);
      some = some;
      within = omega (arith, is, comment_within c.args.t.now);
      inner = omega arith;
    }
