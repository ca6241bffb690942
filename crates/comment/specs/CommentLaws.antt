-- Laws of comments and runs: by position in a text, as code goes through it.
use borrow.Author.Tests.{ne_eqb, eqb-true}
use Rattle.std.specs.Prelude.{◌≡◌, Bool, ◌&&◌, ◌||◌, ℕ, zero, suc, ◌+◌, ◌-◌, ◌≤◌, ◌<◌, eqb, take, drop}
use Rattle.std.proofs.Math.Path.{refl}
use Rattle.std.proofs.Common.{sym, ◌∙◌, ap, le_of_suc-le-suc, drop_of_length-le}
use Rattle.std.proofs.Math.Bool.{true, false, not, cond, or-false}
use mathlib.Core.List.{List, [], ◌∷◌}
use Rattle.std.proofs.Math.Numerals.{add-one}
use native.Mathlib.Omega.{arith}
use Rattle.std.proofs.Math.ListN.{length, get_or, length-drop}
use Rattle.std.proofs.Math.Seq.{drop-cons, drop-drop, get_or-drop}
use Rattle.std.proofs.Math.Facts.{and_yes}
use Rattle.lists.specs.ListsLaws.{cond_has, yes_true}
use Rattle.unquote.specs.Unquote.{escapes}
use Rattle.comment.specs.Comment.{is_paren, past, depth_after, closing, comment_len, run_to, run_len}

-- ---- by position

-- past the parenthesis that closes one more than `deeper` of those that are open at i; 0 where there is none
unfoldable pub close_at : ℕ → List ℕ → ℕ → ℕ
close_at deeper s i = past i (closing (suc deeper) false (drop i s))
