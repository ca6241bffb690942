-- How long what is written for a line can be.
use Rattle.std.specs.Prelude.{Bool, ℕ, ◌+◌, ◌*◌, ◌≤◌}
use mathlib.Core.List.{List, [], ◌∷◌, ◌++◌}
use Rattle.std.proofs.Common.{arith, length-take, length-drop}
use Rattle.std.proofs.Math.ListN.{length, take, drop, length-append}
use Rattle.lists.specs.Lists.{all}
use Rattle.lists.specs.ListsLaws.{cond_has}
use Rattle.lists.specs.Byte.{is_ascii}
use Rattle.xtext.proofs.XtextLaws.{decoded_le}
use Rattle.envelope_line.specs.EnvelopeLine.{verb_len, path_len, path, tail, new_path, replacement}
use Rattle.parameter.specs.Parameter.{params, keyword_len, value, alt}
use Rattle.parameter.specs.LengthLaws.{alt_le}

take_le : (n : ℕ) (s : List ℕ) → length (take n s) ≤ length s
take_le n s = rw length-take (omega arith)

drop_le : (n : ℕ) (s : List ℕ) → length (drop n s) ≤ length s
drop_le n s = rw length-drop (omega arith)

module _ (mail : Bool) (line : List ℕ) where
  pub new_path_le : length (new_path mail line) ≤ length line
  unfolding new_path value tail
  new_path_le =
      let t = drop (verb_len mail + path_len mail line + 1) line in
      let p = alt (params t) in
      omega (arith, decoded_le (drop (keyword_len p + 1) p), drop_le (keyword_len p + 1) p, alt_le t, drop_le (verb_len mail + path_len mail line + 1) line)

  pub replacement_le : length (replacement mail line) ≤ 2 * length line + 5
  unfolding replacement path
  replacement_le =
      let p = take (path_len mail line) (drop (verb_len mail) line) in
      let a = take_le (path_len mail line) (drop (verb_len mail) line) in
      let b = drop_le (verb_len mail) line in
      let d = new_path_le in
      cond_has (λ out. length out ≤ 2 * length line + 5) (all is_ascii (path mail line)) []
      (60 ∷ (p ++ (32 ∷ 60 ∷ (new_path mail line ++ (62 ∷ 62 ∷ []))))) (λ u. omega arith)
      (λ u. simp length-append (omega arith))
