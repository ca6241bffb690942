-- Of a line without fault: how long it is, that what is written for it is no longer, and that the text for the header where its path is replaced is UTF-8.
use Rattle.std.proofs.Math.Path.{◌≡◌, refl}
use Rattle.std.specs.Prelude.{Bool, false, not, take, Ok}
use mathlib.Core.List.{List, [], ◌∷◌, ◌++◌}
use Prim.Native.Nat.{ℕ, suc, ◌+◌, ◌≤◌, ◌<◌}
use native.Mathlib.Omega.{arith}
use Rattle.std.proofs.Math.Dec.{T}
use Rattle.std.proofs.Math.ListN.{length, drop, take-append-drop, length-append, length-take, length-drop}
use Rattle.std.proofs.Math.Seq.{drop-cons}
use Rattle.std.proofs.Common.{drop-drop}
use Rattle.lists.specs.ListsLaws.{cond_has, no_false}
use Rattle.lists.specs.Lists.{all}
use Rattle.lists.specs.Byte.{is_ascii}
use Rattle.utf8.specs.Utf8.{utf8}
use Rattle.utf8.specs.Utf8Laws.{utf8_right, utf8_append, utf8_ascii, utf8_cut}
use Rattle.rules.specs.declared.Rules.{Rules}
use Rattle.rules.specs.Rules.{allows_alternative}
use Rattle.address.specs.AddressLaws.{byte_within}
use Rattle.xtext.proofs.XtextLaws.{decoded_le}
use Rattle.envelope_line.specs.EnvelopeLine.{verb_len, path_len, path, tail, alt_fault, line_fault, new_path, without_alt, written_line, replacement}
use Rattle.parameter.specs.Parameter.{params, keyword_len, value, alts, alt, alt_place}
use Rattle.envelope_line.proofs.FaultLaws.{formed, closed, alt_fine, retired_ascii}
use Rattle.envelope_line.proofs.AsciiLaws.{front_ascii, new_ascii}
use Rattle.envelope_line.proofs.LengthLaws.{replacement_le}
use Rattle.parameter.specs.LengthLaws.{alt_inside}

module _ (rules : Rules) (mail : Bool) (line : List ℕ) (f : line_fault rules mail line ≡ Ok tt) where
  pub replacement_short : length (replacement mail line) ≤ 2001
  replacement_short = omega (arith, (formed rules mail line f).short, replacement_le mail line)

  -- the `>` after the path
  close_inside : verb_len mail + path_len mail line < length line
  close_inside = byte_within line (verb_len mail + path_len mail line) 61 (closed rules mail line f)

  new_short : (found : List (List ℕ)) → alts (params (tail mail line)) ≡ found → alt_fault rules false found ≡ Ok tt
      → length (take (verb_len mail) line ++ (new_path mail line ++ (62 ∷ without_alt (tail mail line)))) ≤ length line
  unfolding alt_fault new_path without_alt value alt tail
  new_short [] e g = absurd (let z : ◌≡◌ {A = ℕ} 0 1 = cc in omega arith)
  new_short (p ∷ more) e g =
      let t = drop (verb_len mail + path_len mail line + 1) line in
      let n = alt_place (params t) in
      let v = drop (keyword_len p + 1) p in
      rw (e, length-append, length-append, length-append)
      (omega (
        arith,
        close_inside,
        alt_inside t p more e,
        decoded_le v,
        length-take (verb_len mail) line,
        length-take n t,
        length-drop (n + suc (length p)) t,
        length-drop (verb_len mail + path_len mail line + 1) line,
        length-drop (keyword_len p + 1) p,
      ))

  -- what is written for it is no longer
  pub written_short : length (written_line mail line) ≤ length line
  unfolding written_line
  written_short =
      cond_has (λ out. length out ≤ length line) (all is_ascii (path mail line)) line (take (verb_len mail) line ++ (new_path mail line ++ (62 ∷ without_alt (tail mail line))))
      (λ t. omega arith)
      (λ t. new_short (alts (params (tail mail line))) refl (rw (no_false (all is_ascii (path mail line)) t) at (alt_fine rules mail line f)))

  -- the path stands between ASCII bytes
  path_utf8 : T (utf8 (path mail line))
  unfolding path
  path_utf8 =
      let v = verb_len mail in
      let n = path_len mail line in
      let rest = drop v line in
      let all_utf8 : T (utf8 (take v line ++ rest)) = rw take-append-drop (formed rules mail line f).is_utf8 in
      let from : T (utf8 rest) = rw (utf8_right (take v line) rest (utf8_ascii (take v line) (front_ascii rules mail line f))) at all_utf8 in
      let after : drop n rest ≡ 62 ∷ drop (suc (v + n)) line = rw (drop-drop, drop-cons line (v + n) 0 close_inside, closed rules mail line f) in
      let cut : T (utf8 (take n rest ++ (62 ∷ drop (suc (v + n)) line))) = rw (← after, take-append-drop) from in
      (utf8_cut (take n rest) 62 (drop (suc (v + n)) line) (omega arith) cut).0

  new_utf8 : T (not (all is_ascii (path mail line))) → T (utf8 (new_path mail line))
  unfolding new_path
  new_utf8 t = utf8_ascii (new_path mail line) (new_ascii rules (params (tail mail line)) (rw (no_false (all is_ascii (path mail line)) t) at (alt_fine rules mail line f)))

  pub replacement_utf8 : T (utf8 (replacement mail line))
  unfolding replacement
  replacement_utf8 =
      let p = path mail line in
      cond_has (λ text. T (utf8 text)) (all is_ascii p) [] (60 ∷ (p ++ (32 ∷ 60 ∷ (new_path mail line ++ (62 ∷ 62 ∷ [])))))
      (λ t. utf8_ascii [] tt)
      (λ t. utf8_append (60 ∷ []) (p ++ (32 ∷ 60 ∷ (new_path mail line ++ (62 ∷ 62 ∷ [])))) (utf8_ascii (60 ∷ []) tt)
      (utf8_append p (32 ∷ 60 ∷ (new_path mail line ++ (62 ∷ 62 ∷ []))) path_utf8
      (utf8_append (32 ∷ 60 ∷ []) (new_path mail line ++ (62 ∷ 62 ∷ [])) (utf8_ascii (32 ∷ 60 ∷ []) tt)
      (utf8_append (new_path mail line) (62 ∷ 62 ∷ []) (new_utf8 t) (utf8_ascii (62 ∷ 62 ∷ []) tt)))))

  -- where an ALT-ADDRESS is refused no path is replaced
  pub retired_none : T (not (allows_alternative rules)) → replacement mail line ≡ []
  unfolding replacement
  retired_none n = rw (retired_ascii rules mail line f n)
