-- Laws of what is written for a line.
use Rattle.std.specs.Prelude.{◌≡◌, Bool, true, false, take, drop}
use Rattle.std.proofs.Common.{ap, sym, ◌∙◌, take_all}
use mathlib.Core.List.{List, [], ◌∷◌, ◌++◌, append_assoc, append-nil}
use Prim.Native.Nat.{ℕ, suc, ◌+◌, ◌-◌, ◌≤◌, ◌<◌}
use native.Mathlib.Omega.{arith}
use Rattle.std.proofs.Math.ListN.{length, length-drop, drop_of_length-le}
use Rattle.std.proofs.Math.Seq.{drop-drop}
use Rattle.lists.specs.Lists.{all}
use Rattle.lists.specs.Byte.{is_ascii}
use Rattle.lists.specs.Run.{run}
use Rattle.buffer.specs.Buffer.{Wrote}
use Rattle.xtext.specs.Xtext.{decoded}
use Rattle.xtext.proofs.XtextLaws.{decoded_end}
use Rattle.envelope_line.specs.EnvelopeLine.{verb_len, path_len, path, tail, new_path, without_alt, written_line, replacement}
use Rattle.parameter.specs.Parameter.{not_space, params, keyword_len, value, alt, alt_place}
use Rattle.parameter.specs.ParameterLaws.{param_at, length_param, AltFrom, no_alt, alt_there}

-- the same text
pub wrote_same : {x y before after : List ℕ} {r : ℕ} → x ≡ y → Wrote x before after r → Wrote y before after r
wrote_same e w = rw e at w

-- ---- the decoded ALT-ADDRESS

module _ {s : List ℕ} {from r : ℕ} (k : AltFrom s from r) where
  pub decoded_none : length s ≤ r → [] ≡ decoded (value (alt (params (drop from s))))
  unfolding value
  decoded_none h = rw (no_alt k h) (sym (decoded_end [] (keyword_len [] + 1) (omega arith)))

  pub decoded_some : {p : List ℕ} → r < length s → p ≡ param_at s r → decoded (value p) ≡ decoded (value (alt (params (drop from s))))
  decoded_some h e = rw (e, alt_there k h)

  -- ---- the rest without it

  pub without_none : length s ≤ r → without_alt (drop from s) ≡ drop from s
  unfolding without_alt
  without_none h =
      let n = alt_place (params (drop from s)) in
      let m : length (drop from s) ≤ n = rw length-drop (omega (arith, k.place)) in
      let l : length (drop from s) ≤ n + suc (length (alt (params (drop from s)))) = omega arith in
      rw (take_all n (drop from s) m, drop_of_length-le (drop from s) {i = n + suc (length (alt (params (drop from s))))} l, append-nil)

  pub without_some : (e : ℕ) → e ≡ r + 1 + run not_space (drop (r + 1) s) → r < length s
      → without_alt (drop from s) ≡ take (r - from) (drop from s) ++ drop e s
  unfolding without_alt
  without_some e d h =
      let n = alt_place (params (drop from s)) in
      let m : r - from ≡ n = omega (arith, k.place) in
      let q : from + (n + suc (length (param_at s r))) ≡ e = omega (arith, k.place, length_param s r) in
      rw (alt_there k h, m, drop-drop, q)

-- ---- the line

bracketed : (p n : List ℕ) → ((((60 ∷ []) ++ p) ++ (32 ∷ 60 ∷ [])) ++ n) ++ (62 ∷ 62 ∷ []) ≡ 60 ∷ (p ++ (32 ∷ 60 ∷ (n ++ (62 ∷ 62 ∷ []))))
bracketed p n = ap (λ (l : List ℕ). 60 ∷ l) (append_assoc (p ++ (32 ∷ 60 ∷ [])) n (62 ∷ 62 ∷ []) ∙ append_assoc p (32 ∷ 60 ∷ []) (n ++ (62 ∷ 62 ∷ [])))

module _ (mail : Bool) (line : List ℕ) where
  -- the path as code lends it
  pub path_part : {p : List ℕ} (a e : ℕ) → a ≡ verb_len mail → e ≡ verb_len mail + path_len mail line → p ≡ take (e - a) (drop a line) → p ≡ path mail line
  unfolding path
  path_part a e f g q = let m : e - a ≡ path_len mail line = omega arith in q ∙ rw (m, f)

  pub front_part : {p : List ℕ} (a : ℕ) → a ≡ verb_len mail → p ≡ take (a - 0) line → p ≡ take (verb_len mail) line
  front_part a f q = let m : a - 0 ≡ verb_len mail = omega arith in q ∙ rw m

  module _ {p : List ℕ} {r : Bool} (e : p ≡ path mail line) (q : r ≡ all is_ascii p) where
    path_test : {t : Bool} → r ≡ t → all is_ascii (path mail line) ≡ t
    path_test h = rw (← e, ← q) h

    pub written_ascii : r ≡ true → line ≡ written_line mail line
    unfolding written_line
    written_ascii h = rw (path_test h)

    pub written_high : r ≡ false → {front new rest : List ℕ} → front ≡ take (verb_len mail) line → new ≡ new_path mail line → rest ≡ without_alt (tail mail line)
        → ((front ++ new) ++ (62 ∷ [])) ++ rest ≡ written_line mail line
    unfolding written_line
    written_high h a b d = rw (path_test h, a, b, d) (simp append_assoc)

    pub replaced_ascii : r ≡ true → [] ≡ replacement mail line
    unfolding replacement
    replaced_ascii h = rw (path_test h)

    pub replaced_high : r ≡ false → {new : List ℕ} → new ≡ new_path mail line
        → ((((60 ∷ []) ++ p) ++ (32 ∷ 60 ∷ [])) ++ new) ++ (62 ∷ 62 ∷ []) ≡ replacement mail line
    unfolding replacement
    replaced_high h {new} b = bracketed p new ∙ rw (path_test h, b, e)

  -- the decoded ALT-ADDRESS from where the tail starts
  pub new_path_lem : (r : ℕ) → drop r line ≡ tail mail line → decoded (value (alt (params (drop r line)))) ≡ new_path mail line
  unfolding new_path
  new_path_lem r e = rw e

  pub rest_without : (r : ℕ) → drop r line ≡ tail mail line → without_alt (drop r line) ≡ without_alt (tail mail line)
  rest_without r e = rw e
