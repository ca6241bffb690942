-- Laws of faults: the tests in the order in which code makes them.
use Rattle.std.proofs.Math.Path.{◌≡◌, refl, sym}
use Rattle.std.proofs.Common.{◌∙◌}
use Rattle.std.specs.Prelude.{Bool, not, ◌&&◌, ℕ, ◌+◌, ◌-◌, ◌≤◌, ◌<◌, T, eqb, take, drop, get_or, Result, Ok, Err, ⊤}
use Rattle.std.proofs.Math.Bool.{true, false}
use mathlib.Core.List.{List, [], ◌∷◌}
use native.Mathlib.Omega.{arith}
use Rattle.std.proofs.Math.Dec.{leb, eqb→eq}
use Rattle.std.proofs.Math.ListN.{length}
use Rattle.std.proofs.Math.Facts.{T_not, and_yes, leb_yes}
use borrow.Author.Tests.{lt-leb, le-leb, eq-eqb, ne_eqb}
use Rattle.lists.specs.ListsLaws.{by_test, yes_true, no_false}
use Rattle.lists.specs.Lists.{all}
use Rattle.lists.specs.Byte.{is_ascii}
use Rattle.utf8.specs.Utf8.{utf8}
use Rattle.rules.specs.declared.Rules.{Rules}
use Rattle.rules.specs.Rules.{allows_alternative}
use Rattle.xtext.specs.Xtext.{is_alt_address}
use Rattle.envelope_line.proofs.PathLaws.{path_at, later_to, path_end_lem}
use Rattle.envelope_line.specs.declared.Fault.{Fault}
use Rattle.envelope_line.specs.declared.Fault.TheVariants.{Malformed, NoAlternative, BadAlternative, RetiredAlternative}
use Rattle.envelope_line.specs.EnvelopeLine.{verb_len, has_verb, path_scan, is_to, path_len, path, has_path, tail, well_formed, value_fault, alt_fault, line_fault}
use Rattle.parameter.specs.Parameter.{params, spaced, is_param, has_value, value, alts, alts_ok}
use Rattle.envelope_line.specs.FaultLaws.{only_alt_fault, tail_fault}

module _ (rules : Rules) (ascii : Bool) (t : List ℕ) where
  pub tail_unspaced : spaced t ≡ false → tail_fault rules ascii t ≡ Err Malformed
  unfolding tail_fault
  tail_unspaced e = rw e

  module _ (s : spaced t ≡ true) where
    pub tail_no_params : all is_param (params t) ≡ false → tail_fault rules ascii t ≡ Err Malformed
    unfolding tail_fault
    tail_no_params e = rw (s, e)

    module _ (p : all is_param (params t) ≡ true) where
      pub tail_no_alt : alts (params t) ≡ [] → tail_fault rules ascii t ≡ alt_fault rules ascii []
      unfolding tail_fault alts_ok
      tail_no_alt e = rw (s, p, e)

      pub tail_two_alts : {a b : List ℕ} {more : List (List ℕ)} → alts (params t) ≡ a ∷ b ∷ more → tail_fault rules ascii t ≡ Err Malformed
      unfolding tail_fault alts_ok
      tail_two_alts e = rw (s, p, e)

      pub tail_one_alt : {a : List ℕ} → alts (params t) ≡ a ∷ [] → tail_fault rules ascii t ≡ only_alt_fault rules ascii a
      unfolding tail_fault alts_ok only_alt_fault
      tail_one_alt e = rw (s, p, e)

      pub tail_plain : alts (params t) ≡ [] → ascii ≡ true → Ok tt ≡ tail_fault rules ascii t
      unfolding alt_fault
      tail_plain e a = sym (tail_no_alt e ∙ rw a)

      pub tail_high : alts (params t) ≡ [] → ascii ≡ false → Err NoAlternative ≡ tail_fault rules ascii t
      unfolding alt_fault
      tail_high e a = sym (tail_no_alt e ∙ rw a)

-- ---- the only ALT-ADDRESS

module _ (rules : Rules) (ascii : Bool) (p : List ℕ) where
  pub only_bare : has_value p ≡ false → Err Malformed ≡ only_alt_fault rules ascii p
  unfolding only_alt_fault
  only_bare e = rw e

  module _ (h : has_value p ≡ true) where
    pub only_retired : allows_alternative rules ≡ false → Err RetiredAlternative ≡ only_alt_fault rules ascii p
    unfolding only_alt_fault alt_fault value_fault
    only_retired k = rw (h, k)

    module _ (k : allows_alternative rules ≡ true) where
      pub only_beside : ascii ≡ true → Err BadAlternative ≡ only_alt_fault rules ascii p
      unfolding only_alt_fault alt_fault value_fault
      only_beside a = rw (h, k, a)

      module _ (a : ascii ≡ false) {v : List ℕ} (e : v ≡ value p) where
        pub only_fine : is_alt_address v ≡ true → Ok tt ≡ only_alt_fault rules ascii p
        unfolding only_alt_fault alt_fault value_fault
        only_fine t = rw (h, k, a, ← e, t)

        pub only_bad : is_alt_address v ≡ false → Err BadAlternative ≡ only_alt_fault rules ascii p
        unfolding only_alt_fault alt_fault value_fault
        only_bad t = rw (h, k, a, ← e, t)

-- what is known of an ALT-ADDRESS with this value that is no fault
pub record AltTaken (rules : Rules) (ascii : Bool) (v : List ℕ) : Type 0 where
  pub allowed : T (allows_alternative rules)
  pub not_ascii : T (not ascii)
  pub is_address : T (is_alt_address v)

pub alt_taken : (rules : Rules) (ascii : Bool) (v : List ℕ) → value_fault rules ascii v ≡ Ok tt → AltTaken rules ascii v
unfolding value_fault
alt_taken rules ascii v f =
    by_test (allows_alternative rules)
    (λ t. let g = rw (yes_true (allows_alternative rules) t) at f in
    by_test (not ascii && is_alt_address v)
    (λ u. let b = and_yes (not ascii) (is_alt_address v) u in record { allowed = t; not_ascii = b.0; is_address = b.1 })
    (λ u. absurd (let q = rw (no_false (not ascii && is_alt_address v) u) at g in let z : ◌≡◌ {A = ℕ} 0 1 = cc in omega arith)))
    (λ t. absurd (let q = rw (no_false (allows_alternative rules) t) at f in let z : ◌≡◌ {A = ℕ} 0 1 = cc in omega arith))

-- ---- the whole line

module _ (rules : Rules) (mail : Bool) (line : List ℕ) where
  -- whether the path ends where one can
  path_is_to : {x : Result ℕ ℕ} → x ≡ path_at mail line → is_to (path_scan mail (drop (verb_len mail) line)) ≡ is_to x
  unfolding path_at
  path_is_to e = rw (e, later_to (verb_len mail) (path_scan mail (drop (verb_len mail) line)))

  pub line_long : 998 < length line → Err Malformed ≡ line_fault rules mail line
  unfolding line_fault well_formed
  line_long h = rw (lt-leb (length line) 998 h)

  module _ (l : length line ≤ 998) where
    pub line_not_utf8 : utf8 line ≡ false → Err Malformed ≡ line_fault rules mail line
    unfolding line_fault well_formed
    line_not_utf8 u = rw (le-leb (length line) 998 l, u)

    module _ (u : utf8 line ≡ true) where
      pub line_no_verb : has_verb mail line ≡ false → Err Malformed ≡ line_fault rules mail line
      unfolding line_fault well_formed
      line_no_verb v = rw (le-leb (length line) 998 l, u, v)

      module _ (v : has_verb mail line ≡ true) where
        no_path : has_path mail line ≡ false → Err Malformed ≡ line_fault rules mail line
        unfolding line_fault well_formed
        no_path w = rw (le-leb (length line) 998 l, u, v, w)

        pub line_no_path : (n : ℕ) → Err n ≡ path_at mail line → Err Malformed ≡ line_fault rules mail line
        unfolding has_path
        line_no_path n e = no_path (rw (path_is_to e))

        module _ (n : ℕ) (e : Ok n ≡ path_at mail line) where
          pub line_open : (get_or line n 0 ≡ 62 → ⊥) → Err Malformed ≡ line_fault rules mail line
          unfolding has_path
          line_open o = no_path (rw (path_is_to e, ← path_end_lem mail line e, ne_eqb (get_or line n 0) 62 o))

          pub line_tail : {p : List ℕ} {a : Bool} {f : Result ⊤ Fault} → get_or line n 0 ≡ 62 → p ≡ take (n - verb_len mail) (drop (verb_len mail) line)
              → a ≡ all is_ascii p → f ≡ tail_fault rules a (drop (n + 1) line) → f ≡ line_fault rules mail line
          unfolding line_fault well_formed tail_fault has_path path tail
          line_tail {p} {a} {f} o d b q =
              let k = path_end_lem mail line e in
              let m : n - verb_len mail ≡ path_len mail line = omega arith in
              q ∙ rw (le-leb (length line) 998 l, u, v, path_is_to e, ← k, eq-eqb (get_or line n 0) 62 o, b, d, m)

-- ---- a line that is well-formed

pub record Formed (mail : Bool) (line : List ℕ) : Type 0 where
  pub short : length line ≤ 998
  pub is_utf8 : T (utf8 line)
  pub has_verb_lem : T (has_verb mail line)
  pub has_path_lem : T (has_path mail line)
  pub is_spaced_lem : T (spaced (tail mail line))
  pub are_params_lem : T (all is_param (params (tail mail line)))
  pub alts_ok_lem : T (alts_ok (alts (params (tail mail line))))

module _ (mail : Bool) (line : List ℕ) where
  pub formed_of : T (well_formed mail line) → Formed mail line
  unfolding well_formed
  formed_of w =
      let l = leb (length line) 998 in
      let u = utf8 line in
      let v = has_verb mail line in
      let p = has_path mail line in
      let s = spaced (tail mail line) in
      let q = all is_param (params (tail mail line)) in
      let a = and_yes (l && u && v && p && s && q) (alts_ok (alts (params (tail mail line)))) w in
      let b = and_yes (l && u && v && p && s) q a.0 in
      let d = and_yes (l && u && v && p) s b.0 in
      let e = and_yes (l && u && v) p d.0 in
      let g = and_yes (l && u) v e.0 in
      let h = and_yes l u g.0 in
      record {
        short = leb_yes {a = length line} {b = 998} h.0;
        is_utf8 = h.1;
        has_verb_lem = g.1;
        has_path_lem = e.1;
        is_spaced_lem = d.1;
        are_params_lem = b.1;
        alts_ok_lem = a.1;
      }

  -- the `>` after its path
  pub closed_of : Formed mail line → get_or line (verb_len mail + path_len mail line) 0 ≡ 62
  unfolding has_path
  closed_of k =
      let n = verb_len mail + path_len mail line in
      eqb→eq (get_or line n 0) 62 (and_yes (is_to (path_scan mail (drop (verb_len mail) line))) (eqb (get_or line n 0) 62) k.has_path_lem).1

-- ---- a line without fault

module _ (rules : Rules) (mail : Bool) (line : List ℕ) (f : line_fault rules mail line ≡ Ok tt) where
  pub well_formed_lem : T (well_formed mail line)
  unfolding line_fault
  well_formed_lem = by_test (well_formed mail line) (λ t. t) (λ t. absurd (
      let q = rw (no_false (well_formed mail line) t) at f in let z : ◌≡◌ {A = ℕ} 0 1 = cc in omega arith))

  pub alt_fine : alt_fault rules (all is_ascii (path mail line)) (alts (params (tail mail line))) ≡ Ok tt
  unfolding line_fault
  alt_fine = rw (yes_true (well_formed mail line) well_formed_lem) at f

  -- where an ALT-ADDRESS is refused the path is ASCII
  pub retired_ascii : T (not (allows_alternative rules)) → all is_ascii (path mail line) ≡ true
  unfolding alt_fault
  retired_ascii n = go (all is_ascii (path mail line)) (alts (params (tail mail line))) alt_fine
    where
      go : (ascii : Bool) (found : List (List ℕ)) → alt_fault rules ascii found ≡ Ok tt → ascii ≡ true
      go true found k = refl
      go false [] k = absurd (let z : ◌≡◌ {A = ℕ} 0 1 = cc in omega arith)
      go false (p ∷ found) k = absurd (T_not (allows_alternative rules) (alt_taken rules false (value p) k).allowed n)

  pub formed : Formed mail line
  formed = formed_of mail line well_formed_lem

  pub closed : get_or line (verb_len mail + path_len mail line) 0 ≡ 62
  closed = closed_of mail line formed
