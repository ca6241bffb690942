-- Laws of the verb and the path, as code finds them.
use Rattle.std.specs.Prelude.{◌≡◌, Bool, true, false, List, ℕ, ◌+◌, ◌≤◌, min, length, take, drop, get_or, Result, Ok, Err}
use Rattle.std.proofs.Math.Path.{refl, ap}
use Rattle.std.proofs.Common.{◌∙◌}
use Rattle.std.proofs.Math.Seq.{get_or-drop}
use borrow.Author.Tests.{eq-eqb, ne_eqb}
use Rattle.letter_case.specs.LetterCase.{bytes, same_any_case}
use Rattle.buffer.specs.Buffer.{greatest}
use Rattle.line.specs.LineLaws.{drop_capped}
use Rattle.address.specs.Address.{later, address_scan}
use Rattle.envelope_line.specs.EnvelopeLine.{verb, verb_len, has_verb, path_scan, scan_end, is_to, path_len, tail}

-- ---- a scan moved by n bytes

module _ (n : ℕ) where
  pub later_end : (x : Result ℕ ℕ) → scan_end (later n x) ≡ n + scan_end x
  unfolding later
  later_end (Ok k) = refl
  later_end (Err k) = refl

  pub later_to : (x : Result ℕ ℕ) → is_to (later n x) ≡ is_to x
  unfolding later
  later_to (Ok k) = refl
  later_to (Err k) = refl

-- ---- verb and path

module _ (mail : Bool) (line : List ℕ) where
  pub has_verb_mail : {front : List ℕ} {r : Bool} → mail ≡ true → front ≡ take 11 line → r ≡ same_any_case (verb true) front → r ≡ has_verb mail line
  unfolding has_verb
  has_verb_mail m f e = rw (m, ← f) e

  pub has_verb_rcpt : {front : List ℕ} {r : Bool} → mail ≡ false → front ≡ take 9 line → r ≡ same_any_case (verb false) front → r ≡ has_verb mail line
  unfolding has_verb
  has_verb_rcpt m f e = rw (m, ← f) e

  -- the path by place in the line
  unfoldable pub path_at : Result ℕ ℕ
  path_at = later (verb_len mail) (path_scan mail (drop (verb_len mail) line))

  module _ (m : mail ≡ true) where
    pub path_empty : get_or line 11 0 ≡ 62 → Ok 11 ≡ path_at
    unfolding path_at path_scan later
    path_empty e = rw (m, get_or-drop 11 line 0 0, eq-eqb (get_or line 11 0) 62 e)

    pub path_mail : {r : Result ℕ ℕ} → (get_or line 11 0 ≡ 62 → ⊥) → r ≡ later 11 (address_scan (drop 11 line)) → r ≡ path_at
    unfolding path_at path_scan
    path_mail n e = rw (m, get_or-drop 11 line 0 0, ne_eqb (get_or line 11 0) 62 n) e

  module _ (m : mail ≡ false) {word : List ℕ} (w : word ≡ take 11 (drop 9 line)) where
    pub path_postmaster : same_any_case (bytes "Postmaster>") word ≡ true → Ok 19 ≡ path_at
    unfolding path_at path_scan later
    path_postmaster e = rw (m, ← w, e)

    pub path_rcpt : {r : Result ℕ ℕ} → same_any_case (bytes "Postmaster>") word ≡ false → r ≡ later 9 (address_scan (drop 9 line)) → r ≡ path_at
    unfolding path_at path_scan
    path_rcpt n e = rw (m, ← w, n) e

  -- where it ends, or stops
  pub path_end_lem : {x : Result ℕ ℕ} → x ≡ path_at → scan_end x ≡ verb_len mail + path_len mail line
  unfolding path_at path_len
  path_end_lem e = ap scan_end e ∙ later_end (verb_len mail) (path_scan mail (drop (verb_len mail) line))

  pub tail_from : (n r : ℕ) → n ≡ verb_len mail + path_len mail line → r ≡ min (n + 1) greatest → length line ≤ greatest → drop r line ≡ tail mail line
  unfolding tail
  tail_from n r e k h = drop_capped line (n + 1) r k h ∙ rw e
