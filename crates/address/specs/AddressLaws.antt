-- Laws of the scans: by position in a text, as code goes through it.
use borrow.Author.Tests.{eq-eqb, ne_eqb}
use Rattle.std.proofs.Math.Path.{◌≡◌, sym}
use Rattle.std.proofs.Common.{◌∙◌, append-nil, add-zero, add-one, eqb→eq, drop_of_length-le}
use Rattle.std.specs.Prelude.{Bool, true, false, not, cond, ◌&&◌, ◌||◌, List, [], ◌∷◌, ℕ, zero, suc, ◌+◌, ◌≤◌, ◌<◌, eqb, length, drop, Result, Ok, Err}
use Rattle.std.proofs.Math.Bool.{and-true, and-false, or-false}
use native.Mathlib.Omega.{arith}
use Rattle.std.proofs.Math.ListN.{get_or}
use Rattle.std.proofs.Math.Seq.{take-length, drop-cons, drop-drop, get_or-drop}
use Rattle.std.proofs.Math.Facts.{not_T, eqb_no}
use Rattle.lists.specs.ListsLaws.{by_test, yes_true, no_false}
use Rattle.lists.specs.Lists.{all}
use Rattle.lists.specs.Byte.{within, is_ascii}
use Rattle.lists.specs.Run.{run}
use Rattle.lists.specs.RunLaws.{run_all, run_past}
use Rattle.utf8.specs.Utf8.{utf8}
use Rattle.utf8.specs.Utf8Laws.{utf8_ascii}
use Rattle.address.specs.Address.{later, byte_then, scan_then, is_high, is_atom_byte, is_quoted_byte, is_literal_byte, dot_atom_end, dot_atom_from, quoted_from, literal_from, domain_scan, literal_scan, local_scan, quoted_scan, dot_atom_scan, address_scan, takes_all, is_address, is_ascii_address}

pub later_later : (k n : ℕ) (r : Result ℕ ℕ) → later k (later n r) ≡ later (k + n) r
unfolding later
later_later k n (Ok m) = let e : k + (n + m) ≡ k + n + m = omega arith in rw e
later_later k n (Err m) = let e : k + (n + m) ≡ k + n + m = omega arith in rw e

-- a scan that ends where it starts
pub later_to : (k : ℕ) → later k (Ok 0) ≡ Ok k
unfolding later
later_to k = rw add-zero

pub later_stop : (k : ℕ) → later k (Err 0) ≡ Err k
unfolding later
later_stop k = rw add-zero

-- a byte that is there
pub byte_within : (s : List ℕ) (i b : ℕ) → get_or s i 0 ≡ suc b → i < length s
byte_within [] i b e = absurd (omega arith)
byte_within (x ∷ s) zero b e = omega arith
byte_within (x ∷ s) (suc i) b e = omega (arith, byte_within s i b e)

pub front_byte : (s : List ℕ) (i : ℕ) → get_or (drop i s) 0 0 ≡ get_or s i 0
front_byte s i = rw (get_or-drop i s 0 0, add-zero)

-- ---- dot-atom

-- `atom` is the test of the byte at i as code makes it
module _ (s : List ℕ) (i : ℕ) (due : Bool) where
  module _ (h : i < length s) (atom : Bool) (e : atom ≡ is_atom_byte (get_or s i 0)) where
    pub dot_atom_step : atom || (eqb (get_or s i 0) 46 && not due) ≡ true
        → later i (dot_atom_from due (drop i s)) ≡ later (i + 1) (dot_atom_from (eqb (get_or s i 0) 46 && not due) (drop (i + 1) s))
    unfolding dot_atom_from
    dot_atom_step t = rw (add-one, drop-cons s i 0 h, ← e, t, later_later, add-one)

    pub dot_atom_stop : atom || (eqb (get_or s i 0) 46 && not due) ≡ false → later i (dot_atom_from due (drop i s)) ≡ later i (dot_atom_end due)
    unfolding dot_atom_from
    dot_atom_stop t = rw (drop-cons s i 0 h, ← e, t)

  pub dot_atom_end_lem : length s ≤ i → later i (dot_atom_from due (drop i s)) ≡ later i (dot_atom_end due)
  unfolding dot_atom_from
  dot_atom_end_lem h = rw (drop_of_length-le s {i = i} h)

-- ---- quoted string

-- the tests of a byte, as code makes them: it closes the string; it stands in it
abbrev pub closes : Bool → ℕ → Bool
closes escaped b = eqb b 34 && not escaped

abbrev pub stands : Bool → ℕ → Bool
stands escaped b = within 32 126 b || (is_high b && not escaped)

quoted_cons : (escaped : Bool) (b : ℕ) (s : List ℕ)
    → quoted_from escaped (b ∷ s) ≡ cond (closes escaped b) (Ok 1) (cond (stands escaped b) (later 1 (quoted_from (eqb b 92 && not escaped) s)) (Err 0))
unfolding quoted_from is_quoted_byte
quoted_cons true b s = rw (and-false (eqb b 34), and-false (is_high b), or-false (within 32 126 b), and-false (eqb b 92))
quoted_cons false b s = rw (and-true (eqb b 34), and-true (is_high b), and-true (eqb b 92))

module _ (s : List ℕ) (i : ℕ) (escaped : Bool) where
  pub quoted_end : length s ≤ i → later i (quoted_from escaped (drop i s)) ≡ Err i
  unfolding quoted_from
  quoted_end h = rw (drop_of_length-le s {i = i} h) (later_stop i)

  module _ (h : i < length s) where
    pub quoted_close : closes escaped (get_or s i 0) ≡ true → later i (quoted_from escaped (drop i s)) ≡ Ok (i + 1)
    unfolding later
    quoted_close t = rw (drop-cons s i 0 h, quoted_cons escaped, t)

    pub quoted_stop : closes escaped (get_or s i 0) ≡ false → stands escaped (get_or s i 0) ≡ false → later i (quoted_from escaped (drop i s)) ≡ Err i
    quoted_stop t u = rw (drop-cons s i 0 h, quoted_cons escaped, t, u) (later_stop i)

    pub quoted_step_lem : closes escaped (get_or s i 0) ≡ false → stands escaped (get_or s i 0) ≡ true
        → later i (quoted_from escaped (drop i s)) ≡ later (i + 1) (quoted_from (eqb (get_or s i 0) 92 && not escaped) (drop (i + 1) s))
    quoted_step_lem t u = rw (add-one, drop-cons s i 0 h, quoted_cons escaped, t, u, later_later, add-one)

-- ---- a byte, and what follows

module _ (s : List ℕ) (i b : ℕ) (next : List ℕ → Result ℕ ℕ) where
  pub byte_then_lem : get_or s i 0 ≡ b → later i (byte_then b next (drop i s)) ≡ later (i + 1) (next (drop (i + 1) s))
  unfolding byte_then
  byte_then_lem e = rw (front_byte s i, eq-eqb (get_or s i 0) b e, drop-drop, later_later)

  pub byte_other : (get_or s i 0 ≡ b → ⊥) → later i (byte_then b next (drop i s)) ≡ Err i
  unfolding byte_then
  byte_other n = rw (front_byte s i, ne_eqb (get_or s i 0) b n) (later_stop i)

-- ---- domain

-- `e` is where the bytes of a literal end
module _ (s : List ℕ) (i e : ℕ) (r : e ≡ i + run is_literal_byte (drop i s)) where
  pub literal_close : get_or s e 0 ≡ 93 → later i (literal_from (drop i s)) ≡ Ok (e + 1)
  unfolding literal_from later
  literal_close t =
      let n = run is_literal_byte (drop i s) in
      let here : get_or (drop i s) n 0 ≡ 93 = get_or-drop i s n 0 ∙ rw (← r) t in
      let size : i + (n + 1) ≡ e + 1 = omega arith in
      rw (eq-eqb (get_or (drop i s) n 0) 93 here, size)

  pub literal_stop : (get_or s e 0 ≡ 93 → ⊥) → later i (literal_from (drop i s)) ≡ Err e
  unfolding literal_from later
  literal_stop t =
      let n = run is_literal_byte (drop i s) in
      let here : get_or (drop i s) n 0 ≡ get_or s e 0 = get_or-drop i s n 0 ∙ rw (← r) in
      rw (ne_eqb (get_or (drop i s) n 0) 93 (λ k. t (sym here ∙ k)), ← r)

module _ (s : List ℕ) (i : ℕ) where
  pub domain_literal : get_or s i 0 ≡ 91 → later i (domain_scan (drop i s)) ≡ later (i + 1) (literal_from (drop (i + 1) s))
  unfolding domain_scan literal_scan
  domain_literal e = rw (front_byte s i, eq-eqb (get_or s i 0) 91 e) (byte_then_lem s i 91 literal_from e)

  pub domain_atoms : (get_or s i 0 ≡ 91 → ⊥) → later i (domain_scan (drop i s)) ≡ later i (dot_atom_scan (drop i s))
  unfolding domain_scan
  domain_atoms n = rw (front_byte s i, ne_eqb (get_or s i 0) 91 n)

  -- ---- address

  pub local_quoted : get_or s i 0 ≡ 34 → later i (local_scan (drop i s)) ≡ later i (quoted_scan (drop i s))
  unfolding local_scan
  local_quoted e = rw (front_byte s i, eq-eqb (get_or s i 0) 34 e)

  pub local_atoms : (get_or s i 0 ≡ 34 → ⊥) → later i (local_scan (drop i s)) ≡ later i (dot_atom_scan (drop i s))
  unfolding local_scan
  local_atoms n = rw (front_byte s i, ne_eqb (get_or s i 0) 34 n)

  -- the local part ends at n
  pub address_to : (n : ℕ) → Ok n ≡ later i (local_scan (drop i s)) → later i (address_scan (drop i s)) ≡ later n (byte_then 64 domain_scan (drop n s))
  unfolding address_scan scan_then later
  address_to n e = go (local_scan (drop i s)) e
    where
      go : (r : Result ℕ ℕ) → Ok n ≡ later i r → later i (scan_then r (byte_then 64 domain_scan) (drop i s)) ≡ later n (byte_then 64 domain_scan (drop n s))
      go (Ok m) e = let k : n ≡ i + m = cc in rw (later_later, drop-drop, k)
      go (Err m) e = absurd (let z : ◌≡◌ {A = ℕ} 0 1 = cc in omega arith)

  -- there is no local part
  pub address_stop : (n : ℕ) → Err n ≡ later i (local_scan (drop i s)) → later i (address_scan (drop i s)) ≡ Err n
  unfolding address_scan scan_then later
  address_stop n e = go (local_scan (drop i s)) e
    where
      go : (r : Result ℕ ℕ) → Err n ≡ later i r → later i (scan_then r (byte_then 64 domain_scan) (drop i s)) ≡ Err n
      go (Ok m) e = absurd (let z : ◌≡◌ {A = ℕ} 0 1 = cc in omega arith)
      go (Err m) e = sym e

-- ---- a whole text

-- every element of a list passes where the run is the whole list
pub run_whole : (f : ℕ → Bool) (xs : List ℕ) → eqb (run f xs) (length xs) ≡ all f xs
unfolding run
run_whole f xs =
    by_test (eqb (run f xs) (length xs))
    (λ t.
    let e : run f xs ≡ length xs = eqb→eq (run f xs) (length xs) t in
    yes_true (eqb (run f xs) (length xs)) t ∙ sym (yes_true (all f xs) (rw (e, take-length) at (run_all f xs))))
    (λ t.
    no_false (eqb (run f xs) (length xs)) t
    ∙ sym (no_false (all f xs) (not_T (all f xs) (λ u. eqb_no {a = run f xs} {b = length xs} t (rw append-nil at (run_past f xs [] u) ∙ add-zero (length xs))))))

module _ (s : List ℕ) (r : Result ℕ ℕ) (e : r ≡ later 0 (address_scan (drop 0 s))) where
  scanned : address_scan s ≡ r
  unfolding later
  scanned = go (address_scan s) e
    where
      go : (q : Result ℕ ℕ) → r ≡ later 0 q → q ≡ r
      go (Ok n) k = rw k (let z : 0 + n ≡ n = omega arith in rw z)
      go (Err n) k = rw k (let z : 0 + n ≡ n = omega arith in rw z)

  pub ascii_address : takes_all r s && all is_ascii s ≡ is_ascii_address s
  unfolding is_ascii_address is_address
  ascii_address =
      by_test (all is_ascii s)
      (λ t. rw (scanned, yes_true (utf8 s) (utf8_ascii s t)))
      (λ t. rw (no_false (all is_ascii s) t, and-false (takes_all r s), and-false (utf8 s && takes_all (address_scan s) s)))
