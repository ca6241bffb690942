-- Laws of what the scans take: within the text, of which bytes, how many at least.
use Rattle.std.proofs.Math.Path.{◌≡◌}
use Rattle.std.specs.Prelude.{Bool, true, false, not, cond, ◌&&◌, ◌||◌, List, [], ◌∷◌, ℕ, suc, ◌+◌, ◌-◌, ◌≤◌, ◌<◌, T, eqb, leb, ltb, take, drop, get_or, Result, Ok, Err}
use Rattle.std.proofs.Math.Bool.{or-true, or-false}
use Rattle.std.proofs.Common.{add-zero, eqb→eq, take-append-drop, take-add, take_all, take-suc, get_or-drop, lt-ltb, add-one}
use native.Mathlib.Omega.{arith}
use Rattle.std.proofs.Math.ListN.{length, length-drop}
use Rattle.std.proofs.Math.Seq.{take-length, split_at}
use Rattle.std.proofs.lemmas.Bool.{lt-leb}
use Rattle.utf8.specs.Utf8.{utf8}
use Rattle.utf8.specs.Utf8Laws.{utf8_cut, utf8_append, utf8_ascii}
use Rattle.std.proofs.Math.Facts.{and_yes, yes_and, leb_no, ltb_yes, ltb_no}
use Rattle.lists.specs.ListsLaws.{by_test, cond_has, yes_true, all_append, all_weaken, all_left, all_right}
use Rattle.lists.specs.Lists.{all}
use Rattle.lists.specs.Byte.{within, is_ascii}
use Rattle.lists.specs.ByteLaws.{all_below, below, implies}
use Rattle.lists.specs.Run.{run}
use Rattle.lists.specs.RunLaws.{run_le, run_all}
use Rattle.address.specs.Address.{later, byte_then, scan_then, is_high, is_atext, is_atom_byte, is_quoted_byte, is_literal_byte, dot_atom_end, dot_atom_from, dot_atom_scan, quoted_from, quoted_scan, literal_from, literal_scan, domain_scan, local_scan, address_scan, takes_all, is_address, is_ascii_address}

-- the place that a scan answers
abbrev pub reach : Result ℕ ℕ → ℕ
reach (Ok n) = n
reach (Err n) = n

-- what a scan finds has so many bytes at least
abbrev pub AtLeast : ℕ → Result ℕ ℕ → Type 0
AtLeast k (Ok n) = k ≤ n
AtLeast k (Err n) = Unit {0}

-- The first n bytes are there, and each is 32 to 126 or not ASCII: none is CR, LF, TAB or NUL.
pub record Covers (s : List ℕ) (n : ℕ) : Type 0 where
  pub within : n ≤ length s
  pub bytes : T (all is_quoted_byte (take n s))

-- A scan of a text passes over bytes of it, and finds a thing of so many bytes at least, or none.
pub record Taken (least : ℕ) (s : List ℕ) (r : Result ℕ ℕ) : Type 0 where
  pub covers : Covers s (reach r)
  pub some : AtLeast least r

-- ---- classes of bytes

high_quoted : (b : ℕ) → T (is_high b) → T (is_quoted_byte b)
unfolding is_quoted_byte
high_quoted b t = rw (yes_true (is_high b) t, or-true (within 32 126 b)) tt

-- a class of bytes that holds none below 128 but 32 to 126
module _ (f : ℕ → Bool) (low : T (all_below (λ k. not (f k) || is_quoted_byte k) 128)) where
  class_quoted : (b : ℕ) → T (f b) → T (is_quoted_byte b)
  class_quoted b t =
      by_test (leb 128 b)
      (λ u. high_quoted b u)
      (λ u. implies (f b) (is_quoted_byte b) (below (λ k. not (f k) || is_quoted_byte k) 128 low b (leb_no u)) t)

atom_quoted : (b : ℕ) → T (is_atom_byte b || eqb b 46) → T (is_quoted_byte b)
unfolding is_atom_byte is_atext is_quoted_byte
atom_quoted = class_quoted (λ b. is_atom_byte b || eqb b 46) tt

literal_quoted : (b : ℕ) → T (is_literal_byte b) → T (is_quoted_byte b)
unfolding is_literal_byte is_quoted_byte
literal_quoted = class_quoted is_literal_byte tt

visible_quoted : (b : ℕ) → T (within 32 126 b) → T (is_quoted_byte b)
unfolding is_quoted_byte
visible_quoted b t = rw (yes_true (within 32 126 b) t) tt

-- ---- scans one after another

covers_none : (s : List ℕ) → Covers s 0
covers_none s = record { within = omega arith; bytes = tt }

covers_byte : (b : ℕ) (s : List ℕ) → T (is_quoted_byte b) → Covers (b ∷ s) 1
covers_byte b s t = record { within = omega arith; bytes = rw (yes_true (is_quoted_byte b) t) tt }

covers_then : {s : List ℕ} {k n : ℕ} → Covers s k → Covers (drop k s) n → Covers s (k + n)
covers_then {s} {k} {n} a b = record {
  within = omega (arith, a.within, b.within, length-drop k s);
  bytes = rw (take-add k n s) (all_append is_quoted_byte (take k s) (take n (drop k s)) a.bytes b.bytes);
}

taken_stop : {least n : ℕ} {s : List ℕ} → Covers s n → Taken least s (Err n)
taken_stop c = record { covers = c; some = tt }

taken_to : {least n : ℕ} {s : List ℕ} → Covers s n → least ≤ n → Taken least s (Ok n)
taken_to c h = record { covers = c; some = h }

taken_later : {least more k : ℕ} {s : List ℕ} → Covers s k → (r : Result ℕ ℕ) → Taken more (drop k s) r → least ≤ k + more → Taken least s (later k r)
unfolding later
taken_later c (Ok n) t h = record { covers = covers_then c t.covers; some = omega (arith, t.some, h) }
taken_later c (Err n) t h = record { covers = covers_then c t.covers; some = tt }

-- a byte that is not 0 stands at the front
front_byte : (s : List ℕ) (b : ℕ) → T (eqb (get_or s 0 0) (suc b)) → T (is_quoted_byte (suc b)) → Covers s 1
front_byte [] b t q = absurd (omega (arith, eqb→eq 0 (suc b) t))
front_byte (x ∷ s) b t q = covers_byte x s (rw (eqb→eq x (suc b) t) q)

taken_byte_then : (b more : ℕ) (next : List ℕ → Result ℕ ℕ) → T (is_quoted_byte (suc b)) → ((s : List ℕ) → Taken more s (next s)) → (s : List ℕ) → Taken (1 + more) s (byte_then (suc b) next s)
unfolding byte_then
taken_byte_then b more next q f s =
    cond_has (Taken (1 + more) s) (eqb (get_or s 0 0) (suc b)) (later 1 (next (drop 1 s))) (Err 0)
    (λ t. taken_later (front_byte s b t q) (next (drop 1 s)) (f (drop 1 s)) (omega arith))
    (λ t. taken_stop (covers_none s))

taken_scan_then : {least more : ℕ} (r : Result ℕ ℕ) (next : List ℕ → Result ℕ ℕ) (s : List ℕ) → Taken least s r → ((s : List ℕ) → Taken more s (next s)) → Taken (least + more) s (scan_then r next s)
unfolding scan_then
taken_scan_then (Ok n) next s t f = taken_later t.covers (next (drop n s)) (f (drop n s)) (omega (arith, t.some))
taken_scan_then (Err n) next s t f = taken_stop t.covers

-- ---- each scan

taken_dot_atom_from : (due : Bool) (s : List ℕ) → Taken (cond due 1 0) s (dot_atom_from due s)
unfolding dot_atom_from
taken_dot_atom_from true [] = taken_stop (covers_none [])
taken_dot_atom_from false [] = taken_to (covers_none []) (omega arith)
taken_dot_atom_from due (b ∷ s) =
    let dot = eqb b 46 && not due in
    let rest = taken_dot_atom_from dot s in
    cond_has (Taken (cond due 1 0) (b ∷ s)) (is_atom_byte b || dot) (later 1 (dot_atom_from dot s)) (dot_atom_end due)
    (λ t. taken_later (covers_byte b s (atom_quoted b (either (is_atom_byte b) (eqb b 46) (not due) t))) (dot_atom_from dot s) rest (least due (cond dot 1 0)))
    (λ t. ended due)
  where
    either : (x y z : Bool) → T (x || (y && z)) → T (x || y)
    either true y z t = tt
    either false true z t = tt
    either false false z t = t

    least : (due : Bool) (n : ℕ) → cond due 1 0 ≤ 1 + n
    least true n = omega arith
    least false n = omega arith

    ended : (due : Bool) → Taken (cond due 1 0) (b ∷ s) (dot_atom_end due)
    ended true = taken_stop (covers_none (b ∷ s))
    ended false = taken_to (covers_none (b ∷ s)) (omega arith)

pub taken_dot_atom : (s : List ℕ) → Taken 1 s (dot_atom_scan s)
unfolding dot_atom_scan
taken_dot_atom s = taken_dot_atom_from true s

taken_quoted_from : (escaped : Bool) (s : List ℕ) → Taken 1 s (quoted_from escaped s)
unfolding quoted_from
taken_quoted_from true [] = taken_stop (covers_none [])
taken_quoted_from false [] = taken_stop (covers_none [])
taken_quoted_from true (b ∷ s) =
    let rest = taken_quoted_from false s in
    cond_has (Taken 1 (b ∷ s)) (within 32 126 b) (later 1 (quoted_from false s)) (Err 0)
    (λ t. taken_later (covers_byte b s (visible_quoted b t)) (quoted_from false s) rest (omega arith))
    (λ t. taken_stop (covers_none (b ∷ s)))
taken_quoted_from false (b ∷ s) =
    let rest = taken_quoted_from (eqb b 92) s in
    let more = cond (is_quoted_byte b) (later 1 (quoted_from (eqb b 92) s)) (Err 0) in
    cond_has (Taken 1 (b ∷ s)) (eqb b 34) (Ok 1) more
    (λ t. taken_to (covers_byte b s (rw (eqb→eq b 34 t) (visible_quoted 34 tt))) (omega arith))
    (λ t.
    cond_has (Taken 1 (b ∷ s)) (is_quoted_byte b) (later 1 (quoted_from (eqb b 92) s)) (Err 0)
    (λ u. taken_later (covers_byte b s u) (quoted_from (eqb b 92) s) rest (omega arith))
    (λ u. taken_stop (covers_none (b ∷ s))))

pub taken_quoted : (s : List ℕ) → Taken 2 s (quoted_scan s)
unfolding quoted_scan
taken_quoted = taken_byte_then 33 1 (quoted_from false) (visible_quoted 34 tt) (taken_quoted_from false)

taken_literal_from : (s : List ℕ) → Taken 1 s (literal_from s)
unfolding literal_from
taken_literal_from s =
    let n = run is_literal_byte s in
    let run_covers : Covers s n = record { within = run_le is_literal_byte s; bytes = all_weaken is_literal_byte is_quoted_byte literal_quoted (take n s) (run_all is_literal_byte s) } in
    cond_has (Taken 1 s) (eqb (get_or s n 0) 93) (Ok (n + 1)) (Err n)
    (λ t. taken_to (covers_then run_covers (front_byte (drop n s) 92 (rw (get_or-drop n s 0 0, add-zero) t) (visible_quoted 93 tt))) (omega arith))
    (λ t. taken_stop run_covers)

pub taken_literal : (s : List ℕ) → Taken 2 s (literal_scan s)
unfolding literal_scan
taken_literal = taken_byte_then 90 1 literal_from (visible_quoted 91 tt) taken_literal_from

-- a longer thing is one of at least fewer bytes
taken_fewer : {least more : ℕ} {s : List ℕ} (r : Result ℕ ℕ) → Taken more s r → least ≤ more → Taken least s r
taken_fewer (Ok n) t h = record { covers = t.covers; some = omega (arith, t.some, h) }
taken_fewer (Err n) t h = record { covers = t.covers; some = tt }

pub taken_domain : (s : List ℕ) → Taken 1 s (domain_scan s)
unfolding domain_scan
taken_domain s =
    cond_has (Taken 1 s) (eqb (get_or s 0 0) 91) (literal_scan s) (dot_atom_scan s) (λ t. taken_fewer (literal_scan s) (taken_literal s) (omega arith)) (λ t. taken_dot_atom s)

taken_local : (s : List ℕ) → Taken 1 s (local_scan s)
unfolding local_scan
taken_local s =
    cond_has (Taken 1 s) (eqb (get_or s 0 0) 34) (quoted_scan s) (dot_atom_scan s) (λ t. taken_fewer (quoted_scan s) (taken_quoted s) (omega arith)) (λ t. taken_dot_atom s)

-- an address has at least 3 bytes
pub taken_address : (s : List ℕ) → Taken 3 s (address_scan s)
unfolding address_scan
taken_address s = taken_scan_then (local_scan s) (byte_then 64 domain_scan) s (taken_local s) (taken_byte_then 63 1 domain_scan (visible_quoted 64 tt) taken_domain)

-- ---- by position in a text

-- A thing found by a scan from i on ends at n. Its bytes are in the text, each is 32 to 126 or not ASCII, and it has so many bytes at
-- least.
pub record Found (least : ℕ) (s : List ℕ) (i n : ℕ) : Type 0 where
  pub some : i + least ≤ n
  pub within : n ≤ length s
  pub bytes : T (all is_quoted_byte (take (n - i) (drop i s)))

module _ {least : ℕ} (s : List ℕ) (i : ℕ) (r : Result ℕ ℕ) (t : Taken (suc least) (drop i s) r) where
  pub found : (n : ℕ) → Ok n ≡ later i r → Found (suc least) s i n
  unfolding later
  found n e = go r t e
    where
      go : (r : Result ℕ ℕ) → Taken (suc least) (drop i s) r → Ok n ≡ later i r → Found (suc least) s i n
      go (Ok m) t e =
          let place : n ≡ i + m = cc in
          let size : n - i ≡ m = omega arith in
          record {
            some = omega (arith, t.some);
            within = omega (arith, t.some, t.covers.within, length-drop i s);
            bytes = rw size t.covers.bytes;
          }
      go (Err m) t e = absurd (let z : ◌≡◌ {A = ℕ} 0 1 = cc in omega arith)

  -- the place where a scan stops is in the text, or its end
  pub stopped : (n : ℕ) → Err n ≡ later i r → i ≤ length s → (i ≤ n) × (n ≤ length s)
  unfolding later
  stopped n e h = go r t e
    where
      go : (r : Result ℕ ℕ) → Taken (suc least) (drop i s) r → Err n ≡ later i r → (i ≤ n) × (n ≤ length s)
      go (Ok m) t e = absurd (let z : ◌≡◌ {A = ℕ} 0 1 = cc in omega arith)
      go (Err m) t e = let place : n ≡ i + m = cc in (omega arith, omega (arith, t.covers.within, length-drop i s))

-- ---- ASCII and UTF-8 of a part

pub ascii_part : (s : List ℕ) (i n : ℕ) → T (all is_ascii s) → T (all is_ascii (take n (drop i s)))
ascii_part s i n h =
    let rest : T (all is_ascii (drop i s)) = all_right is_ascii (take i s) (drop i s) (rw (take-append-drop i s) h) in
    all_left is_ascii (take n (drop i s)) (drop n (drop i s)) (rw (take-append-drop n (drop i s)) rest)

-- what a scan takes of UTF-8 is UTF-8, where the next byte is ASCII or the end
pub utf8_front : (s : List ℕ) (n : ℕ) → T (utf8 s) → get_or s n 0 < 128 → T (utf8 (take n s))
utf8_front s n h k =
    by_test (ltb n (length s))
    (λ t. (utf8_cut (take n s) (get_or s n 0) (drop (suc n) s) k (rw (← split_at s n 0 (ltb_yes t)) h)).0)
    (λ t. rw (take_all n s (ltb_no t)) h)

-- and where its last byte is ASCII
pub utf8_through : (s : List ℕ) (n : ℕ) → T (utf8 s) → n < length s → get_or s n 0 < 128 → T (utf8 (take (n + 1) s))
utf8_through s n h l k =
    let last : T (utf8 (get_or s n 0 ∷ [])) = utf8_ascii (get_or s n 0 ∷ []) (rw (lt-ltb (get_or s n 0) 128 k) tt) in
    rw (add-one, take-suc s n 0 l) (utf8_append (take n s) (get_or s n 0 ∷ []) (utf8_front s n h k) last)

-- ---- a whole address

-- a text that is taken whole is taken
pub whole_taken : {least : ℕ} (s : List ℕ) (r : Result ℕ ℕ) → Taken least s r → T (takes_all r s) → (least ≤ length s) × T (all is_quoted_byte s)
whole_taken s (Ok n) t h =
    let size : n ≡ length s = eqb→eq n (length s) h in
    (omega (arith, t.some), rw (size, take-length) at t.covers.bytes)
whole_taken s (Err n) t h = absurd h

-- an address has at least 3 bytes, each of them 32 to 126 or not ASCII
pub address_bytes : (s : List ℕ) → T (is_address s) → (3 ≤ length s) × T (all is_quoted_byte s)
unfolding is_address
address_bytes s h = whole_taken s (address_scan s) (taken_address s) (and_yes (utf8 s) (takes_all (address_scan s) s) h).1

-- the bytes of an ASCII address are 32 to 126: no CR, LF, TAB or NUL
pub ascii_address_bytes : (s : List ℕ) → T (is_ascii_address s) → T (all (within 32 126) s)
unfolding is_ascii_address is_quoted_byte
ascii_address_bytes s h =
    let both = and_yes (is_address s) (all is_ascii s) h in
    all_both is_quoted_byte is_ascii (within 32 126) visible s (address_bytes s both.0).1 both.1
  where
    all_both : (f g k : ℕ → Bool) → ((b : ℕ) → T (f b) → T (g b) → T (k b)) → (s : List ℕ) → T (all f s) → T (all g s) → T (all k s)
    all_both f g k w [] p q = tt
    all_both f g k w (b ∷ s) p q =
        let x = and_yes (f b) (all f s) p in
        let y = and_yes (g b) (all g s) q in
        yes_and (k b) (all k s) (w b x.0 y.0) (all_both f g k w s x.1 y.1)

    visible : (b : ℕ) → T (is_quoted_byte b) → T (is_ascii b) → T (within 32 126 b)
    visible b p q = rw (lt-leb 128 b (ltb_yes {a = b} {b = 128} q), or-false (within 32 126 b)) at p
