-- What is read as xtext is what the grammar makes.
use Rattle.std.specs.Prelude.{◌≡◌, refl, true, false, ◌&&◌, List, [], ◌∷◌, ℕ, zero, suc, ◌+◌, ◌*◌, ◌≤◌, T, eqb, leb, length, drop, get_or}
use Rattle.std.proofs.Common.{ap, eqb→eq}
use Rattle.std.proofs.Math.Facts.{and_yes, yes_and, yes_leb}
use Rattle.lists.specs.Lists.{all}
use Rattle.lists.specs.Byte.{is_ascii}
use Rattle.lists.specs.ListsLaws.{by_test, yes_true, no_false}
use Rattle.utf8.specs.Utf8.{utf8}
use Rattle.utf8.specs.Utf8Laws.{utf8_ascii}
use Rattle.address.specs.Address.{address_scan, takes_all, is_address, is_ascii_address}
use Rattle.address.specs.GrammarLaws.{whole_address, address_whole}
use Rattle.hex_digit.specs.Hex.{is_hex_digit, hex_value}
use Rattle.xtext.specs.Xtext.{is_xchar, is_hexchar, unit_len, unit_byte, decoding_after, decoding, is_xtext, decoded, is_alt_address}
use Rattle.xtext.specs.Grammar.{Xtext, AltAddress}

-- ---- read

-- after k bytes
record ReadFrom (k : ℕ) (s : List ℕ) : Type 0 where
  is : Xtext (drop k s) (decoding_after k s).bytes

read_hexchar : (b : ℕ) (s : List ℕ) → T (is_hexchar (b ∷ s)) → ReadFrom 2 s → Xtext (b ∷ s) ((hex_value (get_or s 0 0) * 16 + hex_value (get_or s 1 0)) ∷ (decoding_after 2 s).bytes)
unfolding is_hexchar is_hex_digit
read_hexchar b [] t r = absurd (and_yes (eqb b 43 && false) false t).1
read_hexchar b (h ∷ []) t r = absurd (and_yes (eqb b 43 && is_hex_digit h) false t).1
read_hexchar b (h ∷ l ∷ s) t r =
    let p = and_yes (eqb b 43 && is_hex_digit h) (is_hex_digit l) t in
    let q = and_yes (eqb b 43) (is_hex_digit h) p.0 in
    rw (eqb→eq b 43 q.0) (Xtext.hexchar q.1 p.1 r.is)

read_after : (k : ℕ) (s : List ℕ) → T (decoding_after k s).whole → ReadFrom k s
unfolding decoding_after unit_len unit_byte
read_after zero [] w = record { is = Xtext.end }
read_after (suc k) [] w = record { is = Xtext.end }
read_after (suc k) (b ∷ s) w = record { is = (read_after k s w).is }
read_after zero (b ∷ s) w =
    let more : (k : ℕ) → T (decoding_after k s).whole → ReadFrom k s = λ k. read_after k s in
    by_test (is_xchar b)
    (λ t. let yes = yes_true (is_xchar b) t in record { is = rw yes (Xtext.xchar t (more 0 (rw yes at w)).is) })
    (λ t. let no = no_false (is_xchar b) t in
    by_test (is_hexchar (b ∷ s))
    (λ u. let yes = yes_true (is_hexchar (b ∷ s)) u in record { is = rw (no, yes) (read_hexchar b s u (more 2 (rw (no, yes) at w))) })
    (λ u. absurd (rw (no, no_false (is_hexchar (b ∷ s)) u) at w)))

pub read_xtext : (s : List ℕ) → T (is_xtext s) → Xtext s (decoded s)
unfolding is_xtext decoded decoding
read_xtext s w = (read_after 0 s w).is

-- ---- made

plus_no_xchar : is_xchar 43 ≡ false
unfolding is_xchar
plus_no_xchar = refl

xtext_after : {s bytes : List ℕ} → Xtext s bytes → ((decoding_after 0 s).whole ≡ true) × ((decoding_after 0 s).bytes ≡ bytes)
unfolding decoding_after unit_len unit_byte is_hexchar
xtext_after Xtext.end = (refl, refl)
xtext_after (Xtext.xchar {b} {more} {bytes} t x) = let r = xtext_after x in rw (yes_true (is_xchar b) t) (r.0, ap (λ (l : List ℕ). b ∷ l) r.1)
xtext_after (Xtext.hexchar {high} {low} {more} {bytes} t u x) =
    let r = xtext_after x in
    rw (plus_no_xchar, yes_true (is_hex_digit high) t, yes_true (is_hex_digit low) u) (r.0, ap (λ (l : List ℕ). (hex_value high * 16 + hex_value low) ∷ l) r.1)

pub xtext_read : {s bytes : List ℕ} → Xtext s bytes → (is_xtext s ≡ true) × (decoded s ≡ bytes)
unfolding is_xtext decoded decoding
xtext_read x = xtext_after x

-- ---- the value of ALT-ADDRESS

pub read_alt_address : (v : List ℕ) → T (is_alt_address v) → AltAddress v (decoded v)
unfolding is_alt_address is_ascii_address is_address
read_alt_address v t =
    let d = decoded v in
    let a = and_yes (leb (length v) 998 && is_xtext v) (is_ascii_address d) t in
    let b = and_yes (is_address d) (all is_ascii d) a.1 in
    (read_xtext v (and_yes (leb (length v) 998) (is_xtext v) a.0).1, whole_address d (and_yes (utf8 d) (takes_all (address_scan d) d) b.0).1, b.1)

pub alt_address_read : {v address : List ℕ} → length v ≤ 998 → AltAddress v address → T (is_alt_address v) × (decoded v ≡ address)
unfolding is_alt_address is_ascii_address is_address
alt_address_read {v} {address} k a =
    let r = xtext_read a.0 in
    let whole = yes_and (utf8 address) (takes_all (address_scan address) address) (utf8_ascii address a.2) (address_whole address a.1) in
    (rw (r.0, r.1) (yes_and (leb (length v) 998 && true) (is_ascii_address address) (yes_and (leb (length v) 998) true (yes_leb {a = length v} {b = 998} k) tt) (yes_and (is_address address) (all is_ascii address) whole a.2)), r.1)
