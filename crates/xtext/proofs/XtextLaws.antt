-- Laws of xtext: by position in a text, as code decodes it.
use Rattle.std.proofs.Common.{lt-ltb, le-leb, sym, ◌∙◌, length-drop, drop_of_length-le, drop-drop}
use Rattle.std.proofs.lemmas.Bool.{lt-leb}
use Rattle.std.specs.Prelude.{◌≡◌, refl, Bool, false, ◌&&◌, List, [], ◌∷◌, ◌++◌, ℕ, zero, suc, pred, ◌+◌, ◌*◌, ◌-◌, ◌≤◌, ◌<◌, T, eqb, ltb, leb, drop}
use Rattle.std.proofs.Math.Path.{ap}
use Rattle.std.proofs.Math.Bool.{true, and-false}
use native.Mathlib.Omega.{arith}
use Rattle.address.specs.TakenLaws.{ascii_address_bytes}
use Rattle.std.proofs.Math.ListN.{length, take, get_or, get_or-eq_default}
use Rattle.std.proofs.Math.Seq.{get_or-drop}
use Rattle.std.proofs.Math.Facts.{and_yes, ltb_yes}
use Rattle.lists.specs.Lists.{all}
use Rattle.lists.specs.ListsLaws.{cond_has, true_yes}
use Rattle.lists.specs.Byte.{within}
use Rattle.hex_digit.specs.Hex.{is_hex_digit, hex_value}
use Rattle.hex_digit.proofs.HexLaws.{reads_only}
use Rattle.buffer.specs.Buffer.{Wrote, AppendedCapped, Reached, greatest}
use Rattle.buffer.specs.BufferLaws.{reached_start, reached_then, reached_end, reached_within, length_reached, appended_of, wrote_from, overlay_front}
use Rattle.address.specs.Address.{is_ascii_address}
use Rattle.address.specs.AddressLaws.{front_byte}
use Rattle.xtext.specs.Xtext.{is_xchar, is_hexchar, unit_len, unit_byte, Decoding, byte_before, decoding_after, decoding, is_xtext, decoded, is_alt_address}
use Rattle.xtext.specs.XtextLaws.{UnitAt}

-- a hexchar by position
hexchar_at : (s : List ℕ) (i : ℕ) → is_hexchar (drop i s) ≡ eqb (get_or s i 0) 43 && is_hex_digit (get_or s (i + 1) 0) && is_hex_digit (get_or s (i + 2) 0)
unfolding is_hexchar
hexchar_at s i = rw (front_byte s i, get_or-drop i s 1 0, get_or-drop i s 2 0)

-- `x` is the test of the byte at i, and `high` and `low` are the values of the two bytes after it, as code finds them
module _ (s : List ℕ) (i : ℕ) (h : i < length s) (x : Bool) (e : x ≡ is_xchar (get_or s i 0)) where
  pub unit_bare : x ≡ true → UnitAt s i 1 (get_or s i 0)
  unfolding unit_len unit_byte
  unit_bare t = record { size = rw (front_byte s i, ← e, t); byte = rw (front_byte s i, ← e, t); fits = omega arith }

  unit_none : x ≡ false → is_hexchar (drop i s) ≡ false → UnitAt s i 0 0
  unfolding unit_len unit_byte
  unit_none n t = record { size = rw (front_byte s i, ← e, n, t); byte = rw (front_byte s i, ← e, n, t); fits = omega arith }

  -- a third byte is missing
  pub unit_short : x ≡ false → length s - i < 3 → UnitAt s i 0 0
  unfolding is_hex_digit
  unit_short n k =
      let past : get_or s (i + 2) 0 ≡ 0 = get_or-eq_default s 0 (omega arith) in
      unit_none n (rw (hexchar_at s i, past, and-false))

  module _ (n : x ≡ false) (high low : ℕ) (u : high ≡ hex_value (get_or s (i + 1) 0)) (v : low ≡ hex_value (get_or s (i + 2) 0)) where
    tested : is_hexchar (drop i s) ≡ eqb (get_or s i 0) 43 && ltb high 16 && ltb low 16
    tested = rw (hexchar_at s i, ← reads_only (get_or s (i + 1) 0), ← reads_only (get_or s (i + 2) 0), ← u, ← v)

    pub unit_other : eqb (get_or s i 0) 43 && ltb high 16 && ltb low 16 ≡ false → UnitAt s i 0 0
    unit_other t = unit_none n (tested ∙ t)

    pub unit_hex : eqb (get_or s i 0) 43 && ltb high 16 && ltb low 16 ≡ true → 3 ≤ length s - i → UnitAt s i 3 (high * 16 + low)
    unfolding unit_len unit_byte
    unit_hex t k =
        let hex : is_hexchar (drop i s) ≡ true = tested ∙ t in
        record {
          size = rw (front_byte s i, ← e, n, hex);
          byte = rw (front_byte s i, ← e, n, hex, get_or-drop i s 1 0, get_or-drop i s 2 0, u, v);
          fits = omega arith;
        }

-- two digits, by the test that code makes
pub two_digits : (x : Bool) (high low : ℕ) → x && ltb high 16 && ltb low 16 ≡ true → (high < 16) × (low < 16)
two_digits x high low t =
    let p = and_yes (x && ltb high 16) (ltb low 16) (true_yes (x && ltb high 16 && ltb low 16) t) in
    (ltb_yes (and_yes x (ltb high 16) p.0).1, ltb_yes p.1)

-- ---- decoding

after_drop : (k : ℕ) (s : List ℕ) → decoding_after k s ≡ decoding (drop k s)
unfolding decoding_after decoding
after_drop zero s = refl
after_drop (suc k) [] = refl
after_drop (suc k) (b ∷ s) = after_drop k s

-- a text that goes on: with a unit, or without
decoding_unit : (s : List ℕ) (n : ℕ) → n ≡ unit_len s → 0 < length s → (n ≡ 0 → ⊥) → decoding s ≡ byte_before (unit_byte s) (decoding (drop n s))
unfolding decoding_after decoding
decoding_unit [] n e h z = absurd (omega arith)
decoding_unit (b ∷ s) zero e h z = absurd (z refl)
decoding_unit (b ∷ s) (suc n) e h z = rw (← e, lt-ltb 0 (suc n) (omega arith), after_drop n s)

decoding_none : (s : List ℕ) → unit_len s ≡ 0 → 0 < length s → decoding s ≡ record { bytes = []; whole = false }
unfolding decoding_after decoding
decoding_none [] e h = absurd (omega arith)
decoding_none (b ∷ s) e h = rw e

module _ (s : List ℕ) (i : ℕ) where
  module _ (n b : ℕ) (u : UnitAt s i n b) (h : i < length s) where
    step : (n ≡ 0 → ⊥) → decoding (drop i s) ≡ byte_before b (decoding (drop (i + n) s))
    step z = rw (u.byte, ← drop-drop n i s) (decoding_unit (drop i s) n u.size (rw length-drop (omega arith)) z)

    stop : n ≡ 0 → decoding (drop i s) ≡ record { bytes = []; whole = false }
    stop z = decoding_none (drop i s) (sym u.size ∙ z) (rw length-drop (omega arith))

    pub decoded_step : (n ≡ 0 → ⊥) → decoded (drop i s) ≡ b ∷ decoded (drop (i + n) s)
    unfolding decoded
    decoded_step z = ap (λ (d : Decoding). d.bytes) (step z)

    pub xtext_step : (n ≡ 0 → ⊥) → is_xtext (drop i s) ≡ is_xtext (drop (i + n) s)
    unfolding is_xtext
    xtext_step z = ap (λ (d : Decoding). d.whole) (step z)

    pub decoded_stop : n ≡ 0 → decoded (drop i s) ≡ []
    unfolding decoded
    decoded_stop z = ap (λ (d : Decoding). d.bytes) (stop z)

    pub xtext_stop : n ≡ 0 → is_xtext (drop i s) ≡ false
    unfolding is_xtext
    xtext_stop z = ap (λ (d : Decoding). d.whole) (stop z)

  pub decoded_end : length s ≤ i → decoded (drop i s) ≡ []
  unfolding decoded decoding decoding_after
  decoded_end h = rw (drop_of_length-le s {i = i} h)

  pub xtext_end : length s ≤ i → is_xtext (drop i s) ≡ true
  unfolding is_xtext decoding decoding_after
  xtext_end h = rw (drop_of_length-le s {i = i} h)

after_le : (k : ℕ) (s : List ℕ) → length (decoding_after k s).bytes ≤ length s
unfolding decoding_after
after_le zero [] = omega arith
after_le (suc k) [] = omega arith
after_le (suc k) (b ∷ s) = let l = after_le k s in omega arith
after_le zero (b ∷ s) =
    let n = unit_len (b ∷ s) in
    let l = after_le (pred n) s in
    cond_has (λ d. length d.bytes ≤ suc (length s)) (ltb 0 n) (byte_before (unit_byte (b ∷ s)) (decoding_after (pred n) s)) (record { bytes = []; whole = false })
    (λ t. omega arith)
    (λ t. omega arith)

pub decoded_le : (s : List ℕ) → length (decoded s) ≤ length s
unfolding decoded decoding
decoded_le s = after_le 0 s

-- ---- the loop that decodes

-- the bytes up to i are decoded and written, n bytes of them, and what follows decides
pub record DecodedTo (value : List ℕ) (i : ℕ) (before after : List ℕ) (n : ℕ) : Type 0 where
  pub reached : Reached (decoded value) (decoded (drop i value)) 0 before after n
  pub same : is_xtext value ≡ is_xtext (drop i value)

pub decoded_none : (value before : List ℕ) → DecodedTo value 0 before before 0
decoded_none value before = record { reached = reached_start (decoded value) 0 before; same = refl }

pub length_decoded : {value before after : List ℕ} {i n : ℕ} → DecodedTo value i before after n → length after ≡ length before
length_decoded d = length_reached d.reached

module _ {value before mid : List ℕ} {i n : ℕ} (d : DecodedTo value i before mid n) where
  module _ {size b : ℕ} (u : UnitAt value i size b) (h : i < length value) where
    pub decoded_more : {after : List ℕ} {m : ℕ} → (size ≡ 0 → ⊥) → length value ≤ greatest → AppendedCapped (b ∷ []) n mid after m → DecodedTo value (i + size) before after m
    decoded_more z k a =
        let next : decoded (drop i value) ≡ (b ∷ []) ++ decoded (drop (i + size) value) = decoded_step value i size b u h z in
        let room : n + 1 ≤ greatest = omega (arith, reached_within d.reached, decoded_le value, ap length next) in
        record {
          reached = reached_then (b ∷ []) (decoded (drop (i + size) value)) d.reached next (appended_of a room);
          same = d.same ∙ xtext_step value i size b u h z;
        }

    pub decoded_fault : size ≡ 0 → Wrote (decoded value) before mid n × (false ≡ is_xtext value)
    decoded_fault z = (wrote_from (reached_end d.reached (decoded_stop value i size b u h z)), sym (d.same ∙ xtext_stop value i size b u h z))

  pub decoded_whole : length value ≤ i → Wrote (decoded value) before mid n × (true ≡ is_xtext value)
  decoded_whole h = (wrote_from (reached_end d.reached (decoded_end value i h)), sym (d.same ∙ xtext_end value i h))

-- ---- ALT-ADDRESS

module _ (value : List ℕ) where
  pub alt_long : 998 < length value → false ≡ is_alt_address value
  unfolding is_alt_address
  alt_long h = rw (lt-leb (length value) 998 h)

  pub alt_fault_lem : length value ≤ 998 → false ≡ is_xtext value → false ≡ is_alt_address value
  unfolding is_alt_address
  alt_fault_lem h e = rw (le-leb (length value) 998 h, ← e)

  -- `part` is what the buffer holds
  pub alt_tested : {before after : List ℕ} {n : ℕ} → length value ≤ 998 → true ≡ is_xtext value → Wrote (decoded value) before after n → length before ≡ 998
      → is_ascii_address (take n after) ≡ is_alt_address value
  unfolding is_alt_address
  alt_tested {before} {after} {n} h e w k =
      let fits : length (decoded value) ≤ length before = omega (arith, decoded_le value) in
      let held : take n after ≡ decoded value = rw (w.size, w.bytes) (overlay_front (decoded value) before fits) in
      rw (le-leb (length value) 998 h, ← e, held)

-- the decoded bytes of an ALT-ADDRESS are an ASCII address; each is 32 to 126, so that no line break enters with them
pub alt_address : (value : List ℕ) → T (is_alt_address value) → T (is_ascii_address (decoded value)) × T (all (within 32 126) (decoded value))
unfolding is_alt_address
alt_address value h =
    let address = (and_yes (leb (length value) 998 && is_xtext value) (is_ascii_address (decoded value)) h).1 in
    (address, ascii_address_bytes (decoded value) address)
