-- Laws of columns and of buffers full of #.
use Rattle.std.specs.Prelude.{◌≡◌, true, false, List, ℕ, suc, ◌+◌, ◌*◌, ◌-◌, ◌≤◌, ◌<◌, min, length, take, drop, get_or}
use Rattle.std.proofs.Common.{sym, ◌∙◌, add-one, arith, drop_of_length-le, drop-cons, drop-drop}
use Rattle.lists.specs.Lists.{all}
use Rattle.lists.specs.Run.{run}
use Rattle.hex_digit.specs.Hex.{hex_value}
use Rattle.buffer.specs.Buffer.{greatest}
use Rattle.line.specs.LineLaws.{drop_capped, part_of, part_rest}
use Rattle.case_line.specs.CaseLine.{other, after_bars, column_of, is_filler, Holds, decimal}

-- a byte other than # at a place, and # there
module _ (s : List ℕ) (i : ℕ) (h : i < length s) where
  pub touched_here : is_filler (get_or s i 0) ≡ false → all is_filler (drop i s) ≡ false
  touched_here e = rw (drop-cons s i 0 h, e)

  pub untouched_here : is_filler (get_or s i 0) ≡ true → all is_filler (drop i s) ≡ all is_filler (drop (i + 1) s)
  untouched_here e = rw (add-one, drop-cons s i 0 h, e)

pub untouched_end : (s : List ℕ) (i : ℕ) → length s ≤ i → all is_filler (drop i s) ≡ true
untouched_end s i h = rw (drop_of_length-le s {i = i} h)

-- a digit more, and the end
pub decimal_more : (s : List ℕ) (n i d : ℕ) → i < length s → d ≡ hex_value (get_or s i 0) → decimal n (drop i s) ≡ decimal (min (n * 10 + d) 999999) (drop (i + 1) s)
unfolding decimal
decimal_more s n i d h e = rw (add-one, drop-cons s i 0 h, e)

pub decimal_end : (s : List ℕ) (n i : ℕ) → length s ≤ i → decimal n (drop i s) ≡ n
unfolding decimal
decimal_end s n i h = rw (drop_of_length-le s {i = i} h)

-- the place after the next `|`, from the place after the first k
pub bars_more : (s : List ℕ) (k from bar next : ℕ) → length s ≤ greatest → drop from s ≡ after_bars k s → bar ≡ from + run (other 124) (drop from s)
    → next ≡ min (bar + 1) greatest → drop next s ≡ after_bars (k + 1) s
unfolding after_bars
bars_more s k from bar next g e b n =
    let place : from + suc (run (other 124) (drop from s)) ≡ bar + 1 = omega arith in
    rw (drop_capped s (bar + 1) next n g, add-one k, ← e, drop-drop (suc (run (other 124) (drop from s))) from s, place)

-- the column from there on
pub column_from : (s : List ℕ) (n from bar : ℕ) → drop from s ≡ after_bars n s → bar ≡ from + run (other 124) (drop from s)
    → take (bar - from) (drop from s) ≡ column_of n s
unfolding column_of
column_from s n from bar e b = rw (part_of s from (run (other 124) (drop from s)) bar b, e)

-- a buffer that was compared part by part
pub holds_of : (buffer text a b rest : List ℕ) (size end : ℕ) → end ≡ min size (length text) → a ≡ take (end - 0) buffer → b ≡ take (end - 0) text
    → a ≡ b → rest ≡ take (length buffer - end) (drop end buffer) → all is_filler rest ≡ true → Holds buffer text size
holds_of buffer text a b rest size end e ha hb ab hr h =
    let z : end - 0 ≡ end = omega arith in
    let left : all is_filler (drop end buffer) ≡ true = rw (hr, part_rest) at h in
    let start : take end buffer ≡ take end text = sym (rw z at ha) ∙ (ab ∙ rw z at hb) in
    record { front = rw e at start; rest = rw e at left }
