-- UTF-8 by one byte at a time: a state is what the character that has begun lacks. CharScanLaws.antt proves that it takes just what is
-- UTF-8.
use Rattle.std.specs.Prelude.{Bool, true, false, cond, ℕ, zero, suc, pred, ◌-◌, leb}
use Rattle.lists.specs.Byte.{within, is_ascii}
use Rattle.utf8.specs.Utf8.{char_len, second_low, second_high}
use Rattle.line_stop.specs.declared.Begun.{Begun}

-- lacking k bytes, the next from lo to hi; between characters; and where no byte helps, as none lies from 255 to 0
abbrev pub begun : ℕ → ℕ → ℕ → Begun
begun k lo hi = record { lack = k; low = lo; high = hi }

abbrev pub between : Begun
between = begun 0 128 191

abbrev pub nowhere : Begun
nowhere = begun 1 255 0

-- after the first byte of a character
unfoldable pub lead : ℕ → Begun
lead b = cond (is_ascii b) between (cond (within 194 244 b) (begun (pred (char_len b)) (second_low b) (second_high b)) nowhere)

-- how many bytes follow a character's first byte
unfoldable pub tail_count : ℕ → ℕ
tail_count b = char_len b - 1

unfoldable pub step_by : ℕ → ℕ → ℕ → ℕ → Begun
step_by zero lo hi b = lead b
step_by (suc k) lo hi b = cond (within lo hi b) (begun k 128 191) nowhere

abbrev pub char_step : Begun → ℕ → Begun
char_step u b = step_by u.lack u.low u.high b

abbrev pub is_zero : ℕ → Bool
is_zero zero = true
is_zero (suc k) = false

-- some bytes complete the character
abbrev pub live_by : ℕ → ℕ → ℕ → Bool
live_by zero lo hi = true
live_by (suc k) lo hi = leb lo hi

unfoldable pub char_live : Begun → Bool
char_live u = live_by u.lack u.low u.high
