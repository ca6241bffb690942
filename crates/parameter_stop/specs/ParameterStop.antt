-- The tail of an envelope line, the parameters after its path, by one byte at a time. ParameterStopLaws.antt proves that it takes just the
-- well-formed tails, and that as few bytes complete one as are told.
use Rattle.std.specs.Prelude.{Bool, true, false, not, cond, ◌&&◌, ◌||◌, ℕ, eqb}
use Rattle.letter_case.specs.LetterCase.{bytes}
use Rattle.parameter.specs.Parameter.{is_keyword_byte, is_value_byte}
use Rattle.line_stop.specs.Scanner.{Scanner}
use Rattle.line_stop.specs.Word.{matched}
use Rattle.parameter_stop.specs.declared.Tail.{Tail}
use Rattle.parameter_stop.specs.declared.Tail.TheVariants.{Start, Due, Key, Equals, Value, Off}

-- a byte of a keyword: a letter, digit or hyphen more
abbrev pub key_more : ℕ → ℕ → Bool → ℕ → Tail
key_more alt orcpt seen b = Key (matched (bytes "ALT-ADDRESS") alt b) (matched (bytes "ORCPT") orcpt b) seen

-- "each after one space" (32)
unfoldable pub start_step : ℕ → Tail
start_step b = cond (eqb b 32) (Due false) Off

-- "letters, digits, hyphens, first not a hyphen" (45)
unfoldable pub due_step : Bool → ℕ → Tail
due_step seen b = cond (is_keyword_byte b && not (eqb b 45)) (key_more 0 0 seen b) Off

-- After a keyword, which is ALT-ADDRESS or is ORCPT: "maybe `=` with a value"; `=` is 61. "a second ALT-ADDRESS, an ALT-ADDRESS
-- without a value .. are malformed"
unfoldable pub key_end : Bool → Bool → Bool → ℕ → Tail
key_end alt orcpt seen b = cond (eqb b 61 && not (alt && seen)) (Equals orcpt (alt || seen)) (cond (eqb b 32 && not alt) (Due seen) Off)

unfoldable pub key_step : ℕ → ℕ → Bool → ℕ → Tail
key_step alt orcpt seen b = cond (is_keyword_byte b) (key_more alt orcpt seen b) (key_end (eqb alt 11) (eqb orcpt 5) seen b)

-- "a value of one or more bytes"
unfoldable pub equals_step : Bool → Bool → ℕ → Tail
equals_step orcpt seen b = cond (is_value_byte orcpt b) (Value orcpt seen) Off

unfoldable pub value_step : Bool → Bool → ℕ → Tail
value_step orcpt seen b = cond (is_value_byte orcpt b) (Value orcpt seen) (cond (eqb b 32) (Due seen) Off)

abbrev pub tail_step : Tail → ℕ → Tail
tail_step Start b = start_step b
tail_step (Due seen) b = due_step seen b
tail_step (Key alt orcpt seen) b = key_step alt orcpt seen b
tail_step (Equals orcpt seen) b = equals_step orcpt seen b
tail_step (Value orcpt seen) b = value_step orcpt seen b
tail_step Off b = Off

-- the line may end here; an ALT-ADDRESS without a value may not end it
abbrev pub tail_done : Tail → Bool
tail_done Start = true
tail_done (Due seen) = false
tail_done (Key alt orcpt seen) = not (eqb alt 11)
tail_done (Equals orcpt seen) = false
tail_done (Value orcpt seen) = true
tail_done Off = false

abbrev pub tail_live : Tail → Bool
tail_live Start = true
tail_live (Due seen) = true
tail_live (Key alt orcpt seen) = true
tail_live (Equals orcpt seen) = true
tail_live (Value orcpt seen) = true
tail_live Off = false

-- The fewest bytes that complete a tail. A whole ALT-ADDRESS wants one byte more: `ALT-ADDRESSX` is another keyword.
abbrev pub tail_need : Tail → ℕ
tail_need Start = 0
tail_need (Due seen) = 1
tail_need (Key alt orcpt seen) = cond (eqb alt 11) 1 0
tail_need (Equals orcpt seen) = 1
tail_need (Value orcpt seen) = 0
tail_need Off = 0

abbrev pub tail : Scanner Tail
tail = record { step = tail_step; done = tail_done; live = tail_live; need = tail_need }
