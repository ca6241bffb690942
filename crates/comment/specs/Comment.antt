-- Comments in parentheses.
--
-- `(` is 40, `)` is 41, the backslash 92. "in all comments a backslash escapes any next character": it is enough to pass over the
-- next byte, since the other bytes of a character are neither parentheses nor backslashes. Before a fold a backslash escapes the
-- blank after it; here that is the CR, and neither of the two is a parenthesis or a backslash.
use Rattle.std.specs.Prelude.{Bool, true, false, not, cond, ◌&&◌, ◌||◌, List, [], ◌∷◌, ℕ, zero, suc, ◌+◌, ◌-◌, eqb, get_or, Option, Some, None}
use Rattle.unquote.specs.Unquote.{escapes}

abbrev pub is_paren : ℕ → Bool
is_paren b = eqb b 40 || eqb b 41

-- a length counted from k bytes before; 0, which is no length of a comment, stays 0
unfoldable pub past : ℕ → ℕ → ℕ
past k zero = zero
past k (suc n) = k + suc n

-- how many parentheses are open after the byte b
unfoldable pub depth_after : Bool → ℕ → ℕ → ℕ
depth_after true depth b = depth
depth_after false depth b = cond (eqb b 40) (suc depth) (cond (eqb b 41) (depth - 1) depth)

-- the bytes up to and with the one after which no parenthesis is open; 0 where there is none
unfoldable pub closing : ℕ → Bool → List ℕ → ℕ
closing depth escaped [] = 0
closing depth escaped (b ∷ s) =
    let after = depth_after escaped depth b in
    cond (eqb after 0) 1 (past 1 (closing after (escapes escaped b) s))

-- The length of the comment at the front of a text; 0 where none starts there or it is unclosed.
unfoldable pub comment_len : List ℕ → ℕ
comment_len s = cond (eqb (get_or s 0 0) 40) (closing 0 false s) 0

-- where a comment of n bytes at a place ends; none where n is 0
abbrev pub end_of : ℕ → ℕ → Option ℕ
end_of at zero = None
end_of at (suc n) = Some (at + suc n)

-- how many bytes stand before the first that passes a test and is not escaped; all bytes where there is none
unfoldable pub run_to : (ℕ → Bool) → Bool → List ℕ → ℕ
run_to f escaped [] = 0
run_to f escaped (b ∷ s) = cond (f b && not escaped) 0 (suc (run_to f (escapes escaped b) s))

-- a byte that neither passes a test nor escapes the next
abbrev pub is_text : (ℕ → Bool) → ℕ → Bool
is_text f b = not (f b || eqb b 92)

-- "a run of text between parentheses"
unfoldable pub run_len : List ℕ → ℕ
run_len s = run_to is_paren false s
