-- Rows, ours and others', and what they read back as.
use Rattle.std.specs.Prelude.{◌≡◌, refl, List, [], ◌∷◌, ◌++◌, map, ℕ, take, replicate}
use Rattle.std.proofs.Math.Option.{Option, none, some}
use Rattle.std.specs.Int.Count.{count_leading_zeros}
use Rattle.lists.specs.Lists.{joined}
use Rattle.utf8.specs.Utf8.{char_len, chars}
use Rattle.lists.specs.CutBy.{cut_after, cut_by}
use Rattle.cut.specs.Cut.{cut}
use Rattle.hex_digit.specs.Hex.{hex_digit}
use Rattle.base64_digits.specs.Base64.{digit64, in_base64}
use Rattle.base64_digits.specs.Reading.{is_digit64, value64, from_quad, from_three, from_two, from_last, from_base64}
use Rattle.word_spelling.specs.Spelling.{opening, closing, bare, spell_byte, spell}
use Rattle.row.specs.declared.Encoding.TheVariants.{B}
use Rattle.row.specs.Word.{opening_in, word}
use Rattle.row.specs.Row.{runs, chosen, lines, row_in, row}
use Rattle.row.specs.Layout.{any_case_value}
use Rattle.row.specs.Reading.{role, step, reading, words_read, reads_as}

-- a row, and the text that it reads back as, or none
pub record Case : Type 0 where
  pub given : List ℕ
  pub answer : Option (List ℕ)

-- a row that reads back as a text
abbrev reads : List ℕ → List ℕ → Case
reads given text = record { given = given; answer = some text }

-- a row with a fault
abbrev faults : List ℕ → Case
faults given = record { given = given; answer = none }

-- a text whose row reads back as it
abbrev back : List ℕ → Case
back text = reads (row text) text

-- `=?UTF-8?Q?`, these bytes, `?=`
abbrev encoded : List ℕ → List ℕ
encoded bytes = opening ++ (bytes ++ closing)

-- `=?UTF-8?B?`, these bytes, `?=`
abbrev in_b : List ℕ → List ℕ
in_b bytes = opening_in B ++ (bytes ++ closing)

-- `YQ==`, which adds `a`
abbrev padded : List ℕ
padded = 89 ∷ 81 ∷ 61 ∷ 61 ∷ []

-- `=?UTF-8?Q?a?=`
abbrev a : List ℕ
a = encoded (97 ∷ [])

abbrev pub cases : List Case
cases =
    -- nothing; a word; a space; CRLF
    reads [] []
    ∷ reads a (97 ∷ [])
    ∷ reads (32 ∷ []) []
    ∷ reads (13 ∷ 10 ∷ []) []
    -- two words: straight after each other; parted by a space, by CRLF, by both, by more of them
    ∷ faults (a ++ a)
    ∷ reads (a ++ (32 ∷ a)) (97 ∷ 97 ∷ [])
    ∷ reads (a ++ (13 ∷ 10 ∷ a)) (97 ∷ 97 ∷ [])
    ∷ reads (a ++ (13 ∷ 10 ∷ 32 ∷ a)) (97 ∷ 97 ∷ [])
    ∷ reads (a ++ (32 ∷ 32 ∷ 13 ∷ 10 ∷ 13 ∷ 10 ∷ a)) (97 ∷ 97 ∷ [])
    -- parted by CR, by LF, by a TAB, by a letter
    ∷ faults (a ++ (13 ∷ a))
    ∷ faults (a ++ (10 ∷ a))
    ∷ faults (a ++ (9 ∷ a))
    ∷ faults (a ++ (97 ∷ a))
    -- spaces and CRLF before and after; CR at the end
    ∷ reads (13 ∷ 10 ∷ 32 ∷ a ++ (32 ∷ 13 ∷ 10 ∷ [])) (97 ∷ [])
    ∷ faults (a ++ (13 ∷ []))
    -- `=C3=A9`, `=c3=a9`, `=Ff`; `=c`, `=4`, `=`
    ∷ reads (encoded (61 ∷ 67 ∷ 51 ∷ 61 ∷ 65 ∷ 57 ∷ [])) (195 ∷ 169 ∷ [])
    ∷ reads (encoded (61 ∷ 99 ∷ 51 ∷ 61 ∷ 97 ∷ 57 ∷ [])) (195 ∷ 169 ∷ [])
    ∷ reads (encoded (61 ∷ 70 ∷ 102 ∷ [])) (255 ∷ [])
    ∷ faults (encoded (61 ∷ 99 ∷ []))
    ∷ faults (encoded (61 ∷ 52 ∷ []))
    ∷ faults (encoded (61 ∷ []))
    -- bytes beside the hex digits: `=/0`, `=:0`, `=@0`, `=G0`, `` =`0 ``, `=g0`, `=0g`
    ∷ faults (encoded (61 ∷ 47 ∷ 48 ∷ []))
    ∷ faults (encoded (61 ∷ 58 ∷ 48 ∷ []))
    ∷ faults (encoded (61 ∷ 64 ∷ 48 ∷ []))
    ∷ faults (encoded (61 ∷ 71 ∷ 48 ∷ []))
    ∷ faults (encoded (61 ∷ 96 ∷ 48 ∷ []))
    ∷ faults (encoded (61 ∷ 103 ∷ 48 ∷ []))
    ∷ faults (encoded (61 ∷ 48 ∷ 103 ∷ []))
    -- a word that adds nothing; `_`; bytes 33 and 126; 127, 128, a space, a TAB, CR
    ∷ reads (encoded []) []
    ∷ reads (encoded (95 ∷ [])) (32 ∷ [])
    ∷ reads (encoded (33 ∷ 126 ∷ [])) (33 ∷ 126 ∷ [])
    ∷ faults (encoded (97 ∷ 127 ∷ []))
    ∷ faults (encoded (97 ∷ 128 ∷ []))
    ∷ faults (encoded (97 ∷ 32 ∷ []))
    ∷ faults (encoded (97 ∷ 9 ∷ []))
    ∷ faults (encoded (97 ∷ 13 ∷ []))
    -- `?a` and `?` in a word
    ∷ faults (encoded (63 ∷ 97 ∷ []))
    ∷ faults (encoded (63 ∷ []))
    -- an end inside a word: after its opening, after `a`, `a?`, `=`, `=4`; an end inside an opening
    ∷ faults opening
    ∷ faults (opening ++ (97 ∷ []))
    ∷ faults (opening ++ (97 ∷ 63 ∷ []))
    ∷ faults (opening ++ (61 ∷ []))
    ∷ faults (opening ++ (61 ∷ 52 ∷ []))
    ∷ faults (take 9 opening)
    ∷ faults (a ++ (32 ∷ 61 ∷ []))
    -- `=?utf-8?q?a?=`
    ∷ faults (61 ∷ 63 ∷ 117 ∷ 116 ∷ 102 ∷ 45 ∷ 56 ∷ 63 ∷ 113 ∷ 63 ∷ 97 ∷ 63 ∷ 61 ∷ [])
    -- in B: `YQ==`, `w6k=`, `YWJj`, `YWJjYQ==`, nothing
    ∷ reads (in_b padded) (97 ∷ [])
    ∷ reads (in_b (119 ∷ 54 ∷ 107 ∷ 61 ∷ [])) (195 ∷ 169 ∷ [])
    ∷ reads (in_b (89 ∷ 87 ∷ 74 ∷ 106 ∷ [])) (97 ∷ 98 ∷ 99 ∷ [])
    ∷ reads (in_b (89 ∷ 87 ∷ 74 ∷ 106 ∷ padded)) (97 ∷ 98 ∷ 99 ∷ 97 ∷ [])
    ∷ reads (in_b []) []
    -- `YQ`, `YQ=`, `w6k`: a missing `=`; `YQ==YQ==`, `=YQ=`, `YQ=a`, `====`: `=` other than at the end
    ∷ faults (in_b (89 ∷ 81 ∷ []))
    ∷ faults (in_b (89 ∷ 81 ∷ 61 ∷ []))
    ∷ faults (in_b (119 ∷ 54 ∷ 107 ∷ []))
    ∷ faults (in_b (padded ++ padded))
    ∷ faults (in_b (61 ∷ 89 ∷ 81 ∷ 61 ∷ []))
    ∷ faults (in_b (89 ∷ 81 ∷ 61 ∷ 97 ∷ []))
    ∷ faults (in_b (61 ∷ 61 ∷ 61 ∷ 61 ∷ []))
    -- `YR==`, `w6l=`: spare bits that are not zero
    ∷ faults (in_b (89 ∷ 82 ∷ 61 ∷ 61 ∷ []))
    ∷ faults (in_b (119 ∷ 54 ∷ 108 ∷ 61 ∷ []))
    -- a space, CRLF, `-`, `_`, byte 195 among the digits
    ∷ faults (in_b (89 ∷ 32 ∷ 87 ∷ 74 ∷ 106 ∷ []))
    ∷ faults (in_b (89 ∷ 81 ∷ 13 ∷ 10 ∷ 61 ∷ 61 ∷ []))
    ∷ faults (in_b (89 ∷ 87 ∷ 74 ∷ 45 ∷ []))
    ∷ faults (in_b (89 ∷ 87 ∷ 74 ∷ 95 ∷ []))
    ∷ faults (in_b (89 ∷ 87 ∷ 74 ∷ 195 ∷ []))
    -- a `?` in a word in B; an end inside one, and inside its opening
    ∷ faults (in_b (89 ∷ 63 ∷ 81 ∷ 61 ∷ 61 ∷ []))
    ∷ faults (opening_in B ++ padded)
    ∷ faults (opening_in B ++ (padded ++ (63 ∷ [])))
    ∷ faults (take 9 (opening_in B))
    -- words in B and in Q straight after each other; parted by CRLF and a space
    ∷ faults (in_b padded ++ in_b padded)
    ∷ faults (a ++ in_b padded)
    ∷ faults (in_b padded ++ a)
    ∷ reads (in_b padded ++ (13 ∷ 10 ∷ 32 ∷ a)) (97 ∷ 97 ∷ [])
    ∷ reads (a ++ (32 ∷ in_b padded)) (97 ∷ 97 ∷ [])
    -- `=?UTF-8?b?YQ==?=`, `=?UTF-8?C?YQ==?=`, `=?UTF-8?BQ?a?=`
    ∷ faults (take 8 opening ++ (98 ∷ 63 ∷ (padded ++ closing)))
    ∷ faults (take 8 opening ++ (67 ∷ 63 ∷ (padded ++ closing)))
    ∷ faults (take 8 opening ++ (66 ∷ 81 ∷ 63 ∷ 97 ∷ closing))
    -- our rows of `é@ x`, of `=?UTF-8?Q?a?=`, of `=?UTF-8?B?YQ==?=`, of eleven `é`, and of sixty `a` and thirty `日`
    ∷ back (195 ∷ 169 ∷ 64 ∷ 32 ∷ 120 ∷ [])
    ∷ back a
    ∷ back (in_b padded)
    ∷ back (joined (replicate 11 (195 ∷ 169 ∷ [])))
    ∷ back (replicate 60 97 ++ joined (replicate 30 (230 ∷ 151 ∷ 165 ∷ [])))
    ∷ []

pub cases_right : map (λ (c : Case). reads_as c.given) cases ≡ map (λ (c : Case). c.answer) cases
unfolding reads_as words_read reading step role any_case_value row_in runs chosen cut lines word digit64 in_base64 is_digit64 value64 from_quad from_three from_two from_last from_base64 spell spell_byte bare hex_digit chars cut_by cut_after char_len count_leading_zeros
cases_right = refl
