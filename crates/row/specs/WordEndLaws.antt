-- The row of a text, word by word: laws for a loop that finds where each word ends.
use Rattle.std.specs.Prelude.{◌≡◌, Bool, true, not, ◌||◌, ℕ, zero, suc, ◌+◌, ◌-◌, ◌*◌, ◌/◌, ◌≤◌, ◌<◌, min, T, leb, take, drop, get_or}
use Rattle.std.proofs.Math.Path.{refl, sym, ap}
use Rattle.std.proofs.Common.{◌∙◌, arith, T_not, le→leb, length-append, length-take, length-drop, take-add, drop-drop}
use Rattle.std.proofs.Math.Bool.{false}
use mathlib.Core.List.{List, [], ◌∷◌, ◌++◌, append_assoc, append-nil, map}
use Rattle.std.proofs.Math.Numerals.{unary_clauses}
use Rattle.std.proofs.Math.ListN.{length}
use Rattle.std.proofs.Math.Facts.{and_yes, leb_yes, no_leb}
use Rattle.lists.specs.Lists.{all, nonempty, joined}
use Rattle.lists.specs.ListsLaws.{cond_yes, cond_no, joined_append}
use Rattle.utf8.specs.Utf8.{char_len, chars}
use Rattle.utf8.specs.Utf8Laws.{chars_short, chars_some, chars_at, chars_end, char_len_some}
use Rattle.cut.specs.Cut.{cut}
use Rattle.cut.proofs.CutLaws.{cut_run, lines_below, Full, cut_full}
use Rattle.base64_digits.proofs.Base64Laws.{length_base64}
use Rattle.word_spelling.specs.Cost.{cost}
use Rattle.word_spelling.specs.SpellingLaws.{length_spell_joined}
use Rattle.word_spelling.specs.HighCharLaws.{char_cut}
use Rattle.row.specs.declared.Encoding.{Encoding}
use Rattle.row.specs.declared.Encoding.TheVariants.{Q, B}
use Rattle.row.specs.Word.{spell_in, word}
use Rattle.row.specs.Row.{encodings, holds, fits_room, runs, chosen, lines, row_in, row, fits_after, runs_after, lines_after, row_after_in, row_after}
use Rattle.row.specs.WordEnd.{Span, WordEnd}

-- ---- what a scan finds is the word

-- the bytes from place i to place e
abbrev pub between : List ℕ → ℕ → ℕ → List ℕ
between s i e = take (e - i) (drop i s)
