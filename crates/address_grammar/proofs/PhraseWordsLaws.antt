-- The words of a phrase are those by which the grammar makes it, and its text is the one that the grammar gives.
use Rattle.std.specs.Prelude.{◌≡◌, refl, false, List, [], ◌∷◌, ◌++◌, map, ℕ, ◌+◌, ◌<◌, length, drop, get_or}
use Rattle.std.proofs.Common.{◌∙◌, append-nil, not-suc-le-zero, arith, ne_eqb, length-append, drop-drop}
use Rattle.std.proofs.Math.Seq.{drop-append_seam, take-append_seam}
use Rattle.lists.specs.Run.{run}
use Rattle.line.specs.Line.{blank}
use Rattle.unquote.specs.Unquote.{unquoted}
use Rattle.phrase.specs.Phrase.{word_size, words_from, phrase_words, after_spaces, joined_by_spaces, phrase_text}
use Rattle.phrase.specs.PhraseLaws.{phrase_words_front}
use Rattle.address_grammar.specs.PartGrammar.{PhraseText}
use Rattle.address_grammar.specs.PartTexts.{WordText}
use Rattle.address_grammar.proofs.FoundLaws.{starts, ending, Apart, ended_apart, stops_blanks, run_whole, word_starts, word_some, word_found}
use Rattle.address_grammar.specs.AddressField.{Words}

pub words_phrase : {t meant : List ℕ} {ws : List (List ℕ)} → Words t ws meant → PhraseText t
words_phrase (Words.one h) = PhraseText.one h
words_phrase (Words.then h g more) = PhraseText.then h g (words_phrase more)

-- a phrase has words and a text
pub record WordsOf (t : List ℕ) : Type 0 where
  pub words : List (List ℕ)
  pub meant : List ℕ
  pub are : Words t words meant

pub phrase_words_lem : {t : List ℕ} → PhraseText t → WordsOf t
phrase_words_lem (PhraseText.one h) = record { words = _; meant = _; are = Words.one h }
phrase_words_lem (PhraseText.then h g more) = record { words = _; meant = _; are = Words.then h g (phrase_words_lem more).are }

-- ---- a word, and those after it

size_found : {w : List ℕ} → WordText w → (y : List ℕ) → Apart y → word_size (w ++ y) ≡ length w
unfolding word_size
size_found {w} h y a = rw (word_found h y a, ne_eqb (length w) 0 (λ e. not-suc-le-zero {n = 0} (omega (arith, word_some h))))

word_front : {w : List ℕ} → WordText w → (y : List ℕ) → Apart y → words_from 0 (w ++ y) ≡ w ∷ words_from 0 (drop (run blank y) y)
word_front {w} h y a =
    let long : 0 < length (w ++ y) = omega (arith, word_some h, length-append w y) in
    phrase_words_front (w ++ y) long
    ∙ rw (size_found h y a, take-append_seam w y, drop-append_seam w y, ← drop-drop (run blank y) (length w) (w ++ y), drop-append_seam w y)

nothing_apart : Apart []
unfolding ending
nothing_apart = ended_apart (record { gap = []; tail = []; made = refl; blanks = tt; ends = tt })

first_starts : {t meant : List ℕ} {ws : List (List ℕ)} → Words t ws meant → blank (get_or t 0 0) ≡ false
first_starts (Words.one {w} h) = rw append-nil at (starts (get_or (w ++ []) 0 0) (word_starts h [])).no_blank
first_starts (Words.then {w} {gap} {more} h g m) = (starts (get_or (w ++ (gap ++ more)) 0 0) (word_starts h (gap ++ more))).no_blank

words_from_lem : {t meant : List ℕ} {ws : List (List ℕ)} → Words t ws meant → words_from 0 t ≡ ws
unfolding words_from run
words_from_lem (Words.one {w} h) = rw append-nil at (word_front h [] nothing_apart)
words_from_lem (Words.then {w} {gap} {more} h g m) =
    word_front h (gap ++ more) (stops_blanks g more) ∙ rw (run_whole blank gap more g.blanks (first_starts m), drop-append_seam gap more, words_from_lem m)

pub words_are : {t meant : List ℕ} {ws : List (List ℕ)} → Words t ws meant → phrase_words t ≡ ws
unfolding phrase_words
words_are h = words_from_lem h

-- ---- its text

after_space : {t meant : List ℕ} {ws : List (List ℕ)} → Words t ws meant → after_spaces (map unquoted ws) ≡ 32 ∷ meant
unfolding after_spaces
after_space (Words.one {w} h) = rw (append-nil (unquoted w))
after_space (Words.then h g more) = rw (after_space more)

words_text : {t meant : List ℕ} {ws : List (List ℕ)} → Words t ws meant → joined_by_spaces (map unquoted ws) ≡ meant
unfolding joined_by_spaces after_spaces
words_text (Words.one {w} h) = append-nil (unquoted w)
words_text (Words.then h g more) = rw (after_space more)

pub text_is : {t meant : List ℕ} {ws : List (List ℕ)} → Words t ws meant → phrase_text t ≡ meant
unfolding phrase_text
text_is h = rw (words_are h) (words_text h)
