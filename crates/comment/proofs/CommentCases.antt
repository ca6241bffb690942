-- Comments and their parts, by example.
use Rattle.std.specs.Prelude.{◌≡◌, refl, List, [], ◌∷◌, ℕ}
use Prim.Native.Char.{code}
use Prim.Native.String.{String, [] as nil, ◌∷◌ as cons}
use Rattle.lists.specs.CutBy.{cut_after, cut_by}
use Rattle.unquote.specs.Unquote.{kept_from}
use Rattle.comment.specs.Comment.{past, depth_after, closing, comment_len, run_to, run_len}
use Rattle.comment.specs.Parts.{part_len, parts, run_text}

-- the bytes of an ASCII string
abbrev bytes : String → List ℕ
bytes nil = []
bytes (cons c s) = code c ∷ bytes s

-- the length of the comment at the front of a text; the parts of a comment; the text of a run
pub data Case : Type 0 where
  takes : String → ℕ → Case
  has : String → List (List ℕ) → Case
  reads : String → List ℕ → Case

abbrev pub Right : Case → Type 0
Right (takes text n) = comment_len (bytes text) ≡ n
Right (has text ps) = parts (bytes text) ≡ ps
Right (reads run text) = run_text (bytes run) ≡ text

abbrev pub AllRight : List Case → Type 0
AllRight [] = Unit {0}
AllRight (c ∷ cs) = Right c × AllRight cs

abbrev pub cases : List Case
cases =
    takes "(a) b" 3
    ∷ takes "(a (b) c)" 9
    ∷ takes "()()" 2
    -- a quote is a character
    ∷ takes "(\")" 3
    -- an escaped parenthesis neither opens nor closes; an escaped backslash escapes nothing
    ∷ takes "(\\)) x" 4
    ∷ takes "(\\() x" 4
    ∷ takes "(\\\\) x" 4
    ∷ takes "(a (b) c" 0
    ∷ takes "(a\\" 0
    ∷ takes "a(b)" 0
    ∷ takes "" 0
    ∷ has "(a (b))" (bytes "(" ∷ bytes "a " ∷ bytes "(" ∷ bytes "b" ∷ bytes ")" ∷ bytes ")" ∷ [])
    ∷ has "(\\()" (bytes "(" ∷ bytes "\\(" ∷ bytes ")" ∷ [])
    -- a backslash goes and the character after it stays; of a fold the blank stays
    ∷ reads "a\\(\"\\\\" (bytes "a(\"\\")
    ∷ reads "a\r\n b\\\r\n c" (bytes "a b c")
    ∷ []

pub cases_right : AllRight cases
unfolding past depth_after closing comment_len run_to run_len part_len parts cut_by cut_after kept_from run_text
cases_right = (refl, (refl, (refl, (refl, (refl, (refl, (refl, (refl, (refl, (refl, (refl, (refl, (refl, (refl, (refl, tt)))))))))))))))
