-- The tokens of values, by example.
use Rattle.std.specs.Prelude.{◌≡◌, refl, true, List, [], ◌∷◌, ℕ}
use Prim.Native.Char.{code}
use Prim.Native.String.{String, [] as nil, ◌∷◌ as cons}
use Rattle.lists.specs.Run.{run}
use Rattle.comment.specs.Comment.{past, depth_after, closing, comment_len, run_to}
use Rattle.structured_token.specs.declared.Kind.{Kind}
use Rattle.structured_token.specs.declared.Kind.TheVariants.{Comment, Quoted, White, Open, Semicolon, Plain}
use Rattle.structured_token.specs.Tokens.{string_len, opened_kind, kind_of, size_of, token_front}
use Rattle.structured_token.specs.Walk.{walk_after, walk, becoming}

-- the bytes of an ASCII string
abbrev bytes : String → List ℕ
bytes nil = []
bytes (cons c s) = code c ∷ bytes s

-- the tokens of a value, each with what it is
abbrev tokens : List ℕ → List (Kind × List ℕ)
tokens value = becoming (token_front (λ what t. true) (λ what t. (what, t) ∷ [])) true value

pub data Case : Type 0 where
  has : String → List (Kind × List ℕ) → Case

abbrev pub Right : Case → Type 0
Right (has value ts) = tokens (bytes value) ≡ ts

abbrev pub AllRight : List Case → Type 0
AllRight [] = Unit {0}
AllRight (c ∷ cs) = Right c × AllRight cs

abbrev pub cases : List Case
cases =
    has "a(b)\"c(\";(d" ((Plain, bytes "a") ∷ (Comment, bytes "(b)") ∷ (Quoted, bytes "\"c(\"") ∷ (Semicolon, bytes ";") ∷ (Open, bytes "(") ∷ (Plain, bytes "d") ∷ [])
    -- after an unclosed parenthesis nothing is a comment; strings go on
    ∷ has "(()(\"(\" for" ((Open, bytes "(") ∷ (Open, bytes "(") ∷ (Plain, bytes ")") ∷ (Open, bytes "(") ∷ (Quoted, bytes "\"(\"") ∷ (White, bytes " ") ∷ (Plain, bytes "for") ∷ [])
    -- white space with its folds; outside strings and comments a backslash escapes nothing
    ∷ has "\\(a) \t\r\n x" ((Plain, bytes "\\") ∷ (Comment, bytes "(a)") ∷ (White, bytes " \t\r\n ") ∷ (Plain, bytes "x") ∷ [])
    -- an escaped quote does not close; an unclosed string runs to the end, also after a backslash
    ∷ has "\"a\\\"b\"c" ((Quoted, bytes "\"a\\\"b\"") ∷ (Plain, bytes "c") ∷ [])
    ∷ has "\"a(b) ;\\" ((Quoted, bytes "\"a(b) ;\\") ∷ [])
    -- a parameter is whole tokens
    ∷ has "x/y; p=a;q=\"b\"" ((Plain, bytes "x/y") ∷ (Semicolon, bytes ";") ∷ (White, bytes " ") ∷ (Plain, bytes "p=a") ∷ (Semicolon, bytes ";") ∷ (Plain, bytes "q=") ∷ (Quoted, bytes "\"b\"") ∷ [])
    ∷ []

pub cases_right : AllRight cases
unfolding run past depth_after closing comment_len run_to string_len opened_kind kind_of size_of walk_after walk becoming
cases_right = (refl, (refl, (refl, (refl, (refl, (refl, tt))))))
