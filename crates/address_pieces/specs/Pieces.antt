-- The rewritten value of an address field, as segments: "a row of pieces, each written straight after the piece before it as CRLF,
-- space, piece".
use Rattle.std.specs.Prelude.{cond, List, [], ◌∷◌, ◌++◌, map, ℕ, take, drop}
use Rattle.lists.specs.Byte.{is_ascii}
use Rattle.lists.specs.Lists.{all}
use Rattle.rules.specs.Rules.{removal_start, removal_end}
use Rattle.rules.specs.declared.Rules.{Rules}
use Rattle.encoded_word.specs.Segments.{Segment}
use Rattle.encoded_word.specs.Segments.Segment.{raw, words}
use Rattle.phrase.specs.Phrase.{phrase_words, phrase_text}
use Rattle.piece.specs.Piece.{piece}
use Rattle.piece.specs.CommentPieces.{comment_pieces}
use Rattle.group.specs.Group.{Turn}
use Rattle.group.specs.Trimmed.{trimmed}
use Rattle.address_list.specs.declared.PartKind.{PartKind}
use Rattle.address_list.specs.declared.PartKind.TheVariants.{Blank, Comment, Comma, Colon, Semicolon, Phrase, Address, Angled, Alternative, Stray}

-- ---- a phrase

-- "ASCII phrase: each word as it stands, a piece each. Other phrase: encoded words of its words .."
unfoldable pub phrase_pieces : List ℕ → List Segment
phrase_pieces phrase = cond (all is_ascii phrase) (map piece (phrase_words phrase)) (words (phrase_text phrase) ∷ [])

-- ---- an address

-- "Non-ASCII address with no alternative: `Internationalized Address`, its encoded words, `Removed:;`."
-- The fixed words are those of the rules. The same of the text of a group that is removed.
unfoldable pub removed : Rules → List ℕ → List Segment
removed rules text = map piece (removal_start rules) ++ (words text ∷ piece (removal_end rules) ∷ [])

-- in `< >`: `<` is 60, `>` is 62
abbrev pub in_angles : List ℕ → Segment
in_angles address = piece (60 ∷ (address ++ (62 ∷ [])))

-- "Address: bare or in `< >`"
unfoldable pub address_pieces : Rules → (List ℕ → Segment) → List ℕ → List Segment
address_pieces rules as_piece address = cond (all is_ascii address) (as_piece address ∷ []) (removed rules address)

-- ---- the pieces of a part

-- "an alternative replaces the first". "`:` and `;` of a group are pieces. A comma joins the end of the piece before it." Blanks are not
-- written; a text that fits has no stray byte. `:` is 58, `;` 59, a comma 44.
unfoldable pub pieces : Rules → PartKind → List ℕ → List Segment
pieces rules Blank t = []
pieces rules Comment t = comment_pieces t
pieces rules Comma t = raw (44 ∷ []) ∷ []
pieces rules Colon t = piece (58 ∷ []) ∷ []
pieces rules Semicolon t = piece (59 ∷ []) ∷ []
pieces rules Phrase t = phrase_pieces t
pieces rules Address t = address_pieces rules piece t
pieces rules (Angled start size) t = address_pieces rules in_angles (take size (drop start t))
pieces rules (Alternative start size) t = in_angles (take size (drop start t)) ∷ []
pieces rules Stray t = []

-- ---- the pieces of a turn

-- A part; or "If any member of a group has a non-ASCII address without an alternative, the whole group becomes the pieces before its
-- colon", which are written before, "`Internationalized Address`, encoded words of everything between its colon and semicolon (spaces
-- and TABs at both ends dropped), `Removed:;`."
unfoldable pub turn_pieces : Rules → Turn → List Segment
turn_pieces rules (Turn.part kind t) = pieces rules kind t
turn_pieces rules (Turn.lost_group t) = removed rules (trimmed t)

unfoldable pub pieces_of : Rules → List Turn → List Segment
pieces_of rules [] = []
pieces_of rules (t ∷ ts) = turn_pieces rules t ++ pieces_of rules ts
