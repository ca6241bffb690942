-- Addresses and their parts, each by a scan from the front of a text.
--
-- A scan goes as far as the bytes at the front are a beginning of what it looks for. `Ok n`: these n bytes are one, and no more
-- bytes go on with it. `Err n`: they are none, and the byte at n, or the end of the text, is where none can go on.
-- GrammarLaws.antt proves that scans take what the paper's grammar makes, BeginningLaws.antt that they go exactly so far.
-- Scans take bytes: a run of bytes that are not ASCII is a run of non-ASCII characters in a text that is UTF-8, which is
-- tested apart.
use Rattle.std.specs.Prelude.{Bool, true, false, not, cond, ◌&&◌, ◌||◌, List, [], ◌∷◌, ℕ, ◌+◌, eqb, leb, length, drop, get_or, Result, Ok, Err}
use Rattle.lists.specs.Lists.{all}
use Rattle.lists.specs.Byte.{within, is_ascii}
use Rattle.lists.specs.Run.{run}
use Rattle.utf8.specs.Utf8.{utf8}

-- a scan from k bytes on, counted from the front
unfoldable pub later : ℕ → Result ℕ ℕ → Result ℕ ℕ
later k (Ok n) = Ok (k + n)
later k (Err n) = Err (k + n)

-- a byte, and then what follows it
unfoldable pub byte_then : ℕ → (List ℕ → Result ℕ ℕ) → List ℕ → Result ℕ ℕ
byte_then b next s = cond (eqb (get_or s 0 0) b) (later 1 (next (drop 1 s))) (Err 0)

-- a scan, and what follows where it ends
unfoldable pub scan_then : Result ℕ ℕ → (List ℕ → Result ℕ ℕ) → List ℕ → Result ℕ ℕ
scan_then (Ok n) next s = later n (next (drop n s))
scan_then (Err n) next s = Err n

-- ---- classes of bytes

-- a byte of a non-ASCII character
abbrev pub is_high : ℕ → Bool
is_high b = leb 128 b

-- RFC 5322 atext: letters, digits, and ! # $ % & ' * + - / = ? ^ _ ` { | } ~
unfoldable pub is_atext : ℕ → Bool
is_atext b =
    within 65 90 b || within 94 126 b || within 47 57 b || eqb b 45 || eqb b 33 || within 35 39 b || eqb b 42 || eqb b 43 || eqb b 61 || eqb b 63

-- "Atoms are RFC 5322 atext or non-ASCII characters."
unfoldable pub is_atom_byte : ℕ → Bool
is_atom_byte b = is_atext b || is_high b

-- "Quoted strings hold bytes 32 to 126 and non-ASCII characters"
unfoldable pub is_quoted_byte : ℕ → Bool
is_quoted_byte b = within 32 126 b || is_high b

-- "bytes 33 to 90 or 94 to 126" of a domain
unfoldable pub is_literal_byte : ℕ → Bool
is_literal_byte b = within 33 90 b || within 94 126 b

-- ---- dot-atom: atoms joined by single dots (46)

-- the end of a dot-atom; where an atom is due there is none
abbrev pub dot_atom_end : Bool → Result ℕ ℕ
dot_atom_end true = Err 0
dot_atom_end false = Ok 0

-- from a place on at which an atom is due, or may go on
unfoldable pub dot_atom_from : Bool → List ℕ → Result ℕ ℕ
dot_atom_from due [] = dot_atom_end due
dot_atom_from due (b ∷ s) =
    let dot = eqb b 46 && not due in
    cond (is_atom_byte b || dot) (later 1 (dot_atom_from dot s)) (dot_atom_end due)

unfoldable pub dot_atom_scan : List ℕ → Result ℕ ℕ
dot_atom_scan s = dot_atom_from true s

-- ---- quoted string

-- After the opening quote (34): "bytes 32 to 126 and non-ASCII characters, perhaps none, a backslash escaping one byte 32 to
-- 126", up to the closing quote. After a backslash (92) a byte is escaped.
unfoldable pub quoted_from : Bool → List ℕ → Result ℕ ℕ
quoted_from escaped [] = Err 0
quoted_from true (b ∷ s) = cond (within 32 126 b) (later 1 (quoted_from false s)) (Err 0)
quoted_from false (b ∷ s) = cond (eqb b 34) (Ok 1) (cond (is_quoted_byte b) (later 1 (quoted_from (eqb b 92) s)) (Err 0))

unfoldable pub quoted_scan : List ℕ → Result ℕ ℕ
quoted_scan s = byte_then 34 (quoted_from false) s

-- ---- domain

-- "`[` bytes 33 to 90 or 94 to 126, perhaps none, `]`": after the `[` (91), up to the `]` (93)
unfoldable pub literal_from : List ℕ → Result ℕ ℕ
literal_from s = let n = run is_literal_byte s in cond (eqb (get_or s n 0) 93) (Ok (n + 1)) (Err n)

unfoldable pub literal_scan : List ℕ → Result ℕ ℕ
literal_scan s = byte_then 91 literal_from s

-- "the domain a dot-atom or `[` .. `]`"
unfoldable pub domain_scan : List ℕ → Result ℕ ℕ
domain_scan s = cond (eqb (get_or s 0 0) 91) (literal_scan s) (dot_atom_scan s)

-- ---- address

-- "The local part is a dot-atom or a quoted string"
unfoldable pub local_scan : List ℕ → Result ℕ ℕ
local_scan s = cond (eqb (get_or s 0 0) 34) (quoted_scan s) (dot_atom_scan s)

-- "An address is local part, `@`, domain." `@` is 64.
unfoldable pub address_scan : List ℕ → Result ℕ ℕ
address_scan s = scan_then (local_scan s) (byte_then 64 domain_scan) s

-- a scan that takes the whole text
abbrev pub takes_all : Result ℕ ℕ → List ℕ → Bool
takes_all (Ok n) s = eqb n (length s)
takes_all (Err n) s = false

-- the whole text is an address
unfoldable pub is_address : List ℕ → Bool
is_address s = utf8 s && takes_all (address_scan s) s

unfoldable pub is_ascii_address : List ℕ → Bool
is_ascii_address s = is_address s && all is_ascii s
