-- The paper's grammar of addresses, as rules that make texts. GrammarLaws.antt proves that the scans take exactly these.
use Rattle.std.specs.Prelude.{◌≡◌, List, [], ◌∷◌, ◌++◌, ℕ, T}
use Rattle.lists.specs.Lists.{all, nonempty}
use Rattle.lists.specs.Byte.{within}
use Rattle.address.specs.Address.{is_atom_byte, is_quoted_byte, is_literal_byte}

-- "Atoms are RFC 5322 atext or non-ASCII characters", one or more.
pub record Atom (a : List ℕ) : Type 0 where
  pub some : T (nonempty a)
  pub bytes : T (all is_atom_byte a)

-- Dot-atom: atoms, with a dot (46) between two.
pub data DotAtom : List ℕ → Type 0 where
  one : {a : List ℕ} → Atom a → DotAtom a
  then : {a more : List ℕ} → Atom a → DotAtom more → DotAtom (a ++ (46 ∷ more))

-- "Quoted strings hold bytes 32 to 126 and non-ASCII characters, perhaps none, a backslash escaping one byte 32 to 126." A quote
-- (34) ends the string, and a backslash (92) escapes, so that neither stands for itself.
pub data Content : List ℕ → Type 0 where
  none : Content []
  plain : {b : ℕ} {more : List ℕ} → T (is_quoted_byte b) → (b ≡ 34 → ⊥) → (b ≡ 92 → ⊥) → Content more → Content (b ∷ more)
  escaped : {b : ℕ} {more : List ℕ} → T (within 32 126 b) → Content more → Content (92 ∷ b ∷ more)

pub data QuotedString : List ℕ → Type 0 where
  quoted : {text : List ℕ} → Content text → QuotedString (34 ∷ (text ++ (34 ∷ [])))

-- "The local part is a dot-atom or a quoted string"
pub data LocalPart : List ℕ → Type 0 where
  atoms : {text : List ℕ} → DotAtom text → LocalPart text
  string : {text : List ℕ} → QuotedString text → LocalPart text

-- "the domain a dot-atom or `[` bytes 33 to 90 or 94 to 126, perhaps none, `]`"
pub data Domain : List ℕ → Type 0 where
  atoms : {text : List ℕ} → DotAtom text → Domain text
  literal : (text : List ℕ) → T (all is_literal_byte text) → Domain (91 ∷ (text ++ (93 ∷ [])))

-- "An address is local part, `@`, domain."
pub data Address : List ℕ → Type 0 where
  address : {local domain : List ℕ} → LocalPart local → Domain domain → Address (local ++ (64 ∷ domain))
