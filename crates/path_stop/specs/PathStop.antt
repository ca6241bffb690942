-- The path of an envelope line and its `>` by one byte at a time. PathStopLaws.antt proves that it takes just the paths, and that as few
-- bytes complete one as are told.
use Rattle.std.specs.Prelude.{Bool, true, false, cond, ℕ, suc, eqb}
use Rattle.lists.specs.Byte.{within}
use Rattle.letter_case.specs.LetterCase.{bytes}
use Rattle.address.specs.Address.{is_atom_byte, is_quoted_byte, is_literal_byte}
use Rattle.line_stop.specs.Scanner.{Scanner}
use Rattle.line_stop.specs.Word.{is_next}
use Rattle.path_stop.specs.declared.PathForm.{PathForm}
use Rattle.path_stop.specs.declared.PathForm.TheVariants.{Start, Word, Atoms, Quoted, End, Domain, Literal, Closed, Off}

-- after a local part: `@` (64); after a domain: `>` (62)
unfoldable pub end_step : Bool → ℕ → PathForm
end_step false b = cond (eqb b 64) Domain Off
end_step true b = cond (eqb b 62) Closed Off

-- atoms joined by single dots (46)
unfoldable pub atoms_step : Bool → Bool → ℕ → PathForm
atoms_step domain due b = cond (is_atom_byte b) (Atoms domain false) (cond due Off (cond (eqb b 46) (Atoms domain true) (end_step domain b)))

-- up to the closing quote (34); a backslash (92) escapes one byte 32 to 126
unfoldable pub quoted_step : Bool → ℕ → PathForm
quoted_step true b = cond (within 32 126 b) (Quoted false) Off
quoted_step false b = cond (eqb b 34) (End false) (cond (is_quoted_byte b) (Quoted (eqb b 92)) Off)

-- up to the `]` (93)
unfoldable pub literal_step : ℕ → PathForm
literal_step b = cond (is_literal_byte b) Literal (cond (eqb b 93) (End true) Off)

-- "the domain a dot-atom or `[` (91) .. `]`"
unfoldable pub domain_step : ℕ → PathForm
domain_step b = cond (eqb b 91) Literal (atoms_step true true b)

-- "The local part is a dot-atom or a quoted string"
unfoldable pub local_step : ℕ → PathForm
local_step b = cond (eqb b 34) (Quoted false) (atoms_step false true b)

-- `Postmaster>`, or an atom that begins so
unfoldable pub word_step : ℕ → ℕ → PathForm
word_step n b = cond (is_next (bytes "Postmaster>") n b) (cond (eqb n 10) Closed (Word (suc n))) (atoms_step false false b)

-- "A path is an address; MAIL may have an empty one, and RCPT may have the bare word Postmaster in any case."
unfoldable pub start_step : Bool → ℕ → PathForm
start_step true b = cond (eqb b 62) Closed (local_step b)
start_step false b = cond (is_next (bytes "Postmaster>") 0 b) (Word 1) (local_step b)

abbrev pub path_step : PathForm → ℕ → PathForm
path_step (Start mail) b = start_step mail b
path_step (Word n) b = word_step n b
path_step (Atoms domain due) b = atoms_step domain due b
path_step (Quoted escaped) b = quoted_step escaped b
path_step (End domain) b = end_step domain b
path_step Domain b = domain_step b
path_step Literal b = literal_step b
path_step Closed b = Off
path_step Off b = Off

abbrev pub is_closed : PathForm → Bool
is_closed (Start mail) = false
is_closed (Word n) = false
is_closed (Atoms domain due) = false
is_closed (Quoted escaped) = false
is_closed (End domain) = false
is_closed Domain = false
is_closed Literal = false
is_closed Closed = true
is_closed Off = false

abbrev pub path_live : PathForm → Bool
path_live (Start mail) = true
path_live (Word n) = true
path_live (Atoms domain due) = true
path_live (Quoted escaped) = true
path_live (End domain) = true
path_live Domain = true
path_live Literal = true
path_live Closed = true
path_live Off = false

-- `r>`, `>`, `@x>`
unfoldable pub word_need : ℕ → ℕ
word_need n = cond (eqb n 9) 2 (cond (eqb n 10) 1 3)

-- `x>` or `x@x>` where an atom is due, else `>` or `@x>`
unfoldable pub atoms_need : Bool → Bool → ℕ
atoms_need domain due = cond due (cond domain 2 4) (cond domain 1 3)

-- the fewest bytes that complete a path and its `>`
abbrev pub path_need : PathForm → ℕ
path_need (Start mail) = cond mail 1 4
path_need (Word n) = word_need n
path_need (Atoms domain due) = atoms_need domain due
path_need (Quoted escaped) = cond escaped 5 4
path_need (End domain) = atoms_need domain false
path_need Domain = 2
path_need Literal = 2
path_need Closed = 0
path_need Off = 0

abbrev pub path : Scanner PathForm
path = record { step = path_step; done = is_closed; live = path_live; need = path_need }
