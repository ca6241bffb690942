-- FOR clauses and the token at the front of a Received field's value, by example.
use Rattle.std.specs.Prelude.{◌≡◌, refl, true, false, List, [], ◌∷◌, ℕ}
use Prim.Native.String.{String}
use Rattle.lists.specs.Run.{run}
use Rattle.letter_case.specs.LetterCase.{bytes, lower, same_any_case}
use Rattle.address.specs.Address.{later, byte_then, scan_then, is_atext, is_atom_byte, is_quoted_byte, is_literal_byte, dot_atom_from, dot_atom_scan, quoted_from, quoted_scan, literal_from, literal_scan, domain_scan, local_scan, address_scan}
use Rattle.comment.specs.Comment.{past, depth_after, closing, comment_len, run_to}
use Rattle.structured_token.specs.Tokens.{string_len, opened_kind, kind_of, size_of}
use Rattle.received_token.specs.Clause.{white_len, is_for, closed_len, angled_len, clause_len}
use Rattle.received_token.specs.Tokens.{starts_for, received_kind, received_size}
use Rattle.received_token.specs.declared.ReceivedKind.{ReceivedKind}
use Rattle.received_token.specs.declared.ReceivedKind.TheVariants.{Comment, Clause, BareFor, Open, Other}

-- the length of the clause at the front; the kind and length of what stands at the front, at the start of the value or later
pub data Case : Type 0 where
  clause : String → ℕ → Case
  start : String → ReceivedKind → ℕ → Case
  after : String → ReceivedKind → ℕ → Case

abbrev pub Right : Case → Type 0
Right (clause text n) = clause_len (bytes text) ≡ n
Right (start text kind n) = (received_kind true true (bytes text) ≡ kind) × (received_size true true (bytes text) ≡ n)
Right (after text kind n) = (received_kind false true (bytes text) ≡ kind) × (received_size false true (bytes text) ≡ n)

abbrev pub AllRight : List Case → Type 0
AllRight [] = Unit {0}
AllRight (c ∷ cs) = Right c × AllRight cs

abbrev pub cases : List Case
cases =
    clause " for <a@b>; x" 10
    -- any case, blanks and folds before and after, `<` straight after
    ∷ clause "\t \r\n FoR\r\n\t<a@b>" 16
    ∷ clause "for<a@b>" 8
    -- an address of document 01: a quoted string, a literal in which no comment starts
    ∷ clause "for <\"> \"@[(]> (c)" 14
    -- no for: a longer word, the end of the field
    ∷ after " fore <a@b>" Other 1
    ∷ after " for;" Other 1
    ∷ after " for" Other 1
    -- a for without an address
    ∷ after " for " BareFor 5
    ∷ after " for a@b" BareFor 5
    ∷ after " for <>" BareFor 5
    ∷ after " for <Postmaster>" BareFor 5
    ∷ after " for (c) <a@b>" BareFor 5
    ∷ after " for < a@b>" BareFor 5
    ∷ after " for <a@b " BareFor 5
    ∷ start "for <a@b <c@d>>" BareFor 4
    -- after the colon, and after white space only
    ∷ start "for <a@b> x" Clause 9
    ∷ after "for <a@b> x" Other 3
    ∷ after "  for <a@b> b" Clause 11
    -- outside comments and quoted strings
    ∷ start "( for <a@b>)x" Comment 12
    ∷ start "\"( for <a@b>)\"x" Other 14
    ∷ start "(()(\"(\" for <a@b>" Open 1
    ∷ []

pub cases_right : AllRight cases
unfolding run bytes lower same_any_case later byte_then scan_then is_atext is_atom_byte is_quoted_byte is_literal_byte dot_atom_from dot_atom_scan quoted_from quoted_scan literal_from literal_scan domain_scan local_scan address_scan past depth_after closing comment_len run_to string_len opened_kind kind_of size_of white_len is_for closed_len angled_len clause_len starts_for received_kind received_size
cases_right = (refl, (refl, (refl, (refl, ((refl, refl), ((refl, refl), ((refl, refl), ((refl, refl), ((refl, refl), ((refl, refl), ((refl, refl), ((refl, refl), ((refl, refl), ((refl, refl), ((refl, refl), ((refl, refl), ((refl, refl), ((refl, refl), ((refl, refl), ((refl, refl), ((refl, refl), tt)))))))))))))))))))))
