-- Address fields that fit, and near ones that do not: one table under one theorem.
use Rattle.std.specs.Prelude.{◌≡◌, refl, List, [], ◌∷◌, ◌++◌, ℕ, replicate}
use Rattle.lists.specs.CutBy.{cut_after, cut_by}
use Rattle.lists.specs.Run.{run}
use Rattle.letter_case.specs.LetterCase.{bytes}
use Rattle.line.specs.Line.{blank}
use Rattle.address.specs.Address.{later, byte_then, scan_then, is_atext, is_atom_byte, is_quoted_byte, is_literal_byte, dot_atom_from, dot_atom_scan, quoted_from, quoted_scan, literal_from, literal_scan, domain_scan, local_scan, address_scan}
use Rattle.comment.specs.Comment.{past, depth_after, closing, comment_len, run_to, run_len}
use Rattle.comment.specs.Parts.{part_len, parts, is_blank_run, fits}
use Rattle.rules.specs.declared.Rules.{Rules}
use Rattle.rules.specs.declared.Rules.TheVariants.{Spool, Current, Mailbox}
use Rattle.phrase.specs.Words.{capped, is_word_byte, address_len, word_len, next_word_len, next_words_len, phrase_len}
use Rattle.address_list.specs.Parts.{alternative_at, angled_at, comment_at, named_at, part_at, parts_from, parts_of, changes, any_changes}
use Rattle.address_list.specs.Table.{after, complete, examined_from, examined}
use Rattle.address_list.specs.declared.Examined.{Examined}
use Rattle.address_list.specs.declared.Examined.TheVariants.{DoesNotFit, Kept, Changed}

-- `é`
abbrev é : List ℕ
é = 195 ∷ 169 ∷ []

abbrev TAB : List ℕ
TAB = 9 ∷ []

-- a text, and what is told of it in a message from the spool, or by other rules
pub data Case : Type 0 where
  told : List ℕ → Examined → Case
  told_by : Rules → List ℕ → Examined → Case

-- what a case says
abbrev pub Right : Case → Type 0
Right (told text answer) = examined Spool text ≡ answer
Right (told_by rules text answer) = examined rules text ≡ answer

abbrev pub AllRight : List Case → Type 0
AllRight [] = Unit {0}
AllRight (c ∷ cs) = Right c × AllRight cs

abbrev pub cases : List Case
cases =
    Case.told (bytes "a@b") Kept
    ∷ Case.told (é ++ bytes "@b") Changed
    ∷ Case.told (bytes "a") DoesNotFit
    ∷ Case.told [] DoesNotFit
    ∷ Case.told (bytes "a@b.") DoesNotFit
    ∷ Case.told (bytes "a..b@c") DoesNotFit
    ∷ Case.told (bytes "a@b c@d") DoesNotFit
    ∷ Case.told (bytes "a@b ") Kept
    -- a phrase and an address in `< >`
    ∷ Case.told (bytes "A <a@b>") Kept
    ∷ Case.told (bytes "A<a@b>") Kept
    ∷ Case.told (bytes "<a@b>") Kept
    ∷ Case.told (é ++ bytes " <a@b>") Kept
    ∷ Case.told (bytes "A <" ++ (é ++ bytes "@b>")) Changed
    ∷ Case.told (bytes "A a@b") DoesNotFit
    ∷ Case.told (bytes "A <a@b> B") DoesNotFit
    ∷ Case.told (bytes "<a@b") DoesNotFit
    ∷ Case.told (bytes "<>") DoesNotFit
    ∷ Case.told (bytes "A" ++ (TAB ++ (bytes " < " ++ (TAB ++ bytes "a@b> ")))) Kept
    ∷ Case.told (bytes "<a@b >") DoesNotFit
    -- an alternative
    ∷ Case.told (bytes "<" ++ (é ++ bytes "@b <a@b>>")) Changed
    ∷ Case.told (bytes "A <" ++ (é ++ (bytes "@b " ++ (TAB ++ bytes "< a@b>>")))) Changed
    ∷ Case.told (bytes "<" ++ (é ++ bytes "@b<a@b>>")) DoesNotFit
    ∷ Case.told (bytes "<a@b <c@d>>") DoesNotFit
    ∷ Case.told (bytes "<" ++ (é ++ (bytes "@b <" ++ (é ++ bytes "@d>>")))) DoesNotFit
    ∷ Case.told (bytes "<" ++ (é ++ bytes "@b <a@b> >")) DoesNotFit
    ∷ Case.told (bytes "<" ++ (é ++ bytes "@b <a@b >>")) DoesNotFit
    ∷ Case.told (bytes "<" ++ (é ++ bytes "@b <a@b>")) DoesNotFit
    ∷ Case.told_by Current (bytes "<" ++ (é ++ bytes "@b <a@b>>")) DoesNotFit
    ∷ Case.told_by Mailbox (bytes "<" ++ (é ++ bytes "@b <a@b>>")) DoesNotFit
    ∷ Case.told_by Current (bytes "A <" ++ (é ++ bytes "@b>")) Changed
    -- groups
    ∷ Case.told (bytes "G:;") Kept
    ∷ Case.told (bytes "G: ;") Kept
    ∷ Case.told (bytes "G:a@b;") Kept
    ∷ Case.told (bytes "G: A <a@b> , " ++ (é ++ bytes "@b ;")) Changed
    ∷ Case.told (bytes "a@b, G:;, <c@d>") Kept
    ∷ Case.told (bytes "G:;H:;") DoesNotFit
    ∷ Case.told (bytes "G:H:;;") DoesNotFit
    ∷ Case.told (bytes "G:a@b,;") DoesNotFit
    ∷ Case.told (bytes "G:a@b") DoesNotFit
    ∷ Case.told (bytes ":;") DoesNotFit
    ∷ Case.told (bytes "a@b;") DoesNotFit
    -- commas
    ∷ Case.told (bytes "a@b,c@d") Kept
    ∷ Case.told (bytes "a@b,") DoesNotFit
    ∷ Case.told (bytes "a@b, ,c@d") DoesNotFit
    ∷ Case.told (bytes ",a@b") DoesNotFit
    -- quoted strings
    ∷ Case.told (bytes "\"a,b<c@d\" <e@f>") Kept
    ∷ Case.told (bytes "\"a@b\"@c") Kept
    ∷ Case.told (bytes "\"a\" \"b\" c <d@e>") Kept
    ∷ Case.told (bytes "\"a\"\"b\" <c@d>") DoesNotFit
    ∷ Case.told (bytes "a\"b\" <c@d>") DoesNotFit
    ∷ Case.told (bytes "\"a <c@d>") DoesNotFit
    -- bytes of a domain literal
    ∷ Case.told (bytes "<a@[>,]>") Kept
    ∷ Case.told (bytes "<a@[>,>") DoesNotFit
    -- a word of dots
    ∷ Case.told (bytes "... <a@b>") Kept
    ∷ Case.told (bytes "a. .b <c@d>") Kept
    -- where a comment may stand
    ∷ Case.told (bytes "(a) <a@b>") Kept
    ∷ Case.told (bytes "A (" ++ (é ++ bytes ") <a@b>")) Kept
    ∷ Case.told (bytes "G (" ++ (é ++ bytes "): a@b;")) Kept
    ∷ Case.told (bytes "a@b (" ++ (é ++ bytes ")")) Kept
    ∷ Case.told (bytes "(" ++ (é ++ bytes ") a@b")) Kept
    ∷ Case.told (bytes "a@b(" ++ (é ++ bytes ")")) Kept
    ∷ Case.told (é ++ bytes "(c)<a@b>") Kept
    ∷ Case.told (bytes "(a)(b) c@d") Kept
    ∷ Case.told (bytes "G(c):(c)A(c)<a@b>(c),(c)c@d(c);(c),(c)e@f(c)") Kept
    ∷ Case.told (bytes "G:(" ++ (é ++ bytes ");")) Kept
    ∷ Case.told (bytes "(c) " ++ (é ++ bytes "@b")) Changed
    -- where none may stand
    ∷ Case.told (bytes "a (c) b <x@y>") DoesNotFit
    ∷ Case.told (bytes "a(c)b <x@y>") DoesNotFit
    ∷ Case.told (bytes "<(c)a@b>") DoesNotFit
    ∷ Case.told (bytes "<a@b(c)>") DoesNotFit
    ∷ Case.told (bytes "<" ++ (é ++ bytes "@b (c) <a@b>>")) DoesNotFit
    ∷ Case.told (bytes "<" ++ (é ++ bytes "@b <(c)a@b>>")) DoesNotFit
    ∷ Case.told (bytes "a(c)@b") DoesNotFit
    ∷ Case.told (bytes "a@(c)b") DoesNotFit
    ∷ Case.told (bytes "a@b.(c)d") DoesNotFit
    -- it is no element of the list
    ∷ Case.told (bytes "(" ++ (é ++ bytes ")")) DoesNotFit
    ∷ Case.told (bytes "(c)," ++ (é ++ bytes "@x")) DoesNotFit
    ∷ Case.told (bytes "G:(c),a@b;") DoesNotFit
    -- closed or not
    ∷ Case.told (bytes "(a (b) (c (d))) a@b") Kept
    ∷ Case.told (bytes "() a@b") Kept
    ∷ Case.told (bytes "a@b (a (b)") DoesNotFit
    ∷ Case.told (bytes "a@b (a))") DoesNotFit
    ∷ Case.told (bytes "(\") a@b") Kept
    ∷ Case.told (bytes "(\\)) a@b") Kept
    ∷ Case.told (bytes "(\\) a@b") DoesNotFit
    ∷ Case.told (bytes "(\\\\) a@b") Kept
    ∷ Case.told (bytes "\"(\" <a@b>") Kept
    -- runs of 900 and 901 bytes
    ∷ Case.told (bytes "(" ++ (replicate 900 97 ++ bytes ") a@b")) Kept
    ∷ Case.told (bytes "(" ++ (replicate 901 97 ++ bytes ") a@b")) DoesNotFit
    ∷ Case.told (bytes "(" ++ (replicate 901 32 ++ bytes ") a@b")) Kept
    -- words and addresses of 900 and 901 bytes
    ∷ Case.told (replicate 900 97 ++ bytes " <a@b>") Kept
    ∷ Case.told (replicate 901 97 ++ bytes " <a@b>") DoesNotFit
    ∷ Case.told (replicate 898 97 ++ bytes "@b") Kept
    ∷ Case.told (replicate 899 97 ++ bytes "@b") DoesNotFit
    ∷ []

pub cases_right : AllRight cases
unfolding bytes later byte_then scan_then is_atext is_atom_byte is_quoted_byte is_literal_byte dot_atom_from dot_atom_scan quoted_from quoted_scan literal_from literal_scan domain_scan local_scan address_scan run blank capped is_word_byte address_len word_len next_word_len next_words_len phrase_len cut_after cut_by past depth_after closing comment_len run_to run_len part_len parts is_blank_run fits alternative_at angled_at comment_at named_at part_at parts_from parts_of changes any_changes after complete examined_from examined
cases_right = (refl, (refl, (refl, (refl, (refl, (refl, (refl, (refl, (refl, (refl, (refl, (refl, (refl, (refl, (refl, (refl, (refl, (refl, (refl, (refl, (refl, (refl, (refl, (refl, (refl, (refl, (refl, (refl, (refl, (refl, (refl, (refl, (refl, (refl, (refl, (refl, (refl, (refl, (refl, (refl, (refl, (refl, (refl, (refl, (refl, (refl, (refl, (refl, (refl, (refl, (refl, (refl, (refl, (refl, (refl, (refl, (refl, (refl, (refl, (refl, (refl, (refl, (refl, (refl, (refl, (refl, (refl, (refl, (refl, (refl, (refl, (refl, (refl, (refl, (refl, (refl, (refl, (refl, (refl, (refl, (refl, (refl, (refl, (refl, (refl, (refl, (refl, (refl, (refl, (refl, (refl, (refl, (refl, (refl, tt))))))))))))))))))))))))))))))))))))))))))))))))))))))))))))))))))))))))))))))))))))))))))))))
