-- What the bytes of each part of an address field's text are, in the paper's words, as rules that make texts. FittingLaws.antt
-- proves that a text fits exactly if it is made so.
use Rattle.std.specs.Prelude.{◌≡◌, not, List, [], ◌∷◌, ◌++◌, ℕ, ◌+◌, T, length}
use Rattle.lists.specs.Lists.{all}
use Rattle.lists.specs.Byte.{is_ascii}
use Rattle.line.specs.Line.{blank}
use Rattle.comment.specs.Grammar.{Comment as CommentForm}
use Rattle.comment.specs.Parts.{parts, fits}
use Rattle.rules.specs.Rules.{allows_alternative}
use Rattle.rules.specs.declared.Rules.{Rules}
use Rattle.address_list.specs.Parts.{Part}
use Rattle.address_list.specs.Grammar.{Items, kinds_of}
use Rattle.address_list.specs.declared.PartKind.{PartKind}
use Rattle.address_grammar.specs.PartTexts.{WordText, AddressText, Blanks, SomeBlanks}
use Rattle.address_list.specs.declared.PartKind.TheVariants.{Blank, Comment, Comma, Colon, Semicolon, Phrase, Address, Angled, Alternative, Stray}

-- "A phrase is words parted by one or more spaces or TABs"
pub data PhraseText : List ℕ → Type 0 where
  one : {w : List ℕ} → WordText w → PhraseText w
  then : {w gap more : List ℕ} → WordText w → SomeBlanks gap → PhraseText more → PhraseText (w ++ (gap ++ more))

-- "`<address>`": `<` is 60, `>` is 62. "runs of spaces and TABs allowed around .. `<`". The kind tells where the address is.
pub record AngledText (start size : ℕ) (text : List ℕ) : Type 0 where
  pub gap : List ℕ
  pub address : List ℕ
  pub made : text ≡ 60 ∷ (gap ++ (address ++ (62 ∷ [])))
  pub blanks : Blanks gap
  pub is : AddressText address
  pub start_is : start ≡ 1 + length gap
  pub size_is : size ≡ length address

-- "with an alternative `<address <ASCII address>>`, the first non-ASCII, at least one space or TAB between", where the rules allow it.
-- The kind tells where the alternative is.
pub record AlternativeText (rules : Rules) (start size : ℕ) (text : List ℕ) : Type 0 where
  pub allowed : T (allows_alternative rules)
  pub gap : List ℕ
  pub first : List ℕ
  pub between : List ℕ
  pub gap₂ : List ℕ
  pub alternative : List ℕ
  pub made : text ≡ 60 ∷ (gap ++ (first ++ (between ++ (60 ∷ (gap₂ ++ (alternative ++ (62 ∷ 62 ∷ [])))))))
  pub blanks : Blanks gap
  pub first_is : AddressText first
  pub first_high : T (not (all is_ascii first))
  pub apart : SomeBlanks between
  pub blanks₂ : Blanks gap₂
  pub alternative_is : AddressText alternative
  pub alternative_ascii : T (all is_ascii alternative)
  pub start_is : start ≡ 1 + length gap + length first + length between + 1 + length gap₂
  pub size_is : size ≡ length alternative

-- a comment, in which every run "over 900 bytes" is one "of spaces and TABs only"
pub record CommentText (text : List ℕ) : Type 0 where
  pub form : CommentForm text
  pub runs : T (all fits (parts text))

-- a text of one byte that passes a test
pub record OneByte (f : ℕ → Type 0) (text : List ℕ) : Type 0 where
  pub byte : ℕ
  pub made : text ≡ byte ∷ []
  pub is : f byte

-- what the bytes of a part of each kind are: `,` is 44, `:` is 58, `;` is 59; of a stray byte nothing is said
abbrev pub IsPart : Rules → PartKind → List ℕ → Type 0
IsPart rules Blank text = OneByte (λ b. T (blank b)) text
IsPart rules Comment text = CommentText text
IsPart rules Comma text = text ≡ 44 ∷ []
IsPart rules Colon text = text ≡ 58 ∷ []
IsPart rules Semicolon text = text ≡ 59 ∷ []
IsPart rules Phrase text = PhraseText text
IsPart rules Address text = AddressText text
IsPart rules (Angled start size) text = AngledText start size text
IsPart rules (Alternative start size) text = AlternativeText rules start size text
IsPart rules Stray text = OneByte (λ b. Unit {0}) text

abbrev pub EachIsPart : Rules → List Part → Type 0
EachIsPart rules [] = Unit {0}
EachIsPart rules (p ∷ ps) = IsPart rules p.kind p.text × EachIsPart rules ps

-- the texts of the parts, one after another
abbrev pub joined_parts : List Part → List ℕ
joined_parts [] = []
joined_parts (p ∷ ps) = p.text ++ joined_parts ps

-- "The text must be a comma list of mailboxes or groups": parts whose kinds are such a list, each what its kind says
pub record AddressList (rules : Rules) (text : List ℕ) : Type 0 where
  pub parts : List Part
  pub kinds : Items (kinds_of parts)
  pub each : EachIsPart rules parts
  pub joined : joined_parts parts ≡ text
