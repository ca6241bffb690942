-- The faults of a field, as code names them, by the numbers of Shown.
use Rattle.std.specs.Prelude.{◌≡◌, ℕ, Some, None, Ok, Err}
use Rattle.std.specs.declared.option.Option.{Option}
use Rattle.std.specs.declared.result.Result.{Result}
use Rattle.word_reader.specs.declared.WordFault.{WordFault}
use Rattle.word_reader.specs.declared.WordFault.TheVariants.{Malformed as MalformedWord, Charset as CharsetOfWord}
use Rattle.downgraded_field.specs.declared.FieldFault.{FieldFault}
use Rattle.downgraded_field.specs.declared.FieldFault.TheVariants.{Malformed, Word, Charset, NotUtf8}

abbrev pub number_of : FieldFault → ℕ
number_of Malformed = 1
number_of Word = 2
number_of Charset = 3
number_of NotUtf8 = 4

-- the number of the lowest fault so far; 5 where there is none
abbrev pub number_so_far : Option FieldFault → ℕ
number_so_far None = 5
number_so_far (Some fault) = number_of fault

abbrev pub of_word : WordFault → FieldFault
of_word MalformedWord = Word
of_word CharsetOfWord = Charset

-- a length where the number is 5, or else the fault of that number
abbrev pub ReadAs : ℕ → ℕ → Result ℕ FieldFault → Type 0
ReadAs n size (Ok m) = (n ≡ 5) × (m ≡ size)
ReadAs n size (Err fault) = number_of fault ≡ n
