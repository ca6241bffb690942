-- The faults of a word, as code names them, by the numbers of Word.
use Rattle.std.specs.Prelude.{ℕ, Ok, Err, ⊤}
use Rattle.std.specs.declared.result.Result.{Result}
use Rattle.word_reader.specs.declared.WordFault.{WordFault}
use Rattle.word_reader.specs.declared.WordFault.TheVariants.{Malformed, Charset}

-- the number of a fault; 0 where there is none
abbrev pub number_of : Result ⊤ WordFault → ℕ
number_of (Ok none) = 0
number_of (Err Malformed) = 2
number_of (Err Charset) = 3
