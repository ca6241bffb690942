-- A batch by the number of a record, from 0 on.
use Rattle.std.specs.Prelude.{List, ℕ, zero, suc, ◌+◌, ◌*◌, drop, get_or}
use Rattle.batch.specs.Batch.{range, Batch}

-- the numbers from record k on
abbrev pub from_record : ℕ → List ℕ → List ℕ
from_record k records = drop (9 * k) records

-- the envelope and the header that the record at the front of these numbers names
abbrev pub envelope_of : List ℕ → List ℕ → List ℕ
envelope_of input numbers = range input (get_or numbers 0 0) (get_or numbers 1 0)

abbrev pub header_of : List ℕ → List ℕ → List ℕ
header_of input numbers = range input (get_or numbers 2 0) (get_or numbers 3 0)

-- the number at j of a record, summed over the first k records
unfoldable pub total : ℕ → ℕ → List ℕ → ℕ
total j zero records = 0
total j (suc k) records = get_or records j 0 + total j k (drop 9 records)

-- how much of the envelope buffer, and of the header buffer, the outputs of the first k records take: their lengths, as answered
abbrev pub used₁ : ℕ → Batch → ℕ
used₁ k after = total 7 k after.records

abbrev pub used₂ : ℕ → Batch → ℕ
used₂ k after = total 8 k after.records
