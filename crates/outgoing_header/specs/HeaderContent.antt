-- A verdict on what stands in a header, with its most: code finds both by one walk.
use Rattle.std.specs.Prelude.{Ok, Err}
use Rattle.outgoing_header.specs.HeaderOutcome.{HeaderVerdict}
use Rattle.std.specs.Prelude.{ℕ, Result}
use Rattle.outgoing_header.specs.declared.HeaderRefusal.{HeaderRefusal}

-- the most bytes that are written for a header, or its refusal
abbrev pub HeaderContent : Type 0
HeaderContent = Result ℕ HeaderRefusal

unfoldable pub with_most : HeaderVerdict → ℕ → HeaderContent
with_most (Ok tt) most = Ok most
with_most (Err refusal) most = Err refusal
