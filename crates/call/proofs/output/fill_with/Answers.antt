use Rattle.call.proofs.OutputLaws.{envelope_needs, header_needs_lem, downgraded, starts_written, ready_starts, ready_short, ready_passed}
use mathlib.Core.Path.{refl}
use borrow.Author.Rules.{rules}
use Rattle.call.proofs.output.fill_with.Goals as goal

pub envelope_len-n-requires : goal.envelope_len-n-requires
envelope_len-n-requires c = ready_starts c.requires.0

pub returns-then-envelope_buffer-n : goal.returns-then-envelope_buffer-n
returns-then-envelope_buffer-n c = envelope_needs c.requires.0 c.requires.1 _ _ c.envelope_len-n.ensures c.if-envelope_buffer-n.true c.refused.ensures

pub header_needs-m-requires : goal.header_needs-m-requires
header_needs-m-requires c = (ready_short c.requires.0 c.requires.2, ready_passed c.requires.0 c.requires.1, c.requires.1.greatest)

pub returns-then-header_buffer-m : goal.returns-then-header_buffer-m
returns-then-header_buffer-m c = header_needs_lem c.requires.0 c.requires.1 _ _ c.requires.2 c.envelope_len-n.ensures c.if-envelope_buffer-n.false c.header_needs-m.ensures c.if-header_buffer-m.true c.refused-then-header_buffer-m.ensures

pub put_header-requires : goal.put_header-requires
put_header-requires c = (ready_short c.requires.0 c.requires.2, ready_passed c.requires.0 c.requires.1)

pub returns : goal.returns
returns c = downgraded c.requires.0 c.requires.1 _ _ c.requires.2 c.envelope_len-n.ensures c.if-envelope_buffer-n.false c.header_needs-m.ensures c.if-header_buffer-m.false refl refl refl refl (starts_written (ready_starts c.requires.0) c.put.ensures) c.put_header.ensures
