use Rattle.encoded_word.specs.WritingLaws.{row_written}
use Rattle.row.proofs.RowLaws.{row_after_long, bounded_short}
use Rattle.buffer.specs.BufferLaws.{wrote_empty, wrote_nothing}
use Rattle.encoded_word.proofs.write_after.Goals as goal

pub returns-then-out-eq0 : goal.returns-then-out-eq0
returns-then-out-eq0 c = wrote_empty c.if-out-eq0.true c.len_after.ensures

pub returns-then-text-gt-LIMIT : goal.returns-then-text-gt-LIMIT
returns-then-text-gt-LIMIT c = rw (row_after_long _ _ c.if-text-gt-LIMIT.true) (wrote_nothing _)

pub returns : goal.returns
returns c = rw (bounded_short _ c.if-text-gt-LIMIT.false) (row_written c.if-text-gt-LIMIT.false c.add_first-begun.ensures c.put_lines-r.ensures c.add_lines.ensures)
