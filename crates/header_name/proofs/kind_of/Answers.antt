use Rattle.std.proofs.Common.{sym, ◌∙◌}
use Rattle.header_name.specs.NameTable.{entries_of, entries}
use Rattle.header_name.specs.Names.{groups}
use Rattle.header_name.specs.NameTableLaws.{kind_table}
use Rattle.letter_case.specs.LetterCase.{bytes}
use Rattle.header_name.proofs.kind_of.Goals as goal

pub returns : goal.returns
unfolding entries_of entries groups bytes
returns c = c.kind_in.ensures ∙ sym (kind_table c.args.name.now)
