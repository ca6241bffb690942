use mathlib.Core.Path.{sym, ◌∙◌}
use native.Mathlib.Omega.{arith}
use Rattle.lists.specs.ListsLaws.{true_yes, yes_true}
use Rattle.utf8.specs.Utf8.{utf8}
use Rattle.utf8.specs.Utf8Laws.{utf8_ascii}
use Rattle.utf8.specs.WindowLaws.{utf8_no_start, utf8_no_end, utf8_all}
use Rattle.utf8.proofs.is_utf8.Goals as goal

pub returns-then-is_ascii : goal.returns-then-is_ascii
returns-then-is_ascii c = let s = c.args.s.now in sym (yes_true (utf8 s) (utf8_ascii s (true_yes _ (sym c.is_ascii.ensures ∙ c.if-is_ascii.true))))

pub returns-then-not-starts_well : goal.returns-then-not-starts_well
returns-then-not-starts_well c = utf8_no_start c.args.s.now (omega arith) _ c.starts_well.ensures c.if-not-starts_well.true

pub returns-then-not-is_whole : goal.returns-then-not-is_whole
returns-then-not-is_whole c = utf8_no_end c.args.s.now (omega arith) _ c.is_whole.ensures c.if-not-is_whole.true

pub returns : goal.returns
returns c = utf8_all c.args.s.now (omega arith) _ _ _ c.starts_well.ensures c.if-not-starts_well.false c.is_whole.ensures c.if-not-is_whole.false c.blocks_placed.ensures
