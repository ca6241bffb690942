-- UTF-8 beside any automaton over the bytes of a line. ProductLaws.antt proves it exact where that automaton is.
use Rattle.std.specs.Prelude.{◌&&◌, ◌+◌}
use Rattle.line_stop.specs.declared.Begun.{Begun}
use Rattle.line_stop.specs.Scanner.{Scanner}
use Rattle.line_stop.specs.CharScan.{char_step, is_zero, char_live}

module _ {F : Type 0} (a : Scanner F) where
  abbrev pub both : Scanner (Begun × F)
  both = record {
    step = λ s b. (char_step s.0 b, a.step s.1 b);
    done = λ s. is_zero s.0.lack && a.done s.1;
    live = λ s. char_live s.0 && a.live s.1;
    need = λ s. s.0.lack + a.need s.1;
  }
