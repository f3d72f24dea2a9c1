use Rattle.std.proofs.Common.{◌∙◌, refl}
use Rattle.ic_arena.specs.Word.{name_word}
use Rattle.ic_readback.proofs.Readers.{no_read, read_next}
use Rattle.ic_readback.proofs.reader.Reader.expand_each.Goals as goal

pub loop-word-init : goal.loop-word-init
loop-word-init c = record { read = no_read c.args.self.now c.requires.empty; equations = refl }

pub loop-word-preserved : goal.loop-word-preserved
loop-word-preserved c = record {
  read = read_next c.args.words.now c.loop-word.word-index (name_word 0) c.args.self.now c.loop-word.self c.expand.new.self
      c.loop-word-test.true c.loop-word.invariant.read c.in_ok-expand.ensures.read;
  equations = c.in_ok-expand.ensures.equations ∙ c.loop-word.invariant.equations;
}
